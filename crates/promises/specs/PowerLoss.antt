-- Power loss: a journal as it was written is left with its first bytes, and zeros behind them up to a new length. Tail opens it with exactly the
-- records that lasted and cuts the rest; what else it can answer, and when, is said whole.
-- Assumes nothing.
use Rattle.std.specs.Prelude.{ℕ, ◌+◌, ◌*◌, ◌-◌, ◌≤◌, ◌<◌, ◌≡◌, List, ◌++◌, ◌↔◌, length, take, Ok, Err, IsOk}
use Rattle.refusals.specs.Refusals.{refusal}
use Rattle.record.specs.declared.Record.{Record}
use Rattle.record.specs.Seen.{head_length}
use Rattle.index.specs.declared.Entry.{Entry}
use Rattle.index.specs.Entries.{length_of, entries_of, overlay}
use Rattle.journal.specs.declared.Rule.TheVariants.{Tail}
use Rattle.journal.specs.declared.Cut.{Cut}
use Rattle.journal.specs.Walk.{end_of}
use Rattle.journal.specs.Front.{front_of}
use Rattle.journal.specs.Scan.{opened, scan_of, index_after}
use Rattle.journal.specs.Demand3.{durable_end}
use Rattle.journal.specs.Written.{Written}
use Rattle.promises.specs.Shortening.{whole_in}
use Rattle.promises.specs.Lost.{LossAt, lost_to, last_place, lasting, lasting_end, loss_cut, HeadInPart, ChanceMatch}

-- ---- what is claimed

-- Tail opens these bytes with what the records kept say and nothing else, and so does the index. s is the journal as it was written
pub record LeftOpens (limit N : ℕ) (lent : List Entry) (s : List ℕ) (left : List ℕ) (kept : List Record) (cut : Cut) : Type 0 where
  pub answer : scan_of limit (Tail N) (length lent) left ≡ Ok (opened (front_of s) kept cut)
  pub index : index_after limit lent left ≡ overlay (entries_of kept) lent

-- Tail refuses these bytes with the number n at the place p, and the index has the entries of the records before it
pub record LeftRefused (limit N : ℕ) (lent : List Entry) (left : List ℕ) (kept : List Record) (n p : ℕ) : Type 0 where
  pub answer : scan_of limit (Tail N) (length lent) left ≡ Err (refusal n p)
  pub index : index_after limit lent left ≡ overlay (entries_of kept) lent

-- after a loss Tail opens with exactly the records that lasted
abbrev pub OpensLasting : (limit N : ℕ) (lent : List Entry) (s : List ℕ) (rs : List Record) (k m : ℕ) → Type 0
OpensLasting limit N lent s rs k m =
    LeftOpens limit N lent s (lost_to k m s) (lasting s rs k m) (loss_cut s (last_place k m s) (lasting_end s rs k m) m)

-- ---- what is asked

-- N decides here: a head lasted in part
abbrev pub Decides : (s : List ℕ) (rs : List Record) (k m : ℕ) → Type 0
Decides s rs k m = HeadInPart s (last_place k m s) (lasting_end s rs k m) m

-- N is enough: where it decides, no more bytes are left behind the records that lasted than N records can have. No number wraps
abbrev pub Enough : (limit N : ℕ) (s : List ℕ) (rs : List Record) (k m : ℕ) → Type 0
Enough limit N s rs k m = Decides s rs k m → m - lasting_end s rs k m ≤ N * (12 + limit)

-- a changed record matches its checksum by chance
abbrev pub Matched : (s : List ℕ) (rs : List Record) (k m : ℕ) → Type 0
Matched s rs k m = ChanceMatch s rs (last_place k m s) m

-- ---- power loss

abbrev pub PowerLoss : Type 0
PowerLoss =
    (limit N : ℕ) (lent : List Entry) (s : List ℕ) (rs : List Record) → Written limit (length lent) s rs
    → (k m : ℕ) → LossAt s k m → Enough limit N s rs k m → (Matched s rs k m → ⊥) → OpensLasting limit N lent s rs k m

-- what a host knows: at most the last N records weren't on stable storage. Then N is enough, wherever B is. Their start is 12,288 where there are
-- fewer than N, and the end of rs where N is 0
unfoldable pub last_start : (N : ℕ) → List Record → ℕ
last_start N rs = end_of (take (length rs - N) rs)

abbrev pub UnsyncedLoss : Type 0
UnsyncedLoss =
    (limit N : ℕ) (lent : List Entry) (s : List ℕ) (rs : List Record) → Written limit (length lent) s rs
    → (k m : ℕ) → LossAt s k m → last_start N rs ≤ k → (Matched s rs k m → ⊥) → OpensLasting limit N lent s rs k m

-- every record that ended at the place or before lasted; one more at most did, whose lost bytes were 0 anyway. N isn't asked
pub record LastsWhole (s : List ℕ) (rs : List Record) (k m : ℕ) : Type 0 where
  pub more : List Record
  pub in_front : lasting s rs k m ≡ whole_in k rs ++ more
  pub one_more : length more ≤ 1

abbrev pub WholeLast : Type 0
WholeLast =
    (limit room : ℕ) (s : List ℕ) (rs : List Record) → Written limit room s rs → (k m : ℕ) → LossAt s k m → LastsWhole s rs k m

-- by B alone: the bytes behind B are no more than N records can have. Then Tail opens, and keeps every record that ended at the place or before
abbrev pub LossBehindDurable : Type 0
LossBehindDurable =
    (limit N : ℕ) (lent : List Entry) (s : List ℕ) (rs : List Record) → Written limit (length lent) s rs
    → (k m : ℕ) → LossAt s k m → m - durable_end s ≤ N * (12 + limit) → (Matched s rs k m → ⊥)
    → OpensLasting limit N lent s rs k m × LastsWhole s rs k m

-- ---- what else is answered

-- only then 11: without a chance match a loss opens exactly if N is enough; where it isn't, it is 11 at the end of the records that lasted
pub record OnlyEleven (limit N : ℕ) (lent : List Entry) (s : List ℕ) (rs : List Record) (k m : ℕ) : Type 0 where
  pub exactly : IsOk (scan_of limit (Tail N) (length lent) (lost_to k m s)) ↔ Enough limit N s rs k m
  pub eleven : Decides s rs k m → N * (12 + limit) < m - lasting_end s rs k m
      → LeftRefused limit N lent (lost_to k m s) (lasting s rs k m) 11 (lasting_end s rs k m)

abbrev pub RefusedLoss : Type 0
RefusedLoss =
    (limit N : ℕ) (lent : List Entry) (s : List ℕ) (rs : List Record) → Written limit (length lent) s rs
    → (k m : ℕ) → LossAt s k m → (Matched s rs k m → ⊥) → OnlyEleven limit N lent s rs k m

-- a chance match, for every N. Where the record's code lasted, it is kept, and only the end of its frame is wrong: the answer is that of a loss at
-- its end, behind which only zeros follow. Where the code didn't last, it is 14 at the record's place
pub record AfterMatch (limit N : ℕ) (lent : List Entry) (s : List ℕ) (rs : List Record) (k m : ℕ) (torn : Record) : Type 0 where
  pub keeps : torn.place + head_length + torn.frame ≤ last_place k m s
      → LeftOpens limit N lent s (lost_to k m s) (whole_in (torn.place + length_of torn) rs)
      (loss_cut s (torn.place + length_of torn) (torn.place + length_of torn) m)
  pub fourteen : last_place k m s < torn.place + head_length + torn.frame
      → LeftRefused limit N lent (lost_to k m s) (lasting s rs k m) 14 torn.place

abbrev pub MatchedLoss : Type 0
MatchedLoss =
    (limit N : ℕ) (lent : List Entry) (s : List ℕ) (rs : List Record) → Written limit (length lent) s rs
    → (k m : ℕ) → LossAt s k m → (x : Matched s rs k m) → AfterMatch limit N lent s rs k m x.torn

-- ---- every loss, and every N

-- what a unit finds: the records that lasted; 11, where N decides and is too small; or what a chance match does
pub data AfterLoss (limit N : ℕ) (lent : List Entry) (s : List ℕ) (rs : List Record) (k m : ℕ) : Type 0 where
  opens : OpensLasting limit N lent s rs k m → AfterLoss limit N lent s rs k m
  eleven : Decides s rs k m → N * (12 + limit) < m - lasting_end s rs k m
      → LeftRefused limit N lent (lost_to k m s) (lasting s rs k m) 11 (lasting_end s rs k m) → AfterLoss limit N lent s rs k m
  matched : (x : Matched s rs k m) → AfterMatch limit N lent s rs k m x.torn → AfterLoss limit N lent s rs k m

abbrev pub EveryLoss : Type 0
EveryLoss =
    (limit N : ℕ) (lent : List Entry) (s : List ℕ) (rs : List Record) → Written limit (length lent) s rs
    → (k m : ℕ) → LossAt s k m → AfterLoss limit N lent s rs k m
