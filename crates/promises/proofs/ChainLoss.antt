-- Power loss over a chain: a loss at any place is one at its last place. These are the laws for a layer that appends, since they ask nothing of B but
-- that the records which are whole at the place end at B or past it.
-- Assumes nothing.
use mathlib.Core.Path.{◌≡◌, refl, sym, ap, subst}
use mathlib.Core.Bool.{Bool, true, false}
use mathlib.Core.List.{List}
use mathlib.Core.Logic.{◌⊎◌, inl, inr}
use Prim.Native.Nat.{ℕ, ◌+◌, ◌*◌, ◌-◌, ◌≤◌, ◌<◌}
use native.Mathlib.Omega.{arith}
use lib.ListN.{length, get_or}
use lib.Dec.{leb}
use borrow.Author.Tests.{leb-true, leb-false}
use Rattle.record.specs.declared.Record.{Record}
use Rattle.index.specs.declared.Entry.{Entry}
use Rattle.index.specs.Entries.{length_of}
use Rattle.journal.specs.Walk.{end_of}
use Rattle.journal.specs.Demand3.{behind_prefix}
use Rattle.promises.specs.LossOfChain.{LossOfChain}
use Rattle.promises.specs.Shortening.{whole_in}
use Rattle.promises.specs.Lost.{lost_to, last_place, lasting, lasting_end, loss_cut}
use Rattle.promises.specs.PowerLoss.{LeftOpens, LeftRefused, OpensLasting, Decides, Enough, Matched, last_start, AfterMatch, AfterLoss, opens, eleven, matched}
use Rattle.promises.proofs.WholeRecords.{ends_later}
use Rattle.promises.proofs.LastPlace.{same_left, was_lost}
use Rattle.promises.proofs.LastRecords.{last_most, before_last}
use Rattle.promises.proofs.LossOfChain.{no_longer, lasting-more, at_last}
use Rattle.promises.proofs.LossOpens.{opens_lasting}
use Rattle.promises.proofs.LossOpens as at-a-head
use Rattle.promises.proofs.LossMatched.{kept_opens}
use Rattle.promises.proofs.LossMatched as at-a-match
use Rattle.promises.proofs.MatchOrNot.{match_or_not, head-or-not}

module _ (limit N : ℕ) (lent : List Entry) (s : List ℕ) (rs : List Record) (k m : ℕ) (x : LossOfChain limit (length lent) s rs k m) where
  last : LossOfChain limit (length lent) s rs (last_place k m s) m
  last = at_last limit (length lent) s rs k m x

  l : m ≤ length s
  l = no_longer limit (length lent) s rs k m x

  same : lost_to k m s ≡ lost_to (last_place k m s) m s
  same = same_left k m s x.place_inside l

  lost_there : last_place k m s < m → get_or s (last_place k m s) 0 ≡ 0 → ⊥
  lost_there = was_lost k m s x.place_inside l

  -- N is enough, and nothing matches by chance: the records that lasted
  pub chain_loss : Enough limit N s rs k m → (Matched s rs k m → ⊥) → OpensLasting limit N lent s rs k m
  chain_loss near chance =
      subst (λ (v : List ℕ). LeftOpens limit N lent s v (lasting s rs k m) (loss_cut s (last_place k m s) (lasting_end s rs k m) m)) (sym same)
      (opens_lasting limit N lent s rs (last_place k m s) m last lost_there near chance)

  -- at most the last N records weren't on stable storage: N is enough
  pub chain_unsynced : last_start N rs ≤ k → (Matched s rs k m → ⊥) → OpensLasting limit N lent s rs k m
  chain_unsynced h chance =
      let y = lasting-more limit (length lent) s rs k m x in
      let a = last_most limit N (behind_prefix s) rs x.chain in
      let b = before_last limit N (behind_prefix s) rs k x.chain h in
      chain_loss (λ z. omega (arith, x.reached, ends_later (whole_in k rs) y.0, ap end_of y.1)) chance

  -- a head in part, and more bytes than N records have: 11
  pub chain_eleven : Decides s rs k m → N * (12 + limit) < m - lasting_end s rs k m
      → LeftRefused limit N lent (lost_to k m s) (lasting s rs k m) 11 (lasting_end s rs k m)
  chain_eleven part far =
      subst (λ (v : List ℕ). LeftRefused limit N lent v (lasting s rs k m) 11 (lasting_end s rs k m)) (sym same)
      (at-a-head.eleven limit N lent s rs (last_place k m s) m last lost_there part far)

  -- a chance match: the record is kept, or it is 14
  pub chain_matched : (c : Matched s rs k m) → AfterMatch limit N lent s rs k m c.torn
  chain_matched c =
      let u = c.torn.place + length_of c.torn in
      record {
        keeps = λ high.
            subst (λ (v : List ℕ). LeftOpens limit N lent s v (whole_in u rs) (loss_cut s u u m)) (sym same)
            (kept_opens limit N lent s rs (last_place k m s) m last c high);
        fourteen = λ low.
            subst (λ (v : List ℕ). LeftRefused limit N lent v (lasting s rs k m) 14 c.torn.place) (sym same)
            (at-a-match.fourteen limit N lent s rs (last_place k m s) m last c low);
      }

  -- every loss, and every N
  pub chain_every : AfterLoss limit N lent s rs k m
  chain_every = go (match_or_not s (last_place k m s) m rs)
    where
      by_head : (Matched s rs k m → ⊥) → N * (12 + limit) < m - lasting_end s rs k m → Decides s rs k m ⊎ (Decides s rs k m → ⊥) → AfterLoss limit N lent s rs k m
      by_head chance far (inl part) = eleven part far (chain_eleven part far)
      by_head chance far (inr none) = opens (chain_loss (λ part. absurd (none part)) chance)

      by_length : (Matched s rs k m → ⊥) → (b : Bool) → leb (m - lasting_end s rs k m) (N * (12 + limit)) ≡ b → AfterLoss limit N lent s rs k m
      by_length chance true q = opens (chain_loss (λ part. leb-true (m - lasting_end s rs k m) (N * (12 + limit)) q) chance)
      by_length chance false q =
          by_head chance (leb-false (m - lasting_end s rs k m) (N * (12 + limit)) q) (head-or-not s (last_place k m s) (lasting_end s rs k m) m)

      go : Matched s rs k m ⊎ (Matched s rs k m → ⊥) → AfterLoss limit N lent s rs k m
      go (inl c) = matched c (chain_matched c)
      go (inr chance) = by_length chance (leb (m - lasting_end s rs k m) (N * (12 + limit))) refl
