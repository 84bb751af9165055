-- At the last place of a loss, where a CRC matches by chance. The record that matches is the one that was torn. Where its code didn't last, its body
-- doesn't read, and it is 14; else it is seen as before, and only zeros stand behind it.
-- Assumes nothing.
use mathlib.Core.Path.{◌≡◌, refl, sym, ap, subst, ◌∙◌}
use mathlib.Core.Bool.{Bool, true, false}
use mathlib.Core.List.{List, [], ◌∷◌, ◌++◌}
use Prim.Native.Nat.{ℕ, ◌+◌, ◌-◌, ◌≤◌, ◌<◌}
use native.Mathlib.Omega.{arith}
use lib.ListN.{length, get_or, drop, length-drop}
use lib.Seq.{get_or-drop}
use lib.Dec.{ltb, eqb}
use borrow.Author.Tests.{ltb-true, ltb-false, eqb-true, eqb-false, ne_eqb, lt-ltb}
use Rattle.crc32.specs.Crc.{crc_of}
use Rattle.fields.proofs.Zeroed.{le-zero, zeroed, drop-zeroed, lost}
use Rattle.prefix.specs.Prefix.{prefix_length}
use Rattle.record.specs.declared.Record.{Record}
use Rattle.record.specs.declared.Row.{Row}
use Rattle.record.specs.declared.Row.TheVariants.{ComplementWrong, BodyUnread}
use Rattle.std.specs.Prelude.{Ok, Err}
use Rattle.record.specs.Seen.{head_length, crc_field, body_in, seen}
use Rattle.record.proofs.SoundBoth.{under_12, complement_wrong}
use Rattle.record.proofs.Chance.{matched_kept, matched_unread}
use Rattle.index.specs.declared.Entry.{Entry}
use Rattle.index.specs.Entries.{length_of, bytes_of}
use Rattle.journal.specs.declared.Rule.TheVariants.{Tail}
use Rattle.journal.specs.declared.Cut.{Cut}
use Rattle.journal.specs.declared.Cut.TheVariants.{Incomplete, Damaged}
use Rattle.journal.specs.Walk.{rest, stands_at, Chain, end_of}
use Rattle.journal.specs.Table.{table_of, cell_in}
use Rattle.journal.specs.Walked.{refused_at, stop_at}
use Rattle.journal.specs.Permitted.{Reason, head_torn, complement_zeros}
use Rattle.journal.specs.Demand3.{behind_prefix, durable_end}
use Rattle.journal.proofs.Chains.{within, empty_under, chain_snoc}
use Rattle.promises.specs.LossOfChain.{LossOfChain}
use Rattle.promises.specs.Shortening.{whole_in}
use Rattle.promises.specs.Lost.{lost_to, loss_cut, ChanceMatch}
use Rattle.promises.specs.PowerLoss.{LeftOpens, LeftRefused}
use Rattle.promises.proofs.WholeRecords.{whole_part, chain_split, whole_before, whole_through}
use Rattle.promises.proofs.LossOfChain.{no_longer}
use Rattle.promises.proofs.TornRecord.{cut-none, cut_few, cut-head}
use Rattle.promises.proofs.LeftBytes.{rest-drop, end_past, durable_is, chain_is, inside, rest_is, rest-length, first_lasted, StopsAt, whole_by, cut_by, refused_by}

-- a body that doesn't read is 14 under Tail, wherever it stands
body_cell : (limit N B : ℕ) (t : List ℕ) (e : ℕ) → 0 < length (rest t e) → stop_at limit (Tail N) B t e BodyUnread ≡ refused_at 14 e
unfolding stop_at cell_in table_of
body_cell limit N B t e h = rw (ne_eqb (length (rest t e)) 0 (omega arith))

-- 12 zeros or more have a wrong complement
zeros_seen : (limit p : ℕ) (v : List ℕ) → head_length ≤ length v → ((i : ℕ) → get_or v i 0 ≡ 0) → seen limit p v ≡ Err ComplementWrong
zeros_seen limit p v h z =
    let a = le-zero 4 v 0 (λ i f g. z i) in
    let b = le-zero 4 v 4 (λ i f g. z i) in
    complement_wrong limit p v h (λ q. omega arith)

module _ (limit N : ℕ) (lent : List Entry) (s : List ℕ) (rs : List Record) (k m : ℕ) (x : LossOfChain limit (length lent) s rs k m) (c : ChanceMatch s rs k m) where
  abbrev bytes : List ℕ
  bytes = lost_to k m s

  abbrev e : ℕ
  e = end_of (whole_in k rs)

  abbrev was : Record
  was = c.torn

  past : prefix_length ≤ e
  past = end_past (whole_in k rs)

  in_k : e ≤ k
  in_k = inside limit N lent s rs k m x

  kl : k ≤ length s
  kl = omega (arith, no_longer limit (length lent) s rs k m x, x.place_inside)

  -- ---- it is the torn one

  whole_chain : Chain limit (behind_prefix s) prefix_length (c.before ++ was ∷ c.after) x.reach
  whole_chain = subst (λ (v : List Record). Chain limit (behind_prefix s) prefix_length v x.reach) c.among x.chain

  splits : (p : ℕ) × (p ≡ prefix_length + bytes_of c.before) × (stands_at limit (behind_prefix s) p ≡ Ok was)
      × Chain limit (behind_prefix s) (p + length_of was) c.after x.reach
  splits = chain_split limit (behind_prefix s) c.before was c.after whole_chain

  before_is : whole_in k rs ≡ c.before
  before_is =
      ap (whole_in k) c.among
      ∙ whole_before limit (behind_prefix s) k c.before was c.after whole_chain (omega (arith, c.head_lasted)) c.not_whole

  torn_place : splits.0 ≡ e
  unfolding end_of
  torn_place = splits.1 ∙ sym (ap (λ (v : List Record). prefix_length + bytes_of v) before_is)

  pub was_there : was.place ≡ e
  was_there = (within limit (behind_prefix s) splits.0 was splits.2).1 ∙ torn_place

  stood : seen limit e (drop e s) ≡ Ok was
  unfolding stands_at
  stood =
      let y : seen limit e (rest (behind_prefix s) e) ≡ Ok was = subst (λ (p : ℕ). seen limit p (rest (behind_prefix s) p) ≡ Ok was) torn_place splits.2 in
      rw (rest-drop s e past) at y

  match_is : crc_of (body_in (zeroed (k - e) (m - k) (drop e s))) ≡ crc_field (zeroed (k - e) (m - k) (drop e s))
  match_is =
      let q-is : drop was.place bytes ≡ zeroed (k - e) (m - k) (drop e s) = ap (λ (v : ℕ). drop v bytes) was_there ∙ drop-zeroed e k (m - k) s in_k kl in
      rw q-is at c.agrees

  long : k - e ≤ length (drop e s)
  long = omega (arith, length-drop e s, kl)

  -- ---- its code didn't last

  module _ (low : k < was.place + head_length + was.frame) where
    unread_there : stands_at limit (behind_prefix bytes) e ≡ Err BodyUnread
    unfolding stands_at
    unread_there =
        let w = was_there in
        let p = x.place_inside in
        rw (rest_is limit N lent s rs k m x)
        (matched_unread limit e (k - e) (m - k) (drop e s) was stood long (omega (arith, c.head_lasted)) (omega (arith, c.not_whole, in_k)) (omega (arith, c.ends, in_k))
        match_is (omega (arith, in_k)))

    pub fourteen : LeftRefused limit N lent bytes (whole_in k rs) 14 was.place
    fourteen =
        let there : StopsAt limit N lent s rs k m x (whole_in k rs) e BodyUnread =
        record { chain = chain_is limit N lent s rs k m x; first = first_lasted limit N lent s rs k m x; stands = unread_there }
        in
        let some : 0 < length (rest (behind_prefix bytes) e) = omega (arith, rest-length limit N lent s rs k m x e past, c.ends, was_there) in
        subst (LeftRefused limit N lent bytes (whole_in k rs) 14) (sym was_there)
        (refused_by limit N lent s rs k m x there 14 (body_cell limit N (durable_end bytes) (behind_prefix bytes) e some))

  -- ---- its code lasted

  module _ (high : was.place + head_length + was.frame ≤ k) where
    abbrev u : ℕ
    u = was.place + length_of was

    u_past : prefix_length ≤ u
    u_past = omega (arith, was_there, past)

    sound_there : stands_at limit (behind_prefix bytes) e ≡ Ok was
    unfolding stands_at
    sound_there =
        let w = was_there in
        let p = x.place_inside in
        rw (rest_is limit N lent s rs k m x)
        (matched_kept limit e (k - e) (m - k) (drop e s) was stood long (omega (arith, c.head_lasted)) (omega (arith, c.not_whole, in_k)) (omega (arith, c.ends, in_k))
        match_is (omega (arith, in_k)))

    kept_is : whole_in u rs ≡ whole_in k rs ++ was ∷ []
    kept_is =
        ap (whole_in u) c.among
        ∙ whole_through limit (behind_prefix s) c.before was c.after whole_chain
        ∙ ap (λ (v : List Record). v ++ was ∷ []) (sym before_is)

    through : Chain limit (behind_prefix bytes) prefix_length (whole_in u rs) u
    through =
        let d = chain_snoc limit (behind_prefix bytes) (chain_is limit N lent s rs k m x) sound_there in
        let i : e + length_of was ≡ u = omega (arith, was_there) in
        subst (λ (v : List Record). Chain limit (behind_prefix bytes) prefix_length v u) (sym kept_is)
        (subst (λ (v : ℕ). Chain limit (behind_prefix bytes) prefix_length (whole_in k rs ++ was ∷ []) v) i d)

    -- only zeros stand behind it
    zeros_there : (i : ℕ) → get_or (rest (behind_prefix bytes) u) i 0 ≡ 0
    zeros_there i =
        ap (λ (v : List ℕ). get_or v i 0) (rest-drop bytes u u_past) ∙ get_or-drop u bytes i 0 ∙ lost k (m - k) s kl (u + i) (omega (arith, c.not_whole))

    length_there : length (rest (behind_prefix bytes) u) ≡ m - u
    length_there = rest-length limit N lent s rs k m x u u_past

    durable_there : durable_end bytes ≤ u
    durable_there = omega (arith, durable_is limit N lent s rs k m x, was_there)

    abbrev Claim : Type 0
    Claim = LeftOpens limit N lent s bytes (whole_in u rs) (loss_cut s u u m)

    stops : {row : Row} → seen limit u (rest (behind_prefix bytes) u) ≡ Err row → StopsAt limit N lent s rs k m x (whole_in u rs) u row
    unfolding stands_at
    stops v = record { chain = through; first = whole_part limit u (behind_prefix s) x.chain; stands = v }

    nothing-behind : m ≡ u → Claim
    unfolding stands_at
    nothing-behind i =
        let n : length (rest (behind_prefix bytes) u) ≡ 0 = omega (arith, length_there) in
        subst (LeftOpens limit N lent s bytes (whole_in u rs)) (sym (cut-none s u u m i))
        (whole_by limit N lent s rs k m x (stops (empty_under limit (behind_prefix bytes) u n)) durable_there n)

    some_behind : {row : Row} {cut : Cut} → eqb m u ≡ false → seen limit u (rest (behind_prefix bytes) u) ≡ Err row
        → Reason limit N (rest (behind_prefix bytes) u) row cut → cut ≡ loss_cut s u u m → Claim
    some_behind z v reason q =
        let n : m ≡ u → ⊥ = eqb-false m u z in
        subst (LeftOpens limit N lent s bytes (whole_in u rs)) q
        (cut_by limit N lent s rs k m x (stops v) durable_there (omega (arith, length_there, c.ends)) reason)

    few_behind : eqb m u ≡ false → ltb m (u + head_length) ≡ true → Claim
    few_behind z y =
        some_behind z (under_12 limit u (rest (behind_prefix bytes) u) (omega (arith, length_there, ltb-true m (u + head_length) y)))
        head_torn (ap Incomplete length_there ∙ sym (cut_few s u u m z y))

    more-behind : eqb m u ≡ false → ltb m (u + head_length) ≡ false → Claim
    more-behind z y =
        some_behind z (zeros_seen limit u (rest (behind_prefix bytes) u) (omega (arith, length_there, ltb-false m (u + head_length) y)) zeros_there)
        (complement_zeros (λ i f g. zeros_there i)) (ap Damaged length_there ∙ sym (cut-head s u u m z y (lt-ltb u (u + 8) (omega arith))))

    pub kept_opens : Claim
    kept_opens = first (eqb m u) refl
      where
        second : eqb m u ≡ false → (y : Bool) → ltb m (u + head_length) ≡ y → Claim
        second z true y = few_behind z y
        second z false y = more-behind z y

        first : (z : Bool) → eqb m u ≡ z → Claim
        first true z = nothing-behind (eqb-true m u z)
        first false z = second z (ltb m (u + head_length)) refl
