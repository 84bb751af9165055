-- At the last place of a loss: what is left opens with the records that lasted where N is enough and no CRC matches by chance; where a head lasted in
-- part and N isn't enough, it is 11.
-- Assumes nothing.
use mathlib.Core.Path.{◌≡◌, refl, sym, ap, subst, ◌∙◌}
use mathlib.Core.Bool.{Bool, true, false}
use mathlib.Core.List.{List}
use mathlib.Core.Logic.{◌⊎◌, inl, inr}
use Prim.Native.Nat.{ℕ, ◌+◌, ◌*◌, ◌-◌, ◌≤◌, ◌<◌}
use native.Mathlib.Omega.{arith}
use lib.ListN.{length, get_or, drop, length-drop}
use lib.Seq.{get_or-drop}
use lib.Dec.{eqb}
use borrow.Author.Tests.{eqb-true, eqb-false, ne_eqb, le-ltb, lt-leb}
use Rattle.crc32.specs.Crc.{crc_of}
use Rattle.fields.proofs.Zeroed.{zeroed, drop-zeroed, lasts}
use Rattle.prefix.specs.Prefix.{prefix_length}
use Rattle.record.specs.declared.Record.{Record}
use Rattle.record.specs.declared.Row.TheVariants.{Under12, ComplementWrong}
use Rattle.std.specs.Prelude.{Err}
use Rattle.record.specs.Seen.{crc_field, body_in, seen}
use Rattle.record.proofs.SoundBoth.{record-body}
use Rattle.index.specs.declared.Entry.{Entry}
use Rattle.index.specs.Entries.{length_of}
use Rattle.journal.specs.declared.Rule.TheVariants.{Tail}
use Rattle.journal.specs.Walk.{rest, stands_at, end_of}
use Rattle.journal.specs.Table.{all_zero, near_end, tests_in, table_of, cell_in}
use Rattle.journal.specs.Walked.{refused_at, stop_at}
use Rattle.journal.specs.Demand3.{behind_prefix, durable_end}
use Rattle.journal.proofs.Chains.{empty_under}
use Rattle.journal.proofs.Reasons.{zeros_told}
use Rattle.promises.specs.LossOfChain.{LossOfChain}
use Rattle.promises.specs.Shortening.{whole_in}
use Rattle.promises.specs.Lost.{lost_to, loss_cut, HeadInPart, ChanceMatch}
use Rattle.promises.specs.PowerLoss.{LeftOpens, LeftRefused}
use Rattle.promises.proofs.LossOfChain.{no_longer}
use Rattle.promises.proofs.Lasted.{Torn}
use Rattle.promises.proofs.TornRecord.{cut-none, head-row, cutting}
use Rattle.promises.proofs.LeftBytes.{end_past, small, durable_is, chain_is, inside, then_is, stood_is, rest_is, rest-length, first_lasted, StopsAt, whole_by, cut_by, refused_by}

-- a byte isn't 0
not_zeros : (v : List ℕ) (i : ℕ) → i < length v → (get_or v i 0 ≡ 0 → ⊥) → all_zero v ≡ false
not_zeros v i h nz = go (all_zero v) refl
  where
    go : (z : Bool) → all_zero v ≡ z → z ≡ false
    go true e = absurd (nz (zeros_told 0 v e i (omega arith) h))
    go false e = refl

-- a wrong complement, more bytes than N records have, and one that isn't 0
too_far : (limit N B : ℕ) (t : List ℕ) (e : ℕ) → B ≤ e → N * (12 + limit) < length (rest t e) → all_zero (rest t e) ≡ false
    → stop_at limit (Tail N) B t e ComplementWrong ≡ refused_at 11 e
unfolding stop_at cell_in table_of tests_in near_end
too_far limit N B t e b far z =
    rw (ne_eqb (length (rest t e)) 0 (omega arith), le-ltb e B b, lt-leb (length (rest t e)) (N * (12 + limit)) far, z)

module _ (limit N : ℕ) (lent : List Entry) (s : List ℕ) (rs : List Record) (k m : ℕ) (x : LossOfChain limit (length lent) s rs k m)
    (nz : k < m → get_or s k 0 ≡ 0 → ⊥) where
  abbrev bytes : List ℕ
  bytes = lost_to k m s

  abbrev e : ℕ
  e = end_of (whole_in k rs)

  past : prefix_length ≤ e
  past = end_past (whole_in k rs)

  in_k : e ≤ k
  in_k = inside limit N lent s rs k m x

  l : m ≤ length s
  l = no_longer limit (length lent) s rs k m x

  left_there : length (rest (behind_prefix bytes) e) ≡ m - e
  left_there = rest-length limit N lent s rs k m x e past

  -- ---- N is enough, and no CRC matches by chance

  module _ (near : HeadInPart s k e m → m - e ≤ N * (12 + limit)) (chance : ChanceMatch s rs k m → ⊥) where
    abbrev Claim : Type 0
    Claim = LeftOpens limit N lent s bytes (whole_in k rs) (loss_cut s k e m)

    none_left : m ≡ e → Claim
    none_left i =
        let n : length (rest (behind_prefix bytes) e) ≡ 0 = omega (arith, left_there) in
        let there : StopsAt limit N lent s rs k m x (whole_in k rs) e Under12 =
        record { chain = chain_is limit N lent s rs k m x; first = first_lasted limit N lent s rs k m x; stands = empty_under limit (behind_prefix bytes) e n }
        in
        subst (LeftOpens limit N lent s bytes (whole_in k rs)) (sym (cut-none s k e m i))
        (whole_by limit N lent s rs k m x there (durable_is limit N lent s rs k m x) n)

    -- the record that was torn doesn't match
    no_match : (y : Torn limit k m (behind_prefix s) rs e) → e + 8 ≤ k → e + length_of y.torn ≤ m
        → crc_of (body_in (zeroed (k - e) (m - k) (drop e s))) ≡ crc_field (zeroed (k - e) (m - k) (drop e s)) → ⊥
    no_match y eight ends g =
        let place_is : y.torn.place ≡ e = (record-body limit e (drop e s) y.torn (stood_is limit N lent s rs k m x y)).1 in
        let q-is : drop y.torn.place bytes ≡ zeroed (k - e) (m - k) (drop e s) =
        ap (λ (i : ℕ). drop i bytes) place_is ∙ drop-zeroed e k (m - k) s in_k (omega (arith, l, x.place_inside))
        in
        chance (record {
          before = whole_in k rs;
          torn = y.torn;
          after = y.after;
          among = y.among;
          head_lasted = omega (arith, place_is);
          not_whole = omega (arith, place_is, y.not_whole);
          ends = omega (arith, place_is);
          agrees = rw q-is g;
        })

    some_left : (m ≡ e → ⊥) → Torn limit k m (behind_prefix s) rs e → Claim
    unfolding stands_at
    some_left ne y =
        let c =
        cutting limit N s k e m (small limit N lent s rs k m x) in_k x.place_inside l nz y.torn (stood_is limit N lent s rs k m x y) y.not_whole near (no_match y) ne
        in
        let row-there : seen limit e (rest (behind_prefix bytes) e) ≡ Err c.row = rw (rest_is limit N lent s rs k m x) c.row_is in
        let there : StopsAt limit N lent s rs k m x (whole_in k rs) e c.row =
        record { chain = chain_is limit N lent s rs k m x; first = first_lasted limit N lent s rs k m x; stands = row-there }
        in
        subst (LeftOpens limit N lent s bytes (whole_in k rs)) c.cut_is
        (cut_by limit N lent s rs k m x there (durable_is limit N lent s rs k m x) (omega (arith, left_there, in_k, x.place_inside)) (rw (rest_is limit N lent s rs k m x) c.reason))

    pub opens_lasting : Claim
    opens_lasting = go (eqb m e) refl (then_is limit N lent s rs k m x)
      where
        go : (z : Bool) → eqb m e ≡ z → (m ≡ e) ⊎ Torn limit k m (behind_prefix s) rs e → Claim
        go true z y = none_left (eqb-true m e z)
        go false z (inl i) = none_left i
        go false z (inr y) = some_left (eqb-false m e z) y

  -- ---- a head in part, and more bytes than N records have

  module _ (part : HeadInPart s k e m) (far : N * (12 + limit) < m - e) where
    was_torn : Torn limit k m (behind_prefix s) rs e
    was_torn = go (then_is limit N lent s rs k m x)
      where
        go : (m ≡ e) ⊎ Torn limit k m (behind_prefix s) rs e → Torn limit k m (behind_prefix s) rs e
        go (inl i) = absurd (omega (arith, part.long))
        go (inr y) = y

    stands_there : stands_at limit (behind_prefix bytes) e ≡ Err ComplementWrong
    unfolding stands_at
    stands_there =
        rw (rest_is limit N lent s rs k m x)
        (head-row limit N s k e m (small limit N lent s rs k m x) in_k x.place_inside l nz was_torn.torn (stood_is limit N lent s rs k m x was_torn)
        was_torn.not_whole part.in_head part.long)

    one_not_zero : all_zero (rest (behind_prefix bytes) e) ≡ false
    one_not_zero =
        let i : ℕ = part.byte - e in
        let n : e + i ≡ part.byte = omega (arith, part.behind) in
        let y : get_or (rest (behind_prefix bytes) e) i 0 ≡ get_or s part.byte 0 =
        ap (λ (v : List ℕ). get_or v i 0) (rest_is limit N lent s rs k m x)
        ∙ lasts (k - e) (m - k) (drop e s) (omega (arith, length-drop e s, l, x.place_inside)) i (omega (arith, part.lasted, part.behind))
        ∙ get_or-drop e s i 0
        ∙ ap (λ (v : ℕ). get_or s v 0) n
        in
        not_zeros (rest (behind_prefix bytes) e) i (omega (arith, left_there, part.lasted, part.behind, x.place_inside)) (λ z. part.not_zero (sym y ∙ z))

    pub eleven : LeftRefused limit N lent bytes (whole_in k rs) 11 e
    eleven =
        let there : StopsAt limit N lent s rs k m x (whole_in k rs) e ComplementWrong =
        record { chain = chain_is limit N lent s rs k m x; first = first_lasted limit N lent s rs k m x; stands = stands_there }
        in
        refused_by limit N lent s rs k m x there 11
        (too_far limit N (durable_end bytes) (behind_prefix bytes) e (durable_is limit N lent s rs k m x) (omega (arith, far, left_there)) one_not_zero)
