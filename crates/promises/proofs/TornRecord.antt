-- Where a record was torn: the row that holds there, its reason, and what is cut.
-- Assumes nothing.
use mathlib.Core.Path.{◌≡◌, refl, sym, ap, ◌∙◌}
use mathlib.Core.Bool.{Bool, true, false}
use mathlib.Core.List.{List}
use mathlib.Core.Logic.{◌⊎◌, inl, inr}
use Prim.Native.Nat.{ℕ, ◌+◌, ◌*◌, ◌-◌, ◌≤◌, ◌<◌}
use native.Mathlib.Omega.{arith}
use lib.ListN.{length, get_or, take, drop, length-drop}
use lib.Seq.{length-take-le, get_or-take, get_or-drop}
use lib.Dec.{ltb, eqb}
use borrow.Author.Tests.{ltb-true, ltb-false, eqb-true, eq-eqb}
use Rattle.crc32.specs.Crc.{crc_of}
use Rattle.fields.specs.Fields.{max32}
use Rattle.fields.proofs.Zeroed.{zeroed, length-zeroed, lasts, lost, zeros_or_not}
use Rattle.record.specs.declared.Record.{Record}
use Rattle.record.specs.declared.Row.{Row}
use Rattle.record.specs.declared.Row.TheVariants.{Under12, ComplementWrong, NotWhole, CrcWrong}
use Rattle.std.specs.Prelude.{Ok, Err}
use Rattle.record.specs.Seen.{head_length, length_field, crc_field, body_in, seen}
use Rattle.record.proofs.SoundBoth.{record-body}
use Rattle.record.proofs.Zeroed.{few, head_lost, same_length, body_short, body_lost}
use Rattle.index.specs.Entries.{length_of}
use Rattle.journal.specs.declared.Cut.{Cut}
use Rattle.journal.specs.declared.Cut.TheVariants.{None, Incomplete, Damaged}
use Rattle.journal.specs.Permitted.{ZerosFrom, Reason, head_torn, complement_near, complement_zeros, record_torn, crc_zeros}
use Rattle.promises.specs.Lost.{loss_cut, HeadInPart}

-- ---- the cut, by the first line that holds

module _ (s : List ℕ) (k e m : ℕ) where
  pub cut-none : m ≡ e → loss_cut s k e m ≡ None
  unfolding loss_cut
  cut-none a = rw (eq-eqb m e a)

  module _ (a : eqb m e ≡ false) where
    pub cut_few : ltb m (e + head_length) ≡ true → loss_cut s k e m ≡ Incomplete (m - e)
    unfolding loss_cut
    cut_few b = rw (a, b)

    pub cut-head : ltb m (e + head_length) ≡ false → ltb k (e + 8) ≡ true → loss_cut s k e m ≡ Damaged (m - e)
    unfolding loss_cut
    cut-head b c = rw (a, b, c)

    pub cut_short : ltb m (e + head_length) ≡ false → ltb k (e + 8) ≡ false → ltb m (e + head_length + length_field (drop e s)) ≡ true → loss_cut s k e m ≡ Incomplete (m - e)
    unfolding loss_cut
    cut_short b c d = rw (a, b, c, d)

    pub cut-crc : ltb m (e + head_length) ≡ false → ltb k (e + 8) ≡ false → ltb m (e + head_length + length_field (drop e s)) ≡ false → loss_cut s k e m ≡ Damaged (m - e)
    unfolding loss_cut
    cut-crc b c d = rw (a, b, c, d)

-- ---- where a record was torn

-- the record r stood at e, and isn't whole at k, where a byte that isn't 0 was lost; q is all that is left from e on
module _ (limit N : ℕ) (s : List ℕ) (k e m : ℕ) (small : limit < max32) (a : e ≤ k) (b : k ≤ m) (l : m ≤ length s) (nz : k < m → get_or s k 0 ≡ 0 → ⊥)
    (r : Record) (stood : seen limit e (drop e s) ≡ Ok r) (torn : k < e + length_of r) where
  abbrev q : List ℕ
  q = zeroed (k - e) (m - k) (drop e s)

  long : k - e ≤ length (drop e s)
  long = omega (arith, length-drop e s)

  length_q : length q ≡ m - e
  length_q = let z = length-zeroed (k - e) (m - k) (drop e s) long in omega arith

  body_is : r.body ≡ length_field (drop e s)
  body_is = (record-body limit e (drop e s) r stood).0

  -- the row there, its reason, and the cut
  pub record Cutting : Type 0 where
    pub row : Row
    pub cut : Cut
    pub row_is : seen limit e q ≡ Err row
    pub reason : Reason limit N q row cut
    pub cut_is : cut ≡ loss_cut s k e m

  -- all bytes left are 0, or it is a head in part
  zeros_or_head : ltb k (e + 8) ≡ true → ltb m (e + head_length) ≡ false → ZerosFrom 0 q ⊎ HeadInPart s k e m
  zeros_or_head i j = go (zeros_or_not (take (k - e) (drop e s)))
    where
      n : length (take (k - e) (drop e s)) ≡ k - e
      n = length-take-le (k - e) (drop e s) long

      go : ((i : ℕ) → i < length (take (k - e) (drop e s)) → get_or (take (k - e) (drop e s)) i 0 ≡ 0)
          ⊎ ((i : ℕ) × (i < length (take (k - e) (drop e s))) × (get_or (take (k - e) (drop e s)) i 0 ≡ 0 → ⊥))
          → ZerosFrom 0 q ⊎ HeadInPart s k e m
      go (inl z) = inl (λ i f g. at i (ltb i (k - e)) refl)
        where
          at : (i : ℕ) (y : Bool) → ltb i (k - e) ≡ y → get_or q i 0 ≡ 0
          at i true y =
              let c = ltb-true i (k - e) y in
              lasts (k - e) (m - k) (drop e s) long i c ∙ sym (get_or-take (k - e) (drop e s) i 0 c) ∙ z i (omega (arith, n))
          at i false y = lost (k - e) (m - k) (drop e s) long i (ltb-false i (k - e) y)
      go (inr y) =
          inr (record {
            in_head = ltb-true k (e + 8) i;
            long = ltb-false m (e + head_length) j;
            byte = e + y.0;
            behind = omega arith;
            lasted = omega (arith, y.1, n);
            not_zero = λ g. y.2 (get_or-take (k - e) (drop e s) y.0 0 (omega (arith, y.1, n)) ∙ get_or-drop e s y.0 0 ∙ g);
          })

  -- a wrong complement
  pub head-row : k < e + 8 → e + head_length ≤ m → seen limit e q ≡ Err ComplementWrong
  head-row i j =
      let n : e + (k - e) ≡ k = omega arith in
      head_lost limit e (k - e) (m - k) (drop e s) r stood long small (omega arith) (omega arith)
      (λ g. nz (omega arith) (sym (ap (λ (v : ℕ). get_or s v 0) n) ∙ sym (get_or-drop e s (k - e) 0) ∙ g))

  -- N is enough where it decides, and the CRC doesn't match by chance
  module _ (near : HeadInPart s k e m → m - e ≤ N * (12 + limit)) (chance : e + 8 ≤ k → e + length_of r ≤ m → crc_of (body_in q) ≡ crc_field q → ⊥) where
    by_few : eqb m e ≡ false → ltb m (e + head_length) ≡ true → Cutting
    by_few z y =
        record {
          row = Under12;
          cut = Incomplete (length q);
          row_is = few limit e (k - e) (m - k) (drop e s) r stood long (omega (arith, ltb-true m (e + head_length) y));
          reason = head_torn;
          cut_is = ap Incomplete length_q ∙ sym (cut_few s k e m z y);
        }

    by_head : eqb m e ≡ false → ltb m (e + head_length) ≡ false → ltb k (e + 8) ≡ true → Cutting
    by_head z y v =
        record {
          row = ComplementWrong;
          cut = Damaged (length q);
          row_is = head-row (ltb-true k (e + 8) v) (ltb-false m (e + head_length) y);
          reason = by (zeros_or_head v y);
          cut_is = ap Damaged length_q ∙ sym (cut-head s k e m z y v);
        }
      where
        by : ZerosFrom 0 q ⊎ HeadInPart s k e m → Reason limit N q ComplementWrong (Damaged (length q))
        by (inl o) = complement_zeros o
        by (inr o) = complement_near (omega (arith, near o, length_q))

    -- length and complement lasted
    module _ (z : eqb m e ≡ false) (y : ltb m (e + head_length) ≡ false) (v : ltb k (e + 8) ≡ false) where
      eight : 8 ≤ k - e
      eight = omega (arith, ltb-false k (e + 8) v)

      by_short : ltb m (e + head_length + length_field (drop e s)) ≡ true → Cutting
      by_short u =
          let o = ltb-true m (e + head_length + length_field (drop e s)) u in
          record {
            row = NotWhole;
            cut = Incomplete (length q);
            row_is = body_short limit e (k - e) (m - k) (drop e s) r stood long eight (omega (arith, ltb-false m (e + head_length) y)) (omega (arith, body_is));
            reason = record_torn;
            cut_is = ap Incomplete length_q ∙ sym (cut_short s k e m z y v u);
          }

      by_crc : ltb m (e + head_length + length_field (drop e s)) ≡ false → Cutting
      by_crc u =
          let ends : e + length_of r ≤ m = omega (arith, ltb-false m (e + head_length + length_field (drop e s)) u, body_is) in
          let same = same_length limit e (k - e) (m - k) (drop e s) r stood long eight in
          record {
            row = CrcWrong;
            cut = Damaged (length q);
            row_is = body_lost limit e (k - e) (m - k) (drop e s) r stood long eight (omega arith) (chance (omega (arith, eight)) ends);
            reason = crc_zeros (λ i f g. lost (k - e) (m - k) (drop e s) long i (omega arith));
            cut_is = ap Damaged length_q ∙ sym (cut-crc s k e m z y v u);
          }

    pub cutting : (m ≡ e → ⊥) → Cutting
    cutting ne = first (eqb m e) refl
      where
        fourth : eqb m e ≡ false → ltb m (e + head_length) ≡ false → ltb k (e + 8) ≡ false
            → (u : Bool) → ltb m (e + head_length + length_field (drop e s)) ≡ u → Cutting
        fourth z y v true u = by_short z y v u
        fourth z y v false u = by_crc z y v u

        third : eqb m e ≡ false → ltb m (e + head_length) ≡ false → (v : Bool) → ltb k (e + 8) ≡ v → Cutting
        third z y true v = by_head z y v
        third z y false v = fourth z y v (ltb m (e + head_length + length_field (drop e s))) refl

        second : eqb m e ≡ false → (y : Bool) → ltb m (e + head_length) ≡ y → Cutting
        second z true y = by_few z y
        second z false y = third z y (ltb k (e + 8)) refl

        first : (z : Bool) → eqb m e ≡ z → Cutting
        first true z = absurd (ne (eqb-true m e z))
        first false z = second z (ltb m (e + head_length)) refl
