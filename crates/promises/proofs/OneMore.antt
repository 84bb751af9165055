-- At most one record more lasts than those that are whole at the place: behind it stand only zeros, and no record has a length and a complement of 0.
-- Assumes nothing.
use mathlib.Core.Path.{◌≡◌, refl, ap, ◌∙◌}
use mathlib.Core.Bool.{Bool, true, false}
use mathlib.Core.List.{List, [], ◌∷◌, ◌++◌}
use Prim.Native.Nat.{ℕ, ◌+◌, ◌≤◌, ◌<◌}
use native.Mathlib.Omega.{arith}
use lib.ListN.{length, get_or}
use lib.Seq.{get_or-drop}
use lib.Dec.{leb}
use borrow.Author.Tests.{leb-true, leb-false, le-leb}
use Rattle.fields.proofs.Zeroed.{le-zero}
use Rattle.prefix.specs.Prefix.{prefix_length}
use Rattle.record.specs.declared.Record.{Record}
use Rattle.std.specs.Prelude.{Ok}
use Rattle.record.proofs.SoundBoth.{sound_is}
use Rattle.index.specs.Entries.{length_of}
use Rattle.journal.specs.Walk.{rest, stands_at, Chain, nothing, next}
use Rattle.journal.specs.Demand3.{behind_prefix}
use Rattle.journal.proofs.Chains.{within}
use Rattle.promises.specs.Shortening.{whole_in}
use Rattle.promises.proofs.WholeRecords.{none_whole}
use Rattle.promises.proofs.LeftBytes.{rest-drop}

-- all bytes of s from k to j are 0
module _ (limit k j : ℕ) (s : List ℕ) (a : k ≤ j) (zeros : (i : ℕ) → k ≤ i → i < j → get_or s i 0 ≡ 0) where
  no_zero_head : (p : ℕ) (r : Record) → prefix_length ≤ p → k ≤ p → p + length_of r ≤ j → stands_at limit (behind_prefix s) p ≡ Ok r → ⊥
  unfolding stands_at
  no_zero_head p r h b c e =
      let f = (sound_is limit p (rest (behind_prefix s) p) r e).0 in
      let byte : (i : ℕ) → i < 8 → get_or (rest (behind_prefix s) p) i 0 ≡ 0 = λ i g.
      ap (λ (v : List ℕ). get_or v i 0) (rest-drop s p h) ∙ get_or-drop p s i 0 ∙ zeros (p + i) (omega arith) (omega arith)
      in
      let u = le-zero 4 (rest (behind_prefix s) p) 0 (λ i x y. byte i (omega arith)) in
      let v = le-zero 4 (rest (behind_prefix s) p) 4 (λ i x y. byte i (omega arith)) in
      omega (arith, f.agree)

  -- none is whole at j that starts past k
  none_past : {p f : ℕ} {rs : List Record} → Chain limit (behind_prefix s) p rs f → prefix_length ≤ p → k ≤ p → whole_in j rs ≡ []
  unfolding whole_in
  none_past nothing h b = refl
  none_past {p} (next {r} {rs} e c) h b = go (leb (r.place + length_of r) j) refl
    where
      w : r.place ≡ p
      w = (within limit (behind_prefix s) p r e).1

      go : (z : Bool) → leb (r.place + length_of r) j ≡ z → whole_in j (r ∷ rs) ≡ []
      go true z = absurd (no_zero_head p r h b (omega (arith, leb-true (r.place + length_of r) j z, w)) e)
      go false z = rw z (none_whole limit j (behind_prefix s) c (omega (arith, leb-false (r.place + length_of r) j z, w)))

  pub one_more : {p f : ℕ} {rs : List Record} → Chain limit (behind_prefix s) p rs f → prefix_length ≤ p
      → (more : List Record) × (whole_in j rs ≡ whole_in k rs ++ more) × (length more ≤ 1)
  unfolding whole_in
  one_more nothing h = ([], refl, omega arith)
  one_more {p} (next {r} {rs} e c) h = first (leb (r.place + length_of r) k) refl (one_more c (omega arith))
    where
      w : r.place ≡ p
      w = (within limit (behind_prefix s) p r e).1

      first : (z : Bool) → leb (r.place + length_of r) k ≡ z → ((more : List Record) × (whole_in j rs ≡ whole_in k rs ++ more) × (length more ≤ 1))
          → (more : List Record) × (whole_in j (r ∷ rs) ≡ whole_in k (r ∷ rs) ++ more) × (length more ≤ 1)
      first true z i =
          let x = leb-true (r.place + length_of r) k z in
          (i.0, rw (z, le-leb (r.place + length_of r) j (omega arith)) (ap (λ (v : List Record). r ∷ v) i.1), i.2)
      first false z i =
          let x = leb-false (r.place + length_of r) k z in
          let n = none_whole limit k (behind_prefix s) c (omega (arith, w)) in
          let o = none_past c (omega arith) (omega (arith, w)) in
          by (leb (r.place + length_of r) j) refl n o
        where
          by : (y : Bool) → leb (r.place + length_of r) j ≡ y → whole_in k rs ≡ [] → whole_in j rs ≡ []
              → (more : List Record) × (whole_in j (r ∷ rs) ≡ whole_in k (r ∷ rs) ++ more) × (length more ≤ 1)
          by true y n o = (r ∷ [], rw (z, y, n, o) refl, omega arith)
          by false y n o = ([], rw (z, y, n, o) refl, omega arith)
