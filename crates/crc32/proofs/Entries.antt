-- The rule of the table of CRC-32, at all of its entries, from one test that antt computes.
--     Tabled           the test: of n rows, row after row
--     rule             the entry at a place is what `row_entry` says
-- Assumes nothing.
use mathlib.Core.Path.{◌≡◌, refl, sym, ap, ◌∙◌, subst}
use mathlib.Core.Bool.{Bool, true, false, ◌&&◌}
use mathlib.Core.List.{List, [], ◌∷◌, ◌++◌}
use Prim.Native.Nat.{ℕ, zero, suc, ◌+◌, ◌*◌, ◌/◌, ◌%◌, ◌^◌, ◌<◌}
use native.Mathlib.Nat.{add-zero, zero-add, add-suc, suc-add, add_comm, le_of_suc-le-suc, not-suc-le-zero, le_of_lt, mod-lt}
use native.Mathlib.Omega.{arith}
use lib.Bits.{xor_zero_r}
use lib.Dec.{T, eqb, eqb→eq, lit<}
use lib.ListN.{length, get_or, get_or-append}
use mir.Facts.{and_yes}
use lib.Pow.{pow_pos, split}
use lib.Seq.{get_or-append-add}
use Rattle.crc32.specs.Crc.{next}
use Rattle.crc32.specs.Rows.{row_entry}
use Rattle.crc32.proofs.Register.{shifts, shifts-add, next-shifts, from_nothing}

-- ---- the test: an entry is the register after a byte of 0, from the entry above it; above the first row stand the bytes themselves

-- the n numbers from k on
unfoldable pub upto : (n k : ℕ) → List ℕ
upto zero k = []
upto (suc n) k = k ∷ upto n (suc k)

-- each y is the register after a byte of 0, from the x beside it
unfoldable pub chained : List ℕ → List ℕ → Bool
chained xs [] = true
chained [] (y ∷ ys) = false
chained (x ∷ xs) (y ∷ ys) = eqb y (next x 0) && chained xs ys

pub record Tabled (n : ℕ) (xs : List ℕ) : Type 0 where
  pub many : length xs ≡ n * 256
  pub right : chained (upto 256 0 ++ xs) xs ≡ true

-- ---- what it shows

link : (xs ys : List ℕ) → T (chained xs ys) → (k : ℕ) → k < length ys → get_or ys k 0 ≡ next (get_or xs k 0) 0
unfolding chained
link xs [] t k h = absurd (not-suc-le-zero h)
link [] (y ∷ ys) t k h = absurd t
link (x ∷ xs) (y ∷ ys) t zero h = eqb→eq y (next x 0) (and_yes (eqb y (next x 0)) (chained xs ys) t).0
link (x ∷ xs) (y ∷ ys) t (suc k) h = link xs ys (and_yes (eqb y (next x 0)) (chained xs ys) t).1 k (le_of_suc-le-suc h)

upto_many : (n k : ℕ) → length (upto n k) ≡ n
unfolding upto
upto_many zero k = refl
upto_many (suc n) k = ap suc (upto_many n (suc k))

upto-at : (n k i : ℕ) → i < n → get_or (upto n k) i 0 ≡ k + i
unfolding upto
upto-at zero k i h = absurd (not-suc-le-zero h)
upto-at (suc n) k zero h = sym (add-zero k)
upto-at (suc n) k (suc i) h = upto-at n (suc k) i (le_of_suc-le-suc h) ∙ suc-add k i ∙ sym (add-suc k i)

module _ (n : ℕ) (xs : List ℕ) (t : Tabled n xs) where
  below : (k : ℕ) → k < n * 256 → get_or xs k 0 ≡ shifts 8 (get_or (upto 256 0 ++ xs) k 0)
  below k h =
      let above = get_or (upto 256 0 ++ xs) k 0 in
      link (upto 256 0 ++ xs) xs (subst (λ (b : Bool). T b) (sym t.right) tt) k (subst (λ (m : ℕ). k < m) (sym t.many) h)
      ∙ next-shifts above 0 (lit< tt)
      ∙ ap (shifts 8) (xor_zero_r above)

  rows : (j b : ℕ) → j < n → b < 256 → get_or xs (j * 256 + b) 0 ≡ shifts (8 + j * 8) b
  rows zero b hj hb =
      ap (λ (k : ℕ). get_or xs k 0) (zero-add b)
      ∙ below b (omega arith)
      ∙ ap (shifts 8) (get_or-append (upto 256 0) xs 0 b (subst (λ (m : ℕ). b < m) (sym (upto_many 256 0)) hb) ∙ upto-at 256 0 b hb ∙ zero-add b)
  rows (suc j) b hj hb =
      let k = j * 256 + b in
      let next_row : suc j * 256 + b ≡ 256 + (j * 256 + b) = omega arith in
      let more : 8 + j * 8 + 8 ≡ 8 + suc j * 8 = omega arith in
      ap (λ (m : ℕ). get_or xs m 0) next_row
      ∙ below (256 + k) (omega arith)
      ∙ ap (shifts 8)
      (ap (λ (m : ℕ). get_or (upto 256 0 ++ xs) (m + k) 0) (sym (upto_many 256 0)) ∙ get_or-append-add (upto 256 0) xs k 0 ∙ rows j b (le_of_lt hj) hb)
      ∙ sym (shifts-add (8 + j * 8) 8 b)
      ∙ ap (λ (m : ℕ). shifts m b) more

  pub rule : (k : ℕ) → k < n * 256 → get_or xs k 0 ≡ row_entry k
  unfolding row_entry
  rule k h =
      let j = k / 256 in
      let b = k % 256 in
      let byte : b < 2 ^ 8 = mod-lt k (pow_pos 8) in
      ap (λ (m : ℕ). get_or xs m 0) (sym (split k 8))
      ∙ rows j b (omega arith) byte
      ∙ ap (λ (m : ℕ). shifts m b) (add_comm 8 (j * 8))
      ∙ sym (from_nothing j b byte)
