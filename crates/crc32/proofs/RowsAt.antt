-- The laws of the rows, of eight bytes at any place of a longer list.
--     one_row_at, all_rows_at     `one_row` and `all_rows` of the eight bytes at i
-- Assumes nothing.
use mathlib.Core.Path.{◌≡◌, sym, ap, ap₂, ◌∙◌, subst}
use mathlib.Core.List.{List, [], ◌∷◌, ◌++◌}
use Prim.Native.Nat.{ℕ, zero, suc, ◌+◌, ◌*◌, ◌-◌, ◌^◌, ◌≤◌, ◌<◌}
use Rattle.std.proofs.Common.{add-zero}
use native.Mathlib.Omega.{arith}
use lib.Bits.{bit_xor}
use lib.ListN.{length, get_or, take, drop, length-drop}
use lib.Seq.{drop-drop, drop_at, take-add, get_or-drop, length-take-le}
use Rattle.fields.specs.Fields.{le, le_bytes, part}
use Rattle.fields.proofs.Put.{le-within}
use Rattle.crc32.specs.Crc.{crc_from}
use Rattle.crc32.specs.Rows.{row_entry}
use Rattle.crc32.proofs.Rows.{Bytes, none, eight_of, one_row, all_rows}

front : (n : ℕ) (s : List ℕ) → Bytes s → Bytes (take n s)
front zero s a k = none k
front (suc n) [] a k = none k
front (suc n) (x ∷ xs) a zero = a 0
front (suc n) (x ∷ xs) a (suc k) = front n xs (λ m. a (suc m)) k

of_part : (n : ℕ) (s : List ℕ) (p : ℕ) → Bytes s → Bytes (part n s p)
of_part n s p a = front n (drop p s) (λ k. subst (λ (b : ℕ). b < 2 ^ 8) (sym (get_or-drop p s k 0)) (a (p + k)))

-- the eight bytes of s at i, the first four as the number x
abbrev pub eight_at : (x : ℕ) (s : List ℕ) (i : ℕ) → List ℕ
eight_at x s i = le_bytes 4 x ++ part 4 s (i + 4)

module _ (c x : ℕ) (s : List ℕ) (i : ℕ) (small : Bytes s) (room : i + 8 ≤ length s) where
  part_many : (n p : ℕ) → p + n ≤ length s → length (part n s p) ≡ n
  part_many n p h = length-take-le n (drop p s) (simp length-drop (omega arith))

  halves : part 8 s i ≡ part 4 s i ++ part 4 s (i + 4)
  halves = take-add 4 4 (drop i s) ∙ ap (λ (l : List ℕ). part 4 s i ++ take 4 l) (drop-drop 4 i s)

  same : eight_of x (part 8 s i) ≡ eight_at x s i
  same =
      ap (λ (l : List ℕ). le_bytes 4 x ++ drop 4 l) halves
      ∙ ap (λ (l : List ℕ). le_bytes 4 x ++ l) (drop_at (part 4 s i) (part 4 s (i + 4)) 4 (part_many 4 i (omega arith)))

  pub one_row_at : (j r e b : ℕ) → j < 8 → r ≡ crc_from 0 (drop (8 - j) (eight_at x s i)) → b ≡ get_or (eight_at x s i) (7 - j) 0 → e ≡ row_entry (256 * j + b)
      → bit_xor r e ≡ crc_from 0 (drop (8 - (j + 1)) (eight_at x s i))
  one_row_at j r e b h er eb ee =
      let there = part 8 s i in
      let row = one_row x there (of_part 8 s i small) (part_many 8 i room) j h in
      let here = subst (λ (t : List ℕ). crc_from 0 (drop (8 - (j + 1)) t) ≡ bit_xor (crc_from 0 (drop (8 - j) t)) (row_entry (256 * j + get_or t (7 - j) 0))) same row in
      ap₂ bit_xor er (ee ∙ ap (λ (y : ℕ). row_entry (256 * j + y)) eb) ∙ sym here

  pub all_rows_at : (j r : ℕ) → j ≡ 8 → r ≡ crc_from 0 (drop (8 - j) (eight_at x s i)) → x ≡ bit_xor c (le 4 s i) → x < 2 ^ 32 → r ≡ crc_from c (take 8 (drop i s))
  all_rows_at j r e er ex hx =
      let there = part 8 s i in
      let read : le 4 there 0 ≡ le 4 s i = le-within 4 8 s i 0 (omega arith) ∙ ap (le 4 s) (add-zero i) in
      er
      ∙ ap (λ (t : List ℕ). crc_from 0 (drop (8 - j) t)) (sym same)
      ∙ all_rows x there (of_part 8 s i small) (part_many 8 i room) c j e (ex ∙ ap (bit_xor c) (sym read)) hx
