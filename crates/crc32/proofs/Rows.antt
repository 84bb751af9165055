-- Eight bytes at once: the register goes into the first four, and each of the eight then goes by a row of its own.
--     from_bytes, from_number     `row_byte`: where the byte of a row stands
--     by_entry                    `one`
--     no_row, one_row, all_rows   `eight`: before its loop, one turn, and after it
--     eight_on                    `update`: one turn
-- Assumes nothing.
use mathlib.Core.Path.{◌≡◌, sym, ap, ap₂, ◌∙◌, subst}
use mathlib.Core.List.{List, [], ◌∷◌, ◌++◌}
use Prim.Native.Nat.{ℕ, zero, suc, ◌+◌, ◌*◌, ◌-◌, ◌/◌, ◌%◌, ◌^◌, ◌≤◌, ◌<◌}
use native.Mathlib.Nat.{mod-lt, mod-eq_of_lt, le_of_suc-le-suc, not-suc-le-zero, suc-mul, add_comm, mul_comm, div-one}
use native.Mathlib.Numerals.{add-one}
use native.Mathlib.Omega.{arith}
use lib.Pow.{shr-shr, high, low}
use lib.Bits.{bit_xor, bit_and, and_mask, xor_mod, xor_shifted, xor_zero_l, xor_zero_r, xor_comm}
use lib.Dec.{lit<}
use lib.ListN.{length, get_or, take, drop, length-drop, length-append, drop_of_length-le, get_or-append}
use lib.Seq.{drop-cons, take_all, get_or-drop, get_or-append-add}
use Rattle.fields.specs.Fields.{le, le_bytes, part}
use Rattle.fields.proofs.Back.{le_back}
use Rattle.fields.proofs.Parts.{rest_all}
use Rattle.fields.proofs.Widths.{le_bytes-length}
use Rattle.crc32.specs.Crc.{next, feeds, crc_from}
use Rattle.crc32.specs.Rows.{row_entry}
use Rattle.crc32.proofs.Xor.{xor_assoc}
use Rattle.crc32.proofs.Register.{next_split, shifts, shifts-add, shifts-xor, shifts_high, next-shifts, from_nothing}
use Rattle.crc32.proofs.Joined.{crc_from-append, from_then}

-- ---- lists of bytes

-- each of them is below 256
abbrev pub Bytes : List ℕ → Type 0
Bytes s = (k : ℕ) → get_or s k 0 < 2 ^ 8

pub none : Bytes []
none zero = lit< tt
none (suc k) = lit< tt

joined : (xs ys : List ℕ) → Bytes xs → Bytes ys → Bytes (xs ++ ys)
joined [] ys a b k = b k
joined (x ∷ xs) ys a b zero = a 0
joined (x ∷ xs) ys a b (suc k) = joined xs ys (λ m. a (suc m)) b k

behind : (n : ℕ) (s : List ℕ) → Bytes s → Bytes (drop n s)
behind n s a k = subst (λ (b : ℕ). b < 2 ^ 8) (sym (get_or-drop n s k 0)) (a (n + k))

of_number : (n x : ℕ) → Bytes (le_bytes n x)
unfolding le_bytes
of_number zero x k = none k
of_number (suc n) x zero = mod-lt x (lit< tt)
of_number (suc n) x (suc k) = of_number n (x / 256) k

-- the byte of a number at a place
byte_of : (n x k : ℕ) → k < n → get_or (le_bytes n x) k 0 ≡ x / 2 ^ (8 * k) % 2 ^ 8
unfolding le_bytes
byte_of zero x k h = absurd (not-suc-le-zero h)
byte_of (suc n) x zero h = ap (λ (y : ℕ). y % 2 ^ 8) (sym (div-one x))
byte_of (suc n) x (suc k) h =
    byte_of n (x / 256) k (le_of_suc-le-suc h) ∙ ap (λ (y : ℕ). y % 2 ^ 8) (shr-shr x 8 (8 * k) ∙ ap (λ (m : ℕ). x / 2 ^ m) (omega arith))

-- ---- bytes go into the register at once, as the number that they spell

-- one byte, and the number w of those behind it
one_more : (m c b w : ℕ) → b < 2 ^ 8 → shifts m (bit_xor (next c b) w) ≡ shifts (8 + m) (bit_xor c (b + 256 * w))
one_more m c b w h =
    let spelt : b + 256 * w ≡ w * 2 ^ 8 + b = add_comm b (256 * w) ∙ ap (λ (x : ℕ). x + b) (mul_comm 256 w) in
    ap (shifts m)
    (ap₂ bit_xor (next-shifts c b h) (sym (shifts_high 8 w))
    ∙ sym (shifts-xor 8 (bit_xor c b) (w * 2 ^ 8))
    ∙ ap (shifts 8) (xor_assoc c b (w * 2 ^ 8) ∙ ap (bit_xor c) (xor_comm b (w * 2 ^ 8) ∙ xor_shifted w 8 b h ∙ sym spelt)))
    ∙ sym (shifts-add 8 m (bit_xor c (b + 256 * w)))

at_once : (n c : ℕ) (s : List ℕ) (p : ℕ) → Bytes s → p + n ≤ length s → crc_from c (part n s p) ≡ shifts (n * 8) (bit_xor c (le n s p))
unfolding crc_from shifts le
at_once zero c s p small h = sym (xor_zero_r c)
at_once (suc n) c s p small h =
    let b = get_or s p 0 in
    let w = le n s (suc p) in
    ap (λ (l : List ℕ). crc_from c (take (suc n) l)) (drop-cons s p 0 (omega arith))
    ∙ at_once n (next c b) s (suc p) small (omega arith)
    ∙ one_more (n * 8) c b w (small p)
    ∙ ap (λ (m : ℕ). shifts m (bit_xor c (b + 256 * w))) (add_comm 8 (n * 8) ∙ sym (suc-mul n 8))

-- so the register, and the bytes from q on, go through apart from each other
apart : (c : ℕ) (t : List ℕ) (q : ℕ) → Bytes t → q ≤ length t
    → crc_from c (drop q t) ≡ bit_xor (shifts ((length t - q) * 8) c) (crc_from 0 (drop q t))
apart c t q small h =
    let n = length t - q in
    let w = le n t q in
    let all : (d : ℕ) → crc_from d (drop q t) ≡ shifts (n * 8) (bit_xor d w) = λ d. ap (crc_from d) (sym (rest_all q t)) ∙ at_once n d t q small (omega arith) in
    all c ∙ shifts-xor (n * 8) c w ∙ ap (bit_xor (shifts (n * 8) c)) (ap (shifts (n * 8)) (sym (xor_zero_l w)) ∙ sym (all 0))

-- ---- each byte by a row of its own

entry_at : (j b : ℕ) → b < 2 ^ 8 → row_entry (256 * j + b) ≡ shifts (j * 8) (next 0 b)
unfolding row_entry
entry_at j b h =
    let place : 256 * j + b ≡ j * 2 ^ 8 + b = omega arith in
    ap (λ (k : ℕ). feeds (k / 256 * 8 + 8) 0 (k % 256)) place
    ∙ ap₂ (λ (n x : ℕ). feeds (n * 8 + 8) 0 x) (high j 8 h) (low j 8 h)
    ∙ from_nothing j b h
    ∙ ap (λ (n : ℕ). shifts n b) (add_comm (j * 8) 8)
    ∙ shifts-add 8 (j * 8) b
    ∙ ap (shifts (j * 8)) (ap (shifts 8) (sym (xor_zero_l b)) ∙ sym (next-shifts 0 b h))

-- one byte by itself: it goes by row 0
pub by_entry : (c b : ℕ) → b < 2 ^ 8 → next c b ≡ bit_xor (c / 2 ^ 8) (row_entry (256 * 0 + bit_xor (bit_and c 255) b))
unfolding shifts
by_entry c b h =
    let low_byte = bit_xor c b % 2 ^ 8 in
    let sent : bit_xor (bit_and c 255) b ≡ low_byte = ap₂ bit_xor (and_mask c 8) (sym (mod-eq_of_lt h)) ∙ sym (xor_mod c b 8) in
    next_split c b h
    ∙ ap (bit_xor (c / 2 ^ 8)) (sym (entry_at 0 low_byte (mod-lt (bit_xor c b) (lit< tt))) ∙ ap (λ (k : ℕ). row_entry (256 * 0 + k)) (sym sent))

-- the last j bytes are through; the one before them, at p, goes by row j
row_on : (t : List ℕ) (j p : ℕ) → Bytes t → length t ≡ p + 1 + j
    → bit_xor (crc_from 0 (drop (p + 1) t)) (row_entry (256 * j + get_or t p 0)) ≡ crc_from 0 (drop p t)
unfolding crc_from
row_on t j p small many =
    let b = get_or t p 0 in
    let left : length t - suc p ≡ j = omega arith in
    xor_comm (crc_from 0 (drop (p + 1) t)) (row_entry (256 * j + b))
    ∙ ap₂ bit_xor (entry_at j b (small p) ∙ ap (λ (n : ℕ). shifts (n * 8) (next 0 b)) (sym left)) (ap (λ (n : ℕ). crc_from 0 (drop n t)) (add-one p))
    ∙ sym (apart (next 0 b) t (suc p) small (omega arith))
    ∙ sym (ap (crc_from 0) (drop-cons t p 0 (omega arith)))

-- ---- the register goes into the first four bytes

mixed : (n c x : ℕ) (s : List ℕ) → Bytes s → n ≤ length s → x ≡ bit_xor c (le n s 0) → x < 256 ^ n
    → crc_from 0 (le_bytes n x) ≡ crc_from c (take n s)
mixed n c x s small h ex hx =
    let t = le_bytes n x in
    ap (crc_from 0) (sym (take_all n t (omega (arith, le_bytes-length n x))))
    ∙ at_once n 0 t 0 (of_number n x) (omega (arith, le_bytes-length n x))
    ∙ ap (shifts (n * 8)) (xor_zero_l (le n t 0) ∙ le_back n x hx ∙ ex)
    ∙ sym (at_once n c s 0 small (omega arith))

-- the eight bytes of s, the first four as the number x
abbrev pub eight_of : (x : ℕ) (s : List ℕ) → List ℕ
eight_of x s = le_bytes 4 x ++ drop 4 s

-- the byte of row j, where it stands in s
pub from_bytes : (x : ℕ) (s : List ℕ) (j : ℕ) → j < 4 → get_or (eight_of x s) (7 - j) 0 ≡ get_or s (7 - j) 0
from_bytes x s j h =
    let four = le_bytes 4 x in
    let at : 7 - j ≡ length four + (3 - j) = omega (arith, le_bytes-length 4 x) in
    let place : 4 + (3 - j) ≡ 7 - j = omega arith in
    ap (λ (k : ℕ). get_or (eight_of x s) k 0) at
    ∙ get_or-append-add four (drop 4 s) (3 - j) 0
    ∙ get_or-drop 4 s (3 - j) 0
    ∙ ap (λ (k : ℕ). get_or s k 0) place

-- the same, where it stands in x
pub from_number : (x : ℕ) (t : List ℕ) (j : ℕ) → 4 ≤ j → j < 8 → get_or (le_bytes 4 x ++ t) (7 - j) 0 ≡ bit_and (x / 2 ^ (56 - 8 * j)) 255
from_number x t j l h =
    get_or-append (le_bytes 4 x) t 0 (7 - j) (omega (arith, le_bytes-length 4 x))
    ∙ byte_of 4 x (7 - j) (omega arith)
    ∙ ap (λ (n : ℕ). x / 2 ^ n % 2 ^ 8) (omega arith)
    ∙ sym (and_mask (x / 2 ^ (56 - 8 * j)) 8)

module _ (x : ℕ) (s : List ℕ) (small : Bytes s) (many : length s ≡ 8) where
  eight-bytes : Bytes (eight_of x s)
  eight-bytes = joined (le_bytes 4 x) (drop 4 s) (of_number 4 x) (behind 4 s small)

  eight_many : length (eight_of x s) ≡ 8
  eight_many = length-append (le_bytes 4 x) (drop 4 s) ∙ omega (arith, le_bytes-length 4 x, length-drop 4 s, many)

  -- the register, from 0, after as many of the last bytes as rows are done
  pub no_row : crc_from 0 (drop 8 (eight_of x s)) ≡ 0
  unfolding crc_from
  no_row =
      let few : length (eight_of x s) ≤ 8 = omega (arith, eight_many) in
      ap (crc_from 0) (drop_of_length-le (eight_of x s) few)

  pub one_row : (j : ℕ) → j < 8 → crc_from 0 (drop (8 - (j + 1)) (eight_of x s))
      ≡ bit_xor (crc_from 0 (drop (8 - j) (eight_of x s))) (row_entry (256 * j + get_or (eight_of x s) (7 - j) 0))
  one_row j h =
      let t = eight_of x s in
      let done : 8 - j ≡ 7 - j + 1 = omega arith in
      let left : 7 - j ≡ 8 - (j + 1) = omega arith in
      sym (row_on t j (7 - j) eight-bytes (omega (arith, eight_many)) ∙ ap (λ (n : ℕ). crc_from 0 (drop n t)) left)
      ∙ ap (λ (n : ℕ). bit_xor (crc_from 0 (drop n t)) (row_entry (256 * j + get_or t (7 - j) 0))) (sym done)

  -- after all of them; the register c was put into the first four, and goes through with them
  pub all_rows : (c j : ℕ) → j ≡ 8 → x ≡ bit_xor c (le 4 s 0) → x < 2 ^ 32 → crc_from 0 (drop (8 - j) (eight_of x s)) ≡ crc_from c s
  all_rows c j e ex hx =
      ap (λ (n : ℕ). crc_from 0 (drop (8 - n) (eight_of x s))) e
      ∙ crc_from-append 0 (le_bytes 4 x) (drop 4 s)
      ∙ ap (λ (d : ℕ). crc_from d (drop 4 s)) (mixed 4 c x s small (omega (arith, many)) ex hx)
      ∙ from_then c 4 s

-- ---- eight bytes, and those behind them

pub eight_on : (c : ℕ) (s : List ℕ) → crc_from c s ≡ crc_from (crc_from c (take 8 s)) (drop 8 s)
eight_on c s = sym (from_then c 8 s)
