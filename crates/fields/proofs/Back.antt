-- What was written is read back, at every width.
use mathlib.Core.Path.{◌≡◌, refl, sym, ap, ap₂, ◌∙◌}
use mathlib.Core.List.{List, [], ◌∷◌}
use Prim.Native.Nat.{ℕ, zero, suc, ◌+◌, ◌*◌, ◌/◌, ◌%◌, ◌^◌, ◌<◌}
use native.Mathlib.Nat.{pow-suc, mod-one, mod-eq_of_lt}
use native.Mathlib.Omega.{arith}
use lib.Arith.{mod-mul}
use lib.Dec.{lit<}
use lib.ListN.{length, get_or}
use Rattle.fields.specs.Fields.{le, le_bytes}

pub pow_pos : (n : ℕ) → 0 < 256 ^ n
pow_pos zero = lit< tt
pow_pos (suc n) = let h = pow_pos n in rw (pow-suc 256 n) (omega arith)

-- a byte is its own
pub one_byte : (x : ℕ) → x < 256 → le_bytes 1 x ≡ x ∷ []
unfolding le_bytes
one_byte x h = ap (λ (b : ℕ). b ∷ []) (mod-eq_of_lt h)

-- a byte in front moves a field by one
pub le-cons : (n b : ℕ) (s : List ℕ) (p : ℕ) → le n (b ∷ s) (suc p) ≡ le n s p
unfolding le
le-cons zero b s p = refl
le-cons (suc n) b s p = ap₂ (λ (x y : ℕ). x + 256 * y) refl (le-cons n b s (suc p))

pub le-bytes : (n x : ℕ) → le n (le_bytes n x) 0 ≡ x % 256 ^ n
unfolding le le_bytes
le-bytes zero x = sym (mod-one x)
le-bytes (suc n) x =
    let i = le-cons n (x % 256) (le_bytes n (x / 256)) 0 ∙ le-bytes n (x / 256) in
    let f : x % 256 ^ suc n ≡ (x / 256 % 256 ^ n) * 256 + x % 256 = rw (pow-suc 256 n) (mod-mul x (pow_pos n) (lit< tt)) in
    omega arith

pub le_back : (n x : ℕ) → x < 256 ^ n → le n (le_bytes n x) 0 ≡ x
le_back n x h = le-bytes n x ∙ mod-eq_of_lt h

-- and a list of bytes comes back from the number that it spells
pub spelled_back : (n : ℕ) (s : List ℕ) → length s ≡ n → ((i : ℕ) → i < length s → get_or s i 0 < 256) → le_bytes n (le n s 0) ≡ s
unfolding le le_bytes
spelled_back zero [] e h = refl
spelled_back zero (x ∷ xs) e h = absurd (omega arith)
spelled_back (suc n) [] e h = absurd (omega arith)
spelled_back (suc n) (x ∷ xs) e h =
    let byte : x < 256 = h 0 (omega arith) in
    let low : (x + 256 * le n (x ∷ xs) 1) % 256 ≡ x = omega arith in
    let high : (x + 256 * le n (x ∷ xs) 1) / 256 ≡ le n xs 0 = omega (arith, le-cons n x xs 0) in
    ap₂ (λ (b r : ℕ). b ∷ le_bytes n r) low high ∙ ap (λ (l : List ℕ). x ∷ l) (spelled_back n xs (omega arith) (λ i k. h (suc i) (omega arith)))
