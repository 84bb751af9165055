-- Numbers as bytes at two widths: a field of n + m bytes is one of n and one of m behind it.
-- Assumes nothing.
use mathlib.Core.Path.{◌≡◌, refl, sym, ap, ◌∙◌}
use mathlib.Core.List.{List, ◌∷◌, ◌++◌}
use Prim.Native.Nat.{ℕ, zero, suc, ◌+◌, ◌*◌, ◌/◌, ◌%◌, ◌^◌}
use native.Mathlib.Nat.{add-zero, add-suc, suc-add, zero-add, one-mul, div-one, pow-succ', div-div-eq-div-mul, mul_assoc}
use native.Mathlib.Omega.{arith}
use lib.ListN.{length}
use Rattle.fields.specs.Fields.{le, le_bytes}

pub le_bytes-length : (n x : ℕ) → length (le_bytes n x) ≡ n
unfolding le_bytes
le_bytes-length zero x = refl
le_bytes-length (suc n) x = ap suc (le_bytes-length n (x / 256))

pub le_bytes-add : (n m x : ℕ) → le_bytes (n + m) x ≡ le_bytes n x ++ le_bytes m (x / 256 ^ n)
unfolding le_bytes
le_bytes-add zero m x = rw (zero-add m, div-one x)
le_bytes-add (suc n) m x = rw (suc-add n m, pow-succ' 256 n, ← div-div-eq-div-mul) (ap (λ (l : List ℕ). x % 256 ∷ l) (le_bytes-add n m (x / 256)))

pub le-add : (n m : ℕ) (s : List ℕ) (p : ℕ) → le (n + m) s p ≡ le n s p + 256 ^ n * le m s (p + n)
unfolding le
le-add zero m s p = rw (zero-add m, add-zero p, one-mul, zero-add)
le-add (suc n) m s p =
    let e = le-add n m s (suc p) in
    let k : suc p + n ≡ p + suc n = suc-add p n ∙ sym (add-suc p n) in
    rw (suc-add n m, e, k, pow-succ' 256 n, mul_assoc) (omega arith)

pub ruleset sizes = (le_bytes-length)
