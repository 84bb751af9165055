-- A default array of numbers is zeros.
-- Assumes nothing.
use mathlib.Core.Path.{◌≡◌, refl, ap, ap₂, ◌∙◌}
use mathlib.Core.List.{List, [], ◌∷◌}
use Prim.Native.Nat.{ℕ, suc, ◌<◌}
use native.Mathlib.Omega.{arith}
use lib.ListN.{length, get_or, replicate}
use Rattle.std.specs.Array.{AllOfLen}

each_zero : (xs : List ℕ) → ((i d : ℕ) → i < length xs → get_or xs i d ≡ 0) → xs ≡ replicate (length xs) 0
each_zero [] z = refl
each_zero (x ∷ xs) z = ap₂ (λ (y : ℕ) (ys : List ℕ). y ∷ ys) (z 0 0 (omega arith)) (each_zero xs (λ i d l. z (suc i) d (omega (arith, l))))

pub zeros : (n : ℕ) (xs : List ℕ) → AllOfLen {A = ℕ} (λ x. x ≡ 0) xs n → xs ≡ replicate n 0
zeros n xs z = each_zero xs (λ i d l. z.at i d (omega (arith, l, z.long))) ∙ ap (λ (k : ℕ). replicate k 0) z.long
