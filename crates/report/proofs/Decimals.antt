-- Numbers in decimal are what std prints.
-- Assumes nothing.
use mathlib.Core.Path.{◌≡◌, ap}
use mathlib.Core.List.{[], ◌∷◌}
use Prim.Native.Nat.{ℕ, suc, ◌+◌, ◌/◌, ◌^◌, ◌<◌}
use native.Mathlib.Nat.{pow-suc}
use native.Mathlib.Omega.{arith}
use lib.Dec.{lit≤}
use borrow.Author.Tests.{lt-ltb, le-ltb}
use Rattle.std.proofs.lemmas.Fmt.{AppendsLastDigit, decimal_from_appends, length-decimal-le}
use Rattle.std.specs.Fmt as std
use Rattle.report.specs.Text.{digits, decimal}

pub tenth : (n x : ℕ) → x < 10 ^ suc n → x / 10 < 10 ^ n
tenth n x h = let e = pow-suc 10 n in omega (arith, h, e)

-- the digits are the front's, then the last one
last-appended : AppendsLastDigit digits
unfolding digits
last-appended = record {
  one = λ k n l. rw (lt-ltb n 10 l) (ap (λ (d : ℕ). (48 + d) ∷ []) (omega (arith, l)));
  more = λ k n l. rw (le-ltb n 10 l);
}

-- 20 digits are enough
pub same_decimal : (x : ℕ) → x < 2 ^ 64 → decimal x ≡ std.decimal x
unfolding decimal
same_decimal x h = decimal_from_appends digits last-appended 20 x h (length-decimal-le 20 x (lit≤ tt) (omega (arith, h)) h)
