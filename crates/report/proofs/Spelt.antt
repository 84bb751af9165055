-- A number in decimal spells that number (`spelt_back`). It has 1 to 20 digits (`decimal-least`, `decimal_most`), each is one of the ten
-- (`decimal-digits`), and a zero stands in front only of 0 itself (`no_zero_in_front`). So two numbers have the same digits only where they are equal
-- (`decimal_one`).
-- Assumes nothing.
use mathlib.Core.Path.{◌≡◌, refl, sym, ap, ◌∙◌}
use mathlib.Core.Bool.{Bool, true, false}
use mathlib.Core.List.{List, [], ◌∷◌, ◌++◌}
use Prim.Native.Nat.{ℕ, zero, suc, ◌+◌, ◌-◌, ◌*◌, ◌/◌, ◌%◌, ◌^◌, ◌≤◌, ◌<◌}
use native.Mathlib.Omega.{arith}
use lib.Dec.{ltb, lit≤}
use lib.ListN.{length, get_or, length-append}
use borrow.Author.Tests.{ltb-true, ltb-false}
use Rattle.fields.specs.Fields.{pick}
use Rattle.report.specs.Text.{digits, decimal}
use Rattle.report.proofs.Decimals.{tenth}

-- ---- how many

last_most : (b : Bool) (l : List ℕ) (d n : ℕ) → length l ≤ n → length (pick b [] l ++ d ∷ []) ≤ suc n
last_most true l d n h = omega arith
last_most false l d n h = rw (length-append l (d ∷ [])) (omega (arith, h))

digits_most : (n x : ℕ) → length (digits n x) ≤ n
unfolding digits
digits_most zero x = lit≤ tt
digits_most (suc n) x = last_most (ltb x 10) (digits n (x / 10)) (48 + x % 10) n (digits_most n (x / 10))

pub decimal_most : (x : ℕ) → length (decimal x) ≤ 20
unfolding decimal
decimal_most x = digits_most 20 x

pub decimal-least : (x : ℕ) → 1 ≤ length (decimal x)
unfolding decimal digits
decimal-least x = let l = length-append (pick (ltb x 10) [] (digits 19 (x / 10))) ((48 + x % 10) ∷ []) in omega (arith, l)

-- ---- what they spell

-- the number that digits spell, the highest first, going on from v
unfoldable pub spelt_from : (v : ℕ) → List ℕ → ℕ
spelt_from v [] = v
spelt_from v (d ∷ ds) = spelt_from (10 * v + (d - 48)) ds

unfoldable pub spelt : List ℕ → ℕ
spelt ds = spelt_from 0 ds

spelt-last : (v : ℕ) (ds : List ℕ) (d : ℕ) → spelt_from v (ds ++ d ∷ []) ≡ 10 * spelt_from v ds + (d - 48)
unfolding spelt_from
spelt-last v [] d = refl
spelt-last v (c ∷ ds) d = spelt-last (10 * v + (c - 48)) ds d

spelt_by : (x : ℕ) (b : Bool) → ltb x 10 ≡ b → (l : List ℕ) → (10 ≤ x → spelt_from 0 l ≡ x / 10) → spelt_from 0 (pick b [] l ++ (48 + x % 10) ∷ []) ≡ x
unfolding spelt_from
spelt_by x true e l h = omega (arith, ltb-true x 10 e)
spelt_by x false e l h = spelt-last 0 l (48 + x % 10) ∙ omega (arith, h (ltb-false x 10 e))

digits-spelt : (n x : ℕ) → x < 10 ^ n → spelt_from 0 (digits n x) ≡ x
unfolding digits spelt_from
digits-spelt zero x h = omega (arith, h)
digits-spelt (suc n) x h = spelt_by x (ltb x 10) refl (digits n (x / 10)) (λ _. digits-spelt n (x / 10) (tenth n x h))

pub spelt_back : (x : ℕ) → x < 2 ^ 64 → spelt (decimal x) ≡ x
unfolding spelt decimal
spelt_back x h = digits-spelt 20 x (omega (arith, h))

pub decimal_one : (x y : ℕ) → x < 2 ^ 64 → y < 2 ^ 64 → decimal x ≡ decimal y → x ≡ y
decimal_one x y h k e = sym (spelt_back x h) ∙ ap spelt e ∙ spelt_back y k

-- ---- which they are

-- each of a list is 48 to 57, the ten digits
pub data Digits : List ℕ → Type 0 where
  none : Digits []
  then : {d : ℕ} {ds : List ℕ} → 48 ≤ d → d ≤ 57 → Digits ds → Digits (d ∷ ds)

last_digit : (l : List ℕ) (x : ℕ) → Digits l → Digits (l ++ (48 + x % 10) ∷ [])
last_digit [] x none = then {d = 48 + x % 10} (omega arith) (omega arith) none
last_digit (d ∷ l) x (then a b t) = then a b (last_digit l x t)

all_by : (b : Bool) (l : List ℕ) (x : ℕ) → Digits l → Digits (pick b [] l ++ (48 + x % 10) ∷ [])
all_by true l x t = last_digit [] x none
all_by false l x t = last_digit l x t

digits-digits : (n x : ℕ) → Digits (digits n x)
unfolding digits
digits-digits zero x = none
digits-digits (suc n) x = all_by (ltb x 10) (digits n (x / 10)) x (digits-digits n (x / 10))

pub decimal-digits : (x : ℕ) → Digits (decimal x)
unfolding decimal
decimal-digits x = digits-digits 20 x

-- ---- the first

first_of : (l : List ℕ) (d e : ℕ) → 1 ≤ length l → get_or (l ++ d ∷ []) 0 e ≡ get_or l 0 e
first_of [] d e h = absurd (omega (arith, h))
first_of (x ∷ l) d e h = refl

first_by : (x : ℕ) (b : Bool) → ltb x 10 ≡ b → (l : List ℕ) → (10 ≤ x → (1 ≤ length l) × (48 < get_or l 0 48)) → 1 ≤ x → 48 < get_or (pick b [] l ++ (48 + x % 10) ∷ []) 0 48
first_by x true e l h p = omega (arith, ltb-true x 10 e, p)
first_by x false e l h p = let r = h (ltb-false x 10 e) in rw (first_of l (48 + x % 10) 48 r.0) r.1

some_by : (b : Bool) (l : List ℕ) (d : ℕ) → 1 ≤ length (pick b [] l ++ d ∷ [])
some_by true l d = lit≤ tt
some_by false l d = let e = length-append l (d ∷ []) in omega (arith, e)

digits_first : (n x : ℕ) → x < 10 ^ n → 1 ≤ x → (1 ≤ length (digits n x)) × (48 < get_or (digits n x) 0 48)
unfolding digits
digits_first zero x h p = absurd (omega (arith, h, p))
digits_first (suc n) x h p = (
  some_by (ltb x 10) (digits n (x / 10)) (48 + x % 10),
  first_by x (ltb x 10) refl (digits n (x / 10)) (λ l. digits_first n (x / 10) (tenth n x h) (omega (arith, l))) p,
)

-- 0 is one zero; any other number of 64 bits has no zero in front
pub zero_alone : decimal 0 ≡ 48 ∷ []
unfolding decimal digits
zero_alone = refl

pub no_zero_in_front : (x : ℕ) → x < 2 ^ 64 → get_or (decimal x) 0 48 ≡ 48 → x ≡ 0
unfolding decimal
no_zero_in_front zero h e = refl
no_zero_in_front (suc x) h e = absurd (omega (arith, e, (digits_first 20 (suc x) (omega (arith, h)) (omega arith)).1))
