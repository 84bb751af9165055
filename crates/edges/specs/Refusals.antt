-- The refusals by their numbers: 1 to 29, each with a reason of its own.
-- Assumes nothing.
use Rattle.std.specs.Prelude.{ℕ, ◌≡◌, refl, List, [], ◌∷◌, map}
use Rattle.refusals.specs.Refusals.{number_in, reasons, reason_of}

one_to_29 : List ℕ
one_to_29 = 1 ∷ 2 ∷ 3 ∷ 4 ∷ 5 ∷ 6 ∷ 7 ∷ 8 ∷ 9 ∷ 10 ∷ 11 ∷ 12 ∷ 13 ∷ 14 ∷ 15 ∷ 16 ∷ 17 ∷ 18 ∷ 19 ∷ 20 ∷ 21 ∷ 22 ∷ 23 ∷ 24 ∷ 25 ∷ 26 ∷ 27 ∷ 28 ∷ 29 ∷ []

-- the numbers of the reasons in their order
reason_numbers : map number_in reasons ≡ one_to_29
unfolding one_to_29
reason_numbers = refl

-- the reason with a number has that number
numbers_back : map (λ n. number_in (reason_of n)) one_to_29 ≡ one_to_29
unfolding one_to_29
numbers_back = refl

-- numbers that no refusal has are 28
no_number : map (λ n. number_in (reason_of n)) (0 ∷ 30 ∷ 255 ∷ []) ≡ 28 ∷ 28 ∷ 28 ∷ []
no_number = refl
