-- Text: a run of bytes, each an ASCII letter, digit or sign.
-- Assumes nothing.
use Rattle.std.specs.Prelude.{ℕ, zero, suc, ◌+◌, ◌/◌, ◌%◌, List, [], ◌∷◌, ◌++◌, ltb, length, take, drop}
use Prim.Native.Char.{code}
use Prim.Native.String.{String, [] as none, ◌∷◌ as ◌then◌}
use Rattle.fields.specs.Fields.{pick}

-- the bytes of words
unfoldable pub letters : String → List ℕ
letters none = []
letters (c then s) = code c ∷ letters s

-- x in decimal, with at most n digits: the highest first, and no zero in front of another digit
unfoldable pub digits : (n x : ℕ) → List ℕ
digits zero x = []
digits (suc n) x = pick (ltb x 10) [] (digits n (x / 10)) ++ (48 + x % 10) ∷ []

-- a number of 64 bits in decimal, which has at most 20 digits
unfoldable pub decimal : (x : ℕ) → List ℕ
decimal x = digits 20 x

-- a text laid over the front of a buffer: as much of it as the buffer holds, and what the buffer has behind it
unfoldable pub over : (text out : List ℕ) → List ℕ
over text out = take (length out) text ++ drop (length text) out
