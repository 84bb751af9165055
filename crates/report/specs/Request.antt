-- What a request of the check program asks for: a kind byte and a body whose length the kind fixes, then the journal.
-- Assumes nothing.
use Rattle.std.specs.Prelude.{ℕ, Bool, ◌||◌, List, eqb, ltb, length, get_or, drop}
use Rattle.fields.specs.Fields.{pick, le}
use Rattle.journal.specs.declared.Rule.{Rule}
use Rattle.journal.specs.declared.Rule.TheVariants.{Tail, Anywhere, Salvage}

-- the kind: 1 Tail, 2 Anywhere, 3 Salvage. An input of no bytes has kind 0, which is none
unfoldable pub kind_in : (input : List ℕ) → ℕ
kind_in s = get_or s 0 0

-- how many bytes stand before the journal. Tail: the kind, N and the body limit. Anywhere, Salvage: the kind and the body limit. Any other kind: 0
unfoldable pub head_of : (kind : ℕ) → ℕ
head_of k = pick (eqb k 1) 17 (pick (eqb k 2 || eqb k 3) 9 0)

unfoldable pub rule_in : (input : List ℕ) → Rule
rule_in s = pick (eqb (kind_in s) 1) (Tail (le 8 s 1)) (pick (eqb (kind_in s) 2) Anywhere Salvage)

-- the body limit is the last field before the journal
unfoldable pub limit_in : (input : List ℕ) → ℕ
limit_in s = pick (eqb (kind_in s) 1) (le 8 s 9) (le 8 s 1)

unfoldable pub journal_in : (input : List ℕ) → List ℕ
journal_in s = drop (head_of (kind_in s)) s

-- is the kind unknown, or the input shorter than its kind asks?
unfoldable pub unknown_or_short : (input : List ℕ) → Bool
unknown_or_short s = eqb (head_of (kind_in s)) 0 || ltb (length s) (head_of (kind_in s))

-- the first refusal of the request itself, or 0: 28, unknown or short; 29, a journal above 65,536 bytes
unfoldable pub request_fault : (input : List ℕ) → ℕ
request_fault s = pick (unknown_or_short s) 28 (pick (ltb 65536 (length (journal_in s))) 29 0)
