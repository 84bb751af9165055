-- What a caller may rely on who lends a buffer and reads a part of its input: no text is longer than 90,112 bytes, and the first 65,554 bytes of an
-- input decide the whole text.
-- Assumes nothing.
use Rattle.std.specs.Prelude.{ℕ, ◌≤◌, ◌≡◌, List, length, take}
use Rattle.report.specs.Report.{report_of}

-- every text, whatever the input: also where its numbers aren't bytes
abbrev pub TextFits : Type 0
TextFits = (input : List ℕ) → length (report_of input) ≤ 90112

-- 65,554 is one byte more than a kind, its numbers and 65,536 bytes of journal: who reads so many, or more, sees that a journal is too long
abbrev pub FrontDecides : Type 0
FrontDecides = (n : ℕ) → 65554 ≤ n → (input : List ℕ) → report_of (take n input) ≡ report_of input
