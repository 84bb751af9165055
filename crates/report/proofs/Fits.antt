-- No text is longer than 90,112 bytes: the first line has at most 352, an entry's line at most 85, and the index has 1,024 entries.
-- Assumes nothing.
use Rattle.std.specs.Prelude.{Result, Ok, Err}
use Rattle.prefix.specs.Slots.{position_number}
use Rattle.refusals.specs.declared.Refusal.{Refusal}
use Rattle.refusals.specs.Refusals.{number_in}
use mathlib.Core.Path.{◌≡◌, refl, ◌∙◌}
use mathlib.Core.Bool.{Bool, true, false}
use mathlib.Core.List.{List, [], ◌∷◌, ◌++◌}
use Prim.Native.Nat.{ℕ, ◌+◌, ◌*◌, ◌≤◌}
use Prim.Native.String.{String}
use native.Mathlib.Omega.{arith}
use lib.Dec.{eqb, lit≤}
use lib.ListN.{length, take, replicate, length-append, length-take, length-replicate}
use Rattle.fields.specs.Fields.{pick, bit_of}
use Rattle.index.specs.declared.Entry.{Entry}
use Rattle.index.specs.Insert.{none}
use Rattle.journal.specs.declared.Cut.{Cut}
use Rattle.journal.specs.declared.Cut.TheVariants.{None, Incomplete, Damaged}
use Rattle.journal.specs.declared.answers.Scan.{Scan}
use Rattle.journal.specs.Scan.{scan_of, index_after}
use Rattle.journal.proofs.OpenScans.{index_length}
use Rattle.report.specs.Text.{letters}
use Rattle.report.specs.Request.{rule_in, limit_in, journal_in, request_fault}
use Rattle.report.specs.Report.{field, cut_text, counters_text, slot_text, open_line, entry_line, entry_lines, refused_line, scan_text, scanned_text, report_of}
use Rattle.report.specs.Bounds.{TextFits}
use Rattle.report.proofs.Spelt.{decimal_most}

-- a piece of at most n bytes
record Within (piece : List ℕ) (n : ℕ) : Type 0 where
  most : length piece ≤ n

-- one behind the other
infixl 5 ◌then◌
◌then◌ : {a b : List ℕ} {m n : ℕ} → Within a m → Within b n → Within (a ++ b) (m + n)
◌then◌ {a = a} {b = b} p q = record { most = rw (length-append a b) (omega (arith, p.most, q.most)) }

-- words of n bytes, and a number behind them
words : (text : String) (n : ℕ) → length (letters text) ≡ n → Within (letters text) n
words text n e = record { most = omega (arith, e) }

named : (name : String) (n x : ℕ) → length (letters name) ≡ n → Within (field name x) (n + 20)
unfolding field
named name n x e = words name n e then record { most = decimal_most x }

-- ---- the lines

cut_most : (c : Cut) → Within (cut_text c) 36
unfolding cut_text letters
cut_most None = record { most = lit≤ tt }
cut_most (Incomplete r) = named " cut=incomplete:" 16 r refl
cut_most (Damaged r) = record { most = omega (arith, (named " cut=damaged:" 13 r refl).most) }

counters_most : (s : Scan) → Within (counters_text s) 172
unfolding counters_text letters
counters_most s =
    named "open end=" 9 s.end refl then named " records=" 9 s.count refl then named " dead=" 6 s.dead refl
    then named " sender=" 8 s.sender refl then named " target=" 8 s.target refl then named " generation=" 12 s.generation refl

slot_most : (s : Scan) → Within (slot_text s) 143
unfolding slot_text letters
slot_most s =
    named " active=" 8 (position_number s.active) refl then named " stale=" 7 (bit_of s.stale) refl then named " reset=" 7 (bit_of s.reset) refl
    then named " watermark=" 11 s.watermark refl then named " boundary=" 10 s.boundary refl

newline : Within (letters "\n") 1
unfolding letters
newline = words "\n" 1 refl

open_most : (s : Scan) → Within (open_line s) 352
unfolding open_line
open_most s = counters_most s then slot_most s then cut_most s.cut then newline

entry_most : (e : Entry) → Within (entry_line e) 85
unfolding entry_line letters
entry_most e = named "entry seq=" 10 e.number refl then named " offset=" 8 e.offset refl then named " body=" 6 e.body refl then newline

refused_most : (n p : ℕ) → Within (refused_line n p) 53
unfolding refused_line letters
refused_most n p = named "refused " 8 n refl then named " at " 4 p refl then newline

entries_most : (es : List Entry) → Within (entry_lines es) (85 * length es)
unfolding entry_lines
entries_most [] = record { most = lit≤ tt }
entries_most (e ∷ es) = let l = entry_most e then entries_most es in record { most = omega (arith, l.most) }

-- ---- the text

taken_most : (n : ℕ) (es : List Entry) → length (take n es) ≤ length es
taken_most n es = rw (length-take n es) (omega arith)

index_size : (limit : ℕ) (s : List ℕ) → length (index_after limit (replicate 1024 none) s) ≡ 1024
index_size limit s = index_length limit (replicate 1024 none) s ∙ length-replicate 1024 none

scan_most : (r : Result Scan Refusal) (es : List Entry) → length es ≡ 1024 → length (scan_text r es) ≤ 87392
unfolding scan_text
scan_most (Ok x) es e = let l = open_most x then entries_most (take x.count es) in omega (arith, l.most, taken_most x.count es, e)
scan_most (Err x) es e = omega (arith, (refused_most (number_in x.reason) x.place).most)

scanned_most : (i : List ℕ) → length (scanned_text i) ≤ 87392
unfolding scanned_text
scanned_most i = scan_most (scan_of (limit_in i) (rule_in i) 1024 (journal_in i)) (index_after (limit_in i) (replicate 1024 none) (journal_in i)) (index_size (limit_in i) (journal_in i))

pub text-fits : TextFits
unfolding report_of
text-fits i = go (eqb (request_fault i) 0)
  where
    go : (b : Bool) → length (pick b (scanned_text i) (refused_line (request_fault i) 0)) ≤ 90112
    go true = omega (arith, scanned_most i)
    go false = omega (arith, (refused_most (request_fault i) 0).most)
