-- The text is lines: it ends in a newline (`ends_line`). A refused request has one line (`lines_refused`), a scan one and one more for each entry that
-- it counts (`lines_told`): no name and no number has a newline in it.
-- Assumes nothing.
use Rattle.std.specs.Prelude.{Result, Ok, Err}
use Rattle.prefix.specs.Slots.{position_number}
use Rattle.index.specs.Insert.{none as no_entry}
use Rattle.journal.specs.Scan.{scan_of, index_after}
use lib.ListN.{replicate}
use Rattle.refusals.specs.declared.Refusal.{Refusal}
use Rattle.refusals.specs.Refusals.{number_in}
use mathlib.Core.Path.{◌≡◌, refl, sym, ap, ◌∙◌}
use mathlib.Core.Bool.{Bool, true, false}
use mathlib.Core.List.{List, [], ◌∷◌, ◌++◌, append_assoc, append-nil}
use Prim.Native.Nat.{ℕ, ◌+◌}
use Prim.Native.String.{String}
use native.Mathlib.Omega.{arith}
use lib.Dec.{eqb}
use lib.ListN.{length, take}
use borrow.Author.Tests.{ne_eqb}
use Rattle.fields.specs.Fields.{pick, bit_of}
use Rattle.index.specs.declared.Entry.{Entry}
use Rattle.journal.specs.declared.Cut.{Cut}
use Rattle.journal.specs.declared.Cut.TheVariants.{None, Incomplete, Damaged}
use Rattle.journal.specs.declared.answers.Scan.{Scan}
use Rattle.report.specs.Text.{letters, decimal}
use Rattle.report.specs.Request.{limit_in, rule_in, journal_in, request_fault}
use Rattle.report.specs.Report.{field, cut_text, counters_text, slot_text, open_line, entry_line, entry_lines, refused_line, scan_text, scanned_text, report_of}
use Rattle.report.proofs.Spelt.{Digits, none, then, decimal-digits}

-- how many newlines there are
unfoldable pub newlines : List ℕ → ℕ
newlines [] = 0
newlines (c ∷ t) = pick (eqb c 10) 1 0 + newlines t

both : (a b : List ℕ) → newlines (a ++ b) ≡ newlines a + newlines b
unfolding newlines
both [] b = omega arith
both (c ∷ a) b = let e = both a b in omega (arith, e)

-- a piece with n newlines, and one behind it
record Counts (piece : List ℕ) (n : ℕ) : Type 0 where
  count : newlines piece ≡ n

infixl 5 ◌also◌
◌also◌ : {a b : List ℕ} {m n : ℕ} → Counts a m → Counts b n → Counts (a ++ b) (m + n)
◌also◌ {a = a} {b = b} p q = record { count = both a b ∙ omega (arith, p.count, q.count) }

-- ---- no name and no number has one

plain : (l : List ℕ) → Digits l → newlines l ≡ 0
unfolding newlines
plain [] none = refl
plain (d ∷ l) (then a b t) = rw (ne_eqb d 10 (λ e. omega (arith, a, e)), plain l t) refl

named : (name : String) (x : ℕ) → newlines (letters name) ≡ 0 → Counts (field name x) 0
unfolding field
named name x e = record { count = both (letters name) (decimal x) ∙ omega (arith, e, plain (decimal x) (decimal-digits x)) }

newline : Counts (letters "\n") 1
unfolding letters newlines
newline = record { count = refl }

cut-plain : (c : Cut) → Counts (cut_text c) 0
unfolding cut_text letters newlines
cut-plain None = record { count = refl }
cut-plain (Incomplete r) = named " cut=incomplete:" r refl
cut-plain (Damaged r) = named " cut=damaged:" r refl

counters_plain : (s : Scan) → Counts (counters_text s) 0
unfolding counters_text letters newlines
counters_plain s =
    named "open end=" s.end refl also named " records=" s.count refl also named " dead=" s.dead refl
    also named " sender=" s.sender refl also named " target=" s.target refl also named " generation=" s.generation refl

slot-plain : (s : Scan) → Counts (slot_text s) 0
unfolding slot_text letters newlines
slot-plain s =
    named " active=" (position_number s.active) refl also named " stale=" (bit_of s.stale) refl also named " reset=" (bit_of s.reset) refl
    also named " watermark=" s.watermark refl also named " boundary=" s.boundary refl

-- ---- a line has one

open_one : (s : Scan) → Counts (open_line s) 1
unfolding open_line
open_one s = counters_plain s also slot-plain s also cut-plain s.cut also newline

entry_one : (e : Entry) → Counts (entry_line e) 1
unfolding entry_line letters newlines
entry_one e = named "entry seq=" e.number refl also named " offset=" e.offset refl also named " body=" e.body refl also newline

refused_one : (n p : ℕ) → Counts (refused_line n p) 1
unfolding refused_line letters newlines
refused_one n p = named "refused " n refl also named " at " p refl also newline

entries_each : (es : List Entry) → Counts (entry_lines es) (length es)
unfolding entry_lines newlines
entries_each [] = record { count = refl }
entries_each (e ∷ es) = let l = entry_one e also entries_each es in record { count = l.count ∙ omega arith }

pub lines_refused : (n p : ℕ) → newlines (refused_line n p) ≡ 1
lines_refused n p = (refused_one n p).count

pub lines_told : (s : Scan) (es : List Entry) → newlines (scan_text (Ok s) es) ≡ 1 + length (take s.count es)
unfolding scan_text
lines_told s es = (open_one s also entries_each (take s.count es)).count

-- a refused scan has one
pub one_refused : (e : Refusal) (es : List Entry) → newlines (scan_text (Err e) es) ≡ 1
unfolding scan_text
one_refused e es = lines_refused (number_in e.reason) e.place

-- ---- the end

-- the last byte is a newline
pub record EndsLine (t : List ℕ) : Type 0 where
  pub front : List ℕ
  pub ends : t ≡ front ++ 10 ∷ []

behind : (a : List ℕ) {b : List ℕ} → EndsLine b → EndsLine (a ++ b)
behind a x = record { front = a ++ x.front; ends = ap (λ (l : List ℕ). a ++ l) x.ends ∙ sym (append_assoc a x.front (10 ∷ [])) }

line_end : EndsLine (letters "\n")
unfolding letters
line_end = record { front = []; ends = refl }

open_ends : (s : Scan) → EndsLine (open_line s)
unfolding open_line
open_ends s = behind (counters_text s ++ slot_text s ++ cut_text s.cut) line_end

entry_ends : (e : Entry) → EndsLine (entry_line e)
unfolding entry_line
entry_ends e = behind (field "entry seq=" e.number ++ field " offset=" e.offset ++ field " body=" e.body) line_end

refused_ends : (n p : ℕ) → EndsLine (refused_line n p)
unfolding refused_line
refused_ends n p = behind (field "refused " n ++ field " at " p) line_end

with_entries : (t : List ℕ) (es : List Entry) → EndsLine t → EndsLine (t ++ entry_lines es)
unfolding entry_lines
with_entries t [] x = record { front = x.front; ends = append-nil t ∙ x.ends }
with_entries t (e ∷ es) x =
    let y = with_entries (t ++ entry_line e) es (behind t (entry_ends e)) in
    record { front = y.front; ends = sym (append_assoc t (entry_line e) (entry_lines es)) ∙ y.ends }

scan_ends : (r : Result Scan Refusal) (es : List Entry) → EndsLine (scan_text r es)
unfolding scan_text
scan_ends (Ok s) es = with_entries (open_line s) (take s.count es) (open_ends s)
scan_ends (Err e) es = refused_ends (number_in e.reason) e.place

pub ends_line : (i : List ℕ) → EndsLine (report_of i)
unfolding report_of scanned_text
ends_line i = go (eqb (request_fault i) 0)
  where
    go : (b : Bool) → EndsLine (pick b (scanned_text i) (refused_line (request_fault i) 0))
    go true = scan_ends (scan_of (limit_in i) (rule_in i) 1024 (journal_in i)) (index_after (limit_in i) (replicate 1024 no_entry) (journal_in i))
    go false = refused_ends (request_fault i) 0
