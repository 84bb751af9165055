-- What a request's report is, by its own refusal, and by what the scan of its journal comes to.
-- Assumes nothing.
use mathlib.Core.Path.{◌≡◌, refl, sym, ap, ap₂, ◌∙◌}
use mathlib.Core.List.{List, ◌++◌}
use Prim.Native.Nat.{ℕ, min}
use lib.ListN.{length, take, replicate}
use borrow.Author.Tests.{eq-eqb, ne_eqb}
use Rattle.std.specs.Prelude.{Result, Ok, Err}
use Rattle.refusals.specs.declared.Refusal.{Refusal}
use Rattle.refusals.specs.declared.Reason.{Reason}
use Rattle.refusals.specs.Refusals.{number_in, refused_for}
use Rattle.index.specs.declared.Entry.{Entry}
use Rattle.index.specs.Insert.{none}
use Rattle.journal.specs.declared.Rule.{Rule}
use Rattle.journal.specs.declared.answers.Scan.{Scan}
use Rattle.journal.specs.Scan.{scan_of, index_after}
use Rattle.report.specs.Request.{rule_in, limit_in, journal_in, request_fault}
use Rattle.report.specs.Report.{open_line, refused_line, entry_lines, scan_text, scanned_text, report_of}
use Rattle.report.specs.Steps.{Refuses}
use Rattle.report.proofs.Listed.{lines_all}

-- the text of an opened journal, as far as its entries are counted, and that of a refused one
pub told_open : (x y : Result Scan Refusal) (es left : List Entry) (found : Scan) (k : ℕ) → y ≡ x → left ≡ es → y ≡ Ok found → length left ≡ 1024 → k ≡ min found.count 1024
    → scan_text x es ≡ open_line found ++ entry_lines (take k left)
unfolding scan_text
told_open x y es left found k e i o size m =
    sym (ap₂ scan_text e i)
    ∙ ap (λ (v : Result Scan Refusal). scan_text v left) o
    ∙ ap (λ (t : List ℕ). open_line found ++ t) (lines_all left found.count size ∙ ap (λ (n : ℕ). entry_lines (take n left)) (sym m))

pub told_refused : (x y : Result Scan Refusal) (es left : List Entry) (r : Refusal) → y ≡ x → left ≡ es → y ≡ Err r → scan_text x es ≡ refused_line (number_in r.reason) r.place
unfolding scan_text
told_refused x y es left r e i o = sym (ap₂ scan_text e i) ∙ ap (λ (v : Result Scan Refusal). scan_text v left) o

pub refused_report : (i : List ℕ) (n : ℕ) → n ≡ request_fault i → (request_fault i ≡ 0 → ⊥) → report_of i ≡ refused_line n 0
unfolding report_of
refused_report i n e ne = rw (e, ne_eqb _ _ ne)

-- the same, of the request's own refusal by its definition
pub refused_whole : (i : List ℕ) → (request_fault i ≡ 0 → ⊥) → report_of i ≡ refused_line (request_fault i) 0
refused_whole i ne = refused_report i (request_fault i) refl ne

pub refused_by : (i : List ℕ) (r : Refusal) (reason : Reason) → r ≡ refused_for reason 0 → Refuses i reason → report_of i ≡ refused_line (number_in r.reason) r.place
refused_by i r reason e f = refused_report i (number_in reason) f.number f.fault ∙ ap (λ (x : Refusal). refused_line (number_in x.reason) x.place) (sym e)

pub scanned_report : (i : List ℕ) (limit : ℕ) (rule : Rule) (s : List ℕ) → request_fault i ≡ 0 → limit ≡ limit_in i → rule ≡ rule_in i → s ≡ journal_in i → report_of i ≡ scan_text (scan_of limit rule 1024 s) (index_after limit (replicate 1024 none) s)
unfolding report_of scanned_text
scanned_report i limit rule s e el er es = rw (eq-eqb _ _ e, el, er, es)
