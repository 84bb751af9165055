-- An index of 1,024 entries, and no more: a journal of which more distinct numbers are read prints `refused 16`, at the first record that isn't filed,
-- and nothing else.
-- Assumes nothing.
use mathlib.Core.Path.{◌≡◌, refl, ap, ◌∙◌}
use mathlib.Core.List.{List, []}
use Rattle.std.specs.Prelude.{Result, Err}
use Rattle.refusals.specs.declared.Refusal.{Refusal}
use Rattle.refusals.specs.Refusals.{refusal}
use Prim.Native.Nat.{ℕ, ◌≤◌, ◌<◌}
use native.Mathlib.Omega.{arith}
use lib.ListN.{length, drop, replicate}
use borrow.Author.Tests.{eq-eqb, ne_eqb}
use Rattle.fields.specs.Fields.{max64}
use Rattle.prefix.specs.Prefix.{prefix_length}
use Rattle.record.specs.declared.Record.{Record}
use Rattle.index.specs.declared.Entry.{Entry}
use Rattle.index.specs.Entries.{numbers_of}
use Rattle.index.specs.Filing.{filing}
use Rattle.index.specs.Insert.{none}
use Rattle.index.proofs.Filing.{fault_none, filing_whole, filing-fits, filed_16}
use Rattle.journal.specs.declared.Rule.{Rule}
use Rattle.journal.specs.declared.answers.Scan.{Scan}
use Rattle.journal.specs.Front.{front_fault}
use Rattle.journal.specs.Walk.{reading, end_of}
use Rattle.journal.specs.Walked.{kept, walk_of}
use Rattle.journal.specs.Scan.{answer_by, scan_records, scan_of, index_after}
use Rattle.journal.proofs.Never18.{never_18}
use Rattle.report.specs.Request.{rule_in, limit_in, journal_in, request_fault}
use Rattle.report.specs.Report.{refused_line, scan_text, report_of}
use Rattle.report.proofs.RequestCases.{sound_size}
use Rattle.report.proofs.Answered.{scanned_report}

-- the numbers that are read of a journal, each once
abbrev pub numbers_read : (limit : ℕ) (journal : List ℕ) → List ℕ
numbers_read limit s = numbers_of (reading limit (drop prefix_length s)).records

module _ (limit : ℕ) (rule : Rule) (room : ℕ) (s : List ℕ) (front : front_fault limit s ≡ 0) (many : room < length (numbers_read limit s)) where
  abbrev rs : List Record
  rs = (reading limit (drop prefix_length s)).records

  not_all : (filing room rs).fault ≡ 0 → ⊥
  not_all z = omega (arith, many, (fault_none room (filing room rs).kept (filing-fits room rs)).0, ap (λ (l : List Record). length (numbers_of l)) (filing_whole room rs z))

  by_fault : scan_of limit rule room s ≡ Err (refusal (filing room rs).fault (end_of (kept limit room (drop prefix_length s))))
  unfolding scan_of scan_records answer_by walk_of kept
  by_fault = rw (eq-eqb _ _ front, ne_eqb _ _ not_all) refl

  not_18 : length s ≤ max64 → (filing room rs).fault ≡ 18 → ⊥
  not_18 size z = never_18 limit rule room s (end_of (kept limit room (drop prefix_length s))) size (by_fault ∙ ap (λ (n : ℕ). Err (refusal n (end_of (kept limit room (drop prefix_length s))))) z)

  full_scan : length s ≤ max64 → scan_of limit rule room s ≡ Err (refusal 16 (end_of (kept limit room (drop prefix_length s))))
  unfolding filing
  full_scan size = by_fault ∙ ap (λ (n : ℕ). Err (refusal n (end_of (kept limit room (drop prefix_length s))))) (filed_16 room [] rs not_all (not_18 size))

refused-text : (p : ℕ) (es : List Entry) → scan_text (Err (refusal 16 p)) es ≡ refused_line 16 p
unfolding scan_text
refused-text p es = refl

pub full_refused : (i : List ℕ) → request_fault i ≡ 0 → front_fault (limit_in i) (journal_in i) ≡ 0 → 1024 < length (numbers_read (limit_in i) (journal_in i))
    → report_of i ≡ refused_line 16 (end_of (kept (limit_in i) 1024 (drop prefix_length (journal_in i))))
full_refused i e front many =
    let es = index_after (limit_in i) (replicate 1024 none) (journal_in i) in
    scanned_report i (limit_in i) (rule_in i) (journal_in i) e refl refl refl
    ∙ ap (λ (x : Result Scan Refusal). scan_text x es) (full_scan (limit_in i) (rule_in i) 1024 (journal_in i) front many (omega (arith, sound_size i e)))
    ∙ refused-text (end_of (kept (limit_in i) 1024 (drop prefix_length (journal_in i)))) es
