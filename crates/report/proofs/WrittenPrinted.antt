-- What was written is printed: a request for a journal that the operations wrote, with at most 1,024 distinct numbers, prints that it opens with
-- nothing cut, and a line for each number, with its last record. So the index has room for 1,024.
-- Assumes nothing.
use Rattle.std.specs.Prelude.{Ok}
use mathlib.Core.Path.{◌≡◌, refl, sym, ap, ap₂, ◌∙◌}
use mathlib.Core.List.{List, ◌++◌}
use Prim.Native.Nat.{ℕ, ◌≤◌}
use native.Mathlib.Omega.{arith}
use lib.ListN.{length, replicate, length-replicate}
use Rattle.prefix.specs.declared.Header.{Header}
use Rattle.prefix.specs.declared.Slot.{Slot}
use Rattle.prefix.specs.Prefix.{prefix_length}
use Rattle.record.specs.declared.Record.{Record}
use Rattle.record.specs.Message.{Message}
use Rattle.index.specs.declared.Entry.{Entry}
use Rattle.index.specs.Entries.{numbers_of, entries_of, overlay}
use Rattle.index.specs.Insert.{none}
use Rattle.index.proofs.Places.{in_use_lem}
use Rattle.journal.specs.declared.Cut.TheVariants.{None}
use Rattle.journal.specs.Front.{body_limit_max, Front}
use Rattle.journal.specs.Scan.{opened, scan_of}
use Rattle.journal.specs.WrittenBytes.{LeavesPrefix, LeaveAll}
use Rattle.journal.specs.WrittenOpens.{records_from, fresh_front}
use Rattle.journal.proofs.Writes.{written_opens}
use Rattle.report.specs.Request.{rule_in, limit_in, journal_in, request_fault}
use Rattle.report.specs.Report.{open_line, entry_lines, scan_text, report_of}
use Rattle.report.proofs.RequestCases.{sound_size}
use Rattle.report.proofs.Answered.{scanned_report}

-- the text of an open scan, with the entries of its records
opened-text : (f : Front) (rs : List Record) (lent : List Entry)
    → scan_text (Ok (opened f rs None)) (overlay (entries_of rs) lent) ≡ open_line (opened f rs None) ++ entry_lines (entries_of rs)
unfolding scan_text opened
opened-text f rs lent = ap (λ (es : List Entry). open_line (opened f rs None) ++ entry_lines es) (in_use_lem rs lent)

pub written_printed : (i : List ℕ) (h : Header) (first : Slot) (ms : List Message) (x t : List ℕ)
    → request_fault i ≡ 0 → journal_in i ≡ x ++ t → LeavesPrefix h first x → LeaveAll (limit_in i) ms t → limit_in i ≤ body_limit_max
    → length (numbers_of (records_from prefix_length ms)) ≤ 1024
    → report_of i ≡ open_line (opened (fresh_front h first) (records_from prefix_length ms) None) ++ entry_lines (entries_of (records_from prefix_length ms))
written_printed i h first ms x t e j p q l few =
    let lent = replicate 1024 none in
    let room : length lent ≡ 1024 = length-replicate 1024 none in
    let o = written_opens (limit_in i) (rule_in i) lent h first ms x t p q l (omega (arith, sound_size i e, ap length j)) (omega (arith, few, room)) in
    scanned_report i (limit_in i) (rule_in i) (x ++ t) e refl refl (sym j)
    ∙ ap₂ scan_text (ap (λ (n : ℕ). scan_of (limit_in i) (rule_in i) n (x ++ t)) (sym room) ∙ o.answer) o.index
    ∙ opened-text (fresh_front h first) (records_from prefix_length ms) lent
