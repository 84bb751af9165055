-- `report::words::Printer::put_entries` meets its contract. The loop's invariant: the entries so far have their lines.
-- Assumes nothing.
use lib.ListN.{take}
use Rattle.report.specs.Report.{entry_lines}
use Rattle.report.specs.Steps.{Prints}
use Rattle.report.proofs.words.Printer.put_entries.Given as goal

abbrev pub invariant-loop-entry : goal.invariant-loop-entry
invariant-loop-entry l = Prints (entry_lines (take l.entry-index l.entries)) l.initial.self l.self
