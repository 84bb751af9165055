-- `report::words::Printer::put_entries` meets its contract: one entry's line more.
-- Assumes nothing.
use native.Mathlib.Omega.{arith}
use Rattle.index.specs.Insert.{none}
use Rattle.report.proofs.Listed.{lines_printed}
use Rattle.report.proofs.words.Printer.put_entries.Goals as goal

pub loop-entry-preserved : goal.loop-entry-preserved
loop-entry-preserved c = lines_printed _ _ none _ _ _ c.loop-entry.invariant c.put_entry.ensures (omega arith)
