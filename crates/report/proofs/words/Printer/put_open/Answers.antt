-- `report::words::Printer::put_open` meets its contract: the counters, the slot, the cut and the line's end.
-- Assumes nothing.
use Rattle.report.specs.Report.{open_line}
use Rattle.report.proofs.Pieces.{◌then◌}
use Rattle.report.proofs.words.Printer.put_open.Goals as goal

pub returns : goal.returns
unfolding open_line
returns c = c.put_counters.ensures then c.put_slot.ensures then c.put_cut.ensures then c.end_line.ensures
