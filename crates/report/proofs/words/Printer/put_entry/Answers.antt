-- `report::words::Printer::put_entry` meets its contract: three fields and the line's end.
-- Assumes nothing.
use Rattle.report.specs.Text.{letters}
use Rattle.report.specs.Report.{entry_line, field}
use Rattle.report.proofs.Pieces.{◌then◌}
use Rattle.report.proofs.words.Printer.put_entry.Goals as goal

pub returns : goal.returns
unfolding entry_line field letters
returns c = c.put_field.ensures then c.put_field-2.ensures then c.put_field-3.ensures then c.end_line.ensures
