-- `report::words::Printer::put_counters` meets its contract: six fields.
-- Assumes nothing.
use Rattle.report.specs.Text.{letters}
use Rattle.report.specs.Report.{counters_text, field}
use Rattle.report.proofs.Pieces.{◌then◌}
use Rattle.report.proofs.words.Printer.put_counters.Goals as goal

pub returns : goal.returns
unfolding counters_text field letters
returns c = c.put_field.ensures then c.put_field-2.ensures then c.put_field-3.ensures then c.put_field-4.ensures then c.put_field-5.ensures then c.put_field-6.ensures
