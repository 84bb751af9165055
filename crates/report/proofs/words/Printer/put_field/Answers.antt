-- `report::words::Printer::put_field` meets its contract: the name, then the number.
-- Assumes nothing.
use Rattle.report.proofs.Pieces.{◌then◌}
use Rattle.report.proofs.words.Printer.put_field.Goals as goal

pub returns : goal.returns
returns c = c.put.ensures then c.put_number.ensures
