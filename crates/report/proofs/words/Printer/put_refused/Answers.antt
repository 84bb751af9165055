-- `report::words::Printer::put_refused` meets its contract: two fields and the line's end.
-- Assumes nothing.
use mathlib.Core.Path.{sym}
use Rattle.report.specs.Text.{letters}
use Rattle.report.specs.Report.{refused_line, field}
use Rattle.report.proofs.Pieces.{◌then◌}
use Rattle.report.proofs.words.Printer.put_refused.Goals as goal

pub returns : goal.returns
unfolding refused_line field letters
returns c = rw (sym c.number.ensures) (c.put_field.ensures then c.put_field-2.ensures then c.end_line.ensures)
