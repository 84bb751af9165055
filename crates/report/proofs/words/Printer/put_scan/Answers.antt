-- `report::words::Printer::put_scan` meets its contract: the first line, then the entries'; or the refusal's line.
-- Assumes nothing.
use mathlib.Core.Path.{◌≡◌}
use borrow.Author.Rules.{rules}
use Rattle.index.specs.Insert.{none}
use Rattle.report.proofs.Pieces.{◌then◌, printed_as}
use Rattle.report.proofs.Answered.{told_open, told_refused}
use Rattle.report.proofs.words.Printer.put_scan.Goals as goal

pub returns-in-Ok : goal.returns-in-Ok
returns-in-Ok c =
    let zeros : c.default-entries.result ≡ none = search rules in
    let told = rw zeros at c.scan.ensures in
    printed_as (c.put_open.ensures then c.put_entries.ensures) (told_open _ _ _ _ _ _ told.value told.entries_after c.in-Ok.is (search rules) c.min.ensures)

pub returns-in-Err : goal.returns-in-Err
returns-in-Err c =
    let zeros : c.default-entries.result ≡ none = search rules in
    let told = rw zeros at c.scan.ensures in
    printed_as c.put_refused.ensures (told_refused _ _ _ _ _ told.value told.entries_after c.in-Err.is)
