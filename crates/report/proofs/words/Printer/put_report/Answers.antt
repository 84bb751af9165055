-- `report::words::Printer::put_report` meets its contract: what the scan comes to, or the request's own refusal.
-- Assumes nothing.
use Rattle.report.proofs.Pieces.{printed_as}
use Rattle.report.proofs.Answered.{refused_by, scanned_report}
use Rattle.report.proofs.words.Printer.put_report.Goals as goal

pub returns-in-Ok : goal.returns-in-Ok
returns-in-Ok c =
    let asked = c.in-Ok.ensures in
    let r = c.in-Ok.request in
    printed_as c.put_scan.ensures (scanned_report c.args.input.now r.limit r.rule r.journal.now asked.sound asked.limit asked.rule asked.journal)

pub returns-in-Err : goal.returns-in-Err
returns-in-Err c = printed_as c.put_refused.ensures (refused_by c.args.input.now _ c.in-Err.reason c.into.ensures c.in-Err.ensures)
