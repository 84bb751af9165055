-- `report::report` meets its contract: the whole text is printed from the front on.
-- Assumes nothing.
use borrow.Author.Rules.{rules}
use Rattle.report.proofs.Pieces.{prints_all, last_bytes}
use Rattle.report.proofs.report.Goals as goal

pub returns-clause-value : goal.returns-clause-value
returns-clause-value c = (prints_all _ _ _ _ c.new-text.ensures c.put_report.ensures).0

pub returns-clause-out_after : goal.returns-clause-out_after
returns-clause-out_after c = last_bytes _ _ _ _ _ c.new-text.ensures c.put_report.ensures (search rules)
