-- `crc32::table::entry` meets its contract: its entries pass the test.
-- Assumes nothing.
use mathlib.Core.Path.{refl}
use native.Mathlib.Omega.{arith}
use Rattle.crc32.specs.Crc.{reduce, feed, feeds, next}
use Rattle.crc32.specs.declared.table.TheConstants.{ENTRIES}
use Rattle.crc32.proofs.Entries.{upto, chained, Tabled, rule}
use Rattle.crc32.proofs.table.entry.Goals as goal

tabled : Tabled 8 ENTRIES
unfolding upto chained next feeds feed reduce
tabled = record { many = refl; right = refl }

pub returns-clause-value : goal.returns-clause-value
returns-clause-value c = rule 8 ENTRIES tabled _ (omega arith)
