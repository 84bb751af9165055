-- `report::words::Printer::put_slot` meets its contract: five fields.
-- Assumes nothing.
use mathlib.Core.Path.{◌≡◌, refl}
use denote.Enum.Declared.{tag_of}
use Rattle.prefix.specs.declared.Position.{Position}
use Rattle.prefix.specs.declared.Position.TheVariants.{First, Second}
use Rattle.prefix.specs.contracts.Position.{the_type}
use Rattle.prefix.specs.Slots.{position_number}
use borrow.Author.Rules.{rules}
use Rattle.fields.specs.Fields.{bit_of}
use Rattle.report.specs.Text.{letters}
use Rattle.report.specs.Report.{slot_text, field}
use Rattle.report.proofs.Pieces.{◌then◌}
use Rattle.report.proofs.words.Printer.put_slot.Goals as goal

-- the number that a position is cast to
cast : (p : Position) → tag_of the_type p ≡ position_number p
cast First = refl
cast Second = refl

pub returns : goal.returns
unfolding slot_text field letters
returns c =
    let stale : c.from.result ≡ bit_of c.args.found.stale = search rules in
    let reset : c.from-2.result ≡ bit_of c.args.found.reset = search rules in
    rw (← stale, ← reset, ← (cast c.args.found.active))
    (c.put_field.ensures then c.put_field-2.ensures then c.put_field-3.ensures then c.put_field-4.ensures then c.put_field-5.ensures)
