-- `fields::inside::put_run_at` meets its contract. The loop's invariant: the first i bytes are copied, and all else is as it was.
-- Assumes nothing.
use mathlib.Core.Path.{◌≡◌}
use lib.Seq.{paste}
use Rattle.fields.proofs.inside.put_run_at.Given as goal

abbrev pub invariant-loop-i : goal.invariant-loop-i
invariant-loop-i l = l.out ≡ paste l.initial.out l.at l.bytes l.i
