-- `journal_check::receive` meets its contract. The loop's invariant: what was read is within the room, whose length stays.
-- Assumes nothing.
use mathlib.Core.Path.{◌≡◌}
use Prim.Native.Nat.{◌-◌, ◌≤◌}
use lib.ListN.{length}
use Rattle.journal_check.proofs.receive.Given as goal

abbrev pub invariant-loop-next : goal.invariant-loop-next
invariant-loop-next g l = (l.count ≤ length l.room) × (length l.room ≡ length l.initial.room)

abbrev pub decreases-loop-next : goal.decreases-loop-next
decreases-loop-next g l = length l.room - l.count
