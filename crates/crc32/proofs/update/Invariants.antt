-- `crc32::update` meets its contract. The loop's invariant: the register now, sent through the bytes that are left, comes to what the first register comes to
-- through all of them. The measure is how many are left; fewer than eight are left to `bytewise`.
-- Assumes nothing.
use mathlib.Core.Path.{◌≡◌}
use lib.ListN.{length}
use Rattle.crc32.specs.Crc.{crc_from}
use Rattle.crc32.proofs.update.Given as goal

abbrev pub invariant-loop-first : goal.invariant-loop-first
invariant-loop-first l = crc_from l.c l.left ≡ crc_from l.state l.bytes

abbrev pub decreases-loop-first : goal.decreases-loop-first
decreases-loop-first l = length l.left
