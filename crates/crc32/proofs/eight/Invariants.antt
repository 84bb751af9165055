-- `crc32::eight` meets its contract. The loop's invariant: r is the register after the last bytes of the eight, one for each row that is done, from a register of
-- 0.
-- Assumes nothing.
use mathlib.Core.Path.{◌≡◌}
use Prim.Native.Nat.{◌-◌}
use lib.ListN.{drop}
use Rattle.crc32.specs.Crc.{crc_from}
use Rattle.crc32.proofs.Rows.{eight_of}
use Rattle.crc32.proofs.eight.Given as goal

abbrev pub invariant-loop-row : goal.invariant-loop-row
invariant-loop-row l = l.r ≡ crc_from 0 (drop (8 - l.row) (eight_of l.x l.bytes))
