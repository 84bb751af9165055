-- `crc32::bytewise` meets its contract. The loop's invariant: the register now is that after the bytes so far.
-- Assumes nothing.
use mathlib.Core.Path.{◌≡◌}
use lib.ListN.{take}
use Rattle.crc32.specs.Crc.{crc_from}
use Rattle.crc32.proofs.bytewise.Given as goal

abbrev pub invariant-loop-byte : goal.invariant-loop-byte
invariant-loop-byte l = l.c ≡ crc_from l.state (take l.byte-index l.bytes)
