-- `host::answered::FoundFromRefusal::from` meets its contract: the number and place, and zeros. What `default` ensures is a pair for each field; the fields
-- behind the place are taken four at a time.
-- Assumes nothing.
use Rattle.host.proofs.Zeros.{zeros}
use Rattle.host.proofs.answered.FoundFromRefusal.from.Goals as goal

pub returns : goal.returns
returns c =
    let header = c.default.ensures.1.1.0 in
    let from_active = c.default.ensures.1.1.1 in
    let from_dropped = from_active.1.1.1.1 in
    let from_generation = from_dropped.1.1.1.1 in
    let from_stale = from_generation.1.1.1.1 in
    rw (
      c.number.ensures,
      header.0,
      header.1.0,
      header.1.1.0,
      header.1.1.1,
      from_active.0,
      from_active.1.0,
      from_active.1.1.0,
      from_active.1.1.1.0,
      from_dropped.0,
      from_dropped.1.0,
      from_dropped.1.1.0,
      from_dropped.1.1.1.0,
      from_generation.0,
      from_generation.1.0,
      from_generation.1.1.0,
      from_generation.1.1.1.0,
      from_stale.0,
      zeros _ _ from_stale.1,
    )
