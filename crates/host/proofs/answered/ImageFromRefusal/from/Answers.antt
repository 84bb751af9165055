-- `host::answered::ImageFromRefusal::from` meets its contract: the number and place, and zeros.
-- Assumes nothing.
use Rattle.host.proofs.Zeros.{zeros}
use Rattle.host.proofs.answered.ImageFromRefusal.from.Goals as goal

pub returns : goal.returns
returns c =
    let z = c.default.ensures in
    rw (c.number.ensures, zeros _ _ z.1.1)
