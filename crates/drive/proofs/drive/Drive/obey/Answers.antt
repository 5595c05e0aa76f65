use Rattle.std.proofs.Common.{refl}
use Rattle.drive.proofs.drive.Drive.obey.Goals as goal

pub returns-in-New : goal.returns-in-New
returns-in-New c = rw c.in-New.is (c.new.result, (c.new.ensures.number, c.new.ensures.references), c.make.ensures, refl)
