use Rattle.std.proofs.Common.{refl}
use Rattle.drive.proofs.ends.blank.Goals as goal

pub returns : goal.returns
returns c = (c.new.result, (c.new.ensures.number, c.new.ensures.references), refl)
