use Rattle.std.proofs.Common.{sym, subst}
use Rattle.rc.specs.Housed.{AllHoused}
use Rattle.rc.proofs.Housed.{housed_none}
use Rattle.drive.proofs.loose.Loose.open.Goals as goal

pub invariant_of-result : goal.invariant_of-result
invariant_of-result g c =
    record { homes = subst AllHoused (sym c.open.ensures) (housed_none 1024 (g.A.Allocator.meaning c.args.alloc).out) }
