use Rattle.rc.specs.Worlds.{world}
use Rattle.drive.proofs.Held.{decremented_homes}
use Rattle.drive.proofs.loose.Loose.decrement.Goals as goal

pub invariant_of-self : goal.invariant_of-self
invariant_of-self g c =
    let m = world g.A.Allocator.meaning in
    let call = c.decrement_strong_count in
    let left = decremented_homes (m c.args.self.now.census) c.args.memory.now c.args.place (m call.new.self) c.args.self.now.homes in
    record { homes = left g.E.Element.refs c.args.list.now call.new.list call.result call.ensures }
