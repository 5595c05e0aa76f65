use Rattle.rc.specs.Worlds.{world}
use Rattle.drive.proofs.Held.{incremented_homes}
use Rattle.drive.proofs.loose.Loose.increment.Goals as goal

pub invariant_of-self : goal.invariant_of-self
invariant_of-self g c =
    let m = world g.A.Allocator.meaning in
    let call = c.increment_strong_count in
    record {
      homes = incremented_homes (m c.args.self.now.census) c.args.memory.now c.args.place (m call.new.self) c.args.self.now.homes
          call.result call.ensures;
    }
