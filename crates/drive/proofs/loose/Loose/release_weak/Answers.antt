use Rattle.rc.specs.Worlds.{world}
use Rattle.drive.proofs.Held.{weak_released, homes_left}
use Rattle.drive.proofs.loose.Loose.release_weak.Goals as goal

pub invariant_of-self-2 : goal.invariant_of-self-2
invariant_of-self-2 g c =
    let m = world g.A.Allocator.meaning in
    let homes = homes_left (m c.args.self.now.census) c.args.memory.now c.args.place c.in_ok-weak.weak (m c.weak_from_raw.new.self)
    c.in_ok-weak.ensures in
    record { homes = homes c.args.self.now.homes c.release_weak.result (m c.release_weak.new.self) c.release_weak.ensures }

pub unwrap-receipt-requires : goal.unwrap-receipt-requires
unwrap-receipt-requires g c =
    let m = world g.A.Allocator.meaning in
    weak_released (m c.args.self.now.census) c.args.memory.now c.args.place c.in_ok-weak.weak (m c.weak_from_raw.new.self)
    c.in_ok-weak.ensures
    c.release_weak.result (m c.release_weak.new.self) c.release_weak.ensures
