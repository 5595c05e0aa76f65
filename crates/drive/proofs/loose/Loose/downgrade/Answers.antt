use Rattle.std.proofs.lemmas.Result.{err_from_is_err_and}
use Rattle.rc.specs.Worlds.{world}
use Rattle.drive.specs.Commands.{one_weak}
use Rattle.drive.proofs.Held.{same_homes, kept_homes, rc_stays, not_downgraded, weak_stays, both_loose, downgraded}
use Rattle.drive.proofs.loose.Loose.downgrade.Goals as goal

pub settle-requires : goal.settle-requires
settle-requires g c =
    let m = world g.A.Allocator.meaning in
    rc_stays (m c.args.self.now.census) c.args.memory.now c.args.place c.in_ok-rc.rc (m c.rc_from_raw.new.self) c.in_ok-rc.ensures
    (m c.downgrade-given.new.self) c.downgrade-given.result c.downgrade-given.ensures

pub invariant_of-self-in-Break-branch-2 : goal.invariant_of-self-in-Break-branch-2
invariant_of-self-in-Break-branch-2 g c =
    let m = world g.A.Allocator.meaning in
    let w = m c.args.self.now.census in
    let b = m c.settle.new.census in
    let back = not_downgraded w c.args.memory.now c.args.place c.in_ok-rc.rc (m c.rc_from_raw.new.self) c.in_ok-rc.ensures
    (m c.downgrade-given.new.self) b c.settle.ensures.after c.in_err-weak.field-0.0 c.in_err-weak.ensures in
    record { homes = same_homes w b back.1 c.args.self.now.homes }

pub returns-in_err-weak : goal.returns-in_err-weak
returns-in_err-weak g c =
    let m = world g.A.Allocator.meaning in
    let r = err_from_is_err_and c.from_residual-in_err-weak.result c.from_residual-in_err-weak.ensures.1 in
    rw (r.1, r.2) (not_downgraded (m c.args.self.now.census) c.args.memory.now c.args.place c.in_ok-rc.rc (m c.rc_from_raw.new.self)
    c.in_ok-rc.ensures
    (m c.downgrade-given.new.self) (m c.settle.new.census) c.settle.ensures.after c.in_err-weak.field-0.0 c.in_err-weak.ensures)

pub settle_weak-requires : goal.settle_weak-requires
settle_weak-requires g c =
    let m = world g.A.Allocator.meaning in
    weak_stays (m c.args.self.now.census) c.args.memory.now c.args.place c.in_ok-rc.rc (m c.rc_from_raw.new.self) c.in_ok-rc.ensures
    (m c.downgrade-given.new.self) (m c.settle.new.census) c.settle.ensures.after c.in_ok-weak.weak c.in_ok-weak.ensures

pub invariant_of-self-2 : goal.invariant_of-self-2
invariant_of-self-2 g c =
    let m = world g.A.Allocator.meaning in
    let w = m c.args.self.now.census in
    let v = m c.settle_weak.new.census in
    let end = both_loose w c.args.memory.now c.args.place c.in_ok-rc.rc (m c.rc_from_raw.new.self) c.in_ok-rc.ensures
    (m c.downgrade-given.new.self) (m c.settle.new.census) c.settle.ensures.after c.in_ok-weak.weak c.in_ok-weak.ensures v
    c.settle_weak.ensures in
    record { homes = kept_homes w v c.args.place one_weak (λ h. h) end c.args.self.now.homes }

pub returns : goal.returns
returns g c =
    let m = world g.A.Allocator.meaning in
    rw c.at.ensures (downgraded (m c.args.self.now.census) c.args.memory.now c.args.place c.in_ok-rc.rc (m c.rc_from_raw.new.self)
    c.in_ok-rc.ensures
    (m c.downgrade-given.new.self) (m c.settle.new.census) c.settle.ensures.after c.in_ok-weak.weak c.in_ok-weak.ensures
    (m c.settle_weak.new.census) c.settle_weak.ensures)
