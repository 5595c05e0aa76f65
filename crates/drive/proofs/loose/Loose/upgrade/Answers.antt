use Rattle.std.proofs.lemmas.Result.{err_from_is_err_and}
use Rattle.rc.specs.Worlds.{world}
use Rattle.drive.specs.Commands.{one_strong}
use Rattle.drive.proofs.Held.{same_homes, kept_homes, weak_still, not_upgraded, none_upgraded, rc_given, both_settled, upgraded}
use Rattle.drive.proofs.loose.Loose.upgrade.Goals as goal

pub settle_weak-requires : goal.settle_weak-requires
settle_weak-requires g c =
    let m = world g.A.Allocator.meaning in
    weak_still (m c.args.self.now.census) c.args.memory.now c.args.place c.in_ok-weak.weak (m c.weak_from_raw.new.self)
    c.in_ok-weak.ensures
    (m c.upgrade-given.new.self) c.upgrade-given.result c.upgrade-given.ensures

pub invariant_of-self-in-Break-branch-2 : goal.invariant_of-self-in-Break-branch-2
invariant_of-self-in-Break-branch-2 g c =
    let m = world g.A.Allocator.meaning in
    let w = m c.args.self.now.census in
    let b = m c.settle_weak.new.census in
    let back = not_upgraded w c.args.memory.now c.args.place c.in_ok-weak.weak (m c.weak_from_raw.new.self) c.in_ok-weak.ensures
    (m c.upgrade-given.new.self) b c.settle_weak.ensures c.in_err-rc.field-0.0 c.in_err-rc.ensures in
    record { homes = same_homes w b back.1 c.args.self.now.homes }

pub returns-in_err-rc : goal.returns-in_err-rc
returns-in_err-rc g c =
    let m = world g.A.Allocator.meaning in
    let r = err_from_is_err_and c.from_residual-in_err-rc.result c.from_residual-in_err-rc.ensures.1 in
    rw (r.1, r.2) (not_upgraded (m c.args.self.now.census) c.args.memory.now c.args.place c.in_ok-weak.weak (m c.weak_from_raw.new.self)
    c.in_ok-weak.ensures
    (m c.upgrade-given.new.self) (m c.settle_weak.new.census) c.settle_weak.ensures c.in_err-rc.field-0.0 c.in_err-rc.ensures)

pub invariant_of-self-in_default : goal.invariant_of-self-in_default
invariant_of-self-in_default g c =
    let m = world g.A.Allocator.meaning in
    let w = m c.args.self.now.census in
    let b = m c.settle_weak.new.census in
    let none = none_upgraded w c.args.memory.now c.args.place c.in_ok-weak.weak (m c.weak_from_raw.new.self) c.in_ok-weak.ensures
    (m c.upgrade-given.new.self) b c.settle_weak.ensures (rw c.in_default.is at c.in_ok-rc.ensures) in
    record { homes = same_homes w b none.1.1.1 c.args.self.now.homes }

pub returns-in_default : goal.returns-in_default
returns-in_default g c =
    let m = world g.A.Allocator.meaning in
    none_upgraded (m c.args.self.now.census) c.args.memory.now c.args.place c.in_ok-weak.weak (m c.weak_from_raw.new.self)
    c.in_ok-weak.ensures
    (m c.upgrade-given.new.self) (m c.settle_weak.new.census) c.settle_weak.ensures (rw c.in_default.is at c.in_ok-rc.ensures)

pub settle-requires : goal.settle-requires
settle-requires g c =
    let m = world g.A.Allocator.meaning in
    rc_given (m c.args.self.now.census) c.args.memory.now c.args.place c.in_ok-weak.weak (m c.weak_from_raw.new.self) c.in_ok-weak.ensures
    (m c.upgrade-given.new.self) (m c.settle_weak.new.census) c.settle_weak.ensures c.in-Some.rc (rw c.in-Some.is at c.in_ok-rc.ensures)

pub invariant_of-self-2 : goal.invariant_of-self-2
invariant_of-self-2 g c =
    let m = world g.A.Allocator.meaning in
    let w = m c.args.self.now.census in
    let v = m c.settle.new.census in
    let end = both_settled w c.args.memory.now c.args.place c.in_ok-weak.weak (m c.weak_from_raw.new.self) c.in_ok-weak.ensures
    (m c.upgrade-given.new.self) (m c.settle_weak.new.census) c.settle_weak.ensures c.in-Some.rc (rw c.in-Some.is at c.in_ok-rc.ensures) v
    c.settle.ensures.after in
    record { homes = kept_homes w v c.args.place one_strong (λ h. h) end c.args.self.now.homes }

pub returns : goal.returns
returns g c =
    let m = world g.A.Allocator.meaning in
    rw c.at.ensures (upgraded (m c.args.self.now.census) c.args.memory.now c.args.place c.in_ok-weak.weak (m c.weak_from_raw.new.self)
    c.in_ok-weak.ensures
    (m c.upgrade-given.new.self) (m c.settle_weak.new.census) c.settle_weak.ensures c.in-Some.rc (rw c.in-Some.is at c.in_ok-rc.ensures)
    (m c.settle.new.census) c.settle.ensures.after)
