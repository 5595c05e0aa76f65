use Rattle.element.specs.declared.note.Note.{Note}
use Rattle.rc.specs.Worlds.{world}
use Rattle.rc.proofs.Housed.{unwrapped_kept}
use Rattle.drive.specs.Meanings.{references_of}
use Rattle.drive.proofs.Held.{same_homes, held_homes, unwrapped, handle_stays, handle_back, not_unwrapped}
use Rattle.drive.proofs.loose.Loose.try_unwrap.Goals as goal

pub invariant_of-self-in-Ok-1 : goal.invariant_of-self-in-Ok-1
invariant_of-self-in-Ok-1 g c =
    let m = world g.A.Allocator.meaning in
    let u = m c.rc_from_raw.new.self in
    let homes = held_homes (m c.args.self.now.census) c.args.memory.now c.args.place c.in_ok-rc.rc u c.in_ok-rc.ensures
    c.args.self.now.homes in
    record {
      homes = unwrapped_kept references_of u (m c.try_unwrap.new.self) c.args.memory.now c.in_ok-rc.rc.ticket.place c.in-Ok.note
          homes c.in-Ok.ensures.1;
    }

pub settle-requires : goal.settle-requires
settle-requires g c =
    let m = world g.A.Allocator.meaning in
    handle_stays (m c.args.self.now.census) c.args.memory.now c.args.place c.in_ok-rc.rc (m c.rc_from_raw.new.self) c.in_ok-rc.ensures
    references_of (m c.try_unwrap.new.self) c.in-Err.refused c.in-Err.ensures

pub invariant_of-self-in-Err : goal.invariant_of-self-in-Err
invariant_of-self-in-Err g c =
    let m = world g.A.Allocator.meaning in
    let w = m c.args.self.now.census in
    let v = m c.settle.new.census in
    let back = handle_back w c.args.memory.now c.args.place c.in_ok-rc.rc (m c.rc_from_raw.new.self) c.in_ok-rc.ensures
    references_of (m c.try_unwrap.new.self) c.in-Err.refused c.in-Err.ensures v c.settle.ensures.after in
    record { homes = same_homes w v back c.args.self.now.homes }

pub returns-in-Ok : goal.returns-in-Ok
returns-in-Ok g c =
    let m = world g.A.Allocator.meaning in
    unwrapped (m c.args.self.now.census) c.args.memory.now c.args.place c.in_ok-rc.rc (m c.rc_from_raw.new.self) c.in_ok-rc.ensures
    references_of (m c.try_unwrap.new.self) (λ (n : Note). n.number) c.in-Ok.note c.in-Ok.ensures

pub returns-in-Err : goal.returns-in-Err
returns-in-Err g c =
    let m = world g.A.Allocator.meaning in
    not_unwrapped (m c.args.self.now.census) c.args.memory.now c.args.place c.in_ok-rc.rc (m c.rc_from_raw.new.self) c.in_ok-rc.ensures
    references_of (m c.try_unwrap.new.self) c.in-Err.refused c.in-Err.ensures (λ (n : Note). n.number) (m c.settle.new.census)
    c.settle.ensures.after
