use Rattle.std.proofs.Common.{[], ◌∷◌, refl}
use Rattle.std.proofs.lemmas.Result.{err_from_is_err_and}
use Rattle.rc.specs.Calls.{held_strong}
use Rattle.rc.specs.Checks.{wrong_memory, no_loose_strong}
use Rattle.rc.specs.Worlds.{world}
use Rattle.cells.specs.Counts.{one_looser}
use Rattle.element.specs.declared.reference.Sort.TheVariants.{Strong}
use Rattle.rc.proofs.Chains.{stopped}
use Rattle.rc.proofs.Fresh.{ready}
use Rattle.drive.specs.Commands.{own_checks}
use Rattle.drive.proofs.Held.{kept_homes, held_homes, rc_held}
use Rattle.drive.proofs.Owned.{rc_kept, not_owned, owned}
use Rattle.drive.proofs.loose.Loose.make_mut.Goals as goal

pub returns-in_err-rc : goal.returns-in_err-rc
returns-in_err-rc g c =
    let r = err_from_is_err_and c.from_residual.result c.from_residual.ensures.1 in
    let w = world g.A.Allocator.meaning c.args.self.now.census in
    let p = c.args.place in
    let memory = c.args.memory.now in
    let told = c.in_err-rc.ensures in
    rw (r.1, r.2) (
      stopped (wrong_memory w memory ∷ no_loose_strong w p ∷ []) (own_checks g.E.Element.refs (held_strong w p) memory p)
          c.in_err-rc.field-0.0 told.0,
      (told.1, refl),
    )

pub settle-own-requires : goal.settle-own-requires
settle-own-requires g c =
    let m = g.A.Allocator.meaning in
    let w = world m c.args.self.now.census in
    let u = world m c.rc_from_raw.new.self in
    let rc = c.in_ok-rc.rc in
    let memory = c.args.memory.now in
    let homes = held_homes w memory c.args.place rc u c.in_ok-rc.ensures c.args.self.now.homes in
    let can = ready m c.rc_from_raw.new.self (g.met.A.Allocator.small c.rc_from_raw.new.self.store.alloc).1 homes in
    (rc_kept g.E.Element.refs u memory rc (world m c.make_mut-made.new.self) c.make_mut-made.new.memory c.make_mut-made.new.rc
    can homes (rc_held w memory c.args.place rc u c.in_ok-rc.ensures) c.make_mut-made.result c.make_mut-made.ensures).0

pub invariant_of-self-2 : goal.invariant_of-self-2
invariant_of-self-2 g c =
    let m = g.A.Allocator.meaning in
    let w = world m c.args.self.now.census in
    let u = world m c.rc_from_raw.new.self in
    let a = world m c.make_mut-made.new.self in
    let rc = c.in_ok-rc.rc in
    let memory = c.args.memory.now in
    let homes = held_homes w memory c.args.place rc u c.in_ok-rc.ensures c.args.self.now.homes in
    let can = ready m c.rc_from_raw.new.self (g.met.A.Allocator.small c.rc_from_raw.new.self.store.alloc).1 homes in
    let kept = rc_kept g.E.Element.refs u memory rc a c.make_mut-made.new.memory c.make_mut-made.new.rc
    can homes (rc_held w memory c.args.place rc u c.in_ok-rc.ensures) c.make_mut-made.result c.make_mut-made.ensures in
    record {
      homes = kept_homes a (world m c.settle-own.new.census) c.make_mut-made.new.rc.ticket.place (one_looser Strong) (λ h. h)
          c.settle-own.ensures.after kept.1;
    }

pub returns-in_err-made : goal.returns-in_err-made
returns-in_err-made g c =
    let m = world g.A.Allocator.meaning in
    let r = err_from_is_err_and c.from_residual-in_err-made.result c.from_residual-in_err-made.ensures.1 in
    rw (r.1, r.2) (not_owned g.E.Element.refs (m c.args.self.now.census) c.args.memory.now c.args.place c.in_ok-rc.rc
    (m c.rc_from_raw.new.self) c.in_ok-rc.ensures
    (m c.make_mut-made.new.self) c.make_mut-made.new.memory c.make_mut-made.new.rc (m c.settle-own.new.census) c.settle-own.ensures.after
    c.in_err-made.field-0.0 c.in_err-made.ensures)

pub returns : goal.returns
returns g c =
    let m = world g.A.Allocator.meaning in
    rw (c.at.ensures, c.settle-own.ensures.place)
    (owned g.E.Element.refs (m c.args.self.now.census) c.args.memory.now c.args.place c.in_ok-rc.rc (m c.rc_from_raw.new.self)
    c.in_ok-rc.ensures
    (m c.make_mut-made.new.self) c.make_mut-made.new.memory c.make_mut-made.new.rc (m c.settle-own.new.census) c.settle-own.ensures.after
    c.in_ok-made.field-0 c.in_ok-made.ensures)
