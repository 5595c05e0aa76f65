use Rattle.std.proofs.Common.{sym, refl, ap, ◌∙◌, arith}
use Rattle.references.specs.References.{each, held}
use Rattle.cells.specs.Counts.{one_looser}
use Rattle.cells.specs.Rows.{at}
use Rattle.element.specs.declared.reference.Sort.TheVariants.{Strong}
use Rattle.rc.specs.Worlds.{world}
use Rattle.rc.specs.declared.handle.Ticket.{Ticket}
use Rattle.rc.proofs.Admitted.{handle_admitted}
use Rattle.rc.proofs.Fresh.{ready, new_fresh, fresh_within, length_each_held}
use Rattle.rc.proofs.Housed.{row_kept, gathered}
use Rattle.drive.proofs.Held.{made_loose}
use Rattle.drive.proofs.loose.Loose.make.Goals as goal

pub settle-requires : goal.settle-requires
settle-requires g c =
    let m = g.A.Allocator.meaning in
    let told = c.in_ok-rc.ensures in
    let rc = c.in_ok-rc.rc in
    let can = ready m c.args.self.now.census (g.met.A.Allocator.small c.args.self.now.census.store.alloc).1 c.args.self.now.homes in
    let u = world m c.new.new.self in
    let new = new_fresh g.E.Element.refs (world m c.args.self.now.census) u c.args.memory.now c.new.new.memory c.args.x rc can told in
    handle_admitted Strong u c.new.new.memory rc.ticket new.fits (ap (λ (t : Ticket). t.census) told.1.0.0 ∙ sym new.number) new.strong

pub invariant_of-self-2 : goal.invariant_of-self-2
invariant_of-self-2 g c =
    let m = g.A.Allocator.meaning in
    let rc = c.in_ok-rc.rc in
    let q = rc.ticket.place in
    let can = ready m c.args.self.now.census (g.met.A.Allocator.small c.args.self.now.census.store.alloc).1 c.args.self.now.homes in
    let u = world m c.new.new.self in
    let new = new_fresh g.E.Element.refs (world m c.args.self.now.census) u c.args.memory.now c.new.new.memory c.args.x rc can
    c.in_ok-rc.ensures in
    record {
      homes = row_kept u (world m c.settle.new.census) q (one_looser Strong (at u.rows q)) (gathered u.rows u.meaning.out new.homes)
          (new.homes q) c.settle.ensures.after;
    }

pub returns : goal.returns
returns g c =
    let m = g.A.Allocator.meaning in
    let refs = g.E.Element.refs in
    let w = world m c.args.self.now.census in
    let told = c.in_ok-rc.ensures in
    let can = ready m c.args.self.now.census (g.met.A.Allocator.small c.args.self.now.census.store.alloc).1 c.args.self.now.homes in
    let here = fresh_within can told.1.1 (omega arith) (length_each_held w.rows (refs c.args.x)) in
    let made = made_loose w (world m c.new.new.self) (world m c.settle.new.census) (each held w.rows (refs c.args.x))
    c.in_ok-rc.rc.ticket.place told.1.1 here c.settle.ensures.after in
    rw (c.at.ensures, c.settle.ensures.place) (told.0, ((refl, refl), made, told.1.2))
