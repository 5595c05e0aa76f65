use Rattle.std.proofs.Common.{◌≡◌, refl, ap, ◌∙◌, ap₂, arith}
use Rattle.std.proofs.lemmas.Result.{err_from_is_err_and}
use Rattle.cells.specs.Counts.{shared, has_loose, one_held}
use Rattle.cells.specs.declared.row.Shape.TheVariants.{Single}
use Rattle.references.specs.References.{each, held}
use Rattle.rc.specs.Worlds.{World, world, with_row}
use Rattle.rc.proofs.Making.{made}
use Rattle.references.proofs.Naming.{lacks_told, each_padded}
use Rattle.rc.proofs.census.Census.new.Goals as goal

pub returns-then-lacks_some : goal.returns-then-lacks_some
returns-then-lacks_some g c =
    let w = world g.A.Allocator.meaning c.args.self.now in
    let rs = g.E.Element.refs c.args.x in
    let few = g.met.E.Element.few c.args.x in
    let told = lacks_told w.rows rs c.references_of-rs.result c.lacks_some.result c.lacks_some.ensures c.references_of-rs.ensures few in
    grind (arith, told, c.in_ok-check_memory.ensures)

pub returns-in_err-place : goal.returns-in_err-place
returns-in_err-place g c =
    let w = world g.A.Allocator.meaning c.args.self.now in
    let rs = g.E.Element.refs c.args.x in
    let few = g.met.E.Element.few c.args.x in
    let told = lacks_told w.rows rs c.references_of-rs.result c.lacks_some.result c.lacks_some.ensures c.references_of-rs.ensures few in
    let p = err_from_is_err_and c.from_residual-in_err-place.result c.from_residual-in_err-place.ensures.1 in
    rw (p.1, p.2) (grind (arith, told, c.in_ok-check_memory.ensures, c.in_err-place.ensures))

pub returns : goal.returns
returns g c =
    let w = world g.A.Allocator.meaning c.args.self.now in
    let u = world g.A.Allocator.meaning
    (record {
      number = c.allocate.new.self.number;
      store = record { alloc = c.allocate.new.self.store.alloc; table = c.hold_all.new.table };
    }) in
    let v = world g.A.Allocator.meaning c.put.new.self in
    let rs = g.E.Element.refs c.args.x in
    let few = g.met.E.Element.few c.args.x in
    let lacks = lacks_told w.rows rs c.references_of-rs.result c.lacks_some.result c.lacks_some.ensures c.references_of-rs.ensures few in
    let told = c.in_ok-place.ensures in
    let p = c.in_ok-place.place in
    let k = shared Single 1 1 in
    let padded = each_padded has_loose one_held w.rows rs few in
    let held_rows = c.hold_all.ensures ∙ ap₂ (each held) told.2 c.references_of-rs.ensures ∙ padded in
    let written = c.put.ensures ∙ ap (with_row u p) c.shared.ensures.counts in
    let stands = made w u v 1 (each held w.rows rs) k p told.0 told.1 held_rows written in
    let number : v.number ≡ w.number = ap (λ (z : World). z.number) written ∙ told.1 in (
      grind (arith, lacks, c.in_ok-check_memory.ensures, told.0.fitted),
      rw c.of.ensures.ticket ((rw number refl, c.of.ensures.unspent), stands, c.write_at.ensures),
    )
