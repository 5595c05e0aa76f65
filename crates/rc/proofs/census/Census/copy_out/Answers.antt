use Rattle.std.proofs.Common.{◌≡◌, ◌*◌, false, List, ap, ◌∙◌, subst, arith}
use Rattle.cells.specs.Counts.{shared}
use Rattle.cells.specs.declared.row.Counts.{Counts}
use Rattle.rc.specs.Calls.{Made}
use Rattle.rc.specs.Ends.{copied}
use Rattle.references.specs.References.{nth, raised_upto, overflows}
use Rattle.rc.specs.Worlds.{World, world, with_rows}
use Rattle.rc.proofs.Making.{made}
use Rattle.rc.proofs.census.Census.copy_out.Goals as goal

pub returns : goal.returns
returns g c =
    let w = world g.A.Allocator.meaning c.args.self.now in
    let u = world g.A.Allocator.meaning c.allocate.new.self in
    let between = world g.A.Allocator.meaning c.stand_copy.new.self in
    let p = c.args.p in
    let q = c.in-Ok.q in
    let f = nth g.E.Element.refs c.args.memory.now p in
    let told = c.in-Ok.ensures in
    let up = c.in_ok-raise_all.ensures in
    let upto = λ (k : Counts). raised_upto f (4 * k.standing) w.rows in
    let whole = λ (k : Counts). Made w k.size (upto k) (shared k.shape k.size k.standing) q between in
    let stands = subst whole c.requires
    (made w u between c.args.counts.size (upto c.args.counts) (shared c.args.counts.shape c.args.counts.size c.args.counts.standing) q
    told.0 told.1 (told.2 ∙ up.1) c.stand_copy.ensures.world) in
    let over = λ (k : Counts). overflows f (4 * k.standing) w.rows ≡ false in
    let safe = subst over c.requires up.0 in (
      grind (arith, safe, stands.block.fitted),
      record {
        between = between;
        made = stands;
        fallen = ap {B = World} (λ (rows : List Counts). with_rows between rows) c.lower.ensures;
        memory_after = c.stand_copy.ensures.memory ∙ ap (λ (k : Counts). copied c.args.memory.now p q k.standing) c.requires;
      },
    )
