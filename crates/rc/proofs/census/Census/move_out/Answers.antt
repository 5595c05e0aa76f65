use Rattle.std.proofs.Common.{ap, ◌∙◌, subst, arith}
use Rattle.cells.specs.Counts.{shared}
use Rattle.cells.specs.declared.row.Counts.{Counts}
use Rattle.rc.specs.Calls.{Made}
use Rattle.disposal.specs.Books.{Books}
use Rattle.rc.specs.Ends.{copied}
use Rattle.rc.specs.Worlds.{World, world, after}
use Rattle.rc.proofs.Making.{made}
use Rattle.rc.proofs.census.Census.move_out.Goals as goal

pub returns : goal.returns
returns g c =
    let w = world g.A.Allocator.meaning c.args.self.now in
    let u = world g.A.Allocator.meaning c.allocate.new.self in
    let between = world g.A.Allocator.meaning c.stand_copy.new.self in
    let p = c.args.p in
    let q = c.in_ok-q.q in
    let told = c.in_ok-q.ensures in
    let whole = λ (k : Counts). Made w k.size w.rows (shared k.shape k.size k.standing) q between in
    let stands = subst whole c.requires
    (made w u between c.args.counts.size w.rows (shared c.args.counts.shape c.args.counts.size c.args.counts.standing) q told.0 told.1
    told.2 c.stand_copy.ensures.world) in (
      grind (arith, stands.block.fitted),
      record {
        between = between;
        made = stands;
        left = ap {B = World} (λ (b : Books). after between b) c.retire.ensures.books;
        memory_after = c.stand_copy.ensures.memory ∙ ap (λ (k : Counts). copied c.args.memory.now p q k.standing) c.requires;
      },
    )
