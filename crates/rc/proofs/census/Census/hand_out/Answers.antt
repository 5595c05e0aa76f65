use Rattle.std.proofs.Common.{ap, ◌∙◌}
use Rattle.cells.specs.Counts.{admits, one_looser}
use Rattle.references.specs.References.{each, loosened}
use Rattle.rc.specs.Worlds.{world}
use Rattle.references.proofs.Naming.{each_padded}
use Rattle.rc.proofs.census.Census.hand_out.Goals as goal

pub returns : goal.returns
returns g c =
    let w = world g.A.Allocator.meaning c.args.self.now in
    let refs = g.E.Element.refs c.args.x.now in
    let padded = each_padded admits one_looser w.rows refs (g.met.E.Element.few c.args.x.now) in
    let loose = c.loosen_all.ensures ∙ ap (each loosened w.rows) c.references_of.ensures ∙ padded in
    rw loose at c.give_up.ensures
