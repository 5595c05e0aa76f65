use Rattle.disposal.proofs.Outcomes.{disposal_outcome, release_outcome}
use Rattle.disposal.proofs.laws.disposal_stands.Goals as goal

pub returns : goal.returns
returns g c =
    let refs = g.E.Element.refs in
    let mem = c.args.memory.now in
    record { disposes = disposal_outcome refs mem; releases = release_outcome refs mem }
