use Rattle.disposal.proofs.Bounds.{lists_at_most, once_each}
use Rattle.disposal.proofs.laws.disposal_is_bounded.Goals as goal

pub returns : goal.returns
returns g c =
    let refs = g.E.Element.refs in
    let mem = c.args.memory.now in
    record { listed = lists_at_most refs mem; once = once_each refs mem }
