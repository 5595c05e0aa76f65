use Rattle.std.proofs.Common.{arith}
use Rattle.disposal.proofs.Starts.{started}
use Rattle.disposal.proofs.store.Store.settle.Goals as goal

pub walk-requires : goal.walk-requires
walk-requires g c =
    let f = c.lower-place.ensures in
    let s = started g.A.Allocator.meaning g.E.Element.refs g.met.E.Element.few c.args.memory.now c.args.list.now c.args.r
    c.args.self.now c.lower-place.new.self c.args.receipt.now c.lower-place.new.receipt c.lower-place.result f.books f.links f.place in
    record { stack = s.chain; few = omega (arith, s.counted, c.requires) }

pub returns : goal.returns
returns g c =
    let f = c.lower-place.ensures in
    let s = started g.A.Allocator.meaning g.E.Element.refs g.met.E.Element.few c.args.memory.now c.args.list.now c.args.r
    c.args.self.now c.lower-place.new.self c.args.receipt.now c.lower-place.new.receipt c.lower-place.result f.books f.links f.place in
    record { release = s.ends _ c.walk.ensures.does; links = λ rest. c.walk.ensures.rests (s.idle rest) }
