use Rattle.std.proofs.Common.{arith}
use Rattle.disposal.specs.Books.{none_yet}
use Rattle.disposal.proofs.Starts.{alone, nothing}
use Rattle.disposal.proofs.store.Store.dispose.Goals as goal

pub walk-requires : goal.walk-requires
walk-requires g c =
    let f = c.in-Some.ensures in
    let e = nothing c.default-receipt.result c.default-receipt.ensures in
    let s = alone g.A.Allocator.meaning g.E.Element.refs g.met.E.Element.few c.args.memory.now c.args.list.now c.args.p c.in-Some.place
    c.args.self.now c.begin.new.self none_yet c.begin.new.receipt (rw e at f.books) f.links f.place in
    record { stack = s.chain; few = omega (arith, s.counted) }

pub returns : goal.returns
returns g c =
    let f = c.in-Some.ensures in
    let e = nothing c.default-receipt.result c.default-receipt.ensures in
    let s = alone g.A.Allocator.meaning g.E.Element.refs g.met.E.Element.few c.args.memory.now c.args.list.now c.args.p c.in-Some.place
    c.args.self.now c.begin.new.self none_yet c.begin.new.receipt (rw e at f.books) f.links f.place in
    record { dispose = s.ends _ c.walk.ensures.does; links = λ rest. c.walk.ensures.rests (s.idle rest) }
