use Rattle.std.proofs.Common.{arith}
use Rattle.cells.specs.Tables.{counts_in, links_in}
use Rattle.disposal.specs.Walks.{stack_of, walk_of}
use Rattle.disposal.proofs.Places.{rows_full, links_full}
use Rattle.disposal.proofs.Loop.{ended, effort_bound, no_gap}
use Rattle.disposal.proofs.store.Store.walk.Goals as goal

pub loop-place-init : goal.loop-place-init
loop-place-init g c =
    let table = c.args.self.now.table in
    let f = effort_bound (counts_in table) (links_in table) (rows_full table) (links_full table) in
    record { stack = stack_of c.args.from; chain = c.requires.stack; runs = λ v r. r; rests = λ idle. idle; bounded = omega (arith, c.requires.few) }

pub returns : goal.returns
returns g c =
    let m = g.A.Allocator.meaning in
    let e = ended g.E.Element.refs c.args.memory.now (walk_of m c.args.self.now c.args.receipt.now c.args.list.now c.args.from)
    (walk_of m c.loop-place.self c.loop-place.receipt c.loop-place.list c.loop-place.place) (stack_of c.args.from)
    c.in_default.is c.loop-place.invariant in
    record { does = e.does; rests = e.rests }

pub unreachable-requires : goal.unreachable-requires
unreachable-requires g c =
    let w = c.loop-place.invariant in
    no_gap (counts_in c.loop-place.self.table) (links_in c.loop-place.self.table) c.loop-place.place c.in-Some.p c.in-Some.is (cc) w.stack w.chain
