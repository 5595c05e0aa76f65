use Rattle.std.proofs.Common.{arith}
use Rattle.blocks.proofs.Pools.{pool_place, pool_takes_back, pool_less, pool_less_held, pool_less_inside}
use Rattle.blocks.proofs.pool.PoolAllocator.deallocate.Goals as goal

pub free-requires : goal.free-requires
free-requires c =
    let e = rw c.in_ok-k.ensures.ok_part at c.slot_of.ensures in
    let f = c.args.self.now.slots.full in
    omega (arith, pool_place c.args.self.now c.in_ok-k.k (omega arith))

pub overflow_sub-self : goal.overflow_sub-self
overflow_sub-self c =
    let e = rw c.in_ok-k.ensures.ok_part at c.slot_of.ensures in
    omega (arith, pool_less c.args.self.now _ c.args.offset c.args.n c.in_ok-k.k e c.free.ensures)

pub invariant_of-self : goal.invariant_of-self
invariant_of-self c =
    let p = c.args.self.now in
    let e = rw c.in_ok-k.ensures.ok_part at c.slot_of.ensures in
    record {
      sizes = p.sizes;
      held = pool_less_held p _ c.args.offset c.args.n c.in_ok-k.k e c.free.ensures;
      inside = pool_less_inside p _ c.args.offset c.args.n c.in_ok-k.k e c.free.ensures;
      counted = omega (arith, pool_less p _ c.args.offset c.args.n c.in_ok-k.k e c.free.ensures);
    }

pub returns : goal.returns
returns c =
    pool_takes_back c.args.self.now _ c.args.offset c.args.n c.in_ok-k.k
    (rw c.in_ok-k.ensures.ok_part at c.slot_of.ensures) c.free.ensures
