use Rattle.std.proofs.Common.{rules, arith}
use Rattle.blocks.proofs.Pools.{pool_used, pool_full, pool_lowest, pool_hands_out, pool_more, pool_more_held}
use Rattle.blocks.proofs.Pools.{pool_more_inside}
use Rattle.blocks.proofs.pool.PoolAllocator.allocate.Goals as goal

pub returns-in_err-k-clause-hands_out : goal.returns-in_err-k-clause-hands_out
returns-in_err-k-clause-hands_out c =
    let full = pool_full c.args.self.now c.args.n (rw c.in_err-k.ensures.ok_part at c.lowest_free.ensures) in
    search rules

pub overflow_add-self : goal.overflow_add-self
overflow_add-self c = omega (arith, pool_used c.args.self.now)

pub invariant_of-self : goal.invariant_of-self
invariant_of-self c =
    let p = c.args.self.now in
    let e = rw c.in_ok-k.ensures.ok_part at c.lowest_free.ensures in
    record {
      sizes = p.sizes;
      held = pool_more_held p _ c.args.n c.in_ok-k.k (omega arith) (omega arith) e c.fill.ensures;
      inside = pool_more_inside p _ c.args.n c.in_ok-k.k (omega arith) (omega arith) e c.fill.ensures;
      counted = pool_more p _ c.args.n c.in_ok-k.k (omega arith) (omega arith) e c.fill.ensures;
    }

pub returns : goal.returns
returns c =
    let p = c.args.self.now in
    let e = rw c.in_ok-k.ensures.ok_part at c.lowest_free.ensures in
    record {
      hands_out = pool_hands_out p _ c.args.n c.in_ok-k.k (omega arith) (omega arith) e c.fill.ensures;
      lowest = pool_lowest p _ c.args.n c.in_ok-k.k (omega arith) (omega arith) e c.fill.ensures;
    }
