use Rattle.std.proofs.Common.{arith}
use Rattle.blocks.proofs.Pools.{pool_stranger}
use Rattle.blocks.proofs.pool.Pool.slot_of.Goals as goal

pub returns-else-n-gt0 : goal.returns-else-n-gt0
returns-else-n-gt0 c =
    pool_stranger c.args.self.now c.args.offset c.args.n
    (λ some place held. let e = c.else-n-gt0.either in omega arith)
