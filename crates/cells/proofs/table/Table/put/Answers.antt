use Rattle.std.proofs.Common.{◌<◌, length, ◌∙◌, arith, rules}
use Rattle.std.proofs.lemmas.List.{length-set}
use Rattle.cells.specs.Rows.{free_row}
use Rattle.cells.proofs.Rows.{counts_set, standing_here, standing_set, small_set}
use Rattle.cells.proofs.table.Table.put.Goals as goal

pub invariant_of-self : goal.invariant_of-self
invariant_of-self c =
    let table = c.args.self.now in
    let full = table.full in
    let l : c.args.p < length table.rows = omega arith in
    let here = standing_here table.rows c.args.p free_row l in
    let sum = standing_set table.rows c.args.p free_row c.args.row.counts l in
    record {
      full = length-set table.rows c.args.p _ ∙ full;
      few = small_set table.rows c.args.p _ table.few (search rules);
      sum = rw counts_set (omega (arith, c.from.ensures, c.from-then-p-lt1024.ensures));
    }
