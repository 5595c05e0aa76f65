use Rattle.std.proofs.Common.{rules, ◌<◌, length, sym, ap, ◌∙◌, arith}
use Rattle.std.proofs.lemmas.Bool.Decides.{nat_tests}
use Rattle.script.proofs.Reading.{read_on, read_start, read_by_fold}
use Rattle.script.proofs.numbers.number_of_bytes.Goals as goal

pub returns : goal.returns
returns c =
    let bs = c.args.bytes.now in
    let not_empty = c.if-is_empty.ensures in
    let some : 0 < length bs = grind (arith, nat_tests) in
    read_by_fold _ _ c.iter.result c.try_fold.new.self _ 0 c.try_fold.result (omega arith) c.try_fold.ensures.ran
    (λ f h n x v q. search rules)
    ∙ ap (read_on 0) c.iter.ensures.rest ∙ sym (read_start bs some)
