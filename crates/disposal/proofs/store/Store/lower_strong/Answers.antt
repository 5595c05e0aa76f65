use Rattle.std.proofs.Common.{◌≡◌, ◌-◌, true, set, sym, ap, ◌∙◌, rules}
use Rattle.std.proofs.lemmas.Bool.{cond-true, cond-false}
use Rattle.std.proofs.lemmas.List.{set-get_or}
use Rattle.element.specs.declared.reference.Reference.TheVariants.{Strong}
use Rattle.cells.specs.Counts.{admits_strong, with_strong}
use Rattle.cells.specs.Rows.{at, at_rest}
use Rattle.cells.specs.Tables.{counts_in, links_in}
use Rattle.disposal.specs.Stores.{books_of}
use Rattle.disposal.proofs.Strong.{sole_last, last_begun, fewer}
use Rattle.disposal.proofs.store.Store.lower_strong.Goals as goal

pub returns-then-cell-eq0 : goal.returns-then-cell-eq0
returns-then-cell-eq0 g c =
    let f = c.begin.ensures in
    let k = at (counts_in c.args.self.now.table) c.args.p in
    let a : admits_strong k ≡ true = search rules in
    let e : c.in-Some.cell.counts ≡ with_strong k (k.strong - 1) = search rules in
    let b = books_of g.A.Allocator.meaning c.args.self.now c.args.receipt.now in
    let d = sole_last b c.args.p _ a e c.if-cell-eq0.true in
    record {
      books = f.books ∙ cond-true _ _ _ d.0 ∙ sym (last_begun (Strong c.args.p) b d.1).0;
      links = f.links ∙ cond-true _ _ _ d.0 ∙ sym (cond-true _ _ _ d.1);
      place = f.place ∙ cond-true _ _ _ d.0 ∙ sym (cond-true _ _ _ d.1);
    }

pub returns-clause-links : goal.returns-clause-links
returns-clause-links g c =
    let table = c.args.self.now.table in
    let k = at (counts_in table) c.args.p in
    let e : c.in-Some.cell.counts ≡ with_strong k (k.strong - 1) = search rules in
    let l : c.in-Some.cell.link ≡ c.get.result.link = search rules in
    let f = fewer (books_of g.A.Allocator.meaning c.args.self.now c.args.receipt.now) c.args.p _ e c.if-cell-eq0.false in
    c.put.ensures.links
    ∙ ap (set (links_in table) c.args.p) (c.from.ensures.1 ∙ l ∙ c.get.ensures.link)
    ∙ set-get_or (links_in table) c.args.p at_rest
    ∙ sym (cond-false _ _ _ f)
