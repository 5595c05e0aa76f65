use Rattle.std.proofs.Common.{◌≡◌, ℕ, false, sym, ap, ◌∙◌, subst}
use Rattle.blocks.specs.Blocks.{block, member}
use Rattle.cells.specs.Rows.{at}
use Rattle.cells.specs.declared.row.Counts.{Counts}
use Rattle.disposal.specs.Stores.{books_of}
use Rattle.disposal.proofs.Absent.{declined, returned_absent}
use Rattle.disposal.proofs.store.Store.give_back.Goals as goal

pub returns-else-is_ok-clause-books : goal.returns-else-is_ok-clause-books
returns-else-is_ok-clause-books g c =
    let p = c.args.p in
    let m = g.A.Allocator.meaning in
    let b = books_of m c.args.self.now c.args.receipt.now in
    let d = declined m c.args.self.now.alloc c.deallocate.new.self (block p c.from-size.result) c.deallocate.result
    c.deallocate.ensures (sym c.is_ok.ensures.value ∙ c.if-is_ok.false) in
    let e : c.from-size.result ≡ (at b.rows p).size = c.from-size.ensures ∙ ap (λ (k : Counts). k.size) c.get.ensures.counts in
    let absent = subst (λ (n : ℕ). member (block p n) b.meaning.out ≡ false) e d.0 in
    (λ i. record { rows = c.vacate.ensures.counts i; meaning = m (d.1 i); receipt = b.receipt }) ∙ sym (returned_absent b p absent)
