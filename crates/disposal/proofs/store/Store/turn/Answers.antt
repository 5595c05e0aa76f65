use Rattle.std.proofs.Common.{◌≡◌, ◌+◌, ◌<◌, ◌∷◌, length, drop, sym, refl, ap, ◌∙◌, Some, None, Option, IsSome, arith, rules}
use Rattle.std.proofs.lemmas.List.{drop_more}
use Rattle.cells.specs.Tables.{links_in}
use Rattle.disposal.specs.Stores.{books_of}
use Rattle.disposal.proofs.Places.{rows_full, links_full, standing_short}
use Rattle.disposal.proofs.Steps.{step_reference, step_element, step_close, turned_at}
use Rattle.disposal.proofs.store.Store.turn.Goals as goal
use Rattle.disposal.proofs.store.Store.turn.Goals.{else-link-via-else-link, else-link-via-then-link+in-None-1}

none_past : {X : Type 0} (o : Option X) → o ≡ None → IsSome o → ⊥
none_past None e h = cc
none_past (Some x) e h = cc

pub returns-then-link-lt-REFERENCES : goal.returns-then-link-lt-REFERENCES
returns-then-link-lt-REFERENCES g c =
    let f = c.turn_reference.ensures in
    let table = c.args.self.now.table in
    turned_at _ _ _ _ _ _ _ _ f.books refl f.links f.place
    (step_reference g.E.Element.refs g.met.E.Element.few c.args.memory.now (books_of g.A.Allocator.meaning c.args.self.now c.args.receipt.now)
    c.args.list.now (links_in table) c.args.p c.args.link c.requires.link
    (rows_full table) (links_full table) c.if-link-lt-REFERENCES.true (standing_short table))

pub returns-in-Some : goal.returns-in-Some
returns-in-Some g c =
    let f = c.turn_element.ensures in
    let mem = c.args.memory.now in
    let n = c.args.link.next in
    let at = c.in-Some.ensures.lookup.3 in
    let here = drop_more mem n c.in-Some.x.now at.0 ∙ ap (λ y. y ∷ drop (n + 1) mem) (sym (at.1 c.in-Some.x.now)) in
    turned_at _ _ _ _ _ _ _ _ f.books f.list f.links refl
    (step_element g.E.Element.refs g.met.E.Element.few mem (books_of g.A.Allocator.meaning c.args.self.now c.args.receipt.now)
    c.args.list.now (links_in c.args.self.now.table) c.args.p c.args.link c.requires.link
    c.in-Some.x.now c.if-link-lt-REFERENCES.false c.if-link.true here)

pub returns-else-link : goal.returns-else-link
returns-else-link g c =
    let f = c.turn_close.ensures in
    let over : c.args.link.next < c.args.link.end → c.args.link.next < length c.args.memory.now → ⊥ =
    elim c.else-link.branch [
      | else-link-via-else-link w ↦ (λ a b. omega arith)
      | else-link-via-then-link+in-None-1 w ↦ (λ a b. none_past w.get.result (search rules) (w.get.ensures.lookup.2 b))
    ] in
    turned_at _ _ _ _ _ _ _ _ f.books refl f.links f.place
    (step_close g.E.Element.refs g.met.E.Element.few c.args.memory.now (books_of g.A.Allocator.meaning c.args.self.now c.args.receipt.now)
    c.args.list.now (links_in c.args.self.now.table) c.args.p c.args.link c.requires.link
    c.if-link-lt-REFERENCES.false over)
