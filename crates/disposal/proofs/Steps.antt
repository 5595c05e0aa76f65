-- One turn of the walk, at each of its three kinds.
use Rattle.std.proofs.Common.{◌≡◌, ℕ, ◌+◌, ◌<◌, ◌≤◌, ◌-◌, true, false, List, [], ◌∷◌, ◌++◌, map, length, get_or, drop, set, sym, refl, ap, ◌∙◌, subst, ap₂, ⊎_elim, Some, Option, arith}
use Rattle.std.specs.List.{sum_by}
use Rattle.std.proofs.lemmas.Bool.{cases_lt, cases_Bool, cond-true, cond-false, both_ways}
use Rattle.std.proofs.lemmas.List.{get_or-set_same, length-set}
use Rattle.cells.specs.Counts.{none}
use Rattle.cells.specs.Rows.{at, link_at, at_rest}
use Rattle.disposal.specs.Books.{Books, closed}
use Rattle.disposal.specs.Disposal.{World, listing}
use Rattle.disposal.specs.Walks.{Work, Do, Does, released, last, target, onto, disposal, Walk, Turned, Chain, Held, Away, todo, pending, strong_of, effort_of, fresh, reference_done, element_done, next_reference, past_reference, past_element, past_end}
use Rattle.disposal.specs.Walks.Work.{write, release, close}
use Rattle.cells.specs.declared.row.Counts.{Counts}
use Rattle.cells.specs.declared.row.Link.{Link}
use Rattle.element.specs.declared.reference.Reference.{Reference}
use Rattle.disposal.proofs.Splits.{split, one_release, last_release}
use Rattle.disposal.proofs.Totals.{total_falls, total_rises}
use Rattle.disposal.proofs.Chains.{link_within, chain_link, chain_rows, away, todo_link, from_top, idle_link, idle_close}
use Rattle.disposal.proofs.Quiet.{quiet_closed, quiet_released, begun_falls}
use Rattle.disposal.proofs.Strong.{last_begun, strong_within}
use Rattle.disposal.proofs.Pending.{pending_end, pending_element, pending_reference, pending_none, pending_fresh}

abbrev pub walk : {E : Type 0} → Books → List E → List (Option Link) → Option ℕ → Walk E
walk b xs ls from = record { world = record { books = b; list = xs }; links = ls; place = from }

-- equal parts
pub turned_at : {E : Type 0} {refs : E → List Reference} {mem : List E} {s : Walk E}
    (b b' : Books) (xs xs' : List E) (ls ls' : List (Option Link)) (from from' : Option ℕ) → b' ≡ b → xs' ≡ xs → ls' ≡ ls → from' ≡ from → Turned refs mem s (walk b xs ls from) → Turned refs mem s (walk b' xs' ls' from')
turned_at {refs = refs} {mem = mem} {s = s} b b' xs xs' ls ls' from from' eb ex el ep h =
    subst (Turned refs mem s) (λ i. walk (sym eb i) (sym ex i) (sym el i) (sym ep i)) h

-- the link of the cell in hand changes from k to j
advance : (rows rows' : List Counts) (links : List (Option Link)) (p : ℕ) (k j : Link) (rest : List ℕ)
    → ((q : ℕ) → (at rows q).strong ≡ 0 → (at rows' q).strong ≡ 0)
    → j.back ≡ k.back → j.reference ≤ 4 → j.end ≤ j.next + 65535
    → Held rows links p k → Away p rest → Chain rows links k.back rest → Chain rows' (set links p (Some j)) (Some p) (p ∷ rest)
advance rows rows' links p k j rest dead back open_still short held apart below = (
  j,
  refl,
  record {
    here = get_or-set_same links p (Some j) at_rest (link_within links p k held.here);
    dead = dead p held.dead;
    open_still = open_still;
    short = short;
  },
  apart,
  subst (λ (from : Option ℕ). Chain rows' (set links p (Some j)) from rest) (sym back)
      (chain_link rows' links p (Some j) k.back rest apart (chain_rows rows rows' links dead k.back rest below)),
)

advance_todo : {E : Type 0} (refs : E → List Reference) (mem : List E) (links : List (Option Link)) (p : ℕ) (k : Option Link) (rest : List ℕ)
    → p < length links → Away p rest → todo refs mem (set links p k) (p ∷ rest) ≡ pending refs mem p k ++ todo refs mem links rest
advance_todo refs mem links p k rest l apart =
    ap₂ (λ z t. pending refs mem p z ++ t) (get_or-set_same links p k at_rest l) (todo_link refs mem links p k rest apart)

-- the cell at p is in hand, and its link is k
module _ {E : Type 0} (refs : E → List Reference) (few : (x : E) → length (refs x) ≤ 4) (mem : List E) (b : Books) (xs : List E)
    (links : List (Option Link)) (p : ℕ) (k : Link) (here : link_at links p ≡ Some k) where
  abbrev with_list : Books → World E
  with_list b = record { books = b; list = xs }

  within : p < length links
  within = link_within links p k here

  -- one piece of its work is done
  done : (x : Work E) (ws : List (Work E)) (u v : World E) (rest : List ℕ) → pending refs mem p (Some k) ≡ x ∷ ws → Do refs mem x (with_list b) u
      → Does refs mem (ws ++ todo refs mem links rest) u v → Does refs mem (todo refs mem links (p ∷ rest)) (with_list b) v
  done x ws u v rest e d r =
      subst (λ z. Does refs mem (z ++ todo refs mem links rest) (with_list b) v) (sym (ap (pending refs mem p) here ∙ e)) (u, d, r)

  falls : (j : Option Link) → effort_of j + 1 ≤ effort_of (Some k) → sum_by effort_of (set links p j) + 1 ≤ sum_by effort_of links
  falls j h = total_falls effort_of at_rest links p j 1 refl (omega (arith, ap effort_of here))

  pub step_close : 4 ≤ k.reference → (k.next < k.end → k.next < length mem → ⊥)
      → Turned refs mem (walk b xs links (Some p)) (walk (closed b p) xs (past_end links p) k.back)
  step_close open_still over =
      from_top _ b.rows links p k here (λ rest held apart below.
      let q = quiet_closed b p in
      let s1 = held.open_still in
      let fall : effort_of at_rest + 1 ≤ effort_of (Some k) = omega arith in
      let f = falls at_rest fall in
      record {
        stack = rest;
        chain = chain_link (closed b p).rows links p at_rest k.back rest apart (chain_rows b.rows (closed b p).rows links q.dead k.back rest below);
        runs = λ v r. done (close p) _ _ v rest (pending_end refs few mem p k open_still over) refl
            (subst (λ z. Does refs mem z (with_list (closed b p)) v) (todo_link refs mem links p at_rest rest apart) r);
        rests = idle_close links p rest within;
        falls = omega (arith, q.less);
        counted = q.counted;
      })

  pub step_element : (x : E) → 4 ≤ k.reference → k.next < k.end → drop k.next mem ≡ x ∷ drop (k.next + 1) mem
      → Turned refs mem (walk b xs links (Some p)) (record { world = listing x (with_list b); links = past_element links p k; place = Some p })
  step_element x open_still more e =
      from_top _ b.rows links p k here (λ rest held apart below.
      let j = element_done k in
      let s1 = held.short in
      let s2 = held.open_still in
      let fall : effort_of (Some j) + 1 ≤ effort_of (Some k) = omega arith in
      let f = falls (Some j) fall in
      record {
        stack = p ∷ rest;
        chain = advance b.rows b.rows links p k j rest (λ q z. z) refl (omega arith) (omega arith) held apart below;
        runs = λ v r. done (write x) _ _ v rest (pending_element refs few mem p k x open_still more e) refl
            (subst (λ z. Does refs mem z (listing x (with_list b)) v) (advance_todo refs mem links p (Some j) rest within apart) r);
        rests = idle_link links p (Some j) rest;
        falls = omega arith;
        counted = omega arith;
      })

  -- the next reference, and the link past it
  abbrev r : Reference
  r = next_reference refs mem k

  abbrev j : Link
  j = reference_done k

  step_held : k.reference < 4 → last r b ≡ false → Turned refs mem (walk b xs links (Some p)) (walk (released r b) xs (set links p (Some j)) (Some p))
  step_held open_still e =
      from_top _ b.rows links p k here (λ rest held apart below.
      let q = quiet_released r b in
      let s1 = held.short in
      let fall : effort_of (Some j) + 1 ≤ effort_of (Some k) = omega arith in
      let f = falls (Some j) fall in
      let rest_of = todo refs mem links rest in
      record {
        stack = p ∷ rest;
        chain = advance b.rows (released r b).rows links p k j rest q.dead refl (omega arith) (omega arith) held apart below;
        runs = λ v z.
            let todo_then = advance_todo refs mem links p (Some j) rest within apart in
            let z1 = subst (λ y. Does refs mem y (with_list (released r b)) v) todo_then z in
            ⊎_elim
            (λ m. done (release r) _ _ v rest (pending_reference refs mem p k m) (one_release refs mem r (with_list b) e) z1)
            (λ m.
            let n = pending_none refs mem p k m in
            subst (λ y. Does refs mem (y ++ rest_of) (with_list b) v) (sym (ap (pending refs mem p) here ∙ n.0))
            (subst (λ y. Does refs mem (pending refs mem p (Some j) ++ rest_of) (with_list (released y b)) v) n.1 z1))
            (cases_lt k.reference (length (get_or (map refs mem) (k.next - 1) [])));
        rests = idle_link links p (Some j) rest;
        falls = omega (arith, q.less);
        counted = q.counted;
      })

  step_dies : length b.rows ≡ 1024 → length links ≡ 1024 → k.reference < 4 → last r b ≡ true → ((q : ℕ) → (at b.rows q).standing ≤ 65535)
      → let new = fresh (target r) (at b.rows (target r)).standing (Some p) in
      Turned refs mem (walk b xs links (Some p)) (walk (released r b) xs (set (set links p (Some j)) (target r) (Some new)) (Some (target r)))
  step_dies lr ll open_still e short =
      from_top _ b.rows links p k here (λ rest held apart below.
      let q = target r in
      let n = (at b.rows q).standing in
      let few-standing = short q in
      let new = fresh q n (Some p) in
      let b' = released r b in
      let ls = set links p (Some j) in
      let u = quiet_released r b in
      let lb = last_begun r b e in
      let s1 = held.short in
      let fall : effort_of (Some j) + 1 ≤ effort_of (Some k) = omega arith in
      let f = falls (Some j) fall in
      let f2 = total_rises effort_of ls q (Some new) in
      let f3 : effort_of (Some new) ≤ 327680 = omega arith in
      let f4 : sum_by strong_of b'.rows + 1 ≤ sum_by strong_of b.rows =
      subst (λ (z : Books). sum_by strong_of z.rows + 1 ≤ sum_by strong_of b.rows) (sym lb.0) (begun_falls b q lb.1) in
      let q1 = strong_within b.rows q lb.1 in
      let q2 : q < length ls = omega (arith, length-set links p (Some j)) in
      let pos : 0 < (at b.rows q).strong = omega (arith, lb.1) in
      let aw = away b.rows links q pos (Some p) (p ∷ rest) (k, refl, held, apart, below) in
      let c1 = advance b.rows b'.rows links p k j rest u.dead refl (omega arith) (omega arith) held apart below in
      let dead : (at b'.rows q).strong ≡ 0 =
      ap (λ (z : Books). (at z.rows q).strong) lb.0 ∙ ap (λ (z : Counts). z.strong) (get_or-set_same b.rows q _ none q1) in
      let rest_of = todo refs mem links rest in
      let held_refs = get_or (map refs mem) (k.next - 1) [] in
      let more : k.reference < length held_refs =
      ⊎_elim (λ m. m) (λ m. absurd (both_ways (last r b) (ap (λ z. last z b) (pending_none refs mem p k m).1) e)) (cases_lt k.reference (length held_refs)) in
      record {
        stack = q ∷ p ∷ rest;
        chain = (
          new,
          refl,
          record { here = get_or-set_same ls q (Some new) at_rest q2; dead = dead; open_still = omega arith; short = omega arith },
          aw,
          chain_link b'.rows ls q (Some new) (Some p) (p ∷ rest) aw c1,
        );
        runs = λ v z.
            let z1 = subst (λ y. Does refs mem y (with_list b') v)
            (advance_todo refs mem ls q (Some new) (p ∷ rest) q2 aw
            ∙ ap₂ (λ a d. a ++ d) (pending_fresh refs few mem q n (Some p)) (advance_todo refs mem links p (Some j) rest within apart)) z in
            let w = split refs mem (disposal refs mem q n) (pending refs mem p (Some j) ++ rest_of) (with_list b') v z1 in
            done (release r) _ _ v rest (pending_reference refs mem p k more) (last_release refs mem r (with_list b) w.0 e w.1) w.2;
        rests = λ idle. idle_link ls q (Some new) (p ∷ rest) (λ i a. idle_link links p (Some j) rest idle i a.1);
        falls = omega arith;
        counted = u.counted;
      })

  pub step_reference : length b.rows ≡ 1024 → length links ≡ 1024 → k.reference < 4 → ((q : ℕ) → (at b.rows q).standing ≤ 65535)
      → Turned refs mem (walk b xs links (Some p)) (walk (released r b) xs (past_reference r b links p k) (onto r b (Some p)))
  step_reference lr ll open_still short =
      ⊎_elim
      (λ e. turned_at _ _ _ _ _ _ _ _ refl refl (cond-true _ _ _ e) (cond-true _ _ _ e) (step_dies lr ll open_still e short))
      (λ e. turned_at _ _ _ _ _ _ _ _ refl refl (cond-false _ _ _ e) (cond-false _ _ _ e) (step_held open_still e))
      (cases_Bool (last r b))
