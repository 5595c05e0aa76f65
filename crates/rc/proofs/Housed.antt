-- Cells whose blocks are out stay so, and a new cell stands apart from them.
use Rattle.std.proofs.Common.{◌≡◌, ℕ, zero, suc, ◌+◌, ◌-◌, ◌<◌, Bool, true, ltb, ◌≢◌, List, [], ◌∷◌, length, set, replicate, Some, None}
use Rattle.std.proofs.Common.{Option, refl, sym, ap, subst, add-zero, zero-add, add-suc, suc-add, arith}
use Rattle.std.proofs.lemmas.List.{get_or-set_same, get_or-set_other, get_or_past, set_past}
use Rattle.std.proofs.lemmas.Bool.{cases_lt, cases_eq, true≢false, cond_both}
use Rattle.std.proofs.lemmas.Bool.Decides.{nat_tests}
use Rattle.blocks.specs.Blocks.{block, member, insert, remove, clear}
use Rattle.blocks.specs.declared.block.Block.{Block}
use Rattle.cells.specs.Counts.{none, taken, handles, loose, with_handles, with_loose, admits, one_more, one_looser, admits_strong}
use Rattle.cells.specs.Counts.{admits_weak, with_weak, dying, ownerless}
use Rattle.cells.specs.Rows.{at}
use Rattle.cells.specs.declared.row.Counts.{Counts}
use Rattle.disposal.specs.Books.{Books, none_yet, sole, stray, with_row, left_with, returned, closed, weak_released}
use Rattle.disposal.specs.Disposal.{World, Disposes, Lists, Releases, Release, disposes, lists_none, lists_next, releases_none}
use Rattle.disposal.specs.Disposal.{releases_next, empty, strong_stray, strong_lowered, strong_last, weak}
use Rattle.disposal.specs.declared.store.Receipt.{Receipt}
use Rattle.element.specs.Handles.{handle_of}
use Rattle.element.specs.declared.reference.Reference.{Reference}
use Rattle.element.specs.declared.reference.Sort.{Sort}
use Rattle.element.specs.declared.reference.Sort.TheVariants as sort
use Rattle.rc.specs.Ends.{Goes, Unwrapped}
use Rattle.rc.specs.Housed.{housed_at, housed_from, housed, AllHoused}
use Rattle.references.specs.References.{each, changed, loosened, raised_upto}
use Rattle.rc.specs.Worlds as worlds

-- Blocks

member_remove : (x y : Block) (bs : List Block) → (x.offset ≡ y.offset → ⊥) → member x bs ≡ true → member x (remove y bs) ≡ true
member_remove x y [] ne h = h
member_remove x y (b ∷ bs) ne h = grind (arith, nat_tests, member_remove x y bs ne)

member_insert : (x y : Block) (bs : List Block) → member x bs ≡ true → member x (insert y bs) ≡ true
member_insert x y [] h = grind arith
member_insert x y (b ∷ bs) h = grind (arith, nat_tests, member_insert x y bs)

member_new : (x : Block) (bs : List Block) → member x (insert x bs) ≡ true
member_new x [] = grind (arith, nat_tests)
member_new x (b ∷ bs) = grind (arith, nat_tests, member_new x bs)

-- what is clear of all blocks does not begin where one of them does
pub clear_apart : (q n p s : ℕ) (bs : List Block) → 0 < n → 0 < s → clear q n bs ≡ true → member (block p s) bs ≡ true → q ≢ p
clear_apart q n p s [] hn hs c m = λ e. true≢false (sym m)
clear_apart q n p s (b ∷ bs) hn hs c m = grind (arith, nat_tests, clear_apart q n p s bs hn hs)

-- Rows, place by place

abbrev Homed : List Block → ℕ → Counts → Type 0
Homed out p k = housed_at out p k ≡ true

abbrev pub Housed : List Counts → List Block → Type 0
Housed rows out = (p : ℕ) → housed_at out p (at rows p) ≡ true

from_places : (i : ℕ) (rows : List Counts) (out : List Block) → ((p : ℕ) → Homed out (i + p) (at rows p)) → housed_from i rows out ≡ true
unfolding housed_from
from_places i [] out h = refl
from_places i (k ∷ rows) out h =
    let here = rw add-zero at (h 0) in
    let later = from_places (suc i) rows out (λ p. rw (suc-add i p) (rw add-suc at (h (suc p)))) in
    grind (arith, here, later)

to_places : (i : ℕ) (rows : List Counts) (out : List Block) → housed_from i rows out ≡ true → (p : ℕ) → Homed out (i + p) (at rows p)
unfolding housed_from
to_places i [] out h p = refl
to_places i (k ∷ rows) out h zero = grind arith
to_places i (k ∷ rows) out h (suc p) = grind (arith, to_places (suc i) rows out)

pub gathered : (rows : List Counts) (out : List Block) → Housed rows out → housed rows out ≡ true
gathered rows out h = from_places 0 rows out (λ p. subst (λ (j : ℕ). Homed out j (at rows p)) (sym (zero-add p)) (h p))

pub spread : (rows : List Counts) (out : List Block) → housed rows out ≡ true → Housed rows out
spread rows out h p = subst (λ (j : ℕ). Homed out j (at rows p)) (zero-add p) (to_places 0 rows out h p)

-- the block of a cell
pub home : (out : List Block) (p : ℕ) (k : Counts) → taken k.state ≡ true → Homed out p k
    → (member (block p k.size) out ≡ true) × (0 < k.size)
home out p k t h = grind (arith, nat_tests)

-- One row changes

pub put_row : (rows : List Counts) (out : List Block) (p : ℕ) (k : Counts) → Homed out p k → Housed rows out → Housed (set rows p k) out
put_row rows out p k h H q =
    let same = get_or-set_same rows p k none in
    let apart = get_or-set_other rows p q k none in
    grind (arith, H q, same, apart, set_past rows p k, cases_eq q p, cases_lt p (length rows))

none_at : (n p : ℕ) → at (replicate n none) p ≡ none
none_at zero p = refl
none_at (suc n) zero = refl
none_at (suc n) (suc p) = none_at n p

-- no cell stands in a new table
pub housed_none : (n : ℕ) (out : List Block) → housed (replicate n none) out ≡ true
housed_none n out = gathered (replicate n none) out (λ p. ap (housed_at out p) (none_at n p))

-- References

-- a cell keeps its block while its state and its size stay
abbrev pub Homes : List Block → (Sort → Counts → Counts) → Type 0
Homes out f = (s : Sort) (p : ℕ) (k : Counts) → Homed out p k → Homed out p (f s k)

pub counted_homes : (out : List Block) (n : Sort → Counts → ℕ) → Homes out (λ s k. with_handles s k (n s k))
counted_homes out n sort.Strong p k h = h
counted_homes out n sort.Weak p k h = h

pub loose_homes : (out : List Block) (n : Sort → Counts → ℕ) → Homes out (λ s k. with_loose s k (n s k))
loose_homes out n sort.Strong p k h = h
loose_homes out n sort.Weak p k h = h

pub changed_housed : (test : Sort → Counts → Bool) (f : Sort → Counts → Counts) (out : List Block) → Homes out f
    → (rows : List Counts) (r : Reference) → Housed rows out → Housed (changed test f rows (handle_of r)) out
changed_housed test f out keeps rows r H = at_handle (handle_of r)
  where
    at_handle : (o : Option (Sort × ℕ)) → Housed (changed test f rows o) out
    at_handle None = H
    at_handle (Some (s, p)) =
        cond_both (test s (at rows p)) _ rows (λ z. Housed z out)
        (λ e. put_row rows out p (f s (at rows p)) (keeps s p (at rows p) (H p)) H) (λ e. H)

pub each_housed : (test : Sort → Counts → Bool) (f : Sort → Counts → Counts) (out : List Block) → Homes out f
    → (rows : List Counts) (rs : List Reference) → Housed rows out → Housed (each (λ ks r. changed test f ks (handle_of r)) rows rs) out
each_housed test f out keeps rows [] H = H
each_housed test f out keeps rows (r ∷ rs) H =
    each_housed test f out keeps (changed test f rows (handle_of r)) rs (changed_housed test f out keeps rows r H)

pub upto_housed : (f : ℕ → Reference) (n : ℕ) (rows : List Counts) (out : List Block) → Housed rows out
    → Housed (raised_upto f n rows) out
unfolding raised_upto
upto_housed f zero rows out H = H
upto_housed f (suc n) rows out H =
    changed_housed admits one_more out (counted_homes out (λ s k. handles s k + 1)) _ (f n) (upto_housed f n rows out H)

-- Blocks that come and go

-- a block more, with a cell in it
pub made_housed : (rows : List Counts) (out : List Block) (p : ℕ) (k : Counts) → 0 < k.size → Housed rows out
    → Housed (set rows p k) (insert (block p k.size) out)
made_housed rows out p k s H =
    put_row rows _ p k (let new = member_new (block p k.size) out in grind (arith, nat_tests))
    (λ q. grind (arith, H q, member_insert (block q (at rows q).size) (block p k.size) out))

-- a block less, and no cell where it was
gone_housed : (rows : List Counts) (out : List Block) (p s : ℕ) → Housed rows out → Housed (set rows p none) (remove (block p s) out)
gone_housed rows out p s H q =
    let fewer = member_remove (block q (at rows q).size) (block p s) out in
    let same = get_or-set_same rows p none none in
    let apart = get_or-set_other rows p q none none in
    let past = get_or_past rows p none in
    grind (arith, H q, fewer, same, apart, past, set_past rows p none, cases_eq q p, cases_lt p (length rows))

-- Books

abbrev pub Homely : Books → Type 0
Homely b = Housed b.rows b.meaning.out

left_housed : (b : Books) (p : ℕ) (k : Counts) → Homed b.meaning.out p k → Homely b → Homely (left_with b p k)
left_housed b p k h H =
    cond_both (ltb 0 k.weak) (with_row b p k) (returned b p) Homely
    (λ _. put_row b.rows b.meaning.out p k h H)
    (λ _. gone_housed b.rows b.meaning.out p (at b.rows p).size H)

pub closed_housed : (b : Books) (p : ℕ) → Homely b → Homely (closed b p)
closed_housed b p H =
    let k = at b.rows p in
    cond_both (sole k) (left_with b p (ownerless k)) b Homely
    (λ s. left_housed b p (ownerless k) (let h = H p in grind (arith, nat_tests)) H)
    (λ _. H)

pub weak_released_housed : (b : Books) (p : ℕ) → Homely b → Homely (weak_released b p)
weak_released_housed b p H =
    let k = at b.rows p in
    cond_both (admits_weak k) (left_with b p (with_weak k (k.weak - 1))) (stray b) Homely
    (λ _. left_housed b p (with_weak k (k.weak - 1)) (H p) H)
    (λ _. H)

dying_home : (out : List Block) (p : ℕ) (k : Counts) → admits_strong k ≡ true → Homed out p k → Homed out p (dying k)
dying_home out p k a h = grind (arith, nat_tests)

-- A release, whatever goes with it

mutual
  disposes_housed : {E : Type 0} {refs : E → List Reference} {mem : List E} {p : ℕ} {w v : World E}
      → Disposes refs mem p w v → admits_strong (at w.books.rows p) ≡ true → Homely w.books → Homely v.books
  disposes_housed {p = p} (disposes {w = w} {v = v} l) a H =
      let b = w.books in
      let home = dying_home b.meaning.out p (at b.rows p) a (H p) in
      closed_housed v.books p (lists_housed l (put_row b.rows b.meaning.out p (dying (at b.rows p)) home H))

  lists_housed : {E : Type 0} {refs : E → List Reference} {mem xs : List E} {w v : World E} → Lists refs mem xs w v → Homely w.books
      → Homely v.books
  lists_housed lists_none H = H
  lists_housed (lists_next h t) H = lists_housed t (releases_housed h H)

  releases_housed : {E : Type 0} {refs : E → List Reference} {mem : List E} {rs : List Reference} {w v : World E}
      → Releases refs mem rs w v → Homely w.books → Homely v.books
  releases_housed releases_none H = H
  releases_housed (releases_next h t) H = releases_housed t (release_housed h H)

  pub release_housed : {E : Type 0} {refs : E → List Reference} {mem : List E} {r : Reference} {w v : World E} → Release refs mem r w v
      → Homely w.books → Homely v.books
  release_housed empty H = H
  release_housed (strong_stray a) H = H
  release_housed (strong_lowered {q = q} {w = w} a n) H = put_row w.books.rows w.books.meaning.out q _ (H q) H
  release_housed (strong_last a n d) H = disposes_housed d a H
  release_housed (weak {q = q} {w = w}) H = weak_released_housed w.books q H

-- Worlds

pub row_kept : (w v : worlds.World) (p : ℕ) (k : Counts) → AllHoused w → Homed w.meaning.out p k → v ≡ worlds.with_row w p k → AllHoused v
row_kept w v p k H h e =
    subst AllHoused (sym e)
    (gathered (set w.rows p k) w.meaning.out (put_row w.rows w.meaning.out p k h (spread w.rows w.meaning.out H)))

pub goes_kept : {E : Type 0} {refs : E → List Reference} {memory list list' : List E} {p : ℕ} {w v : worlds.World} {t : Receipt}
    → Goes refs memory p w list t v list' → AllHoused w → AllHoused v
goes_kept {w = w} {v = v} e H = gathered v.rows v.meaning.out (release_housed e.1 (spread w.rows w.meaning.out H))

pub weak_kept : (w v : worlds.World) (p : ℕ) (t : Receipt) → AllHoused w → worlds.books v t ≡ weak_released (worlds.books w none_yet) p
    → AllHoused v
weak_kept w v p t H e =
    gathered v.rows v.meaning.out
    (subst Homely (sym e) (weak_released_housed (worlds.books w none_yet) p (spread w.rows w.meaning.out H)))

pub unwrapped_kept : {E : Type 0} (refs : E → List Reference) (w v : worlds.World) (memory : List E) (p : ℕ) (x : E) → AllHoused w
    → Unwrapped refs w memory p x v → AllHoused v
unwrapped_kept refs w v memory p x H e =
    let out = w.meaning.out in
    let b = worlds.books (worlds.with_rows w (each loosened w.rows (refs x))) none_yet in
    let homes = each_housed admits one_looser out (loose_homes out (λ s k. loose s k + 1)) w.rows (refs x) (spread w.rows out H) in
    subst AllHoused (sym e.1) (gathered (closed b p).rows (closed b p).meaning.out (closed_housed b p homes))
