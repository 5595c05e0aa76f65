-- How the walk is read while it goes on: its links, the work that they leave, and what a turn does.
use Rattle.std.specs.Prelude.{◌≡◌, ℕ, ◌+◌, ◌-◌, ◌*◌, ◌^◌, ◌<◌, ◌≤◌, min, Bool, false, cond, ◌&&◌, ◌≢◌, List, [], ◌∷◌, ◌++◌, map, take, drop, Some, None, Option, ◌==◌, slice_index_or, slice_set}
use Rattle.std.specs.List.{flat_map, sum_by}
use Rattle.blocks.specs.Meaning.{Meaning}
use Rattle.element.specs.declared.reference.Reference.{Reference}
use Rattle.element.specs.declared.reference.Reference.TheVariants.{Empty, Strong, Weak}
use Rattle.cells.specs.Counts.{admits_strong, with_strong}
use Rattle.cells.specs.Rows.{at, link_at, at_rest}
use Rattle.cells.specs.Tables.{links_in}
use Rattle.cells.specs.declared.row.Counts.{Counts}
use Rattle.cells.specs.declared.row.Link.{Link}
use Rattle.disposal.specs.Books.{Books, stray, with_row, begun, closed, weak_released}
use Rattle.disposal.specs.Disposal.{World, Release, with_books, listing}
use Rattle.disposal.specs.Stores.{world_of}
use Rattle.disposal.specs.declared.store.Receipt.{Receipt}
use Rattle.disposal.specs.declared.store.Store.{Store}

-- Counts

abbrev pub tally : Receipt → ℕ
tally t = t.listed + t.cells + t.blocks + t.strays

-- a count more still fits
abbrev pub room : Receipt → Type 0
room t = tally t < 2 ^ 62

-- One release, computed: all of it, but for the elements of a cell that dies by it

abbrev pub strong_released : Books → ℕ → Books
strong_released b q =
    cond (admits_strong (at b.rows q))
    (cond ((at b.rows q).strong == 1) (begun b q) (with_row b q (with_strong (at b.rows q) ((at b.rows q).strong - 1))))
    (stray b)

abbrev pub released : Reference → Books → Books
released Empty b = b
released (Strong q) b = strong_released b q
released (Weak q) b = weak_released b q

-- a cell dies by the release of r
abbrev pub last : Reference → Books → Bool
last Empty b = false
last (Strong q) b = admits_strong (at b.rows q) && (at b.rows q).strong == 1
last (Weak q) b = false

abbrev pub target : Reference → ℕ
target Empty = 0
target (Strong q) = q
target (Weak q) = q

-- Links

-- of the cell at q with n elements, none of them listed, that is released from back
abbrev pub fresh : ℕ → ℕ → Option ℕ → Link
fresh q n back = record { back = back; next = q; end = q + n; reference = 4 }

abbrev pub reference_done : Link → Link
reference_done k = record { back = k.back; next = k.next; end = k.end; reference = k.reference + 1 }

abbrev pub element_done : Link → Link
element_done k = record { back = k.back; next = k.next + 1; end = k.end; reference = 0 }

-- the next reference of the element that was listed last
abbrev pub next_reference : {E : Type 0} → (E → List Reference) → List E → Link → Reference
next_reference refs mem k = slice_index_or (slice_index_or (map refs mem) (k.next - 1) []) k.reference Empty

-- the links after the release of r, which the cell at back holds
abbrev pub entered : Reference → Books → List (Option Link) → Option ℕ → List (Option Link)
entered r b links back =
    cond (last r b) (slice_set links (target r) (Some (fresh (target r) (at b.rows (target r)).standing back))) links

-- the cell to go on with
abbrev pub onto : Reference → Books → Option ℕ → Option ℕ
onto r b from = cond (last r b) (Some (target r)) from

-- the links after each kind of turn at the cell at p, whose link is k
abbrev pub past_reference : Reference → Books → List (Option Link) → ℕ → Link → List (Option Link)
past_reference r b links p k = entered r b (slice_set links p (Some (reference_done k))) (Some p)

abbrev pub past_element : List (Option Link) → ℕ → Link → List (Option Link)
past_element links p k = slice_set links p (Some (element_done k))

abbrev pub past_end : List (Option Link) → ℕ → List (Option Link)
past_end links p = slice_set links p at_rest

-- Work that is left

pub data Work (E : Type 0) : Type 0 where
  write : E → Work E
  release : Reference → Work E
  close : ℕ → Work E

abbrev pub Do : {E : Type 0} → (E → List Reference) → List E → Work E → World E → World E → Type 0
Do refs mem (write x) w v = v ≡ listing x w
Do refs mem (release r) w v = Release refs mem r w v
Do refs mem (close p) w v = v ≡ with_books w (closed w.books p)

-- one after the other
abbrev pub Does : {E : Type 0} → (E → List Reference) → List E → List (Work E) → World E → World E → Type 0
Does refs mem [] w v = v ≡ w
Does refs mem (x ∷ ws) w v = (u : World _) × Do refs mem x w u × Does refs mem ws u v

abbrev pub works : {E : Type 0} → (E → List Reference) → E → List (Work E)
works refs x = write x ∷ map release (refs x)

-- the work of a cell at p with n elements
abbrev pub disposal : {E : Type 0} → (E → List Reference) → List E → ℕ → ℕ → List (Work E)
disposal refs mem p n = flat_map (works refs) (take n (drop p mem)) ++ (close p ∷ [])

-- what is left of it where the cell's link is k
abbrev pub pending : {E : Type 0} → (E → List Reference) → List E → ℕ → Option Link → List (Work E)
pending refs mem p None = []
pending refs mem p (Some k) =
    map release (drop k.reference (slice_index_or (map refs mem) (k.next - 1) []))
    ++ (flat_map (works refs) (take (k.end - k.next) (drop k.next mem)) ++ (close p ∷ []))

-- and of all the cells of a stack
abbrev pub todo : {E : Type 0} → (E → List Reference) → List E → List (Option Link) → List ℕ → List (Work E)
todo refs mem links [] = []
todo refs mem links (p ∷ st) = pending refs mem p (link_at links p) ++ todo refs mem links st

-- The stack of the cells under disposal

-- the cell at p is under disposal, with the link k
pub record Held (rows : List Counts) (links : List (Option Link)) (p : ℕ) (k : Link) : Type 0 where
  pub here : link_at links p ≡ Some k
  pub dead : (at rows p).strong ≡ 0
  pub open_still : k.reference ≤ 4
  pub short : k.end ≤ k.next + 65535

abbrev pub Away : ℕ → List ℕ → Type 0
Away p [] = Unit {0}
Away p (q ∷ st) = (q ≢ p) × Away p st

-- the links from `from` back are the stack
abbrev pub Chain : List Counts → List (Option Link) → Option ℕ → List ℕ → Type 0
Chain rows links from [] = from ≡ None
Chain rows links from (p ∷ st) = (k : Link) × (from ≡ Some p) × Held rows links p k × Away p st × Chain rows links k.back st

-- the cells that are not on the stack are at rest
abbrev pub Idle : List (Option Link) → List ℕ → Type 0
Idle links st = (p : ℕ) → Away p st → link_at links p ≡ at_rest

-- one cell, or none
abbrev pub stack_of : Option ℕ → List ℕ
stack_of None = []
stack_of (Some p) = p ∷ []

-- A number that falls with each turn

abbrev pub strong_of : Counts → ℕ
strong_of k = min k.strong 65535

abbrev pub effort_of : Option Link → ℕ
effort_of None = 0
effort_of (Some k) = min (5 * (k.end - k.next) + (5 - k.reference)) 327680

abbrev pub effort : List Counts → List (Option Link) → ℕ
effort rows links = 327681 * sum_by strong_of rows + sum_by effort_of links

-- A turn

-- the world, the links, and the cell in hand
pub record Walk (E : Type 0) : Type 0 where
  pub world : World E
  pub links : List (Option Link)
  pub place : Option ℕ

abbrev pub walk_of : {A E : Type 0} → (A → Meaning) → Store A → Receipt → List E → Option ℕ → Walk E
walk_of m s t xs from = record { world = world_of m s t xs; links = links_in s.table; place = from }

pub record Onward {E : Type 0} (refs : E → List Reference) (mem : List E) (s : Walk E) (st : List ℕ) (s' : Walk E) : Type 0 where
  pub stack : List ℕ
  pub chain : Chain s'.world.books.rows s'.links s'.place stack
  pub runs : (v : World E) → Does refs mem (todo refs mem s'.links stack) s'.world v → Does refs mem (todo refs mem s.links st) s.world v
  pub rests : Idle s.links st → Idle s'.links stack
  pub falls : effort s'.world.books.rows s'.links < effort s.world.books.rows s.links
  pub counted : tally s'.world.books.receipt ≤ tally s.world.books.receipt + 1

-- whatever ends what is left to do after the turn, ends what was left to do before
abbrev pub Turned : {E : Type 0} → (E → List Reference) → List E → Walk E → Walk E → Type 0
Turned refs mem s s' = (st : List ℕ) → Chain s.world.books.rows s.links s.place st → Onward refs mem s st s'
