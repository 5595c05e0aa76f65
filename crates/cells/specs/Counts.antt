-- The counts of a cell: which rows are cells, which handles they admit, and each change of a count.
use Rattle.std.specs.Prelude.{ℕ, ◌+◌, ◌-◌, Bool, true, false, cond, ◌&&◌, ◌==◌, nat_le, nat_lt}
use Rattle.cells.specs.declared.row.Counts.{Counts}
use Rattle.cells.specs.declared.row.Shape.{Shape}
use Rattle.cells.specs.declared.row.Shape.TheVariants.{Single}
use Rattle.cells.specs.declared.row.State.{State}
use Rattle.element.specs.declared.reference.Sort.{Sort}
use Rattle.element.specs.declared.reference.Sort.TheVariants.{Strong, Weak}
use Rattle.cells.specs.declared.row.State.TheVariants.{Free, Counted, Unique, Cyclic, Building, Disposing}

-- 1 where an owner stands, who has one of the weak counts
abbrev pub owns : State → ℕ → ℕ
owns Free strong = 0
owns Counted strong = cond (nat_lt 0 strong) 1 0
owns Unique strong = 1
owns Cyclic strong = 1
owns Building strong = 1
owns Disposing strong = 1

abbrev pub owner : Counts → ℕ
owner k = owns k.state k.strong

abbrev pub taken : State → Bool
taken Free = false
taken Counted = true
taken Unique = true
taken Cyclic = true
taken Building = true
taken Disposing = true

-- the loose handles of either sort do not outnumber its count, less the owner's
abbrev pub is_cell : Counts → Bool
is_cell k = taken k.state && (nat_le k.loose_strong k.strong && nat_le (k.loose_weak + owner k) k.weak)

-- one more handle than the loose ones
abbrev pub admits_strong : Counts → Bool
admits_strong k = is_cell k && nat_lt k.loose_strong k.strong

abbrev pub admits_weak : Counts → Bool
admits_weak k = is_cell k && nat_lt (k.loose_weak + owner k) k.weak

-- what stands where no cell does
abbrev pub none : Counts
none = record { state = Free; shape = Single; strong = 0; weak = 0; loose_strong = 0; loose_weak = 0; size = 0; standing = 0 }

-- a cell of one `Rc`
abbrev pub shared : Shape → ℕ → ℕ → Counts
shared s n m = record { state = Counted; shape = s; strong = 1; weak = 1; loose_strong = 0; loose_weak = 0; size = n; standing = m }

abbrev pub with_strong : Counts → ℕ → Counts
with_strong k n = record { state = k.state; shape = k.shape; strong = n; weak = k.weak; loose_strong = k.loose_strong; loose_weak = k.loose_weak; size = k.size; standing = k.standing }

abbrev pub with_weak : Counts → ℕ → Counts
with_weak k n = record { state = k.state; shape = k.shape; strong = k.strong; weak = n; loose_strong = k.loose_strong; loose_weak = k.loose_weak; size = k.size; standing = k.standing }

abbrev pub with_loose_strong : Counts → ℕ → Counts
with_loose_strong k n = record { state = k.state; shape = k.shape; strong = k.strong; weak = k.weak; loose_strong = n; loose_weak = k.loose_weak; size = k.size; standing = k.standing }

abbrev pub with_loose_weak : Counts → ℕ → Counts
with_loose_weak k n = record { state = k.state; shape = k.shape; strong = k.strong; weak = k.weak; loose_strong = k.loose_strong; loose_weak = n; size = k.size; standing = k.standing }

-- By the sort of the handles

-- how many there are
abbrev pub handles : Sort → Counts → ℕ
handles Strong k = k.strong
handles Weak k = k.weak

-- how many of them are loose
abbrev pub loose : Sort → Counts → ℕ
loose Strong k = k.loose_strong
loose Weak k = k.loose_weak

abbrev pub with_handles : Sort → Counts → ℕ → Counts
with_handles Strong k n = with_strong k n
with_handles Weak k n = with_weak k n

abbrev pub with_loose : Sort → Counts → ℕ → Counts
with_loose Strong k n = with_loose_strong k n
with_loose Weak k n = with_loose_weak k n

-- one more handle than the loose ones, and than the owner's
abbrev pub admits : Sort → Counts → Bool
admits Strong k = admits_strong k
admits Weak k = admits_weak k

-- a loose handle stands there
abbrev pub has_loose : Sort → Counts → Bool
has_loose s k = is_cell k && nat_lt 0 (loose s k)

-- one handle more or less, and one loose one more or less
abbrev pub one_more : Sort → Counts → Counts
one_more s k = with_handles s k (handles s k + 1)

abbrev pub one_less : Sort → Counts → Counts
one_less s k = with_handles s k (handles s k - 1)

abbrev pub one_looser : Sort → Counts → Counts
one_looser s k = with_loose s k (loose s k + 1)

abbrev pub one_held : Sort → Counts → Counts
one_held s k = with_loose s k (loose s k - 1)

-- one more can be counted; a strong one only beside another
abbrev pub may_inc : Sort → Counts → Bool
may_inc Strong k = nat_lt 0 k.strong && nat_lt k.strong 65535
may_inc Weak k = nat_lt k.weak 65535

-- an owner stands, and no strong handle but one at most, which is not loose
abbrev pub last_owner : Counts → Bool
last_owner k = owner k == 1 && (nat_le k.strong 1 && k.loose_strong == 0)

-- the elements are on their way out; the owner's weak count stays
abbrev pub dying : Counts → Counts
dying k = record { state = Disposing; shape = k.shape; strong = 0; weak = k.weak; loose_strong = k.loose_strong; loose_weak = k.loose_weak; size = k.size; standing = 0 }

-- the owner and the elements are gone, and so is the owner's weak count
abbrev pub ownerless : Counts → Counts
ownerless k = record { state = Counted; shape = k.shape; strong = 0; weak = k.weak - 1; loose_strong = k.loose_strong; loose_weak = k.loose_weak; size = k.size; standing = 0 }
