-- The number of each decline.
use Rattle.std.specs.Prelude.{ℕ}
use Rattle.blocks.specs.Declines as allocator
use Rattle.rc.specs.declared.decline.Decline.{Decline}
use Rattle.rc.specs.declared.decline.Decline.TheVariants.{Memory, List, Handle, Loose, Slice, Index, References, Shared, Count, Allocator}

abbrev pub number_of : Decline → ℕ
number_of Memory = 1
number_of List = 2
number_of Handle = 3
number_of Loose = 4
number_of Slice = 5
number_of Index = 6
number_of References = 7
number_of Shared = 8
number_of Count = 9
number_of (Allocator why) = allocator.number_of why
