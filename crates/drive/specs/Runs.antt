-- What a drive replies to a line, and what it leaves.
use Rattle.std.specs.Prelude.{◌≡◌, ℕ, List, [], replicate, Some, None, Ok, Err, Option, Result}
use Rattle.blocks.specs.Kinds.{first_fit_with}
use Rattle.cells.specs.Rows.{at}
use Rattle.element.specs.declared.note.Note.{Note}
use Rattle.element.specs.declared.reference.Reference.TheVariants.{Empty}
use Rattle.rc.specs.Worlds.{World, world, opened}
use Rattle.rc.specs.declared.decline.Decline.{Decline}
use Rattle.script.specs.declared.commands.Command.{Command}
use Rattle.script.specs.declared.commands.Command.TheVariants.{New, Increment, Downgrade, MakeMut}
use Rattle.script.specs.declared.commands.Command.TheVariants.{Decrement, Upgrade, TryUnwrap, ReleaseWeak}
use Rattle.script.specs.declared.lines.Line.{Line}
use Rattle.drive.specs.Commands.{Makes, Increments, Downgrades, MakesOwn, Decrements, Upgrades, Unwraps, Releases}
use Rattle.drive.specs.Meanings.{meaning_of, references_of}
use Rattle.drive.specs.declared.answer.Answer.{Answer}
use Rattle.drive.specs.declared.drive.Drive.{Drive}
use Rattle.drive.specs.declared.reply.Reply.{Reply}
use Rattle.drive.specs.declared.reply.Reply.TheVariants.{Answered, Declined, Unknown}

-- what a drive holds: the world of its census, the memory and the list
pub record State : Type 0 where
  pub world : World
  pub memory : List Note
  pub list : List Note

-- the state of a drive
abbrev pub state_of : Drive → State
state_of d = record { world = world meaning_of d.loose.census; memory = d.memory; list = d.list }

-- a note that refers to nothing
abbrev pub Plain : ℕ → Note → Type 0
Plain n x = (x.number ≡ n) × (x.references ≡ replicate 4 Empty)

-- eight notes with the number 0
abbrev pub Blank : List Note → Type 0
Blank xs = (x : Note) × Plain 0 x × (xs ≡ replicate 8 x)

-- a new drive: no cell and no block over eight places
abbrev pub Opened : State → Type 0
Opened s = (s.world ≡ opened 0 (first_fit_with 8 [])) × Blank s.memory × Blank s.list

-- the memory and the list stay
abbrev Rest : State → State → Type 0
Rest s s' = (s'.memory ≡ s.memory) × (s'.list ≡ s.list)

-- each command, by its number
abbrev pub Obeys : Command → ℕ → State → Result Answer Decline → State → Type 0
Obeys New n s r s' = (x : Note) × Plain n x × Makes references_of s.world s.memory x r s'.world s'.memory × (s'.list ≡ s.list)
Obeys Increment p s r s' = Increments s.world s.memory p r s'.world × Rest s s'
Obeys Downgrade p s r s' = Downgrades s.world s.memory p r s'.world × Rest s s'
Obeys MakeMut p s r s' = MakesOwn references_of s.world s.memory p r s'.world s'.memory × (s'.list ≡ s.list)
Obeys Decrement p s r s' = Decrements references_of s.world s.memory s.list p r s'.world s'.list × (s'.memory ≡ s.memory)
Obeys Upgrade p s r s' = Upgrades s.world s.memory p r s'.world × Rest s s'
Obeys TryUnwrap p s r s' = Unwraps references_of (λ (x : Note). x.number) s.world s.memory p r s'.world × Rest s s'
Obeys ReleaseWeak p s r s' = Releases s.world s.memory p r s'.world × Rest s s'

-- an answer is shown with the counts that its place has then
abbrev pub Shown : State → Answer → ℕ → ℕ → Type 0
Shown s' a strong weak = (strong ≡ (at s'.world.rows a.place).strong) × (weak ≡ (at s'.world.rows a.place).weak)

-- the reply to a line, if the text was one
abbrev pub Runs : Option Line → State → Reply → State → Type 0
Runs None s r s' = (r ≡ Unknown) × (s' ≡ s)
Runs (Some l) s (Answered c n strong weak) s' =
    (c ≡ l.command) × ((a : Answer) × (a.value ≡ n) × Obeys l.command l.number s (Ok a) s' × Shown s' a strong weak)
Runs (Some l) s (Declined why) s' = Obeys l.command l.number s (Err why) s' × (s' ≡ s)
Runs (Some l) s Unknown s' = ⊥
