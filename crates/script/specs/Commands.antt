-- The letters of the commands.
use Rattle.std.specs.Prelude.{◌≡◌, ℕ, cond, List, [], ◌∷◌, ◌++◌, Some, None, codes, encode_utf8, Option, Result, MatchResult, ◌==◌, slice_index}
use Prim.Native.String.{String}
use Rattle.script.specs.declared.commands.Command.{Command}
use Rattle.script.specs.declared.commands.Command.TheVariants.{New, Increment, Downgrade, MakeMut}
use Rattle.script.specs.declared.commands.Command.TheVariants.{Decrement, Upgrade, TryUnwrap, ReleaseWeak}
use Rattle.script.specs.declared.commands.UnknownLetter.{UnknownLetter}

-- the code of the one character of a text
abbrev code_of : String → ℕ
code_of s = slice_index (codes s) 0

-- the letter that names a command
abbrev pub letter_of : Command → ℕ
letter_of New = code_of "n"
letter_of Increment = code_of "c"
letter_of Downgrade = code_of "w"
letter_of MakeMut = code_of "m"
letter_of Decrement = code_of "d"
letter_of Upgrade = code_of "u"
letter_of TryUnwrap = code_of "t"
letter_of ReleaseWeak = code_of "r"

-- the first of some commands that this letter names
abbrev pub named : ℕ → List Command → Option Command
named letter [] = None
named letter (c ∷ cs) = cond (letter == letter_of c) (Some c) (named letter cs)

-- every command
abbrev pub commands : List Command
commands = New ∷ Increment ∷ Downgrade ∷ MakeMut ∷ Decrement ∷ Upgrade ∷ TryUnwrap ∷ ReleaseWeak ∷ []

-- the command that this letter names
abbrev pub command_of : ℕ → Option Command
command_of letter = named letter commands

-- the command that this letter names, or the letter back where it names none
abbrev pub Names : ℕ → Result Command UnknownLetter → Type 0
Names letter r = MatchResult r (λ c. command_of letter ≡ Some c) (λ e. (command_of letter ≡ None) × (e.0 ≡ letter))

-- how a letter that names no command is printed
abbrev pub unknown_text : UnknownLetter → List ℕ
unknown_text e = codes "no command has the letter " ++ encode_utf8 e.0

-- the letter of a command names it, and no other letter does
pub record LettersUndo : Type 0 where
  pub there : (c : Command) → command_of (letter_of c) ≡ Some c
  pub back : (letter : ℕ) (c : Command) → command_of letter ≡ Some c → letter_of c ≡ letter
