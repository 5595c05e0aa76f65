-- The lines that bytes spell.
use Rattle.std.specs.Prelude.{◌≡◌, ℕ, cond, List, drop, Some, None, codes, Option, Result, MatchResult, ◌==◌, slice_index}
use Rattle.script.specs.declared.commands.Command.{Command}
use Rattle.script.specs.declared.lines.Line.{Line}
use Rattle.script.specs.declared.lines.LineError.{LineError}
use Rattle.script.specs.declared.lines.LineError.TheVariants.{Malformed, Letter, Number}
use Rattle.script.specs.Commands.{command_of, unknown_text}
use Rattle.script.specs.Numbers.{number_of}

-- the line of a command and a number, where both are there
abbrev pub with_number : Option Command → Option ℕ → Option Line
with_number None n = None
with_number (Some c) None = None
with_number (Some c) (Some n) = Some (record { command = c; number = n })

-- a letter, a space and a number
abbrev pub line_of : List ℕ → Option Line
line_of bs = cond (slice_index bs 1 == 32) (with_number (command_of (slice_index bs 0)) (number_of (drop 2 bs))) None

-- what no line is refused for: its form, then its letter, then its number
abbrev pub fault_with : ℕ → Option Command → LineError
fault_with letter None = Letter (record { 0 = letter })
fault_with letter (Some c) = Number

abbrev pub fault_of : List ℕ → LineError
fault_of bs = cond (slice_index bs 1 == 32) (fault_with (slice_index bs 0) (command_of (slice_index bs 0))) Malformed

-- the line that the bytes spell, or what is wrong with them where they spell none
abbrev pub Reads : List ℕ → Result Line LineError → Type 0
Reads bs r = MatchResult r (λ l. line_of bs ≡ Some l) (λ e. (line_of bs ≡ None) × (e ≡ fault_of bs))

-- how it is printed
abbrev pub fault_text : LineError → List ℕ
fault_text Malformed = codes "no letter and space at the start"
fault_text (Letter unknown) = unknown_text unknown
fault_text Number = codes "no number below 2^32 after them"
