-- The numbers that bytes spell.
use Rattle.std.specs.Prelude.{ℕ, ◌+◌, ◌*◌, ◌^◌, Bool, cond, ◌&&◌, List, length, Some, None, Option, nat_lt}
use Rattle.std.specs.Str.Parse.{digits_value}
use Rattle.std.specs.Char.{digit_value}
use Rattle.std.specs.Str.{all_ascii_digits}

-- one digit or more, and nothing else
abbrev pub numeral : List ℕ → Bool
numeral bs = nat_lt 0 (length bs) && all_ascii_digits bs

-- the decimal number that the bytes spell, where it is below 2^32
abbrev pub number_of : List ℕ → Option ℕ
number_of bs = cond (numeral bs && nat_lt (digits_value 10 bs) (2 ^ 32)) (Some (digits_value 10 bs)) None

-- the number n with the digit c after it
abbrev pub appended : ℕ → ℕ → ℕ
appended n c = n * 10 + digit_value c
