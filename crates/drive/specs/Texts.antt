-- How a reply is printed.
use Rattle.std.specs.Prelude.{ℕ, List, ◌++◌, Some, None, codes, decimal, Option}
use Rattle.std.proofs.Math.Utf8.{encode}
use Rattle.rc.specs.Declines.{number_of}
use Rattle.script.specs.Commands.{letter_of}
use Rattle.drive.specs.declared.reply.Reply.{Reply}
use Rattle.drive.specs.declared.reply.Reply.TheVariants.{Answered, Declined, Unknown}

-- a number, or a dash where there is none
abbrev pub answer_text : Option ℕ → List ℕ
answer_text (Some n) = decimal n
answer_text None = codes "-"

-- the letter, the answer and the two counts; a decline by its number; `?` for what is no line
abbrev pub reply_text : Reply → List ℕ
reply_text (Answered c n strong weak) =
    encode (letter_of c) ++ (codes " " ++ (answer_text n ++ (codes " " ++ (decimal strong ++ (codes " " ++ decimal weak)))))
reply_text (Declined why) = codes "! " ++ decimal (number_of why)
reply_text Unknown = codes "?"
