-- Where the code aims at, as the meaning sees it.
use Rattle.std.specs.Prelude.{⊤}
use Rattle.task_syntax.specs.declared.program.Program.{Program}
use Rattle.task_syntax.specs.Expressions.{Aim}
use Rattle.task_syntax.specs.ProgramLaws.{IsVariableWord}
use Rattle.serial_run.specs.declared.target.Target.{Target}
use Rattle.serial_run.specs.declared.target.Target.TheVariants.{Local, Word}

abbrev pub aim_of : Target → Aim
aim_of (Local name) = Aim.named name.now
aim_of (Word word) = Aim.in_word word

-- a variable's word is among those of the program
abbrev pub IsAimWithin : Program → Aim → Type 0
IsAimWithin program (Aim.named name) = ⊤
IsAimWithin program (Aim.in_word word) = IsVariableWord program word
