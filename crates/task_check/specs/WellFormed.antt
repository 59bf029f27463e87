-- What a program needs besides the rules, as each that is spelled by tokens has it.
use Rattle.std.specs.Prelude.{◌<◌, length, All}
use Rattle.task_lex.specs.Token.{Spells}
use Rattle.task_lex.specs.declared.token.TokenKind.TheVariants as kind
use Rattle.task_syntax.specs.declared.program.Program.{Program}
use Rattle.task_syntax.specs.declared.program.UnitDecl.{UnitDecl}
use Rattle.task_syntax.specs.Names.{tasks_of_unit}
use Rattle.task_check.specs.Mentions.{Mention, mentions}

-- it has a variable and a unit, each unit has a task, and each name is a name and no keyword
pub record IsWellFormed (program : Program) : Type 0 where
  pub variables : 0 < length program.vars
  pub units : 0 < length program.units
  pub members : All (λ (unit : UnitDecl). 0 < length (tasks_of_unit unit)) program.units
  pub names : All (λ (mention : Mention). Spells kind.Name mention.name.text) (mentions program)
