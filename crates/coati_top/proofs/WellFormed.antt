-- A program that the tokens of a source spell is well-formed.
use Rattle.std.proofs.Common.{ℕ, ◌<◌, List, [], ◌∷◌, length}
use Rattle.std.specs.Prelude.{All, slice_range}
use Rattle.std.specs.List.{AllByRecursion}
use Rattle.std.proofs.lemmas.List.Elements.{All-from_recursion, recursion_from_All}
use Rattle.task_lex.specs.Span.{IsTokenOf}
use Rattle.task_lex.specs.Token.{Spells}
use Rattle.task_lex.specs.declared.token.Token.{Token}
use Rattle.task_lex.specs.declared.token.TokenKind.{TokenKind}
use Rattle.task_lex.specs.declared.token.TokenKind.TheVariants as kind
use Rattle.task_syntax.specs.declared.name.Name.{Name}
use Rattle.task_syntax.specs.declared.program.Program.{Program}
use Rattle.task_syntax.specs.declared.program.UnitDecl.{UnitDecl}
use Rattle.task_syntax.specs.Names.{tasks_of_unit}
use Rattle.task_parse.specs.Faults as faults
use Rattle.task_parse.specs.Lexeme.{lexeme_from, lexemes}
use Rattle.task_check.specs.Mentions.{Mention, mentions}
use Rattle.task_check.specs.WellFormed.{IsWellFormed}
use Rattle.coati_top.proofs.SpelledNames.{HasOnly, IsOf, tells}

-- the text of a name, and of no keyword
abbrev IsProper : Name → Type 0
IsProper name = Spells kind.Name name.text

proper_lexeme : (source : List ℕ) (found : TokenKind) (start end : ℕ) → Spells found (slice_range source start end) → IsOf IsProper (lexeme_from source found start end)
proper_lexeme source kind.Name start end spelled = spelled
proper_lexeme source (kind.Number value) start end spelled = tt
proper_lexeme source (kind.Keyword keyword) start end spelled = tt
proper_lexeme source (kind.Symbol symbol) start end spelled = tt

proper_lexemes : (source : List ℕ) (tokens : List Token) → AllByRecursion (IsTokenOf source) tokens → HasOnly IsProper (lexemes source tokens)
proper_lexemes source [] within = tt
proper_lexemes source (token ∷ tokens) within = (proper_lexeme source token.kind token.start token.end within.0.spelled, proper_lexemes source tokens within.1)

pub spelled_is_well_formed : (source : List ℕ) (tokens : List Token) (program : Program) → All (IsTokenOf source) tokens → faults.Spells source tokens program → IsWellFormed program
spelled_is_well_formed source tokens program within spells =
    let told = (tells IsProper spells.derives (proper_lexemes source tokens (recursion_from_All (IsTokenOf source) tokens within))).0 in
    record {
      variables = told.variables;
      units = told.units;
      members = All-from_recursion (λ (unit : UnitDecl). 0 < length (tasks_of_unit unit)) program.units told.members;
      names = All-from_recursion (λ (mention : Mention). IsProper mention.name) (mentions program) told.names;
    }
