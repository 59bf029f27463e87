-- A program that the tokens of a source spell is one of words.
use Rattle.std.proofs.Common.{◌-◌, ℕ, zero, suc, List, [], ◌∷◌, length, arith}
use Rattle.std.specs.Prelude.{All, Option, Some, None, flat_map, replicate, slice_get, slice_range}
use Rattle.std.specs.List.{AllByRecursion}
use Rattle.std.proofs.lemmas.List.Elements.{recursion_from_All}
use Rattle.coati_word.specs.declared.ending.Ending.{Ending}
use Rattle.coati_word.specs.declared.ending.Ending.TheVariants as ending
use Rattle.coati_word.specs.OperatorLaws.{IsWord, OperatorsGiveWords, UnaryOperatorsGiveWords}
use Rattle.task_lex.specs.Span.{IsTokenOf}
use Rattle.task_lex.specs.Token.{Spells}
use Rattle.task_lex.specs.declared.token.Token.{Token}
use Rattle.task_lex.specs.declared.token.TokenKind.{TokenKind}
use Rattle.task_lex.specs.declared.token.TokenKind.TheVariants as kind
use Rattle.task_syntax.specs.declared.name.Name.{Name}
use Rattle.task_syntax.specs.declared.program.Event.{Event}
use Rattle.task_syntax.specs.declared.program.Program.{Program}
use Rattle.task_syntax.specs.declared.program.TaskDecl.{TaskDecl}
use Rattle.task_syntax.specs.declared.program.Var.{Var}
use Rattle.task_syntax.specs.Events.{blank_store, course_of, message, message_of, with_words}
use Rattle.task_syntax.specs.Expressions.{Locals, no_locals, with_local}
use Rattle.task_syntax.specs.Names.{count_of, first_values, given_values, tasks}
use Rattle.task_syntax.specs.Statements.{body}
use Rattle.task_syntax.specs.Units.{statements_of}
use Rattle.task_parse.specs.Faults as faults
use Rattle.task_parse.specs.Lexeme.{lexeme_from, lexemes}
use Rattle.word_values.specs.Words.{AreWords, EndsInWords, GivesWords, HoldsWords, IsOfWords}
use Rattle.word_values.proofs.Gives.{AreLocals, IsSo, all-joined, answers-so, found-so, one-local}
use Rattle.word_values.proofs.Layers.{body-gives, none-in-turn}
use Rattle.word_values.proofs.SpelledWords.{AreSmall, EventGives, IsSmall, ProgramGives, TaskGives, VarGives, tells}

-- the numbers of a source are words
small-lexeme : (source : List ℕ) (found : TokenKind) (start end : ℕ) → Spells found (slice_range source start end)
    → IsSmall (lexeme_from source found start end)
small-lexeme source kind.Name start end spelled = tt
small-lexeme source (kind.Number value) start end spelled = let most = spelled.2 in omega (arith, most)
small-lexeme source (kind.Keyword keyword) start end spelled = tt
small-lexeme source (kind.Symbol symbol) start end spelled = tt

small-lexemes : (source : List ℕ) (tokens : List Token) → AllByRecursion (IsTokenOf source) tokens → AreSmall (lexemes source tokens)
small-lexemes source [] within = tt
small-lexemes source (token ∷ tokens) within =
    (small-lexeme source token.kind token.start token.end within.0.spelled, small-lexemes source tokens within.1)

-- what variables begin with
zeros : (count : ℕ) → AreWords (replicate count 0)
zeros zero = tt
zeros (suc count) = (omega arith, zeros count)

opening-words : (vars : List Var) → AllByRecursion VarGives vars → AreWords (flat_map first_values vars)
opening-words [] gives = tt
opening-words (var ∷ vars) gives =
    all-joined IsWord (first_values var) (flat_map first_values vars)
    (all-joined IsWord (given_values var.init) (replicate (count_of var.length - length (given_values var.init)) 0) gives.0 (zeros _))
    (opening-words vars gives.1)

no-words : AreLocals no_locals
no-words name = omega arith

blank-words : HoldsWords blank_store
blank-words word = omega arith

given-words : (end : Ending) → EndsInWords end → AreWords (message_of end)
given-words (ending.Next task) so = tt
given-words ending.Halt so = tt
given-words ending.Done so = tt
given-words (ending.Given words) so = so

params-words : (names : List Name) (words : List ℕ) (locals : Locals) → AreWords words → AreLocals locals → AreLocals (with_words names words locals)
params-words [] words locals are so = so
params-words (name ∷ names) [] locals are so = so
params-words (name ∷ names) (word ∷ words) locals are so =
    params-words names words (with_local name.text word locals) are.1 (one-local name.text word locals are.0 so)

module _ (program : Program) (on_two : OperatorsGiveWords) (on_one : UnaryOperatorsGiveWords) where
  found-task : (found : Option TaskDecl) → IsSo (TaskGives program on_two on_one) found
      → GivesWords EndsInWords (body program (statements_of found) no_locals)
  found-task None so = body-gives program on_two on_one [] no_locals (none-in-turn program on_two on_one) no-words
  found-task (Some task) so = body-gives program on_two on_one task.body no_locals so no-words

  found-event : (argument : ℕ) → IsWord argument → (found : Option Event) → IsSo (EventGives program on_two on_one) found
      → GivesWords EndsInWords (course_of program found argument)
  found-event argument is None so = tt
  found-event argument is (Some event) so =
      let taken : Locals = with_local event.argument.text argument no_locals in
      let locals : AreLocals taken = one-local event.argument.text argument no_locals is no-words in
      let top = body-gives program on_two on_one event.top taken so.0 locals in
      let given = given-words _ (answers-so EndsInWords (body program event.top taken) blank_store top blank-words) in
      body-gives program on_two on_one event.bottom (with_words event.params (message program event argument) no_locals) so.1
      (params-words event.params (message program event argument) no_locals given no-words)

  pub of-words : ProgramGives program on_two on_one program → IsOfWords program
  of-words gives = record {
    opening = opening-words program.vars gives.vars;
    tasks = λ task. found-task (slice_get (tasks program) task) (found-so (TaskGives program on_two on_one) (tasks program) task gives.tasks);
    events = λ event argument is. found-event argument is (slice_get program.events event)
        (found-so (EventGives program on_two on_one) program.events event gives.events);
  }

pub spelled-of-words : OperatorsGiveWords → UnaryOperatorsGiveWords → (source : List ℕ) (tokens : List Token) (program : Program)
    → All (IsTokenOf source) tokens → faults.Spells source tokens program → IsOfWords program
spelled-of-words on_two on_one source tokens program within spells =
    let small = small-lexemes source tokens (recursion_from_All (IsTokenOf source) tokens within) in
    of-words program on_two on_one (tells program on_two on_one spells.derives small).0
