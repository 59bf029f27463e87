-- Where a broken rule is told, a token of its source begins.
use Rattle.std.proofs.Common.{◌<◌, ℕ, List, [], ◌∷◌, arith, length, refl, subst}
use Rattle.std.specs.Prelude.{All, Contains}
use Rattle.std.specs.List.{AllByRecursion}
use Rattle.std.proofs.lemmas.List.Elements.{All-contains, All-contains_itself, All-from_recursion, recursion_from_All}
use Rattle.task_check.specs.Accepted.{number_of, places}
use Rattle.task_check.specs.declared.rule.Rule.{Rule}
use Rattle.task_check.specs.declared.rule.Rule.TheVariants as rule
use Rattle.task_lex.specs.Span.{IsTokenOf}
use Rattle.task_lex.specs.declared.token.Token.{Token}
use Rattle.task_lex.specs.declared.token.TokenKind.{TokenKind}
use Rattle.task_lex.specs.declared.token.TokenKind.TheVariants as kind
use Rattle.task_parse.specs.Grammar.{Derives}
use Rattle.task_parse.specs.Lexeme.{Lexeme, lexeme_from, lexemes}
use Rattle.task_syntax.specs.declared.program.Program.{Program}
use Rattle.rule_places.specs.Laws.{BeginsToken, IsBroken}
use Rattle.rule_places.proofs.Bodies.{Anything, ArePlaces, any-expression, no_ending-at, too_deep_stack-at, too_long-at, too_many_locals-at}
use Rattle.rule_places.proofs.Counts.{bad_buffer-at, bad_count-at, too_many_tasks-at, too_many_words-at}
use Rattle.rule_places.proofs.Endings.{EndingsIn, early_ending-at, endings-facts}
use Rattle.rule_places.proofs.Events.{AimsAt, GivesAt, NamesAt, ReadsAt, give_shape-at, gives-facts, names-facts, reads-facts, top_reads_nv-at}
use Rattle.rule_places.proofs.Loops.{AssignsIn, LoopsFit, PlainExpr, PlainPlace, assigns-facts, loop_assigned-at, loops-facts, plain-facts}
use Rattle.rule_places.proofs.Names.{ExprAt, PlaceAt, StmtAt, mentions-facts, names-at, parts-facts}
use Rattle.rule_places.proofs.Parts.{OfProgram}
use Rattle.rule_places.proofs.Spelled.{AreAt, IsLexemeAt, spelled}
use Rattle.rule_places.proofs.Transitions.{EntersAt, enters-facts, into_tx-at}

-- whatever the places of a program's tokens are, each rule is broken at such places
module _ (IsPlace : ℕ → Type 0) (list : List Lexeme) (program : Program)
    (derives : Derives list program) (are : AreAt IsPlace list) where
  named : OfProgram IsPlace (StmtAt IsPlace) program
  named =
      spelled IsPlace (ExprAt IsPlace) (PlaceAt IsPlace) (StmtAt IsPlace)
      (mentions-facts IsPlace) (parts-facts IsPlace) list program derives are

  rules-at : (broken : Rule) → ArePlaces IsPlace (places (number_of broken) program)
  rules-at rule.TwiceNamed = names-at IsPlace program named _
  rules-at rule.Unknown = names-at IsPlace program named _
  rules-at rule.WrongKind = names-at IsPlace program named _
  rules-at rule.BadCount =
      bad_count-at IsPlace program
      (spelled IsPlace Anything Anything (LoopsFit IsPlace) (any-expression IsPlace)
      (loops-facts IsPlace) list program derives are)
  rules-at rule.BadBuffer = bad_buffer-at IsPlace (StmtAt IsPlace) program named
  rules-at rule.TooManyWords = too_many_words-at IsPlace (StmtAt IsPlace) program named
  rules-at rule.TooManyTasks = too_many_tasks-at IsPlace (StmtAt IsPlace) program named
  rules-at rule.NoEnding = no_ending-at IsPlace (StmtAt IsPlace) program named
  rules-at rule.EarlyEnding =
      early_ending-at IsPlace program
      (λ kind. spelled IsPlace Anything Anything (EndingsIn IsPlace kind) (any-expression IsPlace)
      (endings-facts IsPlace kind) list program derives are)
  rules-at rule.IntoTx =
      into_tx-at IsPlace program
      (λ own. spelled IsPlace Anything Anything (EntersAt IsPlace program own)
      (any-expression IsPlace) (enters-facts IsPlace program own) list program derives are)
  rules-at rule.TopReadsNv =
      top_reads_nv-at IsPlace program
      (spelled IsPlace (ReadsAt IsPlace program) (AimsAt IsPlace program)
      (NamesAt IsPlace program) (reads-facts IsPlace program) (names-facts IsPlace program)
      list program derives are)
  rules-at rule.GiveShape =
      give_shape-at IsPlace program
      (λ count. spelled IsPlace Anything Anything (GivesAt IsPlace count) (any-expression IsPlace)
      (gives-facts IsPlace count) list program derives are)
  rules-at rule.LoopAssigned =
      loop_assigned-at IsPlace program
      (spelled IsPlace (PlainExpr IsPlace) (PlainPlace IsPlace) (AssignsIn IsPlace)
      (plain-facts IsPlace) (assigns-facts IsPlace) list program derives are)
  rules-at rule.TooManyLocals = too_many_locals-at IsPlace (StmtAt IsPlace) program named
  rules-at rule.TooDeepStack = too_deep_stack-at IsPlace (StmtAt IsPlace) program named
  rules-at (rule.TooLong number) = too_long-at IsPlace (StmtAt IsPlace) program named

-- the tokens of a source stand where they begin
module _ (source : List ℕ) (tokens : List Token) where
  lexeme-at : (found : TokenKind) (start end : ℕ) → BeginsToken tokens start
      → IsLexemeAt (BeginsToken tokens) (lexeme_from source found start end)
  lexeme-at kind.Name start end begins = begins
  lexeme-at (kind.Number value) start end begins = begins
  lexeme-at (kind.Keyword keyword) start end begins = begins
  lexeme-at (kind.Symbol symbol) start end begins = tt

  lexemes-at : (some : List Token) → AllByRecursion (Contains tokens) some
      → AreAt (BeginsToken tokens) (lexemes source some)
  lexemes-at [] all = tt
  lexemes-at (token ∷ more) all = (
    lexeme-at token.kind token.start token.end
        (record { token = token; stands = all.0; starts = refl }),
    lexemes-at more all.1,
  )

  pub begins-token : (broken : Rule) (at : ℕ) → IsBroken source tokens broken at
      → BeginsToken tokens at
  begins-token broken at is =
      let are = lexemes-at tokens
      (recursion_from_All (Contains tokens) tokens (All-contains_itself tokens)) in
      let all = rules-at (BeginsToken tokens) (lexemes source tokens) is.program
      is.spelled.derives are broken in
      All-contains (BeginsToken tokens) (places (number_of broken) is.program) at
      (All-from_recursion (BeginsToken tokens) (places (number_of broken) is.program) all)
      is.refused.here.among

  pub lies-within : All (IsTokenOf source) tokens → (at : ℕ) → BeginsToken tokens at
      → at < length source
  lies-within texts at begins =
      let token = All-contains (IsTokenOf source) tokens begins.token texts begins.stands in
      subst (λ (place : ℕ). place < length source) begins.starts
      (omega (arith, token.some, token.within))
