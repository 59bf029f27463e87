-- Lists of units and tasks, of which there is one at least.
use Rattle.std.proofs.Common.{◌≡◌, ◌≢◌, ℕ, List, [], ◌∷◌, true, false, refl}
use Rattle.task_lex.specs.declared.keyword.Keyword.TheVariants as keyword
use Rattle.task_lex.specs.declared.symbol.Symbol.TheVariants as sign
use Rattle.task_syntax.specs.declared.name.Name.{Name}
use Rattle.task_syntax.specs.declared.program.TaskDecl.{TaskDecl}
use Rattle.task_syntax.specs.declared.program.UnitDecl.TheVariants as unit
use Rattle.task_parse.specs.Grammar as G
use Rattle.task_parse.specs.Grammar.{Form, Reads}
use Rattle.task_parse.specs.Lexeme.{Lexeme}
use Rattle.task_parse.specs.Machine.{Part, Spot, judge, verdict}
use Rattle.task_parse.specs.Spots.{none_left}
use Rattle.task_parse.proofs.Steps.{upto}

pub nothing_left : (list : List Lexeme) → none_left list ≡ true → list ≡ []
nothing_left [] h = refl
nothing_left (_ ∷ list) h = absurd (cc)

-- where tokens are left, a unit is to come
pub further_units : (s : Spot) → none_left s.rest ≡ false
    → judge s (Part.Units ∷ []) ≡ judge s (Part.AUnit ∷ Part.Units ∷ [])
further_units s h = at_list s.at s.depth s.rest h where
  at_list : (at depth : ℕ) (list : List Lexeme) → none_left list ≡ false
      → verdict at depth list (Part.Units ∷ []) ≡ verdict at depth list (Part.AUnit ∷ Part.Units ∷ [])
  at_list at depth [] h = absurd (cc)
  at_list at depth (Lexeme.word keyword.Task place ∷ rest) h = refl
  at_list at depth (_ ∷ rest) h = refl

-- the tasks of a transaction in its braces
pub transaction_of : (name : Name) (tasks : List TaskDecl) (at : ℕ) (old r b : List Lexeme) → tasks ≢ []
    → Reads (Form.Tasks tasks) old b
    → b ≡ Lexeme.sign sign.CloseBrace ∷ r
    → Reads (Form.OneUnit (unit.Tx (record { name = name; tasks = tasks })))
    (Lexeme.word keyword.Transaction at ∷ Lexeme.name name ∷ Lexeme.sign sign.OpenBrace ∷ old) r
transaction_of name [] at old r b some d here = absurd (some refl)
transaction_of name (t ∷ ts) at old r b some (G.tasks d ds) here = G.transaction d (upto here ds)
