-- Places stand among the variable words of a program, where no array is empty.
use Rattle.std.proofs.Common.{◌≡◌, ℕ, zero, suc, ◌+◌, ◌<◌, ◌≤◌, List, [], ◌∷◌, refl, arith, inl, inr}
use Rattle.std.specs.Prelude.{Option, Some, None, All, slice_get}
use Rattle.std.specs.Str.{bytes_eq}
use Rattle.std.proofs.lemmas.Bool.{cases_Bool}
use Rattle.std.proofs.lemmas.List.Elements.{All-head, All-tail, All-weaker}
use Rattle.coati_word.specs.Operator.{remainder}
use Rattle.coati_word.specs.declared.ending.Ending.{Ending}
use Rattle.coati_word.specs.declared.ending.Ending.TheVariants.{Done}
use Rattle.task_syntax.specs.declared.program.Program.{Program}
use Rattle.task_syntax.specs.declared.program.Var.{Var}
use Rattle.task_syntax.specs.declared.program.Event.{Event}
use Rattle.task_syntax.specs.declared.expression.Expr.{Expr}
use Rattle.task_syntax.specs.declared.statement.Stmt.{Stmt}
use Rattle.task_syntax.specs.Course.{Course, Store, Access, accesses}
use Rattle.task_syntax.specs.ProgramLaws.{HasNoEmptyArray, IsVariableWord, StaysAmongVariables, TouchesVariables, UnitTouchesVariables, word_of}
use Rattle.task_syntax.specs.Units.{Reached, statements_of, tasks_effect}
use Rattle.task_syntax.specs.Names.{tasks, Words, words_from, words_of, count_of, word_count}
use Rattle.task_syntax.specs.Expressions.{Locals, no_locals, plain_aim, item_aim, expression}
use Rattle.task_syntax.specs.Statements.{Way, statement, body}
use Rattle.task_syntax.specs.Events.{course_of, event_course, message, with_words}
use Rattle.task_syntax.proofs.Bounds.{PlacesFit, AimsAt, Keeps, Allowed, keeps-accesses, Anything, expression_keeps, statement_keeps, body_keeps}
use Rattle.task_syntax.proofs.Frames.{does_the_same, shared-access}
use Rattle.task_syntax.proofs.UnitFrames.{tasks_all, tasks_frame}

-- the words of a variable stand from `first` on, and below `bound`
pub record StandsBelow (words : Words) (bound : ℕ) : Type 0 where
  pub some : 0 < count_of words.length
  pub within : words.first + count_of words.length ≤ bound

pub stands-below : (first : ℕ) (vars : List Var) (name : List ℕ) (words : Words) → All (λ (var : Var). 0 < count_of var.length) vars →
    words_from first vars name ≡ Some words → StandsBelow words (first + word_count vars)
stands-below first [] name words full found = absurd (let never : None ≡ Some words = found in cc)
stands-below first (var ∷ vars) name words full found =
    elim (cases_Bool (bytes_eq var.name.text name)) [
      | inl same ↦ let here : Some (record { first = first; length = var.length }) ≡ Some words = rw same at found in
          let is : record { first = first; length = var.length } ≡ words = cc in
          let some = All-head (λ (v : Var). 0 < count_of v.length) var vars full in
          rw (← is) (record { some = some; within = omega arith })
      | inr other ↦ let there : words_from (first + count_of var.length) vars name ≡ Some words = rw other at found in
          let rest = stands-below (first + count_of var.length) vars name words (All-tail (λ (v : Var). 0 < count_of v.length) var vars full) there in
          record { some = rest.some; within = omega arith }
    ]

pub remainder-below : (a b : ℕ) → 0 < b → remainder a b < b
remainder-below a zero some = absurd (omega arith)
remainder-below a (suc b) some = omega arith

module _ (program : Program) (full : HasNoEmptyArray program) where
  plain-fits : (name : List ℕ) (found : Option Words) → words_of program name ≡ found → AimsAt (IsVariableWord program) (plain_aim name found)
  plain-fits name None e = tt
  plain-fits name (Some words) e = let stands = stands-below 0 program.vars name words full e in omega (arith, stands.some, stands.within)

  item-fits : (name : List ℕ) (index : ℕ) (found : Option Words) → words_of program name ≡ found → AimsAt (IsVariableWord program) (item_aim name index found)
  item-fits name index None e = tt
  item-fits name index (Some words) e =
      let stands = stands-below 0 program.vars name words full e in omega (arith, stands.within, remainder-below index (count_of words.length) stands.some)

  pub places-fit : PlacesFit program (IsVariableWord program)
  places-fit = record { plain = λ name. plain-fits name (words_of program name) refl; item = λ name index. item-fits name index (words_of program name) refl }

  allowed-is : (access : Access) → Allowed (IsVariableWord program) (IsVariableWord program) access → IsVariableWord program (word_of access)
  allowed-is (Access.read word value) ok = ok
  allowed-is (Access.wrote word value) ok = ok

  -- a course that keeps among the variables touches them alone
  pub keeps_among : {A : Type 0} (course : Course A) → Keeps (IsVariableWord program) (IsVariableWord program) (Anything {A = A}) course → TouchesVariables A program course
  keeps_among course kept = record { stays = stays; decided = λ s t agree. does_the_same course s t (λ word shared. agree word (shared-access (IsVariableWord program) (accesses course s) word (stays s) shared)) }
    where
      stays : (store : Store) → StaysAmongVariables program (accesses course store)
      stays store =
          All-weaker (Allowed (IsVariableWord program) (IsVariableWord program)) (λ access. IsVariableWord program (word_of access)) allowed-is (accesses course store)
          (keeps-accesses (IsVariableWord program) (IsVariableWord program) Anything course store kept)

  pub expression_touches : (e : Expr) (locals : Locals) → TouchesVariables ℕ program (expression program e locals)
  expression_touches e locals = keeps_among (expression program e locals) (expression_keeps program (IsVariableWord program) (IsVariableWord program) places-fit e locals)

  pub statement_touches : (s : Stmt) (locals : Locals) → TouchesVariables Way program (statement program s locals)
  statement_touches s locals = keeps_among (statement program s locals) (statement_keeps program (IsVariableWord program) places-fit s locals)

  pub body_touches : (stmts : List Stmt) (locals : Locals) → TouchesVariables Ending program (body program stmts locals)
  body_touches stmts locals = keeps_among (body program stmts locals) (body_keeps program (IsVariableWord program) places-fit stmts locals)

  done-touches : TouchesVariables Ending program (Course.ends Done)
  done-touches = keeps_among (Course.ends Done) tt

  event-touches : (event : Option Event) (argument : ℕ) → TouchesVariables Ending program (course_of program event argument)
  event-touches None argument = done-touches
  event-touches (Some event) argument = body_touches event.bottom (with_words event.params (message program event argument) no_locals)

  pub event_touches : (event argument : ℕ) → TouchesVariables Ending program (event_course program event argument)
  event_touches event argument = event-touches (slice_get program.events event) argument

  unit-stays : (task count : ℕ) (store : Store) (reached : Reached) → tasks_effect program task store count ≡ Some reached → StaysAmongVariables program reached.done
  unit-stays task count store reached is =
      tasks_all (λ access. IsVariableWord program (word_of access)) program task store count reached
      (λ place s. (body_touches (statements_of (slice_get (tasks program) place)) no_locals).stays s) is

  pub unit_touches : (task count : ℕ) (store : Store) (reached : Reached) → tasks_effect program task store count ≡ Some reached → UnitTouchesVariables program task count store reached
  unit_touches task count store reached is = record {
    stays = unit-stays task count store reached is;
    decided = λ other agree. tasks_frame program task store other count reached is
        (λ word shared. agree word (shared-access (IsVariableWord program) reached.done word (unit-stays task count store reached is) shared));
  }
