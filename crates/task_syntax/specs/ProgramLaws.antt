-- Laws of programs: what expressions and bodies touch, and how the tasks of a unit follow one
-- another.
use Rattle.std.specs.Prelude.{ℕ, ◌≡◌, ◌+◌, ◌<◌, ◌≤◌, List, [], All, false, Some, None, option_and_then}
use Rattle.coati_word.specs.declared.ending.Ending.{Ending}
use Rattle.task_syntax.specs.declared.program.Program.{Program}
use Rattle.task_syntax.specs.declared.program.Var.{Var}
use Rattle.task_syntax.specs.declared.expression.Expr.{Expr}
use Rattle.task_syntax.specs.declared.statement.Stmt.{Stmt}
use Rattle.task_syntax.specs.Course.{Course, Store, Access, accesses, after, written_words}
use Rattle.task_syntax.specs.CourseLaws.{AgreeOnShared, AreSame, DoesTheSame}
use Rattle.task_syntax.specs.Names.{count_of, word_count}
use Rattle.task_syntax.specs.Expressions.{Locals, expression}
use Rattle.task_syntax.specs.Statements.{Way, statement, body}
use Rattle.task_syntax.specs.Events.{event_course}
use Rattle.task_syntax.specs.Units.{Reached, IsWhole, is_inside, one_more, task_effect, tasks_effect, whole_effect}

-- an expression writes nothing
pub record OnlyReads (program : Program) (e : Expr) (locals : Locals) (store : Store)
    : Type 0 where
  pub writes : written_words (accesses (expression program e locals) store) ≡ []
  pub store_after : after (accesses (expression program e locals) store) store ≡ store

-- so on all locals and stores
abbrev pub ExpressionsOnlyRead : Type 0
ExpressionsOnlyRead = (program : Program) (e : Expr) (locals : Locals) (store : Store) →
    OnlyReads program e locals store

-- each variable has a word at least
abbrev pub HasNoEmptyArray : Program → Type 0
HasNoEmptyArray program = All (λ (var : Var). 0 < count_of var.length) program.vars

-- the variable words of a program are those below their count
abbrev pub IsVariableWord : Program → ℕ → Type 0
IsVariableWord program word = word < word_count program.vars

-- the word of an access
abbrev pub word_of : Access → ℕ
word_of (Access.read word value) = word
word_of (Access.wrote word value) = word

-- each access is to a variable word
abbrev pub StaysAmongVariables : Program → List Access → Type 0
StaysAmongVariables program done = All (λ access. IsVariableWord program (word_of access)) done

-- two stores hold the same in each variable word
abbrev pub AgreeOnVariables : Program → Store → Store → Type 0
AgreeOnVariables program s t = (word : ℕ) → IsVariableWord program word → s word ≡ t word

-- a course stays among the variables, and no other word decides what it does
pub record TouchesVariables (A : Type 0) (program : Program) (course : Course A) : Type 0 where
  pub stays : (store : Store) → StaysAmongVariables program (accesses course store)
  pub decided : (s t : Store) → AgreeOnVariables program s t → DoesTheSame A course s t

-- so does each expression
abbrev pub ExpressionsTouchVariables : Type 0
ExpressionsTouchVariables = (program : Program) (e : Expr) (locals : Locals) →
    HasNoEmptyArray program → TouchesVariables ℕ program (expression program e locals)

-- so does each statement
abbrev pub StatementsTouchVariables : Type 0
StatementsTouchVariables = (program : Program) (s : Stmt) (locals : Locals) →
    HasNoEmptyArray program → TouchesVariables Way program (statement program s locals)

-- so does each body
abbrev pub BodiesTouchVariables : Type 0
BodiesTouchVariables = (program : Program) (stmts : List Stmt) (locals : Locals) →
    HasNoEmptyArray program → TouchesVariables Ending program (body program stmts locals)

-- so does each event
abbrev pub EventsTouchVariables : Type 0
EventsTouchVariables = (program : Program) (event argument : ℕ) → HasNoEmptyArray program →
    TouchesVariables Ending program (event_course program event argument)

-- what tasks of a unit do stays among the variables, and no other word decides it
pub record UnitTouchesVariables (program : Program) (task count : ℕ) (store : Store)
    (reached : Reached) : Type 0 where
  pub stays : StaysAmongVariables program reached.done
  pub decided : (other : Store) → AgreeOnVariables program store other →
      tasks_effect program task other count ≡ Some reached

-- so do the tasks of each unit
abbrev pub UnitsTouchVariables : Type 0
UnitsTouchVariables =
    (program : Program) (task count : ℕ) (store : Store) (reached : Reached) →
    HasNoEmptyArray program → tasks_effect program task store count ≡ Some reached →
    UnitTouchesVariables program task count store reached

-- the tasks of a unit run one by one while the place is inside, and none runs once the unit has
-- ended
pub record RunsTaskByTask (program : Program) (task : ℕ) (store : Store) : Type 0 where
  pub first : tasks_effect program task store 1 ≡ Some (task_effect program task store)
  pub further : (count : ℕ) → tasks_effect program task store (count + 2)
      ≡ option_and_then (one_more program task store) (tasks_effect program task store (count + 1))
  pub ended : (count later : ℕ) (before : Reached) →
      tasks_effect program task store count ≡ Some before →
      is_inside program task before.place ≡ false →
      count < later → tasks_effect program task store later ≡ None

-- so does each unit
abbrev pub UnitsRunTaskByTask : Type 0
UnitsRunTaskByTask = (program : Program) (task : ℕ) (store : Store) →
    RunsTaskByTask program task store

-- a unit is whole after one count of tasks alone
abbrev pub UnitsAreWholeOnce : Type 0
UnitsAreWholeOnce = (program : Program) (task : ℕ) (store : Store) (m n : ℕ) →
    IsWhole program task store m → IsWhole program task store n → m ≡ n

-- tasks that reached the one read, wrote and shared what tasks did that reached the other, and
-- each of them ended as there
pub record ReachTheSame (one other : Reached) : Type 0 where
  pub same : AreSame one.done other.done
  pub endings : one.endings ≡ other.endings
  pub place : one.place ≡ other.place

-- so many tasks of a unit do on `t` what they do on `s`, and so do the fewer tasks before
pub record TasksDoTheSame (program : Program) (task : ℕ) (s t : Store) (count : ℕ)
    (reached : Reached) : Type 0 where
  pub tasks : tasks_effect program task t count ≡ Some reached
  pub told : (there : Reached) → tasks_effect program task t count ≡ Some there →
      ReachTheSame there reached
  pub earlier : (fewer : ℕ) → fewer ≤ count →
      tasks_effect program task t fewer ≡ tasks_effect program task s fewer

-- what tasks of a unit do hangs only on the words that they read before they write them
abbrev pub SharedReadsDecideUnits : Type 0
SharedReadsDecideUnits =
    (program : Program) (task : ℕ) (s t : Store) (count : ℕ) (reached : Reached) →
    tasks_effect program task s count ≡ Some reached → AgreeOnShared reached.done s t →
    TasksDoTheSame program task s t count reached

-- a whole unit does on `t` what it does on `s`
pub record UnitDoesTheSame (program : Program) (task : ℕ) (s t : Store) (count : ℕ)
    (reached : Reached) : Type 0 where
  pub whole : whole_effect program task t count ≡ Some reached
  pub tasks : TasksDoTheSame program task s t count reached

-- what a whole unit does hangs only on these words too
abbrev pub SharedReadsDecideWholeUnits : Type 0
SharedReadsDecideWholeUnits =
    (program : Program) (task : ℕ) (s t : Store) (count : ℕ) (reached : Reached) →
    whole_effect program task s count ≡ Some reached → AgreeOnShared reached.done s t →
    UnitDoesTheSame program task s t count reached
