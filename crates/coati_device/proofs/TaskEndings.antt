-- Whatever a task of an accepted program runs on, it leads where it may.
use Rattle.std.proofs.Common.{◌≡◌, ℕ, zero, suc, ◌+◌, ◌<◌, ◌==◌, List, [], ◌∷◌, map, refl, ap, sym, subst, arith, Bool, true, false}
use Rattle.std.specs.Prelude.{Option, Some, None, length, slice_get, flat_map, zip, replicate, option_and_then, if◌then◌else◌}
use Rattle.std.specs.List.{AllByRecursion}
use Rattle.std.specs.Str.{bytes_eq}
use Rattle.std.proofs.Common.{length-append}
use Rattle.std.proofs.lemmas.List.{length-replicate}
use Rattle.coati_word.specs.declared.ending.Ending.{Ending}
use Rattle.coati_word.specs.declared.ending.Ending.TheVariants.{Given}
use Rattle.task_syntax.specs.declared.name.Name.{Name}
use Rattle.task_syntax.specs.declared.program.Program.{Program}
use Rattle.task_syntax.specs.declared.program.TaskDecl.{TaskDecl}
use Rattle.task_syntax.specs.declared.program.UnitDecl.{UnitDecl}
use Rattle.task_syntax.specs.declared.program.UnitDecl.TheVariants.{Lone, Tx}
use Rattle.task_syntax.specs.declared.expression.Expr.{Expr}
use Rattle.task_syntax.specs.declared.expression.Place.{Place}
use Rattle.task_syntax.specs.declared.statement.Stmt.{Stmt}
use Rattle.task_syntax.specs.declared.statement.Stmt as S
use Rattle.task_syntax.specs.Course.{Course, Store, accesses, after, answer, chain}
use Rattle.task_syntax.specs.Expressions.{Aim, Locals, aim, expression, expressions, no_locals, with_local}
use Rattle.task_syntax.specs.Names.{task_from, task_of, tasks, tasks_of_unit}
use Rattle.task_syntax.specs.Statements.{Conduct, Way, assigned, body, ending_of, in_turn, next_task, otherwise, statement, statement_step, statements, turns, unless_out}
use Rattle.task_syntax.specs.Units.{is_same, memberships, place_after, statements_of, task_course, transaction_of}
use Rattle.task_syntax.proofs.Chains.{answer-chain}
use Rattle.task_syntax.proofs.Trees.{AllOtherwise, StatementCases, every_statement_of}
use Rattle.task_check.specs.Accepted.{IsAccepted}
use Rattle.task_check.specs.Transitions.{enters_in, enters_in_block, enters_in_member, into, into_step, midst_of_task}
use Rattle.task_check.proofs.NoPlaces.{first-empty, second-empty}
use Rattle.coati_device.specs.Endings.{MayLead}
use Rattle.coati_device.specs.Endings.MayLead.{halts, goes}

-- the course ends with one of these, whatever it runs on
abbrev pub Answers : {A : Type 0} → (A → Type 0) → Course A → Type 0
Answers P course = (store : Store) → P (answer course store)

pub chain_answers : {A B : Type 0} (P : A → Type 0) (Q : B → Type 0) (first : Course A)
    (next : A → Course B) → Answers P first →
    ((result : A) → P result → Answers Q (next result)) → Answers Q (chain first next)
chain_answers P Q first next firsts nexts store =
    subst Q (sym (answer-chain first next store))
    (nexts (answer first store) (firsts store) (after (accesses first store) store))

abbrev Anything : {A : Type 0} → A → Type 0
Anything result = Unit {0}

-- whatever stands before it, where nothing of that matters
pub answers_behind : {A B : Type 0} (Q : B → Type 0) (first : Course A) (next : A → Course B) →
    ((result : A) → Answers Q (next result)) → Answers Q (chain first next)
answers_behind {A} Q first next nexts =
    chain_answers (Anything {A = A}) Q first next (λ store. tt) (λ result any. nexts result)

task_step : (task : TaskDecl) (more : List TaskDecl) (first : ℕ) (name : List ℕ) (found : ℕ)
    (here : Bool) →
    (task_from (first + 1) more name ≡ Some found → found < first + 1 + length more) →
    (if here then Some first else task_from (first + 1) more name) ≡ Some found →
    found < first + suc (length more)
task_step task more first name found true later is = let same : first ≡ found = cc in omega arith
task_step task more first name found false later is = omega (arith, later is)

task_within : (first : ℕ) (all : List TaskDecl) (name : List ℕ) (found : ℕ) →
    task_from first all name ≡ Some found → found < first + length all
task_within first [] name found is = absurd cc
task_within first (task ∷ more) name found is =
    task_step task more first name found (bytes_eq task.name.text name)
    (task_within (first + 1) more name found) is

-- the place of the name doesn't matter
into_step_at : (same : Bool) (at other : ℕ) → (if same then [] else at ∷ []) ≡ [] →
    (if same then [] else other ∷ []) ≡ []
into_step_at true at other none = refl
into_step_at false at other none = absurd cc

into_at : (own midst : Option ℕ) (at : ℕ) → into own midst at ≡ [] → into own midst 0 ≡ []
into_at own None at none = refl
into_at own (Some tx) at none = into_step_at (is_same own (Some tx)) at 0 none

module _ (program : Program) (task : ℕ) where
  abbrev own : Option ℕ
  own = transaction_of program task

  -- the ending leads where it may
  abbrev IsLeading : Ending → Type 0
  IsLeading ending = MayLead program task (place_after ending)

  -- so it does where the way leads out
  abbrev IsWay : Way → Type 0
  IsWay (Way.on locals) = Unit {0}
  IsWay (Way.out ending) = IsLeading ending

  abbrev Ways : Conduct → Type 0
  Ways conduct = (locals : Locals) → Answers IsWay (conduct locals)

  abbrev StatementWays : Stmt → Type 0
  StatementWays s = enters_in program own s ≡ [] → Ways (statement program s)

  next_leads : (name : Name) (found : Option ℕ) → task_of program name.text ≡ found →
      into own (option_and_then (midst_of_task program) found) name.at ≡ [] →
      IsLeading (next_task found)
  next_leads name None is none = halts refl
  next_leads name (Some place) is none =
      goes (omega (arith, task_within 0 (tasks program) name.text place is))
      (into_at own (midst_of_task program place) name.at none)

  after_way : (rest : Conduct) → Ways rest → (way : Way) → IsWay way →
      Answers IsWay (unless_out rest way)
  after_way rest ways (Way.on locals) leads = ways locals
  after_way rest ways (Way.out ending) leads = λ store. leads

  turn_ways : (conducts : List Conduct) → AllByRecursion Ways conducts → Ways (in_turn conducts)
  turn_ways [] ways locals = λ store. tt
  turn_ways (first ∷ more) ways locals =
      chain_answers IsWay IsWay (first locals) (unless_out (in_turn more)) (ways.0 locals)
      (after_way (in_turn more) (turn_ways more ways.1))

  loop_ways : (left turn : ℕ) (name : List ℕ) (block : Conduct) → Ways block →
      Ways (turns left turn name block)
  loop_ways zero turn name block ways locals = λ store. tt
  loop_ways (suc left) turn name block ways locals =
      let rest = turns left (turn + 1) name block in
      chain_answers IsWay IsWay (block (with_local name turn locals)) (unless_out rest)
      (ways (with_local name turn locals))
      (after_way rest (loop_ways left (turn + 1) name block ways))

  assigned_ways : (locals : Locals) (a : Aim) (value : ℕ) → Answers IsWay (assigned locals a value)
  assigned_ways locals (Aim.named name) value = λ store. tt
  assigned_ways locals (Aim.in_word word) value = λ store. tt

  either_ways : (test : Bool) (one other : Course Way) → Answers IsWay one → Answers IsWay other →
      Answers IsWay (if test then one else other)
  either_ways true one other ways also = ways
  either_ways false one other ways also = also

  mapped_ways : (block : List Stmt) → AllByRecursion StatementWays block →
      enters_in_block program own block ≡ [] → AllByRecursion Ways (map (statement program) block)
  mapped_ways [] ways none = tt
  mapped_ways (first ∷ more) ways none =
      let here = enters_in program own first in
      let behind = enters_in_block program own more in
      let rest = mapped_ways more ways.1 (second-empty here behind none) in
      (ways.0 (first-empty here behind none), rest)

  block_ways : (block : List Stmt) → AllByRecursion StatementWays block →
      enters_in_block program own block ≡ [] → Ways (statements program block)
  block_ways block ways none =
      turn_ways (map (statement program) block) (mapped_ways block ways none)

  rolled : (x : S.Stmt-F Stmt) →
      (into_step program own (S.map-Stmt Stmt (List ℕ) (enters_in program own) x) ≡ [] →
      Ways (statement_step program (S.map-Stmt Stmt Conduct (statement program) x))) →
      StatementWays (S.roll-Stmt x)
  rolled x ways none locals =
      rw (S.fold-roll-Stmt Conduct (statement_step program) x)
      (ways (rw (S.fold-roll-Stmt (List ℕ) (into_step program own) x) at none) locals)

  assign_ways : (place : Place) (e : Expr)
      → Ways (statement_step program (S.Stmt-F.Assign place e))
  assign_ways place e locals =
      answers_behind IsWay (aim program place locals)
      (λ a. chain (expression program e locals) (assigned locals a))
      (λ a. answers_behind IsWay (expression program e locals) (assigned locals a)
      (assigned_ways locals a))

  choice_ways : (condition : Expr) (block : List Stmt) (other : Option (List Conduct)) →
      Ways (statements program block) → Ways (otherwise other) →
      Ways (statement_step program (S.Stmt-F.If condition (map (statement program) block) other))
  choice_ways condition block other ways also locals =
      answers_behind IsWay (expression program condition locals)
      (λ value. if value == 0 then otherwise other locals else statements program block locals)
      (λ value. either_ways (value == 0) (otherwise other locals) (statements program block locals)
      (also locals) (ways locals))

  chosen_ways : (condition : Expr) (block : List Stmt) (other : Option (List Stmt)) →
      AllByRecursion StatementWays block → AllOtherwise StatementWays other →
      StatementWays (S.roll-Stmt (S.Stmt-F.If condition block other))
  chosen_ways condition block None ways also = rolled (S.Stmt-F.If condition block None) (λ none.
      let here = enters_in_block program own block in
      choice_ways condition block None (block_ways block ways (first-empty here [] none))
      (λ locals store. tt))
  chosen_ways condition block (Some other) ways also =
      rolled (S.Stmt-F.If condition block (Some other)) (λ none.
      let here = enters_in_block program own block in
      let there = enters_in_block program own other in
      choice_ways condition block (Some (map (statement program) other))
      (block_ways block ways (first-empty here there none))
      (block_ways other also (second-empty here there none)))

  cases : StatementCases StatementWays
  cases = record {
    declared = λ name e. rolled (S.Stmt-F.Let name e) (λ none locals.
        answers_behind IsWay (expression program e locals)
        (λ value. Course.ends (Way.on (with_local name.text value locals))) (λ value store. tt));
    assigned = λ place e. rolled (S.Stmt-F.Assign place e) (λ none. assign_ways place e);
    chosen = chosen_ways;
    repeated = λ name count block ways. rolled (S.Stmt-F.Repeat name count block) (λ none.
        loop_ways count 0 name.text (statements program block) (block_ways block ways none));
    next = λ name. rolled (S.Stmt-F.Next name) (λ none locals store.
        next_leads name (task_of program name.text) refl none);
    halt = λ at. rolled (S.Stmt-F.Halt at) (λ none locals store. halts refl);
    give = λ es at. rolled (S.Stmt-F.Give es at) (λ none locals.
        answers_behind IsWay (expressions program es locals)
        (λ values. Course.ends (Way.out (Given values))) (λ values store. halts refl));
  }

  ending_leads : (way : Way) → IsWay way → Answers IsLeading (ending_of way)
  ending_leads (Way.on locals) leads = λ store. halts refl
  ending_leads (Way.out ending) leads = λ store. leads

  body_leads : (stmts : List Stmt) (locals : Locals) → enters_in_block program own stmts ≡ [] →
      Answers IsLeading (body program stmts locals)
  body_leads stmts locals none =
      chain_answers IsWay IsLeading (statements program stmts locals) ending_of
      (block_ways stmts (every_statement_of StatementWays cases stmts) none locals) ending_leads

-- each task has a transaction beside it, or none
pub length-memberships : (tx : ℕ) (units : List UnitDecl) →
    length (memberships tx units) ≡ length (flat_map tasks_of_unit units)
length-memberships tx [] = refl
length-memberships tx (Lone task ∷ more) = ap suc (length-memberships tx more)
length-memberships tx (Tx members ∷ more) =
    let rest = length-memberships (tx + 1) more in
    omega (
      arith,
      rest,
      length-append (replicate (length members.tasks) (Some tx)) (memberships (tx + 1) more),
      length-replicate (length members.tasks) (Some tx),
      length-append members.tasks (flat_map tasks_of_unit more),
    )

-- where no task enters a transaction in its midst, none of this number does; a task that isn't
-- there has no body
enters_none : (program : Program) (owns : List (Option ℕ)) (all : List TaskDecl) (task : ℕ) →
    length owns ≡ length all → flat_map (enters_in_member program) (zip owns all) ≡ [] →
    enters_in_block program (option_and_then (λ tx. tx) (slice_get owns task))
    (statements_of (slice_get all task)) ≡ []
enters_none program [] [] task same none = refl
enters_none program [] (first ∷ more) task same none = absurd (omega arith)
enters_none program (own ∷ owns) [] task same none = refl
enters_none program (own ∷ owns) (first ∷ more) zero same none =
    first-empty (enters_in_block program own first.body)
    (flat_map (enters_in_member program) (zip owns more)) none
enters_none program (own ∷ owns) (first ∷ more) (suc task) same none =
    enters_none program owns more task (omega arith)
    (second-empty (enters_in_block program own first.body)
    (flat_map (enters_in_member program) (zip owns more)) none)

pub endings_lead : (program : Program) → IsAccepted program → (task : ℕ) (store : Store) →
    MayLead program task (place_after (answer (task_course program task) store))
endings_lead program accepted task =
    body_leads program task (statements_of (slice_get (tasks program) task)) no_locals
    (enters_none program (memberships 0 program.units) (tasks program) task
    (length-memberships 0 program.units) (accepted 10 (omega arith) (omega arith)))
