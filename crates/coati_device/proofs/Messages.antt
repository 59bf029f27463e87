-- A top half of an accepted program gives as many words as its event has parameters.
use Rattle.std.proofs.Common.{◌≡◌, ℕ, zero, suc, ◌+◌, ◌==◌, List, [], ◌∷◌, ◌++◌, map, refl, sym, ap, ◌∙◌, subst, arith, Bool, true, false}
use Rattle.std.specs.Prelude.{Option, Some, None, length, slice_get, flat_map, ◌&&◌, if◌then◌else◌}
use Rattle.std.specs.List.{AllByRecursion}
use Rattle.std.proofs.lemmas.Bool.Decides.{nat_tests}
use Rattle.std.proofs.lemmas.Grind.{flat_map-append}
use Rattle.coati_word.specs.declared.ending.Ending.{Ending}
use Rattle.coati_word.specs.declared.ending.Ending.TheVariants.{Given}
use Rattle.task_syntax.specs.declared.body.Kind.TheVariants.{Top}
use Rattle.task_syntax.specs.declared.program.Event.{Event}
use Rattle.task_syntax.specs.declared.program.Program.{Program}
use Rattle.task_syntax.specs.declared.expression.Expr.{Expr}
use Rattle.task_syntax.specs.declared.expression.Place.{Place}
use Rattle.task_syntax.specs.declared.statement.Stmt.{Stmt}
use Rattle.task_syntax.specs.declared.statement.Stmt as S
use Rattle.task_syntax.specs.Course.{Course, chain}
use Rattle.task_syntax.specs.Events.{blank_store, message, message_of}
use Rattle.task_syntax.specs.Expressions.{Aim, Locals, aim, expression, expressions, no_locals, with_local}
use Rattle.task_syntax.specs.Names.{tasks}
use Rattle.task_syntax.specs.Statements.{Conduct, Way, assigned, body, ending_of, in_turn, otherwise, statement, statement_step, statements, turns, unless_out}
use Rattle.task_syntax.proofs.Trees.{AllOtherwise, StatementCases, every_statement_of}
use Rattle.task_check.specs.Accepted.{IsAccepted}
use Rattle.task_check.specs.Bodies.{bottom_half, halves, task_body, top_half}
use Rattle.task_check.specs.Endings.{block_ends, early_endings, early_in, early_in_block, early_step, ends_step, is_last, last_ends, no_ending, statement_ends}
use Rattle.task_check.specs.Gives.{fifth, give_shape, misgiven, misgiven_in, misgiven_step}
use Rattle.task_check.specs.Least.{unless}
use Rattle.task_check.proofs.NoPlaces.{first-empty, held, second-empty}
use Rattle.coati_device.proofs.TaskEndings.{Answers, answers_behind, chain_answers}

module _ (program : Program) (count : ℕ) where
  -- a message of so many words
  abbrev IsMessage : Ending → Type 0
  IsMessage ending = length (message_of ending) ≡ count

  -- where it leads out, it gives one; where it ends for certain, it doesn't lead on
  abbrev IsWay : Bool → Way → Type 0
  IsWay ended (Way.on locals) = ended ≡ false
  IsWay ended (Way.out ending) = IsMessage ending

  abbrev Ways : Bool → Conduct → Type 0
  Ways ended conduct = (locals : Locals) → Answers (IsWay ended) (conduct locals)

  -- what the rules say of a statement: its endings stand where they may, with so many words
  record IsShaped (s : Stmt) : Type 0 where
    last : Bool
    placed : early_in Top s last ≡ []
    words : misgiven count s ≡ []

  abbrev StatementWays : Stmt → Type 0
  StatementWays s = IsShaped s → Ways (statement_ends s) (statement program s)

  less_ended : (ended : Bool) (way : Way) → IsWay ended way → IsWay false way
  less_ended ended (Way.on locals) is = refl
  less_ended ended (Way.out ending) is = is

  less_ended_ways : (ended : Bool) (conduct : Conduct) → Ways ended conduct → Ways false conduct
  less_ended_ways ended conduct ways locals store = less_ended ended _ (ways locals store)

  after_way : (first_ends ended : Bool) (rest : Conduct) → Ways ended rest → (way : Way) →
      IsWay first_ends way →
      Answers (IsWay ended) (unless_out rest way)
  after_way first_ends ended rest ways (Way.on locals) is = ways locals
  after_way first_ends ended rest ways (Way.out ending) is = λ store. is

  -- behind the last statement nothing is done
  kept_way : (ended : Bool) (way : Way) → IsWay ended way →
      Answers (IsWay ended) (unless_out (in_turn []) way)
  kept_way ended (Way.on locals) is = λ store. is
  kept_way ended (Way.out ending) is = λ store. is

  -- each conduct with whether it ends
  abbrev AllWays : List Bool → List Conduct → Type 0
  AllWays [] [] = Unit {0}
  AllWays [] (conduct ∷ more) = ⊥
  AllWays (ended ∷ ends) [] = ⊥
  AllWays (ended ∷ ends) (conduct ∷ more) = Ways ended conduct × AllWays ends more

  turn_ways : (ends : List Bool) (conducts : List Conduct) → AllWays ends conducts →
      Ways (last_ends ends) (in_turn conducts)
  turn_ways [] [] ways locals = λ store. refl
  turn_ways [] (only ∷ more) ways locals = absurd ways
  turn_ways (ended ∷ []) [] ways locals = absurd ways
  turn_ways (ended ∷ []) (only ∷ []) ways locals =
      chain_answers (IsWay ended) (IsWay ended) (only locals) (unless_out (in_turn []))
      (ways.0 locals) (kept_way ended)
  turn_ways (ended ∷ []) (only ∷ second ∷ more) ways locals = absurd ways.1
  turn_ways (ended ∷ next ∷ ends) [] ways locals = absurd ways
  turn_ways (ended ∷ next ∷ ends) (first ∷ []) ways locals = absurd ways.1
  turn_ways (ended ∷ next ∷ ends) (first ∷ second ∷ more) ways locals =
      let rest = last_ends (next ∷ ends) in
      let behind = in_turn (second ∷ more) in
      chain_answers (IsWay ended) (IsWay rest) (first locals) (unless_out behind) (ways.0 locals)
      (after_way ended rest behind (turn_ways (next ∷ ends) (second ∷ more) ways.1))

  loop_ways : (left turn : ℕ) (name : List ℕ) (block : Conduct) → Ways false block →
      Ways false (turns left turn name block)
  loop_ways zero turn name block ways locals = λ store. refl
  loop_ways (suc left) turn name block ways locals =
      let rest = turns left (turn + 1) name block in
      chain_answers (IsWay false) (IsWay false) (block (with_local name turn locals))
      (unless_out rest)
      (ways (with_local name turn locals))
      (after_way false false rest (loop_ways left (turn + 1) name block ways))

  assigned_ways : (locals : Locals) (a : Aim) (value : ℕ) →
      Answers (IsWay false) (assigned locals a value)
  assigned_ways locals (Aim.named name) value = λ store. refl
  assigned_ways locals (Aim.in_word word) value = λ store. refl

  either_ways : (test ended : Bool) (one other : Course Way) → Answers (IsWay ended) one →
      Answers (IsWay ended) other →
      Answers (IsWay ended) (if test then one else other)
  either_ways true ended one other ways also = ways
  either_ways false ended one other ways also = also

  -- where both end, the choice does
  either_ended : (one other : Bool) (way : Way) → IsWay one way → IsWay (one && other) way
  either_ended one other (Way.on locals) is = rw is refl
  either_ended one other (Way.out ending) is = is

  other_ended : (one other : Bool) (way : Way) → IsWay other way → IsWay (one && other) way
  other_ended true other (Way.on locals) is = is
  other_ended false other (Way.on locals) is = refl
  other_ended one other (Way.out ending) is = is

  mapped_ways : (block : List Stmt) → AllByRecursion StatementWays block → (last : Bool) →
      early_in_block Top block last ≡ [] →
      misgiven_in count block ≡ [] →
      AllWays (map statement_ends block) (map (statement program) block)
  mapped_ways [] ways last placed words = tt
  mapped_ways (first ∷ more) ways last placed words =
      let now = last && is_last (map (early_in Top) more) in
      let here = early_in Top first now in
      let behind = early_in_block Top more last in
      let rest = mapped_ways more ways.1 last (second-empty here behind placed)
      (second-empty (misgiven count first) (misgiven_in count more) words) in (
        ways.0 (record {
          last = now;
          placed = first-empty here behind placed;
          words = first-empty (misgiven count first) (misgiven_in count more) words;
        }),
        rest,
      )

  block_ways : (block : List Stmt) → AllByRecursion StatementWays block → (last : Bool) →
      early_in_block Top block last ≡ [] →
      misgiven_in count block ≡ [] → Ways (block_ends block) (statements program block)
  block_ways block ways last placed words =
      turn_ways (map statement_ends block) (map (statement program) block)
      (mapped_ways block ways last placed words)

  rolled : (x : S.Stmt-F Stmt) →
      ((last : Bool) →
      early_step Top (S.map-Stmt Stmt (Bool → List ℕ) (early_in Top) x) last ≡ [] →
      misgiven_step count (S.map-Stmt Stmt (List ℕ) (misgiven count) x) ≡ [] →
      Ways (ends_step (S.map-Stmt Stmt Bool statement_ends x))
      (statement_step program (S.map-Stmt Stmt Conduct (statement program) x))) →
      StatementWays (S.roll-Stmt x)
  rolled x ways shaped locals =
      rw (S.fold-roll-Stmt Conduct (statement_step program) x, S.fold-roll-Stmt Bool ends_step x)
      (ways shaped.last
      (ap (λ (found : Bool → List ℕ). found shaped.last)
      (sym (S.fold-roll-Stmt (Bool → List ℕ) (early_step Top) x)) ∙ shaped.placed)
      (sym (S.fold-roll-Stmt (List ℕ) (misgiven_step count) x) ∙ shaped.words) locals)

  assign_ways : (place : Place) (e : Expr) →
      Ways false (statement_step program (S.Stmt-F.Assign place e))
  assign_ways place e locals =
      answers_behind (IsWay false) (aim program place locals)
      (λ a. chain (expression program e locals) (assigned locals a))
      (λ a. answers_behind (IsWay false) (expression program e locals) (assigned locals a)
      (assigned_ways locals a))

  choice_ways : (condition : Expr) (block : List Stmt) (other : Option (List Conduct))
      (ended : Bool) →
      Ways ended (statements program block) → Ways ended (otherwise other) →
      Ways ended (statement_step program
      (S.Stmt-F.If condition (map (statement program) block) other))
  choice_ways condition block other ended ways also locals =
      answers_behind (IsWay ended) (expression program condition locals)
      (λ value. if value == 0 then otherwise other locals else statements program block locals)
      (λ value. either_ways (value == 0) ended (otherwise other locals)
      (statements program block locals) (also locals) (ways locals))

  chosen_ways : (condition : Expr) (block : List Stmt) (other : Option (List Stmt)) →
      AllByRecursion StatementWays block → AllOtherwise StatementWays other →
      StatementWays (S.roll-Stmt (S.Stmt-F.If condition block other))
  chosen_ways condition block None ways also =
      rolled (S.Stmt-F.If condition block None) (λ last placed words.
      let here = block_ways block ways last (first-empty (early_in_block Top block last) [] placed)
      (first-empty (misgiven_in count block) [] words) in
      choice_ways condition block None false
      (less_ended_ways (block_ends block) (statements program block) here)
      (λ locals store. refl))
  chosen_ways condition block (Some other) ways also =
      rolled (S.Stmt-F.If condition block (Some other)) (λ last placed words.
      let places = early_in_block Top block last in
      let more = early_in_block Top other last in
      let gives = misgiven_in count block in
      let others = misgiven_in count other in
      let here = block_ways block ways last (first-empty places more placed)
      (first-empty gives others words) in
      let there = block_ways other also last (second-empty places more placed)
      (second-empty gives others words) in
      choice_ways condition block (Some (map (statement program) other))
      (block_ends block && block_ends other)
      (λ locals store. either_ended (block_ends block) (block_ends other) _ (here locals store))
      (λ locals store. other_ended (block_ends block) (block_ends other) _ (there locals store)))

  -- `next` and `halt` stand in no top half
  no_place : (last : Bool) (at : ℕ) → unless (last && false) at ≡ [] → ⊥
  no_place true at none = cc
  no_place false at none = cc

  abbrev HasLength : ℕ → List ℕ → Type 0
  HasLength number values = length values ≡ number

  values_counted : (es : List Expr) (locals : Locals) →
      Answers (HasLength (length es)) (expressions program es locals)
  values_counted [] locals = λ store. refl
  values_counted (first ∷ more) locals =
      answers_behind (HasLength (suc (length more))) (expression program first locals)
      (λ a. chain (expressions program more locals) (λ rest. Course.ends (a ∷ rest)))
      (λ a. chain_answers (HasLength (length more)) (HasLength (suc (length more)))
      (expressions program more locals)
      (λ rest. Course.ends (a ∷ rest)) (values_counted more locals) (λ rest is store. ap suc is))

  same_count : (given at : ℕ) → (if given == count then [] else at ∷ []) ≡ [] → given ≡ count
  same_count given at none = let same = held (given == count) at none in grind (arith, nat_tests)

  cases : StatementCases StatementWays
  cases = record {
    declared = λ name e. rolled (S.Stmt-F.Let name e) (λ last placed words locals.
        answers_behind (IsWay false) (expression program e locals)
        (λ value. Course.ends (Way.on (with_local name.text value locals))) (λ value store. refl));
    assigned = λ place e. rolled (S.Stmt-F.Assign place e)
        (λ last placed words. assign_ways place e);
    chosen = chosen_ways;
    repeated = λ name times block ways. rolled (S.Stmt-F.Repeat name times block)
        (λ last placed words.
        loop_ways times 0 name.text (statements program block)
        (less_ended_ways (block_ends block) (statements program block)
        (block_ways block ways false placed words)));
    next = λ name. rolled (S.Stmt-F.Next name)
        (λ last placed words. absurd (no_place last name.at placed));
    halt = λ at. rolled (S.Stmt-F.Halt at) (λ last placed words. absurd (no_place last at placed));
    give = λ es at. rolled (S.Stmt-F.Give es at) (λ last placed words locals.
        chain_answers (HasLength (length es)) (IsWay true) (expressions program es locals)
        (λ values. Course.ends (Way.out (Given values))) (values_counted es locals)
        (λ values is store. is ∙ same_count (length es) at words));
  }

  ending_gives : (way : Way) → IsWay true way → Answers IsMessage (ending_of way)
  ending_gives (Way.on locals) is = absurd cc
  ending_gives (Way.out ending) is = λ store. is

  body_gives : (stmts : List Stmt) (locals : Locals) → block_ends stmts ≡ true →
      early_in_block Top stmts true ≡ [] →
      misgiven_in count stmts ≡ [] → Answers IsMessage (body program stmts locals)
  body_gives stmts locals ends placed words =
      let ways = block_ways stmts
      (every_statement_of StatementWays cases stmts) true placed words locals in
      chain_answers (IsWay true) IsMessage (statements program stmts locals) ending_of
      (subst (λ (ended : Bool). Answers (IsWay ended) (statements program stmts locals)) ends ways)
      ending_gives

-- what the rules say of the top half of an event
record IsTopShaped (event : Event) : Type 0 where
  ends : no_ending (top_half event) ≡ []
  placed : early_endings (top_half event) ≡ []
  words : give_shape event ≡ []

top_shaped : (events : List Event) (number : ℕ) (event : Event) →
    slice_get events number ≡ Some event →
    flat_map no_ending (flat_map halves events) ≡ [] →
    flat_map early_endings (flat_map halves events) ≡ [] →
    flat_map give_shape events ≡ [] → IsTopShaped event
top_shaped [] number event is ends placed words = absurd cc
top_shaped (first ∷ more) zero event is ends placed words =
    let same : first ≡ event = cc in
    let others = flat_map halves more in
    subst IsTopShaped same (record {
      ends = first-empty (no_ending (top_half first))
          (no_ending (bottom_half first) ++ flat_map no_ending others) ends;
      placed = first-empty (early_endings (top_half first))
          (early_endings (bottom_half first) ++ flat_map early_endings others) placed;
      words = first-empty (give_shape first) (flat_map give_shape more) words;
    })
top_shaped (first ∷ more) (suc number) event is ends placed words =
    let others = flat_map halves more in
    let ends_more = flat_map no_ending others in
    let placed_more = flat_map early_endings others in
    top_shaped more number event is
    (second-empty (no_ending (bottom_half first)) ends_more
    (second-empty (no_ending (top_half first)) (no_ending (bottom_half first) ++ ends_more) ends))
    (second-empty (early_endings (bottom_half first)) placed_more
    (second-empty (early_endings (top_half first))
    (early_endings (bottom_half first) ++ placed_more) placed))
    (second-empty (give_shape first) (flat_map give_shape more) words)

pub messages_fit : (program : Program) → IsAccepted program → (number argument : ℕ)
    (event : Event) →
    slice_get program.events number ≡ Some event → length
    (message program event argument) ≡ length event.params
messages_fit program accepted number argument event is =
    let of_tasks = map task_body (tasks program) in
    let of_events = flat_map halves program.events in
    let ends = sym (flat_map-append no_ending of_tasks of_events) ∙ accepted 8 (omega arith)
    (omega arith) in
    let placed = sym (flat_map-append early_endings of_tasks of_events) ∙ accepted 9 (omega arith)
    (omega arith) in
    let shaped = top_shaped program.events number event is
    (second-empty (flat_map no_ending of_tasks) (flat_map no_ending of_events) ends)
    (second-empty (flat_map early_endings of_tasks) (flat_map early_endings of_events) placed)
    (accepted 12 (omega arith) (omega arith)) in
    let params = length event.params in
    body_gives program params event.top (with_local event.argument.text argument no_locals)
    (held (block_ends event.top) event.name.at shaped.ends) shaped.placed
    (second-empty (fifth event.params) (misgiven_in params event.top) shaped.words) blank_store
