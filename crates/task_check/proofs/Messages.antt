-- Messages of an accepted program have at most four words.
use Rattle.std.proofs.Common.{◌≡◌, ℕ, ◌≤◌, List, [], ◌∷◌, ◌++◌, map, length, refl, sym, ap, ◌∙◌, arith}
use Rattle.std.specs.Prelude.{Bool, true, false, IsTrue, ◌&&◌, ◌==◌, nat_le, Option, Some, None, All, flat_map, if◌then◌else◌}
use Rattle.std.proofs.lemmas.Bool.{and_from}
use Rattle.std.specs.List.{AllByRecursion}
use Rattle.std.proofs.lemmas.Bool.Decides.{nat_tests}
use Rattle.std.proofs.lemmas.Grind.{flat_map-append}
use Rattle.std.proofs.lemmas.List.Elements.{All-nil, All-cons}
use Rattle.task_syntax.specs.declared.program.Program.{Program}
use Rattle.task_syntax.specs.declared.program.Event.{Event}
use Rattle.task_syntax.specs.declared.program.TaskDecl.{TaskDecl}
use Rattle.task_syntax.specs.declared.name.Name.{Name}
use Rattle.task_syntax.specs.declared.expression.Expr.{Expr}
use Rattle.task_syntax.specs.declared.statement.Stmt.{Stmt}
use Rattle.task_syntax.specs.declared.statement.Stmt as S
use Rattle.task_syntax.specs.declared.body.Kind.{Kind}
use Rattle.task_syntax.specs.Names.{tasks}
use Rattle.task_check.specs.Accepted.{IsAccepted}
use Rattle.task_check.specs.Bodies.{BodyRead, task_body, top_half, bottom_half, halves}
use Rattle.task_check.specs.Endings.{is_top, is_last, early_step, early_in, early_in_block, early_endings}
use Rattle.task_check.specs.Gives.{fifth, misgiven_step, misgiven, misgiven_in, give_shape}
use Rattle.task_check.specs.Least.{unless}
use Rattle.task_check.specs.Messages.{statement_gives_step, statement_gives, statements_give, HasShortMessages}
use Rattle.task_check.proofs.NoPlaces.{first-empty, second-empty, held}
use Rattle.task_syntax.proofs.Trees.{StatementCases, AllOtherwise, every_statement_of}

-- this is said of statements whose messages have four words at most, with those in their blocks
record SaysFew (Few : Stmt → Type 0) : Type 0 where
  chosen : (condition : Expr) (block : List Stmt) (other : Option (List Stmt)) → Few (S.roll-Stmt (S.Stmt-F.If condition block other)) →
      AllByRecursion Few block × AllOtherwise Few other
  repeated : (name : Name) (count : ℕ) (block : List Stmt) → Few (S.roll-Stmt (S.Stmt-F.Repeat name count block)) → AllByRecursion Few block
  give : (es : List Expr) (at : ℕ) → Few (S.roll-Stmt (S.Stmt-F.Give es at)) → length es ≤ 4

few-words : (count : ℕ) → count ≤ 4 → nat_le count 4 ≡ true
few-words count few = grind (arith, nat_tests)

module _ (Few : Stmt → Type 0) (few : SaysFew Few) where
  abbrev Gives : Stmt → Type 0
  Gives statement = Few statement → statement_gives statement ≡ true

  rolled : (x : S.Stmt-F Stmt) → (Few (S.roll-Stmt x) → statement_gives_step (S.map-Stmt Stmt Bool statement_gives x) ≡ true) → Gives (S.roll-Stmt x)
  rolled x gives says = S.fold-roll-Stmt Bool statement_gives_step x ∙ gives says

  block-gives : (block : List Stmt) → AllByRecursion Gives block → AllByRecursion Few block → statements_give block ≡ true
  block-gives [] each says = refl
  block-gives (first ∷ more) each says = and_from (statement_gives first) (statements_give more) (each.0 says.0) (block-gives more each.1 says.1)

  chosen-gives : (condition : Expr) (block : List Stmt) (other : Option (List Stmt)) → AllByRecursion Gives block → AllOtherwise Gives other →
      Gives (S.roll-Stmt (S.Stmt-F.If condition block other))
  chosen-gives condition block None each rest = rolled (S.Stmt-F.If condition block None) (λ says.
      and_from (statements_give block) true (block-gives block each (few.chosen condition block None says).0) refl)
  chosen-gives condition block (Some other) each rest = rolled (S.Stmt-F.If condition block (Some other)) (λ says.
      let both = few.chosen condition block (Some other) says in
      and_from (statements_give block) (statements_give other) (block-gives block each both.0) (block-gives other rest both.1))

  gives : StatementCases Gives
  gives = record {
    declared = λ name e. rolled (S.Stmt-F.Let name e) (λ says. refl);
    assigned = λ place e. rolled (S.Stmt-F.Assign place e) (λ says. refl);
    chosen = chosen-gives;
    repeated = λ name count block each. rolled (S.Stmt-F.Repeat name count block) (λ says. block-gives block each (few.repeated name count block says));
    next = λ name. rolled (S.Stmt-F.Next name) (λ says. refl);
    halt = λ at. rolled (S.Stmt-F.Halt at) (λ says. refl);
    give = λ es at. rolled (S.Stmt-F.Give es at) (λ says. few-words (length es) (few.give es at says));
  }

  body-gives : (block : List Stmt) → AllByRecursion Few block → statements_give block ≡ true
  body-gives block says = block-gives block (every_statement_of Gives gives block) says

-- in a body that is no top half no message may stand
module _ (kind : Kind) (no_top : is_top kind ≡ false) where
  abbrev IsSilent : Stmt → Type 0
  IsSilent statement = (last : Bool) × (early_in kind statement last ≡ [])

  silent-block : (block : List Stmt) (last : Bool) → early_in_block kind block last ≡ [] → AllByRecursion IsSilent block
  silent-block [] last none = tt
  silent-block (first ∷ more) last none =
      let now = last && is_last (map (early_in kind) more) in
      ((now, first-empty (early_in kind first now) (early_in_block kind more last) none), silent-block more last (second-empty (early_in kind first now) (early_in_block kind more last) none))

  opened : (x : S.Stmt-F Stmt) → (says : IsSilent (S.roll-Stmt x)) → early_step kind (S.map-Stmt Stmt (Bool → List ℕ) (early_in kind) x) says.0 ≡ []
  opened x says = ap (λ (found : Bool → List ℕ). found says.0) (sym (S.fold-roll-Stmt (Bool → List ℕ) (early_step kind) x)) ∙ says.1

  silent-chosen : (condition : Expr) (block : List Stmt) (other : Option (List Stmt)) → IsSilent (S.roll-Stmt (S.Stmt-F.If condition block other)) →
      AllByRecursion IsSilent block × AllOtherwise IsSilent other
  silent-chosen condition block None says = (silent-block block says.0 (first-empty (early_in_block kind block says.0) [] (opened (S.Stmt-F.If condition block None) says)), tt)
  silent-chosen condition block (Some other) says =
      let none = opened (S.Stmt-F.If condition block (Some other)) says in (
        silent-block block says.0 (first-empty (early_in_block kind block says.0) (early_in_block kind other says.0) none),
        silent-block other says.0 (second-empty (early_in_block kind block says.0) (early_in_block kind other says.0) none),
      )

  no-message : (last top : Bool) (at : ℕ) → top ≡ false → unless (last && top) at ≡ [] → ⊥
  no-message last true at low none = cc
  no-message true false at low none = cc
  no-message false false at low none = cc

  silent : SaysFew IsSilent
  silent = record {
    chosen = silent-chosen;
    repeated = λ name count block says. silent-block block false (opened (S.Stmt-F.Repeat name count block) says);
    give = λ es at says. absurd (no-message says.0 (is_top kind) at no_top (opened (S.Stmt-F.Give es at) says));
  }

-- where each message has so many words
module _ (words : ℕ) (few : words ≤ 4) where
  abbrev IsShaped : Stmt → Type 0
  IsShaped statement = misgiven words statement ≡ []

  shaped-block : (block : List Stmt) → misgiven_in words block ≡ [] → AllByRecursion IsShaped block
  shaped-block [] none = tt
  shaped-block (first ∷ more) none =
      (first-empty (misgiven words first) (misgiven_in words more) none, shaped-block more (second-empty (misgiven words first) (misgiven_in words more) none))

  shown : (x : S.Stmt-F Stmt) → IsShaped (S.roll-Stmt x) → misgiven_step words (S.map-Stmt Stmt (List ℕ) (misgiven words) x) ≡ []
  shown x says = sym (S.fold-roll-Stmt (List ℕ) (misgiven_step words) x) ∙ says

  shaped-chosen : (condition : Expr) (block : List Stmt) (other : Option (List Stmt)) → IsShaped (S.roll-Stmt (S.Stmt-F.If condition block other)) →
      AllByRecursion IsShaped block × AllOtherwise IsShaped other
  shaped-chosen condition block None says = (shaped-block block (first-empty (misgiven_in words block) [] (shown (S.Stmt-F.If condition block None) says)), tt)
  shaped-chosen condition block (Some other) says =
      let none = shown (S.Stmt-F.If condition block (Some other)) says in (
        shaped-block block (first-empty (misgiven_in words block) (misgiven_in words other) none),
        shaped-block other (second-empty (misgiven_in words block) (misgiven_in words other) none),
      )

  equal-words : (count at : ℕ) → (if count == words then [] else at ∷ []) ≡ [] → count ≤ 4
  equal-words count at none = (let same = held (count == words) at none in grind (arith, nat_tests))

  shaped : SaysFew IsShaped
  shaped = record {
    chosen = shaped-chosen;
    repeated = λ name count block says. shaped-block block (shown (S.Stmt-F.Repeat name count block) says);
    give = λ es at says. equal-words (length es) at (shown (S.Stmt-F.Give es at) says);
  }

four-names : (params : List Name) → fifth params ≡ [] → length params ≤ 4
four-names [] none = omega arith
four-names (a ∷ []) none = omega arith
four-names (a ∷ b ∷ []) none = omega arith
four-names (a ∷ b ∷ c ∷ []) none = omega arith
four-names (a ∷ b ∷ c ∷ d ∷ []) none = omega arith
four-names (a ∷ b ∷ c ∷ d ∷ e ∷ more) none = absurd (cc)

abbrev TaskGives : TaskDecl → Type 0
TaskGives task = IsTrue (statements_give task.body)

abbrev TopGives : Event → Type 0
TopGives event = IsTrue (statements_give event.top)

abbrev BottomGives : Event → Type 0
BottomGives event = IsTrue (statements_give event.bottom)

silent-gives : (body : BodyRead) → is_top body.kind ≡ false → early_endings body ≡ [] → statements_give body.statements ≡ true
silent-gives body no_top none = body-gives (IsSilent body.kind no_top) (silent body.kind no_top) body.statements (silent-block body.kind no_top body.statements true none)

tasks-short : (tasks : List TaskDecl) → flat_map early_endings (map task_body tasks) ≡ [] → All TaskGives tasks
tasks-short [] none = All-nil TaskGives
tasks-short (task ∷ more) none =
    let here = early_endings (task_body task) in
    let rest = flat_map early_endings (map task_body more) in
    All-cons TaskGives task more (silent-gives (task_body task) refl (first-empty here rest none)) (tasks-short more (second-empty here rest none))

bottoms-short : (events : List Event) → flat_map early_endings (flat_map halves events) ≡ [] → All BottomGives events
bottoms-short [] none = All-nil BottomGives
bottoms-short (event ∷ more) none =
    let here = early_endings (bottom_half event) in
    let rest = flat_map early_endings (flat_map halves more) in
    let behind_top = second-empty (early_endings (top_half event)) (here ++ rest) none in
    All-cons BottomGives event more (silent-gives (bottom_half event) refl (first-empty here rest behind_top)) (bottoms-short more (second-empty here rest behind_top))

top-short : (event : Event) → give_shape event ≡ [] → TopGives event
top-short event none =
    let count = length event.params in
    let names = fifth event.params in
    let few : count ≤ 4 = four-names event.params (first-empty names (misgiven_in count event.top) none) in
    body-gives (IsShaped count few) (shaped count few) event.top (shaped-block count few event.top (second-empty names (misgiven_in count event.top) none))

tops-short : (events : List Event) → flat_map give_shape events ≡ [] → All TopGives events
tops-short [] none = All-nil TopGives
tops-short (event ∷ more) none =
    let here = give_shape event in
    let rest = flat_map give_shape more in
    All-cons TopGives event more (top-short event (first-empty here rest none)) (tops-short more (second-empty here rest none))

pub short_messages : (program : Program) → IsAccepted program → HasShortMessages program
short_messages program accepted =
    let of_tasks = map task_body (tasks program) in
    let of_events = flat_map halves program.events in
    let early = sym (flat_map-append early_endings of_tasks of_events) ∙ accepted 9 (omega arith) (omega arith) in
    record {
      in_tasks = tasks-short (tasks program) (first-empty (flat_map early_endings of_tasks) (flat_map early_endings of_events) early);
      in_tops = tops-short program.events (accepted 12 (omega arith) (omega arith));
      in_bottoms = bottoms-short program.events (second-empty (flat_map early_endings of_tasks) (flat_map early_endings of_events) early);
    }
