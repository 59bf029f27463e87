-- What a walk has found behind parts of a program.
use Rattle.std.proofs.Common.{◌≡◌, ℕ, List, [], ◌∷◌, ◌++◌, map, refl, ap, sym, ◌∙◌, length, take, drop, get_or, ◌+◌, ◌≤◌, ◌<◌}
use Rattle.std.proofs.lemmas.List.{drop_more, drop_all}
use Rattle.std.specs.Prelude.{Some, None}
use Rattle.coati_word.specs.declared.operator.Op.{Op}
use Rattle.task_syntax.specs.declared.name.Name.{Name}
use Rattle.task_syntax.specs.declared.program.Event.{Event}
use Rattle.task_syntax.specs.declared.program.Program.{Program}
use Rattle.task_syntax.specs.declared.program.TaskDecl.{TaskDecl}
use Rattle.task_syntax.specs.declared.program.UnitDecl.TheVariants.{Lone}
use Rattle.task_syntax.specs.declared.expression.Expr.{Expr}
use Rattle.task_syntax.specs.declared.expression.Place.{Place}
use Rattle.task_syntax.specs.declared.expression.Expr as E
use Rattle.task_syntax.specs.declared.expression.Place as P
use Rattle.task_syntax.specs.declared.expression.Expr.TheVariants.{Num, Two, rolls-Num, rolls-Two}
use Rattle.task_syntax.specs.declared.expression.Place.TheVariants.{Item, rolls-Item}
use Rattle.task_syntax.specs.declared.statement.Stmt.{Stmt}
use Rattle.task_syntax.specs.declared.statement.Stmt.TheVariants.{Let, Assign, If, Repeat, Next, Halt, Give, rolls-Let, rolls-Assign, rolls-If, rolls-Repeat, rolls-Next, rolls-Halt, rolls-Give}
use Rattle.task_syntax.specs.declared.statement.Stmt as S
use Rattle.task_check.specs.declared.walk.Walk.{Walk}
use Rattle.task_check.specs.declared.meaning.Meaning.TheVariants as meaning
use Rattle.task_check.specs.declared.role.Role.TheVariants as role
use Rattle.task_check.specs.Scope.{Scope}
use Rattle.task_check.specs.Mentions.{Mention, Part, chain, in_turn, uses, mention, expression_mentions, expression_mentions_step, place_mentions, place_mentions_step, expressions_mentions, declares, within, statement_part, statement_part_step, statements_part, declares_all, event_part, globals_part, bodies_part, mentions, halves_part, body_part, task_part, unit_bodies, unit_part, var_part}
use Rattle.task_check.specs.Found.{found_among, joined}
use Rattle.task_check.specs.Walk.{behind}
use Rattle.task_check.proofs.Adding.{Adds, first-names, chain-adds, declares-adds, declares_all-adds, statements-add}
use Rattle.task_check.proofs.Places.{found-append, joined-joined, joined-none}

abbrev Names : Type 0
Names = Scope → List Mention

pub behind-chain : (first second : Part) (walk : Walk) → behind (chain first second) walk ≡ behind second (behind first walk)
unfolding behind
behind-chain first second walk =
    let one = (first walk.scope).mentions in
    let other = (second (first walk.scope).scope).mentions in
    let found : joined walk.found (found_among (one ++ other)) ≡ joined (joined walk.found (found_among one)) (found_among other) = ap (joined walk.found) (found-append one other) ∙ sym (joined-joined walk.found (found_among one) (found_among other)) in
    ap (λ f. record { scope = (second (first walk.scope).scope).scope; found = f }) found

pub behind-nothing : (walk : Walk) → behind (in_turn []) walk ≡ walk
unfolding behind
behind-nothing walk = ap (λ f. record { scope = walk.scope; found = f }) (joined-none walk.found)

-- what each layer of an expression mentions
two : (op : Op) (left right : Expr) → expression_mentions (Two op left right) ≡ (λ scope. expression_mentions left scope ++ expression_mentions right scope)
two op left right = ap expression_mentions (sym (rolls-Two op left right)) ∙ E.fold-roll-Expr Names Names expression_mentions_step place_mentions_step (E.Expr-F.Two op left right)

item : (name : Name) (index : Expr) → place_mentions (Item name index) ≡ (λ scope. mention role.Item name scope ∷ expression_mentions index scope)
item name index = ap place_mentions (sym (rolls-Item name index)) ∙ P.fold-roll-Place Names Names expression_mentions_step place_mentions_step (P.Place-F.Item name index)

pub behind-two : (op : Op) (left right : Expr) (walk : Walk) → behind (uses (expression_mentions (Two op left right))) walk
    ≡ behind (uses (expression_mentions right)) (behind (uses (expression_mentions left)) walk)
behind-two op left right walk = ap (λ names. behind (uses names) walk) (two op left right) ∙ behind-chain (uses (expression_mentions left)) (uses (expression_mentions right)) walk

pub behind-item : (name : Name) (index : Expr) (walk : Walk) → behind (uses (place_mentions (Item name index))) walk
    ≡ behind (uses (expression_mentions index)) (behind (uses (λ scope. mention role.Item name scope ∷ [])) walk)
behind-item name index walk = ap (λ names. behind (uses names) walk) (item name index) ∙ behind-chain (uses (λ scope. mention role.Item name scope ∷ [])) (uses (expression_mentions index)) walk

pub behind-num : (number : ℕ) (walk : Walk) → behind (uses (expression_mentions (Num number))) walk ≡ walk
behind-num number walk = ap (λ names. behind (uses names) walk) (ap expression_mentions (sym (rolls-Num number)) ∙ E.fold-roll-Expr Names Names expression_mentions_step place_mentions_step (E.Expr-F.Num number)) ∙ behind-nothing walk

-- expressions, one after another
pub behind-first : (first : Expr) (more : List Expr) (walk : Walk) → behind (uses (expressions_mentions (first ∷ more))) walk
    ≡ behind (uses (expressions_mentions more)) (behind (uses (expression_mentions first)) walk)
behind-first first more walk = behind-chain (uses (expression_mentions first)) (uses (expressions_mentions more)) walk

pub behind-expressions_from : (values : List Expr) (i : ℕ) (value : Expr) (walk : Walk) → i < length values → value ≡ get_or values i value
    → behind (uses (expressions_mentions (drop i values))) walk ≡ behind (uses (expressions_mentions (drop (i + 1) values))) (behind (uses (expression_mentions value)) walk)
behind-expressions_from values i value walk within is =
    ap (λ list. behind (uses (expressions_mentions list)) walk) (drop_more values i value within ∙ ap (λ first. first ∷ drop (i + 1) values) (sym is)) ∙ behind-first value (drop (i + 1) values) walk

pub behind-expressions_past : (values : List Expr) (i : ℕ) (walk : Walk) → length values ≤ i → behind (uses (expressions_mentions (drop i values))) walk ≡ walk
behind-expressions_past values i walk past = ap (λ list. behind (uses (expressions_mentions list)) walk) (drop_all i values past) ∙ behind-nothing walk

-- parts, one behind another
module _ {X : Type 0} (part : X → Part) where
  pub behind-from : (xs : List X) (i : ℕ) (x : X) (walk : Walk) → i < length xs → x ≡ get_or xs i x → behind (in_turn (map part (drop i xs))) walk ≡ behind (in_turn (map part (drop (i + 1) xs))) (behind (part x) walk)
  behind-from xs i x walk within is =
      ap (λ list. behind (in_turn (map part list)) walk) (drop_more xs i x within ∙ ap (λ first. first ∷ drop (i + 1) xs) (sym is)) ∙ behind-chain (part x) (in_turn (map part (drop (i + 1) xs))) walk

  pub behind-past : (xs : List X) (i : ℕ) (walk : Walk) → length xs ≤ i → behind (in_turn (map part (drop i xs))) walk ≡ walk
  behind-past xs i walk past = ap (λ list. behind (in_turn (map part list)) walk) (drop_all i xs past) ∙ behind-nothing walk

-- what each layer of a statement is
rolled : (s : Stmt) (x : S.Stmt-F Stmt) (walk : Walk) → S.roll-Stmt x ≡ s → behind (statement_part s) walk ≡ behind (statement_part_step (S.map-Stmt Stmt Part statement_part x)) walk
rolled s x walk is = ap (λ t. behind (statement_part t) walk) (sym is) ∙ ap (λ part. behind part walk) (S.fold-roll-Stmt Part statement_part_step x)

pub behind-let : (name : Name) (e : Expr) (walk : Walk) → behind (statement_part (Let name e)) walk ≡ behind (declares meaning.Local name) (behind (uses (expression_mentions e)) walk)
behind-let name e walk = rolled (Let name e) (S.Stmt-F.Let name e) walk (rolls-Let name e) ∙ behind-chain (uses (expression_mentions e)) (declares meaning.Local name) walk

pub behind-assign : (place : Place) (e : Expr) (walk : Walk) → behind (statement_part (Assign place e)) walk ≡ behind (uses (expression_mentions e)) (behind (uses (place_mentions place)) walk)
behind-assign place e walk = rolled (Assign place e) (S.Stmt-F.Assign place e) walk (rolls-Assign place e) ∙ behind-chain (uses (place_mentions place)) (uses (expression_mentions e)) walk

chosen : (condition : Expr) (block other : Part) (walk : Walk) → behind (chain (uses (expression_mentions condition)) (chain block other)) walk ≡ behind other (behind block (behind (uses (expression_mentions condition)) walk))
chosen condition block other walk = behind-chain (uses (expression_mentions condition)) (chain block other) walk ∙ behind-chain block other (behind (uses (expression_mentions condition)) walk)

pub behind-if : (condition : Expr) (block : List Stmt) (walk : Walk) → behind (statement_part (If condition block None)) walk ≡ behind (within (statements_part block)) (behind (uses (expression_mentions condition)) walk)
behind-if condition block walk =
    rolled (If condition block None) (S.Stmt-F.If condition block None) walk (rolls-If condition block None) ∙ chosen condition (within (statements_part block)) (in_turn []) walk
    ∙ behind-nothing (behind (within (statements_part block)) (behind (uses (expression_mentions condition)) walk))

pub behind-if_else : (condition : Expr) (block other : List Stmt) (walk : Walk) → behind (statement_part (If condition block (Some other))) walk
    ≡ behind (within (statements_part other)) (behind (within (statements_part block)) (behind (uses (expression_mentions condition)) walk))
behind-if_else condition block other walk =
    rolled (If condition block (Some other)) (S.Stmt-F.If condition block (Some other)) walk (rolls-If condition block (Some other))
    ∙ chosen condition (within (statements_part block)) (within (statements_part other)) walk

pub behind-repeat : (name : Name) (count : ℕ) (block : List Stmt) (walk : Walk) → behind (statement_part (Repeat name count block)) walk
    ≡ behind (within (chain (declares meaning.Local name) (statements_part block))) walk
behind-repeat name count block walk = rolled (Repeat name count block) (S.Stmt-F.Repeat name count block) walk (rolls-Repeat name count block)

pub behind-next : (name : Name) (walk : Walk) → behind (statement_part (Next name)) walk ≡ behind (uses (λ scope. mention role.Next name scope ∷ [])) walk
behind-next name walk = rolled (Next name) (S.Stmt-F.Next name) walk (rolls-Next name)

pub behind-halt : (at : ℕ) (walk : Walk) → behind (statement_part (Halt at)) walk ≡ walk
behind-halt at walk = rolled (Halt at) (S.Stmt-F.Halt at) walk (rolls-Halt at) ∙ behind-nothing walk

pub behind-give : (es : List Expr) (at : ℕ) (walk : Walk) → behind (statement_part (Give es at)) walk ≡ behind (uses (expressions_mentions es)) walk
behind-give es at walk = rolled (Give es at) (S.Stmt-F.Give es at) walk (rolls-Give es at)

-- a block takes what it declares out of scope
pub behind-within : (part : Part) (walk : Walk) → Adds part → record { scope = take (length walk.scope) (behind part walk).scope; found = (behind part walk).found } ≡ behind (within part) walk
unfolding behind
behind-within part walk adds = ap (λ names. record { scope = names; found = (behind part walk).found }) (first-names part walk.scope adds)

pub behind-block : (block : List Stmt) (walk : Walk) → record { scope = take (length walk.scope) (behind (statements_part block) walk).scope; found = (behind (statements_part block) walk).found }
    ≡ behind (within (statements_part block)) walk
behind-block block walk = behind-within (statements_part block) walk (statements-add block)

pub behind-loop : (name : Name) (block : List Stmt) (walk : Walk) → record { scope = take (length walk.scope) (behind (statements_part block) (behind (declares meaning.Local name) walk)).scope; found = (behind (statements_part block) (behind (declares meaning.Local name) walk)).found }
    ≡ behind (within (chain (declares meaning.Local name) (statements_part block))) walk
behind-loop name block walk = rw (← behind-chain (declares meaning.Local name) (statements_part block) walk) (behind-within (chain (declares meaning.Local name) (statements_part block)) walk (chain-adds (declares meaning.Local name) (statements_part block) (declares-adds meaning.Local name) (statements-add block)))

-- a bottom half
pub behind-bottom : (params : List Name) (block : List Stmt) (walk : Walk) →
    record { scope = take (length walk.scope) (behind (statements_part block) (behind (declares_all meaning.Local params) walk)).scope; found = (behind (statements_part block) (behind (declares_all meaning.Local params) walk)).found }
    ≡ behind (within (chain (declares_all meaning.Local params) (statements_part block))) walk
behind-bottom params block walk =
    rw (← behind-chain (declares_all meaning.Local params) (statements_part block) walk)
    (behind-within (chain (declares_all meaning.Local params) (statements_part block)) walk (chain-adds (declares_all meaning.Local params) (statements_part block) (declares_all-adds meaning.Local params) (statements-add block)))

pub ruleset walking = (behind-two, behind-item, behind-num, behind-let, behind-assign, behind-if, behind-if_else, behind-repeat, behind-next, behind-halt, behind-give, behind-block, behind-loop)

-- what the parts of a program are
pub behind-transaction : (name : Name) (members : List TaskDecl) (walk : Walk) → behind (chain (declares meaning.Transaction name) (in_turn (map task_part members))) walk ≡ behind (in_turn (map task_part members)) (behind (declares meaning.Transaction name) walk)
behind-transaction name members walk = behind-chain (declares meaning.Transaction name) (in_turn (map task_part members)) walk

pub behind-globals : (program : Program) (walk : Walk) → behind (globals_part program) walk
    ≡ behind (in_turn (map unit_part program.units)) (behind (in_turn (map event_part program.events)) (behind (in_turn (map var_part program.vars)) walk))
unfolding globals_part
behind-globals program walk =
    behind-chain (in_turn (map var_part program.vars)) (chain (in_turn (map event_part program.events)) (in_turn (map unit_part program.units))) walk
    ∙ behind-chain (in_turn (map event_part program.events)) (in_turn (map unit_part program.units)) (behind (in_turn (map var_part program.vars)) walk)

pub behind-halves : (event : Event) (walk : Walk) → behind (halves_part event) walk
    ≡ behind (within (chain (declares_all meaning.Local event.params) (statements_part event.bottom))) (behind (within (chain (declares meaning.Local event.argument) (statements_part event.top))) walk)
unfolding halves_part
behind-halves event walk = behind-chain (within (chain (declares meaning.Local event.argument) (statements_part event.top))) (within (chain (declares_all meaning.Local event.params) (statements_part event.bottom))) walk

pub behind-lone : (task : TaskDecl) (walk : Walk) → behind (unit_bodies (Lone task)) walk ≡ behind (body_part task) walk
behind-lone task walk = behind-chain (body_part task) (in_turn []) walk ∙ behind-nothing (behind (body_part task) walk)

pub behind-bodies : (program : Program) (walk : Walk) → behind (bodies_part program) walk ≡ behind (in_turn (map unit_bodies program.units)) (behind (in_turn (map halves_part program.events)) walk)
unfolding bodies_part
behind-bodies program walk = behind-chain (in_turn (map halves_part program.events)) (in_turn (map unit_bodies program.units)) walk

pub ruleset naming = (behind-bodies, behind-transaction, behind-globals, behind-bottom, behind-halves, behind-lone)

-- what a walk over a whole program finds
found-behind : (part : Part) → (behind part (record { scope = []; found = found_among [] })).found ≡ found_among (part []).mentions
unfolding behind
found-behind part = refl

pub program-found : (program : Program) (declared last : Walk) → declared ≡ behind (globals_part program) (record { scope = []; found = found_among [] })
    → last ≡ behind (bodies_part program) declared → last.found ≡ found_among (mentions program)
program-found program declared last one two =
    let start : Walk = record { scope = []; found = found_among [] } in
    let all : last ≡ behind (chain (globals_part program) (bodies_part program)) start = two ∙ ap (behind (bodies_part program)) one ∙ sym (behind-chain (globals_part program) (bodies_part program) start) in
    ap (λ (w : Walk). w.found) all ∙ found-behind (chain (globals_part program) (bodies_part program))
