-- A program that tokens spell mentions the names among them alone.
use Rattle.std.proofs.Common.{List, [], ◌∷◌, map, length, ◌<◌, arith}
use Rattle.std.specs.List.{AllByRecursion}
use Rattle.task_syntax.specs.declared.name.Name.{Name}
use Rattle.task_syntax.specs.declared.program.Program.{Program}
use Rattle.task_syntax.specs.declared.program.TaskDecl.{TaskDecl}
use Rattle.task_syntax.specs.declared.program.UnitDecl.{UnitDecl}
use Rattle.task_syntax.specs.declared.program.UnitDecl.TheVariants as unit
use Rattle.task_syntax.specs.Names.{tasks_of_unit}
use Rattle.task_parse.specs.Grammar as G
use Rattle.task_parse.specs.Grammar.{Form, Reads}
use Rattle.task_parse.specs.Lexeme.{Lexeme}
use Rattle.task_check.specs.Mentions.{Part, body_part, event_part, expression_mentions, expressions_mentions, halves_part, in_turn, place_mentions, statement_part, statements_part, task_part, unit_bodies, unit_part, uses, var_part, chain, globals_part, bodies_part, mentions}
use Rattle.coati_top.proofs.OnlyNames.{AreOnly, MentionsOnly, other_part, chain-only, num-only, get-only, one-only, two-only, plain-only, item-only, expressions-only, let-only, assign-only, if-only, repeat-only, next-only, halt-only, give-only, halves-only, turn-only}

-- a token that is a name is of this kind
abbrev pub IsOf : (Name → Type 0) → Lexeme → Type 0
IsOf IsKind (Lexeme.name name) = IsKind name
IsOf IsKind (Lexeme.number value at) = Unit {0}
IsOf IsKind (Lexeme.word keyword at) = Unit {0}
IsOf IsKind (Lexeme.sign symbol) = Unit {0}

-- the names among the tokens are of this kind
abbrev pub HasOnly : (Name → Type 0) → List Lexeme → Type 0
HasOnly IsKind list = AllByRecursion (IsOf IsKind) list

-- the program has a variable and a unit, each unit has a task, and each name is of this kind
pub record IsOnly (IsKind : Name → Type 0) (program : Program) : Type 0 where
  pub variables : 0 < length program.vars
  pub units : 0 < length program.units
  pub members : AllByRecursion (λ (unit : UnitDecl). 0 < length (tasks_of_unit unit)) program.units
  pub names : AreOnly IsKind (mentions program)

-- What is told of a part's tree. Lists of units also keep that each has a task.
abbrev pub Tells : (Name → Type 0) → Form → Type 0
Tells IsKind (Form.Primary x) = MentionsOnly IsKind (uses (expression_mentions x))
Tells IsKind (Form.Operand x) = MentionsOnly IsKind (uses (expression_mentions x))
Tells IsKind (Form.Level n x) = MentionsOnly IsKind (uses (expression_mentions x))
Tells IsKind (Form.Target p) = MentionsOnly IsKind (uses (place_mentions p))
Tells IsKind (Form.More xs) = MentionsOnly IsKind (uses (expressions_mentions xs))
Tells IsKind (Form.Values xs) = MentionsOnly IsKind (uses (expressions_mentions xs))
Tells IsKind (Form.Statement s) = MentionsOnly IsKind (statement_part s)
Tells IsKind (Form.Rest ss) = MentionsOnly IsKind (statements_part ss)
Tells IsKind (Form.Block ss) = MentionsOnly IsKind (statements_part ss)
Tells IsKind (Form.Otherwise other) = MentionsOnly IsKind (other_part other)
Tells IsKind (Form.Numbers numbers) = Unit {0}
Tells IsKind (Form.Length length) = Unit {0}
Tells IsKind (Form.Given init) = Unit {0}
Tells IsKind (Form.Variable var) = MentionsOnly IsKind (var_part var)
Tells IsKind (Form.Variables vars) = MentionsOnly IsKind (in_turn (map var_part vars))
Tells IsKind (Form.Buffer size) = Unit {0}
Tells IsKind (Form.Names names) = AllByRecursion IsKind names
Tells IsKind (Form.Params names) = AllByRecursion IsKind names
Tells IsKind (Form.OneEvent event) = MentionsOnly IsKind (event_part event) × MentionsOnly IsKind (halves_part event)
Tells IsKind (Form.Events events) = MentionsOnly IsKind (in_turn (map event_part events)) × MentionsOnly IsKind (in_turn (map halves_part events))
Tells IsKind (Form.Task task) = MentionsOnly IsKind (task_part task) × MentionsOnly IsKind (body_part task)
Tells IsKind (Form.Tasks tasks) = MentionsOnly IsKind (in_turn (map task_part tasks)) × MentionsOnly IsKind (in_turn (map body_part tasks))
Tells IsKind (Form.OneUnit unit) = MentionsOnly IsKind (unit_part unit) × MentionsOnly IsKind (unit_bodies unit) × (0 < length (tasks_of_unit unit))
Tells IsKind (Form.Units units) =
    MentionsOnly IsKind (in_turn (map unit_part units)) × MentionsOnly IsKind (in_turn (map unit_bodies units))
    × AllByRecursion (λ (unit : UnitDecl). 0 < length (tasks_of_unit unit)) units
Tells IsKind (Form.Whole program) = IsOnly IsKind program

module _ (IsKind : Name → Type 0) where
  -- a transaction
  transaction-only : (name : Name) (task : TaskDecl) (more : List TaskDecl) → IsKind name → Tells IsKind (Form.Task task) → Tells IsKind (Form.Tasks more)
      → Tells IsKind (Form.OneUnit (unit.Tx (record { name = name; tasks = task ∷ more })))
  transaction-only name task more is one others =
      (λ scope. (is, turn-only IsKind task_part task more one.0 others.0 _), turn-only IsKind body_part task more one.1 others.1, omega arith)

  -- a unit, and those behind it
  units-only : (unit : UnitDecl) (more : List UnitDecl) → Tells IsKind (Form.OneUnit unit) → Tells IsKind (Form.Units more) → Tells IsKind (Form.Units (unit ∷ more))
  units-only unit more one others = (turn-only IsKind unit_part unit more one.0 others.0, turn-only IsKind unit_bodies unit more one.1 others.1, (one.2, others.2))

  -- all that a program mentions
  mentions-only : (program : Program) → MentionsOnly IsKind (in_turn (map var_part program.vars)) → Tells IsKind (Form.Events program.events) → Tells IsKind (Form.Units program.units)
      → AreOnly IsKind (mentions program)
  unfolding globals_part bodies_part
  mentions-only program vars events units =
      let first : Part = in_turn (map var_part program.vars) in
      let second : Part = in_turn (map event_part program.events) in
      let third : Part = in_turn (map unit_part program.units) in
      let fourth : Part = in_turn (map halves_part program.events) in
      let fifth : Part = in_turn (map unit_bodies program.units) in
      chain-only IsKind (chain first (chain second third)) (chain fourth fifth)
      (chain-only IsKind first (chain second third) vars (chain-only IsKind second third events.0 units.0))
      (chain-only IsKind fourth fifth events.1 units.1) []

  -- each part's tree mentions names among the part's tokens, and what stands behind the part has names of these
  pub tells : {form : Form} {old new : List Lexeme} → Reads form old new → HasOnly IsKind old → Tells IsKind form × HasOnly IsKind new
  tells (G.number {n = n}) h = (num-only IsKind n, h.1)
  tells (G.get {p = p} d) h = let (one, rest) = tells d h in (get-only IsKind p one, rest)
  tells (G.parens d) h = let (one, rest) = tells d h.1 in (one, rest.1)
  tells (G.plain d) h = tells d h
  tells (G.one {o = o} {x = x} is d) h = let (one, rest) = tells d h.1 in (one-only IsKind o x one, rest)
  tells (G.operand d) h = tells d h
  tells (G.two {o = o} {x = x} {y = y} is low first second) h =
      let (one, between) = tells first h in
      let (other, rest) = tells second between.1 in
      (two-only IsKind o x y one other, rest)
  tells (G.scalar {name = name}) h = (plain-only IsKind name h.0, h.1)
  tells (G.item {name = name} {i = i} d) h = let (one, rest) = tells d h.1.1 in (item-only IsKind name i h.0 one, rest.1)
  tells (G.no_more) h = (λ scope. tt, h)
  tells (G.one_more {x = x} {xs = xs} first behind) h =
      let (one, between) = tells first h.1 in
      let (others, rest) = tells behind between in
      (expressions-only IsKind x xs one others, rest)
  tells (G.no_values) h = (λ scope. tt, h)
  tells (G.values {x = x} {xs = xs} first behind) h =
      let (one, between) = tells first h in
      let (others, rest) = tells behind between in
      (expressions-only IsKind x xs one others, rest)
  tells (G.declare {name = name} {x = x} d) h = let (one, rest) = tells d h.1.1.1 in (let-only IsKind name x h.1.0 one, rest.1)
  tells (G.assign {p = p} {x = x} aim d) h =
      let (one, between) = tells aim h in
      let (other, rest) = tells d between.1 in
      (assign-only IsKind p x one other, rest.1)
  tells (G.choose {x = x} {first = first} {second = second} condition chosen other) h =
      let (one, behind) = tells condition h.1 in
      let (block, between) = tells chosen behind in
      let (others, rest) = tells other between in
      (if-only IsKind x first second one block others, rest)
  tells (G.loop {name = name} {n = n} {ss = ss} d) h = let (block, rest) = tells d h.1.1.1.1 in (repeat-only IsKind name n ss h.1.0 block, rest)
  tells (G.next {name = name}) h = (next-only IsKind name h.1.0, h.1.1.1)
  tells (G.halt {at = at}) h = (halt-only IsKind at, h.1.1)
  tells (G.give {xs = xs} {at = at} d) h = let (values, rest) = tells d h.1 in (give-only IsKind xs at values, rest.1)
  tells (G.close) h = (λ scope. tt, h.1)
  tells (G.more {first = first} {ss = ss} d behind) h =
      let (one, between) = tells d h in
      let (others, rest) = tells behind between in
      (turn-only IsKind statement_part first ss one others, rest)
  tells (G.block d) h = tells d h.1
  tells (G.no_else) h = (λ scope. tt, h)
  tells (G.otherwise d) h = tells d h.1
  tells (G.no_numbers) h = (tt, h)
  tells (G.numbers d) h = tells d h.1.1
  tells (G.no_length) h = (tt, h)
  tells (G.length) h = (tt, h.1.1.1)
  tells (G.none_given) h = (tt, h)
  tells (G.one_given) h = (tt, h.1.1)
  tells (G.many_given d) h = let (numbers, rest) = tells d h.1.1.1 in (tt, rest.1)
  tells (G.variable {name = name} sized given) h =
      let (words, between) = tells sized h.1.1 in
      let (values, rest) = tells given between in
      (λ scope. (h.1.0, tt), rest.1)
  tells (G.no_variables) h = (λ scope. tt, h)
  tells (G.variables {v = v} {vs = vs} first behind) h =
      let (one, between) = tells first h in
      let (others, rest) = tells behind between in
      (turn-only IsKind var_part v vs one others, rest)
  tells (G.no_buffer) h = (tt, h)
  tells (G.buffer) h = (tt, h.1.1.1)
  tells (G.no_names) h = (tt, h)
  tells (G.names d) h = let (others, rest) = tells d h.1.1 in ((h.1.0, others), rest)
  tells (G.no_params) h = (tt, h)
  tells (G.params d) h = let (others, rest) = tells d h.1 in ((h.0, others), rest)
  tells (G.event {name = name} {argument = argument} {top = top} {bottom = bottom} {ns = ns} first listed second) h =
      let (one, behind) = tells first h.1.1.1.1.1.1.1 in
      let (names, between) = tells listed behind.1.1 in
      let (other, rest) = tells second between.1 in
      let halves = halves-only IsKind (record { name = name; argument = argument; top = top; params = ns; bottom = bottom }) h.1.1.1.0 one names other in
      ((λ scope. (h.1.0, tt), halves), rest.1)
  tells (G.no_events) h = ((λ scope. tt, λ scope. tt), h)
  tells (G.events {v = v} {vs = vs} first behind) h =
      let (one, between) = tells first h in
      let (others, rest) = tells behind between in
      ((turn-only IsKind event_part v vs one.0 others.0, turn-only IsKind halves_part v vs one.1 others.1), rest)
  tells (G.task d) h = let (block, rest) = tells d h.1.1 in ((λ scope. (h.1.0, tt), block), rest)
  tells (G.no_tasks) h = ((λ scope. tt, λ scope. tt), h)
  tells (G.tasks {t = t} {ts = ts} first behind) h =
      let (one, between) = tells first h in
      let (others, rest) = tells behind between in
      ((turn-only IsKind task_part t ts one.0 others.0, turn-only IsKind body_part t ts one.1 others.1), rest)
  tells (G.lone {t = t} d) h = let (one, rest) = tells d h in ((one.0, turn-only IsKind body_part t [] one.1 (λ scope. tt), omega arith), rest)
  tells (G.transaction {name = name} {t = t} {ts = ts} first behind) h =
      let (one, between) = tells first h.1.1.1 in
      let (others, rest) = tells behind between in
      (transaction-only name t ts h.1.0 one others, rest.1)
  tells (G.no_units) h = ((λ scope. tt, λ scope. tt, tt), h)
  tells (G.units {u = u} {us = us} first behind) h =
      let (one, between) = tells first h in
      let (others, rest) = tells behind between in
      (units-only u us one others, rest)
  tells (G.whole {v = v} {vs = vs} {size = size} {es = es} {u = u} {us = us} first d_vars d_size d_events d_unit d_units) h =
      let (one, behind_first) = tells first h in
      let (others, behind_variables) = tells d_vars behind_first in
      let (sized, behind_buffer) = tells d_size behind_variables in
      let (posted, behind_events) = tells d_events behind_buffer in
      let (leading, behind_unit) = tells d_unit behind_events in
      let (more, rest) = tells d_units behind_unit in
      let all = units-only u us leading more in
      let names = mentions-only (record { vars = v ∷ vs; buffer = size; events = es; units = u ∷ us }) (turn-only IsKind var_part v vs one others) posted all in
      (record { variables = omega arith; units = omega arith; members = all.2; names = names }, rest)
