-- What tokens spell whose numbers are words gives words.
use Rattle.std.proofs.Common.{List, ◌∷◌}
use Rattle.std.specs.Prelude.{flat_map}
use Rattle.std.specs.List.{AllByRecursion}
use Rattle.coati_word.specs.OperatorLaws.{IsWord, OperatorsGiveWords, UnaryOperatorsGiveWords}
use Rattle.task_syntax.specs.declared.program.Event.{Event}
use Rattle.task_syntax.specs.declared.program.Program.{Program}
use Rattle.task_syntax.specs.declared.program.TaskDecl.{TaskDecl}
use Rattle.task_syntax.specs.declared.program.UnitDecl.{UnitDecl}
use Rattle.task_syntax.specs.declared.program.Var.{Var}
use Rattle.task_syntax.specs.Names.{given_values, tasks, tasks_of_unit}
use Rattle.task_parse.specs.Grammar as G
use Rattle.task_parse.specs.Grammar.{Form, Reads}
use Rattle.task_parse.specs.Lexeme.{Lexeme}
use Rattle.word_values.specs.Words.{AreWords}
use Rattle.word_values.proofs.Gives.{all-joined}
use Rattle.word_values.proofs.Layers.{BlockGives, ExpressionGives, ExpressionsGive, OtherGives, PlaceGives, StatementGives, assign-gives, get-gives, give-gives, halt-gives, if-gives, item-gives, let-gives, more-in-turn, next-gives, no-expressions, none-in-turn, num-gives, one-gives, one-more, plain-gives, repeat-gives, two-gives}

-- a token that is a number is a word
abbrev pub IsSmall : Lexeme → Type 0
IsSmall (Lexeme.name name) = Unit {0}
IsSmall (Lexeme.number value at) = IsWord value
IsSmall (Lexeme.word keyword at) = Unit {0}
IsSmall (Lexeme.sign symbol) = Unit {0}

abbrev pub AreSmall : List Lexeme → Type 0
AreSmall list = AllByRecursion IsSmall list

abbrev pub VarGives : Var → Type 0
VarGives var = AreWords (given_values var.init)

module _ (whole : Program) (on_two : OperatorsGiveWords) (on_one : UnaryOperatorsGiveWords) where
  abbrev pub TaskGives : TaskDecl → Type 0
  TaskGives task = BlockGives whole on_two on_one task.body

  abbrev pub EventGives : Event → Type 0
  EventGives event = BlockGives whole on_two on_one event.top × BlockGives whole on_two on_one event.bottom

  -- the parts of a program give words
  pub record ProgramGives (program : Program) : Type 0 where
    pub vars : AllByRecursion VarGives program.vars
    pub events : AllByRecursion EventGives program.events
    pub tasks : AllByRecursion TaskGives (tasks program)

  -- what is told of a part's tree
  abbrev pub Tells : Form → Type 0
  Tells (Form.Primary x) = ExpressionGives whole on_two on_one x
  Tells (Form.Operand x) = ExpressionGives whole on_two on_one x
  Tells (Form.Level n x) = ExpressionGives whole on_two on_one x
  Tells (Form.Target p) = PlaceGives whole on_two on_one p
  Tells (Form.More xs) = ExpressionsGive whole on_two on_one xs
  Tells (Form.Values xs) = ExpressionsGive whole on_two on_one xs
  Tells (Form.Statement s) = StatementGives whole on_two on_one s
  Tells (Form.Rest ss) = BlockGives whole on_two on_one ss
  Tells (Form.Block ss) = BlockGives whole on_two on_one ss
  Tells (Form.Otherwise other) = OtherGives whole on_two on_one other
  Tells (Form.Numbers numbers) = AreWords numbers
  Tells (Form.Length length) = Unit {0}
  Tells (Form.Given init) = AreWords (given_values init)
  Tells (Form.Variable var) = VarGives var
  Tells (Form.Variables vars) = AllByRecursion VarGives vars
  Tells (Form.Buffer size) = Unit {0}
  Tells (Form.Names names) = Unit {0}
  Tells (Form.Params names) = Unit {0}
  Tells (Form.OneEvent event) = EventGives event
  Tells (Form.Events events) = AllByRecursion EventGives events
  Tells (Form.Task task) = TaskGives task
  Tells (Form.Tasks tasks) = AllByRecursion TaskGives tasks
  Tells (Form.OneUnit unit) = AllByRecursion TaskGives (tasks_of_unit unit)
  Tells (Form.Units units) = AllByRecursion TaskGives (flat_map tasks_of_unit units)
  Tells (Form.Whole program) = ProgramGives program

  units-give : (unit : UnitDecl) (more : List UnitDecl) → Tells (Form.OneUnit unit) → Tells (Form.Units more) → Tells (Form.Units (unit ∷ more))
  units-give unit more one others = all-joined TaskGives (tasks_of_unit unit) (flat_map tasks_of_unit more) one others

  -- each part's tree gives words, and the numbers behind the part are words
  pub tells : {form : Form} {old new : List Lexeme} → Reads form old new → AreSmall old → Tells form × AreSmall new
  tells (G.number {n = n}) h = (num-gives whole on_two on_one n h.0, h.1)
  tells (G.get {p = p} d) h = let (one, rest) = tells d h in (get-gives whole on_two on_one p one, rest)
  tells (G.parens d) h = let (one, rest) = tells d h.1 in (one, rest.1)
  tells (G.plain d) h = tells d h
  tells (G.one {o = o} {x = x} is d) h = let (one, rest) = tells d h.1 in (one-gives whole on_two on_one o x one, rest)
  tells (G.operand d) h = tells d h
  tells (G.two {o = o} {x = x} {y = y} is low first second) h =
      let (one, between) = tells first h in
      let (other, rest) = tells second between.1 in
      (two-gives whole on_two on_one o x y one other, rest)
  tells (G.scalar {name = name}) h = (plain-gives whole on_two on_one name, h.1)
  tells (G.item {name = name} {i = i} d) h = let (one, rest) = tells d h.1.1 in (item-gives whole on_two on_one name i one, rest.1)
  tells (G.no_more) h = (no-expressions whole on_two on_one, h)
  tells (G.one_more {x = x} {xs = xs} first behind) h =
      let (one, between) = tells first h.1 in
      let (others, rest) = tells behind between in
      (one-more whole on_two on_one x xs one others, rest)
  tells (G.no_values) h = (no-expressions whole on_two on_one, h)
  tells (G.values {x = x} {xs = xs} first behind) h =
      let (one, between) = tells first h in
      let (others, rest) = tells behind between in
      (one-more whole on_two on_one x xs one others, rest)
  tells (G.declare {name = name} {x = x} d) h = let (one, rest) = tells d h.1.1.1 in (let-gives whole on_two on_one name x one, rest.1)
  tells (G.assign {p = p} {x = x} aim d) h =
      let (one, between) = tells aim h in
      let (other, rest) = tells d between.1 in
      (assign-gives whole on_two on_one p x one other, rest.1)
  tells (G.choose {x = x} {first = first} {second = second} condition chosen other) h =
      let (one, behind) = tells condition h.1 in
      let (block, between) = tells chosen behind in
      let (others, rest) = tells other between in
      (if-gives whole on_two on_one x first second one block others, rest)
  tells (G.loop {name = name} {n = n} {ss = ss} d) h =
      let (block, rest) = tells d h.1.1.1.1 in (repeat-gives whole on_two on_one name n ss h.1.1.1.0 block, rest)
  tells (G.next {name = name}) h = (next-gives whole on_two on_one name, h.1.1.1)
  tells (G.halt {at = at}) h = (halt-gives whole on_two on_one at, h.1.1)
  tells (G.give {xs = xs} {at = at} d) h = let (values, rest) = tells d h.1 in (give-gives whole on_two on_one xs at values, rest.1)
  tells (G.close) h = (none-in-turn whole on_two on_one, h.1)
  tells (G.more {first = first} {ss = ss} d behind) h =
      let (one, between) = tells d h in
      let (others, rest) = tells behind between in
      (more-in-turn whole on_two on_one first ss one others, rest)
  tells (G.block d) h = tells d h.1
  tells (G.no_else) h = (tt, h)
  tells (G.otherwise d) h = tells d h.1
  tells (G.no_numbers) h = (tt, h)
  tells (G.numbers d) h = let (numbers, rest) = tells d h.1.1 in ((h.1.0, numbers), rest)
  tells (G.no_length) h = (tt, h)
  tells (G.length) h = (tt, h.1.1.1)
  tells (G.none_given) h = (tt, h)
  tells (G.one_given) h = ((h.1.0, tt), h.1.1)
  tells (G.many_given d) h = let (numbers, rest) = tells d h.1.1.1 in ((h.1.1.0, numbers), rest.1)
  tells (G.variable {name = name} sized given) h =
      let (words, between) = tells sized h.1.1 in
      let (values, rest) = tells given between in
      (values, rest.1)
  tells (G.no_variables) h = (tt, h)
  tells (G.variables {v = v} {vs = vs} first behind) h =
      let (one, between) = tells first h in
      let (others, rest) = tells behind between in
      ((one, others), rest)
  tells (G.no_buffer) h = (tt, h)
  tells (G.buffer) h = (tt, h.1.1.1)
  tells (G.no_names) h = (tt, h)
  tells (G.names d) h = tells d h.1.1
  tells (G.no_params) h = (tt, h)
  tells (G.params d) h = let (others, rest) = tells d h.1 in (tt, rest)
  tells (G.event first listed second) h =
      let (one, behind) = tells first h.1.1.1.1.1.1.1 in
      let (names, between) = tells listed behind.1.1 in
      let (other, rest) = tells second between.1 in
      ((one, other), rest.1)
  tells (G.no_events) h = (tt, h)
  tells (G.events first behind) h =
      let (one, between) = tells first h in
      let (others, rest) = tells behind between in
      ((one, others), rest)
  tells (G.task d) h = tells d h.1.1
  tells (G.no_tasks) h = (tt, h)
  tells (G.tasks first behind) h =
      let (one, between) = tells first h in
      let (others, rest) = tells behind between in
      ((one, others), rest)
  tells (G.lone d) h = let (one, rest) = tells d h in ((one, tt), rest)
  tells (G.transaction first behind) h =
      let (one, between) = tells first h.1.1.1 in
      let (others, rest) = tells behind between in
      ((one, others), rest.1)
  tells (G.no_units) h = (tt, h)
  tells (G.units {u = u} {us = us} first behind) h =
      let (one, between) = tells first h in
      let (others, rest) = tells behind between in
      (units-give u us one others, rest)
  tells (G.whole {u = u} {us = us} first d_vars d_size d_events d_unit d_units) h =
      let (one, behind_first) = tells first h in
      let (others, behind_variables) = tells d_vars behind_first in
      let (sized, behind_buffer) = tells d_size behind_variables in
      let (posted, behind_events) = tells d_events behind_buffer in
      let (leading, behind_unit) = tells d_unit behind_events in
      let (more, rest) = tells d_units behind_unit in
      (record { vars = (one, others); events = posted; tasks = units-give u us leading more }, rest)
