-- What holds of each part of a program whose places are of a kind holds of a program that is read
-- of tokens which stand at such places.
use Rattle.std.proofs.Common.{ℕ, List}
use Rattle.std.specs.List.{AllByRecursion}
use Rattle.task_syntax.specs.declared.expression.Expr.{Expr}
use Rattle.task_syntax.specs.declared.expression.Place.{Place}
use Rattle.task_syntax.specs.declared.program.Program.{Program}
use Rattle.task_syntax.specs.declared.statement.Stmt.{Stmt}
use Rattle.task_parse.specs.Grammar as G
use Rattle.task_parse.specs.Grammar.{Derives, Form, Reads}
use Rattle.task_parse.specs.Lexeme.{Lexeme}
use Rattle.rule_places.proofs.Parts.{AllOther, ExpressionFacts, IsNameAt, OfBuffer, OfEvent, OfProgram, OfTask, OfUnit, OfVar, StatementFacts}

-- the place of a token, where a tree keeps it
abbrev pub IsLexemeAt : (ℕ → Type 0) → Lexeme → Type 0
IsLexemeAt IsPlace (Lexeme.name name) = IsNameAt IsPlace name
IsLexemeAt IsPlace (Lexeme.number value at) = IsPlace at
IsLexemeAt IsPlace (Lexeme.word keyword at) = IsPlace at
IsLexemeAt IsPlace (Lexeme.sign symbol) = Unit {0}

abbrev pub AreAt : (ℕ → Type 0) → List Lexeme → Type 0
AreAt IsPlace list = AllByRecursion (IsLexemeAt IsPlace) list

module _ (IsPlace : ℕ → Type 0) (OfExpr : Expr → Type 0) (OfPlace : Place → Type 0)
    (OfStmt : Stmt → Type 0) where
  -- what is told of a part's tree
  abbrev pub Tells : Form → Type 0
  Tells (Form.Primary x) = OfExpr x
  Tells (Form.Operand x) = OfExpr x
  Tells (Form.Level n x) = OfExpr x
  Tells (Form.Target p) = OfPlace p
  Tells (Form.More xs) = AllByRecursion OfExpr xs
  Tells (Form.Values xs) = AllByRecursion OfExpr xs
  Tells (Form.Statement s) = OfStmt s
  Tells (Form.Rest ss) = AllByRecursion OfStmt ss
  Tells (Form.Block ss) = AllByRecursion OfStmt ss
  Tells (Form.Otherwise other) = AllOther OfStmt other
  Tells (Form.Numbers numbers) = Unit {0}
  Tells (Form.Length length) = Unit {0}
  Tells (Form.Given init) = Unit {0}
  Tells (Form.Variable var) = OfVar IsPlace var
  Tells (Form.Variables vars) = AllByRecursion (OfVar IsPlace) vars
  Tells (Form.Buffer size) = OfBuffer IsPlace size
  Tells (Form.Names names) = AllByRecursion (IsNameAt IsPlace) names
  Tells (Form.Params names) = AllByRecursion (IsNameAt IsPlace) names
  Tells (Form.OneEvent event) = OfEvent IsPlace OfStmt event
  Tells (Form.Events events) = AllByRecursion (OfEvent IsPlace OfStmt) events
  Tells (Form.Task task) = OfTask IsPlace OfStmt task
  Tells (Form.Tasks tasks) = AllByRecursion (OfTask IsPlace OfStmt) tasks
  Tells (Form.OneUnit unit) = OfUnit IsPlace OfStmt unit
  Tells (Form.Units units) = AllByRecursion (OfUnit IsPlace OfStmt) units
  Tells (Form.Whole program) = OfProgram IsPlace OfStmt program

  module _ (expressions : ExpressionFacts IsPlace OfExpr OfPlace)
      (statements : StatementFacts IsPlace OfExpr OfPlace OfStmt) where
    -- it holds of each part's tree, and what stands behind the part stands at such places
    tells : {form : Form} {old new : List Lexeme} → Reads form old new → AreAt IsPlace old
        → Tells form × AreAt IsPlace new
    tells (G.number {n = n}) h = (expressions.num n, h.1)
    tells (G.get {p = p} d) h = let (one, rest) = tells d h in (expressions.get p one, rest)
    tells (G.parens d) h = let (one, rest) = tells d h.1 in (one, rest.1)
    tells (G.plain d) h = tells d h
    tells (G.one {o = o} {x = x} is d) h =
        let (one, rest) = tells d h.1 in (expressions.one o x one, rest)
    tells (G.operand d) h = tells d h
    tells (G.two {o = o} {x = x} {y = y} is low first second) h =
        let (one, between) = tells first h in
        let (other, rest) = tells second between.1 in
        (expressions.two o x y one other, rest)
    tells (G.scalar {name = name}) h = (expressions.plain name h.0, h.1)
    tells (G.item {name = name} {i = i} d) h =
        let (one, rest) = tells d h.1.1 in (expressions.item name i h.0 one, rest.1)
    tells (G.no_more) h = (tt, h)
    tells (G.one_more first behind) h =
        let (one, between) = tells first h.1 in
        let (others, rest) = tells behind between in
        ((one, others), rest)
    tells (G.no_values) h = (tt, h)
    tells (G.values first behind) h =
        let (one, between) = tells first h in
        let (others, rest) = tells behind between in
        ((one, others), rest)
    tells (G.declare {name = name} {x = x} d) h =
        let (one, rest) = tells d h.1.1.1 in (statements.declared name x h.1.0 one, rest.1)
    tells (G.assign {p = p} {x = x} aim d) h =
        let (one, between) = tells aim h in
        let (other, rest) = tells d between.1 in
        (statements.assigned p x one other, rest.1)
    tells (G.choose {x = x} {first = first} {second = second} condition chosen other) h =
        let (one, behind) = tells condition h.1 in
        let (block, between) = tells chosen behind in
        let (others, rest) = tells other between in
        (statements.chosen x first second one block others, rest)
    tells (G.loop {name = name} {n = n} {ss = ss} d) h =
        let (block, rest) = tells d h.1.1.1.1 in
        (statements.repeated name n ss h.1.0 block, rest)
    tells (G.next {name = name}) h = (statements.next name h.1.0, h.1.1.1)
    tells (G.halt {at = at}) h = (statements.halt at h.0, h.1.1)
    tells (G.give {xs = xs} {at = at} d) h =
        let (values, rest) = tells d h.1 in (statements.give xs at values h.0, rest.1)
    tells (G.close) h = (tt, h.1)
    tells (G.more d behind) h =
        let (one, between) = tells d h in
        let (others, rest) = tells behind between in
        ((one, others), rest)
    tells (G.block d) h = tells d h.1
    tells (G.no_else) h = (tt, h)
    tells (G.otherwise d) h = tells d h.1
    tells (G.no_numbers) h = (tt, h)
    tells (G.numbers d) h = tells d h.1.1
    tells (G.no_length) h = (tt, h)
    tells (G.length) h = (tt, h.1.1.1)
    tells (G.none_given) h = (tt, h)
    tells (G.one_given) h = (tt, h.1.1)
    tells (G.many_given d) h = let (numbers, rest) = tells d h.1.1.1 in (tt, rest.1)
    tells (G.variable sized given) h =
        let (words, between) = tells sized h.1.1 in
        let (values, rest) = tells given between in
        (h.1.0, rest.1)
    tells (G.no_variables) h = (tt, h)
    tells (G.variables first behind) h =
        let (one, between) = tells first h in
        let (others, rest) = tells behind between in
        ((one, others), rest)
    tells (G.no_buffer) h = (tt, h)
    tells (G.buffer) h = (h.1.0, h.1.1.1)
    tells (G.no_names) h = (tt, h)
    tells (G.names d) h = let (others, rest) = tells d h.1.1 in ((h.1.0, others), rest)
    tells (G.no_params) h = (tt, h)
    tells (G.params d) h = let (others, rest) = tells d h.1 in ((h.0, others), rest)
    tells (G.event first listed second) h =
        let (one, behind) = tells first h.1.1.1.1.1.1.1 in
        let (names, between) = tells listed behind.1.1 in
        let (other, rest) = tells second between.1 in (
          record {
            name = h.1.0;
            argument = h.1.1.1.0;
            top = one;
            params = names;
            bottom = other;
          },
          rest.1,
        )
    tells (G.no_events) h = (tt, h)
    tells (G.events first behind) h =
        let (one, between) = tells first h in
        let (others, rest) = tells behind between in
        ((one, others), rest)
    tells (G.task d) h =
        let (block, rest) = tells d h.1.1 in (record { name = h.1.0; body = block }, rest)
    tells (G.no_tasks) h = (tt, h)
    tells (G.tasks first behind) h =
        let (one, between) = tells first h in
        let (others, rest) = tells behind between in
        ((one, others), rest)
    tells (G.lone d) h = tells d h
    tells (G.transaction first behind) h =
        let (one, between) = tells first h.1.1.1 in
        let (others, rest) = tells behind between in
        ((h.1.0, (one, others)), rest.1)
    tells (G.no_units) h = (tt, h)
    tells (G.units first behind) h =
        let (one, between) = tells first h in
        let (others, rest) = tells behind between in
        ((one, others), rest)
    tells (G.whole first d_vars d_size d_events d_unit d_units) h =
        let (one, behind_first) = tells first h in
        let (others, behind_variables) = tells d_vars behind_first in
        let (sized, behind_buffer) = tells d_size behind_variables in
        let (posted, behind_events) = tells d_events behind_buffer in
        let (leading, behind_unit) = tells d_unit behind_events in
        let (more, rest) = tells d_units behind_unit in (
          record {
            vars = (one, others);
            buffer = sized;
            events = posted;
            units = (leading, more);
          },
          rest,
        )

    pub spelled : (list : List Lexeme) (program : Program) → Derives list program
        → AreAt IsPlace list → OfProgram IsPlace OfStmt program
    spelled list program d are = (tells d are).0
