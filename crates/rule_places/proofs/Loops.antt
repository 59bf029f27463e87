-- Loops of too many turns, and assignments to the names of loops, are places of a program.
use Rattle.std.proofs.Common.{ℕ, List, [], ◌∷◌, map}
use Rattle.std.specs.Prelude.{Option, Some, None, flat_map}
use Rattle.std.specs.List.{AllByRecursion, concat}
use Rattle.task_syntax.specs.declared.expression.Expr.{Expr}
use Rattle.task_syntax.specs.declared.expression.Expr.TheFolds.{fold-Expr}
use Rattle.task_syntax.specs.declared.expression.Place.{Place}
use Rattle.task_syntax.specs.declared.name.Name.{Name}
use Rattle.task_syntax.specs.declared.program.Program.{Program}
use Rattle.task_syntax.specs.declared.statement.Stmt.{Stmt}
use Rattle.task_check.specs.Bodies.{bodies}
use Rattle.task_check.specs.Counts.{bad_loops, bad_loops_step, bad_turns, is_between}
use Rattle.task_check.specs.Loops.{Within, assigned_in, assigned_step, in_block, in_other, is_among, loop_assigned, loop_assigned_places, nothing_step, place_among, plain_name, plain_step}
use Rattle.rule_places.proofs.Bodies.{Anything, ArePlaces, block-places, body-rule, both-places}
use Rattle.rule_places.proofs.Folds.{StatementLayers, expression-facts, statement-facts}
use Rattle.rule_places.proofs.Lists.{all-concat, all-joined, all-mapped, all-unless, all-when}
use Rattle.rule_places.proofs.Parts.{AllOther, ExpressionFacts, IsNameAt, OfProgram, StatementFacts}

module _ (IsPlace : ℕ → Type 0) where
  -- loops of too many turns
  abbrev pub LoopsFit : Stmt → Type 0
  LoopsFit s = ArePlaces IsPlace (bad_loops s)

  loops-layers : StatementLayers IsPlace Anything Anything bad_loops_step (ArePlaces IsPlace)
  loops-layers = record {
    declared = λ name e at so. tt;
    assigned = λ place e at so. tt;
    chosen = λ condition block other so one more. both-places IsPlace block other one more;
    repeated = λ name count block at all.
        all-joined IsPlace _ (concat block)
        (all-unless IsPlace (is_between 1 50000 count) name.at at) (all-concat IsPlace block all);
    next = λ name at. tt;
    halt = λ place at. tt;
    give = λ es place so at. tt;
  }

  pub loops-facts : StatementFacts IsPlace Anything Anything LoopsFit
  loops-facts =
      statement-facts IsPlace Anything Anything bad_loops_step (ArePlaces IsPlace) loops-layers

  pub bad_turns-at : (program : Program) → OfProgram IsPlace LoopsFit program
      → ArePlaces IsPlace (flat_map bad_turns (bodies program))
  bad_turns-at program of =
      body-rule IsPlace (λ body. body) (λ body. LoopsFit) bad_turns
      (λ body is. block-places IsPlace bad_loops body.statements is.statements) program
      (λ body. of)

  -- assignments to the names of loops, whatever loops stand round the statement
  abbrev pub AreNames : List Name → Type 0
  AreNames names = AllByRecursion (IsNameAt IsPlace) names

  abbrev pub PlainExpr : Expr → Type 0
  PlainExpr e = AreNames (fold-Expr (List Name) (List Name) nothing_step plain_step e)

  abbrev pub PlainPlace : Place → Type 0
  PlainPlace p = AreNames (plain_name p)

  pub plain-facts : ExpressionFacts IsPlace PlainExpr PlainPlace
  plain-facts = expression-facts IsPlace nothing_step plain_step AreNames AreNames (record {
    num = λ number. tt;
    get = λ place so. tt;
    one = λ op operand so. tt;
    two = λ op left right one other. tt;
    plain = λ name at. (at, tt);
    item = λ name index at so. tt;
  })

  abbrev pub AreAssigned : Within → Type 0
  AreAssigned found = (round : List (List ℕ)) → ArePlaces IsPlace (found round)

  abbrev pub AssignsIn : Stmt → Type 0
  AssignsIn s = AreAssigned (assigned_in s)

  within-at : (block : List Within) → AllByRecursion AreAssigned block
      → AreAssigned (in_block block)
  within-at [] all round = tt
  within-at (first ∷ more) all round =
      all-joined IsPlace (first round) (in_block more round) (all.0 round)
      (within-at more all.1 round)

  otherwise-at : (other : Option (List Within)) → AllOther AreAssigned other
      → AreAssigned (in_other other)
  otherwise-at None all round = tt
  otherwise-at (Some block) all round = within-at block all round

  names-among : (round : List (List ℕ)) (names : List Name) → AreNames names
      → ArePlaces IsPlace (flat_map (place_among round) names)
  names-among round [] all = tt
  names-among round (name ∷ names) all =
      all-joined IsPlace (place_among round name) (flat_map (place_among round) names)
      (all-when IsPlace (is_among round name.text) name.at all.0) (names-among round names all.1)

  assigns-layers : StatementLayers IsPlace PlainExpr PlainPlace assigned_step AreAssigned
  assigns-layers = record {
    declared = λ name e at so round. tt;
    assigned = λ place e at so round. names-among round (plain_name place) at;
    chosen = λ condition block other so one more round.
        all-joined IsPlace (in_block block round) (in_other other round)
        (within-at block one round) (otherwise-at other more round);
    repeated = λ name count block at all round. within-at block all (name.text ∷ round);
    next = λ name at round. tt;
    halt = λ place at round. tt;
    give = λ es place so at round. tt;
  }

  pub assigns-facts : StatementFacts IsPlace PlainExpr PlainPlace AssignsIn
  assigns-facts =
      statement-facts IsPlace PlainExpr PlainPlace assigned_step AreAssigned assigns-layers

  pub loop_assigned-at : (program : Program) → OfProgram IsPlace AssignsIn program
      → ArePlaces IsPlace (loop_assigned_places program)
  loop_assigned-at program of =
      body-rule IsPlace (λ body. body) (λ body. AssignsIn) loop_assigned
      (λ body is. within-at (map assigned_in body.statements)
      (all-mapped assigned_in AreAssigned body.statements is.statements) []) program (λ body. of)
