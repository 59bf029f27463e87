-- Variables in top halves, and messages of another shape than is taken, are places of a program.
use Rattle.std.proofs.Common.{◌==◌, ℕ, List, ◌++◌, map}
use Rattle.std.specs.Prelude.{Option, Some, None, is_some, length, slice_get}
use Rattle.std.specs.List.{AllByRecursion, concat}
use Rattle.std.specs.Option.{option_to_list}
use Rattle.task_syntax.specs.declared.expression.Expr.{Expr}
use Rattle.task_syntax.specs.declared.expression.Place.{Place}
use Rattle.task_syntax.specs.declared.name.Name.{Name}
use Rattle.task_syntax.specs.declared.program.Program.{Program}
use Rattle.task_syntax.specs.declared.statement.Stmt.{Stmt}
use Rattle.task_syntax.specs.Names.{words_of}
use Rattle.task_check.specs.Blocks.{in_other}
use Rattle.task_check.specs.Gives.{fifth, give_shape, give_shape_places, misgiven, misgiven_in, misgiven_step}
use Rattle.task_check.specs.Tops.{in_expression, in_expressions, in_place, named_in, named_in_block, named_step, place_step, read_step, top_reads_nv_places, variable_at}
use Rattle.rule_places.proofs.Bodies.{Anything, ArePlaces, block-places, both-places}
use Rattle.rule_places.proofs.Folds.{StatementLayers, expression-facts, statement-facts}
use Rattle.rule_places.proofs.Lists.{IsSo, all-concat, all-flat_map, all-got, all-joined, all-unless, all-when}
use Rattle.rule_places.proofs.Parts.{ExpressionFacts, IsNameAt, OfEvent, OfProgram, StatementFacts}

module _ (IsPlace : ℕ → Type 0) where
  -- the variables that are named, where all names stand at such places
  module _ (program : Program) where
    abbrev pub ReadsAt : Expr → Type 0
    ReadsAt e = ArePlaces IsPlace (in_expression program e)

    abbrev pub AimsAt : Place → Type 0
    AimsAt p = ArePlaces IsPlace (in_place program p)

    abbrev pub NamesAt : Stmt → Type 0
    NamesAt s = ArePlaces IsPlace (named_in program s)

    one-variable : (name : Name) → IsNameAt IsPlace name
        → ArePlaces IsPlace (variable_at program name)
    one-variable name at = all-when IsPlace (is_some (words_of program name.text)) name.at at

    pub reads-facts : ExpressionFacts IsPlace ReadsAt AimsAt
    reads-facts =
        expression-facts IsPlace (read_step program) (place_step program) (ArePlaces IsPlace)
        (ArePlaces IsPlace) (record {
          num = λ number. tt;
          get = λ place so. so;
          one = λ op operand so. so;
          two = λ op left right one other. all-joined IsPlace left right one other;
          plain = one-variable;
          item = λ name index at so.
              all-joined IsPlace (variable_at program name) index (one-variable name at) so;
        })

    values-at : (es : List Expr) → AllByRecursion ReadsAt es
        → ArePlaces IsPlace (in_expressions program es)
    values-at es all =
        all-flat_map (λ e. e) (λ asked. ReadsAt) IsPlace (in_expression program) (λ e so. so) es
        (λ asked. all)

    names-layers : StatementLayers IsPlace ReadsAt AimsAt (named_step program) (ArePlaces IsPlace)
    names-layers = record {
      declared = λ name e at so. so;
      assigned = λ place e at so.
          all-joined IsPlace (in_place program place) (in_expression program e) at so;
      chosen = λ condition block other so one more.
          all-joined IsPlace (in_expression program condition) (concat block ++ in_other other) so
          (both-places IsPlace block other one more);
      repeated = λ name count block at all. all-concat IsPlace block all;
      next = λ name at. tt;
      halt = λ place at. tt;
      give = λ es place so at. values-at es so;
    }

    pub names-facts : StatementFacts IsPlace ReadsAt AimsAt NamesAt
    names-facts =
        statement-facts IsPlace ReadsAt AimsAt (named_step program) (ArePlaces IsPlace)
        names-layers

    pub top_reads_nv-at : OfProgram IsPlace NamesAt program
        → ArePlaces IsPlace (top_reads_nv_places program)
    top_reads_nv-at of =
        all-flat_map (λ event. event) (λ event. OfEvent IsPlace NamesAt) IsPlace
        (λ event. named_in_block program event.top)
        (λ event is. block-places IsPlace (named_in program) event.top is.top)
        program.events (λ event. of.events)

  -- the fifth of names, where there are so many
  one-fifth : (found : Option Name) → IsSo (IsNameAt IsPlace) found
      → ArePlaces IsPlace (map (λ name. name.at) (option_to_list found))
  one-fifth None so = tt
  one-fifth (Some name) so = (so, tt)

  abbrev pub GivesAt : ℕ → Stmt → Type 0
  GivesAt count s = ArePlaces IsPlace (misgiven count s)

  gives-layers : (count : ℕ)
      → StatementLayers IsPlace Anything Anything (misgiven_step count) (ArePlaces IsPlace)
  gives-layers count = record {
    declared = λ name e at so. tt;
    assigned = λ place e at so. tt;
    chosen = λ condition block other so one more. both-places IsPlace block other one more;
    repeated = λ name turns block at all. all-concat IsPlace block all;
    next = λ name at. tt;
    halt = λ place at. tt;
    give = λ es place so at. all-unless IsPlace (length es == count) place at;
  }

  pub gives-facts : (count : ℕ) → StatementFacts IsPlace Anything Anything (GivesAt count)
  gives-facts count =
      statement-facts IsPlace Anything Anything (misgiven_step count) (ArePlaces IsPlace)
      (gives-layers count)

  pub give_shape-at : (program : Program)
      → ((count : ℕ) → OfProgram IsPlace (GivesAt count) program)
      → ArePlaces IsPlace (give_shape_places program)
  give_shape-at program of =
      all-flat_map (λ event. length event.params) (λ count. OfEvent IsPlace (GivesAt count))
      IsPlace give_shape
      (λ event is.
      all-joined IsPlace (fifth event.params) (misgiven_in (length event.params) event.top)
      (one-fifth (slice_get event.params 4) (all-got (IsNameAt IsPlace) event.params 4 is.params))
      (block-places IsPlace (misgiven (length event.params)) event.top is.top))
      program.events (λ count. (of count).events)
