use Rattle.std.proofs.Common.{◌≡◌, drop, map}
use Rattle.std.specs.Prelude.{flat_map}
use Rattle.task_syntax.specs.Names.{tasks_of_unit}
use Rattle.codegen.specs.Compiling.{with_bodies}
use Rattle.codegen.specs.Templates.{task_words}
use Rattle.codegen.proofs.compiler.put_units.Given as goal

abbrev pub invariant-loop-unit : goal.invariant-loop-unit
invariant-loop-unit l =
    with_bodies (map (task_words l.checked) (flat_map tasks_of_unit (drop l.unit-index l.units))) l.code
    ≡ with_bodies (map (task_words l.checked) (flat_map tasks_of_unit l.units)) l.initial.code
