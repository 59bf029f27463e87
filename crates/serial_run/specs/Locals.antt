-- The locals of the code as the meaning sees them: what each name stands for.
use Rattle.std.specs.Prelude.{ℕ, ◌+◌, List, [], ◌∷◌, Option, Some, None, if◌then◌else◌}
use Rattle.std.specs.Str.{bytes_eq}
use Rattle.serial_run.specs.declared.locals.Local.{Local}
use Rattle.serial_run.specs.declared.locals.Locals.{Locals as Named}
use Rattle.task_syntax.specs.Expressions.{Locals}

-- what a name stands for among these
abbrev pub value_among : List Local → Locals
value_among [] name = 0
value_among (local ∷ more) name = if bytes_eq name local.name.now then local.value
    else value_among more name

abbrev pub locals_of : Named → Locals
locals_of locals = value_among locals.named.items

-- the place of a name among these, where the first of them has the place `at`
abbrev pub place_from : ℕ → List Local → List ℕ → Option ℕ
place_from at [] name = None
place_from at (local ∷ more) name = if bytes_eq name local.name.now then Some at
    else place_from (at + 1) more name
