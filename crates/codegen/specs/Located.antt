-- What a local of the code is.
use Rattle.codegen.specs.declared.scope.Local.{Local}
use Rattle.codegen.specs.Scope as scope

-- the local by its name's bytes
abbrev pub local_of : Local → scope.Local
local_of local = record { name = local.name.now; slot = local.slot }
