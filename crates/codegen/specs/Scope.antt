-- Where the locals of a body are. Each declaration has a slot of its own, in the order of
-- declaration, parameters first. A local is in scope up to the end of its block; its slot is not
-- used again.
use Rattle.std.specs.Prelude.{ℕ, ◌+◌, List, [], ◌∷◌, Option, Some, None, if◌then◌else◌}
use Rattle.std.specs.Str.{bytes_eq}
use Rattle.task_syntax.specs.declared.name.Name.{Name}

pub record Local : Type 0 where
  pub name : List ℕ
  pub slot : ℕ

-- the locals in scope, the latest first, and the slot of the next declaration
pub record Scope : Type 0 where
  pub locals : List Local
  pub next : ℕ

-- the slot of a name, where it is in scope
abbrev pub slot_of : List Local → List ℕ → Option ℕ
slot_of [] name = None
slot_of (local ∷ locals) name = if bytes_eq name local.name then Some local.slot
    else slot_of locals name

-- before anything is declared
abbrev pub no_scope : Scope
no_scope = record { locals = []; next = 0 }

-- with a name more
abbrev pub declare : List ℕ → Scope → Scope
declare name scope = record {
  locals = record { name = name; slot = scope.next } ∷ scope.locals;
  next = scope.next + 1;
}

-- with several, one after another
abbrev pub declare_all : List Name → Scope → Scope
declare_all [] scope = scope
declare_all (name ∷ names) scope = declare_all names (declare name.text scope)

-- behind a block that leads from one scope to another: what it declared is gone
abbrev pub behind_block : Scope → Scope → Scope
behind_block scope inner = record { locals = scope.locals; next = inner.next }
