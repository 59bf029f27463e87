-- A course that may write nothing leaves the store as it was.
use Rattle.std.proofs.Common.{◌≡◌, ℕ, refl}
use Rattle.std.specs.Prelude.{[]}
use Rattle.task_syntax.specs.declared.program.Program.{Program}
use Rattle.task_syntax.specs.declared.expression.Expr.{Expr}
use Rattle.task_syntax.specs.Course.{Course, Store, accesses, after, written_words}
use Rattle.task_syntax.specs.Expressions.{Locals, expression}
use Rattle.task_syntax.specs.ProgramLaws.{OnlyReads}
use Rattle.task_syntax.proofs.Bounds.{Keeps, Anything, PlacesFit, expression_keeps, AimsAt}
use Rattle.task_syntax.specs.Names.{words_of, Words}
use Rattle.task_syntax.specs.Expressions.{plain_aim, item_aim}
use Rattle.std.specs.Prelude.{Option, Some, None, List}

abbrev AnyWord : ℕ → Type 0
AnyWord word = Unit {0}

abbrev NoWord : ℕ → Type 0
NoWord word = ⊥

writes-nothing : {A : Type 0} (course : Course A) (store : Store) → Keeps AnyWord NoWord (Anything {A = A}) course → written_words (accesses course store) ≡ []
writes-nothing (Course.ends result) store kept = refl
writes-nothing (Course.reads word go_on) store kept = writes-nothing (go_on (store word)) store (kept.1 (store word))
writes-nothing (Course.writes word value rest) store kept = absurd kept.0

leaves-store : {A : Type 0} (course : Course A) (store : Store) → Keeps AnyWord NoWord (Anything {A = A}) course → after (accesses course store) store ≡ store
leaves-store (Course.ends result) store kept = refl
leaves-store (Course.reads word go_on) store kept = leaves-store (go_on (store word)) store (kept.1 (store word))
leaves-store (Course.writes word value rest) store kept = absurd kept.0

plain-fits : (name : List ℕ) (found : Option Words) → AimsAt AnyWord (plain_aim name found)
plain-fits name None = tt
plain-fits name (Some words) = tt

item-fits : (name : List ℕ) (index : ℕ) (found : Option Words) → AimsAt AnyWord (item_aim name index found)
item-fits name index None = tt
item-fits name index (Some words) = tt

any-places : (program : Program) → PlacesFit program AnyWord
any-places program = record { plain = λ name. plain-fits name (words_of program name); item = λ name index. item-fits name index (words_of program name) }

pub only_reads : (program : Program) (e : Expr) (locals : Locals) (store : Store) → OnlyReads program e locals store
only_reads program e locals store =
    let kept = expression_keeps program AnyWord NoWord (any-places program) e locals in
    record { writes = writes-nothing (expression program e locals) store kept; store_after = leaves-store (expression program e locals) store kept }
