-- Parts of a program add names to the scope, and take none away.
use Rattle.std.proofs.Common.{◌≡◌, List, [], ◌∷◌, ◌++◌, length, take, refl, ap, sym, subst, ◌∙◌, append_assoc, inl, inr}
use Rattle.std.specs.Prelude.{Option, Some, None, is_some}
use Rattle.std.proofs.Math.Seq.{take-append_seam}
use Rattle.std.proofs.lemmas.Bool.{cases_Bool}
use Rattle.std.proofs.lemmas.List.{append-nil}
use Rattle.task_syntax.specs.declared.name.Name.{Name}
use Rattle.task_syntax.specs.declared.statement.Stmt.{Stmt}
use Rattle.task_syntax.specs.declared.statement.Stmt as S
use Rattle.task_check.specs.declared.meaning.Meaning.{Meaning}
use Rattle.task_check.specs.declared.meaning.Meaning.TheVariants as meaning
use Rattle.task_check.specs.Scope.{Scope, meaning_of}
use Rattle.task_check.specs.Mentions.{Part, declares, declares_all, chain, otherwise, statement_part, statement_part_step, statements_part}

-- the scope behind begins with the one before
pub record AddsTo (old new : Scope) : Type 0 where
  pub more : Scope
  pub is : new ≡ old ++ more

abbrev pub Adds : Part → Type 0
Adds part = (scope : Scope) → AddsTo scope (part scope).scope

adds-none : (scope : Scope) → AddsTo scope scope
adds-none scope = record { more = []; is = sym (append-nil scope) }

adds-more : (one two three : Scope) → AddsTo one two → AddsTo two three → AddsTo one three
adds-more one two three first second = record { more = first.more ++ second.more; is = second.is ∙ ap (λ names. names ++ second.more) first.is ∙ append_assoc one first.more second.more }

pub first-names : (part : Part) (scope : Scope) → Adds part → take (length scope) (part scope).scope ≡ scope
first-names part scope adds = ap (take (length scope)) (adds scope).is ∙ take-append_seam scope (adds scope).more

pub declares-adds : (kind : Meaning) (name : Name) → Adds (declares kind name)
declares-adds kind name scope =
    elim (cases_Bool (is_some (meaning_of scope name.text))) [
      | inl known ↦ rw known (adds-none scope)
      | inr new ↦ rw new (record { more = (name.text, kind) ∷ []; is = refl })
    ]

pub chain-adds : (first second : Part) → Adds first → Adds second → Adds (chain first second)
chain-adds first second one other scope = adds-more scope (first scope).scope (second (first scope).scope).scope (one scope) (other (first scope).scope)

pub declares_all-adds : (kind : Meaning) (names : List Name) → Adds (declares_all kind names)
declares_all-adds kind [] scope = adds-none scope
declares_all-adds kind (name ∷ names) scope = chain-adds (declares kind name) (declares_all kind names) (declares-adds kind name) (declares_all-adds kind names) scope

otherwise-adds : (other : Option (List Part)) → Adds (otherwise other)
otherwise-adds None scope = adds-none scope
otherwise-adds (Some block) scope = adds-none scope

layer-adds : (x : S.Stmt-F Part) → Adds (statement_part_step x)
layer-adds (S.Stmt-F.Let name e) scope = declares-adds meaning.Local name scope
layer-adds (S.Stmt-F.Assign place e) scope = adds-none scope
layer-adds (S.Stmt-F.If condition block other) scope = otherwise-adds other scope
layer-adds (S.Stmt-F.Repeat name count block) scope = adds-none scope
layer-adds (S.Stmt-F.Next name) scope = adds-none scope
layer-adds (S.Stmt-F.Halt at) scope = adds-none scope
layer-adds (S.Stmt-F.Give es at) scope = adds-none scope

statement-adds : (s : Stmt) → Adds (statement_part s)
statement-adds = S.ind-Stmt (λ s. Adds (statement_part s)) (λ x y is. subst Adds (sym (S.fold-roll-Stmt Part statement_part_step x)) (layer-adds (S.map-Stmt Stmt Part statement_part x)))

pub statements-add : (block : List Stmt) → Adds (statements_part block)
statements-add [] scope = adds-none scope
statements-add (first ∷ more) scope = chain-adds (statement_part first) (statements_part more) (statement-adds first) (statements-add more) scope
