-- The code of an `if`.
use Rattle.std.proofs.Common.{◌≡◌, ℕ, ◌+◌, ◌≤◌, List, [], ◌∷◌, refl, sym, ap, subst, arith}
use Rattle.std.specs.Prelude.{Bool, true, false, ◌==◌, if◌then◌else◌, max}
use Rattle.task_syntax.specs.Course.{Course, chain}
use Rattle.task_syntax.specs.Expressions.{Locals}
use Rattle.task_syntax.specs.Statements.{Way, Conduct}
use Rattle.task_syntax.proofs.Chains.{chain-ends}
use Rattle.word_code.specs.declared.instruction.Instr.{Instr}
use Rattle.word_code.specs.declared.instruction.Instr.TheVariants.{Jump, JumpZ}
use Rattle.word_code.specs.Machine.{State}
use Rattle.word_code.specs.Following.{Follows}
use Rattle.codegen.specs.Code.{Code, size, end_of, test_code, when_code, other_at, either_code}
use Rattle.codegen.specs.Scope.{Local, Scope}
use Rattle.codegen.specs.Templates.{Compiled, when, either}
use Rattle.codegen.proofs.Following.{state, follows_to, then_follows}
use Rattle.codegen.proofs.Placed.{At, size-append, encodable_both, stands_front, stands_back}
use Rattle.codegen.proofs.Agreement.{Grows, agrees_less}
use Rattle.codegen.proofs.Operands.{Pushed, Gives, runs_at}
use Rattle.codegen.proofs.Statements.{Reached, Works, reached_on}

-- code whose locals leave at its end
abbrev pub block_of : Scope → Code → ℕ → Compiled
block_of scope code next = record { code = code; behind = record { locals = scope.locals; next = next } }

module _ (words : List ℕ) (count : ℕ) where
  reached_outside : (ends : Bool) (place : ℕ) (scope inner : List Local) (loops : List (List ℕ)) (before : Locals) (way : Way) (s : State) → Grows scope inner →
      Reached words count ends place inner loops before way s → Reached words count ends place scope loops before way s
  reached_outside true place scope inner loops before (Way.on after) s grows r = absurd r
  reached_outside false place scope inner loops before (Way.on after) s grows r =
      record { ls = r.ls; state_is = r.state_is; long = r.long; agrees = agrees_less scope inner after r.ls grows r.agrees; kept = r.kept }
  reached_outside ends place scope inner loops before (Way.out ending) s grows r = r

  -- a block
  pub within_works : (ends : Bool) (scope : Scope) (loops : List (List ℕ)) (block : Compiled) (cost : ℕ) (conduct : Conduct) → Grows scope.locals block.behind.locals →
      Works words count ends scope loops block cost conduct → Works words count ends scope loops (block_of scope block.code block.behind.next) cost conduct
  within_works ends scope loops block cost conduct grows w = record {
    encodable = w.encodable;
    limit = w.limit;
    in_time = w.in_time;
    by = λ p ls values stands long agrees.
        let place = p + size (block.code p) in
        follows_to words count (Reached words count ends place block.behind.locals loops values) (Reached words count ends place scope.locals loops values) w.limit w.limit (state p [] ls) (conduct values)
        (w.by p ls values stands long agrees) (omega arith)
        (λ way s r. reached_outside ends place scope.locals block.behind.locals loops values way s grows r);
  }

  module _ {A : Type 0} (Last : A → State → Type 0) where
    branch : (b : Bool) (t q m : ℕ) (ls : List ℕ) (x y : Course A) → Follows words count Last m (state t [] ls) x → Follows words count Last m (state q [] ls) y →
        Follows words count Last m (state (if b then t else q) [] ls) (if b then x else y)
    branch true t q m ls x y f g = f
    branch false t q m ls x y f g = g

    -- a test of the value on the operands
    pub test_follows : (value t q m : ℕ) (ls : List ℕ) (x y : Course A) → At words q (JumpZ t) → Follows words count Last m (state t [] ls) x →
        Follows words count Last m (state (q + 2) [] ls) y → Follows words count Last (1 + m) (state q (value ∷ []) ls) (if value == 0 then x else y)
    test_follows value t q m ls x y at f g =
        Follows.goes (1 + m) m (state q (value ∷ []) ls) (state (if value == 0 then t else q + 2) [] ls) (if value == 0 then x else y) (JumpZ t)
        (runs_at words count (JumpZ t) (state q (value ∷ []) ls) at (record { operands = omega arith; room = omega arith; word = tt })) refl (omega arith)
        (branch (value == 0) t (q + 2) m ls x y f g)

  pub when_works : (scope : Scope) (loops : List (List ℕ)) (test : List Instr) (depth ct : ℕ) (course : Locals → Course ℕ) (block : Code) (next c : ℕ) (f : Conduct) → depth ≤ 32 →
      Gives words count scope.locals test depth ct course → Works words count false scope loops (block_of scope block next) c f →
      Works words count false scope loops (when test (block_of scope block next)) (ct + 1 + c) (λ values. chain (course values) (λ value. if value == 0 then Course.ends (Way.on values) else f values))
  when_works scope loops test depth ct course block next c f deep h w = record {
    encodable = λ p. encodable_both test (when_code block (p + size test)) h.encodable (tt, w.encodable (p + size test + 2));
    limit = ct + 1 + w.limit;
    in_time = omega (arith, w.in_time);
    by = λ p ls values stands long agrees.
        let q = p + size test in
        let end = p + size (test_code test (when_code block) p) in
        let e : end_of block (q + 2) ≡ end = omega (arith, size-append test (when_code block q)) in
        let Last = Reached words count false end scope.locals loops values in
        let behind = stands_back words p test (when_code block q) stands in
        then_follows words count (Pushed q [] ls) Last ct (1 + w.limit) (ct + 1 + w.limit) (state p [] ls) (course values) (λ value. if value == 0 then Course.ends (Way.on values) else f values)
        (h.by p [] ls values (stands_front words p test (when_code block q) stands) (omega arith) agrees) (omega arith)
        (λ value t is. subst (λ s. Follows words count Last (1 + w.limit) s (if value == 0 then Course.ends (Way.on values) else f values)) (sym is)
        (test_follows Last value (end_of block (q + 2)) q w.limit ls (Course.ends (Way.on values)) (f values) behind.0
        (Follows.arrives w.limit _ (Way.on values) (record { ls = ls; state_is = ap (λ x. state x [] ls) e; long = long; agrees = agrees; kept = λ name known. refl }))
        (follows_to words count (Reached words count false (end_of block (q + 2)) scope.locals loops values) Last w.limit w.limit (state (q + 2) [] ls) (f values)
        (w.by (q + 2) ls values behind.1 long agrees) (omega arith)
        (λ way s r. reached_on words count false (end_of block (q + 2)) end scope.locals loops values values way s e (λ name known. refl) r))));
  }

  -- a jump at the end of a block
  hop : (ends : Bool) (place end : ℕ) (scope : List Local) (loops : List (List ℕ)) (before : Locals) (way : Way) (s : State) → At words place (Jump end) →
      Reached words count ends place scope loops before way s → Follows words count (Reached words count ends end scope loops before) 1 s (Course.ends way)
  hop true place end scope loops before (Way.on after) s at r = absurd r
  hop false place end scope loops before (Way.on after) s at r =
      subst (λ z. Follows words count (Reached words count false end scope loops before) 1 z (Course.ends (Way.on after))) (sym r.state_is)
      (Follows.goes 1 0 (state place [] r.ls) (state end [] r.ls) _ (Jump end)
      (runs_at words count (Jump end) (state place [] r.ls) at (record { operands = omega arith; room = omega arith; word = tt })) refl (omega arith)
      (Follows.arrives 0 _ (Way.on after) (record { ls = r.ls; state_is = refl; long = r.long; agrees = r.agrees; kept = r.kept })))
  hop ends place end scope loops before (Way.out ending) s at r = Follows.arrives 1 s (Way.out ending) r

  pub either_works : (ends : Bool) (scope : Scope) (loops : List (List ℕ)) (test : List Instr) (depth ct : ℕ) (course : Locals → Course ℕ)
      (block : Code) (next c : ℕ) (f : Conduct) (other : Code) (last d : ℕ) (g : Conduct) → depth ≤ 32 →
      Gives words count scope.locals test depth ct course → Works words count ends scope loops (block_of scope block next) c f →
      Works words count ends (record { locals = scope.locals; next = next }) loops (block_of scope other last) d g →
      Works words count ends scope loops (either test (block_of scope block next) (block_of scope other last)) (ct + 1 + max (c + 1) d)
      (λ values. chain (course values) (λ value. if value == 0 then g values else f values))
  either_works ends scope loops test depth ct course block next c f other last d g deep h w v = record {
    encodable = λ p.
        let q = p + size test in
        encodable_both test (either_code block other q) h.encodable
        (tt, encodable_both (block (q + 2)) (Jump (end_of other (other_at block q)) ∷ other (other_at block q)) (w.encodable (q + 2)) (tt, v.encodable (other_at block q)));
    limit = ct + 1 + max (w.limit + 1) v.limit;
    in_time = omega (arith, w.in_time, v.in_time);
    by = λ p ls values stands long agrees.
        let q = p + size test in
        let m = max (w.limit + 1) v.limit in
        let second = other_at block q in
        let after = end_of other second in
        let end = p + size (test_code test (either_code block other) p) in
        let e : after ≡ end = omega (arith, size-append test (either_code block other q), size-append (block (q + 2)) (Jump after ∷ other second)) in
        let Last = Reached words count ends end scope.locals loops values in
        let behind = stands_back words p test (either_code block other q) stands in
        let jump = stands_back words (q + 2) (block (q + 2)) (Jump after ∷ other second) behind.1 in
        then_follows words count (Pushed q [] ls) Last ct (1 + m) (ct + 1 + m) (state p [] ls) (course values) (λ value. if value == 0 then g values else f values)
        (h.by p [] ls values (stands_front words p test (either_code block other q) stands) (omega arith) agrees) (omega arith)
        (λ value t is. subst (λ s. Follows words count Last (1 + m) s (if value == 0 then g values else f values)) (sym is)
        (test_follows Last value second q m ls (g values) (f values) behind.0
        (follows_to words count (Reached words count ends after scope.locals loops values) Last v.limit m (state second [] ls) (g values)
        (v.by second ls values jump.1 long agrees) (omega arith)
        (λ way s r. reached_on words count ends after end scope.locals loops values values way s e (λ name known. refl) r))
        (subst (λ z. Follows words count Last m (state (q + 2) [] ls) z) (chain-ends (f values))
        (then_follows words count (Reached words count ends (end_of block (q + 2)) scope.locals loops values) Last w.limit 1 m (state (q + 2) [] ls) (f values) (λ way. Course.ends way)
        (w.by (q + 2) ls values (stands_front words (q + 2) (block (q + 2)) (Jump after ∷ other second) behind.1) long agrees) (omega arith)
        (λ way s r. subst (λ x. Follows words count (Reached words count ends x scope.locals loops values) 1 s (Course.ends way)) e
        (hop ends (end_of block (q + 2)) after scope.locals loops values way s jump.0 r))))));
  }
