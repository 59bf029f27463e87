-- What is shown of each statement and of each block: its code does what it means, and leaves the scope that it is to leave.
use Rattle.std.proofs.Common.{◌≡◌, ℕ, ◌+◌, ◌≤◌, List, [], ◌∷◌, refl, ap, ◌∙◌, subst, arith}
use Rattle.std.specs.Prelude.{Bool, true, false, ◌&&◌, ◌==◌, not, if◌then◌else◌, max, nat_le}
use Rattle.std.proofs.lemmas.Bool.{and_parts, leb-true}
use Rattle.task_syntax.specs.Course.{Course, chain}
use Rattle.task_syntax.specs.Cost.{loop_cost}
use Rattle.task_syntax.specs.Expressions.{Locals, with_local}
use Rattle.task_syntax.specs.Statements.{Way, Conduct, unless_out, turns}
use Rattle.word_code.specs.declared.instruction.Instr.{Instr}
use Rattle.codegen.specs.Scope.{Local, Scope, declare, behind_block}
use Rattle.codegen.specs.Templates as code
use Rattle.codegen.specs.Templates.{Compiled, Template, PlaceCode, plainly, declaring, within, when, either, loop, storing}
use Rattle.task_check.specs.Loops.{is_among}
use Rattle.codegen.specs.Fit as fit
use Rattle.codegen.specs.Fit.{Part, Sparing, uses, declares, loop_fits}
use Rattle.codegen.proofs.Agreement.{names_of, Grows, Sound, same_grows, grows_on, declare_grows, sound_declared, sound_loop, sound_behind}
use Rattle.codegen.proofs.Operands.{Gives}
use Rattle.codegen.proofs.Statements.{Works, works_false, works_left, works_right, works_in, nothing_works, then_works, then_ended}
use Rattle.codegen.proofs.Straight.{declared_works, not-true}
use Rattle.codegen.proofs.Choices.{block_of, within_works, when_works, either_works}
use Rattle.codegen.proofs.Loops.{loop_works}
use Rattle.codegen.proofs.Variables.{Small, small_slots}

module _ (words : List ℕ) (count : ℕ) where
  pub record Good (names : Part) (spares : Sparing) (turns gives ends : Bool) (declared depth cost : ℕ) (template : Template) (conduct : Conduct) : Type 0 where
    pub next_is : (scope : Scope) → (template scope).behind.next ≡ scope.next + declared
    pub named : (scope : Scope) → (names (names_of scope.locals)).known ≡ names_of (template scope).behind.locals
    pub sound : (scope : Scope) (loops : List (List ℕ)) → Sound scope loops → Sound (template scope).behind loops
    pub grows : (scope : Scope) → (names (names_of scope.locals)).fits ≡ true → Grows scope.locals (template scope).behind.locals
    pub works : (scope : Scope) (loops : List (List ℕ)) → Sound scope loops → (names (names_of scope.locals)).fits ≡ true → spares loops ≡ true → turns ≡ true → gives ≡ true →
        scope.next + declared ≤ 32 → depth ≤ 32 → Works words count ends scope loops (template scope) cost conduct

  -- a statement that declares nothing and has no blocks
  pub plain_good : (fits : List (List ℕ) → Bool) (spares : Sparing) (turns gives ends : Bool) (depth cost : ℕ) (instrs : List Local → List Instr) (conduct : Conduct) →
      ((scope : Scope) (loops : List (List ℕ)) → Sound scope loops → scope.next ≤ 32 → fits (names_of scope.locals) ≡ true → spares loops ≡ true → turns ≡ true → gives ≡ true → depth ≤ 32 →
      Works words count ends scope loops (plainly instrs scope) cost conduct) →
      Good (uses fits) spares turns gives ends 0 depth cost (plainly instrs) conduct
  plain_good fits spares turns gives ends depth cost instrs conduct h = record {
    next_is = λ scope. omega arith;
    named = λ scope. refl;
    sound = λ scope loops sound. sound;
    grows = λ scope fit. same_grows scope.locals;
    works = λ scope loops sound fit spared turned given slots deep. h scope loops sound (omega (arith, slots)) fit spared turned given deep;
  }

  pub nothing_good : Good (fit.in_turn []) (λ loops. true) true true false 0 0 0 (code.in_turn []) (λ values. Course.ends (Way.on values))
  nothing_good = record {
    next_is = λ scope. omega arith;
    named = λ scope. refl;
    sound = λ scope loops sound. sound;
    grows = λ scope fit. same_grows scope.locals;
    works = λ scope loops sound fit spared turned given slots deep. nothing_works words count scope loops;
  }

  -- one behind another
  abbrev pub joined : Part → Part → Part
  joined first second known = fit.followed (first known) second

  abbrev pub both_spare : Sparing → Sparing → Sparing
  both_spare first second loops = first loops && second loops

  abbrev pub joined_code : Template → Template → Template
  joined_code first second scope = code.followed (first scope) second

  abbrev pub after : Conduct → Conduct → Conduct
  after first second values = chain (first values) (unless_out second)

  module _ (n1 n2 : Part) (s1 s2 : Sparing) (k1 k2 g1 g2 e1 e2 : Bool) (b1 b2 d1 d2 c1 c2 b c : ℕ) (t1 t2 : Template) (f1 f2 : Conduct)
      (first : Good n1 s1 k1 g1 e1 b1 d1 c1 t1 f1) (second : Good n2 s2 k2 g2 e2 b2 d2 c2 t2 f2) (slots_are : b ≡ b1 + b2) (cost_is : c ≡ c1 + c2) where
    joined_next : (scope : Scope) → (joined_code t1 t2 scope).behind.next ≡ scope.next + b
    joined_next scope = omega (arith, first.next_is scope, second.next_is (t1 scope).behind, slots_are)

    joined_named : (scope : Scope) → (joined n1 n2 (names_of scope.locals)).known ≡ names_of (joined_code t1 t2 scope).behind.locals
    joined_named scope = ap (λ known. (n2 known).known) (first.named scope) ∙ second.named (t1 scope).behind

    second_fits : (scope : Scope) → (n2 (n1 (names_of scope.locals)).known).fits ≡ true → (n2 (names_of (t1 scope).behind.locals)).fits ≡ true
    second_fits scope h = subst (λ known. (n2 known).fits ≡ true) (first.named scope) h

    joined_grows : (scope : Scope) → (joined n1 n2 (names_of scope.locals)).fits ≡ true → Grows scope.locals (joined_code t1 t2 scope).behind.locals
    joined_grows scope fits =
        let f = and_parts (n1 (names_of scope.locals)).fits (n2 (n1 (names_of scope.locals)).known).fits fits in
        grows_on scope.locals (t1 scope).behind.locals (t2 (t1 scope).behind).behind.locals (first.grows scope f.0) (second.grows (t1 scope).behind (second_fits scope f.1))

    joined_works : (scope : Scope) (loops : List (List ℕ)) → Sound scope loops → (joined n1 n2 (names_of scope.locals)).fits ≡ true → both_spare s1 s2 loops ≡ true → (k1 && k2) ≡ true → (g1 && g2) ≡ true →
        scope.next + b ≤ 32 → max d1 d2 ≤ 32 → Works words count e2 scope loops (joined_code t1 t2 scope) c (after f1 f2)
    joined_works scope loops sound fits spared turned given slots deep =
        let f = and_parts (n1 (names_of scope.locals)).fits (n2 (n1 (names_of scope.locals)).known).fits fits in
        let s = and_parts (s1 loops) (s2 loops) spared in
        let k = and_parts k1 k2 turned in
        let h = and_parts g1 g2 given in
        let one = first.works scope loops sound f.0 s.0 k.0 h.0 (omega (arith, slots, slots_are)) (omega (arith, deep)) in
        let two = second.works (t1 scope).behind loops (first.sound scope loops sound) (second_fits scope f.1) s.1 k.1 h.1 (omega (arith, slots, slots_are, first.next_is scope)) (omega (arith, deep)) in
        works_in words count e2 scope loops (joined_code t1 t2 scope) (c1 + c2) c (after f1 f2) (omega (arith, cost_is))
        (then_works words count e2 scope loops (t1 scope) (t2 (t1 scope).behind) c1 c2 f1 f2 (works_false words count e1 scope loops (t1 scope) c1 f1 one) two)

    pub then_good : Good (joined n1 n2) (both_spare s1 s2) (k1 && k2) (g1 && g2) e2 b (max d1 d2) c (joined_code t1 t2) (after f1 f2)
    then_good = record {
      next_is = joined_next;
      named = joined_named;
      sound = λ scope loops sound. second.sound (t1 scope).behind loops (first.sound scope loops sound);
      grows = joined_grows;
      works = joined_works;
    }

  last_works : (ends : Bool) (scope : Scope) (loops : List (List ℕ)) (compiled : Compiled) (cost : ℕ) (conduct : Conduct) → Works words count ends scope loops compiled cost conduct →
      Works words count ends scope loops (code.followed compiled (code.in_turn [])) (cost + 0) (after conduct (λ values. Course.ends (Way.on values)))
  last_works true scope loops compiled cost conduct w =
      then_ended words count scope loops compiled (plainly (λ locals. []) compiled.behind) cost 0 conduct (λ values. Course.ends (Way.on values)) (λ p. tt) w
  last_works false scope loops compiled cost conduct w =
      then_works words count false scope loops compiled (plainly (λ locals. []) compiled.behind) cost 0 conduct (λ values. Course.ends (Way.on values)) w (nothing_works words count compiled.behind loops)

  -- the last statement of a block
  module _ (n1 : Part) (s1 : Sparing) (k1 g1 e1 : Bool) (b1 d1 c1 b c : ℕ) (t1 : Template) (f1 : Conduct) (first : Good n1 s1 k1 g1 e1 b1 d1 c1 t1 f1) (slots_are : b ≡ b1 + 0) (cost_is : c ≡ c1 + 0) where
    alone_works : (scope : Scope) (loops : List (List ℕ)) → Sound scope loops → (joined n1 (fit.in_turn []) (names_of scope.locals)).fits ≡ true → both_spare s1 (λ loops. true) loops ≡ true →
        (k1 && true) ≡ true → (g1 && true) ≡ true → scope.next + b ≤ 32 → max d1 0 ≤ 32 → Works words count e1 scope loops (joined_code t1 (code.in_turn []) scope) c (after f1 (λ values. Course.ends (Way.on values)))
    alone_works scope loops sound fits spared turned given slots deep =
        let f = and_parts (n1 (names_of scope.locals)).fits true fits in
        let s = and_parts (s1 loops) true spared in
        let k = and_parts k1 true turned in
        let h = and_parts g1 true given in
        let one = first.works scope loops sound f.0 s.0 k.0 h.0 (omega (arith, slots, slots_are)) (omega (arith, deep)) in
        works_in words count e1 scope loops (joined_code t1 (code.in_turn []) scope) (c1 + 0) c (after f1 (λ values. Course.ends (Way.on values))) (omega (arith, cost_is))
        (last_works e1 scope loops (t1 scope) c1 f1 one)

    pub alone_good : Good (joined n1 (fit.in_turn [])) (both_spare s1 (λ loops. true)) (k1 && true) (g1 && true) e1 b (max d1 0) c (joined_code t1 (code.in_turn [])) (after f1 (λ values. Course.ends (Way.on values)))
    alone_good =
        let whole = then_good n1 (fit.in_turn []) s1 (λ loops. true) k1 true g1 true e1 false b1 0 d1 0 c1 0 b c t1 (code.in_turn []) f1 (λ values. Course.ends (Way.on values)) first nothing_good slots_are cost_is in
        record { next_is = whole.next_is; named = whole.named; sound = whole.sound; grows = whole.grows; works = alone_works }

  -- a new local
  pub declared_good : (name : List ℕ) (fits : List (List ℕ) → Bool) (depth cost : ℕ) (instrs : List Local → List Instr) (course : Locals → Course ℕ) →
      ((scope : List Local) → Small scope → fits (names_of scope) ≡ true → Gives words count scope (instrs scope) depth cost course) →
      Good (declares name fits) (λ loops. true) true true false 1 depth (cost + 1) (declaring name instrs) (λ values. chain (course values) (λ value. Course.ends (Way.on (with_local name value values))))
  declared_good name fits depth cost instrs course gives = record {
    next_is = λ scope. refl;
    named = λ scope. refl;
    sound = λ scope loops sound. sound_declared scope loops name sound;
    grows = λ scope fit. declare_grows scope name (not-true (is_among (names_of scope.locals) name) (and_parts (fits (names_of scope.locals)) (not (is_among (names_of scope.locals) name)) fit).1);
    works = λ scope loops sound fit spared turned given slots deep.
        let f = and_parts (fits (names_of scope.locals)) (not (is_among (names_of scope.locals) name)) fit in
        declared_works words count scope loops name instrs depth cost course sound (not-true (is_among (names_of scope.locals) name) f.1) (omega (arith, slots)) deep
        (gives scope.locals (small_slots scope loops sound (omega (arith, slots))) f.0);
  }

  -- a block that is entered
  abbrev entered : Scope → Template → Compiled
  entered scope block = block_of scope (block scope).code (block scope).behind.next

  module _ (test_fits : List (List ℕ) → Bool) (depth ct : ℕ) (test : List Local → List Instr) (course : Locals → Course ℕ)
      (gives : (scope : List Local) → Small scope → test_fits (names_of scope) ≡ true → Gives words count scope (test scope) depth ct course)
      (n1 : Part) (s1 : Sparing) (k1 g1 e1 : Bool) (b1 d1 c1 : ℕ) (t1 : Template) (f1 : Conduct) (block : Good n1 s1 k1 g1 e1 b1 d1 c1 t1 f1) where
    block_works : (ends : Bool) (scope : Scope) (loops : List (List ℕ)) → Sound scope loops → (n1 (names_of scope.locals)).fits ≡ true →
        Works words count ends scope loops (t1 scope) c1 f1 → Works words count ends scope loops (entered scope t1) c1 f1
    block_works ends scope loops sound fits w = within_works words count ends scope loops (t1 scope) c1 f1 (block.grows scope fits) w

    -- an `if` without `else`
    pub when_good : Good (uses (λ known. test_fits known && ((n1 known).fits && true))) (λ loops. s1 loops && true) (k1 && true) (g1 && true) false (b1 + 0) (max depth (max d1 0)) (ct + 1 + c1)
        (λ scope. when (test scope.locals) (within t1 scope)) (λ values. chain (course values) (λ value. if value == 0 then Course.ends (Way.on values) else f1 values))
    when_good = record {
      next_is = λ scope. omega (arith, block.next_is scope);
      named = λ scope. refl;
      sound = λ scope loops sound. sound_behind scope (t1 scope).behind loops (omega (arith, block.next_is scope)) sound;
      grows = λ scope fit. same_grows scope.locals;
      works = λ scope loops sound fit spared turned given slots deep.
          let known = names_of scope.locals in
          let f = and_parts (test_fits known) ((n1 known).fits && true) fit in
          let g = and_parts (n1 known).fits true f.1 in
          let s = and_parts (s1 loops) true spared in
          let k = and_parts k1 true turned in
          let h = and_parts g1 true given in
          let w = block.works scope loops sound g.0 s.0 k.0 h.0 (omega (arith, slots)) (omega (arith, deep)) in
          when_works words count scope loops (test scope.locals) depth ct course (t1 scope).code (t1 scope).behind.next c1 f1 (omega (arith, deep))
          (gives scope.locals (small_slots scope loops sound (omega (arith, slots))) f.0)
          (block_works false scope loops sound g.0 (works_false words count e1 scope loops (t1 scope) c1 f1 w));
    }

    -- an `if` with `else`; the other block has its slots behind those of the first
    module _ (n2 : Part) (s2 : Sparing) (k2 g2 e2 : Bool) (b2 d2 c2 : ℕ) (t2 : Template) (f2 : Conduct) (other : Good n2 s2 k2 g2 e2 b2 d2 c2 t2 f2) where
      abbrev second : Scope → Scope
      second scope = behind_block scope (t1 scope).behind

      either_works_so : (scope : Scope) (loops : List (List ℕ)) → Sound scope loops → (test_fits (names_of scope.locals) && ((n1 (names_of scope.locals)).fits && (n2 (names_of scope.locals)).fits)) ≡ true →
          (s1 loops && s2 loops) ≡ true → (k1 && k2) ≡ true → (g1 && g2) ≡ true → scope.next + (b1 + b2) ≤ 32 → max depth (max d1 d2) ≤ 32 →
          Works words count (e1 && e2) scope loops (either (test scope.locals) (within t1 scope) (within t2 (second scope))) (ct + 1 + max (c1 + 1) c2)
          (λ values. chain (course values) (λ value. if value == 0 then f2 values else f1 values))
      either_works_so scope loops sound fit spared turned given slots deep =
          let known = names_of scope.locals in
          let f = and_parts (test_fits known) ((n1 known).fits && (n2 known).fits) fit in
          let g = and_parts (n1 known).fits (n2 known).fits f.1 in
          let s = and_parts (s1 loops) (s2 loops) spared in
          let k = and_parts k1 k2 turned in
          let h = and_parts g1 g2 given in
          let next = block.next_is scope in
          let sound2 = sound_behind scope (t1 scope).behind loops (omega (arith, next)) sound in
          let w1 = block.works scope loops sound g.0 s.0 k.0 h.0 (omega (arith, slots)) (omega (arith, deep)) in
          let w2 = other.works (second scope) loops sound2 g.1 s.1 k.1 h.1 (omega (arith, slots, next)) (omega (arith, deep)) in
          either_works words count (e1 && e2) scope loops (test scope.locals) depth ct course (t1 scope).code (t1 scope).behind.next c1 f1
          (t2 (second scope)).code (t2 (second scope)).behind.next c2 f2 (omega (arith, deep))
          (gives scope.locals (small_slots scope loops sound (omega (arith, slots))) f.0)
          (block_works (e1 && e2) scope loops sound g.0 (works_left words count e1 e2 scope loops (t1 scope) c1 f1 w1))
          (within_works words count (e1 && e2) (second scope) loops (t2 (second scope)) c2 f2 (other.grows (second scope) g.1)
          (works_right words count e1 e2 (second scope) loops (t2 (second scope)) c2 f2 w2))

      pub either_good : Good (uses (λ known. test_fits known && ((n1 known).fits && (n2 known).fits))) (λ loops. s1 loops && s2 loops) (k1 && k2) (g1 && g2) (e1 && e2) (b1 + b2) (max depth (max d1 d2)) (ct + 1 + max (c1 + 1) c2)
          (λ scope. either (test scope.locals) (within t1 scope) (within t2 (within t1 scope).behind)) (λ values. chain (course values) (λ value. if value == 0 then f2 values else f1 values))
      either_good = record {
        next_is = λ scope. omega (arith, block.next_is scope, other.next_is (second scope));
        named = λ scope. refl;
        sound = λ scope loops sound. sound_behind scope (t2 (second scope)).behind loops (omega (arith, block.next_is scope, other.next_is (second scope))) sound;
        grows = λ scope fit. same_grows scope.locals;
        works = either_works_so;
      }

  -- a loop
  pub repeat_good : (name : List ℕ) (most : ℕ) (n1 : Part) (s1 : Sparing) (k1 g1 e1 : Bool) (b1 d1 c1 : ℕ) (t1 : Template) (f1 : Conduct) → Good n1 s1 k1 g1 e1 b1 d1 c1 t1 f1 →
      Good (uses (loop_fits name n1)) (λ loops. s1 (name ∷ loops)) (nat_le most 50000 && k1) g1 false (1 + b1) (max 2 d1) (loop_cost most c1) (within (loop name most t1)) (turns most 0 name f1)
  repeat_good name most n1 s1 k1 g1 e1 b1 d1 c1 t1 f1 block = record {
    next_is = λ scope. omega (arith, block.next_is (declare name scope));
    named = λ scope. refl;
    sound = λ scope loops sound. sound_behind scope (t1 (declare name scope)).behind loops (omega (arith, block.next_is (declare name scope))) sound;
    grows = λ scope fit. same_grows scope.locals;
    works = λ scope loops sound fit spared turned given slots deep.
        let inner = declare name scope in
        let f = and_parts (not (is_among (names_of scope.locals) name)) (n1 (names_of inner.locals)).fits fit in
        let k = and_parts (nat_le most 50000) k1 turned in
        let w = block.works inner (name ∷ loops) (sound_loop scope loops name sound) f.1 spared k.1 given (omega (arith, slots)) (omega (arith, deep)) in
        loop_works words count scope loops name most (t1 inner) c1 f1 sound (not-true (is_among (names_of scope.locals) name) f.0) (omega (arith, slots)) (leb-true most 50000 k.0) (block.grows inner f.1)
        (works_false words count e1 inner (name ∷ loops) (t1 inner) c1 f1 w);
  }
