-- The code of a loop.
use Rattle.std.proofs.Common.{◌≡◌, ℕ, zero, suc, ◌+◌, ◌*◌, ◌%◌, ◌<◌, ◌≤◌, List, [], ◌∷◌, ◌++◌, length, refl, sym, ap, ◌∙◌, subst, arith, length-set}
use Rattle.std.specs.Prelude.{true, false, ◌==◌, if◌then◌else◌, slice_index_or, slice_set}
use Rattle.std.proofs.lemmas.Bool.{or_right}
use Rattle.std.specs.Str.{bytes_eq}
use Rattle.std.proofs.lemmas.List.{get_or-set_same}
use Rattle.std.proofs.lemmas.Bool.Decides.{nat_tests}
use Rattle.std.proofs.Math.Nat.{suc-mul}
use Rattle.coati_word.specs.declared.operator.Op.TheVariants as op
use Rattle.coati_word.specs.Operator.{operator_value}
use Rattle.task_syntax.specs.Course.{Course, chain}
use Rattle.task_syntax.specs.Expressions.{Locals, with_local}
use Rattle.task_syntax.specs.Statements.{Way, Conduct, unless_out, turns}
use Rattle.task_syntax.specs.Cost.{loop_cost}
use Rattle.word_code.specs.declared.instruction.Instr.TheVariants.{Push, GetL, SetL, Jump, JumpZ, Two}
use Rattle.word_code.specs.Machine.{State}
use Rattle.word_code.specs.Following.{Follows}
use Rattle.codegen.specs.Code.{size, end_of, head_code, turn_code, loop_code}
use Rattle.codegen.specs.Scope.{Scope, declare}
use Rattle.codegen.specs.Templates.{Compiled}
use Rattle.task_check.specs.Loops.{is_among}
use Rattle.word_code.proofs.Following.{follows_in_more}
use Rattle.codegen.proofs.Following.{state, then_follows}
use Rattle.codegen.proofs.Placed.{Stands, size-append, encodable_both, stands_front, stands_back}
use Rattle.codegen.proofs.Agreement.{names_of, Agrees, Grows, Sound, grows_on, agrees_less, agrees_past, agrees_more, declare_grows, other_value, differs, slot_here, value_here, among_here}
use Rattle.codegen.proofs.Operands.{runs_at}
use Rattle.codegen.proofs.Statements.{Reached, Works}
use Rattle.codegen.proofs.Choices.{block_of}

-- the steps of the turns that are left
abbrev pub turns_cost : ℕ → ℕ → ℕ
turns_cost zero block = 4
turns_cost (suc left) block = 4 + (block + (5 + turns_cost left block))

turns_cost-is : (left block : ℕ) → turns_cost left block ≡ left * (9 + block) + 4
turns_cost-is zero block = omega arith
turns_cost-is (suc left) block = omega (arith, turns_cost-is left block, suc-mul left (9 + block))

module _ (words : List ℕ) (count : ℕ) where
  module _ {A : Type 0} (Last : A → State → Type 0) where
    -- the test at the head of a loop
    head_follows : (h end slot most turn test m : ℕ) (ls : List ℕ) (course : Course A) → slice_index_or ls slot 0 ≡ turn → operator_value op.Lt turn most ≡ test →
        Stands words h (head_code slot most end) → Follows words count Last m (state (if test == 0 then end else h + 7) [] ls) course →
        Follows words count Last (4 + m) (state h [] ls) course
    head_follows h end slot most turn test m ls course is holds stands f =
        let v = slice_index_or ls slot 0 in
        let e : operator_value op.Lt v most ≡ test = ap (λ x. operator_value op.Lt x most) is ∙ holds in
        let at : h + 2 + 2 + 1 + 2 ≡ h + 7 = omega arith in
        let f1 = subst (λ x. Follows words count Last m (state (if x == 0 then end else h + 7) [] ls) course) (sym e) f in
        let f2 = subst (λ y. Follows words count Last m (state (if operator_value op.Lt v most == 0 then end else y) [] ls) course) (sym at) f1 in
        Follows.goes (4 + m) (3 + m) (state h [] ls) (state (h + 2) (v ∷ []) ls) course (GetL slot)
        (runs_at words count (GetL slot) (state h [] ls) stands.0 (record { operands = omega arith; room = omega arith; word = tt })) refl (omega arith)
        (Follows.goes (3 + m) (2 + m) (state (h + 2) (v ∷ []) ls) (state (h + 2 + 2) (most ∷ v ∷ []) ls) course (Push most)
        (runs_at words count (Push most) (state (h + 2) (v ∷ []) ls) stands.1.0 (record { operands = omega arith; room = omega arith; word = tt })) refl (omega arith)
        (Follows.goes (2 + m) (1 + m) (state (h + 2 + 2) (most ∷ v ∷ []) ls) (state (h + 2 + 2 + 1) (operator_value op.Lt v most ∷ []) ls) course (Two op.Lt)
        (runs_at words count (Two op.Lt) (state (h + 2 + 2) (most ∷ v ∷ []) ls) stands.1.1.0 (record { operands = omega arith; room = omega arith; word = tt })) refl (omega arith)
        (Follows.goes (1 + m) m (state (h + 2 + 2 + 1) (operator_value op.Lt v most ∷ []) ls) (state (if operator_value op.Lt v most == 0 then end else h + 2 + 2 + 1 + 2) [] ls) course (JumpZ end)
        (runs_at words count (JumpZ end) (state (h + 2 + 2 + 1) (operator_value op.Lt v most ∷ []) ls) stands.1.1.1.0 (record { operands = omega arith; room = omega arith; word = tt })) refl (omega arith)
        f2)))

    -- the end of a turn
    tail_follows : (t h slot turn m : ℕ) (ls : List ℕ) (course : Course A) → slice_index_or ls slot 0 ≡ turn → turn + 1 < 65536 →
        Stands words t (turn_code slot h) → Follows words count Last m (state h [] (slice_set ls slot (turn + 1))) course →
        Follows words count Last (5 + m) (state t [] ls) course
    tail_follows t h slot turn m ls course is small stands f =
        let v = slice_index_or ls slot 0 in
        let sum : (turn + 1) % 65536 ≡ turn + 1 = grind arith in
        let e : operator_value op.Add v 1 ≡ turn + 1 = ap (λ x. operator_value op.Add x 1) is ∙ sum in
        let f1 = subst (λ x. Follows words count Last m (state h [] (slice_set ls slot x)) course) (sym e) f in
        Follows.goes (5 + m) (4 + m) (state t [] ls) (state (t + 2) (v ∷ []) ls) course (GetL slot)
        (runs_at words count (GetL slot) (state t [] ls) stands.0 (record { operands = omega arith; room = omega arith; word = tt })) refl (omega arith)
        (Follows.goes (4 + m) (3 + m) (state (t + 2) (v ∷ []) ls) (state (t + 2 + 2) (1 ∷ v ∷ []) ls) course (Push 1)
        (runs_at words count (Push 1) (state (t + 2) (v ∷ []) ls) stands.1.0 (record { operands = omega arith; room = omega arith; word = tt })) refl (omega arith)
        (Follows.goes (3 + m) (2 + m) (state (t + 2 + 2) (1 ∷ v ∷ []) ls) (state (t + 2 + 2 + 1) (operator_value op.Add v 1 ∷ []) ls) course (Two op.Add)
        (runs_at words count (Two op.Add) (state (t + 2 + 2) (1 ∷ v ∷ []) ls) stands.1.1.0 (record { operands = omega arith; room = omega arith; word = tt })) refl (omega arith)
        (Follows.goes (2 + m) (1 + m) (state (t + 2 + 2 + 1) (operator_value op.Add v 1 ∷ []) ls) (state (t + 2 + 2 + 1 + 2) [] (slice_set ls slot (operator_value op.Add v 1))) course (SetL slot)
        (runs_at words count (SetL slot) (state (t + 2 + 2 + 1) (operator_value op.Add v 1 ∷ []) ls) stands.1.1.1.0 (record { operands = omega arith; room = omega arith; word = tt })) refl (omega arith)
        (Follows.goes (1 + m) m (state (t + 2 + 2 + 1 + 2) [] (slice_set ls slot (operator_value op.Add v 1))) (state h [] (slice_set ls slot (operator_value op.Add v 1))) course (Jump h)
        (runs_at words count (Jump h) (state (t + 2 + 2 + 1 + 2) [] (slice_set ls slot (operator_value op.Add v 1))) stands.1.1.1.1.0 (record { operands = omega arith; room = omega arith; word = tt })) refl (omega arith)
        f1))))

  -- a loop of `most` turns whose head is at `h`, its block at `b` and its end at `q`; `before` are the locals in front of it
  module _ (scope : Scope) (loops : List (List ℕ)) (name : List ℕ) (most h b q : ℕ) (before : Locals) (block : Compiled) (c : ℕ) (f : Conduct) where
    abbrev After : Way → State → Type 0
    After = Reached words count false q scope.locals loops before

    abbrev Kept : Locals → Type 0
    Kept values = (other : List ℕ) → is_among loops other ≡ true → values other ≡ before other

    -- from the head, with so many turns done
    abbrev FromHead : ℕ → ℕ → Type 0
    FromHead left turn = (ls : List ℕ) (values : Locals) → slice_index_or ls scope.next 0 ≡ turn → length ls ≡ 32 → Agrees scope.locals values ls → Kept values →
        Follows words count After (turns_cost left c) (state h [] ls) (turns left turn name f values)

    module _ (sound : Sound scope loops) (new : is_among (names_of scope.locals) name ≡ false) (small : scope.next < 32)
        (grows : Grows (declare name scope).locals block.behind.locals)
        (head : Stands words h (head_code scope.next most q)) (tail : Stands words (end_of block.code b) (turn_code scope.next h)) where
      -- behind a turn
      turn_rest : (left turn : ℕ) (values : Locals) → Kept values → turn + 1 < 65536 → FromHead left (turn + 1) → (way : Way) (s : State) →
          Reached words count false (end_of block.code b) block.behind.locals (name ∷ loops) (with_local name turn values) way s →
          Follows words count After (5 + turns_cost left c) s (unless_out (turns left (turn + 1) name f) way)
      turn_rest left turn values kept few more (Way.on after) s r =
          let slot = scope.next in
          let got : slice_index_or r.ls slot 0 ≡ turn =
          sym (r.agrees.by name slot (grows.by name slot (slot_here scope name))) ∙ r.kept name (among_here name loops) ∙ value_here name turn values in
          let ls = slice_set r.ls slot (turn + 1) in
          let outside : Agrees scope.locals after r.ls = agrees_less scope.locals block.behind.locals after r.ls (grows_on scope.locals (declare name scope).locals block.behind.locals (declare_grows scope name new) grows) r.agrees in
          let within : slot < length r.ls = (let long = r.long in omega (arith, long)) in
          subst (λ z. Follows words count After (5 + turns_cost left c) z (turns left (turn + 1) name f after)) (sym r.state_is)
          (tail_follows After (end_of block.code b) h slot turn (turns_cost left c) r.ls (turns left (turn + 1) name f after) got few tail
          (more ls after (get_or-set_same r.ls slot (turn + 1) 0 within) (length-set r.ls slot (turn + 1) ∙ r.long)
          (agrees_past scope loops after r.ls slot (turn + 1) sound (omega arith) outside)
          (λ other known. r.kept other (or_right (bytes_eq other name) (is_among loops other) known)
          ∙ other_value name turn values other (differs (names_of scope.locals) name other new (sound.loops_known other known)) ∙ kept other known)))
      turn_rest left turn values kept few more (Way.out ending) s r = Follows.arrives (5 + turns_cost left c) s (Way.out ending) r

      turns_follow : most ≤ 50000 → h + 7 ≡ b → Stands words b (block.code b) → Works words count false (declare name scope) (name ∷ loops) block c f →
          (left turn : ℕ) → turn + left ≡ most → FromHead left turn
      turns_follow few eb stands w zero turn sum ls values is long agrees kept =
          let over : operator_value op.Lt turn most ≡ 0 = grind (arith, nat_tests) in
          head_follows After h q scope.next most turn 0 0 ls (Course.ends (Way.on values)) is over head
          (Follows.arrives 0 (state q [] ls) (Way.on values) (record { ls = ls; state_is = refl; long = long; agrees = agrees; kept = kept }))
      turns_follow few eb stands w (suc left) turn sum ls values is long agrees kept =
          let goes : operator_value op.Lt turn most ≡ 1 = grind (arith, nat_tests) in
          let values1 = with_local name turn values in
          let T = turns_cost left c in
          let course = chain (f values1) (unless_out (turns left (turn + 1) name f)) in
          head_follows After h q scope.next most turn 1 (c + (5 + T)) ls course is goes head
          (subst (λ x. Follows words count After (c + (5 + T)) (state x [] ls) course) (sym eb)
          (then_follows words count (Reached words count false (end_of block.code b) block.behind.locals (name ∷ loops) values1) After c (5 + T) (c + (5 + T)) (state b [] ls) (f values1) (unless_out (turns left (turn + 1) name f))
          (follows_in_more words count (Reached words count false (end_of block.code b) block.behind.locals (name ∷ loops) values1) w.limit c (state b [] ls) (f values1)
          (w.by b ls values1 stands long (agrees_more scope values ls name turn is agrees)) (omega (arith, w.in_time)))
          (omega arith)
          (turn_rest left turn values kept (omega (arith, few, sum)) (turns_follow few eb stands w left (turn + 1) (omega (arith, sum))))))

  pub loop_works : (scope : Scope) (loops : List (List ℕ)) (name : List ℕ) (most : ℕ) (block : Compiled) (c : ℕ) (f : Conduct) →
      Sound scope loops → is_among (names_of scope.locals) name ≡ false → scope.next < 32 → most ≤ 50000 → Grows (declare name scope).locals block.behind.locals →
      Works words count false (declare name scope) (name ∷ loops) block c f →
      Works words count false scope loops (block_of scope (loop_code scope.next most block.code) block.behind.next) (loop_cost most c) (turns most 0 name f)
  loop_works scope loops name most block c f sound new small few grows w =
      let slot = scope.next in record {
        encodable = λ p. (
          tt,
          (
            small,
            encodable_both (head_code slot most (end_of block.code (p + 11) + 9)) (block.code (p + 11) ++ turn_code slot (p + 4)) (small, (tt, (tt, (tt, tt))))
                (encodable_both (block.code (p + 11)) (turn_code slot (p + 4)) (w.encodable (p + 11)) (small, (tt, (tt, (small, (tt, tt)))))),
          ),
        );
        limit = loop_cost most c;
        in_time = omega arith;
        by = λ p ls values stands long agrees.
            let q = end_of block.code (p + 11) + 9 in
            let end = p + size (loop_code slot most block.code p) in
            let head = head_code slot most q in
            let tail = turn_code slot (p + 4) in
            let eh : p + 2 + 2 ≡ p + 4 = omega arith in
            let eb : p + 4 + 7 ≡ p + 11 = omega arith in
            let e : q ≡ end = omega (arith, size-append (block.code (p + 11)) tail) in
            let s1 = subst (λ z. Stands words z (head ++ (block.code (p + 11) ++ tail))) eh stands.1.1 in
            let s2 = subst (λ z. Stands words z (block.code (p + 11) ++ tail)) eb (stands_back words (p + 4) head (block.code (p + 11) ++ tail) s1) in
            let ls0 = slice_set ls slot 0 in
            let Last = Reached words count false q scope.locals loops values in
            let turning : Follows words count Last (turns_cost most c) (state (p + 4) [] ls0) (turns most 0 name f values) =
            turns_follow scope loops name most (p + 4) (p + 11) q values block c f sound new small grows
            (stands_front words (p + 4) head (block.code (p + 11) ++ tail) s1) (stands_back words (p + 11) (block.code (p + 11)) tail s2)
            few eb (stands_front words (p + 11) (block.code (p + 11)) tail s2) w most 0 (omega arith) ls0 values
            (get_or-set_same ls slot 0 0 (omega (arith, long))) (length-set ls slot 0 ∙ long)
            (agrees_past scope loops values ls slot 0 sound (omega arith) agrees) (λ other known. refl) in
            let T = turns_cost most c in
            let moved = subst (λ z. Follows words count Last T (state z [] ls0) (turns most 0 name f values)) (sym eh) turning in
            let whole : Follows words count Last (2 + T) (state p [] ls) (turns most 0 name f values) =
            Follows.goes (2 + T) (1 + T) (state p [] ls) (state (p + 2) (0 ∷ []) ls) (turns most 0 name f values) (Push 0)
            (runs_at words count (Push 0) (state p [] ls) stands.0 (record { operands = omega arith; room = omega arith; word = tt })) refl (omega arith)
            (Follows.goes (1 + T) T (state (p + 2) (0 ∷ []) ls) (state (p + 2 + 2) [] ls0) (turns most 0 name f values) (SetL slot)
            (runs_at words count (SetL slot) (state (p + 2) (0 ∷ []) ls) stands.1.0 (record { operands = omega arith; room = omega arith; word = tt })) refl (omega arith) moved) in
            subst (λ z. Follows words count (Reached words count false z scope.locals loops values) (loop_cost most c) (state p [] ls) (turns most 0 name f values)) e
            (follows_in_more words count Last (2 + T) (loop_cost most c) (state p [] ls) (turns most 0 name f values) whole (omega (arith, turns_cost-is most c)));
      }
