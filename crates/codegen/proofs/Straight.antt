-- The code of statements without jumps: assignments and endings.
use Rattle.std.proofs.Common.{◌≡◌, ℕ, ◌+◌, ◌<◌, ◌≤◌, List, [], ◌∷◌, ◌++◌, refl, sym, ap, ◌∙◌, subst, arith, length-set}
use Rattle.std.specs.Prelude.{Bool, true, false, not, Some, None, slice_set}
use Rattle.std.proofs.lemmas.Bool.{true≢false}
use Rattle.coati_word.specs.declared.ending.Ending.TheVariants as ending
use Rattle.coati_word.specs.Operator.{remainder}
use Rattle.task_syntax.specs.Course.{Course, chain}
use Rattle.task_syntax.specs.Names.{Words, count_of}
use Rattle.task_syntax.specs.Expressions.{Locals, Aim, with_local, plain_aim, item_aim}
use Rattle.task_syntax.specs.Statements.{Way, assigned}
use Rattle.word_code.specs.declared.instruction.Instr.{Instr}
use Rattle.word_code.specs.declared.instruction.Instr.TheVariants.{SetL, StoreV, StoreX, Next, Halt}
use Rattle.word_code.specs.Following.{Follows}
use Rattle.codegen.specs.Code.{size}
use Rattle.codegen.specs.Scope.{Local, Scope, slot_of, declare}
use Rattle.codegen.specs.Templates.{plainly, declaring}
use Rattle.task_check.specs.Loops.{is_among}
use Rattle.codegen.proofs.Following.{state, then_follows}
use Rattle.codegen.proofs.Placed.{size-append, encodable_both, stands_front, stands_back}
use Rattle.codegen.proofs.Agreement.{names_of, Sound, agrees_declared, agrees_assigned, other_value, differs}
use Rattle.task_syntax.proofs.VariableWords.{remainder-below}
use Rattle.codegen.proofs.Operands.{Pushed, Aimed, Gives, aims_follow, runs_at}
use Rattle.codegen.proofs.Statements.{Reached, Works}

pub not-true : (b : Bool) → not b ≡ true → b ≡ false
not-true true h = absurd (true≢false (sym h))
not-true false h = refl

module _ (words : List ℕ) (count : ℕ) where
  -- a new local
  pub declared_works : (scope : Scope) (loops : List (List ℕ)) (name : List ℕ) (code : List Local → List Instr) (depth cost : ℕ) (course : Locals → Course ℕ) →
      Sound scope loops → is_among (names_of scope.locals) name ≡ false → scope.next < 32 → depth ≤ 32 → Gives words count scope.locals (code scope.locals) depth cost course →
      Works words count false scope loops (declaring name code scope) (cost + 1) (λ values. chain (course values) (λ value. Course.ends (Way.on (with_local name value values))))
  declared_works scope loops name code depth cost course sound new small deep h = record {
    encodable = λ p. encodable_both (code scope.locals) (SetL scope.next ∷ []) h.encodable (small, tt);
    limit = cost + 1;
    in_time = omega arith;
    by = λ p ls values stands long agrees.
        let value_code = code scope.locals in
        let slot = scope.next in
        let set = SetL slot in
        let q = p + size value_code in
        let end = p + size (value_code ++ set ∷ []) in
        let scope' = (declare name scope).locals in
        then_follows words count (Pushed q [] ls) (Reached words count false end scope' loops values) cost 1 (cost + 1) (state p [] ls) (course values) (λ value. Course.ends (Way.on (with_local name value values)))
        (h.by p [] ls values (stands_front words p value_code (set ∷ []) stands) (omega arith) agrees) (omega arith)
        (λ value t is. subst (λ s. Follows words count (Reached words count false end scope' loops values) 1 s (Course.ends (Way.on (with_local name value values)))) (sym is)
        (Follows.goes 1 0 (state q (value ∷ []) ls) (state (q + 2) [] (slice_set ls slot value)) _ set
        (runs_at words count set (state q (value ∷ []) ls) (stands_back words p value_code (set ∷ []) stands).0 (record { operands = omega arith; room = omega arith; word = tt }))
        refl (omega arith)
        (Follows.arrives 0 _ (Way.on (with_local name value values)) (record {
          ls = slice_set ls slot value;
          state_is = ap (λ x. state x [] (slice_set ls slot value)) (omega (arith, size-append value_code (set ∷ [])));
          long = length-set ls slot value ∙ long;
          agrees = agrees_declared scope loops values ls name value sound (omega arith) agrees;
          kept = λ other known. other_value name value values other (differs (names_of scope.locals) name other new (sound.loops_known other known));
        }))));
  }

  -- a local that is no loop's name
  pub local_works : (scope : Scope) (loops : List (List ℕ)) (name : List ℕ) (slot : ℕ) (code : List Instr) (depth cost : ℕ) (course : Locals → Course ℕ) →
      Sound scope loops → slot_of scope.locals name ≡ Some slot → not (is_among loops name) ≡ true → scope.next ≤ 32 → depth ≤ 32 → Gives words count scope.locals code depth cost course →
      Works words count false scope loops (plainly (λ locals. code ++ SetL slot ∷ []) scope) (cost + 1)
      (λ values. chain (Course.ends (plain_aim name None)) (λ a. chain (course values) (assigned values a)))
  local_works scope loops name slot code depth cost course sound is spared small deep h =
      let below : slot < scope.next = sound.below name slot is in record {
        encodable = λ p. encodable_both code (SetL slot ∷ []) h.encodable (omega (arith, below), tt);
        limit = cost + 1;
        in_time = omega arith;
        by = λ p ls values stands long agrees.
            let set = SetL slot in
            let q = p + size code in
            let end = p + size (code ++ set ∷ []) in
            then_follows words count (Pushed q [] ls) (Reached words count false end scope.locals loops values) cost 1 (cost + 1) (state p [] ls) (course values) (assigned values (Aim.named name))
            (h.by p [] ls values (stands_front words p code (set ∷ []) stands) (omega arith) agrees) (omega arith)
            (λ value t is_there. subst (λ s. Follows words count (Reached words count false end scope.locals loops values) 1 s (Course.ends (Way.on (with_local name value values)))) (sym is_there)
            (Follows.goes 1 0 (state q (value ∷ []) ls) (state (q + 2) [] (slice_set ls slot value)) _ set
            (runs_at words count set (state q (value ∷ []) ls) (stands_back words p code (set ∷ []) stands).0 (record { operands = omega arith; room = omega arith; word = tt }))
            refl (omega arith)
            (Follows.arrives 0 _ (Way.on (with_local name value values)) (record {
              ls = slice_set ls slot value;
              state_is = ap (λ x. state x [] (slice_set ls slot value)) (omega (arith, size-append code (set ∷ [])));
              long = length-set ls slot value ∙ long;
              agrees = agrees_assigned scope loops values ls name slot value sound (omega (arith, below)) is agrees;
              kept = λ other known. other_value name value values other (differs loops name other (not-true (is_among loops name) spared) known);
            }))));
      }

  -- a scalar
  pub word_works : (scope : Scope) (loops : List (List ℕ)) (name : List ℕ) (variable : Words) (code : List Instr) (depth cost : ℕ) (course : Locals → Course ℕ) →
      variable.first < count → depth ≤ 32 → Gives words count scope.locals code depth cost course →
      Works words count false scope loops (plainly (λ locals. code ++ StoreV variable.first ∷ []) scope) (cost + 3)
      (λ values. chain (Course.ends (plain_aim name (Some variable))) (λ a. chain (course values) (assigned values a)))
  word_works scope loops name variable code depth cost course within deep h = record {
    encodable = λ p. encodable_both code (StoreV variable.first ∷ []) h.encodable (tt, tt);
    limit = cost + 3;
    in_time = omega arith;
    by = λ p ls values stands long agrees.
        let store = StoreV variable.first in
        let q = p + size code in
        let end = p + size (code ++ store ∷ []) in
        then_follows words count (Pushed q [] ls) (Reached words count false end scope.locals loops values) cost 3 (cost + 3) (state p [] ls) (course values) (assigned values (Aim.in_word variable.first))
        (h.by p [] ls values (stands_front words p code (store ∷ []) stands) (omega arith) agrees) (omega arith)
        (λ value t is. subst (λ s. Follows words count (Reached words count false end scope.locals loops values) 3 s (Course.writes variable.first value (Course.ends (Way.on values)))) (sym is)
        (Follows.stores 3 0 (state q (value ∷ []) ls) variable.first value (state (q + 2) [] ls) _ store
        (runs_at words count store (state q (value ∷ []) ls) (stands_back words p code (store ∷ []) stands).0 (record { operands = omega arith; room = omega arith; word = within }))
        refl (omega arith)
        (Follows.arrives 0 _ (Way.on values) (record {
          ls = ls;
          state_is = ap (λ x. state x [] ls) (omega (arith, size-append code (store ∷ [])));
          long = long;
          agrees = agrees;
          kept = λ other known. refl;
        }))));
  }

  -- an item, whose index is computed first
  pub item_works : (scope : Scope) (loops : List (List ℕ)) (name : List ℕ) (variable : Words) (index code : List Instr) (d1 d2 c1 c2 : ℕ) (one other : Locals → Course ℕ) →
      0 < count_of variable.length → variable.first + count_of variable.length ≤ count → d1 ≤ 32 → 1 + d2 ≤ 32 →
      Gives words count scope.locals index d1 c1 one → Gives words count scope.locals code d2 c2 other →
      Works words count false scope loops (plainly (λ locals. index ++ (code ++ StoreX variable.first (count_of variable.length) ∷ [])) scope) (c1 + c2 + 3)
      (λ values. chain (chain (one values) (λ i. Course.ends (item_aim name i (Some variable)))) (λ a. chain (other values) (assigned values a)))
  item_works scope loops name variable index code d1 d2 c1 c2 one other some within deep1 deep2 h k = record {
    encodable = λ p. encodable_both index (code ++ StoreX variable.first (count_of variable.length) ∷ []) h.encodable
        (encodable_both code (StoreX variable.first (count_of variable.length) ∷ []) k.encodable (some, tt));
    limit = c1 + c2 + 3;
    in_time = omega arith;
    by = λ p ls values stands long agrees.
        let n = count_of variable.length in
        let store = StoreX variable.first n in
        let q = p + size index in
        let r = q + size code in
        let end = p + size (index ++ (code ++ store ∷ [])) in
        let back = stands_back words p index (code ++ store ∷ []) stands in
        let aims = λ (i : ℕ). item_aim name i (Some variable) in
        let Last = Reached words count false end scope.locals loops values in
        then_follows words count (Aimed words count aims q [] ls) Last c1 (c2 + 3) (c1 + c2 + 3) (state p [] ls) (chain (one values) (λ i. Course.ends (aims i))) (λ a. chain (other values) (assigned values a))
        (aims_follow words count aims p q c1 [] ls (one values) (h.by p [] ls values (stands_front words p index (code ++ store ∷ []) stands) (omega arith) agrees)) (omega arith)
        (λ a t is. subst (λ z. Follows words count Last (c2 + 3) t (chain (other values) (assigned values z))) (sym is.aim_is)
        (subst (λ s. Follows words count Last (c2 + 3) s (chain (other values) (assigned values (aims is.index)))) (sym is.state_is)
        (then_follows words count (Pushed r (is.index ∷ []) ls) Last c2 3 (c2 + 3) (state q (is.index ∷ []) ls) (other values) (assigned values (aims is.index))
        (k.by q (is.index ∷ []) ls values (stands_front words q code (store ∷ []) back) (omega arith) agrees) (omega arith)
        (λ value u at. subst (λ s. Follows words count Last 3 s (assigned values (aims is.index) value)) (sym at)
        (Follows.stores 3 0 (state r (value ∷ is.index ∷ []) ls) (variable.first + remainder is.index n) value (state (r + 3) [] ls) _ store
        (runs_at words count store (state r (value ∷ is.index ∷ []) ls) (stands_back words q code (store ∷ []) back).0
        (record { operands = omega arith; room = omega arith; word = (let below = remainder-below is.index n some in omega (arith, below)) }))
        refl (omega arith)
        (Follows.arrives 0 _ (Way.on values) (record {
          ls = ls;
          state_is = ap (λ x. state x [] ls) (omega (arith, size-append index (code ++ store ∷ []), size-append code (store ∷ [])));
          long = long;
          agrees = agrees;
          kept = λ other known. refl;
        })))))));
  }

  -- endings without operands
  pub next_works : (scope : Scope) (loops : List (List ℕ)) (task : ℕ) →
      Works words count true scope loops (plainly (λ locals. Next task ∷ []) scope) 1 (λ values. Course.ends (Way.out (ending.Next task)))
  next_works scope loops task = record {
    encodable = λ p. (tt, tt);
    limit = 0;
    in_time = omega arith;
    by = λ p ls values stands long agrees. Follows.arrives 0 _ (Way.out (ending.Next task)) (record {
      instr = Next task;
      runs = runs_at words count (Next task) (state p [] ls) stands.0 (record { operands = omega arith; room = omega arith; word = tt });
      is_end = refl;
    });
  }

  pub halt_works : (scope : Scope) (loops : List (List ℕ)) →
      Works words count true scope loops (plainly (λ locals. Halt ∷ []) scope) 1 (λ values. Course.ends (Way.out ending.Halt))
  halt_works scope loops = record {
    encodable = λ p. (tt, tt);
    limit = 0;
    in_time = omega arith;
    by = λ p ls values stands long agrees. Follows.arrives 0 _ (Way.out ending.Halt) (record {
      instr = Halt;
      runs = runs_at words count Halt (state p [] ls) stands.0 (record { operands = omega arith; room = omega arith; word = tt });
      is_end = refl;
    });
  }
