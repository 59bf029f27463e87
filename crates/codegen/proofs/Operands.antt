-- The code of expressions pushes their values.
use Rattle.std.proofs.Common.{◌≡◌, ℕ, ◌+◌, ◌<◌, ◌≤◌, List, [], ◌∷◌, ◌++◌, length, refl, sym, ap, subst, arith}
use Rattle.std.specs.Prelude.{Some, None, slice_index_or}
use Rattle.coati_word.specs.declared.operator.Op.{Op}
use Rattle.coati_word.specs.declared.operator.Op1.{Op1}
use Rattle.coati_word.specs.Operator.{operator_value, unary_value, remainder}
use Rattle.task_syntax.specs.Course.{Course, chain}
use Rattle.task_syntax.specs.Names.{Words, count_of}
use Rattle.task_syntax.specs.Expressions.{Locals, Aim, plain_aim, item_aim, value_at}
use Rattle.task_syntax.proofs.VariableWords.{remainder-below}
use Rattle.word_code.specs.declared.instruction.Instr.{Instr}
use Rattle.word_code.specs.declared.instruction.Instr.TheVariants.{Push, GetL, LoadV, LoadX, Two, One}
use Rattle.word_code.specs.Machine.{State, CanRun}
use Rattle.word_code.specs.Following.{Runs, Follows}
use Rattle.codegen.specs.Code.{AreEncodable, size}
use Rattle.codegen.specs.Scope.{Local, slot_of}
use Rattle.codegen.proofs.Following.{state, then_follows}
use Rattle.codegen.proofs.Placed.{At, Stands, size-append, encodable_both, stands_front, stands_back}
use Rattle.codegen.proofs.Agreement.{Agrees}

-- a value is on the operands, and the machine at a place
abbrev pub Pushed : ℕ → List ℕ → List ℕ → ℕ → State → Type 0
Pushed place operands ls value s = s ≡ state place (value ∷ operands) ls

module _ (words : List ℕ) (count : ℕ) where
  -- an instruction that can run here
  pub runs_at : (instr : Instr) (s : State) → At words s.place instr → CanRun count instr s → Runs words count instr s
  runs_at instr s at can = record { starts = at; can_run = can }

  -- the code pushes what the course ends with, wherever it stands
  pub record Gives (scope : List Local) (code : List Instr) (depth cost : ℕ) (course : Locals → Course ℕ) : Type 0 where
    pub encodable : AreEncodable code
    pub by : (p : ℕ) (st ls : List ℕ) (values : Locals) → Stands words p code → length st + depth ≤ 32 → Agrees scope values ls →
        Follows words count (Pushed (p + size code) st ls) cost (state p st ls) (course values)
    pub deep : 1 ≤ depth

  -- an index is on the operands, and this is where it aims
  pub record Aimed (aims : ℕ → Aim) (place : ℕ) (operands ls : List ℕ) (aim : Aim) (s : State) : Type 0 where
    pub index : ℕ
    pub aim_is : aim ≡ aims index
    pub state_is : s ≡ state place (index ∷ operands) ls

  pub aims_follow : (aims : ℕ → Aim) (p q cost : ℕ) (st ls : List ℕ) (course : Course ℕ) → Follows words count (Pushed q st ls) cost (state p st ls) course →
      Follows words count (Aimed aims q st ls) cost (state p st ls) (chain course (λ i. Course.ends (aims i)))
  aims_follow aims p q cost st ls course f =
      then_follows words count (Pushed q st ls) (Aimed aims q st ls) cost 0 cost (state p st ls) course (λ i. Course.ends (aims i)) f (omega arith)
      (λ i t is. Follows.arrives 0 t (aims i) (record { index = i; aim_is = refl; state_is = is }))

  -- a place that is equal
  pub at_place : (p q limit : ℕ) (st ls : List ℕ) (s : State) (course : Course ℕ) → p ≡ q →
      Follows words count (Pushed p st ls) limit s course → Follows words count (Pushed q st ls) limit s course
  at_place p q limit st ls s course e f = subst (λ x. Follows words count (Pushed x st ls) limit s course) e f

  pub number_gives : (scope : List Local) (k : ℕ) → Gives scope (Push k ∷ []) 1 1 (λ values. Course.ends k)
  number_gives scope k = record {
    encodable = (tt, tt);
    by = λ p st ls values stands fits agrees.
        Follows.goes 1 0 (state p st ls) (state (p + 2) (k ∷ st) ls) _ (Push k)
        (runs_at (Push k) (state p st ls) stands.0 (record { operands = omega arith; room = omega arith; word = tt })) refl (omega arith)
        (Follows.arrives 0 _ k refl);
    deep = omega arith;
  }

  pub local_gives : (scope : List Local) (name : List ℕ) (slot : ℕ) → slot < 32 → slot_of scope name ≡ Some slot →
      Gives scope (GetL slot ∷ []) 1 1 (λ values. chain (Course.ends (plain_aim name None)) (value_at values))
  local_gives scope name slot small is = record {
    encodable = (small, tt);
    by = λ p st ls values stands fits agrees.
        Follows.goes 1 0 (state p st ls) (state (p + 2) (slice_index_or ls slot 0 ∷ st) ls) _ (GetL slot)
        (runs_at (GetL slot) (state p st ls) stands.0 (record { operands = omega arith; room = omega arith; word = tt })) refl (omega arith)
        (Follows.arrives 0 _ (values name) (ap (λ v. state (p + 2) (v ∷ st) ls) (sym (agrees.by name slot is))));
    deep = omega arith;
  }

  pub word_gives : (scope : List Local) (name : List ℕ) (variable : Words) → variable.first < count →
      Gives scope (LoadV variable.first ∷ []) 1 1 (λ values. chain (Course.ends (plain_aim name (Some variable))) (value_at values))
  word_gives scope name variable within = record {
    encodable = (tt, tt);
    by = λ p st ls values stands fits agrees.
        Follows.loads 1 0 (state p st ls) variable.first (λ value. state (p + 2) (value ∷ st) ls) _ (LoadV variable.first)
        (runs_at (LoadV variable.first) (state p st ls) stands.0 (record { operands = omega arith; room = omega arith; word = within })) refl (omega arith)
        (λ value. Follows.arrives 0 _ value refl);
    deep = omega arith;
  }

  pub unary_gives : (scope : List Local) (op : Op1) (code : List Instr) (depth cost : ℕ) (course : Locals → Course ℕ) → Gives scope code depth cost course →
      Gives scope (code ++ One op ∷ []) depth (cost + 1) (λ values. chain (course values) (λ a. Course.ends (unary_value op a)))
  unary_gives scope op code depth cost course h = record {
    encodable = encodable_both code (One op ∷ []) h.encodable (tt, tt);
    by = λ p st ls values stands fits agrees.
        let q = p + size code in
        let deep : 1 ≤ depth = h.deep in
        at_place (q + 1) (p + size (code ++ One op ∷ [])) (cost + 1) st ls _ _ (omega (arith, size-append code (One op ∷ [])))
        (then_follows words count (Pushed q st ls) (Pushed (q + 1) st ls) cost 1 (cost + 1) (state p st ls) (course values) (λ a. Course.ends (unary_value op a))
        (h.by p st ls values (stands_front words p code (One op ∷ []) stands) fits agrees) (omega arith)
        (λ a t is. subst (λ s. Follows words count (Pushed (q + 1) st ls) 1 s (Course.ends (unary_value op a))) (sym is)
        (Follows.goes 1 0 (state q (a ∷ st) ls) (state (q + 1) (unary_value op a ∷ st) ls) _ (One op)
        (runs_at (One op) (state q (a ∷ st) ls) (stands_back words p code (One op ∷ []) stands).0 (record { operands = omega arith; room = omega arith; word = tt }))
        refl (omega arith) (Follows.arrives 0 _ _ refl))));
    deep = h.deep;
  }

  pub item_gives : (scope : List Local) (name : List ℕ) (variable : Words) (code : List Instr) (depth cost : ℕ) (course : Locals → Course ℕ) →
      0 < count_of variable.length → variable.first + count_of variable.length ≤ count → Gives scope code depth cost course →
      Gives scope (code ++ LoadX variable.first (count_of variable.length) ∷ []) depth (cost + 1)
      (λ values. chain (chain (course values) (λ i. Course.ends (item_aim name i (Some variable)))) (value_at values))
  item_gives scope name variable code depth cost course some within h = record {
    encodable = encodable_both code (LoadX variable.first (count_of variable.length) ∷ []) h.encodable (some, tt);
    by = λ p st ls values stands fits agrees.
        let n = count_of variable.length in
        let load = LoadX variable.first n in
        let q = p + size code in
        let deep : 1 ≤ depth = h.deep in
        let aims = λ (i : ℕ). item_aim name i (Some variable) in
        at_place (q + 3) (p + size (code ++ load ∷ [])) (cost + 1) st ls _ _ (omega (arith, size-append code (load ∷ [])))
        (then_follows words count (Aimed aims q st ls) (Pushed (q + 3) st ls) cost 1 (cost + 1) (state p st ls) (chain (course values) (λ i. Course.ends (aims i))) (value_at values)
        (aims_follow aims p q cost st ls (course values) (h.by p st ls values (stands_front words p code (load ∷ []) stands) fits agrees)) (omega arith)
        (λ a t is. subst (λ z. Follows words count (Pushed (q + 3) st ls) 1 t (value_at values z)) (sym is.aim_is) (subst (λ s. Follows words count (Pushed (q + 3) st ls) 1 s (value_at values (aims is.index))) (sym is.state_is)
        (Follows.loads 1 0 (state q (is.index ∷ st) ls) (variable.first + remainder is.index n) (λ value. state (q + 3) (value ∷ st) ls) _ load
        (runs_at load (state q (is.index ∷ st) ls) (stands_back words p code (load ∷ []) stands).0
        (record { operands = omega arith; room = omega arith; word = (let below = remainder-below is.index n some in omega (arith, below)) }))
        refl (omega arith) (λ value. Follows.arrives 0 _ value refl)))));
    deep = h.deep;
  }

  pub binary_gives : (scope : List Local) (op : Op) (left right : List Instr) (depth d1 d2 c1 c2 : ℕ) (one other : Locals → Course ℕ) → d1 ≤ depth → 1 + d2 ≤ depth →
      Gives scope left d1 c1 one → Gives scope right d2 c2 other →
      Gives scope (left ++ (right ++ Two op ∷ [])) depth (c1 + c2 + 1)
      (λ values. chain (one values) (λ a. chain (other values) (λ b. Course.ends (operator_value op a b))))
  binary_gives scope op left right depth d1 d2 c1 c2 one other le1 le2 h k = record {
    encodable = encodable_both left (right ++ Two op ∷ []) h.encodable (encodable_both right (Two op ∷ []) k.encodable (tt, tt));
    by = λ p st ls values stands fits agrees.
        let q = p + size left in
        let r = q + size right in
        let back = stands_back words p left (right ++ Two op ∷ []) stands in
        let deep : 1 ≤ d2 = k.deep in
        at_place (r + 1) (p + size (left ++ (right ++ Two op ∷ []))) (c1 + c2 + 1) st ls _ _ (omega (arith, size-append left (right ++ Two op ∷ []), size-append right (Two op ∷ [])))
        (then_follows words count (Pushed q st ls) (Pushed (r + 1) st ls) c1 (c2 + 1) (c1 + c2 + 1) (state p st ls) (one values) (λ a. chain (other values) (λ b. Course.ends (operator_value op a b)))
        (h.by p st ls values (stands_front words p left (right ++ Two op ∷ []) stands) (omega (arith, fits, le1)) agrees) (omega arith)
        (λ a t is. subst (λ s. Follows words count (Pushed (r + 1) st ls) (c2 + 1) s (chain (other values) (λ b. Course.ends (operator_value op a b)))) (sym is)
        (then_follows words count (Pushed r (a ∷ st) ls) (Pushed (r + 1) st ls) c2 1 (c2 + 1) (state q (a ∷ st) ls) (other values) (λ b. Course.ends (operator_value op a b))
        (k.by q (a ∷ st) ls values (stands_front words q right (Two op ∷ []) back) (omega (arith, fits, le2)) agrees) (omega arith)
        (λ b t is. subst (λ s. Follows words count (Pushed (r + 1) st ls) 1 s (Course.ends (operator_value op a b))) (sym is)
        (Follows.goes 1 0 (state r (b ∷ a ∷ st) ls) (state (r + 1) (operator_value op a b ∷ st) ls) _ (Two op)
        (runs_at (Two op) (state r (b ∷ a ∷ st) ls) (stands_back words q right (Two op ∷ []) back).0 (record { operands = omega arith; room = omega arith; word = tt }))
        refl (omega arith) (Follows.arrives 0 _ _ refl))))));
    deep = omega (arith, h.deep, le1);
  }
