-- Serial runs without events agree: each record is decided by where those before it lead.
use Rattle.std.proofs.Common.{◌≡◌, ◌∙◌, ℕ, suc, ◌+◌, ◌==◌, List, [], ◌∷◌, map, refl, ap, sym, subst, arith, inl, inr, Option, Some, None}
use Rattle.std.specs.Prelude.{slice_get, option_and_then}
use Rattle.std.proofs.lemmas.Bool.{cases_Bool}
use Rattle.std.proofs.lemmas.Bool.Decides.{nat_tests}
use Rattle.task_syntax.specs.declared.program.Program.{Program}
use Rattle.task_syntax.specs.Course.{Store, readings}
use Rattle.task_syntax.specs.Units.{Reached, IsWhole, memberships, first_from, first_task, transaction_of, is_inside, task_effect, tasks_effect, unless_inside, whole_effect}
use Rattle.task_syntax.specs.ProgramLaws.{UnitsAreWholeOnce}
use Rattle.serial_log.specs.declared.held.Held.{Held}
use Rattle.serial_log.specs.declared.unit.Unit.{Unit as Committed}
use Rattle.serial_log.specs.declared.unit.Unit.TheVariants.{Task, Transaction, Event}
use Rattle.serial_log.specs.Marks.{Entry}
use Rattle.serial_log.specs.SerialRun.{Stand, behind_tasks, behind_unit, behind_record, IsUnitNext, AreSerial}
use Rattle.serial_log.specs.Progresses.{IsOfTasks}
use Rattle.serial_log.specs.Laws.{Told, told_of, HaveNoEvent, Agree}

-- a place that is found stands so far behind the first one, and is in that transaction
record IsFound (tx from place : ℕ) (members : List (Option ℕ)) : Type 0 where
  pub steps : ℕ
  pub place_is : place ≡ from + steps
  pub member : slice_get members steps ≡ Some (Some tx)

found_next : (tx from place : ℕ) (member : Option ℕ) (more : List (Option ℕ)) → IsFound tx (from + 1) place more → IsFound tx from place (member ∷ more)
found_next tx from place member more f = record { steps = suc f.steps; place_is = omega (arith, f.place_is); member = f.member }

found : (tx from place : ℕ) (members : List (Option ℕ)) → first_from tx from members ≡ Some place → IsFound tx from place members
found tx from place [] is = absurd (let none : None ≡ Some place = is in cc)
found tx from place (None ∷ more) is = found_next tx from place None more (found tx (from + 1) place more is)
found tx from place (Some x ∷ more) is =
    elim (cases_Bool (x == tx)) [
      | inl same ↦
          let here : Some from ≡ Some place = rw same at is in
          let at : from ≡ place = cc in
          let own : x ≡ tx = grind (arith, nat_tests) in
          record { steps = 0; place_is = omega (arith, at); member = ap (λ (n : ℕ). Some (Some n)) own }
      | inr other ↦
          let later : first_from tx (from + 1) more ≡ Some place = rw other at is in
          found_next tx from place (Some x) more (found tx (from + 1) place more later)
    ]

-- the first task of a transaction is a member of it
member_of_first : (program : Program) (tx place : ℕ) → first_task program tx ≡ Some place → transaction_of program place ≡ Some tx
member_of_first program tx place is =
    let f = found tx 0 place (memberships 0 program.units) is in
    let same : f.steps ≡ place = omega (arith, f.place_is) in
    let member : slice_get (memberships 0 program.units) place ≡ Some (Some tx) = subst (λ (n : ℕ). slice_get (memberships 0 program.units) n ≡ Some (Some tx)) same f.member in
    rw member refl

whole_of : (program : Program) (task : ℕ) (store : Store) (count : ℕ) (reached : Reached) (some : Option Reached) → tasks_effect program task store count ≡ some →
    option_and_then (unless_inside program task) some ≡ Some reached → IsWhole program task store count
whole_of program task store count reached None was is = absurd (let none : None ≡ Some reached = is in cc)
whole_of program task store count reached (Some last) was is =
    elim (cases_Bool (is_inside program task last.place)) [
      | inl inside ↦ absurd (let none : None ≡ Some reached = rw inside at is in cc)
      | inr outside ↦ record { reached = last; tasks = was; ended = outside }
    ]

is_whole : (program : Program) (task : ℕ) (store : Store) (count : ℕ) (reached : Reached) → whole_effect program task store count ≡ Some reached → IsWhole program task store count
is_whole program task store count reached is = whole_of program task store count reached (tasks_effect program task store count) refl is

module _ (program : Program) (whole_once : UnitsAreWholeOnce) (accepted others : List Held) where
  -- two records that are next tell the same, and lead to the same
  record TellAlike (stand : Stand) (e f : Entry) (u v : Committed) : Type 0 where
    pub unit : u ≡ v
    pub tasks : e.committed.tasks ≡ f.committed.tasks
    pub reads : e.reads ≡ f.reads
    pub leads : behind_unit program accepted stand e.committed u ≡ behind_unit program others stand f.committed v

  alike : (stand : Stand) (e f : Entry) (u v : Committed) → IsOfTasks u → IsOfTasks v →
      IsUnitNext program accepted stand e u → IsUnitNext program others stand f v → TellAlike stand e f u v
  alike stand e f (Task t) (Task t') of_tasks of_tasks' n m =
      let same : t ≡ t' = sym n.place ∙ m.place in
      record {
        unit = ap Task same;
        tasks = n.one_task ∙ sym m.one_task;
        reads = n.reads ∙ ap (λ (k : ℕ). readings (task_effect program k stand.store).done) same ∙ sym m.reads;
        leads = ap (λ (k : ℕ). behind_tasks stand (task_effect program k stand.store)) same;
      }
  alike stand e f (Task t) (Transaction x) of_tasks of_tasks' n m =
      let member = member_of_first program x stand.place m.place in
      absurd (let clash : Some x ≡ None = sym member ∙ ap (λ (k : ℕ). transaction_of program k) n.place ∙ n.lone.alone in cc)
  alike stand e f (Transaction x) (Task t) of_tasks of_tasks' n m =
      let member = member_of_first program x stand.place n.place in
      absurd (let clash : Some x ≡ None = sym member ∙ ap (λ (k : ℕ). transaction_of program k) m.place ∙ m.lone.alone in cc)
  alike stand e f (Transaction x) (Transaction y) of_tasks of_tasks' n m =
      let first = member_of_first program x stand.place n.place in
      let second = member_of_first program y stand.place m.place in
      let same : x ≡ y = cc in
      let count : e.committed.tasks ≡ f.committed.tasks = whole_once program stand.place stand.store e.committed.tasks f.committed.tasks
      (is_whole program stand.place stand.store e.committed.tasks n.reached n.whole) (is_whole program stand.place stand.store f.committed.tasks m.reached m.whole) in
      let did : Some n.reached ≡ Some m.reached = sym n.whole ∙ ap (λ (k : ℕ). whole_effect program stand.place stand.store k) count ∙ m.whole in
      let reached : n.reached ≡ m.reached = cc in
      record {
        unit = ap Transaction same;
        tasks = count;
        reads = n.reads ∙ ap (λ (r : Reached). readings r.done) reached ∙ sym m.reads;
        leads = rw (n.whole, m.whole) (ap (λ (r : Reached). behind_tasks stand r) reached);
      }
  alike stand e f (Event v) u of_tasks of_tasks' n m = absurd of_tasks
  alike stand e f (Task t) (Event v) of_tasks of_tasks' n m = absurd of_tasks'
  alike stand e f (Transaction x) (Event v) of_tasks of_tasks' n m = absurd of_tasks'

  pub runs_agree : (stand : Stand) (xs ys : List Entry) → HaveNoEvent xs → HaveNoEvent ys →
      AreSerial program accepted stand xs → AreSerial program others stand ys → Agree (map told_of xs) (map told_of ys)
  runs_agree stand [] ys no_event no_other first second = inl (map told_of ys, refl)
  runs_agree stand (x ∷ xs) [] no_event no_other first second = inr (map told_of (x ∷ xs), refl)
  runs_agree stand (x ∷ xs) (y ∷ ys) no_event no_other first second =
      let same = alike stand x y x.committed.unit y.committed.unit no_event.0 no_other.0 first.0 second.0 in
      let told : told_of x ≡ told_of y = rw (same.unit, same.tasks, same.reads) refl in
      let next = behind_record program others stand y.committed in
      let there : AreSerial program accepted next xs = subst (λ (s : Stand). AreSerial program accepted s xs) same.leads first.1 in
      elim (runs_agree next xs ys no_event.1 no_other.1 there second.1) [
        | inl (rest, is) ↦ inl (rest, rw told (ap (λ (es : List Told). told_of y ∷ es) is))
        | inr (rest, is) ↦ inr (rest, rw (← told) (ap (λ (es : List Told). told_of x ∷ es) is))
      ]
