-- Tasks that make no reading. Such a task leads to one place alone, whatever the store holds, so
-- those that come round to a place go on for ever.
use Rattle.std.proofs.Common.{◌≡◌, ℕ, zero, suc, ◌+◌, ◌-◌, ◌≤◌, List, [], ◌++◌, refl, ap, subst, sym, ◌∙◌, arith, true, add-zero, length, length-append}
use Rattle.std.specs.Prelude.{Some, None}
use Rattle.std.proofs.lemmas.List.{nil_from_length}
use Rattle.coati_word.specs.declared.reading.Reading.{Reading}
use Rattle.task_syntax.specs.declared.program.Program.{Program}
use Rattle.task_syntax.specs.Course.{Course, Store, accesses, after, answer, put, readings}
use Rattle.task_syntax.specs.Units.{Reached, followed_by, is_inside, place_after, task_course, task_effect, tasks_effect, whole_effect}
use Rattle.serial_run.proofs.Reaching.{one-further}

-- a course without a reading ends alike on all stores
pub ends-alike : {A : Type 0} (course : Course A) (s t : Store) → readings (accesses course s) ≡ [] → answer course t ≡ answer course s
ends-alike (Course.ends result) s t none = refl
ends-alike (Course.reads word go_on) s t none = absurd (cc)
ends-alike (Course.writes word value rest) s t none = ends-alike rest (put word value s) (put word value t) none

-- nothing stands before a list that is the whole
pub nothing-before : (xs ys : List Reading) → xs ≡ ys ++ xs → ys ≡ []
nothing-before xs ys is = nil_from_length ys (let lengths = ap length is in omega (arith, lengths, length-append ys xs))

module _ (program : Program) (task : ℕ) where
  -- the task of a place inside leads to the other one, whatever the store holds
  pub record Leads (p q : ℕ) : Type 0 where
    pub inside : is_inside program task p ≡ true
    pub leads : (s : Store) → (task_effect program p s).place ≡ q

  -- a task or more do
  pub data Way : ℕ → ℕ → Type 0 where
    one : (p q : ℕ) → Leads p q → Way p q
    further : (p q r : ℕ) → Leads p q → Way q r → Way p r

pub leads-on : (program : Program) (task p q : ℕ) (store : Store) → is_inside program task p ≡ true → readings (task_effect program p store).done ≡ [] → q ≡ (task_effect program p store).place →
    Leads program task p q
leads-on program task p q store inside none is = record {
  inside = inside;
  leads = λ (s : Store). ap place_after (ends-alike (task_course program p) store s none) ∙ sym is;
}

pub way-on : (program : Program) (task p q r : ℕ) → Way program task p q → Leads program task q r → Way program task p r
way-on program task p q r (Way.one _ _ first) last = Way.further p q r first (Way.one q r last)
way-on program task p q r (Way.further _ m _ first rest) last = Way.further p m r first (way-on program task m q r rest last)

-- where a way to a place goes first
record Step (program : Program) (task p r : ℕ) : Type 0 where
  next : ℕ
  leads : Leads program task p next
  way : Way program task next r

step-of : (program : Program) (task p r : ℕ) → Way program task r r → Way program task p r → Step program task p r
step-of program task p r round (Way.one _ _ first) = record { next = r; leads = first; way = round }
step-of program task p r round (Way.further _ q _ first rest) = record { next = q; leads = first; way = rest }

module _ (program : Program) (task : ℕ) (store : Store) (r : ℕ) (round : Way program task r r) where
  -- so many tasks lead to the way
  pub record IsOnWay (count : ℕ) : Type 0 where
    pub reached : Reached
    pub tasks : tasks_effect program task store count ≡ Some reached
    pub way : Way program task reached.place r

  goes-on : (count : ℕ) → IsOnWay count → IsOnWay (count + 1)
  goes-on count on =
      let step = step-of program task on.reached.place r round on.way in
      let last = task_effect program on.reached.place (after on.reached.done store) in
      record {
        reached = followed_by on.reached last;
        tasks = one-further program task store count on.reached on.tasks step.leads.inside;
        way = subst (λ (p : ℕ). Way program task p r) (sym (step.leads.leads (after on.reached.done store))) step.way;
      }

  stays : (count more : ℕ) → IsOnWay count → IsOnWay (count + more)
  stays count zero on = rw add-zero on
  stays count (suc more) on = let next = goes-on (count + more) (stays count more on) in subst (λ (n : ℕ). IsOnWay n) (let is : (count + more) + 1 ≡ count + suc more = omega arith in is) next

  -- a unit that has come round is never whole
  pub never-whole : (count later : ℕ) (reached whole : Reached) → count ≤ later → tasks_effect program task store count ≡ Some reached → reached.place ≡ r → whole_effect program task store later ≡ Some whole → ⊥
  never-whole count later reached whole le found at is =
      let begun : IsOnWay count = record { reached = reached; tasks = found; way = subst (λ (p : ℕ). Way program task p r) (sym at) round } in
      let sum : count + (later - count) ≡ later = omega arith in
      let there : IsOnWay later = subst (λ (n : ℕ). IsOnWay n) sum (stays count (later - count) begun) in
      let inside = (step-of program task there.reached.place r round there.way).leads.inside in
      let never : None ≡ Some whole = rw (there.tasks, inside) at is in
      absurd (cc)
