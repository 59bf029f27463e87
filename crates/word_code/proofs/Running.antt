-- Runs of a body that computes a course.
use Rattle.std.proofs.Common.{◌≡◌, ℕ, ◌+◌, ◌≤◌, List, [], ◌∷◌, ◌++◌, append_assoc, append-nil, arith, refl, sym, ap, subst, ◌∙◌}
use Rattle.std.specs.Prelude.{Option, Some, None, is_some}
use Rattle.std.proofs.lemmas.Bool.{true≢false}
use Rattle.coati_word.specs.declared.ending.Ending.{Ending}
use Rattle.task_syntax.specs.Course.{Course, Store, put, Access, accesses, answer, after}
use Rattle.word_code.specs.declared.instruction.Instr.{Instr}
use Rattle.word_code.specs.declared.instruction.Instr.TheVariants.{StoreV, StoreX}
use Rattle.word_code.specs.Machine.{State, Move, move_of, StartsAt, steps, start}
use Rattle.word_code.specs.Following.{Follows, EndsWith, Computes}
use Rattle.word_code.specs.Running.{Machine, moved, Reaches, Log, logged, giving, taken}
use Rattle.word_code.specs.FollowingLaws.{HasEffect, IsNotStuck, FollowsToTheEnd, FollowsAfter, GoesOn, started}
use Rattle.word_code.proofs.Following.{goes_on_from}

-- what a run on a store does from a state on
record RunsOut (words : List ℕ) (count limit : ℕ) (s : State) (course : Course Ending) (store : Store) (before : List Access) : Type 0 where
  spent : ℕ
  last : Machine Log
  reached : Reaches logged words spent (record { state = s; memory = record { store = store; done = before } }) last
  in_time : spent ≤ limit
  ended : EndsWith words count (answer course store) last.state
  done : last.memory.done ≡ before ++ accesses course store
  store_is : last.memory.store ≡ after (accesses course store) store

runs_out : (words : List ℕ) (count limit : ℕ) (s : State) (course : Course Ending) → FollowsToTheEnd words count limit s course →
    (store : Store) (before : List Access) → RunsOut words count limit s course store before
runs_out words count limit s course (Follows.arrives _ _ result arrived) store before =
    record {
      spent = 0;
      last = record { state = s; memory = record { store = store; done = before } };
      reached = Reaches.stays _;
      in_time = omega arith;
      ended = arrived;
      done = sym (append-nil before);
      store_is = refl;
    }
runs_out words count limit s course (Follows.goes _ left _ next _ instr runs move in_time rest) store before =
    let more = runs_out words count left next course rest store before in
    record {
      spent = steps instr + more.spent;
      last = more.last;
      reached = Reaches.steps_on more.spent _ _ more.last instr runs.starts (ap (λ m. moved logged m (record { store = store; done = before })) move) more.reached;
      in_time = omega (arith, in_time, more.in_time);
      ended = more.ended;
      done = more.done;
      store_is = more.store_is;
    }
runs_out words count limit s course (Follows.loads _ left _ word next go_on instr runs move in_time rest) store before =
    let value = store word in
    let more = runs_out words count left (next value) (go_on value) (rest value) store (before ++ Access.read word value ∷ []) in
    record {
      spent = steps instr + more.spent;
      last = more.last;
      reached = Reaches.steps_on more.spent _ _ more.last instr runs.starts (ap (λ m. moved logged m (record { store = store; done = before })) move) more.reached;
      in_time = omega (arith, in_time, more.in_time);
      ended = more.ended;
      done = more.done ∙ append_assoc before (Access.read word value ∷ []) (accesses (go_on value) store);
      store_is = more.store_is;
    }
runs_out words count limit s course (Follows.stores _ left _ word value next rest_of instr runs move in_time rest) store before =
    let more = runs_out words count left next rest_of rest (put word value store) (before ++ Access.wrote word value ∷ []) in
    record {
      spent = steps instr + more.spent;
      last = more.last;
      reached = Reaches.steps_on more.spent _ _ more.last instr runs.starts (ap (λ m. moved logged m (record { store = store; done = before })) move) more.reached;
      in_time = omega (arith, in_time, more.in_time);
      ended = more.ended;
      done = more.done ∙ append_assoc before (Access.wrote word value ∷ []) (accesses rest_of (put word value store));
      store_is = more.store_is;
    }

pub has_effect : (words : List ℕ) (count cost : ℕ) (params : List ℕ) (course : Course Ending) → Computes words count cost params course →
    (store : Store) → HasEffect words count cost params course store
has_effect words count cost params course computes store =
    let out = runs_out words count computes.limit (start params) course computes.follows store [] in
    record {
      spent = out.spent;
      last = out.last;
      reached = out.reached;
      in_time = omega (arith, out.in_time, computes.in_time);
      ended = out.ended;
      done = out.done;
      store_is = out.store_is;
    }

-- the instruction of what was decoded
abbrev pub found_in : Instr → Option (Instr × ℕ) → Instr
found_in other None = other
found_in other (Some found) = found.0

-- at most one instruction starts at a place
pub one_starts : (words : List ℕ) (first second : Instr) (s : State) → StartsAt words first s → StartsAt words second s → first ≡ second
one_starts words first second s one other = ap (found_in first) (sym one ∙ other)

-- the state that was come to
abbrev state_in : State → Option (Machine (List ℕ)) → State
state_in other None = other
state_in other (Some next) = next.state

-- where a move leads the course goes on
goes_on_there : (words : List ℕ) (count spent limit : ℕ) (move : Move) (course : Course Ending) (values : List ℕ) (next : Machine (List ℕ)) →
    GoesOn words count spent limit move course → moved giving move values ≡ Some next →
    (more : Course Ending) × FollowsAfter words count spent limit next.state more
goes_on_there words count spent limit (Move.goes to) course values next goes_on led =
    (course, subst (λ s. FollowsAfter words count spent limit s course) (ap (state_in to) led) goes_on)
goes_on_there words count spent limit (Move.loads word to) course values next goes_on led =
    (goes_on.0 (taken values).0, subst (λ s. FollowsAfter words count spent limit s (goes_on.0 (taken values).0)) (ap (state_in (to 0)) led) (goes_on.2 (taken values).0))
goes_on_there words count spent limit (Move.stores word value to) course values next goes_on led =
    (goes_on.0, subst (λ s. FollowsAfter words count spent limit s goes_on.0) (ap (state_in to) led) goes_on.2)
goes_on_there words count spent limit (Move.ends ending) course values next goes_on led = absurd (true≢false (sym (ap is_some led)))

-- there is time for the instruction, the last one included
has_time : (words : List ℕ) (count limit : ℕ) (instr : Instr) (s : State) (course : Course Ending) →
    GoesOn words count (steps instr) limit (move_of instr s) course → steps instr ≤ limit + 1
has_time words count limit (StoreV a) s course goes_on = let fits = goes_on.2.1 in omega (arith, fits)
has_time words count limit (StoreX a n) s course goes_on = let fits = goes_on.2.1 in omega (arith, fits)
has_time words count limit _ s course goes_on = omega arith

not_stuck : (words : List ℕ) (count cost before limit spent : ℕ) (course : Course Ending) (from at : Machine (List ℕ)) → Reaches giving words spent from at →
    FollowsToTheEnd words count limit from.state course → before + limit + 1 ≤ cost → IsNotStuck words count cost (before + spent) at.state
not_stuck words count cost before limit spent course from at (Reaches.stays _) follows fits =
    let here = goes_on_from words count limit at.state course follows in
    record { instr = here.instr; runs = here.runs; in_time = let time = has_time words count limit here.instr at.state course here.goes_on in omega (arith, time, fits) }
not_stuck words count cost before limit spent course from at (Reaches.steps_on more _ next _ instr starts led reached) follows fits =
    let here = goes_on_from words count limit from.state course follows in
    let same : here.instr ≡ instr = one_starts words here.instr instr from.state here.runs.starts starts in
    let goes_on = subst (λ i. GoesOn words count (steps i) limit (move_of i from.state) course) same here.goes_on in
    let there = goes_on_there words count (steps instr) limit (move_of instr from.state) course from.memory next goes_on led in
    let left = there.1.0 in
    let in_time = there.1.1 in
    let end : before + steps instr + left + 1 ≤ cost = omega (arith, in_time, fits) in
    let rest = not_stuck words count cost (before + steps instr) left more there.0 next at reached there.1.2 end in
    let sums : before + steps instr + more ≡ before + (steps instr + more) = omega arith in
    subst (λ n. IsNotStuck words count cost n at.state) sums rest

pub never_stuck : (words : List ℕ) (count cost : ℕ) (params : List ℕ) (course : Course Ending) → Computes words count cost params course →
    (values : List ℕ) (spent : ℕ) (at : Machine (List ℕ)) → Reaches giving words spent (started params values) at → IsNotStuck words count cost spent at.state
never_stuck words count cost params course computes values spent at reached =
    let same : 0 + spent ≡ spent = omega arith in
    let fits : 0 + computes.limit + 1 ≤ cost = omega (arith, computes.in_time) in
    subst (λ n. IsNotStuck words count cost n at.state) same
    (not_stuck words count cost 0 computes.limit spent course (started params values) at reached computes.follows fits)
