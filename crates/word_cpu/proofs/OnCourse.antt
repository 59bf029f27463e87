-- A machine that is on a course can step, and its step goes along the course.
use Rattle.std.proofs.Common.{◌≡◌, ◌≢◌, ℕ, ◌+◌, ◌-◌, ◌≤◌, ◌<◌, ◌==◌, List, [], ◌∷◌, Bool, true, false, length, refl, sym, ap, subst, ◌∙◌, arith, length-set, get_or-set_same, get_or-set_other}
use Rattle.std.specs.Prelude.{Some, None, slice_index, slice_set, if◌then◌else◌}
use Rattle.std.proofs.lemmas.Bool.Decides.{nat_tests}
use Rattle.coati_word.specs.declared.ending.Ending.{Ending}
use Rattle.task_syntax.specs.declared.body.BodyId.{BodyId}
use Rattle.task_syntax.specs.Course.{Course, Store, put, Access, after, readings}
use Rattle.task_syntax.specs.UnderWay.{HasReached}
use Rattle.word_code.specs.declared.instruction.Instr.{Instr}
use Rattle.word_code.specs.declared.instruction.Instr.TheVariants.{Push, GetL, SetL, LoadV, StoreV, LoadX, StoreX, Jump, JumpZ, Next, Halt, Done, Give, Two, One}
use Rattle.word_code.specs.Code.{Bodies, body_words}
use Rattle.word_code.specs.Machine.{State, Move, move_of, steps, StartsAt, IsWithin}
use Rattle.word_code.specs.FollowingLaws.{FollowsToTheEnd, FollowsAfter, GoesOn, GoesOnFrom, FollowingGoesOn}
use Rattle.word_cpu.specs.Meaning.{Meaning}
use Rattle.word_cpu.specs.declared.cpu.Cpu.{Cpu}
use Rattle.word_cpu.specs.declared.turn.Turn.{Turn}
use Rattle.word_cpu.specs.declared.turn.Turn.TheVariants.{Went, Storing, Ended}
use Rattle.word_cpu.specs.Turning.{CanStep, IsBegun, IsStep, Makes, state_of}
use Rattle.word_cpu.specs.OnCourse.{IsOnCourse, GoesAlong, Touches, WentAlong, done_by, read_by}
use Rattle.word_cpu.proofs.Begun.{for_the_move, not_above_0}

-- the machine steps of a move
abbrev steps_of : Move → ℕ
steps_of (Move.goes next) = 1
steps_of (Move.loads word next) = 1
steps_of (Move.stores word value next) = 3
steps_of (Move.ends ending) = 1

steps_are : (instr : Instr) (s : State) → steps instr ≡ steps_of (move_of instr s)
steps_are (Push k) s = refl
steps_are (GetL i) s = refl
steps_are (SetL i) s = refl
steps_are (LoadV a) s = refl
steps_are (StoreV a) s = refl
steps_are (LoadX a n) s = refl
steps_are (StoreX a n) s = refl
steps_are (Jump t) s = refl
steps_are (JumpZ t) s = refl
steps_are (Next t) s = refl
steps_are Halt s = refl
steps_are Done s = refl
steps_are (Give n) s = refl
steps_are (Two op) s = refl
steps_are (One op) s = refl

-- these accesses lead along a course from one store to another, and this is left of it
record Led (course : Course Ending) (old : Store) (done : List Access) (rest : Course Ending) (new : Store) : Type 0 where
  come : HasReached course old done rest
  sees : new ≡ after done old

-- nothing was done
led_nowhere : (course : Course Ending) (old new : List ℕ) → new ≡ old → Led course (slice_index old) [] course (slice_index new)
led_nowhere course old new same = record { come = HasReached.starts course (slice_index old); sees = ap slice_index same }

-- a word was read
led_behind_a_read : (word : ℕ) (go_on : ℕ → Course Ending) (course : Course Ending) (old new : List ℕ) → course ≡ Course.reads word go_on → new ≡ old →
    Led course (slice_index old) (Access.read word (slice_index old word) ∷ []) (go_on (slice_index old word)) (slice_index new)
led_behind_a_read word go_on course old new is same =
    let store = slice_index old in
    let value = store word in
    record {
      come =
          subst (λ (c : Course Ending). HasReached c store (Access.read word value ∷ []) (go_on value)) (sym is)
          (HasReached.reads word go_on store [] (go_on value) (HasReached.starts (go_on value) store));
      sees = ap slice_index same;
    }

pointwise : (one other : Store) → ((word : ℕ) → one word ≡ other word) → one ≡ other
pointwise one other same = λ i. λ word. same word i

-- a list with one word changed is the store with it changed
set_at : (words : List ℕ) (word value other : ℕ) (is : Bool) → other == word ≡ is → word < length words →
    slice_index (slice_set words word value) other ≡ (if is then value else slice_index words other)
set_at words word value other true is inside =
    let same : other ≡ word = grind (arith, nat_tests) in
    ap (slice_index (slice_set words word value)) same ∙ get_or-set_same words word value 0 inside
set_at words word value other false is inside =
    let differs : other ≢ word = grind (arith, nat_tests) in
    get_or-set_other words word other value 0 differs

set_is_put : (words : List ℕ) (word value : ℕ) → word < length words → slice_index (slice_set words word value) ≡ put word value (slice_index words)
set_is_put words word value inside =
    pointwise (slice_index (slice_set words word value)) (put word value (slice_index words)) (λ other. set_at words word value other (other == word) refl inside)

-- a word was written
led_behind_a_write : (word value : ℕ) (rest course : Course Ending) (old new : List ℕ) → word < length old → course ≡ Course.writes word value rest →
    new ≡ slice_set old word value → Led course (slice_index old) (Access.wrote word value ∷ []) rest (slice_index new)
led_behind_a_write word value rest course old new inside is same =
    let store = slice_index old in
    record {
      come =
          subst (λ (c : Course Ending). HasReached c store (Access.wrote word value ∷ []) rest) (sym is)
          (HasReached.writes word value rest store [] rest (HasReached.starts rest (put word value store)));
      sees = ap slice_index same ∙ set_is_put old word value inside;
    }

module _ {V : Type 0} (meaning : Meaning V) where
  pub can_step : FollowingGoesOn → (code : Bodies) (cpu : Cpu) (view : V) (left : ℕ) (course : Course Ending) →
      IsOnCourse code cpu (length (meaning.words view)) left (meaning.begun view) course → CanStep code cpu (length (meaning.words view))
  can_step law code cpu view left course on =
      let here = law (body_words code cpu.body) (length (meaning.words view)) on.limit (state_of cpu) course on.follows in
      (here.instr, here.runs)

  module _ (before after : Cpu) (old new : V) where
    -- what a step read is what it answers
    pub reads_are : (turn : Turn) (move : Move) → Makes meaning before after old new turn move → readings (done_by turn move) ≡ read_by turn
    reads_are turn (Move.goes next) made = ap read_by (sym made.answer)
    reads_are turn (Move.loads word next) made =
        subst (λ (t : Turn). readings (done_by t (Move.loads word next)) ≡ read_by t) (sym made.answer) refl
    reads_are (Went None) (Move.stores word value next) made = refl
    reads_are (Went (Some reading)) (Move.stores word value next) made = absurd made
    reads_are Storing (Move.stores word value next) made = refl
    reads_are (Ended ending) (Move.stores word value next) made = absurd made
    reads_are turn (Move.ends ending) made = ap read_by (sym made.answer)

  module _ (code : Bodies) (before next_cpu : Cpu) (old new : V) where
    -- what the code of the body has from a state on
    abbrev FollowsFrom : ℕ → State → Course Ending → Type 0
    FollowsFrom limit s course = FollowsToTheEnd (body_words code before.body) (length (meaning.words old)) limit s course

    -- what a step leaves that made a move, or a part of it
    record Leaves (left : ℕ) (course : Course Ending) (turn : Turn) (move : Move) : Type 0 where
      rest : Course Ending
      remaining : ℕ
      limit : ℕ
      in_time : remaining + 1 ≤ left
      follows : FollowsFrom limit (state_of next_cpu) rest
      fits : limit ≤ remaining + next_cpu.part
      few_parts : next_cpu.part < 3
      led : Led course (slice_index (meaning.words old)) (done_by turn move) rest (slice_index (meaning.words new))
      count : length (meaning.words new) ≡ length (meaning.words old)
      touches : Touches meaning before.part old new (done_by turn move)

    -- it leaves this, or it ended the body
    abbrev MakesItsWay : ℕ → Course Ending → Turn → Move → Type 0
    MakesItsWay left course (Went reading) move = Leaves left course (Went reading) move
    MakesItsWay left course Storing move = Leaves left course Storing move
    MakesItsWay left course (Ended ending) move = (course ≡ Course.ends ending) × (new ≡ old)

    -- a step that went on to a state
    leaves : (spent limit left : ℕ) (course rest : Course Ending) (turn : Turn) (move : Move) (next : State) →
        FollowsAfter (body_words code before.body) (length (meaning.words old)) spent limit next rest → before.part < spent → limit ≤ left + before.part →
        state_of next_cpu ≡ next → next_cpu.part ≡ 0 → Led course (slice_index (meaning.words old)) (done_by turn move) rest (slice_index (meaning.words new)) →
        length (meaning.words new) ≡ length (meaning.words old) → Touches meaning before.part old new (done_by turn move) → Leaves left course turn move
    leaves spent limit left course rest turn move next follows soon fits is part led count touches = record {
      rest = rest;
      remaining = follows.0;
      limit = follows.0;
      in_time = let time = follows.1 in omega (arith, time, soon, fits);
      follows = subst (λ (s : State). FollowsFrom follows.0 s rest) (sym is) follows.2;
      fits = omega arith;
      few_parts = omega (arith, part);
      led = led;
      count = count;
      touches = touches;
    }

    makes_its_way : (limit left : ℕ) (course : Course Ending) (turn : Turn) (move : Move) → limit ≤ left + before.part → before.part < 3 →
        FollowsFrom limit (state_of before) course → IsWithin (length (meaning.words old)) move →
        GoesOn (body_words code before.body) (length (meaning.words old)) (steps_of move) limit move course → IsBegun (meaning.begun old) before.part move →
        Makes meaning before next_cpu old new turn move → MakesItsWay left course turn move
    makes_its_way limit left course turn (Move.goes next) fits few follows within goes_on is_begun made =
        let none : before.part ≡ 0 = not_above_0 is_begun in
        let here : Leaves left course (Went None) (Move.goes next) =
        leaves 1 limit left course course (Went None) (Move.goes next) next goes_on (omega (arith, none)) fits made.state made.part
        (led_nowhere course (meaning.words old) (meaning.words new) (ap meaning.words made.view)) (ap (λ (v : V). length (meaning.words v)) made.view)
        (Touches.leaves made.view) in
        subst (λ (t : Turn). MakesItsWay left course t (Move.goes next)) (sym made.answer) here
    makes_its_way limit left course turn (Move.loads word next) fits few follows within goes_on is_begun made =
        let none : before.part ≡ 0 = not_above_0 is_begun in
        let value = slice_index (meaning.words old) word in
        let read : Turn = Went (Some (record { word = word; value = value })) in
        let here : Leaves left course read (Move.loads word next) =
        leaves 1 limit left course (goes_on.0 value) read (Move.loads word next) (next value) (goes_on.2 value) (omega (arith, none)) fits made.state made.part
        (led_behind_a_read word goes_on.0 course (meaning.words old) (meaning.words new) goes_on.1 made.words_stay) (ap length made.words_stay)
        (Touches.loads word made.view) in
        subst (λ (t : Turn). MakesItsWay left course t (Move.loads word next)) (sym made.answer) here
    makes_its_way limit left course (Went None) (Move.stores word value next) fits few follows within goes_on is_begun made =
        leaves 3 limit left course goes_on.0 (Went None) (Move.stores word value next) next goes_on.2 few fits made.state made.part
        (led_behind_a_write word value goes_on.0 course (meaning.words old) (meaning.words new) within goes_on.1 made.words_are)
        (ap length made.words_are ∙ length-set (meaning.words old) word value)
        (Touches.stores word value is_begun made.view)
    makes_its_way limit left course (Went (Some reading)) (Move.stores word value next) fits few follows within goes_on is_begun made = absurd made
    makes_its_way limit left course Storing (Move.stores word value next) fits few follows within goes_on is_begun made =
        let time = goes_on.2.1 in
        record {
          rest = course;
          remaining = left - 1;
          limit = limit;
          in_time = omega (arith, time, fits, made.few);
          follows = subst (λ (s : State). FollowsFrom limit s course) (sym made.state) follows;
          fits = omega (arith, time, fits, made.few, made.part);
          few_parts = omega (arith, made.few, made.part);
          led = led_nowhere course (meaning.words old) (meaning.words new) made.words_stay;
          count = ap length made.words_stay;
          touches = Touches.prepares word value is_begun made.few made.view made.words_stay;
        }
    makes_its_way limit left course (Ended ending) (Move.stores word value next) fits few follows within goes_on is_begun made = absurd made
    makes_its_way limit left course turn (Move.ends ending) fits few follows within goes_on is_begun made =
        subst (λ (t : Turn). MakesItsWay left course t (Move.ends ending)) (sym made.answer) (goes_on, made.view)

  went_along : (code : Bodies) (before next_cpu : Cpu) (old new : V) (turn : Turn) (left : ℕ) (course : Course Ending) (instr : Instr) →
      StartsAt (body_words code before.body) instr (state_of before) → IsStep meaning code before next_cpu old new turn →
      Leaves code before next_cpu old new left course turn (move_of instr (state_of before)) → WentAlong meaning code left course before next_cpu old new turn
  went_along code before next_cpu old new turn left course instr starts step here = record {
    done = done_by turn (move_of instr (state_of before));
    rest = here.rest;
    remaining = here.remaining;
    in_time = here.in_time;
    done_is = for_the_move code before instr (λ move. done_by turn move ≡ done_by turn (move_of instr (state_of before))) starts refl;
    reads = reads_are before next_cpu old new turn (move_of instr (state_of before)) (step.makes instr starts);
    come = here.led.come;
    sees = here.led.sees;
    count = here.count;
    touches = here.touches;
    on_course = record {
      limit = here.limit;
      follows =
          subst (λ (b : BodyId). FollowsToTheEnd (body_words code b) (length (meaning.words new)) here.limit (state_of next_cpu) here.rest) (sym step.body)
          (subst (λ (n : ℕ). FollowsToTheEnd (body_words code before.body) n here.limit (state_of next_cpu) here.rest) (sym here.count) here.follows);
      in_time = here.fits;
      few_parts = here.few_parts;
      is_begun = step.is_begun;
    };
  }

  goes_along : (code : Bodies) (before next_cpu : Cpu) (old new : V) (turn : Turn) (left : ℕ) (course : Course Ending) (instr : Instr) →
      StartsAt (body_words code before.body) instr (state_of before) → IsStep meaning code before next_cpu old new turn →
      MakesItsWay code before next_cpu old new left course turn (move_of instr (state_of before)) →
      GoesAlong meaning code left course before next_cpu old new turn
  goes_along code before next_cpu old new (Went reading) left course instr starts step here = went_along code before next_cpu old new (Went reading) left course instr starts step here
  goes_along code before next_cpu old new Storing left course instr starts step here = went_along code before next_cpu old new Storing left course instr starts step here
  goes_along code before next_cpu old new (Ended ending) left course instr starts step here = here

  pub steps_along : FollowingGoesOn → (code : Bodies) (before next_cpu : Cpu) (old new : V) (turn : Turn) (left : ℕ) (course : Course Ending) →
      IsOnCourse code before (length (meaning.words old)) left (meaning.begun old) course → IsStep meaning code before next_cpu old new turn →
      GoesAlong meaning code left course before next_cpu old new turn
  steps_along law code before next_cpu old new turn left course on step =
      let here : GoesOnFrom (body_words code before.body) (length (meaning.words old)) on.limit (state_of before) course =
      law (body_words code before.body) (length (meaning.words old)) on.limit (state_of before) course on.follows in
      let goes_on = subst (λ (n : ℕ). GoesOn (body_words code before.body) (length (meaning.words old)) n on.limit (move_of here.instr (state_of before)) course) (steps_are here.instr (state_of before)) here.goes_on in
      goes_along code before next_cpu old new turn left course here.instr here.runs.starts step
      (makes_its_way code before next_cpu old new on.limit left course turn (move_of here.instr (state_of before)) on.in_time on.few_parts on.follows
      here.runs.can_run.word goes_on (on.is_begun here.instr here.runs.starts) (step.makes here.instr here.runs.starts))
