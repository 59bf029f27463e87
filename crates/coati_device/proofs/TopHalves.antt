-- The machine in a top half: it comes to the end of the half's course, which gives the message of
-- its posting.
use Rattle.std.proofs.Common.{◌≡◌, ℕ, zero, suc, ◌+◌, ◌≤◌, List, [], ◌∷◌, Some, refl, sym, ap, subst, arith, length, length-take}
use Rattle.std.specs.Prelude.{drop, replicate, slice_get, slice_index, take}
use Rattle.std.proofs.lemmas.List.{length-replicate, length-reverse}
use Rattle.coati_word.specs.declared.ending.Ending.{Ending}
use Rattle.task_syntax.specs.declared.body.BodyId.TheVariants.{Top}
use Rattle.task_syntax.specs.declared.program.Event.{Event}
use Rattle.task_syntax.specs.declared.program.Program.{Program}
use Rattle.task_syntax.specs.Course.{Access, Course, Store}
use Rattle.task_syntax.specs.CourseLaws.{AccessesJoinUp, CoursesUnderWayGoOn}
use Rattle.task_syntax.specs.Events.{blank_store, message, message_of}
use Rattle.task_syntax.specs.Expressions.{no_locals, with_local}
use Rattle.task_syntax.specs.Names.{word_count}
use Rattle.task_syntax.specs.Statements.{body}
use Rattle.task_check.specs.Accepted.{IsAccepted}
use Rattle.task_cost.specs.Bodies.{event_cost, top_cost}
use Rattle.task_cost.specs.Limits.{handler_bound}
use Rattle.codegen.specs.Bodies.{program_code}
use Rattle.codegen.specs.ProgramLaws.{TopHalvesComputeTheirCourse}
use Rattle.word_code.specs.declared.instruction.Instr.{Instr}
use Rattle.word_code.specs.declared.instruction.Instr.TheVariants.{Push, GetL, SetL, LoadV, StoreV, LoadX, StoreX, Jump, JumpZ, Next, Halt, Done, Give, Two, One}
use Rattle.word_code.specs.Code.{body_words}
use Rattle.word_code.specs.Following.{Computes}
use Rattle.word_code.specs.FollowingLaws.{FollowingGoesOn}
use Rattle.word_code.specs.InstructionLaws.{DecodedIsEncoded}
use Rattle.word_code.specs.Machine.{StartsAt, move_of}
use Rattle.word_cpu.specs.declared.cpu.Cpu.{Cpu}
use Rattle.word_cpu.specs.declared.turn.Turn.{Turn}
use Rattle.word_cpu.specs.declared.turn.Turn.TheVariants.{Went, Storing, Ended}
use Rattle.word_cpu.specs.Turning.{IsStep, Makes, state_of}
use Rattle.word_cpu.specs.UnderWay.{ComesOn, IsAtStart, IsUnderWay}
use Rattle.word_cpu.proofs.OnCourse.{can_step, steps_along}
use Rattle.word_cpu.proofs.UnderWay.{ready_under_way, starts_under_way, steps_under_way}
use Rattle.coati_device.specs.ScratchView.{scratch_view}
use Rattle.coati_device.proofs.StepsLeft.{below_greatest}

abbrev pub top_course : Program → Event → ℕ → Course Ending
top_course program event argument =
    body program event.top (with_local event.argument.text argument no_locals)

-- the machine is under way in the top half, with so many steps left at most
pub record IsInTop (program : Program) (event : Event) (argument : ℕ) (cpu : Cpu) (words : List ℕ)
    (left : ℕ) : Type 0 where
  pub done : List Access
  pub under_way : IsUnderWay scratch_view (program_code program) cpu words left
      (top_course program event argument) blank_store done

zero_at : (count word : ℕ) → slice_index (replicate count 0) word ≡ blank_store word
zero_at zero word = refl
zero_at (suc count) zero = refl
zero_at (suc count) (suc word) = zero_at count word

zeros_are_blank : (count : ℕ) → slice_index (replicate count 0) ≡ blank_store
zeros_are_blank count = λ i. λ word. zero_at count word i

-- on words that are all 0 it starts
pub starts_in_top : TopHalvesComputeTheirCourse
    → (program : Program) (number : ℕ) (event : Event) (argument : ℕ) (cpu : Cpu)
    → IsAccepted program → slice_get program.events number ≡ Some event
    → IsAtStart (Top number) (argument ∷ []) cpu
    → IsInTop program event argument cpu (replicate (word_count program.vars) 0)
    (top_cost program event)
starts_in_top computes program number event argument cpu accepted there start =
    let words : List ℕ = replicate (word_count program.vars) 0 in
    let course = top_course program event argument in
    let cost = top_cost program event in
    let enough : cost ≤ cost + 1 = omega arith in
    let here =
    subst (λ (count : ℕ). Computes (body_words (program_code program) (Top number)) count cost
    (argument ∷ []) course)
    (sym (length-replicate (word_count program.vars) 0))
    (computes program accepted number event there argument) in
    record {
      done = [];
      under_way =
          subst (λ (base : Store). IsUnderWay scratch_view (program_code program) cpu words cost
          course base [])
          (zeros_are_blank (word_count program.vars))
          (starts_under_way scratch_view (program_code program) cpu words (Top number)
          (argument ∷ []) cost cost course
          here start enough);
    }

few_of : (ending other : Ending) → Ended ending ≡ Ended other → length (message_of other) ≤ 4
    → length (message_of ending) ≤ 4
few_of ending other same few = let e : ending ≡ other = cc in rw e few

-- a message that the machine gives has at most four words, since no other code is read
given_few : DecodedIsEncoded
    → (words : List ℕ) (before after : Cpu) (old new : List ℕ) (ending : Ending) (instr : Instr)
    → StartsAt words instr (state_of before)
    → Makes scratch_view before after old new (Ended ending) (move_of instr (state_of before))
    → length (message_of ending) ≤ 4
given_few decodes words before after old new ending (Push k) starts made =
    absurd (let answer = made.answer in cc)
given_few decodes words before after old new ending (GetL i) starts made =
    absurd (let answer = made.answer in cc)
given_few decodes words before after old new ending (SetL i) starts made =
    absurd (let answer = made.answer in cc)
given_few decodes words before after old new ending (LoadV a) starts made =
    absurd (let answer = made.answer in cc)
given_few decodes words before after old new ending (StoreV a) starts made = absurd made
given_few decodes words before after old new ending (LoadX a n) starts made =
    absurd (let answer = made.answer in cc)
given_few decodes words before after old new ending (StoreX a n) starts made = absurd made
given_few decodes words before after old new ending (Jump t) starts made =
    absurd (let answer = made.answer in cc)
given_few decodes words before after old new ending (JumpZ t) starts made =
    absurd (let answer = made.answer in cc)
given_few decodes words before after old new ending (Next t) starts made =
    few_of ending _ made.answer (omega arith)
given_few decodes words before after old new ending Halt starts made =
    few_of ending _ made.answer (omega arith)
given_few decodes words before after old new ending Done starts made =
    few_of ending _ made.answer (omega arith)
given_few decodes words before after old new ending (Give n) starts made =
    let few : n ≤ 4 = (decodes (drop before.place words) (Give n) 2 starts).in_range in
    few_of ending _ made.answer
    (omega (arith, few, length-reverse (take n before.operands), length-take n before.operands))
given_few decodes words before after old new ending (Two op) starts made =
    absurd (let answer = made.answer in cc)
given_few decodes words before after old new ending (One op) starts made =
    absurd (let answer = made.answer in cc)

-- the half's message
pub record HasGiven (program : Program) (event : Event) (argument : ℕ)
    (words : List ℕ) : Type 0 where
  pub message : words ≡ message program event argument
  pub short : length words ≤ 4

-- where a step of the top half leads
abbrev pub LeadsOn : Program → Event → ℕ → ℕ → Cpu → List ℕ → Turn → Type 0
LeadsOn program event argument left cpu words (Went reading) =
    (less : ℕ) × (less + 1 ≤ left) × IsInTop program event argument cpu words less
LeadsOn program event argument left cpu words Storing =
    (less : ℕ) × (less + 1 ≤ left) × IsInTop program event argument cpu words less
LeadsOn program event argument left cpu words (Ended ending) =
    HasGiven program event argument (message_of ending)

module _ (joins : AccessesJoinUp) (goes_on : CoursesUnderWayGoOn Ending)
    (follows : FollowingGoesOn) (decodes : DecodedIsEncoded)
    (program : Program) (event : Event) (argument : ℕ) (before after : Cpu) (old new : List ℕ)
    (left : ℕ)
    (here : IsInTop program event argument before old left) where
  came : (turn : Turn) → IsStep scratch_view (program_code program) before after old new turn
      → ComesOn scratch_view (program_code program) left (top_course program event argument)
      blank_store here.done before after old new turn
  came turn step =
      steps_under_way scratch_view joins goes_on (steps_along scratch_view follows)
      (program_code program) before after old new
      left (top_course program event argument) blank_store here.done here.under_way turn step

  pub top_leads_on : (turn : Turn)
      → IsStep scratch_view (program_code program) before after old new turn
      → LeadsOn program event argument left after new turn
  top_leads_on (Went reading) step =
      let further = came (Went reading) step in
      (further.remaining, further.in_time, record { done = _; under_way = further.under_way })
  top_leads_on Storing step =
      let further = came Storing step in
      (further.remaining, further.in_time, record { done = _; under_way = further.under_way })
  top_leads_on (Ended ending) step =
      let end = came (Ended ending) step in
      let ready =
      ready_under_way scratch_view (can_step scratch_view follows) (program_code program) before
      old left
      (top_course program event argument) blank_store here.done here.under_way in
      let instr = ready.can_step.0 in
      let starts = ready.can_step.1.starts in
      record {
        message = ap message_of end.ending_is;
        short =
            given_few decodes _ before after old new ending instr starts (step.makes instr starts);
      }

-- with the parts of the posting, its bottom half, and the write that accepts it, it keeps to the
-- bound of handlers
pub halves_in_bound : (program : Program) (number : ℕ) (event : Event)
    → slice_get program.events number ≡ Some event
    → event_cost program event + 9 ≤ handler_bound program
halves_in_bound program number event there =
    let low =
    below_greatest (event_cost program) program.events number event there in omega (arith, low)
