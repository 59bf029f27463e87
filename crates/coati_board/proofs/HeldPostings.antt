-- The oldest held posting: it is the one that the executor picks, its event is one of the
-- program's, and its number is as far behind the last accepted one as postings are held.
use Rattle.std.proofs.Common.{◌≡◌, inl, inr, ℕ, zero, suc, ◌<◌, ◌≤◌, ◌==◌, List, [], ◌∷◌, length, refl, sym, ap, subst, ◌∙◌, arith, Bool, true, false, if◌then◌else◌, Some, None, Option}
use Rattle.std.specs.Prelude.{option_map, slice_get, flat_map}
use Rattle.std.proofs.lemmas.Bool.Decides.{nat_tests}
use Rattle.bottom_half.specs.declared.job.Job.{Job}
use Rattle.bottom_half.specs.Jobs.{first_job, job_in, next_job}
use Rattle.codegen.specs.Bodies.{program_code}
use Rattle.codegen.specs.CodeLaws.{BodiesStandByNumber}
use Rattle.event_buffer.proofs.Slots.{held_length}
use Rattle.nv_memory.specs.InRange.{InRange}
use Rattle.nv_memory.specs.Ring.{Entry, held_count, held_slots, oldest, slot_of, slots_from}
use Rattle.nv_memory.specs.StandsFor.{head_slot}
use Rattle.nv_memory.specs.State.{State, state}
use Rattle.nv_memory.specs.Words.{head, mark, mode, opened}
use Rattle.serial_log.specs.declared.held.Held.{Held}
use Rattle.serial_log.specs.Standing.{standing_of}
use Rattle.task_check.specs.Accepted.{IsAccepted}
use Rattle.task_check.specs.Bodies.{bottom_half}
use Rattle.task_check.specs.Gives.{fifth, give_shape, misgiven_in}
use Rattle.task_check.proofs.NoPlaces.{first-empty, second-empty}
use Rattle.task_syntax.specs.declared.body.BodyId.TheVariants.{Bottom}
use Rattle.task_syntax.specs.declared.name.Name.{Name}
use Rattle.task_syntax.specs.declared.program.Event.{Event}
use Rattle.task_syntax.specs.declared.program.Program.{Program}
use Rattle.word_code.specs.Code.{HasBody}
use Rattle.coati_device.specs.declared.device.Device.{Device}
use Rattle.coati_device.specs.declared.device.Phase.{Phase}
use Rattle.coati_device.specs.declared.device.Phase.TheVariants.{EndBottom}
use Rattle.coati_device.specs.Attempt.{HasEndedBottom, IsAttempt}
use Rattle.coati_device.specs.Laws.{Fits}
use Rattle.coati_device.specs.Points.{AreHeld}
use Rattle.coati_device.specs.Rows.{ComesToEvents, ComesToTasks, head_entry}
use Rattle.coati_board.specs.Ready.{ComesToDrain}
use Rattle.coati_device.proofs.HeadEntry.{event_there, oldest_at_head}

-- as many entries as postings
same_count : (program : Program) (entries : List Entry) (rest : List Held) →
    AreHeld program entries rest → length entries ≡ length rest
same_count program [] [] held = refl
same_count program [] (one ∷ rest) held = absurd held
same_count program (entry ∷ entries) [] held = absurd held
same_count program (entry ∷ entries) (one ∷ rest) held =
    ap suc (same_count program entries rest held.1)

-- no more are held than were accepted
pub few_held : (program : Program) (d : Device) → Fits program d →
    (standing_of program d.history.marks).accepted ≡ d.accepted →
    held_count (state d.image) ≤ d.accepted
few_held program d fit numbered =
    let same = same_count program _ _ fit.stands.held in
    let count = held_length (state d.image) in
    let few = fit.waiting.few in
    omega (arith, same, count, few, numbered)

picked : (s : State) (is_open : Bool) (found : Option Job) (job : Job) →
    (if is_open then None else found) ≡ Some job →
    (is_open ≡ false) × (found ≡ Some job)
picked s true found job e = absurd cc
picked s false found job e = (refl, e)

first_of : (s : State) (k from count : ℕ) (job : Job) →
    first_job s (slots_from k from count) ≡ Some job →
    (0 < count) × (job ≡ job_in s (slot_of k from))
first_of s k from zero job e = absurd cc
first_of s k from (suc count) job e = (omega arith, cc)

-- the executor picks the posting at the head
pub record IsAtHead (s : State) (job : Job) : Type 0 where
  pub closed : opened s ≡ 0
  pub held : 0 < held_count s
  pub job_is : job ≡ job_in s (head_slot s)

at_head : (s : State) (from : ℕ) (job : Job) → from ≡ head s → opened s < 2 →
    (opened s == 1) ≡ false → 0 < held_count s →
    job ≡ job_in s (slot_of s.k from) → IsAtHead s job
at_head s from job from_is low closed some is = record {
  closed = grind (arith, nat_tests);
  held = some;
  job_is = is ∙ ap (λ (position : ℕ). job_in s (slot_of s.k position)) from_is;
}

oldest_is : (s : State) → mark s ≡ 0 → oldest s ≡ head s
oldest_is s clear = rw clear refl

pub picked_at_head : (s : State) (job : Job) → InRange s → mark s ≡ 0 → next_job s ≡ Some job →
    IsAtHead s job
picked_at_head s job range clear e =
    let both = picked s (opened s == 1) (first_job s (held_slots s)) job e in
    let first = first_of s s.k (oldest s) (held_count s) job both.1 in
    at_head s (oldest s) job (oldest_is s clear) range.opened both.0 first.0 first.1

-- where it picks none, none is held or a transaction is open
none_first : (s : State) (k from count : ℕ) → first_job s (slots_from k from count) ≡ None →
    count ≡ 0
none_first s k from zero e = refl
none_first s k from (suc count) e = absurd cc

none_by : (s : State) (is_open : Bool) → (opened s == 1) ≡ is_open →
    (if is_open then None else first_job s (held_slots s)) ≡ None →
    (0 < held_count s → mode s ≡ 0) → ComesToTasks s
none_by s true is e split = none_open (held_count s) refl
  where
    none_open : (count : ℕ) → held_count s ≡ count → ComesToTasks s
    none_open zero none = inl none
    none_open (suc more) some =
        inr (split (omega (arith, some)), grind (arith, nat_tests))
none_by s false is e split = inl (none_first s s.k (oldest s) (held_count s) e)

pub none_picked : (s : State) → next_job s ≡ None → (0 < held_count s → mode s ≡ 0) →
    ComesToTasks s
none_picked s e split = none_by s (opened s == 1) refl e split

-- where no event is to be drained, one that is held is served in mode split
pub split_where_held : (s : State) → mode s < 2 → ¬ ComesToDrain s → 0 < held_count s →
    mode s ≡ 0
split_where_held s low undrained some = by (mode s) refl
  where
    by : (is : ℕ) → mode s ≡ is → mode s ≡ 0
    by zero is = is
    by (suc zero) is = absurd (undrained (record { mode = is; held = some }))
    by (suc (suc more)) is = absurd (omega (arith, low, is))

-- the event at the head is one of the program's
pub known_at_head : (program : Program) (d : Device) → Fits program d → mark (state d.image) ≡ 0 →
    0 < held_count (state d.image) →
    (head_entry (state d.image)).event < length program.events
known_at_head program d fit clear some =
    let oldest_ = oldest_at_head program (state d.image) _ clear some fit.stands.held in
    subst (λ (event : ℕ). event < length program.events) (sym oldest_.is.event) oldest_.is.known

-- it has a bottom half in the code
pub has_bottom_half : BodiesStandByNumber → (program : Program) (event : ℕ) →
    event < length program.events →
    HasBody (program_code program) (Bottom event)
has_bottom_half stand program event low =
    let there = event_there program event low in
    (stand program (Bottom event) (bottom_half there.0)
    (ap (option_map bottom_half) there.1)).exists

four_names : (params : List Name) → fifth params ≡ [] → length params ≤ 4
four_names [] none = omega arith
four_names (a ∷ []) none = omega arith
four_names (a ∷ b ∷ []) none = omega arith
four_names (a ∷ b ∷ c ∷ []) none = omega arith
four_names (a ∷ b ∷ c ∷ d ∷ []) none = omega arith
four_names (a ∷ b ∷ c ∷ d ∷ e ∷ more) none = absurd cc

four_at : (events : List Event) (number : ℕ) (event : Event) →
    slice_get events number ≡ Some event → flat_map give_shape events ≡ [] →
    length event.params ≤ 4
four_at [] number event is none = absurd cc
four_at (first ∷ more) zero event is none =
    let same : first ≡ event = cc in
    subst (λ (one : Event). length one.params ≤ 4) same
    (four_names first.params (first-empty (fifth first.params)
    (misgiven_in (length first.params) first.top)
    (first-empty (give_shape first) (flat_map give_shape more) none)))
four_at (first ∷ more) (suc number) event is none =
    four_at more number event is (second-empty (give_shape first) (flat_map give_shape more) none)

-- an event has at most four parameters
pub few_params : (program : Program) (number : ℕ) (event : Event) → IsAccepted program →
    slice_get program.events number ≡ Some event →
    length event.params ≤ 4
few_params program number event accepted is =
    four_at program.events number event is (accepted 12 (omega arith) (omega arith))

-- a bottom half that has ended is that of the posting at the head
pub ended_at_head : (program : Program) (d : Device) → Fits program d → d.phase ≡ EndBottom →
    ComesToEvents (state d.image)
ended_at_head program d fit ended =
    let here : HasEndedBottom program d.image (standing_of program d.history.marks).rest
    d.attempt.items =
    subst (λ (phase : Phase). IsAttempt program (program_code program) d.image
    (standing_of program d.history.marks).rest d.attempt.items phase)
    ended fit.attempt in
    here.at.events
