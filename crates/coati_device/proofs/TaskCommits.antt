-- Where a task has ended, its unit goes on or is committed, and a device keeps what it keeps: what
-- memory stands for and where the history leads change alike.
use Rattle.std.proofs.Common.{◌≡◌, ◌==◌, ℕ, ◌+◌, List, [], ◌∷◌, ◌++◌, Bool, true, false, Option, Some, None, if◌then◌else◌, inl, inr, length, refl, sym, ap, subst, ◌∙◌, arith}
use Rattle.std.specs.Prelude.{option_and_then}
use Rattle.std.proofs.lemmas.Bool.Decides.{nat_tests}
use Rattle.std.specs.Option.{option_map_or, unwrap_or}
use Rattle.coati_word.specs.declared.reading.Reading.{Reading}
use Rattle.task_syntax.specs.declared.program.Program.{Program}
use Rattle.task_syntax.specs.CourseLaws.{AccessesJoinUp, LastWritesTellTheStore, WrittenWordsAreTold}
use Rattle.task_syntax.specs.Units.{Reached, first_task, is_inside, is_same, task_effect, tasks_effect, transaction_of, unless_inside, whole_effect}
use Rattle.task_syntax.specs.Written.{last_written}
use Rattle.task_check.specs.Accepted.{IsAccepted}
use Rattle.task_check.specs.Transitions.{into, midst_of_task, unless_first}
use Rattle.nv_memory.specs.Ring.{Entry, held_entries}
use Rattle.nv_memory.specs.Seats.{Memory}
use Rattle.nv_memory.specs.StandsFor.{place_of}
use Rattle.nv_memory.specs.State.{State, set_to, state}
use Rattle.nv_memory.specs.Words.{current, mark, mark_seat, next, opened, variable}
use Rattle.commit_log.specs.OpenUnit.{unit_next}
use Rattle.serial_log.specs.declared.held.Held.{Held}
use Rattle.serial_log.specs.declared.mark.Mark.{Mark}
use Rattle.serial_log.specs.declared.mark.MarkKind.TheVariants.{Done}
use Rattle.serial_log.specs.declared.record.Record.{Record}
use Rattle.serial_log.specs.History.{with_mark}
use Rattle.serial_log.specs.SerialRun.{Stand, behind_tasks, behind_unit}
use Rattle.serial_log.specs.Standing.{Standing, after_mark, left_by, opening, standing_of}
use Rattle.serial_log.proofs.Walks.{walk_push}
use Rattle.codegen.specs.Bodies.{program_code}
use Rattle.coati_device.specs.declared.device.Device.{Device}
use Rattle.coati_device.specs.declared.device.Phase.{Phase}
use Rattle.coati_device.specs.declared.device.Phase.TheVariants.{Choose, End}
use Rattle.coati_device.specs.Attempt.{base_word}
use Rattle.coati_device.specs.Endings.{MayLead}
use Rattle.coati_device.specs.Endings.MayLead.{halts, goes}
use Rattle.coati_device.specs.Kept.{adding, emptied, record_of_unit, unit_commit, unit_of, with_commit}
use Rattle.coati_device.specs.Laws.{Fits}
use Rattle.coati_device.specs.OpenUnit.{IsUnitPlace, OpenUnitFits, UnitFits, has_unit}
use Rattle.coati_device.specs.Points.{AreHeld, AreLastAccepted, IsFit, Reads, StandsFor, reads_of}
use Rattle.coati_device.specs.Rows.{Ends, IsClear}
use Rattle.coati_device.specs.TaskView.{HasWritten}
use Rattle.coati_device.proofs.Grown.{HasGrown}
use Rattle.coati_device.proofs.TaskEndings.{endings_lead}
use Rattle.coati_device.proofs.TaskFlags.{SharesJoined}
use Rattle.coati_device.proofs.TaskWords.{committed_is}
use Rattle.coati_device.proofs.TaskWrites.{IsPut, put_by}
use Rattle.coati_device.proofs.UnitGrows.{open_at_clear, place_closed, unit_grown}
use Rattle.coati_device.proofs.UnitShares.{unit_shares}
use Rattle.coati_device.proofs.MarkedMemory.{held_marked, marked, memory_marked, place_merged}

-- members of one transaction have it both
same_of : (one other : Option ℕ) → is_same one other ≡ true → one ≡ other
same_of None other same = absurd cc
same_of (Some tx) None same = absurd cc
same_of (Some tx) (Some other) same =
    let is : other ≡ tx = grind (arith, nat_tests) in ap Some (sym is)

next_is : (s : State) → mark s ≡ 0 → unit_next s ≡ current s
next_is s clear = rw clear refl

-- while a task is merged, its unit is open
open_merged : (s : State) → IsClear s → has_unit (marked s 1) ≡ true
open_merged s clear = rw clear.doomed refl

-- what is known of the unit of the task to run
pub record IsOfUnit (program : Program) (s : State) (stand : Stand) (finished : ℕ) : Type 0 where
  pub own : transaction_of program stand.place ≡ transaction_of program (current s)
  pub first : transaction_of program (current s) ≡ None
      → (finished ≡ 0) × (current s ≡ stand.place)

unit_by : (program : Program) (s : State) (stand : Stand) (read : List Reading) (finished : ℕ)
    (is : Bool) → (opened s == 1) ≡ is → mark s ≡ 0 → place_of s ≡ stand.place
    → UnitFits program s stand read finished is → IsOfUnit program s stand finished
unit_by program s stand read finished true is clear at fits =
    let next = fits.reached.place in
    let here : next ≡ current s = sym fits.next ∙ next_is s clear in
    let own =
    same_of (transaction_of program stand.place) (transaction_of program next) fits.inside
    ∙ ap (transaction_of program) here in
    record {
      own = own;
      first = λ none.
          let no : is_same None (transaction_of program next) ≡ true =
          subst (λ (o : Option ℕ). is_same o (transaction_of program next) ≡ true) (own ∙ none)
          fits.inside in
          absurd cc;
    }
unit_by program s stand read finished false is clear at fits =
    let here : current s ≡ stand.place = sym (place_closed s clear is) ∙ at in
    record { own = ap (transaction_of program) (sym here); first = λ none. (fits.none, here) }

pub unit_of_task : (program : Program) (m : Memory) (reads : Reads) (phase : Phase)
    (standing : Standing) → IsFit program (program_code program) m reads phase standing
    → IsClear (state m) → IsOfUnit program (state m) standing.run reads.finished
unit_of_task program m reads phase standing fit clear =
    let s = state m in
    let is = opened s == 1 in
    unit_by program s standing.run reads.unit reads.finished is refl clear.mark fit.stands.place
    (subst (UnitFits program s standing.run reads.unit reads.finished)
    (open_at_clear s is clear refl) fit.unit)

-- a record of so many tasks of a unit leads where these tasks lead
leads_as : (program : Program) (rest : List Held) (stand : Stand) (committed : Record)
    (whole : Reached) (own : Option ℕ) (task finished : ℕ) → committed.tasks ≡ finished + 1
    → tasks_effect program stand.place stand.store (finished + 1) ≡ Some whole
    → is_inside program stand.place whole.place ≡ false
    → (own ≡ None → (finished ≡ 0) × (task ≡ stand.place))
    → behind_unit program rest stand committed (unit_of own task) ≡ behind_tasks stand whole
leads_as program rest stand committed whole None task finished count done ends first =
    let one = first refl in
    let only : Some (task_effect program stand.place stand.store) ≡ Some whole =
    ap (λ (n : ℕ). tasks_effect program stand.place stand.store (n + 1)) (sym one.0) ∙ done in
    let same : task_effect program stand.place stand.store ≡ whole = cc in
    ap (λ (place : ℕ). behind_tasks stand (task_effect program place stand.store)) one.1
    ∙ ap (behind_tasks stand) same
leads_as program rest stand committed whole (Some tx) task finished count done ends first =
    ap (λ (o : Option Reached). option_map_or (behind_tasks stand) o stand)
    (ap (whole_effect program stand.place stand.store) count
    ∙ ap (λ (o : Option Reached). option_and_then (unless_inside program stand.place) o) done
    ∙ ap (λ (b : Bool). if b then None else Some whole) ends)

-- and no posting is served by it
rest_stays : (own : Option ℕ) (task : ℕ) (rest : List Held)
    → left_by (unit_of own task) 0 rest ≡ rest
rest_stays None task rest = refl
rest_stays (Some tx) task rest = refl

unless_is : (own tx : ℕ) (b : Bool) → (if b then None else Some own) ≡ Some tx → Some own ≡ Some tx
unless_is own tx true is = absurd cc
unless_is own tx false is = is

midst_is : (program : Program) (place tx : ℕ) (o : Option ℕ)
    → option_and_then (unless_first program place) o ≡ Some tx → o ≡ Some tx
midst_is program place tx None is = absurd cc
midst_is program place tx (Some own) is =
    unless_is own tx (option_map_or (λ first. first == place) (first_task program own) false) is

-- from outside none leads into the midst of a transaction
midst_none : (own midst other : Option ℕ) → ((tx : ℕ) → midst ≡ Some tx → other ≡ Some tx)
    → into own midst 0 ≡ [] → is_same own other ≡ false → midst ≡ None
midst_none own None other its none outside = refl
midst_none own (Some tx) other its none outside =
    let apart : is_same own (Some tx) ≡ false =
    subst (λ (o : Option ℕ). is_same own o ≡ false) (its tx refl) outside in
    let here : List ℕ = 0 ∷ [] in
    let no : here ≡ [] = subst (λ (b : Bool). (if b then [] else here) ≡ []) apart none in
    absurd cc

-- where a unit ends, another may begin
unit_place : (program : Program) (task place : ℕ) → MayLead program task place
    → is_inside program task place ≡ false → IsUnitPlace program place
unit_place program task place leads outside = elim leads [
  | halts is ↦ inl is
  | goes low enters ↦ inr (
    low,
    midst_none (transaction_of program task) (midst_of_task program place)
        (transaction_of program place)
        (λ tx is. midst_is program place tx (transaction_of program place) is) enters outside,
  )
]

-- once the place behind the task that has ended is written
module _ (program : Program) (m : Memory) (reads : Reads) (place : ℕ) (standing : Standing)
    (fit : IsFit program (program_code program) m reads (End place) standing)
    (clear : IsClear (state m)) (there : next (state m) ≡ place) where
  abbrev task : ℕ
  task = current (state m)

  abbrev own : Option ℕ
  own = transaction_of program task

  abbrev read : List Reading
  read = reads.unit ++ reads.attempt

  abbrev Grown : Type 0
  Grown = HasGrown program (state m) standing.run read (reads.finished + 1) place

  its_own : IsOfUnit program (state m) standing.run reads.finished
  its_own = unit_of_task program m reads (End place) standing fit clear

  -- whether the unit goes on at the place is the same for its first task and its last
  goes_inside : (grown : Grown)
      → is_inside program standing.run.place grown.whole.place ≡ is_inside program task place
  goes_inside grown =
      ap (λ (p : ℕ). is_inside program standing.run.place p) grown.leads
      ∙ ap (λ (o : Option ℕ). is_same o (transaction_of program place)) its_own.own

  store_is : (word : ℕ) → variable (state m) word ≡ standing.run.store word
  store_is word =
      sym (committed_is (state m) word clear.mark) ∙ fit.stands.words word

  -- the entries stay those of the postings
  held_stays : (value : ℕ) → (value == 3) ≡ false
      → AreHeld program (held_entries (marked (state m) value)) standing.rest
  held_stays value other =
      subst (λ (entries : List Entry). AreHeld program entries standing.rest)
      (sym (held_marked (state m) value other clear.mark)) fit.stands.held

  -- the unit goes on
  module _ (at : ℕ) where
    abbrev joined : Standing
    joined = after_mark program standing (record { at = at; kind = Done task })

    abbrev joined_reads : Reads
    joined_reads = record { attempt = []; unit = read; finished = reads.finished + 1 }

    stands_joined : StandsFor program (marked (state m) 1) joined
    stands_joined = record {
      words = store_is;
      place = place_merged (state m) clear.mark ∙ fit.stands.place;
      held = held_stays 1 refl;
    }

    unit_joined : is_inside program task place ≡ true → (grown : Grown)
        → SharesJoined (state m) grown.whole.done
        → OpenUnitFits program (marked (state m) 1) joined.run read (reads.finished + 1)
    unit_joined inside grown shares =
        subst (UnitFits program (marked (state m) 1) joined.run read (reads.finished + 1))
        (sym (open_merged (state m) clear))
        (record {
          reached = grown.whole;
          tasks = grown.tasks;
          log = grown.log;
          flags = shares;
          next = there ∙ sym grown.leads;
          inside = goes_inside grown ∙ inside;
          reads = grown.reads;
        })

    fit_joined : (image : Memory) → is_inside program task place ≡ true → (grown : Grown)
        → SharesJoined (state m) grown.whole.done → IsPut m (set_to mark_seat 1) image
        → IsFit program (program_code program) image joined_reads Choose joined
    fit_joined image inside grown shares wrote =
        let back = sym wrote.state in
        record {
          memory = memory_marked program m image 1 (omega arith) refl fit.memory clear wrote;
          stands = subst (λ (t : State). StandsFor program t joined) back stands_joined;
          waiting = record { few = fit.waiting.few; numbered = fit.waiting.numbered };
          place = fit.place;
          unit =
              subst
              (λ (t : State). OpenUnitFits program t joined.run read (reads.finished + 1)) back
              (unit_joined inside grown shares);
          attempt = tt;
        }

  -- the unit is whole
  module _ (all : List Reading) (at : ℕ) where
    abbrev committed : Standing
    committed =
        after_mark program standing
        (unit_commit all (unit_of own task) (reads.finished + 1) read at)

    abbrev no_reads : Reads
    no_reads = record { attempt = []; unit = []; finished = 0 }

    run_is : is_inside program task place ≡ false → (grown : Grown)
        → committed.run ≡ behind_tasks standing.run grown.whole
    run_is outside grown =
        leads_as program standing.rest standing.run
        (record_of_unit (unit_of own task) (reads.finished + 1) (length all) (length read))
        grown.whole own task reads.finished refl grown.tasks (goes_inside grown ∙ outside)
        its_own.first

    stands_committed : LastWritesTellTheStore → (grown : Grown)
        → committed.run ≡ behind_tasks standing.run grown.whole
        → StandsFor program (marked (state m) 2) committed
    stands_committed lasts grown run = record {
      words = λ word.
          ap (λ (o : Option ℕ). unwrap_or o (variable (state m) word)) (grown.log word)
          ∙ ap (unwrap_or (last_written grown.whole.done word)) (store_is word)
          ∙ sym (lasts grown.whole.done standing.run.store word)
          ∙ ap (λ (stand : Stand). stand.store word) (sym run);
      place = there ∙ sym grown.leads ∙ ap (λ (stand : Stand). stand.place) (sym run);
      held =
          subst (AreHeld program (held_entries (marked (state m) 2)))
          (sym (rest_stays own task standing.rest)) (held_stays 2 refl);
    }

    -- the same postings wait
    waiting_committed : AreLastAccepted committed
    waiting_committed =
        let are = fit.waiting in
        subst (λ (rest : List Held). AreLastAccepted (record committed { rest = rest }))
        (sym (rest_stays own task standing.rest))
        (record { few = are.few; numbered = are.numbered })

    place_committed : IsAccepted program → is_inside program task place ≡ false → (grown : Grown)
        → committed.run ≡ behind_tasks standing.run grown.whole
        → IsUnitPlace program committed.run.place
    place_committed accepted outside grown run =
        let leads : MayLead program task place =
        subst (MayLead program task) (sym fit.attempt.leads)
        (endings_lead program accepted task (base_word (state m))) in
        subst (IsUnitPlace program)
        (sym grown.leads ∙ ap (λ (stand : Stand). stand.place) (sym run))
        (unit_place program task place leads outside)

    fit_committed : IsAccepted program → LastWritesTellTheStore → (image : Memory)
        → is_inside program task place ≡ false → Grown → IsPut m (set_to mark_seat 2) image
        → IsFit program (program_code program) image no_reads Choose committed
    fit_committed accepted lasts image outside grown wrote =
        let back = sym wrote.state in
        let run = run_is outside grown in
        record {
          memory = memory_marked program m image 2 (omega arith) refl fit.memory clear wrote;
          stands =
              subst (λ (t : State). StandsFor program t committed) back
              (stands_committed lasts grown run);
          waiting = waiting_committed;
          place = place_committed accepted outside grown run;
          unit =
              subst (λ (t : State). OpenUnitFits program t committed.run [] 0) back
              (record { none = refl; nothing = refl });
          attempt = tt;
        }

module _ (joins : AccessesJoinUp) (lasts : LastWritesTellTheStore) (tells : WrittenWordsAreTold)
    (program : Program) (old new : Device) (place : ℕ) (image : Memory) (fits : Fits program old)
    (ends : Ends old place) (there : next (state old.image) ≡ place) where
  abbrev to_run : ℕ
  to_run = current (state old.image)

  abbrev stands_at : Standing
  stands_at = standing_of program old.history.marks

  fit_at_end : IsFit program (program_code program) old.image (reads_of old) (End place) stands_at
  fit_at_end =
      subst
      (λ (phase : Phase).
      IsFit program (program_code program) old.image (reads_of old) phase stands_at)
      ends.phase fits

  grown_at_end :
      HasGrown program (state old.image) stands_at.run (old.unit.items ++ old.attempt.items)
      (old.finished + 1) place
  grown_at_end =
      unit_grown program (program_code program) old.image (reads_of old) stands_at place fit_at_end
      ends.clear joins lasts

  shares_at_end : SharesJoined (state old.image) grown_at_end.whole.done
  shares_at_end =
      unit_shares program (program_code program) old.image (reads_of old) stands_at place
      fit_at_end ends.clear joins lasts tells grown_at_end

  -- what a device fits with a mark more
  with_more : (reads : Reads) (told : Mark)
      → IsFit program (program_code program) image reads Choose (after_mark program stands_at told)
      → IsFit program (program_code program) image reads Choose
      (standing_of program (old.history.marks ++ told ∷ []))
  with_more reads told fit =
      subst
      (λ (standing : Standing). IsFit program (program_code program) image reads Choose standing)
      (sym (walk_push (after_mark program) (opening program) old.history.marks told)) fit

  -- the row of a task whose transaction goes on
  pub joins_keep : is_inside program to_run place ≡ true
      → HasWritten old.image (set_to mark_seat 1) image
      → new ≡ record old {
        image = image;
        history = with_mark old.history (record { at = old.clock + 1; kind = Done to_run });
        unit = adding old.unit old.attempt.items;
        finished = old.finished + 1;
        attempt = emptied old.attempt;
        phase = Choose;
      } → Fits program new
  joins_keep inside wrote is =
      subst (λ (d : Device). Fits program d) (sym is)
      (with_more _ (record { at = old.clock + 1; kind = Done to_run })
      (fit_joined program old.image (reads_of old) place stands_at fit_at_end ends.clear
      there (old.clock + 1) image inside grown_at_end shares_at_end
      (put_by old.image image (set_to mark_seat 1) fits.memory.memory wrote)))

  -- the row of a unit's commit
  pub commits_keep : IsAccepted program → is_inside program to_run place ≡ false
      → HasWritten old.image (set_to mark_seat 2) image
      → new ≡ record old {
        image = image;
        history =
            with_commit old.history (unit_of (transaction_of program to_run) to_run)
            (old.finished + 1) (old.unit.items ++ old.attempt.items) (old.clock + 1);
        unit = emptied old.unit;
        finished = 0;
        attempt = emptied old.attempt;
        phase = Choose;
      } → Fits program new
  commits_keep accepted outside wrote is =
      subst (λ (d : Device). Fits program d) (sym is)
      (with_more _
      (unit_commit old.history.readings (unit_of (transaction_of program to_run) to_run)
      (old.finished + 1) (old.unit.items ++ old.attempt.items) (old.clock + 1))
      (fit_committed program old.image (reads_of old) place stands_at fit_at_end ends.clear
      there old.history.readings (old.clock + 1) accepted lasts image outside grown_at_end
      (put_by old.image image (set_to mark_seat 2) fits.memory.memory wrote)))
