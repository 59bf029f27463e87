-- An End mark at the end of a run.
use Rattle.std.proofs.Common.{◌≡◌, ℕ, suc, ◌+◌, ◌<◌, ◌≤◌, ◌==◌, All, Bool, true, false, List, [], ◌∷◌, ◌++◌, length, refl, sym, ap, subst, ◌∙◌, arith, length-append, Some, None, Option}
use Rattle.std.specs.Prelude.{flat_map, option_and_then, replicate}
use Rattle.std.proofs.lemmas.List.{length-replicate}
use Rattle.std.proofs.lemmas.Option.{slice_get_past}
use Rattle.task_syntax.specs.declared.program.Program.{Program}
use Rattle.task_check.specs.Sizes.{HasSizes}
use Rattle.task_syntax.specs.declared.program.UnitDecl.{UnitDecl}
use Rattle.task_syntax.specs.declared.program.UnitDecl.TheVariants.{Lone, Tx}
use Rattle.task_syntax.specs.Names.{tasks_of_unit}
use Rattle.task_syntax.specs.Units.{halt, is_same, memberships, transaction_of}
use Rattle.coati_word.specs.declared.mode.Mode.{Mode}
use Rattle.event_buffer.proofs.Slots.{held_length}
use Rattle.nv_memory.specs.Ring.{Entry, held_entries}
use Rattle.nv_memory.specs.StandsFor.{IsIdle, place_of}
use Rattle.nv_memory.specs.State.{State, state}
use Rattle.nv_memory.specs.Words.{current, opened}
use Rattle.commit_log.specs.OpenUnit.{unit_next}
use Rattle.coati_device.specs.OpenUnit.{HasFinished, UnitFits, has_unit}
use Rattle.serial_log.specs.declared.end.End.{End}
use Rattle.serial_log.specs.declared.mark.Mark.{Mark}
use Rattle.serial_log.specs.declared.mark.MarkKind.{MarkKind}
use Rattle.serial_log.specs.declared.mark.MarkKind.TheVariants.{Boot, Posted, Done, Commit, Abort}
use Rattle.serial_log.specs.declared.mark.MarkKind.TheVariants as kind
use Rattle.serial_log.specs.declared.script.Script.{Script}
use Rattle.serial_log.specs.History.{Past, with_mark}
use Rattle.serial_log.specs.Legal.{IsDoneWith, IsEndLegal, IsLegalMark}
use Rattle.serial_log.specs.declared.held.Held.{Held}
use Rattle.serial_log.specs.declared.posted.Posted.{Posted as Raised}
use Rattle.serial_log.specs.Marks.{boot_times, boot_times_by, raised_by, raised_postings}
use Rattle.serial_log.specs.Postings.{IsDue, Terms}
use Rattle.serial_log.specs.Progresses.{IsServedFirst, ServesAll, ServesSettled, Settled, awaited_by, awaited_of, none_settled, settled_after, settled_of}
use Rattle.serial_log.specs.Standing.{Standing, after_mark, opening, standing_of}
use Rattle.serial_log.proofs.Records.{records_push}
use Rattle.serial_log.proofs.Walks.{each_push, walk_push}
use Rattle.codegen.specs.Bodies.{program_code}
use Rattle.coati_device.specs.declared.device.Device.{Device}
use Rattle.coati_device.specs.declared.device.Phase.{Phase}
use Rattle.coati_device.specs.Laws.{Fits}
use Rattle.coati_device.specs.HeldEvents.{EventsFit}
use Rattle.coati_device.specs.Points.{AreBootsTold, AreHeld, Awaits, IsFit, IsLegalBy, ServesInTurn, TakeTurns, reads_of}
use Rattle.coati_device.proofs.CursorMoves.{cursors_stay}
use Rattle.device_pace.specs.Laws.{ClosingKeepsPace}
use Rattle.coati_board.specs.Board.{IsBoard, end_of, end_of_kind, terms_of}

end_behind : (k : MarkKind) (o more : Option End) (e : End) → end_of_kind k o ≡ None →
    (o ≡ None → more ≡ Some e) → end_of_kind k more ≡ Some e
end_behind (kind.End x) o more e none h = absurd cc
end_behind (Boot number) o more e none h = h none
end_behind (Posted posted) o more e none h = h none
end_behind (Done task) o more e none h = h none
end_behind (Commit r) o more e none h = h none
end_behind (Abort aborted) o more e none h = h none

-- the run has ended with it
pub ended_by : (marks : List Mark) (at : ℕ) (e : End) → end_of marks ≡ None →
    end_of (marks ++ record { at = at; kind = kind.End e } ∷ []) ≡ Some e
ended_by [] at e none = refl
ended_by (mark ∷ marks) at e none =
    end_behind mark.kind (end_of marks)
    (end_of (marks ++ record { at = at; kind = kind.End e } ∷ [])) e none (ended_by marks at e)

member_count : (tx : ℕ) (units : List UnitDecl) →
    length (memberships tx units) ≡ length (flat_map tasks_of_unit units)
member_count tx [] = refl
member_count tx (Lone task ∷ more) = ap suc (member_count tx more)
member_count tx (Tx members ∷ more) =
    let behind = member_count (tx + 1) more in
    omega (
      arith,
      length-append (replicate (length members.tasks) (Some tx)) (memberships (tx + 1) more),
      length-append members.tasks (flat_map tasks_of_unit more),
      length-replicate (length members.tasks) (Some tx),
      behind,
    )

-- the place behind the last task is in no transaction
no_transaction : (program : Program) → HasSizes program → transaction_of program halt ≡ None
no_transaction program sizes =
    let few = sizes.tasks_most in
    let past : length (memberships 0 program.units) ≤ halt =
    omega (arith, member_count 0 program.units, few) in
    ap (λ (member : Option (Option ℕ)). option_and_then (λ tx. tx) member)
    (slice_get_past (memberships 0 program.units) halt past)

not_inside : (own other : Option ℕ) → is_same own other ≡ true → other ≡ None → ⊥
not_inside None other inside none = absurd cc
not_inside (Some tx) None inside none = absurd cc
not_inside (Some tx) (Some member) inside none = absurd cc

none_waits : (program : Program) (entries : List Entry) (rest : List Held) →
    AreHeld program entries rest →
    length entries ≡ 0 → rest ≡ []
none_waits program [] [] held none = refl
none_waits program [] (one ∷ rest) held none = absurd held
none_waits program (entry ∷ entries) rest held none = absurd (omega (arith, none))

-- a device that is idle has done all that its history asks
pub done_where_idle : (program : Program) (d : Device) → HasSizes program → Fits program d →
    IsIdle (state d.image) → IsDoneWith (standing_of program d.history.marks)
done_where_idle program d sizes fit idle = record {
  place = sym fit.stands.place ∙ at_current (opened (state d.image) == 1) refl;
  rest = none_waits program (held_entries (state d.image)) _ fit.stands.held none;
}
  where
    none : length (held_entries (state d.image)) ≡ 0
    none = held_length (state d.image) ∙ idle.held

    -- no transaction is open, since it would go on at a task
    at_current : (b : Bool) → (opened (state d.image) == 1) ≡ b → place_of (state d.image) ≡ halt
    at_current false closed = rw (idle.mark, closed) idle.current
    at_current true open_ =
        let unit : has_unit (state d.image) ≡ true = rw (idle.mark, idle.doomed, open_) refl in
        let run = (standing_of program d.history.marks).run in
        let fits : HasFinished program (state d.image) run d.unit.items d.finished =
        subst (λ (has : Bool). UnitFits program (state d.image) run d.unit.items d.finished has)
        unit fit.unit in
        let next : unit_next (state d.image) ≡ current (state d.image) = rw idle.mark refl in
        let there : fits.reached.place ≡ halt = sym fits.next ∙ next ∙ idle.current in
        let none : transaction_of program fits.reached.place ≡ None =
        ap (transaction_of program) there ∙ no_transaction program sizes in
        absurd (not_inside (transaction_of program run.place)
        (transaction_of program fits.reached.place) fits.inside none)

boots_stay : (marks : List Mark) (at : ℕ) (e : End) →
    boot_times (marks ++ record { at = at; kind = kind.End e } ∷ []) ≡ boot_times marks
boots_stay [] at e = refl
boots_stay (mark ∷ marks) at e =
    ap (λ (times : List ℕ). boot_times_by mark.at mark.kind ++ times) (boots_stay marks at e)

module _ (terms : Terms) (past : Past) (clock : ℕ) (e : End) where
  standing_stays : standing_of terms.program
      (with_mark past (record { at = clock; kind = kind.End e })).marks
      ≡ after_mark terms.program (standing_of terms.program past.marks)
      (record { at = clock; kind = kind.End e })
  standing_stays =
      walk_push (after_mark terms.program) (opening terms.program) past.marks
      (record { at = clock; kind = kind.End e })

  end_is_legal : IsLegalBy terms past clock → IsEndLegal (standing_of terms.program past.marks) e →
      IsLegalMark terms past.readings (standing_of terms.program past.marks)
      (record { at = clock; kind = kind.End e })
  end_is_legal legal end = record {
    serial = tt;
    postings = record {
      in_time = legal.latest;
      follows = rw legal.booted tt;
      order = tt;
    };
    aborts = tt;
    boots = tt;
    end = end;
  }

  pub legal_behind_end : IsLegalBy terms past clock →
      IsEndLegal (standing_of terms.program past.marks) e →
      IsLegalBy terms (with_mark past (record { at = clock; kind = kind.End e })) clock
  legal_behind_end legal end = record {
    records =
        records_push past.marks (record { at = clock; kind = kind.End e }) (length past.readings)
        legal.records tt;
    legal =
        each_push (after_mark terms.program) (IsLegalMark terms past.readings)
        (opening terms.program) past.marks
        (record { at = clock; kind = kind.End e }) legal.legal (end_is_legal legal end);
    booted = ap (λ (s : Standing). s.lost) standing_stays ∙ legal.booted;
    latest = rw standing_stays (omega arith);
  }

  pub told_behind_end : (periods : List ℕ) (boots : ℕ) →
      AreBootsTold periods boots terms.program past →
      AreBootsTold periods boots terms.program
      (with_mark past (record { at = clock; kind = kind.End e }))
  told_behind_end periods boots told = record {
    times = boots_stay past.marks clock e ∙ told.times;
    counted = ap (λ (s : Standing). s.boots) standing_stays ∙ told.counted;
    last = ap (λ (s : Standing). s.last_boot) standing_stays ∙ told.last;
  }

  -- the mark ends no task
  in_turn_behind_end : (s : State) (phase : Phase) →
      ServesInTurn terms.program s phase past.marks →
      ServesInTurn terms.program s phase
      (with_mark past (record { at = clock; kind = kind.End e })).marks
  in_turn_behind_end s phase h =
      let mark : Mark = record { at = clock; kind = kind.End e } in
      let more = past.marks ++ mark ∷ [] in
      let settled_is =
      walk_push (settled_after terms.program) (none_settled terms.program) past.marks mark in
      let settled : (settled_of terms.program more).settled
      ≡ (settled_of terms.program past.marks).settled =
      ap (λ (x : Settled). x.settled) settled_is in
      let rest : (standing_of terms.program more).rest
      ≡ (standing_of terms.program past.marks).rest =
      ap (λ (x : Standing). x.rest) standing_stays in
      let all = ap (λ (x : Standing). x.accepted) standing_stays in
      let low = h.settled in
      record {
        serves =
            each_push (settled_after terms.program) ServesSettled (none_settled terms.program)
            past.marks
            mark h.serves (λ ends. absurd ends);
        same =
            ap (λ (x : Settled). x.standing) settled_is
            ∙ ap (λ (x : Standing). after_mark terms.program x mark) h.same ∙ sym standing_stays;
        settled = omega (arith, settled, all, low);
        later = λ busy.
            subst (λ (n : ℕ). All (λ (held : Held). n < held.number)
            (standing_of terms.program more).rest)
            (sym settled)
            (subst (λ (waiting : List Held). All (λ (held : Held).
            (settled_of terms.program past.marks).settled < held.number) waiting) (sym rest)
            (h.later busy));
      }

-- in either mode
module _ (terms : Terms) (past : Past) (clock : ℕ) (e : End) (s : State) (phase : Phase)
    (turns : TakeTurns terms.program s phase past.marks) where
  abbrev mark_is : Mark
  mark_is = record { at = clock; kind = kind.End e }

  awaited_stays : awaited_of (past.marks ++ mark_is ∷ []) ≡ awaited_of past.marks
  awaited_stays = walk_push (λ awaited mark. awaited_by awaited mark.kind) None past.marks mark_is

  serves_first : (awaited : Option ℕ) → IsServedFirst awaited (kind.End e)
  serves_first None = tt
  serves_first (Some posting) = tt

  awaits_still : (posting : ℕ) → Awaits terms.program s phase past.marks posting →
      Awaits terms.program s phase (past.marks ++ mark_is ∷ []) posting
  awaits_still posting awaits = record {
    mode = awaits.mode;
    chooses = awaits.chooses;
    no_unit = awaits.no_unit;
    due = subst (λ (x : Standing). IsDue x.rest posting)
        (sym (standing_stays terms past clock e)) awaits.due;
  }

  pub turns_behind_end : TakeTurns terms.program s phase (past.marks ++ mark_is ∷ [])
  turns_behind_end = record {
    split = λ split. in_turn_behind_end terms past clock e s phase (turns.split split);
    buffi = λ buffi. each_push (after_mark terms.program) ServesAll (opening terms.program)
        past.marks mark_is (turns.buffi buffi) (λ ends. absurd ends);
    aborts = each_push (λ awaited mark. awaited_by awaited mark.kind)
        (λ awaited mark. IsServedFirst awaited mark.kind) None past.marks mark_is turns.aborts
        (serves_first _);
    awaits = λ posting awaited. awaits_still posting
        (turns.awaits posting (sym awaited_stays ∙ awaited));
  }

-- no posting is raised with it
raised_stays : (marks : List Mark) (at : ℕ) (e : End) →
    raised_postings (marks ++ record { at = at; kind = kind.End e } ∷ []) ≡ raised_postings marks
raised_stays [] at e = refl
raised_stays (mark ∷ marks) at e =
    ap (λ (more : List Raised). raised_by mark.kind ++ more) (raised_stays marks at e)

-- memory and the attempt fit with it
fit_behind_end : (program : Program) (d : Device) (e : End) → Fits program d →
    Fits program
    (record d { history = with_mark d.history (record { at = d.clock; kind = kind.End e }) })
fit_behind_end program d e fit =
    subst (λ (s : Standing). IsFit program (program_code program) d.image (reads_of d) d.phase s)
    (sym (walk_push (after_mark program) (opening program) d.history.marks
    (record { at = d.clock; kind = kind.End e })))
    (record {
      memory = fit.memory;
      stands =
          record { words = fit.stands.words; place = fit.stands.place; held = fit.stands.held };
      waiting = record { few = fit.waiting.few; numbered = fit.waiting.numbered };
      place = fit.place;
      unit = fit.unit;
      attempt = fit.attempt;
    })

-- a board that is closed is sound
pub closed_board : ClosingKeepsPace → (program : Program) (mode : Mode) (script : Script)
    (d : Device) (e : End) → IsBoard program mode script d →
    end_of d.history.marks ≡ None → IsEndLegal (standing_of program d.history.marks) e →
    IsBoard program mode script
    (record d { history = with_mark d.history (record { at = d.clock; kind = kind.End e }) })
closed_board paces program mode script d e board none end = record {
  accepted = board.accepted;
  sizes = board.sizes;
  scripted = board.scripted;
  sound = record {
    fit = fit_behind_end program d e board.sound.fit;
    mode = board.sound.mode;
    events =
        subst (λ (s : Standing). EventsFit program (state d.image) s d.waiting.events)
        (sym (standing_stays (terms_of program mode) d.history d.clock e)) board.sound.events;
    legal = legal_behind_end (terms_of program mode) d.history d.clock e board.sound.legal end;
    turns =
        turns_behind_end (terms_of program mode) d.history d.clock e (state d.image) d.phase
        board.sound.turns;
    accepted =
        ap (λ (s : Standing). s.accepted)
        (standing_stays (terms_of program mode) d.history d.clock e)
        ∙ board.sound.accepted;
    timed = board.sound.timed;
    boots =
        told_behind_end (terms_of program mode) d.history d.clock e script.power d.boots
        board.sound.boots;
  };
  paced = paces (terms_of program mode) e d board.sound.fit board.paced;
  cursors =
      cursors_stay script.postings d.history.marks _ d.cursors
      (raised_stays d.history.marks d.clock e)
      board.cursors;
  steps = board.steps;
  counted = board.counted;
  finished = board.finished;
  limit = board.limit;
  time = board.time;
  few = board.few;
  room = λ open_. let ended = ended_by d.history.marks d.clock e none in absurd cc;
}
