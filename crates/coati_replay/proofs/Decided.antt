-- Whether a line meets its condition can be decided, so each text has a verdict.
use Rattle.std.proofs.Common.{◌≡◌, ◌∙◌, ℕ, ◌+◌, List, [], ◌∷◌, length, refl, sym, subst, ap}
use Rattle.std.specs.Prelude.{Option, Some, None, slice_index}
use Rattle.std.proofs.Math.Decide.{dec_le, dec_lt, ℕ_discrete, map_dec}
use Rattle.coati_word.specs.declared.mode.Mode.{Mode}
use Rattle.coati_word.specs.declared.mode.Mode.TheVariants.{Buffi}
use Rattle.coati_word.specs.declared.reading.Reading.{Reading}
use Rattle.task_check.specs.Numbers.{buffer_size}
use Rattle.task_cost.specs.Limits.{period_bound}
use Rattle.task_syntax.specs.declared.program.Program.{Program}
use Rattle.task_syntax.specs.Course.{readings}
use Rattle.task_syntax.specs.CourseLaws.{WrittenWordsAreTold}
use Rattle.task_syntax.specs.Events.{event_effect}
use Rattle.task_syntax.specs.Names.{tasks}
use Rattle.task_syntax.specs.Units.{Reached, first_task, halt, task_effect, tasks_effect, transaction_of, whole_effect}
use Rattle.serial_log.specs.declared.abort.AbortOf.{AbortOf}
use Rattle.serial_log.specs.declared.end.End.{End}
use Rattle.serial_log.specs.declared.end.End.TheVariants as end
use Rattle.serial_log.specs.declared.held.Held.{Held}
use Rattle.serial_log.specs.declared.mark.Mark.{Mark}
use Rattle.serial_log.specs.declared.mark.MarkKind.{MarkKind}
use Rattle.serial_log.specs.declared.mark.MarkKind.TheVariants as kind
use Rattle.serial_log.specs.declared.posted.Answer.{Answer}
use Rattle.serial_log.specs.declared.posted.Answer.TheVariants.{Accepted, Full, Lost}
use Rattle.serial_log.specs.declared.posted.Posted.{Posted as Raised}
use Rattle.serial_log.specs.declared.printed.Printed.{Printed}
use Rattle.serial_log.specs.declared.unit.Unit.{Unit as Committed}
use Rattle.serial_log.specs.declared.unit.Unit.TheVariants.{Task, Transaction, Event}
use Rattle.serial_log.specs.Aborts.{IsAbortLegal, IsClashWord, IsLeastClash, IsUnitAt, KeepsAborts}
use Rattle.serial_log.specs.Boots.{KeepsBoots}
use Rattle.serial_log.specs.History.{readings_in}
use Rattle.serial_log.specs.Legal.{IsEndLegal, IsLegalMark, KeepsEnd, KeepsSerial}
use Rattle.serial_log.specs.Marks.{Entry}
use Rattle.serial_log.specs.Postings.{FollowsLost, IsDue, IsHandled, IsInOrder, IsLegalAnswer, IsLegalPost, KeepsOrder, Terms, due_posting}
use Rattle.serial_log.specs.Printed.{mark_at, mark_of}
use Rattle.serial_log.specs.SerialRun.{IsEventNext, IsLone, IsTaskNext, IsTransactionNext, IsUnitNext, Stand, posting_numbered}
use Rattle.serial_log.specs.Standing.{Standing, opening}
use Rattle.coati_replay.specs.Conditions.{MeetsCondition, behind_line, terms_of}
use Rattle.coati_replay.specs.Stages.{HasCome}
use Rattle.coati_replay.specs.Text.{TextLine, text_lines}
use Rattle.coati_replay.specs.Verdicts.{IsVerdict}
use Rattle.coati_replay.specs.declared.verdict.Verdict.{Verdict}
use Rattle.coati_replay.specs.declared.verdict.Verdict.TheVariants.{Serial, Differs}
use Rattle.coati_replay.proofs.Coming.{begins, differs, ends, goes-on}
use Rattle.coati_replay.proofs.Deciding.{are-readings, both, each-below, is-boot, is-empty, is-least-clash, is-mode, is-none, is-number}

-- commits
is-lone : (program : Program) (task : ℕ) → Dec (IsLone program task)
is-lone program task = map_dec (λ pair. record { there = pair.0; alone = pair.1 }) (λ lone. (lone.there, lone.alone)) (both (dec_lt task (length (tasks program))) (is-none (transaction_of program task)))

task-next : (program : Program) (stand : Stand) (task : ℕ) (entry : Entry) → Dec (IsTaskNext program stand task entry)
task-next program stand task entry =
    map_dec (λ f. record { place = f.0; lone = f.1.0; one_task = f.1.1.0; no_posting = f.1.1.1.0; reads = f.1.1.1.1 })
    (λ next. (next.place, (next.lone, (next.one_task, (next.no_posting, next.reads)))))
    (both (ℕ_discrete stand.place task) (both (is-lone program task) (both (ℕ_discrete entry.committed.tasks 1) (both (ℕ_discrete entry.committed.posting 0)
    (are-readings entry.reads (readings (task_effect program task stand.store).done))))))

transaction-by : (program : Program) (stand : Stand) (tx : ℕ) (entry : Entry) (whole : Option Reached) → whole_effect program stand.place stand.store entry.committed.tasks ≡ whole →
    Dec (IsTransactionNext program stand tx entry)
transaction-by program stand tx entry None is = no (λ next. let never : None ≡ Some next.reached = sym is ∙ next.whole in absurd (cc))
transaction-by program stand tx entry (Some reached) is =
    map_dec (λ f. record { place = f.0; no_posting = f.1.0; reached = reached; whole = is; reads = f.1.1 })
    (λ next.
    let some : Some next.reached ≡ Some reached = sym next.whole ∙ is in
    let same : next.reached ≡ reached = cc in
    (next.place, (next.no_posting, next.reads ∙ ap (λ (r : Reached). readings r.done) same)))
    (both (is-number (first_task program tx) stand.place) (both (ℕ_discrete entry.committed.posting 0) (are-readings entry.reads (readings reached.done))))

event-by : (program : Program) (accepted : List Held) (stand : Stand) (event : ℕ) (entry : Entry) (held : Option Held) → posting_numbered entry.committed.posting accepted ≡ held →
    Dec (IsEventNext program accepted stand event entry)
event-by program accepted stand event entry None is = no (λ next. let never : None ≡ Some next.held = sym is ∙ next.posting in absurd (cc))
event-by program accepted stand event entry (Some held) is =
    map_dec (λ f. record { no_tasks = f.0; held = held; posting = is; its_event = f.1.0; reads = f.1.1 })
    (λ next.
    let some : Some next.held ≡ Some held = sym next.posting ∙ is in
    let same : next.held ≡ held = cc in
    (next.no_tasks, (sym (ap (λ (h : Held). h.event) same) ∙ next.its_event, next.reads ∙ ap (λ (h : Held). readings (event_effect program event h.argument stand.store)) same)))
    (both (ℕ_discrete entry.committed.tasks 0) (both (ℕ_discrete held.event event) (are-readings entry.reads (readings (event_effect program event held.argument stand.store)))))

unit-next : (program : Program) (accepted : List Held) (stand : Stand) (entry : Entry) (unit : Committed) → Dec (IsUnitNext program accepted stand entry unit)
unit-next program accepted stand entry (Task task) = task-next program stand task entry
unit-next program accepted stand entry (Transaction tx) = transaction-by program stand tx entry (whole_effect program stand.place stand.store entry.committed.tasks) refl
unit-next program accepted stand entry (Event event) = event-by program accepted stand event entry (posting_numbered entry.committed.posting accepted) refl

is-due : (rest : List Held) (posting : ℕ) → Dec (IsDue rest posting)
is-due [] posting = no (λ due. let never : None ≡ Some due.oldest = due.due in absurd (cc))
is-due (held ∷ more) posting =
    map_dec (λ same. record { oldest = held; due = refl; number = same })
    (λ due. let some : Some held ≡ Some due.oldest = due.due in let same : held ≡ due.oldest = cc in ap (λ (h : Held). h.number) same ∙ due.number)
    (ℕ_discrete held.number posting)

in-order : (rest : List Held) (posting : ℕ) (unit : Committed) → Dec (IsInOrder rest posting unit)
in-order rest posting (Task task) = yes tt
in-order rest posting (Transaction tx) = yes tt
in-order rest posting (Event event) = is-due rest posting

-- postings
is-handled : (terms : Terms) (s : Standing) (at from : ℕ) → Dec (IsHandled terms s at from)
is-handled terms s at from =
    map_dec (λ f. record { room = f.0; later = f.1.0; soon = f.1.1 }) (λ handled. (handled.room, (handled.later, handled.soon)))
    (both (dec_lt (length s.rest) (buffer_size terms.program)) (both (dec_lt from at) (dec_le at (from + terms.handler))))

legal-answer : (terms : Terms) (s : Standing) (at from : ℕ) (answer : Answer) → Dec (IsLegalAnswer terms s at from answer)
legal-answer terms s at from (Accepted number) =
    map_dec (λ f. record { handled = f.0; numbered = f.1 }) (λ legal. (legal.handled, legal.numbered)) (both (is-handled terms s at from) (ℕ_discrete number (s.accepted + 1)))
legal-answer terms s at from Full =
    map_dec (λ f. record { full = f.0; at_once = f.1 }) (λ legal. (legal.full, legal.at_once)) (both (ℕ_discrete (length s.rest) (buffer_size terms.program)) (ℕ_discrete at from))
legal-answer terms s at from (Lost boot) =
    map_dec (λ f. record { handled = f.0; numbered = f.1 }) (λ legal. (legal.handled, legal.numbered)) (both (is-handled terms s at from) (ℕ_discrete boot (s.boots + 1)))

legal-post : (terms : Terms) (s : Standing) (at : ℕ) (posted : Raised) → Dec (IsLegalPost terms s at posted)
legal-post terms s at posted =
    map_dec (λ f. record { counted = f.0; raised = f.1.0; answer = f.1.1 }) (λ legal. (legal.counted, (legal.raised, legal.answer)))
    (both (ℕ_discrete posted.index (s.raised posted.device + 1)) (both (dec_le s.latest posted.from) (legal-answer terms s at posted.from posted.answer)))

follows-lost : (s : Standing) (lost : Option ℕ) (mark : Mark) → Dec (FollowsLost s lost mark)
follows-lost s None mark = yes tt
follows-lost s (Some boot) mark =
    map_dec (λ f. record { boots = f.0; at_once = f.1 }) (λ follows. (follows.boots, follows.at_once)) (both (is-boot mark.kind boot) (ℕ_discrete mark.at s.latest))

-- aborts
unit-at : (program : Program) (place : ℕ) (unit : Committed) → Dec (IsUnitAt program place unit)
unit-at program place (Task task) = both (ℕ_discrete place task) (is-lone program task)
unit-at program place (Transaction tx) = is-number (first_task program tx) place
unit-at program place (Event event) = no (λ never. never)

module _ (told : WrittenWordsAreTold) where
  clash-by : (program : Program) (stand : Stand) (count : ℕ) (held : Held) (word : ℕ) (some : Option Reached) → tasks_effect program stand.place stand.store count ≡ some →
      Dec (IsClashWord program stand count held word)
  clash-by program stand count held word None is = no (λ clash. let never : None ≡ Some clash.reached = sym is ∙ clash.tasks in absurd (cc))
  clash-by program stand count held word (Some reached) is =
      let event = event_effect program held.event held.argument stand.store in
      map_dec (λ least. record { reached = reached; tasks = is; least = least })
      (λ clash.
      let some : Some clash.reached ≡ Some reached = sym clash.tasks ∙ is in
      let same : clash.reached ≡ reached = cc in
      subst (λ (r : Reached). IsLeastClash event r.done word) same clash.least)
      (is-least-clash told event reached.done word)

  abort-by : (terms : Terms) (s : Standing) (aborted : AbortOf) (due : Option Held) → due_posting s.rest ≡ due → Dec (IsAbortLegal terms s aborted)
  abort-by terms s aborted None is = no (λ legal. let never : None ≡ Some legal.held = sym is ∙ legal.due in absurd (cc))
  abort-by terms s aborted (Some held) is =
      map_dec (λ f. record { mode = f.0; unit = f.1.0; held = held; due = is; posting = f.1.1.0; word = f.1.1.1 })
      (λ legal.
      let some : Some legal.held ≡ Some held = sym legal.due ∙ is in
      let same : legal.held ≡ held = cc in (
        legal.mode,
        (
          legal.unit,
          (
            sym (ap (λ (h : Held). h.number) same) ∙ legal.posting,
            subst (λ (h : Held). IsClashWord terms.program s.run aborted.tasks h aborted.word) same legal.word,
          ),
        ),
      ))
      (both (is-mode terms.mode Buffi) (both (unit-at terms.program s.run.place aborted.unit) (both (ℕ_discrete held.number aborted.posting)
      (clash-by terms.program s.run aborted.tasks held aborted.word (tasks_effect terms.program s.run.place s.run.store aborted.tasks) refl))))

  -- the facts of a mark by its kind
  keeps-serial : (program : Program) (all : List Reading) (s : Standing) (mark : MarkKind) → Dec (KeepsSerial program all s mark)
  keeps-serial program all s (kind.Boot number) = yes tt
  keeps-serial program all s (kind.Posted posted) = yes tt
  keeps-serial program all s (kind.Done task) = yes tt
  keeps-serial program all s (kind.Commit committed) =
      unit-next program s.rest s.run (record { committed = committed; reads = readings_in all committed }) committed.unit
  keeps-serial program all s (kind.Abort aborted) = yes tt
  keeps-serial program all s (kind.End end) = yes tt

  keeps-order : (terms : Terms) (s : Standing) (at : ℕ) (mark : MarkKind) → Dec (KeepsOrder terms s at mark)
  keeps-order terms s at (kind.Boot number) = yes tt
  keeps-order terms s at (kind.Posted posted) = legal-post terms s at posted
  keeps-order terms s at (kind.Done task) = yes tt
  keeps-order terms s at (kind.Commit committed) = in-order s.rest committed.posting committed.unit
  keeps-order terms s at (kind.Abort aborted) = yes tt
  keeps-order terms s at (kind.End end) = yes tt

  keeps-aborts : (terms : Terms) (s : Standing) (mark : MarkKind) → Dec (KeepsAborts terms s mark)
  keeps-aborts terms s (kind.Boot number) = yes tt
  keeps-aborts terms s (kind.Posted posted) = yes tt
  keeps-aborts terms s (kind.Done task) = yes tt
  keeps-aborts terms s (kind.Commit committed) = yes tt
  keeps-aborts terms s (kind.Abort aborted) = abort-by terms s aborted (due_posting s.rest) refl
  keeps-aborts terms s (kind.End end) = yes tt

  keeps-boots : (s : Standing) (at : ℕ) (mark : MarkKind) → Dec (KeepsBoots s at mark)
  keeps-boots s at (kind.Boot number) =
      map_dec (λ f. record { counted = f.0; later = f.1 }) (λ legal. (legal.counted, legal.later)) (both (ℕ_discrete number (s.boots + 1)) (dec_lt s.last_boot at))
  keeps-boots s at (kind.Posted posted) = yes tt
  keeps-boots s at (kind.Done task) = yes tt
  keeps-boots s at (kind.Commit committed) = yes tt
  keeps-boots s at (kind.Abort aborted) = yes tt
  keeps-boots s at (kind.End end) = yes tt

  end-legal : (s : Standing) (told_end : End) → Dec (IsEndLegal s told_end)
  end-legal s end.Idle = map_dec (λ f. record { place = f.0; rest = f.1 }) (λ legal. (legal.place, legal.rest)) (both (ℕ_discrete s.run.place halt) (is-empty s.rest))
  end-legal s end.Limit = yes tt

  keeps-end : (s : Standing) (mark : MarkKind) → Dec (KeepsEnd s mark)
  keeps-end s (kind.Boot number) = yes tt
  keeps-end s (kind.Posted posted) = yes tt
  keeps-end s (kind.Done task) = yes tt
  keeps-end s (kind.Commit committed) = yes tt
  keeps-end s (kind.Abort aborted) = yes tt
  keeps-end s (kind.End told_end) = end-legal s told_end

  legal-mark : (terms : Terms) (all : List Reading) (s : Standing) (mark : Mark) → Dec (IsLegalMark terms all s mark)
  legal-mark terms all s mark =
      map_dec (λ f. record { serial = f.0; postings = record { in_time = f.1.0; follows = f.1.1.0; order = f.1.1.1.0 }; aborts = f.1.1.1.1.0; boots = f.1.1.1.1.1.0; end = f.1.1.1.1.1.1 })
      (λ legal. (legal.serial, (legal.postings.in_time, (legal.postings.follows, (legal.postings.order, (legal.aborts, (legal.boots, legal.end)))))))
      (both (keeps-serial terms.program all s mark.kind) (both (dec_le s.latest mark.at) (both (follows-lost s s.lost mark) (both (keeps-order terms s mark.at mark.kind)
      (both (keeps-aborts terms s mark.kind) (both (keeps-boots s mark.at mark.kind) (keeps-end s mark.kind)))))))

  meets : (program : Program) (mode : Mode) (all : List Reading) (s : Standing) (line : TextLine) → Dec (MeetsCondition program mode all s line)
  meets program mode all s (TextLine.mode_is told_mode) = is-mode told_mode mode
  meets program mode all s (TextLine.bound_is bound) = ℕ_discrete bound (period_bound program)
  meets program mode all s (TextLine.shows line) = legal-mark (terms_of program mode) all s (mark_of line s)
  meets program mode all s (TextLine.ends told_end) = legal-mark (terms_of program mode) all s (mark_at s.latest (kind.End told_end))
  meets program mode all s (TextLine.holds first values) =
      each-below (λ (k : ℕ). slice_index values k ≡ s.run.store (first + k)) (λ k. ℕ_discrete (slice_index values k) (s.run.store (first + k))) (length values)
  meets program mode all s (TextLine.held_are held) = ℕ_discrete held (length s.rest)

  module _ (program : Program) (mode : Mode) (printed : Printed) where
    verdict-from : (s : Standing) (number : ℕ) (left : List TextLine) → HasCome program mode printed s number left → (verdict : Verdict) × IsVerdict program mode printed verdict
    verdict-from s number [] come = (Serial, ends program mode printed s number come)
    verdict-from s number (line ∷ left) come =
        elim (meets program mode printed.readings s line) [
          | yes met ↦ verdict-from (behind_line program mode printed.readings s line) (number + 1) left (goes-on program mode printed s number line left come met)
          | no unmet ↦ (Differs number, differs program mode printed s number line left come unmet)
        ]

    pub has-verdict : (verdict : Verdict) × IsVerdict program mode printed verdict
    has-verdict = verdict-from (opening program) 1 (text_lines program printed) (begins program mode printed)
