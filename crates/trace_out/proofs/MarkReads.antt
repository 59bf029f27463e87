-- Lines that show marks: what was read of a line, and that it is read again.
use Rattle.std.proofs.Common.{◌≡◌, ℕ, ◌<◌, ◌≤◌, List, [], ◌++◌, Some, None, length, refl, sym, ap, subst, ◌∙◌, inl, inr, arith, append_assoc}
use Rattle.std.specs.Prelude.{codes, flat_map}
use Rattle.std.specs.Fmt.{decimal}
use Rattle.std.specs.List.{AllByRecursion}
use Rattle.std.specs.Str.{bytes_eq}
use Rattle.std.proofs.lemmas.Bool.{cases_Bool}
use Rattle.std.proofs.lemmas.List.{append-nil}
use Rattle.std.proofs.lemmas.Slice.Eq.{bytes_eq-Decides}
use Rattle.std.proofs.lemmas.Option.{same_Some}
use Rattle.coati_text.specs.Decimal.{digit_count}
use Rattle.coati_word.specs.declared.reading.Reading.{Reading}
use Rattle.serial_log.specs.declared.abort.AbortOf.{AbortOf}
use Rattle.serial_log.specs.declared.line.Line.{Line}
use Rattle.serial_log.specs.declared.line.Line.TheVariants as line
use Rattle.serial_log.specs.declared.posted.Answer.{Answer}
use Rattle.serial_log.specs.declared.posted.Answer.TheVariants as answer
use Rattle.serial_log.specs.declared.posted.Posted.{Posted}
use Rattle.serial_log.specs.declared.record.Record.{Record}
use Rattle.serial_log.specs.declared.unit.Unit.{Unit as Committed}
use Rattle.serial_log.specs.declared.unit.Unit.TheVariants as unit
use Rattle.task_syntax.specs.declared.program.Program.{Program}
use Rattle.trace_out.specs.declared.raised.Raised.{Raised}
use Rattle.trace_out.specs.declared.shown.Shown.{Shown}
use Rattle.trace_out.specs.Front.{behind, last_number, number_at}
use Rattle.trace_out.specs.LineReading.{abort_in, answer_in, boot_in, commit_in, mark_in, of_tasks, plain_in, post_in, posted_of, posting_at, raised_at, readings_in, record_at, shown_commit, shown_plain, tasks_at, unit_at}
use Rattle.trace_out.specs.Lookups.{event_at, word_at}
use Rattle.trace_out.specs.Names.{event_name, word_text}
use Rattle.trace_out.specs.Printed.{IsAbort, IsAnswerInRange, IsLine, IsOfTasks, IsPost, IsReading, IsRecord, greatest_device, greatest_number, greatest_value}
use Rattle.trace_out.specs.Shown.{abort_line, answer_text, boot_line, commit_line, post_line, reading_text, count_text, unit_text}
use Rattle.trace_out.specs.Lines.{word_and_number}
use Rattle.trace_out.proofs.Binds.{bound, made, chosen}
use Rattle.trace_out.proofs.Fronts.{alone-parts, behind-again, behind-parts, last_number-again, last_number-parts, number_at-again, number_at-parts}
use Rattle.trace_out.proofs.ReadingReads.{readings_in-again, readings_in-parts}
use Rattle.trace_out.proofs.UnitReads.{IsNamed, bare, event_at-again, event_at-parts, posting_at-again, posting_at-parts, record_at-again, record_at-parts, record_text, tasks_at-again, tasks_at-parts, unit_at-again, unit_at-parts}
use Rattle.trace_out.proofs.WordPlaces.{word_at-again, word_at-parts}

-- the text of a line with these readings of its own
abbrev pub own_text : Program → List Reading → Line → List ℕ
own_text program reads (line.Boot number at) = boot_line at number
own_text program reads (line.Post at posted) = post_line program at posted
own_text program reads (line.Commit committed) = commit_line program committed reads
own_text program reads (line.Abort aborted) = abort_line program aborted

-- its readings begin here, and are so many
abbrev pub IsPlaced : ℕ → Line → List Reading → Type 0
IsPlaced from (line.Commit committed) reads = (committed.reads_from ≡ from)
    × (committed.reads_len ≡ length reads)
IsPlaced from _ reads = reads ≡ []

-- a line that was read
pub record IsLineRead (program : Program) (text : List ℕ) (shown : Line) : Type 0 where
  pub spelled : text ≡ own_text program [] shown
  pub is : IsLine program shown
  pub placed : (from : ℕ) → IsPlaced from shown []

-- boots
boot_in-parts : (program : Program) (text : List ℕ) (shown : Line) → boot_in text ≡ Some shown
    → IsLineRead program (codes "boot " ++ text) shown
unfolding boot_in
boot_in-parts program text shown read =
    let one = bound (number_at greatest_number text) read in
    let two = bound (behind (codes " at ") one.value.1) one.goes_on in
    let three = bound (last_number greatest_number two.value) two.goes_on in
    let number = one.value.0 in
    let is = same_Some (line.Boot number three.value) shown three.goes_on in
    let a = number_at-parts greatest_number text one.value (omega arith) one.was in
    let b = behind-parts (codes " at ") one.value.1 two.value two.was in
    let c = last_number-parts greatest_number two.value three.value (omega arith) three.was in
    let text_is : text ≡ decimal number ++ (codes " at " ++ decimal three.value) =
    a.spelled ∙ ap (λ (t : List ℕ). decimal number ++ t)
    (b ∙ ap (λ (t : List ℕ). codes " at " ++ t) c.spelled) in
    subst (IsLineRead program (codes "boot " ++ text)) is (record {
      spelled = ap (λ (t : List ℕ). codes "boot " ++ t) text_is;
      is = (a.within, c.within);
      placed = λ from. refl;
    })

boot_in-again : (number at : ℕ) → number ≤ greatest_number → at ≤ greatest_number → boot_in
    (decimal number ++ (codes " at " ++ decimal at)) ≡ Some (line.Boot number at)
unfolding boot_in
boot_in-again number at small early =
    let one = number_at-again greatest_number number (codes " at " ++ decimal at)
    (omega arith) small refl in
    let two = behind-again (codes " at ") (decimal at) in
    let three = last_number-again greatest_number at (omega arith) early in
    rw (one, two, three) refl

-- answers
record IsAnswerRead (text : List ℕ) (answer : Answer) : Type 0 where
  spelled : text ≡ answer_text answer
  is : IsAnswerInRange answer

answer_in-parts : (text : List ℕ) (x : Answer) → answer_in text ≡ Some x → IsAnswerRead text x
unfolding answer_in
answer_in-parts text x read = elim (cases_Bool (bytes_eq text (codes " full"))) [
  | inl full ↦
      let same : Some answer.Full ≡ Some x = rw full at read in
      let is : answer.Full ≡ x = cc in
      subst (IsAnswerRead text) is
      (record { spelled = (bytes_eq-Decides text (codes " full")).0 full; is = tt })
  | inr other ↦ elim (chosen (behind (codes " accepted ") text) (rw other at read)) [
    | inl one ↦
        let two = made (last_number greatest_number one.value) one.goes_on in
        let number = last_number-parts greatest_number one.value two.value (omega arith) two.was in
        subst (IsAnswerRead text) two.is (record {
          spelled = behind-parts (codes " accepted ") text one.value one.was
              ∙ ap (λ (t : List ℕ). codes " accepted " ++ t) number.spelled;
          is = number.within;
        })
    | inr none ↦
        let one = bound (behind (codes " lost ") text) none.goes_on in
        let two = made (last_number greatest_number one.value) one.goes_on in
        let number = last_number-parts greatest_number one.value two.value (omega arith) two.was in
        subst (IsAnswerRead text) two.is (record {
          spelled = behind-parts (codes " lost ") text one.value one.was
              ∙ ap (λ (t : List ℕ). codes " lost " ++ t) number.spelled;
          is = number.within;
        })
  ]
]

no_accepted : (rest : List ℕ) → behind (codes " accepted ") (codes " lost " ++ rest) ≡ None
unfolding behind
no_accepted rest = refl

answer_in-again : (x : Answer) → IsAnswerInRange x → answer_in (answer_text x) ≡ Some x
unfolding answer_in
answer_in-again (answer.Accepted number) is =
    let one : behind (codes " accepted ") (codes " accepted " ++ decimal number) ≡ Some
    (decimal number) = behind-again (codes " accepted ") (decimal number) in
    rw (one, last_number-again greatest_number number (omega arith) is) refl
answer_in-again answer.Full is = refl
answer_in-again (answer.Lost boot) is =
    let one : behind (codes " lost ") (codes " lost " ++ decimal boot) ≡ Some (decimal boot) =
    behind-again (codes " lost ") (decimal boot) in
    rw (
      no_accepted (decimal boot),
      one,
      last_number-again greatest_number boot
          (omega arith) is,
    ) refl

-- postings
abbrev raised_tail : Program → Raised → List ℕ → List ℕ
raised_tail program raised rest =
    decimal raised.device ++
    (codes "." ++ (decimal raised.index
    ++ (codes " " ++ (event_name program raised.event
    ++ (codes " " ++ (decimal raised.argument ++ rest))))))

record IsRaised (program : Program) (raised : Raised) : Type 0 where
  device : raised.device ≤ greatest_device
  index : raised.index ≤ greatest_number
  event : raised.event < length program.events
  argument : raised.argument ≤ greatest_value

record IsRaisedRead (program : Program) (text : List ℕ) (x : Raised × List ℕ) : Type 0 where
  spelled : text ≡ raised_tail program x.0 x.1
  is : IsRaised program x.0

raised_at-parts : (program : Program) (text : List ℕ) (x : Raised × List ℕ)
    → raised_at program text ≡ Some x → IsRaisedRead program text x
unfolding raised_at
raised_at-parts program text x read =
    let device = bound (number_at greatest_device text) read in
    let dotted = bound (behind (codes ".") device.value.1) device.goes_on in
    let index = bound (number_at greatest_number dotted.value) dotted.goes_on in
    let named = bound (behind (codes " ") index.value.1) index.goes_on in
    let event = bound (event_at program named.value) named.goes_on in
    let given = bound (behind (codes " ") event.value.1) event.goes_on in
    let argument = bound (number_at greatest_value given.value) given.goes_on in
    let own : Raised = record {
      device = device.value.0;
      index = index.value.0;
      event =
          event.value.0;
      argument = argument.value.0;
    } in
    let is = same_Some (own, argument.value.1) x argument.goes_on in
    let a = number_at-parts greatest_device text device.value (omega arith) device.was in
    let b = behind-parts (codes ".") device.value.1 dotted.value dotted.was in
    let c = number_at-parts greatest_number dotted.value index.value (omega arith) index.was in
    let d = behind-parts (codes " ") index.value.1 named.value named.was in
    let e = event_at-parts program named.value event.value event.was in
    let f = behind-parts (codes " ") event.value.1 given.value given.was in
    let g = number_at-parts greatest_value given.value argument.value (omega arith) argument.was in
    let four : given.value ≡ decimal own.argument ++ argument.value.1 = g.spelled in
    let three : named.value ≡ event_name program own.event
    ++ (codes " " ++ (decimal own.argument ++ argument.value.1)) =
    e.spelled ∙ ap (λ (t : List ℕ). event_name program own.event ++ t)
    (f ∙ ap (λ (t : List ℕ). codes " " ++ t) four) in
    let two : dotted.value ≡ decimal own.index
    ++ (codes " " ++ (event_name program own.event
    ++ (codes " " ++ (decimal own.argument ++ argument.value.1)))) =
    c.spelled ∙ ap (λ (t : List ℕ). decimal own.index ++ t)
    (d ∙ ap (λ (t : List ℕ). codes " " ++ t) three) in
    subst (IsRaisedRead program text) is (record {
      spelled = a.spelled ∙ ap (λ (t : List ℕ). decimal own.device ++ t)
          (b ∙ ap (λ (t : List ℕ). codes "." ++ t) two);
      is = record { device = a.within; index = c.within; event = e.within; argument = g.within };
    })

raised_at-again : (program : Program) (raised : Raised) (rest : List ℕ) → IsNamed program
    → IsRaised program raised → digit_count rest ≡ 0
    → raised_at program (raised_tail program raised rest) ≡ Some (raised, rest)
unfolding raised_at
raised_at-again program raised rest named is ends =
    let given = decimal raised.argument ++ rest in
    let event = event_name program raised.event ++ (codes " " ++ given) in
    let index = decimal raised.index ++ (codes " " ++ event) in
    let a = number_at-again greatest_device raised.device (codes "." ++ index)
    (omega arith) is.device refl in
    let b = behind-again (codes ".") index in
    let c = number_at-again greatest_number raised.index (codes " " ++ event)
    (omega arith) is.index refl in
    let d = behind-again (codes " ") event in
    let e = event_at-again program raised.event (codes " " ++ given) named is.event refl in
    let f = behind-again (codes " ") given in
    let g = number_at-again greatest_value raised.argument rest (omega arith) is.argument ends in
    rw (a, b, c, d, e, f, g) refl

-- what a posting raised
abbrev raised_of : Posted → Raised
raised_of posted = record {
  device = posted.device;
  index = posted.index;
  event = posted.event;
  argument = posted.argument;
}

abbrev post_tail : Program → ℕ → Posted → List ℕ
post_tail program at posted =
    raised_tail program (raised_of posted)
    (codes " from " ++ (decimal posted.from
    ++ (codes " at " ++ (decimal at ++ answer_text posted.answer))))

flat_post : (a b c d e f g h i j k l : List ℕ) → a ++ b ++ c ++ d ++ (e ++ f ++ g) ++ (h ++ i)
    ++ (j ++ k) ++ l
    ≡ a ++ (b ++ (c ++ (d ++ (e ++ (f ++ (g ++ (h ++ (i ++ (j ++ (k ++ l))))))))))
flat_post a b c d e f g h i j k l = simp append_assoc

post_line-is : (program : Program) (at : ℕ) (posted : Posted) → codes "post "
    ++ post_tail program at posted ≡ post_line program at posted
post_line-is program at posted =
    sym (flat_post (codes "post " ++ decimal posted.device) (codes ".") (decimal posted.index)
    (codes " ") (event_name program posted.event) (codes " ") (decimal posted.argument)
    (codes " from ") (decimal posted.from) (codes " at ") (decimal at) (answer_text posted.answer))

digit_count-answer : (x : Answer) → digit_count (answer_text x) ≡ 0
digit_count-answer (answer.Accepted number) = refl
digit_count-answer answer.Full = refl
digit_count-answer (answer.Lost boot) = refl

post_in-parts : (program : Program) (text : List ℕ) (shown : Line) → post_in program text
    ≡ Some shown → IsLineRead program (codes "post " ++ text) shown
unfolding post_in
post_in-parts program text shown read =
    let raised = bound (raised_at program text) read in
    let since = bound (behind (codes " from ") raised.value.1) raised.goes_on in
    let from = bound (number_at greatest_number since.value) since.goes_on in
    let timed = bound (behind (codes " at ") from.value.1) from.goes_on in
    let at = bound (number_at greatest_number timed.value) timed.goes_on in
    let told = bound (answer_in at.value.1) at.goes_on in
    let own = posted_of raised.value.0 from.value.0 told.value in
    let is = same_Some (line.Post at.value.0 own) shown told.goes_on in
    let a = raised_at-parts program text raised.value raised.was in
    let b = behind-parts (codes " from ") raised.value.1 since.value since.was in
    let c = number_at-parts greatest_number since.value from.value (omega arith) from.was in
    let d = behind-parts (codes " at ") from.value.1 timed.value timed.was in
    let e = number_at-parts greatest_number timed.value at.value (omega arith) at.was in
    let f = answer_in-parts at.value.1 told.value told.was in
    let three : timed.value ≡ decimal at.value.0 ++ answer_text told.value = e.spelled
    ∙ ap (λ (t : List ℕ). decimal at.value.0 ++ t) f.spelled in
    let two : since.value ≡ decimal from.value.0
    ++ (codes " at " ++ (decimal at.value.0 ++ answer_text told.value)) =
    c.spelled ∙ ap (λ (t : List ℕ). decimal from.value.0 ++ t)
    (d ∙ ap (λ (t : List ℕ). codes " at " ++ t) three) in
    let one : text ≡ post_tail program at.value.0 own = a.spelled
    ∙ ap (raised_tail program raised.value.0)
    (b ∙ ap (λ (t : List ℕ). codes " from " ++ t) two) in
    subst (IsLineRead program (codes "post " ++ text)) is (record {
      spelled = ap (λ (t : List ℕ). codes "post " ++ t) one ∙ post_line-is program at.value.0 own;
      is = record {
        device = a.is.device;
        index = a.is.index;
        event = a.is.event;
        argument =
            a.is.argument;
        from = c.within;
        answered = e.within;
        answer = f.is;
      };
      placed = λ from. refl;
    })

post_in-again : (program : Program) (at : ℕ) (posted : Posted) → IsNamed program
    → IsPost program at posted → post_in program (post_tail program at posted) ≡ Some
    (line.Post at posted)
unfolding post_in
post_in-again program at posted named is =
    let timed = decimal at ++ answer_text posted.answer in
    let since = decimal posted.from ++ (codes " at " ++ timed) in
    let a = raised_at-again program (raised_of posted) (codes " from " ++ since) named
    (record {
      device = is.device;
      index = is.index;
      event = is.event;
      argument =
          is.argument;
    }) refl in
    let b = behind-again (codes " from ") since in
    let c = number_at-again greatest_number posted.from (codes " at " ++ timed)
    (omega arith) is.from refl in
    let d = behind-again (codes " at ") timed in
    let e = number_at-again greatest_number at (answer_text posted.answer)
    (omega arith) is.answered (digit_count-answer posted.answer) in
    let f = answer_in-again posted.answer is.answer in
    rw (a, b, c, d, e, f) refl

-- aborts
abbrev abort_tail : Program → AbortOf → List ℕ → List ℕ
abort_tail program aborted rest =
    unit_text program aborted.unit ++ (word_and_number (codes " tasks") aborted.tasks
    ++ (word_and_number (codes " posting") aborted.posting
    ++ (codes " word " ++ (word_text program.vars aborted.word ++ rest))))

flat_abort : (a b c d e f : List ℕ) → a ++ b ++ c ++ d ++ e ++ f ≡ a
    ++ (b ++ (c ++ (d ++ (e ++ f))))
flat_abort a b c d e f = simp append_assoc

abort_line-is : (program : Program) (aborted : AbortOf) → codes "abort "
    ++ abort_tail program aborted [] ≡ abort_line program aborted
abort_line-is program aborted =
    ap (λ (t : List ℕ). codes "abort " ++ (unit_text program aborted.unit
    ++ (word_and_number (codes " tasks") aborted.tasks
    ++ (word_and_number (codes " posting") aborted.posting ++ (codes " word " ++ t)))))
    (append-nil (word_text program.vars aborted.word))
    ∙ sym (flat_abort (codes "abort ") (unit_text program aborted.unit)
    (word_and_number (codes " tasks") aborted.tasks)
    (word_and_number (codes " posting") aborted.posting)
    (codes " word ") (word_text program.vars aborted.word))

-- a unit of tasks is what it was
record IsOne (any of : Committed × List ℕ) : Type 0 where
  same : any ≡ of
  tasks : IsOfTasks of.0

of_tasks-parts : (any of : Committed × List ℕ) → of_tasks any ≡ Some of → IsOne any of
of_tasks-parts (unit.Task task, text) of read =
    let is : (unit.Task task, text) ≡ of = cc in
    subst (IsOne (unit.Task task, text)) is (record { same = refl; tasks = tt })
of_tasks-parts (unit.Transaction tx, text) of read =
    let is : (unit.Transaction tx, text) ≡ of = cc in
    subst (IsOne (unit.Transaction tx, text)) is (record { same = refl; tasks = tt })
of_tasks-parts (unit.Event event, text) of read = cc

of_tasks-again : (of : Committed) (text : List ℕ) → IsOfTasks of → of_tasks (of, text) ≡ Some
    (of, text)
of_tasks-again (unit.Task task) text is = refl
of_tasks-again (unit.Transaction tx) text is = refl
of_tasks-again (unit.Event event) text is = absurd is

abort_in-parts : (program : Program) (text : List ℕ) (shown : Line) → IsNamed program
    → abort_in program text ≡ Some shown → IsLineRead program (codes "abort " ++ text) shown
unfolding abort_in
abort_in-parts program text shown named read =
    let any = bound (unit_at program text) read in
    let of = bound (of_tasks any.value) any.goes_on in
    let tasks = bound (tasks_at of.value.1) of.goes_on in
    let posting = bound (posting_at tasks.value.1) tasks.goes_on in
    let clashed = bound (behind (codes " word ") posting.value.1) posting.goes_on in
    let word = bound (word_at program clashed.value) clashed.goes_on in
    let own : AbortOf = record {
      unit = of.value.0;
      tasks = tasks.value.0;
      posting =
          posting.value.0;
      word = word.value.0;
    } in
    let end = alone-parts (line.Abort own) shown word.value.1 word.goes_on in
    let one = of_tasks-parts any.value of.value of.was in
    let here : unit_at program text ≡ Some of.value = any.was ∙ ap Some one.same in
    let a = unit_at-parts program text of.value here in
    let b = tasks_at-parts of.value.1 tasks.value tasks.was in
    let c = posting_at-parts tasks.value.1 posting.value posting.was in
    let d = behind-parts (codes " word ") posting.value.1 clashed.value clashed.was in
    let e = word_at-parts program clashed.value word.value named.words word.was in
    let four : clashed.value ≡ word_text program.vars own.word ++ [] = e.spelled
    ∙ ap (λ (t : List ℕ). word_text program.vars own.word ++ t) end.1 in
    let three : tasks.value.1 ≡ word_and_number (codes " posting") own.posting
    ++ (codes " word " ++ (word_text program.vars own.word ++ [])) =
    c.spelled ∙ ap (λ (t : List ℕ). word_and_number (codes " posting") own.posting ++ t)
    (d ∙ ap (λ (t : List ℕ). codes " word " ++ t) four) in
    let text_is : text ≡ abort_tail program own [] =
    a.spelled ∙ ap (λ (t : List ℕ). unit_text program own.unit ++ t)
    (b.spelled ∙ ap (λ (t : List ℕ). word_and_number (codes " tasks") own.tasks ++ t) three) in
    subst (IsLineRead program (codes "abort " ++ text)) end.0 (record {
      spelled = ap (λ (t : List ℕ). codes "abort " ++ t) text_is ∙ abort_line-is program own;
      is = record {
        unit = a.has;
        of_tasks = one.tasks;
        tasks = b.fits;
        posting = c.fits;
        word =
            e.within;
      };
      placed = λ from. refl;
    })

abort_in-again : (program : Program) (aborted : AbortOf) → IsNamed program
    → IsAbort program aborted → abort_in program (abort_tail program aborted []) ≡ Some
    (line.Abort aborted)
unfolding abort_in
abort_in-again program aborted named is =
    let clashed = word_text program.vars aborted.word ++ [] in
    let numbered = word_and_number (codes " posting") aborted.posting
    ++ (codes " word " ++ clashed) in
    let counted = word_and_number (codes " tasks") aborted.tasks ++ numbered in
    let a = unit_at-again program aborted.unit counted named is.unit refl in
    let one = of_tasks-again aborted.unit counted is.of_tasks in
    let b = tasks_at-again aborted.tasks numbered is.tasks refl in
    let c = posting_at-again aborted.posting (codes " word " ++ clashed) is.posting refl in
    let d = behind-again (codes " word ") clashed in
    let e = word_at-again program aborted.word [] named.words named.vars is.word refl in
    rw (a, one, b, c, d, e) refl

-- lines without readings
plain_in-parts : (program : Program) (text : List ℕ) (shown : Line) → IsNamed program
    → plain_in program text ≡ Some shown → IsLineRead program text shown
unfolding plain_in
plain_in-parts program text shown named read = elim (chosen (behind (codes "boot ") text) read) [
  | inl boot ↦ subst (λ (t : List ℕ). IsLineRead program t shown)
      (sym (behind-parts (codes "boot ") text boot.value boot.was))
      (boot_in-parts program boot.value shown boot.goes_on)
  | inr none ↦ elim (chosen (behind (codes "post ") text) none.goes_on) [
    | inl post ↦ subst (λ (t : List ℕ). IsLineRead program t shown)
        (sym (behind-parts (codes "post ") text post.value post.was))
        (post_in-parts program post.value shown post.goes_on)
    | inr neither ↦
        let abort = bound (behind (codes "abort ") text) neither.goes_on in
        subst (λ (t : List ℕ). IsLineRead program t shown)
        (sym (behind-parts (codes "abort ") text abort.value abort.was))
        (abort_in-parts program abort.value shown named abort.goes_on)
  ]
]

-- a mark that was read of a line
pub record IsMarkRead (program : Program) (from : ℕ) (text : List ℕ) (shown : Shown) : Type 0 where
  pub spelled : text ≡ own_text program shown.readings shown.line
  pub is : IsLine program shown.line
  pub readings : AllByRecursion (IsReading program) shown.readings
  pub placed : IsPlaced from shown.line shown.readings

flat_commit : (a b c d e : List ℕ) → a ++ b ++ c ++ d ++ e ≡ a ++ (b ++ (c ++ (d ++ e)))
flat_commit a b c d e = simp append_assoc

commit_line-is : (program : Program) (committed : Record) (reads : List Reading)
    → codes "commit " ++ record_text program committed (flat_map (reading_text program) reads)
    ≡ commit_line program committed reads
commit_line-is program committed reads =
    sym (flat_commit (codes "commit ") (unit_text program committed.unit)
    (count_text committed committed.unit) (codes " reads")
    (flat_map (reading_text program) reads))

commit_in-parts : (program : Program) (from : ℕ) (text : List ℕ) (shown : Shown) → IsNamed program
    → commit_in program from text ≡ Some shown → IsMarkRead program from
    (codes "commit " ++ text) shown
unfolding commit_in
commit_in-parts program from text shown named read =
    let one = bound (record_at program from text) read in
    let two = made (readings_in program one.value.1) one.goes_on in
    let at = record_at-parts program from text one.value one.was in
    let reads = readings_in-parts program one.value.1 two.value named two.was in
    let committed : Record = record one.value.0 { reads_len = length two.value } in
    subst (IsMarkRead program from (codes "commit " ++ text)) two.is (record {
      spelled =
          ap (λ (t : List ℕ). codes "commit " ++ t)
          (at.spelled ∙ ap (record_text program one.value.0) reads.spelled)
          ∙ commit_line-is program committed two.value;
      is = record { unit = at.is.unit; counted = at.is.counted };
      readings = reads.are;
      placed = (at.placed, refl);
    })

pub mark_in-parts : (program : Program) (from : ℕ) (text : List ℕ) (shown : Shown)
    → IsNamed program → mark_in program from text ≡ Some shown → IsMarkRead program from text shown
unfolding mark_in
mark_in-parts program from text shown named read =
    elim (chosen (behind (codes "commit ") text) read) [
      | inl commit ↦ subst (λ (t : List ℕ). IsMarkRead program from t shown)
          (sym (behind-parts (codes "commit ") text commit.value commit.was))
          (commit_in-parts program from commit.value shown named commit.goes_on)
      | inr none ↦
          let one = made (plain_in program text) none.goes_on in
          let at = plain_in-parts program text one.value named one.was in
          subst (IsMarkRead program from text) one.is
          (record { spelled = at.spelled; is = at.is; readings = tt; placed = at.placed from })
    ]

commit_in-again : (program : Program) (from : ℕ) (committed : Record) (reads : List Reading)
    → IsNamed program → IsRecord program committed → AllByRecursion (IsReading program) reads
    → committed.reads_from ≡ from → committed.reads_len ≡ length reads
    → commit_in program from (record_text program committed
    (flat_map (reading_text program) reads)) ≡ Some
    (record { line = line.Commit committed; readings = reads })
unfolding commit_in
commit_in-again program from committed reads named is are begin count =
    let text = flat_map (reading_text program) reads in
    let one : record_at program from (record_text program committed text) ≡ Some
    (bare committed, text) =
    ap (λ (n : ℕ). record_at program n (record_text program committed text)) (sym begin)
    ∙ record_at-again program committed text named is in
    let whole : shown_commit (bare committed) reads ≡ record {
      line = line.Commit committed;
      readings = reads;
    } =
    ap (λ (n : ℕ). record {
      line = line.Commit (record committed { reads_len = n });
      readings =
          reads;
    }) (sym count) in
    rw (one, readings_in-again program reads named are) (ap Some whole)

same_shown : (shown : Line) (reads : List Reading) → reads ≡ [] → shown_plain shown
    ≡ record { line = shown; readings = reads }
same_shown shown reads none = ap (λ (r : List Reading). record { line = shown; readings = r })
    (sym none)

-- one kind of mark is no other
no_commit : (rest : List ℕ) → (behind (codes "commit ") (codes "boot " ++ rest) ≡ None)
    × (behind (codes "commit ") (codes "post " ++ rest) ≡ None)
    × (behind (codes "commit ") (codes "abort " ++ rest) ≡ None)
unfolding behind
no_commit rest = (refl, refl, refl)

no_boot : (rest : List ℕ) → (behind (codes "boot ") (codes "post " ++ rest) ≡ None)
    × (behind (codes "boot ") (codes "abort " ++ rest) ≡ None)
unfolding behind
no_boot rest = (refl, refl)

no_post : (rest : List ℕ) → behind (codes "post ") (codes "abort " ++ rest) ≡ None
unfolding behind
no_post rest = refl

pub mark_in-again : (program : Program) (from : ℕ) (shown : Line) (reads : List Reading)
    → IsNamed program → IsLine program shown → AllByRecursion (IsReading program) reads
    → IsPlaced from shown reads → mark_in program from (own_text program reads shown) ≡ Some
    (record { line = shown; readings = reads })
unfolding mark_in plain_in
mark_in-again program from (line.Boot number at) reads named is are placed =
    let one : behind (codes "boot ")
    (codes "boot " ++ (decimal number ++ (codes " at " ++ decimal at))) ≡ Some
    (decimal number ++ (codes " at " ++ decimal at)) =
    behind-again (codes "boot ") (decimal number ++ (codes " at " ++ decimal at)) in
    let other = (no_commit (decimal number ++ (codes " at " ++ decimal at))).0 in
    rw (other, one, boot_in-again number at is.0 is.1)
    (ap Some (same_shown (line.Boot number at) reads placed))
mark_in-again program from (line.Post at posted) reads named is are placed =
    let tail = post_tail program at posted in
    let one : behind (codes "post ") (codes "post " ++ tail) ≡ Some tail = behind-again
    (codes "post ") tail in
    ap (mark_in program from) (sym (post_line-is program at posted))
    ∙ rw ((no_commit tail).1, (no_boot tail).0, one, post_in-again program at posted named is)
    (ap Some (same_shown (line.Post at posted) reads placed))
mark_in-again program from (line.Abort aborted) reads named is are placed =
    let tail = abort_tail program aborted [] in
    let one : behind (codes "abort ") (codes "abort " ++ tail) ≡ Some tail = behind-again
    (codes "abort ") tail in
    ap (mark_in program from) (sym (abort_line-is program aborted))
    ∙ rw (
      (no_commit tail).2,
      (no_boot tail).1,
      no_post tail,
      one,
      abort_in-again program aborted named is,
    )
    (ap Some (same_shown (line.Abort aborted) reads placed))
mark_in-again program from (line.Commit committed) reads named is are placed =
    let tail = record_text program committed (flat_map (reading_text program) reads) in
    let one : behind (codes "commit ") (codes "commit " ++ tail) ≡ Some tail = behind-again
    (codes "commit ") tail in
    ap (mark_in program from) (sym (commit_line-is program committed reads))
    ∙ rw one (commit_in-again program from committed reads named is are placed.0 placed.1)
