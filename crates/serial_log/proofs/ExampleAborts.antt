-- Histories in which events come before the unit of tasks under which they were posted.
use Rattle.std.proofs.Common.{List, [], ◌∷◌, refl, ap, sym, arith}
use Rattle.coati_word.specs.declared.reading.Reading.{Reading}
use Rattle.task_syntax.specs.Course.{Access, after, readings}
use Rattle.task_syntax.specs.Units.{halt}
use Rattle.serial_log.specs.declared.mark.Mark.{Mark}
use Rattle.serial_log.specs.declared.mark.MarkKind.TheVariants.{Done, End}
use Rattle.serial_log.specs.declared.posted.Answer.TheVariants.{Accepted}
use Rattle.serial_log.specs.declared.end.End.TheVariants.{Idle}
use Rattle.serial_log.specs.SerialRun.{behind_tasks}
use Rattle.serial_log.specs.Standing.{Standing, opening, after_mark}
use Rattle.serial_log.specs.Legal.{IsLegalMark, AreMarksLegal}
use Rattle.serial_log.proofs.Walks.{each_step}
use Rattle.serial_log.proofs.ExampleParts.{copies, copies_terms, copied, copies_whole, copies_after, sets, start, counts, counts_terms, ten_added, adds_ten, twenty_added, adds_twenty, counted, counts_one, reading, held, mark, post, task, transaction, event, abort}

-- post 0.1 e 9 from 18 at 29 accepted 1 / abort transaction t tasks 2 posting 1 word a / commit event e posting 1 reads
-- / commit transaction t tasks 2 reads a=9 b=9 / end idle
abbrev pub aborted : List Mark
aborted =
    mark 8 (Done 0) ∷ mark 29 (post 0 1 9 18 (Accepted 1)) ∷ mark 37 (abort 2 1 0) ∷ mark 44 (event 1 0 0) ∷ mark 55 (Done 0) ∷ mark 73 (transaction 0 2) ∷ mark 80 (End Idle)
    ∷ []

abbrev pub reads_again : List Reading
reads_again = reading 0 9 ∷ reading 1 9 ∷ []

abbrev pub at_post : Standing
at_post = after_mark copies (after_mark copies (opening copies) (mark 8 (Done 0))) (mark 29 (post 0 1 9 18 (Accepted 1)))

abbrev at_abort : Standing
at_abort = after_mark copies at_post (mark 37 (abort 2 1 0))

abbrev at_event : Standing
at_event = record at_abort { run = record { store = after (Access.wrote 0 9 ∷ []) start; place = 0 }; rest = []; latest = 44 }

abbrev done_again : Standing
done_again = record at_event { latest = 55 }

abbrev at_end : Standing
at_end = record done_again { run = record { store = after (copied 9).done (after (Access.wrote 0 9 ∷ []) start); place = halt }; latest = 73 }

pub abort_legal : IsLegalMark copies_terms reads_again at_post (mark 37 (abort 2 1 0))
abort_legal = record {
  serial = tt;
  postings = record { in_time = omega arith; follows = tt; order = tt };
  aborts = record {
    mode = refl;
    unit = refl;
    held = held 1 9;
    due = refl;
    posting = refl;
    word = record {
      reached = copied 1;
      tasks = copies_whole;
      least = record { clash = record { written = rw (sets start) (0, omega arith, refl); shared = refl }; least = λ other clash. omega arith };
    };
  };
  boots = tt;
  end = tt;
}

aborted_legal : AreMarksLegal copies_terms reads_again aborted
aborted_legal = (
  record { serial = tt; postings = record { in_time = omega arith; follows = tt; order = tt }; aborts = tt; boots = tt; end = tt },
  (
    record {
      serial = tt;
      postings = record {
        in_time = omega arith;
        follows = tt;
        order = record {
          counted = refl;
          raised = omega arith;
          answer = record { handled = record { room = omega arith; later = omega arith; soon = omega arith }; numbered = refl };
        };
      };
      aborts = tt;
      boots = tt;
      end = tt;
    },
    (
      abort_legal,
      each_step (after_mark copies) (IsLegalMark copies_terms reads_again) at_abort at_event (mark 44 (event 1 0 0)) (mark 55 (Done 0) ∷ mark 73 (transaction 0 2) ∷ mark 80 (End Idle) ∷ [])
          (record {
            serial = record { no_tasks = refl; held = held 1 9; posting = refl; its_event = refl; reads = ap readings (sym (sets start)) };
            postings = record { in_time = omega arith; follows = tt; order = record { oldest = held 1 9; due = refl; number = refl } };
            aborts = tt;
            boots = tt;
            end = tt;
          })
          (rw (sets start) refl) (
            record { serial = tt; postings = record { in_time = omega arith; follows = tt; order = tt }; aborts = tt; boots = tt; end = tt },
            each_step (after_mark copies) (IsLegalMark copies_terms reads_again) done_again at_end (mark 73 (transaction 0 2)) (mark 80 (End Idle) ∷ [])
                (record {
                  serial = record { place = refl; no_posting = refl; reached = copied 9; whole = copies_after; reads = refl };
                  postings = record { in_time = omega arith; follows = tt; order = tt };
                  aborts = tt;
                  boots = tt;
                  end = tt;
                })
                (rw copies_after refl)
                (record { serial = tt; postings = record { in_time = omega arith; follows = tt; order = tt }; aborts = tt; boots = tt; end = record { place = refl; rest = refl } }, tt),
          ),
    ),
  ),
)

-- post 0.1 e 10 from 2 at 15 accepted 1 / post 0.2 e 20 from 15 at 28 accepted 2 / commit event e posting 1 reads a=1
-- / commit event e posting 2 reads a=11 / commit task p reads b=0 / end idle
abbrev pub two_events : List Mark
two_events = mark 15 (post 0 1 10 2 (Accepted 1)) ∷ mark 28 (post 0 2 20 15 (Accepted 2)) ∷ mark 36 (event 1 0 1) ∷ mark 41 (event 2 1 1) ∷ mark 46 (task 2 1) ∷ mark 50 (End Idle) ∷ []

abbrev pub reads_in_order : List Reading
reads_in_order = reading 0 1 ∷ reading 0 11 ∷ reading 1 0 ∷ []

abbrev pub both_posted : Standing
both_posted = after_mark counts (after_mark counts (opening counts) (mark 15 (post 0 1 10 2 (Accepted 1)))) (mark 28 (post 0 2 20 15 (Accepted 2)))

abbrev first_served : Standing
first_served = record both_posted { run = record { store = after ten_added start; place = 0 }; rest = held 2 20 ∷ []; latest = 36 }

abbrev both_served : Standing
both_served = record first_served { run = record { store = after twenty_added (after ten_added start); place = 0 }; rest = []; latest = 41 }

abbrev task_done : Standing
task_done = record both_served { run = record { store = after counted.done (after twenty_added (after ten_added start)); place = halt }; latest = 46 }

two_events_legal : AreMarksLegal counts_terms reads_in_order two_events
two_events_legal = (
  record {
    serial = tt;
    postings = record {
      in_time = omega arith;
      follows = tt;
      order = record {
        counted = refl;
        raised = omega arith;
        answer = record { handled = record { room = omega arith; later = omega arith; soon = omega arith }; numbered = refl };
      };
    };
    aborts = tt;
    boots = tt;
    end = tt;
  },
  (
    record {
      serial = tt;
      postings = record {
        in_time = omega arith;
        follows = tt;
        order = record {
          counted = refl;
          raised = omega arith;
          answer = record { handled = record { room = omega arith; later = omega arith; soon = omega arith }; numbered = refl };
        };
      };
      aborts = tt;
      boots = tt;
      end = tt;
    },
    each_step (after_mark counts) (IsLegalMark counts_terms reads_in_order) both_posted first_served (mark 36 (event 1 0 1)) (mark 41 (event 2 1 1) ∷ mark 46 (task 2 1) ∷ mark 50 (End Idle) ∷ [])
        (record {
          serial = record { no_tasks = refl; held = held 1 10; posting = refl; its_event = refl; reads = ap readings (sym adds_ten) };
          postings = record { in_time = omega arith; follows = tt; order = record { oldest = held 1 10; due = refl; number = refl } };
          aborts = tt;
          boots = tt;
          end = tt;
        })
        (rw adds_ten refl)
        (each_step (after_mark counts) (IsLegalMark counts_terms reads_in_order) first_served both_served (mark 41 (event 2 1 1)) (mark 46 (task 2 1) ∷ mark 50 (End Idle) ∷ [])
        (record {
          serial = record { no_tasks = refl; held = held 2 20; posting = refl; its_event = refl; reads = ap readings (sym adds_twenty) };
          postings = record { in_time = omega arith; follows = tt; order = record { oldest = held 2 20; due = refl; number = refl } };
          aborts = tt;
          boots = tt;
          end = tt;
        })
        (rw adds_twenty refl)
        (each_step (after_mark counts) (IsLegalMark counts_terms reads_in_order) both_served task_done (mark 46 (task 2 1)) (mark 50 (End Idle) ∷ [])
        (record {
          serial = record { place = refl; lone = record { there = omega arith; alone = refl }; one_task = refl; no_posting = refl; reads = ap (λ reached. readings reached.done) (sym counts_one) };
          postings = record { in_time = omega arith; follows = tt; order = tt };
          aborts = tt;
          boots = tt;
          end = tt;
        })
        (ap (λ reached. record both_served { run = behind_tasks both_served.run reached; latest = 46 }) counts_one)
        (record { serial = tt; postings = record { in_time = omega arith; follows = tt; order = tt }; aborts = tt; boots = tt; end = record { place = refl; rest = refl } }, tt))),
  ),
)
