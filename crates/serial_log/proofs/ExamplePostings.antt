-- Histories of a transaction and an event whose posting comes under it: accepted, refused, lost.
use Rattle.std.proofs.Common.{ℕ, ◌≤◌, List, [], ◌∷◌, refl, ap, sym, arith}
use Rattle.std.specs.Prelude.{None}
use Rattle.coati_word.specs.declared.reading.Reading.{Reading}
use Rattle.task_syntax.specs.Course.{after, readings}
use Rattle.task_syntax.specs.Units.{halt}
use Rattle.serial_log.specs.declared.mark.Mark.{Mark}
use Rattle.serial_log.specs.declared.mark.MarkKind.TheVariants.{Boot, Done, End}
use Rattle.serial_log.specs.declared.posted.Answer.TheVariants.{Accepted, Full, Lost}
use Rattle.serial_log.specs.declared.end.End.TheVariants.{Idle}
use Rattle.serial_log.specs.SerialRun.{opening_stand}
use Rattle.serial_log.specs.Walk.{Each}
use Rattle.serial_log.specs.Standing.{Standing, opening, after_mark}
use Rattle.serial_log.specs.Legal.{IsLegalMark, AreMarksLegal}
use Rattle.serial_log.proofs.Walks.{each_step}
use Rattle.serial_log.proofs.ExampleParts.{adds, adds_terms, start, grown, grows, summed, sums, reading, held, mark, post, transaction, event}

-- what is read: a=1 a=2 by the transaction, a=20 by the event
abbrev pub reads : List Reading
reads = reading 0 1 ∷ reading 0 2 ∷ reading 0 20 ∷ []

abbrev Legal : Standing → List Mark → Type 0
Legal s marks = Each (after_mark adds) (IsLegalMark adds_terms reads) s marks

-- the first task of the transaction is done, and nothing else has happened
abbrev first_done : Standing
first_done = after_mark adds (opening adds) (mark 10 (Done 0))

done_legal : IsLegalMark adds_terms reads (opening adds) (mark 10 (Done 0))
done_legal = record { serial = tt; postings = record { in_time = omega arith; follows = tt; order = tt }; aborts = tt; boots = tt; end = tt }

-- post 0.1 e 5 from 17 at 25 accepted 1
abbrev first_post : Mark
first_post = mark 25 (post 0 1 5 17 (Accepted 1))

post_legal : IsLegalMark adds_terms reads first_done first_post
post_legal = record {
  serial = tt;
  postings = record {
    in_time = omega arith;
    follows = tt;
    order = record {
      counted = refl;
      raised = omega arith;
      answer = record { handled = record { room = omega arith; later = omega arith; soon = omega arith }; numbered = refl };
    };
  };
  aborts = tt;
  boots = tt;
  end = tt;
}

-- where a posting waits for the transaction to be whole
abbrev waiting : (accepted boots last latest : ℕ) → (ℕ → ℕ) → Standing
waiting accepted boots last latest raised = record {
  run = opening_stand adds;
  rest = held 1 5 ∷ [];
  accepted = accepted;
  raised = raised;
  boots = boots;
  last_boot = last;
  lost = None;
  latest = latest;
}

-- commit transaction t tasks 2 reads a=1 a=2 / commit event e posting 1 reads a=20 / end idle
abbrev served : List Mark
served = mark 34 (transaction 0 2) ∷ mark 50 (event 1 2 1) ∷ mark 53 (End Idle) ∷ []

module _ (accepted boots last latest : ℕ) (raised : ℕ → ℕ) (before : latest ≤ 34) where
  abbrev at_post : Standing
  at_post = waiting accepted boots last latest raised

  abbrev at_transaction : Standing
  at_transaction = record at_post { run = record { store = after grown.done start; place = halt }; latest = 34 }

  abbrev at_event : Standing
  at_event = record at_transaction { run = record { store = after summed (after grown.done start); place = halt }; rest = []; latest = 50 }

  served_legal : Legal at_post served
  served_legal =
      each_step (after_mark adds) (IsLegalMark adds_terms reads) at_post at_transaction (mark 34 (transaction 0 2)) (mark 50 (event 1 2 1) ∷ mark 53 (End Idle) ∷ [])
      (record {
        serial = record { place = refl; no_posting = refl; reached = grown; whole = grows; reads = refl };
        postings = record { in_time = before; follows = tt; order = tt };
        aborts = tt;
        boots = tt;
        end = tt;
      })
      (rw grows refl)
      (each_step (after_mark adds) (IsLegalMark adds_terms reads) at_transaction at_event (mark 50 (event 1 2 1)) (mark 53 (End Idle) ∷ [])
      (record {
        serial = record { no_tasks = refl; held = held 1 5; posting = refl; its_event = refl; reads = ap readings (sym sums) };
        postings = record { in_time = omega arith; follows = tt; order = record { oldest = held 1 5; due = refl; number = refl } };
        aborts = tt;
        boots = tt;
        end = tt;
      })
      (rw sums refl) (
        record {
          serial = tt;
          postings = record { in_time = omega arith; follows = tt; order = tt };
          aborts = tt;
          boots = tt;
          end = record { place = refl; rest = refl };
        },
        tt,
      ))

-- the event runs when the transaction is whole
abbrev pub served_under : List Mark
served_under = mark 10 (Done 0) ∷ first_post ∷ served

served_under_legal : AreMarksLegal adds_terms reads served_under
served_under_legal = (done_legal, (post_legal, served_legal 1 0 0 25 (after_mark adds first_done first_post).raised (omega arith)))

-- post 1.1 e 6 from 25 at 25 full: the buffer holds one posting
abbrev full_post : Mark
full_post = mark 25 (post 1 1 6 25 Full)

abbrev pub refused : List Mark
refused = mark 10 (Done 0) ∷ first_post ∷ full_post ∷ served

refused_legal : AreMarksLegal adds_terms reads refused
refused_legal = (
  done_legal,
  (
    post_legal,
    (
      record {
        serial = tt;
        postings = record { in_time = omega arith; follows = tt; order = record { counted = refl; raised = omega arith; answer = record { full = refl; at_once = refl } } };
        aborts = tt;
        boots = tt;
        end = tt;
      },
      served_legal 1 0 0 25 (after_mark adds (after_mark adds first_done first_post) full_post).raised (omega arith),
    ),
  ),
)

-- post 0.1 e 5 from 17 at 24 lost 1 / boot 1 at 24 / commit transaction t tasks 2 reads a=1 a=2 / end idle
abbrev pub lost : List Mark
lost = mark 10 (Done 0) ∷ mark 24 (post 0 1 5 17 (Lost 1)) ∷ mark 24 (Boot 1) ∷ mark 34 (transaction 0 2) ∷ mark 40 (End Idle) ∷ []

abbrev booted : Standing
booted = after_mark adds (after_mark adds first_done (mark 24 (post 0 1 5 17 (Lost 1)))) (mark 24 (Boot 1))

lost_legal : AreMarksLegal adds_terms reads lost
lost_legal = (
  done_legal,
  (
    record {
      serial = tt;
      postings = record {
        in_time = omega arith;
        follows = tt;
        order = record {
          counted = refl;
          raised = omega arith;
          answer = record { handled = record { room = omega arith; later = omega arith; soon = omega arith }; numbered = refl };
        };
      };
      aborts = tt;
      boots = tt;
      end = tt;
    },
    (
      record {
        serial = tt;
        postings = record { in_time = omega arith; follows = record { boots = refl; at_once = refl }; order = tt };
        aborts = tt;
        boots = record { counted = refl; later = omega arith };
        end = tt;
      },
      each_step (after_mark adds) (IsLegalMark adds_terms reads) booted (record booted { run = record { store = after grown.done start; place = halt }; latest = 34 }) (mark 34 (transaction 0 2)) (mark 40 (End Idle) ∷ [])
          (record {
            serial = record { place = refl; no_posting = refl; reached = grown; whole = grows; reads = refl };
            postings = record { in_time = omega arith; follows = tt; order = tt };
            aborts = tt;
            boots = tt;
            end = tt;
          })
          (rw grows refl) (
            record {
              serial = tt;
              postings = record { in_time = omega arith; follows = tt; order = tt };
              aborts = tt;
              boots = tt;
              end = record { place = refl; rest = refl };
            },
            tt,
          ),
    ),
  ),
)

-- The power lasts one step longer: the posting is accepted, and the boot comes at the same time.
abbrev pub accepted_at_boot : List Mark
accepted_at_boot = mark 10 (Done 0) ∷ first_post ∷ mark 25 (Boot 1) ∷ served

accepted_at_boot_legal : AreMarksLegal adds_terms reads accepted_at_boot
accepted_at_boot_legal = (
  done_legal,
  (
    post_legal,
    (
      record {
        serial = tt;
        postings = record { in_time = omega arith; follows = tt; order = tt };
        aborts = tt;
        boots = record { counted = refl; later = omega arith };
        end = tt;
      },
      served_legal 1 1 25 25 (after_mark adds (after_mark adds first_done first_post) (mark 25 (Boot 1))).raised (omega arith),
    ),
  ),
)
