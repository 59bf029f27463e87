-- Marks that are not legal where those before them lead: one at least for each fact.
use Rattle.std.proofs.Common.{◌≡◌, ◌∙◌, ℕ, List, [], ◌∷◌, ap, sym, arith}
use Rattle.std.specs.Prelude.{Option, Some, None}
use Rattle.coati_word.specs.declared.reading.Reading.{Reading}
use Rattle.coati_word.specs.declared.mode.Mode.TheVariants.{Split, Buffi}
use Rattle.task_syntax.specs.Course.{Access, readings}
use Rattle.task_syntax.specs.Units.{Reached}
use Rattle.serial_log.specs.declared.mark.MarkKind.TheVariants.{Boot, Done, End}
use Rattle.serial_log.specs.declared.posted.Answer.TheVariants.{Accepted, Full, Lost}
use Rattle.serial_log.specs.declared.end.End.TheVariants.{Idle}
use Rattle.serial_log.specs.declared.held.Held.{Held}
use Rattle.serial_log.specs.Standing.{Standing, opening, after_mark}
use Rattle.serial_log.specs.Postings.{Terms, ArePostingsLegal}
use Rattle.serial_log.specs.Aborts.{IsClash, IsLeastClash}
use Rattle.serial_log.specs.Legal.{IsLegalMark}
use Rattle.serial_log.proofs.ExampleParts.{adds, adds_terms, grown, grows, copies, copies_terms, reading, held, mark, post, transaction, event, abort}

abbrev second_value : List Reading → ℕ
second_value [] = 0
second_value (first ∷ []) = 0
second_value (first ∷ second ∷ more) = second.value

-- the serial run: a reading that the transaction doesn't have, and a transaction that isn't whole
wrong_reading : IsLegalMark adds_terms (reading 0 1 ∷ reading 0 3 ∷ []) (opening adds) (mark 34 (transaction 0 2)) → ⊥
wrong_reading legal =
    let same : Some legal.serial.reached ≡ Some grown = sym legal.serial.whole ∙ grows in
    let reached : legal.serial.reached ≡ grown = cc in
    let value : 3 ≡ 2 = ap second_value (legal.serial.reads ∙ ap (λ (r : Reached). readings r.done) reached) in
    omega (arith, value)

-- postings: one accepted where the buffer is full, or refused where it has room
abbrev one_held : Standing
one_held = after_mark adds (opening adds) (mark 25 (post 0 1 5 17 (Accepted 1)))

accepted_though_full : IsLegalMark adds_terms [] one_held (mark 40 (post 0 2 6 30 (Accepted 2))) → ⊥
accepted_though_full legal = omega (arith, legal.postings.order.answer.handled.room)

full_with_room : IsLegalMark adds_terms [] (opening adds) (mark 17 (post 0 1 5 17 Full)) → ⊥
full_with_room legal = omega (arith, legal.postings.order.answer.full)

-- a number or an index that doesn't follow the one before
wrong_number : IsLegalMark copies_terms [] (after_mark copies (opening copies) (mark 25 (post 0 1 5 17 (Accepted 1)))) (mark 40 (post 0 2 6 30 (Accepted 3))) → ⊥
wrong_number legal = omega (arith, legal.postings.order.answer.numbered)

same_posting_again : IsLegalMark copies_terms [] (after_mark copies (opening copies) (mark 25 (post 0 1 5 17 (Accepted 1)))) (mark 40 (post 0 1 6 30 (Accepted 2))) → ⊥
same_posting_again legal = omega (arith, legal.postings.order.counted)

-- an answer later than any handler's, and a mark before the one before it
handled_too_long : IsLegalMark adds_terms [] (opening adds) (mark 66 (post 0 1 5 17 (Accepted 1))) → ⊥
handled_too_long legal = omega (arith, legal.postings.order.answer.handled.soon)

time_falls : IsLegalMark adds_terms [] one_held (mark 24 (Done 0)) → ⊥
time_falls legal = omega (arith, legal.postings.in_time)

-- the second posting's event before the first one's
abbrev two_accepted : Standing
two_accepted = after_mark copies (after_mark copies (opening copies) (mark 25 (post 0 1 5 17 (Accepted 1)))) (mark 40 (post 0 2 6 30 (Accepted 2)))

abbrev number_of : Option Held → ℕ
number_of None = 0
number_of (Some held) = held.number

out_of_order : IsLegalMark copies_terms [] two_accepted (mark 50 (event 2 0 0)) → ⊥
out_of_order legal =
    let oldest : 1 ≡ legal.postings.order.oldest.number = ap number_of legal.postings.order.due in
    omega (arith, legal.postings.order.number, oldest)

-- a lost posting that no boot follows
no_boot : IsLegalMark adds_terms [] (after_mark adds (opening adds) (mark 24 (post 0 1 5 17 (Lost 1)))) (mark 24 (Done 0)) → ⊥
no_boot legal = let boots = legal.postings.follows.boots in cc

lost_at_last : ArePostingsLegal adds_terms (mark 24 (post 0 1 5 17 (Lost 1)) ∷ []) → ⊥
lost_at_last legal = let none = legal.booted in cc

-- aborts: in split there is none, and none at a word that is not the least
aborted_in_split : (terms : Terms) (all : List Reading) (s : Standing) → terms.mode ≡ Split → IsLegalMark terms all s (mark 37 (abort 2 1 0)) → ⊥
aborted_in_split terms all s split legal = let both : Split ≡ Buffi = sym split ∙ legal.aborts.mode in cc

later_word : (event tasks : List Access) → IsClash event tasks 0 → IsLeastClash event tasks 1 → ⊥
later_word event tasks clash least = omega (arith, least.least 0 clash)

-- boots: one that comes again, and one at the time of the boot before it
boot_again : IsLegalMark adds_terms [] (after_mark adds (opening adds) (mark 5 (Boot 1))) (mark 9 (Boot 1)) → ⊥
boot_again legal = omega (arith, legal.boots.counted)

boots_at_once : IsLegalMark adds_terms [] (after_mark adds (opening adds) (mark 5 (Boot 1))) (mark 5 (Boot 2)) → ⊥
boots_at_once legal = omega (arith, legal.boots.later)

-- the end: nothing to do is claimed while a task is to run
idle_at_a_task : IsLegalMark adds_terms [] (opening adds) (mark 9 (End Idle)) → ⊥
idle_at_a_task legal = omega (arith, legal.end.place)
