-- What script and clock show of small histories, and how tasks and events take turns in them.
use Rattle.std.proofs.Common.{ℕ, ◌<◌, List, [], ◌∷◌, map, append-nil, arith, inl, inr, refl}
use Rattle.std.proofs.lemmas.List.Elements.{All-from_recursion}
use Rattle.serial_log.specs.declared.held.Held.{Held}
use Rattle.serial_log.specs.declared.script.Posting.{Posting}
use Rattle.serial_log.specs.declared.mark.MarkKind.TheVariants.{Done}
use Rattle.serial_log.specs.declared.posted.Answer.TheVariants.{Accepted}
use Rattle.serial_log.specs.Scripted.{ArePostingsScripted, AreBootsAtPeriods, sent_by, of_device}
use Rattle.serial_log.specs.Progresses.{ServesAborts, ServesBetweenUnits, ServesAtOnce, EndsTasksInTime}
use Rattle.serial_log.proofs.ExampleParts.{adds, copies, mark, post, abort}
use Rattle.serial_log.proofs.ExamplePostings.{served_under, lost}
use Rattle.serial_log.proofs.ExampleAborts.{aborted, two_events}

-- one power period of 24 steps: the boot comes at its end
lost_boots : AreBootsAtPeriods adds (24 ∷ []) 40 lost
lost_boots = record {
  counted = (tt, (tt, (record { counted = refl; later = omega arith }, (tt, (tt, tt)))));
  times = refl;
}

-- a period of 25 steps isn't that
other_period : AreBootsAtPeriods adds (25 ∷ []) 40 lost → ⊥
other_period boots = let times = boots.times in cc

abbrev posting : ℕ → ℕ → ℕ → Posting
posting time device argument = record { time = time; device = device; event = 0; argument = argument }

-- at 2 0 e 10 / at 2 0 e 20
abbrev two_postings : List Posting
two_postings = posting 2 0 10 ∷ posting 2 0 20 ∷ []

two_scripted : ArePostingsScripted two_postings two_events
two_scripted device = ([], append-nil (of_device device (map sent_by two_postings)))

-- a posting that the script doesn't have
not_scripted : ArePostingsScripted [] two_events → ⊥
not_scripted scripted = let none = (scripted 0).1 in cc

-- the transaction is committed before the event, whose posting came after the last commit
under_between : ServesBetweenUnits adds served_under
under_between = (
  λ ends. All-from_recursion (λ (held : Held). 0 < held.number) [] tt,
  (
    λ ends. absurd ends,
    (
      λ ends. All-from_recursion (λ (held : Held). 0 < held.number) (record { number = 1; event = 0; argument = 5 } ∷ []) (omega arith, tt),
      (λ ends. absurd ends, (λ ends. absurd ends, tt)),
    ),
  ),
)

-- the event for which the transaction was given up is committed first, and no posting is left where a task ends
aborted_serves : ServesAborts aborted
aborted_serves = (tt, (tt, (tt, (refl, (tt, (tt, (tt, tt)))))))

aborted_at_once : ServesAtOnce copies aborted
aborted_at_once = (λ ends. refl, (λ ends. absurd ends, (λ ends. absurd ends, (λ ends. absurd ends, (λ ends. refl, (λ ends. refl, (λ ends. absurd ends, tt)))))))

-- another task first
given_up_for_nothing : ServesAborts (mark 37 (abort 2 1 0) ∷ mark 40 (Done 0) ∷ []) → ⊥
given_up_for_nothing serves = serves.1.0

-- a task is done while a posting waits
waits : ServesAtOnce copies (mark 29 (post 0 1 9 18 (Accepted 1)) ∷ mark 40 (Done 0) ∷ []) → ⊥
waits serves = let none = serves.1.0 tt in cc

-- nothing comes further in 192 steps that nothing disturbs
stands_still : EndsTasksInTime adds 192 192 [] → ⊥
stands_still ends =
    elim (ends 0 (omega arith) (record { no_boot = λ at (k, below, is). omega (arith, below); no_handler = λ step (k, found, below, is, so). omega (arith, below) })) [
      | inl (k, found, below, is, so) ↦ omega (arith, below)
      | inr over ↦ omega (arith, over.place)
    ]
