use Rattle.task_syntax.specs.Events.{event_course}
use Rattle.task_syntax.specs.Names.{opening_values}
use Rattle.word_values.specs.Words.{EndsInWords}
use Rattle.word_values.proofs.Stays.{course-stays, index-word, unit-stays}
use Rattle.word_values.proofs.laws.programs_stay_in_words.Goals as goal

pub returns-clause-opening : goal.returns-clause-opening
returns-clause-opening c program words word = index-word (opening_values program) word words.opening

pub returns-clause-units : goal.returns-clause-units
returns-clause-units c program task count store reached words holds is =
    unit-stays c.accesses_join_up.ensures program words task count store reached holds is

pub returns-clause-events : goal.returns-clause-events
returns-clause-events c program event argument store words is holds =
    course-stays EndsInWords (event_course program event argument) store (words.events event argument is) holds
