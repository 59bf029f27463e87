-- A machine that goes on, and what it tells in the end.
use Rattle.std.proofs.Common.{◌≡◌, ℕ, ◌+◌, List, ◌++◌, length, sym, ap, subst, ◌∙◌, append-nil}
use Rattle.std.specs.Prelude.{slice_index}
use Rattle.coati_word.specs.declared.ending.Ending.{Ending}
use Rattle.coati_word.specs.declared.reading.Reading.{Reading}
use Rattle.task_syntax.specs.declared.body.BodyId.{BodyId}
use Rattle.task_syntax.specs.Course.{Course, Access, after, readings}
use Rattle.word_code.specs.Code.{Bodies, body_words}
use Rattle.word_code.specs.Following.{Computes}
use Rattle.word_code.specs.Machine.{move_of}
use Rattle.word_cpu.specs.Meaning.{Meaning}
use Rattle.word_cpu.specs.declared.cpu.Cpu.{Cpu}
use Rattle.word_cpu.specs.declared.turn.Turn.{Turn}
use Rattle.word_cpu.specs.declared.turn.Turn.TheVariants.{Ended}
use Rattle.word_cpu.specs.OnCourse.{done_by, read_by}
use Rattle.word_cpu.specs.Reached.{Comes, HasDone, HasNotEnded, MachinesKeepToTheCourse}
use Rattle.word_cpu.specs.Turning.{CanStep, IsStep, state_of}
use Rattle.worked_bodies.specs.Bodies.{TellsCourse}
use Rattle.worked_bodies.specs.Ended.{EndsBy}

-- one step more
pub comes_on : {V : Type 0} (meaning : Meaning V)
    (code : Bodies) (body : BodyId) (params : List ℕ) (view : V) (spent : ℕ) (read all : List Reading) (before after : Cpu) (old new : V) (turn : Turn) →
    ((done : List Access) × Comes meaning code body params view spent done read before old) →
    CanStep code before (length (meaning.words old)) → IsStep meaning code before after old new turn → HasNotEnded turn → all ≡ read ++ read_by turn →
    (done : List Access) × Comes meaning code body params view (spent + 1) done all after new
comes_on meaning code body params view spent read all before after old new turn come can step goes_on is = (
  come.0 ++ done_by turn (move_of can.0 (state_of before)),
  subst (λ (r : List Reading). Comes meaning code body params view (spent + 1) (come.0 ++ done_by turn (move_of can.0 (state_of before))) r after new) (sym is)
      (Comes.steps spent come.0 read before after old new turn can.0 come.1 can.1.starts step goes_on),
)

-- what was done is what the course does
tells_in_the_end : (course : Course Ending) (old new : List ℕ) (done : List Access) (read : List Reading) (ending : Ending) →
    HasDone course old done read ending new → TellsCourse course old new read ending
tells_in_the_end course old new done read ending has = record {
  store_after = has.words_are ∙ ap (λ (all : List Access). after all (slice_index old)) has.accesses_are;
  words = has.count;
  readings_told = has.readings_are ∙ ap readings has.accesses_are;
  ending_told = has.ending_is;
}

-- where a step ended the body, it read nothing
pub nothing_read : (read all : List Reading) (turn : Turn) (ending : Ending) → turn ≡ Ended ending → all ≡ read ++ read_by turn → all ≡ read
nothing_read read all turn ending ended is = is ∙ ap (λ (t : Turn). read ++ read_by t) ended ∙ append-nil read

-- a body that came to its end tells what the course does that it computes
pub tells_at_its_end : {V : Type 0} (meaning : Meaning V)
    (code : Bodies) (cost : ℕ) (course : Course Ending) (body : BodyId) (params : List ℕ) (view : V) (steps : ℕ) (read : List Reading) (ending : Ending) (new : V) →
    MachinesKeepToTheCourse meaning → Computes (body_words code body) (length (meaning.words view)) cost params course →
    EndsBy meaning code body params view steps read ending new → TellsCourse course (meaning.words view) (meaning.words new) read ending
tells_at_its_end meaning code cost course body params view steps read ending new law computes end =
    tells_in_the_end course (meaning.words view) (meaning.words new) end.done read ending
    ((law code cost course body params view computes end.spent end.done read end.before end.now end.comes).ends end.last new ending end.ends)
