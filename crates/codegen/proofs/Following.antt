-- Following one course and then another.
use Rattle.std.proofs.Common.{ℕ, ◌+◌, ◌≤◌, List, arith}
use Rattle.task_syntax.specs.Course.{Course, chain}
use Rattle.word_code.specs.Machine.{State}
use Rattle.word_code.specs.Following.{Follows}
use Rattle.word_code.proofs.Following.{follows_in_more}

-- the machine at a place, with operands and locals
abbrev pub state : ℕ → List ℕ → List ℕ → State
state place operands locals = record { place = place; operands = operands; locals = locals }

module _ {A : Type 0} (words : List ℕ) (count : ℕ) (First Last : A → State → Type 0) where
  -- more time does no harm, nor does it to ask for less at the end
  pub follows_to : (limit more : ℕ) (s : State) (course : Course A) → Follows words count First limit s course → limit ≤ more →
      ((result : A) (t : State) → First result t → Last result t) → Follows words count Last more s course
  follows_to limit more s course (Follows.arrives _ _ result arrived) fits turn = Follows.arrives more s result (turn result s arrived)
  follows_to limit more s course (Follows.goes _ left _ next _ instr runs move in_time rest) fits turn =
      Follows.goes more left s next course instr runs move (omega (arith, in_time, fits)) (follows_to left left next course rest (omega arith) turn)
  follows_to limit more s course (Follows.loads _ left _ word next go_on instr runs move in_time rest) fits turn =
      Follows.loads more left s word next go_on instr runs move (omega (arith, in_time, fits))
      (λ value. follows_to left left (next value) (go_on value) (rest value) (omega arith) turn)
  follows_to limit more s course (Follows.stores _ left _ word value next rest_of instr runs move in_time rest) fits turn =
      Follows.stores more left s word value next rest_of instr runs move (omega (arith, in_time, fits)) (follows_to left left next rest_of rest (omega arith) turn)

module _ {A B : Type 0} (words : List ℕ) (count : ℕ) (First : A → State → Type 0) (Last : B → State → Type 0) where
  -- a course and then the one that its answer leads to
  pub then_follows : (first second limit : ℕ) (s : State) (course : Course A) (next : A → Course B) → Follows words count First first s course → first + second ≤ limit →
      ((result : A) (t : State) → First result t → Follows words count Last second t (next result)) → Follows words count Last limit s (chain course next)
  then_follows first second limit s course next (Follows.arrives _ _ result arrived) fits rest =
      follows_in_more words count Last second limit s (next result) (rest result s arrived) (omega (arith, fits))
  then_follows first second limit s course next (Follows.goes _ left _ to _ instr runs move in_time more) fits rest =
      Follows.goes limit (left + second) s to (chain course next) instr runs move (omega (arith, in_time, fits))
      (then_follows left second (left + second) to course next more (omega arith) rest)
  then_follows first second limit s course next (Follows.loads _ left _ word to go_on instr runs move in_time more) fits rest =
      Follows.loads limit (left + second) s word to (λ value. chain (go_on value) next) instr runs move (omega (arith, in_time, fits))
      (λ value. then_follows left second (left + second) (to value) (go_on value) next (more value) (omega arith) rest)
  then_follows first second limit s course next (Follows.stores _ left _ word value to rest_of instr runs move in_time more) fits rest =
      Follows.stores limit (left + second) s word value to (chain rest_of next) instr runs move (omega (arith, in_time, fits))
      (then_follows left second (left + second) to rest_of next more (omega arith) rest)
