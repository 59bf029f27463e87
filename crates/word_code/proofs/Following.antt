-- Following a course.
use Rattle.std.proofs.Common.{◌≡◌, ◌+◌, ℕ, ◌≤◌, List, arith, refl, sym, subst}
use Rattle.coati_word.specs.declared.ending.Ending.{Ending}
use Rattle.task_syntax.specs.Course.{Course, chain}
use Rattle.word_code.specs.Machine.{State, steps}
use Rattle.word_code.specs.Following.{Follows}
use Rattle.word_code.specs.FollowingLaws.{FollowsToTheEnd, GoesOn, GoesOnFrom}

-- more time does no harm
pub follows_in_more : {A : Type 0} (words : List ℕ) (count : ℕ) (Arrived : A → State → Type 0) (limit more : ℕ) (s : State) (course : Course A) →
    Follows words count Arrived limit s course → limit ≤ more → Follows words count Arrived more s course
follows_in_more words count Arrived limit more s course (Follows.arrives _ _ result arrived) fits = Follows.arrives more s result arrived
follows_in_more words count Arrived limit more s course (Follows.goes _ left _ next _ instr runs move in_time rest) fits =
    Follows.goes more left s next course instr runs move (omega (arith, in_time, fits)) rest
follows_in_more words count Arrived limit more s course (Follows.loads _ left _ word next go_on instr runs move in_time rest) fits =
    Follows.loads more left s word next go_on instr runs move (omega (arith, in_time, fits)) rest
follows_in_more words count Arrived limit more s course (Follows.stores _ left _ word value next rest_of instr runs move in_time rest) fits =
    Follows.stores more left s word value next rest_of instr runs move (omega (arith, in_time, fits)) rest

-- where a course is followed an instruction can run, and with its move the course goes on
pub goes_on_from : (words : List ℕ) (count limit : ℕ) (s : State) (course : Course Ending) →
    FollowsToTheEnd words count limit s course → GoesOnFrom words count limit s course
goes_on_from words count limit s course (Follows.arrives _ _ result arrived) =
    record { instr = arrived.instr; runs = arrived.runs; goes_on = subst (λ m. GoesOn words count (steps arrived.instr) limit m (Course.ends result)) (sym arrived.is_end) refl }
goes_on_from words count limit s course (Follows.goes _ left _ next _ instr runs move in_time rest) =
    record { instr = instr; runs = runs; goes_on = subst (λ m. GoesOn words count (steps instr) limit m course) (sym move) (left, in_time, rest) }
goes_on_from words count limit s course (Follows.loads _ left _ word next go_on instr runs move in_time rest) =
    record { instr = instr; runs = runs; goes_on = subst (λ m. GoesOn words count (steps instr) limit m (Course.reads word go_on)) (sym move) (go_on, refl, λ value. (left, in_time, rest value)) }
goes_on_from words count limit s course (Follows.stores _ left _ word value next rest_of instr runs move in_time rest) =
    record { instr = instr; runs = runs; goes_on = subst (λ m. GoesOn words count (steps instr) limit m (Course.writes word value rest_of)) (sym move) (rest_of, refl, (left, in_time, rest)) }

-- where a course is followed, and from wherever it arrives what comes next, there the chain of both is followed
pub follows_in_turn : {A B : Type 0} (words : List ℕ) (count : ℕ) (Arrived : A → State → Type 0) (Last : B → State → Type 0)
    (more : ℕ) (next : A → Course B) → ((result : A) (t : State) → Arrived result t → Follows words count Last more t (next result)) →
    (limit : ℕ) (s : State) (course : Course A) → Follows words count Arrived limit s course → Follows words count Last (limit + more) s (chain course next)
follows_in_turn words count Arrived Last more next goes_on limit s course (Follows.arrives _ _ result arrived) =
    follows_in_more words count Last more (limit + more) s (next result) (goes_on result s arrived) (omega arith)
follows_in_turn words count Arrived Last more next goes_on limit s course (Follows.goes _ left _ to _ instr runs move in_time rest) =
    Follows.goes (limit + more) (left + more) s to (chain course next) instr runs move (omega (arith, in_time))
    (follows_in_turn words count Arrived Last more next goes_on left to course rest)
follows_in_turn words count Arrived Last more next goes_on limit s course (Follows.loads _ left _ word to go_on instr runs move in_time rest) =
    Follows.loads (limit + more) (left + more) s word to (λ value. chain (go_on value) next) instr runs move (omega (arith, in_time))
    (λ value. follows_in_turn words count Arrived Last more next goes_on left (to value) (go_on value) (rest value))
follows_in_turn words count Arrived Last more next goes_on limit s course (Follows.stores _ left _ word value to rest_of instr runs move in_time rest) =
    Follows.stores (limit + more) (left + more) s word value to (chain rest_of next) instr runs move (omega (arith, in_time))
    (follows_in_turn words count Arrived Last more next goes_on left to rest_of rest)

pub chained : {A B : Type 0} (words : List ℕ) (count limit more : ℕ) (there : A → State) (last : B → State) (s : State) (first : Course A) (next : A → Course B) →
    Follows words count (λ result t. t ≡ there result) limit s first →
    ((result : A) → Follows words count (λ answer t. t ≡ last answer) more (there result) (next result)) →
    Follows words count (λ answer t. t ≡ last answer) (limit + more) s (chain first next)
chained words count limit more there last s first next follows rest =
    follows_in_turn words count (λ result t. t ≡ there result) (λ answer t. t ≡ last answer) more next
    (λ result t is. subst (λ (at : State). Follows words count (λ answer t. t ≡ last answer) more at (next result)) (sym is) (rest result))
    limit s first follows
