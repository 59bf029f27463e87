-- Courses that give words, one after another.
use Rattle.std.proofs.Common.{◌==◌, ℕ, zero, suc, Bool, true, false, List, [], ◌∷◌, ◌++◌, if◌then◌else◌}
use Rattle.std.specs.Prelude.{Option, Some, None, bytes_eq, slice_get}
use Rattle.std.specs.List.{AllByRecursion}
use Rattle.coati_word.specs.OperatorLaws.{IsWord}
use Rattle.task_syntax.specs.Course.{Course, Store, answer, chain, put}
use Rattle.task_syntax.specs.Expressions.{Locals, with_local}
use Rattle.word_values.specs.Words.{GivesWords, HoldsWords}

-- any answer will do
abbrev pub Anything : {A : Type 0} → A → Type 0
Anything result = Unit {0}

pub gives-chain : {A B : Type 0} (P : A → Type 0) (Q : B → Type 0) (first : Course A) (next : A → Course B) → GivesWords P first
    → ((result : A) → P result → GivesWords Q (next result)) → GivesWords Q (chain first next)
gives-chain P Q (Course.ends result) next gives go_on = go_on result gives
gives-chain P Q (Course.reads word more) next gives go_on = λ value is. gives-chain P Q (more value) next (gives value is) go_on
gives-chain P Q (Course.writes word value rest) next gives go_on = (gives.0, gives-chain P Q rest next gives.1 go_on)

pub put-words : (word value : ℕ) (store : Store) → IsWord value → HoldsWords store → HoldsWords (put word value store)
put-words word value store is holds other = by (other == word)
  where
    by : (same : Bool) → IsWord (if same then value else store other)
    by true = is
    by false = holds other

-- what a course answers on a store of words
pub answers-so : {A : Type 0} (P : A → Type 0) (course : Course A) (store : Store) → GivesWords P course → HoldsWords store → P (answer course store)
answers-so P (Course.ends result) store gives holds = gives
answers-so P (Course.reads word go_on) store gives holds = answers-so P (go_on (store word)) store (gives (store word) (holds word)) holds
answers-so P (Course.writes word value rest) store gives holds =
    answers-so P rest (put word value store) gives.1 (put-words word value store gives.0 holds)

-- locals that are words
abbrev pub AreLocals : Locals → Type 0
AreLocals locals = (name : List ℕ) → IsWord (locals name)

pub one-local : (name : List ℕ) (value : ℕ) (locals : Locals) → IsWord value → AreLocals locals → AreLocals (with_local name value locals)
one-local name value locals is words other = by (bytes_eq other name)
  where
    by : (same : Bool) → IsWord (if same then value else locals other)
    by true = is
    by false = words other

-- a fact of each of two lists, joined
pub all-joined : {X : Type 0} (P : X → Type 0) (xs ys : List X) → AllByRecursion P xs → AllByRecursion P ys → AllByRecursion P (xs ++ ys)
all-joined P [] ys one two = two
all-joined P (x ∷ xs) ys one two = (one.0, all-joined P xs ys one.1 two)

-- what is found in a list, where something is
abbrev pub IsSo : {X : Type 0} → (X → Type 0) → Option X → Type 0
IsSo P None = Unit {0}
IsSo P (Some x) = P x

pub found-so : {X : Type 0} (P : X → Type 0) (xs : List X) (at : ℕ) → AllByRecursion P xs → IsSo P (slice_get xs at)
found-so P [] at all = tt
found-so P (x ∷ xs) zero all = all.0
found-so P (x ∷ xs) (suc at) all = found-so P xs at all.1
