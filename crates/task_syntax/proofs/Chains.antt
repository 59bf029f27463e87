-- Courses one after another, and accesses joined end to end.
use Rattle.std.proofs.Common.{◌≡◌, List, [], ◌∷◌, ◌++◌, refl, ap}
use Rattle.task_syntax.specs.Course.{Course, chain, Store, put, Access, accesses, answer, after, readings, written_words}

pub accesses-chain : {A B : Type 0} (first : Course A) (next : A → Course B) (store : Store) →
    accesses (chain first next) store ≡ accesses first store ++ accesses (next (answer first store)) (after (accesses first store) store)
accesses-chain (Course.ends result) next store = refl
accesses-chain (Course.reads word go_on) next store = ap (λ more. Access.read word (store word) ∷ more) (accesses-chain (go_on (store word)) next store)
accesses-chain (Course.writes word value rest) next store = ap (λ more. Access.wrote word value ∷ more) (accesses-chain rest next (put word value store))

pub answer-chain : {A B : Type 0} (first : Course A) (next : A → Course B) (store : Store) →
    answer (chain first next) store ≡ answer (next (answer first store)) (after (accesses first store) store)
answer-chain (Course.ends result) next store = refl
answer-chain (Course.reads word go_on) next store = answer-chain (go_on (store word)) next store
answer-chain (Course.writes word value rest) next store = answer-chain rest next (put word value store)

pub chain-chain : {A B C : Type 0} (first : Course A) (next : A → Course B) (last : B → Course C) →
    chain (chain first next) last ≡ chain first (λ result. chain (next result) last)
chain-chain (Course.ends result) next last = refl
chain-chain (Course.reads word go_on) next last = λ i. Course.reads word (λ value. chain-chain (go_on value) next last i)
chain-chain (Course.writes word value rest) next last = ap (λ more. Course.writes word value more) (chain-chain rest next last)

pub chain-ends : {A : Type 0} (course : Course A) → chain course (λ result. Course.ends result) ≡ course
chain-ends (Course.ends result) = refl
chain-ends (Course.reads word go_on) = λ i. Course.reads word (λ value. chain-ends (go_on value) i)
chain-ends (Course.writes word value rest) = ap (λ more. Course.writes word value more) (chain-ends rest)

pub after-append : (first more : List Access) (store : Store) → after (first ++ more) store ≡ after more (after first store)
after-append [] more store = refl
after-append (Access.read word value ∷ first) more store = after-append first more store
after-append (Access.wrote word value ∷ first) more store = after-append first more (put word value store)

pub readings-append : (first more : List Access) → readings (first ++ more) ≡ readings first ++ readings more
readings-append [] more = refl
readings-append (Access.read word value ∷ first) more = ap (λ rest. record { word = word; value = value } ∷ rest) (readings-append first more)
readings-append (Access.wrote word value ∷ first) more = readings-append first more

pub written_words-append : (first more : List Access) → written_words (first ++ more) ≡ written_words first ++ written_words more
written_words-append [] more = refl
written_words-append (Access.read word value ∷ first) more = written_words-append first more
written_words-append (Access.wrote word value ∷ first) more = ap (λ rest. word ∷ rest) (written_words-append first more)
