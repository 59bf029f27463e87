-- Courses from a moment on: a chain runs its parts in turn, and each access leads one moment further.
use Rattle.std.proofs.Common.{◌≡◌, ℕ, List, [], ◌∷◌, ◌++◌, refl}
use Rattle.task_syntax.specs.Course.{Course, chain, Access, accesses, after}
use Rattle.serial_run.specs.Moments.{Moment, behind_access, behind_all, behind, end_of}

pub behind-ends : {A : Type 0} (result : A) (m : Moment) → behind (Course.ends result) m ≡ m
unfolding behind
behind-ends result m = refl

pub end_of-ends : {A : Type 0} (result : A) (m : Moment) → end_of (Course.ends result) m ≡ result
unfolding end_of
end_of-ends result m = refl

pub behind-reads : {A : Type 0} (word : ℕ) (go_on : ℕ → Course A) (m : Moment) →
    behind (Course.reads word go_on) m ≡ behind (go_on (m.store word)) (behind_access (Access.read word (m.store word)) m)
unfolding behind
behind-reads word go_on m = refl

pub end_of-reads : {A : Type 0} (word : ℕ) (go_on : ℕ → Course A) (m : Moment) →
    end_of (Course.reads word go_on) m ≡ end_of (go_on (m.store word)) (behind_access (Access.read word (m.store word)) m)
unfolding end_of
end_of-reads word go_on m = refl

pub behind-writes : {A : Type 0} (word value : ℕ) (rest : Course A) (m : Moment) →
    behind (Course.writes word value rest) m ≡ behind rest (behind_access (Access.wrote word value) m)
unfolding behind
behind-writes word value rest m = refl

pub end_of-writes : {A : Type 0} (word value : ℕ) (rest : Course A) (m : Moment) →
    end_of (Course.writes word value rest) m ≡ end_of rest (behind_access (Access.wrote word value) m)
unfolding end_of
end_of-writes word value rest m = refl

pub behind-chain : {A B : Type 0} (first : Course A) (next : A → Course B) (m : Moment) →
    behind (chain first next) m ≡ behind (next (end_of first m)) (behind first m)
unfolding behind end_of
behind-chain (Course.ends result) next m = refl
behind-chain (Course.reads word go_on) next m = behind-chain (go_on (m.store word)) next (behind_access (Access.read word (m.store word)) m)
behind-chain (Course.writes word value rest) next m = behind-chain rest next (behind_access (Access.wrote word value) m)

pub end_of-chain : {A B : Type 0} (first : Course A) (next : A → Course B) (m : Moment) →
    end_of (chain first next) m ≡ end_of (next (end_of first m)) (behind first m)
unfolding behind end_of
end_of-chain (Course.ends result) next m = refl
end_of-chain (Course.reads word go_on) next m = end_of-chain (go_on (m.store word)) next (behind_access (Access.read word (m.store word)) m)
end_of-chain (Course.writes word value rest) next m = end_of-chain rest next (behind_access (Access.wrote word value) m)

pub count-behind_all : (done : List Access) (m : Moment) → (behind_all done m).count ≡ m.count
count-behind_all [] m = refl
count-behind_all (Access.read word value ∷ more) m = count-behind_all more (behind_access (Access.read word value) m)
count-behind_all (Access.wrote word value ∷ more) m = count-behind_all more (behind_access (Access.wrote word value) m)

pub count-behind : {A : Type 0} (course : Course A) (m : Moment) → (behind course m).count ≡ m.count
unfolding behind
count-behind course m = count-behind_all (accesses course m.store) m

pub ruleset steps = (behind-ends, end_of-ends, behind-reads, end_of-reads, behind-writes, end_of-writes, behind-chain, end_of-chain, count-behind)

pub behind_all-append : (first more : List Access) (m : Moment) → behind_all (first ++ more) m ≡ behind_all more (behind_all first m)
behind_all-append [] more m = refl
behind_all-append (access ∷ first) more m = behind_all-append first more (behind_access access m)

pub store-behind_all : (done : List Access) (m : Moment) → (behind_all done m).store ≡ after done m.store
store-behind_all [] m = refl
store-behind_all (Access.read word value ∷ more) m = store-behind_all more (behind_access (Access.read word value) m)
store-behind_all (Access.wrote word value ∷ more) m = store-behind_all more (behind_access (Access.wrote word value) m)
