-- Laws of courses and of accesses, each for the answers that a course may have.
use Rattle.std.specs.Prelude.{ℕ, ◌≡◌, ◌↔◌, ◌&&◌, ◌||◌, not, is_some, true, List, [], ◌∷◌, ◌++◌, Contains, unwrap_or}
use Rattle.std.specs.Option.{option_or}
use Rattle.task_syntax.specs.Course.{Course, chain, Store, Access, accesses, answer, after, readings, written_words}
use Rattle.task_syntax.specs.UnderWay.{HasReached}
use Rattle.task_syntax.specs.Written.{last_written, is_written, is_shared}

-- what joined accesses leave, read, write and share
pub record JoinsUp (first more : List Access) : Type 0 where
  pub store_after : (store : Store) → after (first ++ more) store ≡ after more (after first store)
  pub read : readings (first ++ more) ≡ readings first ++ readings more
  pub written : written_words (first ++ more) ≡ written_words first ++ written_words more
  pub last : (word : ℕ) → last_written (first ++ more) word
      ≡ option_or (last_written more word) (last_written first word)
  pub writes : (word : ℕ) → is_written (first ++ more) word
      ≡ (is_written first word || is_written more word)
  pub shares : (word : ℕ) →
      is_shared (first ++ more) word ≡ (is_shared first word
      || (not (is_written first word) && is_shared more word))

-- so do all accesses
abbrev pub AccessesJoinUp : Type 0
AccessesJoinUp = (first more : List Access) → JoinsUp first more

-- a chain runs its parts in turn, the second on what the first has left
pub record RunsInTurn (A B : Type 0) (first : Course A) (next : A → Course B) (store : Store)
    : Type 0 where
  pub done : accesses (chain first next) store ≡ accesses first store
      ++ accesses (next (answer first store)) (after (accesses first store) store)
  pub result : answer (chain first next) store
      ≡ answer (next (answer first store)) (after (accesses first store) store)
  pub joins : JoinsUp (accesses first store) (accesses (next (answer first store))
      (after (accesses first store) store))

-- so does each chain, on each store
abbrev pub ChainsRunInTurn : Type 0 → Type 0 → Type 0
ChainsRunInTurn A B = (first : Course A) (next : A → Course B) (store : Store) →
    RunsInTurn A B first next store

-- it doesn't matter which of two chainings is done first
abbrev pub ChainingIsAssociative : Type 0 → Type 0 → Type 0 → Type 0
ChainingIsAssociative A B C =
    (first : Course A) (next : A → Course B) (last : B → Course C) →
    chain (chain first next) last ≡ chain first (λ result. chain (next result) last)

-- a word that none of the accesses writes keeps its value
abbrev pub UnwrittenWordsStay : Type 0
UnwrittenWordsStay = (done : List Access) (store : Store) (word : ℕ) →
    (Contains (written_words done) word → ⊥) → after done store word ≡ store word

-- behind accesses a word holds the last value that they write to it, whatever the store held;
-- where they write none it holds what the store held
abbrev pub LastWritesTellTheStore : Type 0
LastWritesTellTheStore = (done : List Access) (store : Store) (word : ℕ) →
    after done store word ≡ unwrap_or (last_written done word) (store word)

-- a word is written among accesses where it is one of the words that they write, and there alone
-- it has a last value
pub record TellsWritten (done : List Access) (word : ℕ) : Type 0 where
  pub contained : Contains (written_words done) word ↔ (is_written done word ≡ true)
  pub last : is_some (last_written done word) ≡ is_written done word

-- so is each word
abbrev pub WrittenWordsAreTold : Type 0
WrittenWordsAreTold = (done : List Access) (word : ℕ) → TellsWritten done word

-- a reading tells what the store holds at its moment
abbrev pub ReadingsTellTheStore : Type 0 → Type 0
ReadingsTellTheStore A =
    (course : Course A) (store : Store) (before more : List Access) (word value : ℕ) →
    accesses course store ≡ before ++ Access.read word value ∷ more →
    value ≡ after before store word

-- two stores hold the same in each word that is read before it is written
abbrev pub AgreeOnShared : List Access → Store → Store → Type 0
AgreeOnShared done s t = (word : ℕ) → is_shared done word ≡ true → s word ≡ t word

-- two lists of accesses read, write and share the same, word by word and value by value
pub record AreSame (one other : List Access) : Type 0 where
  pub all : one ≡ other
  pub read : readings one ≡ readings other
  pub written : written_words one ≡ written_words other
  pub last : (word : ℕ) → last_written one word ≡ last_written other word
  pub shares : (word : ℕ) → is_shared one word ≡ is_shared other word

-- a course does on `t` what it does on `s`
pub record DoesTheSame (A : Type 0) (course : Course A) (s t : Store) : Type 0 where
  pub done : accesses course t ≡ accesses course s
  pub result : answer course t ≡ answer course s
  pub same : AreSame (accesses course t) (accesses course s)

-- what a course does hangs only on the words that it reads before it writes them
abbrev pub SharedReadsDecide : Type 0 → Type 0
SharedReadsDecide A = (course : Course A) (s t : Store) → AgreeOnShared (accesses course s) s t →
    DoesTheSame A course s t

-- where a course has come from its start, with these accesses, the rest of it goes on as the whole
-- does
pub record GoesOn (A : Type 0) (whole : Course A) (base : Store) (done : List Access)
    (rest : Course A) : Type 0 where
  pub path : accesses whole base ≡ done ++ accesses rest (after done base)
  pub result : answer whole base ≡ answer rest (after done base)
  -- by an access more
  pub behind_read : (word : ℕ) (go_on : ℕ → Course A) → rest ≡ Course.reads word go_on →
      HasReached whole base (done ++ Access.read word (after done base word)
      ∷ []) (go_on (after done base word))
  pub behind_write : (word value : ℕ) (next : Course A) → rest ≡ Course.writes word value next →
      HasReached whole base (done ++ Access.wrote word value ∷ []) next
  -- by more accesses of the rest
  pub behind_more : (more : List Access) (last : Course A) →
      HasReached rest (after done base) more last → HasReached whole base (done ++ more) last
  -- to its end
  pub at_the_end : HasReached whole base (accesses whole base) (Course.ends (answer whole base))
  -- and so on each store that holds the same in the words that these accesses read before they
  -- write them
  pub on_others : (other : Store) → AgreeOnShared done base other →
      HasReached whole other done rest

-- so does each course under way
abbrev pub CoursesUnderWayGoOn : Type 0 → Type 0
CoursesUnderWayGoOn A =
    (whole : Course A) (base : Store) (done : List Access) (rest : Course A) →
    HasReached whole base done rest → GoesOn A whole base done rest

-- a chain comes as far as its first part does, and past its end to the second part
pub record ChainsOn (A B : Type 0) (first : Course A) (next : A → Course B) (base : Store)
    : Type 0 where
  pub inside : (done : List Access) (rest : Course A) → HasReached first base done rest →
      HasReached (chain first next) base done (chain rest next)
  pub behind : HasReached (chain first next) base (accesses first base) (next (answer first base))

-- so does each chain
abbrev pub ChainsUnderWayGoOn : Type 0 → Type 0 → Type 0
ChainsUnderWayGoOn A B = (first : Course A) (next : A → Course B) (base : Store) →
    ChainsOn A B first next base
