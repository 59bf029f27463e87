-- The names that an accepted program declares: each is a name, and none is declared twice.
use Rattle.std.proofs.Common.{◌≡◌, ℕ, Bool, true, false, List, [], ◌∷◌, ◌++◌, map, Option, Some, None, refl, sym, ap, ◌∙◌, inl, inr}
use Rattle.std.specs.Prelude.{filter, flat_map, is_some}
use Rattle.std.specs.List.{AllByRecursion, list_all}
use Rattle.std.specs.Map.{lookup}
use Rattle.std.specs.Str.{bytes_eq}
use Rattle.std.proofs.lemmas.Bool.{cases_Bool, and_from, false_from_ne_true, or_left}
use Rattle.std.proofs.lemmas.Slice.Eq.{bytes_eq-Decides}
use Rattle.task_check.specs.Mentions.{Mention, Part, chain, declares, in_turn}
use Rattle.task_check.specs.NameRules.{is_twice_named, places_where}
use Rattle.task_check.specs.Scope.{Scope, meaning_of}
use Rattle.task_check.proofs.NoPlaces.{none-mapped}
use Rattle.task_lex.specs.Byte.{is_name_byte, is_name_start}
use Rattle.task_lex.specs.Token.{Spells}
use Rattle.task_lex.specs.declared.token.TokenKind.TheVariants as kind
use Rattle.task_syntax.specs.declared.name.Name.{Name}
use Rattle.trace_out.proofs.Fronts.{IsNameText}
use Rattle.trace_out.proofs.Places.{AreDistinct, AreNames}

-- it is not declared twice, and is a name
pub record IsSound (m : Mention) : Type 0 where
  pub once : is_twice_named m.role m.meaning ≡ false
  pub spelled : Spells kind.Name m.name.text

-- no name is in scope that is one of these
abbrev IsNone : List ℕ → List (List ℕ) → Type 0
IsNone name names = AllByRecursion (λ other. bytes_eq name other ≡ false) names

-- what a part is that declares these names
pub record Tells (part : Part) (names : List (List ℕ)) : Type 0 where
  pub names_are : (scope : Scope) → AllByRecursion IsSound (part scope).mentions → AreNames names
      × AllByRecursion (λ name. meaning_of scope name ≡ None) names
  pub behind : (scope : Scope) (name : List ℕ) → meaning_of (part scope).scope name ≡ None
      → (meaning_of scope name ≡ None) × IsNone name names

-- a fact of all of a joined list
pub all-front : {X : Type 0} (P : X → Type 0) (xs ys : List X) → AllByRecursion P (xs ++ ys)
    → AllByRecursion P xs
all-front P [] ys all = tt
all-front P (x ∷ xs) ys all = (all.0, all-front P xs ys all.1)

pub all-back : {X : Type 0} (P : X → Type 0) (xs ys : List X) → AllByRecursion P (xs ++ ys)
    → AllByRecursion P ys
all-back P [] ys all = all
all-back P (x ∷ xs) ys all = all-back P xs ys all.1

all-both : {X : Type 0} (P : X → Type 0) (xs ys : List X) → AllByRecursion P xs
    → AllByRecursion P ys → AllByRecursion P (xs ++ ys)
all-both P [] ys one two = two
all-both P (x ∷ xs) ys one two = (one.0, all-both P xs ys one.1 two)

all-each : {X : Type 0} (P Q : X → Type 0) (xs : List X) → ((x : X) → P x → Q x)
    → AllByRecursion P xs → AllByRecursion Q xs
all-each P Q [] f all = tt
all-each P Q (x ∷ xs) f all = (f x all.0, all-each P Q xs f all.1)

differ-back : (one two : List ℕ) → bytes_eq one two ≡ false → bytes_eq two one ≡ false
differ-back one two differ = false_from_ne_true (bytes_eq two one) (λ same.
    let e : two ≡ one = (bytes_eq-Decides two one).0 same in
    let other : bytes_eq one two ≡ true = (bytes_eq-Decides one two).1 (sym e) in
    let none : true ≡ false = sym other ∙ differ in
    cc)

-- names before others, of which none is one of them
none-before : (name : List ℕ) (others : List (List ℕ)) → AllByRecursion
    (λ other. bytes_eq other name ≡ false) others → IsNone name others
none-before name [] all = tt
none-before name (other ∷ more) all = (differ-back other name all.0, none-before name more all.1)

-- none of the later names is an earlier one
each-none : (name : List ℕ) (front back : List (List ℕ)) → AllByRecursion
    (λ later. IsNone later (name ∷ front)) back → IsNone name back
each-none name front [] all = tt
each-none name front (later ∷ more) all =
    (differ-back later name all.0.0, each-none name front more all.1)

rest-none : (name : List ℕ) (front back : List (List ℕ)) → AllByRecursion
    (λ later. IsNone later (name ∷ front)) back → AllByRecursion (λ later. IsNone later front) back
rest-none name front [] all = tt
rest-none name front (later ∷ more) all = (all.0.1, rest-none name front more all.1)

distinct-joined : (front back : List (List ℕ)) → AreDistinct front → AreDistinct back
    → AllByRecursion (λ later. IsNone later front) back → AreDistinct (front ++ back)
distinct-joined [] back one two apart = two
distinct-joined (name ∷ front) back one two apart = (
  all-both (λ other. bytes_eq name other ≡ false) front back one.0
      (each-none name front back apart),
  distinct-joined front back one.1 two (rest-none name front back apart),
)

-- one part behind another
pub chain-tells : (first second : Part) (front back : List (List ℕ)) → Tells first front
    → Tells second back → Tells (chain first second) (front ++ back)
chain-tells first second front back one two = record {
  names_are = λ scope sound.
      let behind_first = (first scope).scope in
      let a = one.names_are scope (all-front IsSound (first scope).mentions
      (second behind_first).mentions sound) in
      let b = two.names_are behind_first (all-back IsSound (first scope).mentions
      (second behind_first).mentions sound) in
      let apart = all-each (λ name. meaning_of behind_first name ≡ None)
      (λ name. IsNone name front) back (λ name none. (one.behind scope name none).1) b.1 in
      let new = all-each (λ name. meaning_of behind_first name ≡ None)
      (λ name. meaning_of scope name ≡ None) back
      (λ name none. (one.behind scope name none).0) b.1 in (
        record {
          distinct = distinct-joined front back a.0.distinct b.0.distinct apart;
          spelled = all-both IsNameText front back a.0.spelled b.0.spelled;
        },
        all-both (λ name. meaning_of scope name ≡ None) front back a.1 new,
      );
  behind = λ scope name none.
      let later = two.behind (first scope).scope name none in
      let earlier = one.behind scope name later.0 in
      (earlier.0, all-both (λ other. bytes_eq name other ≡ false) front back earlier.1 later.1);
}

pub nothing-tells : Tells (in_turn []) []
nothing-tells = record {
  names_are = λ scope sound. (record { distinct = tt; spelled = tt }, tt);
  behind = λ scope name none. (none, tt);
}

-- a name that is spelled so
name-spelled : (name : List ℕ) → Spells kind.Name name → IsNameText name
name-spelled [] spells = absurd spells.0
name-spelled (first ∷ more) spells = and_from (is_name_byte first) (list_all is_name_byte more)
    (or_left (is_name_start first) _ spells.0.0) spells.0.1

-- a scope with one more name
lookup-more : {X : Type 0} (name key : List ℕ) (value : X) (entries : List (List ℕ × X)) → lookup
    (bytes_eq name) (entries ++ (key, value) ∷ []) ≡ None
    → (lookup (bytes_eq name) entries ≡ None) × (bytes_eq name key ≡ false)
lookup-more name key value [] none = elim (cases_Bool (bytes_eq name key)) [
  | inl same ↦ let e : Some value ≡ None = rw same at none in cc
  | inr other ↦ (refl, other)
]
lookup-more name key value (entry ∷ more) none = elim (cases_Bool (bytes_eq name entry.0)) [
  | inl same ↦ let e : Some entry.1 ≡ None = rw same at none in cc
  | inr other ↦
      let later : lookup (bytes_eq name) (more ++ (key, value) ∷ []) ≡ None = rw other at none in
      let rest = lookup-more name key value more later in
      (rw other rest.0, rest.1)
]

none-known : {X : Type 0} (o : Option X) → is_some o ≡ false → o ≡ None
none-known None none = refl
none-known (Some x) none = cc

some-known : {X : Type 0} (o : Option X) → is_some o ≡ true → o ≡ None → ⊥
some-known None some none = let e : false ≡ true = some in cc
some-known (Some x) some none = cc

-- a declaration
pub declares-tells : (meaning : _) (name : Name) → Tells (declares meaning name) (name.text ∷ [])
declares-tells meaning name = record {
  names_are = λ scope sound. (
    record { distinct = (tt, tt); spelled = (name-spelled name.text sound.0.spelled, tt) },
    (none-known (meaning_of scope name.text) sound.0.once, tt),
  );
  behind = λ scope other none. elim (cases_Bool (is_some (meaning_of scope name.text))) [
    | inl known ↦
        let here : meaning_of scope other ≡ None = rw known at none in
        let differs : bytes_eq other name.text ≡ false = false_from_ne_true
        (bytes_eq other name.text) (λ same.
        let e : other ≡ name.text = (bytes_eq-Decides other name.text).0 same in
        some-known (meaning_of scope name.text) known (ap (meaning_of scope) (sym e) ∙ here)) in
        (here, (differs, tt))
    | inr new ↦
        let here : lookup (bytes_eq other) (scope ++ (name.text, meaning) ∷ []) ≡ None =
        rw new at none in
        let parts = lookup-more other name.text meaning scope here in
        (parts.0, (parts.1, tt))
  ];
}

-- parts in turn, each of which declares its names
pub in_turn-tells : {X : Type 0} (part : X → Part) (names : X → List (List ℕ)) (items : List X)
    → ((x : X) → Tells (part x) (names x)) → Tells (in_turn (map part items))
    (flat_map names items)
in_turn-tells part names [] each = nothing-tells
in_turn-tells part names (x ∷ more) each = chain-tells (part x) (in_turn (map part more))
    (names x) (flat_map names more) (each x) (in_turn-tells part names more each)

-- names that are among others, in their order
pub data Among : List (List ℕ) → List (List ℕ) → Type 0 where
  empty : Among [] []
  passed : (name : List ℕ) (some all : List (List ℕ)) → Among some all → Among some (name ∷ all)
  kept : (name : List ℕ) (some all : List (List ℕ)) → Among some all → Among (name ∷ some)
      (name ∷ all)

pub among-nothing : (all : List (List ℕ)) → Among [] all
among-nothing [] = empty
among-nothing (name ∷ all) = passed name [] all (among-nothing all)

pub among-all : (all : List (List ℕ)) → Among all all
among-all [] = empty
among-all (name ∷ all) = kept name all all (among-all all)

pub among-joined : (some all others more : List (List ℕ)) → Among some all → Among others more
    → Among (some ++ others) (all ++ more)
among-joined _ _ others more empty two = two
among-joined _ _ others more (passed name some all one) two = passed name (some ++ others)
    (all ++ more) (among-joined some all others more one two)
among-joined _ _ others more (kept name some all one) two = kept name (some ++ others)
    (all ++ more) (among-joined some all others more one two)

all-among : (P : List ℕ → Type 0) (some all : List (List ℕ)) → Among some all
    → AllByRecursion P all → AllByRecursion P some
all-among P _ _ empty are = tt
all-among P _ _ (passed name some all in_all) are = all-among P some all in_all are.1
all-among P _ _ (kept name some all in_all) are = (are.0, all-among P some all in_all are.1)

distinct-among : (some all : List (List ℕ)) → Among some all → AreDistinct all → AreDistinct some
distinct-among _ _ empty distinct = tt
distinct-among _ _ (passed name some all in_all) distinct =
    distinct-among some all in_all distinct.1
distinct-among _ _ (kept name some all in_all) distinct = (
  all-among (λ other. bytes_eq name other ≡ false) some all in_all distinct.0,
  distinct-among some all in_all distinct.1,
)

pub names-among : (some all : List (List ℕ)) → Among some all → AreNames all → AreNames some
names-among some all in_all names =
    record {
      distinct = distinct-among some all in_all names.distinct;
      spelled =
          all-among IsNameText some all in_all names.spelled;
    }

-- mentions of which a test finds none
filter-none : (test : Mention → Bool) (among : List Mention) → filter test among ≡ []
    → AllByRecursion (λ m. test m ≡ false) among
filter-none test [] none = tt
filter-none test (m ∷ more) none = elim (cases_Bool (test m)) [
  | inl found ↦ let e : m ∷ filter test more ≡ [] = rw found at none in cc
  | inr other ↦ (other, filter-none test more (rw other at none))
]

all-pairs : (P Q : Mention → Type 0) (ms : List Mention) → AllByRecursion P ms
    → AllByRecursion Q ms → AllByRecursion (λ m. P m × Q m) ms
all-pairs P Q [] one two = tt
all-pairs P Q (m ∷ more) one two = ((one.0, two.0), all-pairs P Q more one.1 two.1)

pub mentions-sound : (ms : List Mention) → places_where is_twice_named ms ≡ [] → AllByRecursion
    (λ (m : Mention). Spells kind.Name m.name.text) ms → AllByRecursion IsSound ms
mentions-sound ms none spelled =
    let once = filter-none (λ (m : Mention). is_twice_named m.role m.meaning) ms
    (none-mapped (λ (m : Mention). m.name.at)
    (filter (λ (m : Mention). is_twice_named m.role m.meaning) ms) none) in
    all-each (λ (m : Mention). (is_twice_named m.role m.meaning ≡ false)
    × Spells kind.Name m.name.text) IsSound ms
    (λ m both. record { once = both.0; spelled = both.1 })
    (all-pairs (λ (m : Mention). is_twice_named m.role m.meaning ≡ false)
    (λ (m : Mention). Spells kind.Name m.name.text) ms once spelled)
