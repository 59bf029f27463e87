-- Locals by name are locals by slot.
use Rattle.std.proofs.Common.{◌≡◌, ◌≢◌, ℕ, ◌+◌, ◌<◌, ◌≤◌, List, [], ◌∷◌, length, refl, sym, ap, ◌∙◌, subst, arith}
use Rattle.std.specs.Prelude.{Bool, true, false, ◌||◌, Option, Some, None, is_some, if◌then◌else◌, slice_index_or, slice_set}
use Rattle.std.specs.Str.{bytes_eq}
use Rattle.std.proofs.lemmas.Bool.{or_right, true≢false}
use Rattle.std.proofs.lemmas.Slice.Eq.{bytes_eq-Decides}
use Rattle.std.proofs.lemmas.List.{get_or-set_same, get_or-set_other}
use Rattle.task_syntax.specs.Expressions.{Locals, with_local}
use Rattle.codegen.specs.Scope.{Local, Scope, slot_of, declare, behind_block}
use Rattle.task_check.specs.Loops.{is_among}

abbrev pub names_of : List Local → List (List ℕ)
names_of [] = []
names_of (local ∷ locals) = local.name ∷ names_of locals

-- a name is known where it has a slot
pub known_is : (locals : List Local) (name : List ℕ) → is_among (names_of locals) name ≡ is_some (slot_of locals name)
known_is [] name = refl
known_is (local ∷ locals) name =
    elim (bytes_eq name local.name) as (λ b. (b || is_among (names_of locals) name) ≡ is_some (if b then Some local.slot else slot_of locals name)) [
      | true ↦ refl
      | false ↦ known_is locals name
    ]

pub found : (slot : Option ℕ) → is_some slot ≡ true → (s : ℕ) × (slot ≡ Some s)
found None h = absurd (true≢false (sym h))
found (Some s) h = (s, refl)

pub slot_known : (locals : List Local) (name : List ℕ) → is_among (names_of locals) name ≡ true → (s : ℕ) × (slot_of locals name ≡ Some s)
slot_known locals name h = found (slot_of locals name) (sym (known_is locals name) ∙ h)

some-same : (a b : ℕ) → Some a ≡ Some b → a ≡ b
some-same a b h = cc

same_name : (one other : List ℕ) → bytes_eq one other ≡ true → one ≡ other
same_name one other h = (bytes_eq-Decides one other).0 h

-- each name in scope stands for what is in its slot
pub record Agrees (scope : List Local) (values : Locals) (ls : List ℕ) : Type 0 where
  pub by : (name : List ℕ) (slot : ℕ) → slot_of scope name ≡ Some slot → values name ≡ slice_index_or ls slot 0

-- a name that has a slot keeps it
pub record Grows (scope more : List Local) : Type 0 where
  pub by : (name : List ℕ) (slot : ℕ) → slot_of scope name ≡ Some slot → slot_of more name ≡ Some slot

-- the slots are apart and below the next one, and the loops that stand round have their names in scope
pub record Sound (scope : Scope) (loops : List (List ℕ)) : Type 0 where
  pub below : (name : List ℕ) (slot : ℕ) → slot_of scope.locals name ≡ Some slot → slot < scope.next
  pub apart : (name other : List ℕ) (slot : ℕ) → slot_of scope.locals name ≡ Some slot → slot_of scope.locals other ≡ Some slot → name ≡ other
  pub loops_known : (name : List ℕ) → is_among loops name ≡ true → is_among (names_of scope.locals) name ≡ true

pub same_grows : (locals : List Local) → Grows locals locals
same_grows locals = record { by = λ name slot e. e }

pub grows_on : (scope more most : List Local) → Grows scope more → Grows more most → Grows scope most
grows_on scope more most one other = record { by = λ name slot e. other.by name slot (one.by name slot e) }

pub agrees_less : (scope more : List Local) (values : Locals) (ls : List ℕ) → Grows scope more → Agrees more values ls → Agrees scope values ls
agrees_less scope more values ls grows agrees = record { by = λ name slot e. agrees.by name slot (grows.by name slot e) }

-- another slot is set
pub agrees_past : (scope : Scope) (loops : List (List ℕ)) (values : Locals) (ls : List ℕ) (slot value : ℕ) → Sound scope loops → scope.next ≤ slot →
    Agrees scope.locals values ls → Agrees scope.locals values (slice_set ls slot value)
agrees_past scope loops values ls slot value sound past agrees = record {
  by = λ name s e.
      let n : s ≢ slot = (let below = sound.below name s e in omega (arith, below, past)) in
      agrees.by name s e ∙ sym (get_or-set_other ls slot s value 0 n);
}

-- a name more, whose value stands in its slot
pub agrees_more : (scope : Scope) (values : Locals) (ls : List ℕ) (name : List ℕ) (value : ℕ) → slice_index_or ls scope.next 0 ≡ value →
    Agrees scope.locals values ls → Agrees (declare name scope).locals (with_local name value values) ls
agrees_more scope values ls name value is agrees = record {
  by = λ other s e.
      elim (bytes_eq other name) as (λ b. (if b then Some scope.next else slot_of scope.locals other) ≡ Some s → (if b then value else values other) ≡ slice_index_or ls s 0) [
        | true ↦ λ h. subst (λ n. value ≡ slice_index_or ls n 0) (some-same scope.next s h) (sym is)
        | false ↦ λ h. agrees.by other s h
      ] e;
}

-- a new local is set
pub agrees_declared : (scope : Scope) (loops : List (List ℕ)) (values : Locals) (ls : List ℕ) (name : List ℕ) (value : ℕ) → Sound scope loops → scope.next < length ls →
    Agrees scope.locals values ls → Agrees (declare name scope).locals (with_local name value values) (slice_set ls scope.next value)
agrees_declared scope loops values ls name value sound within agrees =
    agrees_more scope values (slice_set ls scope.next value) name value (get_or-set_same ls scope.next value 0 within)
    (agrees_past scope loops values ls scope.next value sound (omega arith) agrees)

-- a local in scope is set
pub agrees_assigned : (scope : Scope) (loops : List (List ℕ)) (values : Locals) (ls : List ℕ) (name : List ℕ) (slot value : ℕ) → Sound scope loops → slot < length ls →
    slot_of scope.locals name ≡ Some slot → Agrees scope.locals values ls → Agrees scope.locals (with_local name value values) (slice_set ls slot value)
agrees_assigned scope loops values ls name slot value sound within is agrees = record {
  by = λ other s e.
      elim (bytes_eq other name) as (λ b. bytes_eq other name ≡ b → (if b then value else values other) ≡ slice_index_or (slice_set ls slot value) s 0) [
        | true ↦ λ h. let same : slot ≡ s = some-same slot s (sym is ∙ ap (slot_of scope.locals) (sym (same_name other name h)) ∙ e) in
            subst (λ n. value ≡ slice_index_or (slice_set ls slot value) n 0) same (sym (get_or-set_same ls slot value 0 within))
        | false ↦ λ h.
            let n : s ≢ slot = λ same. true≢false (sym ((bytes_eq-Decides other name).1 (sound.apart other name slot (e ∙ ap (λ (x : ℕ). Some x) same) is)) ∙ h) in
            agrees.by other s e ∙ sym (get_or-set_other ls slot s value 0 n)
      ] refl;
}

-- a new name takes no other one away
pub declare_grows : (scope : Scope) (name : List ℕ) → is_among (names_of scope.locals) name ≡ false → Grows scope.locals (declare name scope).locals
declare_grows scope name new = record {
  by = λ other slot e.
      elim (bytes_eq other name) as (λ b. bytes_eq other name ≡ b → (if b then Some scope.next else slot_of scope.locals other) ≡ Some slot) [
        | true ↦ λ h.
            let here : slot_of scope.locals name ≡ Some slot = ap (slot_of scope.locals) (sym (same_name other name h)) ∙ e in
            absurd (true≢false (sym (ap is_some here) ∙ sym (known_is scope.locals name) ∙ new))
        | false ↦ λ h. e
      ] refl;
}

below_declared : (scope : Scope) (loops : List (List ℕ)) (name : List ℕ) → Sound scope loops → (other : List ℕ) (slot : ℕ) →
    slot_of (declare name scope).locals other ≡ Some slot → slot < scope.next + 1
below_declared scope loops name sound other slot e =
    elim (bytes_eq other name) as (λ b. (if b then Some scope.next else slot_of scope.locals other) ≡ Some slot → slot < scope.next + 1) [
      | true ↦ λ h. let same = some-same scope.next slot h in omega (arith, same)
      | false ↦ λ h. let below = sound.below other slot h in omega (arith, below)
    ] e

apart_declared : (scope : Scope) (loops : List (List ℕ)) (name : List ℕ) → Sound scope loops → (one other : List ℕ) (slot : ℕ) →
    slot_of (declare name scope).locals one ≡ Some slot → slot_of (declare name scope).locals other ≡ Some slot → one ≡ other
apart_declared scope loops name sound one other slot e f =
    elim (bytes_eq one name) as (λ b. bytes_eq one name ≡ b → (if b then Some scope.next else slot_of scope.locals one) ≡ Some slot → one ≡ other) [
      | true ↦ λ h e. elim (bytes_eq other name) as (λ b. bytes_eq other name ≡ b → (if b then Some scope.next else slot_of scope.locals other) ≡ Some slot → one ≡ other) [
        | true ↦ λ k f. same_name one name h ∙ sym (same_name other name k)
        | false ↦ λ k f. let same = some-same scope.next slot e in let below = sound.below other slot f in absurd (omega (arith, same, below))
      ] refl f
      | false ↦ λ h e. elim (bytes_eq other name) as (λ b. bytes_eq other name ≡ b → (if b then Some scope.next else slot_of scope.locals other) ≡ Some slot → one ≡ other) [
        | true ↦ λ k f. let same = some-same scope.next slot f in let below = sound.below one slot e in absurd (omega (arith, same, below))
        | false ↦ λ k f. sound.apart one other slot e f
      ] refl f
    ] refl e

-- a new name, and maybe a loop of that name round what follows
pub sound_declared : (scope : Scope) (loops : List (List ℕ)) (name : List ℕ) → Sound scope loops → Sound (declare name scope) loops
sound_declared scope loops name sound = record {
  below = below_declared scope loops name sound;
  apart = apart_declared scope loops name sound;
  loops_known = λ other h. or_right (bytes_eq other name) (is_among (names_of scope.locals) other) (sound.loops_known other h);
}

pub sound_loop : (scope : Scope) (loops : List (List ℕ)) (name : List ℕ) → Sound scope loops → Sound (declare name scope) (name ∷ loops)
sound_loop scope loops name sound = record {
  below = below_declared scope loops name sound;
  apart = apart_declared scope loops name sound;
  loops_known = λ other h.
      elim (bytes_eq other name) as (λ b. (b || is_among loops other) ≡ true → (b || is_among (names_of scope.locals) other) ≡ true) [
        | true ↦ λ k. refl
        | false ↦ λ k. sound.loops_known other k
      ] h;
}

-- behind a block
pub sound_behind : (scope inner : Scope) (loops : List (List ℕ)) → scope.next ≤ inner.next → Sound scope loops → Sound (behind_block scope inner) loops
sound_behind scope inner loops more sound = record {
  below = λ name slot e. (let below = sound.below name slot e in omega (arith, below, more));
  apart = sound.apart;
  loops_known = sound.loops_known;
}

-- another name is set
pub other_value : (name : List ℕ) (value : ℕ) (values : Locals) (other : List ℕ) → bytes_eq other name ≡ false → with_local name value values other ≡ values other
other_value name value values other h = ap (λ (b : Bool). if b then value else values other) h

-- a name that isn't among some differs from each of them
pub differs : (names : List (List ℕ)) (name other : List ℕ) → is_among names name ≡ false → is_among names other ≡ true → bytes_eq other name ≡ false
differs names name other new known =
    elim (bytes_eq other name) as (λ b. bytes_eq other name ≡ b → b ≡ false) [
      | true ↦ λ h. absurd (true≢false (sym (ap (is_among names) (sym (same_name other name h)) ∙ known) ∙ new))
      | false ↦ λ h. refl
    ] refl

pub same_text : (name : List ℕ) → bytes_eq name name ≡ true
same_text name = (bytes_eq-Decides name name).1 refl

pub slot_here : (scope : Scope) (name : List ℕ) → slot_of (declare name scope).locals name ≡ Some scope.next
slot_here scope name = ap (λ (b : Bool). if b then Some scope.next else slot_of scope.locals name) (same_text name)

pub value_here : (name : List ℕ) (value : ℕ) (values : Locals) → with_local name value values name ≡ value
value_here name value values = ap (λ (b : Bool). if b then value else values name) (same_text name)

pub among_here : (name : List ℕ) (names : List (List ℕ)) → is_among (name ∷ names) name ≡ true
among_here name names = ap (λ (b : Bool). b || is_among names name) (same_text name)
