-- An instruction and its words determine each other.
use Rattle.std.proofs.Common.{◌≡◌, ℕ, zero, suc, ◌+◌, ◌-◌, ◌<◌, ◌≤◌, ◌++◌, List, [], ◌∷◌, length, drop, Bool, true, false, refl, sym, ap, subst, ◌∙◌, arith, ltb-true, ltb-false, leb-true, length-append, length-drop}
use Rattle.std.specs.Prelude.{Option, Some, None, nat_lt, nat_le, ◌==◌, if◌then◌else◌, slice_get, IfSome}
use Rattle.std.proofs.lemmas.Bool.{eqb-false}
use Rattle.std.proofs.lemmas.Bool.Decides.{nat_tests}
use Rattle.coati_word.specs.declared.operator.Op.TheVariants as op
use Rattle.coati_word.specs.declared.operator.Op1.TheVariants as op1
use Rattle.word_code.specs.declared.instruction.Instr.{Instr}
use Rattle.word_code.specs.declared.instruction.Instr.TheVariants.{Push, GetL, SetL, LoadV, StoreV, LoadX, StoreX, Jump, JumpZ, Next, Give, Two, One}
use Rattle.word_code.specs.Instruction.{IsEncodable, encoded, width, Reader, decoded, read_by, readers, with_any, with_word, with_array, of_operator, binary_operators, unary_operators, binary_number, unary_number}
use Rattle.word_code.specs.InstructionLaws.{BeginsWith, StandsAt}

pub decoded-encoded : (instr : Instr) (more : List ℕ) → IsEncodable instr → decoded (encoded instr ++ more) ≡ Some (instr, width instr)
decoded-encoded (GetL i) more in_range = grind (arith, nat_tests)
decoded-encoded (SetL i) more in_range = grind (arith, nat_tests)
decoded-encoded (LoadX a zero) more in_range = absurd (omega arith)
decoded-encoded (LoadX a (suc n)) more in_range = grind (arith, nat_tests)
decoded-encoded (StoreX a zero) more in_range = absurd (omega arith)
decoded-encoded (StoreX a (suc n)) more in_range = grind (arith, nat_tests)
decoded-encoded (Give n) more in_range = grind (arith, nat_tests)
decoded-encoded (Two op.Or) more in_range = refl
decoded-encoded (Two _) more in_range = refl
decoded-encoded (One op1.Neg) more in_range = refl
decoded-encoded (One _) more in_range = refl
decoded-encoded _ more in_range = refl

-- what is decoded of these words, if anything, is what they begin with
abbrev IsRight : List ℕ → Option (Instr × ℕ) → Type 0
IsRight words None = Unit {0}
IsRight words (Some found) = BeginsWith words found.0 found.1

-- an instruction that is read where a test holds
where_true : {words : List ℕ} {found : Instr × ℕ} (test : Bool) → (test ≡ true → BeginsWith words found.0 found.1) → IsRight words (if test then Some found else None)
where_true true right = right refl
where_true false right = tt

where_false : {words : List ℕ} {found : Instr × ℕ} (test : Bool) → (test ≡ false → BeginsWith words found.0 found.1) → IsRight words (if test then None else Some found)
where_false true right = tt
where_false false right = right refl

begins : {words : List ℕ} {instr : Instr} {count : ℕ} → IsEncodable instr → count ≡ width instr → words ≡ encoded instr ++ drop count words → BeginsWith words instr count
begins in_range counted words_are = record { in_range = in_range; counted = counted; words_are = words_are }

-- a number that isn't 0
above_0 : (n : ℕ) → (n == 0) ≡ false → 0 < n
above_0 zero test = absurd (eqb-false 0 0 test refl)
above_0 (suc n) test = omega arith

-- the readers are right for the opcodes from this one on
abbrev AreRight : ℕ → List Reader → Type 0
AreRight opcode [] = Unit {0}
AreRight opcode (reader ∷ more) = ((words : List ℕ) → IsRight (opcode ∷ words) (reader words)) × AreRight (opcode + 1) more

right_at : (opcode index : ℕ) (all : List Reader) → AreRight opcode all → (words : List ℕ) → IsRight ((opcode + index) ∷ words) (read_by (slice_get all index) words)
right_at opcode index [] right words = tt
right_at opcode zero (reader ∷ more) right words =
    let same : opcode ≡ opcode + 0 = omega arith in
    subst (λ (k : ℕ). IsRight (k ∷ words) (reader words)) same (right.0 words)
right_at opcode (suc index) (reader ∷ more) right words =
    let same : (opcode + 1) + index ≡ opcode + suc index = omega arith in
    subst (λ (k : ℕ). IsRight (k ∷ words) (read_by (slice_get more index) words)) same (right_at (opcode + 1) index more right.1 words)

with_any-right : (opcode : ℕ) (instr : ℕ → Instr) → ((k : ℕ) → IsEncodable (instr k)) → ((k : ℕ) → encoded (instr k) ≡ opcode ∷ k ∷ []) →
    (words : List ℕ) → IsRight (opcode ∷ words) (with_any instr words)
with_any-right opcode instr in_range has_words [] = tt
with_any-right opcode instr in_range has_words (k ∷ more) =
    begins (in_range k) (sym (ap length (has_words k))) (sym (ap (λ (front : List ℕ). front ++ more) (has_words k)))

with_word-right : (opcode : ℕ) (is_allowed : ℕ → Bool) (instr : ℕ → Instr) → ((k : ℕ) → is_allowed k ≡ true → IsEncodable (instr k)) → ((k : ℕ) → encoded (instr k) ≡ opcode ∷ k ∷ []) →
    (words : List ℕ) → IsRight (opcode ∷ words) (with_word is_allowed instr words)
with_word-right opcode is_allowed instr in_range has_words [] = tt
with_word-right opcode is_allowed instr in_range has_words (k ∷ more) =
    where_true (is_allowed k) (λ test. begins (in_range k test) (sym (ap length (has_words k))) (sym (ap (λ (front : List ℕ). front ++ more) (has_words k))))

with_array-right : (opcode : ℕ) (instr : ℕ → ℕ → Instr) → ((a n : ℕ) → 0 < n → IsEncodable (instr a n)) → ((a n : ℕ) → encoded (instr a n) ≡ opcode ∷ a ∷ n ∷ []) →
    (words : List ℕ) → IsRight (opcode ∷ words) (with_array instr words)
with_array-right opcode instr in_range has_words [] = tt
with_array-right opcode instr in_range has_words (a ∷ []) = tt
with_array-right opcode instr in_range has_words (a ∷ n ∷ more) =
    where_false (n == 0) (λ test. begins (in_range a n (above_0 n test)) (sym (ap length (has_words a n))) (sym (ap (λ (front : List ℕ). front ++ more) (has_words a n))))

readers-right : AreRight 0 readers
readers-right = (
  λ words. tt,
  (
    with_any-right 1 Push (λ k. tt) (λ k. refl),
    (
      with_word-right 2 (λ i. nat_lt i 32) GetL (λ i test. ltb-true i 32 test) (λ i. refl),
      (
        with_word-right 3 (λ i. nat_lt i 32) SetL (λ i test. ltb-true i 32 test) (λ i. refl),
        (
          with_any-right 4 LoadV (λ k. tt) (λ k. refl),
          (
            with_any-right 5 StoreV (λ k. tt) (λ k. refl),
            (
              with_array-right 6 LoadX (λ a n in_range. in_range) (λ a n. refl),
              (
                with_array-right 7 StoreX (λ a n in_range. in_range) (λ a n. refl),
                (
                  with_any-right 8 Jump (λ k. tt) (λ k. refl),
                  (
                    with_any-right 9 JumpZ (λ k. tt) (λ k. refl),
                    (
                      with_any-right 10 Next (λ k. tt) (λ k. refl),
                      (
                        λ words. begins tt refl refl,
                        (
                          λ words. begins tt refl refl,
                          (
                            with_word-right 13 (λ n. nat_le n 4) Give (λ n test. leb-true n 4 test) (λ n. refl),
                            tt,
                          ),
                        ),
                      ),
                    ),
                  ),
                ),
              ),
            ),
          ),
        ),
      ),
    ),
  ),
)

-- an operator that stands in a table has its number there
abbrev AreNumbered : {O : Type 0} → (O → ℕ) → ℕ → List O → Type 0
AreNumbered number from [] = Unit {0}
AreNumbered number from (o ∷ more) = (number o ≡ from) × AreNumbered number (from + 1) more

number_of : {O : Type 0} (number : O → ℕ) (base from index : ℕ) (all : List O) (instr : O → Instr) → AreNumbered number from all →
    ((o : O) → IsEncodable (instr o)) → ((o : O) → encoded (instr o) ≡ (base + number o) ∷ []) →
    (words : List ℕ) → IsRight ((base + (from + index)) ∷ words) (of_operator instr (slice_get all index))
number_of number base from index [] instr numbered in_range has_words words = tt
number_of number base from zero (o ∷ more) instr numbered in_range has_words words =
    let same : base + number o ≡ base + (from + 0) = omega (arith, numbered.0) in
    begins (in_range o) (sym (ap length (has_words o)))
    (sym (ap (λ (front : List ℕ). front ++ words) (has_words o) ∙ ap (λ (k : ℕ). k ∷ words) same))
number_of number base from (suc index) (o ∷ more) instr numbered in_range has_words words =
    let same : base + ((from + 1) + index) ≡ base + (from + suc index) = omega arith in
    subst (λ (k : ℕ). IsRight (k ∷ words) (of_operator instr (slice_get more index))) same
    (number_of number base (from + 1) index more instr numbered.1 in_range has_words words)

binary-numbered : AreNumbered binary_number 0 binary_operators
binary-numbered = (refl, (refl, (refl, (refl, (refl, (refl, (refl, (refl, (refl, (refl, (refl, (refl, (refl, (refl, (refl, (refl, tt))))))))))))))))

unary-numbered : AreNumbered unary_number 0 unary_operators
unary-numbered = (refl, (refl, (refl, tt)))

from_32-right : (opcode : ℕ) (words : List ℕ) → 32 ≤ opcode → IsRight (opcode ∷ words) (of_operator Two (slice_get binary_operators (opcode - 32)))
from_32-right opcode words at_least =
    let same : 32 + (0 + (opcode - 32)) ≡ opcode = omega arith in
    subst (λ (k : ℕ). IsRight (k ∷ words) (of_operator Two (slice_get binary_operators (opcode - 32)))) same
    (number_of binary_number 32 0 (opcode - 32) binary_operators Two binary-numbered (λ o. tt) (λ o. refl) words)

from_48-right : (opcode : ℕ) (words : List ℕ) → 48 ≤ opcode → IsRight (opcode ∷ words) (of_operator One (slice_get unary_operators (opcode - 48)))
from_48-right opcode words at_least =
    let same : 48 + (0 + (opcode - 48)) ≡ opcode = omega arith in
    subst (λ (k : ℕ). IsRight (k ∷ words) (of_operator One (slice_get unary_operators (opcode - 48)))) same
    (number_of unary_number 48 0 (opcode - 48) unary_operators One unary-numbered (λ o. tt) (λ o. refl) words)

-- one of two that are both right
right_either : (words : List ℕ) (first second : Option (Instr × ℕ)) (test : Bool) → IsRight words first → (test ≡ false → IsRight words second) →
    IsRight words (if test then first else second)
right_either words one other true first second = first
right_either words one other false first second = second refl

decoded-right : (words : List ℕ) → IsRight words (decoded words)
decoded-right [] = tt
decoded-right (opcode ∷ words) =
    right_either _ _ _ (nat_lt opcode 32)
    (let same : 0 + opcode ≡ opcode = omega arith in
    subst (λ (k : ℕ). IsRight (k ∷ words) (read_by (slice_get readers opcode) words)) same (right_at 0 opcode readers readers-right words))
    (λ not_low. right_either _ _ _ (nat_lt opcode 48) (from_32-right opcode words (ltb-false opcode 32 not_low))
    (λ not_binary. from_48-right opcode words (ltb-false opcode 48 not_binary)))

pub encoded-decoded : (words : List ℕ) (instr : Instr) (count : ℕ) → decoded words ≡ Some (instr, count) → BeginsWith words instr count
encoded-decoded words instr count is = subst (IsRight words) is (decoded-right words)

not_empty : (instr : Instr) → 0 < width instr
not_empty (Push k) = omega arith
not_empty _ = omega arith

-- what is decoded at a place stands there
stands : (words : List ℕ) (at : ℕ) (instr : Instr) (count : ℕ) → decoded (drop at words) ≡ Some (instr, count) → StandsAt words at instr count
stands words at instr count is =
    let begins = encoded-decoded (drop at words) instr count is in
    let some = not_empty instr in
    let counted : count ≡ width instr = begins.counted in
    let sum : length (drop at words) ≡ width instr + length (drop count (drop at words)) =
    ap length begins.words_are ∙ length-append (encoded instr) (drop count (drop at words)) in
    record { begins = begins; not_empty = omega (arith, some, counted); within = omega (arith, some, counted, sum, length-drop at words) }

pub found_stands : (words : List ℕ) (at : ℕ) (found : Option (Instr × ℕ)) → found ≡ decoded (drop at words) → IfSome found (λ r. StandsAt words at r.0 r.1)
found_stands words at None is = tt
found_stands words at (Some found) is = stands words at found.0 found.1 (sym is)
