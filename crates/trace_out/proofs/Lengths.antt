-- What is read of a text takes bytes of it.
use Rattle.std.proofs.Common.{◌≡◌, ℕ, zero, suc, ◌+◌, ◌-◌, ◌<◌, ◌≤◌, List, [], ◌∷◌, Option, Some, None, length, drop, refl, ap, ◌∙◌, arith}
use Rattle.std.specs.Prelude.{codes}
use Rattle.std.proofs.lemmas.List.{length-append, length-drop}
use Rattle.std.proofs.lemmas.Option.{same_Some}
use Rattle.coati_text.specs.Decimal.{decimal_at, digit_count}
use Rattle.coati_word.specs.declared.reading.Reading.{Reading}
use Rattle.task_syntax.specs.declared.program.Program.{Program}
use Rattle.task_syntax.specs.Names.{words_of}
use Rattle.trace_out.specs.Front.{behind, behind_name, name_at, name_len, number_at, number_read}
use Rattle.trace_out.specs.LineReading.{in_front, reading_at, readings_in, readings_within}
use Rattle.trace_out.specs.Lookups.{index_at, word_among, word_at}
use Rattle.trace_out.proofs.Binds.{bound, made}
use Rattle.trace_out.proofs.Fronts.{behind-parts}

behind-shorter : (word text rest : List ℕ) → behind word text ≡ Some rest → length text
    ≡ length word + length rest
behind-shorter word text rest read = ap length (behind-parts word text rest read)
    ∙ length-append word rest

number_at-shorter : (most : ℕ) (text : List ℕ) (x : ℕ × List ℕ) → number_at most text ≡ Some x
    → length x.1 ≤ length text
unfolding number_at
number_at-shorter most text x read =
    let one = made (number_read (decimal_at most text)) read in
    let is : (one.value, drop (digit_count text) text) ≡ x = one.is in
    let rest : drop (digit_count text) text ≡ x.1 = cc in
    omega (arith, ap length rest, length-drop (digit_count text) text)

index_at-shorter : (items : ℕ) (text : List ℕ) (x : ℕ × List ℕ) → index_at items text ≡ Some x
    → length x.1 ≤ length text
unfolding index_at
index_at-shorter items text x read =
    let one = bound (behind (codes "[") text) read in
    let two = bound (number_at (items - 1) one.value) one.goes_on in
    let three = bound (behind (codes "]") two.value.1) two.goes_on in
    let last : Some (two.value.0, three.value) ≡ Some x = three.goes_on in
    let rest : three.value ≡ x.1 = cc in
    omega (
      arith,
      behind-shorter (codes "[") text one.value one.was,
      number_at-shorter (items - 1) one.value two.value two.was,
      behind-shorter (codes "]") two.value.1 three.value three.was,
      ap length rest,
    )

word_among-shorter : (first : ℕ) (items : Option ℕ) (text : List ℕ) (x : ℕ × List ℕ)
    → word_among first items text ≡ Some x → length x.1 ≤ length text
word_among-shorter first None text x read = let rest : text ≡ x.1 =
    cc in omega (arith, ap length rest)
word_among-shorter first (Some items) text x read =
    let one = made (index_at items text) read in
    let is : (first + one.value.0, one.value.1) ≡ x = one.is in
    let rest : one.value.1 ≡ x.1 = cc in
    omega (arith, index_at-shorter items text one.value one.was, ap length rest)

word_at-shorter : (program : Program) (text : List ℕ) (x : ℕ × List ℕ) → word_at program text
    ≡ Some x → length x.1 ≤ length text
unfolding word_at
word_at-shorter program text x read =
    let one = bound (words_of program (name_at text)) read in
    omega (
      arith,
      word_among-shorter one.value.first one.value.length
          (behind_name text) x one.goes_on,
      length-drop (name_len text) text,
    )

-- a reading takes a byte at least
reading_at-shorter : (program : Program) (text : List ℕ) (x : Reading × List ℕ)
    → reading_at program text ≡ Some x → length x.1 < length text
unfolding reading_at
reading_at-shorter program text x read =
    let one = bound (behind (codes " ") text) read in
    let two = bound (word_at program one.value) one.goes_on in
    let three = bound (behind (codes "=") two.value.1) two.goes_on in
    let four = bound (number_at 65535 three.value) three.goes_on in
    let own : Reading = record { word = two.value.0; value = four.value.0 } in
    let is = same_Some (own, four.value.1) x four.goes_on in
    let rest : four.value.1 ≡ x.1 = cc in
    omega (
      arith,
      behind-shorter (codes " ") text one.value one.was,
      word_at-shorter program one.value two.value two.was,
      behind-shorter (codes "=") two.value.1 three.value three.was,
      number_at-shorter 65535 three.value four.value four.was,
      ap length rest,
    )

-- the first reading is the same, and so are those behind it
same_behind : (fuel other : ℕ) (program : Program) (byte : ℕ) (text : List ℕ)
    (o : Option (Reading × List ℕ)) → reading_at program (byte ∷ text) ≡ o
    → ((x : Reading × List ℕ) → reading_at program (byte ∷ text) ≡ Some x
    → readings_within fuel program x.1 ≡ readings_within other program x.1)
    → readings_within (suc fuel) program (byte ∷ text) ≡ readings_within (suc other) program
    (byte ∷ text)
unfolding readings_within
same_behind fuel other program byte text None was again = rw was refl
same_behind fuel other program byte text (Some x) was again =
    rw was (ap (in_front x.0) (again x was))

-- so as many readings are enough as there are bytes
readings_within-enough : (fuel other : ℕ) (program : Program) (text : List ℕ) → length text < fuel
    → length text < other
    → readings_within fuel program text ≡ readings_within other program text
unfolding readings_within
readings_within-enough zero other program text one two = absurd (omega arith)
readings_within-enough (suc fuel) zero program text one two = absurd (omega arith)
readings_within-enough (suc fuel) (suc other) program [] one two = refl
readings_within-enough (suc fuel) (suc other) program (byte ∷ text) one two =
    same_behind fuel other program byte text (reading_at program (byte ∷ text)) refl
    (λ x was. let less = reading_at-shorter program
    (byte ∷ text) x was in readings_within-enough fuel other program x.1 (omega (arith, less))
    (omega (arith, less)))

-- a reading, and the readings behind it
pub readings_in-more : (program : Program) (text : List ℕ) (x : Reading × List ℕ)
    → 0 < length text → reading_at program text ≡ Some x
    → readings_in program text ≡ in_front x.0 (readings_in program x.1)
unfolding readings_within
readings_in-more program [] x some read = absurd (omega arith)
readings_in-more program (byte ∷ text) x some read =
    let less = reading_at-shorter program (byte ∷ text) x read in
    rw read (ap (in_front x.0) (readings_within-enough (suc (length text))
    (suc (length x.1)) program x.1 (omega (arith, less)) (omega arith)))

-- no reading
pub readings_in-none : (program : Program) (text : List ℕ) → 0 < length text
    → reading_at program text ≡ None → readings_in program text ≡ None
unfolding readings_within
readings_in-none program [] some read = absurd (omega arith)
readings_in-none program (byte ∷ text) some read = rw read refl

pub readings_in-nil : (program : Program) → readings_in program [] ≡ Some []
unfolding readings_within
readings_in-nil program = refl
