-- Readings and values in a line: what was read of a text, and that it is read again.
use Rattle.std.proofs.Common.{◌≡◌, ℕ, zero, suc, List, [], ◌∷◌, ◌++◌, Some, length, refl, ap, subst, ◌∙◌, arith, append_assoc}
use Rattle.std.specs.Prelude.{codes, flat_map}
use Rattle.std.specs.Fmt.{decimal}
use Rattle.std.specs.List.{AllByRecursion}
use Rattle.std.proofs.lemmas.Option.{same_Some}
use Rattle.coati_text.specs.Decimal.{digit_count}
use Rattle.coati_word.specs.declared.reading.Reading.{Reading}
use Rattle.task_syntax.specs.declared.program.Program.{Program}
use Rattle.trace_out.specs.Front.{behind, number_at}
use Rattle.trace_out.specs.LineReading.{in_front, reading_at, readings_in, readings_within}
use Rattle.trace_out.specs.Lookups.{word_at}
use Rattle.trace_out.specs.Names.{word_text}
use Rattle.trace_out.specs.Printed.{IsReading, greatest_value}
use Rattle.trace_out.specs.Shown.{reading_text}
use Rattle.trace_out.proofs.Binds.{bound, made}
use Rattle.trace_out.proofs.Fronts.{behind-again, behind-parts, number_at-again, number_at-parts}
use Rattle.trace_out.proofs.Lengths.{readings_in-more, readings_in-nil}
use Rattle.trace_out.proofs.UnitReads.{IsNamed}
use Rattle.trace_out.proofs.WordPlaces.{word_at-again, word_at-parts}

-- a reading that was read of a text
pub record IsReadingRead (program : Program) (text : List ℕ) (x : Reading × List ℕ) : Type 0 where
  pub spelled : text ≡ reading_text program x.0 ++ x.1
  pub is : IsReading program x.0

pub reading_at-parts : (program : Program) (text : List ℕ) (x : Reading × List ℕ)
    → IsNamed program → reading_at program text ≡ Some x → IsReadingRead program text x
unfolding reading_at
reading_at-parts program text x named read =
    let one = bound (behind (codes " ") text) read in
    let two = bound (word_at program one.value) one.goes_on in
    let three = bound (behind (codes "=") two.value.1) two.goes_on in
    let four = bound (number_at greatest_value three.value) three.goes_on in
    let own : Reading = record { word = two.value.0; value = four.value.0 } in
    let is = same_Some (own, four.value.1) x four.goes_on in
    let word = word_at-parts program one.value two.value named.words two.was in
    let number = number_at-parts greatest_value three.value four.value (omega arith) four.was in
    let name = word_text program.vars two.value.0 in
    let regroup : codes " " ++ (name ++ (codes "=" ++ (decimal four.value.0 ++ four.value.1)))
    ≡ reading_text program own ++ four.value.1 = simp append_assoc in
    subst (IsReadingRead program text) is (record {
      spelled =
          behind-parts (codes " ") text one.value one.was
          ∙ ap (λ (t : List ℕ). codes " " ++ t)
          (word.spelled ∙ ap (λ (t : List ℕ). name ++ t)
          (behind-parts (codes "=") two.value.1 three.value three.was
          ∙ ap (λ (t : List ℕ). codes "=" ++ t) number.spelled))
          ∙ regroup;
      is = record { word = word.within; value = number.within };
    })

pub reading_at-again : (program : Program) (reading : Reading) (rest : List ℕ) → IsNamed program
    → IsReading program reading → digit_count rest ≡ 0
    → reading_at program (reading_text program reading ++ rest) ≡ Some (reading, rest)
unfolding reading_at
reading_at-again program reading rest named is ends =
    let name = word_text program.vars reading.word in
    let regroup : reading_text program reading ++ rest ≡ codes " "
    ++ (name ++ (codes "=" ++ (decimal reading.value ++ rest))) = simp append_assoc in
    let one = behind-again (codes " ") (name ++ (codes "=" ++ (decimal reading.value ++ rest))) in
    let two = word_at-again program reading.word
    (codes "=" ++ (decimal reading.value ++ rest)) named.words named.vars is.word refl in
    let three = behind-again (codes "=") (decimal reading.value ++ rest) in
    let four = number_at-again greatest_value reading.value rest (omega arith) is.value ends in
    ap (reading_at program) regroup ∙ rw (one, two, three, four) refl

-- what stands behind a reading is no digit
digit_count-readings : (program : Program) (readings : List Reading) → digit_count
    (flat_map (reading_text program) readings) ≡ 0
digit_count-readings program [] = refl
digit_count-readings program (first ∷ more) = refl

-- readings that were read of a text
pub record AreReadingsRead (program : Program) (text : List ℕ)
    (readings : List Reading) : Type 0 where
  pub spelled : text ≡ flat_map (reading_text program) readings
  pub are : AllByRecursion (IsReading program) readings

readings_within-parts : (fuel : ℕ) (program : Program) (text : List ℕ) (readings : List Reading)
    → IsNamed program → readings_within fuel program text ≡ Some readings
    → AreReadingsRead program text readings
unfolding readings_within
readings_within-parts zero program text readings named read = cc
readings_within-parts (suc fuel) program [] readings named read =
    let none : [] ≡ readings = cc in
    subst (AreReadingsRead program []) none (record { spelled = refl; are = tt })
readings_within-parts (suc fuel) program (byte ∷ text) readings named read =
    let one = bound (reading_at program (byte ∷ text)) read in
    let two = made (readings_within fuel program one.value.1) one.goes_on in
    let at = reading_at-parts program (byte ∷ text) one.value named one.was in
    let others = readings_within-parts fuel program one.value.1 two.value named two.was in
    subst (AreReadingsRead program (byte ∷ text)) two.is (record {
      spelled = at.spelled ∙ ap (λ (t : List ℕ). reading_text program one.value.0
          ++ t) others.spelled;
      are = (at.is, others.are);
    })

pub readings_in-parts : (program : Program) (text : List ℕ) (readings : List Reading)
    → IsNamed program → readings_in program text ≡ Some readings
    → AreReadingsRead program text readings
readings_in-parts program text readings named read = readings_within-parts
    (suc (length text)) program text readings named read

pub readings_in-again : (program : Program) (readings : List Reading) → IsNamed program
    → AllByRecursion (IsReading program) readings
    → readings_in program (flat_map (reading_text program) readings) ≡ Some readings
readings_in-again program [] named are = readings_in-nil program
readings_in-again program (first ∷ more) named are =
    let rest = flat_map (reading_text program) more in
    let one = reading_at-again program first rest named are.0
    (digit_count-readings program more) in
    readings_in-more program (reading_text program first ++ rest) (first, rest) (omega arith) one
    ∙ ap (in_front first) (readings_in-again program more named are.1)
