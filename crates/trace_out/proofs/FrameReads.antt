-- The lines before and behind those of marks: what was read of a line, and that it is read again.
use Rattle.std.proofs.Common.{◌≡◌, ℕ, zero, suc, ◌≤◌, List, [], ◌∷◌, ◌++◌, Some, None, length, refl, sym, ap, subst, ◌∙◌, inl, inr, arith, append_assoc}
use Rattle.std.specs.Prelude.{codes, flat_map}
use Rattle.std.specs.Fmt.{decimal}
use Rattle.std.specs.List.{AllByRecursion}
use Rattle.std.specs.Str.{bytes_eq}
use Rattle.std.proofs.lemmas.Bool.{cases_Bool}
use Rattle.std.proofs.lemmas.Slice.Eq.{bytes_eq-Decides}
use Rattle.coati_text.specs.Decimal.{digit_count}
use Rattle.coati_word.specs.declared.mode.Mode.{Mode}
use Rattle.coati_word.specs.declared.mode.Mode.TheVariants.{Split, Buffi}
use Rattle.coati_word.specs.declared.reading.Reading.{Reading}
use Rattle.serial_log.specs.declared.end.End.{End}
use Rattle.serial_log.specs.declared.end.End.TheVariants as end
use Rattle.serial_log.specs.declared.line.Line.{Line}
use Rattle.serial_log.specs.declared.line.Line.TheVariants as line
use Rattle.task_syntax.specs.declared.program.Program.{Program}
use Rattle.task_syntax.specs.declared.program.Var.{Var}
use Rattle.task_syntax.specs.Names.{count_of}
use Rattle.trace_out.specs.Front.{behind}
use Rattle.trace_out.specs.LineReading.{bound_in, end_in, held_in, mode_in, value_at, values_at, values_in, values_text}
use Rattle.trace_out.specs.Printed.{bound_line, greatest_number, greatest_value, held_line, mode_line, value_text, variable_line}
use Rattle.trace_out.specs.Shown.{end_line}
use Rattle.trace_out.proofs.Binds.{bound, made}
use Rattle.trace_out.proofs.Fronts.{alone-parts, behind-again, behind-parts, last_number-again, last_number-parts, number_at-again, number_at-parts}
use Rattle.trace_out.proofs.MarkReads.{own_text}

pub mode_in-parts : (text : List ℕ) (mode : Mode) → mode_in text ≡ Some mode → text
    ≡ mode_line mode
unfolding mode_in
mode_in-parts text mode read = elim (cases_Bool (bytes_eq text (codes "coati split"))) [
  | inl one ↦
      let same : Some Split ≡ Some mode = rw one at read in
      let is : Split ≡ mode = cc in
      (bytes_eq-Decides text (codes "coati split")).0 one ∙ ap mode_line is
  | inr other ↦ elim (cases_Bool (bytes_eq text (codes "coati buffi"))) [
    | inl two ↦
        let same : Some Buffi ≡ Some mode = rw (other, two) at read in
        let is : Buffi ≡ mode = cc in
        (bytes_eq-Decides text (codes "coati buffi")).0 two ∙ ap mode_line is
    | inr neither ↦ let none : None ≡ Some mode = rw (other, neither) at read in cc
  ]
]

pub mode_in-again : (mode : Mode) → mode_in (mode_line mode) ≡ Some mode
unfolding mode_in
mode_in-again Split = refl
mode_in-again Buffi = refl

pub end_in-parts : (text : List ℕ) (x : End) → end_in text ≡ Some x → text ≡ end_line x
unfolding end_in
end_in-parts text x read = elim (cases_Bool (bytes_eq text (codes "end idle"))) [
  | inl one ↦
      let same : Some end.Idle ≡ Some x = rw one at read in
      let is : end.Idle ≡ x = cc in
      (bytes_eq-Decides text (codes "end idle")).0 one ∙ ap end_line is
  | inr other ↦ elim (cases_Bool (bytes_eq text (codes "end limit"))) [
    | inl two ↦
        let same : Some end.Limit ≡ Some x = rw (other, two) at read in
        let is : end.Limit ≡ x = cc in
        (bytes_eq-Decides text (codes "end limit")).0 two ∙ ap end_line is
    | inr neither ↦ let none : None ≡ Some x = rw (other, neither) at read in cc
  ]
]

pub end_in-again : (x : End) → end_in (end_line x) ≡ Some x
unfolding end_in
end_in-again end.Idle = refl
end_in-again end.Limit = refl

-- a mark's line is no end line
pub end_in-mark : (program : Program) (reads : List Reading) (shown : Line) → end_in
    (own_text program reads shown) ≡ None
unfolding end_in
end_in-mark program reads (line.Boot number at) = refl
end_in-mark program reads (line.Post at posted) = refl
end_in-mark program reads (line.Commit committed) = refl
end_in-mark program reads (line.Abort aborted) = refl

-- a number that a line tells
pub record IsTold (text : List ℕ) (form : ℕ → List ℕ) (number : ℕ) : Type 0 where
  pub spelled : text ≡ form number
  pub within : number ≤ greatest_number

pub bound_in-parts : (text : List ℕ) (number : ℕ) → bound_in text ≡ Some number
    → IsTold text bound_line number
unfolding bound_in
bound_in-parts text number read =
    let one = bound (behind (codes "bound ") text) read in
    let at = last_number-parts greatest_number one.value number (omega arith) one.goes_on in
    record {
      spelled = behind-parts (codes "bound ") text one.value one.was
          ∙ ap (λ (t : List ℕ). codes "bound " ++ t) at.spelled;
      within = at.within;
    }

pub bound_in-again : (number : ℕ) → number ≤ greatest_number → bound_in (bound_line number)
    ≡ Some number
unfolding bound_in
bound_in-again number within =
    let one : behind (codes "bound ") (codes "bound " ++ decimal number) ≡ Some (decimal number) =
    behind-again (codes "bound ") (decimal number) in
    rw (one, last_number-again greatest_number number (omega arith) within) refl

pub held_in-parts : (text : List ℕ) (number : ℕ) → held_in text ≡ Some number
    → IsTold text held_line number
unfolding held_in
held_in-parts text number read =
    let one = bound (behind (codes "held ") text) read in
    let at = last_number-parts greatest_number one.value number (omega arith) one.goes_on in
    record {
      spelled = behind-parts (codes "held ") text one.value one.was
          ∙ ap (λ (t : List ℕ). codes "held " ++ t) at.spelled;
      within = at.within;
    }

pub held_in-again : (number : ℕ) → number ≤ greatest_number → held_in (held_line number)
    ≡ Some number
unfolding held_in
held_in-again number within =
    let one : behind (codes "held ") (codes "held " ++ decimal number) ≡ Some (decimal number) =
    behind-again (codes "held ") (decimal number) in
    rw (one, last_number-again greatest_number number (omega arith) within) refl

-- values of variable words
abbrev pub IsValue : ℕ → Type 0
IsValue value = value ≤ greatest_value

record AreValuesRead (count : ℕ) (text : List ℕ) (values : List ℕ) : Type 0 where
  spelled : text ≡ flat_map value_text values
  counted : length values ≡ count
  are : AllByRecursion IsValue values

values_at-parts : (count : ℕ) (text values : List ℕ) → values_at count text ≡ Some values
    → AreValuesRead count text values
unfolding values_at value_at
values_at-parts zero text values read =
    let end = alone-parts [] values text read in
    subst (AreValuesRead 0 text) end.0 (record { spelled = end.1; counted = refl; are = tt })
values_at-parts (suc count) text values read =
    let one = bound (value_at text) read in
    let two = made (values_at count one.value.1) one.goes_on in
    let three = bound (behind (codes " ") text) one.was in
    let number = number_at-parts greatest_value three.value one.value
    (omega arith) three.goes_on in
    let others = values_at-parts count one.value.1 two.value two.was in
    subst (AreValuesRead (suc count) text) two.is (record {
      spelled =
          behind-parts (codes " ") text three.value three.was
          ∙ ap (λ (t : List ℕ). codes " " ++ t)
          (number.spelled ∙ ap (λ (t : List ℕ). decimal one.value.0 ++ t) others.spelled);
      counted = omega (arith, others.counted);
      are = (number.within, others.are);
    })

digit_count-values : (values : List ℕ) → digit_count (flat_map value_text values) ≡ 0
digit_count-values [] = refl
digit_count-values (value ∷ more) = refl

values_at-again : (values : List ℕ) → AllByRecursion IsValue values → values_at (length values)
    (flat_map value_text values) ≡ Some values
unfolding values_at value_at
values_at-again [] are = refl
values_at-again (value ∷ more) are =
    let rest = flat_map value_text more in
    let one : behind (codes " ") (codes " " ++ (decimal value ++ rest)) ≡ Some
    (decimal value ++ rest) = behind-again (codes " ") (decimal value ++ rest) in
    let two = number_at-again greatest_value value rest (omega arith) are.0
    (digit_count-values more) in
    rw (one, two, values_at-again more are.1) refl

-- the line of a variable
pub record IsVariableRead (var : Var) (text values : List ℕ) : Type 0 where
  pub spelled : text ≡ variable_line var values
  pub counted : length values ≡ count_of var.length
  pub are : AllByRecursion IsValue values

variable_line-is : (var : Var) (values : List ℕ) → codes "var "
    ++ (var.name.text ++ flat_map value_text values) ≡ variable_line var values
variable_line-is var values = sym (append_assoc (codes "var ") var.name.text
    (flat_map value_text values))

pub values_in-parts : (var : Var) (text values : List ℕ) → values_in var text ≡ Some values
    → IsVariableRead var text values
unfolding values_in values_text
values_in-parts var text values read =
    let one = bound (values_text var text) read in
    let two = bound (behind (codes "var ") text) one.was in
    let at = values_at-parts (count_of var.length) one.value values one.goes_on in
    record {
      spelled =
          behind-parts (codes "var ") text two.value two.was
          ∙ ap (λ (t : List ℕ). codes "var " ++ t)
          (behind-parts var.name.text two.value one.value two.goes_on
          ∙ ap (λ (t : List ℕ). var.name.text ++ t) at.spelled)
          ∙ variable_line-is var values;
      counted = at.counted;
      are = at.are;
    }

pub values_in-again : (var : Var) (values : List ℕ) → length values ≡ count_of var.length
    → AllByRecursion IsValue values → values_in var (variable_line var values) ≡ Some values
unfolding values_in values_text
values_in-again var values counted are =
    let text = flat_map value_text values in
    let one : behind (codes "var ") (codes "var " ++ (var.name.text ++ text)) ≡ Some
    (var.name.text ++ text) = behind-again (codes "var ") (var.name.text ++ text) in
    let two = behind-again var.name.text text in
    let three : values_at (count_of var.length) text ≡ Some values =
    ap (λ (n : ℕ). values_at n text) (sym counted) ∙ values_at-again values are in
    ap (values_in var) (sym (variable_line-is var values)) ∙ rw (one, two, three) refl
