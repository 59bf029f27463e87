-- Fields that are decimals of numbers in a range.
use Rattle.std.proofs.Common.{◌≡◌, ℕ, ◌<◌, ◌≤◌, ◌^◌, true, ◌&&◌, List, Some, None, refl, ap, ◌∙◌, inl, inr}
use Rattle.std.specs.Fmt.{decimal}
use Rattle.std.specs.Str.{bytes_eq}
use Rattle.std.specs.Str.Parse.{digits_value}
use Rattle.std.specs.Prelude.{nat_le}
use Rattle.std.proofs.lemmas.Bool.{cases_Bool, and_parts, and_from, le-leb, leb-true}
use Rattle.std.proofs.lemmas.Fmt.{decimal_is_IsNumeral}
use Rattle.std.proofs.lemmas.Slice.Eq.{bytes_eq-Decides}
use Rattle.trace_text.specs.Reading.{is_decimal_of, number_in}

-- the number that a field was read as
pub record IsIn (least most : ℕ) (field : List ℕ) (number : ℕ) : Type 0 where
  pub spelled : field ≡ decimal number
  pub least_is : least ≤ number
  pub most_is : number ≤ most

is_decimal_of-parts : (least most number : ℕ) (field : List ℕ) → is_decimal_of least most field number ≡ true → IsIn least most field number
is_decimal_of-parts least most number field is =
    let first = and_parts (bytes_eq field (decimal number) && nat_le least number) (nat_le number most) is in
    let second = and_parts (bytes_eq field (decimal number)) (nat_le least number) first.0 in
    record {
      spelled = (bytes_eq-Decides field (decimal number)).0 second.0;
      least_is = leb-true least number second.1;
      most_is = leb-true number most first.1;
    }

is_decimal_of-from : (least most number : ℕ) (field : List ℕ) → IsIn least most field number → is_decimal_of least most field number ≡ true
is_decimal_of-from least most number field is =
    and_from (bytes_eq field (decimal number) && nat_le least number) (nat_le number most)
    (and_from (bytes_eq field (decimal number)) (nat_le least number) ((bytes_eq-Decides field (decimal number)).1 is.spelled) (le-leb least number is.least_is))
    (le-leb number most is.most_is)

-- a number in the range is read of its decimal
pub number_in-from : (least most number : ℕ) (field : List ℕ) → number < 2 ^ 64 → IsIn least most field number → number_in least most field ≡ Some number
number_in-from least most number field small is =
    let value : digits_value 10 field ≡ number = ap (digits_value 10) is.spelled ∙ (decimal_is_IsNumeral number small).1 in
    rw (value, is_decimal_of-from least most number field is) refl

-- and no other
pub number_in-parts : (least most number : ℕ) (field : List ℕ) → number_in least most field ≡ Some number → IsIn least most field number
number_in-parts least most number field read = elim (cases_Bool (is_decimal_of least most field (digits_value 10 field))) [
  | inl is ↦
      let same : Some (digits_value 10 field) ≡ Some number = rw is at read in
      let value : digits_value 10 field ≡ number = cc in
      rw value at (is_decimal_of-parts least most (digits_value 10 field) field is)
  | inr other ↦ let none : None ≡ Some number = rw other at read in cc
]

-- nothing is read where the field is the decimal of no number in the range
pub number_in-none : (least most : ℕ) (field : List ℕ) → ((number : ℕ) → IsIn least most field number → ⊥) → number_in least most field ≡ None
number_in-none least most field none = elim (cases_Bool (is_decimal_of least most field (digits_value 10 field))) [
  | inl is ↦ absurd (none (digits_value 10 field) (is_decimal_of-parts least most (digits_value 10 field) field is))
  | inr other ↦ rw other refl
]
