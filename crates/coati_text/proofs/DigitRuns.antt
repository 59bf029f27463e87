-- Runs of digits, and the decimals that they are.
use Rattle.std.proofs.Common.{◌≡◌, ℕ, ◌+◌, ◌<◌, ◌≤◌, ◌^◌, List, [], ◌∷◌, ◌++◌, true, false, Result, Ok, Err, length, take, drop, get_or, refl, sym, ap, ◌∙◌, inl, inr, zero-add, suc, arith, rules}
use Rattle.std.specs.Char.{is_ascii_digit}
use Rattle.std.specs.List.{prefix_len}
use Rattle.std.proofs.lemmas.List.Sums.{prefix_len_passes, prefix_len_stops, prefix_len-drop_no, prefix_len-drop_all}
use Rattle.std.proofs.lemmas.List.Folds.{length-prefix_len}
use Rattle.std.proofs.lemmas.List.{get_or-take, take-append-drop, take_at}
use Rattle.std.proofs.lemmas.Bool.{cases_Bool, cases_lt, and_parts, and_from, le-leb, leb-true, eq-eqb, ne_eqb}
use Rattle.std.specs.Prelude.{nat_le}
use Rattle.coati_text.specs.declared.cursor.NumFault.{NumFault}
use Rattle.coati_text.specs.declared.cursor.NumFault.TheVariants.{NotDecimal, TooBig}
use borrow.Author.Tests.{tests}
use Rattle.coati_text.specs.Decimal.{AreDigits, digit_count, digit_run, is_decimal, number_of, decimal_at}
use Rattle.std.specs.Fmt.{decimal}
use Rattle.std.specs.Str.{all_ascii_digits}
use Rattle.std.specs.Str.Parse.{digits_value}
use Rattle.std.proofs.lemmas.Str.Parse.{IsNumeralModel, numerals_by_value}
use Rattle.std.proofs.lemmas.Fmt.{digits_decimal, digits_value-decimal, decimal-digits_value, decimal_nonempty, first_decimal, decimal_digit}

-- each byte of the run at the front is a digit
pub AreDigits-digit_run : (text : List ℕ) → AreDigits (digit_run text)
AreDigits-digit_run text k below =
    let inside : k < prefix_len is_ascii_digit text = omega (arith, length-prefix_len is_ascii_digit text) in
    let passes = prefix_len_passes is_ascii_digit text k 0 inside in
    rw (get_or-take (prefix_len is_ascii_digit text) text k 0 inside) (search (rules, tests))

-- the digits that std reads and prints
digits_test : IsNumeralModel (λ ds. all_ascii_digits ds ≡ true) (digits_value 10)
digits_test = numerals_by_value _ (search rules)

-- a run is digits alone
all_digits-digit_run : (text : List ℕ) → all_ascii_digits (digit_run text) ≡ true
all_digits-digit_run [] = refl
all_digits-digit_run (byte ∷ text) =
    let front : take (1 + digit_count text) (byte ∷ text) ≡ byte ∷ digit_run text =
    let e : 1 + digit_count text ≡ suc (digit_count text) = omega arith in rw e refl in
    elim (cases_Bool (is_ascii_digit byte)) [
      | inl digit ↦ rw (digit, front) (and_from (is_ascii_digit byte) (all_ascii_digits (digit_run text)) digit (all_digits-digit_run text))
      | inr other ↦ rw other refl
    ]

-- digits, and what stands behind them
digit_count-append : (digits rest : List ℕ) → all_ascii_digits digits ≡ true → digit_count (digits ++ rest) ≡ length digits + digit_count rest
digit_count-append [] rest all = sym (zero-add _)
digit_count-append (digit ∷ digits) rest all =
    let parts = and_parts (is_ascii_digit digit) (all_ascii_digits digits) all in
    let again = digit_count-append digits rest parts.1 in
    rw (parts.0, again) (omega arith)

-- no digit stands behind a run
pub digit_count-behind : (text : List ℕ) → digit_count (drop (digit_count text) text) ≡ 0
digit_count-behind text = elim (cases_lt (digit_count text) (length text)) [
  | inl inside ↦ prefix_len-drop_no is_ascii_digit text (digit_count text) 0 inside (prefix_len_stops is_ascii_digit text 0 inside)
  | inr whole ↦ prefix_len-drop_all is_ascii_digit text (digit_count text) whole
]

-- a decimal's first digit is no zero where others follow
no_leading_zero : (run : List ℕ) → is_decimal run ≡ true → (0 < length run) × (get_or run 0 0 ≡ 48 → length run ≡ 1)
no_leading_zero [] is = cc
no_leading_zero (digit ∷ []) is = (omega arith, λ _. refl)
no_leading_zero (first ∷ second ∷ more) is = (omega arith, λ zero. let e : false ≡ true = rw (eq-eqb first 48 zero) at is in cc)

is_decimal-from : (run : List ℕ) → 0 < length run → (get_or run 0 0 ≡ 48 → length run ≡ 1) → is_decimal run ≡ true
is_decimal-from [] some lone = absurd (omega arith)
is_decimal-from (digit ∷ []) some lone = refl
is_decimal-from (first ∷ second ∷ more) some lone = rw (ne_eqb first 48 (λ zero. omega (arith, lone zero))) refl

is_decimal-decimal : (n : ℕ) → n < 2 ^ 64 → is_decimal (decimal n) ≡ true
is_decimal-decimal n small = elim (cases_lt 0 n) [
  | inl above ↦ is_decimal-from (decimal n) (decimal_nonempty n small) (λ zero. absurd (omega (arith, first_decimal n above small)))
  | inr none ↦ let e : n ≡ 0 = omega arith in rw e (rw (decimal_digit 0 (omega arith)) refl)
]

abbrev result : ℕ → Result ℕ NumFault
result n = Ok n

abbrev refusal : NumFault → Result ℕ NumFault
refusal fault = Err fault

-- the parts of a number that was read
number_of-parts : (max n : ℕ) (run : List ℕ) → number_of max run ≡ Ok n → (is_decimal run ≡ true) × (digits_value 10 run ≡ n) × (n ≤ max)
number_of-parts max n run read = elim (cases_Bool (is_decimal run)) [
  | inl is ↦ elim (cases_Bool (nat_le (digits_value 10 run) max)) [
    | inl within ↦ let same : Ok (digits_value 10 run) ≡ result n = rw (is, within) at read in
        let value : digits_value 10 run ≡ n = cc in
        (is, value, omega (arith, leb-true (digits_value 10 run) max within, value))
    | inr above ↦ let other : refusal TooBig ≡ result n = rw (is, above) at read in cc
  ]
  | inr not ↦ let other : refusal NotDecimal ≡ result n = rw not at read in cc
]

-- what is read is a number's decimal
pub decimal_at-spelled : (max n : ℕ) (text : List ℕ) → max < 2 ^ 32 → decimal_at max text ≡ Ok n → digit_run text ≡ decimal n
decimal_at-spelled max n text small read =
    let parts = number_of-parts max n (digit_run text) read in
    let lone = no_leading_zero (digit_run text) parts.0 in
    let e : digits_value 10 (digit_run text) ≡ n = parts.1 in
    let bound : digits_value 10 (digit_run text) < 2 ^ 64 = omega (arith, parts.2, parts.1) in
    sym (decimal-digits_value digits_test (digit_run text) (all_digits-digit_run text) lone.0 lone.1 bound) ∙ ap decimal e

-- a number's decimal is the run that stands there
digit_run-decimal : (n : ℕ) (rest : List ℕ) → n < 2 ^ 64 → digit_count rest ≡ 0 → digit_run (decimal n ++ rest) ≡ decimal n
digit_run-decimal n rest small none =
    take_at (decimal n) rest (digit_count (decimal n ++ rest)) (omega (arith, digit_count-append (decimal n) rest (digits_decimal digits_test n small), none))

-- a number's decimal is read
pub decimal_at-decimal : (max n : ℕ) (rest : List ℕ) → max < 2 ^ 32 → n ≤ max → digit_count rest ≡ 0 → decimal_at max (decimal n ++ rest) ≡ Ok n
decimal_at-decimal max n rest small within none =
    let fits : n < 2 ^ 64 = omega arith in
    ap (number_of max) (digit_run-decimal n rest fits none)
    ∙ rw (is_decimal-decimal n fits, digits_value-decimal digits_test n fits, le-leb n max within) refl

-- what is read of a text, and what stands behind it
pub decimal_at-split : (max n : ℕ) (text : List ℕ) → max < 2 ^ 32 → decimal_at max text ≡ Ok n → text ≡ decimal n ++ drop (digit_count text) text
decimal_at-split max n text small read =
    sym (take-append-drop (digit_count text) text) ∙ ap (λ (run : List ℕ). run ++ drop (digit_count text) text) (decimal_at-spelled max n text small read)
