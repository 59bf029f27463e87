-- Words, numbers and names at the front of a text.
use Rattle.std.proofs.Common.{◌≡◌, ℕ, ◌<◌, ◌≤◌, ◌^◌, true, false, List, [], ◌∷◌, ◌++◌, Some, None, Result, Ok, Err, length, take, drop, refl, sym, ap, ◌∙◌, inl, inr, arith}
use Rattle.std.specs.Prelude.{nat_le}
use Rattle.std.specs.Fmt.{decimal}
use Rattle.std.specs.List.{list_all}
use Rattle.std.specs.Str.{bytes_eq}
use Rattle.std.specs.Str.Parse.{digits_value}
use Rattle.std.proofs.lemmas.Bool.{cases_Bool, leb-true}
use Rattle.std.proofs.lemmas.List.{append-nil, append_cancel_left, take-append-drop, take_at, drop_at}
use Rattle.std.proofs.lemmas.Slice.Eq.{bytes_eq-Decides}
use Rattle.coati_text.specs.Decimal.{decimal_at, digit_count, digit_run, is_decimal, number_of}
use Rattle.coati_text.specs.declared.cursor.NumFault.{NumFault}
use Rattle.coati_text.specs.declared.cursor.NumFault.TheVariants.{NotDecimal, TooBig}
use Rattle.coati_text.proofs.DigitRuns.{decimal_at-decimal, decimal_at-split}
use Rattle.task_lex.specs.Byte.{begins, is_name_byte}
use Rattle.task_lex.proofs.Runs.{prefix_len-word}
use Rattle.trace_out.specs.Front.{alone, behind, behind_name, last_number, name_at, name_len, number_at}
use Rattle.trace_out.proofs.Binds.{bound}

-- a word that was found
pub behind-parts : (word text rest : List ℕ) → behind word text ≡ Some rest → text ≡ word ++ rest
unfolding behind
behind-parts word text rest read = elim (cases_Bool (bytes_eq (take (length word) text) word)) [
  | inl same ↦
      let found : Some (drop (length word) text) ≡ Some rest = rw same at read in
      let left : drop (length word) text ≡ rest = cc in
      let front : take (length word) text ≡ word =
      (bytes_eq-Decides (take (length word) text) word).0 same in
      sym (take-append-drop (length word) text)
      ∙ ap (λ (f : List ℕ). f ++ drop (length word) text) front
      ∙ ap (λ (r : List ℕ). word ++ r) left
  | inr other ↦ let none : None ≡ Some rest = rw other at read in cc
]

-- and is found again
pub behind-again : (word rest : List ℕ) → behind word (word ++ rest) ≡ Some rest
unfolding behind
behind-again word rest =
    let front : take (length word) (word ++ rest) ≡ word = take_at word rest (length word) refl in
    let left : drop (length word) (word ++ rest) ≡ rest = drop_at word rest (length word) refl in
    let same : bytes_eq (take (length word) (word ++ rest)) word ≡ true =
    (bytes_eq-Decides (take (length word) (word ++ rest)) word).1 front in
    rw (same, left) refl

-- a number that was read is at most the greatest
abbrev result : ℕ → Result ℕ NumFault
result n = Ok n

abbrev refusal : NumFault → Result ℕ NumFault
refusal fault = Err fault

number_of-most : (most n : ℕ) (run : List ℕ) → number_of most run ≡ Ok n → n ≤ most
number_of-most most n run read = elim (cases_Bool (is_decimal run)) [
  | inl is ↦ elim (cases_Bool (nat_le (digits_value 10 run) most)) [
    | inl within ↦
        let same : Ok (digits_value 10 run) ≡ result n = rw (is, within) at read in
        let value : digits_value 10 run ≡ n = cc in
        omega (arith, leb-true (digits_value 10 run) most within, value)
    | inr above ↦ let other : refusal TooBig ≡ result n = rw (is, above) at read in cc
  ]
  | inr not ↦ let other : refusal NotDecimal ≡ result n = rw not at read in cc
]

-- a number that was read, and what stands behind its decimal
pub record IsNumberAt (most : ℕ) (text : List ℕ) (found : ℕ × List ℕ) : Type 0 where
  pub spelled : text ≡ decimal found.0 ++ found.1
  pub within : found.0 ≤ most

pub number_at-parts : (most : ℕ) (text : List ℕ) (found : ℕ × List ℕ) → most < 2 ^ 32
    → number_at most text ≡ Some found → IsNumberAt most text found
unfolding number_at
number_at-parts most text found small read = go (decimal_at most text) refl read where
  go : (r : Result ℕ NumFault) → decimal_at most text ≡ r → number_at most text ≡ Some found
      → IsNumberAt most text found
  go (Err fault) was here = let none : None ≡ Some found = rw was at here in cc
  go (Ok n) was here =
      let same : Some (n, drop (digit_count text) text) ≡ Some found = rw was at here in
      let one : n ≡ found.0 = cc in
      let two : drop (digit_count text) text ≡ found.1 = cc in
      record {
        spelled = decimal_at-split most n text small was
            ∙ ap (λ (m : ℕ). decimal m ++ drop (digit_count text) text) one
            ∙ ap (λ (r : List ℕ). decimal found.0 ++ r) two;
        within = omega (arith, number_of-most most n (digit_run text) was, one);
      }

-- a decimal in the range is read, where no digit stands behind it
pub number_at-again : (most n : ℕ) (rest : List ℕ) → most < 2 ^ 32 → n ≤ most → digit_count rest
    ≡ 0 → number_at most (decimal n ++ rest) ≡ Some (n, rest)
unfolding number_at
number_at-again most n rest small within none =
    let read : decimal_at most (decimal n ++ rest) ≡ Ok n =
    decimal_at-decimal most n rest small within none in
    let split = decimal_at-split most n (decimal n ++ rest) small read in
    let left : drop (digit_count (decimal n ++ rest)) (decimal n ++ rest) ≡ rest =
    sym (append_cancel_left (decimal n) rest _ split) in
    rw read (ap (λ (r : List ℕ). Some (n, r)) left)

-- a number with nothing behind it
pub record IsLastNumber (most : ℕ) (text : List ℕ) (n : ℕ) : Type 0 where
  pub spelled : text ≡ decimal n
  pub within : n ≤ most

-- a value that stands alone
pub alone-parts : {A : Type 0} (x y : A) (rest : List ℕ) → alone x rest ≡ Some y → (x ≡ y)
    × (rest ≡ [])
alone-parts x y [] read = (cc, refl)
alone-parts x y (byte ∷ rest) read = cc

pub last_number-parts : (most : ℕ) (text : List ℕ) (n : ℕ) → most < 2 ^ 32 → last_number most text
    ≡ Some n → IsLastNumber most text n
unfolding last_number
last_number-parts most text n small read =
    let one = bound (number_at most text) read in
    let at = number_at-parts most text one.value small one.was in
    let end = alone-parts one.value.0 n one.value.1 one.goes_on in
    record {
      spelled = at.spelled ∙ ap (λ (r : List ℕ). decimal one.value.0 ++ r) end.1 ∙ append-nil
          (decimal one.value.0) ∙ ap decimal end.0;
      within = omega (arith, at.within, end.0);
    }

pub last_number-again : (most n : ℕ) → most < 2 ^ 32 → n ≤ most → last_number most (decimal n)
    ≡ Some n
unfolding last_number
last_number-again most n small within =
    let at : number_at most (decimal n) ≡ Some (n, []) = ap (number_at most)
    (sym (append-nil (decimal n))) ∙ number_at-again most n [] small within refl in
    rw at refl

-- a name is made of letters, digits and `_`
abbrev pub IsNameText : List ℕ → Type 0
IsNameText name = list_all is_name_byte name ≡ true

-- a name, before what goes on with no name byte
pub name_at-again : (name rest : List ℕ) → IsNameText name → begins is_name_byte rest ≡ false
    → name_at (name ++ rest) ≡ name
name_at-again name rest is ends = take_at name rest (name_len (name ++ rest))
    (sym (prefix_len-word is_name_byte name rest is ends))

pub behind_name-again : (name rest : List ℕ) → IsNameText name → begins is_name_byte rest ≡ false
    → behind_name (name ++ rest) ≡ rest
behind_name-again name rest is ends = drop_at name rest (name_len (name ++ rest))
    (sym (prefix_len-word is_name_byte name rest is ends))

-- a text is the name at its front, and what stands behind it
pub name_at-split : (text : List ℕ) → text ≡ name_at text ++ behind_name text
name_at-split text = sym (take-append-drop (name_len text) text)
