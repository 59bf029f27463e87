-- A decimal is `0`, or digits without a leading zero. Where a text is read, it is the longest run
-- of digits.
use Rattle.std.specs.Prelude.{ℕ, Bool, true, false, List, [], ◌∷◌, take, Result, Ok, Err, nat_le, ◌==◌, not, EachIndex, slice_index, if◌then◌else◌}
use Rattle.std.specs.Char.{IsAsciiDigit, is_ascii_digit}
use Rattle.std.specs.List.{prefix_len}
use Rattle.std.specs.Str.Parse.{digits_value}
use Rattle.coati_text.specs.declared.cursor.NumFault.{NumFault}
use Rattle.coati_text.specs.declared.cursor.NumFault.TheVariants.{NotDecimal, TooBig}

-- how many digits stand at the front of a text
abbrev pub digit_count : List ℕ → ℕ
digit_count text = prefix_len is_ascii_digit text

-- the longest run of digits at the front of a text
abbrev pub digit_run : List ℕ → List ℕ
digit_run text = take (digit_count text) text

-- each byte is a digit
abbrev pub AreDigits : List ℕ → Type 0
AreDigits run = EachIndex run (λ k. IsAsciiDigit (slice_index run k))

-- the digit `0`
abbrev pub zero_digit : ℕ
zero_digit = 48

-- digits are a decimal where there are some, and no zero leads others
abbrev pub is_decimal : List ℕ → Bool
is_decimal [] = false
is_decimal (digit ∷ []) = true
is_decimal (first ∷ second ∷ more) = not (first == zero_digit)

-- the number that a run of digits spells, if it is a decimal of at most max
abbrev pub number_of : ℕ → List ℕ → Result ℕ NumFault
number_of max run =
    if is_decimal run
    then (if nat_le (digits_value 10 run) max then Ok (digits_value 10 run) else Err TooBig)
    else Err NotDecimal

-- the number at the front of a text
abbrev pub decimal_at : ℕ → List ℕ → Result ℕ NumFault
decimal_at max text = number_of max (digit_run text)
