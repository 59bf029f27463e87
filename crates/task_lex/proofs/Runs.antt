-- The longest run of bytes that pass a test, at the front of a text.
use Rattle.std.proofs.Common.{◌≡◌, ℕ, ◌+◌, ◌<◌, Bool, true, false, List, [], ◌∷◌, ◌++◌, length, take, drop, refl, inl, inr, suc, arith, rules}
use Rattle.std.specs.Prelude.{EachIndex, slice_index, ◌==◌, ◌||◌}
use Rattle.std.specs.Char.{IsAsciiDigit, is_ascii_digit}
use Rattle.std.proofs.lemmas.List.{get_or-take}
use Rattle.std.proofs.lemmas.List.Sums.{prefix_len_passes}
use Rattle.std.proofs.lemmas.List.Folds.{length-prefix_len}
use borrow.Author.Tests.{tests}
use Rattle.std.specs.List.{list_all, prefix_len}
use Rattle.std.proofs.lemmas.Bool.{cases_Bool, and_parts, and_from, or_from, or_left}
use Rattle.task_lex.specs.Byte.{begins, hash, is_blank, is_name_start, is_name_byte}
use Rattle.task_lex.specs.Token.{IsName, IsNumeral}

-- a word that passes, before a byte that does not, is the longest run
pub prefix_len-word : (passes : ℕ → Bool) (word rest : List ℕ) → list_all passes word ≡ true → begins passes rest ≡ false → prefix_len passes (word ++ rest) ≡ length word
prefix_len-word passes [] [] all stops = refl
prefix_len-word passes [] (byte ∷ rest) all stops = rw stops refl
prefix_len-word passes (byte ∷ word) rest all stops =
    let parts = and_parts (passes byte) (list_all passes word) all in
    rw (parts.0, prefix_len-word passes word rest parts.1 stops) (omega arith)

pub next_byte : (byte len : ℕ) (text : List ℕ) → (take (1 + len) (byte ∷ text) ≡ byte ∷ take len text) × (drop (1 + len) (byte ∷ text) ≡ drop len text)
next_byte byte len text = let e : 1 + len ≡ suc len = omega arith in (rw e refl, rw e refl)

-- the longest run passes
pub list_all-run : (passes : ℕ → Bool) (text : List ℕ) → list_all passes (take (prefix_len passes text) text) ≡ true
list_all-run passes [] = refl
list_all-run passes (byte ∷ text) =
    let next = next_byte byte (prefix_len passes text) text in
    elim (cases_Bool (passes byte)) [
      | inl pass ↦ rw (pass, next.0) (and_from (passes byte) (list_all passes (take (prefix_len passes text) text)) pass (list_all-run passes text))
      | inr stop ↦ rw stop refl
    ]

-- what stands behind it does not
pub begins-behind_run : (passes : ℕ → Bool) (text : List ℕ) → begins passes (drop (prefix_len passes text) text) ≡ false
begins-behind_run passes [] = refl
begins-behind_run passes (byte ∷ text) =
    let next = next_byte byte (prefix_len passes text) text in
    elim (cases_Bool (passes byte)) [
      | inl pass ↦ rw (pass, next.1) (begins-behind_run passes text)
      | inr stop ↦ rw stop stop
    ]

-- the run behind a letter or `_` is a name
pub IsName-run : (text : List ℕ) → begins is_name_start text ≡ true → IsName (take (prefix_len is_name_byte text) text)
IsName-run [] begin = absurd (cc)
IsName-run (first ∷ more) begin =
    let pass = or_left (is_name_start first) (is_ascii_digit first) begin in
    let next = next_byte first (prefix_len is_name_byte more) more in
    rw (pass, next.0) (begin, list_all-run is_name_byte more)

-- the run from a digit on is a numeral
pub IsNumeral-run : (text : List ℕ) → begins is_ascii_digit text ≡ true → IsNumeral (take (prefix_len is_ascii_digit text) text)
IsNumeral-run [] begin = absurd (cc)
IsNumeral-run (first ∷ more) begin =
    let next = next_byte first (prefix_len is_ascii_digit more) more in
    rw (begin, next.0) (and_from (is_ascii_digit first) (list_all is_ascii_digit (take (prefix_len is_ascii_digit more) more)) begin (list_all-run is_ascii_digit more))

-- each byte of a run of digits is a digit
pub IsAsciiDigit-run : (text : List ℕ) → EachIndex (take (prefix_len is_ascii_digit text) text) (λ k. IsAsciiDigit (slice_index (take (prefix_len is_ascii_digit text) text) k))
IsAsciiDigit-run text k below =
    let inside : k < prefix_len is_ascii_digit text = omega (arith, length-prefix_len is_ascii_digit text) in
    let passes = prefix_len_passes is_ascii_digit text k 0 inside in
    rw (get_or-take (prefix_len is_ascii_digit text) text k 0 inside) (search (rules, tests))

-- what begins with neither a letter or `_` nor a digit goes on with no name
pub begins_no_name : (text : List ℕ) → begins is_name_start text ≡ false → begins is_ascii_digit text ≡ false → begins is_name_byte text ≡ false
begins_no_name [] no_start no_digit = refl
begins_no_name (byte ∷ text) no_start no_digit = or_from (is_name_start byte) (is_ascii_digit byte) no_start no_digit

-- a byte with which a gap begins
abbrev pub is_gap_byte : ℕ → Bool
is_gap_byte byte = is_blank byte || byte == hash
