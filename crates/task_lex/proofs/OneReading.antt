-- A text is read in one way: its tokens, or its first fault.
use Rattle.std.proofs.Common.{◌≡◌, ℕ, ◌+◌, ◌<◌, ◌⊎◌, true, false, List, [], ◌∷◌, ◌++◌, length, refl, sym, ap, ◌∙◌, subst, inl, inr, arith, length-append}
use Rattle.std.specs.Prelude.{◌==◌}
use Rattle.std.specs.Char.{is_ascii_digit}
use Rattle.std.specs.List.{prefix_len}
use Rattle.std.specs.Str.Parse.{digits_value}
use Rattle.std.proofs.lemmas.Bool.{or_from, or_parts, ne_eqb, false≢true, both_ways}
use Rattle.task_lex.specs.Byte.{begins, hash, is_blank, is_name_byte, is_name_start}
use Rattle.task_lex.specs.Reading.{FaultsAt, IsBadByte, IsGap, Reads, Tokens, nothing, gap, token, token_at}
use Rattle.task_lex.specs.Token.{IsBadNumber, IsToken}
use Rattle.task_lex.specs.declared.fault.LexFault.{LexFault}
use Rattle.task_lex.specs.declared.fault.LexFault.TheVariants.{BadByte, BadNumber, OutOfMemory}
use Rattle.task_lex.specs.declared.token.Token.{Token}
use Rattle.task_lex.specs.declared.token.TokenKind.{TokenKind}
use Rattle.task_lex.specs.declared.token.TokenKind.TheVariants as kind
use Rattle.task_lex.proofs.Texts.{no_empty_symbol}
use Rattle.task_lex.proofs.Runs.{is_gap_byte, prefix_len-word}
use Rattle.task_lex.proofs.OneFront.{all_digits, begins-gap, begins-numeral, digit_front, gap_or_token, name_or_number, one_gap, one_token, same_parts, starts_so, word_front, word_or_symbol}

-- no gap and no token stands where a reading stops: at the end, at a bad byte or at a bad number
abbrev pub Stops : List ℕ → Type 0
Stops left = (left ≡ []) ⊎ (IsBadByte left ⊎ IsBadNumber left)

bad_byte_front : (left : List ℕ) → IsBadByte left → (begins is_gap_byte left ≡ false) × (begins is_name_byte left ≡ false)
bad_byte_front left bad =
    let gap = or_from (is_blank bad.byte) (bad.byte == hash) bad.no_blank (ne_eqb bad.byte hash bad.no_comment) in
    (ap (begins is_gap_byte) bad.here ∙ gap, ap (begins is_name_byte) bad.here ∙ bad.no_word)

bad_number_front : (left : List ℕ) → IsBadNumber left → begins is_ascii_digit left ≡ true
bad_number_front left bad = ap (begins is_ascii_digit) bad.here ∙ begins-numeral bad.digits bad.rest bad.numeral

no_gap_where_it_stops : (left word rest : List ℕ) → left ≡ word ++ rest → IsGap word rest → Stops left → ⊥
no_gap_where_it_stops left word rest here is (inl end) =
    false≢true (ap (begins is_gap_byte) (sym end ∙ here) ∙ begins-gap word rest is)
no_gap_where_it_stops left word rest here is (inr (inl bad)) =
    both_ways (begins is_gap_byte left) (bad_byte_front left bad).0 (ap (begins is_gap_byte) here ∙ begins-gap word rest is)
no_gap_where_it_stops left word rest here is (inr (inr bad)) =
    both_ways (begins is_gap_byte left) (word_front left (digit_front left (bad_number_front left bad)).1) (ap (begins is_gap_byte) here ∙ begins-gap word rest is)

-- digits that are a number and digits that are none
number_or_bad : (left word rest : List ℕ) (value : ℕ) → left ≡ word ++ rest → IsToken (kind.Number value) word rest → IsBadNumber left → ⊥
number_or_bad left word rest value here is bad =
    let front = word_or_symbol (kind.Number value) word rest is in
    let stops = no_digit rest is.longest in
    let len : length word ≡ length bad.digits =
    sym (prefix_len-word is_ascii_digit word rest (all_digits word is.spelled.0) stops) ∙ ap (prefix_len is_ascii_digit) (sym here ∙ bad.here)
    ∙ prefix_len-word is_ascii_digit bad.digits bad.rest (all_digits bad.digits bad.numeral) bad.longest in
    let parts = same_parts word rest bad.digits bad.rest (sym here ∙ bad.here) len in
    elim bad.fault [
      | inl above ↦ omega (arith, is.spelled.1, is.spelled.2, ap (digits_value 10) parts.0)
      | inr letter ↦ both_ways (begins is_name_start rest) (no_start rest is.longest) (ap (begins is_name_start) parts.1 ∙ letter)
    ]
  where
    no_digit : (rest : List ℕ) → begins is_name_byte rest ≡ false → begins is_ascii_digit rest ≡ false
    no_digit [] none = refl
    no_digit (byte ∷ rest) none = (or_parts (is_name_start byte) (is_ascii_digit byte) none).1

    no_start : (rest : List ℕ) → begins is_name_byte rest ≡ false → begins is_name_start rest ≡ false
    no_start [] none = refl
    no_start (byte ∷ rest) none = (or_parts (is_name_start byte) (is_ascii_digit byte) none).0

no_token_at_bad_number : (found : TokenKind) (left word rest : List ℕ) → left ≡ word ++ rest → IsToken found word rest → IsBadNumber left → ⊥
no_token_at_bad_number kind.Name left word rest here is bad =
    name_or_number left (ap (begins is_name_start) here ∙ starts_so kind.Name word rest is.spelled) (bad_number_front left bad)
no_token_at_bad_number (kind.Number value) left word rest here is bad = number_or_bad left word rest value here is bad
no_token_at_bad_number (kind.Keyword keyword) left word rest here is bad =
    name_or_number left (ap (begins is_name_start) here ∙ starts_so (kind.Keyword keyword) word rest is.spelled) (bad_number_front left bad)
no_token_at_bad_number (kind.Symbol symbol) left word rest here is bad =
    both_ways (begins is_name_byte left) (ap (begins is_name_byte) here ∙ starts_so (kind.Symbol symbol) word rest is.spelled) (digit_front left (bad_number_front left bad)).1

-- a token has a text
pub some_text : (found : TokenKind) (word rest : List ℕ) → IsToken found word rest → 0 < length word
some_text found [] rest is = absurd (elim (word_or_symbol found [] rest is) [
  | inl a ↦ both_ways (begins is_name_byte rest) a.stops a.begin
  | inr b ↦ no_empty_symbol b.symbol b.text
])
some_text found (byte ∷ word) rest is = omega arith

no_token_where_it_stops : (found : TokenKind) (left word rest : List ℕ) → left ≡ word ++ rest → IsToken found word rest → Stops left → ⊥
no_token_where_it_stops found left word rest here is (inl end) =
    omega (arith, some_text found word rest is, ap length (sym end ∙ here), length-append word rest)
no_token_where_it_stops found left word rest here is (inr (inl bad)) = elim (word_or_symbol found word rest is) [
  | inl a ↦ both_ways (begins is_name_byte left) (bad_byte_front left bad).1 (ap (begins is_name_byte) here ∙ a.begin)
  | inr b ↦ bad.no_symbol b.symbol (record { rest = rest; here = here ∙ ap (λ (text : List ℕ). text ++ rest) (sym b.text) })
]
no_token_where_it_stops found left word rest here is (inr (inr bad)) = no_token_at_bad_number found left word rest here is bad

-- a reading of what stands behind a word is one of what stands behind its like
moved : (place : ℕ) (word rest other more : List ℕ) (others : List Token) (further : ℕ) (beyond : List ℕ) → word ≡ other → rest ≡ more
    → Reads (place + length other) more others further beyond → Reads (place + length word) rest others further beyond
moved place word rest other more others further beyond same_word same_rest read =
    let P : List ℕ → Type 0 = λ text. Reads (place + length text) more others further beyond in
    let Q : List ℕ → Type 0 = λ text. Reads (place + length word) text others further beyond in
    subst Q (sym same_rest) (subst P (sym same_word) read)

-- two readings of a text that both stop are one
pub one_reading : (place : ℕ) (text : List ℕ) (tokens : List Token) (behind : ℕ) (left : List ℕ) → Reads place text tokens behind left → Stops left
    → (others : List Token) (further : ℕ) (other_left : List ℕ) → Reads place text others further other_left → Stops other_left
    → (tokens ≡ others) × (behind ≡ further) × (left ≡ other_left)
one_reading _ _ _ _ _ (nothing place text) stop _ _ _ (nothing _ _) stops = (refl, refl, refl)
one_reading _ _ _ _ _ (nothing place text) stop _ _ _ (gap _ _ word rest tokens behind left here is read) stops =
    absurd (no_gap_where_it_stops text word rest here is stop)
one_reading _ _ _ _ _ (nothing place text) stop _ _ _ (token found _ _ word rest tokens behind left here is read) stops =
    absurd (no_token_where_it_stops found text word rest here is stop)
one_reading _ _ _ _ _ (gap place text word rest tokens behind left here is read) stop _ _ _ (nothing _ _) stops =
    absurd (no_gap_where_it_stops text word rest here is stops)
one_reading _ _ _ _ _ (gap place text word rest tokens behind left here is read) stop _ _ _ (gap _ _ other more others further beyond there is_too again) stops =
    let parts = one_gap word rest other more (sym here ∙ there) is is_too in
    one_reading (place + length word) rest tokens behind left read stop others further beyond (moved place word rest other more others further beyond parts.0 parts.1 again) stops
one_reading _ _ _ _ _ (gap place text word rest tokens behind left here is read) stop _ _ _ (token found _ _ other more others further beyond there is_too again) stops =
    absurd (gap_or_token word rest found other more (sym here ∙ there) is is_too)
one_reading _ _ _ _ _ (token found place text word rest tokens behind left here is read) stop _ _ _ (nothing _ _) stops =
    absurd (no_token_where_it_stops found text word rest here is stops)
one_reading _ _ _ _ _ (token found place text word rest tokens behind left here is read) stop _ _ _ (gap _ _ other more others further beyond there is_too again) stops =
    absurd (gap_or_token other more found word rest (sym there ∙ here) is_too is)
one_reading _ _ _ _ _ (token found place text word rest tokens behind left here is read) stop _ _ _ (token kind_too _ _ other more others further beyond there is_too again) stops =
    let parts = one_token found word rest kind_too other more (sym here ∙ there) is is_too in
    let behind_it = one_reading (place + length word) rest tokens behind left read stop others further beyond (moved place word rest other more others further beyond parts.1 parts.2 again) stops in
    let first : token_at found place word ≡ token_at kind_too place other =
    ap (λ (one : TokenKind). token_at one place word) parts.0 ∙ ap (λ (text : List ℕ). token_at kind_too place text) parts.1 in
    let all : token_at found place word ∷ tokens ≡ token_at kind_too place other ∷ others =
    ap (λ (one : Token). one ∷ tokens) first ∙ ap (λ (those : List Token). token_at kind_too place other ∷ those) behind_it.0 in
    (all, behind_it.1, behind_it.2)

-- a text has one list of tokens
pub one_token_list : (text : List ℕ) (tokens others : List Token) → Tokens text tokens → Tokens text others → tokens ≡ others
one_token_list text tokens others read again =
    (one_reading 0 text tokens (length text) [] read (inl refl) others (length text) [] again (inl refl)).0

bad_stops : (text : List ℕ) (fault : LexFault) → FaultsAt text fault → (tokens : List Token) × (place : ℕ) × (left : List ℕ) × Reads 0 text tokens place left × (IsBadByte left ⊎ IsBadNumber left)
bad_stops text (BadByte at) is = (is.tokens, at, is.left, is.before, inl is.bad)
bad_stops text (BadNumber at) is = (is.tokens, at, is.left, is.before, inr is.bad)
bad_stops text OutOfMemory is = absurd is

bad_is_no_end : (left : List ℕ) → left ≡ [] → IsBadByte left ⊎ IsBadNumber left → ⊥
bad_is_no_end left end (inl bad) = let same : [] ≡ bad.byte ∷ bad.rest = sym end ∙ bad.here in cc
bad_is_no_end left end (inr bad) = false≢true (ap (begins is_ascii_digit) (sym end) ∙ bad_number_front left bad)

-- a text with a fault has no tokens
pub tokens_or_fault : (text : List ℕ) (tokens : List Token) (fault : LexFault) → Tokens text tokens → FaultsAt text fault → ⊥
tokens_or_fault text tokens fault read is =
    let bad = bad_stops text fault is in
    let same = one_reading 0 text tokens (length text) [] read (inl refl) bad.0 bad.1 bad.2 bad.3 (inr bad.4) in
    bad_is_no_end bad.2 (sym same.2) bad.4

byte_or_number : (left : List ℕ) → IsBadByte left → IsBadNumber left → ⊥
byte_or_number left byte number =
    both_ways (begins is_name_byte left) (bad_byte_front left byte).1 (digit_front left (bad_number_front left number)).1

-- a text has one first fault
pub one_fault : (text : List ℕ) (fault other : LexFault) → FaultsAt text fault → FaultsAt text other → fault ≡ other
one_fault text (BadByte at) (BadByte place) a b =
    ap BadByte (one_reading 0 text a.tokens at a.left a.before (inr (inl a.bad)) b.tokens place b.left b.before (inr (inl b.bad))).1
one_fault text (BadByte at) (BadNumber place) a b =
    let same = one_reading 0 text a.tokens at a.left a.before (inr (inl a.bad)) b.tokens place b.left b.before (inr (inr b.bad)) in
    absurd (byte_or_number b.left (subst IsBadByte same.2 a.bad) b.bad)
one_fault text (BadNumber at) (BadByte place) a b =
    let same = one_reading 0 text a.tokens at a.left a.before (inr (inr a.bad)) b.tokens place b.left b.before (inr (inl b.bad)) in
    absurd (byte_or_number b.left b.bad (subst IsBadNumber same.2 a.bad))
one_fault text (BadNumber at) (BadNumber place) a b =
    ap BadNumber (one_reading 0 text a.tokens at a.left a.before (inr (inr a.bad)) b.tokens place b.left b.before (inr (inr b.bad))).1
one_fault text (BadByte at) OutOfMemory a b = absurd b
one_fault text (BadNumber at) OutOfMemory a b = absurd b
one_fault text OutOfMemory other a b = absurd a
