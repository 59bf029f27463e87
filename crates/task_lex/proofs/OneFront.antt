-- What stands at the front of a text: one gap, one token or one fault.
use Rattle.std.proofs.Common.{◌≡◌, ℕ, ◌≤◌, ◌⊎◌, Bool, true, false, List, [], ◌∷◌, ◌++◌, length, take, drop, refl, sym, ap, ◌∙◌, subst, inl, inr, arith, rules}
use Rattle.std.specs.Prelude.{◌==◌, ◌||◌}
use Rattle.std.specs.Char.{is_ascii_digit}
use Rattle.std.specs.List.{list_all, prefix_len}
use Rattle.std.proofs.lemmas.Bool.{cases_Bool, and_parts, or_cases, or_left, or_right, eqb-true, false≢true, both_ways}
use Rattle.std.proofs.lemmas.List.{take_at, drop_at}
use borrow.Author.Tests.{tests}
use Rattle.task_lex.specs.Byte.{begins, carriage_return, hash, line_feed, space, tab, is_blank, is_in_comment, is_name_byte, is_name_start}
use Rattle.task_lex.specs.Reading.{IsGap, blank, comment}
use Rattle.task_lex.specs.Spelling.{symbol_text}
use Rattle.task_lex.specs.Token.{Fits, IsName, IsNumeral, IsToken, Spells}
use Rattle.task_lex.specs.declared.symbol.Symbol.{Symbol}
use Rattle.task_lex.specs.declared.token.TokenKind.{TokenKind}
use Rattle.task_lex.specs.declared.token.TokenKind.TheVariants as kind
use Rattle.task_lex.proofs.Runs.{is_gap_byte, prefix_len-word}
use Rattle.task_lex.proofs.Texts.{IsName-keyword_text, begins-symbol_text, one_keyword, one_symbol}

-- a text is split in one way into a word of one length and a rest
pub same_parts : (word rest other behind : List ℕ) → word ++ rest ≡ other ++ behind → length word ≡ length other → (word ≡ other) × (rest ≡ behind)
same_parts word rest other behind same len = (
  sym (take_at word rest (length word) refl) ∙ ap (take (length word)) same ∙ take_at other behind (length word) (sym len),
  sym (drop_at word rest (length word) refl) ∙ ap (drop (length word)) same ∙ drop_at other behind (length word) (sym len),
)

-- the bytes that tell gaps, names and numbers apart
digit_is_no_start : (byte : ℕ) → is_ascii_digit byte ≡ true → is_name_start byte ≡ false
digit_is_no_start byte is = search (rules, tests)

not_of : (passes : ℕ → Bool) (byte one : ℕ) → byte ≡ one → passes one ≡ false → passes byte ≡ false
not_of passes byte one same fails = ap passes same ∙ fails

gap_is_no_word : (byte : ℕ) → is_gap_byte byte ≡ true → is_name_byte byte ≡ false
gap_is_no_word byte is = elim (or_cases (is_blank byte) (byte == hash) is) [
  | inl is_blank_byte ↦ elim (or_cases (byte == space || byte == tab || byte == carriage_return) (byte == line_feed) is_blank_byte) [
    | inl before ↦ elim (or_cases (byte == space || byte == tab) (byte == carriage_return) before) [
      | inl first ↦ elim (or_cases (byte == space) (byte == tab) first) [
        | inl e ↦ not_of is_name_byte byte space (eqb-true byte space e) refl
        | inr e ↦ not_of is_name_byte byte tab (eqb-true byte tab e) refl
      ]
      | inr e ↦ not_of is_name_byte byte carriage_return (eqb-true byte carriage_return e) refl
    ]
    | inr e ↦ not_of is_name_byte byte line_feed (eqb-true byte line_feed e) refl
  ]
  | inr e ↦ not_of is_name_byte byte hash (eqb-true byte hash e) refl
]

word_is_no_gap : (byte : ℕ) → is_name_byte byte ≡ true → is_gap_byte byte ≡ false
word_is_no_gap byte is = elim (cases_Bool (is_gap_byte byte)) [
  | inl gap ↦ absurd (both_ways (is_name_byte byte) (gap_is_no_word byte gap) is)
  | inr none ↦ none
]

-- a gap begins with a byte of its own
pub begins-gap : (word rest : List ℕ) → IsGap word rest → begins is_gap_byte (word ++ rest) ≡ true
begins-gap _ _ (blank byte rest is) = or_left (is_blank byte) (byte == hash) is
begins-gap _ _ (comment words rest inside stops) = refl

-- a name and a number are made of bytes of words, and no word goes on behind them
pub record IsWord (word rest : List ℕ) : Type 0 where
  pub all : list_all is_name_byte word ≡ true
  pub begin : begins is_name_byte (word ++ rest) ≡ true
  pub stops : begins is_name_byte rest ≡ false

IsWord-name : (word rest : List ℕ) → IsName word → begins is_name_byte rest ≡ false → IsWord word rest
IsWord-name [] rest is stops = absurd is
IsWord-name (first ∷ more) rest is stops =
    let begin = or_left (is_name_start first) (is_ascii_digit first) is.0 in
    record { all = rw begin is.1; begin = begin; stops = stops }

all_name_bytes : (digits : List ℕ) → list_all is_ascii_digit digits ≡ true → list_all is_name_byte digits ≡ true
all_name_bytes [] all = refl
all_name_bytes (digit ∷ digits) all =
    let parts = and_parts (is_ascii_digit digit) (list_all is_ascii_digit digits) all in
    rw (or_right (is_name_start digit) (is_ascii_digit digit) parts.0) (all_name_bytes digits parts.1)

pub begins-numeral : (word rest : List ℕ) → IsNumeral word → begins is_ascii_digit (word ++ rest) ≡ true
begins-numeral [] rest is = absurd is
begins-numeral (digit ∷ more) rest is = (and_parts (is_ascii_digit digit) (list_all is_ascii_digit more) is).0

pub begins-name : (word rest : List ℕ) → IsName word → begins is_name_start (word ++ rest) ≡ true
begins-name [] rest is = absurd is
begins-name (first ∷ more) rest is = is.0

-- what begins with a letter or `_` begins with a byte of a word
name_front : (text : List ℕ) → begins is_name_start text ≡ true → begins is_name_byte text ≡ true
name_front [] begin = absurd (false≢true begin)
name_front (byte ∷ text) begin = or_left (is_name_start byte) (is_ascii_digit byte) begin

-- what begins with a digit begins with no letter or `_`, and with a byte of a word
pub digit_front : (text : List ℕ) → begins is_ascii_digit text ≡ true → (begins is_name_start text ≡ false) × (begins is_name_byte text ≡ true)
digit_front [] begin = absurd (false≢true begin)
digit_front (byte ∷ text) begin = (digit_is_no_start byte begin, or_right (is_name_start byte) (is_ascii_digit byte) begin)

pub word_front : (text : List ℕ) → begins is_name_byte text ≡ true → begins is_gap_byte text ≡ false
word_front [] begin = refl
word_front (byte ∷ text) begin = word_is_no_gap byte begin

pub all_digits : (word : List ℕ) → IsNumeral word → list_all is_ascii_digit word ≡ true
all_digits [] is = refl
all_digits (digit ∷ more) is = is

IsWord-number : (word rest : List ℕ) → IsNumeral word → begins is_name_byte rest ≡ false → IsWord word rest
IsWord-number word rest is stops = record {
  all = all_name_bytes word (all_digits word is);
  begin = (digit_front (word ++ rest) (begins-numeral word rest is)).1;
  stops = stops;
}

-- a symbol, with its text and that no longer one fits
pub record IsSymbol (word rest : List ℕ) : Type 0 where
  pub symbol : Symbol
  pub text : symbol_text symbol ≡ word
  pub longest : (other : Symbol) → Fits other (word ++ rest) → length (symbol_text other) ≤ length word

-- a token is a word or a symbol
pub word_or_symbol : (found : TokenKind) (word rest : List ℕ) → IsToken found word rest → IsWord word rest ⊎ IsSymbol word rest
word_or_symbol kind.Name word rest is = inl (IsWord-name word rest is.spelled.0 is.longest)
word_or_symbol (kind.Number value) word rest is = inl (IsWord-number word rest is.spelled.0 is.longest)
word_or_symbol (kind.Keyword keyword) word rest is =
    inl (IsWord-name word rest (subst IsName is.spelled (IsName-keyword_text keyword)) is.longest)
word_or_symbol (kind.Symbol symbol) word rest is = inr (record { symbol = symbol; text = is.spelled; longest = is.longest })

-- how a token of each kind begins
abbrev pub Starts : TokenKind → List ℕ → Type 0
Starts kind.Name text = begins is_name_start text ≡ true
Starts (kind.Number value) text = begins is_ascii_digit text ≡ true
Starts (kind.Keyword keyword) text = begins is_name_start text ≡ true
Starts (kind.Symbol symbol) text = begins is_name_byte text ≡ false

pub starts_so : (found : TokenKind) (word rest : List ℕ) → Spells found word → Starts found (word ++ rest)
starts_so kind.Name word rest spelled = begins-name word rest spelled.0
starts_so (kind.Number value) word rest spelled = begins-numeral word rest spelled.0
starts_so (kind.Keyword keyword) word rest spelled = begins-name word rest (subst IsName spelled (IsName-keyword_text keyword))
starts_so (kind.Symbol symbol) word rest spelled =
    let P : List ℕ → Type 0 = λ text. begins is_name_byte (text ++ rest) ≡ false in
    subst P spelled (begins-symbol_text symbol rest).0

pub name_or_number : (text : List ℕ) → begins is_name_start text ≡ true → begins is_ascii_digit text ≡ true → ⊥
name_or_number text name number = both_ways (begins is_name_start text) (digit_front text number).0 name

name_or_symbol : (text : List ℕ) → begins is_name_start text ≡ true → begins is_name_byte text ≡ false → ⊥
name_or_symbol text name symbol = both_ways (begins is_name_byte text) symbol (name_front text name)

number_or_symbol : (text : List ℕ) → begins is_ascii_digit text ≡ true → begins is_name_byte text ≡ false → ⊥
number_or_symbol text number symbol = both_ways (begins is_name_byte text) symbol (digit_front text number).1

-- a word spells one kind of token
one_kind : (found other : TokenKind) (word : List ℕ) → Spells found word → Spells other word → found ≡ other
one_kind kind.Name kind.Name word a b = refl
one_kind kind.Name (kind.Number v) word a b = absurd (name_or_number (word ++ []) (starts_so kind.Name word [] a) (starts_so (kind.Number v) word [] b))
one_kind kind.Name (kind.Keyword k) word a b = absurd (a.1 k b)
one_kind kind.Name (kind.Symbol s) word a b = absurd (name_or_symbol (word ++ []) (starts_so kind.Name word [] a) (starts_so (kind.Symbol s) word [] b))
one_kind (kind.Number v) kind.Name word a b = absurd (name_or_number (word ++ []) (starts_so kind.Name word [] b) (starts_so (kind.Number v) word [] a))
one_kind (kind.Number v) (kind.Number w) word a b = ap kind.Number (sym a.1 ∙ b.1)
one_kind (kind.Number v) (kind.Keyword k) word a b = absurd (name_or_number (word ++ []) (starts_so (kind.Keyword k) word [] b) (starts_so (kind.Number v) word [] a))
one_kind (kind.Number v) (kind.Symbol s) word a b = absurd (number_or_symbol (word ++ []) (starts_so (kind.Number v) word [] a) (starts_so (kind.Symbol s) word [] b))
one_kind (kind.Keyword k) kind.Name word a b = absurd (b.1 k a)
one_kind (kind.Keyword k) (kind.Number v) word a b = absurd (name_or_number (word ++ []) (starts_so (kind.Keyword k) word [] a) (starts_so (kind.Number v) word [] b))
one_kind (kind.Keyword k) (kind.Keyword j) word a b = ap kind.Keyword (one_keyword k j (a ∙ sym b))
one_kind (kind.Keyword k) (kind.Symbol s) word a b = absurd (name_or_symbol (word ++ []) (starts_so (kind.Keyword k) word [] a) (starts_so (kind.Symbol s) word [] b))
one_kind (kind.Symbol s) kind.Name word a b = absurd (name_or_symbol (word ++ []) (starts_so kind.Name word [] b) (starts_so (kind.Symbol s) word [] a))
one_kind (kind.Symbol s) (kind.Number v) word a b = absurd (number_or_symbol (word ++ []) (starts_so (kind.Number v) word [] b) (starts_so (kind.Symbol s) word [] a))
one_kind (kind.Symbol s) (kind.Keyword k) word a b = absurd (name_or_symbol (word ++ []) (starts_so (kind.Keyword k) word [] b) (starts_so (kind.Symbol s) word [] a))
one_kind (kind.Symbol s) (kind.Symbol t) word a b = ap kind.Symbol (one_symbol s t (a ∙ sym b))

pub symbol_front : (word rest : List ℕ) → IsSymbol word rest → (begins is_name_byte (word ++ rest) ≡ false) × (begins is_gap_byte (word ++ rest) ≡ false)
symbol_front word rest is =
    let P : List ℕ → Type 0 = λ text. (begins is_name_byte (text ++ rest) ≡ false) × (begins is_gap_byte (text ++ rest) ≡ false) in
    subst P is.text (begins-symbol_text is.symbol rest)

not_longer : (word rest other behind : List ℕ) → word ++ rest ≡ other ++ behind → IsSymbol word rest → IsSymbol other behind → length word ≤ length other
not_longer word rest other behind same a b =
    let fits : Fits a.symbol (other ++ behind) = record { rest = rest; here = sym same ∙ ap (λ (text : List ℕ). text ++ rest) (sym a.text) } in
    omega (arith, b.longest a.symbol fits, ap length a.text)

same_len : (word rest other behind : List ℕ) → word ++ rest ≡ other ++ behind → IsWord word rest ⊎ IsSymbol word rest → IsWord other behind ⊎ IsSymbol other behind → length word ≡ length other
same_len word rest other behind same (inl a) (inl b) =
    sym (prefix_len-word is_name_byte word rest a.all a.stops) ∙ ap (prefix_len is_name_byte) same ∙ prefix_len-word is_name_byte other behind b.all b.stops
same_len word rest other behind same (inl a) (inr b) =
    absurd (both_ways (begins is_name_byte (other ++ behind)) (symbol_front other behind b).0 (sym (ap (begins is_name_byte) same) ∙ a.begin))
same_len word rest other behind same (inr a) (inl b) =
    absurd (both_ways (begins is_name_byte (word ++ rest)) (symbol_front word rest a).0 (ap (begins is_name_byte) same ∙ b.begin))
same_len word rest other behind same (inr a) (inr b) =
    omega (arith, not_longer word rest other behind same a b, not_longer other behind word rest (sym same) b a)

-- one token stands at the front of a text
pub one_token : (found : TokenKind) (word rest : List ℕ) (other : TokenKind) (text behind : List ℕ) → word ++ rest ≡ text ++ behind
    → IsToken found word rest → IsToken other text behind → (found ≡ other) × (word ≡ text) × (rest ≡ behind)
one_token found word rest other text behind same a b =
    let len = same_len word rest text behind same (word_or_symbol found word rest a) (word_or_symbol other text behind b) in
    let parts = same_parts word rest text behind same len in
    let P : List ℕ → Type 0 = λ one. Spells other one in
    (one_kind found other word a.spelled (subst P (sym parts.0) b.spelled), parts.0, parts.1)

gap_len : (word rest other behind : List ℕ) → word ++ rest ≡ other ++ behind → IsGap word rest → IsGap other behind → length word ≡ length other
gap_len _ _ _ _ same (blank byte rest is) (blank other behind is_other) = refl
gap_len _ _ _ _ same (blank byte rest is) (comment words behind inside stops) =
    let first : byte ≡ hash = cc in
    absurd (both_ways (is_blank byte) (not_of is_blank byte hash first refl) is)
gap_len _ _ _ _ same (comment words rest inside stops) (blank byte behind is) =
    let first : byte ≡ hash = cc in
    absurd (both_ways (is_blank byte) (not_of is_blank byte hash first refl) is)
gap_len _ _ _ _ same (comment words rest inside stops) (comment others behind inside_too stops_too) =
    sym (prefix_len-word is_in_comment (hash ∷ words) rest inside stops) ∙ ap (prefix_len is_in_comment) same
    ∙ prefix_len-word is_in_comment (hash ∷ others) behind inside_too stops_too

-- one gap stands at the front of a text
pub one_gap : (word rest other behind : List ℕ) → word ++ rest ≡ other ++ behind → IsGap word rest → IsGap other behind → (word ≡ other) × (rest ≡ behind)
one_gap word rest other behind same a b = same_parts word rest other behind same (gap_len word rest other behind same a b)

token_front : (found : TokenKind) (word rest : List ℕ) → IsToken found word rest → begins is_gap_byte (word ++ rest) ≡ false
token_front found word rest is = elim (word_or_symbol found word rest is) [
  | inl a ↦ word_front (word ++ rest) a.begin
  | inr b ↦ (symbol_front word rest b).1
]

-- where a gap stands, no token does
pub gap_or_token : (word rest : List ℕ) (found : TokenKind) (other behind : List ℕ) → word ++ rest ≡ other ++ behind → IsGap word rest → IsToken found other behind → ⊥
gap_or_token word rest found other behind same a b =
    both_ways (begins is_gap_byte (other ++ behind)) (token_front found other behind b) (sym (ap (begins is_gap_byte) same) ∙ begins-gap word rest a)
