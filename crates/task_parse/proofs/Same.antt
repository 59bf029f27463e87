-- Signs, and words of the language, with the same text are the same.
use Rattle.std.proofs.Common.{◌≡◌, ℕ, List, [], ◌∷◌, true, refl, ap, sym, ◌∙◌, arith}
use Rattle.std.specs.Prelude.{Option, Some, bytes_eq, find}
use Rattle.std.proofs.lemmas.Slice.Eq.{bytes_eq-Decides}
use Rattle.task_lex.specs.Spelling.{keyword_text, symbol_text}
use Rattle.task_lex.specs.declared.keyword.Keyword.{Keyword}
use Rattle.task_lex.specs.declared.keyword.Keyword.TheVariants as keyword
use Rattle.task_lex.specs.declared.symbol.Symbol.{Symbol}
use Rattle.task_lex.specs.declared.symbol.Symbol.TheVariants as sign
use Rattle.task_parse.specs.Machine.{same_sign, same_word}

abbrev signs : List Symbol
signs =
    sign.OpenBrace ∷ sign.CloseBrace ∷ sign.OpenParen ∷ sign.CloseParen ∷ sign.OpenBracket ∷ sign.CloseBracket ∷ sign.Semicolon ∷ sign.Comma
    ∷ sign.Assign ∷ sign.Equal ∷ sign.NotEqual ∷ sign.Below ∷ sign.AtMost ∷ sign.Above ∷ sign.AtLeast ∷ sign.ShiftLeft ∷ sign.ShiftRight
    ∷ sign.Plus ∷ sign.Minus ∷ sign.Times ∷ sign.Divide ∷ sign.Remainder ∷ sign.And ∷ sign.Or ∷ sign.Xor ∷ sign.Invert ∷ sign.Not ∷ []

abbrev words : List Keyword
words =
    keyword.Nv ∷ keyword.Buffer ∷ keyword.Event ∷ keyword.Top ∷ keyword.Bottom ∷ keyword.Transaction ∷ keyword.Task ∷ keyword.Let
    ∷ keyword.If ∷ keyword.Else ∷ keyword.Repeat ∷ keyword.Next ∷ keyword.Halt ∷ keyword.Give ∷ []

abbrev sign_of : List ℕ → Option Symbol
sign_of text = find (λ s. bytes_eq (symbol_text s) text) signs

abbrev word_of : List ℕ → Option Keyword
word_of text = find (λ w. bytes_eq (keyword_text w) text) words

sign_found : (s : Symbol) → sign_of (symbol_text s) ≡ Some s
sign_found sign.OpenBrace = refl
sign_found _ = refl

word_found : (w : Keyword) → word_of (keyword_text w) ≡ Some w
word_found keyword.Nv = refl
word_found _ = refl

pub sign_is : (a b : Symbol) → same_sign a b ≡ true → a ≡ b
sign_is a b h =
    let e : symbol_text a ≡ symbol_text b = grind (arith, bytes_eq-Decides (symbol_text a) (symbol_text b), h) in
    let f : Some a ≡ Some b = sym (sign_found a) ∙ ap sign_of e ∙ sign_found b in cc

pub word_is : (a b : Keyword) → same_word a b ≡ true → a ≡ b
word_is a b h =
    let e : keyword_text a ≡ keyword_text b = grind (arith, bytes_eq-Decides (keyword_text a) (keyword_text b), h) in
    let f : Some a ≡ Some b = sym (word_found a) ∙ ap word_of e ∙ word_found b in cc
