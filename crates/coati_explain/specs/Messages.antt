-- What is told of each fault of a source: its place, its message, and the text that belongs to it.
use Rattle.std.specs.Prelude.{◌≡◌, ℕ, ◌-◌, ◌==◌, ◌&&◌, ◌||◌, Bool, false, List, [], ◌∷◌, ◌++◌, bytes_eq, codes, drop, is_some, length, slice_get, slice_range, take, if◌then◌else◌}
use Rattle.std.specs.Char.{is_ascii_digit}
use Rattle.std.specs.List.{list_all, prefix_len}
use Rattle.std.specs.Option.{option_map_or}
use Rattle.task_check.specs.declared.rule.Rule.{Rule}
use Rattle.task_check.specs.declared.rule.Rule.TheVariants as rule
use Rattle.task_lex.specs.Byte.{is_name_byte}
use Rattle.task_lex.specs.Reading.{Tokens}
use Rattle.task_lex.specs.declared.token.Token.{Token}
use Rattle.trace_out.specs.Lines.{word_and_number}
use Rattle.coati_top.specs.declared.source_fault.SourceFault.{SourceFault}
use Rattle.coati_top.specs.declared.source_fault.SourceFault.TheVariants as fault
use Rattle.coati_explain.specs.declared.message.Message.{Message}
use Rattle.coati_explain.specs.declared.message.Message.TheVariants as message
use Rattle.coati_explain.specs.declared.spot.Spot.{Spot}
use Rattle.coati_explain.specs.Asked.{asked_of}
use Rattle.coati_explain.specs.Hints.{divider_hint, hint_text}
use Rattle.coati_explain.specs.Labels.{label_of}
use Rattle.coati_explain.specs.Shown.{caret_line, is_printable, shown_line}
use Rattle.coati_explain.specs.Spot.{line_of, spot_at}
use Rattle.coati_explain.specs.Words.{wording}

-- where a fault is, and what, on a line
abbrev pub heading : Spot → List ℕ → List ℕ → List ℕ
heading here words label =
    word_and_number (codes "line") here.line ++ word_and_number (codes ", column") here.column
    ++ codes ": " ++ words ++ codes " (" ++ label ++ codes ")\n"

-- a heading, the line with a caret below the column, and what is asked
abbrev pub located : List ℕ → Spot → List ℕ → List ℕ → List ℕ → List ℕ
located source here words label asked =
    heading here words label
    ++ shown_line (line_of source here.line) ++ caret_line here.column ++ asked ++ codes "\n"
    ++ hint_text (divider_hint (line_of source here.line))

-- a message about a place of the source, of the word there and the one before it
abbrev pub explanation : List ℕ → SourceFault → ℕ → Message → List ℕ → List ℕ → List ℕ
explanation source fault at message word before =
    located source (spot_at source at) (wording message word before) (label_of fault)
    (asked_of message)

-- the letters, digits and `_` at the front of a text: a name, a word of the language, a number, or
-- what looks like one
abbrev pub front_word : List ℕ → List ℕ
front_word text = take (prefix_len is_name_byte text) text

-- the text begins with a byte order mark
abbrev pub begins_with_mark : List ℕ → Bool
begins_with_mark [] = false
begins_with_mark (a ∷ []) = false
begins_with_mark (a ∷ b ∷ []) = false
begins_with_mark (a ∷ b ∷ c ∷ more) = a == 239 && b == 187 && c == 191

-- of the byte that a text begins with
abbrev pub byte_message : List ℕ → Message
byte_message [] = message.StrangeByte
byte_message (byte ∷ more) = if is_printable byte then message.StrangeByte
    else message.UnprintableByte byte

-- of a byte that starts nothing, where this is its place and this the text from there on
abbrev pub lexical_message : ℕ → List ℕ → Message
lexical_message at text = if at == 0 && begins_with_mark text then message.ByteOrderMark
    else byte_message text

-- of what looks like a number
abbrev pub number_message : List ℕ → Message
number_message word = if list_all is_ascii_digit word then message.GreatNumber
    else message.NumberIntoLetter

-- of a broken rule, where this word stands at its place
abbrev pub rule_message : Rule → List ℕ → Message
rule_message rule.TwiceNamed word = message.TwiceNamed
rule_message rule.Unknown word = message.Unknown
rule_message rule.WrongKind word = message.WrongKind
rule_message rule.BadCount word = message.BadCount
rule_message rule.BadBuffer word = message.BadBuffer
rule_message rule.TooManyWords word = message.TooManyWords
rule_message rule.TooManyTasks word = message.TooManyTasks
rule_message rule.NoEnding word = message.NoEnding
rule_message rule.EarlyEnding word =
    if bytes_eq word (codes "halt") || bytes_eq word (codes "give") then message.EarlyEnding
    else message.EarlyNext
rule_message rule.IntoTx word = message.IntoTx
rule_message rule.TopReadsNv word = message.TopReadsNv
rule_message rule.GiveShape word = if bytes_eq word (codes "give") then message.GiveCount
    else message.FifthParameter
rule_message rule.LoopAssigned word = message.LoopAssigned
rule_message rule.TooManyLocals word = message.TooManyLocals
rule_message rule.TooDeepStack word = message.TooDeepStack
rule_message (rule.TooLong number) word = message.TooLong

-- the place of a token by its number: its first byte, or the source's end behind the last token
abbrev pub token_place : List ℕ → List Token → ℕ → ℕ
token_place source tokens number = option_map_or (λ token. token.start) (slice_get tokens number)
    (length source)

-- its text, empty behind the last token
abbrev pub token_text : List ℕ → List Token → ℕ → List ℕ
token_text source tokens number = option_map_or (λ token. slice_range source token.start token.end)
    (slice_get tokens number) []

-- the text of the token before, empty before the first one
abbrev pub text_before : List ℕ → List Token → ℕ → List ℕ
text_before source tokens number = if number == 0 then []
    else token_text source tokens (number - 1)

-- of the token of this number, with which no program goes on, or behind which there is none
abbrev pub syntax_message : List Token → ℕ → Message
syntax_message tokens number =
    if is_some (slice_get tokens number) then (if number == 0 then message.NoBeginning
    else message.NoGoingOn)
    else (if number == 0 then message.NoTokens else message.EndsEarly)

-- the word is an open bracket
abbrev pub is_bracket : List ℕ → Bool
is_bracket word = bytes_eq word (codes "(") || bytes_eq word (codes "[")
    || bytes_eq word (codes "{")

-- of a token that stands too deep
abbrev pub deep_message : List ℕ → Message
deep_message word = if is_bracket word then message.ManyBrackets else message.ManyOperators

abbrev pub syntax_text : List ℕ → ℕ → List Token → List ℕ
syntax_text source number tokens =
    explanation source (fault.Syntax number) (token_place source tokens number)
    (syntax_message tokens number) (token_text source tokens number)
    (text_before source tokens number)

abbrev pub deep_text : List ℕ → ℕ → List Token → List ℕ
deep_text source number tokens =
    explanation source (fault.Deep number) (token_place source tokens number)
    (deep_message (token_text source tokens number)) (token_text source tokens number)
    (text_before source tokens number)

-- the text is told of the source's tokens
pub record IsOfTokens (source : List ℕ) (text_of : List Token → List ℕ) (text : List ℕ)
    : Type 0 where
  pub tokens : List Token
  pub read : Tokens source tokens
  pub is : text ≡ text_of tokens

-- the text explains this fault of the source
abbrev pub IsExplained : List ℕ → SourceFault → List ℕ → Type 0
IsExplained source (fault.Lexical at) text =
    text ≡ explanation source (fault.Lexical at) at (lexical_message at (drop at source))
    (take 1 (drop at source)) []
IsExplained source (fault.Number at) text =
    text ≡ explanation source (fault.Number at) at (number_message (front_word (drop at source)))
    (front_word (drop at source)) []
IsExplained source (fault.Syntax number) text = IsOfTokens source (syntax_text source number) text
IsExplained source (fault.Deep number) text = IsOfTokens source (deep_text source number) text
IsExplained source (fault.Rule rule at) text =
    text ≡ explanation source (fault.Rule rule at) at
    (rule_message rule (front_word (drop at source))) (front_word (drop at source)) []
