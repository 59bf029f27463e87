-- The spans of the tokens of a text.
use Rattle.std.proofs.Common.{◌≡◌, ℕ, ◌+◌, ◌-◌, ◌≤◌, List, [], ◌∷◌, ◌++◌, length, take, drop, refl, sym, ap, ◌∙◌, subst, arith, length-append, length-drop}
use Rattle.std.specs.Prelude.{slice_range}
use Rattle.std.specs.List.{All, AllByRecursion}
use Rattle.std.proofs.lemmas.List.{take_at, drop_at, drop-drop}
use Rattle.std.proofs.lemmas.List.Elements.{All-from_recursion}
use Rattle.task_lex.specs.Reading.{Reads, Tokens, nothing, gap, token, token_at}
use Rattle.task_lex.specs.Span.{AreInOrder, IsTokenOf}
use Rattle.task_lex.specs.Token.{IsToken, Spells}
use Rattle.task_lex.specs.declared.token.Token.{Token}
use Rattle.task_lex.specs.declared.token.TokenKind.{TokenKind}
use Rattle.task_lex.proofs.OneReading.{some_text}

-- tokens that are in order from a place on are so from an earlier one on
from_earlier : (place later : ℕ) (tokens : List Token) (end : ℕ) → place ≤ later → AreInOrder later tokens end → AreInOrder place tokens end
from_earlier place later [] end before order = omega arith
from_earlier place later (first ∷ tokens) end before order = (omega (arith, order.0), order.1, order.2)

pub AreInOrder-Reads : (place : ℕ) (text : List ℕ) (tokens : List Token) (behind : ℕ) (left : List ℕ) → Reads place text tokens behind left → AreInOrder place tokens behind
AreInOrder-Reads _ _ _ _ _ (nothing place text) = omega arith
AreInOrder-Reads _ _ _ _ _ (gap place text word rest tokens behind left here is read) =
    from_earlier place (place + length word) tokens behind (omega arith) (AreInOrder-Reads (place + length word) rest tokens behind left read)
AreInOrder-Reads _ _ _ _ _ (token found place text word rest tokens behind left here is read) =
    (omega arith, omega (arith, some_text found word rest is), AreInOrder-Reads (place + length word) rest tokens behind left read)

-- what is left of the source behind a word
behind_word : (source text word rest : List ℕ) (place : ℕ) → text ≡ drop place source → text ≡ word ++ rest → rest ≡ drop (place + length word) source
behind_word source text word rest place at here =
    sym (drop_at word rest (length word) refl) ∙ ap (drop (length word)) (sym here ∙ at) ∙ drop-drop (length word) place source

token_of : (source text word rest : List ℕ) (place : ℕ) (found : TokenKind) → place ≤ length source → text ≡ drop place source → text ≡ word ++ rest
    → IsToken found word rest → IsTokenOf source (token_at found place word)
token_of source text word rest place found within at here is =
    let len : place + length word ≤ length source = omega (arith, ap length (sym here ∙ at), length-append word rest, length-drop place source) in
    let count : place + length word - place ≡ length word = omega arith in
    let word_there : word ≡ slice_range source place (place + length word) =
    sym (take_at word rest (length word) refl) ∙ ap (take (length word)) (sym here ∙ at) ∙ ap (λ (n : ℕ). take n (drop place source)) (sym count) in
    record { some = omega (arith, some_text found word rest is); within = len; spelled = subst (Spells found) word_there is.spelled }

all_of : (source : List ℕ) (place : ℕ) (text : List ℕ) (tokens : List Token) (behind : ℕ) (left : List ℕ) → Reads place text tokens behind left
    → place ≤ length source → text ≡ drop place source → AllByRecursion (IsTokenOf source) tokens
all_of source _ _ _ _ _ (nothing place text) within at = tt
all_of source _ _ _ _ _ (gap place text word rest tokens behind left here is read) within at =
    let len : place + length word ≤ length source = omega (arith, ap length (sym here ∙ at), length-append word rest, length-drop place source) in
    all_of source (place + length word) rest tokens behind left read len (behind_word source text word rest place at here)
all_of source _ _ _ _ _ (token found place text word rest tokens behind left here is read) within at =
    let one = token_of source text word rest place found within at here is in
    (one, all_of source (place + length word) rest tokens behind left read one.within (behind_word source text word rest place at here))

-- each token stands within the source, with its text
pub All-IsTokenOf : (source : List ℕ) (tokens : List Token) → Tokens source tokens → All (IsTokenOf source) tokens
All-IsTokenOf source tokens read =
    All-from_recursion (IsTokenOf source) tokens (all_of source 0 source tokens (length source) [] read (omega arith) refl)
