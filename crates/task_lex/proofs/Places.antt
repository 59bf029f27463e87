-- A reading that goes on, at places of its source.
use Rattle.std.proofs.Common.{◌≡◌, ℕ, ◌+◌, ◌≤◌, List, [], ◌∷◌, ◌++◌, length, take, drop, sym, subst, arith, length-take}
use Rattle.std.proofs.lemmas.List.{take-append-drop, drop-drop, drop_all}
use Rattle.task_lex.specs.Reading.{IsGap, Reads, Tokens, nothing, gap, token, token_at}
use Rattle.task_lex.specs.Token.{IsToken}
use Rattle.task_lex.specs.declared.token.Token.{Token}
use Rattle.task_lex.specs.declared.token.TokenKind.{TokenKind}

-- a gap behind what was read
Reads-gap : (start : ℕ) (text : List ℕ) (tokens : List Token) (place : ℕ) (left word rest : List ℕ)
    → Reads start text tokens place left → left ≡ word ++ rest → IsGap word rest → Reads start text tokens (place + length word) rest
Reads-gap _ _ _ _ _ word rest (nothing place text) here is =
    gap place text word rest [] (place + length word) rest here is (nothing (place + length word) rest)
Reads-gap _ _ _ _ _ word rest (gap start text first more tokens place left split before read) here is =
    gap start text first more tokens (place + length word) rest split before (Reads-gap (start + length first) more tokens place left word rest read here is)
Reads-gap _ _ _ _ _ word rest (token kind start text first more tokens place left split before read) here is =
    token kind start text first more tokens (place + length word) rest split before (Reads-gap (start + length first) more tokens place left word rest read here is)

-- a token behind what was read
Reads-token : (kind : TokenKind) (start : ℕ) (text : List ℕ) (tokens : List Token) (place : ℕ) (left word rest : List ℕ)
    → Reads start text tokens place left → left ≡ word ++ rest → IsToken kind word rest → Reads start text (tokens ++ token_at kind place word ∷ []) (place + length word) rest
Reads-token kind _ _ _ _ _ word rest (nothing place text) here is =
    token kind place text word rest [] (place + length word) rest here is (nothing (place + length word) rest)
Reads-token kind _ _ _ _ _ word rest (gap start text first more tokens place left split before read) here is =
    gap start text first more (tokens ++ token_at kind place word ∷ []) (place + length word) rest split before (Reads-token kind (start + length first) more tokens place left word rest read here is)
Reads-token kind _ _ _ _ _ word rest (token other start text first more tokens place left split before read) here is =
    token other start text first more (tokens ++ token_at kind place word ∷ []) (place + length word) rest split before (Reads-token kind (start + length first) more tokens place left word rest read here is)

word_len : (len place : ℕ) (source : List ℕ) → len ≤ length (drop place source) → length (take len (drop place source)) ≡ len
word_len len place source fits = omega (arith, length-take len (drop place source))

-- what was read of a source up to a place
abbrev pub ReadsTo : List ℕ → List Token → ℕ → Type 0
ReadsTo source tokens place = Reads 0 source tokens place (drop place source)

pub ReadsTo-gap : (source : List ℕ) (tokens : List Token) (place len : ℕ) → len ≤ length (drop place source) → ReadsTo source tokens place
    → IsGap (take len (drop place source)) (drop len (drop place source)) → ReadsTo source tokens (place + len)
ReadsTo-gap source tokens place len fits read is =
    let on = Reads-gap 0 source tokens place (drop place source) (take len (drop place source)) (drop len (drop place source)) read (sym (take-append-drop len (drop place source))) is in
    let P : ℕ → List ℕ → Type 0 = λ n rest. Reads 0 source tokens (place + n) rest in
    rw (word_len len place source fits, drop-drop len place source) at on

pub ReadsTo-token : (kind : TokenKind) (source : List ℕ) (tokens : List Token) (place len : ℕ) → len ≤ length (drop place source) → ReadsTo source tokens place
    → IsToken kind (take len (drop place source)) (drop len (drop place source)) → ReadsTo source (tokens ++ record { kind = kind; start = place; end = place + len } ∷ []) (place + len)
ReadsTo-token kind source tokens place len fits read is =
    let on = Reads-token kind 0 source tokens place (drop place source) (take len (drop place source)) (drop len (drop place source)) read (sym (take-append-drop len (drop place source))) is in
    rw (word_len len place source fits, drop-drop len place source) at on

-- what was read to the end is all
pub Tokens-at_end : (source : List ℕ) (tokens : List Token) (place : ℕ) → place ≤ length source → length source ≤ place → ReadsTo source tokens place → Tokens source tokens
Tokens-at_end source tokens place within whole read =
    let end : place ≡ length source = omega arith in
    let nothing_left : drop place source ≡ [] = drop_all place source whole in
    let P : ℕ → List ℕ → Type 0 = λ n left. Reads 0 source tokens n left in
    subst (λ (n : ℕ). P n []) end (subst (λ (left : List ℕ). P place left) nothing_left read)
