-- The stack counts operators as the scan of the tokens does.
use Rattle.std.proofs.Common.{◌≡◌, ◌+◌, ℕ, List, [], ◌∷◌, Bool, true, false, ◌&&◌, nat_eq, cond, refl, ap, sym, ◌∙◌, subst}
use Rattle.std.specs.Prelude.{Option, Some, None, is_some, is_none}
use Rattle.coati_word.specs.declared.operator.Op.{Op}
use Rattle.task_lex.specs.declared.keyword.Keyword.{Keyword}
use Rattle.task_lex.specs.declared.keyword.Keyword.TheVariants as keyword
use Rattle.task_lex.specs.declared.symbol.Symbol.{Symbol}
use Rattle.task_lex.specs.declared.symbol.Symbol.TheVariants as sign
use Rattle.task_parse.specs.Bars.{most_operators, ends_operand, is_binary, top, under, counted, counted_sign}
use Rattle.task_parse.specs.Lexeme.{Lexeme}
use Rattle.task_parse.specs.Machine.{Part, Move, feed, fed, taken_if, same_sign, same_word}
use Rattle.task_parse.specs.Operators.{operator_of}
use Rattle.task_parse.proofs.Same.{sign_is}

-- the part reads no expression, and takes no operator
abbrev pub is_calm : Part → Bool
is_calm (Part.Sign s) = is_none (operator_of s)
is_calm Part.Values = false
is_calm Part.Operand = false
is_calm Part.Primary = false
is_calm Part.Index = false
is_calm (Part.Ops _) = false
is_calm _ = true

-- a stack with no expression in it
abbrev pub Calm : List Part → Type 0
Calm [] = Unit {0}
Calm (x ∷ k) = (is_calm x ≡ true) × Calm k

-- what an expression stands in, with the counts of the expressions around it
pub data Around : List Part → List ℕ → Type 0 where
  calm : {k : List Part} {c : List ℕ} → Calm k → Around k c
  paren : {j : ℕ} {k : List Part} {c : List ℕ} → top c ≡ j → Around k (under c) → Around (Part.Sign sign.CloseParen ∷ Part.Ops j ∷ k) c
  bracket : {j : ℕ} {k : List Part} {c : List ℕ} → top c ≡ j → Around k (under c) → Around (Part.Sign sign.CloseBracket ∷ Part.Ops j ∷ k) c
  target : {k : List Part} {c : List ℕ} → Calm k → Around (Part.Sign sign.CloseBracket ∷ Part.Sign sign.Assign ∷ Part.Operand ∷ Part.Ops 0 ∷ k) c

-- a stack that counts as the scan does, behind an operand or not
pub data Tuned : List Part → Bool → List ℕ → Type 0 where
  calm : {k : List Part} {e : Bool} {c : List ℕ} → Calm k → Tuned k e c
  local : {k : List Part} {e : Bool} {c : List ℕ} → Calm k → Tuned (Part.AName ∷ Part.Sign sign.Assign ∷ Part.Operand ∷ Part.Ops 0 ∷ k) e c
  place : {k : List Part} {e : Bool} {c : List ℕ} → Calm k → Tuned (Part.Index ∷ Part.Sign sign.Assign ∷ Part.Operand ∷ Part.Ops 0 ∷ k) e c
  set : {k : List Part} {e : Bool} {c : List ℕ} → Calm k → Tuned (Part.Sign sign.Assign ∷ Part.Operand ∷ Part.Ops 0 ∷ k) e c
  turns : {k : List Part} {e : Bool} → Calm k → Tuned (Part.AName ∷ Part.Sign sign.Below ∷ Part.ANumber ∷ k) e []
  less : {k : List Part} {e : Bool} → Calm k → Tuned (Part.Sign sign.Below ∷ Part.ANumber ∷ k) e []
  values : {k : List Part} → Calm k → Tuned (Part.Values ∷ k) false []
  operand : {i : ℕ} {k : List Part} {c : List ℕ} → top c ≡ i → Around k (under c) → Tuned (Part.Operand ∷ Part.Ops i ∷ k) false c
  primary : {i : ℕ} {k : List Part} {c : List ℕ} → top c ≡ i → Around k (under c) → Tuned (Part.Primary ∷ Part.Ops i ∷ k) false c
  index : {i : ℕ} {k : List Part} {c : List ℕ} → top c ≡ i → Around k (under c) → Tuned (Part.Index ∷ Part.Ops i ∷ k) true c
  ops : {i : ℕ} {k : List Part} {c : List ℕ} → top c ≡ i → Around k (under c) → Tuned (Part.Ops i ∷ k) true c

-- the scan agrees on whether the token is an operator too many, and behind it
abbrev pub Next : Bool → List ℕ → Lexeme → Option (Bool × List Part) → Type 0
Next e c t None = Unit {0}
Next e c t (Some (limit, k)) = (limit ≡ (is_binary e t && nat_eq (top c) most_operators)) × Tuned k (ends_operand t) (counted e c t)

no_operator : (e : Bool) (c : List ℕ) (s : Symbol) → is_none (operator_of s) ≡ true → false ≡ (is_binary e (Lexeme.sign s) && nat_eq (top c) most_operators)
no_operator e c s h = by_operator (operator_of s) h where
  by_operator : (o : Option Op) → is_none o ≡ true → false ≡ ((is_some o && e) && nat_eq (top c) most_operators)
  by_operator None h = refl
  by_operator (Some o) h = absurd (cc)

from_sign : (e : Bool) (c : List ℕ) (wanted s : Symbol) (k : List Part) (b : Bool) → same_sign wanted s ≡ b → is_none (operator_of wanted) ≡ true → Calm k → Next e c (Lexeme.sign s) (fed (feed k (Lexeme.sign s)) k false (taken_if b))
from_sign e c wanted s k true q h a = (no_operator e c s (subst (λ w. is_none (operator_of w) ≡ true) (sign_is wanted s q) h), Tuned.calm a)
from_sign e c wanted s k false q h a = tt

from_word : (e : Bool) (c : List ℕ) (wanted w : Keyword) (at : ℕ) (k : List Part) (b : Bool) → Calm k → Next e c (Lexeme.word w at) (fed (feed k (Lexeme.word w at)) k false (taken_if b))
from_word e c wanted w at k true a = (refl, Tuned.calm a)
from_word e c wanted w at k false a = tt

from_calm : (e : Bool) (c : List ℕ) (t : Lexeme) (k : List Part) → Calm k → Next e c t (feed k t)
from_calm e c t [] h = tt
from_calm e c (Lexeme.sign s) (Part.Sign wanted ∷ k) (q, h) = from_sign e c wanted s k (same_sign wanted s) refl q h
from_calm e c _ (Part.Sign wanted ∷ k) (q, h) = tt
from_calm e c (Lexeme.word w at) (Part.Word wanted ∷ k) (q, h) = from_word e c wanted w at k (same_word wanted w) h
from_calm e c _ (Part.Word wanted ∷ k) (q, h) = tt
from_calm e c (Lexeme.name n) (Part.AName ∷ k) (q, h) = (refl, Tuned.calm h)
from_calm e c _ (Part.AName ∷ k) (q, h) = tt
from_calm e c (Lexeme.number n at) (Part.ANumber ∷ k) (q, h) = (refl, Tuned.calm h)
from_calm e c _ (Part.ANumber ∷ k) (q, h) = tt
from_calm e c (Lexeme.word keyword.Nv at) (Part.Variables ∷ k) (q, h) = (refl, Tuned.calm (refl, (refl, (refl, (refl, (refl, h))))))
from_calm e c t (Part.Variables ∷ k) (q, h) = from_calm e c t k h
from_calm e c (Lexeme.sign sign.OpenBracket) (Part.Length ∷ k) (q, h) = (refl, Tuned.calm (refl, (refl, h)))
from_calm e c t (Part.Length ∷ k) (q, h) = from_calm e c t k h
from_calm e c (Lexeme.sign sign.Assign) (Part.Given ∷ k) (q, h) = (refl, Tuned.calm (refl, h))
from_calm e c t (Part.Given ∷ k) (q, h) = from_calm e c t k h
from_calm e c (Lexeme.number n at) (Part.Init ∷ k) (q, h) = (refl, Tuned.calm (h))
from_calm e c (Lexeme.sign sign.OpenBrace) (Part.Init ∷ k) (q, h) = (refl, Tuned.calm (refl, (refl, (refl, h))))
from_calm e c _ (Part.Init ∷ k) (q, h) = tt
from_calm e c (Lexeme.sign sign.Comma) (Part.Numbers ∷ k) (q, h) = (refl, Tuned.calm (refl, (refl, h)))
from_calm e c t (Part.Numbers ∷ k) (q, h) = from_calm e c t k h
from_calm e c (Lexeme.word keyword.Buffer at) (Part.Buffer ∷ k) (q, h) = (refl, Tuned.calm (refl, (refl, h)))
from_calm e c t (Part.Buffer ∷ k) (q, h) = from_calm e c t k h
from_calm e c (Lexeme.word keyword.Event at) (Part.Events ∷ k) (q, h) = (refl, Tuned.calm (refl, (refl, (refl, (refl, (refl, (refl, (refl, (refl, (refl, (refl, (refl, (refl, (refl, (refl, (refl, (refl, h)))))))))))))))))
from_calm e c t (Part.Events ∷ k) (q, h) = from_calm e c t k h
from_calm e c (Lexeme.name n) (Part.Params ∷ k) (q, h) = (refl, Tuned.calm (refl, h))
from_calm e c t (Part.Params ∷ k) (q, h) = from_calm e c t k h
from_calm e c (Lexeme.sign sign.Comma) (Part.Names ∷ k) (q, h) = (refl, Tuned.calm (refl, (refl, h)))
from_calm e c t (Part.Names ∷ k) (q, h) = from_calm e c t k h
from_calm e c (Lexeme.word keyword.Task at) (Part.AUnit ∷ k) (q, h) = (refl, Tuned.calm (refl, (refl, (refl, h))))
from_calm e c (Lexeme.word keyword.Transaction at) (Part.AUnit ∷ k) (q, h) = (refl, Tuned.calm (refl, (refl, (refl, (refl, (refl, (refl, (refl, (refl, h)))))))))
from_calm e c _ (Part.AUnit ∷ k) (q, h) = tt
from_calm e c (Lexeme.word keyword.Task at) (Part.Units ∷ k) (q, h) = (refl, Tuned.calm (refl, (refl, (refl, (refl, h)))))
from_calm e c (Lexeme.word keyword.Transaction at) (Part.Units ∷ k) (q, h) = (refl, Tuned.calm (refl, (refl, (refl, (refl, (refl, (refl, (refl, (refl, (refl, h))))))))))
from_calm e c t (Part.Units ∷ k) (q, h) = from_calm e c t k h
from_calm e c (Lexeme.word keyword.Task at) (Part.Members ∷ k) (q, h) = (refl, Tuned.calm (refl, (refl, (refl, (refl, h)))))
from_calm e c t (Part.Members ∷ k) (q, h) = from_calm e c t k h
from_calm e c (Lexeme.sign sign.CloseBrace) (Part.Body ∷ k) (q, h) = (refl, Tuned.calm (h))
from_calm e c (Lexeme.name n) (Part.Body ∷ k) (q, h) = (refl, Tuned.place (refl, (refl, h)))
from_calm e c (Lexeme.word keyword.Let at) (Part.Body ∷ k) (q, h) = (refl, Tuned.local (refl, (refl, h)))
from_calm e c (Lexeme.word keyword.If at) (Part.Body ∷ k) (q, h) = (refl, Tuned.operand refl (Around.calm (refl, (refl, (refl, (refl, h))))))
from_calm e c (Lexeme.word keyword.Repeat at) (Part.Body ∷ k) (q, h) = (refl, Tuned.turns (refl, (refl, (refl, h))))
from_calm e c (Lexeme.word keyword.Next at) (Part.Body ∷ k) (q, h) = (refl, Tuned.calm (refl, (refl, (refl, h))))
from_calm e c (Lexeme.word keyword.Halt at) (Part.Body ∷ k) (q, h) = (refl, Tuned.calm (refl, (refl, h)))
from_calm e c (Lexeme.word keyword.Give at) (Part.Body ∷ k) (q, h) = (refl, Tuned.values (refl, (refl, h)))
from_calm e c _ (Part.Body ∷ k) (q, h) = tt
from_calm e c (Lexeme.word keyword.Else at) (Part.Otherwise ∷ k) (q, h) = (refl, Tuned.calm (refl, (refl, h)))
from_calm e c t (Part.Otherwise ∷ k) (q, h) = from_calm e c t k h
from_calm e c (Lexeme.sign sign.Comma) (Part.More ∷ k) (q, h) = (refl, Tuned.operand refl (Around.calm (refl, h)))
from_calm e c t (Part.More ∷ k) (q, h) = from_calm e c t k h
from_calm e c _ (Part.Values ∷ k) (q, h) = absurd (cc)
from_calm e c _ (Part.Operand ∷ k) (q, h) = absurd (cc)
from_calm e c _ (Part.Primary ∷ k) (q, h) = absurd (cc)
from_calm e c _ (Part.Index ∷ k) (q, h) = absurd (cc)
from_calm e c _ (Part.Ops i ∷ k) (q, h) = absurd (cc)

from_around : {k : List Part} (c : List ℕ) (t : Lexeme) → Around k (under c) → Next true c t (feed k t)
from_around {k = k} c t (Around.calm h) = from_calm true c t k h
from_around c (Lexeme.sign sign.CloseParen) (Around.paren h a) = (refl, Tuned.ops h a)
from_around c (Lexeme.sign sign.CloseBracket) (Around.bracket h a) = (refl, Tuned.ops h a)
from_around c (Lexeme.sign sign.CloseBracket) (Around.target h) = (refl, Tuned.set h)
from_around c _ (Around.paren h a) = tt
from_around c _ (Around.bracket h a) = tt
from_around c _ (Around.target h) = tt

no_end : (s : Symbol) (o : Op) → operator_of s ≡ Some o → ends_operand (Lexeme.sign s) ≡ false
no_end sign.CloseParen o h = absurd (cc)
no_end sign.CloseBracket o h = absurd (cc)
no_end _ o h = refl

none_counted : (e : Bool) → false ≡ (e && false)
none_counted true = refl
none_counted false = refl

from_operator : {i : ℕ} {k : List Part} (c : List ℕ) (s : Symbol) (o : Option Op) → operator_of s ≡ o → top c ≡ i → Around k (under c)
    → Next true c (Lexeme.sign s) (fed (feed k (Lexeme.sign s)) k (nat_eq i most_operators) (cond (is_some o) (Move.Take (Part.Operand ∷ Part.Ops (i + 1) ∷ [])) Move.Skip))
from_operator {i} {k} c s (Some o) q h a =
    let limit : nat_eq i most_operators ≡ ((is_some (operator_of s) && true) && nat_eq (top c) most_operators) =
    ap (λ n. nat_eq n most_operators) (sym h) ∙ ap (λ u. (is_some u && true) && nat_eq (top c) most_operators) (sym q) in
    let counts : counted_sign true c s (operator_of s) ≡ counted_sign true c s (Some o) = ap (counted_sign true c s) q in (
      limit,
      subst (λ w. Tuned (Part.Operand ∷ Part.Ops (i + 1) ∷ k) w (counted_sign true c s (operator_of s))) (sym (no_end s o q))
          (subst (Tuned (Part.Operand ∷ Part.Ops (i + 1) ∷ k) false) (sym counts) (Tuned.operand (ap (λ n. n + 1) h) a)),
    )
from_operator c s None q h a = from_around c (Lexeme.sign s) a

from_ops : {i : ℕ} {k : List Part} (c : List ℕ) (t : Lexeme) → top c ≡ i → Around k (under c) → Next true c t (feed (Part.Ops i ∷ k) t)
from_ops c (Lexeme.sign s) h a = from_operator c s (operator_of s) refl h a
from_ops c t h a = from_around c t a

pub next : {k : List Part} {e : Bool} {c : List ℕ} → Tuned k e c → (t : Lexeme) → Next e c t (feed k t)
next {k = k} {e = e} {c = c} (Tuned.calm h) t = from_calm e c t k h
next (Tuned.local h) (Lexeme.name n) = (refl, Tuned.set h)
next (Tuned.local h) _ = tt
next (Tuned.place h) (Lexeme.sign sign.OpenBracket) = (refl, Tuned.operand refl (Around.target h))
next (Tuned.place h) (Lexeme.sign sign.Assign) = (refl, Tuned.operand refl (Around.calm h))
next (Tuned.place h) _ = tt
next (Tuned.set h) (Lexeme.sign sign.Assign) = (refl, Tuned.operand refl (Around.calm h))
next (Tuned.set h) _ = tt
next (Tuned.turns h) (Lexeme.name n) = (refl, Tuned.less h)
next (Tuned.turns h) _ = tt
next {e = e} (Tuned.less h) (Lexeme.sign sign.Below) = (none_counted e, Tuned.calm (refl, h))
next (Tuned.less h) _ = tt
next (Tuned.values {k = k} h) (Lexeme.number n at) = (refl, Tuned.ops refl (Around.calm (refl, h)))
next (Tuned.values {k = k} h) (Lexeme.name n) = (refl, Tuned.index refl (Around.calm (refl, h)))
next (Tuned.values {k = k} h) (Lexeme.sign sign.Minus) = (refl, Tuned.primary refl (Around.calm (refl, h)))
next (Tuned.values {k = k} h) (Lexeme.sign sign.Invert) = (refl, Tuned.primary refl (Around.calm (refl, h)))
next (Tuned.values {k = k} h) (Lexeme.sign sign.Not) = (refl, Tuned.primary refl (Around.calm (refl, h)))
next (Tuned.values {k = k} h) (Lexeme.sign sign.OpenParen) = (refl, Tuned.operand refl (Around.paren refl (Around.calm (refl, h))))
next (Tuned.values {k = k} h) t = from_calm false [] t k h
next (Tuned.operand h a) (Lexeme.sign sign.Minus) = (refl, Tuned.primary h a)
next (Tuned.operand h a) (Lexeme.sign sign.Invert) = (refl, Tuned.primary h a)
next (Tuned.operand h a) (Lexeme.sign sign.Not) = (refl, Tuned.primary h a)
next (Tuned.operand h a) (Lexeme.number n at) = (refl, Tuned.ops h a)
next (Tuned.operand h a) (Lexeme.name n) = (refl, Tuned.index h a)
next (Tuned.operand h a) (Lexeme.sign sign.OpenParen) = (refl, Tuned.operand refl (Around.paren h a))
next (Tuned.operand h a) _ = tt
next (Tuned.primary h a) (Lexeme.number n at) = (refl, Tuned.ops h a)
next (Tuned.primary h a) (Lexeme.name n) = (refl, Tuned.index h a)
next (Tuned.primary h a) (Lexeme.sign sign.OpenParen) = (refl, Tuned.operand refl (Around.paren h a))
next (Tuned.primary h a) _ = tt
next (Tuned.index h a) (Lexeme.sign sign.OpenBracket) = (refl, Tuned.operand refl (Around.bracket h a))
next {c = c} (Tuned.index h a) t = from_ops c t h a
next {c = c} (Tuned.ops h a) t = from_ops c t h a
