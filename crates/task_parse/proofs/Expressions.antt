-- Steps of the machine in an expression, and what the loop over its operators keeps.
use Rattle.std.proofs.Common.{rules, ◌≡◌, ◌≤◌, ◌<◌, ◌+◌, ℕ, suc, List, [], ◌∷◌, true, false, nat_eq, Option, Some, None, MatchOption, refl, subst, arith, add-one}
use Rattle.coati_word.specs.declared.operator.Op.{Op}
use Rattle.coati_word.specs.declared.operator.Op.TheVariants as op
use Rattle.coati_word.specs.declared.operator.Op1.{Op1}
use Rattle.task_lex.specs.declared.symbol.Symbol.{Symbol}
use Rattle.task_lex.specs.declared.symbol.Symbol.TheVariants as sign
use Rattle.task_syntax.specs.declared.expression.Expr.{Expr}
use Rattle.task_syntax.specs.declared.expression.Expr.TheVariants as e
use Rattle.task_parse.specs.Bars.{closes, opens}
use Rattle.task_parse.specs.Grammar as G
use Rattle.task_parse.specs.Grammar.{Form, Reads}
use Rattle.task_parse.specs.Lexeme.{Lexeme}
use Rattle.task_parse.specs.Machine.{Part, Spot, Verdict, judge, verdict}
use Rattle.task_parse.specs.Operators.{level, operator_of}
use Rattle.task_parse.specs.Spots.{Below, first_operator, first_unary, is_at, is_at_name, moved, tail}
use Rattle.task_parse.proofs.Climbs.{Climbs}

-- a sign that is an operator is no bracket
no_bracket : (x : Symbol) (o : Op) → operator_of x ≡ Some o
    → (opens (Lexeme.sign x) ≡ false) × (closes (Lexeme.sign x) ≡ false)
no_bracket x o h = by_case x h where
  by_case : (x : Symbol) → operator_of x ≡ Some o → (opens (Lexeme.sign x) ≡ false) × (closes (Lexeme.sign x) ≡ false)
  by_case _ h = search rules

-- an operator is taken
pub operator_on : (s : Spot) (o : Op) (n : ℕ) (k : List Part) → first_operator s.rest ≡ Some o → nat_eq n 16 ≡ false
    → judge s (Part.Ops n ∷ k) ≡ judge (moved s s.depth) (Part.Operand ∷ Part.Ops (n + 1) ∷ k)
operator_on s o n k h room = at_list s.at s.depth s.rest h where
  at_list : (at depth : ℕ) (list : List Lexeme) → first_operator list ≡ Some o
      → verdict at depth list (Part.Ops n ∷ k) ≡ verdict (at + 1) depth (tail list) (Part.Operand ∷ Part.Ops
      (n + 1) ∷ k)
  at_list at depth [] h = absurd (cc)
  at_list at depth (Lexeme.sign x ∷ rest) h =
      let plain = no_bracket x o h in
      rw (h, plain.0, plain.1, room) refl
  at_list at depth (_ ∷ rest) h = absurd (cc)

-- an operator too many
pub too_many : (s : Spot) (o : Op) (n : ℕ) (k : List Part) → first_operator s.rest ≡ Some o → nat_eq n 16 ≡ true
    → judge s (Part.Ops n ∷ k) ≡ Verdict.Deep s.at
too_many s o n k h full = at_list s.at s.depth s.rest h where
  at_list : (at depth : ℕ) (list : List Lexeme) → first_operator list ≡ Some o
      → verdict at depth list (Part.Ops n ∷ k) ≡ Verdict.Deep at
  at_list at depth [] h = absurd (cc)
  at_list at depth (Lexeme.sign x ∷ rest) h =
      let plain = no_bracket x o h in
      rw (h, plain.0, full) refl
  at_list at depth (_ ∷ rest) h = absurd (cc)

-- a unary operator is taken
pub unary_on : (s : Spot) (o : Op1) (k : List Part) → first_unary s.rest ≡ Some o
    → judge s (Part.Operand ∷ k) ≡ judge (moved s s.depth) (Part.Primary ∷ k)
unary_on s o k h = at_list s.at s.depth s.rest h where
  at_list : (at depth : ℕ) (list : List Lexeme) → first_unary list ≡ Some o
      → verdict at depth list (Part.Operand ∷ k) ≡ verdict (at + 1) depth (tail list) (Part.Primary ∷ k)
  at_list at depth [] h = absurd (cc)
  at_list at depth (_ ∷ rest) h = search rules

-- without a unary operator an operand is a primary
pub as_primary : (s : Spot) (k : List Part) → first_unary s.rest ≡ None
    → judge s (Part.Operand ∷ k) ≡ judge s (Part.Primary ∷ k)
as_primary s k h = at_list s.at s.depth s.rest h where
  at_list : (at depth : ℕ) (list : List Lexeme) → first_unary list ≡ None
      → verdict at depth list (Part.Operand ∷ k) ≡ verdict at depth list (Part.Primary ∷ k)
  at_list at depth [] h = refl
  at_list at depth (Lexeme.sign x ∷ rest) h = rw h refl
  at_list at depth (_ ∷ rest) h = refl

pub unary_reads : (list b : List Lexeme) (o : Op1) (x : Expr) → first_unary list ≡ Some o
    → Reads (Form.Primary x) (tail list) b
    → Reads (Form.Operand (e.One o x)) list b
unary_reads [] b o x h d = absurd (cc)
unary_reads (Lexeme.sign s ∷ rest) b o x h d = G.one h d
unary_reads (Lexeme.name _ ∷ rest) b o x h d = absurd (cc)
unary_reads (Lexeme.number _ _ ∷ rest) b o x h d = absurd (cc)
unary_reads (Lexeme.word _ _ ∷ rest) b o x h d = absurd (cc)

relevel : {m n : ℕ} {x : Expr} {a b : List Lexeme} → n ≤ m → Reads (Form.Level m x) a b → Reads (Form.Level n x) a b
relevel h (G.operand d) = G.operand d
relevel h (G.two is low a b) = G.two is (omega arith) a b

level_few : (o : Op) → level o < 8
level_few op.Or = omega arith
level_few _ = omega arith

below_top : (n : ℕ) (list : List Lexeme) → Below (suc (n + 7)) list
below_top n [] = tt
below_top n (Lexeme.sign x ∷ rest) = by_operator (operator_of x) where
  by_operator : (o : Option Op) → MatchOption o (Unit {0}) (λ op. level op < suc (n + 7))
  by_operator None = tt
  by_operator (Some o) = let few = level_few o in omega arith
below_top n (_ ∷ rest) = tt

-- an operand is an expression of any level
pub climbs_start : (n : ℕ) (x : Expr) (a b : List Lexeme) → Reads (Form.Operand x) a b → Climbs n x a b
climbs_start n x a b d = record { top = n + 7; low = omega arith; reads = G.operand d; below = below_top n b }

-- an operator and its right side
pub climbs_on : (n : ℕ) (o : Op) (x y : Expr) (a b v : List Lexeme) → Climbs n x a b → first_operator b ≡ Some o
    → n ≤ level o
    → Reads (Form.Level (level o + 1) y) (tail b) v → Below (level o + 1) v → Climbs n (e.Two o x y) a v
climbs_on n o x y a [] v s h low d q = absurd (cc)
climbs_on n o x y a (Lexeme.sign z ∷ c) v s h low d q =
    let tight : MatchOption (Some o) (Unit {0}) (λ op. level op < suc s.top) = subst (λ w. MatchOption w (Unit {0})
    (λ op. level op < suc s.top)) h s.below in
    record {
      top = level o;
      low = low;
      reads = G.two h (omega arith) (relevel (omega arith) s.reads) (subst (λ w. Reads (Form.Level w y) c v) (add-one
          (level o)) d);
      below = subst (λ w. Below w v) (add-one (level o)) q;
    }
climbs_on n o x y a (Lexeme.name _ ∷ c) v s h low d q = absurd (cc)
climbs_on n o x y a (Lexeme.number _ _ ∷ c) v s h low d q = absurd (cc)
climbs_on n o x y a (Lexeme.word _ _ ∷ c) v s h low d q = absurd (cc)

pub climbs_end : (n : ℕ) (x : Expr) (a b : List Lexeme) → Climbs n x a b → Reads (Form.Level n x) a b
climbs_end n x a b s = relevel s.low s.reads

-- an index begins
pub index_on : (s : Spot) (k : List Part) → is_at sign.OpenBracket s.rest ≡ true
    → judge s (Part.Index ∷ k) ≡ judge s
    (Part.Sign sign.OpenBracket ∷ Part.Operand ∷ Part.Ops 0 ∷ Part.Sign sign.CloseBracket ∷ k)
index_on s k h = at_list s.at s.depth s.rest h where
  at_list : (at depth : ℕ) (list : List Lexeme) → is_at sign.OpenBracket list ≡ true
      → verdict at depth list (Part.Index ∷ k) ≡ verdict at depth list
      (Part.Sign sign.OpenBracket ∷ Part.Operand ∷ Part.Ops 0 ∷ Part.Sign sign.CloseBracket ∷ k)
  at_list at depth [] h = absurd (cc)
  at_list at depth (_ ∷ rest) h = search rules

-- a name begins a place, and a number or an opening parenthesis begins what they do
pub place_on : (s : Spot) (k : List Part) → is_at_name s.rest ≡ true
    → judge s (Part.Primary ∷ k) ≡ judge s (Part.AName ∷ Part.Index ∷ k)
place_on s k h = at_list s.at s.depth s.rest h where
  at_list : (at depth : ℕ) (list : List Lexeme) → is_at_name list ≡ true
      → verdict at depth list (Part.Primary ∷ k) ≡ verdict at depth list (Part.AName ∷ Part.Index ∷ k)
  at_list at depth [] h = absurd (cc)
  at_list at depth (Lexeme.name n ∷ rest) h = refl
  at_list at depth (_ ∷ rest) h = absurd (cc)

pub parentheses_on : (s : Spot) (k : List Part) → is_at sign.OpenParen s.rest ≡ true
    → judge s (Part.Primary ∷ k) ≡ judge s
    (Part.Sign sign.OpenParen ∷ Part.Operand ∷ Part.Ops 0 ∷ Part.Sign sign.CloseParen ∷ k)
parentheses_on s k h = at_list s.at s.depth s.rest h where
  at_list : (at depth : ℕ) (list : List Lexeme) → is_at sign.OpenParen list ≡ true
      → verdict at depth list (Part.Primary ∷ k) ≡ verdict at depth list
      (Part.Sign sign.OpenParen ∷ Part.Operand ∷ Part.Ops 0 ∷ Part.Sign sign.CloseParen ∷ k)
  at_list at depth [] h = absurd (cc)
  at_list at depth (_ ∷ rest) h = search rules

pub number_on : (s : Spot) (k : List Part) → is_at_name s.rest ≡ false → is_at sign.OpenParen s.rest ≡ false
    → judge s (Part.Primary ∷ k) ≡ judge s (Part.ANumber ∷ k)
number_on s k h p = at_list s.at s.depth s.rest h p where
  at_list : (at depth : ℕ) (list : List Lexeme) → is_at_name list ≡ false → is_at sign.OpenParen list ≡ false
      → verdict at depth list (Part.Primary ∷ k) ≡ verdict at depth list (Part.ANumber ∷ k)
  at_list at depth [] h p = refl
  at_list at depth (Lexeme.name n ∷ rest) h p = absurd (cc)
  at_list at depth (Lexeme.sign sign.OpenParen ∷ rest) h p = absurd (cc)
  at_list at depth (_ ∷ rest) h p = refl
