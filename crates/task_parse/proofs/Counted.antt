-- The scan counts the operators of an expression as the grammar groups them.
use Rattle.std.proofs.Common.{◌≡◌, ◌+◌, ◌≤◌, ℕ, pred, List, [], ◌∷◌, ◌++◌, Bool, true, false, ◌&&◌, ◌||◌, nat_eq, refl, ap, sym, ◌∙◌, arith, append_assoc}
use Rattle.std.specs.Prelude.{Some}
use Rattle.coati_word.specs.declared.operator.Op.{Op}
use Rattle.coati_word.specs.declared.operator.Op1.{Op1}
use Rattle.task_lex.specs.declared.keyword.Keyword.TheVariants as keyword
use Rattle.task_lex.specs.declared.symbol.Symbol.{Symbol}
use Rattle.task_lex.specs.declared.symbol.Symbol.TheVariants as sign
use Rattle.task_syntax.specs.declared.expression.Expr.{Expr}
use Rattle.task_syntax.specs.declared.expression.Place.{Place}
use Rattle.task_parse.specs.Bars.{AreFree, Scan, most_open, most_operators, opens, shift, ends_operand, is_binary, top, under, counted, scanned, scan_from}
use Rattle.task_parse.specs.Count.{Counts, IsFresh, begins_expression, operators}
use Rattle.task_parse.specs.Grammar as G
use Rattle.task_parse.specs.Grammar.{Reads, Form}
use Rattle.task_parse.specs.Lexeme.{Lexeme}
use Rattle.task_parse.specs.Operators.{operator_of, unary_of}

scan_append : (s : Scan) (xs ys : List Lexeme) → scan_from s (xs ++ ys) ≡ scan_from (scan_from s xs) ys
scan_append s [] ys = refl
scan_append s (x ∷ xs) ys = scan_append (scanned s x) xs ys

free_append : (s : Scan) (xs ys : List Lexeme) → AreFree s (xs ++ ys) → AreFree s xs × AreFree (scan_from s xs) ys
free_append s [] ys h = (tt, h)
free_append s (x ∷ xs) ys h = let r = free_append (scanned s x) xs ys h.1 in ((h.0, r.0), r.1)

-- a sign before an operand changes nothing
unary_stays : (s : Symbol) (o : Op1) (c : List ℕ) (d : ℕ) → unary_of s ≡ Some o → (counted false c (Lexeme.sign s) ≡ c) × (shift d (Lexeme.sign s) ≡ d) × (ends_operand (Lexeme.sign s) ≡ false)
unary_stays sign.Minus o c d h = (refl, refl, refl)
unary_stays sign.Invert o c d h = (refl, refl, refl)
unary_stays sign.Not o c d h = (refl, refl, refl)
unary_stays _ o c d h = absurd (cc)

-- an operator between operands is counted
operator_counts : (s : Symbol) (o : Op) (c : List ℕ) (d : ℕ) → operator_of s ≡ Some o
    → (counted true c (Lexeme.sign s) ≡ (top c + 1) ∷ under c) × (shift d (Lexeme.sign s) ≡ d) × (ends_operand (Lexeme.sign s) ≡ false) × (is_binary true (Lexeme.sign s) ≡ true)
operator_counts sign.OpenBrace o c d h = absurd (cc)
operator_counts sign.CloseBrace o c d h = absurd (cc)
operator_counts sign.OpenParen o c d h = absurd (cc)
operator_counts sign.CloseParen o c d h = absurd (cc)
operator_counts sign.OpenBracket o c d h = absurd (cc)
operator_counts sign.CloseBracket o c d h = absurd (cc)
operator_counts sign.Semicolon o c d h = absurd (cc)
operator_counts sign.Comma o c d h = absurd (cc)
operator_counts sign.Assign o c d h = absurd (cc)
operator_counts sign.Invert o c d h = absurd (cc)
operator_counts sign.Not o c d h = absurd (cc)
operator_counts _ o c d h = (refl, refl, refl, refl)

-- from any scan on, behind no operand
abbrev pub Passes : ℕ → List Lexeme → List Lexeme → Type 0
Passes count old new = (s : Scan) → s.ended ≡ false → Counts count old new s

number_passes : {n at : ℕ} {r : List Lexeme} → Passes 0 (Lexeme.number n at ∷ r) r
number_passes {n} {at} s e = record { tokens = Lexeme.number n at ∷ []; split = refl; depth = refl; innermost = omega arith; around = refl; ended = refl; within = λ f h. omega arith }

-- behind the tokens stands this scan, which has counted so many operators
counts_at : (count : ℕ) (old new : List Lexeme) (s f : Scan) (tokens : List Lexeme) → old ≡ tokens ++ new → scan_from s tokens ≡ f → f.depth ≡ s.depth
    → top f.counts ≡ top s.counts + count → under f.counts ≡ under s.counts → f.ended ≡ true
    → (AreFree s tokens → top s.counts ≤ most_operators → top s.counts + count ≤ most_operators) → Counts count old new s
counts_at count old new s f tokens split is d i a e w = record {
  tokens = tokens;
  split = split;
  depth = ap (λ (g : Scan). g.depth) is ∙ d;
  innermost = ap (λ (g : Scan). top g.counts) is ∙ i;
  around = ap (λ (g : Scan). under g.counts) is ∙ a;
  ended = ap (λ (g : Scan). g.ended) is ∙ e;
  within = w;
}

-- what stands in brackets leaves the count alone
in_brackets : (s : Scan) (front : List Lexeme) (close : Lexeme) (a r : List Lexeme) (count : ℕ) → scan_from s front ≡ record { depth = s.depth + 1; counts = 0 ∷ s.counts; ended = false }
    → ((t : Scan) → scanned t close ≡ record { depth = pred t.depth; counts = under t.counts; ended = true }) → Counts count a (close ∷ r) (scan_from s front) → Counts 0 (front ++ a) r s
in_brackets s front close a r count opened closed d =
    let inside : Scan = scan_from (scan_from s front) d.tokens in
    let split : front ++ a ≡ (front ++ (d.tokens ++ close ∷ [])) ++ r =
    ap (λ w. front ++ w) (d.split ∙ sym (append_assoc d.tokens (close ∷ []) r)) ∙ sym (append_assoc front (d.tokens ++ close ∷ []) r) in
    let is : scan_from s (front ++ (d.tokens ++ close ∷ [])) ≡ record { depth = pred inside.depth; counts = under inside.counts; ended = true } =
    scan_append s front (d.tokens ++ close ∷ []) ∙ scan_append (scan_from s front) d.tokens (close ∷ []) ∙ closed inside in
    let deep : inside.depth ≡ s.depth + 1 = d.depth ∙ ap (λ (g : Scan). g.depth) opened in
    let around : under inside.counts ≡ s.counts = d.around ∙ ap (λ (g : Scan). under g.counts) opened in
    counts_at 0 (front ++ a) r s (record { depth = pred inside.depth; counts = under inside.counts; ended = true }) (front ++ (d.tokens ++ close ∷ [])) split is
    (omega arith) (let t : top (under inside.counts) ≡ top s.counts = ap top around in omega arith) (ap under around) refl (λ f h. omega arith)

unary_on : (s : Symbol) (o : Op1) (a b : List Lexeme) → unary_of s ≡ Some o → Passes 0 a b → Passes 0 (Lexeme.sign s ∷ a) b
unary_on symbol o a b h d s e =
    let u = unary_stays symbol o s.counts s.depth h in
    let on : scanned s (Lexeme.sign symbol) ≡ record { depth = s.depth; counts = s.counts; ended = false } =
    ap (λ w. record { depth = shift s.depth (Lexeme.sign symbol); counts = counted w s.counts (Lexeme.sign symbol); ended = ends_operand (Lexeme.sign symbol) }) e
    ∙ ap (λ w. record { depth = shift s.depth (Lexeme.sign symbol); counts = w; ended = ends_operand (Lexeme.sign symbol) }) u.0
    ∙ ap (λ w. record { depth = w; counts = s.counts; ended = ends_operand (Lexeme.sign symbol) }) u.1
    ∙ ap (λ w. record { depth = s.depth; counts = s.counts; ended = w }) u.2 in
    let c = d (scanned s (Lexeme.sign symbol)) u.2 in
    counts_at 0 (Lexeme.sign symbol ∷ a) b s (scan_from (scanned s (Lexeme.sign symbol)) c.tokens) (Lexeme.sign symbol ∷ c.tokens) (ap (λ w. Lexeme.sign symbol ∷ w) c.split) refl
    (c.depth ∙ ap (λ (g : Scan). g.depth) on) (c.innermost ∙ ap (λ (g : Scan). top g.counts + 0) on) (c.around ∙ ap (λ (g : Scan). under g.counts) on) c.ended (λ f h. omega arith)

second_false : (a b : Bool) → (a || b) ≡ false → b ≡ false
second_false true b h = absurd (cc)
second_false false b h = h

room : (n : ℕ) → nat_eq n most_operators ≡ false → n ≤ most_operators → n + 1 ≤ most_operators
room n h k = grind arith

joined : (s : Symbol) (o : Op) (left right : ℕ) (a b c : List Lexeme) → operator_of s ≡ Some o → Passes left a (Lexeme.sign s ∷ b) → Passes right b c → Passes (left + 1 + right) a c
joined symbol o left right a b c h x y s e =
    let l = x s e in
    let m : Scan = scan_from s l.tokens in
    let u = operator_counts symbol o m.counts m.depth h in
    let n : Scan = scanned m (Lexeme.sign symbol) in
    let counts : n.counts ≡ (top m.counts + 1) ∷ under m.counts = ap (λ w. counted w m.counts (Lexeme.sign symbol)) l.ended ∙ u.0 in
    let r = y n u.2 in
    let ts : List Lexeme = l.tokens ++ Lexeme.sign symbol ∷ r.tokens in
    let split : a ≡ ts ++ c = l.split ∙ ap (λ w. l.tokens ++ Lexeme.sign symbol ∷ w) r.split ∙ sym (append_assoc l.tokens (Lexeme.sign symbol ∷ r.tokens) c) in
    let up : top n.counts ≡ top m.counts + 1 = ap top counts in
    let behind : top (scan_from n r.tokens).counts ≡ top n.counts + right = r.innermost in
    let before : top m.counts ≡ top s.counts + left = l.innermost in
    counts_at (left + 1 + right) a c s (scan_from n r.tokens) ts split (scan_append s l.tokens (Lexeme.sign symbol ∷ r.tokens)) (r.depth ∙ u.1 ∙ l.depth)
    (omega arith) (r.around ∙ ap under counts ∙ l.around) r.ended
    (λ f few.
    let g = free_append s l.tokens (Lexeme.sign symbol ∷ r.tokens) f in
    let q : top s.counts + left ≤ most_operators = l.within g.0 few in
    let free : (is_binary m.ended (Lexeme.sign symbol) && nat_eq (top m.counts) most_operators) ≡ false = second_false (opens (Lexeme.sign symbol) && nat_eq m.depth most_open) _ g.1.0 in
    let binary : is_binary m.ended (Lexeme.sign symbol) ≡ true = ap (λ w. is_binary w (Lexeme.sign symbol)) l.ended ∙ u.3 in
    let some : nat_eq (top m.counts) most_operators ≡ false = ap (λ w. w && nat_eq (top m.counts) most_operators) (sym binary) ∙ free in
    let w : top n.counts + right ≤ most_operators = r.within g.1.1 (let one_more = room (top m.counts) some (omega arith) in omega arith) in omega arith)

mutual
  primary : {x : Expr} {a b : List Lexeme} → Reads (Form.Primary x) a b → Passes 0 a b
  primary (G.number) = number_passes
  primary (G.get d) = place d
  primary {b = b} (G.parens {a = a} d) = λ s e. in_brackets s (Lexeme.sign sign.OpenParen ∷ []) (Lexeme.sign sign.CloseParen) a b (operators d) (opened s e) (λ t. refl) (expression d (scanned s (Lexeme.sign sign.OpenParen)) refl) where
    opened : (s : Scan) → s.ended ≡ false → scanned s (Lexeme.sign sign.OpenParen) ≡ record { depth = s.depth + 1; counts = 0 ∷ s.counts; ended = false }
    opened s e = refl

  place : {p : Place} {a b : List Lexeme} → Reads (Form.Target p) a b → Passes 0 a b
  place (G.scalar {name = name}) = λ s e. record { tokens = Lexeme.name name ∷ []; split = refl; depth = refl; innermost = omega arith; around = refl; ended = refl; within = λ f h. omega arith }
  place {b = b} (G.item {name = name} {a = a} d) = λ s e.
      in_brackets s (Lexeme.name name ∷ Lexeme.sign sign.OpenBracket ∷ []) (Lexeme.sign sign.CloseBracket) a b (operators d) refl (λ t. refl)
      (expression d (scanned (scanned s (Lexeme.name name)) (Lexeme.sign sign.OpenBracket)) refl)

  operand : {x : Expr} {a b : List Lexeme} → Reads (Form.Operand x) a b → Passes 0 a b
  operand (G.plain d) = primary d
  operand {b = b} (G.one {symbol = s} {o = o} {a = a} h d) = unary_on s o a b h (primary d)

  pub expression : {n : ℕ} {x : Expr} {a b : List Lexeme} (d : Reads (Form.Level n x) a b) → Passes (operators d) a b
  expression (G.operand d) = operand d
  expression {a = a} {b = c} (G.two {symbol = s} {o = o} {b = b} h t x y) = joined s o (operators x) (operators y) a b c h (expression x) (expression y)

pub fresh : (s : Scan) (token : Lexeme) → begins_expression token ≡ true → IsFresh (scanned s token)
fresh s (Lexeme.sign sign.OpenParen) h = record { count = refl; ended = refl }
fresh s (Lexeme.sign sign.OpenBracket) h = record { count = refl; ended = refl }
fresh s (Lexeme.sign sign.Comma) h = record { count = refl; ended = refl }
fresh s (Lexeme.sign sign.Assign) h = record { count = refl; ended = refl }
fresh s (Lexeme.word keyword.If _) h = record { count = refl; ended = refl }
fresh s (Lexeme.word keyword.Give _) h = record { count = refl; ended = refl }
fresh s _ h = absurd (cc)
