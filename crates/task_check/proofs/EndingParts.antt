-- The endings in a block, found statement by statement.
use Rattle.std.proofs.Common.{◌≡◌, ◌∙◌, ℕ, zero, suc, ◌+◌, ◌<◌, List, [], ◌∷◌, length, drop, map, get_or, Bool, refl, ap, arith}
use Rattle.std.specs.Prelude.{Some, ◌&&◌, ◌==◌}
use Rattle.std.proofs.lemmas.List.{at_drop_more, length-drop}
use Rattle.std.proofs.lemmas.Bool.Decides.{nat_tests}
use Rattle.task_syntax.specs.declared.expression.Expr.{Expr}
use Rattle.task_syntax.specs.declared.statement.Stmt.{Stmt}
use Rattle.task_syntax.specs.declared.statement.Stmt.TheVariants.{If}
use Rattle.task_syntax.specs.declared.body.Kind.{Kind}
use Rattle.task_check.specs.Endings.{block_ends, statement_ends, early_in, early_in_block, early_step, is_last}
use Rattle.task_check.specs.Least.{lesser, least}
use Rattle.task_check.proofs.LeastParts.{least-append}
use Rattle.task_check.proofs.Folds.{fold-if_else}

is_last-length : {A : Type 0} (following : List A) → is_last following ≡ (length following == 0)
is_last-length [] = refl
is_last-length (next ∷ more) = grind (arith, nat_tests)

is_last-map : {A B : Type 0} (f : A → B) (following : List A) → is_last (map f following) ≡ is_last following
is_last-map f [] = refl
is_last-map f (next ∷ more) = refl

-- nothing follows the last statement of a block
pub is_last-drop : (block : List Stmt) (index : ℕ) → index < length block → is_last (drop (index + 1) block) ≡ (index + 1 == length block)
is_last-drop block index below = is_last-length (drop (index + 1) block) ∙ ap (λ (n : ℕ). n == 0) (length-drop (index + 1) block) ∙ grind (arith, nat_tests)

-- those of a choice of two blocks
pub least-early_if_else : (kind : Kind) (condition : Expr) (block other : List Stmt) (last : Bool) →
    least (early_in kind (If condition block (Some other)) last) ≡ lesser (least (early_in_block kind block last)) (least (early_in_block kind other last))
least-early_if_else kind condition block other last =
    ap (λ (f : Bool → List ℕ). least (f last)) (fold-if_else (Bool → List ℕ) (early_step kind) condition block other)
    ∙ least-append (early_in_block kind block last) (early_in_block kind other last)

-- those of a block from a statement on
pub least-early_drop : (kind : Kind) (block : List Stmt) (index : ℕ) (statement : Stmt) (last : Bool) → index < length block →
    least (early_in_block kind (drop index block) last)
    ≡ lesser (least (early_in kind (get_or block index statement) (last && is_last (drop (index + 1) block)))) (least (early_in_block kind (drop (index + 1) block) last))
least-early_drop kind block index statement last below =
    at_drop_more (λ (rest : List Stmt). least (early_in_block kind rest last)) block index statement below
    ∙ least-append (early_in kind (get_or block index statement) (last && is_last (map (early_in kind) (drop (index + 1) block)))) (early_in_block kind (drop (index + 1) block) last)
    ∙ ap (λ (x : Bool). lesser (least (early_in kind (get_or block index statement) (last && x))) (least (early_in_block kind (drop (index + 1) block) last))) (is_last-map (early_in kind) (drop (index + 1) block))

-- a block ends where its last statement does
pub block_ends-last : (block : List Stmt) (index : ℕ) (statement : Stmt) → index + 1 ≡ length block → block_ends block ≡ statement_ends (get_or block index statement)
block_ends-last [] index statement is = absurd (omega arith)
block_ends-last (only ∷ []) zero statement is = refl
block_ends-last (only ∷ []) (suc index) statement is = absurd (omega arith)
block_ends-last (first ∷ second ∷ more) zero statement is = absurd (omega arith)
block_ends-last (first ∷ second ∷ more) (suc index) statement is = block_ends-last (second ∷ more) index statement (omega arith)

pub ruleset ending_parts = (least-early_if_else, least-early_drop, is_last-drop)
