-- Bodies that are too large: in their locals, in the operand words that they need, or in their
-- steps and words of code.
use Rattle.std.specs.Prelude.{ℕ, ◌≡◌, ◌==◌, List, [], ◌∷◌, map, find, flat_map, length, max, nat_lt, Option, Some, None, if◌then◌else◌}
use Rattle.task_syntax.specs.declared.program.Program.{Program}
use Rattle.task_syntax.specs.Cost.{body_cost}
use Rattle.task_syntax.specs.CodeWords.{body_words}
use Rattle.task_syntax.specs.Depth.{body_depth}
use Rattle.task_syntax.specs.LocalCount.{local_count}
use Rattle.task_syntax.specs.Saturated.{saturated}
use Rattle.task_check.specs.Bodies.{BodyRead, bodies}
use Rattle.task_check.specs.Least.{IsLeast}

-- the place, where the number is above a bound
abbrev pub above : ℕ → ℕ → ℕ → List ℕ
above bound number at = if nat_lt bound number then at ∷ [] else []

-- a body with more than 32 locals, those that it takes among them
abbrev pub too_many_locals : BodyRead → List ℕ
too_many_locals body = above 32 (local_count body.statements (length body.params)) body.at

-- rule 14: where a body has more than 32 locals
abbrev pub too_many_locals_places : Program → List ℕ
too_many_locals_places program = flat_map too_many_locals (bodies program)

-- a body that needs more than 32 operand words
abbrev pub too_deep_stack : BodyRead → List ℕ
too_deep_stack body = above 32 (body_depth body.statements) body.at

-- rule 15: where a body needs more than 32 operand words
abbrev pub too_deep_stack_places : Program → List ℕ
too_deep_stack_places program = flat_map too_deep_stack (bodies program)

-- the greater of a body's cost and its words of code, as far as 32 bits tell
abbrev pub size_of : Program → BodyRead → ℕ
size_of program body = saturated (max (body_cost program body.statements body.kind)
    (body_words body.statements body.kind))

-- a body that is larger than 50,000, with its size
abbrev pub too_long : Program → BodyRead → List (ℕ × ℕ)
too_long program body = if nat_lt 50000 (size_of program body) then (body.at, size_of program body)
    ∷ [] else []

-- rule 16: where a body is larger than 50,000, with its size
abbrev pub too_long_places : Program → List (ℕ × ℕ)
too_long_places program = flat_map (too_long program) (bodies program)

-- the first at the least place
pub record IsFirstLeast (sizes : List (ℕ × ℕ)) (found : ℕ × ℕ) : Type 0 where
  pub place : IsLeast (map (λ (size : ℕ × ℕ). size.0) sizes) found.0
  pub first : find (λ (size : ℕ × ℕ). size.0 == found.0) sizes ≡ Some found

-- the first at the least place, where there is one
abbrev pub IsFirstLeastOf : List (ℕ × ℕ) → Option (ℕ × ℕ) → Type 0
IsFirstLeastOf sizes None = sizes ≡ []
IsFirstLeastOf sizes (Some found) = IsFirstLeast sizes found

-- of two the one at the lesser place, and the former of two at one place
abbrev pub nearer : Option (ℕ × ℕ) → Option (ℕ × ℕ) → Option (ℕ × ℕ)
nearer None other = other
nearer (Some one) None = Some one
nearer (Some one) (Some other) = if nat_lt other.0 one.0 then Some other else Some one

-- the first at the least place, computed
abbrev pub first_least : List (ℕ × ℕ) → Option (ℕ × ℕ)
first_least [] = None
first_least (size ∷ more) = nearer (Some size) (first_least more)
