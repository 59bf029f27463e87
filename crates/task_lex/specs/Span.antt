-- Where tokens stand in their source.
use Rattle.std.specs.Prelude.{ℕ, ◌≤◌, ◌<◌, List, [], ◌∷◌, length, slice_range}
use Rattle.task_lex.specs.Token.{Spells}
use Rattle.task_lex.specs.declared.token.Token.{Token}

-- from a place on the tokens stand one behind another, none is empty, and the last ends within the
-- length
abbrev pub AreInOrder : ℕ → List Token → ℕ → Type 0
AreInOrder place [] len = place ≤ len
AreInOrder place (token ∷ tokens) len =
    (place ≤ token.start) × (token.start < token.end) × AreInOrder token.end tokens len

-- the token stands within the source, and what stands there is its text
pub record IsTokenOf (source : List ℕ) (token : Token) : Type 0 where
  pub some : token.start < token.end
  pub within : token.end ≤ length source
  pub spelled : Spells token.kind (slice_range source token.start token.end)
