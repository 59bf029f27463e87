-- What a reading did that was to read one part of a text, a record for each way in which that is
-- said. `reads` tells the tree that the grammar gives what was read, `gives` what became of the
-- parts that were to come, or which fault was told, and `shrinks` that fewer tokens are left. They
-- are for contracts inside this crate.
use Rattle.std.specs.Prelude.{◌≡◌, ◌<◌, ◌≤◌, List, [], ◌∷◌, ◌++◌, length, Result, IfOk, OnOk}
use Rattle.task_parse.specs.Grammar.{Form, Reads}
use Rattle.task_parse.specs.Lexeme.{Lexeme}
use Rattle.task_parse.specs.Machine.{Gives, Part, Spot}
use Rattle.task_parse.specs.declared.fault.ParseFault.{ParseFault}

-- it read one token, and gave what that says
pub record HasToken {X : Type 0} (token : X →
    Lexeme) (part : Part) (old new : Spot) (result : Result X ParseFault) : Type 0 where
  pub reads : IfOk result (λ x. old.rest ≡ token x ∷ new.rest)
  pub gives : Gives old (part ∷ []) new (λ _. []) result
  pub shrinks : OnOk result (length new.rest < length old.rest)

-- it read the part whose tree it gave, one token at least
pub record HasRead {X : Type 0} (form : X → Form) (parts : List Part) (old new : Spot)
    (result : Result X ParseFault) : Type 0 where
  pub reads : IfOk result (λ x. Reads (form x) old.rest new.rest)
  pub gives : Gives old parts new (λ _. []) result
  pub shrinks : OnOk result (length new.rest < length old.rest)

-- it read the part whose tree it gave, one token at least, and there the parts behind are to come
pub record HasReadUpTo {X : Type 0} (form : X → Form) (parts : List Part) (behind : X →
    List Part) (old new : Spot) (result : Result X ParseFault) : Type 0 where
  pub reads : IfOk result (λ x. Reads (form x) old.rest new.rest)
  pub gives : Gives old parts new behind result
  pub shrinks : OnOk result (length new.rest < length old.rest)

-- it read what was left of the part whose tree it gave, where the tokens before had been read, and
-- the tokens behind the part
pub record HasReadWithin {X : Type 0} (before behind : List Lexeme) (form : X →
    Form) (parts : List Part) (old new : Spot) (result : Result X ParseFault) : Type 0 where
  pub reads : IfOk result (λ x. Reads (form x) (before ++ old.rest) (behind ++ new.rest))
  pub gives : Gives old parts new (λ _. []) result
  pub shrinks : OnOk result (length new.rest < length old.rest)

-- it read the part whose tree it gave, maybe of no token
pub record MayRead {X : Type 0} (form : X → Form) (parts : List Part) (old new : Spot)
    (result : Result X ParseFault) : Type 0 where
  pub reads : IfOk result (λ x. Reads (form x) old.rest new.rest)
  pub gives : Gives old parts new (λ _. []) result
  pub shrinks : OnOk result (length new.rest ≤ length old.rest)
