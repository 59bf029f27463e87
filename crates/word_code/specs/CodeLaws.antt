-- Where bodies stand.
use Rattle.std.specs.Prelude.{◌≡◌, ◌+◌, length, slice_range}
use Rattle.std.specs.List.{concat}
use Rattle.task_syntax.specs.declared.body.BodyId.{BodyId}
use Rattle.word_code.specs.Code.{Bodies, HasBody, body_words, entry_of}

-- the words of a body stand from its entry on
abbrev pub BodiesStandAtTheirEntry : Type 0
BodiesStandAtTheirEntry =
    (code : Bodies) (body : BodyId) → HasBody code body →
    slice_range (concat code.bodies) (entry_of code body) (entry_of code body
    + length (body_words code body)) ≡ body_words code body
