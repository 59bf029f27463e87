-- Bodies of an accepted program are small enough, and its arrays are not empty.
use Rattle.std.proofs.Common.{◌≡◌, ℕ, ◌≤◌, ◌<◌, [], length, arith}
use Rattle.std.specs.Prelude.{false, ◌&&◌, max, nat_lt, flat_map}
use Rattle.std.specs.Cmp.{first_so}
use Rattle.std.proofs.lemmas.Bool.Decides.{nat_tests}
use Rattle.std.proofs.lemmas.List.Elements.{All-weaker}
use Rattle.task_syntax.specs.declared.program.Program.{Program}
use Rattle.task_syntax.specs.declared.program.Var.{Var}
use Rattle.task_syntax.specs.Cost.{body_cost}
use Rattle.task_syntax.specs.CodeWords.{body_words}
use Rattle.task_syntax.specs.Depth.{body_depth}
use Rattle.task_syntax.specs.LocalCount.{local_count}
use Rattle.task_syntax.specs.Names.{count_of}
use Rattle.task_syntax.specs.ProgramLaws.{HasNoEmptyArray}
use Rattle.task_syntax.specs.Saturated.{saturated}
use Rattle.task_check.specs.Accepted.{IsAccepted}
use Rattle.task_check.specs.Bodies.{BodyRead, bodies}
use Rattle.task_check.specs.Counts.{bad_var, bad_turns, length_fits, init_fits}
use Rattle.task_check.specs.Measures.{size_of}
use Rattle.task_check.proofs.NoPlaces.{first-empty, held, test-fails}
use Rattle.task_check.proofs.SizesHold.{count-some}
use Rattle.codegen.proofs.NoPlaces.{none-each, bound-holds}
use Rattle.codegen.proofs.KeptRules.{KeepsRules}

module _ (program : Program) (body : BodyRead) (keeps : KeepsRules program body) where
  pub few_locals : local_count body.statements (length body.params) ≤ 32
  few_locals = bound-holds 32 (local_count body.statements (length body.params)) body.at keeps.locals

  pub shallow : body_depth body.statements ≤ 32
  shallow = bound-holds 32 (body_depth body.statements) body.at keeps.stack

  -- the greater of two measures is small
  words-small : (cost words : ℕ) → nat_lt 50000 (saturated (max cost words)) ≡ false → words ≤ 50000
  words-small cost words small = grind (arith, nat_tests)

  pub short : body_words body.statements body.kind ≤ 50000
  short =
      words-small (body_cost program body.statements body.kind) (body_words body.statements body.kind)
      (test-fails (nat_lt 50000 (size_of program body)) (body.at, size_of program body) keeps.size)

pub no_empty_array : (program : Program) → IsAccepted program → HasNoEmptyArray program
no_empty_array program accepted =
    All-weaker (λ (var : Var). bad_var var ≡ []) (λ (var : Var). 0 < count_of var.length)
    (λ var none. count-some var.length (first_so (length_fits var.length) (init_fits var.length var.init) (held (length_fits var.length && init_fits var.length var.init) var.name.at none)))
    program.vars
    (none-each bad_var program.vars (first-empty (flat_map bad_var program.vars) (flat_map bad_turns (bodies program)) (accepted 4 (omega arith) (omega arith))))
