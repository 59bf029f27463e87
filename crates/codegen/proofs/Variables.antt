-- Where variables stand, and the code of places.
use Rattle.std.proofs.Common.{◌≡◌, ℕ, ◌+◌, ◌<◌, ◌≤◌, List, [], ◌∷◌, ◌++◌, refl, sym, subst, arith}
use Rattle.std.specs.Prelude.{Bool, true, false, ◌&&◌, ◌||◌, not, Option, Some, None, is_some}
use Rattle.std.proofs.lemmas.Bool.{true≢false}
use Rattle.task_syntax.specs.declared.program.Program.{Program}
use Rattle.task_syntax.specs.ProgramLaws.{HasNoEmptyArray}
use Rattle.task_syntax.specs.Names.{Words, words_of, word_count}
use Rattle.task_syntax.specs.Course.{Course, chain}
use Rattle.task_syntax.specs.Cost.{plain_store_cost}
use Rattle.task_syntax.specs.Depth.{read_depth, store_depth}
use Rattle.task_syntax.specs.Expressions.{Locals, Aim, plain_aim, item_aim, value_at}
use Rattle.task_syntax.specs.Statements.{assigned}
use Rattle.task_syntax.proofs.VariableWords.{StandsBelow, stands-below}
use Rattle.word_code.specs.declared.instruction.Instr.{Instr}
use Rattle.codegen.specs.Scope.{Local, Scope, slot_of}
use Rattle.codegen.specs.Templates.{PlaceCode, plain_code, item_code, plainly}
use Rattle.task_check.specs.Loops.{is_among}
use Rattle.codegen.specs.Fit.{Sparing}
use Rattle.codegen.proofs.Agreement.{names_of, Sound, slot_known}
use Rattle.codegen.proofs.Operands.{Gives, local_gives, word_gives, item_gives}
use Rattle.codegen.proofs.Statements.{Works, works_in}
use Rattle.codegen.proofs.Straight.{local_works, word_works, item_works}

pub variable_stands : (program : Program) (name : List ℕ) (variable : Words) → HasNoEmptyArray program → words_of program name ≡ Some variable →
    StandsBelow variable (word_count program.vars)
variable_stands program name variable full is =
    let all = stands-below 0 program.vars name variable full is in
    record { some = all.some; within = omega (arith, all.within) }

-- the slots of these locals are below 32
pub record Small (scope : List Local) : Type 0 where
  pub by : (name : List ℕ) (slot : ℕ) → slot_of scope name ≡ Some slot → slot < 32

pub small_slots : (scope : Scope) (loops : List (List ℕ)) → Sound scope loops → scope.next ≤ 32 → Small scope.locals
small_slots scope loops sound small = record { by = λ name slot e. (let below = sound.below name slot e in omega (arith, below, small)) }

-- a value that is stored at a place
abbrev stored : PlaceCode → List Instr → List Instr
stored place value = place.index ++ (value ++ place.store ∷ [])

module _ (words : List ℕ) (count : ℕ) where
  -- the code of a place reads it and writes it
  pub record GoodPlace (names : List (List ℕ) → Bool) (spares : Sparing) (depth : Option ℕ) (index store : ℕ) (code : List Local → PlaceCode) (aim : Locals → Course Aim) : Type 0 where
    pub read : (scope : List Local) → Small scope → names (names_of scope) ≡ true →
        Gives words count scope ((code scope).index ++ (code scope).load ∷ []) (read_depth depth) (index + 1) (λ values. chain (aim values) (value_at values))
    pub write : (scope : Scope) (loops : List (List ℕ)) → Sound scope loops → scope.next ≤ 32 → names (names_of scope.locals) ≡ true → spares loops ≡ true →
        (value : List Local → List Instr) (d c : ℕ) (course : Locals → Course ℕ) → store_depth depth d ≤ 32 → Gives words count scope.locals (value scope.locals) d c course →
        Works words count false scope loops (plainly (λ locals. stored (code locals) (value locals)) scope) (index + c + store)
        (λ values. chain (aim values) (λ a. chain (course values) (assigned values a)))

  pub plain_good : (name : List ℕ) (found : Option Words) → ((variable : Words) → found ≡ Some variable → StandsBelow variable count) →
      GoodPlace (λ known. is_some found || is_among known name) (λ loops. not (is_among loops name)) None 0 (plain_store_cost found)
      (λ locals. plain_code found (slot_of locals name)) (λ values. Course.ends (plain_aim name found))
  plain_good name None stands = record {
    read = λ scope small fits.
        let slot = slot_known scope name fits in
        subst (λ o. Gives words count scope ((plain_code None o).index ++ (plain_code None o).load ∷ []) 1 1 (λ values. chain (Course.ends (plain_aim name None)) (value_at values)))
        (sym slot.1) (local_gives words count scope name slot.0 (small.by name slot.0 slot.1) slot.1);
    write = λ scope loops sound small fits spared value d c course deep h.
        let slot = slot_known scope.locals name fits in
        let conduct = λ (values : Locals). chain (Course.ends (plain_aim name None)) (λ a. chain (course values) (assigned values a)) in
        subst (λ o. Works words count false scope loops (plainly (λ locals. stored (plain_code None o) (value scope.locals)) scope) (0 + c + 1) conduct)
        (sym slot.1)
        (works_in words count false scope loops (plainly (λ locals. stored (plain_code None (Some slot.0)) (value scope.locals)) scope) (c + 1) (0 + c + 1) conduct (omega arith)
        (local_works words count scope loops name slot.0 (value scope.locals) d c course sound slot.1 spared small deep h));
  }
  plain_good name (Some variable) stands = let there = stands variable refl in record {
    read = λ scope small fits. word_gives words count scope name variable (let some = there.some in let within = there.within in omega (arith, some, within));
    write = λ scope loops sound small fits spared value d c course deep h.
        let conduct = λ (values : Locals). chain (Course.ends (plain_aim name (Some variable))) (λ a. chain (course values) (assigned values a)) in
        works_in words count false scope loops (plainly (λ locals. stored (plain_code (Some variable) None) (value scope.locals)) scope) (c + 3) (0 + c + 3) conduct (omega arith)
        (word_works words count scope loops name variable (value scope.locals) d c course (let some = there.some in let within = there.within in omega (arith, some, within)) deep h);
  }

  pub item_good : (name : List ℕ) (found : Option Words) (names : List (List ℕ) → Bool) (spares : Sparing) (index : List Local → List Instr) (depth cost : ℕ) (course : Locals → Course ℕ) →
      ((variable : Words) → found ≡ Some variable → StandsBelow variable count) →
      ((scope : List Local) → Small scope → names (names_of scope) ≡ true → Gives words count scope (index scope) depth cost course) →
      GoodPlace (λ known. is_some found && names known) spares (Some depth) cost 3
      (λ locals. item_code (index locals) found) (λ values. chain (course values) (λ i. Course.ends (item_aim name i found)))
  item_good name None names spares index depth cost course stands gives = record {
    read = λ scope small fits. absurd (true≢false (sym fits));
    write = λ scope loops sound small fits spared value d c other deep h. absurd (true≢false (sym fits));
  }
  item_good name (Some variable) names spares index depth cost course stands gives = let there = stands variable refl in record {
    read = λ scope small fits. item_gives words count scope name variable (index scope) depth cost course there.some there.within (gives scope small fits);
    write = λ scope loops sound small fits spared value d c other deep h.
        item_works words count scope loops name variable (index scope.locals) (value scope.locals) depth d cost c course other there.some there.within (omega (arith, deep)) (omega (arith, deep))
        (gives scope.locals (small_slots scope loops sound small) fits) h;
  }
