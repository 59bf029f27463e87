-- The words of a body that fits compute its course.
use Rattle.std.proofs.Common.{◌≡◌, ℕ, suc, ◌+◌, ◌-◌, ◌<◌, ◌≤◌, List, [], ◌∷◌, ◌++◌, length, refl, sym, ap, ◌∙◌, subst, arith, append-nil, length-append}
use Rattle.std.specs.Prelude.{true, false, Some, None, slice_index_or, replicate}
use Rattle.std.proofs.lemmas.Bool.{true≢false}
use Rattle.std.proofs.lemmas.List.{get_or_append_left, length-replicate}
use Rattle.coati_word.specs.declared.ending.Ending.{Ending}
use Rattle.coati_word.specs.declared.ending.Ending.TheVariants as ending
use Rattle.task_syntax.specs.declared.name.Name.{Name}
use Rattle.task_syntax.specs.declared.program.Program.{Program}
use Rattle.task_syntax.specs.declared.statement.Stmt.{Stmt}
use Rattle.task_syntax.specs.declared.body.Kind.{Kind}
use Rattle.task_syntax.specs.declared.body.Kind.TheVariants.{Task, Top, Bottom}
use Rattle.task_syntax.specs.Course.{Course, chain}
use Rattle.task_syntax.specs.Cost.{statements_cost, body_cost}
use Rattle.task_syntax.specs.Names.{word_count}
use Rattle.task_syntax.specs.Expressions.{Locals, no_locals, with_local}
use Rattle.task_syntax.specs.Statements.{Way, Conduct, statements, ending_of, body}
use Rattle.task_syntax.specs.Events.{with_words}
use Rattle.word_code.specs.declared.instruction.Instr.TheVariants.{Done}
use Rattle.word_code.specs.InstructionLaws.{EncodedIsDecoded}
use Rattle.word_code.specs.Machine.{State}
use Rattle.word_code.specs.Following.{Follows, EndsWith, Computes}
use Rattle.task_check.specs.Endings.{block_ends}
use Rattle.codegen.specs.Code.{AreEncodable, size, words_of}
use Rattle.codegen.specs.Scope.{Local, Scope, declare, declare_all, no_scope}
use Rattle.codegen.specs.Templates.{Compiled, statements_code, body_code, body_words, end_code}
use Rattle.codegen.specs.Fit.{Fits, opening_names, statements_names}
use Rattle.codegen.proofs.Following.{state, then_follows}
use Rattle.codegen.proofs.Placed.{At, Stands, encodable_both, stands_front, stands_back, stands_all}
use Rattle.codegen.proofs.Agreement.{names_of, Agrees, Sound, agrees_more, sound_declared}
use Rattle.codegen.proofs.Operands.{runs_at}
use Rattle.codegen.proofs.Statements.{Reached, Works, works_false}
use Rattle.codegen.proofs.Whole.{good_block}

opening-names : (params : List Name) (scope : Scope) → names_of (declare_all params scope).locals ≡ opening_names params (names_of scope.locals)
opening-names [] scope = refl
opening-names (name ∷ names) scope = opening-names names (declare name.text scope)

opening-next : (params : List Name) (scope : Scope) → (declare_all params scope).next ≡ scope.next + length params
opening-next [] scope = omega arith
opening-next (name ∷ names) scope = omega (arith, opening-next names (declare name.text scope))

nothing-sound : Sound no_scope []
nothing-sound = record {
  below = λ name slot e. absurd (let never : None ≡ Some slot = e in cc);
  apart = λ name other slot e f. absurd (let never : None ≡ Some slot = e in cc);
  loops_known = λ name h. absurd (true≢false (sym h));
}

opening-sound : (params : List Name) (scope : Scope) → Sound scope [] → Sound (declare_all params scope) []
opening-sound [] scope sound = sound
opening-sound (name ∷ names) scope sound = opening-sound names (declare name.text scope) (sound_declared scope [] name.text sound)

-- the parameters stand in the first slots
opening-agrees : (names : List Name) (values : List ℕ) (scope : Scope) (before : Locals) (ls : List ℕ) → length values ≡ length names →
    ((k : ℕ) → k < length values → slice_index_or ls (scope.next + k) 0 ≡ slice_index_or values k 0) → Agrees scope.locals before ls →
    Agrees (declare_all names scope).locals (with_words names values before) ls
opening-agrees [] values scope before ls is stand agrees = agrees
opening-agrees (name ∷ names) [] scope before ls is stand agrees = absurd (omega (arith, is))
opening-agrees (name ∷ names) (value ∷ values) scope before ls is stand agrees =
    let e : scope.next + 0 ≡ scope.next = omega arith in
    let here : slice_index_or ls scope.next 0 ≡ value = ap (λ n. slice_index_or ls n 0) (sym e) ∙ stand 0 (omega arith) in
    opening-agrees names values (declare name.text scope) (with_local name.text value before) ls (omega (arith, is))
    (λ k within. (let f : scope.next + 1 + k ≡ scope.next + suc k = omega arith in ap (λ n. slice_index_or ls n 0) f ∙ stand (suc k) (omega (arith, within))))
    (agrees_more scope before ls name.text value here agrees)

nothing-agrees : (ls : List ℕ) → Agrees no_scope.locals no_locals ls
nothing-agrees ls = record { by = λ name slot e. absurd (let never : None ≡ Some slot = e in cc) }

end_encodable : (kind : Kind) → AreEncodable (end_code kind)
end_encodable Task = tt
end_encodable Top = tt
end_encodable Bottom = (tt, tt)

module _ (words : List ℕ) (count : ℕ) where
  -- behind a body that ends
  ended : (place : ℕ) (scope : List Local) (before : Locals) (way : Way) (s : State) → Reached words count true place scope [] before way s →
      Follows words count (EndsWith words count) 0 s (ending_of way)
  ended place scope before (Way.on after) s r = absurd r
  ended place scope before (Way.out ending) s r = Follows.arrives 0 s ending r

  -- behind a bottom half
  done : (place : ℕ) (scope : List Local) (before : Locals) → At words place Done → (way : Way) (s : State) → Reached words count false place scope [] before way s →
      Follows words count (EndsWith words count) 0 s (ending_of way)
  done place scope before at (Way.on after) s r =
      Follows.arrives 0 s ending.Done (subst (λ z. EndsWith words count ending.Done z) (sym r.state_is) (record {
        instr = Done;
        runs = runs_at words count Done (state place [] r.ls) at (record { operands = omega arith; room = omega arith; word = tt });
        is_end = refl;
      }))
  done place scope before at (Way.out ending) s r = Follows.arrives 0 s ending r

  -- a body's course from its start, with a step to spare
  pub record Arrives (s : State) (cost : ℕ) (course : Course Ending) : Type 0 where
    pub limit : ℕ
    pub in_time : limit + 1 ≤ cost
    pub follows : Follows words count (EndsWith words count) limit s course

  ended_arrives : (scope : Scope) (compiled : Compiled) (cost total : ℕ) (conduct : Conduct) (ls : List ℕ) (values : Locals) → cost ≤ total →
      Works words count true scope [] compiled cost conduct → Stands words 0 (compiled.code 0) → length ls ≡ 32 → Agrees scope.locals values ls →
      Arrives (state 0 [] ls) total (chain (conduct values) ending_of)
  ended_arrives scope compiled cost total conduct ls values le w stands long agrees = record {
    limit = w.limit;
    in_time = omega (arith, w.in_time, le);
    follows =
        let place = 0 + size (compiled.code 0) in
        then_follows words count (Reached words count true place compiled.behind.locals [] values) (EndsWith words count) w.limit 0 w.limit (state 0 [] ls) (conduct values) ending_of
        (w.by 0 ls values stands long agrees) (omega arith) (ended place compiled.behind.locals values);
  }

  done_arrives : (scope : Scope) (compiled : Compiled) (cost : ℕ) (conduct : Conduct) (ls : List ℕ) (values : Locals) →
      Works words count false scope [] compiled cost conduct → Stands words 0 (compiled.code 0 ++ Done ∷ []) → length ls ≡ 32 → Agrees scope.locals values ls →
      Arrives (state 0 [] ls) (cost + 1) (chain (conduct values) ending_of)
  done_arrives scope compiled cost conduct ls values w stands long agrees = record {
    limit = w.limit;
    in_time = omega (arith, w.in_time);
    follows =
        let place = 0 + size (compiled.code 0) in
        then_follows words count (Reached words count false place compiled.behind.locals [] values) (EndsWith words count) w.limit 0 w.limit (state 0 [] ls) (conduct values) ending_of
        (w.by 0 ls values (stands_front words 0 (compiled.code 0) (Done ∷ []) stands) long agrees) (omega arith)
        (done place compiled.behind.locals values (stands_back words 0 (compiled.code 0) (Done ∷ []) stands).0);
  }

-- the code of a body that fits, by its kind
module _ (program : Program) (params : List Name) (stmts : List Stmt) where
  abbrev opening : Scope
  opening = declare_all params no_scope

  abbrev compiled : Compiled
  compiled = statements_code program stmts opening

  body_works : (kind : Kind) → Fits program kind params stmts → (words : List ℕ) →
      Works words (word_count program.vars) (block_ends stmts) opening [] compiled (statements_cost program stmts) (statements program stmts)
  body_works kind fits words =
      let good = good_block words program fits.arrays stmts in
      let locals = fits.locals in
      good.works opening [] (opening-sound params no_scope nothing-sound)
      (subst (λ known. (statements_names program stmts known).fits ≡ true) (sym (opening-names params no_scope)) fits.names)
      fits.loops fits.turns fits.gives (omega (arith, opening-next params no_scope, locals)) fits.depth

  arrives : (kind : Kind) → Fits program kind params stmts → (words ls : List ℕ) (values : Locals) → Stands words 0 (body_code program kind params stmts) → length ls ≡ 32 →
      Agrees opening.locals values ls → Arrives words (word_count program.vars) (state 0 [] ls) (body_cost program stmts kind) (body program stmts values)
  arrives Task fits words ls values stands long agrees =
      let w = subst (λ e. Works words (word_count program.vars) e opening [] compiled (statements_cost program stmts) (statements program stmts)) fits.ending (body_works Task fits words) in
      ended_arrives words (word_count program.vars) opening compiled (statements_cost program stmts) (body_cost program stmts Task) (statements program stmts) ls values (omega arith) w
      (stands_front words 0 (compiled.code 0) [] stands) long agrees
  arrives Top fits words ls values stands long agrees =
      let w = subst (λ e. Works words (word_count program.vars) e opening [] compiled (statements_cost program stmts) (statements program stmts)) fits.ending (body_works Top fits words) in
      ended_arrives words (word_count program.vars) opening compiled (statements_cost program stmts) (body_cost program stmts Top) (statements program stmts) ls values (omega arith) w
      (stands_front words 0 (compiled.code 0) [] stands) long agrees
  arrives Bottom fits words ls values stands long agrees =
      let w = works_false words (word_count program.vars) (block_ends stmts) opening [] compiled (statements_cost program stmts) (statements program stmts) (body_works Bottom fits words) in
      done_arrives words (word_count program.vars) opening compiled (statements_cost program stmts) (statements program stmts) ls values w stands long agrees

  pub encodable : (kind : Kind) → Fits program kind params stmts → AreEncodable (body_code program kind params stmts)
  encodable kind fits = encodable_both (compiled.code 0) (end_code kind) ((body_works kind fits []).encodable 0) (end_encodable kind)

  pub computes : EncodedIsDecoded → (kind : Kind) → Fits program kind params stmts → (values : List ℕ) → length values ≡ length params →
      Computes (body_words program kind params stmts) (word_count program.vars) (body_cost program stmts kind) values (body program stmts (with_words params values no_locals))
  computes round kind fits values is =
      let instrs = body_code program kind params stmts in
      let words = body_words program kind params stmts in
      let ls = values ++ replicate (32 - length values) 0 in
      let locals = fits.locals in
      let few : length values ≤ 32 = omega (arith, is, locals) in
      let long : length ls ≡ 32 = omega (arith, length-append values (replicate (32 - length values) 0), length-replicate {A = ℕ} (32 - length values) 0, few) in
      let stands : Stands words 0 instrs = subst (λ w. Stands w 0 instrs) (append-nil (words_of instrs)) (stands_all round instrs [] [] (encodable kind fits)) in
      let agrees = opening-agrees params values no_scope no_locals ls is
      (λ k within. (let e : 0 + k ≡ k = omega arith in ap (λ n. slice_index_or ls n 0) e ∙ get_or_append_left values (replicate (32 - length values) 0) 0 k within)) (nothing-agrees ls) in
      let there = arrives kind fits words ls (with_words params values no_locals) stands long agrees in
      record { limit = there.limit; in_time = there.in_time; follows = there.follows }
