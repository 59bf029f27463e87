use Rattle.std.proofs.Common.{◌∙◌, ◌+◌, List, ℕ, sym, subst, ap, arith, true≢false}
use Rattle.std.specs.Prelude.{slice_index}
use Rattle.task_syntax.specs.declared.program.Program.{Program}
use Rattle.task_syntax.specs.Names.{count_of}
use Rattle.coati_replay.specs.Conditions.{AreWordsFrom}
use Rattle.coati_replay.specs.Shown.{shown_by}
use Rattle.coati_replay.proofs.Stepping.{count-there, has-word, held-is, part-is, words-differ, words-on}
use Rattle.coati_replay.proofs.judge.Judge.store.Goals as goal

pub returns-then-not-are_words_from : goal.returns-then-not-are_words_from
returns-then-not-are_words_from c =
    let var = c.var-item.result in
    let part = part-is c.args.printed.now.values c.as_slice.result.now c.loop-var.first c.from.result c.from-in-loop-var.result (count_of var.length) c.as_slice.ensures c.from.ensures
    (c.from-in-loop-var.ensures ∙ ap (λ (n : ℕ). c.loop-var.first + n) c.unwrap_or.ensures) in
    words-differ c.args.self.now.checked.now c.args.self.now.mode c.args.printed.now (shown_by c.args.progress.now) c.loop-var.number c.loop-var.first c.loop-var.var-index
    c.as_slice-var-items.result.now var (c.as_slice-var-items.ensures ∙ ap (λ (program : Program). program.vars) c.program.ensures.program) c.loop-var-test.true c.var-item.is c.loop-var.invariant.come
    (λ same. true≢false (
    sym (c.are_words_from.ensures.1 (subst (λ (values : List ℕ). AreWordsFrom (slice_index c.args.progress.now.run.store) c.loop-var.first values) (sym part) same))
    ∙ c.if-not-are_words_from.true))

pub loop-var-preserved : goal.loop-var-preserved
loop-var-preserved c =
    let var = c.var-item.result in
    let count = count_of var.length in
    let before = c.loop-var.invariant in
    let vars_are = c.as_slice-var-items.ensures ∙ ap (λ (program : Program). program.vars) c.program.ensures.program in
    let part = part-is c.args.printed.now.values c.as_slice.result.now c.loop-var.first c.from.result c.from-in-loop-var.result count c.as_slice.ensures c.from.ensures
    (c.from-in-loop-var.ensures ∙ ap (λ (n : ℕ). c.loop-var.first + n) c.unwrap_or.ensures) in
    let same = subst (λ (values : List ℕ). AreWordsFrom (slice_index c.args.progress.now.run.store) c.loop-var.first values) part (c.are_words_from.ensures.0 c.if-not-are_words_from.false) in
    let words = count-there c.args.self.now.checked.now c.args.self.now.mode c.args.printed.now (shown_by c.args.progress.now) c.loop-var.number c.loop-var.first c.loop-var.var-index
    c.as_slice-var-items.result.now var vars_are c.loop-var-test.true c.var-item.is before.come in
    let come = words-on c.args.self.now.checked.now c.args.self.now.mode c.args.printed.now (shown_by c.args.progress.now) c.loop-var.number c.loop-var.first c.loop-var.var-index
    c.as_slice-var-items.result.now var vars_are c.loop-var-test.true c.var-item.is before.come same in
    let some = has-word c.as_slice-var-items.result.now c.program.result.now.vars var c.loop-var.var-index c.as_slice-var-items.ensures c.loop-var-test.true c.var-item.is c.program.ensures.sizes.arrays in
    record {
      number_is = omega (arith, some, before.number_is, c.unwrap_or.ensures);
      words = omega (arith, words, before.words, c.unwrap_or.ensures);
      come = rw c.unwrap_or.ensures come;
    }

pub returns-then-printed-len : goal.returns-then-printed-len
returns-then-printed-len c =
    held-is c.args.self.now.checked.now c.args.self.now.mode c.args.printed.now (shown_by c.args.progress.now) c.loop-var.number c.loop-var.first c.loop-var.var-index c.as_slice-var-items.result.now
    (c.as_slice-var-items.ensures ∙ ap (λ (program : Program). program.vars) c.program.ensures.program) c.loop-var-test.false c.loop-var.invariant.come
    (omega (arith, c.if-printed-len.true, c.len.ensures, c.args.progress.now.rest.ok.0))
