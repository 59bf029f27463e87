use Rattle.std.proofs.Common.{sym, true≢false, subst, List, ℕ}
use Rattle.std.specs.Prelude.{Contains}
use Rattle.coati_replay.specs.Shown.{stand_of}
use Rattle.coati_replay.proofs.Clashes.{clash-word, unwritten}
use Rattle.coati_replay.proofs.aborts.is_clash_word.Goals as goal

pub returns-then-not-has : goal.returns-then-not-has
returns-then-not-has c =
    let written = c.in_ok-written.written in
    let word = c.args.aborted.now.word in (
      λ same. absurd (true≢false (sym same)),
      λ clash.
          let never : Contains written word → ⊥ = λ there.
          true≢false (sym (c.if-not-has.ensures.1 (subst (λ (words : List ℕ). Contains words word) (sym c.as_slice.ensures) there))) in
          absurd (unwritten c.written_words_are_told.ensures c.args.checked.now (stand_of c.args.run.now) c.args.aborted.now.tasks c.args.held word written c.in_ok-written.ensures never clash),
    )

pub returns : goal.returns
returns c =
    let shared = rw c.in-Some.is at c.in_ok-shared.ensures in
    let word = clash-word c.written_words_are_told.ensures c.args.checked.now (stand_of c.args.run.now) c.args.aborted.now.tasks c.args.held c.args.aborted.now.word
    c.in_ok-written.written c.in_ok-written.ensures c.in-Some.shared shared in
    let least = rw (c.as_slice-2.ensures, c.as_slice-3.ensures) at c.is_least_common.ensures in
    (λ same. word.0 (least.0 same), λ clash. least.1 (word.1 clash))
