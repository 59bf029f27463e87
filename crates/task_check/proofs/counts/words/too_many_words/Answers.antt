use Rattle.std.proofs.Common.{◌≡◌, ◌∙◌, ap, arith, get_or, length, ◌<◌, ◌+◌}
use Rattle.std.specs.Prelude.{min, nat_le}
use Rattle.task_syntax.specs.Names.{count_of}
use Rattle.task_check.specs.Least.{least, lesser, unless}
use Rattle.task_check.specs.Counts.{too_many_words_places}
use Rattle.task_check.proofs.Places.{is_least}
use Rattle.task_check.proofs.WordCounts.{found-from, found-past}
use Rattle.task_check.proofs.counts.words.too_many_words.Goals as goal

pub loop-var-preserved : goal.loop-var-preserved
loop-var-preserved c =
    let vars = c.args.program.now.vars in
    let i = c.loop-var.var-index in
    let var = c.var-item.result in
    let same : length c.as_slice-var-items.result.now ≡ length vars = ap length c.as_slice-var-items.ensures in
    let is : var ≡ get_or vars i var = c.var-item.is ∙ ap (λ list. get_or list i var) c.as_slice-var-items.ensures in
    let within : i < length vars = omega arith in
    let words = c.saturating_add-words.result in
    let next : words ≡ min (c.loop-var.words + count_of var.length) 4294967295 = omega (arith, c.saturating_add-words.ensures, c.from.ensures, c.unwrap_or.ensures) in
    let now : c.lesser-found.result ≡ lesser c.loop-var.found (least (unless (nat_le words 256) var.name.at)) =
    c.lesser-found.ensures ∙ ap (lesser c.loop-var.found) (c.place_unless.ensures ∙ ap (λ limit. least (unless (nat_le words limit) var.name.at)) c.from-in-loop-var.ensures) in
    found-from vars i var c.loop-var.words words c.loop-var.found c.lesser-found.result within is c.loop-var.invariant next now

pub returns : goal.returns
returns c =
    let vars = c.args.program.now.vars in
    let same : length c.as_slice-var-items.result.now ≡ length vars = ap length c.as_slice-var-items.ensures in
    is_least (too_many_words_places c.args.program.now) c.loop-var.found (found-past vars c.loop-var.var-index c.loop-var.words c.loop-var.found (omega arith) c.loop-var.invariant)
