use Rattle.std.proofs.Common.{◌≡◌, ◌<◌, [], sym, ◌∙◌, Some, None, rules, arith}
use Rattle.std.proofs.lemmas.Option.{get_or_from_slice_get}
use Rattle.nv_memory.specs.declared.log.Log.TheVariants as log
use Rattle.nv_memory.specs.State.{state}
use Rattle.nv_memory.specs.Logs.{index_in, length_in, number_in, tx_log}
use Rattle.nv_memory.proofs.Looks.{index_below}
use Rattle.nv_memory.proofs.Seats.{part_seat}
use Rattle.tx_buffer.proofs.Makes.{at_seat, makes_head}
use Rattle.tx_buffer.proofs.Steps.{pair_found, pair_stands}
use Rattle.tx_buffer.proofs.merge.pair_write.Goals as goal

pub returns-in-None : goal.returns-in-None
returns-in-None c =
    let m = c.args.image.now in
    let low : c.pair-word.result.0 < 256 = (let few = c.requires.sizes.few_words in let below = c.pair-word.ensures.below in omega arith) in
    let absent : index_in (state m) tx_log c.pair-word.result.0 ≡ None =
    sym (get_or_from_slice_get _ c.pair-word.result.0 _ _ (c.places-places.ensures c.pair-word.result.0 low)) ∙ c.in-None.is in
    pair_found m c.loop-i.i c.pair-word.result.0 c.pair-word.result.1 None c.pair_added.result c.pair-word.ensures.number c.pair-word.ensures.value
    absent (search rules) c.loop-i.invariant c.pair_added.ensures

pub pair-requires-clause-pair : goal.pair-requires-clause-pair
pair-requires-clause-pair c =
    let s = state c.args.image.now in
    let word = c.pair-word.result.0 in
    let low : word < 256 = (let few = c.requires.sizes.few_words in let below = c.pair-word.ensures.below in omega arith) in
    let there : index_in s tx_log word ≡ Some c.in-Some.at = sym (get_or_from_slice_get _ word _ _ (c.places-places.ensures word low)) ∙ c.in-Some.is in
    (index_below (number_in s tx_log) (length_in s tx_log) word c.in-Some.at there).0

pub value-requires-clause-pair : goal.value-requires-clause-pair
value-requires-clause-pair c =
    let s = state c.args.image.now in
    let word = c.pair-word.result.0 in
    let low : word < 256 = (let few = c.requires.sizes.few_words in let below = c.pair-word.ensures.below in omega arith) in
    let there : index_in s tx_log word ≡ Some c.in-Some.at = sym (get_or_from_slice_get _ word _ _ (c.places-places.ensures word low)) ∙ c.in-Some.is in
    let inside = (index_below (number_in s tx_log) (length_in s tx_log) word c.in-Some.at there).0 in
    let short = (c.requires.logs log.Tx tt).short in
    search rules

pub returns-then-pair-value : goal.returns-then-pair-value
returns-then-pair-value c =
    let m = c.args.image.now in
    let s = state m in
    let word = c.pair-word.result.0 in
    let at = c.in-Some.at in
    let low : word < 256 = (let few = c.requires.sizes.few_words in let below = c.pair-word.ensures.below in omega arith) in
    let there : index_in s tx_log word ≡ Some at = sym (get_or_from_slice_get _ word _ _ (c.places-places.ensures word low)) ∙ c.in-Some.is in
    let inside = (index_below (number_in s tx_log) (length_in s tx_log) word at there).0 in
    let short = (c.requires.logs log.Tx tt).short in
    let within : at < m.n = omega (arith, inside, short) in
    pair_found m c.loop-i.i word c.pair-word.result.1 (Some at) (record { at = c.value.result; word = c.pair-word.result.1 }) c.pair-word.ensures.number c.pair-word.ensures.value
    there (search rules) c.loop-i.invariant
    (makes_head m (tx_log.value at) c.value.result c.pair-word.result.1 [] (part_seat m.n m.k 4 at (omega arith) within)
    (at_seat m c.layout-layout.result c.value.result (tx_log.value at) c.layout-layout.ensures.layout c.value.ensures)
    (λ e. c.if-pair-value.true (c.pair.ensures.value ∙ e)))

pub loop-i-preserved : goal.loop-i-preserved
loop-i-preserved c =
    let s = state c.args.image.now in
    let word = c.pair-word.result.0 in
    let low : word < 256 = (let few = c.requires.sizes.few_words in let below = c.pair-word.ensures.below in omega arith) in
    let there : index_in s tx_log word ≡ Some c.in-Some.at = sym (get_or_from_slice_get _ word _ _ (c.places-places.ensures word low)) ∙ c.in-Some.is in
    pair_stands s c.loop-i.i word c.pair-word.result.1 c.in-Some.at c.pair-word.ensures.number c.pair-word.ensures.value there
    (sym c.pair.ensures.value ∙ c.if-pair-value.false) c.loop-i.invariant
