use Rattle.std.proofs.Common.{◌≡◌, ℕ, ap, subst, ◌∙◌, arith}
use Rattle.nv_memory.specs.declared.log.Log.TheVariants as log
use Rattle.nv_memory.specs.Logs.{entry_log, length_in, number_in}
use Rattle.nv_memory.specs.StandsFor.{head_slot}
use Rattle.nv_memory.specs.State.{state}
use Rattle.buffi_sets.specs.Conflict.{is_shared_read}
use Rattle.buffi_sets.proofs.Clashing.{none_means, none_where, some_means}
use Rattle.buffi_sets.proofs.Least.{IsLeastOf}
use Rattle.buffi_sets.proofs.conflicts.conflict.Goals as goal

pub returns : goal.returns
returns c =
    let s = state c.args.image.now in
    let attempt = c.args.attempt in
    let slot : c.slot.result ≡ head_slot s = search arith in
    let count : c.length-i-end.result ≡ length_in s (entry_log (head_slot s)) =
    c.length-i-end.ensures ∙ ap (λ (x : ℕ). length_in s (entry_log x)) slot in
    let all : c.loop-i.i ≡ length_in s (entry_log (head_slot s)) =
    (let high = c.loop-i.auto.i-end in let low = c.loop-i-test.false in omega (arith, high, low)) ∙ count in
    let log = c.requires.logs (log.Entry (head_slot s)) (let low = c.slot.ensures.low in omega (arith, slot, low)) in
    let is = subst (λ (n : ℕ). IsLeastOf (number_in s (entry_log (head_slot s))) (is_shared_read s attempt) n c.loop-i.least) all c.loop-i.invariant in
    record {
      none = (none_means s attempt log c.loop-i.least is, none_where s attempt log c.loop-i.least is);
      least = some_means s attempt log c.loop-i.least is;
    }
