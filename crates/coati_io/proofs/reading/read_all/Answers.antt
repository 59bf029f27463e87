use Rattle.std.proofs.Common.{◌≡◌, ◌+◌, refl, rules, arith, length-take}
use Rattle.std.proofs.KnownBytes.{Consumes-kept}
use Rattle.std.proofs.lemmas.Result.{err_from_is_err_and}
use Rattle.coati_io.specs.declared.reading.ReadEnd.TheVariants.{OutOfMemory}
use Rattle.coati_io.proofs.ConsumedBytes.{given_more, at_most-exactly, told-given, told-not_given}
use Rattle.coati_io.proofs.reading.read_all.Goals as goal

-- the last read gave byte `max + 1`
pub returns-in-Ok-clause-stopped : goal.returns-in-Ok-clause-stopped
returns-in-Ok-clause-stopped g c =
    given_more _ _ _ c.loop-bytes.bytes.items c.read.new.buf c.in-Ok.n _ c.loop-bytes.invariant.consumed c.in-Ok.ensures.bytes.0 (omega (arith, c.in-Ok.ensures.bound))
    (omega (arith, c.in-Ok.ensures.bound, length-take (c.min-asked.result + 1) c.loop-bytes.piece))

pub returns-in-Ok-clause-too_large : goal.returns-in-Ok-clause-too_large
returns-in-Ok-clause-too_large g c = told-given _ _ _ _ refl (returns-in-Ok-clause-stopped g c)

-- there was no memory for the last piece, with which there are at most `max` bytes
pub returns-in_err-map_err-in-Ok-2-clause-stopped : goal.returns-in_err-map_err-in-Ok-2-clause-stopped
returns-in_err-map_err-in-Ok-2-clause-stopped g c =
    let p = err_from_is_err_and c.from_residual.result c.from_residual.ensures.1 in
    let wanted : c.in_err-map_err-in-Ok-2.field-0.0 ≡ OutOfMemory = search rules in
    rw (p.1, p.2, wanted)
    (at_most-exactly _ _ _ _
    (given_more _ _ _ c.loop-bytes.bytes.items c.read.new.buf c.in-Ok-2.n _ c.loop-bytes.invariant.consumed c.in-Ok-2.ensures.bytes.0 (omega (arith, c.in-Ok-2.ensures.bound)) refl)
    (omega arith))

pub returns-in_err-map_err-in-Ok-2-clause-too_large : goal.returns-in_err-map_err-in-Ok-2-clause-too_large
returns-in_err-map_err-in-Ok-2-clause-too_large g c =
    let p = err_from_is_err_and c.from_residual.result c.from_residual.ensures.1 in
    let wanted : c.in_err-map_err-in-Ok-2.field-0.0 ≡ OutOfMemory = search rules in
    told-not_given _ _ c.args.max _
    (λ e. cc (p.1, p.2, wanted))
    (at_most-exactly _ _ _ _
    (given_more _ _ _ c.loop-bytes.bytes.items c.read.new.buf c.in-Ok-2.n _ c.loop-bytes.invariant.consumed c.in-Ok-2.ensures.bytes.0 (omega (arith, c.in-Ok-2.ensures.bound)) refl)
    (omega arith))

pub returns-in-Err-clause-too_large : goal.returns-in-Err-clause-too_large
returns-in-Err-clause-too_large g c = told-not_given _ _ c.args.max _ (λ e. cc) (record {
  bytes = c.loop-bytes.bytes.items;
  consumed = Consumes-kept _ _ _ _ c.loop-bytes.invariant.consumed c.in-Err.ensures.bytes;
  count = omega arith;
})
