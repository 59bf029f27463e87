use Rattle.std.proofs.Common.{sym, ◌∙◌, rules}
use Rattle.nv_memory.specs.declared.write.Write.{Write}
use Rattle.nv_memory.specs.State.{state}
use Rattle.tx_buffer.proofs.HeaderWalk.{header_found, header_low, header_read, header_stands}
use Rattle.tx_buffer.proofs.headers.header_write.Goals as goal

pub returns-then-get-write : goal.returns-then-get-write
returns-then-get-write c =
    let none : Write = record { at = 0; word = 0 } in
    let m = c.args.image.now in
    let writes = c.args.writes.now in
    let i = c.loop-write.write-index in
    header_found m writes i none (search rules) c.loop-write.invariant.0 c.loop-write.invariant.1
    (λ e. c.if-get-write.true (c.get.ensures ∙ header_read m writes i none (search rules) c.loop-write.invariant.0 ∙ e))

pub loop-write-preserved : goal.loop-write-preserved
loop-write-preserved c =
    let none : Write = record { at = 0; word = 0 } in
    let m = c.args.image.now in
    let writes = c.args.writes.now in
    let i = c.loop-write.write-index in (
      (header_low writes i none (search rules) c.loop-write.invariant.0).1,
      header_stands (state m) writes i none (search rules) c.loop-write.invariant.1
          (sym (header_read m writes i none (search rules) c.loop-write.invariant.0) ∙ sym c.get.ensures ∙ c.if-get-write.false),
    )
