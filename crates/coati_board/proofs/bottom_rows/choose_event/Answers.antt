use Rattle.std.proofs.Common.{◌≡◌, ◌<◌, ap, refl, subst}
use Rattle.std.specs.Prelude.{ℕ}
use Rattle.bottom_half.specs.declared.job.Job.{Job}
use Rattle.nv_memory.specs.declared.log.Log.TheVariants as log
use Rattle.nv_memory.specs.Logs.{log_length, seats_of}
use Rattle.nv_memory.specs.StandsFor.{head_slot}
use Rattle.nv_memory.specs.State.{Writes, set_to, state}
use Rattle.coati_device.specs.Rows.IsRow.{empties_entry}
use Rattle.coati_board.proofs.bottom_rows.choose_event.Goals as goal

pub returns-in-Some : goal.returns-in-Some
returns-in-Some c =
    let image = c.args.device.now.image in
    let slot : c.args.job.slot ≡ head_slot (state image) =
    ap (λ (job : Job). job.slot) c.requires.job in
    let some : 0 < log_length (state image) (log.Entry (head_slot (state image))) =
    subst (λ (slot_ : ℕ). 0 < log_length (state image) (log.Entry slot_)) slot
    c.in-Some.ensures.0 in
    let writes : Writes image (set_to (seats_of (log.Entry (head_slot (state image)))).length 0)
    c.in-Some.write =
    subst (λ (slot_ : ℕ). Writes image (set_to (seats_of (log.Entry slot_)).length 0)
    c.in-Some.write) slot c.in-Some.ensures.1 in
    empties_entry c.put.new.image c.requires.chooses some (c.put.ensures _ writes).written refl
