use Rattle.std.proofs.Common.{ap, sym, ◌∙◌, Some}
use Rattle.nv_memory.specs.Logs.{length_in, log_value, number_in, pair_value_in, seats_of}
use Rattle.nv_memory.specs.State.{state}
use Rattle.nv_memory.proofs.Looks.{found_at}
use Rattle.nv_memory.proofs.image.Image.pair.Goals as goal

pub returns-clause-found : goal.returns-clause-found
returns-clause-found c =
    let s = state c.args.self.now in
    let l = seats_of c.args.log in
    ap (log_value s c.args.log) c.number.ensures
    ∙ found_at (number_in s l) (pair_value_in s l) (length_in s l) c.args.i (c.requires.range.logs c.args.log c.requires.log).once c.requires.pair
    ∙ ap Some (sym c.value.ensures)
