use Rattle.std.proofs.Common.{◌-◌, ◌∙◌, List, [], drop, ap}
use Rattle.std.specs.Vec.{vec_capacity, vec_len}
use Rattle.coati_word.specs.declared.reading.Reading.{Reading}
use Rattle.coati_device.specs.Waits.{Waits, read_at, without_first}
use Rattle.coati_device.proofs.Waitings.{reads_behind}
use Rattle.coati_device.proofs.waiting.Waiting.release.Goals as goal

pub returns-then-self-len : goal.returns-then-self-len
returns-then-self-len c =
    let old : Waits = record {
      events = [];
      made = drop c.self.inside.made c.self.inside.readings.items;
      room = vec_capacity c.self.inside.readings - vec_len c.self.inside.readings;
      places = vec_capacity c.self.inside.spans - vec_len c.self.inside.spans;
    } in
    ap (λ (events : List (List Reading)). record old { events = events })
    (reads_behind (read_at c.self.inside.readings.items) c.self.inside.gone
    c.self.inside.spans.items)
    ∙ ap without_first c.self.view_is
