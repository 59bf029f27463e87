use Rattle.std.proofs.Common.{◌+◌, ◌++◌, List, drop, length, ◌∙◌, ap}
use Rattle.coati_word.specs.declared.reading.Reading.{Reading}
use Rattle.task_syntax.specs.Units.{place_after}
use Rattle.serial_run.proofs.Following.{follows-task, strays-task}
use Rattle.serial_run.proofs.follow.follow_task.Goals as goal

pub returns-then-not-begin_with : goal.returns-then-not-begin_with
returns-then-not-begin_with c =
    λ rest is. strays-task c.args.reads.now c.as_slice-told.result.now _ rest c.args.read c.begin_with.result (c.as_slice-told.ensures ∙ c.in_ok-store.ensures.readings_told)
    c.if-not-begin_with.true c.begin_with.ensures is

pub returns : goal.returns
returns c =
    let told = c.as_slice-told.result.now in
    let made = follows-task c.args.reads.now told c.args.read c.begin_with.result c.requires.read c.if-not-begin_with.false c.begin_with.ensures in
    record {
      led = record {
        store_after = c.in_ok-store.ensures.store_after;
        words = c.in_ok-store.ensures.words;
        place_is = c.place_after-place.ensures ∙ ap place_after c.in_ok-store.ensures.ending_told;
      };
      within = made.0;
      made = made.1 ∙ ap (λ (first : List Reading). first ++ drop (c.args.read + length told) c.args.reads.now) (c.as_slice-told.ensures ∙ c.in_ok-store.ensures.readings_told);
    }
