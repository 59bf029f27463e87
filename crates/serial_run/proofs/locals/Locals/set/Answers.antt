use Rattle.std.proofs.Common.{◌≡◌}
use Rattle.std.specs.Prelude.{Some, None}
use Rattle.std.proofs.lemmas.Result.{on_ok_weaker}
use Rattle.serial_run.specs.Locals.{place_from}
use Rattle.serial_run.proofs.Naming.{first-is, value_among-set, value_among-push}
use Rattle.serial_run.proofs.locals.Locals.set.Goals as goal

pub returns-in-Some : goal.returns-in-Some
returns-in-Some c =
    let items = c.args.self.now.named.items in
    let found : place_from 0 items c.args.name.now ≡ Some c.in-Some.at = cc in
    let first = first-is c.args.name.now items c.in-Some.at found in
    λ i asked. value_among-set items c.in-Some.at c.index_mut.result.now c.args.name.now c.args.value asked c.index_mut.ensures.value first i

pub returns-in-None : goal.returns-in-None
returns-in-None c =
    let items = c.args.self.now.named.items in
    let absent : place_from 0 items c.args.name.now ≡ None = cc in
    on_ok_weaker c.push.result (λ pushed. rw pushed (λ i asked. value_among-push items 0 (record { name = c.args.name; value = c.args.value }) asked absent i)) c.push.ensures
