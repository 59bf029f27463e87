use Rattle.std.proofs.Common.{◌≡◌, ◌≢◌, ◌-◌, Bool, true, false, ap, arith, refl, rules, subst}
use Rattle.std.specs.Prelude.{IsFalse, IsTrue}
use Rattle.coati_device.specs.declared.device.Device.{Device}
use Rattle.coati_device.specs.declared.hand.Hand.{Hand}
use Rattle.coati_device.specs.declared.hand.Hand.TheVariants.{Over}
use Rattle.coati_device.specs.Raises.{IsHandStep}
use Rattle.coati_device.specs.Raises.Handles.{loses, takes}
use Rattle.coati_device.specs.Raises.Ran.{begins, goes_on}
use Rattle.coati_device.proofs.Messages.{messages_fit}
use Rattle.coati_board.proofs.Handling.{CanGoOn, HasTime, goes_anywhere, has_time}
use Rattle.coati_board.proofs.handler.run.Goals as goal
use Rattle.coati_board.proofs.handler.run.Goals.{After-is_over}

pub loop-hand-init : goal.loop-hand-init
loop-hand-init c = begins

going : (c : After-is_over) →
    CanGoOn c.args.code.now c.args.event c.args.device.now c.loop-hand.hand c.loop-hand.device
going c =
    goes_anywhere (record {
      joins = c.accesses_join_up.ensures;
      courses = c.courses_under_way_go_on.ensures.bodies;
      lasts = c.last_writes_tell_the_store.ensures;
      follows = c.following_goes_on.ensures;
      decodes = c.instructions_are_their_words.ensures.nothing_else;
      bottoms_compute = c.accepted_programs_compute_their_courses.ensures.bottoms;
      messages = messages_fit;
      stores = c.stores_set_the_value.ensures;
      behind = c.handlers_read_behind_held_events.ensures;
      first = c.parts_fill_the_slot.ensures.first;
      parts = c.parts_fill_the_slot.ensures.parts;
      all_parts = c.parts_fill_the_slot.ensures.all;
      logs = c.the_tail_entry_is_free.ensures.logs;
      free = c.the_tail_entry_is_free.ensures.free;
      adds = c.accepts_add_the_newest.ensures;
    }) c.accepted_programs_compute_their_courses.ensures.tops c.bodies_stand_by_number.ensures
    c.args.code.now c.args.event c.args.first
    c.args.device.now c.requires c.loop-hand.hand c.loop-hand.device c.loop-hand.invariant

timely : (c : After-is_over) → HasTime c.args.device.now c.loop-hand.device c.step.new.device
timely c =
    has_time c.args.code.now c.args.event c.args.device.now c.loop-hand.hand c.step.new.hand
    c.loop-hand.device c.step.new.device c.step.ensures
    (going c)

pub step-requires : goal.step-requires
step-requires c =
    (goes_anywhere (record {
      joins = c.accesses_join_up.ensures;
      courses = c.courses_under_way_go_on.ensures.bodies;
      lasts = c.last_writes_tell_the_store.ensures;
      follows = c.following_goes_on.ensures;
      decodes = c.instructions_are_their_words.ensures.nothing_else;
      bottoms_compute = c.accepted_programs_compute_their_courses.ensures.bottoms;
      messages = messages_fit;
      stores = c.stores_set_the_value.ensures;
      behind = c.handlers_read_behind_held_events.ensures;
      first = c.parts_fill_the_slot.ensures.first;
      parts = c.parts_fill_the_slot.ensures.parts;
      all_parts = c.parts_fill_the_slot.ensures.all;
      logs = c.the_tail_entry_is_free.ensures.logs;
      free = c.the_tail_entry_is_free.ensures.free;
      adds = c.accepts_add_the_newest.ensures;
    }) c.accepted_programs_compute_their_courses.ensures.tops c.bodies_stand_by_number.ensures
    c.args.code.now c.args.event c.args.first
    c.args.device.now c.requires c.loop-hand.hand c.loop-hand.device c.loop-hand.invariant).step

pub returns-then-is_over-clause-leaves : goal.returns-then-is_over-clause-leaves
returns-then-is_over-clause-leaves c =
    (timely (goal.at.returns-then-is_over-clause-leaves c).After-is_over).leaves

pub returns-then-is_over-clause-handles : goal.returns-then-is_over-clause-handles
returns-then-is_over-clause-handles c =
    takes c.loop-hand.hand c.loop-hand.device c.loop-hand.invariant
    (subst (λ (next : Hand). IsHandStep c.args.code.now c.args.event c.loop-hand.hand
    c.loop-hand.device next c.step.new.device)
    (c.is_over.ensures.0 c.if-is_over.true) c.step.ensures) refl

not_over : (c : After-is_over) → IsFalse c.is_over.result → c.step.new.hand ≢ Over
not_over c false_ is = both c.is_over.result false_ (c.is_over.ensures.1 is)
  where
    both : (b : Bool) → IsFalse b → IsTrue b → ⊥
    both true false_ true_ = cc
    both false false_ true_ = cc

pub overflow_add-result : goal.overflow_add-result
overflow_add-result c = let boots =
    (timely (goal.at.overflow_add-result c).After-is_over).leaves.boots in omega (arith, boots)

pub returns-then-device-eq1-clause-leaves : goal.returns-then-device-eq1-clause-leaves
returns-then-device-eq1-clause-leaves c =
    (timely (goal.at.returns-then-device-eq1-clause-leaves c).After-is_over).leaves

pub returns-then-device-eq1-clause-handles : goal.returns-then-device-eq1-clause-handles
returns-then-device-eq1-clause-handles c =
    loses c.loop-hand.hand c.step.new.hand c.loop-hand.device c.loop-hand.invariant
    c.step.ensures
    (not_over (goal.at.returns-then-device-eq1-clause-handles c).After-is_over c.if-is_over.false)
    (search rules) refl

pub pass-requires-clause-time : goal.pass-requires-clause-time
pass-requires-clause-time c =
    (timely (goal.at.pass-requires-clause-time c).After-is_over).leaves.time

pub pass-requires-clause-spare : goal.pass-requires-clause-spare
pass-requires-clause-spare c =
    (timely (goal.at.pass-requires-clause-spare c).After-is_over).leaves.spare

pub loop-hand-smaller : goal.loop-hand-smaller
loop-hand-smaller c =
    let time = timely (goal.at.loop-hand-smaller c).After-is_over in
    let same = time.same in
    let some = time.leaves.spare in
    let less : c.pass.new.device.spare ≡ c.step.new.device.spare - 1 =
    ap (λ (d : Device). d.spare) c.pass.ensures in
    omega (arith, same, some, less)

pub loop-hand-preserved : goal.loop-hand-preserved
loop-hand-preserved c =
    rw c.pass.ensures (goes_on c.loop-hand.invariant c.step.ensures
    (not_over (goal.at.loop-hand-preserved c).After-is_over c.if-is_over.false) (search rules))
