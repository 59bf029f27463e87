use Rattle.std.proofs.Common.{◌≡◌, ◌<◌, ◌+◌, ℕ, rules, subst}
use Rattle.coati_board.specs.Board.{left_of}
use Rattle.booth.specs.Acts.{IsPost, one_if, told_to}
use Rattle.booth.specs.Views.{Counted, Place, is_accepted, is_full, is_lost}
use Rattle.booth.proofs.Keeping.{Raised, is_post, is_told, post_keeps, room_for_one}
use Rattle.booth.proofs.booth.Booth.post.Goals as goal

pub post_next-answer-requires-clause-spare : goal.post_next-answer-requires-clause-spare
post_next-answer-requires-clause-spare g c =
    let some : 0 < left_of c.self.inside.board c.seat.inside.device = search rules in
    room_for_one c.self.inside.board c.seat.inside.device c.self.invariant.0.room
    c.seat.invariant.0 some

pub invariant_of-self : goal.invariant_of-self
invariant_of-self g c =
    let old = c.self.inside in
    let device = c.device-device.result in
    let is : device ≡ c.seat.inside.device = search rules in
    let answer = c.post_next-answer.result in
    let some : 0 < left_of old.board device = search rules in
    let told : Raised old.board device c.post_next-answer.new.self answer = record {
      low = c.device-device.ensures.below;
      next = c.post_next-answer.ensures.next;
      same = c.post_next-answer.ensures.raise.same;
      still_open = c.post_next-answer.ensures.open;
      steps = c.post_next-answer.ensures.steps;
      spare = c.post_next-answer.ensures.spare;
    } in
    let accepted : c.add.new.self.total ≡ old.accepted.total + one_if (is_accepted answer) =
    search rules in
    let full : c.add-2.new.self.total ≡ old.full.total + one_if (is_full answer) = search rules in
    let lost : c.add-3.new.self.total ≡ old.lost.total + one_if (is_lost answer) = search rules in (
      post_keeps _ _ _ _ old.ended c.self.invariant.0 device c.post_next-answer.new.self answer
          c.add.new.self.total c.add-2.new.self.total c.add-3.new.self.total some told accepted full
          lost,
      c.self.invariant.1,
    )

pub returns-clause-some : goal.returns-clause-some
returns-clause-some g c =
    let old = c.self.inside in
    let seat = c.seat.inside in
    let device = c.device-device.result in
    let answer = c.post_next-answer.result in
    let was : Counted = record {
      board = old.board;
      accepted = old.accepted.total;
      full = old.full.total;
      lost = old.lost.total;
      steps = old.steps.total;
      ends = old.ends.total;
    } in
    let place : Place = record {
      device = seat.device;
      accepted = seat.accepted.amount;
      full = seat.full.amount;
      lost = seat.lost.amount;
    } in
    let now : Counted = record was {
      board = c.post_next-answer.new.self;
      accepted = c.add.new.self.total;
      full = c.add-2.new.self.total;
      lost = c.add-3.new.self.total;
    } in
    let told_now : Place = record place {
      accepted = c.add.new.share.amount;
      full = c.add-2.new.share.amount;
      lost = c.add-3.new.share.amount;
    } in
    let some : 0 < left_of old.board device = search rules in
    let accepted : c.add.new.self.total ≡ old.accepted.total + one_if (is_accepted answer) =
    search rules in
    let full : c.add-2.new.self.total ≡ old.full.total + one_if (is_full answer) = search rules in
    let lost : c.add-3.new.self.total ≡ old.lost.total + one_if (is_lost answer) = search rules in
    let own_accepted : c.add.new.share.amount
    ≡ seat.accepted.amount + one_if (is_accepted answer) = search rules in
    let own_full : c.add-2.new.share.amount ≡ seat.full.amount + one_if (is_full answer) =
    search rules in
    let own_lost : c.add-3.new.share.amount ≡ seat.lost.amount + one_if (is_lost answer) =
    search rules in
    let post = is_post device was c.post_next-answer.new.self answer c.add.new.self.total
    c.add-2.new.self.total c.add-3.new.self.total some c.post_next-answer.ensures.raise accepted
    full lost in
    let told = is_told place answer c.add.new.share.amount c.add-2.new.share.amount
    c.add-3.new.share.amount own_accepted own_full own_lost in (
      subst (λ (d : ℕ). IsPost d c.args.self.now now answer) c.device-device.ensures.device
          (subst (λ (w : Counted). IsPost device w now answer) c.self.view_is post),
      subst (λ (p : Place). told_now ≡ told_to p answer) c.seat.view_is told,
    )
