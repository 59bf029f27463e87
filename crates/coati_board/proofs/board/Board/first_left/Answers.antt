use Rattle.std.proofs.Common.{◌≡◌, ◌∙◌, ap}
use Rattle.std.specs.Prelude.{List, ℕ, length, slice_get}
use Rattle.serial_log.specs.declared.script.Posting.{Posting}
use Rattle.coati_board.specs.Board.{Whole, first_left}
use Rattle.coati_board.specs.Cursors.{first_place}
use Rattle.coati_board.proofs.FirstLeft.{none_is_answered, some_is_left}
use Rattle.coati_board.proofs.board.Board.first_left.Goals as goal
use Rattle.coati_board.proofs.board.Board.first_left.Goals.{After-posting_there}

-- it stands at the place that is kept
there : (c : After-posting_there) →
    c.posting_there.result ≡ slice_get c.self.inside.script.postings
    (first_place c.self.inside.device.cursors (length c.self.inside.script.postings))
there c =
    c.posting_there.ensures
    ∙ ap (λ (postings : List Posting). slice_get postings c.self.inside.upcoming) c.as_slice.ensures
    ∙ ap (slice_get c.self.inside.script.postings) c.self.invariant.3

pub returns-clause-first : goal.returns-clause-first
returns-clause-first c =
    there (goal.at.returns-clause-first c).After-posting_there ∙ ap first_left c.self.view_is

pub returns-clause-some : goal.returns-clause-some
returns-clause-some c =
    let inside = c.self.inside in
    some_is_left inside.script.postings inside.device.history.marks inside.device.cursors
    c.args.self.now.device.cursors c.posting_there.result
    (ap (λ (w : Whole). w.device.cursors) c.self.view_is) c.self.invariant.2.cursors
    (there (goal.at.returns-clause-some c).After-posting_there)

pub returns-clause-none : goal.returns-clause-none
returns-clause-none c =
    let inside = c.self.inside in
    none_is_answered inside.script.postings inside.device.history.marks inside.device.cursors
    c.args.self.now.device.cursors c.posting_there.result
    (ap (λ (w : Whole). w.device.cursors) c.self.view_is) c.self.invariant.2.cursors
    (there (goal.at.returns-clause-none c).After-posting_there)
