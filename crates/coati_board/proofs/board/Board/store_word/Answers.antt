use Rattle.std.proofs.Common.{◌∙◌, ap, sym}
use Rattle.serial_log.specs.SerialRun.{Stand, stand_of}
use Rattle.serial_log.proofs.SerialRuns.{runs_serially}
use Rattle.coati_board.specs.Board.{Whole, terms_of}
use Rattle.coati_board.proofs.board.Board.store_word.Goals as goal

pub returns-clause-store : goal.returns-clause-store
returns-clause-store c =
    let inside = c.self.inside in
    let past = inside.device.history in
    let board = c.self.invariant.2 in
    let run = runs_serially (terms_of inside.checked inside.mode) past board.sound.legal.legal in
    c.committed.ensures ∙ board.sound.fit.stands.words c.args.word
    ∙ sym (ap (λ (s : Stand). s.store c.args.word) run.stand)
    ∙ ap (λ (w : Whole). (stand_of w.program w.device.history).store c.args.word) c.self.view_is
