use Rattle.std.proofs.Common.{◌≡◌, ◌∙◌, ℕ, ◌≤◌, [], subst, sym}
use Rattle.coati_word.specs.declared.mode.Mode.{Mode}
use Rattle.serial_log.specs.declared.script.Script.{Script}
use Rattle.serial_log.specs.Legal.{IsLegalHistory}
use Rattle.task_syntax.specs.declared.program.Program.{Program}
use Rattle.coati_board.specs.Board.{IsOpened, terms_of}
use Rattle.executor.specs.InTurn.{ArePostingsInTurn, turns_of}
use Rattle.coati_top.proofs.Running.{can_run, closed_by, ended_by, opened_with_room}
use Rattle.coati_top.proofs.drive.run_script.Goals as goal

pub run_scripted-end-requires : goal.run_scripted-end-requires
run_scripted-end-requires c =
    let made = c.in_ok-reserve.ensures in
    let steps = c.greatest_steps-steps.ensures in
    record {
      fresh = can_run c.args.checked c.args.mode c.args.script c.reserve.new.self
          (opened_with_room c.args.checked c.args.mode c.args.script c.in_ok-board.board c.reserve.new.self
          c.in_ok-board.ensures made.run made.same)
          (subst (λ (room : ℕ). room ≤ c.reserve.new.self.device.spare) steps made.room);
    }

pub returns-clause-run : goal.returns-clause-run
returns-clause-run c =
    let run = c.run_scripted-end.new.board in
    let start = c.reserve.new.self in
    let made = c.in_ok-reserve.ensures in
    let ran = c.run_scripted-end.ensures in
    let end = c.run_scripted-end.result in
    let counted = c.executor_steps-steps.ensures in
    let told = c.history-history.ensures in
    let first = opened_with_room c.args.checked c.args.mode c.args.script c.in_ok-board.board start
    c.in_ok-board.ensures made.run made.same in
    let program : run.program ≡ c.args.checked = ran.run.program ∙ first.program_is in
    let script : run.script ≡ c.args.script = ran.run.script ∙ first.script_is in
    let mode : run.mode ≡ c.args.mode = ran.run.mode ∙ first.mode_is in
    record {
      mode_is = mode;
      start = start;
      opened = subst (λ (p : Program). IsOpened p c.args.mode run.script start) (sym program)
          (subst (λ (s : Script). IsOpened c.args.checked c.args.mode s start) (sym script) first);
      end = end;
      ran = ran.exact;
      closed = closed_by start run end ran.exact;
      ended = ended_by end run
          (λ is. subst (λ (s : Script). (turns_of s.postings run.device.history.marks).left ≡ []) (sym ran.run.script) (ran.all is))
          ran.limit;
      limit = subst (λ (n : ℕ). n ≤ run.script.limit) counted.steps counted.within;
      in_turn = subst (λ (s : Script). ArePostingsInTurn s.postings run.device.history.marks) (sym ran.run.script) ran.turns;
      legal = subst (λ (m : Mode). IsLegalHistory (terms_of run.program m) run.device.history) mode told.legal;
      serial = (c.legal_histories_keep_each_fact.ensures (terms_of run.program run.mode) run.device.history told.legal).serial;
      stands = told.stands;
      boots = told.boots;
      split = λ is. told.split (mode ∙ is);
      buffi = λ is. told.buffi (mode ∙ is);
      aborts = told.aborts;
      progress = told.progress;
    }
