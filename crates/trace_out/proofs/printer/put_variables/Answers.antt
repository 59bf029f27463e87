use Rattle.std.proofs.Common.{◌≡◌, ◌<◌, ◌≤◌, List, length, get_or, ap, subst, arith, rules}
use Rattle.std.proofs.lemmas.List.{drop_all}
use Rattle.coati_io.proofs.Sending.{rest_less, rest_none}
use Rattle.serial_log.specs.SerialRun.{stand_of}
use Rattle.task_syntax.specs.declared.program.Var.{Var}
use Rattle.trace_out.specs.BoardText.{variable_texts}
use Rattle.trace_out.proofs.Values.{one_variable_more, one_variables_words}
use Rattle.trace_out.proofs.printer.put_variables.Goals as goal

pub loop-var-preserved : goal.loop-var-preserved
loop-var-preserved g c =
    let vars = c.args.board.now.program.vars in
    let store = (stand_of c.args.board.now.program c.args.board.now.device.history).store in
    let index = c.loop-var.var-index in
    let count = c.unwrap_or-first.result in
    let var = c.var-item.result in
    let items : c.as_slice-var-items.result.now ≡ vars = search rules in
    let within : index < length vars = subst (λ (list : List Var). index < length list) items c.loop-var-test.true in
    let item : var ≡ get_or vars index var = subst (λ (list : List Var). var ≡ get_or list index var) items c.var-item.is in
    record {
      fits = omega (arith, c.loop-var.invariant.fits, one_variables_words vars index count var within item c.unwrap_or-first.ensures);
      told = rest_less c.loop-var.invariant.told
          (one_variable_more vars index c.loop-var.first count store var within item c.unwrap_or-first.ensures)
          c.put_variable.ensures;
    }

pub returns : goal.returns
returns g c =
    let vars = c.args.board.now.program.vars in
    let store = (stand_of c.args.board.now.program c.args.board.now.device.history).store in
    let index = c.loop-var.var-index in
    let items : c.as_slice-var-items.result.now ≡ vars = search rules in
    let over : length vars ≤ index = subst (λ (list : List Var). length list ≤ index) items c.loop-var-test.false in
    rest_none c.loop-var.invariant.told (ap (λ (left : List Var). variable_texts c.loop-var.first left store) (drop_all index vars over))
