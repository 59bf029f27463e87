use Rattle.trace_out.proofs.SerialTexts.{run-serial}
use Rattle.trace_out.proofs.laws.legal_runs_show_serial_texts.Goals as goal

pub returns : goal.returns
returns c terms past before at end legal ended =
    run-serial terms past before at end legal ended (c.legal_histories_keep_each_fact.ensures terms past legal).stand
