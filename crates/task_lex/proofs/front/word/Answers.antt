use Rattle.task_lex.specs.Byte.{is_name_byte}
use Rattle.task_lex.proofs.Runs.{IsName-run, begins-behind_run}
use Rattle.task_lex.proofs.front.word.Goals as goal

pub returns-in-Some-clause-stands : goal.returns-in-Some-clause-stands
returns-in-Some-clause-stands c =
    record { spelled = c.in-Some.ensures; longest = rw c.name_len-len.ensures.len (begins-behind_run is_name_byte c.args.text.now) }

pub returns-in-None-clause-stands : goal.returns-in-None-clause-stands
returns-in-None-clause-stands c = record {
  spelled = (rw c.name_len-len.ensures.len (IsName-run c.args.text.now c.requires), c.in-None.ensures);
  longest = rw c.name_len-len.ensures.len (begins-behind_run is_name_byte c.args.text.now);
}
