use Rattle.codegen.proofs.FittingBodies.{tasks_fit, tops_fit, bottoms_fit, each_fits}
use Rattle.codegen.proofs.laws.accepted_bodies_fit.Goals as goal

pub returns-clause-tasks : goal.returns-clause-tasks
returns-clause-tasks c = λ program accepted. tasks_fit program accepted (c.accepted_messages_are_short.ensures program accepted)

pub returns-clause-tops : goal.returns-clause-tops
returns-clause-tops c = λ program accepted. tops_fit program accepted (c.accepted_messages_are_short.ensures program accepted)

pub returns-clause-bottoms : goal.returns-clause-bottoms
returns-clause-bottoms c = λ program accepted. bottoms_fit program accepted (c.accepted_messages_are_short.ensures program accepted)

pub returns-clause-each : goal.returns-clause-each
returns-clause-each c = λ program accepted. each_fits program accepted (c.accepted_messages_are_short.ensures program accepted)
