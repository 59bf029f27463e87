use Rattle.codegen.proofs.Bodies.{encodable}
use Rattle.codegen.proofs.laws.fitting_code_is_encodable.Goals as goal

pub returns : goal.returns
returns c = λ program kind params stmts fits. encodable program params stmts kind fits
