use Rattle.std.proofs.Common.{◌≡◌, ◌+◌, ◌∙◌, sym, ap, length, take, drop, arith}
use Rattle.std.proofs.lemmas.Grind.{common_steps}
use Rattle.std.proofs.lemmas.List.{drop_all, drop-drop}
use Rattle.coati_io.specs.Memory.{SourceInMemory}
use Rattle.coati_io.proofs.ConsumedBytes.{front-given}
use Rattle.coati_io.proofs.memory_source.MemSourceSource.read.Goals as goal

pub returns-clause-bytes : goal.returns-clause-bytes
returns-clause-bytes c =
    let piece : c.copy_from_slice.new.self ≡ take c.min-n.result c.args.self.now.left = grind (arith, common_steps) in
    let count : length c.copy_from_slice.new.self ≡ c.min-n.result = grind (arith, common_steps) in
    let rest : drop (c.self.inside.at + c.min-n.result) c.self.inside.bytes.items ≡ drop c.min-n.result c.args.self.now.left =
    sym (drop-drop c.min-n.result c.self.inside.at c.self.inside.bytes.items) ∙ ap (λ (s : SourceInMemory). drop c.min-n.result s.left) c.self.view_is in (
      rw rest (front-given _ _ _ _ piece count),
      λ zero some. drop_all _ c.self.inside.bytes.items (omega arith),
    )
