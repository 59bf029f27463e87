use Rattle.std.proofs.Common.{sym, ◌∙◌, subst}
use Rattle.codegen.specs.Code.{AreEncodable}
use Rattle.codegen.proofs.emitter.body_words.Goals as goal

pub encode_all-requires : goal.encode_all-requires
encode_all-requires c =
    subst AreEncodable (sym (c.deref.ensures.value ∙ c.in_ok-code.ensures))
    (c.fitting_code_is_encodable.ensures c.args.checked.now c.args.kind c.args.params.now c.args.body.now c.requires)
