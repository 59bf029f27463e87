use Rattle.std.proofs.Common.{◌∙◌, arith, length-drop, length-take}
use Rattle.std.proofs.lemmas.List.{take_rest}
use Rattle.coati_io.proofs.AppendedBytes.{appended_more}
use Rattle.coati_io.proofs.writing.write_all.Goals as goal

pub loop-sent-preserved : goal.loop-sent-preserved
loop-sent-preserved g c = record {
  within = omega (arith, c.in-Ok.ensures.bound);
  appended = appended_more _ _ _ _ _ _ c.loop-sent.invariant.appended (rw take_rest at c.in-Ok.ensures.bytes);
  later = omega (arith, c.loop-sent.invariant.later, c.write.ensures.cause.later);
  counted = omega (arith, c.loop-sent.invariant.counted, c.in-Ok.ensures.counted, c.in-Ok.ensures.bound);
  steady = λ enough.
      let before = c.loop-sent.invariant.steady enough in
      let now = c.in-Ok.ensures.steady (simp (length-take, length-drop) (omega (arith, before))) in
      (now.0.same ∙ before.0, omega (arith, before.1, now.1));
}
