use Rattle.std.proofs.Common.{◌≡◌, ◌++◌, ℕ, List, OnOk, subst, append_assoc}
use Rattle.std.specs.Prelude.{codes}
use Rattle.coati_explain.specs.Accepted.{numbered}
use Rattle.coati_explain.proofs.accepted.put_counts.Goals as goal

-- three texts, one behind another
three : (old first second x y z : List ℕ) → first ≡ old ++ x → second ≡ first ++ y → second ++ z ≡ old ++ (x ++ y ++ z)
three old first second x y z one two = rw (two, one) (simp append_assoc)

pub returns : goal.returns
returns c =
    subst (λ (text : List ℕ). OnOk c.put_numbered-3.result (c.put_numbered-3.new.out.items ≡ text))
    (three _ _ _ _ _ (numbered (codes "") c.args.postings (codes " postings\n")) c.in_ok-put_numbered.ensures c.in_ok-put_numbered-2.ensures)
    c.put_numbered-3.ensures
