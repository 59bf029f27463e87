-- The code of `give`: it pushes its words one after another.
use Rattle.std.proofs.Common.{◌≡◌, ℕ, suc, ◌+◌, ◌≤◌, List, [], ◌∷◌, ◌++◌, length, refl, sym, ap, ◌∙◌, subst, arith, append_assoc, append-nil}
use Rattle.std.specs.Prelude.{true, take, reverse}
use Rattle.std.proofs.lemmas.List.{take_all, reverse-append}
use Rattle.coati_word.specs.declared.ending.Ending.TheVariants as ending
use Rattle.task_syntax.specs.Course.{Course, chain}
use Rattle.task_syntax.specs.Expressions.{Locals}
use Rattle.task_syntax.specs.Statements.{Way}
use Rattle.task_syntax.specs.Depth.{stacked}
use Rattle.word_code.specs.declared.instruction.Instr.{Instr}
use Rattle.word_code.specs.declared.instruction.Instr.TheVariants.{Give}
use Rattle.word_code.specs.Machine.{State, Move}
use Rattle.word_code.specs.Following.{Follows, EndsWith}
use Rattle.codegen.specs.Code.{AreEncodable, size}
use Rattle.codegen.specs.Scope.{Local, Scope}
use Rattle.codegen.specs.Templates.{plainly}
use Rattle.codegen.proofs.Following.{state, then_follows}
use Rattle.codegen.proofs.Placed.{Stands, size-append, encodable_both, stands_front, stands_back}
use Rattle.codegen.proofs.Agreement.{Agrees}
use Rattle.codegen.proofs.Operands.{Pushed, Gives, runs_at}
use Rattle.codegen.proofs.Statements.{Reached, Works}

-- words pushed one after another
abbrev pub push_all : List ℕ → List ℕ → List ℕ
push_all [] st = st
push_all (value ∷ values) st = push_all values (value ∷ st)

length-push_all : (values st : List ℕ) → length (push_all values st) ≡ length values + length st
length-push_all [] st = omega arith
length-push_all (value ∷ values) st = omega (arith, length-push_all values (value ∷ st))

reverse-push_all : (values st : List ℕ) → reverse (push_all values st) ≡ reverse st ++ values
reverse-push_all [] st = sym (append-nil (reverse st))
reverse-push_all (value ∷ values) st =
    reverse-push_all values (value ∷ st) ∙ ap (λ l. l ++ values) (reverse-append (value ∷ []) st) ∙ append_assoc (reverse st) (value ∷ []) values

-- words are on the operands, and the machine at a place
pub record PushedAll (place : ℕ) (operands ls : List ℕ) (count : ℕ) (values : List ℕ) (s : State) : Type 0 where
  pub state_is : s ≡ state place (push_all values operands) ls
  pub counted : length values ≡ count

-- the operands are the words, last one first
given_back : (values : List ℕ) (count : ℕ) → length values ≡ count → reverse (take count (push_all values [])) ≡ values
given_back values count is =
    ap reverse (take_all count (push_all values []) (omega (arith, length-push_all values [], is))) ∙ reverse-push_all values []

module _ (words : List ℕ) (count : ℕ) where
  -- the code pushes the words that the course ends with
  pub record AllGive (scope : List Local) (code : List Instr) (many : ℕ) (depths : List ℕ) (cost : ℕ) (course : Locals → Course (List ℕ)) : Type 0 where
    pub encodable : AreEncodable code
    pub by : (p : ℕ) (st ls : List ℕ) (values : Locals) → Stands words p code → stacked (length st) depths ≤ 32 → Agrees scope values ls →
        Follows words count (PushedAll (p + size code) st ls many) cost (state p st ls) (course values)

  pub none_give : (scope : List Local) → AllGive scope [] 0 [] 0 (λ values. Course.ends [])
  none_give scope = record {
    encodable = tt;
    by = λ p st ls values stands fits agrees. Follows.arrives 0 _ [] (record { state_is = ap (λ x. state x st ls) (omega arith); counted = refl });
  }

  pub more_give : (scope : List Local) (first rest : List Instr) (many depth : ℕ) (depths : List ℕ) (c d : ℕ) (one : Locals → Course ℕ) (others : Locals → Course (List ℕ)) →
      Gives words count scope first depth c one → AllGive scope rest many depths d others →
      AllGive scope (first ++ rest) (suc many) (depth ∷ depths) (c + d) (λ values. chain (one values) (λ a. chain (others values) (λ more. Course.ends (a ∷ more))))
  more_give scope first rest many depth depths c d one others h k = record {
    encodable = encodable_both first rest h.encodable k.encodable;
    by = λ p st ls values stands fits agrees.
        let q = p + size first in
        let r = q + size rest in
        let end = p + size (first ++ rest) in
        let same : length st + 1 ≡ length (0 ∷ st) = omega arith in
        let deep : stacked (length (0 ∷ st)) depths ≤ 32 = subst (λ n. stacked n depths ≤ 32) same (omega (arith, fits)) in
        let Last = PushedAll end st ls (suc many) in
        then_follows words count (Pushed q st ls) Last c d (c + d) (state p st ls) (one values) (λ a. chain (others values) (λ more. Course.ends (a ∷ more)))
        (h.by p st ls values (stands_front words p first rest stands) (omega (arith, fits)) agrees) (omega arith)
        (λ a t is. subst (λ s. Follows words count Last d s (chain (others values) (λ more. Course.ends (a ∷ more)))) (sym is)
        (then_follows words count (PushedAll r (a ∷ st) ls many) Last d 0 d (state q (a ∷ st) ls) (others values) (λ more. Course.ends (a ∷ more))
        (k.by q (a ∷ st) ls values (stands_back words p first rest stands) deep agrees) (omega arith)
        (λ more t at. Follows.arrives 0 t (a ∷ more) (record {
          state_is = at.state_is ∙ ap (λ x. state x (push_all more (a ∷ st)) ls) (omega (arith, size-append first rest));
          counted = omega (arith, at.counted);
        }))));
  }

  pub give_works : (scope : Scope) (loops : List (List ℕ)) (code : List Local → List Instr) (many : ℕ) (depths : List ℕ) (cost : ℕ) (course : Locals → Course (List ℕ)) →
      many ≤ 4 → stacked 0 depths ≤ 32 → AllGive scope.locals (code scope.locals) many depths cost course →
      Works words count true scope loops (plainly (λ locals. code locals ++ Give many ∷ []) scope) (cost + 1) (λ values. chain (course values) (λ given. Course.ends (Way.out (ending.Given given))))
  give_works scope loops code many depths cost course few deep h = record {
    encodable = λ p. encodable_both (code scope.locals) (Give many ∷ []) h.encodable (few, tt);
    limit = cost;
    in_time = omega arith;
    by = λ p ls values stands long agrees.
        let pushes = code scope.locals in
        let q = p + size pushes in
        let Last = Reached words count true (p + size (pushes ++ Give many ∷ [])) scope.locals loops values in
        then_follows words count (PushedAll q [] ls many) Last cost 0 cost (state p [] ls) (course values) (λ given. Course.ends (Way.out (ending.Given given)))
        (h.by p [] ls values (stands_front words p pushes (Give many ∷ []) stands) deep agrees) (omega arith)
        (λ given t at. Follows.arrives 0 t (Way.out (ending.Given given)) (subst (λ s. EndsWith words count (ending.Given given) s) (sym at.state_is) (record {
          instr = Give many;
          runs = runs_at words count (Give many) (state q (push_all given []) ls) (stands_back words p pushes (Give many ∷ []) stands).0
              (record { operands = omega (arith, length-push_all given [], at.counted); room = omega (arith, length-push_all given [], at.counted); word = tt });
          is_end = ap (λ back. Move.ends (ending.Given back)) (given_back given many at.counted);
        })));
  }
