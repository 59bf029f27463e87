-- The code of statements: it leads on with the locals that the statement leaves, or to the ending that it has.
use Rattle.std.proofs.Common.{◌≡◌, ℕ, ◌+◌, ◌≤◌, List, [], length, refl, sym, ap, ◌∙◌, subst, arith}
use Rattle.std.specs.Prelude.{Bool, true, false, ◌&&◌}
use Rattle.task_syntax.specs.Course.{Course, chain}
use Rattle.task_syntax.specs.Expressions.{Locals}
use Rattle.task_syntax.specs.Statements.{Way, Conduct, unless_out}
use Rattle.word_code.specs.Machine.{State}
use Rattle.word_code.specs.Following.{Follows, EndsWith}
use Rattle.codegen.specs.Code.{AreEncodable, size, then_code}
use Rattle.codegen.specs.Scope.{Local, Scope}
use Rattle.codegen.specs.Templates.{Compiled, plainly}
use Rattle.task_check.specs.Loops.{is_among}
use Rattle.codegen.proofs.Following.{state, follows_to, then_follows}
use Rattle.codegen.proofs.Placed.{Stands, size-append, encodable_both, stands_front, stands_back}
use Rattle.codegen.proofs.Agreement.{Agrees}

-- the machine has come to a place with these locals, and the loops round it have kept their names
pub record Went (place : ℕ) (scope : List Local) (loops : List (List ℕ)) (before after : Locals) (s : State) : Type 0 where
  pub ls : List ℕ
  pub state_is : s ≡ state place [] ls
  pub long : length ls ≡ 32
  pub agrees : Agrees scope after ls
  pub kept : (name : List ℕ) → is_among loops name ≡ true → after name ≡ before name

-- what always ends doesn't lead on
abbrev pub Unless : Bool → Type 0 → Type 0
Unless true P = ⊥
Unless false P = P

-- the ending's own step
abbrev pub spare : Bool → ℕ
spare true = 1
spare false = 0

module _ (words : List ℕ) (count : ℕ) where
  -- where a statement has led
  abbrev pub Reached : Bool → ℕ → List Local → List (List ℕ) → Locals → Way → State → Type 0
  Reached ends place scope loops before (Way.on after) s = Unless ends (Went place scope loops before after s)
  Reached ends place scope loops before (Way.out ending) s = EndsWith words count ending s

  -- the code does what the statement does, wherever it stands; where the statement always ends, with a step to spare
  pub record Works (ends : Bool) (scope : Scope) (loops : List (List ℕ)) (compiled : Compiled) (cost : ℕ) (conduct : Conduct) : Type 0 where
    pub encodable : (p : ℕ) → AreEncodable (compiled.code p)
    pub limit : ℕ
    pub in_time : limit + spare ends ≤ cost
    pub by : (p : ℕ) (ls : List ℕ) (values : Locals) → Stands words p (compiled.code p) → length ls ≡ 32 → Agrees scope.locals values ls →
        Follows words count (Reached ends (p + size (compiled.code p)) compiled.behind.locals loops values) limit (state p [] ls) (conduct values)

  -- from one place to the same, and from the locals in between to those before
  pub reached_on : (ends : Bool) (place more : ℕ) (scope : List Local) (loops : List (List ℕ)) (before middle : Locals) (way : Way) (s : State) → place ≡ more →
      ((name : List ℕ) → is_among loops name ≡ true → middle name ≡ before name) → Reached ends place scope loops middle way s → Reached ends more scope loops before way s
  reached_on true place more scope loops before middle (Way.on after) s e kept r = absurd r
  reached_on false place more scope loops before middle (Way.on after) s e kept r = record {
    ls = r.ls;
    state_is = r.state_is ∙ ap (λ x. state x [] r.ls) e;
    long = r.long;
    agrees = r.agrees;
    kept = λ name h. r.kept name h ∙ kept name h;
  }
  reached_on ends place more scope loops before middle (Way.out ending) s e kept r = r

  -- what always ends doesn't lead on, so it leads nowhere wrong
  reached_false : (ends : Bool) (place : ℕ) (scope : List Local) (loops : List (List ℕ)) (before : Locals) (way : Way) (s : State) →
      Reached ends place scope loops before way s → Reached false place scope loops before way s
  reached_false true place scope loops before (Way.on after) s r = absurd r
  reached_false false place scope loops before (Way.on after) s r = r
  reached_false ends place scope loops before (Way.out ending) s r = r

  pub works_false : (ends : Bool) (scope : Scope) (loops : List (List ℕ)) (compiled : Compiled) (cost : ℕ) (conduct : Conduct) →
      Works ends scope loops compiled cost conduct → Works false scope loops compiled cost conduct
  works_false ends scope loops compiled cost conduct w = record {
    encodable = w.encodable;
    limit = w.limit;
    in_time = omega (arith, w.in_time);
    by = λ p ls values stands long agrees.
        let place = p + size (compiled.code p) in
        follows_to words count (Reached ends place compiled.behind.locals loops values) (Reached false place compiled.behind.locals loops values) w.limit w.limit _ _
        (w.by p ls values stands long agrees) (omega arith) (reached_false ends place compiled.behind.locals loops values);
  }

  pub works_left : (one other : Bool) (scope : Scope) (loops : List (List ℕ)) (compiled : Compiled) (cost : ℕ) (conduct : Conduct) →
      Works one scope loops compiled cost conduct → Works (one && other) scope loops compiled cost conduct
  works_left true true scope loops compiled cost conduct w = w
  works_left true false scope loops compiled cost conduct w = works_false true scope loops compiled cost conduct w
  works_left false other scope loops compiled cost conduct w = w

  pub works_right : (one other : Bool) (scope : Scope) (loops : List (List ℕ)) (compiled : Compiled) (cost : ℕ) (conduct : Conduct) →
      Works other scope loops compiled cost conduct → Works (one && other) scope loops compiled cost conduct
  works_right true other scope loops compiled cost conduct w = w
  works_right false other scope loops compiled cost conduct w = works_false other scope loops compiled cost conduct w

  pub works_in : (ends : Bool) (scope : Scope) (loops : List (List ℕ)) (compiled : Compiled) (cost more : ℕ) (conduct : Conduct) → cost ≤ more →
      Works ends scope loops compiled cost conduct → Works ends scope loops compiled more conduct
  works_in ends scope loops compiled cost more conduct le w =
      record { encodable = w.encodable; limit = w.limit; in_time = omega (arith, w.in_time, le); by = w.by }

  pub nothing_works : (scope : Scope) (loops : List (List ℕ)) → Works false scope loops (plainly (λ locals. []) scope) 0 (λ values. Course.ends (Way.on values))
  nothing_works scope loops = record {
    encodable = λ p. tt;
    limit = 0;
    in_time = omega arith;
    by = λ p ls values stands long agrees. Follows.arrives 0 _ (Way.on values) (record { ls = ls; state_is = ap (λ x. state x [] ls) (omega arith); long = long; agrees = agrees; kept = λ name h. refl });
  }

  -- one statement behind another
  abbrev joined : Compiled → Compiled → Compiled
  joined first second = record { code = then_code first.code second.code; behind = second.behind }

  rest_follows : (ends : Bool) (loops : List (List ℕ)) (first second : Compiled) (d p : ℕ) (values : Locals) (g : Conduct) →
      (w : Works ends first.behind loops second d g) → Stands words (p + size (first.code p)) (second.code (p + size (first.code p))) →
      (way : Way) (t : State) → Reached false (p + size (first.code p)) first.behind.locals loops values way t →
      Follows words count (Reached ends (p + size (then_code first.code second.code p)) second.behind.locals loops values) w.limit t (unless_out g way)
  rest_follows ends loops first second d p values g w stands (Way.on after) t r =
      let q = p + size (first.code p) in
      let e : q + size (second.code q) ≡ p + size (then_code first.code second.code p) = omega (arith, size-append (first.code p) (second.code q)) in
      subst (λ s. Follows words count (Reached ends (p + size (then_code first.code second.code p)) second.behind.locals loops values) w.limit s (g after)) (sym r.state_is)
      (follows_to words count (Reached ends (q + size (second.code q)) second.behind.locals loops after) (Reached ends (p + size (then_code first.code second.code p)) second.behind.locals loops values)
      w.limit w.limit (state q [] r.ls) (g after) (w.by q r.ls after stands r.long r.agrees) (omega arith)
      (λ way s reached. reached_on ends (q + size (second.code q)) (p + size (then_code first.code second.code p)) second.behind.locals loops values after way s e r.kept reached))
  rest_follows ends loops first second d p values g w stands (Way.out ending) t r = Follows.arrives w.limit t (Way.out ending) r

  pub then_works : (ends : Bool) (scope : Scope) (loops : List (List ℕ)) (first second : Compiled) (c d : ℕ) (f g : Conduct) →
      Works false scope loops first c f → Works ends first.behind loops second d g → Works ends scope loops (joined first second) (c + d) (λ values. chain (f values) (unless_out g))
  then_works ends scope loops first second c d f g v w = record {
    encodable = λ p. encodable_both (first.code p) (second.code (p + size (first.code p))) (v.encodable p) (w.encodable (p + size (first.code p)));
    limit = v.limit + w.limit;
    in_time = omega (arith, v.in_time, w.in_time);
    by = λ p ls values stands long agrees.
        let q = p + size (first.code p) in
        then_follows words count (Reached false q first.behind.locals loops values) (Reached ends (p + size (then_code first.code second.code p)) second.behind.locals loops values)
        v.limit w.limit (v.limit + w.limit) (state p [] ls) (f values) (unless_out g)
        (v.by p ls values (stands_front words p (first.code p) (second.code q) stands) long agrees) (omega arith)
        (rest_follows ends loops first second d p values g w (stands_back words p (first.code p) (second.code q) stands));
  }

  ended_rest : (place more : ℕ) (scope last : List Local) (loops : List (List ℕ)) (values : Locals) (g : Conduct) (way : Way) (t : State) →
      Reached true place scope loops values way t → Follows words count (Reached true more last loops values) 0 t (unless_out g way)
  ended_rest place more scope last loops values g (Way.on after) t r = absurd r
  ended_rest place more scope last loops values g (Way.out ending) t r = Follows.arrives 0 t (Way.out ending) r

  -- what follows a statement that always ends isn't come to
  pub then_ended : (scope : Scope) (loops : List (List ℕ)) (first second : Compiled) (c d : ℕ) (f g : Conduct) → ((p : ℕ) → AreEncodable (second.code p)) →
      Works true scope loops first c f → Works true scope loops (joined first second) (c + d) (λ values. chain (f values) (unless_out g))
  then_ended scope loops first second c d f g fine v = record {
    encodable = λ p. encodable_both (first.code p) (second.code (p + size (first.code p))) (v.encodable p) (fine (p + size (first.code p)));
    limit = v.limit;
    in_time = omega (arith, v.in_time);
    by = λ p ls values stands long agrees.
        let q = p + size (first.code p) in
        let end = p + size (then_code first.code second.code p) in
        then_follows words count (Reached true q first.behind.locals loops values) (Reached true end second.behind.locals loops values)
        v.limit 0 v.limit (state p [] ls) (f values) (unless_out g)
        (v.by p ls values (stands_front words p (first.code p) (second.code q) stands) long agrees) (omega arith)
        (ended_rest q end first.behind.locals second.behind.locals loops values g);
  }
