-- Courses under way: what is left of a course goes on as the whole does.
use Rattle.std.proofs.Common.{◌≡◌, ℕ, List, [], ◌∷◌, ◌++◌, refl, sym, ap, subst}
use Rattle.task_syntax.specs.Course.{Course, chain, Store, put, Access, accesses, answer, after}
use Rattle.task_syntax.specs.CourseLaws.{AgreeOnShared, ChainsOn, GoesOn}
use Rattle.task_syntax.specs.UnderWay.{HasReached}
use Rattle.task_syntax.proofs.Frames.{agree_behind_read, agree_behind_write, agrees_on_read}

path-reached : {A : Type 0} (whole : Course A) (base : Store) (done : List Access) (rest : Course A) →
    HasReached whole base done rest → accesses whole base ≡ done ++ accesses rest (after done base)
path-reached whole base done rest (HasReached.starts _ _) = refl
path-reached whole base done rest (HasReached.reads word go_on _ more _ come) =
    ap (λ (later : List Access). Access.read word (base word) ∷ later) (path-reached (go_on (base word)) base more rest come)
path-reached whole base done rest (HasReached.writes word value next _ more _ come) =
    ap (λ (later : List Access). Access.wrote word value ∷ later) (path-reached next (put word value base) more rest come)

result-reached : {A : Type 0} (whole : Course A) (base : Store) (done : List Access) (rest : Course A) →
    HasReached whole base done rest → answer whole base ≡ answer rest (after done base)
result-reached whole base done rest (HasReached.starts _ _) = refl
result-reached whole base done rest (HasReached.reads word go_on _ more _ come) = result-reached (go_on (base word)) base more rest come
result-reached whole base done rest (HasReached.writes word value next _ more _ come) = result-reached next (put word value base) more rest come

-- what is left comes further, and so does the whole
further-reached : {A : Type 0} (whole : Course A) (base : Store) (done : List Access) (rest : Course A) (later : List Access) (last : Course A) →
    HasReached whole base done rest → HasReached rest (after done base) later last → HasReached whole base (done ++ later) last
further-reached whole base done rest later last (HasReached.starts _ _) goes_on = goes_on
further-reached whole base done rest later last (HasReached.reads word go_on _ more _ come) goes_on =
    HasReached.reads word go_on base (more ++ later) last (further-reached (go_on (base word)) base more rest later last come goes_on)
further-reached whole base done rest later last (HasReached.writes word value next _ more _ come) goes_on =
    HasReached.writes word value next base (more ++ later) last (further-reached next (put word value base) more rest later last come goes_on)

-- each course comes to its end
end-reached : {A : Type 0} (course : Course A) (base : Store) → HasReached course base (accesses course base) (Course.ends (answer course base))
end-reached (Course.ends result) base = HasReached.starts (Course.ends result) base
end-reached (Course.reads word go_on) base =
    HasReached.reads word go_on base (accesses (go_on (base word)) base) (Course.ends (answer (go_on (base word)) base))
    (end-reached (go_on (base word)) base)
end-reached (Course.writes word value next) base =
    let store = put word value base in
    HasReached.writes word value next base (accesses next store) (Course.ends (answer next store)) (end-reached next store)

reached-elsewhere : {A : Type 0} (whole : Course A) (base other : Store) (done : List Access) (rest : Course A) →
    AgreeOnShared done base other → HasReached whole base done rest → HasReached whole other done rest
reached-elsewhere whole base other done rest agree (HasReached.starts _ _) = HasReached.starts whole other
reached-elsewhere whole base other done rest agree (HasReached.reads word go_on _ more _ come) =
    let here : base word ≡ other word = agrees_on_read word (base word) more base other agree in
    let there = reached-elsewhere (go_on (base word)) base other more rest (agree_behind_read word (base word) more base other agree) come in
    subst (λ (value : ℕ). HasReached (Course.reads word go_on) other (Access.read word value ∷ more) rest) (sym here)
    (HasReached.reads word go_on other more rest (subst (λ (value : ℕ). HasReached (go_on value) other more rest) here there))
reached-elsewhere whole base other done rest agree (HasReached.writes word value next _ more _ come) =
    HasReached.writes word value next other more rest
    (reached-elsewhere next (put word value base) (put word value other) more rest (agree_behind_write word value more base other agree) come)

pub goes-on : {A : Type 0} (whole : Course A) (base : Store) (done : List Access) (rest : Course A) → HasReached whole base done rest → GoesOn A whole base done rest
goes-on {A} whole base done rest come = record {
  path = path-reached whole base done rest come;
  result = result-reached whole base done rest come;
  behind_read = λ word go_on is.
      let store = after done base in
      let value = store word in
      further-reached whole base done rest (Access.read word value ∷ []) (go_on value) come
      (subst (λ (course : Course A). HasReached course store (Access.read word value ∷ []) (go_on value)) (sym is)
      (HasReached.reads word go_on store [] (go_on value) (HasReached.starts (go_on value) store)));
  behind_write = λ word value next is.
      let store = after done base in
      further-reached whole base done rest (Access.wrote word value ∷ []) next come
      (subst (λ (course : Course A). HasReached course store (Access.wrote word value ∷ []) next) (sym is)
      (HasReached.writes word value next store [] next (HasReached.starts next (put word value store))));
  behind_more = λ more last goes_on. further-reached whole base done rest more last come goes_on;
  at_the_end = end-reached whole base;
  on_others = λ other agree. reached-elsewhere whole base other done rest agree come;
}

inside-chain : {A B : Type 0} (first : Course A) (next : A → Course B) (base : Store) (done : List Access) (rest : Course A) →
    HasReached first base done rest → HasReached (chain first next) base done (chain rest next)
inside-chain first next base done rest (HasReached.starts _ _) = HasReached.starts (chain first next) base
inside-chain first next base done rest (HasReached.reads word go_on _ more _ come) =
    HasReached.reads word (λ value. chain (go_on value) next) base more (chain rest next) (inside-chain (go_on (base word)) next base more rest come)
inside-chain first next base done rest (HasReached.writes word value course _ more _ come) =
    HasReached.writes word value (chain course next) base more (chain rest next) (inside-chain course next (put word value base) more rest come)

pub chains-on : {A B : Type 0} (first : Course A) (next : A → Course B) (base : Store) → ChainsOn A B first next base
chains-on first next base = record {
  inside = λ done rest come. inside-chain first next base done rest come;
  behind = inside-chain first next base (accesses first base) (Course.ends (answer first base)) (end-reached first base);
}
