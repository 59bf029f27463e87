-- What the rules of names say of the names in scope: each is used as what it stands for, and each local is known.
use Rattle.std.proofs.Common.{◌≡◌, ℕ, List, [], ◌∷◌, ◌++◌, map, refl, sym, ap, ◌∙◌, subst}
use Rattle.std.specs.Prelude.{Bool, true, false, ◌||◌, not, Option, Some, None, is_some, if◌then◌else◌}
use Rattle.std.specs.List.{AllByRecursion, filter}
use Rattle.std.specs.Map.{lookup}
use Rattle.std.specs.Str.{bytes_eq}
use Rattle.std.proofs.lemmas.Bool.{or_left, or_right, true≢false}
use Rattle.task_syntax.specs.declared.name.Name.{Name}
use Rattle.task_syntax.specs.declared.program.Program.{Program}
use Rattle.task_syntax.specs.declared.expression.Expr.{Expr}
use Rattle.task_syntax.specs.declared.expression.Place as P
use Rattle.task_syntax.specs.declared.statement.Stmt as S
use Rattle.task_syntax.specs.Names.{words_of, task_of}
use Rattle.task_check.specs.Scope.{Scope, meaning_of}
use Rattle.task_check.specs.Mentions.{Mention, place_mentions_step, statement_part_step}
use Rattle.task_check.specs.NameRules.{suits, is_twice_named, is_wrong_kind, places_where}
use Rattle.task_check.specs.Loops.{is_among}

-- a name that breaks no rule where it stands
pub record IsFine (mention : Mention) : Type 0 where
  pub new : is_twice_named mention.role mention.meaning ≡ false
  pub fitting : suits mention.role mention.meaning ≡ true

abbrev pub AllFine : List Mention → Type 0
AllFine among = AllByRecursion IsFine among

-- a test that finds no place
module _ (test : Mention → Bool) where
  abbrev places : List Mention → List ℕ
  places among = map (λ (m : Mention). m.name.at) (filter test among)

  passed-by : (m : Mention) (rest : List Mention) (finds : Bool) → map (λ (m : Mention). m.name.at) (if finds then m ∷ rest else rest) ≡ [] →
      (finds ≡ false) × (map (λ (m : Mention). m.name.at) rest ≡ [])
  passed-by m rest true none = absurd (cc)
  passed-by m rest false none = (refl, none)

  passed : (m : Mention) (more : List Mention) → places (m ∷ more) ≡ [] → (test m ≡ false) × (places more ≡ [])
  passed m more none = passed-by m (filter test more) (test m) none

suited : (fits : Bool) → not fits ≡ false → fits ≡ true
suited true fails = refl
suited false fails = sym fails

pub all_fine : (among : List Mention) → places_where is_twice_named among ≡ [] → places_where is_wrong_kind among ≡ [] → AllFine among
all_fine [] twice wrong = tt
all_fine (m ∷ more) twice wrong =
    let first = passed (λ m. is_twice_named m.role m.meaning) m more twice in
    let second = passed (λ m. is_wrong_kind m.role m.meaning) m more wrong in
    (record { new = first.0; fitting = suited (suits m.role m.meaning) second.0 }, all_fine more first.1 second.1)

-- one look-up behind another
abbrev behind : {A : Type 0} → Option A → Option A → Option A
behind None later = later
behind (Some found) later = Some found

lookup-joined : {A : Type 0} (test : List ℕ → Bool) (one two : List (List ℕ × A)) → lookup test (one ++ two) ≡ behind (lookup test one) (lookup test two)
lookup-joined test [] two = refl
lookup-joined test (first ∷ more) two =
    elim (test first.0) as (λ b. (if b then Some first.1 else lookup test (more ++ two)) ≡ behind (if b then Some first.1 else lookup test more) (lookup test two)) [
      | true ↦ refl
      | false ↦ lookup-joined test more two
    ]

-- what is told by the earlier and by the later is told by what is found
of_found : {A : Type 0} (Fact : Option A → Type 0) (Told : Type 0) (first second : Option A) → (Fact first → Told) → (Fact second → Told) → Fact (behind first second) → Told
of_found Fact Told None second one other fact = other fact
of_found Fact Told (Some found) second one other fact = one fact

fine-joined : (m : Mention) (Told : Type 0) (one two : Scope) (name : List ℕ) → m.meaning ≡ meaning_of (one ++ two) name →
    (IsFine (record m { meaning = meaning_of one name }) → Told) → (IsFine (record m { meaning = meaning_of two name }) → Told) → IsFine m → Told
fine-joined m Told one two name is first second fine =
    of_found (λ found. IsFine (record m { meaning = found })) Told (meaning_of one name) (meaning_of two name) first second
    (subst (λ found. IsFine (record m { meaning = found })) (is ∙ lookup-joined (bytes_eq name) one two) fine)

module _ (program : Program) where
  -- a name that is used and fits is a variable or a task, or a local that is known
  pub record Tells (scope : Scope) (known : List (List ℕ)) : Type 0 where
    pub plain : (name : Name) → AllFine (place_mentions_step (P.Place-F.Plain name) scope) → (is_some (words_of program name.text) || is_among known name.text) ≡ true
    pub item : (name : Name) → AllFine (place_mentions_step (P.Place-F.Item name (λ scope. [])) scope) → is_some (words_of program name.text) ≡ true
    pub next : (name : Name) → AllFine (statement_part_step (S.Stmt-F.Next name) scope).mentions → is_some (task_of program name.text) ≡ true

  pub tells-joined : (one two : Scope) (known : List (List ℕ)) → Tells one known → Tells two known → Tells (one ++ two) known
  tells-joined one two known first second = record {
    plain = λ name fine. fine-joined _ ((is_some (words_of program name.text) || is_among known name.text) ≡ true) one two name.text refl (λ f. first.plain name (f, tt)) (λ f. second.plain name (f, tt)) fine.0;
    item = λ name fine. fine-joined _ (is_some (words_of program name.text) ≡ true) one two name.text refl (λ f. first.item name (f, tt)) (λ f. second.item name (f, tt)) fine.0;
    next = λ name fine. fine-joined _ (is_some (task_of program name.text) ≡ true) one two name.text refl (λ f. first.next name (f, tt)) (λ f. second.next name (f, tt)) fine.0;
  }

  or-between : (a b c : Bool) → (a || c) ≡ true → (a || (b || c)) ≡ true
  or-between true b c h = refl
  or-between false b c h = or_right b c h

  tells-more : (scope : Scope) (known : List (List ℕ)) (name : List ℕ) → Tells scope known → Tells scope (name ∷ known)
  tells-more scope known name tells = record {
    plain = λ other fine. or-between (is_some (words_of program other.text)) (bytes_eq other.text name) (is_among known other.text) (tells.plain other fine);
    item = tells.item;
    next = tells.next;
  }

-- a name that doesn't fit
pub unfit : {Told : Type 0} → false ≡ true → Told
unfit fits = absurd (true≢false (sym fits))

-- what is told of one name that is found, and of none. The kinds of names are the checker's own, so that of the name is
-- left to be found where it is declared.
pub fine-lone : (m : Mention) (Told : Type 0) (kind : _) (here : Bool) → m.meaning ≡ (if here then Some kind else None) →
    (here ≡ true → IsFine (record m { meaning = Some kind }) → Told) → (IsFine (record m { meaning = None }) → Told) → IsFine m → Told
fine-lone m Told kind true is one none fine = one refl (subst (λ found. IsFine (record m { meaning = found })) is fine)
fine-lone m Told kind false is one none fine = none (subst (λ found. IsFine (record m { meaning = found })) is fine)

joined-in_scope : {A : Type 0} (found : Option A) (kind : A) (here among : Bool) → (among ≡ true → is_some found ≡ true) → (here || among) ≡ true →
    is_some (behind found (if here then Some kind else None)) ≡ true
joined-in_scope (Some found) kind here among scoped either = refl
joined-in_scope None kind true among scoped either = refl
joined-in_scope None kind false among scoped either = scoped either

-- the scope behind a new local, which alone it has more
abbrev pub scope_with : Name → Expr → Scope → Scope
scope_with name e scope = (statement_part_step (S.Stmt-F.Let name e) scope).scope

added : (scope : Scope) (name : Name) (e : Expr) → is_some (meaning_of scope name.text) ≡ false → scope_with name e scope ≡ scope ++ scope_with name e []
added scope name e new = rw new refl

module _ (program : Program) where
  lone-tells : (name : Name) (e : Expr) (known : List (List ℕ)) → Tells program (scope_with name e []) (name.text ∷ known)
  lone-tells name e known = record {
    plain = λ other fine. fine-lone _ ((is_some (words_of program other.text) || (bytes_eq other.text name.text || is_among known other.text)) ≡ true) _ (bytes_eq other.text name.text) refl
        (λ here f. or_right (is_some (words_of program other.text)) (bytes_eq other.text name.text || is_among known other.text) (or_left (bytes_eq other.text name.text) (is_among known other.text) here))
        (λ f. unfit f.fitting) fine.0;
    item = λ other fine. fine-lone _ (is_some (words_of program other.text) ≡ true) _ (bytes_eq other.text name.text) refl
        (λ here f. unfit f.fitting) (λ f. unfit f.fitting) fine.0;
    next = λ other fine. fine-lone _ (is_some (task_of program other.text) ≡ true) _ (bytes_eq other.text name.text) refl
        (λ here f. unfit f.fitting) (λ f. unfit f.fitting) fine.0;
  }

  -- each name in scope is told, and each local that is known is in scope
  pub record AreKnown (scope : Scope) (known : List (List ℕ)) : Type 0 where
    pub tells : Tells program scope known
    pub in_scope : (name : List ℕ) → is_among known name ≡ true → is_some (meaning_of scope name) ≡ true

  -- a new local more
  pub one_more : (scope : Scope) (known : List (List ℕ)) (name : Name) (e : Expr) → is_some (meaning_of scope name.text) ≡ false → AreKnown scope known →
      AreKnown (scope_with name e scope) (name.text ∷ known)
  one_more scope known name e new are =
      subst (λ behind. AreKnown behind (name.text ∷ known)) (sym (added scope name e new)) (record {
        tells = tells-joined program scope (scope_with name e []) (name.text ∷ known) (tells-more program scope known name.text are.tells) (lone-tells name e known);
        in_scope = λ other among.
            ap is_some (lookup-joined (bytes_eq other) scope (scope_with name e []))
            ∙ joined-in_scope (meaning_of scope other) _ (bytes_eq other name.text) (is_among known other) (are.in_scope other) among;
      })

  -- a name that isn't in scope is no local that is known
  unknown-local : (found among : Bool) → found ≡ false → (among ≡ true → found ≡ true) → not among ≡ true
  unknown-local found false new scoped = refl
  unknown-local found true new scoped = absurd (true≢false (sym (scoped refl) ∙ new))

  pub new_local : (scope : Scope) (known : List (List ℕ)) (name : List ℕ) → is_some (meaning_of scope name) ≡ false → AreKnown scope known → not (is_among known name) ≡ true
  new_local scope known name new are = unknown-local (is_some (meaning_of scope name)) (is_among known name) new (are.in_scope name)
