-- The answers exclude each other.
use Rattle.std.proofs.Common.{◌≡◌, ◌<◌, inl, inr, ℕ, List, [], ◌∷◌, ◌++◌, length, length-append, append_assoc, append-nil, false, refl, ap, sym, ◌∙◌, subst, arith}
use Rattle.std.proofs.lemmas.Bool.{cases_lt}
use Rattle.task_syntax.specs.declared.program.Program.{Program}
use Rattle.task_parse.specs.Bars.{Scan, AreFree, is_barred, scan_from, scanned, start}
use Rattle.task_parse.specs.Faults.{Begins, Breaks, FaultAt, DeepAt}
use Rattle.task_parse.specs.Grammar.{Derives}
use Rattle.task_parse.specs.Lexeme.{Lexeme}

-- a longer beginning of the same list
pub record Longer (before longer rest : List Lexeme) : Type 0 where
  pub token : Lexeme
  pub middle : List Lexeme
  pub behind : List Lexeme
  pub rest_is : rest ≡ token ∷ behind
  pub longer_is : longer ≡ before ++ token ∷ middle

goes_on : (before longer rest others : List Lexeme) → before ++ rest ≡ longer ++ others → length before < length longer → Longer before longer rest
goes_on [] [] rest others e h = absurd (omega arith)
goes_on [] (y ∷ longer) rest others e h = record { token = y; middle = longer; behind = longer ++ others; rest_is = e; longer_is = refl }
goes_on (a ∷ before) [] rest others e h = absurd (omega arith)
goes_on (a ∷ before) (b ∷ longer) rest others e h =
    let i : before ++ rest ≡ longer ++ others = cc in
    let j : a ≡ b = cc in
    let l = goes_on before longer rest others i (omega arith) in
    record { token = l.token; middle = l.middle; behind = l.behind; rest_is = l.rest_is; longer_is = ap (λ w. b ∷ w) l.longer_is ∙ ap (λ w. w ∷ (before ++ l.token ∷ l.middle)) (sym j) }

fault_before : (list longer others : List Lexeme) (n : ℕ) → FaultAt list n → list ≡ longer ++ others → Begins longer → n < length longer → ⊥
fault_before list longer others n f e b h =
    let q : length f.before ≡ n = f.place in
    let l = goes_on f.before longer f.rest others (sym f.split ∙ e) (omega arith) in
    let k = subst (Breaks f.before) l.rest_is f.breaks in
    k (l.middle ++ b.0, b.1, subst (λ w. Derives w b.1) (ap (λ w. w ++ b.0) l.longer_is ∙ append_assoc f.before (l.token ∷ l.middle) b.0 ∙ sym (append_assoc f.before (l.token ∷ []) (l.middle ++ b.0))) b.2)

free_at : (s : Scan) (before : List Lexeme) (token : Lexeme) (more : List Lexeme) → AreFree s (before ++ token ∷ more) → is_barred (scan_from s before) token ≡ false
free_at s [] token more h = h.0
free_at s (u ∷ before) token more h = free_at (scanned s u) before token more h.1

deep_before : (list longer others : List Lexeme) (n : ℕ) → DeepAt list n → list ≡ longer ++ others → AreFree start longer → n < length longer → ⊥
deep_before list longer others n d e a h =
    let q : length d.before ≡ n = d.place in
    let l = goes_on d.before longer (d.token ∷ d.rest) others (sym d.split ∙ e) (omega arith) in
    let j : d.token ≡ l.token = (let r = l.rest_is in cc) in
    let g = free_at start d.before l.token l.middle (subst (AreFree start) l.longer_is a) in
    let b = d.barred in absurd (cc)

pub faults_agree : (list : List Lexeme) (n m : ℕ) → FaultAt list n → FaultAt list m → n ≡ m
faults_agree list n m f g =
    let p : length f.before ≡ n = f.place in
    let q : length g.before ≡ m = g.place in
    elim (cases_lt n m) [
      | inl h ↦ absurd (fault_before list g.before g.rest n f g.split g.begins (omega arith))
      | inr h ↦ elim (cases_lt m n) [
        | inl i ↦ absurd (fault_before list f.before f.rest m g f.split f.begins (omega arith))
        | inr i ↦ omega arith
      ]
    ]

pub deeps_agree : (list : List Lexeme) (n m : ℕ) → DeepAt list n → DeepAt list m → n ≡ m
deeps_agree list n m f g =
    let p : length f.before ≡ n = f.place in
    let q : length g.before ≡ m = g.place in
    elim (cases_lt n m) [
      | inl h ↦ absurd (deep_before list g.before (g.token ∷ g.rest) n f g.split g.free (omega arith))
      | inr h ↦ elim (cases_lt m n) [
        | inl i ↦ absurd (deep_before list f.before (f.token ∷ f.rest) m g f.split f.free (omega arith))
        | inr i ↦ omega arith
      ]
    ]

pub fault_or_deep : (list : List Lexeme) (n m : ℕ) → FaultAt list n → DeepAt list m → ⊥
fault_or_deep list n m f d =
    let p : length f.before ≡ n = f.place in
    let q : length d.before ≡ m = d.place in
    elim (cases_lt m n) [
      | inl h ↦ deep_before list f.before f.rest m d f.split f.free (omega arith)
      | inr h ↦ fault_before list (d.before ++ d.token ∷ []) d.rest n f (d.split ∙ sym (append_assoc d.before (d.token ∷ []) d.rest)) d.begins (omega (arith, length-append d.before (d.token ∷ [])))
    ]

pub no_deep : (list : List Lexeme) (n : ℕ) → AreFree start list → DeepAt list n → ⊥
no_deep list n a d =
    let g = free_at start d.before d.token d.rest (subst (AreFree start) d.split a) in
    let b = d.barred in absurd (cc)

no_program_at : (list before rest : List Lexeme) (p : Program) → list ≡ before ++ rest → Breaks before rest → Derives list p → ⊥
no_program_at list before [] p e b d = b p (subst (λ w. Derives w p) (e ∙ append-nil before) d)
no_program_at list before (token ∷ rest) p e b d = b (rest, p, subst (λ w. Derives w p) (e ∙ sym (append_assoc before (token ∷ []) rest)) d)

pub no_program : (list : List Lexeme) (n : ℕ) (p : Program) → FaultAt list n → Derives list p → ⊥
no_program list n p f d = no_program_at list f.before f.rest p f.split f.breaks d
