-- Each body of a program stands among the code under its number.
use Rattle.std.proofs.Common.{◌≡◌, ℕ, zero, suc, ◌+◌, ◌*◌, List, [], ◌∷◌, ◌++◌, map, length, refl, sym, ap, ◌∙◌, subst, arith}
use Rattle.std.specs.Prelude.{Option, Some, None, flat_map, slice_get}
use Rattle.std.specs.Option.{option_map}
use Rattle.std.proofs.lemmas.List.{length-map, map-append}
use Rattle.std.proofs.lemmas.List.Elements.{All-get_or}
use Rattle.std.proofs.lemmas.Option.{slice_get-map, slice_get_within, get_or_from_slice_get}
use Rattle.task_syntax.specs.declared.program.Program.{Program}
use Rattle.task_syntax.specs.declared.program.Event.{Event}
use Rattle.task_syntax.specs.declared.program.TaskDecl.{TaskDecl}
use Rattle.task_syntax.specs.declared.body.BodyId.{BodyId}
use Rattle.task_syntax.specs.declared.body.BodyId.TheVariants.{Task, Top, Bottom}
use Rattle.task_syntax.specs.Names.{tasks}
use Rattle.word_code.specs.Code.{IsInItsPart, number_of}
use Rattle.task_check.specs.Bodies.{BodyRead, task_body, top_half, bottom_half, halves, bodies}
use Rattle.task_check.proofs.Midst.{slice_get-behind}
use Rattle.codegen.specs.Bodies.{body_of, words_of_body, EachFits}
use Rattle.codegen.specs.CodeLaws.{StandsByNumber}
use Rattle.codegen.specs.Fit.{Fits}
use Rattle.codegen.specs.Templates.{task_words, half_words, program_words}

in-front : {X : Type 0} (xs ys : List X) (i : ℕ) (x : X) → slice_get xs i ≡ Some x → slice_get (xs ++ ys) i ≡ Some x
in-front [] ys i x h = absurd (let never : None ≡ Some x = h in cc)
in-front (y ∷ xs) ys zero x h = h
in-front (y ∷ xs) ys (suc i) x h = in-front xs ys i x h

-- the two halves of an event among those of all events
top-among : (events : List Event) (i : ℕ) → slice_get (flat_map halves events) (2 * i) ≡ option_map top_half (slice_get events i)
top-among [] i = refl
top-among (event ∷ events) zero = refl
top-among (event ∷ events) (suc i) =
    let e : 2 * suc i ≡ suc (suc (2 * i)) = omega arith in ap (slice_get (flat_map halves (event ∷ events))) e ∙ top-among events i

bottom-among : (events : List Event) (i : ℕ) → slice_get (flat_map halves events) (2 * i + 1) ≡ option_map bottom_half (slice_get events i)
bottom-among [] i = refl
bottom-among (event ∷ events) zero = refl
bottom-among (event ∷ events) (suc i) =
    let e : 2 * suc i + 1 ≡ suc (suc (2 * i + 1)) = omega arith in ap (slice_get (flat_map halves (event ∷ events))) e ∙ bottom-among events i

some-of : {A B : Type 0} (f : A → B) (found : Option A) (b : B) → option_map f found ≡ Some b → (a : A) × (found ≡ Some a)
some-of f None b h = absurd (let never : None ≡ Some b = h in cc)
some-of f (Some a) b h = (a, refl)

module _ (program : Program) where
  body-behind : (i : ℕ) → slice_get (bodies program) (length (tasks program) + i) ≡ slice_get (flat_map halves program.events) i
  body-behind i =
      let front = map task_body (tasks program) in
      let e : length (tasks program) + i ≡ length front + i = omega (arith, length-map (tasks program) task_body) in
      ap (slice_get (bodies program)) e ∙ slice_get-behind front (flat_map halves program.events) i

  body-found : (number : BodyId) (body : BodyRead) → body_of program number ≡ Some body → slice_get (bodies program) (number_of (length (tasks program)) number) ≡ Some body
  body-found (Task task) body h = in-front (map task_body (tasks program)) (flat_map halves program.events) task body (slice_get-map task_body (tasks program) task ∙ h)
  body-found (Top event) body h = body-behind (2 * event) ∙ top-among program.events event ∙ h
  body-found (Bottom event) body h =
      let e : length (tasks program) + 2 * event + 1 ≡ length (tasks program) + (2 * event + 1) = omega arith in
      ap (slice_get (bodies program)) e ∙ body-behind (2 * event + 1) ∙ bottom-among program.events event ∙ h

  in-its-part : (number : BodyId) (body : BodyRead) → body_of program number ≡ Some body → IsInItsPart (length (tasks program)) number
  in-its-part (Task task) body h =
      let there = some-of task_body (slice_get (tasks program) task) body h in slice_get_within (tasks program) task there.0 there.1
  in-its-part (Top event) body h = tt
  in-its-part (Bottom event) body h = tt

  -- the words of the bodies in their order
  words-in-order : (events : List Event) → map (words_of_body program) (flat_map halves events) ≡ flat_map (half_words program) events
  words-in-order [] = refl
  words-in-order (event ∷ events) = ap (λ more. words_of_body program (top_half event) ∷ words_of_body program (bottom_half event) ∷ more) (words-in-order events)

  task-words-in-order : (all : List TaskDecl) → map (words_of_body program) (map task_body all) ≡ map (task_words program) all
  task-words-in-order [] = refl
  task-words-in-order (task ∷ more) = ap (λ rest. words_of_body program (task_body task) ∷ rest) (task-words-in-order more)

  words-are : map (words_of_body program) (bodies program) ≡ program_words program
  words-are =
      map-append (words_of_body program) (map task_body (tasks program)) (flat_map halves program.events)
      ∙ ap (λ front. front ++ map (words_of_body program) (flat_map halves program.events)) (task-words-in-order (tasks program))
      ∙ ap (λ back. map (task_words program) (tasks program) ++ back) (words-in-order program.events)

  pub stands_by_number : (number : BodyId) (body : BodyRead) → body_of program number ≡ Some body → StandsByNumber program number body
  stands_by_number number body h =
      let i = number_of (length (tasks program)) number in
      let words = program_words program in
      let found : slice_get words i ≡ Some (words_of_body program body) =
      ap (λ all. slice_get all i) (sym words-are) ∙ slice_get-map (words_of_body program) (bodies program) i ∙ ap (option_map (words_of_body program)) (body-found number body h) in
      record {
        exists = record { part = in-its-part number body h; exists = slice_get_within words i (words_of_body program body) found };
        words_are = get_or_from_slice_get words i (words_of_body program body) [] found;
      }

  pub fits_by_number : EachFits program → (number : BodyId) (body : BodyRead) → body_of program number ≡ Some body → Fits program body.kind body.params body.statements
  fits_by_number each number body h =
      let i = number_of (length (tasks program)) number in
      let found = body-found number body h in
      let P = λ (b : BodyRead). Fits program b.kind b.params b.statements in
      subst P (get_or_from_slice_get (bodies program) i body body found) (All-get_or P (bodies program) i body (slice_get_within (bodies program) i body found) each)
