-- The bodies of a program by their numbers, and what they cost.
use Rattle.std.proofs.Common.{◌≡◌, ℕ, List, [], ◌∷◌, length, refl, sym, ap, subst, ◌∙◌}
use Rattle.std.specs.Prelude.{Option, Some, None, slice_get, unwrap_or}
use Rattle.std.specs.Option.{option_map, option_map_or}
use Rattle.std.proofs.lemmas.Option.{none-some}
use Rattle.task_syntax.specs.declared.body.BodyId.{BodyId}
use Rattle.task_syntax.specs.declared.body.BodyId.TheVariants.{Task, Top, Bottom}
use Rattle.task_syntax.specs.declared.program.Event.{Event}
use Rattle.task_syntax.specs.declared.program.Program.{Program}
use Rattle.task_syntax.specs.declared.program.TaskDecl.{TaskDecl}
use Rattle.task_syntax.specs.Cost.{body_cost}
use Rattle.task_syntax.specs.Names.{tasks, word_count}
use Rattle.task_cost.specs.Bodies.{cost_of, task_cost, top_cost, bottom_cost}
use Rattle.word_code.specs.Code.{Bodies, body_words}
use Rattle.word_code.specs.Following.{Computes}
use Rattle.task_check.specs.Bodies.{BodyRead, task_body, top_half, bottom_half}
use Rattle.codegen.specs.Bodies.{EachFits, body_of, program_code}
use Rattle.codegen.specs.CodeLaws.{FittingProgramsComputeTheirCourses, course_on}
use Rattle.worked_bodies.specs.Bodies.{HasBodyFor}

pub task_has_body : (program : Program) (number : ℕ) (task : TaskDecl) → slice_get (tasks program) number ≡ Some task → HasBodyFor program (Task number) []
task_has_body program number task is = record { body = task_body task; is_body = ap (option_map task_body) is; one_each = refl }

pub top_has_body : (program : Program) (number argument : ℕ) (event : Event) → slice_get program.events number ≡ Some event → HasBodyFor program (Top number) (argument ∷ [])
top_has_body program number argument event is = record { body = top_half event; is_body = ap (option_map top_half) is; one_each = refl }

pub bottom_has_body : (program : Program) (number : ℕ) (event : Event) (message : List ℕ) → slice_get program.events number ≡ Some event →
    length message ≡ length event.params → HasBodyFor program (Bottom number) message
bottom_has_body program number event message is same = record { body = bottom_half event; is_body = ap (option_map bottom_half) is; one_each = same }

-- what a body costs
abbrev cost_in : Program → BodyRead → ℕ
cost_in program body = body_cost program body.statements body.kind

-- it is found by the body's number too
found_cost : {A : Type 0} (program : Program) (as_body : A → BodyRead) (cost : A → ℕ) → ((found : A) → cost found ≡ cost_in program (as_body found)) →
    (found : Option A) (body : BodyRead) → option_map as_body found ≡ Some body → option_map_or cost found 0 ≡ cost_in program body
found_cost program as_body cost same None body is = absurd (none-some body is)
found_cost program as_body cost same (Some found) body is = same found ∙ ap (λ (o : Option BodyRead). unwrap_or (option_map (cost_in program) o) 0) is

pub cost_is : (program : Program) (number : BodyId) (body : BodyRead) → body_of program number ≡ Some body → cost_of program number ≡ cost_in program body
cost_is program (Task number) body is = found_cost program task_body (task_cost program) (λ found. refl) (slice_get (tasks program) number) body is
cost_is program (Top number) body is = found_cost program top_half (top_cost program) (λ found. refl) (slice_get program.events number) body is
cost_is program (Bottom number) body is = found_cost program bottom_half (bottom_cost program) (λ found. refl) (slice_get program.events number) body is

-- a body computes its course within what is found by its number
pub computes_by_number : FittingProgramsComputeTheirCourses → (program : Program) → EachFits program → (number : BodyId) (params : List ℕ) (body : BodyRead) →
    body_of program number ≡ Some body → length params ≡ length body.params →
    Computes (body_words (program_code program) number) (word_count program.vars) (cost_of program number) params (course_on program body.params body.statements params)
computes_by_number law program fits number params body is one_each =
    subst (λ (cost : ℕ). Computes (body_words (program_code program) number) (word_count program.vars) cost params (course_on program body.params body.statements params))
    (sym (cost_is program number body is)) (law program fits number body is params one_each)

-- so it is of the code that is the program's, on as many words as it has
pub computes_there : FittingProgramsComputeTheirCourses → (program : Program) → EachFits program → (code : Bodies) (number : BodyId) (params : List ℕ) (body : BodyRead)
    (cost count : ℕ) → code ≡ program_code program → cost ≡ cost_of program number → count ≡ word_count program.vars →
    body_of program number ≡ Some body → length params ≡ length body.params →
    Computes (body_words code number) count cost params (course_on program body.params body.statements params)
computes_there law program fits code number params body cost count code_is cost_is count_is is one_each =
    let course = course_on program body.params body.statements params in
    subst (λ (c : Bodies). Computes (body_words c number) count cost params course) (sym code_is)
    (subst (λ (n : ℕ). Computes (body_words (program_code program) number) n cost params course) (sym count_is)
    (subst (λ (n : ℕ). Computes (body_words (program_code program) number) (word_count program.vars) n params course) (sym cost_is)
    (computes_by_number law program fits number params body is one_each)))

-- a number has one body
pub same_params : (program : Program) (number : BodyId) (params : List ℕ) (body : BodyRead) → HasBodyFor program number params → body_of program number ≡ Some body →
    length params ≡ length body.params
same_params program number params body has is =
    has.one_each ∙ ap (λ (o : Option BodyRead). unwrap_or (option_map (λ (b : BodyRead). length b.params) o) 0) (sym has.is_body ∙ is)
