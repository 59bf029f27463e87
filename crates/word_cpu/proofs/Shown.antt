-- A step on a view is a step on what the view shows.
use Rattle.std.proofs.Common.{◌≡◌, ◌+◌, ℕ, List, Bool, true, false, length, refl, sym, ap, subst, ◌∙◌}
use Rattle.std.specs.Prelude.{Some, None, slice_index, slice_set}
use Rattle.word_code.specs.Code.{Bodies}
use Rattle.word_code.specs.Machine.{Move, State}
use Rattle.word_cpu.specs.Meaning.{Meaning, Shows}
use Rattle.word_cpu.specs.declared.cpu.Cpu.{Cpu}
use Rattle.word_cpu.specs.declared.turn.Turn.{Turn}
use Rattle.word_cpu.specs.declared.turn.Turn.TheVariants.{Went, Storing, Ended}
use Rattle.word_cpu.specs.Turning.{CanStep, HasLoaded, HasStored, IsBegun, IsStep, IsStoring, Makes, StoresPart}
use Rattle.word_cpu.specs.UnderWay.{IsReady}

module _ {V W : Type 0} (meaning : Meaning V) (shown : Meaning W) (show : V → W) (shows : Shows meaning shown show)
    (before after : Cpu) (old new : V) where
  words_stay : meaning.words new ≡ meaning.words old → shown.words (show new) ≡ shown.words (show old)
  words_stay same = sym (shows.words new) ∙ same ∙ shows.words old

  shown_load : (turn : Turn) (word : ℕ) (next : ℕ → State) → HasLoaded meaning word next before after old new turn →
      HasLoaded shown word next before after (show old) (show new) turn
  shown_load turn word next made = record {
    answer = made.answer ∙ ap (λ (words : List ℕ). Went (Some (record { word = word; value = slice_index words word }))) (shows.words old);
    state = made.state ∙ ap (λ (words : List ℕ). next (slice_index words word)) (shows.words old);
    part = made.part;
    words_stay = words_stay made.words_stay;
    view = shows.loaded old new word made.view;
  }

  shown_part : (turn : Turn) (word value : ℕ) (next : State) → StoresPart meaning word value next before after old new turn →
      StoresPart shown word value next before after (show old) (show new) turn
  shown_part (Went None) word value next made = record {
    state = made.state;
    part = made.part;
    words_are = sym (shows.words new) ∙ made.words_are ∙ ap (λ (words : List ℕ). slice_set words word value) (shows.words old);
    view = shows.stored old new word value before.part true made.view;
  }
  shown_part (Went (Some reading)) word value next made = absurd made
  shown_part Storing word value next made = record {
    state = made.state;
    part = made.part;
    few = made.few;
    words_stay = words_stay made.words_stay;
    is_begun = (shows.begun new word value (before.part + 1)).0 made.is_begun;
    view = shows.stored old new word value before.part false made.view;
  }
  shown_part (Ended ending) word value next made = absurd made

  shown_move : (turn : Turn) (move : Move) → Makes meaning before after old new turn move → Makes shown before after (show old) (show new) turn move
  shown_move turn (Move.goes next) made = record { answer = made.answer; state = made.state; part = made.part; view = ap show made.view }
  shown_move turn (Move.loads word next) made = shown_load turn word next made
  shown_move turn (Move.stores word value next) made = shown_part turn word value next made
  shown_move turn (Move.ends ending) made = record { answer = made.answer; state = made.state; part = made.part; view = ap show made.view }

  shown_begun : (part : ℕ) (move : Move) → IsBegun (meaning.begun new) part move → IsBegun (shown.begun (show new)) part move
  shown_begun part (Move.goes next) is = is
  shown_begun part (Move.loads word next) is = is
  shown_begun part (Move.stores word value next) is = λ some. (shows.begun new word value part).0 (is some)
  shown_begun part (Move.ends ending) is = is

  pub shown_step : (code : Bodies) (turn : Turn) → IsStep meaning code before after old new turn → IsStep shown code before after (show old) (show new) turn
  shown_step code turn step = record {
    body = step.body;
    makes = λ instr starts. shown_move turn _ (step.makes instr starts);
    is_begun = λ instr starts. shown_begun after.part _ (step.is_begun instr starts);
  }

-- a machine that is ready on what a view shows is ready on the view
module _ {V W : Type 0} (meaning : Meaning V) (shown : Meaning W) (show : V → W) (shows : Shows meaning shown show) (view : V) where
  begun_there : (part : ℕ) (move : Move) → IsBegun (shown.begun (show view)) part move → IsBegun (meaning.begun view) part move
  begun_there part (Move.goes next) is = is
  begun_there part (Move.loads word next) is = is
  begun_there part (Move.stores word value next) is = λ some. (shows.begun view word value part).1 (is some)
  begun_there part (Move.ends ending) is = is

  pub ready_where_shown : (code : Bodies) (cpu : Cpu) → IsReady shown code cpu (show view) → IsReady meaning code cpu view
  ready_where_shown code cpu ready = record {
    can_step = subst (λ (words : List ℕ). CanStep code cpu (length words)) (sym (shows.words view)) ready.can_step;
    is_begun = λ instr starts. begun_there cpu.part _ (ready.is_begun instr starts);
  }
