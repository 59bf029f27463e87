-- Texts on their way into a sink, in pieces.
use Rattle.std.specs.Prelude.{◌≡◌, ℕ, ◌+◌, ◌≤◌, Bool, true, false, List, [], ◌++◌, length, Option, Result}
use Rattle.std.specs.Io.KnownBytes.{Appends}
use Rattle.coati_io.specs.declared.pieces.Pieces.{Pieces}
use Rattle.coati_io.specs.declared.traits.Failed.{Failed}
use Rattle.coati_io.specs.Writing.{EndsWriting, OutputEdge, WritesFront, output_edge}

-- all of the text was sent but what is held: where there was room for what was sent, no fault was
-- counted, and the rest of the room is left
pub record IsGoing (output : OutputEdge) (left : ℕ) (held text : List ℕ) : Type 0 where
  pub sent : List ℕ
  pub whole : sent ++ held ≡ text
  pub front : Appends output.old output.new sent
  pub later : output.before ≤ output.after
  pub steady : length sent ≤ output.room →
      (output.after ≡ output.before) × (output.room ≤ left + length sent)

-- a text is on its way: it goes, or the sink has failed and took a front of it
abbrev pub IsOnItsWay : (failed : Bool) → OutputEdge → (left : ℕ) → (held text : List ℕ) → Type 0
IsOnItsWay false output left held text = IsGoing output left held text
IsOnItsWay true output left held text = WritesFront output text

module _ {K : Type 0} (taken : K → Option (List ℕ)) (faults spare : K → ℕ) where
  -- the text is on its way into a sink that was so before it
  abbrev pub IsSending : K → Pieces K → List ℕ → Type 0
  IsSending start pieces text =
      IsOnItsWay pieces.failed (output_edge taken faults spare start pieces.sink.now)
      (spare pieces.sink.now) pieces.piece.now text

  -- where all of a text but these bytes was sent, they are sent too, unless the sink has failed
  abbrev pub SendsOn : (failed : Bool) (old : K) (bytes : List ℕ) (new : K) (fails : Bool) → Type 0
  SendsOn failed old bytes new fails =
      (start : K) (text : List ℕ)
      → IsOnItsWay failed (output_edge taken faults spare start old) (spare old) bytes text
      → IsOnItsWay fails (output_edge taken faults spare start new) (spare new) [] text

  -- bytes were put behind each text on its way
  pub record Puts (old new : Pieces K) (bytes : List ℕ) : Type 0 where
    pub same_sink : new.sink.ghost_name ≡ old.sink.ghost_name
    pub sends : (start : K) (text : List ℕ) → IsSending start old text →
        IsSending start new (text ++ bytes)

  -- each text on its way was sent to its end, or the sink failed
  pub record Finishes (old new : Pieces K) (result : Result Unit Failed) : Type 0 where
    pub same_sink : new.sink.ghost_name ≡ old.sink.ghost_name
    pub ends : (start : K) (text : List ℕ) → IsSending start old text →
        EndsWriting (output_edge taken faults spare start new.sink.now) text result
