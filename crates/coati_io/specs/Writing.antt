-- What a text left at the sink that it was written to: all of it, a front of it, or nothing.
use Rattle.std.specs.Prelude.{◌≡◌, ◌⊎◌, ℕ, ◌<◌, ◌≤◌, List, length, take, Option, Result, Ok, Err}
use Rattle.std.specs.Io.KnownBytes.{Appends}
use Rattle.coati_io.specs.Causes.{Rose}

-- the output of a call: the bytes taken, where it tells of them, its count of faults, and how many
-- bytes it has room for at first
pub record OutputEdge : Type 0 where
  pub old : Option (List ℕ)
  pub new : Option (List ℕ)
  pub before : ℕ
  pub after : ℕ
  pub room : ℕ

abbrev pub output_edge : {K : Type 0} → (K → Option (List ℕ)) → (K → ℕ) → (K → ℕ) → K → K →
    OutputEdge
output_edge taken faults spare old new =
    record {
      old = taken old;
      new = taken new;
      before = faults old;
      after = faults new;
      room = spare old;
    }

-- the output's count of faults rose
abbrev pub WritingFailed : OutputEdge → Type 0
WritingFailed output = Rose output.before output.after

-- nothing was written, and no fault was counted
pub record WritesNothing (output : OutputEdge) : Type 0 where
  pub nothing : output.new ≡ output.old
  pub steady : output.after ≡ output.before

-- all of the text was written; where there was room for it, no fault was counted
pub record WritesAll (output : OutputEdge) (text : List ℕ) : Type 0 where
  pub whole : Appends output.old output.new text
  pub steady : length text ≤ output.room → output.after ≡ output.before

-- the output failed, which it does only where there is no room for all of the text, and a front of
-- the text was written, and not all of it
pub record WritesFront (output : OutputEdge) (text : List ℕ) : Type 0 where
  pub failed : WritingFailed output
  pub short : output.room < length text
  pub sent : ℕ
  pub some_left : sent < length text
  pub front : Appends output.old output.new (take sent text)

-- all of the text was written, or the output failed and a front of it was
abbrev pub WritesOrFails : OutputEdge → List ℕ → Type 0
WritesOrFails output text = WritesAll output text ⊎ WritesFront output text

-- a call that writes a text and ends so wrote all of it, or an error tells that the output failed
abbrev pub EndsWriting : {T E : Type 0} → OutputEdge → List ℕ → Result T E → Type 0
EndsWriting output text (Ok x) = WritesAll output text
EndsWriting output text (Err e) = WritesFront output text
