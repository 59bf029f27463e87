-- The texts of labels.
use Rattle.std.specs.Prelude.{ℕ, List, [], ◌++◌, slice_get}
use Rattle.std.specs.Option.{option_map_or}
use Rattle.trace_out.specs.declared.labels.Label.{Label}
use Rattle.trace_out.specs.Names.{index_text}

abbrev pub label_text : Label → List ℕ
label_text label = label.name.now ++ index_text label.length label.index

-- by number: no text where there is none
abbrev pub label_at : List Label → ℕ → List ℕ
label_at labels number = option_map_or label_text (slice_get labels number) []
