-- What a cursor has still to read.
use Rattle.std.specs.Prelude.{ℕ, List, drop}
use Rattle.coati_text.specs.declared.cursor.Cursor.{Cursor}

-- the bytes from the cursor's place on
abbrev pub unread : Cursor → List ℕ
unread cursor = drop cursor.place cursor.bytes.now
