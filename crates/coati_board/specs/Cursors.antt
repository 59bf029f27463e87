-- Where the devices are in the script.
use Rattle.std.specs.Prelude.{ℕ, ◌<◌, ◌≤◌, List, [], ◌∷◌, length, min}
use Rattle.serial_log.specs.declared.script.Posting.{Posting}
use Rattle.coati_device.specs.declared.cursor.Cursor.{Cursor}
use Rattle.coati_device.specs.Cursors.{first_cursor}

-- each is at its first posting
abbrev pub first_cursors : List Posting → List Cursor
first_cursors postings =
    first_cursor postings 0 ∷ first_cursor postings 1 ∷ first_cursor postings 2
    ∷ first_cursor postings 3
    ∷ first_cursor postings 4 ∷ first_cursor postings 5 ∷ first_cursor postings 6
    ∷ first_cursor postings 7 ∷ []

-- a posting is left to raise
pub record HasPosting (postings : List Posting) (cursor : Cursor) : Type 0 where
  pub within : cursor.at < length postings
  pub some : 0 < cursor.left
  pub few : cursor.done ≤ length postings

-- the least place of a posting that is left; this one, the end, where none is
abbrev pub first_place : List Cursor → ℕ → ℕ
first_place [] end = end
first_place (cursor ∷ more) end = first_place more (min end cursor.at)
