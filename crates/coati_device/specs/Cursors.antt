-- The devices in the script: each raises its postings in their order, each once.
use Rattle.std.specs.Prelude.{ℕ, ◌+◌, ◌-◌, ◌≡◌, ◌≤◌, ◌<◌, ◌==◌, List, [], ◌∷◌, ◌++◌, length, drop, map, filter, slice_index_or, slice_set, if◌then◌else◌}
use Rattle.serial_log.specs.declared.mark.Mark.{Mark}
use Rattle.serial_log.specs.declared.mark.MarkKind.TheVariants.{Posted}
use Rattle.serial_log.specs.declared.posted.Answer.{Answer}
use Rattle.serial_log.specs.declared.script.Posting.{Posting}
use Rattle.serial_log.specs.History.{with_mark}
use Rattle.serial_log.specs.Marks.{raised_postings}
use Rattle.serial_log.specs.Scripted.{of_device, sent_as, sent_by}
use Rattle.coati_device.specs.declared.cursor.Cursor.{Cursor}
use Rattle.coati_device.specs.declared.device.Device.{Device}

-- a posting of no script
abbrev pub no_posting : Posting
no_posting = record { time = 0; device = 0; event = 0; argument = 0 }

abbrev pub posting_at : List Posting → ℕ → Posting
posting_at postings place = slice_index_or postings place no_posting

abbrev pub no_cursor : Cursor
no_cursor = record { at = 0; done = 0; left = 0 }

abbrev pub cursor_of : List Cursor → ℕ → Cursor
cursor_of cursors device = slice_index_or cursors device no_cursor

-- how many postings of other devices come first
abbrev pub others : ℕ → List Posting → ℕ
others device [] = 0
others device (posting ∷ more) = if posting.device == device then 0 else others device more + 1

-- how many postings are the device's
abbrev pub count_of : ℕ → List Posting → ℕ
count_of device postings = length (filter (λ (posting : Posting). posting.device == device)
    postings)

-- where a device is at first
abbrev pub first_cursor : List Posting → ℕ → Cursor
first_cursor postings device = record {
  at = others device postings;
  done = 0;
  left = count_of device postings;
}

-- and behind its next posting
abbrev pub moved : List Posting → ℕ → Cursor → Cursor
moved postings device c = record {
  at = c.at + 1 + others device (drop (c.at + 1) postings);
  done = c.done + 1;
  left = c.left - 1;
}

-- the posting that a device raises next
abbrev pub next_posting : List Posting → Device → ℕ → Posting
next_posting postings d device = posting_at postings (cursor_of d.cursors device).at

-- a posting was answered: its mark, and the device goes on to its next one
abbrev pub answered : List Posting → (device : ℕ) → Posting → (from at : ℕ) → Answer → Device →
    Device
answered postings device posting from at answer d = record d {
  cursors = slice_set d.cursors device (moved postings device (cursor_of d.cursors device));
  history = with_mark d.history (record {
    at = at;
    kind = Posted (record {
      device = device;
      index = (cursor_of d.cursors device).done + 1;
      event = posting.event;
      argument = posting.argument;
      from = from;
      answer = answer;
    });
  });
}

-- a device has raised the first of its postings, and goes on at its next one
pub record HasRaised (postings : List Posting) (marks : List Mark) (device : ℕ) (c : Cursor)
    : Type 0 where
  pub parts : of_device device (map sent_by postings)
      ≡ of_device device (map sent_as (raised_postings marks))
      ++ of_device device (map sent_by (drop c.at postings))
  pub within : c.at ≤ length postings
  pub there : others device (drop c.at postings) ≡ 0
  pub done : c.done ≡ length (of_device device (map sent_as (raised_postings marks)))
  pub left : c.left ≡ count_of device (drop c.at postings)

-- so have all of them
pub record AreCursors (postings : List Posting) (marks : List Mark) (cursors : List Cursor)
    : Type 0 where
  pub eight : length cursors ≡ 8
  pub each : (device : ℕ) → device < 8 → HasRaised postings marks device (cursor_of cursors device)
