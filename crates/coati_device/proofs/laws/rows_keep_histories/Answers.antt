use Rattle.std.specs.Prelude.{[]}
use Rattle.coati_device.proofs.Histories.{marks_legal, boots_untold, none_accepted}
use Rattle.coati_device.proofs.Modes.{mode_kept}
use Rattle.coati_device.proofs.Rooms.{room_left}
use Rattle.coati_device.proofs.Turns.{turns_kept}
use Rattle.coati_device.proofs.laws.rows_keep_histories.Goals as goal

pub returns-clause-legal : goal.returns-clause-legal
returns-clause-legal c = λ terms old new rules fits is_mode events counted legal row.
    marks_legal c.histories_go_on.ensures c.records_keep_readings.ensures.marks terms
    c.accesses_join_up.ensures c.last_writes_tell_the_store.ensures
    c.written_words_are_told.ensures rules old fits is_mode events counted legal new row

pub returns-clause-turns : goal.returns-clause-turns
returns-clause-turns c = λ program old new rules fits counted served row.
    turns_kept c.turns_go_on.ensures c.histories_go_on.ensures c.following_goes_on.ensures program
    old fits served counted
    (λ other one two accepted. mode_kept c.following_goes_on.ensures other one two) rules new row

pub returns-clause-boots : goal.returns-clause-boots
returns-clause-boots c = λ program periods boots old new row told.
    boots_untold c.histories_go_on.ensures c.marks_join_up.ensures program periods boots old new
    row told

pub returns-clause-room : goal.returns-clause-room
returns-clause-room c = λ program steps periods old new row h.
    room_left steps periods old h program new row

pub returns-clause-accepted : goal.returns-clause-accepted
returns-clause-accepted c = λ program old new row counted.
    none_accepted c.histories_go_on.ensures c.marks_join_up.ensures program [] 0 old new row
    counted
