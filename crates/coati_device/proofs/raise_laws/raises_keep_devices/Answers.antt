use Rattle.coati_device.proofs.Messages.{messages_fit}
use Rattle.coati_device.proofs.RaisedPostings.{raise_keeps}
use Rattle.coati_device.proofs.raise_laws.raises_keep_devices.Goals as goal

pub returns : goal.returns
returns c =
    λ terms periods postings device old new answer are accepted bound low left known spare sound
    cursors room raises.
    raise_keeps c.histories_go_on.ensures c.turns_go_on.ensures c.marks_join_up.ensures
    c.ticks_keep_devices.ensures.sound
    c.ticks_keep_devices.ensures.room terms periods postings device old
    (record {
      periods_are = are;
      accepted = accepted;
      bound = bound;
      low = low;
      left = left;
      known = known;
      spare = spare;
      sound = sound;
      cursors = cursors;
      room = room;
    })
    (record {
      joins = c.accesses_join_up.ensures;
      courses = c.courses_under_way_go_on.ensures.bodies;
      lasts = c.last_writes_tell_the_store.ensures;
      follows = c.following_goes_on.ensures;
      decodes = c.instructions_are_their_words.ensures.nothing_else;
      bottoms_compute = c.accepted_programs_compute_their_courses.ensures.bottoms;
      messages = messages_fit;
      stores = c.stores_set_the_value.ensures;
      behind = c.handlers_read_behind_held_events.ensures;
      first = c.parts_fill_the_slot.ensures.first;
      parts = c.parts_fill_the_slot.ensures.parts;
      all_parts = c.parts_fill_the_slot.ensures.all;
      logs = c.the_tail_entry_is_free.ensures.logs;
      free = c.the_tail_entry_is_free.ensures.free;
      adds = c.accepts_add_the_newest.ensures;
    })
    c.accepted_programs_compute_their_courses.ensures.tops new answer raises
