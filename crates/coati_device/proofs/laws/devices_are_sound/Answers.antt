use Rattle.std.proofs.Common.{◌∙◌, ap, sym}
use Rattle.codegen.specs.Bodies.{program_code}
use Rattle.nv_memory.specs.Blank.{mode_word}
use Rattle.serial_log.specs.Legal.{IsLegalHistory}
use Rattle.coati_device.proofs.Fresh.{sound_first}
use Rattle.coati_device.proofs.Times.{ends_by}
use Rattle.coati_device.proofs.laws.devices_are_sound.Goals as goal

pub returns-clause-fresh : goal.returns-clause-fresh
returns-clause-fresh c = λ terms periods d some sizes fresh.
    sound_first c.blank_images_are_sound.ensures terms (program_code terms.program) periods d some
    sizes fresh

pub returns-clause-told : goal.returns-clause-told
returns-clause-told c = λ terms periods d some sound.
    let legal : IsLegalHistory terms d.history =
    record { marks = sound.legal.legal; booted = sound.legal.booted } in
    record {
      legal = legal;
      boots = record {
        counted = (c.legal_histories_keep_each_fact.ensures terms d.history legal).boots;
        times = sound.boots.times ∙ sym (ends_by periods d.clock d.boots d.until sound.timed);
      };
      split = λ split. (sound.turns.split (sound.mode ∙ ap mode_word split)).serves;
      buffi = λ buffi. sound.turns.buffi (sound.mode ∙ ap mode_word buffi);
      aborts = sound.turns.aborts;
    }
