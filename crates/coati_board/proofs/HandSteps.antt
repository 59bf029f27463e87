-- What a half does with a step makes the step of its handler.
use Rattle.std.proofs.Common.{◌≡◌, ◌≢◌, ℕ, ◌+◌, List, refl, ap, subst, sym, true, false}
use Rattle.std.specs.Prelude.{Bool, Option, Some, None}
use Rattle.nv_memory.specs.Seats.{Memory}
use Rattle.nv_memory.specs.State.{state}
use Rattle.nv_memory.specs.Words.{mode}
use Rattle.task_syntax.specs.declared.body.BodyId.TheVariants as body
use Rattle.task_syntax.specs.Events.{message_of}
use Rattle.word_code.specs.Code.{Bodies}
use Rattle.word_cpu.specs.declared.cpu.Cpu.{Cpu}
use Rattle.word_cpu.specs.declared.turn.Turn.{Turn}
use Rattle.word_cpu.specs.declared.turn.Turn.TheVariants.{Ended, Storing, Went}
use Rattle.word_cpu.specs.Turning.{IsStep}
use Rattle.word_cpu.specs.UnderWay.{IsAtStart}
use Rattle.coati_device.specs.declared.device.Device.{Device}
use Rattle.coati_device.specs.declared.hand.Hand.{Hand}
use Rattle.coati_device.specs.declared.hand.Hand.TheVariants.{Accept, Fill, Top}
use Rattle.coati_device.specs.declared.hand.Hand.TheVariants as hands
use Rattle.coati_device.specs.HandlerView.{handler_view}
use Rattle.coati_device.specs.Raises.{IsHandStep, is_last_part}
use Rattle.coati_device.specs.Raises.IsHandStep.{begins_bottom, bottoms, fills, fills_last, tops}
use Rattle.coati_device.specs.ScratchView.{scratch_view}
use Rattle.coati_device.specs.Waits.{Waits, begun, waits_after}
use Rattle.coati_board.specs.Handlers.{Fills, is_end, message_given}

module _ (code : Bodies) (event : ℕ) (d : Device) (hand next : Hand) where
  -- the top half goes on
  pub top_goes_on : (before after : Cpu) (words changed : List ℕ) (turn : Turn) →
      hand ≡ Top before words → IsStep scratch_view code before after words changed turn →
      None ≡ message_given turn → next ≡ Top after changed → IsHandStep code event hand d next d
  top_goes_on before after words changed (Went reading) is step none to =
      tops before after words changed (Went reading) is step refl to
  top_goes_on before after words changed Storing is step none to =
      tops before after words changed Storing is step refl to
  top_goes_on before after words changed (Ended ending) is step none to = absurd (cc)

  -- it ends
  pub top_ends : (before after : Cpu) (words changed message : List ℕ) (turn : Turn) →
      hand ≡ Top before words → IsStep scratch_view code before after words changed turn →
      Some message ≡ message_given turn → next ≡ Fill message 0 →
      IsHandStep code event hand d next d
  top_ends before after words changed message (Went reading) is step some to = absurd (cc)
  top_ends before after words changed message Storing is step some to = absurd (cc)
  top_ends before after words changed message (Ended ending) is step some to =
      tops before after words changed (Ended ending) is step refl (let same = some in cc)

  module _ (mid : Device) (before after : Cpu) (is : hand ≡ hands.Bottom before) where
    -- so does the bottom half
    pub bottom_goes_on : (image : Memory) (turn : Turn) →
        IsStep handler_view code before after d.image image turn →
        mid ≡ record d { image = image; waiting = waits_after d.waiting turn } →
        false ≡ is_end turn → next ≡ hands.Bottom after → IsHandStep code event hand d next mid
    bottom_goes_on image (Went reading) step same more to =
        bottoms before after image (Went reading) is step same to
    bottom_goes_on image Storing step same more to =
        bottoms before after image Storing is step same to
    bottom_goes_on image (Ended ending) step same more to = absurd (cc)

    pub bottom_ends : (image : Memory) (turn : Turn) →
        IsStep handler_view code before after d.image image turn →
        mid ≡ record d { image = image; waiting = waits_after d.waiting turn } →
        true ≡ is_end turn → next ≡ Accept → IsHandStep code event hand d next mid
    bottom_ends image (Went reading) step same last to = absurd (cc)
    bottom_ends image Storing step same last to = absurd (cc)
    bottom_ends image (Ended ending) step same last to =
        bottoms before after image (Ended ending) is step same to
