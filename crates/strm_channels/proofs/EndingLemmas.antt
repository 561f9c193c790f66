-- What a cancel makes of a stream, by whether a host end is to finish first.
use Rattle.std.proofs.Common.{◌≡◌, Bool, true, false, cond, Some, sym, ap, ◌∙◌}
use Rattle.strm_codes.specs.declared.codes.ReturnCode.{ReturnCode}
use Rattle.strm_codes.specs.declared.codes.ReturnCode.TheVariants.{Blocked}
use Rattle.strm_events.specs.Reports.{cancel_answer}
use Rattle.strm_machine.specs.Sides.{end_of, with_end}
use Rattle.strm_machine.specs.Endings.{report_on, told_end, waits_for_host, cancelled_end, cancelled}
use Rattle.strm_machine.specs.declared.streams.Side.{Side}
use Rattle.strm_machine.specs.declared.streams.Stream.{Stream}

module _ (side : Side) (stream new : Stream) where
  -- the stream after a cancel that waits, or doesn't
  abbrev cancelled_by : Bool → Stream
  cancelled_by waits =
      with_end side stream
      (cancelled_end waits (cond waits Blocked (cancel_answer stream.kind (report_on side stream))) (end_of side stream))

  pub cancelled-waits : waits_for_host side stream ≡ true → new ≡ with_end side stream (cancelled_end true Blocked (end_of side stream)) → new ≡ cancelled side stream
  unfolding cancelled
  cancelled-waits e is = is ∙ ap cancelled_by (sym e)

  pub cancelled-at_once : (code : ReturnCode) → waits_for_host side stream ≡ false → code ≡ cancel_answer stream.kind (report_on side stream) → new ≡ with_end side stream (told_end (Some code) (end_of side stream)) → new ≡ cancelled side stream
  unfolding cancelled
  cancelled-at_once code e c is =
      is ∙ ap (λ k. with_end side stream (told_end (Some k) (end_of side stream))) c ∙ ap cancelled_by (sym e)
