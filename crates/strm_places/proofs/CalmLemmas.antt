-- Among guests no cancel waits for a host end, and the ends that a guest gives up leave it so. No end comes to owe a
-- value by that.
use Rattle.std.proofs.Common.{◌≡◌, ℕ, zero, suc, ◌+◌, Bool, true, false, List, [], ◌∷◌, get_or, set, Option, Some, None, Ok, Err, refl, sym, ap, subst, ◌∙◌}
use Rattle.std.specs.Prelude.{◌&&◌, ◌||◌, not, is_some}
use Rattle.std.proofs.lemmas.Bool.{cond_both}
use Rattle.strm_codes.specs.declared.codes.ReturnCode.{ReturnCode}
use Rattle.strm_codes.specs.declared.codes.TransmitKind.{TransmitKind}
use Rattle.strm_codes.specs.declared.codes.TransmitKind.TheVariants.{Stream as AStream, Future}
use Rattle.strm_events.specs.Reports.{is_dropped}
use Rattle.strm_handles.specs.declared.entries.Entry.{Entry}
use Rattle.strm_handles.specs.declared.entries.Entry.TheVariants as entries
use Rattle.strm_machine.specs.State.{State, no_stream, stream_at, is_host}
use Rattle.strm_machine.specs.Sides.{opposite, end_of, with_end}
use Rattle.strm_machine.specs.Endings.{report_on, dropped, waits_for_host, code_of_cancel, cancelled_end, cancelled}
use Rattle.strm_machine.specs.Moves.{without_handle}
use Rattle.strm_machine.specs.Reactions.{cancels}
use Rattle.strm_machine.specs.Tests.{Name, end_named, side_of, is_busy, is_cancel_under_way, was_asked, owes_value}
use Rattle.strm_machine.specs.declared.streams.End.{End}
use Rattle.strm_machine.specs.declared.streams.Owner.TheVariants.{Gone}
use Rattle.strm_machine.specs.declared.streams.Side.{Side}
use Rattle.strm_machine.specs.declared.streams.Side.TheVariants.{Writing, Reading}
use Rattle.strm_machine.specs.declared.streams.Stream.{Stream}
use Rattle.strm_places.specs.Lives.{with_none_pending, without_end, end_given_up, ends_given_up, rest_given_up, all_given_up, numbers_given, handles_given_up}

-- ## One stream

-- no host end has an end of it, and neither of its operations is being cancelled
pub record IsCalm (stream : Stream) : Type 0 where
  pub none : (side : Side) → is_host (end_of side stream).owner ≡ false
  pub uncancelled : (side : Side) → is_cancel_under_way side stream ≡ false

-- a change that leaves it so, and after which no end owes a value that owed none before
pub record Calms (old new : Stream) : Type 0 where
  pub calm : IsCalm old → IsCalm new
  pub owes : (side : Side) → owes_value side old.kind old ≡ false → owes_value side new.kind new ≡ false

calms_not : (stream : Stream) → Calms stream stream
calms_not stream = record { calm = λ calm. calm; owes = λ side e. e }

pub calms_then : (a b c : Stream) → Calms a b → Calms b c → Calms a c
calms_then a b c f g = record { calm = λ calm. g.calm (f.calm calm); owes = λ side e. g.owes side (f.owes side e) }

-- what passed, and what was told, still did
settled_stays : (a b c d : Bool) → c ≡ a → (b ≡ true → d ≡ true) → not (a || b) ≡ false → not (c || d) ≡ false
settled_stays true b c d passed told e = ap (λ x. not (x || d)) passed
settled_stays false true c d passed told e = ap (λ x. not (x || d)) passed ∙ ap not (told refl)
settled_stays false false c d passed told e = cc

owes_by : (side : Side) (kind : TransmitKind) (old new : Stream) → new.passed ≡ old.passed → (old.writer.told ≡ true → new.writer.told ≡ true) → owes_value side kind old ≡ false → owes_value side kind new ≡ false
owes_by Writing AStream old new passed told e = refl
owes_by Reading AStream old new passed told e = refl
owes_by Writing Future old new passed told e = settled_stays old.passed old.writer.told new.passed new.writer.told passed told e
owes_by Reading Future old new passed told e = refl

-- an end that no host end has, and that is not being cancelled
pub record IsCalmEnd (end : End) : Type 0 where
  pub none : is_host end.owner ≡ false
  pub uncancelled : was_asked end.operation ≡ false

-- another end on a side, which was told if that was
module _ (stream : Stream) (end : End) where
  calm-with : (side : Side) → IsCalmEnd end → IsCalm stream → IsCalm (with_end side stream end)
  calm-with side mine calm = record { none = none side; uncancelled = uncancelled side }
    where
      none : (side other : Side) → is_host (end_of other (with_end side stream end)).owner ≡ false
      none Writing Writing = mine.none
      none Writing Reading = calm.none Reading
      none Reading Writing = calm.none Writing
      none Reading Reading = mine.none

      uncancelled : (side other : Side) → is_cancel_under_way other (with_end side stream end) ≡ false
      uncancelled Writing Writing = mine.uncancelled
      uncancelled Writing Reading = calm.uncancelled Reading
      uncancelled Reading Writing = calm.uncancelled Writing
      uncancelled Reading Reading = mine.uncancelled

  owes-with : (side other : Side) → ((end_of side stream).told ≡ true → end.told ≡ true) → owes_value other stream.kind stream ≡ false → owes_value other (with_end side stream end).kind (with_end side stream end) ≡ false
  owes-with Writing other told e = owes_by other stream.kind stream (with_end Writing stream end) refl told e
  owes-with Reading other told e = owes_by other stream.kind stream (with_end Reading stream end) refl (λ t. t) e

  with_end-calms : (side : Side) → (IsCalm stream → IsCalmEnd end) → ((end_of side stream).told ≡ true → end.told ≡ true) → Calms stream (with_end side stream end)
  with_end-calms side mine told = record { calm = λ calm. calm-with side (mine calm) calm; owes = λ other. owes-with side other told }

-- where no host end is across, a cancel waits for none
pub waits_not : (side : Side) (stream : Stream) → is_host (end_of (opposite side) stream).owner ≡ false → waits_for_host side stream ≡ false
waits_not side stream none = ap (λ b. b && not (is_some (report_on side stream))) none

-- so it ends the operation
ended_at_once : (waits : Bool) (code : ReturnCode) (end : End) → waits ≡ false → is_host end.owner ≡ false → IsCalmEnd (cancelled_end waits code end)
ended_at_once true code end e none = cc
ended_at_once false code end e none = record { none = none; uncancelled = refl }

told_stays : (waits : Bool) (code : ReturnCode) (end : End) → end.told ≡ true → (cancelled_end waits code end).told ≡ true
told_stays true code end e = e
told_stays false code end e = ap (λ t. t || is_dropped code) e

pub cancelled-calms : (side : Side) (stream : Stream) → Calms stream (cancelled side stream)
unfolding cancelled
cancelled-calms side stream =
    let waits = waits_for_host side stream in
    let code = code_of_cancel side stream in
    with_end-calms stream (cancelled_end waits code (end_of side stream)) side
    (λ calm. ended_at_once waits code (end_of side stream) (waits_not side stream (calm.none (opposite side))) (calm.none side))
    (told_stays waits code (end_of side stream))

-- and leaves the end idle
idle-with : (side : Side) (stream : Stream) (end : End) → is_some end.operation ≡ false → is_busy side (with_end side stream end) ≡ false
idle-with Writing stream end e = e
idle-with Reading stream end e = e

ended_idle : (waits : Bool) (code : ReturnCode) (end : End) → waits ≡ false → is_some (cancelled_end waits code end).operation ≡ false
ended_idle true code end e = cc
ended_idle false code end e = refl

pub cancelled-idle : (side : Side) (stream : Stream) → is_host (end_of (opposite side) stream).owner ≡ false → is_busy side (cancelled side stream) ≡ false
unfolding cancelled
cancelled-idle side stream none =
    let waits = waits_for_host side stream in
    let code = code_of_cancel side stream in
    idle-with side stream (cancelled_end waits code (end_of side stream)) (ended_idle waits code (end_of side stream) (waits_not side stream none))

pub dropped-calms : (side : Side) (stream : Stream) → Calms stream (dropped side stream)
unfolding dropped
dropped-calms side stream =
    with_end-calms stream (record (end_of side stream) { owner = Gone }) side
    (λ calm. record { none = refl; uncancelled = calm.uncancelled side })
    (λ t. t)

-- ## All streams

-- one of them becomes another
pub calms-set : (streams : List Stream) (s : ℕ) (x : Stream) → Calms (get_or streams s no_stream) x → (k : ℕ) → Calms (get_or streams k no_stream) (get_or (set streams s x) k no_stream)
calms-set [] s x h k = calms_not (get_or [] k no_stream)
calms-set (y ∷ ys) zero x h zero = h
calms-set (y ∷ ys) zero x h (suc k) = calms_not (get_or ys k no_stream)
calms-set (y ∷ ys) (suc s) x h zero = calms_not y
calms-set (y ∷ ys) (suc s) x h (suc k) = calms-set ys s x h k

-- each of a state's
abbrev pub AllCalms : State → State → Type 0
AllCalms old new = (k : ℕ) → Calms (stream_at old k) (stream_at new k)

abbrev pub AreCalm : State → Type 0
AreCalm state = (k : ℕ) → IsCalm (stream_at state k)

pub cancel-calms : (state : State) (s : ℕ) (side : Side) → AllCalms state (cancels state s side).state
cancel-calms state s side = calms-set state.streams s (cancelled side (stream_at state s)) (cancelled-calms side (stream_at state s))

pub pending-calms : (state : State) (s : ℕ) (side : Side) → AllCalms state (with_none_pending state s side)
pending-calms state s side =
    cond_both (is_busy side (stream_at state s)) _ _ (AllCalms state) (λ e. cancel-calms state s side) (λ e k. calms_not (stream_at state k))

pub drop-calms : (state : State) (g handle s : ℕ) (side : Side) → AllCalms state (record (without_handle state g handle) { streams = set state.streams s (dropped side (stream_at state s)) })
drop-calms state g handle s side = calms-set state.streams s (dropped side (stream_at state s)) (dropped-calms side (stream_at state s))

end-calms : (state : State) (g handle : ℕ) (name : Name) → AllCalms state (end_given_up state g handle name)
end-calms state g handle (Err error) k = calms_not (stream_at state k)
end-calms state g handle (Ok answer) k =
    let side = side_of answer.1 in
    let idle = with_none_pending state answer.0 side in
    let after = without_end state g handle answer.0 side in
    calms_then (stream_at state k) (stream_at idle k) (stream_at after k) (pending-calms state answer.0 side k) (drop-calms idle g handle answer.0 side k)

pub ends-calms : (state : State) (g n : ℕ) → AllCalms state (ends_given_up state g n)
unfolding ends_given_up
ends-calms state g zero k = calms_not (stream_at state k)
ends-calms state g (suc n) k =
    let before = ends_given_up state g n in
    let name = end_named before g (n + 1) in
    calms_then (stream_at state k) (stream_at before k) (stream_at (end_given_up before g (n + 1) name) k) (ends-calms state g n k) (end-calms before g (n + 1) name k)

-- its sets and error contexts are no part of a stream
rest-streams : (state : State) (g handle : ℕ) (o : Option Entry) → (rest_given_up state g handle o).streams ≡ state.streams
rest-streams state g handle None = refl
rest-streams state g handle (Some (entries.WaitableSet rep)) = refl
rest-streams state g handle (Some (entries.ErrorContext rep)) = refl
rest-streams state g handle (Some (entries.Stream end)) = refl
rest-streams state g handle (Some (entries.Future end)) = refl
rest-streams state g handle (Some (entries.ResourceOwn resource lends)) = refl
rest-streams state g handle (Some (entries.ResourceBorrow resource scope)) = refl
rest-streams state g handle (Some (entries.Subtask rep is_host)) = refl

pub all-streams : (state : State) (g n : ℕ) → (all_given_up state g n).streams ≡ state.streams
unfolding all_given_up
all-streams state g zero = refl
all-streams state g (suc n) = rest-streams (all_given_up state g n) g (n + 1) _ ∙ all-streams state g n

-- whatever a guest's handles are of is given up
pub given_up-calm : (state : State) (g : ℕ) → AreCalm state → AreCalm (handles_given_up state g)
given_up-calm state g calm k =
    let count = numbers_given state g in
    let before = ends_given_up state g count in
    subst (λ streams. IsCalm (get_or streams k no_stream)) (sym (all-streams before g count)) ((ends-calms state g count k).calm (calm k))
