use Rattle.std.proofs.Common.{◌≡◌, ◌+◌, ◌∷◌, [], ℕ, List, length, map, replicate, refl, ap, arith, ◌∙◌}
use Rattle.strm_machine.specs.Reactions.{reaction, performs}
use Rattle.strm_laws.specs.Starts.{run_start}
use Rattle.strm_machine.specs.Refusals.{refusal}
use Rattle.strm_machine.specs.Making.{with_stream}
use Rattle.strm_machine.specs.Moments.{decoded}
use Rattle.strm_machine.specs.State.{State}
use Rattle.strm_machine.proofs.ArrivalLemmas.{IsBytes-zeros}
use Rattle.strm_laws.specs.Conservation.{state_after_steps, moments, got}
use Rattle.strm_carry_laws.specs.OneStream.{piece_steps, script_of, CanCarry}
use Rattle.strm_carry_laws.specs.Serving.{rests, Brings}
use Rattle.strm_carry_laws.proofs.carries.Goals as goal

zeros : List ℕ
zeros = replicate 64 0

begun : (w r : ℕ) (bytes : List ℕ) → got 0 (moments run_start (script_of w r bytes)) ≡ got 0 (moments (rests (replicate 64 0) (replicate 64 0) 0) (piece_steps (length bytes) w r bytes))
unfolding reaction performs refusal with_stream decoded
begun w r bytes = refl

ended : (w r : ℕ) (bytes : List ℕ) → state_after_steps run_start (script_of w r bytes) ≡ state_after_steps (rests (replicate 64 0) (replicate 64 0) 0) (piece_steps (length bytes) w r bytes)
unfolding reaction performs refusal with_stream
ended w r bytes = refl

brought : (c : goal.After-brings_all) (w r : ℕ) (bytes : List ℕ) → CanCarry w r bytes → Brings (replicate 64 0) (replicate 64 0) 0 bytes (piece_steps (length bytes) w r bytes)
brought c w r bytes u = c.brings_all.ensures (length bytes) w r (replicate 64 0) (replicate 64 0) bytes 0 (omega arith) (IsBytes-zeros 64) u.are_bytes refl refl (omega (arith, u.few)) u.some_written u.most_written u.some_read u.most_read

pub returns : goal.returns
unfolding reaction performs refusal with_stream
returns c = record {
  got = λ w r bytes u. begun w r bytes ∙ (brought c w r bytes u).runs.gets;
  received = λ w r bytes u.
      let none : 0 + length bytes ≡ length bytes = omega arith in
      ap (λ (s : State). map (λ x. x.received) s.streams) (ended w r bytes ∙ (brought c w r bytes u).runs.ends) ∙ ap (λ (n : ℕ). n ∷ []) none;
  dumped = λ w r bytes u. (brought c w r bytes u).runs.dumps;
  settled = λ w r bytes u. (refl, (refl, (refl, (brought c w r bytes u).runs.settles)));
}
