use Rattle.std.proofs.Common.{◌≡◌, ◌≤◌, ◌∷◌, [], List, length, ap, subst, ◌∙◌, arith}
use Rattle.strm_laws.specs.Conservation.{got, state_after_steps, moments, replies_of}
use Rattle.strm_machine.specs.Plays.{play, Ends}
use Rattle.strm_laws.specs.Starts.{run_start}
use Rattle.strm_session.specs.Runs.{received_counts}
use Rattle.strm_frames.specs.Demuxes.{IsDemuxFed}
use Rattle.strm_machine.specs.declared.steps.Step.{Step}
use Rattle.strm_carry_laws.specs.OneStream.{script_of, bytes_as_items, CanCarry, dumped}
use Rattle.strm_mux.proofs.CarryLemmas.{can_carry, script_few, script_guests, received_first, same_count, one_count, fed_delivers}
use Rattle.strm_mux.proofs.carrying.carry.Goals as goal

pub play_all-requires-clause-few : goal.play_all-requires-clause-few
play_all-requires-clause-few c =
    let k : CanCarry c.args.write c.args.read c.bytes-bytes.result.now =
    can_carry c.args.write c.args.read c.bytes-bytes.result.now c.hold_bytes.ensures (omega (arith, c.requires.few, ap length c.bytes-bytes.ensures.bytes)) c.requires.write c.requires.read in
    rw (c.as_slice.ensures, c.in_ok-steps.ensures.ok) (script_few c.args.write c.args.read c.bytes-bytes.result.now k)

pub play_all-requires-clause-guests : goal.play_all-requires-clause-guests
play_all-requires-clause-guests c =
    let k : CanCarry c.args.write c.args.read c.bytes-bytes.result.now =
    can_carry c.args.write c.args.read c.bytes-bytes.result.now c.hold_bytes.ensures (omega (arith, c.requires.few, ap length c.bytes-bytes.ensures.bytes)) c.requires.write c.requires.read in
    rw (c.as_slice.ensures, c.in_ok-steps.ensures.ok) (script_guests c.args.write c.args.read c.bytes-bytes.result.now k)

pub play_all-requires-clause-one : goal.play_all-requires-clause-one
play_all-requires-clause-one c =
    let bytes = c.bytes-bytes.result.now in
    let few : length bytes ≤ 1048576 = omega (arith, c.requires.few, ap length c.bytes-bytes.ensures.bytes) in
    let k : CanCarry c.args.write c.args.read bytes = can_carry c.args.write c.args.read bytes c.hold_bytes.ensures few c.requires.write c.requires.read in
    let all : received_counts (state_after_steps run_start c.as_slice.result.now) ≡ length bytes ∷ [] =
    ap (λ (s : List Step). received_counts (state_after_steps run_start s)) (c.as_slice.ensures ∙ c.in_ok-steps.ensures.ok) ∙ c.carries.ensures.received c.args.write c.args.read bytes k in
    one_count (received_counts (state_after_steps run_start c.as_slice.result.now)) (length bytes) all few

pub returns-clause-carried : goal.returns-clause-carried
returns-clause-carried c =
    let bytes = c.bytes-bytes.result.now in
    let k : CanCarry c.args.write c.args.read bytes =
    can_carry c.args.write c.args.read bytes c.hold_bytes.ensures (omega (arith, c.requires.few, ap length c.bytes-bytes.ensures.bytes)) c.requires.write c.requires.read in
    let script = c.in_ok-steps.ensures.ok in
    let moved : c.in_ok-played.played.moved ∷ [] ≡ received_counts (state_after_steps run_start c.in_ok-steps.steps) =
    c.in_ok-played.ensures.moved ∙ ap (λ (s : List Step). received_counts (state_after_steps run_start s)) c.as_slice.ensures in
    let all : received_counts (state_after_steps run_start c.in_ok-steps.steps) ≡ length bytes ∷ [] =
    ap (λ (s : List Step). received_counts (state_after_steps run_start s)) script ∙ c.carries.ensures.received c.args.write c.args.read bytes k in
    record {
      steps = script ∙ ap (script_of c.args.write c.args.read) c.bytes-bytes.ensures.bytes;
      played = subst (λ (s : List Step). play [] run_start s ≡ Ends c.in_ok-played.played.replies (state_after_steps run_start s)) c.as_slice.ensures c.in_ok-played.ensures.played;
      got_is = ap (λ (s : List Step). got 0 (moments run_start s)) script ∙ c.carries.ensures.got c.args.write c.args.read bytes k ∙ ap bytes_as_items c.bytes-bytes.ensures.bytes;
      moved_is = received_first (state_after_steps run_start c.in_ok-steps.steps) _ moved;
      whole = same_count _ _ (moved ∙ all) ∙ ap length c.bytes-bytes.ensures.bytes;
    }

pub returns-clause-delivers : goal.returns-clause-delivers
returns-clause-delivers c = λ given d.
    let bytes = c.bytes-bytes.result.now in
    let k : CanCarry c.args.write c.args.read bytes =
    can_carry c.args.write c.args.read bytes c.hold_bytes.ensures (omega (arith, c.requires.few, ap length c.bytes-bytes.ensures.bytes)) c.requires.write c.requires.read in
    let told : dumped c.as_slice-2.result.now ≡ c.args.mux.now.bytes =
    ap dumped (c.as_slice-2.ensures ∙ c.in_ok-played.ensures.told) ∙ ap (λ (s : List Step). dumped (replies_of (moments run_start s))) (c.as_slice.ensures ∙ c.in_ok-steps.ensures.ok)
    ∙ c.carries.ensures.dumped c.args.write c.args.read bytes k ∙ c.bytes-bytes.ensures.bytes in
    let fed : IsDemuxFed c.in_ok-demux.demux c.args.mux.now.bytes = rw told at c.in_ok-demux.ensures.ok in
    fed_delivers c.in_ok-demux.demux c.args.mux.now given fed d
