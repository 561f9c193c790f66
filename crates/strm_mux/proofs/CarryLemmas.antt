-- A script is of guests alone, and is played to its end; what was fed is what was given.
use Rattle.std.proofs.Common.{◌≡◌, true, ℕ, zero, suc, ◌+◌, ◌*◌, ◌-◌, ◌<◌, ◌≤◌, List, [], ◌∷◌, ◌++◌, length, min, take, drop, get_or, map, refl, sym, ap, ◌∙◌, arith, subst, length-append, length-take, length-drop}
use Rattle.std.proofs.lemmas.List.{append-nil, append_assoc}
use Rattle.std.proofs.lemmas.List.Elements.{All-append}
use Rattle.strm_memory.specs.Bytes.{IsBytes}
use Rattle.strm_machine.specs.Acts.{act_of}
use Rattle.strm_machine.specs.State.{State, no_stream}
use Rattle.strm_laws.specs.Starts.{run_start}
use Rattle.strm_machine.specs.Plays.{play, Ends, Halts}
use Rattle.strm_machine.specs.Reactions.{react}
use Rattle.strm_machine.specs.Moments.{received}
use Rattle.strm_machine.specs.declared.streams.Stream.{Stream}
use Rattle.strm_machine.specs.declared.replies.Reply.{Reply}
use Rattle.strm_machine.specs.declared.steps.Step.{Step}
use Rattle.strm_machine.specs.declared.steps.Step.TheVariants as steps
use Rattle.strm_laws.specs.Conservation.{state_after_steps, moments, replies_of}
use Rattle.strm_transmit.specs.Guests.{is_of_guests}
use Rattle.strm_session.specs.Runs.{AreOfGuests, received_counts, StopsAt, StopsBy}
use Rattle.strm_session.specs.declared.runs.RunCause.{RunCause}
use Rattle.strm_session.specs.declared.runs.RunCause.TheVariants as causes
use Rattle.strm_session.proofs.PlayLemmas.{play-goes}
use Rattle.strm_frames.specs.Frames.{Frame, encoding, lane_in, ends}
use Rattle.strm_frames.specs.Streams.{Splits}
use Rattle.strm_frames.specs.Demuxes.{LanesHeard, IsDemuxFed}
use Rattle.strm_frames.specs.Muxes.{Written, MuxCarries}
use Rattle.strm_frames.proofs.ReadingLemmas.{one_split}
use Rattle.strm_frames.proofs.DemuxLemmas.{nothing_part}
use Rattle.strm_carry_laws.specs.OneStream.{carried_type, reads_of, piece_of, piece_steps, script_of, CanCarry, AreSettled}
use Rattle.strm_mux.specs.Carrying.{DeliversFrames, IsOneCount}

-- THE SCRIPT

-- steps of guests alone, so many at most
record AreFew (run : List Step) (most : ℕ) : Type 0 where
  pub guests : AreOfGuests run
  pub few : length run ≤ most

few_none : (most : ℕ) → AreFew [] most
few_none most = record { guests = λ k d l. absurd (omega arith); few = omega arith }

few_more : (x : Step) (run : List Step) (m n : ℕ) → is_of_guests (act_of x) ≡ true → AreFew run m → m + 1 ≤ n → AreFew (x ∷ run) n
few_more x run m n g a l = record { guests = one a.guests; few = omega (arith, a.few) }
  where
    one : AreOfGuests run → AreOfGuests (x ∷ run)
    one h zero d i = g
    one h (suc k) d i = h k d (omega arith)

few_both : (xs ys : List Step) (m n k : ℕ) → AreFew xs m → AreFew ys n → m + n ≤ k → AreFew (xs ++ ys) k
few_both xs ys m n k a b l = record {
  guests = All-append (λ s. is_of_guests (act_of s) ≡ true) xs ys a.guests b.guests;
  few = omega (arith, a.few, b.few, length-append xs ys);
}

few_reads : (f r j : ℕ) → 0 < r → AreFew (reads_of f r j) (2 * j)
unfolding reads_of
few_reads zero r j o = few_none (2 * j)
few_reads (suc f) r zero o = few_none 0
few_reads (suc f) r (suc j) o =
    let k : ℕ = min r (suc j) in
    let more = few_reads f r (suc j - k) o in
    few_more (steps.Read 1 carried_type 1 0 r) (steps.Dump 1 0 k ∷ reads_of f r (suc j - k)) (2 * (suc j - k) + 1) (2 * suc j) refl
    (few_more (steps.Dump 1 0 k) (reads_of f r (suc j - k)) (2 * (suc j - k)) (2 * (suc j - k) + 1) refl more (omega arith)) (omega arith)

few_piece : (r : ℕ) (p : List ℕ) → 0 < r → 0 < length p → AreFew (piece_of r p) (5 * length p)
few_piece r p o h =
    let n : ℕ = length p in
    let told = few_more (steps.Event 0 1) [] 0 1 refl (few_none 0) (omega arith) in
    let late = few_both (reads_of n r n) (steps.Event 0 1 ∷ []) (2 * n) 1 (2 * n + 1) (few_reads n r n o) told (omega arith) in
    few_more (steps.Poke 0 0 p) (steps.Write 0 carried_type 1 0 n ∷ (reads_of n r n ++ steps.Event 0 1 ∷ [])) (2 * n + 2) (5 * n) refl
    (few_more (steps.Write 0 carried_type 1 0 n) (reads_of n r n ++ steps.Event 0 1 ∷ []) (2 * n + 1) (2 * n + 2) refl late (omega arith)) (omega arith)

few_pieces : (f w r : ℕ) (bytes : List ℕ) → 0 < w → 0 < r → AreFew (piece_steps f w r bytes) (5 * length bytes)
unfolding piece_steps
few_pieces zero w r bytes o p = few_none (5 * length bytes)
few_pieces (suc f) w r [] o p = few_none 0
few_pieces (suc f) w r (b ∷ bytes) o p =
    let front : List ℕ = take w (b ∷ bytes) in
    let rest : List ℕ = drop w (b ∷ bytes) in
    let long : length front ≡ min w (length (b ∷ bytes)) = length-take w (b ∷ bytes) in
    few_both (piece_of r front) (piece_steps f w r rest) (5 * length front) (5 * length rest) (5 * length (b ∷ bytes))
    (few_piece r front p (omega (arith, long))) (few_pieces f w r rest o p) (omega (arith, long, length-drop w (b ∷ bytes)))

few_script : (w r : ℕ) (bytes : List ℕ) → CanCarry w r bytes → AreFew (script_of w r bytes) (5 * length bytes + 3)
few_script w r bytes c =
    let n : ℕ = 5 * length bytes in
    let all : List Step = piece_steps (length bytes) w r bytes in
    few_more (steps.Guest 64) (steps.Guest 64 ∷ steps.Between 0 1 carried_type ∷ all) (n + 2) (n + 3) refl
    (few_more (steps.Guest 64) (steps.Between 0 1 carried_type ∷ all) (n + 1) (n + 2) refl
    (few_more (steps.Between 0 1 carried_type) all n (n + 1) refl (few_pieces (length bytes) w r bytes c.some_written c.some_read) (omega arith)) (omega arith)) (omega arith)

pub can_carry : (w r : ℕ) (bytes : List ℕ) → IsBytes bytes → length bytes ≤ 1048576 → (16 ≤ w) × (w ≤ 64) → (16 ≤ r) × (r ≤ 64) → CanCarry w r bytes
can_carry w r bytes b l h k = record { are_bytes = b; few = l; some_written = omega (arith, h.0); most_written = h.1; some_read = omega (arith, k.0); most_read = k.1 }

pub script_guests : (w r : ℕ) (bytes : List ℕ) → CanCarry w r bytes → AreOfGuests (script_of w r bytes)
script_guests w r bytes c = (few_script w r bytes c).guests

pub script_few : (w r : ℕ) (bytes : List ℕ) → CanCarry w r bytes → length (script_of w r bytes) ≤ 4294967295
script_few w r bytes c = omega (arith, c.few, (few_script w r bytes c).few)

-- THE PLAY

-- where the run goes on behind each reply it comes to its end
plays_on : (told : List Reply) (st : State) (run : List Step) → AreSettled (replies_of (moments st run)) → play told st run ≡ Ends (told ++ replies_of (moments st run)) (state_after_steps st run)
plays_on told st [] s = ap (λ (all : List Reply). Ends all st) (sym (append-nil told))
plays_on told st (x ∷ run) s =
    let r = react st x in
    play-goes told st r.state x run r.reply s.0 refl ∙ plays_on (told ++ r.reply ∷ []) r.state run s.1
    ∙ ap (λ (all : List Reply). Ends all (state_after_steps r.state run)) (append_assoc told (r.reply ∷ []) (replies_of (moments r.state run)))

never_halts : (run : List Step) (told : List Reply) (reply : Reply) → AreSettled (replies_of (moments run_start run)) → play [] run_start run ≡ Halts told reply → ⊥
never_halts run told reply s h = let both : Ends (replies_of (moments run_start run)) (state_after_steps run_start run) ≡ Halts told reply = sym (plays_on [] run_start run s) ∙ h in cc

-- so it stops by running out of memory alone
pub stops_for_memory : (run : List Step) (told : List Reply) (cause : RunCause) → AreSettled (replies_of (moments run_start run)) → StopsBy run told cause → cause ≡ causes.OutOfMemory
stops_for_memory run told cause s b = by_cause cause b.at
  where
    by_cause : (cause : RunCause) → StopsAt run told cause → cause ≡ causes.OutOfMemory
    by_cause causes.OutOfMemory at = refl
    by_cause (causes.BadItem n) at = absurd (never_halts run told _ s at)
    by_cause (causes.HostFailed end) at = absurd at
    by_cause (causes.HostBroke end) at = absurd at

-- THE LANES

-- a demux that was fed what a mux has written has just what that was given
pub fed_delivers : (heard : LanesHeard) (written : Written) (given : List Frame) → IsDemuxFed heard written.bytes → MuxCarries written given → DeliversFrames heard given
fed_delivers heard written given f c =
    let all : Splits written.bytes c.frames [] = record { whole = c.spelled ∙ sym (append-nil (encoding c.frames)); are = c.are; part = nothing_part } in
    let s = one_split written.bytes f.frames c.frames heard.rest [] f.splits all in
    record {
      lanes = λ lane h. f.lanes lane h ∙ ap (lane_in lane) s.0 ∙ c.lanes lane;
      ended = λ lane h. f.ended lane h ∙ ap (ends lane) s.0 ∙ c.ended lane;
      rest = s.1;
    }

-- THE COUNT

pub one_count : (counts : List ℕ) (n : ℕ) → counts ≡ n ∷ [] → n ≤ 1048576 → IsOneCount counts
one_count counts n e l = subst (λ (all : List ℕ). IsOneCount all) (sym e) l

pub count_only : (counts : List ℕ) (n : ℕ) → IsOneCount counts → n ≡ get_or counts 0 0 → n ∷ [] ≡ counts
count_only [] n c e = absurd c
count_only (x ∷ []) n c e = ap (λ (k : ℕ). k ∷ []) e
count_only (x ∷ y ∷ more) n c e = absurd c

first_received : (streams : List Stream) → get_or (map (λ s. s.received) streams) 0 0 ≡ (get_or streams 0 no_stream).received
first_received [] = refl
first_received (s ∷ more) = refl

pub received_first : (state : State) (n : ℕ) → n ∷ [] ≡ received_counts state → n ≡ received 0 state
received_first state n e = ap (λ (all : List ℕ). get_or all 0 0) e ∙ first_received state.streams

pub same_count : (n m : ℕ) → n ∷ [] ≡ m ∷ [] → n ≡ m
same_count n m e = ap (λ (all : List ℕ). get_or all 0 0) e
