-- The generator's steps are of guests alone, and each item that they move is one.
use Rattle.std.proofs.Common.{◌≡◌, ℕ, zero, suc, ◌%◌, ◌^◌, ◌<◌, ◌==◌, true, List, [], ◌∷◌, ◌++◌, length, take, drop, min, Some, None, refl, sym, ap, ◌∙◌, subst, ⊎_elim, ◌≤◌, arith}
use Rattle.std.specs.Prelude.{All, nat_lt, slice_get}
use Rattle.std.specs.List.{range_with_len}
use Rattle.std.proofs.lemmas.Bool.{cond_both, cases_lt}
use Rattle.std.proofs.lemmas.List.{take_all}
use Rattle.std.proofs.lemmas.List.Elements.{All-get_or, All-nil, All-cons}
use Rattle.std.proofs.lemmas.Option.{slice_get_within, get_or_from_slice_get}
use Rattle.strm_codes.specs.Layout.{item_type}
use Rattle.strm_codes.specs.Types.{payload_of}
use Rattle.strm_codes.specs.declared.payloads.Payload.{Payload}
use Rattle.strm_codes.specs.declared.payloads.Payload.TheVariants.{One}
use Rattle.strm_codes.specs.declared.scalars.Scalar.TheVariants.{U8}
use Rattle.strm_memory.specs.Items.{items_at}
use Rattle.strm_memory.proofs.RegionLemmas.{items-number_or_none}
use Rattle.strm_machine.specs.State.{State, memory_in, stream_at}
use Rattle.strm_machine.specs.Sides.{write_of}
use Rattle.strm_machine.specs.Tests.{named, stream_named}
use Rattle.strm_machine.specs.Refusals.{refusal, region_reasons, handle_reasons, own_reasons}
use Rattle.strm_machine.specs.Soundness.{IsSound}
use Rattle.strm_buffers.specs.Tells.{Tells}
use Rattle.strm_machine.specs.declared.streams.Side.TheVariants.{Writing}
use Rattle.strm_host_machine.specs.World.{World, stream_in}
use Rattle.strm_host_machine.specs.HostPlays.{HostPlayed, host_play, Ends}
use Rattle.strm_host_machine.specs.HostRefusals.{refusal_in}
use Rattle.strm_host_machine.specs.Asking.{AsksBadItem, ByGuest, InCall, InDrive, asked_by, with_write}
use Rattle.strm_host_machine.proofs.AskingLemmas.{opened-payload}
use Rattle.strm_host_machine.proofs.OutcomeLemmas.{refusal_in-on_end}
use Rattle.strm_host_laws.specs.HostMoments.{host_moments, end_world}
use Rattle.strm_machine.specs.Acts.{act_of}
use Rattle.strm_machine.specs.declared.acts.NamedEnd.{NamedEnd}
use Rattle.strm_machine.specs.declared.acts.EndAct.TheVariants.{Operate}
use Rattle.strm_machine.specs.declared.acts.Act.TheVariants.{OnEnd}
use Rattle.strm_machine.specs.declared.streams.Side.{Side}
use Rattle.strm_machine.specs.declared.steps.Step.{Step}
use Rattle.strm_machine.specs.declared.steps.Step.TheVariants.{Guest, Between, Poke, Write, Read, Event, Move}
use Rattle.strm_machine.specs.declared.replies.Reply.{Reply}
use Rattle.strm_machine.proofs.RefusalLemmas.{none_of_both, named_ok}
use Rattle.strm_machine.proofs.NamedEndLemmas.{found_payload}
use Rattle.strm_lines.proofs.GeneratorLemmas.{length-generated}
use Rattle.strm_lines.specs.Generator.{next_state, drawn, byte_stream, drawn_step, drawn_steps, first_steps, generated}
use Rattle.strm_transmit.specs.Guests.{is_of_guests}
use Rattle.strm_session.proofs.KeptLemmas.{all_laws}
use Rattle.strm_session.specs.Runs.{start_among, AreOfGuests, HasLawsAmong, IsKeptBefore, StopsAmong, StopsBy}
use Rattle.strm_session.specs.declared.runs.RunCause.{RunCause}
use Rattle.strm_session.specs.declared.runs.RunCause.TheVariants as causes

-- a step of guests alone, whose reads and writes are of a stream of bytes
record IsDrawn (step : Step) : Type 0 where
  alone : is_of_guests (act_of step) ≡ true
  bytes : (side : Side) (end : NamedEnd) (address count : ℕ) → act_of step ≡ OnEnd side end (Operate address count) → end.ty ≡ byte_stream

drawn_write : (b c : ℕ) → IsDrawn (Write 0 byte_stream 1 b c)
drawn_write b c = record { alone = refl; bytes = λ side end address count e. cc }

drawn_read : (b c : ℕ) → IsDrawn (Read 1 byte_stream 1 b c)
drawn_read b c = record { alone = refl; bytes = λ side end address count e. cc }

drawn_event : (g : ℕ) → IsDrawn (Event g 1)
drawn_event g = record { alone = refl; bytes = λ side end address count e. cc }

drawn_move : IsDrawn (Move 0 byte_stream 1 0)
drawn_move = record { alone = refl; bytes = λ side end address count e. cc }

drawn_one : (a b c : ℕ) → IsDrawn (drawn_step a b c)
drawn_one a b c =
    cond_both (nat_lt (a % 8) 3) (Write 0 byte_stream 1 b (c % 1024)) _ IsDrawn (λ t. drawn_write b (c % 1024))
    (λ t. cond_both (nat_lt (a % 8) 6) (Read 1 byte_stream 1 b (c % 1024)) _ IsDrawn (λ u. drawn_read b (c % 1024))
    (λ u. cond_both (a % 8 == 6) (Event 0 1) _ IsDrawn (λ v. drawn_event 0)
    (λ v. cond_both (b % 2 == 0) (Event 1 1) (Move 0 byte_stream 1 0) IsDrawn (λ w. drawn_event 1) (λ w. drawn_move))))

all_drawn : (n x : ℕ) → All IsDrawn (drawn_steps n x)
unfolding drawn_steps
all_drawn zero x = All-nil IsDrawn
all_drawn (suc n) x = All-cons IsDrawn _ _ (drawn_one (drawn (next_state x)) (drawn (next_state (next_state x))) (drawn (next_state (next_state (next_state x))))) (all_drawn n _)

drawn_guest : IsDrawn (Guest 65536)
drawn_guest = record { alone = refl; bytes = λ side end address count e. cc }

drawn_pair : IsDrawn (Between 0 1 byte_stream)
drawn_pair = record { alone = refl; bytes = λ side end address count e. cc }

drawn_poke : (bytes : List ℕ) → IsDrawn (Poke 0 0 bytes)
drawn_poke bytes = record { alone = refl; bytes = λ side end address count e. cc }

drawn_first : (steps : List Step) → All IsDrawn steps → All IsDrawn (first_steps ++ steps)
drawn_first steps h =
    let poked = Poke 0 0 (range_with_len 0 64) ∷ steps in
    let paired = Between 0 1 byte_stream ∷ poked in
    All-cons IsDrawn (Guest 65536) (Guest 65536 ∷ paired) drawn_guest
    (All-cons IsDrawn (Guest 65536) paired drawn_guest
    (All-cons IsDrawn (Between 0 1 byte_stream) poked drawn_pair
    (All-cons IsDrawn (Poke 0 0 (range_with_len 0 64)) steps (drawn_poke (range_with_len 0 64)) h)))

all_generated : (n seed : ℕ) → All IsDrawn (generated n seed)
all_generated n seed = drawn_first (drawn_steps n (seed % 2 ^ 31)) (all_drawn n (seed % 2 ^ 31))

alone_all : (steps : List Step) → All IsDrawn steps → AreOfGuests steps
alone_all steps h = λ k d l. (h k d l).alone

pub generated_alone : (n seed : ℕ) → AreOfGuests (generated n seed)
generated_alone n seed = alone_all (generated n seed) (all_generated n seed)

-- a stream of bytes is named where nothing is refused
bytes_named : (state : State) (side : Side) (end : NamedEnd) (address count : ℕ) → IsSound state → end.ty ≡ byte_stream → refusal state (OnEnd side end (Operate address count)) ≡ None → (stream_at state (stream_named (named state end))).payload ≡ One U8
unfolding refusal
bytes_named state side end address count h t e =
    let name = named state end in
    let first = none_of_both (region_reasons state end.guest end.ty address count) (handle_reasons name ++ own_reasons state side end (Operate address count)) e in
    let second = none_of_both (handle_reasons name) (own_reasons state side end (Operate address count)) first.1 in
    found_payload state end h (named_ok state end second.0) ∙ ap payload_of t

-- any bytes are items of it
bytes_fit : (payload : Payload) (memory : List ℕ) (address n : ℕ) → payload ≡ One U8 → items_at (item_type payload) memory address n ≡ None → ⊥
bytes_fit payload memory address n p e =
    let f = rw p at e in
    let some = items-number_or_none (One U8) (drop address memory) n refl in
    let none = rw f at some in
    cc

-- the payload of the stream that such a step reads or writes
bytes_of : (state : State) (step : Step) (s : ℕ) (side : Side) (end : NamedEnd) (address count : ℕ) → IsSound state → IsDrawn step → act_of step ≡ OnEnd side end (Operate address count) → refusal state (act_of step) ≡ None → stream_named (named state end) ≡ s → (stream_at state s).payload ≡ One U8
bytes_of state step s side end address count h d does u e =
    ap (λ k. (stream_at state k).payload) (sym e) ∙ bytes_named state side end address count h (d.bytes side end address count does) (ap (refusal state) (sym does) ∙ u)

-- so none of the items that are asked for is bad
none_bad : (world : World) (step : Step) (s : ℕ) → IsSound world.state → IsDrawn step → AsksBadItem world step s → ⊥
none_bad world step s h d (ByGuest b) =
    let a = b.asks.asked in
    let write = write_of a.side a.mine a.theirs in
    bytes_fit (stream_in world s).payload (memory_in world.state.guests write.guest) write.address (min a.mine.left a.theirs.left)
    (bytes_of world.state step s a.side a.end a.address a.count h d a.does a.unrefused a.stream) b.asks.bad
none_bad world step s h d (InCall c) =
    let opened = with_write world s c.write in
    let unrefused : refusal world.state (act_of step) ≡ None = ap (refusal world.state) c.does ∙ sym (refusal_in-on_end world Writing c.end (Operate c.address c.count)) ∙ ap (refusal_in world) (sym c.does) ∙ c.unrefused in
    bytes_fit (stream_in opened s).payload (memory_in opened.state.guests c.write.guest) c.write.address (asked_by c.asks.said)
    (opened-payload world s c.write ∙ bytes_of world.state step s Writing c.end c.address c.count h d c.does unrefused c.stream) c.asks.bad
none_bad world step s h d (InDrive r) = absurd (let wrong = sym (ap is_of_guests r.does) ∙ d.alone in cc)

-- the world that the laws speak of
sound_after : (first : World) (steps : List Step) (told : List Reply) (world : World) → IsKeptBefore first steps told → host_play [] first (take (length told) steps) ≡ Ends told world → IsSound world.state
sound_after first steps told world k e =
    let front = take (length told) steps in
    let laws = subst (λ (xs : List Step). HasLawsAmong first (host_moments first xs) (end_world first (host_moments first xs))) (take_all (length front) front (omega arith)) (all_laws first (take (length front) front) (k.kept.laws (length front))) in
    let same : k.world ≡ world = ap end_of_play (sym k.before ∙ e) in
    subst (λ (w : World). IsSound w.state) (k.kept.ends ∙ same) laws.sound
  where
    end_of_play : HostPlayed → World
    end_of_play (Ends all end) = end
    end_of_play _ = world

step_drawn : (steps : List Step) (k : ℕ) (step : Step) → All IsDrawn steps → slice_get steps k ≡ Some step → IsDrawn step
step_drawn steps k step h e = subst IsDrawn (get_or_from_slice_get steps k step step e) (All-get_or IsDrawn steps k step (slice_get_within steps k step e) h)

-- where a run of the generator's steps stops, memory had run out
module _ (old new : Tells) (n seed : ℕ) (told : List Reply) where
  pub generated_stops : (cause : RunCause) → StopsAmong old new (generated n seed) told cause → IsKeptBefore (start_among old new) (generated n seed) told → StopsBy (generated n seed) told cause → cause ≡ causes.OutOfMemory
  generated_stops (causes.BadItem stream) s k b =
      let asks = s.asks.asks in
      absurd (none_bad asks.world asks.step stream (sound_after (start_among old new) (generated n seed) told asks.world k asks.before) (step_drawn (generated n seed) (length told) asks.step (all_generated n seed) asks.next) asks.bad)
  generated_stops (causes.HostFailed end) s k b = absurd b.at
  generated_stops (causes.HostBroke end) s k b = absurd b.at
  generated_stops causes.OutOfMemory s k b = refl

-- steps that were drawn
abbrev pub AreGenerated : List Step → Type 0
AreGenerated steps = (n : ℕ) × (seed : ℕ) × (steps ≡ generated n seed)

pub drawn_alone : (steps : List Step) → AreGenerated steps → AreOfGuests steps
drawn_alone steps d = subst AreOfGuests (sym d.2) (generated_alone d.0 d.1)

pub drawn_stops : (old new : Tells) (steps : List Step) → AreGenerated steps → (told : List Reply) (cause : RunCause) → StopsAmong old new steps told cause → IsKeptBefore (start_among old new) steps told → StopsBy steps told cause → cause ≡ causes.OutOfMemory
drawn_stops old new steps d told cause s k b =
    generated_stops old new d.0 d.1 told cause (subst (λ xs. StopsAmong old new xs told cause) d.2 s) (subst (λ xs. IsKeptBefore (start_among old new) xs told) d.2 k) (subst (λ xs. StopsBy xs told cause) d.2 b)

-- are few
pub drawn_few : (n seed : ℕ) (steps : List Step) → steps ≡ generated n seed → (262140 < n → ⊥) → length steps ≤ 4294967295
drawn_few n seed steps e few =
    ⊎_elim (λ l. absurd (few l)) (λ l. let same = ap length e ∙ length-generated n seed in omega (arith, same, l)) (cases_lt 262140 n)
