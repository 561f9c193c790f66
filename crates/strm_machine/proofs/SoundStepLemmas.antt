-- Every step leaves a sound state, by its shape.
use Rattle.std.proofs.Common.{◌≡◌, ℕ, arith, List, [], ◌∷◌, ◌++◌, length, Option, Some, None, refl}
use Rattle.std.specs.Prelude.{replicate, sum}
use Rattle.std.proofs.lemmas.List.{length-replicate}
use Rattle.std.proofs.lemmas.List.Sums.{sum-map}
use Rattle.strm_machine.specs.Words.{Guest, ReturnCode, no_handles, no_sets, put_at, State, memory_in, with_memory, stream_at, Operated, named, stream_named, Reaction, written_back, IsSound, NamedEnd, Act, Make, Side}
use Rattle.strm_machine.specs.State.{bytes_in_use, own_size}
use Rattle.strm_machine.specs.Soundness.{own_sizes_of}
use Rattle.strm_machine.specs.Refusals.{refusal}
use Rattle.strm_machine.specs.Reactions.{makes, on_set, on_context, reaction}
use Rattle.strm_machine.specs.WaitableSets.{with_set}
use Rattle.strm_machine.specs.ErrorContexts.{message_in, with_context}
use Rattle.strm_machine.specs.declared.acts.Making.TheVariants.{Set, Context}
use Rattle.strm_machine.specs.declared.acts.SetAct.{SetAct}
use Rattle.strm_machine.specs.declared.acts.ContextAct.{ContextAct}
use Rattle.strm_machine.specs.declared.acts.Act.TheVariants.{OnSet, OnContext}
use Rattle.strm_machine.proofs.BoundLemmas.{length-poked}
use Rattle.strm_machine.proofs.RefusalLemmas.{GuestFits, BytesFit}
use Rattle.strm_machine.proofs.SoundLemmas.{IsSound-guest, IsSound-guests, IsSound-turn, IsSound-with_stream, IsSound-table, IsSound-set}
use Rattle.strm_machine.proofs.MoveLemmas.{IsSound-owned}
use Rattle.strm_machine.proofs.TurnLemmas.{GuestsKeep, TurnKeeps, operated-keeps, with_memory-keeps}
use Rattle.strm_machine.proofs.Shapes.{stream_on, begun_on, turn_on, Operates, Shape, ByTurn, BySetting, ByOwner, ByTable, ByPair, ByGuest, ByPut, ByRest}
use Rattle.strm_machine.proofs.SetStepLemmas.{set_fits, set_new-shape, set-known}
use Rattle.strm_machine.proofs.ContextStepLemmas.{context_fits, context_new-shape, context-known}
use Rattle.strm_machine.proofs.ShapeLemmas.{reaction-shape}

pub operate-keeps : (state : State) (side : Side) (end : NamedEnd) (address count : ℕ) → Operates state side end address count → TurnKeeps state.guests (stream_on state end) (turn_on state side end address count)
operate-keeps state side end address count o = operated-keeps side state.guests (stream_on state end) (begun_on end address count) o.streams o.placed

written-sound : (state : State) (s : ℕ) (t : Operated) (code : Option ReturnCode) → TurnKeeps state.guests (stream_at state s) t → IsSound state → IsSound (written_back state s t code).state
written-sound state s t (Some code) k h = IsSound-turn state s t k h
written-sound state s t None k h =
    let sound = IsSound-turn state s t k h in record { named = sound.named; placed = sound.placed; small = sound.small; own = sound.own; sets = sound.sets; contexts = sound.contexts }

-- bytes put where they may be keep the memory's length
pub poke-keeps : (state : State) (g address : ℕ) (bytes : List ℕ) → BytesFit state g address (length bytes) → GuestsKeep state.guests (with_memory state.guests g (put_at (memory_in state.guests g) address bytes))
poke-keeps state g address bytes fits =
    let memory = memory_in state.guests g in
    with_memory-keeps state.guests g (put_at memory address bytes) (length-poked memory address bytes fits.inside)

-- a guest more
pub guest-sound : (state : State) (size : ℕ) → GuestFits state size → IsSound state → IsSound (record state { guests = state.guests ++ (record { memory = replicate size 0; base = None; handles = no_handles; sets = no_sets }) ∷ [] })
guest-sound state size fits h =
    let guest : Guest = record { memory = replicate size 0; base = None; handles = no_handles; sets = no_sets } in
    let many : length guest.memory ≡ size = length-replicate {A = ℕ} size 0 in
    let total : sum (own_sizes_of state.guests) ≡ bytes_in_use state = sum-map own_size state.guests in
    IsSound-guest state guest refl refl (omega (arith, many, fits.bytes)) (omega (arith, total, many, fits.bytes)) h

pub shape-sound : (state : State) (act : Act) (r : Reaction) → IsSound state → Shape state act r → IsSound r.state
shape-sound state act r h (ByTurn side end address count a e o) =
    let t = turn_on state side end address count in
    rw e (written-sound state (stream_named (named state end)) t t.code (operate-keeps state side end address count o) h)
shape-sound state act r h (BySetting reply x e s) =
    rw e (IsSound-set state x.stream x.side x.end s.made s.becomes.left h)
shape-sound state act r h (ByOwner reply x e o) = rw e (IsSound-owned state reply x o h)
shape-sound state act r h (ByTable reply x e t) = rw e (IsSound-table state x.guest x.handles x.sets x.contexts t.named t.holds t.counts h)
shape-sound state act r h (ByPair writer reader ty a e fits) = rw e (IsSound-with_stream state writer reader ty fits.read fits.write h)
shape-sound state act r h (ByGuest size a e fits) = rw e (guest-sound state size fits h)
shape-sound state act r h (ByPut reply g address bytes e p) = rw e (IsSound-guests state _ (poke-keeps state g address bytes p.fits) h)
shape-sound state act r h (ByRest reply e none) = rw e h

pub reaction-sound : (state : State) (act : Act) → IsSound state → IsSound (reaction state act).state
reaction-sound state act h = shape-sound state act (reaction state act) h (reaction-shape state act h)

-- what is done to a set, and a set more
pub on_set-sound : (state : State) (g set : ℕ) (act : SetAct) → IsSound state → refusal state (OnSet g set act) ≡ None → IsSound (on_set state g set act).state
on_set-sound state g set act h e = shape-sound state (OnSet g set act) (on_set state g set act) h ((set-known state g set act).shape h e)

pub with_set-sound : (state : State) (g : ℕ) → IsSound state → refusal state (Make (Set g)) ≡ None → IsSound (with_set state g)
with_set-sound state g h e = shape-sound state (Make (Set g)) (makes state (Set g)) h (set_new-shape state g h (set_fits state g e))

-- what is done to an error context, and one more
pub on_context-sound : (state : State) (g handle : ℕ) (act : ContextAct) → IsSound state → refusal state (OnContext g handle act) ≡ None → IsSound (on_context state g handle act).state
on_context-sound state g handle act h e = shape-sound state (OnContext g handle act) (on_context state g handle act) h ((context-known state g handle act).shape h e)

pub with_context-sound : (state : State) (g address len : ℕ) → IsSound state → refusal state (Make (Context g address len)) ≡ None → IsSound (with_context state g (message_in state g address len))
with_context-sound state g address len h e =
    shape-sound state (Make (Context g address len)) (makes state (Context g address len)) h (context_new-shape state g address len h (context_fits state g address len e))
