-- An end that gets another owner: memories stay, and the state is sound.
use Rattle.std.proofs.Common.{◌≡◌, true, ℕ, ◌<◌, List, length, get_or, set, Option, Some, None, refl, ap, ◌∙◌, arith, length-set}
use Rattle.std.proofs.Math.Seq.{map-set_same}
use Rattle.std.proofs.Math.ListN.{get_or-map}
use Rattle.std.proofs.lemmas.List.{length-map}
use Rattle.strm_machine.specs.Words.{Guest, TransmitIndex, Entry, removed, State, no_stream, guest_in, sets_in, memory_in, stream_at, end_named, end_of, with_end, IsSound, Side, Writing, Reading, End, Reply, Owner}
use Rattle.strm_codes.specs.declared.codes.TransmitIndex.TheVariants as index
use Rattle.strm_codes.specs.declared.payloads.Payload.TheVariants.{Nothing}
use Rattle.std.specs.Prelude.{is_ok}
use Rattle.strm_handles.specs.Handles.{inserted}
use Rattle.strm_handles.specs.Lookups.{end_rep_in}
use Rattle.strm_waitable_sets.specs.Sets.{handle_left}
use Rattle.strm_machine.specs.Making.{end_entry}
use Rattle.strm_machine.specs.Soundness.{type_of, types_of, EntryIsNamed}
use Rattle.strm_machine.proofs.EndLemmas.{Unchanged, with_end-type}
use Rattle.strm_machine.proofs.SoundLemmas.{end_entry-ok, IsSound-freed, IsSound-given, IsSound-set}
use Rattle.strm_machine.proofs.NamedEndLemmas.{is_end-ok}
use Rattle.strm_machine.proofs.StateLemmas.{memory_in-with_table}
use Rattle.strm_machine.proofs.Shapes.{Owning, guests_freed, guests_given, guests_by, owned_by, IsFreed, IsTaken, Owns}

-- ## Guests

pub length-freed : (guests : List Guest) (o : Option (ℕ × ℕ)) → length (guests_freed guests o) ≡ length guests
length-freed guests None = refl
length-freed guests (Some h) = length-set guests h.0 (record (guest_in guests h.0) { handles = removed (guest_in guests h.0).handles h.1; sets = handle_left (sets_in guests h.0) h.1 })

length-given : (guests : List Guest) (entry : Entry) (o : Option ℕ) → length (guests_given guests entry o) ≡ length guests
length-given guests entry None = refl
length-given guests entry (Some g) = length-set guests g (record (guest_in guests g) { handles = inserted (guest_in guests g).handles entry })

memory_in-freed : (guests : List Guest) (o : Option (ℕ × ℕ)) (k : ℕ) → memory_in (guests_freed guests o) k ≡ memory_in guests k
memory_in-freed guests None k = refl
memory_in-freed guests (Some h) k = memory_in-with_table guests h.0 (removed (guest_in guests h.0).handles h.1) (handle_left (sets_in guests h.0) h.1) k

memory_in-given : (guests : List Guest) (entry : Entry) (o : Option ℕ) (k : ℕ) → memory_in (guests_given guests entry o) k ≡ memory_in guests k
memory_in-given guests entry None k = refl
memory_in-given guests entry (Some g) k = memory_in-with_table guests g (inserted (guest_in guests g).handles entry) (sets_in guests g) k

module _ (guests : List Guest) (x : Owning) where
  pub length-by : length (guests_by guests x) ≡ length guests
  length-by = length-given (guests_freed guests x.freed) (end_entry x.side x.ty x.stream) x.taker ∙ length-freed guests x.freed

  pub memory_in-by : (k : ℕ) → memory_in (guests_by guests x) k ≡ memory_in guests k
  memory_in-by k = memory_in-given (guests_freed guests x.freed) (end_entry x.side x.ty x.stream) x.taker k ∙ memory_in-freed guests x.freed k

-- ## The state is sound

-- what the handle of an end of a stream that was made stands for
pub end_entry-named : (types : List TransmitIndex) (side : Side) (ty : TransmitIndex) (s : ℕ) → s < length types → get_or types s (index.Stream Nothing) ≡ ty → EntryIsNamed types (Some (end_entry side ty s))
end_entry-named types Writing (index.Stream payload) s l e = record { there = l; typed = e; idle = refl }
end_entry-named types Writing (index.Future payload) s l e = record { there = l; typed = e; idle = refl }
end_entry-named types Reading (index.Stream payload) s l e = record { there = l; typed = e; idle = refl }
end_entry-named types Reading (index.Future payload) s l e = record { there = l; typed = e; idle = refl }

freed-sound : (state : State) (s : ℕ) (side : Side) (owner : Owner) (o : Option (ℕ × ℕ)) → IsFreed state.guests s side owner o → IsSound state → IsSound (record state { guests = guests_freed state.guests o })
freed-sound state s side owner None f h = h
freed-sound state s side owner (Some n) f h = IsSound-freed state n.0 n.1 (is_end-ok s side (end_named state n.0 n.1) f.held) h

given-sound : (state : State) (entry : Entry) (owner : Owner) (o : Option ℕ) → EntryIsNamed (types_of state.streams) (Some entry) → is_ok (end_rep_in (Some entry)) ≡ true → IsTaken state.guests owner o → IsSound state → IsSound (record state { guests = guests_given state.guests entry o })
given-sound state entry owner None p ok t h = h
given-sound state entry owner (Some g) p ok t h = IsSound-given state g entry p ok t.small h

-- the end with another owner
abbrev pub end_by : State → Owning → End
end_by state x = record (end_of x.side (stream_at state x.stream)) { owner = x.owner }

pub IsSound-owned : (state : State) (reply : Reply) (x : Owning) → Owns state reply x → IsSound state → IsSound (owned_by state x)
IsSound-owned state reply x o h =
    let stream = stream_at state x.stream in
    let streams = set state.streams x.stream (with_end x.side stream (end_by state x)) in
    let types : types_of streams ≡ types_of state.streams = map-set_same type_of state.streams x.stream (with_end x.side stream (end_by state x)) no_stream (with_end-type x.side stream (end_by state x)) in
    let there : x.stream < length (types_of streams) = omega (arith, o.made, length-map state.streams type_of, ap length types) in
    let typed = ap (λ ts. get_or ts x.stream (index.Stream Nothing)) types ∙ get_or-map type_of state.streams x.stream no_stream ∙ o.typed in
    let set = IsSound-set state x.stream x.side (end_by state x) o.made (Unchanged refl) h in
    let freed = freed-sound (record state { streams = streams }) x.stream x.side (end_of x.side stream).owner x.freed o.freed set in
    given-sound (record state { guests = guests_freed state.guests x.freed; streams = streams }) (end_entry x.side x.ty x.stream) x.owner x.taker
    (end_entry-named (types_of streams) x.side x.ty x.stream there typed) (end_entry-ok x.side x.ty x.stream) o.taken freed
