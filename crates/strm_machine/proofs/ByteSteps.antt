-- Every step leaves memories that are bytes, by its shape.
use Rattle.std.proofs.Common.{◌≡◌, ℕ, List, Option, Some, None, refl}
use Rattle.std.proofs.lemmas.Bool.{cond_both}
use Rattle.std.proofs.lemmas.List.Elements.{All-push, All-set}
use Rattle.strm_memory.specs.Bytes.{IsBytes}
use Rattle.strm_handles.specs.Handles.{inserted}
use Rattle.strm_waitable_sets.specs.Sets.{handle_left}
use Rattle.strm_machine.specs.Words.{Guest, ReturnCode, Handles, Sets, Entry, removed, State, guest_in, memory_in, sets_in, with_table, opposite, same_side, end_of, carried, Operated, named, stream_named, Reaction, written_back, IsSound, Act, Side, Writing, Reading, Operation, Stream}
use Rattle.strm_machine.specs.Making.{end_entry, with_stream}
use Rattle.strm_machine.specs.Moments.{PutsBytes}
use Rattle.strm_machine.specs.Reactions.{reaction}
use Rattle.strm_machine.specs.Sides.{write_of, read_of}
use Rattle.strm_machine.specs.State.{is_gone}
use Rattle.strm_machine.specs.Operating.{moves, completes_alone, rendezvous_by, finds, operate}
use Rattle.strm_machine.specs.declared.streams.Meeting.{Meeting}
use Rattle.strm_machine.specs.declared.streams.Meeting.TheVariants.{BothComplete, WriteCompletes, ReadCompletes}
use Rattle.strm_machine.proofs.ArrivalLemmas.{AreBytes, memory_bytes, AreBytes-with_memory, IsBytes-put_at, IsBytes-zeros, carried_bytes}
use Rattle.strm_machine.proofs.Shapes.{stream_on, begun_on, turn_on, guests_freed, guests_given, Shape, ByTurn, BySetting, ByOwner, ByTable, ByPair, ByGuest, ByPut, ByRest}
use Rattle.strm_machine.proofs.ShapeLemmas.{reaction-shape}

-- ## A turn

module _ (side : Side) (guests : List Guest) (stream : Stream) (mine : Operation) (h : AreBytes guests) where
  abbrev TurnBytes : Operated → Type 0
  TurnBytes t = AreBytes t.guests

  moves_bytes : (theirs : Operation) (n : ℕ) (o : Option (List Guest)) → carried guests stream.payload (write_of side mine theirs) (read_of side mine theirs) n ≡ o → TurnBytes (moves side guests stream mine theirs n o)
  moves_bytes theirs n None e = h
  moves_bytes theirs n (Some after) e = carried_bytes guests after stream.payload (write_of side mine theirs) (read_of side mine theirs) n h e

  alone_bytes : (who : Side) (theirs : Operation) → TurnBytes (completes_alone who side guests stream mine theirs)
  alone_bytes who theirs = cond_both (same_side who side) _ _ TurnBytes (λ e. h) (λ e. h)

  meets_bytes : (meeting : Meeting) (theirs : Operation) → TurnBytes (rendezvous_by meeting side guests stream mine theirs)
  meets_bytes BothComplete theirs = moves_bytes theirs _ _ refl
  meets_bytes WriteCompletes theirs = alone_bytes Writing theirs
  meets_bytes ReadCompletes theirs = alone_bytes Reading theirs

  finds_bytes : (o : Option Operation) → TurnBytes (finds side guests stream mine o)
  finds_bytes None = h
  finds_bytes (Some theirs) = cond_both theirs.is_open _ _ TurnBytes (λ e. meets_bytes _ theirs) (λ e. h)

  turn_bytes : TurnBytes (operate side guests stream mine)
  unfolding operate
  turn_bytes = cond_both (is_gone (end_of (opposite side) stream).owner) _ _ TurnBytes (λ e. h) (λ e. finds_bytes _)

-- ## A step

AreBytes-with_table : (guests : List Guest) (g : ℕ) (handles : Handles) (sets : Sets) → AreBytes guests → AreBytes (with_table guests g handles sets)
AreBytes-with_table guests g handles sets h = All-set (λ (k : Guest). IsBytes k.memory) guests g (record (guest_in guests g) { handles = handles; sets = sets }) (memory_bytes guests g h) h

AreBytes-freed : (guests : List Guest) (o : Option (ℕ × ℕ)) → AreBytes guests → AreBytes (guests_freed guests o)
AreBytes-freed guests None h = h
AreBytes-freed guests (Some f) h = AreBytes-with_table guests f.0 (removed (guest_in guests f.0).handles f.1) (handle_left (sets_in guests f.0) f.1) h

AreBytes-given : (guests : List Guest) (entry : Entry) (o : Option ℕ) → AreBytes guests → AreBytes (guests_given guests entry o)
AreBytes-given guests entry None h = h
AreBytes-given guests entry (Some g) h = AreBytes-with_table guests g (inserted (guest_in guests g).handles entry) (sets_in guests g) h

back_bytes : (state : State) (s : ℕ) (t : Operated) (code : Option ReturnCode) → AreBytes t.guests → AreBytes (written_back state s t code).state.guests
back_bytes state s t (Some code) h = h
back_bytes state s t None h = h

shape_bytes : (state : State) (act : Act) (r : Reaction) → PutsBytes act → AreBytes state.guests → Shape state act r → AreBytes r.state.guests
unfolding with_stream
shape_bytes state act r b h (ByTurn side end address count a e o) =
    let t = turn_on state side end address count in
    rw e (back_bytes state (stream_named (named state end)) t t.code (turn_bytes side state.guests (stream_on state end) (begun_on end address count) h))
shape_bytes state act r b h (BySetting reply x e set) = rw e h
shape_bytes state act r b h (ByOwner reply x e o) = rw e (AreBytes-given _ (end_entry x.side x.ty x.stream) x.taker (AreBytes-freed state.guests x.freed h))
shape_bytes state act r b h (ByTable reply x e t) = rw e (AreBytes-with_table state.guests x.guest x.handles x.sets h)
shape_bytes state act r b h (ByPair writer reader ty a e fits) = rw e (AreBytes-with_table _ writer _ _ (AreBytes-with_table state.guests reader _ _ h))
shape_bytes state act r b h (ByGuest size a e fits) = rw e (All-push (λ (k : Guest). IsBytes k.memory) state.guests _ h (IsBytes-zeros size))
shape_bytes state act r b h (ByPut reply g address bytes e p) =
    rw e (AreBytes-with_memory state.guests g _ (IsBytes-put_at (memory_in state.guests g) address bytes (memory_bytes state.guests g h) (p.bytes_put b)) h)
shape_bytes state act r b h (ByRest reply e none) = rw e h

pub reaction_bytes : (state : State) (act : Act) → PutsBytes act → IsSound state → AreBytes state.guests → AreBytes (reaction state act).state.guests
reaction_bytes state act b sound h = shape_bytes state act (reaction state act) b h (reaction-shape state act sound)
