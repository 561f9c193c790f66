-- What each step leaves of memories: all bytes but those that it pokes or receives items at.
use Rattle.std.proofs.Common.{Bool, List, None, Option, Some, [], ap, arith, cond, drop, false, get_or, inl, inr, length, length-append, length-set, min, refl, set, subst, suc, sym, take, zero, ℕ, ℤ, ◌*◌, ◌++◌, ◌+◌, ◌-◌, ◌<◌, ◌^◌, ◌∙◌, ◌∷◌, ◌≡◌, ◌≤◌, ◌⊎◌}
use Rattle.std.proofs.lemmas.Bool.{cases_eq, cases_lt, cond_both}
use Rattle.std.proofs.lemmas.List.{append_assoc, get_or-set_same, get_or_append_left, length-map, take-append-drop}
use Rattle.strm_machine.specs.Words.{Guest, item_size, item_type, ReturnCode, TransmitIndex, Payload, Handles, Sets, no_handles, no_sets, Moment, names, received, advanced, carried, Reaction, goes, operates, written_back, end_of, opposite, same_side, with_operation, IsPlaced, IsSound, OperationIsPlaced, sizes_of, State, guest_in, memory_in, no_guest, no_stream, sets_in, stream_at, with_handles, with_memory, with_table, named, stream_named, Operated, with_received, Operation, Side, Reading, Writing, Stream, put_at, items_at, stored_at, NamedEnd, Act, Make, Reply, ItemType}
use Rattle.strm_handles.specs.Handles.{inserted}
use Rattle.strm_machine.proofs.EndLemmas.{read_fits, with_operation-count}
use Rattle.strm_machine.proofs.Lawful.{HasRoom, as_moment}
use Rattle.strm_machine.proofs.NamedEndLemmas.{named_itself}
use Rattle.strm_machine.proofs.SoundStepLemmas.{operate-keeps, poke-keeps}
use Rattle.strm_machine.proofs.Shapes.{operating, stream_on, begun_on, turn_on, Operates, set_by, owned_by, tabled_by, Puts, Shape, ByTurn, BySetting, ByOwner, ByTable, ByPair, ByGuest, ByPut, ByRest}
use Rattle.strm_machine.proofs.ShapeLemmas.{reaction-shape}
use Rattle.strm_machine.proofs.TurnChangeLemmas.{place_by, rose, there}
use Rattle.strm_machine.specs.Moments.{MemoryPlace, place_of, read_place, target}
use Rattle.strm_machine.specs.Untouched.{LiesApart, Region, StaysAside, bytes_of, put_by, received_by}
use Rattle.strm_machine.proofs.BoundLemmas.{within, bytes_inside}
use Rattle.strm_machine.proofs.CarryLemmas.{carried-nothing}
use Rattle.strm_machine.proofs.SideLemmas.{end_placed, read_of-placed}
use Rattle.strm_machine.proofs.MoveLemmas.{length-by, memory_in-by}
use Rattle.strm_machine.proofs.StateLemmas.{memory_in-with_memory, memory_in-with_memory_other, memory_in-with_table}
use Rattle.strm_machine.proofs.TurnLemmas.{front_inside, size_in}
use Rattle.strm_machine.specs.Making.{read_entry, with_stream}
use Rattle.strm_machine.specs.Reactions.{makes, reaction}
use Rattle.strm_machine.specs.Sides.{read_of, write_of}
use Rattle.strm_machine.specs.State.{is_gone, with_bytes}
use Rattle.strm_machine.specs.Operating.{completes_alone, finds, rendezvous_by, moves, operate}
use Rattle.strm_machine.specs.declared.streams.Meeting.{Meeting}
use Rattle.strm_machine.specs.declared.streams.Meeting.TheVariants.{BothComplete, ReadCompletes, WriteCompletes}
use Rattle.strm_memory.proofs.LoadLemmas.{option_map_some}
use Rattle.strm_memory.proofs.RegionLemmas.{bytes_at-put_at_apart, bytes_at-stored_at, length-items, stored_at-nil}
use Rattle.strm_memory.specs.Bytes.{IsApart, bytes_at}
use Rattle.strm_memory.specs.Region.{bytes_out_of_bounds}
use Rattle.strm_machine.specs.declared.acts.Making.TheVariants as makings
use Rattle.std.specs.Prelude.{replicate}

-- ## Memories

-- no guest goes, and each memory has its length
pub record SizesStay (before after : List Guest) : Type 0 where
  pub guests : length before ≤ length after
  pub size : (g : ℕ) → g < length before → length (memory_in after g) ≡ length (memory_in before g)

-- all bytes apart from a region stay
abbrev pub BytesStay : List Guest → List Guest → Region → Type 0
BytesStay before after touched = (r : Region) → r.place.guest < length before → LiesApart r touched → bytes_of after r ≡ bytes_of before r

SizesStay-kept : (before after : List Guest) → sizes_of after ≡ sizes_of before → SizesStay before after
SizesStay-kept before after e = record {
  guests = omega (arith, length-map before (λ g. length g.memory), length-map after (λ g. length g.memory), ap length e);
  size = λ g l. sym (size_in after g) ∙ ap (λ xs. get_or xs g 0) e ∙ size_in before g;
}

-- only what is put is touched, or only what is received on one stream
stays_put : (m : Moment) → SizesStay m.before.guests m.after.guests → BytesStay m.before.guests m.after.guests (put_by m.act m.reply) → StaysAside m
stays_put m s b = record { guests = s.guests; size = s.size; bytes = λ r l u. b r l u.put }

stays_received : (s : ℕ) (m : Moment) → SizesStay m.before.guests m.after.guests → BytesStay m.before.guests m.after.guests (received_by s m) → StaysAside m
stays_received s m k b = record { guests = k.guests; size = k.size; bytes = λ r l u. b r l (u.got s) }

-- all memories are as they were
stays_all : (m : Moment) → length m.before.guests ≤ length m.after.guests → ((g : ℕ) → g < length m.before.guests → memory_in m.after.guests g ≡ memory_in m.before.guests g) → StaysAside m
stays_all m n e = record {
  guests = n;
  size = λ g l. ap length (e g l);
  bytes = λ r l u. ap (λ memory. bytes_at memory r.place.address r.size) (e r.place.guest l);
}

pub StaysAside-same : (m : Moment) → m.after.guests ≡ m.before.guests → StaysAside m
StaysAside-same m e = stays_all m (omega (arith, ap length e)) (λ g l. ap (λ guests. memory_in guests g) e)

-- bytes of one memory, where another is put in its place
bytes_with : (guests : List Guest) (g : ℕ) (memory : List ℕ) (r : Region) → g < length guests → (r.place.guest ≡ g → bytes_at memory r.place.address r.size ≡ bytes_at (memory_in guests g) r.place.address r.size) → bytes_of (with_memory guests g memory) r ≡ bytes_of guests r
bytes_with guests g memory r l same =
    elim (cases_eq r.place.guest g) [
      | inl e ↦ rw e (ap (λ b. bytes_at b r.place.address r.size) (memory_in-with_memory guests g memory l) ∙ same e)
      | inr ne ↦ ap (λ b. bytes_at b r.place.address r.size) (memory_in-with_memory_other guests g r.place.guest memory ne)
    ]

-- bytes that are put into it
put_stays : (memory : List ℕ) (address : ℕ) (new : List ℕ) (other size : ℕ) → bytes_out_of_bounds (length memory) address (length new) ≡ false → (0 < size → 0 < length new → IsApart address (length new) other size) → bytes_at (put_at memory address new) other size ≡ bytes_at memory other size
put_stays memory address new other zero inside apart = refl
put_stays memory address [] other (suc size) inside apart =
    ap (λ b. bytes_at b other (suc size)) (append_assoc (take address memory) [] (drop (address + length {A = ℕ} []) memory) ∙ ap (λ k. take address memory ++ drop k memory) nothing ∙ take-append-drop address memory)
  where
    nothing : address + length {A = ℕ} [] ≡ address
    nothing = omega arith
put_stays memory address (b ∷ new) other (suc size) inside apart =
    bytes_at-put_at_apart memory address (b ∷ new) other (suc size) (bytes_inside (length memory) address (length (b ∷ new)) inside (omega arith)) (apart (omega arith) (omega arith))

-- ## Items received

positive : (a b : ℕ) → 0 < a → 0 < b → 0 < a * b
positive a b h k = grind arith

-- items of some bytes that are stored in a region
module _ (ss : ItemType) (memory : List ℕ) (address other : ℕ) (some : 0 < item_size ss) where
  -- a region of n items is apart from so many other bytes
  abbrev LiesBeside : ℕ → ℕ → Type 0
  LiesBeside n size = 0 < size → 0 < item_size ss * n → IsApart address (item_size ss * n) other size

  stored_stays : (n : ℕ) (xs : List (List ℤ)) (size : ℕ) → length xs ≡ n → (0 < n → 0 < item_size ss → address + item_size ss * n ≤ length memory) → LiesBeside n size → bytes_at (stored_at ss memory address xs) other size ≡ bytes_at memory other size
  stored_stays n xs zero e room apart = refl
  stored_stays zero [] (suc size) e room apart = rw (stored_at-nil ss memory address) refl
  stored_stays zero (x ∷ xs) (suc size) e room apart = absurd (omega (arith, e))
  stored_stays (suc n) xs (suc size) e room apart =
      bytes_at-stored_at ss memory address xs other (suc size) (rw e (room (omega arith) some)) (rw e (apart (omega arith) (positive (item_size ss) (suc n) some (omega arith))))

-- where n items of a read that waits or is called are received
abbrev region_of : Payload → Operation → ℕ → Region
region_of payload read n = record { place = place_of (Some read); size = item_size (item_type payload) * n }

carried_stays : (guests after : List Guest) (payload : Payload) (write read : Operation) (n : ℕ) → read.guest < length guests → n ≤ read.left → IsPlaced (sizes_of guests) payload read → carried guests payload write read n ≡ Some after → BytesStay guests after (region_of payload read n)
carried_stays guests after payload write read n there fit placed e r l apart =
    let ss = item_type payload in
    let memory = memory_in guests read.guest in
    elim (cases_lt 0 (item_size ss)) [
      | inr none ↦ ap (λ gs. bytes_of gs r) (option_same after guests (sym e ∙ carried-nothing guests payload write read n (omega (arith, none))))
      | inl some ↦ option_map_some _ (items_at ss (memory_in guests write.guest) write.address n) after e
          (λ xs p q.
          let room = within (length memory) ss read.address n (front_inside guests payload read n fit placed) in
          ap (λ gs. bytes_of gs r) (sym q)
          ∙ bytes_with guests read.guest (stored_at ss memory read.address xs) r there
          (λ f. stored_stays ss memory read.address r.place.address some n xs r.size (length-items ss _ n xs p) room (apart f)))
    ]
  where
    option_same : (a b : List Guest) → Some a ≡ Some b → a ≡ b
    option_same a b f = cc

-- ## A read or write

region_same : (p q : MemoryPlace) (a b : ℕ) → p ≡ q → a ≡ b → ◌≡◌ {A = Region} (record { place = p; size = a }) (record { place = q; size = b })
region_same p q a b e f = rw (e, f) refl

-- where items are received in the turn of a call
abbrev region_by : Side → Stream → Operation → Operated → Region
region_by side stream mine t = record { place = place_by side stream mine; size = item_size (item_type stream.payload) * (t.stream.received - stream.received) }

place_by-read : (side : Side) (stream : Stream) (mine theirs : Operation) → (end_of (opposite side) stream).operation ≡ Some theirs → place_by side stream mine ≡ place_of (Some (read_of side mine theirs))
place_by-read Writing stream mine theirs e = ap place_of e
place_by-read Reading stream mine theirs e = refl

module _ (side : Side) (guests : List Guest) (stream : Stream) (mine : Operation) (room : stream.received + 2 ^ 28 < 2 ^ 128) (placed : IsPlaced (sizes_of guests) stream.payload mine) where
  abbrev Stays : Operated → Type 0
  Stays t = BytesStay guests t.guests (region_by side stream mine t)

  -- the guests after n items were carried
  abbrev Carries : Operation → ℕ → Option (List Guest) → Type 0
  Carries theirs n o = carried guests stream.payload (write_of side mine theirs) (read_of side mine theirs) n ≡ o

  carries_stay : (theirs : Operation) (n : ℕ) (o : Option (List Guest)) → (end_of (opposite side) stream).operation ≡ Some theirs → IsPlaced (sizes_of guests) stream.payload theirs → n ≤ mine.left → n ≤ theirs.left → Carries theirs n o → Stays (moves side guests stream mine theirs n o)
  carries_stay theirs n None is held fit fits e r l apart = refl
  carries_stay theirs n (Some after) is held fit fits e r l apart =
      let read = read_of side mine theirs in
      let laid : IsPlaced (sizes_of guests) stream.payload read = read_of-placed side (sizes_of guests) stream.payload mine theirs placed held in
      let more = rose stream.received n room (omega (arith, placed.counted)) in
      let new = with_operation (opposite side) (with_received stream n) (advanced stream.payload theirs n) in
      let rise : new.received - stream.received ≡ n = omega (arith, more, with_operation-count (opposite side) (with_received stream n) (advanced stream.payload theirs n)) in
      let here : region_by side stream mine (moves side guests stream mine theirs n (Some after)) ≡ region_of stream.payload read n =
      region_same (place_by side stream mine) (place_of (Some read)) _ _ (place_by-read side stream mine theirs is) (ap (λ k. item_size (item_type stream.payload) * k) rise) in
      carried_stays guests after stream.payload (write_of side mine theirs) read n (there guests stream.payload read laid) (read_fits mine theirs side n fit fits) laid e r l (subst (LiesApart r) here apart)

  alone_stays : (who : Side) (theirs : Operation) → Stays (completes_alone who side guests stream mine theirs)
  alone_stays who theirs = cond_both (same_side who side) _ _ Stays (λ e r l apart. refl) (λ e r l apart. refl)

  meets_stay : (meeting : Meeting) (theirs : Operation) → (end_of (opposite side) stream).operation ≡ Some theirs → IsPlaced (sizes_of guests) stream.payload theirs → Stays (rendezvous_by meeting side guests stream mine theirs)
  meets_stay BothComplete theirs is held = carries_stay theirs (min mine.left theirs.left) _ is held (omega arith) (omega arith) refl
  meets_stay WriteCompletes theirs is held = alone_stays Writing theirs
  meets_stay ReadCompletes theirs is held = alone_stays Reading theirs

  finds_stay : (o : Option Operation) → (end_of (opposite side) stream).operation ≡ o → OperationIsPlaced (sizes_of guests) stream.payload o → Stays (finds side guests stream mine o)
  finds_stay None is held = λ r l apart. refl
  finds_stay (Some theirs) is held =
      cond_both theirs.is_open _ _ Stays
      (λ e. meets_stay _ theirs is held)
      (λ e r l apart. refl)

  pub turn_stays : OperationIsPlaced (sizes_of guests) stream.payload (end_of (opposite side) stream).operation → Stays (operate side guests stream mine)
  unfolding operate
  turn_stays held =
      cond_both (is_gone (end_of (opposite side) stream).owner) _ _ Stays
      (λ e r l apart. refl)
      (λ e. finds_stay (end_of (opposite side) stream).operation refl held)

-- where the act of a call has its items, by whether it names the read end
target_by : (side : Side) (b : Bool) (end : NamedEnd) (address count : ℕ) (stream : Stream) → b ≡ same_side side Reading → cond b (read_place (operating side end address count) (place_of stream.reader.operation)) (place_of stream.reader.operation) ≡ place_by side stream (begun_on end address count)
target_by Writing b end address count stream e = rw e refl
target_by Reading b end address count stream e = rw e refl

back_guests : (state : State) (s : ℕ) (t : Operated) (code : Option ReturnCode) → (written_back state s t code).state.guests ≡ t.guests
back_guests state s t None = refl
back_guests state s t (Some code) = refl

back_stream : (state : State) (s : ℕ) (t : Operated) (code : Option ReturnCode) → s < length state.streams → stream_at (written_back state s t code).state s ≡ t.stream
back_stream state s t None l = get_or-set_same state.streams s t.stream no_stream l
back_stream state s t (Some code) l = get_or-set_same state.streams s t.stream no_stream l

-- a write that finds no read changes no memory
unread_guests : (guests : List Guest) (stream : Stream) (mine : Operation) → stream.reader.operation ≡ None → (operate Writing guests stream mine).guests ≡ guests
unfolding operate
unread_guests guests stream mine o =
    cond_both (is_gone stream.reader.owner) _ _ (λ (t : Operated). t.guests ≡ guests)
    (λ g. refl)
    (λ g. subst (λ p. (finds Writing guests stream mine p).guests ≡ guests) (sym o) refl)

-- a read or write that is called finds no read, or the count of its stream has room
abbrev pub FindsRoom : State → Side → NamedEnd → Type 0
FindsRoom state side end =
    ((side ≡ Writing) × ((stream_on state end).reader.operation ≡ None)) ⊎ (received (stream_named (named state end)) state + 2 ^ 28 < 2 ^ 128)

unread_stays : (state : State) (side : Side) (end : NamedEnd) (address count : ℕ) → side ≡ Writing → (stream_on state end).reader.operation ≡ None
    → StaysAside (as_moment state (operating side end address count) (operates state side end address count))
unread_stays state side end address count is o =
    subst (λ k. StaysAside (as_moment state (operating k end address count) (operates state k end address count))) (sym is)
    (let t = turn_on state Writing end address count in
    StaysAside-same (as_moment state (operating Writing end address count) (operates state Writing end address count))
    (back_guests state (stream_named (named state end)) t t.code ∙ unread_guests state.guests (stream_on state end) (begun_on end address count) o))

operates_stays : (state : State) (side : Side) (end : NamedEnd) (address count : ℕ) → received (stream_named (named state end)) state + 2 ^ 28 < 2 ^ 128 → Operates state side end address count → StaysAside (as_moment state (operating side end address count) (operates state side end address count))
operates_stays state side end address count room o =
    let s = stream_named (named state end) in
    let act = operating side end address count in
    let stream = stream_on state end in
    let mine = begun_on end address count in
    let t = turn_on state side end address count in
    let m = as_moment state act (operates state side end address count) in
    let guests : m.after.guests ≡ t.guests = back_guests state s t t.code in
    let rises : received s m.after ≡ t.stream.received = ap (λ (st : Stream). st.received) (back_stream state s t t.code o.found.made) in
    let place : target s m ≡ place_by side stream mine = target_by side (names s Reading state act m.reply) end address count stream (named_itself state act m.reply s side Reading (o.found.named m.reply)) in
    let here : received_by s m ≡ region_by side stream mine t = region_same (target s m) (place_by side stream mine) _ _ place (ap (λ k. item_size (item_type stream.payload) * (k - stream.received)) rises) in
    let stay = turn_stays side state.guests stream mine room o.placed (end_placed (opposite side) (sizes_of state.guests) stream o.streams) in
    stays_received s m
    (subst (SizesStay state.guests) (sym guests) (SizesStay-kept state.guests t.guests (operate-keeps state side end address count o).guests.sizes))
    (λ r k apart. ap (λ gs. bytes_of gs r) guests ∙ stay r k (subst (LiesApart r) here apart))

-- ## Every step

bytes_stay : (state : State) (act : Act) (reply : Reply) (g address : ℕ) (bytes : List ℕ) → Puts state act reply g address bytes → StaysAside (as_moment state act (goes reply (with_bytes state g address bytes)))
bytes_stay state act reply g address bytes p =
    let memory = memory_in state.guests g in
    let m = as_moment state act (goes reply (with_bytes state g address bytes)) in
    stays_put m
    (SizesStay-kept state.guests m.after.guests (poke-keeps state g address bytes p.fits).sizes)
    (subst (BytesStay state.guests m.after.guests) (sym p.where_)
    (λ r l apart. bytes_with state.guests g (put_at memory address bytes) r p.fits.there (λ f. put_stays memory address bytes r.place.address r.size p.fits.inside (apart f))))

-- a guest behind the others
guest_stays : (state : State) (size : ℕ) → StaysAside (as_moment state (Make (makings.Guest size)) (makes state (makings.Guest size)))
guest_stays state size =
    let guest : Guest = record { memory = replicate size 0; base = None; handles = no_handles; sets = no_sets } in
    stays_all (as_moment state (Make (makings.Guest size)) (makes state (makings.Guest size)))
    (omega (arith, length-append state.guests (guest ∷ [])))
    (λ g l. ap (λ (k : Guest). k.memory) (get_or_append_left state.guests (guest ∷ []) no_guest g l))

table_stays : (m : Moment) (guests : List Guest) (g : ℕ) (handles : Handles) (sets : Sets) → length m.before.guests ≤ length guests → ((k : ℕ) → memory_in guests k ≡ memory_in m.before.guests k) → m.after.guests ≡ with_table guests g handles sets → StaysAside m
table_stays m guests g handles sets n same e =
    stays_all m
    (omega (arith, n, ap length e, length-set guests g (record (guest_in guests g) { handles = handles; sets = sets })))
    (λ k l. ap (λ gs. memory_in gs k) e ∙ memory_in-with_table guests g handles sets k ∙ same k)

pair_stays : (state : State) (writer reader : ℕ) (ty : TransmitIndex) → StaysAside (as_moment state (Make (makings.Between writer reader ty)) (makes state (makings.Between writer reader ty)))
unfolding with_stream
pair_stays state writer reader ty =
    let m = as_moment state (Make (makings.Between writer reader ty)) (makes state (makings.Between writer reader ty)) in
    let new = inserted (guest_in state.guests reader).handles (read_entry ty (length state.streams)) in
    table_stays m (with_handles state.guests reader new) writer _ _
    (omega (arith, length-set state.guests reader (record (guest_in state.guests reader) { handles = new })))
    (memory_in-with_table state.guests reader new (sets_in state.guests reader)) refl

-- so does whatever this act calls
abbrev pub FindsRoomFor : State → Act → Type 0
FindsRoomFor state act = (side : Side) (end : NamedEnd) (address count : ℕ) → act ≡ operating side end address count → Operates state side end address count → FindsRoom state side end

shape-stays : (state : State) (act : Act) (r : Reaction) → FindsRoomFor state act → Shape state act r → StaysAside (as_moment state act r)
shape-stays state act r room (ByTurn side end address count a e o) =
    rw (a, e)
    (elim (room side end address count a o) [
      | inl none ↦ unread_stays state side end address count none.0 none.1
      | inr l ↦ operates_stays state side end address count l o
    ])
shape-stays state act r room (BySetting reply x e set) = rw e (StaysAside-same (as_moment state act (goes reply (set_by state x))) refl)
shape-stays state act r room (ByOwner reply x e o) =
    rw e (stays_all (as_moment state act (goes reply (owned_by state x))) (omega (arith, length-by state.guests x)) (λ g l. memory_in-by state.guests x g))
shape-stays state act r room (ByTable reply x e t) =
    rw e (table_stays (as_moment state act (goes reply (tabled_by state x))) state.guests x.guest x.handles x.sets (omega arith) (λ k. refl) refl)
shape-stays state act r room (ByPair writer reader ty a e fits) = rw (a, e) (pair_stays state writer reader ty)
shape-stays state act r room (ByGuest size a e fits) = rw (a, e) (guest_stays state size)
shape-stays state act r room (ByPut reply g address bytes e p) = rw e (bytes_stay state act reply g address bytes p)
shape-stays state act r room (ByRest reply e none) = rw e (StaysAside-same (as_moment state act (goes reply state)) refl)

pub reaction-stays_at : (state : State) (act : Act) → IsSound state → FindsRoomFor state act → StaysAside (as_moment state act (reaction state act))
reaction-stays_at state act h room = shape-stays state act (reaction state act) room (reaction-shape state act h)

pub reaction-stays : (state : State) (act : Act) → IsSound state → HasRoom state → StaysAside (as_moment state act (reaction state act))
reaction-stays state act h room = reaction-stays_at state act h (λ side end address count e o. inr (room (stream_named (named state end))))
