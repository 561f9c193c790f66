-- Handles and ends agree after every step, by its shape: no step makes a handle or an end alone, or takes one.
use Rattle.std.proofs.Common.{◌≡◌, ◌≢◌, ℕ, ◌<◌, true, false, List, [], ◌∷◌, ◌++◌, length, get_or, set, Option, Some, None, refl, sym, ap, ◌∙◌, subst, arith, ⊎_elim, length-set}
use Rattle.std.proofs.lemmas.Bool.{cases_eq}
use Rattle.std.proofs.lemmas.List.{get_or-set_same, get_or_push, get_or_past}
use Rattle.strm_machine.specs.Words.{Guest, ReturnCode, TransmitIndex, Handles, removed, Entry, State, no_stream, Sets, guest_in, sets_in, with_handles, with_table, stream_at, end_of, with_end, Operated, Name, named, stream_named, Reaction, written_back, is_end, Act, Reply, Gone, Side, Writing, Reading, End, Stream, Owner, Held, Loose, with_owner, is_held, is_loose}
use Rattle.strm_codes.specs.declared.codes.TransmitIndex.TheVariants as index
use Rattle.strm_handles.specs.Handles.{handle_limit, entry_at, next_index, inserted, IsTable}
use Rattle.strm_handles.specs.Lookups.{end_rep_in, end_rep_of}
use Rattle.strm_handles.proofs.HandleLemmas.{IsTable-inserted, IsTable-removed, entry_at-next_index, entry_at-inserted-same, entry_at-inserted-other, entry_at-removed-same, entry_at-removed-other}
use Rattle.strm_waitable_sets.specs.Sets.{handle_left}
use Rattle.strm_machine.specs.State.{idle_end}
use Rattle.strm_machine.specs.Making.{read_entry, write_entry, end_entry, with_read_end, made_stream, made_pair, with_stream}
use Rattle.strm_machine.specs.Reactions.{reaction}
use Rattle.strm_machine.specs.Soundness as machine
use Rattle.strm_machine.proofs.AgreeLemmas.{Agree, Agree-same, Agree-more, Agree-less, Agree-beside}
use Rattle.strm_machine.proofs.EndLemmas.{with_end-replaces}
use Rattle.strm_machine.proofs.NamedEndLemmas.{end_itself}
use Rattle.strm_machine.proofs.SoundStepLemmas.{operate-keeps}
use Rattle.strm_machine.proofs.TurnLemmas.{TurnKeeps}
use Rattle.strm_machine.proofs.RefusalLemmas.{PairFits}
use Rattle.strm_machine.proofs.TableLemmas.{handles_of-with_memory, with_end-owners, handles-same, handles-more, handles-with_same, handles-with_other, tables-with, owner_in, owner-set_same, owner-set_stays, owner-set_other, owner-push_either, owner-push_same, owner-push_other}
use Rattle.strm_machine.proofs.Shapes.{turn_on, set_by, Owning, guests_freed, guests_given, owned_by, IsFreed, IsTaken, Owns, Tabling, tabled_by, Tables, Shape, ByTurn, BySetting, ByOwner, ByTable, ByPair, ByGuest, ByPut, ByRest}
use Rattle.strm_machine.proofs.ShapeLemmas.{reaction-shape}

abbrev pub names_in : List Guest → ℕ → ℕ → Name
names_in guests g handle = end_rep_of (guest_in guests g).handles handle

-- each table is sound, so that a number given next stood for nothing; and handles and ends agree
pub record IsHeld (guests : List Guest) (streams : List Stream) : Type 0 where
  pub tables : (g : ℕ) → IsTable (guest_in guests g).handles
  pub agree : Agree (names_in guests) (owner_in streams)

abbrev pub StateIsHeld : State → Type 0
StateIsHeld state = IsHeld state.guests state.streams

-- ## What a change of guests and streams keeps

-- handles and owners are as they were
pub IsHeld-same : (guests others : List Guest) (streams more : List Stream) → ((g : ℕ) → (guest_in others g).handles ≡ (guest_in guests g).handles) → ((s : ℕ) (side : Side) → owner_in more s side ≡ owner_in streams s side) → IsHeld guests streams → IsHeld others more
IsHeld-same guests others streams more e f h = record {
  tables = λ g. subst (λ k. IsTable k) (sym (e g)) (h.tables g);
  agree = Agree-same (names_in guests) (names_in others) (owner_in streams) (owner_in more) h.agree (λ g handle s side. ap (λ k. is_end s side (end_rep_of k handle)) (e g)) f;
}

-- what each handle names, but for one number of one table
module _ (guests : List Guest) (g : ℕ) (handles : Handles) (sets : Sets) (n : ℕ) (l : g < length guests) where
  names-with : ((i : ℕ) → i ≢ n → entry_at handles i ≡ entry_at (guest_in guests g).handles i) → (k handle : ℕ) → ((k ≡ g) × (handle ≡ n) → ⊥) → names_in (with_table guests g handles sets) k handle ≡ names_in guests k handle
  names-with same k handle ne =
      ⊎_elim
      (λ e. let other : handle ≢ n = λ f. ne (e, f) in
      ap (λ i. names_in (with_table guests g handles sets) i handle) e
      ∙ ap (λ t. end_rep_of t handle) (handles-with_same guests g handles sets l)
      ∙ ap end_rep_in (same handle other)
      ∙ ap (λ i. names_in guests i handle) (sym e))
      (λ e. ap (λ t. end_rep_of t handle) (handles-with_other guests g handles sets k e))
      (cases_eq k g)

-- what the changed number stands for
names-here : (guests : List Guest) (g : ℕ) (handles : Handles) (sets : Sets) (n : ℕ) (o : Option Entry) → g < length guests → entry_at handles n ≡ o → names_in (with_table guests g handles sets) g n ≡ end_rep_in o
names-here guests g handles sets n o l e = ap (λ t. end_rep_of t n) (handles-with_same guests g handles sets l) ∙ ap end_rep_in e

-- a number that names an end stands for an entry
entry_there : (s : ℕ) (side : Side) (o : Option Entry) → is_end s side (end_rep_in o) ≡ true → (e : Entry) × (o ≡ Some e)
entry_there s side None is = cc
entry_there s side (Some e) is = (e, refl)

-- the owners of all ends but one stay
abbrev OthersStay : List Stream → List Stream → ℕ → Side → Type 0
OthersStay streams more s side = (k : ℕ) (other : Side) → ((k ≡ s) × (other ≡ side) → ⊥) → owner_in more k other ≡ owner_in streams k other

module _ (guests : List Guest) (streams more : List Stream) (g : ℕ) where
  -- the guest's table
  abbrev table : Handles
  table = (guest_in guests g).handles

  module _ (s : ℕ) (side : Side) (l : g < length guests) (rest : OthersStay streams more s side) (h : IsHeld guests streams) where
    -- a handle is inserted, and an end that no guest had is held under it
    pub IsHeld-inserted : (e : Entry) → next_index table < handle_limit → is_end s side (end_rep_in (Some e)) ≡ true → is_held (owner_in streams s side) ≡ false → owner_in more s side ≡ Held g (next_index table) → IsHeld (with_handles guests g (inserted table e)) more
    IsHeld-inserted e small is unheld owned =
        let old = (guest_in guests g).handles in
        let n = next_index old in
        let new = inserted old e in
        let same = sets_in guests g in
        let sound : IsTable old = h.tables g in
        record {
          tables = tables-with guests g new same l (IsTable-inserted old e sound small) h.tables;
          agree = Agree-more (names_in guests) (names_in (with_handles guests g new)) (owner_in streams) (owner_in more) h.agree g n s side
              (names-with guests g new same n l (λ i ne. entry_at-inserted-other old e i ne)) rest
              (λ k other. ap (λ o. is_end k other (end_rep_in o)) (entry_at-next_index old sound))
              (ap (is_end s side) (names-here guests g new same n (Some e) l (entry_at-inserted-same old e sound)) ∙ is)
              unheld owned;
        }

    -- a handle is removed, and no guest has the end that it named
    pub IsHeld-removed : (handle : ℕ) (sets : Sets) → is_end s side (names_in guests g handle) ≡ true → is_held (owner_in more s side) ≡ false → IsHeld (with_table guests g (removed table handle) sets) more
    IsHeld-removed handle sets is unheld =
        let old = (guest_in guests g).handles in
        let new = removed old handle in
        let found = entry_there s side (entry_at old handle) is in
        record {
          tables = tables-with guests g new sets l (IsTable-removed old handle found.0 found.1 (h.tables g)) h.tables;
          agree = Agree-less (names_in guests) (names_in (with_table guests g new sets)) (owner_in streams) (owner_in more) h.agree g handle s side
              (names-with guests g new sets handle l (λ i ne. entry_at-removed-other old handle i ne)) rest is
              (λ k other. ap (is_end k other) (names-here guests g new sets handle None l (entry_at-removed-same old handle)))
              unheld;
        }

-- ## Reads and writes

turn_held : (state : State) (s : ℕ) (t : Operated) (code : Option ReturnCode) → TurnKeeps state.guests (stream_at state s) t → StateIsHeld state → StateIsHeld (written_back state s t code).state
turn_held state s t code k h = both code
  where
    all : IsHeld t.guests (set state.streams s t.stream)
    all =
        IsHeld-same state.guests t.guests state.streams (set state.streams s t.stream)
        (λ g. handles-same state.guests t.guests g k.guests.handles)
        (λ n side. owner-set_stays state.streams s t.stream n side (record { writer = k.stream.writer; reader = k.stream.reader })) h

    both : (c : Option ReturnCode) → StateIsHeld (written_back state s t c).state
    both None = all
    both (Some c) = all

-- ## A stream set to another

-- the owner of the end that is set, and those of the others
owner-set_here : (streams : List Stream) (s : ℕ) (side : Side) (e : End) → s < length streams → owner_in (set streams s (with_end side (get_or streams s no_stream) e)) s side ≡ e.owner
owner-set_here streams s side e l =
    let x = with_end side (get_or streams s no_stream) e in
    ap (λ st. (end_of side st).owner) (get_or-set_same streams s x no_stream l) ∙ ap (λ (k : End). k.owner) (with_end-replaces side (get_or streams s no_stream) e).here

with_end-other : (side other : Side) (stream : Stream) (e : End) → other ≢ side → end_of other (with_end side stream e) ≡ end_of other stream
with_end-other Writing Writing stream e ne = absurd (ne refl)
with_end-other Writing Reading stream e ne = refl
with_end-other Reading Writing stream e ne = refl
with_end-other Reading Reading stream e ne = absurd (ne refl)

owner-set_beside : (streams : List Stream) (s : ℕ) (side : Side) (e : End) (k : ℕ) (other : Side) → ((k ≡ s) × (other ≡ side) → ⊥) → owner_in (set streams s (with_end side (get_or streams s no_stream) e)) k other ≡ owner_in streams k other
owner-set_beside streams s side e k other ne =
    let x = with_end side (get_or streams s no_stream) e in
    ⊎_elim
    (λ f. owner-set_same streams s x k other (ap (λ (j : End). j.owner) (with_end-other side other (get_or streams s no_stream) e (λ g. ne (f, g)))))
    (λ off. owner-set_other streams s x k other off)
    (cases_eq k s)

-- ## An end of another owner

end_entry-end : (side : Side) (ty : TransmitIndex) (s : ℕ) → is_end s side (end_rep_in (Some (end_entry side ty s))) ≡ true
end_entry-end Writing (index.Stream payload) s = end_itself s Writing
end_entry-end Writing (index.Future payload) s = end_itself s Writing
end_entry-end Reading (index.Stream payload) s = end_itself s Reading
end_entry-end Reading (index.Future payload) s = end_itself s Reading

-- handles are as they were, and an end that no guest had has an owner that is none either
IsHeld-beside : (guests : List Guest) (streams more : List Stream) (s : ℕ) (side : Side) → OthersStay streams more s side → is_held (owner_in streams s side) ≡ false → is_held (owner_in more s side) ≡ false → IsHeld guests streams → IsHeld guests more
IsHeld-beside guests streams more s side rest was unheld h = record {
  tables = h.tables;
  agree = Agree-beside (names_in guests) (names_in guests) (owner_in streams) (owner_in more) h.agree s side (λ g handle. refl) rest was unheld;
}

loose_unheld : (owner : Owner) → is_loose owner ≡ true → is_held owner ≡ false
loose_unheld (Held g handle) e = cc
loose_unheld _ e = refl

module _ (streams : List Stream) (s : ℕ) (side : Side) (made : s < length streams) where
  -- the streams with this owner for the end
  abbrev owned : Owner → List Stream
  owned owner = set streams s (with_owner side (get_or streams s no_stream) owner)

  owned_here : (owner : Owner) → owner_in (owned owner) s side ≡ owner
  owned_here owner = owner-set_here streams s side (record (end_of side (get_or streams s no_stream)) { owner = owner }) made

  pub owned_beside : (owner : Owner) → OthersStay streams (owned owner) s side
  owned_beside owner k other = owner-set_beside streams s side (record (end_of side (get_or streams s no_stream)) { owner = owner }) k other

  -- a handle is freed, or none is
  freed_held : (guests : List Guest) (o : Option (ℕ × ℕ)) → IsFreed guests s side (owner_in streams s side) o → IsHeld guests streams → IsHeld (guests_freed guests o) (owned Loose)
  freed_held guests None loose h =
      IsHeld-beside guests streams (owned Loose) s side (owned_beside Loose) (loose_unheld (owner_in streams s side) loose) (ap is_held (owned_here Loose)) h
  freed_held guests (Some f) frees h =
      IsHeld-removed guests streams (owned Loose) f.0 s side frees.there (owned_beside Loose) h f.1 (handle_left (sets_in guests f.0) f.1) frees.held (ap is_held (owned_here Loose))

  -- and then a guest gets one, or none does
  taken_held : (guests : List Guest) (entry : Entry) (owner : Owner) (o : Option ℕ) → is_end s side (end_rep_in (Some entry)) ≡ true → IsTaken guests owner o → IsHeld guests (owned Loose) → IsHeld (guests_given guests entry o) (owned owner)
  taken_held guests entry owner o is taken h = by o taken
    where
      rest : OthersStay (owned Loose) (owned owner) s side
      rest k other ne = owned_beside owner k other ne ∙ sym (owned_beside Loose k other ne)

      loose : is_held (owner_in (owned Loose) s side) ≡ false
      loose = ap is_held (owned_here Loose)

      by : (o : Option ℕ) → IsTaken guests owner o → IsHeld (guests_given guests entry o) (owned owner)
      by None unheld = IsHeld-beside guests (owned Loose) (owned owner) s side rest loose (ap is_held (owned_here owner) ∙ unheld) h
      by (Some g) takes = IsHeld-inserted guests (owned Loose) (owned owner) g s side takes.there rest h entry takes.small is loose (owned_here owner ∙ takes.owns)

owned_held : (state : State) (reply : Reply) (x : Owning) → Owns state reply x → StateIsHeld state → StateIsHeld (owned_by state x)
owned_held state reply x o h =
    let freed = freed_held state.streams x.stream x.side o.made state.guests x.freed o.freed h in
    taken_held state.streams x.stream x.side o.made (guests_freed state.guests x.freed) (end_entry x.side x.ty x.stream) x.owner x.taker (end_entry-end x.side x.ty x.stream) o.taken freed

-- ## A table with its sets

tabled_held : (state : State) (reply : Reply) (x : Tabling) → Tables state reply x → StateIsHeld state → StateIsHeld (tabled_by state x)
tabled_held state reply x t h =
    let guests = (tabled_by state x).guests in
    record {
      tables = tables-with state.guests x.guest x.handles x.sets t.there t.holds.table h.tables;
      agree = Agree-same (names_in state.guests) (names_in guests) (owner_in state.streams) (owner_in state.streams) h.agree named (λ s side. refl);
    }
  where
    named : (g handle s : ℕ) (side : Side) → is_end s side (names_in (tabled_by state x).guests g handle) ≡ is_end s side (names_in state.guests g handle)
    named g handle s side =
        ⊎_elim
        (λ e. ap (λ i. is_end s side (names_in (tabled_by state x).guests i handle)) e
        ∙ ap (λ k. is_end s side (end_rep_of k handle)) (handles-with_same state.guests x.guest x.handles x.sets t.there)
        ∙ t.ends handle s side
        ∙ ap (λ i. is_end s side (names_in state.guests i handle)) (sym e))
        (λ ne. ap (λ k. is_end s side (end_rep_of k handle)) (handles-with_other state.guests x.guest x.handles x.sets g ne))
        (cases_eq g x.guest)

-- ## A stream more

-- the owner of an end of a stream behind the others
owner-made : (streams : List Stream) (x : Stream) (side : Side) → owner_in (streams ++ x ∷ []) (length streams) side ≡ (end_of side x).owner
owner-made streams x side = ap (λ st. (end_of side st).owner) (get_or_push streams x no_stream (length streams) refl)

-- the read end's handle is inserted first, and its stream's write end is gone until the other is
pub between_held : (state : State) (writer reader : ℕ) (ty : TransmitIndex) → PairFits state writer reader ty → StateIsHeld state → StateIsHeld (with_stream state writer reader ty)
unfolding with_stream
between_held state writer reader ty fits h =
    let streams = state.streams in
    let s = length streams in
    let pair = made_pair state writer reader ty in
    let held = with_read_end state.guests reader ty s in
    let whole = made_stream ty writer pair.write reader pair.read in
    let half : Stream = record whole { writer = idle_end Gone } in
    let many : writer < length held = omega (arith, fits.writer_there, length-set state.guests reader (record (guest_in state.guests reader) { handles = inserted (guest_in state.guests reader).handles (read_entry ty s) })) in
    let first = IsHeld-inserted state.guests streams (streams ++ half ∷ []) reader s Reading fits.reader_there (λ k other. half_other streams half refl k other) h
    (read_entry ty s) fits.read (end_entry-end Reading ty s) (ap (λ st. is_held st.reader.owner) (get_or_past streams s no_stream (omega arith))) (owner-made streams half Reading) in
    IsHeld-inserted held (streams ++ half ∷ []) (streams ++ whole ∷ []) writer s Writing many (λ k other. whole_other streams whole half refl k other) first
    (write_entry ty s) fits.write (end_entry-end Writing ty s) (ap is_held (owner-made streams half Writing)) (owner-made streams whole Writing)
  where
    half_other : (streams : List Stream) (half : Stream) → half.writer.owner ≡ Gone → (k : ℕ) (other : Side) → ((k ≡ length streams) × (other ≡ Reading) → ⊥) → owner_in (streams ++ half ∷ []) k other ≡ owner_in streams k other
    half_other streams half e k Writing ne = owner-push_same streams half k Writing e
    half_other streams half e k Reading ne = owner-push_other streams half k Reading (λ f. ne (f, refl))

    whole_other : (streams : List Stream) (whole half : Stream) → whole.reader.owner ≡ half.reader.owner → (k : ℕ) (other : Side) → ((k ≡ length streams) × (other ≡ Writing) → ⊥) → owner_in (streams ++ whole ∷ []) k other ≡ owner_in (streams ++ half ∷ []) k other
    whole_other streams whole half e k Reading ne = owner-push_either streams whole half k Reading e
    whole_other streams whole half e k Writing ne =
        let off : k ≢ length streams = λ f. ne (f, refl) in
        owner-push_other streams whole k Writing off ∙ sym (owner-push_other streams half k Writing off)

-- ## Every step

-- guests of the same handles, beside the same streams
guests_held : (state : State) (guests : List Guest) → ((g : ℕ) → (guest_in guests g).handles ≡ (guest_in state.guests g).handles) → StateIsHeld state → IsHeld guests state.streams
guests_held state guests e h = IsHeld-same state.guests guests state.streams state.streams e (λ s side. refl) h

pub shape-held : (state : State) (act : Act) (r : Reaction) → StateIsHeld state → Shape state act r → StateIsHeld r.state
shape-held state act r h (ByTurn side end address count a e o) =
    let t = turn_on state side end address count in
    rw e (turn_held state (stream_named (named state end)) t t.code (operate-keeps state side end address count o) h)
shape-held state act r h (BySetting reply x e set) =
    rw e
    (IsHeld-same state.guests state.guests state.streams (set_by state x).streams
    (λ k. refl)
    (λ k other. owner-set_stays state.streams x.stream (with_end x.side (stream_at state x.stream) x.end) k other (with_end-owners x.side (stream_at state x.stream) x.end set.becomes.owner)) h)
shape-held state act r h (ByOwner reply x e o) = rw e (owned_held state reply x o h)
shape-held state act r h (ByTable reply x e t) = rw e (tabled_held state reply x t h)
shape-held state act r h (ByPair writer reader ty a e fits) = rw e (between_held state writer reader ty fits h)
shape-held state act r h (ByGuest size a e fits) = rw e (guests_held state _ (λ g. handles-more state.guests _ g refl) h)
shape-held state act r h (ByPut reply g address bytes e p) =
    rw e (guests_held state _ (λ k. handles-same state.guests _ k (handles_of-with_memory state.guests g _)) h)
shape-held state act r h (ByRest reply e none) = rw e h

pub reaction-held : (state : State) (act : Act) → machine.IsSound state → StateIsHeld state → StateIsHeld (reaction state act).state
reaction-held state act sound h = shape-held state act (reaction state act) h (reaction-shape state act sound)
