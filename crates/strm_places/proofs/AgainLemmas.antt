-- A stream made in a free place: what `put` does, and that the step is the machine's where the place is the
-- one behind the last. No handle names a stream that is gone, so its place may be another stream's.
use Rattle.std.proofs.Common.{◌≡◌, ◌≢◌, true, false, ℕ, zero, suc, ◌<◌, List, [], ◌∷◌, ◌++◌, length, get_or, set, Option, Some, None, refl, sym, ap, ◌∙◌, subst, arith, ⊎_elim, cond, map, length-append, length-set, ◌+◌}
use Rattle.std.specs.Prelude.{Bool, not, ◌&&◌, ◌==◌, Ok, nat_lt}
use Rattle.std.proofs.Math.ListN.{get_or-map}
use Rattle.std.proofs.lemmas.Bool.{cases_eq, cond_both}
use Rattle.std.proofs.lemmas.Bool.Decides.{nat_tests}
use Rattle.std.proofs.lemmas.List.{map-set, set-set, get_or-set_same, get_or-set_other, get_or_default, length-map}
use Rattle.std.proofs.lemmas.List.Elements.{All-set}
use Rattle.strm_codes.specs.declared.codes.TransmitIndex.TheVariants as index
use Rattle.strm_codes.specs.declared.payloads.Payload.TheVariants.{Nothing}
use Rattle.strm_codes.specs.declared.refusals.Refusal.{Refusal}
use Rattle.strm_handles.specs.Handles.{handle_limit, entries_with, next_index, inserted, inserted_in}
use Rattle.strm_handles.specs.Lookups.{end_rep_in}
use Rattle.strm_handles.specs.Ends.{read_end, write_end}
use Rattle.strm_handles.specs.declared.entries.Entry.TheVariants as entries
use Rattle.strm_handles.specs.declared.entries.TransmitEnd.{TransmitEnd}
use Rattle.strm_handles.specs.declared.entries.TransmitLocalState.{TransmitLocalState}
use Rattle.strm_machine.specs.Words.{Guest, TransmitIndex, Handles, no_handles, Entry, State, no_guest, no_stream, guest_in, stream_at, end_of, IsSound, StreamIsPlaced, sizes_of, is_end, is_held, handle_given, kind_of, payload_of, Reaction, goes}
use Rattle.strm_machine.specs.declared.streams.Owner.{Owner}
use Rattle.strm_machine.specs.declared.streams.Owner.TheVariants.{Held, Gone}
use Rattle.strm_machine.specs.declared.streams.Side.{Side}
use Rattle.strm_machine.specs.declared.streams.Side.TheVariants.{Writing, Reading}
use Rattle.strm_machine.specs.declared.streams.Stream.{Stream}
use Rattle.strm_machine.specs.declared.acts.Act.{Act}
use Rattle.strm_machine.specs.State.{is_live, is_gone, idle_end}
use Rattle.strm_machine.specs.Making.{end_entry, read_entry, with_read_end, writer_index, made_stream, made_pair, with_stream}
use Rattle.strm_machine.specs.Tests.{side_of}
use Rattle.strm_machine.specs.Soundness.{handles_of, type_of, types_of, is_idle_state, IsNamed, EntryIsNamed}
use Rattle.strm_machine.specs.Refusals.{refusal}
use Rattle.strm_machine.specs.Reactions.{with_stream_at, performs, unless_refused, reaction}
use Rattle.strm_machine.specs.declared.acts.Act.TheVariants.{Transfer, OnHost, Drive, Event, OnSet, OnContext, Make, OnEnd, OnLoose, OnMemory}
use Rattle.strm_machine.specs.declared.acts.Making.TheVariants as makings
use Rattle.strm_machine.specs.declared.replies.Reply.TheVariants as replies
use Rattle.strm_machine.proofs.RefusalLemmas.{PairFits, pair_fits}
use Rattle.strm_machine.proofs.NamedEndLemmas.{end_itself}
use Rattle.strm_machine.proofs.SideLemmas.{same_side-itself}
use Rattle.strm_machine.proofs.TableLemmas.{owner_in, owner-set_same, owner-set_other}
use Rattle.strm_machine.proofs.SoundLemmas.{type_with-of, end_entry-ok, IsSound-given, IsSound-stream, IsSound-with_stream}
use Rattle.strm_machine.proofs.SoundStepLemmas.{reaction-sound}
use Rattle.strm_machine.proofs.HeldLemmas.{IsHeld, StateIsHeld, names_in, IsHeld-same, IsHeld-inserted, between_held, reaction-held}
use Rattle.strm_machine.proofs.ReactionLemmas.{reaction-performs}
use Rattle.strm_places.specs.Again.{IsFree, Behind, Again, put, made_pair_at, with_pair_at, is_making, performs_at, unless_refused_at, reaction_at}

-- ## What `put` does

below : (m n : ℕ) → m < n → nat_lt m n ≡ true
below m n l = grind (arith, nat_tests)

not_below : (n : ℕ) → nat_lt n n ≡ false
not_below n = grind (arith, nat_tests)

pub put-behind : (streams : List Stream) (x : Stream) → put streams (length streams) x ≡ streams ++ x ∷ []
unfolding put
put-behind streams x = ap (λ b. cond b (set streams (length streams) x) (streams ++ x ∷ [])) (not_below (length streams))

pub put-again : (streams : List Stream) (n : ℕ) (x : Stream) → n < length streams → put streams n x ≡ set streams n x
unfolding put
put-again streams n x l = ap (λ b. cond b (set streams n x) (streams ++ x ∷ [])) (below n (length streams) l)

-- ## Behind the last, a step is the machine's

pub with_stream_in-behind : (state : State) (writer reader : ℕ) (ty : TransmitIndex) → with_pair_at state (length state.streams) writer reader ty ≡ with_stream state writer reader ty
unfolding with_pair_at with_stream
with_stream_in-behind state writer reader ty =
    let pair = made_pair state writer reader ty in
    ap (λ (streams : List Stream). record (with_stream state writer reader ty) { streams = streams })
    (put-behind state.streams (made_stream ty writer pair.write reader pair.read))

pub performs_at-behind : (state : State) (act : Act) → performs_at (length state.streams) state act ≡ performs state act
unfolding performs_at performs
performs_at-behind state (Make (makings.Between writer reader ty)) =
    ap (goes (replies.Pair (made_pair state writer reader ty))) (with_stream_in-behind state writer reader ty)
performs_at-behind state (Make (makings.Guest size)) = refl
performs_at-behind state (Make (makings.Set g)) = refl
performs_at-behind state (Make (makings.Context g address len)) = refl
performs_at-behind state (OnEnd side end act) = refl
performs_at-behind state (Transfer end to) = refl
performs_at-behind state (OnLoose reader act) = refl
performs_at-behind state (OnHost host act) = refl
performs_at-behind state Drive = refl
performs_at-behind state (Event g handle) = refl
performs_at-behind state (OnSet g set act) = refl
performs_at-behind state (OnContext g handle act) = refl
performs_at-behind state (OnMemory g act) = refl

unless_refused_at-behind : (state : State) (act : Act) (o : Option Refusal) → unless_refused_at (length state.streams) state act o ≡ unless_refused state act o
unless_refused_at-behind state act (Some r) = refl
unless_refused_at-behind state act None = performs_at-behind state act

pub reaction_at-behind : (state : State) (act : Act) → reaction_at (length state.streams) state act ≡ reaction state act
unfolding reaction_at reaction
reaction_at-behind state act =
    ap (cond state.trapped (goes replies.StoreTrapped state)) (unless_refused_at-behind state act (refusal state act))

-- ## Only a making chooses a number

pub performs_at-other : (n : ℕ) (state : State) (act : Act) → is_making act ≡ false → performs_at n state act ≡ performs state act
unfolding performs_at performs
performs_at-other n state (Make (makings.Between writer reader ty)) e = cc
performs_at-other n state (Make (makings.Guest size)) e = refl
performs_at-other n state (Make (makings.Set g)) e = refl
performs_at-other n state (Make (makings.Context g address len)) e = refl
performs_at-other n state (OnEnd side end act) e = refl
performs_at-other n state (Transfer end to) e = refl
performs_at-other n state (OnLoose reader act) e = refl
performs_at-other n state (OnHost host act) e = refl
performs_at-other n state Drive e = refl
performs_at-other n state (Event g handle) e = refl
performs_at-other n state (OnSet g set act) e = refl
performs_at-other n state (OnContext g handle act) e = refl
performs_at-other n state (OnMemory g act) e = refl

unless_refused_at-other : (n : ℕ) (state : State) (act : Act) (o : Option Refusal) → is_making act ≡ false → unless_refused_at n state act o ≡ unless_refused state act o
unless_refused_at-other n state act (Some r) e = refl
unless_refused_at-other n state act None e = performs_at-other n state act e

pub reaction_at-other : (n : ℕ) (state : State) (act : Act) → is_making act ≡ false → reaction_at n state act ≡ reaction state act
unfolding reaction_at reaction
reaction_at-other n state act e =
    ap (cond state.trapped (goes replies.StoreTrapped state)) (unless_refused_at-other n state act (refusal state act) e)

-- ## The handles of the two ends do not depend on the stream's number

length-with : (es : List (Option Entry)) (n : ℕ) (e : Option Entry) → length (entries_with es n e) ≡ length es
length-with es zero e = refl
length-with es (suc i) e = length-set es i e

next-inserted : (es : List (Option Entry)) (freed : List ℕ) (a b : Entry) → next_index (inserted_in es freed a) ≡ next_index (inserted_in es freed b)
next-inserted es [] a b = omega (arith, length-append es (Some a ∷ []), length-append es (Some b ∷ []))
next-inserted es (n ∷ []) a b = ap (λ k. k + 1) (length-with es n (Some a) ∙ sym (length-with es n (Some b)))
next-inserted es (n ∷ m ∷ more) a b = refl

-- the number that a guest's next handle gets
abbrev pub next_for : Guest → ℕ
next_for guest = next_index guest.handles

-- in whichever table, after the read end of a stream came into one
pub next-read_end : (guests : List Guest) (reader writer : ℕ) (ty : TransmitIndex) (n m : ℕ) → next_index (guest_in (with_read_end guests reader ty n) writer).handles ≡ next_index (guest_in (with_read_end guests reader ty m) writer).handles
next-read_end guests reader writer ty n m = in_list n ∙ ap (λ k. get_or (set (map next_for guests) reader k) writer (next_for no_guest)) same ∙ sym (in_list m)
  where
    old : Handles
    old = (guest_in guests reader).handles

    here : ℕ → Guest
    here s = record (guest_in guests reader) { handles = inserted old (read_entry ty s) }

    in_list : (s : ℕ) → next_index (guest_in (with_read_end guests reader ty s) writer).handles ≡ get_or (set (map next_for guests) reader (next_for (here s))) writer (next_for no_guest)
    in_list s = sym (get_or-map next_for (with_read_end guests reader ty s) writer no_guest) ∙ ap (λ ks. get_or ks writer (next_for no_guest)) (map-set next_for guests reader (here s))

    same : next_for (here n) ≡ next_for (here m)
    same = next-inserted old.entries old.freed (read_entry ty n) (read_entry ty m)

-- ## No handle names a stream that is gone

both_gone : (a b : Bool) → not (a && b) ≡ false → (a ≡ true) × (b ≡ true)
both_gone true true e = (refl, refl)
both_gone true false e = cc
both_gone false b e = cc

is_gone-is : (o : Owner) → is_gone o ≡ true → o ≡ Gone
is_gone-is Gone e = refl
is_gone-is (Held g h) e = cc
is_gone-is _ e = cc

-- an end of a stream that is gone is nobody's
pub gone_side : (stream : Stream) (side : Side) → is_live stream ≡ false → (end_of side stream).owner ≡ Gone
gone_side stream Writing e = is_gone-is stream.writer.owner (both_gone (is_gone stream.writer.owner) (is_gone stream.reader.owner) e).0
gone_side stream Reading e = is_gone-is stream.reader.owner (both_gone (is_gone stream.writer.owner) (is_gone stream.reader.owner) e).1

-- a stream of a type, both of whose ends are gone
abbrev pub blank : TransmitIndex → Stream
blank ty = record {
  kind = kind_of ty;
  payload = payload_of ty;
  passed = false;
  writer = idle_end Gone;
  reader = idle_end Gone;
  received = 0;
}

-- the state with that in place of a stream
abbrev pub blanked : State → ℕ → TransmitIndex → State
blanked state n ty = with_stream_at state n (blank ty)

-- and with a handle of each end, the read end's first
abbrev pub with_ends_at : State → ℕ → ℕ → ℕ → TransmitIndex → State
with_ends_at state n writer reader ty =
    handle_given (handle_given (blanked state n ty) reader Reading ty n) writer Writing ty n

-- the stream that is made
abbrev pub stream_made : State → ℕ → ℕ → TransmitIndex → Stream
stream_made state writer reader ty =
    let pair = made_pair state writer reader ty in made_stream ty writer pair.write reader pair.read

pub with_pair_at-again : (state : State) (n writer reader : ℕ) (ty : TransmitIndex) → n < length state.streams → with_pair_at state n writer reader ty ≡ with_stream_at (with_ends_at state n writer reader ty) n (stream_made state writer reader ty)
unfolding with_pair_at
with_pair_at-again state n writer reader ty l =
    let made = stream_made state writer reader ty in
    ap (λ (streams : List Stream). record (with_ends_at state n writer reader ty) { streams = streams })
    (put-again state.streams n made l ∙ sym (set-set state.streams n (blank ty) made))

eqb-of : (a b : ℕ) → a ≡ b → (a == b) ≡ true
eqb-of a b e = grind (arith, e)

module _ (state : State) (n : ℕ) (gone : is_live (stream_at state n) ≡ false) (h : StateIsHeld state) where
  pub unnamed : (g handle : ℕ) (side : Side) → is_end n side (names_in state.guests g handle) ≡ true → ⊥
  unnamed g handle side is =
      let held : owner_in state.streams n side ≡ Held g handle = h.agree.named g handle n side is in
      let none : owner_in state.streams n side ≡ Gone = gone_side (stream_at state n) side gone in
      let wrong : Gone ≡ Held g handle = sym none ∙ held in
      cc

  IsHeld-blanked : (ty : TransmitIndex) → StateIsHeld (blanked state n ty)
  IsHeld-blanked ty =
      IsHeld-same state.guests state.guests state.streams (set state.streams n (blank ty)) (λ g. refl)
      (λ s side. owner-set_same state.streams n (blank ty) s side (blank_owner side)) h
    where
      blank_owner : (side : Side) → (end_of side (blank ty)).owner ≡ owner_in state.streams n side
      blank_owner Writing = sym (gone_side (stream_at state n) Writing gone)
      blank_owner Reading = sym (gone_side (stream_at state n) Reading gone)

  -- what the place stood for before is no matter to any handle
  end_apart : (types : List TransmitIndex) (ty other : TransmitIndex) (end : TransmitEnd) → end.rep ≢ n → IsNamed types other end → IsNamed (set types n ty) other end
  end_apart types ty other end ne p = record {
    there = rw (length-set types n ty) p.there;
    typed = get_or-set_other types n end.rep ty (index.Stream Nothing) ne ∙ p.typed;
    idle = p.idle;
  }

  names_self : (rep : ℕ) (st : TransmitLocalState) → rep ≡ n → is_end n (side_of st) (Ok (rep, st)) ≡ true
  names_self rep st e = rw (eqb-of rep n e, same_side-itself (side_of st)) refl

  entry_apart : (types : List TransmitIndex) (ty : TransmitIndex) (o : Option Entry) → ((side : Side) → is_end n side (end_rep_in o) ≡ true → ⊥) → EntryIsNamed types o → EntryIsNamed (set types n ty) o
  entry_apart types ty None ne p = tt
  entry_apart types ty (Some (entries.Stream end)) ne p = end_apart types ty (index.Stream end.ty) end (λ e. ne (side_of end.state) (names_self end.rep end.state e)) p
  entry_apart types ty (Some (entries.Future end)) ne p = end_apart types ty (index.Future end.ty) end (λ e. ne (side_of end.state) (names_self end.rep end.state e)) p
  entry_apart types ty (Some (entries.ResourceOwn resource lends)) ne p = tt
  entry_apart types ty (Some (entries.ResourceBorrow resource scope)) ne p = tt
  entry_apart types ty (Some (entries.ErrorContext rep)) ne p = tt
  entry_apart types ty (Some (entries.Subtask rep is_host)) ne p = tt
  entry_apart types ty (Some (entries.WaitableSet rep)) ne p = tt

  IsSound-blanked : (ty : TransmitIndex) → IsSound state → IsSound (blanked state n ty)
  IsSound-blanked ty sound =
      let old = types_of state.streams in
      let types : types_of (set state.streams n (blank ty)) ≡ set old n ty = map-set type_of state.streams n (blank ty) ∙ ap (set old n) (type_with-of ty) in
      record {
        named = rw types (λ g d lt i e li.
            let guest = guest_in state.guests g in
            let table : get_or (handles_of state.guests) g d ≡ guest.handles =
            get_or_default (handles_of state.guests) g d no_handles lt ∙ get_or-map (λ k. k.handles) state.guests g no_guest in
            let here : get_or (get_or (handles_of state.guests) g d).entries i e ≡ get_or guest.handles.entries i None =
            get_or_default (get_or (handles_of state.guests) g d).entries i e None li ∙ ap (λ (k : Handles). get_or k.entries i None) table in
            entry_apart old ty (get_or (get_or (handles_of state.guests) g d).entries i e)
            (λ side is. unnamed g (suc i) side (ap (λ o. is_end n side (end_rep_in o)) (sym here) ∙ is))
            (sound.named g d lt i e li));
        placed = All-set (StreamIsPlaced (sizes_of state.guests)) state.streams n (blank ty) (record { writer = tt; reader = tt }) sound.placed;
        small = sound.small;
        own = sound.own;
        sets = sound.sets;
        contexts = sound.contexts;
      }

  -- a handle of an end of the stream that is to be there
  placed_end : (types : List TransmitIndex) (ty : TransmitIndex) (end : TransmitEnd) → n < length types → end.rep ≡ n → is_idle_state end.state ≡ true → IsNamed (set types n ty) ty end
  placed_end types ty end l r i = record {
    there = rw (length-set types n ty, r) l;
    typed = ap (λ k. get_or (set types n ty) k (index.Stream Nothing)) r ∙ get_or-set_same types n ty (index.Stream Nothing) l;
    idle = i;
  }

  entry_placed : (types : List TransmitIndex) (side : Side) (ty : TransmitIndex) → n < length types → EntryIsNamed (set types n ty) (Some (end_entry side ty n))
  entry_placed types Reading (index.Stream payload) l = placed_end types (index.Stream payload) (read_end payload n) l refl refl
  entry_placed types Reading (index.Future payload) l = placed_end types (index.Future payload) (read_end payload n) l refl refl
  entry_placed types Writing (index.Stream payload) l = placed_end types (index.Stream payload) (write_end payload n) l refl refl
  entry_placed types Writing (index.Future payload) l = placed_end types (index.Future payload) (write_end payload n) l refl refl

  module _ (writer reader : ℕ) (ty : TransmitIndex) (there : n < length state.streams) (fits : PairFits state writer reader ty) where
    next_write : next_index (guest_in (with_read_end state.guests reader ty n) writer).handles ≡ writer_index state writer reader ty
    next_write = next-read_end state.guests reader writer ty n (length state.streams)

    writes : next_index (guest_in (with_read_end state.guests reader ty n) writer).handles < handle_limit
    writes = rw next_write fits.write

    entry_in_types : (side : Side) → EntryIsNamed (types_of (set state.streams n (blank ty))) (Some (end_entry side ty n))
    entry_in_types side =
        let old = types_of state.streams in
        let types : types_of (set state.streams n (blank ty)) ≡ set old n ty = map-set type_of state.streams n (blank ty) ∙ ap (set old n) (type_with-of ty) in
        rw types (entry_placed old side ty (omega (arith, there, length-map state.streams type_of)))

    IsSound-ends_at : IsSound state → IsSound (with_ends_at state n writer reader ty)
    IsSound-ends_at sound =
        IsSound-given (handle_given (blanked state n ty) reader Reading ty n) writer (end_entry Writing ty n) (entry_in_types Writing) (end_entry-ok Writing ty n) writes
        (IsSound-given (blanked state n ty) reader (end_entry Reading ty n) (entry_in_types Reading) (end_entry-ok Reading ty n) fits.read (IsSound-blanked ty sound))

    IsSound-again : IsSound state → IsSound (with_pair_at state n writer reader ty)
    IsSound-again sound =
        let made = stream_made state writer reader ty in
        let here : get_or (set state.streams n (blank ty)) n no_stream ≡ blank ty = get_or-set_same state.streams n (blank ty) no_stream there in
        subst IsSound (sym (with_pair_at-again state n writer reader ty there))
        (IsSound-stream (with_ends_at state n writer reader ty) n made (sym (ap type_of here)) (record { writer = tt; reader = tt }) (IsSound-ends_at sound))

end_is : (n : ℕ) (side : Side) (ty : TransmitIndex) → is_end n side (end_rep_in (Some (end_entry side ty n))) ≡ true
end_is n Writing (index.Stream payload) = end_itself n Writing
end_is n Writing (index.Future payload) = end_itself n Writing
end_is n Reading (index.Stream payload) = end_itself n Reading
end_is n Reading (index.Future payload) = end_itself n Reading

-- ## Owners beside the place

module _ (streams : List Stream) (n : ℕ) (l : n < length streams) where
  owner_at : (x : Stream) (side : Side) → owner_in (set streams n x) n side ≡ (end_of side x).owner
  owner_at x side = ap (λ st. (end_of side st).owner) (get_or-set_same streams n x no_stream l)

  owner_either : (x y : Stream) (side : Side) → (end_of side x).owner ≡ (end_of side y).owner → (k : ℕ) → owner_in (set streams n x) k side ≡ owner_in (set streams n y) k side
  owner_either x y side e k =
      ⊎_elim
      (λ q. ap (λ i. owner_in (set streams n x) i side) q ∙ owner_at x side ∙ e ∙ sym (owner_at y side) ∙ sym (ap (λ i. owner_in (set streams n y) i side) q))
      (λ ne. owner-set_other streams n x k side ne ∙ sym (owner-set_other streams n y k side ne))
      (cases_eq k n)

  beside_reader : (x y : Stream) → x.writer.owner ≡ y.writer.owner → (k : ℕ) (other : Side) → ((k ≡ n) × (other ≡ Reading) → ⊥) → owner_in (set streams n x) k other ≡ owner_in (set streams n y) k other
  beside_reader x y e k Writing ne = owner_either x y Writing e k
  beside_reader x y e k Reading ne = owner-set_other streams n x k Reading (λ q. ne (q, refl)) ∙ sym (owner-set_other streams n y k Reading (λ q. ne (q, refl)))

  beside_writer : (x y : Stream) → x.reader.owner ≡ y.reader.owner → (k : ℕ) (other : Side) → ((k ≡ n) × (other ≡ Writing) → ⊥) → owner_in (set streams n x) k other ≡ owner_in (set streams n y) k other
  beside_writer x y e k Reading ne = owner_either x y Reading e k
  beside_writer x y e k Writing ne = owner-set_other streams n x k Writing (λ q. ne (q, refl)) ∙ sym (owner-set_other streams n y k Writing (λ q. ne (q, refl)))

module _ (state : State) (n writer reader : ℕ) (ty : TransmitIndex) (there : n < length state.streams) (gone : is_live (stream_at state n) ≡ false) (h : StateIsHeld state) (fits : PairFits state writer reader ty) where
  abbrev blanks : List Stream
  blanks = set state.streams n (blank ty)

  held_again : IsHeld (with_ends_at state n writer reader ty).guests (set blanks n (stream_made state writer reader ty))
  held_again =
      let guests = with_read_end state.guests reader ty n in
      let next = next-read_end state.guests reader writer ty n (length state.streams) in
      let whole = stream_made state writer reader ty in
      let half : Stream = record whole { writer = idle_end Gone } in
      let l : n < length blanks = omega (arith, there, length-set state.streams n (blank ty)) in
      let base = set blanks n (blank ty) in
      let first : IsHeld guests (set blanks n half) =
      IsHeld-inserted state.guests base (set blanks n half) reader n Reading fits.reader_there (beside_reader blanks n l half (blank ty) refl)
      (IsHeld-same state.guests state.guests blanks base (λ g. refl)
      (λ s side. owner-set_same blanks n (blank ty) s side (sym (ap (λ st. (end_of side st).owner) (get_or-set_same state.streams n (blank ty) no_stream there)))) (IsHeld-blanked state n gone h ty))
      (end_entry Reading ty n) fits.read (end_is n Reading ty) (ap is_held (owner_at blanks n l (blank ty) Reading)) (owner_at blanks n l half Reading) in
      let many : writer < length guests = omega (arith, fits.writer_there, length-set state.guests reader (record (guest_in state.guests reader) { handles = inserted (guest_in state.guests reader).handles (end_entry Reading ty n) })) in
      IsHeld-inserted guests (set blanks n half) (set blanks n whole) writer n Writing many (beside_writer blanks n l whole half refl) first
      (end_entry Writing ty n) (rw next fits.write) (end_is n Writing ty) (ap is_held (owner_at blanks n l half Writing))
      (owner_at blanks n l whole Writing ∙ ap (Held writer) (sym next))

  IsHeld-again : StateIsHeld (with_pair_at state n writer reader ty)
  IsHeld-again = subst StateIsHeld (sym (with_pair_at-again state n writer reader ty there)) held_again

-- ## The making in a free place

module _ (state : State) (n writer reader : ℕ) (ty : TransmitIndex) where
  pub IsSound-put_at : IsFree state.streams n → StateIsHeld state → PairFits state writer reader ty → IsSound state → IsSound (with_pair_at state n writer reader ty)
  IsSound-put_at (Behind e) h fits sound =
      rw (e, with_stream_in-behind state writer reader ty) (IsSound-with_stream state writer reader ty fits.read fits.write sound)
  IsSound-put_at (Again there gone) h fits sound = IsSound-again state n gone h writer reader ty there fits sound

  pub StateIsHeld-put_at : IsFree state.streams n → PairFits state writer reader ty → StateIsHeld state → StateIsHeld (with_pair_at state n writer reader ty)
  StateIsHeld-put_at (Behind e) fits h =
      rw (e, with_stream_in-behind state writer reader ty) (between_held state writer reader ty fits h)
  StateIsHeld-put_at (Again there gone) fits h = IsHeld-again state n writer reader ty there gone h fits

-- ## Every step, whichever free number a making gets

-- what holds of a making, and of what the machine does otherwise, holds of what is done
module _ (P : Reaction → Type 0) (n : ℕ) (state : State) where
  -- it holds of this act where that makes a stream
  abbrev pub OfMaking : Act → Type 0
  OfMaking act = (writer reader : ℕ) (ty : TransmitIndex) → act ≡ Make (makings.Between writer reader ty) →
      P (goes (replies.Pair (made_pair_at state n writer reader ty)) (with_pair_at state n writer reader ty))

  pub performs_at-by : (act : Act) → OfMaking act → P (performs state act) → P (performs_at n state act)
  unfolding performs_at performs
  performs_at-by (Make (makings.Between writer reader ty)) made all = made writer reader ty refl
  performs_at-by (Make (makings.Guest size)) made all = all
  performs_at-by (Make (makings.Set g)) made all = all
  performs_at-by (Make (makings.Context g address len)) made all = all
  performs_at-by (OnEnd side end act) made all = all
  performs_at-by (Transfer end to) made all = all
  performs_at-by (OnLoose reader act) made all = all
  performs_at-by (OnHost host act) made all = all
  performs_at-by Drive made all = all
  performs_at-by (Event g handle) made all = all
  performs_at-by (OnSet g set act) made all = all
  performs_at-by (OnContext g handle act) made all = all
  performs_at-by (OnMemory g act) made all = all

  -- the three ways that a step can go
  pub record ThreeWays (act : Act) : Type 0 where
    pub trapped : state.trapped ≡ true → P (goes replies.StoreTrapped state)
    pub refused : (r : Refusal) → state.trapped ≡ false → refusal state act ≡ Some r → P (goes (replies.Refused r) state)
    pub performed : state.trapped ≡ false → refusal state act ≡ None → P (performs_at n state act)

  unless_refused_at-by : (act : Act) (o : Option Refusal) → state.trapped ≡ false → refusal state act ≡ o → ThreeWays act → P (unless_refused_at n state act o)
  unless_refused_at-by act None t e ways = ways.performed t e
  unless_refused_at-by act (Some r) t e ways = ways.refused r t e

  -- what holds of them holds of the step
  pub reaction_at-by : (act : Act) → ThreeWays act → P (reaction_at n state act)
  unfolding reaction_at
  reaction_at-by act ways =
      cond_both state.trapped _ _ P ways.trapped (λ t. unless_refused_at-by act (refusal state act) t refl ways)

pub reaction_at-sound : (n : ℕ) (state : State) (act : Act) → IsFree state.streams n → StateIsHeld state → IsSound state → IsSound (reaction_at n state act).state
reaction_at-sound n state act free h sound =
    let P : Reaction → Type 0 = λ r. IsSound r.state in
    reaction_at-by P n state act
    (record {
      trapped = λ t. sound;
      refused = λ r t e. sound;
      performed = λ t e.
          performs_at-by P n state act
          (λ writer reader ty is. IsSound-put_at state n writer reader ty free h (pair_fits state writer reader ty (ap (refusal state) (sym is) ∙ e)) sound)
          (subst P (reaction-performs state act t e) (reaction-sound state act sound));
    })

pub reaction_at-held : (n : ℕ) (state : State) (act : Act) → IsFree state.streams n → IsSound state → StateIsHeld state → StateIsHeld (reaction_at n state act).state
reaction_at-held n state act free sound h =
    let P : Reaction → Type 0 = λ r. StateIsHeld r.state in
    reaction_at-by P n state act
    (record {
      trapped = λ t. h;
      refused = λ r t e. h;
      performed = λ t e.
          performs_at-by P n state act
          (λ writer reader ty is. StateIsHeld-put_at state n writer reader ty free (pair_fits state writer reader ty (ap (refusal state) (sym is) ∙ e)) h)
          (subst P (reaction-performs state act t e) (reaction-held state act sound h));
    })
