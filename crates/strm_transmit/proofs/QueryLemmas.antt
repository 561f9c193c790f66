-- What a guest's table tells of a number, and the least number above another that stands for something.
use Rattle.std.proofs.Common.{◌≡◌, ℕ, zero, suc, ◌+◌, ◌<◌, ◌≤◌, Bool, true, false, cond, List, ◌∷◌, length, Option, Some, None, Ok, Err, refl, sym, ap, ◌∙◌, subst, inl, inr, arith}
use Rattle.std.specs.Prelude.{is_some, nat_lt}
use Rattle.std.specs.List.{filter, find, range_with_len}
use Rattle.std.specs.Option.{option_map}
use Rattle.std.proofs.lemmas.Bool.{cases_eq, lt-ltb, ltb-true}
use Rattle.std.proofs.lemmas.List.{length-map}
use Rattle.strm_codes.specs.declared.codes.TransmitIndex.{TransmitIndex}
use Rattle.strm_codes.specs.declared.refusals.Refusal.TheVariants as refusals
use Rattle.strm_handles.specs.Handles.{Handles, entry_at}
use Rattle.strm_handles.specs.Lookups.{end_rep_in}
use Rattle.strm_handles.specs.declared.entries.Entry.{Entry}
use Rattle.strm_handles.specs.declared.entries.Entry.TheVariants as entries
use Rattle.strm_handles.specs.declared.entries.TransmitEnd.{TransmitEnd}
use Rattle.strm_machine.specs.State.{State, guest_in, stream_at}
use Rattle.strm_machine.specs.Sides.{opposite, end_of}
use Rattle.strm_machine.specs.Endings.{report_on}
use Rattle.strm_machine.specs.Tests.{Name, end_named, stream_named, side_named, is_unknown_guest}
use Rattle.strm_machine.specs.Soundness.{type_of, types_of, IsNamed, EntryIsNamed, IsSound}
use Rattle.strm_machine.specs.declared.streams.Stream.{Stream}
use Rattle.strm_machine.proofs.NameLemmas.{entry_named}
use Rattle.strm_machine.proofs.SoundLemmas.{AreNamed-at}
use Rattle.strm_transmit.specs.Queries.{end_told, told_of, or_unknown, handle_answer, numbers_of_handles, next_above}
use Rattle.strm_transmit.specs.declared.store.queries.EndInfo.{EndInfo}
use Rattle.strm_transmit.specs.declared.store.queries.Handle.TheVariants as handle

-- ## What a handle stands for

-- in a sound state it is named, whatever it is
pub entry_is_named : (state : State) (g number : ℕ) (o : Option Entry) → IsSound state → o ≡ entry_at (guest_in state.guests g).handles number → EntryIsNamed (types_of state.streams) o
entry_is_named state g number o h e =
    let types = types_of state.streams in
    subst (EntryIsNamed types) (sym e) (entry_named types _ number (AreNamed-at types state.guests g h.named))

-- the stream of an end that is named was made
pub stream_is_there : (streams : List Stream) (ty : TransmitIndex) (end : TransmitEnd) → IsNamed (types_of streams) ty end → end.rep < length streams
stream_is_there streams ty end h = omega (arith, h.there, length-map streams type_of)

-- an end is told so that is named so: its stream and side, its report, and who has the other end
pub record IsEndOf (state : State) (name : Name) (end : EndInfo) : Type 0 where
  pub stream : end.stream ≡ stream_named name
  pub side : end.side ≡ side_named name
  pub event : end.event ≡ report_on (side_named name) (stream_at state (stream_named name))
  pub other : end.other ≡ (end_of (opposite (side_named name)) (stream_at state (stream_named name))).owner

told_so : (state : State) (e : TransmitEnd) (end : EndInfo) → end_told state e ≡ end → IsEndOf state (Ok (e.rep, e.state)) end
told_so state e end same = subst (IsEndOf state (Ok (e.rep, e.state))) same (record { stream = refl; side = refl; event = refl; other = refl })

answered_so : (state : State) (b : Bool) (o : Option Entry) (end : EndInfo) → Ok (handle.End end) ≡ cond b (Err refusals.UnknownGuest) (or_unknown (option_map (told_of state) o)) → IsEndOf state (end_rep_in o) end
answered_so state true o end h = cc
answered_so state false None end h = cc
answered_so state false (Some (entries.Stream e)) end h = told_so state e end (cc)
answered_so state false (Some (entries.Future e)) end h = told_so state e end (cc)
answered_so state false (Some (entries.ResourceOwn resource lends)) end h = cc
answered_so state false (Some (entries.ResourceBorrow resource scope)) end h = cc
answered_so state false (Some (entries.ErrorContext rep)) end h = cc
answered_so state false (Some (entries.Subtask rep is_host)) end h = cc
answered_so state false (Some (entries.WaitableSet rep)) end h = cc

-- an answer of an end is of the end that the handle names
pub end_answered : (state : State) (g number : ℕ) (end : EndInfo) → Ok (handle.End end) ≡ handle_answer state g number → IsEndOf state (end_named state g number) end
end_answered state g number end h =
    answered_so state (is_unknown_guest state g) (entry_at (guest_in state.guests g).handles number) end h

-- ## Which handle is next

-- of those that q takes, the first that p takes
module _ (p q : ℕ → Bool) where
  -- a number before others that q and p do not both take
  find_further : (a : ℕ) (xs : List ℕ) (o : Option ℕ) → find p xs ≡ o → (p a ≡ true → q a ≡ false) → find p (cond (q a) (a ∷ xs) xs) ≡ o
  find_further a xs o rest f = both (q a) (p a) refl refl
    where
      both : (b c : Bool) → q a ≡ b → p a ≡ c → find p (cond (q a) (a ∷ xs) xs) ≡ o
      both false c e g = rw e rest
      both true false e g = rw (e, g) rest
      both true true e g = let off : q a ≡ false = f g in absurd (cc)

  -- and one that they do
  find_here : (a m : ℕ) (xs : List ℕ) → a ≡ m → p m ≡ true → q m ≡ true → find p (cond (q a) (a ∷ xs) xs) ≡ Some m
  find_here a m xs e t s =
      let taken : q a ≡ true = ap q e ∙ s in
      let first : p a ≡ true = ap p e ∙ t in
      rw (taken, first) (ap Some e)

  -- of the numbers from a on there is none
  find_none : (a n : ℕ) → ((k : ℕ) → a ≤ k → k < a + n → p k ≡ true → q k ≡ false) → find p (filter q (range_with_len a n)) ≡ None
  find_none a zero f = refl
  find_none a (suc n) f =
      find_further a (filter q (range_with_len (a + 1) n)) None
      (find_none (a + 1) n (λ k l u. f k (omega arith) (omega arith))) (f a (omega arith) (omega arith))

  -- it is m
  find_least : (a n m : ℕ) → a ≤ m → m < a + n → p m ≡ true → q m ≡ true → ((k : ℕ) → a ≤ k → k < m → p k ≡ true → q k ≡ false) → find p (filter q (range_with_len a n)) ≡ Some m
  find_least a zero m l u t s f = absurd (omega arith)
  find_least a (suc n) m l u t s f =
      elim (cases_eq a m) [
        | inl e ↦ find_here a m (filter q (range_with_len (a + 1) n)) e t s
        | inr ne ↦ find_further a (filter q (range_with_len (a + 1) n)) (Some m)
            (find_least (a + 1) n m (omega arith) (omega arith) t s (λ k low high. f k (omega arith) high))
            (f a (omega arith) (omega arith))
      ]

-- a number of a table stands for something
abbrev stands : Handles → ℕ → Bool
stands handles n = is_some (entry_at handles n)

-- the numbers above one, up to the one of an index, stand for nothing
abbrev pub AreFreeUpTo : Handles → ℕ → ℕ → Type 0
AreFreeUpTo handles after index = (n : ℕ) → after < n → n ≤ index → is_some (entry_at handles n) ≡ false

-- one more of them
pub free_further : (handles : Handles) (after index : ℕ) → AreFreeUpTo handles after index → is_some (entry_at handles (index + 1)) ≡ false → AreFreeUpTo handles after (index + 1)
free_further handles after index f e n l u =
    elim (cases_eq n (index + 1)) [
      | inl same ↦ subst (λ k. is_some (entry_at handles k) ≡ false) (sym same) e
      | inr other ↦ f n l (omega arith)
    ]

-- none of all stands for anything
pub next_none : (handles : Handles) (after index : ℕ) → length handles.entries ≤ index → AreFreeUpTo handles after index → next_above handles after ≡ None
unfolding next_above numbers_of_handles
next_none handles after index past f =
    find_none (nat_lt after) (stands handles) 1 (length handles.entries)
    (λ k l u t. let above : after < k = ltb-true after k t in f k above (omega arith))

-- the first that does
pub next_found : (handles : Handles) (after index : ℕ) → after ≤ index → index < length handles.entries → AreFreeUpTo handles after index → is_some (entry_at handles (index + 1)) ≡ true → next_above handles after ≡ Some (index + 1)
unfolding next_above numbers_of_handles
next_found handles after index low high f e =
    find_least (nat_lt after) (stands handles) 1 (length handles.entries) (index + 1) (omega arith) (omega arith)
    (lt-ltb after (index + 1) (omega arith)) e
    (λ k l u t. let above : after < k = ltb-true after k t in f k above (omega arith))
