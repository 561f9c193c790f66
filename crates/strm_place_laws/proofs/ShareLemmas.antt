-- Streams that guests have are counted by the handles of their ends.
use Rattle.std.proofs.Common.{◌≡◌, ℕ, zero, suc, ◌+◌, ◌<◌, ◌≤◌, Bool, true, false, List, [], ◌∷◌, length, get_or, Option, Some, None, refl, sym, ap, ◌∙◌, inl, inr, arith}
use Rattle.std.specs.Prelude.{◌⊎◌, ◌==◌, ◌||◌, ◌&&◌, not, count_by, sum_by}
use Rattle.std.proofs.lemmas.Bool.{cases_lt, ne_eqb, eqb-true}
use Rattle.std.proofs.lemmas.List.{get_or_past}
use Rattle.std.proofs.lemmas.List.Sums.{sum_by-cons, get_or-le-sum_by, sum_by-le-sum_by}
use Rattle.strm_handles.specs.Handles.{Handles, occupied, live_of, open_lends}
use Rattle.strm_handles.specs.Kinds.{end_in, ends_held}
use Rattle.strm_handles.proofs.KindLemmas.{ends-most}
use Rattle.strm_handles.specs.Lookups.{end_rep_in}
use Rattle.strm_handles.specs.declared.entries.Entry.{Entry}
use Rattle.strm_handles.specs.declared.entries.Entry.TheVariants as entries
use Rattle.strm_machine.specs.Words.{Guest, State, guest_in, no_guest, no_stream, stream_at, end_of, end_named, is_end, is_held, is_loose, same_side}
use Rattle.strm_machine.specs.declared.streams.Side.{Side}
use Rattle.strm_machine.specs.declared.streams.Side.TheVariants.{Writing, Reading}
use Rattle.strm_machine.specs.declared.streams.Stream.{Stream}
use Rattle.strm_machine.specs.declared.streams.Owner.{Owner}
use Rattle.strm_machine.specs.State.{is_live, is_gone, is_host, handles_in_use}
use Rattle.strm_machine.specs.Tests.{side_of}
use Rattle.strm_machine.specs.declared.streams.Owner.TheVariants.{Host, Held, Loose, Gone}
use Rattle.strm_laws.specs.Laws.{HandlesHold}
use Rattle.strm_place_laws.specs.Shares.{HasNoHost, has_loose, is_held_by, has_end_of}
use Rattle.strm_place_laws.proofs.RenamedStreams.{live_by}

-- ## Sums along a list, by the place of each element

along : {A : Type 0} → (ℕ → ℕ) → ℕ → List A → ℕ
along f k [] = 0
along f k (x ∷ xs) = f k + along f (suc k) xs

-- elements that are tested are no more than what stands for each of them
count_along : {A : Type 0} (p : A → Bool) (f : ℕ → ℕ) (k : ℕ) (xs : List A) (d : A) → ((i : ℕ) → i < length xs → p (get_or xs i d) ≡ true → 1 ≤ f (k + i)) → count_by p xs ≤ along f k xs
unfolding along
count_along p f k [] d h = omega arith
count_along p f k (x ∷ xs) d h =
    let rest = count_along p f (suc k) xs d (λ i l e. let shift : suc k + i ≡ k + suc i = omega arith in rw shift (h (suc i) (omega (arith, l)) e)) in
    let here : p x ≡ true → 1 ≤ f k = λ e. let at : k + 0 ≡ k = omega arith in rw at at (h 0 (omega arith) e) in
    let one : live_by (p x) ≤ f k = by (p x) here in
    omega (arith, sum_by-cons (λ y. live_by (p y)) x xs, rest, one)
  where
    by : (b : Bool) → (b ≡ true → 1 ≤ f k) → live_by b ≤ f k
    by true e = e refl
    by false e = omega arith

sum_and : {A : Type 0} (f g : A → ℕ) (xs : List A) → sum_by (λ x. f x + g x) xs ≡ sum_by f xs + sum_by g xs
sum_and f g [] = refl
sum_and f g (x ∷ xs) = omega (arith, sum_by-cons (λ y. f y + g y) x xs, sum_by-cons f x xs, sum_by-cons g x xs, sum_and f g xs)

sum_zero : {A : Type 0} (xs : List A) → sum_by (λ x. 0) xs ≡ 0
sum_zero [] = refl
sum_zero (x ∷ xs) = omega (arith, sum_by-cons (λ y. 0) x xs, sum_zero xs)

-- the order of two sums
swapped : {A B : Type 0} (f : ℕ → B → ℕ) (ys : List B) (k : ℕ) (xs : List A) → along (λ s. sum_by (f s) ys) k xs ≡ sum_by (λ y. along (λ s. f s y) k xs) ys
unfolding along
swapped f ys k [] = sym (sum_zero ys)
swapped f ys k (x ∷ xs) = ap (λ n. sum_by (f k) ys + n) (swapped f ys (suc k) xs) ∙ sym (sum_and (f k) (λ y. along (λ s. f s y) (suc k) xs) ys)

-- ## What a handle stands for

-- it is an end of the stream of a number
abbrev leads : ℕ → Option Entry → Bool
leads s (Some (entries.Stream end)) = end.rep == s
leads s (Some (entries.Future end)) = end.rep == s
leads s _ = false

along_zero : {A : Type 0} (k : ℕ) (xs : List A) → along (λ s. 0) k xs ≡ 0
unfolding along
along_zero k [] = refl
along_zero k (x ∷ xs) = omega (arith, along_zero (suc k) xs)

-- of one number there is one at most, and none before it
none_behind : {A : Type 0} (rep k : ℕ) (xs : List A) → rep < k → along (λ s. live_by (rep == s)) k xs ≡ 0
unfolding along
none_behind rep k [] l = refl
none_behind rep k (x ∷ xs) l = λ i. live_by (ne_eqb rep k (λ e. omega (arith, l, e)) i) + none_behind rep (suc k) xs (omega (arith, l)) i

one_along : {A : Type 0} (rep k : ℕ) (xs : List A) → along (λ s. live_by (rep == s)) k xs ≤ 1
unfolding along
one_along rep k [] = omega arith
one_along rep k (x ∷ xs) = by (rep == k) refl (one_along rep (suc k) xs)
  where
    by : (b : Bool) → (rep == k) ≡ b → along (λ s. live_by (rep == s)) (suc k) xs ≤ 1 → live_by (rep == k) + along (λ s. live_by (rep == s)) (suc k) xs ≤ 1
    by true e more = omega (arith, ap live_by e, none_behind rep (suc k) xs (omega (arith, eqb-true rep k e)))
    by false e more = omega (arith, ap live_by e, more)

-- so a handle is of one stream at most, and of none where it stands for no end
leads_once : {A : Type 0} (o : Option Entry) (xs : List A) → along (λ s. live_by (leads s o)) 0 xs ≤ end_in o
leads_once None xs = omega (arith, along_zero 0 xs)
leads_once (Some (entries.Stream end)) xs = one_along end.rep 0 xs
leads_once (Some (entries.Future end)) xs = one_along end.rep 0 xs
leads_once (Some (entries.ResourceOwn resource lends)) xs = omega (arith, along_zero 0 xs)
leads_once (Some (entries.ResourceBorrow resource scope)) xs = omega (arith, along_zero 0 xs)
leads_once (Some (entries.ErrorContext rep)) xs = omega (arith, along_zero 0 xs)
leads_once (Some (entries.Subtask rep is_host)) xs = omega (arith, along_zero 0 xs)
leads_once (Some (entries.WaitableSet rep)) xs = omega (arith, along_zero 0 xs)

-- an end that a handle names is what it leads to
and_left : (a b : Bool) → a && b ≡ true → a ≡ true
and_left true b e = refl
and_left false b e = cc

leads_named : (s : ℕ) (side : Side) (o : Option Entry) → is_end s side (end_rep_in o) ≡ true → leads s o ≡ true
leads_named s side None e = cc
leads_named s side (Some (entries.Stream end)) e = and_left (end.rep == s) (same_side (side_of end.state) side) e
leads_named s side (Some (entries.Future end)) e = and_left (end.rep == s) (same_side (side_of end.state) side) e
leads_named s side (Some (entries.ResourceOwn resource lends)) e = cc
leads_named s side (Some (entries.ResourceBorrow resource scope)) e = cc
leads_named s side (Some (entries.ErrorContext rep)) e = cc
leads_named s side (Some (entries.Subtask rep is_host)) e = cc
leads_named s side (Some (entries.WaitableSet rep)) e = cc

-- ## Handles of a stream

-- of a guest, and of all
abbrev handles_of_one : ℕ → Guest → ℕ
handles_of_one s guest = sum_by (λ o. live_by (leads s o)) guest.handles.entries

abbrev all_of : ℕ → List Guest → ℕ
all_of s guests = sum_by (handles_of_one s) guests

-- a guest has an end of a stream
abbrev has_held : Stream → Bool
has_held stream = is_held stream.writer.owner || is_held stream.reader.owner

-- handles of streams in a table are handles of ends
table_within : (h : Handles) (streams : List Stream) → along (λ s. sum_by (λ o. live_by (leads s o)) h.entries) 0 streams ≤ ends_held h
table_within h streams =
    let one = swapped (λ s o. live_by (leads s o)) h.entries 0 streams in
    let two = sum_by-le-sum_by (λ o. along (λ s. live_by (leads s o)) 0 streams) end_in h.entries (λ o. leads_once o streams) in
    omega (arith, one, two)

module _ (state : State) (hold : HandlesHold state) where
  -- a handle of an end is among its guest's
  of_one : (g i s : ℕ) → leads s (get_or (guest_in state.guests g).handles.entries i None) ≡ true → 1 ≤ handles_of_one s (guest_in state.guests g)
  of_one g i s e = by (cases_lt i (length es))
    where
      es : List (Option Entry)
      es = (guest_in state.guests g).handles.entries

      by : (i < length es) ⊎ (length es ≤ i) → 1 ≤ handles_of_one s (guest_in state.guests g)
      by (inl l) = omega (arith, ap live_by e, get_or-le-sum_by (λ o. live_by (leads s o)) es i None l)
      by (inr l) = absurd (let none : leads s (get_or es i None) ≡ false = ap (leads s) (get_or_past es i None l) in cc)

  -- and among all
  of_all : (g s : ℕ) → 1 ≤ handles_of_one s (guest_in state.guests g) → 1 ≤ all_of s state.guests
  of_all g s one = by (cases_lt g (length state.guests))
    where
      by : (g < length state.guests) ⊎ (length state.guests ≤ g) → 1 ≤ all_of s state.guests
      by (inl l) = omega (arith, one, get_or-le-sum_by (handles_of_one s) state.guests g no_guest l)
      by (inr l) = absurd (let none : handles_of_one s (guest_in state.guests g) ≡ 0 = ap (handles_of_one s) (get_or_past state.guests g no_guest l) in omega (arith, one, none))

  by_handle : (g handle s : ℕ) (side : Side) → is_end s side (end_named state g handle) ≡ true → 1 ≤ handles_of_one s (guest_in state.guests g)
  by_handle g zero s side e = cc
  by_handle g (suc i) s side e = of_one g i s (leads_named s side (get_or (guest_in state.guests g).handles.entries i None) e)

  by_owner : (s : ℕ) (side : Side) (o : Owner) → (end_of side (stream_at state s)).owner ≡ o → is_held o ≡ true → 1 ≤ all_of s state.guests
  by_owner s side (Held g handle) e h = of_all g s (by_handle g handle s side (hold.held g handle s side e))
  by_owner s side Loose e h = cc
  by_owner s side Gone e h = cc
  by_owner s side (Host n) e h = cc

  counted : (s : ℕ) → has_held (stream_at state s) ≡ true → 1 ≤ all_of s state.guests
  counted s e = by (is_held (stream_at state s).writer.owner) refl e
    where
      by : (b : Bool) → is_held (stream_at state s).writer.owner ≡ b → b || is_held (stream_at state s).reader.owner ≡ true → 1 ≤ all_of s state.guests
      by true w h = by_owner s Writing (stream_at state s).writer.owner refl w
      by false w h = by_owner s Reading (stream_at state s).reader.owner refl h

  held_within : count_by has_held state.streams ≤ handles_in_use state
  held_within =
      let one = count_along has_held (λ s. all_of s state.guests) 0 state.streams no_stream (λ i l e. let at : 0 + i ≡ i = omega arith in rw at (counted i e)) in
      let two = swapped handles_of_one state.guests 0 state.streams in
      let three = sum_by-le-sum_by (λ (k : Guest). along (λ s. handles_of_one s k) 0 state.streams) (λ k. live_of k.handles) state.guests live_within in
      omega (arith, one, two, three)
    where
      live_within : (k : Guest) → along (λ s. handles_of_one s k) 0 state.streams ≤ live_of k.handles
      live_within k =
          let all : live_of k.handles ≡ occupied k.handles + open_lends k.handles = refl in
          omega (arith, table_within k.handles state.streams, ends-most k.handles, all)

  -- streams of one guest
  by_guest : (g s : ℕ) (side : Side) (o : Owner) → (end_of side (stream_at state s)).owner ≡ o → is_held_by g o ≡ true → 1 ≤ handles_of_one s (guest_in state.guests g)
  by_guest g s side (Held guest handle) e h =
      rw (← eqb-true guest g h) (by_handle guest handle s side (hold.held guest handle s side e))
  by_guest g s side Loose e h = cc
  by_guest g s side Gone e h = cc
  by_guest g s side (Host n) e h = cc

  counted_by : (g s : ℕ) → has_end_of g (stream_at state s) ≡ true → 1 ≤ handles_of_one s (guest_in state.guests g)
  counted_by g s e = by (is_held_by g (stream_at state s).writer.owner) refl e
    where
      by : (b : Bool) → is_held_by g (stream_at state s).writer.owner ≡ b → b || is_held_by g (stream_at state s).reader.owner ≡ true → 1 ≤ handles_of_one s (guest_in state.guests g)
      by true w h = by_guest g s Writing (stream_at state s).writer.owner refl w
      by false w h = by_guest g s Reading (stream_at state s).reader.owner refl h

  pub streams_of_guest : (g : ℕ) → count_by (has_end_of g) state.streams ≤ ends_held (guest_in state.guests g).handles
  streams_of_guest g =
      let one = count_along (has_end_of g) (λ s. handles_of_one s (guest_in state.guests g)) 0 state.streams no_stream (λ i l e. let at : 0 + i ≡ i = omega arith in rw at (counted_by g i e)) in
      omega (arith, one, table_within (guest_in state.guests g).handles state.streams)

-- ## Streams that are there

either_way : (w r : Owner) → is_host w ≡ false → is_host r ≡ false → live_by (not (is_gone w && is_gone r)) ≤ live_by (is_held w || is_held r) + live_by (is_loose w || is_loose r)
either_way (Held g h) r a b = omega arith
either_way Loose (Held g h) a b = omega arith
either_way Loose Loose a b = omega arith
either_way Loose Gone a b = omega arith
either_way Loose (Host n) a b = cc
either_way Gone (Held g h) a b = omega arith
either_way Gone Loose a b = omega arith
either_way Gone Gone a b = omega arith
either_way Gone (Host n) a b = cc
either_way (Host n) r a b = cc

module _ (held : Stream → Bool) where
  -- where each is one or the other, they are counted by both
  counts_within : (xs : List Stream) → ((i : ℕ) → i < length xs → live_by (is_live (get_or xs i no_stream)) ≤ live_by (held (get_or xs i no_stream)) + live_by (has_loose (get_or xs i no_stream))) → count_by is_live xs ≤ count_by held xs + count_by has_loose xs
  counts_within [] h = omega arith
  counts_within (x ∷ xs) h =
      omega (arith, sum_by-cons (λ y. live_by (is_live y)) x xs, sum_by-cons (λ y. live_by (held y)) x xs, sum_by-cons (λ y. live_by (has_loose y)) x xs, h 0 (omega arith), counts_within xs (λ i l. h (suc i) (omega (arith, l))))

pub streams_within : (state : State) → HandlesHold state → HasNoHost state → count_by is_live state.streams ≤ handles_in_use state + count_by has_loose state.streams
streams_within state hold none =
    let within = counts_within has_held state.streams (λ i l. either_way (stream_at state i).writer.owner (stream_at state i).reader.owner (none i Writing) (none i Reading)) in
    omega (arith, within, held_within state hold)
