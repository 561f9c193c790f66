-- Tables, guests and turns look at no number of a stream.
use Rattle.std.proofs.Common.{◌≡◌, true, false, ℕ, zero, suc, List, [], ◌∷◌, set, Option, Some, None, refl, sym, ap, ◌∙◌, cond}
use Rattle.std.specs.Prelude.{Bool, map, if◌then◌else◌, Ok, Err, is_ok, sum, sum_by, min, ℤ, ◌+◌}
use Rattle.std.specs.Option.{option_map}
use Rattle.std.proofs.Math.ListN.{get_or-map}
use Rattle.std.proofs.lemmas.List.{map-set, map-append, length-map}
use Rattle.std.proofs.lemmas.List.Sums.{sum-map}
use Rattle.std.proofs.lemmas.Simd.{map-map}
use Rattle.strm_codes.specs.Layout.{item_type}
use Rattle.strm_codes.specs.Sameness.{same_payload}
use Rattle.strm_codes.specs.declared.codes.TransmitIndex.TheVariants as index
use Rattle.strm_memory.specs.Items.{items_at, stored_at}
use Rattle.strm_handles.specs.Handles.{entry_at, inserted, inserted_in, removed, next_index, next_of, occupied_in, lends_of, lends_in, live_of}
use Rattle.strm_handles.specs.Lookups.{◌>>=◌, stream_end_in, future_end_in, end_rep_in, end_rep_of, waitable_set_rep_in, error_context_rep_in}
use Rattle.strm_handles.specs.declared.entries.Entry.TheVariants as entries
use Rattle.strm_handles.specs.declared.entries.TransmitEnd.{TransmitEnd}
use Rattle.strm_handles.specs.declared.errors.HandleError.TheVariants as errors
use Rattle.strm_machine.specs.Words.{Guest, Handles, Entry, Payload, TransmitIndex, Name, Operated, guest_in, memory_in, with_memory, no_guest, opposite, same_side, end_of, sets_in}
use Rattle.strm_machine.specs.declared.streams.Operation.{Operation}
use Rattle.strm_machine.specs.declared.streams.Side.{Side}
use Rattle.strm_machine.specs.declared.streams.Side.TheVariants.{Writing, Reading}
use Rattle.strm_machine.specs.declared.streams.Stream.{Stream}
use Rattle.strm_machine.specs.declared.streams.Meeting.{Meeting}
use Rattle.strm_machine.specs.declared.streams.Meeting.TheVariants.{BothComplete, WriteCompletes, ReadCompletes}
use Rattle.strm_machine.specs.State.{is_gone}
use Rattle.strm_machine.specs.Sides.{write_of, read_of}
use Rattle.strm_machine.specs.Making.{end_entry}
use Rattle.strm_machine.specs.Meetings.{carried, meeting_of}
use Rattle.strm_machine.specs.Operating.{moves, rendezvous_by, finds, operate}
use Rattle.strm_machine.specs.Tests.{named_by, stream_named, side_named}
use Rattle.strm_place_laws.specs.Renaming.{entry_as, handles_as, guest_as, guests_as}

-- a table's answer for a handle, with the stream's number under f
abbrev pub name_as : (ℕ → ℕ) → Name → Name
name_as f (Ok answer) = Ok (f answer.0, answer.1)
name_as f (Err error) = Err error

-- what a turn leaves, with such guests
abbrev pub turn_as : (ℕ → ℕ) → Operated → Operated
turn_as f t = record { code = t.code; guests = guests_as f t.guests; stream = t.stream }

-- the guests with items where a read's next ones are to lie
abbrev lowered : List Guest → Payload → Operation → List (List ℤ) → List Guest
lowered guests payload read xs =
    with_memory guests read.guest (stored_at (item_type payload) (memory_in guests read.guest) read.address xs)

module _ (f : ℕ → ℕ) where
  -- ## Entries

  pub end_entry-as : (side : Side) (ty : TransmitIndex) (n : ℕ) → end_entry side ty (f n) ≡ entry_as f (end_entry side ty n)
  end_entry-as Writing (index.Stream payload) n = refl
  end_entry-as Writing (index.Future payload) n = refl
  end_entry-as Reading (index.Stream payload) n = refl
  end_entry-as Reading (index.Future payload) n = refl

  lends-as : (e : Entry) → lends_of (entry_as f e) ≡ lends_of e
  lends-as (entries.Stream end) = refl
  lends-as (entries.Future end) = refl
  lends-as (entries.ResourceOwn resource lends) = refl
  lends-as (entries.ResourceBorrow resource scope) = refl
  lends-as (entries.ErrorContext rep) = refl
  lends-as (entries.Subtask rep is_host) = refl
  lends-as (entries.WaitableSet rep) = refl

  occupied_in-as : (o : Option Entry) → occupied_in (option_map (entry_as f) o) ≡ occupied_in o
  occupied_in-as None = refl
  occupied_in-as (Some e) = refl

  lends_in-as : (o : Option Entry) → lends_in (option_map (entry_as f) o) ≡ lends_in o
  lends_in-as None = refl
  lends_in-as (Some e) = lends-as e

  end_rep_in-as : (o : Option Entry) → end_rep_in (option_map (entry_as f) o) ≡ name_as f (end_rep_in o)
  end_rep_in-as None = refl
  end_rep_in-as (Some (entries.Stream end)) = refl
  end_rep_in-as (Some (entries.Future end)) = refl
  end_rep_in-as (Some (entries.ResourceOwn resource lends)) = refl
  end_rep_in-as (Some (entries.ResourceBorrow resource scope)) = refl
  end_rep_in-as (Some (entries.ErrorContext rep)) = refl
  end_rep_in-as (Some (entries.Subtask rep is_host)) = refl
  end_rep_in-as (Some (entries.WaitableSet rep)) = refl

  set_rep_in-as : (o : Option Entry) → waitable_set_rep_in (option_map (entry_as f) o) ≡ waitable_set_rep_in o
  set_rep_in-as None = refl
  set_rep_in-as (Some (entries.Stream end)) = refl
  set_rep_in-as (Some (entries.Future end)) = refl
  set_rep_in-as (Some (entries.ResourceOwn resource lends)) = refl
  set_rep_in-as (Some (entries.ResourceBorrow resource scope)) = refl
  set_rep_in-as (Some (entries.ErrorContext rep)) = refl
  set_rep_in-as (Some (entries.Subtask rep is_host)) = refl
  set_rep_in-as (Some (entries.WaitableSet rep)) = refl

  context_rep_in-as : (o : Option Entry) → error_context_rep_in (option_map (entry_as f) o) ≡ error_context_rep_in o
  context_rep_in-as None = refl
  context_rep_in-as (Some (entries.Stream end)) = refl
  context_rep_in-as (Some (entries.Future end)) = refl
  context_rep_in-as (Some (entries.ResourceOwn resource lends)) = refl
  context_rep_in-as (Some (entries.ResourceBorrow resource scope)) = refl
  context_rep_in-as (Some (entries.ErrorContext rep)) = refl
  context_rep_in-as (Some (entries.Subtask rep is_host)) = refl
  context_rep_in-as (Some (entries.WaitableSet rep)) = refl

  typed-as : (b : Bool) (end : TransmitEnd) → (cond b (Ok (record end { rep = f end.rep })) (Err errors.WrongType) >>= (λ e. Ok (e.rep, e.state))) ≡ name_as f (cond b (Ok end) (Err errors.WrongType) >>= (λ e. Ok (e.rep, e.state)))
  typed-as true end = refl
  typed-as false end = refl

  stream_end-as : (p : Payload) (o : Option Entry) → (stream_end_in p (option_map (entry_as f) o) >>= (λ e. Ok (e.rep, e.state))) ≡ name_as f (stream_end_in p o >>= (λ e. Ok (e.rep, e.state)))
  stream_end-as p None = refl
  stream_end-as p (Some (entries.Stream end)) = typed-as (same_payload end.ty p) end
  stream_end-as p (Some (entries.Future end)) = refl
  stream_end-as p (Some (entries.ResourceOwn resource lends)) = refl
  stream_end-as p (Some (entries.ResourceBorrow resource scope)) = refl
  stream_end-as p (Some (entries.ErrorContext rep)) = refl
  stream_end-as p (Some (entries.Subtask rep is_host)) = refl
  stream_end-as p (Some (entries.WaitableSet rep)) = refl

  future_end-as : (p : Payload) (o : Option Entry) → (future_end_in p (option_map (entry_as f) o) >>= (λ e. Ok (e.rep, e.state))) ≡ name_as f (future_end_in p o >>= (λ e. Ok (e.rep, e.state)))
  future_end-as p None = refl
  future_end-as p (Some (entries.Stream end)) = refl
  future_end-as p (Some (entries.Future end)) = typed-as (same_payload end.ty p) end
  future_end-as p (Some (entries.ResourceOwn resource lends)) = refl
  future_end-as p (Some (entries.ResourceBorrow resource scope)) = refl
  future_end-as p (Some (entries.ErrorContext rep)) = refl
  future_end-as p (Some (entries.Subtask rep is_host)) = refl
  future_end-as p (Some (entries.WaitableSet rep)) = refl

  -- ## Tables

  pub entry_at-as : (h : Handles) (i : ℕ) → entry_at (handles_as f h) i ≡ option_map (entry_as f) (entry_at h i)
  entry_at-as h zero = refl
  entry_at-as h (suc i) = get_or-map (option_map (entry_as f)) h.entries i None

  pub end_rep_of-as : (h : Handles) (i : ℕ) → end_rep_of (handles_as f h) i ≡ name_as f (end_rep_of h i)
  end_rep_of-as h i = ap end_rep_in (entry_at-as h i) ∙ end_rep_in-as (entry_at h i)

  pub named_by-as : (ty : TransmitIndex) (h : Handles) (i : ℕ) → named_by ty (handles_as f h) i ≡ name_as f (named_by ty h i)
  named_by-as (index.Stream p) h i = ap (λ o. stream_end_in p o >>= (λ e. Ok (e.rep, e.state))) (entry_at-as h i) ∙ stream_end-as p (entry_at h i)
  named_by-as (index.Future p) h i = ap (λ o. future_end_in p o >>= (λ e. Ok (e.rep, e.state))) (entry_at-as h i) ∙ future_end-as p (entry_at h i)

  pub set_rep_of-as : (h : Handles) (i : ℕ) → waitable_set_rep_in (entry_at (handles_as f h) i) ≡ waitable_set_rep_in (entry_at h i)
  set_rep_of-as h i = ap waitable_set_rep_in (entry_at-as h i) ∙ set_rep_in-as (entry_at h i)

  pub context_rep_of-as : (h : Handles) (i : ℕ) → error_context_rep_in (entry_at (handles_as f h) i) ≡ error_context_rep_in (entry_at h i)
  context_rep_of-as h i = ap error_context_rep_in (entry_at-as h i) ∙ context_rep_in-as (entry_at h i)

  pub next_index-as : (h : Handles) → next_index (handles_as f h) ≡ next_index h
  next_index-as h = ap (next_of h.freed) (length-map h.entries (option_map (entry_as f)))

  inserted_in-as : (es : List (Option Entry)) (freed : List ℕ) (e : Entry) → inserted_in (map (option_map (entry_as f)) es) freed (entry_as f e) ≡ handles_as f (inserted_in es freed e)
  inserted_in-as es [] e = ap (λ xs. record { entries = xs; freed = [] }) (sym (map-append (option_map (entry_as f)) es (Some e ∷ [])))
  inserted_in-as es (zero ∷ ns) e = refl
  inserted_in-as es (suc i ∷ ns) e = ap (λ xs. record { entries = xs; freed = ns }) (sym (map-set (option_map (entry_as f)) es i (Some e)))

  pub inserted-as : (h : Handles) (e : Entry) → inserted (handles_as f h) (entry_as f e) ≡ handles_as f (inserted h e)
  inserted-as h e = inserted_in-as h.entries h.freed e

  pub removed-as : (h : Handles) (i : ℕ) → removed (handles_as f h) i ≡ handles_as f (removed h i)
  removed-as h zero = refl
  removed-as h (suc i) = ap (λ es. record { entries = es; freed = suc i ∷ h.freed }) (sym (map-set (option_map (entry_as f)) h.entries i None))

  -- a sum over what f leaves as it was
  by_map : {A B : Type 0} (to : A → B) (weight : B → ℕ) (other : A → ℕ) → ((x : A) → weight (to x) ≡ other x) → (xs : List A) → sum_by weight (map to xs) ≡ sum_by other xs
  by_map to weight other e xs =
      let last : sum_by (λ x. weight (to x)) xs ≡ sum_by other xs = λ i. sum_by (λ x. e x i) xs in
      sym (sum-map weight (map to xs)) ∙ ap sum (map-map weight to xs) ∙ sum-map (λ x. weight (to x)) xs ∙ last

  pub live_of-as : (h : Handles) → live_of (handles_as f h) ≡ live_of h
  live_of-as h = λ i. by_map (option_map (entry_as f)) occupied_in occupied_in occupied_in-as h.entries i + by_map (option_map (entry_as f)) lends_in lends_in lends_in-as h.entries i

  -- ## Guests

  pub guest_in-as : (guests : List Guest) (g : ℕ) → guest_in (guests_as f guests) g ≡ guest_as f (guest_in guests g)
  guest_in-as guests g = get_or-map (guest_as f) guests g no_guest

  pub memory_in-as : (guests : List Guest) (g : ℕ) → memory_in (guests_as f guests) g ≡ memory_in guests g
  memory_in-as guests g = ap (λ (k : Guest). k.memory) (guest_in-as guests g)

  pub sets_in-as : (guests : List Guest) (g : ℕ) → sets_in (guests_as f guests) g ≡ sets_in guests g
  sets_in-as guests g = ap (λ (k : Guest). k.sets) (guest_in-as guests g)

  -- a guest that is changed in two ways that are one but for numbers of streams
  pub changed-as : (new old : Guest → Guest) → ((k : Guest) → new (guest_as f k) ≡ guest_as f (old k)) → (guests : List Guest) (g : ℕ) → set (guests_as f guests) g (new (guest_in (guests_as f guests) g)) ≡ guests_as f (set guests g (old (guest_in guests g)))
  changed-as new old e guests g =
      ap (λ k. set (guests_as f guests) g (new k)) (guest_in-as guests g)
      ∙ ap (set (guests_as f guests) g) (e (guest_in guests g))
      ∙ sym (map-set (guest_as f) guests g (old (guest_in guests g)))

  pub sum_by-as : (weight : Guest → ℕ) → ((k : Guest) → weight (guest_as f k) ≡ weight k) → (guests : List Guest) → sum_by weight (guests_as f guests) ≡ sum_by weight guests
  sum_by-as weight e guests = by_map (guest_as f) weight weight e guests

  -- ## Turns

  lowered-as : (guests : List Guest) (payload : Payload) (read : Operation) (o : Option (List (List ℤ))) → option_map (lowered (guests_as f guests) payload read) o ≡ option_map (guests_as f) (option_map (lowered guests payload read) o)
  lowered-as guests payload read None = refl
  lowered-as guests payload read (Some xs) = ap Some (changed-as stored stored (λ k. refl) guests read.guest)
    where
      stored : Guest → Guest
      stored k = record k { memory = stored_at (item_type payload) k.memory read.address xs }

  carried-as : (guests : List Guest) (payload : Payload) (write read : Operation) (n : ℕ) → carried (guests_as f guests) payload write read n ≡ option_map (guests_as f) (carried guests payload write read n)
  carried-as guests payload write read n =
      ap (λ (m : List ℕ). option_map (lowered (guests_as f guests) payload read) (items_at (item_type payload) m write.address n)) (memory_in-as guests write.guest)
      ∙ lowered-as guests payload read (items_at (item_type payload) (memory_in guests write.guest) write.address n)

  moves-as : (side : Side) (guests : List Guest) (stream : Stream) (mine theirs : Operation) (n : ℕ) (o : Option (List Guest)) → moves side (guests_as f guests) stream mine theirs n (option_map (guests_as f) o) ≡ turn_as f (moves side guests stream mine theirs n o)
  moves-as side guests stream mine theirs n None = refl
  moves-as side guests stream mine theirs n (Some after) = refl

  alone-as : (b : Bool) (x y z w : Operated) → x ≡ turn_as f z → y ≡ turn_as f w → (if b then x else y) ≡ turn_as f (if b then z else w)
  alone-as true x y z w e g = e
  alone-as false x y z w e g = g

  meets-as : (m : Meeting) (side : Side) (guests : List Guest) (stream : Stream) (mine theirs : Operation) → rendezvous_by m side (guests_as f guests) stream mine theirs ≡ turn_as f (rendezvous_by m side guests stream mine theirs)
  meets-as BothComplete side guests stream mine theirs =
      ap (moves side (guests_as f guests) stream mine theirs (min mine.left theirs.left)) (carried-as guests stream.payload (write_of side mine theirs) (read_of side mine theirs) (min mine.left theirs.left))
      ∙ moves-as side guests stream mine theirs (min mine.left theirs.left) (carried guests stream.payload (write_of side mine theirs) (read_of side mine theirs) (min mine.left theirs.left))
  meets-as WriteCompletes side guests stream mine theirs = alone-as (same_side Writing side) _ _ _ _ refl refl
  meets-as ReadCompletes side guests stream mine theirs = alone-as (same_side Reading side) _ _ _ _ refl refl

  finds-as : (side : Side) (guests : List Guest) (stream : Stream) (mine : Operation) (o : Option Operation) → finds side (guests_as f guests) stream mine o ≡ turn_as f (finds side guests stream mine o)
  finds-as side guests stream mine None = refl
  finds-as side guests stream mine (Some theirs) =
      alone-as theirs.is_open _ _ _ _ (meets-as (meeting_of (write_of side mine theirs).left (read_of side mine theirs).left) side guests stream mine theirs) refl

  pub operate-as : (side : Side) (guests : List Guest) (stream : Stream) (mine : Operation) → operate side (guests_as f guests) stream mine ≡ turn_as f (operate side guests stream mine)
  unfolding operate
  operate-as side guests stream mine =
      alone-as (is_gone (end_of (opposite side) stream).owner) _ _ _ _ refl (finds-as side guests stream mine (end_of (opposite side) stream).operation)

-- the stream and the side of a name that is one
pub stream_named-as : (f : ℕ → ℕ) (name : Name) → is_ok name ≡ true → stream_named (name_as f name) ≡ f (stream_named name)
stream_named-as f (Ok answer) e = refl
stream_named-as f (Err error) e = cc

pub side_named-as : (f : ℕ → ℕ) (name : Name) → side_named (name_as f name) ≡ side_named name
side_named-as f (Ok answer) = refl
side_named-as f (Err error) = refl
