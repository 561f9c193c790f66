-- The machine does what guests of a chain do: nothing refuses a step on an end that its guest holds, that has no
-- operation and was not told that the other one is gone; and how a step on a stream of bytes is answered.
use Rattle.std.proofs.Common.{◌≡◌, ℕ, ◌+◌, ◌*◌, ◌<◌, ◌≤◌, Bool, true, false, cond, min, List, [], ◌∷◌, ◌++◌, length, get_or, Option, Some, None, Ok, Err, refl, sym, ap, ◌∙◌, subst, inl, inr, arith, drop}
use Rattle.std.specs.Prelude.{◌==◌, ◌&&◌, ◌||◌, ◌⊎◌, not, nat_lt, nat_le, IsSome, is_some}
use Rattle.std.specs.Option.{option_map}
use Rattle.std.proofs.lemmas.Bool.{cond_both, eqb-true}
use Rattle.std.proofs.lemmas.Bool.Decides.{nat_tests}
use Rattle.std.proofs.Math.ListN.{get_or-map}
use Rattle.strm_codes.specs.declared.refusals.Refusal.{Refusal}
use Rattle.strm_codes.specs.declared.refusals.Refusal.TheVariants as refusals
use Rattle.strm_codes.specs.declared.codes.ReturnCode.{ReturnCode}
use Rattle.strm_codes.specs.declared.codes.ReturnCode.TheVariants as codes
use Rattle.strm_codes.specs.declared.codes.TransmitIndex.{TransmitIndex}
use Rattle.strm_codes.specs.declared.codes.TransmitIndex.TheVariants as index
use Rattle.strm_codes.specs.declared.codes.TransmitKind.TheVariants.{Stream as AStream}
use Rattle.strm_codes.specs.declared.payloads.Payload.TheVariants.{Nothing as NoPayload, One}
use Rattle.strm_codes.specs.declared.scalars.Scalar.TheVariants.{U8}
use Rattle.strm_codes.specs.Codes.{count_of_code, completed_code}
use Rattle.strm_codes.specs.Counts.{count_limit}
use Rattle.strm_codes.specs.Layout.{item_type}
use Rattle.strm_codes.specs.ItemTypes.{item_size}
use Rattle.strm_codes.specs.Sameness.{same_payload}
use Rattle.strm_codes.proofs.SamenessLemmas.{Decides-same_payload}
use Rattle.strm_events.specs.Reports.{report_of, operation_report, idle_report, outcome_code}
use Rattle.strm_handles.specs.Handles.{entry_at}
use Rattle.strm_handles.specs.Lookups.{◌>>=◌, stream_end_in, end_rep_in}
use Rattle.strm_handles.specs.declared.entries.Entry.{Entry}
use Rattle.strm_handles.specs.declared.entries.Entry.TheVariants as entries
use Rattle.strm_handles.specs.declared.entries.TransmitEnd.{TransmitEnd}
use Rattle.strm_handles.specs.declared.errors.HandleError.TheVariants as errors
use Rattle.strm_memory.specs.Items.{items_at}
use Rattle.strm_memory.proofs.RegionLemmas.{items-number_or_none}
use Rattle.strm_machine.specs.State.{State, Guest, guest_in, memory_in, stream_at, no_stream, is_gone}
use Rattle.strm_machine.specs.Acts.{end_named_by}
use Rattle.strm_machine.specs.Sides.{opposite, end_of, same_side, write_of, read_of}
use Rattle.strm_machine.specs.Soundness.{IsSound, EntryIsNamed, type_of, types_of}
use Rattle.strm_machine.specs.Meetings.{begun, carried}
use Rattle.strm_machine.specs.Operating.{Operated, operate, finds, moves, rendezvous_by}
use Rattle.strm_machine.specs.Endings.{report_on, pending_of}
use Rattle.strm_machine.specs.Moments.{is_end}
use Rattle.strm_machine.specs.Tests.{Name, named, end_named, side_of, stream_named, side_named, names_misaligned, is_busy, owes_value, is_open_of}
use Rattle.strm_machine.specs.Refusals.{Reason, first_of, refusal, region_reasons, bytes_reasons, handle_reasons, slot_reasons, end_reasons_of, drop_reasons_of, own_reasons}
use Rattle.strm_machine.specs.Reactions.{Reaction, goes, written_back, told, performs, reaction}
use Rattle.strm_machine.specs.declared.streams.Side.{Side}
use Rattle.strm_machine.specs.declared.streams.Side.TheVariants.{Writing, Reading}
use Rattle.strm_machine.specs.declared.streams.Operation.{Operation}
use Rattle.strm_machine.specs.declared.streams.Stream.{Stream}
use Rattle.strm_machine.specs.declared.acts.NamedEnd.{NamedEnd}
use Rattle.strm_machine.specs.declared.acts.Act.TheVariants.{OnEnd, Event, OnMemory}
use Rattle.strm_machine.specs.declared.acts.EndAct.TheVariants.{Operate, Drop}
use Rattle.strm_machine.specs.declared.acts.MemoryAct.TheVariants.{Poke, Dump}
use Rattle.strm_machine.specs.declared.replies.Reply.TheVariants as replies
use Rattle.strm_machine.specs.declared.steps.Step.TheVariants as steps
use Rattle.strm_machine.proofs.BoundLemmas.{not_out}
use Rattle.strm_machine.proofs.NameLemmas.{entry_named}
use Rattle.strm_machine.proofs.ReactionLemmas.{reaction-performs, refusal-on_end, performs-on_end}
use Rattle.strm_machine.proofs.RefusalLemmas.{not_refused}
use Rattle.strm_machine.proofs.SideLemmas.{same_side_is, same_side-itself}
use Rattle.strm_machine.proofs.SoundLemmas.{AreNamed-at}
use Rattle.strm_transmit.specs.Meets.{is_done}
use Rattle.strm_chain.specs.Playing.{bytes_type, IsDone}
use Rattle.strm_chain.specs.Keeping.{HasItems, IsPlain, ArePlain}
use Rattle.strm_chain.specs.Turned.{EndsRead, WithMore, WithLast}
use Rattle.strm_chain.proofs.NamingLemmas.{both_true}
use Rattle.strm_chain.proofs.AfterLemmas.{both_meet, plain_on, written_is}

-- ## Nothing refuses a step

pub not_le-false : (m n : ℕ) → n < m → nat_le m n ≡ false
not_le-false m n l = grind (arith, nat_tests)

pub not_lt-false : (m n : ℕ) → n ≤ m → nat_lt m n ≡ false
not_lt-false m n l = grind (arith, nat_tests)

pub and_false : (b c : Bool) → c ≡ false → b && c ≡ false
and_false true c e = e
and_false false c e = refl

pub skip : (b : Bool) (r : Refusal) (o : Option Refusal) → b ≡ false → o ≡ None → cond b (Some r) o ≡ None
skip b r o e f = rw e f

none_of_either : (xs ys : List Reason) → first_of xs ≡ None → first_of ys ≡ None → first_of (xs ++ ys) ≡ None
none_of_either [] ys e f = f
none_of_either (x ∷ xs) ys e f =
    let first = not_refused x.holds x.refusal (first_of xs) e in
    skip x.holds x.refusal (first_of (xs ++ ys)) first.0 (none_of_either xs ys first.1 f)

-- bytes that lie in a guest's memory
pub bytes_free : (state : State) (g address count : ℕ) → g < length state.guests → address + count ≤ length (memory_in state.guests g) → first_of (bytes_reasons state g address count) ≡ None
bytes_free state g address count there inside =
    skip _ _ _ (not_le-false (length state.guests) g there)
    (skip _ _ _ (and_false (nat_lt 0 count) _ (not_lt-false (length (memory_in state.guests g)) (address + count) inside)) refl)

region_free : (state : State) (g address count : ℕ) → g < length state.guests → address + count ≤ length (memory_in state.guests g) → count ≤ 64 → names_misaligned bytes_type address count ≡ false → first_of (region_reasons state g bytes_type address count) ≡ None
region_free state g address count there inside few aligned =
    let one : item_size (item_type (One U8)) * count ≡ count = omega arith in
    skip _ _ _ (not_le-false (length state.guests) g there)
    (skip _ _ _ (not_le-false count_limit count (omega (arith, few)))
    (skip _ _ _ (not_out (length (memory_in state.guests g)) (item_type (One U8)) address count (λ p q. omega (arith, inside, one)))
    (skip _ _ _ aligned refl)))

typed_is : (s : ℕ) (side : Side) (end : TransmitEnd) (b : Bool) → b ≡ true → is_end s side (Ok (end.rep, end.state)) ≡ true → is_end s side (cond b (Ok end) (Err errors.WrongType) >>= (λ e. Ok (e.rep, e.state))) ≡ true
typed_is s side end true f e = e
typed_is s side end false f e = cc

-- a handle of an end of a stream of bytes names that end, asked for with that type
typed_in : (types : List TransmitIndex) (s : ℕ) (side : Side) (o : Option Entry) → EntryIsNamed types o → get_or types s (index.Stream NoPayload) ≡ bytes_type → is_end s side (end_rep_in o) ≡ true → is_end s side (stream_end_in (One U8) o >>= (λ e. Ok (e.rep, e.state))) ≡ true
typed_in types s side None h ty e = cc
typed_in types s side (Some (entries.Stream end)) h ty e =
    let at : end.rep ≡ s = eqb-true end.rep s (both_true (end.rep == s) (same_side (side_of end.state) side) e).0 in
    let same : index.Stream end.ty ≡ index.Stream (One U8) = sym h.typed ∙ ap (λ n. get_or types n (index.Stream NoPayload)) at ∙ ty in
    let payload : end.ty ≡ One U8 = cc in
    typed_is s side end (same_payload end.ty (One U8)) ((Decides-same_payload end.ty (One U8)).1 payload) e
typed_in types s side (Some (entries.Future end)) h ty e =
    let at : end.rep ≡ s = eqb-true end.rep s (both_true (end.rep == s) (same_side (side_of end.state) side) e).0 in
    let wrong : index.Future end.ty ≡ index.Stream (One U8) = sym h.typed ∙ ap (λ n. get_or types n (index.Stream NoPayload)) at ∙ ty in
    cc
typed_in types s side (Some (entries.ResourceOwn resource lends)) h ty e = cc
typed_in types s side (Some (entries.ResourceBorrow resource scope)) h ty e = cc
typed_in types s side (Some (entries.ErrorContext rep)) h ty e = cc
typed_in types s side (Some (entries.Subtask rep is_host)) h ty e = cc
typed_in types s side (Some (entries.WaitableSet rep)) h ty e = cc

-- what a name that is an end says
record NamesIt (s : ℕ) (side : Side) (name : Name) : Type 0 where
  stream : stream_named name ≡ s
  on : side_named name ≡ side
  handle : first_of (handle_reasons name) ≡ None
  slot : first_of (slot_reasons name) ≡ None

names_it : (s : ℕ) (side : Side) (name : Name) → is_end s side name ≡ true → NamesIt s side name
names_it s side (Ok answer) e =
    let b = both_true (answer.0 == s) (same_side (side_of answer.1) side) e in
    record { stream = eqb-true answer.0 s b.0; on = sym (same_side_is (side_of answer.1) side b.1); handle = refl; slot = refl }
names_it s side (Err error) e = cc

-- a code is answered, of which this holds
abbrev pub Codes : (ReturnCode → Type 0) → Operated → Type 0
Codes P t = (code : ReturnCode) × (t.code ≡ Some code) × P code

-- guest g holds this end of stream s, which is of bytes, under a handle
pub record HoldsEnd (state : State) (s : ℕ) (side : Side) (g handle : ℕ) : Type 0 where
  pub there : g < length state.guests
  pub held : is_end s side (end_named state g handle) ≡ true
  pub typed : type_of (stream_at state s) ≡ bytes_type

-- the end has no operation and was not told that the other one is gone
pub record Rests (stream : Stream) (side : Side) : Type 0 where
  pub idle : (end_of side stream).operation ≡ None
  pub untold : (end_of side stream).told ≡ false

unbusy : (side : Side) (stream : Stream) → (end_of side stream).operation ≡ None → not (same_side side side) || is_busy side stream ≡ false
unbusy side stream idle = ap (λ b. not b || is_busy side stream) (same_side-itself side) ∙ ap is_some idle

-- a stream owes no value
owes_none : (side : Side) (stream : Stream) → owes_value side AStream stream ≡ false
owes_none Writing stream = refl
owes_none Reading stream = refl

event_performs : (state : State) (g handle : ℕ) → is_done (performs state (Event g handle)).reply ≡ true
unfolding performs
event_performs state g handle = refl

module _ (state : State) (s : ℕ) (side : Side) (g handle : ℕ) (h : IsSound state) (holds : HoldsEnd state s side g handle) where
  abbrev this : NamedEnd
  this = end_named_by g bytes_type handle

  typed_name : NamesIt s side (named state this)
  typed_name =
      names_it s side (named state this)
      (typed_in (types_of state.streams) s side (entry_at (guest_in state.guests g).handles handle)
      (entry_named (types_of state.streams) _ handle (AreNamed-at (types_of state.streams) state.guests g h.named))
      (get_or-map type_of state.streams s no_stream ∙ holds.typed) holds.held)

  own_free : (more : Stream → Side → List Reason) → first_of (more (stream_at state s) side) ≡ None → first_of (more (stream_at state (stream_named (named state this))) (side_named (named state this))) ≡ None
  own_free more e =
      let name = named state this in
      subst (λ k. first_of (more (stream_at state k) (side_named name)) ≡ None) (sym typed_name.stream)
      (subst (λ d. first_of (more (stream_at state s) d) ≡ None) (sym typed_name.on) e)

  pub operate_free : (address count : ℕ) → address + count ≤ length (memory_in state.guests g) → count ≤ 64 → names_misaligned bytes_type address count ≡ false → Rests (stream_at state s) side → refusal state (OnEnd side this (Operate address count)) ≡ None
  operate_free address count inside few aligned rests =
      let own : first_of (own_reasons state side this (Operate address count)) ≡ None = own_free (λ stream on. end_reasons_of stream side g bytes_type on)
      (skip (not (same_side side side) || is_busy side (stream_at state s)) _ _ (unbusy side (stream_at state s) rests.idle)
      (skip _ _ _ rests.untold
      (skip _ _ _ (and_false (is_open_of g (end_of (opposite side) (stream_at state s)).operation) _ refl) refl))) in
      refusal-on_end state side this (Operate address count)
      ∙ none_of_either (region_reasons state g bytes_type address count) ((handle_reasons (named state this) ++ own_reasons state side this (Operate address count)) ++ [])
      (region_free state g address count holds.there inside few aligned)
      (none_of_either (handle_reasons (named state this) ++ own_reasons state side this (Operate address count)) []
      (none_of_either (handle_reasons (named state this)) (own_reasons state side this (Operate address count)) typed_name.handle own) refl)

  pub drop_free : (end_of side (stream_at state s)).operation ≡ None → refusal state (OnEnd side this Drop) ≡ None
  drop_free idle =
      let own : first_of (own_reasons state side this Drop) ≡ None = own_free (λ stream on. drop_reasons_of stream side bytes_type on)
      (skip (not (same_side side side)) refusals.WrongEnd _ (ap not (same_side-itself side))
      (skip (is_busy side (stream_at state s)) refusals.Busy _ (ap is_some idle)
      (skip (owes_value side AStream (stream_at state s)) refusals.FutureWithoutValue None (owes_none side (stream_at state s)) refl))) in
      refusal-on_end state side this Drop
      ∙ skip _ _ _ (not_le-false (length state.guests) g holds.there)
      (none_of_either (handle_reasons (named state this) ++ own_reasons state side this Drop) []
      (none_of_either (handle_reasons (named state this)) (own_reasons state side this Drop) typed_name.handle own) refl)

  pub event_free : refusal state (Event g handle) ≡ None
  unfolding refusal
  event_free = skip _ _ _ (not_le-false (length state.guests) g holds.there) (names_it s side (end_named state g handle) holds.held).slot

  -- so the machine does it, and answers a code of the turn
  module _ (address count : ℕ) (P : ReturnCode → Type 0) (untrapped : state.trapped ≡ false)
      (free : refusal state (OnEnd side this (Operate address count)) ≡ None)
      (codes_are : Codes P (operate side state.guests (stream_at state s) (begun g address count))) where
    abbrev found : ℕ
    found = stream_named (named state this)

    abbrev turn_at : ℕ → Operated
    turn_at k = operate side state.guests (stream_at state k) (begun g address count)

    performed_so : reaction state (OnEnd side this (Operate address count)) ≡ written_back state found (turn_at found) (turn_at found).code
    performed_so =
        reaction-performs state (OnEnd side this (Operate address count)) untrapped free
        ∙ performs-on_end state side this (Operate address count)

    code_is : (turn_at found).code ≡ Some codes_are.0
    code_is = ap (λ k. (turn_at k).code) typed_name.stream ∙ codes_are.1

    pub operate_done : is_done (reaction state (OnEnd side this (Operate address count))).reply ≡ true
    operate_done =
        ap (λ (r : Reaction). is_done r.reply) performed_so
        ∙ ap (λ o. is_done (written_back state found (turn_at found) o).reply) code_is

    pub operate_code : (code : ReturnCode) (next : State) → reaction state (OnEnd side this (Operate address count)) ≡ goes (replies.Code code) next → P code
    operate_code code next e =
        let is = written_is state next found (turn_at found) (turn_at found).code code (sym performed_so ∙ e) in
        let same : Some codes_are.0 ≡ Some code = sym code_is ∙ is.0 in
        let one : codes_are.0 ≡ code = cc in
        subst P one codes_are.2

  pub drop_done : state.trapped ≡ false → (end_of side (stream_at state s)).operation ≡ None → is_done (reaction state (OnEnd side this Drop)).reply ≡ true
  drop_done untrapped idle =
      ap (λ (r : Reaction). is_done r.reply) (reaction-performs state (OnEnd side this Drop) untrapped (drop_free idle) ∙ performs-on_end state side this Drop)

  pub event_done : state.trapped ≡ false → is_done (reaction state (Event g handle)).reply ≡ true
  event_done untrapped =
      ap (λ (r : Reaction). is_done r.reply) (reaction-performs state (Event g handle) untrapped event_free) ∙ event_performs state g handle

pub poke_free : (state : State) (g address : ℕ) (bytes : List ℕ) → g < length state.guests → address + length bytes ≤ length (memory_in state.guests g) → refusal state (OnMemory g (Poke address bytes)) ≡ None
unfolding refusal
poke_free state g address bytes there inside = bytes_free state g address (length bytes) there inside

pub dump_free : (state : State) (g address len : ℕ) → g < length state.guests → address + min len 64 ≤ length (memory_in state.guests g) → refusal state (OnMemory g (Dump address len)) ≡ None
unfolding refusal
dump_free state g address len there inside = bytes_free state g address (min len 64) there inside

poke_performs : (state : State) (g address : ℕ) (bytes : List ℕ) → is_done (performs state (OnMemory g (Poke address bytes))).reply ≡ true
unfolding performs
poke_performs state g address bytes = refl

dump_performs : (state : State) (g address len : ℕ) → is_done (performs state (OnMemory g (Dump address len))).reply ≡ true
unfolding performs
dump_performs state g address len = refl

pub poke_done : (state : State) (g address : ℕ) (bytes : List ℕ) → state.trapped ≡ false → g < length state.guests → address + length bytes ≤ length (memory_in state.guests g) → IsDone state (steps.Poke g address bytes)
poke_done state g address bytes untrapped there inside =
    ap (λ (r : Reaction). is_done r.reply) (reaction-performs state (OnMemory g (Poke address bytes)) untrapped (poke_free state g address bytes there inside))
    ∙ poke_performs state g address bytes

pub dump_done : (state : State) (g address len : ℕ) → state.trapped ≡ false → g < length state.guests → address + min len 64 ≤ length (memory_in state.guests g) → IsDone state (steps.Dump g address len)
dump_done state g address len untrapped there inside =
    ap (λ (r : Reaction). is_done r.reply) (reaction-performs state (OnMemory g (Dump address len)) untrapped (dump_free state g address len there inside))
    ∙ dump_performs state g address len

-- ## Codes on a stream of bytes

-- a read or write waits, or is over: a write with the items that it moved
abbrev pub IsWriteCode : ReturnCode → Type 0
IsWriteCode code = (code ≡ codes.Blocked) ⊎ ((n : ℕ) × (code ≡ codes.Completed n))

abbrev pub IsReadCode : ReturnCode → Type 0
IsReadCode code = (code ≡ codes.Blocked) ⊎ EndsRead code

completes_read : (code : ReturnCode) (n : ℕ) → code ≡ codes.Completed n → EndsRead code
completes_read code n e = WithMore (e ∙ ap codes.Completed (sym (ap count_of_code e)))

reads_too : (code : ReturnCode) → IsWriteCode code → IsReadCode code
reads_too code (inl e) = inl e
reads_too code (inr x) = inr (completes_read code x.0 x.1)

map_some : {A B : Type 0} (f : A → B) (o : Option A) → IsSome o → IsSome (option_map f o)
map_some f None e = cc
map_some f (Some x) e = refl

-- bytes are always items
bytes_carried : (guests : List Guest) (write read : Operation) (n : ℕ) → IsSome (carried guests (One U8) write read n)
bytes_carried guests write read n =
    map_some _ (items_at (item_type (One U8)) (memory_in guests write.guest) write.address n)
    (items-number_or_none (One U8) (drop write.address (memory_in guests write.guest)) n refl)

moves_code : (side : Side) (guests : List Guest) (stream : Stream) (mine theirs : Operation) (n : ℕ) (after : Option (List Guest)) → stream.kind ≡ AStream → IsSome after → Codes IsWriteCode (moves side guests stream mine theirs n after)
moves_code side guests stream mine theirs n None k some = cc
moves_code side guests stream mine theirs n (Some after) k some = (codes.Completed n, ap (λ kind. Some (completed_code kind n)) k, inr (n, refl))

finds_code : (side : Side) (guests : List Guest) (stream : Stream) (mine : Operation) (o : Option Operation) → stream.kind ≡ AStream → stream.payload ≡ One U8 → IsPlain o → 1 ≤ mine.left → Codes IsWriteCode (finds side guests stream mine o)
finds_code side guests stream mine None k p f l = (codes.Blocked, refl, inl refl)
finds_code side guests stream mine (Some theirs) k p f l =
    cond_both theirs.is_open _ _ (Codes IsWriteCode)
    (λ e. subst (λ m. Codes IsWriteCode (rendezvous_by m side guests stream mine theirs)) (sym (both_meet side mine theirs l (f.left e)))
    (moves_code side guests stream mine theirs (min mine.left theirs.left) _ k
    (subst (λ pay. IsSome (carried guests pay (write_of side mine theirs) (read_of side mine theirs) (min mine.left theirs.left))) (sym p)
    (bytes_carried guests (write_of side mine theirs) (read_of side mine theirs) (min mine.left theirs.left)))))
    (λ e. (codes.Blocked, refl, inl refl))

pub read_code : (guests : List Guest) (stream : Stream) (mine : Operation) → stream.kind ≡ AStream → stream.payload ≡ One U8 → ArePlain stream → 1 ≤ mine.left → Codes IsReadCode (operate Reading guests stream mine)
unfolding operate
read_code guests stream mine k p plain l =
    cond_both (is_gone stream.writer.owner) _ _ (Codes IsReadCode)
    (λ e. (codes.Dropped 0, refl, inr (WithLast refl)))
    (λ e. let x = finds_code Reading guests stream mine stream.writer.operation k p plain.0 l in (x.0, x.1, reads_too x.0 x.2))

pub write_code : (guests : List Guest) (stream : Stream) (mine : Operation) → stream.kind ≡ AStream → stream.payload ≡ One U8 → ArePlain stream → 1 ≤ mine.left → is_gone stream.reader.owner ≡ false → Codes IsWriteCode (operate Writing guests stream mine)
unfolding operate
write_code guests stream mine k p plain l there =
    cond_both (is_gone stream.reader.owner) _ _ (Codes IsWriteCode)
    (λ e. absurd (let wrong : true ≡ false = sym e ∙ there in cc))
    (λ e. finds_code Writing guests stream mine stream.reader.operation k p plain.1 l)

-- what an end of a stream is to be told
record TellsCode (gone : Bool) (code : ReturnCode) : Type 0 where
  read : EndsRead code
  write : gone ≡ false → (n : ℕ) × (code ≡ codes.Completed n)

tells_dropped : (gone : Bool) (code : ReturnCode) (n : ℕ) → gone ≡ true → code ≡ codes.Dropped n → TellsCode gone code
tells_dropped gone code n g e = record {
  read = WithLast (e ∙ ap codes.Dropped (sym (ap count_of_code e)));
  write = λ f. absurd (let wrong : true ≡ false = sym g ∙ f in cc);
}

tells_completed : (gone : Bool) (code : ReturnCode) (n : ℕ) → code ≡ codes.Completed n → TellsCode gone code
tells_completed gone code n e = record { read = completes_read code n e; write = λ f. (n, e) }

idle_code : (gone told passed : Bool) (code : ReturnCode) → idle_report gone told passed ≡ Some code → TellsCode gone code
idle_code true told passed code e = by (not told && not passed) e
  where
    by : (b : Bool) → cond b (Some (codes.Dropped 0)) None ≡ Some code → TellsCode true code
    by true f = tells_dropped true code 0 refl (let same : codes.Dropped 0 ≡ code = cc in sym same)
    by false f = absurd (let wrong = f in cc)
idle_code false told passed code e = absurd (let wrong = e in cc)

met_code : (gone passed : Bool) (o : Operation) (code : ReturnCode) → HasItems o → operation_report AStream (pending_of o) gone passed ≡ Some code → TellsCode gone code
met_code true passed o code h e = tells_dropped true code o.moved refl (let same : codes.Dropped o.moved ≡ code = cc in sym same)
met_code false passed o code h e = by o.met e
  where
    by : (b : Bool) → cond b (Some (outcome_code AStream o.outcome o.moved)) None ≡ Some code → TellsCode false code
    by true f =
        let same : outcome_code AStream o.outcome o.moved ≡ code = cc in
        tells_completed false code o.moved (sym same ∙ ap (λ x. outcome_code AStream x o.moved) h.outcome)
    by false f = absurd (let wrong = f in cc)

report_code : (side : Side) (stream : Stream) (code : ReturnCode) → stream.kind ≡ AStream → ArePlain stream → report_on side stream ≡ Some code → TellsCode (is_gone (end_of (opposite side) stream).owner) code
report_code side stream code k plain e =
    by (end_of side stream).operation (plain_on side stream plain)
    (ap (λ kind. report_of kind (option_map pending_of (end_of side stream).operation) (is_gone (end_of (opposite side) stream).owner) (end_of side stream).told stream.passed) (sym k) ∙ e)
  where
    by : (o : Option Operation) → IsPlain o → report_of AStream (option_map pending_of o) (is_gone (end_of (opposite side) stream).owner) (end_of side stream).told stream.passed ≡ Some code → TellsCode (is_gone (end_of (opposite side) stream).owner) code
    by None p f = idle_code (is_gone (end_of (opposite side) stream).owner) (end_of side stream).told stream.passed code f
    by (Some o) p f = met_code (is_gone (end_of (opposite side) stream).owner) stream.passed o code p f

-- a read is told of an end of it, and a write, as long as somebody reads, of the items that it moved
pub read_report : (stream : Stream) (code : ReturnCode) → stream.kind ≡ AStream → ArePlain stream → report_on Reading stream ≡ Some code → EndsRead code
read_report stream code k plain e = (report_code Reading stream code k plain e).read

pub write_report : (stream : Stream) (code : ReturnCode) → stream.kind ≡ AStream → ArePlain stream → is_gone stream.reader.owner ≡ false → report_on Writing stream ≡ Some code → (n : ℕ) × (code ≡ codes.Completed n)
write_report stream code k plain there e = (report_code Writing stream code k plain e).write there
