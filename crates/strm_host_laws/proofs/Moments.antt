-- What one moment delivers on a stream of a host writer: what it produced and held is what was received, and
-- what is held then.
use Rattle.std.proofs.Common.{◌≡◌, ℕ, ◌+◌, ◌^◌, ◌-◌, ◌<◌, ◌≤◌, ◌==◌, min, Bool, true, false, cond, List, [], ◌∷◌, ◌++◌, length, map, take, Option, Some, None, refl, sym, ap, subst, ◌∙◌, ◌⊎◌, inl, inr, arith, append-nil}
use Rattle.std.proofs.lemmas.Bool.{eqb-true, true≢false}
use Rattle.std.proofs.lemmas.List.{map-append, length-map}
use Rattle.std.proofs.lemmas.List.Elements.{All-head, All-tail}
use Rattle.std.specs.Prelude.{All}
use Rattle.strm_codes.specs.Layout.{item_type}
use Rattle.strm_codes.specs.ItemTypes.{ItemType}
use Rattle.strm_buffers.specs.declared.answers.ReaderSaid.{ReaderSaid}
use Rattle.strm_codes.specs.declared.payloads.Payload.{Payload}
use Rattle.strm_memory.specs.Items.{AreItems}
use Rattle.strm_memory.proofs.AppendLemmas.{AreItems-append}
use Rattle.strm_buffers.specs.Listing.{Item}
use Rattle.strm_buffers.specs.Said.{WriterSaid}
use Rattle.strm_machine.specs.State.{Guest, kept_at, stream_at, is_host, is_held}
use Rattle.strm_machine.specs.Moments.{Moment, MemoryPlace, received, rise, place_of, target, is_named, items_in_memory, got_in}
use Rattle.strm_machine.specs.Sides.{with_operation}
use Rattle.strm_machine.specs.Endings.{delivered}
use Rattle.strm_machine.specs.Operating.{with_received}
use Rattle.strm_machine.specs.Soundness.{sizes_of, IsPlaced}
use Rattle.strm_machine.specs.declared.acts.Act.{Act}
use Rattle.strm_machine.specs.declared.acts.Act.TheVariants.{OnEnd, Drive}
use Rattle.strm_machine.specs.declared.acts.EndAct.TheVariants.{Operate}
use Rattle.strm_machine.specs.declared.acts.NamedEnd.{NamedEnd}
use Rattle.strm_machine.specs.declared.streams.Owner.{Owner}
use Rattle.strm_machine.specs.declared.streams.Owner.TheVariants.{Host, Gone}
use Rattle.strm_machine.specs.declared.streams.Operation.{Operation}
use Rattle.strm_machine.specs.declared.streams.Side.TheVariants.{Reading}
use Rattle.strm_machine.specs.declared.streams.Stream.{Stream}
use Rattle.strm_machine.proofs.MomentLemmas.{nothing_got}
use Rattle.strm_machine.proofs.Shapes.{operating}
use Rattle.strm_machine.proofs.NamedEndLemmas.{named_itself}
use Rattle.strm_host_machine.specs.Ends.{Writer}
use Rattle.strm_host_machine.specs.World.{World, stream_in, writer_at, reader_at, held_of}
use Rattle.strm_host_machine.specs.Settling.{with_some_received}
use Rattle.strm_host_machine.specs.Does.{SaidFits}
use Rattle.strm_host_laws.specs.HostMoments.{HostMoment}
use Rattle.strm_host_laws.specs.HostLaws.{used_in, items_of_records, act_in, plain, produced_by, produced_in, source, used_by, count_taken, taken_from_owner, taken_by, host_taken_in, got_by, host_got_in, Supplies}
use Rattle.strm_machine.proofs.HostLemmas.{unless_host}
use Rattle.strm_machine.proofs.TurnChangeLemmas.{none_got}
use Rattle.strm_host_laws.proofs.Fed.{take-front, used_are}
use Rattle.strm_host_laws.proofs.Forms.{opened, called, stream_of, IsTurn, IsRound, IsCall, Form}
use Rattle.strm_host_laws.proofs.HostBytes.{ReadOrRoomy}
use Rattle.strm_host_laws.proofs.KeptItems.{Rested, Passing, rested_or_passing}
use Rattle.strm_host_laws.proofs.PartsSeen.{IsTaken}
use Rattle.strm_host_laws.proofs.Rounds.{Passed}
use Rattle.strm_host_laws.proofs.TurnsStand.{Holds, nothing_kept}
use Rattle.strm_host_laws.proofs.Lives.{Lives, owned_made, drive_can, opened_here, read_can, mid_made}
use Rattle.strm_host_laws.proofs.Lowered.{lowered_lie}
use Rattle.strm_host_laws.proofs.Touched.{Touch, NotTouched, IsLost, HasTurn, HasRound, HasRead, told_stream}
use Rattle.strm_host_laws.proofs.TurnMoves.{moved_on-received}
use Rattle.strm_host_laws.proofs.Turned.{Turned}
use Rattle.strm_host_laws.proofs.WrittenBack.{round_received, round_coming, round_length, round_ends, round_told, back-guests, back-here, back-length, back-stays, CanTurn, turned-here, turned-guests, turned-length, turned-coming, turned-ends}

-- ITEMS OF RECORDS

front_items : (ss : ItemType) (xs ys : List Item) → AreItems ss (xs ++ ys) → AreItems ss xs
front_items ss [] ys h = tt
front_items ss (x ∷ xs) ys h = (h.0, front_items ss xs ys h.1)

said_items : (payload : Payload) (said more : List WriterSaid) → All (SaidFits payload) (said ++ more) → AreItems (item_type payload) (items_of_records said)
said_items payload [] more h = tt
said_items payload (x ∷ xs) more h =
    AreItems-append (item_type payload) x.items (items_of_records xs) (All-head (SaidFits payload) x (xs ++ more) h)
    (said_items payload xs more (All-tail (SaidFits payload) x (xs ++ more) h))

-- what a turn hands over are items
turned_items : (w : World) (s n : ℕ) (read : Operation) (v : World) → Supplies (writer_at w n) → (t : Turned w s n read v) → AreItems (item_type (writer_at w n).payload) t.items
turned_items w s n read v h t =
    let payload = (writer_at w n).payload in
    let all : AreItems (item_type payload) ((writer_at w n).holds ++ items_of_records t.said) =
    AreItems-append (item_type payload) (writer_at w n).holds (items_of_records t.said) h.holds
    (said_items payload t.said t.writer.coming (subst (All (SaidFits payload)) t.coming h.coming)) in
    front_items (item_type payload) t.items t.writer.holds (subst (AreItems (item_type payload)) t.balance all)

-- WHAT A MOMENT DELIVERS

abbrev pub holds_before : ℕ → HostMoment → List Item
holds_before n m = held_of m.before n

-- who has the write end then, and what is held
abbrev pub Ends : ℕ → ℕ → World → List Item → Type 0
Ends s n w held = ((stream_in w s).writer.owner ≡ Gone) ⊎ (((stream_in w s).writer.owner ≡ Host n) × (held_of w n ≡ held))

-- a count goes up to the end of its type
abbrev pub capped : ℕ → ℕ
capped n = min n (2 ^ 128 - 1)

-- so many items more were counted, which are not too many
pub record Exactly (s : ℕ) (m : HostMoment) (count : ℕ) : Type 0 where
  pub counted : received s m.after.state ≡ received s m.before.state + count
  pub few : count ≤ 2 ^ 28

pub record Delivers (s n : ℕ) (m : HostMoment) : Type 0 where
  pub rest : List Item
  pub balance : map Some (holds_before n m ++ items_of_records (used_in n m)) ≡ host_got_in s m ++ map Some rest
  pub count : received s m.after.state ≡ capped (received s m.before.state + length (host_got_in s m))
  pub exact : is_host (stream_in m.before s).reader.owner ≡ false → Exactly s m (length (host_got_in s m))
  pub ends : Ends s n m.after rest
  pub made : s < length m.after.state.streams

-- by the items that were handed over
pub record Moved (s n : ℕ) (m : HostMoment) : Type 0 where
  pub items : List Item
  pub said : List WriterSaid
  pub held : List Item
  pub got : host_got_in s m ≡ map Some items
  pub count : received s m.after.state ≡ capped (received s m.before.state + length items)
  pub exact : is_host (stream_in m.before s).reader.owner ≡ false → Exactly s m (length items)
  pub coming : (writer_at m.before n).coming ≡ said ++ (writer_at m.after n).coming
  pub balance : holds_before n m ++ items_of_records said ≡ items ++ held
  pub ends : Ends s n m.after held
  pub made : s < length m.after.state.streams

moved_delivers : (s n : ℕ) (m : HostMoment) → Moved s n m → Delivers s n m
moved_delivers s n m k =
    let long : length (host_got_in s m) ≡ length k.items = ap length k.got ∙ length-map k.items Some in
    record {
      rest = k.held;
      balance =
          ap (λ u. map Some (holds_before n m ++ items_of_records u)) (used_are (writer_at m.before n).coming (writer_at m.after n).coming k.said k.coming)
          ∙ ap (map Some) k.balance
          ∙ map-append Some k.items k.held
          ∙ ap (λ g. g ++ map Some k.held) (sym k.got);
      count = k.count ∙ ap (λ j. capped (received s m.before.state + j)) (sym long);
      exact = λ u. subst (Exactly s m) (sym long) (k.exact u);
      ends = k.ends;
      made = k.made;
    }

-- the count of a stream stays
abbrev SameCount : ℕ → HostMoment → Type 0
SameCount s m = received s m.after.state ≡ received s m.before.state

-- where the count stays, and a host reader uses no record, it takes nothing
pub nothing_from : (s : ℕ) (m : HostMoment) (r : ℕ) → SameCount s m → used_by r m ≡ [] → (writer : Owner) → taken_from_owner s m r writer ≡ []
nothing_from s m r e u (Host n) = ap (λ xs. map Some (take (count_taken xs) (held_of m.before n ++ produced_in s m))) u
nothing_from s m r e u _ = none_got (stream_in m.before s).payload m.before.state.guests (source s (plain m)).guest (source s (plain m)).address (received s m.after.state) (received s m.before.state) e

-- nothing was received, whoever has the read end
nothing_by : (s : ℕ) (m : HostMoment) → SameCount s m → (owner : Owner) → ((r : ℕ) → owner ≡ Host r → used_by r m ≡ []) → got_by s m owner ≡ []
nothing_by s m e (Host r) u = nothing_from s m r e (u r refl) (stream_in m.before s).writer.owner
nothing_by s m e _ u = (nothing_got s (plain m) e).0

-- nor where no host writer has the write end
pub nothing_unhosted : (s : ℕ) (m : HostMoment) → SameCount s m → is_host (stream_in m.before s).writer.owner ≡ false → (owner : Owner) → got_by s m owner ≡ []
nothing_unhosted s m e u (Host r) = by (stream_in m.before s).writer.owner u
  where
    by : (writer : Owner) → is_host writer ≡ false → taken_from_owner s m r writer ≡ []
    by (Host n) u = cc
    by _ u = none_got (stream_in m.before s).payload m.before.state.guests (source s (plain m)).guest (source s (plain m)).address (received s m.after.state) (received s m.before.state) e
nothing_unhosted s m e u _ = (nothing_got s (plain m) e).0

-- THE ROUND OF A PIPE

-- what is received in it, and what its reader takes
pub record RoundGot (s : ℕ) (m : HostMoment) (items : List Item) : Type 0 where
  pub taken : host_taken_in s m ≡ map Some items
  pub got : host_got_in s m ≡ map Some items

module _ (s n r : ℕ) (m : HostMoment) (p : Passed m.before s n r m.after) (read : (stream_in m.before s).reader.owner ≡ Host r) (wrote : (stream_in m.before s).writer.owner ≡ Host n) where
  round_records : (writer_at m.before n).coming ≡ p.said ++ (writer_at m.after n).coming
  round_records = p.coming ∙ ap (λ xs. p.said ++ xs) (sym (round_coming m.before s n r m.after p))

  -- the front of what is held and produced
  round_front : taken_from_owner s m r (Host n) ≡ map Some p.items
  round_front =
      let told = ap (λ (x : Option (List Item) × List ReaderSaid). x.1) (round_told m.before s n r m.after p r) in
      let used : used_by r m ≡ p.told = used_are (reader_at m.before r).coming (reader_at m.after r).coming p.told (p.records ∙ ap (λ xs. p.told ++ xs) (sym told)) in
      let said : used_in n m ≡ p.said = used_are (writer_at m.before n).coming (writer_at m.after n).coming p.said round_records in
      ap (λ xs. map Some (take (count_taken xs) (held_of m.before n ++ produced_in s m))) used
      ∙ ap (λ k. map Some (take k (held_of m.before n ++ produced_in s m))) (sym p.taken)
      ∙ ap (λ xs. map Some (take p.count (held_of m.before n ++ xs))) (ap (produced_by m) wrote ∙ ap items_of_records said)
      ∙ ap (λ xs. map Some (take p.count xs)) p.balance
      ∙ ap (map Some) (take-front p.items (held_of p.but n) p.count (sym p.long))

  pub round_got : RoundGot s m p.items
  round_got = record {
    taken = ap (taken_by s m) read ∙ ap (taken_from_owner s m r) wrote ∙ round_front;
    got = ap (got_by s m) read ∙ ap (taken_from_owner s m r) wrote ∙ round_front;
  }

-- how many are counted then
some_received-count : (stream : Stream) (n : ℕ) → stream.received ≤ 2 ^ 128 - 1 → (with_some_received stream n).received ≡ capped (stream.received + n)
some_received-count stream n l = by (n == 0) refl
  where
    by : (none : Bool) → (n == 0) ≡ none → (cond none stream (with_received stream n)).received ≡ capped (stream.received + n)
    by true e = omega (arith, eqb-true n 0 e, l)
    by false e = refl

round_moved : (s n : ℕ) (m : HostMoment) → Holds m.before.state → received s m.before.state ≤ 2 ^ 128 - 1 → Passing s n m → Moved s n m
round_moved s n m h l x =
    let i = x.round in
    let p = i.passed in
    let made = owned_made m.before.state s n h i.wrote in
    record {
      items = p.items;
      said = p.said;
      held = held_of p.but n;
      got = (round_got s n x.reader m p i.read i.wrote).got;
      count = round_received m.before s n x.reader m.after p made ∙ some_received-count (stream_in m.before s) p.count l ∙ ap (λ k. capped (received s m.before.state + k)) (sym p.long);
      exact = λ u. absurd (true≢false (sym (ap is_host i.read) ∙ u));
      coming = round_records s n x.reader m p i.read i.wrote;
      balance = p.balance;
      ends = round_ends m.before s n x.reader m.after p i.wrote made;
      made = subst (λ k. s < k) (sym (round_length m.before s n x.reader m.after p)) made;
    }

-- where no host reader has it, a guest has it in its memory
pub got_unread : (s : ℕ) (m : HostMoment) (owner : Owner) → is_host owner ≡ false → got_by s m owner ≡ got_in s (plain m)
got_unread s m (Host r) e = cc
got_unread s m _ e = refl

-- a moment in which nothing is received, and no record used
still_moved : (s n : ℕ) (m : HostMoment) → Rested s n m → received s m.before.state ≤ 2 ^ 128 - 1 → SameCount s m → (writer_at m.after n).coming ≡ (writer_at m.before n).coming → Ends s n m.after (holds_before n m) → s < length m.after.state.streams → Moved s n m
still_moved s n m rested l r c ends made = record {
  items = [];
  said = [];
  held = holds_before n m;
  got = nothing_by s m r (stream_in m.before s).reader.owner rested.used;
  count = omega (arith, r, l);
  exact = λ u. record { counted = omega (arith, r); few = omega arith };
  coming = sym c;
  balance = append-nil (holds_before n m);
  ends = ends;
  made = made;
}

-- what was received, by the place where it lies
got_at : (s : ℕ) (m : Moment) (place : MemoryPlace) (k : ℕ) (xs : List (Option Item)) → target s m ≡ place → received s m.after ≡ received s m.before + k
    → items_in_memory (stream_at m.before s).payload m.after.guests place.guest place.address k ≡ xs → got_in s m ≡ xs
got_at s m place k xs e r lie =
    let rose : rise s m ≡ k = omega (arith, r) in
    let payload = (stream_at m.before s).payload in
    ap (λ (p : MemoryPlace). items_in_memory payload m.after.guests p.guest p.address (rise s m)) e
    ∙ ap (λ j. items_in_memory payload m.after.guests place.guest place.address j) rose
    ∙ lie

abbrev place_for : Operation → MemoryPlace
place_for read = record { guest = read.guest; address = read.address }

-- a moment in which this is done
abbrev doing : Act → Moment → Moment
doing act m = record m { act = act }

-- of a turn in a drive round it is that of the read that waits
drive_target : (s : ℕ) (m : Moment) (read : Operation) → m.act ≡ Drive → (stream_at m.before s).reader.operation ≡ Some read → target s m ≡ place_for read
drive_target s m read e f = ap (λ a. target s (doing a m)) e ∙ ap place_of f

-- and of a call that of its read
call_target : (s : ℕ) (m : Moment) (end : NamedEnd) (address count : ℕ) → m.act ≡ operating Reading end address count → is_named s Reading (doing (operating Reading end address count) m) ≡ true → target s m ≡ place_for (called end address count)
call_target s m end address count e f =
    ap (λ a. target s (doing a m)) e
    ∙ ap (λ b. cond b (place_for (called end address count)) (place_of (stream_at m.before s).reader.operation)) f

few_items : (guests : List Guest) (payload : Payload) (read : Operation) (n : ℕ) → IsPlaced (sizes_of guests) payload read → n ≤ read.left → n ≤ 2 ^ 28
few_items guests payload read n p l = omega (arith, l, p.counted)

-- a turn whose read is placed
module _ (w : World) (s n : ℕ) (read : Operation) (v : World) (t : Turned w s n read v) (c : CanTurn w s n read) where
  -- its items lie where its read has them
  turned_lie : Supplies (writer_at w n) → (writer_at w n).payload ≡ (stream_in w s).payload → items_in_memory (stream_in w s).payload v.state.guests read.guest read.address (length t.items) ≡ map Some t.items
  turned_lie h e =
      let payload = (stream_in w s).payload in
      let all : AreItems (item_type payload) t.items = subst (λ p. AreItems (item_type p) t.items) e (turned_items w s n read v h t) in
      ap (λ gs. items_in_memory payload gs read.guest read.address (length t.items)) (turned-guests w s n read v t c)
      ∙ lowered_lie w.state.guests payload read t.items c.placed t.fits all

  turned_count : (stream_in w s).received + 2 ^ 28 < 2 ^ 128 → (stream_in v s).received ≡ (stream_in w s).received + length t.items
  turned_count l =
      let few = few_items w.state.guests (stream_in w s).payload read (length t.items) c.placed t.fits in
      ap (λ (x : Stream). x.received) (turned-here w s n read v t c)
      ∙ moved_on-received Reading (stream_in w s) read (length t.items) t.result (omega (arith, l, few))

module _ (first : World) (m : HostMoment) (l : Lives first m.before) where
  -- no host reader has a read end at which a read waits
  busy_unread : (s : ℕ) (read : Operation) → (stream_in m.before s).reader.operation ≡ Some read → is_host (stream_in m.before s).reader.owner ≡ false
  busy_unread s read o =
      unless_host (stream_in m.before s).reader.owner
      (λ r e. let none = (l.holds.hosts.serve Reading r s).idle e in let wrong : Some read ≡ None = sym o ∙ none in cc)

  -- for which nothing is kept then
  unread_none : (s n : ℕ) → (stream_in m.before s).writer.owner ≡ Host n → is_host (stream_in m.before s).reader.owner ≡ false → kept_at m.before.state n ≡ []
  unread_none s n o u = nothing_kept m.before.state s n l.holds.hosts o u

  -- what the writer holds is what is held
  held_ends : (s n : ℕ) (held : List Item) → kept_at m.after.state n ≡ [] → ((stream_in m.after s).writer.owner ≡ Gone) ⊎ (((stream_in m.after s).writer.owner ≡ Host n) × ((writer_at m.after n).holds ≡ held)) → Ends s n m.after held
  held_ends s n held none (inl e) = inl e
  held_ends s n held none (inr e) = inr (e.0, ap (λ ks. ks ++ (writer_at m.after n).holds) none ∙ e.1)

  -- A TURN IN A DRIVE ROUND

  drive_moved : (s n : ℕ) (read : Operation) → Rested s n m → IsTurn Reading m.before m.part m.after s n read → received s m.before.state + 2 ^ 28 < 2 ^ 128 → Moved s n m
  drive_moved s n read rested i b =
      let w = m.before in
      let t = i.turned in
      let c = drive_can first w m.part m.after s n read l i in
      let count = turned_count w s n read m.after t c b in
      let none : kept_at w.state n ≡ [] = unread_none s n i.owner (busy_unread s read i.operation_is) in
      record {
        items = t.items;
        said = t.said;
        held = t.writer.holds;
        got = got_unread s m (stream_in m.before s).reader.owner (busy_unread s read i.operation_is) ∙ got_at s (plain m) (place_for read) (length t.items) (map Some t.items) (drive_target s (plain m) read (ap act_in i.part_is) i.operation_is) count
            (turned_lie w s n read m.after t c (l.supplied n) (l.stands.there s n i.owner).payload);
        count = (let few = few_items w.state.guests (stream_in w s).payload read (length t.items) c.placed t.fits in omega (arith, count, b, few));
        exact = λ u. record { counted = count; few = few_items w.state.guests (stream_in w s).payload read (length t.items) c.placed t.fits };
        coming = turned-coming w s n read m.after t c;
        balance = ap (λ ks. (ks ++ (writer_at w n).holds) ++ items_of_records t.said) none ∙ t.balance;
        ends = held_ends s n t.writer.holds (rested.kept ∙ none) (turned-ends w s n read m.after t c);
        made = subst (λ k. s < k) (sym (turned-length w s n read m.after t c)) c.made;
      }

  -- A CALL

  module _ (end : NamedEnd) (address count n : ℕ) (r : IsCall Reading m.before m.part m.after end address count n) where
    abbrev at : ℕ
    at = stream_of m.before end

    abbrev read : Operation
    read = called end address count

    abbrev o : World
    o = opened Reading m.before at read

    abbrev open_stream : Stream
    open_stream = with_operation Reading (stream_in m.before at) read

    abbrev told_now : Stream
    told_now = delivered Reading (stream_in r.mid at)

    c : CanTurn o at n read
    c = read_can first m.before m.part m.after end address count n l r

    here : stream_in o at ≡ open_stream
    here = opened_here first m.before m.part m.after end address count n l r

    long_mid : at < length r.mid.state.streams
    long_mid = mid_made first m.before m.part m.after end address count n l r

    writer_open : writer_at o n ≡ writer_at m.before n
    writer_open = back-stays m.before at open_stream refl n

    -- what stays while the report is told
    record Same : Type 0 where
      guests : m.after.state.guests ≡ r.mid.state.guests
      counted : (stream_in m.after at).received ≡ (stream_in r.mid at).received
      owner : (stream_in m.after at).writer.owner ≡ (stream_in r.mid at).writer.owner
      writer : writer_at m.after n ≡ writer_at r.mid n
      made : at < length m.after.state.streams

    same : Same
    same =
        elim r.told [
          | inl e ↦ record {
            guests = ap (λ (x : World). x.state.guests) e;
            counted = ap (λ x. (stream_in x at).received) e;
            owner = ap (λ x. (stream_in x at).writer.owner) e;
            writer = ap (λ x. writer_at x n) e;
            made = subst (λ (x : World). at < length x.state.streams) (sym e) long_mid;
          }
          | inr e ↦ (
              let k = told_stream Reading (stream_in r.mid at) in
              let now = back-here r.mid at told_now long_mid in
              record {
                guests = ap (λ (x : World). x.state.guests) e ∙ back-guests r.mid at told_now;
                counted = ap (λ x. (stream_in x at).received) e ∙ ap (λ (x : Stream). x.received) now ∙ k.received;
                owner = ap (λ x. (stream_in x at).writer.owner) e ∙ ap (λ (x : Stream). x.writer.owner) now ∙ k.writer;
                writer = ap (λ x. writer_at x n) e ∙ back-stays r.mid at told_now k.writer n;
                made = subst (λ (x : World). at < length x.state.streams) (sym e) (subst (λ j. at < j) (sym (back-length r.mid at told_now)) long_mid);
              })
        ]

    read_lie : items_in_memory (stream_in m.before at).payload m.after.state.guests read.guest read.address (length r.turned.items) ≡ map Some r.turned.items
    read_lie =
        let payload : (stream_in o at).payload ≡ (stream_in m.before at).payload = ap (λ (x : Stream). x.payload) here in
        let typed : (writer_at o n).payload ≡ (stream_in o at).payload = ap (λ (x : Writer). x.payload) writer_open ∙ (l.stands.there at n r.owner).payload ∙ sym payload in
        ap (λ p. items_in_memory p m.after.state.guests read.guest read.address (length r.turned.items)) (sym payload)
        ∙ ap (λ gs. items_in_memory (stream_in o at).payload gs read.guest read.address (length r.turned.items)) same.guests
        ∙ turned_lie o at n read r.mid r.turned c (subst (λ (x : Writer). Supplies x) (sym writer_open) (l.supplied n)) typed

    -- who has the write end after a turn, and what the writer holds
    abbrev HoldsAt : World → List Item → Type 0
    HoldsAt w held = ((stream_in w at).writer.owner ≡ Gone) ⊎ (((stream_in w at).writer.owner ≡ Host n) × ((writer_at w n).holds ≡ held))

    read_ends : HoldsAt r.mid r.turned.writer.holds → HoldsAt m.after r.turned.writer.holds
    read_ends (inl e) = inl (same.owner ∙ e)
    read_ends (inr e) = inr (same.owner ∙ e.0, ap (λ (x : Writer). x.holds) same.writer ∙ e.1)

    read_moved : Rested at n m → received at m.before.state + 2 ^ 28 < 2 ^ 128 → Moved at n m
    read_moved rested b =
        let unread = ap is_host (l.holds.held.agree.named end.guest end.handle at Reading r.begun.found.held) in
        let none : kept_at m.before.state n ≡ [] = unread_none at n r.owner unread in
        let few = few_items o.state.guests (stream_in o at).payload read (length r.turned.items) c.placed r.turned.fits in
        let t = r.turned in
        let was : (stream_in o at).received ≡ (stream_in m.before at).received = ap (λ (x : Stream). x.received) here in
        let turn = turned_count o at n read r.mid t c (omega (arith, b, was)) in
        let told = same.counted in
        let counts : received at m.after.state ≡ received at m.before.state + length t.items = omega (arith, told, turn, was) in
        let named = named_itself m.before.state (OnEnd Reading end (Operate address count)) m.reply at Reading Reading (r.begun.found.named m.reply) in
        record {
          items = t.items;
          said = t.said;
          held = t.writer.holds;
          got = got_unread at m (stream_in m.before at).reader.owner unread ∙ got_at at (plain m) (place_for read) (length t.items) (map Some t.items) (call_target at (plain m) end address count (ap act_in r.part_is) named) counts read_lie;
          count = omega (arith, counts, b, few);
          exact = λ u. record { counted = counts; few = few };
          coming = ap (λ (x : Writer). x.coming) (sym writer_open) ∙ turned-coming o at n read r.mid t c ∙ ap (λ (x : Writer). t.said ++ x.coming) (sym same.writer);
          balance = ap (λ ks. (ks ++ (writer_at m.before n).holds) ++ items_of_records t.said) none ∙ ap (λ (x : Writer). x.holds ++ items_of_records t.said) (sym writer_open) ∙ t.balance;
          ends = held_ends at n t.writer.holds (rested.kept ∙ none) (read_ends (turned-ends o at n read r.mid t c));
          made = same.made;
        }

  -- ANY MOMENT

  same_host : (s n k : ℕ) → (stream_in m.before s).writer.owner ≡ Host n → (stream_in m.before s).writer.owner ≡ Host k → k ≡ n
  same_host s n k e f = let same : Host k ≡ Host n = sym f ∙ e in cc

  -- a read that a host end answers is a guest's, so the count has room for it
  reads_room : (s : ℕ) → (IsTaken Reading m.before.state s → ⊥) → ReadOrRoomy m.before.state s → received s m.before.state + 2 ^ 28 < 2 ^ 128
  reads_room s busy (inl taken) = absurd (busy taken)
  reads_room s busy (inr b) = b

  touch_moved : (s n : ℕ) → (stream_in m.before s).writer.owner ≡ Host n → received s m.before.state ≤ 2 ^ 128 - 1 → ReadOrRoomy m.before.state s → Rested s n m → Touch s m.before m.part m.after → Moved s n m
  touch_moved s n e bound room rested (NotTouched a) =
      let h = a.writer n e in
      still_moved s n m rested bound a.stream.received h.coming
      (inr (a.stream.writer ∙ e, ap (λ ks. ks ++ (writer_at m.after n).holds) rested.kept ∙ ap (λ xs. kept_at m.before.state n ++ xs) h.holds)) a.made
  touch_moved s n e bound room rested (IsLost k f) =
      let who = same_host s n k e f.was in
      still_moved s n m rested bound f.received (subst (λ j. (writer_at m.after j).coming ≡ (writer_at m.before j).coming) who f.coming) (inl f.gone) f.made
  touch_moved s n e bound room rested (HasTurn k read i) =
      let b = reads_room s (λ taken. let none = taken.idle in let wrong : Some read ≡ None = sym i.operation_is ∙ none in cc) room in
      let who = same_host s n k e i.owner in
      drive_moved s n read rested (subst (λ j. IsTurn Reading m.before m.part m.after s j read) who i) b
  touch_moved s n e bound room rested (HasRound k j i) =
      let who = same_host s n k e i.wrote in
      round_moved s n m l.holds bound (record { reader = j; round = subst (λ a. IsRound m.before m.part m.after s a j) who i })
  touch_moved s n e bound room rested (HasRead end address count k at_s r) =
      let owner : (stream_in m.before s).writer.owner ≡ Host k = ap (λ j. (stream_in m.before j).writer.owner) (sym at_s) ∙ r.owner in
      let who = same_host s n k e owner in
      let own = l.holds.held.agree.named end.guest end.handle (stream_of m.before end) Reading r.begun.found.held in
      let b = reads_room s (λ taken. true≢false (sym (ap (λ j. is_held (stream_in m.before j).reader.owner) (sym at_s) ∙ ap is_held own) ∙ taken.unheld)) room in
      subst (λ j. Moved s j m) who
      (subst (λ j. Moved j k m) at_s
      (read_moved end address count k r (subst (λ j. Rested j k m) (sym at_s) (subst (λ j. Rested s j m) (sym who) rested)) (subst (λ j. received j m.before.state + 2 ^ 28 < 2 ^ 128) (sym at_s) b)))

  pub touch_delivers : (s n : ℕ) → (stream_in m.before s).writer.owner ≡ Host n → received s m.before.state ≤ 2 ^ 128 - 1 → ReadOrRoomy m.before.state s → Form m.before m.part m.reply m.after → Touch s m.before m.part m.after → Delivers s n m
  touch_delivers s n e bound room form t =
      elim (rested_or_passing s n m l.holds e form) [
        | inl rested ↦ moved_delivers s n m (touch_moved s n e bound room rested t)
        | inr passing ↦ moved_delivers s n m (round_moved s n m l.holds bound passing)
      ]
