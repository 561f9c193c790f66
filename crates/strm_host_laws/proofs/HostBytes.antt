-- Memories in a run with host ends: the bytes that are put lie there, and those that are not touched stay; what
-- a host writer hands over touches those where its items are received, and a host reader touches none.
use Rattle.std.proofs.Common.{◌≡◌, ◌≢◌, ℕ, zero, suc, ◌+◌, ◌-◌, ◌*◌, ◌^◌, ◌<◌, ◌≤◌, ◌==◌, true, cond, List, [], ◌∷◌, length, get_or, Some, None, refl, sym, ap, subst, ◌∙◌, ◌⊎◌, inl, inr, arith, length-set}
use Rattle.std.specs.Prelude.{All}
use Rattle.std.proofs.lemmas.Bool.{cases_eq, cases_lt, eq-eqb, ne_eqb, true≢false}
use Rattle.std.proofs.lemmas.List.{length-map}
use Rattle.std.proofs.lemmas.List.Elements.{All-nil, All-cons}
use Rattle.strm_codes.specs.Layout.{item_type}
use Rattle.strm_codes.specs.ItemTypes.{item_size, ItemType}
use Rattle.strm_codes.specs.declared.payloads.Payload.{Payload}
use Rattle.strm_memory.specs.Bytes.{IsApart, bytes_at}
use Rattle.strm_memory.specs.Items.{stored_at}
use Rattle.strm_memory.proofs.RegionLemmas.{bytes_at-stored_at, stored_at-nil}
use Rattle.strm_buffers.specs.Listing.{Item}
use Rattle.strm_buffers.specs.Tells.{Tells}
use Rattle.strm_machine.specs.Meetings.{begun}
use Rattle.strm_machine.specs.Moments.{Moment, MemoryPlace, place_of, read_place, received, rise, target, is_named}
use Rattle.strm_machine.specs.Reactions.{told, reaction}
use Rattle.strm_machine.specs.Sides.{end_of, with_operation}
use Rattle.strm_machine.specs.Soundness.{IsPlaced, sizes_of}
use Rattle.strm_machine.specs.State.{State, Guest, memory_in, stream_at, is_host, is_held}
use Rattle.strm_machine.specs.Tests.{named, stream_named, items_asked}
use Rattle.strm_machine.specs.Untouched.{Region, bytes_of, LiesApart, put_by, LieThere, received_by, StaysAside}
use Rattle.strm_machine.specs.declared.acts.Act.{Act}
use Rattle.strm_machine.specs.declared.acts.Act.TheVariants.{OnEnd, OnHost}
use Rattle.strm_machine.specs.declared.acts.EndAct.TheVariants.{Operate}
use Rattle.strm_machine.specs.declared.acts.NamedEnd.{NamedEnd}
use Rattle.strm_machine.specs.declared.limits.Limits.{Limits}
use Rattle.strm_machine.specs.declared.replies.Reply.{Reply}
use Rattle.strm_machine.specs.declared.steps.Step.{Step}
use Rattle.strm_machine.specs.declared.streams.Owner.{Owner}
use Rattle.strm_machine.specs.declared.streams.Owner.TheVariants.{Held, Host}
use Rattle.strm_machine.specs.declared.streams.Operation.{Operation}
use Rattle.strm_machine.specs.declared.streams.Side.{Side}
use Rattle.strm_machine.specs.declared.streams.Side.TheVariants.{Writing, Reading}
use Rattle.strm_machine.proofs.BoundLemmas.{within}
use Rattle.strm_memory.proofs.NoByteLemmas.{stored_at-no_bytes}
use Rattle.strm_machine.proofs.Lawful.{as_moment}
use Rattle.strm_machine.proofs.NamedEndLemmas.{named_itself}
use Rattle.strm_machine.proofs.PutLemmas.{reaction-there}
use Rattle.strm_machine.proofs.StateLemmas.{memory_in-with_memory, memory_in-with_memory_other}
use Rattle.strm_machine.proofs.TurnLemmas.{front_inside, size_in}
use Rattle.strm_machine.proofs.UntouchedLemmas.{FindsRoom, FindsRoomFor, reaction-stays_at, StaysAside-same}
use Rattle.strm_host_machine.specs.WriterTurn.{lowered_items}
use Rattle.strm_host_machine.specs.World.{World}
use Rattle.strm_host_machine.specs.Does.{start_world}
use Rattle.strm_laws.specs.Laws.{AreSteps}
use Rattle.strm_host_laws.specs.HostMoments.{Part, Acts, Turns, HostMoment, first_moments}
use Rattle.strm_host_laws.specs.HostLaws.{plain, plains}
use Rattle.strm_host_laws.proofs.Chains.{Follows, Chain, first-chain}
use Rattle.strm_host_laws.proofs.Effects.{opened_by, Driven, Calls, piped_guests, forsaken_by, Forsakes, Effect, ByReaction, ByRest, ByHosting, ByPiping, ByDriving, ByPassing, ByCalling, ByForsaking, is_idle}
use Rattle.strm_host_laws.proofs.PartEffects.{passing_guests, host_made, follows_effect}
use Rattle.strm_host_laws.proofs.PartsSeen.{IsTaken, owner_taken, effect_taken}
use Rattle.strm_host_laws.proofs.GuestsSeen.{moment_in, forsaken_guests}
use Rattle.strm_host_laws.proofs.TurnsStand.{Holds}
use Rattle.strm_host_laws.proofs.Standing.{Holds-effect, Holds-empty, call_begun, opened_payload, waiting_placed}
use Rattle.strm_host_laws.proofs.StepsLeft.{left_after, Pays, Costs, first_cost}
use Rattle.strm_host_machine.proofs.LoweredLemmas.{lowered_items-keeps}
use Rattle.strm_host_laws.proofs.HostCounts.{turned_count, placed_small, told_count, opened_count, forsaken_count, NoPipe, effect_most, effect_still}

-- ## Memories

positive : (a b : ℕ) → 0 < a → 0 < b → 0 < a * b
positive a b h k = grind arith

-- bytes apart from those where items are stored
module _ (ss : ItemType) (memory : List ℕ) (address other : ℕ) (some : 0 < item_size ss) where
  abbrev taken : List Item → ℕ
  taken xs = item_size ss * length xs

  stored_stays : (xs : List Item) (size : ℕ) → (0 < length xs → address + taken xs ≤ length memory) → (0 < size → 0 < taken xs → IsApart address (taken xs) other size) → bytes_at (stored_at ss memory address xs) other size ≡ bytes_at memory other size
  stored_stays xs zero room apart = refl
  stored_stays [] (suc size) room apart = rw (stored_at-nil ss memory address) refl
  stored_stays (x ∷ xs) (suc size) room apart =
      bytes_at-stored_at ss memory address (x ∷ xs) other (suc size) (room (omega arith)) (apart (omega arith) (positive (item_size ss) (length (x ∷ xs)) some (omega arith)))

-- where a read gets so many items
abbrev region_of : Payload → Operation → ℕ → Region
region_of payload read n = record { place = place_of (Some read); size = item_size (item_type payload) * n }

module _ (guests : List Guest) (payload : Payload) (read : Operation) (items : List Item) (placed : IsPlaced (sizes_of guests) payload read) (fit : length items ≤ read.left) where
  abbrev ss : ItemType
  ss = item_type payload

  abbrev memory : List ℕ
  memory = memory_in guests read.guest

  abbrev filled : List ℕ
  filled = stored_at ss memory read.address items

  there : read.guest < length guests
  there = omega (arith, placed.there, length-map guests (λ (g : Guest). length g.memory))

  -- of the reader's guest
  same_here : (r : Region) → LiesApart r (region_of payload read (length items)) → r.place.guest ≡ read.guest → bytes_at filled r.place.address r.size ≡ bytes_at memory r.place.address r.size
  same_here r apart e =
      elim (cases_lt 0 (item_size ss)) [
        | inl some ↦
            stored_stays ss memory read.address r.place.address some items r.size
            (λ p. within (length memory) ss read.address (length items) (front_inside guests payload read (length items) fit placed) p some) (apart e)
        | inr none ↦
            ap (λ bytes. bytes_at bytes r.place.address r.size) (stored_at-no_bytes ss memory read.address items (omega (arith, none)))
      ]

  pub lowered_stays : (r : Region) → LiesApart r (region_of payload read (length items)) → bytes_of (lowered_items guests payload read items) r ≡ bytes_of guests r
  lowered_stays r apart =
      elim (cases_eq r.place.guest read.guest) [
        | inl e ↦
            ap (λ g. bytes_at (memory_in (lowered_items guests payload read items) g) r.place.address r.size) e
            ∙ ap (λ bytes. bytes_at bytes r.place.address r.size) (memory_in-with_memory guests read.guest filled there)
            ∙ same_here r apart e
            ∙ ap (λ g. bytes_at (memory_in guests g) r.place.address r.size) (sym e)
        | inr ne ↦ ap (λ bytes. bytes_at bytes r.place.address r.size) (memory_in-with_memory_other guests read.guest r.place.guest filled ne)
      ]

-- a moment that leaves all memories but where a read gets items
record Lowers (m : Moment) (payload : Payload) (read : Operation) (items : List Item) : Type 0 where
  guests : m.after.guests ≡ lowered_items m.before.guests payload read items
  placed : IsPlaced (sizes_of m.before.guests) payload read
  few : length items ≤ read.left

-- it touches nothing else, where the read is of stream k
received_aside : (m : Moment) (k : ℕ) (payload : Payload) (read : Operation) (items : List Item) → Lowers m payload read items → received_by k m ≡ region_of payload read (length items) → StaysAside m
received_aside m k payload read items l here =
    let sizes : sizes_of m.after.guests ≡ sizes_of m.before.guests = ap sizes_of l.guests ∙ (lowered_items-keeps m.before.guests payload read items l.placed l.few).sizes in
    record {
      guests = omega (arith, length-map m.before.guests (λ (g : Guest). length g.memory), length-map m.after.guests (λ (g : Guest). length g.memory), ap length sizes);
      size = λ g l. sym (size_in m.after.guests g) ∙ ap (λ xs. get_or xs g 0) sizes ∙ size_in m.before.guests g;
      bytes = λ r _ u. ap (λ guests. bytes_of guests r) l.guests ∙ lowered_stays m.before.guests payload read items l.placed l.few r (subst (LiesApart r) here (u.got k));
    }

region_same : (p q : MemoryPlace) (a b : ℕ) → p ≡ q → a ≡ b → ◌≡◌ {A = Region} (record { place = p; size = a }) (record { place = q; size = b })
region_same p q a b e f = rw (e, f) refl

-- as many more
rise_is : (a b n : ℕ) → a ≡ b + n → a - b ≡ n
rise_is a b n e = omega (arith, e)

-- a stream that a part has to do with
abbrev pub Concerns : Part → ℕ → Type 0
Concerns (Acts act) s = Unit {0}
Concerns (Turns k) s = k ≡ s

-- a host reader has, or had, the read end of a stream, or its count has room for what a part brings
abbrev pub ReadOrRoomy : State → ℕ → Type 0
ReadOrRoomy state s = IsTaken Reading state s ⊎ (received s state + 2 ^ 28 < 2 ^ 128)

module _ (old new : State) (reply : Reply) (h : Holds old) where
  driven_aside : (side : Side) (k : ℕ) → ReadOrRoomy old k → Driven side old new k → StaysAside (moment_in old (Turns k) reply new)
  driven_aside Writing k room d =
      StaysAside-same (moment_in old (Turns k) reply new) (ap (λ (x : State). x.guests) d.turned.is ∙ d.turned.fills)
  driven_aside Reading k (inl taken) d = absurd (let none = taken.idle in let wrong : Some d.operation ≡ None = sym d.waits ∙ none in cc)
  driven_aside Reading k (inr room) d =
      let m = moment_in old (Turns k) reply new in
      let payload = (stream_at old k).payload in
      let made = host_made old k Writing (ap is_host d.owner) in
      let placed = waiting_placed Reading old k d.operation made d.waits h.sound in
      let t = d.turned in
      let items = t.fills.items in
      let rises : rise k m ≡ length items = rise_is (received k new) (received k old) (length items) (turned_count Reading old new k d.host d.operation t (placed_small (sizes_of old.guests) payload d.operation placed) room made ∙ ap (λ n. received k old + n) t.fills.long) in
      received_aside m k payload d.operation items (record { guests = ap (λ (x : State). x.guests) t.is ∙ t.fills.is; placed = placed; few = omega (arith, t.few, t.fills.long) })
      (region_same (target k m) (place_of (Some d.operation)) _ _ (ap place_of d.waits) (ap (λ n. item_size (item_type payload) * n) rises))

  call_aside : (side : Side) (end : NamedEnd) (address count : ℕ) → ReadOrRoomy old (stream_named (named old end)) → Calls side old end address count reply new → StaysAside (moment_in old (Acts (OnEnd side end (Operate address count))) reply new)
  call_aside Writing end address count room r =
      StaysAside-same (moment_in old (Acts (OnEnd Writing end (Operate address count))) reply new) (ap (λ (x : State). x.guests) r.is ∙ ap (λ (x : State). x.guests) r.turned.is ∙ r.turned.fills)
  call_aside Reading end address count (inl taken) r =
      let own = h.held.agree.named end.guest end.handle (stream_named (named old end)) Reading (call_begun Reading old end address count h.sound r.unrefused).found.held in
      absurd (true≢false (sym (ap is_held own) ∙ taken.unheld))
  call_aside Reading end address count (inr room) r =
      let act = OnEnd Reading end (Operate address count) in
      let m = moment_in old (Acts act) reply new in
      let k = stream_named (named old end) in
      let read = begun end.guest address (items_asked end.ty count) in
      let opened = opened_by Reading old k read in
      let payload = (stream_at old k).payload in
      let b = call_begun Reading old end address count h.sound r.unrefused in
      let t = r.turned in
      let items = t.fills.items in
      let same : (stream_at opened k).payload ≡ payload = opened_payload Reading old k read in
      let first = opened_count Reading old k k read in
      let many : k < length opened.streams = omega (arith, b.found.made, length-set old.streams k (with_operation Reading (stream_at old k) read)) in
      let second = turned_count Reading opened r.mid k r.host read t (placed_small (sizes_of old.guests) payload read b.placed) (omega (arith, first, room)) many in
      let last : received k new ≡ received k r.mid = ap (received k) r.is ∙ told_count Reading r.mid k k in
      let rises : rise k m ≡ length items = rise_is (received k new) (received k old) (length items) (last ∙ second ∙ ap (λ n. n + t.count) first ∙ ap (λ n. received k old + n) t.fills.long) in
      let guests : m.after.guests ≡ lowered_items old.guests payload read items =
      ap (λ (x : State). x.guests) r.is ∙ ap (λ (x : State). x.guests) t.is ∙ t.fills.is ∙ ap (λ p. lowered_items old.guests p read items) same in
      let named_here : is_named k Reading m ≡ true = named_itself old act reply k Reading Reading (b.found.named reply) in
      let waiting = place_of (stream_at old k).reader.operation in
      received_aside m k payload read items (record { guests = guests; placed = b.placed; few = omega (arith, t.few, t.fills.long) })
      (region_same (target k m) (place_of (Some read)) _ _ (ap (λ x. cond x (read_place act waiting) waiting) named_here) (ap (λ n. item_size (item_type payload) * n) rises))

  forsaken_aside : (act : Act) → StaysAside (as_moment old act (reaction old act)) → Forsakes old act reply new → StaysAside (moment_in old (Acts act) reply new)
  forsaken_aside act a f =
      let r = reaction old act in
      let before = as_moment old act r in
      let last = forsaken_by f.side r.state f.stream f.host in
      let guests = forsaken_guests f.side r.state f.stream f.host in
      let after = moment_in old (Acts act) r.reply last in
      let same = forsaken_count f.side r.state f.stream f.host in
      let aside : StaysAside after = record {
        guests = omega (arith, a.guests, ap length guests);
        size = λ g l. ap (λ gs. length (memory_in gs g)) guests ∙ a.size g l;
        bytes = λ x l u. ap (λ gs. bytes_of gs x) guests ∙ a.bytes x l (record {
          put = u.put;
          got = λ s. subst (λ n. LiesApart x (record { place = target s before; size = item_size (item_type (stream_at old s).payload) * (n - received s old) })) (same s) (u.got s);
        });
      } in
      subst (λ (y : State). StaysAside (moment_in old (Acts act) reply y)) (sym f.is)
      (subst (λ q. StaysAside (moment_in old (Acts act) q last)) (sym f.reply_is) aside)

  -- a host reader has, or had, the read end of each stream that a part has to do with, or its count has room
  abbrev RoomFor : Part → Type 0
  RoomFor part = (s : ℕ) → Concerns part s → ReadOrRoomy old s

  -- so that what a guest calls finds room
  called_room : (act : Act) → RoomFor (Acts act) → FindsRoomFor old act
  called_room act room side end address count e o =
      elim (room (stream_named (named old end)) tt) [
        | inl taken ↦ unread side taken (h.held.agree.named end.guest end.handle (stream_named (named old end)) side o.found.held)
        | inr l ↦ inr l
      ]
    where
      unread : (side : Side) → IsTaken Reading old (stream_named (named old end)) → (end_of side (stream_at old (stream_named (named old end)))).owner ≡ Held end.guest end.handle → FindsRoom old side end
      unread Writing taken own = inl (refl, taken.idle)
      unread Reading taken own = absurd (true≢false (sym (ap is_held own) ∙ taken.unheld))

  pub effect_aside : (part : Part) → RoomFor part → Effect old part reply new → StaysAside (moment_in old part reply new)
  effect_aside part room (ByReaction act p i r e) =
      rw (p, r, e) (reaction-stays_at old act h.sound (called_room act (subst RoomFor p room)))
  effect_aside part room (ByRest q e) = StaysAside-same (moment_in old part reply new) (ap (λ (x : State). x.guests) e)
  effect_aside part room (ByHosting n p x) = StaysAside-same (moment_in old part reply new) (ap (λ (y : State). y.guests) x.is)
  effect_aside part room (ByPiping k r p x) = StaysAside-same (moment_in old part reply new) (piped_guests old new k r x.ends)
  effect_aside part room (ByPassing k p done x) = StaysAside-same (moment_in old part reply new) (passing_guests old new k x)
  effect_aside part room (ByDriving side k p done d) =
      subst (λ q. StaysAside (moment_in old q reply new)) (sym p) (driven_aside side k (room k (subst (λ q. Concerns q k) (sym p) refl)) d)
  effect_aside part room (ByCalling side end address count p r) =
      subst (λ q. StaysAside (moment_in old q reply new)) (sym p) (call_aside side end address count (room (stream_named (named old end)) (subst (λ q. Concerns q (stream_named (named old end))) (sym p) tt)) r)
  effect_aside part room (ByForsaking act p f) =
      subst (λ q. StaysAside (moment_in old q reply new)) (sym p) (forsaken_aside act (reaction-stays_at old act h.sound (called_room act (subst RoomFor p room))) f)

  -- what is put lies there
  idle_there : (part : Part) → is_idle part ≡ true → LieThere (moment_in old part reply new)
  idle_there (Acts (OnHost n act)) i = refl
  idle_there (Acts act) i = cc
  idle_there (Turns k) i = refl

  pub effect_there : (part : Part) → Effect old part reply new → LieThere (moment_in old part reply new)
  effect_there part (ByReaction act p i r e) = rw (p, r, e) (reaction-there old act h.sound)
  effect_there part (ByRest q e) = idle_there part q.idle
  effect_there part (ByHosting n p x) = idle_there part (ap is_idle p)
  effect_there part (ByPiping k r p x) = idle_there part (ap is_idle p)
  effect_there part (ByDriving side k p done d) = idle_there part (ap is_idle p)
  effect_there part (ByPassing k p done x) = idle_there part (ap is_idle p)
  effect_there part (ByCalling side end address count p r) = subst (λ q. LieThere (moment_in old q reply new)) (sym p) refl
  effect_there part (ByForsaking act p f) =
      let r = reaction old act in
      subst (λ q. LieThere (moment_in old q reply new)) (sym p)
      (subst (λ (y : State). LieThere (moment_in old (Acts act) reply y)) (sym f.is)
      (subst (λ q. LieThere (moment_in old (Acts act) q (forsaken_by f.side r.state f.stream f.host))) (sym f.reply_is)
      (there_as r.reply r.state (forsaken_by f.side r.state f.stream f.host) (forsaken_guests f.side r.state f.stream f.host) (reaction-there old act h.sound))))
    where
      -- what lies in the memories lies there too where they are the same
      there_as : (told : Reply) (x y : State) → y.guests ≡ x.guests → LieThere (moment_in old (Acts act) told x) → LieThere (moment_in old (Acts act) told y)
      there_as told x y e l = ap (λ gs. bytes_of gs (put_by act told)) e ∙ l

-- ## Every run

module _ (w : World) (m : HostMoment) (f : Follows w m) (h : Holds w.state) where
  effect_of : Effect m.before.state m.part m.reply m.after.state
  effect_of = subst (λ (v : World). Effect v.state m.part m.reply m.after.state) (sym f.begins) (follows_effect w m h.hosts f)

  holds_before : Holds m.before.state
  holds_before = subst (λ (v : World). Holds v.state) (sym f.begins) h

  holds_after : Holds m.after.state
  holds_after = Holds-effect m.before.state m.after.state m.reply holds_before m.part effect_of

all_there : (w : World) (all : List HostMoment) → Chain w all → Holds w.state → All LieThere (plains all)
all_there w [] c h = All-nil LieThere
all_there w (m ∷ more) c h =
    All-cons LieThere (plain m) (plains more) (effect_there m.before.state m.after.state m.reply (holds_before w m c.0 h) m.part (effect_of w m c.0 h))
    (all_there m.after more c.1 (holds_after w m c.0 h))

-- a host reader has, or had, the read end of a stream, or its count has room for what is left for it
abbrev pub ReadOrRoomFor : State → ℕ → ℕ → Type 0
ReadOrRoomFor state s n = IsTaken Reading state s ⊎ (received s state + 2 ^ 28 * n < 2 ^ 128)

abbrev HasRoomFor : World → (ℕ → ℕ) → Type 0
HasRoomFor w left = (s : ℕ) → ReadOrRoomFor w.state s (left s)

module _ (old new : State) (part : Part) (reply : Reply) (left : ℕ → ℕ) (h : Holds old) (pays : (s : ℕ) → Pays s part (left s)) (room : (s : ℕ) → ReadOrRoomFor old s (left s)) (effect : Effect old part reply new) where
  room_now : (s : ℕ) → Concerns part s → ReadOrRoomy old s
  room_now s c = elim (room s) [
    | inl taken ↦ inl taken
    | inr l ↦ inr (by part (pays s) c l)
  ]
    where
      by : (part : Part) → Pays s part (left s) → Concerns part s → received s old + 2 ^ 28 * left s < 2 ^ 128 → received s old + 2 ^ 28 < 2 ^ 128
      by (Acts act) p c l = omega (arith, p.0, l)
      by (Turns k) p c l = omega (arith, p c, l)

  room_then : (s : ℕ) → received s old + 2 ^ 28 * left s < 2 ^ 128 → NoPipe old s → received s new + 2 ^ 28 * left_after s part (left s) < 2 ^ 128
  room_then s room off = by part (pays s) effect
    where
      turn : (k : ℕ) → (k ≡ s → 0 < left s) → Effect old (Turns k) reply new → (k ≡ s) ⊎ (k ≢ s) → received s new + 2 ^ 28 * cond (k == s) (left s - 1) (left s) < 2 ^ 128
      turn k p x (inl e) =
          let b : cond (k == s) (left s - 1) (left s) ≡ left s - 1 = ap (λ b. cond b (left s - 1) (left s)) (eq-eqb k s e) in
          omega (arith, b, p e, room, effect_most old new reply h (Turns k) s off x)
      turn k p x (inr ne) =
          let b : cond (k == s) (left s - 1) (left s) ≡ left s = ap (λ b. cond b (left s - 1) (left s)) (ne_eqb k s ne) in
          omega (arith, b, room, effect_still old new reply h k s ne x)

      by : (part : Part) → Pays s part (left s) → Effect old part reply new → received s new + 2 ^ 28 * left_after s part (left s) < 2 ^ 128
      by (Acts act) p x = omega (arith, p.0, room, effect_most old new reply h (Acts act) s off x)
      by (Turns k) p x = turn k p x (cases_eq k s)

  room_next : (s : ℕ) → ReadOrRoomFor new s (left_after s part (left s))
  room_next s = elim (room s) [
    | inl taken ↦ inl (effect_taken Reading old new part reply s h effect taken)
    | inr l ↦ by (stream_at old s).reader.owner refl l
  ]
    where
      by : (owner : Owner) → (stream_at old s).reader.owner ≡ owner → received s old + 2 ^ 28 * left s < 2 ^ 128 → ReadOrRoomFor new s (left_after s part (left s))
      by (Host r) e l = inl (effect_taken Reading old new part reply s h effect (owner_taken Reading old s r h e))
      by owner e l = inr (room_then s l (λ n r f g. let wrong = sym e ∙ g in cc))

all_aside : (w : World) (all : List HostMoment) (left : ℕ → ℕ) → Chain w all → ((s : ℕ) → Costs s all (left s)) → Holds w.state → HasRoomFor w left → All StaysAside (plains all)
all_aside w [] left c p h room = All-nil StaysAside
all_aside w (m ∷ more) left c p h room =
    let f = c.0 in
    let before = holds_before w m f h in
    let effect = effect_of w m f h in
    let here : HasRoomFor m.before left = subst (λ (v : World). HasRoomFor v left) (sym f.begins) room in
    let pays : (s : ℕ) → Pays s m.part (left s) = λ s. (p s).0 in
    All-cons StaysAside (plain m) (plains more)
    (effect_aside m.before.state m.after.state m.reply before m.part (room_now m.before.state m.after.state m.part m.reply left before pays here effect) effect)
    (all_aside m.after more (λ s. left_after s m.part (left s)) c.1 (λ s. (p s).1) (holds_after w m f h) (room_next m.before.state m.after.state m.part m.reply left before pays here effect))

module _ (tag : ℕ) (limits : Limits) (tells said : Tells) (run : List Step) (count : ℕ) where
  abbrev all_moments : List HostMoment
  all_moments = first_moments count (start_world tag limits tells said) run

  pub bytes_are_put : All LieThere (plains all_moments)
  bytes_are_put = all_there (start_world tag limits tells said) all_moments (first-chain count (start_world tag limits tells said) run) (Holds-empty tag limits)

  pub other_bytes_stay : AreSteps run → All StaysAside (plains all_moments)
  other_bytes_stay a =
      all_aside (start_world tag limits tells said) all_moments (λ s. length run) (first-chain count (start_world tag limits tells said) run)
      (λ s. first_cost s count (start_world tag limits tells said) run a.bytes) (Holds-empty tag limits) (λ s. inr (omega (arith, a.few)))
