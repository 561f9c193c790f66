-- What one moment may do to an end of a stream: five changes, by which the law of conservation goes.
use Rattle.std.proofs.Common.{◌≡◌, ℕ, ◌+◌, ◌*◌, ◌≤◌, ℤ, List, [], ◌∷◌, Option, None, Some}
use Rattle.strm_machine.specs.Words.{Guest, item_type, item_size, ReturnCode, stream_at, end_of, Side, Writing, Stream, Operation, Moment, Call, report_in, accepted_in, count_reported, k_of, items_in_memory, got_in}

-- what the law sees of one moment on one end of a stream
pub record Scene : Type 0 where
  pub before : Stream
  pub after : Stream
  -- the guests before it
  pub guests : List Guest
  -- the call that was accepted, if one was, and what was reported to the end
  pub taken : List Call
  pub report : Option ReturnCode
  -- what was received
  pub got : List (Option (List ℤ))

abbrev pub scene : ℕ → Side → Moment → Scene
scene s side m = record {
  before = stream_at m.before s;
  after = stream_at m.after s;
  guests = m.before.guests;
  taken = accepted_in s side m (report_in s side m);
  report = report_in s side m;
  got = got_in s m;
}

-- on the writing side, what was received lay at this place before the moment, so many items
abbrev pub Brings : Side → Scene → ℕ → ℕ → ℕ → Type 0
Brings side v g address n = side ≡ Writing → v.got ≡ items_in_memory v.before.payload v.guests g address n

-- no operation before or after, and a report, if there is one, of no item
pub record Rests (side : Side) (v : Scene) : Type 0 where
  pub was : (end_of side v.before).operation ≡ None
  pub is : (end_of side v.after).operation ≡ None
  pub takes : v.taken ≡ []
  pub counts : k_of v.before.kind 0 v.report ≡ 0
  pub same : v.after.received ≡ v.before.received
  pub nothing : v.got ≡ []

-- the operation stays, and so many of its items are received
pub record GoesOn (side : Side) (v : Scene) (o p : Operation) (n : ℕ) : Type 0 where
  pub was : (end_of side v.before).operation ≡ Some o
  pub is : (end_of side v.after).operation ≡ Some p
  pub takes : v.taken ≡ []
  pub unreported : v.report ≡ None
  pub guest : p.guest ≡ o.guest
  pub address : p.address ≡ o.address + item_size (item_type v.before.payload) * n
  pub moved : p.moved ≡ o.moved + n
  pub left : p.left + n ≡ o.left
  pub payload : v.after.payload ≡ v.before.payload
  pub more : v.after.received ≡ v.before.received + n
  pub brings : Brings side v o.guest o.address n

-- the operation ends with its report
pub record Settles (side : Side) (v : Scene) (o : Operation) (code : ReturnCode) : Type 0 where
  pub was : (end_of side v.before).operation ≡ Some o
  pub is : (end_of side v.after).operation ≡ None
  pub takes : v.taken ≡ []
  pub report : v.report ≡ Some code
  pub counts : count_reported v.before.kind code ≡ o.moved
  pub same : v.after.received ≡ v.before.received
  pub nothing : v.got ≡ []

-- a call is accepted and waits, perhaps with items received already
pub record Opens (side : Side) (v : Scene) (g address asked : ℕ) (p : Operation) (n : ℕ) : Type 0 where
  pub was : (end_of side v.before).operation ≡ None
  pub is : (end_of side v.after).operation ≡ Some p
  pub takes : v.taken ≡ record { guest = g; address = address; asked = asked; report = v.report } ∷ []
  pub unreported : v.report ≡ None
  pub guest : p.guest ≡ g
  pub place : p.address ≡ address + item_size (item_type v.before.payload) * n
  pub moved : p.moved ≡ n
  pub left : n + p.left ≡ asked
  pub payload : v.after.payload ≡ v.before.payload
  pub more : v.after.received ≡ v.before.received + n
  pub brings : Brings side v g address n

-- a call is accepted and has its report at once, of no more than it asked for
pub record Serves (side : Side) (v : Scene) (g address asked : ℕ) (code : ReturnCode) : Type 0 where
  pub was : (end_of side v.before).operation ≡ None
  pub is : (end_of side v.after).operation ≡ None
  pub takes : v.taken ≡ record { guest = g; address = address; asked = asked; report = v.report } ∷ []
  pub report : v.report ≡ Some code
  pub within : count_reported v.before.kind code ≤ asked
  pub more : v.after.received ≡ v.before.received + count_reported v.before.kind code
  pub brings : Brings side v g address (count_reported v.before.kind code)

pub data Change (side : Side) (v : Scene) : Type 0 where
  ByRest : Rests side v → Change side v
  ByGoing : (o p : Operation) (n : ℕ) → GoesOn side v o p n → Change side v
  BySettling : (o : Operation) (code : ReturnCode) → Settles side v o code → Change side v
  ByOpening : (g address asked : ℕ) (p : Operation) (n : ℕ) → Opens side v g address asked p n → Change side v
  ByServing : (g address asked : ℕ) (code : ReturnCode) → Serves side v g address asked code → Change side v
