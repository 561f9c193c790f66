-- What a read or write does to both ends of the stream that it names, as the laws see it.
use Rattle.std.proofs.Common.{◌≡◌, ℕ, ◌+◌, ◌-◌, ◌^◌, ◌<◌, ◌≤◌, ℤ, true, false, cond, List, [], ◌∷◌, length, min, Option, Some, None, refl, sym, ap, ◌∙◌, subst, arith}
use Rattle.std.specs.Prelude.{All, IsSome, ◌==◌}
use Rattle.std.proofs.lemmas.Bool.{cond_both, eqb-true, le-ltb}
use Rattle.std.proofs.lemmas.List.{length-map}
use Rattle.std.proofs.lemmas.List.Elements.{All-nil}
use Rattle.strm_codes.specs.Codes.{completed_code}
use Rattle.strm_machine.specs.Words.{Guest, item_type, ReturnCode, TransmitKind, AStream, Future, Payload, opposite, same_side, end_of, with_end, with_operation, advanced, carried, Operated, with_received, sizes_of, IsPlaced, OperationIsPlaced, Side, Writing, Reading, Operation, Stream, Call, as_report, count_reported, k_of, items_in_memory, both_open}
use Rattle.strm_codes.specs.declared.codes.ReturnCode.TheVariants as codes
use Rattle.strm_machine.specs.Endings.{asked_to_finish}
use Rattle.strm_machine.specs.State.{is_gone}
use Rattle.strm_machine.specs.Sides.{write_of, read_of}
use Rattle.strm_machine.specs.Operating.{answers, waits, moves, completes_alone, rendezvous_by, rendezvous, finds, operate}
use Rattle.strm_machine.specs.declared.streams.Meeting.{Meeting}
use Rattle.strm_machine.proofs.SideLemmas.{read_of-placed}
use Rattle.strm_machine.specs.Moments.{MemoryPlace, place_of}
use Rattle.strm_machine.specs.Soundness.{is_opened, IsUnmoved}
use Rattle.strm_machine.proofs.Changes.{Scene, Change, ByRest, ByGoing, ByOpening, ByServing}
use Rattle.strm_machine.proofs.EndLemmas.{each_side, apart_by, write_mine, write_theirs, read_fits, write_none, read_none, IsTurned, turned_not, turned_end, turned_both, turned_moves}
use Rattle.strm_machine.proofs.TallyLemmas.{IsOne, one_closed, IsFresh, none_fresh, AreOne, none_unmoved, unmoved_on, Tallies-by, IsOne-advanced, one_at, none_one, Tallies, one_on, PassesOne-by, count_passed, Begins, count_reported-completed, count_reported-dropped}
use Rattle.strm_machine.proofs.ArrivalLemmas.{AreBytes, decoded-zero, carried_arrives}

-- ## What is seen

-- of a call on a side, what is reported to an end, and the call that is taken there
abbrev pub report_by : Side → Side → ReturnCode → Option ReturnCode
report_by side other code = cond (same_side side other) (as_report (Some code)) None

abbrev pub taken_by : Side → Side → Operation → ReturnCode → List Call
taken_by side other mine code =
    cond (same_side side other) (record { guest = mine.guest; address = mine.address; asked = mine.left; report = report_by side other code } ∷ []) []

-- where items are received, and which
abbrev pub place_by : Side → Stream → Operation → MemoryPlace
place_by Writing stream mine = place_of stream.reader.operation
place_by Reading stream mine = record { guest = mine.guest; address = mine.address }

abbrev pub got_by : Side → Stream → Operation → Operated → List (Option (List ℤ))
got_by side stream mine t =
    items_in_memory stream.payload t.guests (place_by side stream mine).guest (place_by side stream mine).address (t.stream.received - stream.received)

abbrev pub scene_of : Side → Side → List Guest → Stream → Operation → ReturnCode → Operated → Scene
scene_of side other guests stream mine code t = record {
  before = stream;
  after = t.stream;
  guests = guests;
  taken = taken_by side other mine code;
  report = report_by side other code;
  got = got_by side stream mine t;
}

pub record Does (side : Side) (guests : List Guest) (stream : Stream) (mine : Operation) (code : ReturnCode) (t : Operated) : Type 0 where
  pub change : (other : Side) → Change other (scene_of side other guests stream mine code t)
  pub whole : All IsSome (got_by side stream mine t)
  pub most : t.stream.received ≤ stream.received + 2 ^ 28
  pub apart : both_open t.stream ≡ false
  pub tallies : Tallies t.stream

-- a turn that answers a code does this, and one that finds a bad item leaves the stream
abbrev pub DoesBy : Side → List Guest → Stream → Operation → Operated → Option ReturnCode → Type 0
DoesBy side guests stream mine t None = t.stream ≡ stream
DoesBy side guests stream mine t (Some code) = Does side guests stream mine code t

-- mine is taken and has the report, theirs neither
report-mine : (side : Side) (code : ReturnCode) → report_by side side code ≡ as_report (Some code)
report-mine Writing code = refl
report-mine Reading code = refl

report-theirs : (side : Side) (code : ReturnCode) → report_by side (opposite side) code ≡ None
report-theirs Writing code = refl
report-theirs Reading code = refl

taken-mine : (side : Side) (mine : Operation) (code : ReturnCode) → taken_by side side mine code ≡ record { guest = mine.guest; address = mine.address; asked = mine.left; report = report_by side side code } ∷ []
taken-mine Writing mine code = refl
taken-mine Reading mine code = refl

taken-theirs : (side : Side) (mine : Operation) (code : ReturnCode) → taken_by side (opposite side) mine code ≡ []
taken-theirs Writing mine code = refl
taken-theirs Reading mine code = refl

-- ## Where the count stays

pub none_got : (payload : Payload) (guests : List Guest) (g address a b : ℕ) → a ≡ b → items_in_memory payload guests g address (a - b) ≡ []
none_got payload guests g address a b e = decoded-zero (item_type payload) _ (a - b) (omega arith)

pub none_whole : (payload : Payload) (guests : List Guest) (g address a b : ℕ) → a ≡ b → All IsSome (items_in_memory payload guests g address (a - b))
none_whole payload guests g address a b e = subst (All IsSome) (sym (none_got payload guests g address a b e)) (All-nil IsSome)

-- as many were received as none
none_brought : (payload : Payload) (guests others : List Guest) (g address h place a b n : ℕ) → a ≡ b → n ≡ 0 → items_in_memory payload guests g address (a - b) ≡ items_in_memory payload others h place n
none_brought payload guests others g address h place a b n e f = none_got payload guests g address a b e ∙ sym (decoded-zero (item_type payload) _ n f)

module _ (side : Side) (v : Scene) (taken : v.taken ≡ []) (report : v.report ≡ None) (nothing : v.got ≡ []) (payload : v.after.payload ≡ v.before.payload) (same : v.after.received ≡ v.before.received) where
  -- an operation that has the items left that it had
  pub goes_on : (o p : Operation) → (end_of side v.before).operation ≡ Some o → (end_of side v.after).operation ≡ Some p → p.guest ≡ o.guest → p.address ≡ o.address → p.moved ≡ o.moved → p.left ≡ o.left → Change side v
  goes_on o p was is guest address moved left =
      ByGoing o p 0
      (record {
        was = was;
        is = is;
        takes = taken;
        unreported = report;
        guest = guest;
        address = omega (arith, address);
        moved = omega (arith, moved);
        left = omega (arith, left);
        payload = payload;
        more = omega (arith, same);
        brings = λ e. nothing ∙ sym (decoded-zero (item_type v.before.payload) _ 0 refl);
      })

  still_at : (o : Option Operation) → (end_of side v.before).operation ≡ o → (end_of side v.after).operation ≡ o → Change side v
  still_at None was is = ByRest (record { was = was; is = is; takes = taken; counts = ap (k_of v.before.kind 0) report; same = same; nothing = nothing })
  still_at (Some o) was is = goes_on o o was is refl refl refl refl

  -- nothing happens at this end
  pub still : (end_of side v.after).operation ≡ (end_of side v.before).operation → Change side v
  still is = still_at (end_of side v.before).operation refl is

  -- its operation is asked to finish
  pub asked : (o : Operation) → (end_of side v.before).operation ≡ Some o → (end_of side v.after).operation ≡ Some (asked_to_finish o) → Change side v
  asked o was is = goes_on o (asked_to_finish o) was is refl refl refl refl

-- ## Where it rises

-- a count with room takes n items more
pub rose : (r n : ℕ) → r + 2 ^ 28 < 2 ^ 128 → n < 2 ^ 28 → min (r + n) (2 ^ 128 - 1) ≡ r + n
rose r n h l = omega arith

got_at : (payload : Payload) (guests : List Guest) (o : Option Operation) (p : Operation) (k n : ℕ) → o ≡ Some p → k ≡ n → items_in_memory payload guests (place_of o).guest (place_of o).address k ≡ items_in_memory payload guests p.guest p.address n
got_at payload guests o p k n e f = rw (e, f) refl

-- items are received where the read of the two has its own
module _ (stream : Stream) (mine theirs : Operation) (t : Operated) (n : ℕ) (rise : t.stream.received - stream.received ≡ n) where
  got_moved : (side : Side) → (end_of (opposite side) stream).operation ≡ Some theirs → got_by side stream mine t ≡ items_in_memory stream.payload t.guests (read_of side mine theirs).guest (read_of side mine theirs).address n
  got_moved Writing is = got_at stream.payload t.guests stream.reader.operation theirs (t.stream.received - stream.received) n is rise
  got_moved Reading is = ap (λ j. items_in_memory stream.payload t.guests mine.guest mine.address j) rise

report-completed : (kind : TransmitKind) (n : ℕ) → as_report (Some (completed_code kind n)) ≡ Some (completed_code kind n)
report-completed AStream n = refl
report-completed Future n = refl

pub there : (guests : List Guest) (payload : Payload) (o : Operation) → IsPlaced (sizes_of guests) payload o → o.guest < length guests
there guests payload o h = omega (arith, h.there, length-map guests (λ g. length g.memory))

-- ## One read or write

-- mine moves n items with the open operation of the opposite end
record Moving (side : Side) (guests : List Guest) (stream : Stream) (mine theirs : Operation) (n : ℕ) : Type 0 where
  is : (end_of (opposite side) stream).operation ≡ Some theirs
  held : IsPlaced (sizes_of guests) stream.payload theirs
  fit : n ≤ mine.left
  fits : n ≤ theirs.left
  ready : theirs.is_open ≡ true
  one : stream.kind ≡ Future → n ≡ 1

-- what is known of the opposite end's operation where a call waits
record IsPassed (stream : Stream) (theirs : Option Operation) : Type 0 where
  closed : is_opened theirs ≡ false
  unmoved : IsUnmoved theirs
  one : stream.kind ≡ Future → AreOne theirs

-- what is known of a call and of its stream before the turn
pub record BeforeTurn (side : Side) (guests : List Guest) (stream : Stream) (mine : Operation) : Type 0 where
  pub bytes : AreBytes guests
  pub room : stream.received + 2 ^ 28 < 2 ^ 128
  pub start : mine.moved ≡ 0
  pub placed : IsPlaced (sizes_of guests) stream.payload mine
  pub tallies : Tallies stream
  pub begins : stream.kind ≡ Future → Begins stream mine
  pub idle : (end_of side stream).operation ≡ None

module _ (side : Side) (guests : List Guest) (stream : Stream) (mine : Operation) (before : BeforeTurn side guests stream mine) where
  abbrev found : Option Operation
  found = (end_of (opposite side) stream).operation

  -- what is to be shown of a turn
  abbrev DoesTurn : Operated → Type 0
  DoesTurn t = DoesBy side guests stream mine t t.code

  -- the guests after n items were carried
  abbrev Carries : Operation → ℕ → Option (List Guest) → Type 0
  Carries theirs n o = carried guests stream.payload (write_of side mine theirs) (read_of side mine theirs) n ≡ o

  -- what is seen of a call that waits at the opposite end
  abbrev theirs_seen : Stream → Scene
  theirs_seen new = scene_of side (opposite side) guests stream mine codes.Blocked (answers codes.Blocked guests new)

  -- a call that is answered at once, with nothing moved
  answered : (code : ReturnCode) (new : Stream) → IsTurned side stream new None found stream.passed stream.received → count_reported stream.kind code ≡ 0 → as_report (Some code) ≡ Some code → Does side guests stream mine code (answers code guests new)
  answered code new t none told =
      let turned = answers code guests new in
      let place = place_by side stream mine in
      record {
        change = each_side (λ other. Change other (scene_of side other guests stream mine code turned)) side
            (ByServing mine.guest mine.address mine.left code (record {
              was = before.idle;
              is = t.mine_is;
              takes = taken-mine side mine code;
              report = report-mine side code ∙ told;
              within = omega (arith, none);
              more = omega (arith, none, t.count);
              brings = λ e. none_brought stream.payload guests guests place.guest place.address mine.guest mine.address new.received stream.received (count_reported stream.kind code) t.count none;
            }))
            (still (opposite side) (scene_of side (opposite side) guests stream mine code turned) (taken-theirs side mine code) (report-theirs side code) (none_got stream.payload guests place.guest place.address new.received stream.received t.count) t.payload t.count t.theirs_is);
        whole = none_whole stream.payload guests place.guest place.address new.received stream.received t.count;
        most = omega (arith, t.count);
        apart = apart_by side new (ap is_opened t.mine_is);
        tallies = Tallies-by side new (none_unmoved (end_of side new).operation t.mine_is) (subst IsUnmoved (sym t.theirs_is) (unmoved_on (opposite side) stream before.tallies))
            (λ k. let p = before.tallies.one (sym t.kind ∙ k) in PassesOne-by side new (none_one (end_of side new).operation t.mine_is) (subst AreOne (sym t.theirs_is) (one_on (opposite side) stream p))
            (none_fresh (end_of side new).operation new (ap is_opened t.mine_is)) (subst (λ q. IsFresh q new) (sym t.theirs_is) (λ e. t.pass ∙ p.fresh (opposite side) e)) (rw (t.count, t.pass) p.count));
      }

  -- a call that waits, where the opposite end, as it is then, isn't open
  opens : (new : Stream) (theirs : Option Operation) → IsTurned side stream new (Some mine) theirs stream.passed stream.received → IsPassed stream theirs → Change (opposite side) (theirs_seen new) → Does side guests stream mine codes.Blocked (answers codes.Blocked guests new)
  opens new theirs t p change =
      let place = place_by side stream mine in
      record {
        change = each_side (λ other. Change other (scene_of side other guests stream mine codes.Blocked (answers codes.Blocked guests new))) side
            (ByOpening mine.guest mine.address mine.left mine 0 (record {
              was = before.idle;
              is = t.mine_is;
              takes = taken-mine side mine codes.Blocked;
              unreported = report-mine side codes.Blocked;
              guest = refl;
              place = omega arith;
              moved = before.start;
              left = omega arith;
              payload = t.payload;
              more = omega (arith, t.count);
              brings = λ e. none_brought stream.payload guests guests place.guest place.address mine.guest mine.address new.received stream.received 0 t.count refl;
            }))
            change;
        whole = none_whole stream.payload guests place.guest place.address new.received stream.received t.count;
        most = omega (arith, t.count);
        apart = apart_by (opposite side) new (ap is_opened t.theirs_is ∙ p.closed);
        tallies = Tallies-by side new (subst IsUnmoved (sym t.mine_is) (λ e. before.start)) (subst IsUnmoved (sym t.theirs_is) p.unmoved)
            (λ k. let f : stream.kind ≡ Future = sym t.kind ∙ k in
            PassesOne-by side new (subst AreOne (sym t.mine_is) (before.begins f).one) (subst AreOne (sym t.theirs_is) (p.one f)) (λ e. t.pass ∙ (before.begins f).unpassed) (none_fresh (end_of (opposite side) new).operation new (ap is_opened t.theirs_is ∙ p.closed))
            (rw (t.count, t.pass) (before.tallies.one f).count));
      }

  -- where the opposite end stays as it is
  waits_still : is_opened found ≡ false → Does side guests stream mine codes.Blocked (waits side guests stream mine)
  waits_still closed =
      let new = with_operation side stream mine in
      let t = turned_end side stream (record (end_of side stream) { operation = Some mine }) in
      let place = place_by side stream mine in
      opens new found t (record { closed = closed; unmoved = unmoved_on (opposite side) stream before.tallies; one = λ k. one_on (opposite side) stream (before.tallies.one k) })
      (still (opposite side) (theirs_seen new) (taken-theirs side mine codes.Blocked) (report-theirs side codes.Blocked) (none_got stream.payload guests place.guest place.address new.received stream.received t.count) t.payload t.count t.theirs_is)

  -- where its operation has met, with nothing moved
  waits_met : (theirs : Operation) → found ≡ Some theirs → theirs.left ≡ 0 → (stream.kind ≡ Future → theirs.left ≡ 1) → Does side guests stream mine codes.Blocked (waits side guests (with_operation (opposite side) stream (advanced stream.payload theirs 0)) mine)
  waits_met theirs is none left =
      let p = advanced stream.payload theirs 0 in
      let new = with_operation side (with_operation (opposite side) stream p) mine in
      let t = turned_both side stream mine p in
      let place = place_by side stream mine in
      let closed : theirs.left - 0 ≤ 0 = omega (arith, none) in
      opens new (Some p) t (record { closed = le-ltb 0 (theirs.left - 0) closed; unmoved = λ e. cc; one = λ k. absurd (omega (arith, none, left k)) })
      (ByGoing theirs p 0 (record {
        was = is;
        is = t.theirs_is;
        takes = taken-theirs side mine codes.Blocked;
        unreported = report-theirs side codes.Blocked;
        guest = refl;
        address = refl;
        moved = refl;
        left = omega arith;
        payload = t.payload;
        more = omega (arith, t.count);
        brings = λ e. none_brought stream.payload guests guests place.guest place.address theirs.guest theirs.address new.received stream.received 0 t.count refl;
      }))

  -- a call that moves n items with an open operation
  moved : (theirs : Operation) (n : ℕ) (after : List Guest) → Moving side guests stream mine theirs n → Carries theirs n (Some after) → Does side guests stream mine (completed_code stream.kind n) (moves side guests stream mine theirs n (Some after))
  moved theirs n after h e =
      let read = read_of side mine theirs in
      let write = write_of side mine theirs in
      let laid : IsPlaced (sizes_of guests) stream.payload read = read_of-placed side (sizes_of guests) stream.payload mine theirs before.placed h.held in
      let arrives = carried_arrives guests after stream.payload write read n before.bytes (there guests stream.payload read laid) (read_fits mine theirs side n h.fit h.fits) laid e in
      let small : n < 2 ^ 28 = omega (arith, before.placed.counted) in
      let more = rose stream.received n before.room small in
      let p = advanced stream.payload theirs n in
      let new = with_operation (opposite side) (with_received stream n) p in
      let t = turned_moves stream p n side None before.idle in
      let code = completed_code stream.kind n in
      let turned = answers code after new in
      let got : got_by side stream mine turned ≡ items_in_memory stream.payload after read.guest read.address n = got_moved stream mine theirs turned n (omega (arith, more, t.count)) side h.is in
      let count = count_reported-completed stream.kind n h.one in
      let one : stream.kind ≡ Future → IsOne p = λ f. IsOne-advanced stream.payload theirs n h.ready (h.one f) (one_at found theirs h.is (one_on (opposite side) stream (before.tallies.one f))) in
      let came : (o : Operation) → write ≡ o → got_by side stream mine turned ≡ items_in_memory stream.payload guests o.guest o.address n = λ o f. got ∙ arrives.brings ∙ ap (λ w. items_in_memory stream.payload guests w.guest w.address n) f in
      record {
        change = each_side (λ other. Change other (scene_of side other guests stream mine code turned)) side
            (ByServing mine.guest mine.address mine.left code (record {
              was = before.idle;
              is = t.mine_is;
              takes = taken-mine side mine code;
              report = report-mine side code ∙ report-completed stream.kind n;
              within = omega (arith, count);
              more = t.count ∙ more ∙ ap (λ j. stream.received + j) (sym count);
              brings = λ f. came mine (write_mine mine theirs side f) ∙ ap (λ j. items_in_memory stream.payload guests mine.guest mine.address j) (sym count);
            }))
            (ByGoing theirs p n (record {
              was = h.is;
              is = t.theirs_is;
              takes = taken-theirs side mine code;
              unreported = report-theirs side code;
              guest = refl;
              address = refl;
              moved = refl;
              left = omega arith;
              payload = t.payload;
              more = t.count ∙ more;
              brings = λ f. came theirs (write_theirs mine theirs side f);
            }));
        whole = subst (All IsSome) (sym got) arrives.whole;
        most = omega (arith, more, t.count);
        apart = apart_by side new (ap is_opened t.mine_is);
        tallies = Tallies-by side new (none_unmoved (end_of side new).operation t.mine_is) (subst IsUnmoved (sym t.theirs_is) (λ g. cc))
            (λ k. let f : stream.kind ≡ Future = sym t.kind ∙ k in
            let was = before.tallies.one f in
            PassesOne-by side new (none_one (end_of side new).operation t.mine_is)
            (subst AreOne (sym t.theirs_is) (one f))
            (none_fresh (end_of side new).operation new (ap is_opened t.mine_is)) (none_fresh (end_of (opposite side) new).operation new (ap is_opened t.theirs_is ∙ one_closed p (one f) refl))
            (rw t.pass (count_passed stream.received n new.received stream.passed stream.kind f (before.begins f).unpassed was.count (h.one f) (t.count ∙ more))));
      }

  carries : (theirs : Operation) (n : ℕ) (o : Option (List Guest)) → Moving side guests stream mine theirs n → Carries theirs n o → DoesTurn (moves side guests stream mine theirs n o)
  carries theirs n None h e = refl
  carries theirs n (Some after) h e = moved theirs n after h e

  -- one of the two has nothing left and completes alone
  alone : (who : Side) (theirs : Operation) → found ≡ Some theirs → (stream.kind ≡ Future → theirs.left ≡ 1) → (same_side who side ≡ true → mine.left ≡ 0) × (same_side who side ≡ false → theirs.left ≡ 0) → DoesTurn (completes_alone who side guests stream mine theirs)
  alone who theirs is left none =
      cond_both (same_side who side) _ _ DoesTurn
      (λ e. answered (completed_code stream.kind 0) stream (turned_not side stream None before.idle) (count_reported-completed stream.kind 0 (λ k. omega (arith, none.0 e, (before.begins k).left))) (report-completed stream.kind 0))
      (λ e. waits_met theirs is (none.1 e) left)

  meet : (theirs : Operation) → found ≡ Some theirs → IsPlaced (sizes_of guests) stream.payload theirs → theirs.is_open ≡ true → DoesTurn (rendezvous side guests stream mine theirs)
  meet theirs is held ready =
      let write = write_of side mine theirs in
      let read = read_of side mine theirs in
      let left : stream.kind ≡ Future → theirs.left ≡ 1 = λ k. (one_at found theirs is (one_on (opposite side) stream (before.tallies.one k))).ready ready in
      let P : Meeting → Type 0 = λ m. DoesTurn (rendezvous_by m side guests stream mine theirs) in
      cond_both (write.left == 0) _ _ P
      (λ e. alone Writing theirs is left (write_none mine theirs side (eqb-true write.left 0 e)))
      (λ e. cond_both (read.left == 0) _ _ P
      (λ f. alone Reading theirs is left (read_none mine theirs side (eqb-true read.left 0 f)))
      (λ f. carries theirs (min mine.left theirs.left) _ (record { is = is; held = held; fit = omega arith; fits = omega arith; ready = ready; one = λ k. omega (arith, (before.begins k).left, left k) }) refl))

  finds_does : (o : Option Operation) → found ≡ o → OperationIsPlaced (sizes_of guests) stream.payload o → DoesTurn (finds side guests stream mine o)
  finds_does None is held = waits_still (ap is_opened is)
  finds_does (Some theirs) is held =
      cond_both theirs.is_open _ _ DoesTurn
      (λ e. meet theirs is held e)
      (λ e. waits_still (ap is_opened is ∙ e))

  -- whichever of the two it is, where its end has no operation yet
  pub turn_does : OperationIsPlaced (sizes_of guests) stream.payload found → DoesTurn (operate side guests stream mine)
  unfolding operate
  turn_does held =
      let end = record (end_of side stream) { told = true } in
      cond_both (is_gone (end_of (opposite side) stream).owner) _ _ DoesTurn
      (λ e. answered (codes.Dropped 0) (with_end side stream end) (subst (λ o. IsTurned side stream (with_end side stream end) o found stream.passed stream.received) before.idle (turned_end side stream end)) (count_reported-dropped stream.kind) refl)
      (λ e. finds_does found refl held)
