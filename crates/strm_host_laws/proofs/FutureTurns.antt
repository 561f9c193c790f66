-- What is known of a future that a host writer writes is known after a turn for its read, after its round, and
-- after a read of it that is called.
use Rattle.std.proofs.Common.{◌≡◌, ℕ, ◌+◌, ◌<◌, ◌≤◌, ◌==◌, ◌||◌, Bool, true, false, cond, List, [], ◌∷◌, ◌++◌, length, get_or, Option, Some, None, refl, sym, ap, subst, ◌∙◌, ◌⊎◌, inl, inr, arith, length-append}
use Rattle.std.specs.Prelude.{if◌then◌else◌}
use Rattle.std.proofs.lemmas.Bool.{cases_lt, eq-eqb, ne_eqb, true≢false}
use Rattle.std.proofs.lemmas.List.{get_or-set_same}
use Rattle.strm_codes.specs.declared.codes.StreamResult.{StreamResult}
use Rattle.strm_codes.specs.declared.codes.TransmitKind.TheVariants.{Future}
use Rattle.strm_buffers.specs.Listing.{Item}
use Rattle.strm_machine.specs.State.{no_consumer, kept_at, consumer_at, is_host, is_loose}
use Rattle.strm_machine.specs.Sides.{end_of, with_operation}
use Rattle.strm_machine.specs.Endings.{delivered}
use Rattle.strm_machine.specs.Operating.{is_future, with_received}
use Rattle.strm_machine.specs.declared.acts.NamedEnd.{NamedEnd}
use Rattle.strm_machine.specs.declared.streams.Consumer.{Consumer}
use Rattle.strm_machine.specs.declared.streams.End.{End}
use Rattle.strm_machine.specs.declared.streams.Operation.{Operation}
use Rattle.strm_machine.specs.declared.streams.Owner.TheVariants.{Held, Host, Gone}
use Rattle.strm_machine.specs.declared.streams.Side.TheVariants.{Reading}
use Rattle.strm_machine.specs.declared.streams.Stream.{Stream}
use Rattle.strm_machine.proofs.HostLemmas.{no_host, serving_known}
use Rattle.strm_machine.proofs.TallyLemmas.{begins_by}
use Rattle.strm_machine.specs.Moments.{received}
use Rattle.strm_machine.specs.declared.replies.Reply.TheVariants as replies
use Rattle.strm_machine.proofs.EndingLemmas.{told-becomes}
use Rattle.strm_host_machine.specs.Attaching.{without_ends}
use Rattle.strm_host_machine.specs.Ends.{Writer}
use Rattle.strm_host_machine.specs.Piping.{both_gone}
use Rattle.strm_host_machine.specs.Settling.{went, operation_settled, with_some_received}
use Rattle.strm_host_machine.specs.World.{World, stream_in, writer_at, held_of, with_stream_in}
use Rattle.strm_host_laws.specs.HostMoments.{Part}
use Rattle.strm_host_laws.specs.HostLaws.{items_of_records}
use Rattle.strm_host_laws.proofs.Forms.{opened, called, stream_of, IsRound, IsCall}
use Rattle.strm_host_laws.proofs.HostsAgree.{no_two}
use Rattle.strm_host_laws.proofs.KeptItems.{turned_kept}
use Rattle.strm_host_laws.proofs.Lives.{Lives, owned_made, opened_here, read_can, mid_made}
use Rattle.strm_host_laws.proofs.Rounds.{Passed}
use Rattle.strm_host_laws.proofs.TurnsStand.{Holds, nothing_kept}
use Rattle.strm_host_laws.proofs.Touched.{told_stream}
use Rattle.strm_host_laws.proofs.TurnMoves.{Moves, moved_on-moves}
use Rattle.strm_host_laws.proofs.Turned.{stream_moved, Turned}
use Rattle.strm_host_laws.proofs.WrittenBack.{back-kept, back-here, back-length, back-stays, back-received, CanTurn, turned-here, turned-ends, mid_end, round_keeps, round_ends}
use Rattle.strm_host_laws.proofs.FutureKept.{IsReadOne, ReadsOne, ReadStep, Leaves, Opens, RestsOn, OneWritten, one_step, back-resting, passed_resting}

-- ## A turn for its read, its round, and a read that is called

-- what comes of a moment: one item at most was received, and the future is as it was known where its writer stays
pub record Onward (v : World) (s n : ℕ) : Type 0 where
  pub most : received s v.state ≤ 1
  pub one : (stream_in v s).writer.owner ≡ Host n → OneWritten v s n

-- so many items more were received on a stream
abbrev GotMore : Stream → Stream → ℕ → Type 0
GotMore old new m = (new.received ≡ cond (m == 0) old.received (with_received old m).received) × (new.passed ≡ cond (m == 0) old.passed (with_received old m).passed)

-- its value was received where it passed, which it did where there were items
abbrev IsValue : Stream → ℕ → Type 0
IsValue new m = (new.received ≡ (if new.passed then 1 else 0)) × ((new.passed ≡ false → m ≡ 0) × (m ≡ 0 → new.passed ≡ false))

-- of a future that has not passed the first of these items is the value
value_one : (old new : Stream) (m : ℕ) → old.kind ≡ Future → old.passed ≡ false → old.received ≡ 0 → m ≤ 1 → GotMore old new m → IsValue new m
value_one old new m k fresh none few more = by (cases_lt 0 m)
  where
    was : (b : Bool) → (b || is_future old.kind) ≡ true
    was true = refl
    was false = ap is_future k

    by : (0 < m) ⊎ (m ≤ 0) → IsValue new m
    by (inl l) =
        let some : (m == 0) ≡ false = ne_eqb m 0 (λ e. omega (arith, e, l)) in
        let now : new.passed ≡ true = more.1 ∙ ap (λ b. cond b old.passed (with_received old m).passed) some ∙ was old.passed in
        let one : (with_received old m).received ≡ 1 = omega (arith, none, few, l) in (
          more.0 ∙ ap (λ b. cond b old.received (with_received old m).received) some ∙ one ∙ ap (λ p. if p then 1 else 0) (sym now),
          ((λ e. absurd (true≢false (sym now ∙ e))), (λ e. absurd (omega (arith, e, l)))),
        )
    by (inr l) =
        let zero_is : (m == 0) ≡ true = eq-eqb m 0 (omega (arith, l)) in
        let now : new.passed ≡ false = more.1 ∙ ap (λ b. cond b old.passed (with_received old m).passed) zero_is ∙ fresh in (
          more.0 ∙ ap (λ b. cond b old.received (with_received old m).received) zero_is ∙ none ∙ ap (λ p. if p then 1 else 0) (sym now),
          ((λ e. omega (arith, l)), (λ e. now)),
        )

value_most : (a : ℕ) (b : Bool) → a ≡ (if b then 1 else 0) → a ≤ 1
value_most a true e = omega (arith, e)
value_most a false e = omega (arith, e)

-- no value has passed of a future of which none was received
unpassed_none : (w : World) (s n : ℕ) → OneWritten w s n → (stream_in w s).passed ≡ false → (stream_in w s).received ≡ 0
unpassed_none w s n h e = h.count ∙ ap (λ p. if p then 1 else 0) e

-- a guest has the read end, and waits there
pub record GuestReads (w : World) (s n : ℕ) (read : Operation) : Type 0 where
  pub waits : (stream_in w s).reader.operation ≡ Some read
  pub open_ : read.is_open ≡ true
  pub tied : is_loose (stream_in w s).reader.owner ≡ false
  pub unread : is_host (stream_in w s).reader.owner ≡ false
  pub none : kept_at w.state n ≡ []

module _ (x : World) (s n : ℕ) (read : Operation) (y : World) (t : Turned x s n read y) (c : CanTurn x s n read) (h : OneWritten x s n) (g : GuestReads x s n read) (future : (stream_in x s).kind ≡ Future) (none_after : kept_at y.state n ≡ []) where
  abbrev m : ℕ
  m = length t.items

  abbrev now : Stream
  now = stream_moved x s read t.items t.result

  here : stream_in y s ≡ now
  here = turned-here x s n read y t c

  moves : Moves Reading (stream_in x s) now read m t.result
  moves = moved_on-moves (stream_in x s) read m Reading t.result

  asks : IsReadOne read (stream_in x s).passed
  asks = subst (λ q. ReadsOne q (stream_in x s).passed) g.waits h.reads g.open_

  -- what is held is one item at most, before and after
  few : m + length t.writer.holds ≤ 1
  few = t.one future (subst (λ ks. length (ks ++ (writer_at x n).holds) ≤ 1) g.none (h.held asks.fresh))

  value : IsValue (stream_in y s) m
  value =
      value_one (stream_in x s) (stream_in y s) m future asks.fresh (unpassed_none x s n h asks.fresh) (let all = few in omega (arith, all))
      (ap (λ (z : Stream). z.received) here ∙ moves.count, ap (λ (z : Stream). z.passed) here ∙ moves.passed)

  reader_owner : (stream_in y s).reader.owner ≡ (stream_in x s).reader.owner
  reader_owner = ap (λ (z : Stream). z.reader.owner) here ∙ ap (λ (e : End). e.owner) moves.mine

  -- a read that is open yet got none
  open_yet : (result : Option StreamResult) → t.result ≡ result → ReadsOne (Some (operation_settled result (went (stream_in x s).payload read m))) (stream_in y s).passed
  open_yet None e = λ f. (
      let none : m ≡ 0 = ap length (t.none e) in
      let left = asks.left in
      record { left = omega (arith, left); fresh = value.1.1 none })
  open_yet (Some result) e = λ f. cc

  pub turn_onward : Onward y s n
  turn_onward = record {
    most = value_most (received s y.state) (stream_in y s).passed value.0;
    one = λ own. record {
      count = value.0;
      held = λ e. elim (turned-ends x s n read y t c) [
        | inl gone ↦ absurd (let wrong : Gone ≡ Host n = sym gone ∙ own in cc)
        | inr stays ↦ (
            let held : held_of y n ≡ t.writer.holds = ap (λ ks. ks ++ (writer_at y n).holds) none_after ∙ stays.1 in
            let all = few in
            subst (λ xs. length xs ≤ 1) (sym held) (omega (arith, all)))
      ];
      loose = λ k. absurd (true≢false (sym (ap is_loose (sym reader_owner) ∙ k) ∙ g.tied));
      reads =
          subst (λ q. ReadsOne q (stream_in y s).passed) (sym (ap (λ (z : Stream). z.reader.operation) here ∙ ap (λ (e : End). e.operation) moves.mine))
          (open_yet t.result refl);
      rests = λ r o p. absurd (no_host (stream_in x s).reader.owner r g.unread (sym reader_owner ∙ o));
    };
  }

-- its round
module _ (w : World) (part : Part) (s n r : ℕ) (v : World) (i : IsRound w part v s n r) (holds : Holds w.state) (h : OneWritten w s n) (future : (stream_in w s).kind ≡ Future) where
  abbrev p : Passed w s n r v
  p = i.passed

  round_made : s < length w.state.streams
  round_made = owned_made w.state s n holds i.wrote

  -- what was held and fetched is one item at most, and none where the value passed
  round_few : (b : Bool) → (stream_in w s).passed ≡ b → length p.items + length (held_of p.but n) ≤ (if b then 0 else 1)
  round_few b e =
      let all = ap length p.balance in
      let left = length-append (held_of w n) (items_of_records p.said) in
      let right = length-append p.items (held_of p.but n) in
      by b e (length (held_of w n)) (length (items_of_records p.said)) refl refl (omega (arith, all, left, right))
    where
      by : (b : Bool) → (stream_in w s).passed ≡ b → (a c : ℕ) → length (held_of w n) ≡ a → length (items_of_records p.said) ≡ c → length p.items + length (held_of p.but n) ≡ a + c → length p.items + length (held_of p.but n) ≤ (if b then 0 else 1)
      by false e a c f g sum =
          let held = h.held e in
          elim p.wants.none [
            | inl none ↦ (let zero_said = ap (λ xs. length (items_of_records xs)) none in omega (arith, held, f, g, sum, zero_said))
            | inr q ↦ (let one = p.wants.one future in let none = ap length q.0 in omega (arith, one, f, g, sum, none))
          ]
      by true e a c f g sum =
          let rests = h.rests r i.read e in
          elim p.wants.none [
            | inl none ↦ (let zero_said = ap (λ xs. length (items_of_records xs)) none in let zero_held = ap length rests.none in omega (arith, f, g, sum, zero_said, zero_held))
            | inr q ↦ absurd (true≢false (sym rests.resting ∙ q.1))
          ]

  abbrev taken_count : ℕ
  taken_count = p.count

  received_then : (stream_in v s).received ≡ cond (taken_count == 0) (stream_in w s).received (with_received (stream_in w s) taken_count).received
  received_then = round_keeps w s n r v p (λ x. x.received) (λ x. refl) round_made ∙ some_field (λ x. x.received)
    where
      some_field : {A : Type 0} (f : Stream → A) → f (with_some_received (stream_in w s) taken_count) ≡ cond (taken_count == 0) (f (stream_in w s)) (f (with_received (stream_in w s) taken_count))
      some_field f = by (taken_count == 0)
        where
          by : (b : Bool) → f (cond b (stream_in w s) (with_received (stream_in w s) taken_count)) ≡ cond b (f (stream_in w s)) (f (with_received (stream_in w s) taken_count))
          by true = refl
          by false = refl

  passed_then : (stream_in v s).passed ≡ cond (taken_count == 0) (stream_in w s).passed (with_received (stream_in w s) taken_count).passed
  passed_then = round_keeps w s n r v p (λ x. x.passed) (λ x. refl) round_made ∙ by (taken_count == 0)
    where
      by : (b : Bool) → (cond b (stream_in w s) (with_received (stream_in w s) taken_count)).passed ≡ cond b (stream_in w s).passed (with_received (stream_in w s) taken_count).passed
      by true = refl
      by false = refl

  -- the value, and whether it passed in this round
  record RoundValue : Type 0 where
    value : (stream_in v s).received ≡ (if (stream_in v s).passed then 1 else 0)
    held : (stream_in v s).passed ≡ false → length (held_of p.but n) ≤ 1
    none : (stream_in v s).passed ≡ true → held_of p.but n ≡ []
    before : (stream_in v s).passed ≡ true → (taken_count ≡ 0) → (stream_in w s).passed ≡ true

  no_items : (xs : List Item) → length xs ≡ 0 → xs ≡ []
  no_items [] e = refl
  no_items (x ∷ xs) e = absurd (omega (arith, e))

  round_value : (b : Bool) → (stream_in w s).passed ≡ b → RoundValue
  round_value false e =
      let few = round_few false e in
      let long = p.long in
      let k = value_one (stream_in w s) (stream_in v s) taken_count future e (unpassed_none w s n h e) (omega (arith, few, long)) (received_then, passed_then) in
      record {
        value = k.0;
        held = λ f. omega (arith, few);
        none = λ f. no_items (held_of p.but n) (some_taken few long (λ g. true≢false (sym f ∙ k.1.1 g)));
        before = λ f g. absurd (true≢false (sym f ∙ k.1.1 g));
      }
    where
      some_taken : length p.items + length (held_of p.but n) ≤ 1 → length p.items ≡ taken_count → (taken_count ≡ 0 → ⊥) → length (held_of p.but n) ≡ 0
      some_taken few long some = elim (cases_lt 0 taken_count) [
        | inl l ↦ omega (arith, few, long, l)
        | inr l ↦ absurd (some (omega (arith, l)))
      ]
  round_value true e =
      let few = round_few true e in
      let long = p.long in
      let none : (taken_count == 0) ≡ true = eq-eqb taken_count 0 (omega (arith, few, long)) in
      let same : (stream_in v s).passed ≡ (stream_in w s).passed = passed_then ∙ ap (λ b. cond b (stream_in w s).passed (with_received (stream_in w s) taken_count).passed) none in
      record {
        value = received_then ∙ ap (λ b. cond b (stream_in w s).received (with_received (stream_in w s) taken_count).received) none ∙ h.count ∙ ap (λ q. if q then 1 else 0) (sym same);
        held = λ f. omega (arith, few);
        none = λ f. no_items (held_of p.but n) (omega (arith, few));
        before = λ f g. e;
      }

  -- where its writer stays, both ends do
  stays_mid : (stream_in v s).writer.owner ≡ Host n → (v ≡ both_gone p.mid s n) → ⊥
  stays_mid own e =
      let gone : (stream_in v s).writer.owner ≡ Gone = ap (λ x. (stream_in x s).writer.owner) e ∙ ap (λ (x : Stream). x.writer.owner) (back-here p.mid s (without_ends (stream_in p.mid s)) mid_made) in
      let wrong : Gone ≡ Host n = sym gone ∙ own in
      cc
    where
      mid_made : s < length p.mid.state.streams
      mid_made =
          let first = ap (λ (x : World). length x.state.streams) p.mid_is ∙ back-length p.but s (with_some_received (stream_in w s) taken_count) ∙ ap (λ (x : World). length x.state.streams) p.but_is in
          let there = round_made in
          omega (arith, first, there)

  reader_then : (v ≡ p.mid) → end_of Reading (stream_in v s) ≡ end_of Reading (stream_in w s)
  reader_then e = ap (λ x. end_of Reading (stream_in x s)) e ∙ mid_end w s n r v p Reading

  resting_then : (consumer_at v.state r).resting ≡ p.consumer.resting
  resting_then =
      let known = serving_known w.state Reading r s holds.hosts ((holds.hosts.serve Reading r s).serves i.read) in
      let all = holds.hosts.all_readers in
      passed_resting w v s n r p r
      ∙ ap (λ (y : World). (consumer_at y.state r).resting) p.but_is
      ∙ ap (λ (c : Consumer). c.resting) (get_or-set_same w.state.consumers r p.consumer no_consumer (omega (arith, known, all)))

  -- the reader waits where the value passed and it is not done
  waits_then : (stream_in v s).writer.owner ≡ Host n → (stream_in v s).passed ≡ true → RoundValue → p.consumer.resting ≡ true
  waits_then own f k =
      elim (p.stays future) [
        | inl e ↦ absurd (stays_mid own e)
        | inr q ↦ elim q [
          | inl rest ↦ rest
          | inr none ↦ absurd (true≢false (sym (h.rests r i.read (k.before f none.0)).resting ∙ none.1))
        ]
      ]

  stays_so : (stream_in v s).writer.owner ≡ Host n → RoundValue → (v ≡ p.mid) → OneWritten v s n
  stays_so own k e =
      let reader = reader_then e in
      let held : held_of v n ≡ held_of p.but n = elim (round_ends w s n r v p i.wrote round_made) [
        | inl gone ↦ absurd (let wrong : Gone ≡ Host n = sym gone ∙ own in cc)
        | inr there ↦ there.1
      ] in
      record {
        count = k.value;
        held = λ f. subst (λ xs. length xs ≤ 1) (sym held) (k.held f);
        loose = λ x. absurd (let wrong : is_loose (Host r) ≡ true = ap is_loose (sym i.read) ∙ ap (λ (z : End). is_loose z.owner) (sym reader) ∙ x in cc);
        reads = subst (λ q. ReadsOne q (stream_in v s).passed) (sym (ap (λ (z : End). z.operation) reader ∙ (holds.hosts.serve Reading r s).idle i.read)) tt;
        rests = λ j o f.
            let who : j ≡ r = no_two j r (sym o ∙ ap (λ (z : End). z.owner) reader ∙ i.read) in
            subst (λ a. RestsOn v n a) (sym who) (record { resting = resting_then ∙ waits_then own f k; none = held ∙ k.none f });
      }

  pub round_onward : Onward v s n
  round_onward =
      let k = round_value (stream_in w s).passed refl in
      record {
        most = value_most (received s v.state) (stream_in v s).passed k.value;
        one = λ own. elim p.ends [
          | inl e ↦ stays_so own k e
          | inr e ↦ absurd (stays_mid own e)
        ];
      }

-- a read that is called
module _ (first w : World) (n : ℕ) (l : Lives first w) (part : Part) (v : World) (end : NamedEnd) (address count : ℕ) (c : IsCall Reading w part v end address count n) (future : (stream_in w (stream_of w end)).kind ≡ Future) (h : OneWritten w (stream_of w end) n) where
  abbrev at : ℕ
  at = stream_of w end

  abbrev read : Operation
  read = called end address count

  abbrev open_stream : Stream
  open_stream = with_operation Reading (stream_in w at) read

  abbrev o : World
  o = opened Reading w at read

  open_here : stream_in o at ≡ open_stream
  open_here = opened_here first w part v end address count n l c

  own : (stream_in w at).reader.owner ≡ Held end.guest end.handle
  own = l.holds.held.agree.named end.guest end.handle at Reading c.begun.found.held

  none : kept_at w.state n ≡ []
  none = nothing_kept w.state at n l.holds.hosts c.owner (ap is_host own)

  open_kept : kept_at o.state n ≡ []
  open_kept = ap (λ ks. get_or ks n []) (back-kept w at open_stream) ∙ none

  open_held : held_of o n ≡ held_of w n
  open_held = ap (λ ks. get_or ks n [] ++ (writer_at o n).holds) (back-kept w at open_stream) ∙ ap (λ (x : Writer). kept_at w.state n ++ x.holds) (back-stays w at open_stream refl n)

  opens_step : ReadStep (stream_in w at) (stream_in o at)
  opens_step =
      let b = begins_by Reading end.ty (stream_in w at) end.guest address count c.begun.kind c.begun.unended future in
      let left = b.left in
      subst (ReadStep (stream_in w at)) (sym open_here)
      (Opens read refl (omega (arith, left)) b.unpassed (record { passed = refl; count = refl; loose = λ k. inl k; owner = λ r e. inl e }))

  open_one : OneWritten o at n
  open_one = one_step w o at n opens_step open_held (λ r f. back-resting w at open_stream r) h

  mid_kept : kept_at c.mid.state n ≡ []
  mid_kept = ap (λ ks. get_or ks n []) (turned_kept w part (replies.Done) v Reading o c.mid at n read c.turned) ∙ open_kept

  mid_onward : Onward c.mid at n
  mid_onward =
      turn_onward o at n read c.mid c.turned (read_can first w part v end address count n l c) open_one
      (record {
        waits = ap (λ (x : Stream). x.reader.operation) open_here;
        open_ = refl;
        tied = ap (λ (x : Stream). is_loose x.reader.owner) open_here ∙ ap is_loose own;
        unread = ap (λ (x : Stream). is_host x.reader.owner) open_here ∙ ap is_host own;
        none = open_kept;
      })
      (ap (λ (x : Stream). x.kind) open_here ∙ future) mid_kept

  told_step : (stream : Stream) → ReadStep stream (delivered Reading stream)
  unfolding delivered
  told_step stream = Leaves (told-becomes Reading stream).left (record { passed = refl; count = refl; loose = λ k. inl k; owner = λ r e. inl e })

  -- its report is told
  told_onward : Onward (with_stream_in c.mid at (delivered Reading (stream_in c.mid at))) at n
  told_onward =
      let stream = stream_in c.mid at in
      let told = delivered Reading stream in
      let u = with_stream_in c.mid at told in
      let same = told_stream Reading stream in
      let made : at < length c.mid.state.streams = mid_made first w part v end address count n l c in
      let here : stream_in u at ≡ told = back-here c.mid at told made in
      let m = mid_onward in
      let count = back-received c.mid at told same.received at in
      let most = m.most in
      record {
        most = omega (arith, count, most);
        one = λ e.
            one_step c.mid u at n (subst (ReadStep stream) (sym here) (told_step stream))
            (ap (λ ks. get_or ks n [] ++ (writer_at u n).holds) (back-kept c.mid at told) ∙ ap (λ (x : Writer). kept_at c.mid.state n ++ x.holds) (back-stays c.mid at told same.writer n))
            (λ r f. back-resting c.mid at told r)
            (m.one (sym same.writer ∙ ap (λ (x : Stream). x.writer.owner) (sym here) ∙ e));
      }

  pub call_onward : Onward v at n
  call_onward =
      elim c.told [
        | inl e ↦ subst (λ x. Onward x at n) (sym e) mid_onward
        | inr e ↦ subst (λ x. Onward x at n) (sym e) told_onward
      ]
