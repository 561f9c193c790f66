-- Every part of a run keeps what is known of a future that guests write, and whose read end went to a host
-- reader; and it is so once the read end went there.
use Rattle.std.proofs.Common.{◌≡◌, ◌≢◌, ℕ, ◌<◌, Bool, true, false, cond, [], ◌∷◌, length, get_or, set, Option, Some, None, refl, sym, ap, subst, ◌∙◌, inl, inr, arith}
use Rattle.std.specs.Option.{option_map}
use Rattle.std.proofs.lemmas.Bool.{cases_eq, true≢false}
use Rattle.std.proofs.lemmas.List.{get_or-set_same, get_or-set_other, get_or_append_left, length-set}
use Rattle.strm_codes.specs.declared.codes.TransmitKind.TheVariants.{Future}
use Rattle.strm_machine.specs.State.{State, no_stream, no_consumer, stream_at, consumer_at, is_host, is_held, is_loose}
use Rattle.strm_machine.specs.Sides.{opposite, with_operation}
use Rattle.strm_machine.specs.Meetings.{begun}
use Rattle.strm_machine.specs.Endings.{delivered, dropped}
use Rattle.strm_machine.specs.Reactions.{reaction}
use Rattle.strm_machine.specs.Soundness.{is_opened}
use Rattle.strm_machine.specs.Tests.{named, stream_named, items_asked}
use Rattle.strm_machine.specs.declared.acts.Act.{Act}
use Rattle.strm_machine.specs.declared.acts.NamedEnd.{NamedEnd}
use Rattle.strm_machine.specs.declared.replies.Reply.{Reply}
use Rattle.strm_machine.specs.declared.streams.Consumer.{Consumer}
use Rattle.strm_machine.specs.declared.streams.Duty.TheVariants.{Serves}
use Rattle.strm_machine.specs.declared.streams.Operation.{Operation}
use Rattle.strm_machine.specs.declared.streams.Owner.TheVariants.{Held, Host}
use Rattle.strm_machine.specs.declared.streams.Side.{Side}
use Rattle.strm_machine.specs.declared.streams.Side.TheVariants.{Writing, Reading}
use Rattle.strm_machine.specs.declared.streams.Stream.{Stream}
use Rattle.strm_machine.proofs.EndLemmas.{Unchanged}
use Rattle.strm_machine.proofs.EndingLemmas.{IsToldOne, AreToldOne, one_as_told, told-becomes}
use Rattle.strm_machine.proofs.HostLemmas.{serving_known, no_host}
use Rattle.strm_machine.proofs.ShapeLemmas.{reaction-consumers}
use Rattle.strm_machine.proofs.StreamSteps.{reaction_streams}
use Rattle.strm_machine.proofs.TallyLemmas.{AreOne, PassesOne, begins_by}
use Rattle.strm_host_machine.specs.Attaching.{withdrawn, piped, without_ends, forsaken}
use Rattle.strm_host_machine.specs.HostRefusals.{is_used}
use Rattle.strm_host_laws.specs.HostMoments.{Part}
use Rattle.strm_host_laws.proofs.Effects.{opened_by, Driven, Calls, piped_in, Piped, ByStaying, ByGone, ByDry, piped_streams, Pipes, forsaken_by, Forsakes, Effect, ByReaction, ByRest, ByHosting, ByPiping, ByDriving, ByPassing, ByCalling, ByForsaking, Passes}
use Rattle.strm_host_laws.proofs.PartEffects.{passing_other}
use Rattle.strm_host_laws.proofs.FutureRead.{OpenOne, AreOpenOne, FutureRead, BeginsOne, FutureStep, Leaves, Opens, still_step, future_step, reaction_future, turned_future}
use Rattle.strm_host_laws.proofs.GuestsSeen.{IsGuests, turned_other}
use Rattle.strm_host_laws.proofs.HostTurns.{since_of, since_ended, Turned}
use Rattle.strm_host_laws.proofs.PartsSeen.{IsTaken}
use Rattle.strm_host_laws.proofs.TurnsStand.{Holds}
use Rattle.strm_host_laws.proofs.Standing.{call_begun, opened_owner, opened_operation}

-- ## What host readers took since, where another has its turn

-- host readers of two streams are two
two_readers : (state : State) (s t k n : ℕ) → Holds state → (stream_at state s).reader.owner ≡ Host k → (stream_at state t).reader.owner ≡ Host n → s ≢ t → k ≢ n
two_readers state s t k n h e f ne q =
    let a = (h.hosts.serve Reading k s).serves e in
    let b = (h.hosts.serve Reading n t).serves f in
    let same : Serves s ≡ Serves t = sym a ∙ ap (λ i. (consumer_at state i).duty) q ∙ b in
    ne (one same)
  where
    one : Serves s ≡ Serves t → s ≡ t
    one e = cc

known_reader : (state : State) (s n : ℕ) → Holds state → (stream_at state s).reader.owner ≡ Host n → n < length state.consumers
known_reader state s n h e = let l = serving_known state Reading n s h.hosts ((h.hosts.serve Reading n s).serves e) in let all = h.hosts.all_readers in omega (arith, l, all)

written_since : (old new : State) (t n : ℕ) (o : Operation) → Turned Writing old new t n o → (k : ℕ) → k ≢ n → since_of new k ≡ since_of old k
written_since old new t n o x k ne = ap (λ (y : State). since_of y k) x.is ∙ x.obeys.others k ne

read_since : (old new : State) (t n : ℕ) (o : Operation) → Turned Reading old new t n o → (k : ℕ) → since_of new k ≡ since_of old k
read_since old new t n o x k = ap (λ (y : State). since_of y k) x.is ∙ x.obeys k

piped_since : (old new : State) (t r : ℕ) → Piped old t r new → (k : ℕ) → k ≢ r → since_of new k ≡ since_of old k
piped_since old new t r p k ne =
    elim p [
      | ByStaying e ↦ ap (λ (y : State). since_of y k) e ∙ other
      | ByGone g e ↦ ap (λ (y : State). since_of y k) e ∙ since_ended Reading (piped_in old t r) r k ∙ other
      | ByDry n g e ↦ ap (λ (y : State). since_of y k) e ∙ since_ended Reading (piped_in old t r) r k ∙ other
    ]
  where
    other : since_of (piped_in old t r) k ≡ since_of old k
    other = ap (λ (c : Consumer). c.since) (get_or-set_other old.consumers r k (record no_consumer { duty = Serves t }) no_consumer ne)

-- the host reader of a pipe took nothing yet
new_since : (old new : State) (t r : ℕ) → r < length old.consumers → Piped old t r new → since_of new r ≡ 0
new_since old new t r known p =
    elim p [
      | ByStaying e ↦ ap (λ (y : State). since_of y r) e ∙ here
      | ByGone g e ↦ ap (λ (y : State). since_of y r) e ∙ since_ended Reading (piped_in old t r) r r ∙ here
      | ByDry n g e ↦ ap (λ (y : State). since_of y r) e ∙ since_ended Reading (piped_in old t r) r r ∙ here
    ]
  where
    here : since_of (piped_in old t r) r ≡ 0
    here = ap (λ (c : Consumer). c.since) (get_or-set_same old.consumers r (record no_consumer { duty = Serves t }) no_consumer known)

-- ## A part of a run

module _ (old new : State) (s : ℕ) (f : FutureRead old s) where
  -- the stream stays, and what its host reader took
  stays : stream_at new s ≡ stream_at old s → ((r : ℕ) → (stream_at old s).reader.owner ≡ Host r → since_of new r ≡ since_of old r) → FutureRead new s
  stays e since = future_step old new s (subst (FutureStep (stream_at old s)) (sym e) (still_step (stream_at old s))) since f

-- ## A write that is called

module _ (old new : State) (reply : Reply) (end : NamedEnd) (address count : ℕ) (h : Holds old) (c : Calls Writing old end address count reply new) where
  abbrev at : ℕ
  at = stream_named (named old end)

  abbrev write : Operation
  write = begun end.guest address (items_asked end.ty count)

  abbrev opened : State
  opened = opened_by Writing old at write

  module _ (k : IsTaken Reading old at) (future : (stream_at old at).kind ≡ Future) (f : FutureRead old at) where
    open_here : stream_at opened at ≡ with_operation Writing (stream_at old at) write
    open_here = get_or-set_same old.streams at (with_operation Writing (stream_at old at) write) no_stream k.made

    begins : BeginsOne write (stream_at old at).passed
    begins =
        let b = call_begun Writing old end address count h.sound c.unrefused in
        let one = begins_by Writing end.ty (stream_at old at) end.guest address count b.kind b.unended future in
        record { unmet = refl; moved = refl; left = one.left; unpassed = one.unpassed }

    first : FutureRead opened at
    first =
        future_step old opened at
        (subst (FutureStep (stream_at old at)) (sym open_here) (Opens write refl begins (record { passed = refl; count = refl; owner = λ r e. e })))
        (λ r e. refl) f

    -- before its report is told
    pub call_mid : FutureRead c.mid at
    call_mid =
        turned_future opened c.mid at c.host write c.turned
        (subst (λ n. at < n) (sym (length-set old.streams at (with_operation Writing (stream_at old at) write))) k.made)
        (known_reader old at c.host h c.owner) (opened_owner Writing old at write ∙ c.owner) (opened_operation Writing old at write k.made) refl (ap (λ (x : Stream). x.kind) open_here ∙ future) first

    told_step : (stream : Stream) → FutureStep stream (delivered Writing stream)
    unfolding delivered
    told_step stream = Leaves (told-becomes Writing stream).left (record { passed = refl; count = refl; owner = λ r e. e })

    call_future : at < length c.mid.streams → FutureRead new at
    call_future made =
        let here : stream_at new at ≡ delivered Writing (stream_at c.mid at) = ap (λ (x : State). stream_at x at) c.is ∙ get_or-set_same c.mid.streams at (delivered Writing (stream_at c.mid at)) no_stream made in
        future_step c.mid new at (subst (FutureStep (stream_at c.mid at)) (sym here) (told_step (stream_at c.mid at))) (λ r e. ap (λ (x : State). since_of x r) c.is) call_mid

-- ## Every part

module _ (old new : State) (reply : Reply) (s : ℕ) (h : Holds old) (k : IsTaken Reading old s) (future : (stream_at old s).kind ≡ Future) (f : FutureRead old s) where
  -- another stream has a turn for a write
  write_aside : (t n : ℕ) (o : Operation) → Turned Writing old new t n o → (stream_at old t).reader.owner ≡ Host n → s ≢ t → FutureRead new s
  write_aside t n o x own ne =
      stays old new s f (turned_other Writing old new s t n o x ne) (λ r e. written_since old new t n o x r (two_readers old s t r n h e own ne))

  driven_future : (side : Side) (t : ℕ) → Driven side old new t → FutureRead new s
  driven_future Reading t d =
      let ne : s ≢ t = λ q. let none : (stream_at old t).reader.operation ≡ None = ap (λ i. (stream_at old i).reader.operation) (sym q) ∙ k.idle in let wrong : Some d.operation ≡ None = sym d.waits ∙ none in cc in
      stays old new s f (turned_other Reading old new s t d.host d.operation d.turned ne) (λ r e. read_since old new t d.host d.operation d.turned r)
  driven_future Writing t d =
      elim (cases_eq t s) [
        | inl q ↦
            let here : Driven Writing old new s = subst (Driven Writing old new) q d in
            turned_future old new s here.host here.operation here.turned k.made (known_reader old s here.host h here.owner) here.owner here.waits here.open_ future f
        | inr ne ↦ write_aside t d.host d.operation d.turned d.owner (λ e. ne (sym e))
      ]

  -- a call on another stream
  call_aside : (side : Side) (end : NamedEnd) (address count : ℕ) → (c : Calls side old end address count reply new) → s ≢ stream_named (named old end)
      → ((r : ℕ) → (stream_at old s).reader.owner ≡ Host r → since_of c.mid r ≡ since_of old r) → FutureRead new s
  call_aside side end address count c ne since =
      let t = stream_named (named old end) in
      let operation = begun end.guest address (items_asked end.ty count) in
      let opened_state = opened_by side old t operation in
      let first : stream_at opened_state s ≡ stream_at old s = get_or-set_other old.streams t s (with_operation side (stream_at old t) operation) no_stream ne in
      let second = turned_other side opened_state c.mid s t c.host operation c.turned ne in
      let third : stream_at new s ≡ stream_at c.mid s = ap (λ (y : State). stream_at y s) c.is ∙ get_or-set_other c.mid.streams t s (delivered side (stream_at c.mid t)) no_stream ne in
      stays old new s f (third ∙ second ∙ first) (λ r e. ap (λ (y : State). since_of y r) c.is ∙ since r e)

  called_future : (side : Side) (end : NamedEnd) (address count : ℕ) → Calls side old end address count reply new → FutureRead new s
  called_future Reading end address count c =
      let t = stream_named (named old end) in
      let operation = begun end.guest address (items_asked end.ty count) in
      call_aside Reading end address count c
      (λ q.
      let own = h.held.agree.named end.guest end.handle t Reading (call_begun Reading old end address count h.sound c.unrefused).found.held in
      let wrong : is_held (Held end.guest end.handle) ≡ false = ap is_held (sym own) ∙ ap (λ i. is_held (stream_at old i).reader.owner) (sym q) ∙ k.unheld in
      true≢false wrong)
      (λ r e. read_since (opened_by Reading old t operation) c.mid t c.host operation c.turned r)
  called_future Writing end address count c =
      let t = stream_named (named old end) in
      let operation = begun end.guest address (items_asked end.ty count) in
      elim (cases_eq s t) [
        | inl q ↦
            let opened_state = opened_by Writing old t operation in
            let moved = length-set old.streams t (with_operation Writing (stream_at old t) operation) in
            let here : t < length old.streams = subst (λ i. i < length old.streams) q k.made in
            let mid : length c.mid.streams ≡ length opened_state.streams = ap (λ (y : State). length y.streams) c.turned.is ∙ length-set opened_state.streams t _ in
            subst (FutureRead new) (sym q)
            (call_future old new reply end address count h c (subst (IsTaken Reading old) q k) (ap (λ i. (stream_at old i).kind) (sym q) ∙ future) (subst (FutureRead old) q f) (omega (arith, here, mid, moved)))
        | inr ne ↦
            call_aside Writing end address count c ne
            (λ r e. written_since (opened_by Writing old t operation) c.mid t c.host operation c.turned r (two_readers old s t r c.host h e c.owner ne))
      ]

  -- another stream goes to a host reader
  piped_future : (t j : ℕ) → Pipes old t j reply new → FutureRead new s
  piped_future t j x =
      stays old new s f
      (elim (piped_streams old new t j x.ends) [
        | inl e ↦ ap (λ xs. get_or xs s no_stream) e ∙ get_or-set_other old.streams t s (piped (stream_at old t) j) no_stream ne
        | inr e ↦ ap (λ xs. get_or xs s no_stream) e ∙ get_or-set_other old.streams t s (without_ends (piped (stream_at old t) j)) no_stream ne
      ])
      (λ r e. piped_since old new t j x.ends r (other r e))
    where
      ne : s ≢ t
      ne q = true≢false (sym x.loose ∙ ap (λ i. is_loose (stream_at old i).reader.owner) (sym q) ∙ k.tied)

      other : (r : ℕ) → (stream_at old s).reader.owner ≡ Host r → r ≢ j
      other r e q =
          let serves : (consumer_at old r).duty ≡ Serves s = (h.hosts.serve Reading r s).serves e in
          let used : is_used (consumer_at old j).duty ≡ true = ap (λ i. is_used (consumer_at old i).duty) (sym q) ∙ ap is_used serves in
          true≢false (sym used ∙ x.unused)

  forsaken_step : (side : Side) (stream : Stream) → FutureStep stream (forsaken side (dropped side stream))
  unfolding dropped
  forsaken_step Writing stream = Leaves (Unchanged refl) (record { passed = refl; count = refl; owner = λ r e. cc })
  forsaken_step Reading stream = Leaves (Unchanged refl) (record { passed = refl; count = refl; owner = λ r e. cc })

  -- an end is dropped, and the host end across goes with it
  forsaken_future : (act : Act) → Forsakes old act reply new → FutureRead new s
  forsaken_future act x =
      let mid = (reaction old act).state in
      let now = forsaken x.side (stream_at mid x.stream) in
      let streams : new.streams ≡ set mid.streams x.stream now = ap (λ (y : State). y.streams) x.is ∙ by x.side mid x.stream x.host in
      let since : (r : ℕ) → (stream_at old s).reader.owner ≡ Host r → since_of new r ≡ since_of old r =
      λ r e. ap (λ (y : State). since_of y r) x.is ∙ since_ended (opposite x.side) mid x.host r ∙ ap (λ cs. (get_or cs r no_consumer).since) (reaction-consumers old act) in
      elim (cases_eq s x.stream) [
        | inl q ↦
            let many : s < length mid.streams = (omega (arith, k.made, (reaction_streams old act h.sound).many)) in
            let after : stream_at new s ≡ forsaken x.side (dropped x.side (stream_at old s)) =
            ap (λ xs. get_or xs s no_stream) streams
            ∙ ap (λ i. get_or (set mid.streams x.stream now) i no_stream) q
            ∙ get_or-set_same mid.streams x.stream now no_stream (subst (λ i. i < length mid.streams) q many)
            ∙ ap (forsaken x.side) (x.dropped_is ∙ ap (λ i. dropped x.side (stream_at old i)) (sym q)) in
            future_step old new s (subst (FutureStep (stream_at old s)) (sym after) (forsaken_step x.side (stream_at old s))) since f
        | inr ne ↦ stays old new s f (ap (λ xs. get_or xs s no_stream) streams ∙ get_or-set_other mid.streams x.stream s now no_stream ne ∙ x.others s ne) since
      ]
    where
      by : (side : Side) (y : State) (t n : ℕ) → (forsaken_by side y t n).streams ≡ set y.streams t (forsaken side (stream_at y t))
      by Writing y t n = refl
      by Reading y t n = refl

  -- a pipe is another stream
  passing_future : (t : ℕ) → is_host (stream_at old s).writer.owner ≡ false → Passes old new t → FutureRead new s
  passing_future t u x =
      let ne : s ≢ t = λ q. no_host (stream_at old s).writer.owner x.writer u (ap (λ i. (stream_at old i).writer.owner) q ∙ x.wrote) in
      stays old new s f (passing_other old new t x s ne) (λ r e. since r (two_readers old s t r x.reader h e x.read ne))
    where
      since : (r : ℕ) → r ≢ x.reader → since_of new r ≡ since_of old r
      since r ne =
          elim x.ends [
            | inl e ↦ ap (λ (y : State). since_of y r) e ∙ x.since r ne
            | inr e ↦ ap (λ (y : State). since_of y r) e ∙ since_ended Reading x.mid x.reader r ∙ x.since r ne
          ]

  pub effect_future : (part : Part) → is_host (stream_at old s).writer.owner ≡ false → Effect old part reply new → FutureRead new s
  effect_future part u (ByReaction act p i r e) = subst (λ x. FutureRead x s) (sym e) (reaction_future old s h.held k future act h f)
  effect_future part u (ByRest q e) = subst (λ x. FutureRead x s) (sym e) f
  effect_future part u (ByHosting n p x) =
      stays old new s f (ap (λ (y : State). stream_at y s) x.is ∙ get_or_append_left old.streams (x.stream ∷ []) no_stream s k.made) (λ r e. ap (λ (y : State). since_of y r) x.is)
  effect_future part u (ByPiping t j p x) = piped_future t j x
  effect_future part u (ByPassing t p done x) = passing_future t u x
  effect_future part u (ByDriving side t p done d) = driven_future side t d
  effect_future part u (ByCalling side end address count p c) = called_future side end address count c
  effect_future part u (ByForsaking act p x) = forsaken_future act x

-- ## The part in which it goes to a host reader

-- its write is withdrawn
withdrawn_told : (o : Option Operation) (passed : Bool) → AreOne o → AreToldOne (option_map withdrawn o) passed
withdrawn_told None passed h = tt
withdrawn_told (Some o) passed h = by o.is_open refl
  where
    by : (b : Bool) → o.is_open ≡ b → IsToldOne (withdrawn o) passed
    by true e = subst (λ b. IsToldOne (cond b (record o { met = false }) o) passed) (sym e) (record { done = λ f. cc; waiting = λ f p. let total = h.total in let ready = h.ready e in omega (arith, total, ready) })
    by false e = subst (λ b. IsToldOne (cond b (record o { met = false }) o) passed) (sym e) (one_as_told (Some o) passed h)

withdrawn_opened : (o : Option Operation) → is_opened (option_map withdrawn o) ≡ is_opened o
withdrawn_opened None = refl
withdrawn_opened (Some o) = by o.is_open refl
  where
    by : (b : Bool) → o.is_open ≡ b → (withdrawn o).is_open ≡ o.is_open
    by true e = ap (λ b. (cond b (record o { met = false }) o).is_open) e
    by false e = ap (λ b. (cond b (record o { met = false }) o).is_open) e

withdrawn_waits : (o : Option Operation) (passed : Bool) → AreOne o → (is_opened o ≡ true → passed ≡ false) → AreOpenOne (option_map withdrawn o) passed
withdrawn_waits None passed h fresh = tt
withdrawn_waits (Some o) passed h fresh = λ e. by (sym (withdrawn_opened (Some o)) ∙ e)
  where
    by : o.is_open ≡ true → OpenOne (withdrawn o) passed
    by e = subst (λ b. OpenOne (cond b (record o { met = false }) o) passed) (sym e) (record { unmet = refl; total = h.total; fresh = λ l. fresh e })

module _ (old new : State) (reply : Reply) (s r : ℕ) (h : Holds old) (g : IsGuests old s) (x : Pipes old s r reply new) (future : (stream_at old s).kind ≡ Future) where
  one : PassesOne (stream_at old s)
  one = g.tallies.one future

  -- whichever of its two streams it is then
  enters_as : (y : Stream) → new.streams ≡ set old.streams s y → y.writer.operation ≡ option_map withdrawn (stream_at old s).writer.operation → y.received ≡ (stream_at old s).received → y.passed ≡ (stream_at old s).passed → ((k : ℕ) → y.reader.owner ≡ Host k → k ≡ r) → FutureRead new s
  enters_as y e operation count passed owner =
      let after : stream_at new s ≡ y = ap (λ xs. get_or xs s no_stream) e ∙ get_or-set_same old.streams s y no_stream x.made in
      let o = (stream_at old s).writer.operation in
      let was = (stream_at old s).passed in
      let is : (stream_at new s).writer.operation ≡ option_map withdrawn o = ap (λ (z : Stream). z.writer.operation) after ∙ operation in
      let now : (stream_at new s).passed ≡ was = ap (λ (z : Stream). z.passed) after ∙ passed in
      let all = h.hosts.all_readers in
      let known = x.known in
      let none : since_of new r ≡ 0 = new_since old new s r (omega (arith, known, all)) x.ends in
      record {
        told = subst (λ q. AreToldOne q (stream_at new s).passed) (sym is) (subst (AreToldOne (option_map withdrawn o)) (sym now) (withdrawn_told o was one.writing));
        waits = subst (λ q. AreOpenOne q (stream_at new s).passed) (sym is) (subst (AreOpenOne (option_map withdrawn o)) (sym now) (withdrawn_waits o was one.writing (one.fresh Writing)));
        count = ap (λ (z : Stream). z.received) after ∙ count ∙ one.count ∙ ap (λ b. cond b 1 0) (sym now);
        since = λ k f.
            let who = owner k (sym (ap (λ (z : Stream). z.reader.owner) after) ∙ f) in
            record {
              first = λ p. ap (since_of new) who ∙ none;
              took = λ p q.
                  let open_before : is_opened o ≡ true = sym (ap is_opened is ∙ withdrawn_opened o) ∙ p in
                  absurd (true≢false (sym q ∙ now ∙ one.fresh Writing open_before));
            };
      }

  pub enters_future : FutureRead new s
  enters_future =
      elim (piped_streams old new s r x.ends) [
        | inl e ↦ enters_as (piped (stream_at old s) r) e refl refl refl (λ k f. same k f)
        | inr e ↦ enters_as (without_ends (piped (stream_at old s) r)) e refl refl refl (λ k f. cc)
      ]
    where
      same : (k : ℕ) → Host r ≡ Host k → k ≡ r
      same k e = cc
