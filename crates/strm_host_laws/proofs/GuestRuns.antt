-- Every run with host ends: what its states keep of each stream, and the account of each of which no host end
-- had an end.
use Rattle.std.proofs.Common.{◌≡◌, ℕ, ◌+◌, ◌*◌, ◌^◌, ◌<◌, ◌≤◌, ◌||◌, ◌&&◌, Bool, true, false, List, [], ◌∷◌, ◌++◌, length, None, refl, sym, ap, subst, ◌∙◌, arith, append-nil, append_assoc}
use Rattle.std.specs.Prelude.{All, IsSome, if◌then◌else◌}
use Rattle.std.proofs.lemmas.Bool.{or_parts, and_right, true≢false}
use Rattle.std.proofs.lemmas.List.Elements.{All-nil, All-append}
use Rattle.strm_codes.specs.declared.codes.TransmitKind.TheVariants.{Future}
use Rattle.strm_machine.specs.Moments.{received, got_in}
use Rattle.strm_machine.specs.State.{State, empty, stream_at, is_host, is_gone}
use Rattle.strm_machine.specs.Sides.{end_of}
use Rattle.strm_machine.specs.Soundness.{AreUnmoved, IsUnmoved, is_opened, both_open}
use Rattle.strm_machine.specs.declared.limits.Limits.{Limits}
use Rattle.strm_machine.specs.declared.steps.Step.{Step}
use Rattle.strm_machine.specs.declared.streams.Side.{Side}
use Rattle.strm_machine.specs.declared.streams.Side.TheVariants.{Writing, Reading}
use Rattle.strm_machine.specs.declared.streams.Stream.{Stream}
use Rattle.strm_machine.proofs.ArrivalLemmas.{AreBytes}
use Rattle.strm_machine.proofs.TallyLemmas.{received_one}
use Rattle.strm_buffers.specs.Tells.{Tells}
use Rattle.strm_host_machine.specs.World.{World, stream_in}
use Rattle.strm_host_machine.specs.Does.{start_world}
use Rattle.strm_laws.specs.Conservation.{calls, writes, got, all_reported}
use Rattle.strm_laws.specs.Laws.{AreSteps, total_of_calls, waiting, moved_at, Conserves, Stands}
use Rattle.strm_laws.proofs.Calls.{got-push}
use Rattle.strm_laws.proofs.Handed.{length-all_handed}
use Rattle.strm_laws.proofs.Kept.{kind_at}
use Rattle.strm_laws.proofs.Conserved.{Kept-empty}
use Rattle.strm_host_laws.specs.HostMoments.{Part, Acts, Turns, HostMoment, first_moments, end_world}
use Rattle.strm_host_laws.specs.HostLaws.{plain, plains, is_made_by, is_hosted, is_piped_in, was_piped, host_taken_in, all_taken, host_got_in, host_got, ConservesAmong, MovesByHosts}
use Rattle.strm_host_laws.proofs.Chains.{Chain, first-chain}
use Rattle.strm_host_laws.proofs.StepsLeft.{left_after, Pays, Costs, first_cost}
use Rattle.strm_host_laws.proofs.Effects.{Effect}
use Rattle.strm_host_laws.proofs.PartEffects.{follows_effect}
use Rattle.strm_host_laws.proofs.TurnsStand.{Holds}
use Rattle.strm_host_laws.proofs.Standing.{Holds-effect, Holds-empty}
use Rattle.strm_host_laws.proofs.PartsSeen.{IsTaken, effect_taken}
use Rattle.strm_host_laws.proofs.HostCounts.{NoPipe, effect_kind}
use Rattle.strm_machine.proofs.HostLemmas.{no_host}
use Rattle.strm_host_laws.proofs.GuestsSeen.{IsGuests, SeenIn, guests_after, effect_in, effect_makes, effect_pipes, PutsPart, effect_bytes}
use Rattle.strm_host_laws.proofs.Moments.{got_unread}
use Rattle.strm_host_laws.proofs.Rooms.{has_room, room_next}
use Rattle.strm_host_laws.proofs.FutureRead.{FutureRead}
use Rattle.strm_host_laws.proofs.FuturesSeen.{effect_future, enters_future}
use Rattle.strm_host_laws.proofs.ReadSeen.{entering, effect_read, effect_enters, effect_unread}
use Rattle.strm_host_laws.proofs.ReadStepSeen.{IsRead, ReadIn}
use Rattle.strm_host_laws.proofs.TakenItems.{run_items}
use Rattle.strm_host_laws.proofs.HostAccounts.{is_hosted-push, was_piped-push, plains-push, host_got-push, all_taken-push, all_front, all_back, taken_unread, HostAccount, account_guests, whole_read, account_writing, account_reading}

-- ## What holds of a run so far

-- no host end had an end of stream s in these moments
pub record IsUnhosted (s : ℕ) (all : List HostMoment) : Type 0 where
  pub unmade : is_hosted s all ≡ false
  pub unpiped : was_piped s all ≡ false

-- of stream s after these moments, with so many steps to come
pub record RunKeeps (s : ℕ) (all : List HostMoment) (state : State) (n : ℕ) : Type 0 where
  pub holds : Holds state
  pub bytes : AreBytes state.guests
  pub room : is_hosted s all ≡ false → received s state + 2 ^ 28 * n < 2 ^ 128
  pub hosted : is_hosted s all ≡ true → IsTaken Writing state s
  pub piped : was_piped s all ≡ true → IsTaken Reading state s
  pub guests : IsUnhosted s all → IsGuests state s
  pub read : is_hosted s all ≡ false → was_piped s all ≡ true → IsRead state s
  pub accounts : is_hosted s all ≡ false → (side : Side) → HostAccount s side all state
  pub whole : is_hosted s all ≡ false → All IsSome (all_taken s all) → All IsSome (host_got s all)
  pub same : IsUnhosted s all → host_got s all ≡ got s (plains all)
  pub untaken : IsUnhosted s all → all_taken s all ≡ []

module _ (s : ℕ) (all : List HostMoment) (m : HostMoment) (n : ℕ) (pays : Pays s m.part n) (k : RunKeeps s all m.before.state n) (effect : Effect m.before.state m.part m.reply m.after.state) where
  abbrev old : State
  old = m.before.state

  abbrev new : State
  new = m.after.state

  puts : (part : Part) → Pays s part n → PutsPart part
  puts (Acts act) p = p.1
  puts (Turns j) p = tt

  hosted_next : (b : Bool) → is_hosted s all ≡ b → (b || is_made_by s m.part m.reply) ≡ true → IsTaken Writing new s
  hosted_next true e f = effect_taken Writing old new m.part m.reply s k.holds effect (k.hosted e)
  hosted_next false e f = effect_makes old new m.part m.reply s effect f

  piped_next : (b : Bool) → was_piped s all ≡ b → (b || is_piped_in s m.part m.reply) ≡ true → IsTaken Reading new s
  piped_next true e f = effect_taken Reading old new m.part m.reply s k.holds effect (k.piped e)
  piped_next false e f = effect_pipes old new m.part m.reply s k.holds effect f

  piped_now : was_piped s (all ++ m ∷ []) ≡ true → IsTaken Reading new s
  piped_now e = piped_next (was_piped s all) refl (sym (was_piped-push s all m) ∙ e)

  unmade_before : is_hosted s (all ++ m ∷ []) ≡ false → (is_hosted s all ≡ false) × (is_made_by s m.part m.reply ≡ false)
  unmade_before u = or_parts (is_hosted s all) (is_made_by s m.part m.reply) (sym (is_hosted-push s all m) ∙ u)

  -- no host end has it before or in this moment
  module _ (unmade : is_hosted s (all ++ m ∷ []) ≡ false) (unpiped : was_piped s all ≡ false) where
    aside : IsUnhosted s all
    aside = record { unmade = (unmade_before unmade).0; unpiped = unpiped }

    unreads : is_host (stream_in m.before s).reader.owner ≡ false
    unreads = (k.guests aside).unhosted Reading

    module _ (unpiped_now : is_piped_in s m.part m.reply ≡ false) where
      seen : SeenIn old m.part m.reply new s
      seen =
          effect_in old new m.reply s k.holds k.bytes (k.guests aside) m.part (unmade_before unmade).1 unpiped_now
          (λ act e. let paid : Pays s (Acts act) n = subst (λ p. Pays s p n) e pays in omega (arith, paid.0, k.room aside.unmade)) effect

      guests_account : (side : Side) → HostAccount s side (all ++ m ∷ []) new
      guests_account side = account_guests s side all m seen.made (λ l. seen.unmade l side) unreads (seen.seen.change side) (k.accounts aside.unmade side)

      guests_got : host_got_in s m ≡ got_in s (plain m)
      guests_got = got_unread s m (stream_in m.before s).reader.owner unreads

      guests_whole : All IsSome (host_got_in s m)
      guests_whole = subst (All IsSome) (sym guests_got) seen.seen.whole

  -- a host end has its read end, or gets it
  module _ (unhosted_before : is_hosted s all ≡ false) (taken : IsTaken Reading new s) (was : (stream_at old s).reader.operation ≡ None) (there : s < length old.streams) (unhosted : is_host (stream_in m.before s).writer.owner ≡ false) (x : ReadIn old m.part m.reply new s) where
    read_account : (side : Side) → HostAccount s side (all ++ m ∷ []) new
    read_account Writing = account_writing s m unhosted x all there taken.made (k.accounts unhosted_before Writing)
    read_account Reading = account_reading s m unhosted x all there taken.made was taken.idle (k.accounts unhosted_before Reading)

    read_whole : All IsSome (all_taken s (all ++ m ∷ [])) → All IsSome (host_got s (all ++ m ∷ []))
    read_whole h =
        let parts = subst (All IsSome) (all_taken-push s all m) h in
        subst (All IsSome) (sym (host_got-push s all m))
        (All-append IsSome (host_got s all) (host_got_in s m) (k.whole unhosted_before (all_front IsSome (all_taken s all) (host_taken_in s m) parts))
        (whole_read s m unhosted x (all_back IsSome (all_taken s all) (host_taken_in s m) parts)))

    read_read : ((stream_at new s).kind ≡ Future → FutureRead new s) → IsRead new s
    read_read one = record { taken = taken; unhosted = x.unhosted; one = one }

  -- which of them it is
  data Moving : Type 0 where
    Aside : was_piped s all ≡ false → is_piped_in s m.part m.reply ≡ false → Moving
    Reads : was_piped s (all ++ m ∷ []) ≡ true → (stream_at old s).reader.operation ≡ None → s < length old.streams → is_host (stream_in m.before s).writer.owner ≡ false → ReadIn old m.part m.reply new s → ((stream_at new s).kind ≡ Future → FutureRead new s) → Moving

  moving : is_hosted s (all ++ m ∷ []) ≡ false → Moving
  moving a = by (was_piped s all) (is_piped_in s m.part m.reply) refl refl
    where
      -- it was a future
      was : s < length old.streams → (stream_at new s).kind ≡ Future → (stream_at old s).kind ≡ Future
      was made e = sym (effect_kind old new m.part m.reply s k.holds made effect) ∙ e

      by : (b c : Bool) → was_piped s all ≡ b → is_piped_in s m.part m.reply ≡ c → Moving
      by true c e f =
          let now : was_piped s (all ++ m ∷ []) ≡ true = was_piped-push s all m ∙ ap (λ b. b || is_piped_in s m.part m.reply) e in
          let read = k.read (unmade_before a).0 e in
          Reads now read.taken.idle read.taken.made read.unhosted (effect_read old new m.reply s k.holds read m.part (has_room s n old new m.reply k.holds (k.room (unmade_before a).0) m.part pays) k.bytes effect)
          (λ q. let future = was read.taken.made q in effect_future old new m.reply s k.holds read.taken future (read.one future) m.part read.unhosted effect)
      by false true e f =
          let now : was_piped s (all ++ m ∷ []) ≡ true = was_piped-push s all m ∙ ap (λ b. b || is_piped_in s m.part m.reply) e ∙ f in
          let g = k.guests (aside a e) in
          let x = entering old new m.part m.reply s effect f in
          Reads now (effect_unread old new m.part m.reply s k.holds effect f) x.pipes.made (g.unhosted Writing) (effect_enters old new m.part m.reply s k.holds g effect f)
          (λ q. enters_future old new m.reply s x.host k.holds g x.pipes (was x.pipes.made q))
      by false false e f = Aside e f

  accounts_next : is_hosted s (all ++ m ∷ []) ≡ false → (side : Side) → HostAccount s side (all ++ m ∷ []) new
  accounts_next a side = elim (moving a) [
    | Aside e f ↦ guests_account a e f side
    | Reads now was there unhosted x one ↦ read_account (unmade_before a).0 (piped_now now) was there unhosted x side
  ]

  whole_next : is_hosted s (all ++ m ∷ []) ≡ false → All IsSome (all_taken s (all ++ m ∷ [])) → All IsSome (host_got s (all ++ m ∷ []))
  whole_next a h = elim (moving a) [
    | Aside e f ↦
        subst (All IsSome) (sym (host_got-push s all m))
        (All-append IsSome (host_got s all) (host_got_in s m)
        (k.whole (unmade_before a).0 (all_front IsSome (all_taken s all) (host_taken_in s m) (subst (All IsSome) (all_taken-push s all m) h)))
        (guests_whole a e f))
    | Reads now was there unhosted x one ↦ read_whole (unmade_before a).0 (piped_now now) was there unhosted x h
  ]

  read_next : is_hosted s (all ++ m ∷ []) ≡ false → was_piped s (all ++ m ∷ []) ≡ true → IsRead new s
  read_next a u = elim (moving a) [
    | Aside e f ↦ absurd (let wrong : true ≡ false = sym u ∙ was_piped-push s all m ∙ ap (λ b. b || is_piped_in s m.part m.reply) e ∙ f in true≢false wrong)
    | Reads now was there unhosted x one ↦ read_read (unmade_before a).0 (piped_now now) was there unhosted x one
  ]

  module _ (u : IsUnhosted s (all ++ m ∷ [])) where
    unpiped : (was_piped s all ≡ false) × (is_piped_in s m.part m.reply ≡ false)
    unpiped = or_parts (was_piped s all) (is_piped_in s m.part m.reply) (sym (was_piped-push s all m) ∙ u.unpiped)

    same_next : host_got s (all ++ m ∷ []) ≡ got s (plains (all ++ m ∷ []))
    same_next =
        host_got-push s all m
        ∙ ap (λ l. l ++ host_got_in s m) (k.same (aside u.unmade unpiped.0))
        ∙ ap (λ l. got s (plains all) ++ l) (guests_got u.unmade unpiped.0 unpiped.1)
        ∙ sym (got-push s (plains all) (plain m))
        ∙ ap (got s) (sym (plains-push all m))

    untaken_next : all_taken s (all ++ m ∷ []) ≡ []
    untaken_next =
        all_taken-push s all m
        ∙ ap (λ l. l ++ host_taken_in s m) (k.untaken (aside u.unmade unpiped.0))
        ∙ taken_unread s m (stream_in m.before s).reader.owner (unreads u.unmade unpiped.0)

  -- no host writer has its write end
  no_pipe : is_hosted s all ≡ false → NoPipe old s
  no_pipe a n r e f = by (was_piped s all) refl
    where
      by : (b : Bool) → was_piped s all ≡ b → ⊥
      by true p = no_host (stream_at old s).writer.owner n (k.read a p).unhosted e
      by false p = no_host (stream_at old s).writer.owner n ((k.guests (record { unmade = a; unpiped = p })).unhosted Writing) e

  room_next_to : is_hosted s (all ++ m ∷ []) ≡ false → received s new + 2 ^ 28 * left_after s m.part n < 2 ^ 128
  room_next_to a = let unmade = (unmade_before a).0 in room_next s n old new m.reply k.holds (k.room unmade) m.part pays (no_pipe unmade) effect

  keeps_next : RunKeeps s (all ++ m ∷ []) new (left_after s m.part n)
  keeps_next = record {
    holds = Holds-effect old new m.reply k.holds m.part effect;
    bytes = effect_bytes old new m.part m.reply k.holds (puts m.part pays) k.bytes effect;
    room = room_next_to;
    hosted = λ e. hosted_next (is_hosted s all) refl (sym (is_hosted-push s all m) ∙ e);
    piped = piped_now;
    guests = λ u. guests_after old new m.part m.reply s (seen u.unmade (unpiped u).0 (unpiped u).1);
    read = read_next;
    accounts = accounts_next;
    whole = whole_next;
    same = same_next;
    untaken = untaken_next;
  }

-- ## Every run

-- the steps to come after these moments
abbrev pub left_at : ℕ → List HostMoment → ℕ → ℕ
left_at s [] n = n
left_at s (m ∷ more) n = left_at s more (left_after s m.part n)

keeps_from : (s : ℕ) (all : List HostMoment) (w : World) (more : List HostMoment) (n : ℕ) → Chain w more → Costs s more n → RunKeeps s all w.state n → RunKeeps s (all ++ more) (end_world w more).state (left_at s more n)
keeps_from s all w [] n c p k = rw (append-nil all) k
keeps_from s all w (m ∷ more) n c p k =
    let f = c.0 in
    let here : RunKeeps s all m.before.state n = subst (λ (v : World). RunKeeps s all v.state n) (sym f.begins) k in
    let k_hosts = k.holds.hosts in
    let effect : Effect m.before.state m.part m.reply m.after.state =
    subst (λ (v : World). Effect v.state m.part m.reply m.after.state) (sym f.begins) (follows_effect w m k_hosts f) in
    let next = keeps_from s (all ++ m ∷ []) m.after more (left_after s m.part n) c.1 p.1 (keeps_next s all m n p.0 here effect) in
    subst (λ l. RunKeeps s l (end_world m.after more).state (left_at s more (left_after s m.part n))) (append_assoc all (m ∷ []) more) next

-- ## At first

keeps_empty : (s tag : ℕ) (limits : Limits) (run : List Step) → AreSteps run → RunKeeps s [] (empty tag limits) (length run)
keeps_empty s tag limits run a = record {
  holds = Holds-empty tag limits;
  bytes = All-nil _;
  room = λ u. omega (arith, a.few);
  hosted = λ e. cc;
  piped = λ e. cc;
  guests = λ u. record { apart = refl; tallies = record { writing = tt; reading = tt; one = λ q. cc }; unhosted = nobody };
  read = λ u e. cc;
  accounts = λ u side. first_account side;
  whole = λ u h. All-nil IsSome;
  same = λ u. refl;
  untaken = λ u. refl;
}
  where
    nobody : (side : Side) → is_host (end_of side (stream_at (empty tag limits) s)).owner ≡ false
    nobody Writing = refl
    nobody Reading = refl

    first_account : (side : Side) → HostAccount s side [] (empty tag limits)
    first_account Writing = record { kept = Kept-empty s Writing tag limits; unmade = λ l. record { none = refl; silent = λ kind. refl } }
    first_account Reading = record { kept = Kept-empty s Reading tag limits; unmade = λ l. record { none = refl; silent = λ kind. refl } }

module _ (tag : ℕ) (limits : Limits) (tells told : Tells) (run : List Step) (front s : ℕ) (a : AreSteps run) where
  abbrev first : World
  first = start_world tag limits tells told

  abbrev all_moments : List HostMoment
  all_moments = first_moments front first run

  abbrev end_state : State
  end_state = (end_world first all_moments).state

  run_keeps : RunKeeps s all_moments end_state (left_at s all_moments (length run))
  run_keeps = keeps_from s [] first all_moments (length run) (first-chain front first run) (first_cost s front first run a.bytes) (keeps_empty s tag limits run a)

  -- one operation at most is open
  none_writes : (stream : Stream) → stream.writer.operation ≡ None → both_open stream ≡ false
  none_writes stream e = ap (λ o. is_opened o && is_opened stream.reader.operation) e

  none_reads : (stream : Stream) → stream.reader.operation ≡ None → both_open stream ≡ false
  none_reads stream e = and_right (is_opened stream.writer.operation) (is_opened stream.reader.operation) (ap is_opened e)

  -- no stream has an open write and an open read
  pub apart : both_open (stream_at end_state s) ≡ false
  apart = by (is_hosted s all_moments) (was_piped s all_moments) refl refl
    where
      by : (b c : Bool) → is_hosted s all_moments ≡ b → was_piped s all_moments ≡ c → both_open (stream_at end_state s) ≡ false
      by true c e f = none_writes (stream_at end_state s) (run_keeps.hosted e).idle
      by false true e f = none_reads (stream_at end_state s) (run_keeps.piped f).idle
      by false false e f = (run_keeps.guests (record { unmade = e; unpiped = f })).apart

  -- what has not met has moved nothing, unless a host end moves it
  pub moved_by_hosts : MovesByHosts (stream_at end_state s)
  moved_by_hosts = record {
    writing = writes (is_hosted s all_moments) (was_piped s all_moments) refl refl;
    reading = reads (is_hosted s all_moments) (was_piped s all_moments) refl refl;
  }
    where
      writes : (b c : Bool) → is_hosted s all_moments ≡ b → was_piped s all_moments ≡ c → is_host (stream_at end_state s).reader.owner ≡ false → is_gone (stream_at end_state s).writer.owner ≡ false → IsUnmoved (stream_at end_state s).writer.operation
      writes b true e f = (run_keeps.piped f).parted
      writes true false e f = λ u v. subst IsUnmoved (sym (run_keeps.hosted e).idle) tt
      writes false false e f = λ u v. (run_keeps.guests (record { unmade = e; unpiped = f })).tallies.writing

      reads : (b c : Bool) → is_hosted s all_moments ≡ b → was_piped s all_moments ≡ c → is_host (stream_at end_state s).writer.owner ≡ false → is_gone (stream_at end_state s).reader.owner ≡ false → IsUnmoved (stream_at end_state s).reader.operation
      reads true c e f = (run_keeps.hosted e).parted
      reads false true e f = λ u v. subst IsUnmoved (sym (run_keeps.piped f).idle) tt
      reads false false e f = λ u v. (run_keeps.guests (record { unmade = e; unpiped = f })).tallies.reading

  module _ (g : is_hosted s all_moments ≡ false) where
    accounts_there : (side : Side) → HostAccount s side all_moments end_state
    accounts_there = run_keeps.accounts g

    pub conserves_among : ConservesAmong s all_moments end_state
    conserves_among =
        let all = plains all_moments in
        let w = (accounts_there Writing).kept in
        let r = (accounts_there Reading).kept in
        let long : length (host_got s all_moments) ≡ total_of_calls (kind_at s end_state) (moved_at s Writing end_state) (writes s all) =
        ap length (w.items refl) ∙ length-all_handed (kind_at s end_state) s all (moved_at s Writing end_state) 0 (writes s all) in
        let count : length (host_got s all_moments) ≡ received s end_state = omega (arith, long, w.count) in
        record {
          items = w.items refl;
          written = long;
          read = omega (arith, count, r.count);
          asked = λ side. (accounts_there side).kept.within;
          told_writer = omega (arith, w.told, count);
          told_reader = omega (arith, r.told, count);
          count = count;
          whole = run_keeps.whole g (run_items tag limits tells told run front s a);
        }

    pub stands_among : (side : Side) → Stands (stream_at end_state s).payload (waiting s side end_state) (calls s side (plains all_moments))
    stands_among side = (accounts_there side).kept.stands

    -- a future passes at most one item, whoever reads it
    pub one_among : (stream_at end_state s).kind ≡ Future → length (host_got s all_moments) ≤ 1
    one_among kind = let count = conserves_among.count in let most = by (was_piped s all_moments) refl in omega (arith, count, most)
      where
        at_most : (b : Bool) → received s end_state ≡ (if b then 1 else 0) → received s end_state ≤ 1
        at_most true e = omega (arith, e)
        at_most false e = omega (arith, e)

        by : (b : Bool) → was_piped s all_moments ≡ b → received s end_state ≤ 1
        by true e = at_most (stream_at end_state s).passed ((run_keeps.read g e).one kind).count
        by false e = received_one (stream_at end_state s) ((run_keeps.guests (record { unmade = g; unpiped = e })).tallies.one kind)

  module _ (g : is_hosted s all_moments ≡ false) (p : was_piped s all_moments ≡ false) where
    none_had : IsUnhosted s all_moments
    none_had = record { unmade = g; unpiped = p }

    -- what has not met has moved nothing
    pub unmoved : AreUnmoved (stream_at end_state s)
    unmoved = let tallies = (run_keeps.guests none_had).tallies in (tallies.writing, tallies.reading)

    pub conserves : Conserves s (plains all_moments) end_state
    conserves =
        let among = conserves_among g in
        let same = run_keeps.same none_had in
        let untaken : length (all_taken s all_moments) ≡ 0 = ap length (run_keeps.untaken none_had) in
        let long : length (got s (plains all_moments)) ≡ length (host_got s all_moments) = ap length (sym same) in
        let reader = among.told_reader in
        let writer = among.told_writer in
        let read = among.read in
        record {
          items = sym same ∙ among.items;
          written = long ∙ among.written;
          read = omega (arith, long, read, untaken);
          asked = among.asked;
          told = told_at;
          count = long ∙ among.count;
          whole = subst (All IsSome) same among.whole;
        }
      where
        told_at : (side : Side) → all_reported (stream_at end_state s).kind s side (plains all_moments) + moved_at s side end_state ≡ length (got s (plains all_moments))
        told_at Writing = let writer = (conserves_among g).told_writer in let long : length (got s (plains all_moments)) ≡ length (host_got s all_moments) = ap length (sym (run_keeps.same none_had)) in omega (arith, writer, long)
        told_at Reading =
            let reader = (conserves_among g).told_reader in
            let untaken : length (all_taken s all_moments) ≡ 0 = ap length (run_keeps.untaken none_had) in
            let long : length (got s (plains all_moments)) ≡ length (host_got s all_moments) = ap length (sym (run_keeps.same none_had)) in
            omega (arith, reader, untaken, long)

    pub stands : (side : Side) → Stands (stream_at end_state s).payload (waiting s side end_state) (calls s side (plains all_moments))
    stands = stands_among g

    -- a future passes at most one item
    pub one : (stream_at end_state s).kind ≡ Future → length (got s (plains all_moments)) ≤ 1
    one kind = let count = conserves.count in omega (arith, count, received_one (stream_at end_state s) ((run_keeps.guests none_had).tallies.one kind))

  -- on a stream that was made of a host writer no guest writes, and on one that went to a host reader none reads
  pub idle : is_hosted s all_moments ≡ true → (stream_at end_state s).writer.operation ≡ None
  idle e = (run_keeps.hosted e).idle

  pub unread : was_piped s all_moments ≡ true → (stream_at end_state s).reader.operation ≡ None
  unread e = (run_keeps.piped e).idle
