-- What a moment does to what a host reader tells that it took: nothing, unless it is its turn.
use Rattle.std.proofs.Common.{◌≡◌, ◌≢◌, ℕ, ◌+◌, ◌^◌, ◌<◌, true, false, cond, List, [], ◌∷◌, ◌++◌, length, get_or, Option, Some, None, refl, sym, ap, subst, ◌∙◌, inl, inr, arith}
use Rattle.std.proofs.lemmas.Bool.{cases_eq, cases_lt, true≢false}
use Rattle.std.proofs.lemmas.List.{get_or-set_same, get_or-set_other, get_or_past, get_or_append_left}
use Rattle.std.specs.Option.{option_map}
use Rattle.strm_buffers.specs.declared.answers.ReaderSaid.{ReaderSaid}
use Rattle.strm_buffers.specs.Listing.{Item}
use Rattle.strm_machine.specs.Endings.{delivered}
use Rattle.strm_machine.specs.Moments.{Moment, MemoryPlace, received, place_of, is_named}
use Rattle.strm_machine.specs.Sides.{with_operation}
use Rattle.strm_machine.specs.Soundness.{sizes_of}
use Rattle.strm_machine.specs.State.{no_stream, no_consumer, stream_at, consumer_at, is_host, is_held}
use Rattle.strm_machine.specs.declared.acts.Act.{Act}
use Rattle.strm_machine.specs.declared.acts.Act.TheVariants.{OnEnd, Drive}
use Rattle.strm_machine.specs.declared.acts.EndAct.TheVariants.{Operate}
use Rattle.strm_machine.specs.declared.acts.NamedEnd.{NamedEnd}
use Rattle.strm_machine.specs.declared.streams.Duty.TheVariants.{Serves}
use Rattle.strm_machine.specs.declared.streams.Operation.{Operation}
use Rattle.strm_machine.specs.declared.streams.Owner.TheVariants.{Held, Host}
use Rattle.strm_machine.specs.declared.streams.Side.{Side}
use Rattle.strm_machine.specs.declared.streams.Side.TheVariants.{Writing, Reading}
use Rattle.strm_machine.specs.declared.streams.Stream.{Stream}
use Rattle.strm_machine.proofs.HostLemmas.{unless_host}
use Rattle.strm_machine.proofs.NamedEndLemmas.{named_itself}
use Rattle.strm_machine.proofs.Shapes.{operating}
use Rattle.strm_machine.proofs.TableLemmas.{set-keeps}
use Rattle.strm_host_machine.specs.Attaching.{piped, without_ends, forsaken, hosted_stream}
use Rattle.strm_host_machine.specs.ReaderTurn.{lifted_items}
use Rattle.strm_host_machine.specs.Ends.{Reader, no_reader, polled_reader, granted_reader}
use Rattle.strm_host_machine.specs.Settling.{result_of}
use Rattle.strm_host_machine.specs.World.{World, stream_in, writer_at, reader_at, with_consumer}
use Rattle.strm_host_laws.specs.HostMoments.{Acts, Turns, HostMoment}
use Rattle.strm_host_laws.specs.HostLaws.{act_in, plain, source}
use Rattle.strm_host_laws.proofs.Forms.{opened, called, reacted_to, stream_of, IsTurn, IsRound, IsCall, IsForsaking, IsPiping, Form, BySame, ByReacting, ByForsaking, ByHosting, ByFeeding, ByGranting, ByPiping, ByTurning, ByPassing, ByCalling}
use Rattle.strm_host_laws.proofs.GoingRules.{piped_to}
use Rattle.strm_host_laws.proofs.HostCounts.{placed_small}
use Rattle.strm_host_laws.proofs.HostTurns.{taken_few}
use Rattle.strm_host_laws.proofs.TurnMoves.{moved_on-received}
use Rattle.strm_host_laws.proofs.PartsSeen.{IsTaken, owner_taken}
use Rattle.strm_host_laws.proofs.Rooms.{HasRoom}
use Rattle.strm_host_laws.proofs.TurnsStand.{Holds}
use Rattle.strm_host_laws.proofs.Standing.{waiting_placed}
use Rattle.strm_host_laws.proofs.Touched.{told_stream}
use Rattle.strm_host_laws.proofs.Turned.{turned, stream_moved, taken_by, stream_taken, Taken}
use Rattle.strm_host_laws.proofs.Unread.{reaction-counts}
use Rattle.strm_host_laws.proofs.WrittenBack.{told_of, back-guests, back-told, back-holds, round_other, round_reader, back-received, back-here, back-other, back-length, taken-here, taken-other}

-- host reader r had its turn on a stream, and took so many of the items that a guest offers
pub record TakesOn (stream r : ℕ) (m : HostMoment) : Type 0 where
  pub operation : Operation
  pub count : ℕ
  pub owner : (stream_in m.before stream).reader.owner ≡ Host r
  pub unhosted : is_host (stream_in m.before stream).writer.owner ≡ false
  pub busy : IsTaken Writing m.before.state stream → ⊥
  pub place : source stream (plain m) ≡ record { guest = operation.guest; address = operation.address }
  pub counts : HasRoom m.before.state stream m.part → received stream m.after.state ≡ received stream m.before.state + count
  pub good : length (lifted_items m.before.state.guests (stream_in m.before stream).payload operation count) ≡ count
  pub holds : (reader_at m.after r).holds ≡ option_map (λ xs. xs ++ lifted_items m.before.state.guests (stream_in m.before stream).payload operation count) (reader_at m.before r).holds

-- it tells what it told and uses no record, and nothing is received on a stream of which it has the read end
pub record RestsOn (s r : ℕ) (m : HostMoment) : Type 0 where
  pub told : told_of (reader_at m.after r) ≡ told_of (reader_at m.before r)
  pub counts : (stream_in m.before s).reader.owner ≡ Host r → received s m.after.state ≡ received s m.before.state

pub data Took (s r : ℕ) (m : HostMoment) : Type 0 where
  Rests : RestsOn s r m → Took s r m
  Takes : (stream : ℕ) → TakesOn stream r m → Took s r m
  Passes : (stream n : ℕ) → IsRound m.before m.part m.after stream n r → Took s r m

one_host : (a b : ℕ) → Host a ≡ Host b → a ≡ b
one_host a b e = cc

-- ## Places

abbrev doing : Act → Moment → Moment
doing act m = record m { act = act }

abbrev place_for : Operation → MemoryPlace
place_for write = record { guest = write.guest; address = write.address }

-- of a turn in a drive round it is that of the write that waits
drive_source : (s : ℕ) (m : Moment) (write : Operation) → m.act ≡ Drive → (stream_at m.before s).writer.operation ≡ Some write → source s m ≡ place_for write
drive_source s m write e f = ap (λ a. source s (doing a m)) e ∙ ap place_of f

-- and of a call that of its write
call_source : (s : ℕ) (m : Moment) (end : NamedEnd) (address count : ℕ) → m.act ≡ operating Writing end address count → is_named s Writing (doing (operating Writing end address count) m) ≡ true → source s m ≡ place_for (called end address count)
call_source s m end address count e f =
    ap (λ a. source s (doing a m)) e
    ∙ ap (λ b. cond b (place_for (called end address count)) (place_of (stream_at m.before s).writer.operation)) f

-- ## A turn

module _ (w v : World) (t j : ℕ) (write : Operation) (k : Taken w t j write v) where
  abbrev but : World
  but = taken_by w t j write k.said k.more

  abbrev now : Stream
  now = stream_taken w t write k.said

  abbrev polled : Reader
  polled = polled_reader (reader_at w j) (lifted_items w.state.guests (stream_in w t).payload write k.said.taken) k.more

  -- one that has records is there
  known : j < length w.readers
  known =
      elim (cases_lt j (length w.readers)) [
        | inl l ↦ l
        | inr l ↦ absurd (let past = ap (λ (x : Reader). x.coming) (get_or_past w.readers j no_reader l) in let said = k.coming in let wrong : [] ≡ k.said ∷ k.more = sym past ∙ said in cc)
      ]

  holds_here : (reader_at v j).holds ≡ option_map (λ xs. xs ++ lifted_items w.state.guests (stream_in w t).payload write k.said.taken) (reader_at w j).holds
  holds_here =
      ap (λ x. (reader_at x j).holds) k.is
      ∙ back-holds but t now j
      ∙ ap (λ (x : Reader). x.holds) (get_or-set_same w.readers j polled no_reader known)

  told_other : (r : ℕ) → r ≢ j → told_of (reader_at v r) ≡ told_of (reader_at w r)
  told_other r ne =
      ap (λ x. told_of (reader_at x r)) k.is
      ∙ back-told but t now r
      ∙ ap told_of (get_or-set_other w.readers j r polled no_reader ne)

  counts_here : t < length w.state.streams → write.left < 2 ^ 28 → received t w.state + 2 ^ 28 < 2 ^ 128 → received t v.state ≡ received t w.state + k.said.taken
  counts_here made small room =
      let few = taken_few t j write write.left (consumer_at w.state j).since write.asked k.said k.polled in
      ap (λ (x : Stream). x.received) (taken-here w t j write v k made)
      ∙ moved_on-received Writing (stream_in w t) write k.said.taken (result_of k.said.answer) (omega (arith, few, small, room))

  counts_other : (s : ℕ) → s ≢ t → received s v.state ≡ received s w.state
  counts_other s ne = ap (λ (x : Stream). x.received) (taken-other w t j write v k s ne)

-- ## A moment

module _ (m : HostMoment) (h : Holds m.before.state) where
  abbrev w : World
  w = m.before

  abbrev v : World
  v = m.after

  -- another host reader reads another stream
  other_stream : (s t r j : ℕ) → (stream_in w t).reader.owner ≡ Host j → r ≢ j → (stream_in w s).reader.owner ≡ Host r → s ≢ t
  other_stream s t r j e ne f q = ne (one_host r j (sym f ∙ ap (λ i. (stream_in w i).reader.owner) q ∙ e))

  -- a write waits on no stream of a host writer
  busy_unhosted : (t : ℕ) (write : Operation) → (stream_in w t).writer.operation ≡ Some write → is_host (stream_in w t).writer.owner ≡ false
  busy_unhosted t write e =
      unless_host (stream_in w t).writer.owner
      (λ n f. let none = (h.hosts.serve Writing n t).idle f in let wrong : Some write ≡ None = sym e ∙ none in cc)

  -- the world is that one, but for readers and what is kept of streams
  same_took : (s r : ℕ) (u : World) → u.readers ≡ w.readers → u.state.streams ≡ w.state.streams → v ≡ u → Took s r m
  same_took s r u f g e = Rests (record {
    told = ap (λ x. told_of (reader_at x r)) e ∙ ap (λ rs. told_of (get_or rs r no_reader)) f;
    counts = λ o. ap (λ x. received s x.state) e ∙ ap (λ xs. (get_or xs s no_stream).received) g;
  })

  -- A TURN IN A DRIVE ROUND

  drive_took : (t j : ℕ) (write : Operation) → IsTurn Writing w m.part v t j write → (s r : ℕ) → Took s r m
  drive_took t j write i s r =
      elim (cases_eq r j) [
        | inl e ↦ Takes t (subst (λ k. TakesOn t k m) (sym e) (record {
          operation = write;
          count = i.turned.said.taken;
          owner = i.owner;
          unhosted = busy_unhosted t write i.operation_is;
          busy = λ taken. let none = taken.idle in let wrong : Some write ≡ None = sym i.operation_is ∙ none in cc;
          place = drive_source t (plain m) write (ap act_in i.part_is) i.operation_is;
          counts = λ has.
              let made = (owner_taken Reading w.state t j h i.owner).made in
              let room : HasRoom w.state t (Turns t) = subst (HasRoom w.state t) i.part_is has in
              counts_here w v t j write i.turned made (placed_small (sizes_of w.state.guests) (stream_in w t).payload write (waiting_placed Writing w.state t write made i.operation_is h.sound)) (room refl);
          good = i.turned.good;
          holds = holds_here w v t j write i.turned;
        }))
        | inr ne ↦ Rests (record {
          told = told_other w v t j write i.turned r ne;
          counts = λ o. counts_other w v t j write i.turned s (other_stream s t r j i.owner ne o);
        })
      ]

  -- of a host writer
  written_took : (t n : ℕ) (read : Operation) → IsTurn Reading w m.part v t n read → (s r : ℕ) → Took s r m
  written_took t n read i s r =
      let k = i.turned in
      let but_it = turned w t n read k.items k.producer k.writer in
      let moved = stream_moved w t read k.items k.result in
      Rests (record {
        told = ap (λ x. told_of (reader_at x r)) k.is ∙ back-told but_it t moved r;
        counts = λ o.
            let ne : s ≢ t = λ q. let none = (h.hosts.serve Reading r s).idle o in let wrong : Some read ≡ None = sym i.operation_is ∙ ap (λ a. (stream_in w a).reader.operation) (sym q) ∙ none in cc in
            ap (λ x. received s x.state) k.is ∙ ap (λ (x : Stream). x.received) (back-other but_it t moved s ne);
      })

  -- A CALL

  module _ (side : Side) (end : NamedEnd) (address count j : ℕ) (c : IsCall side w m.part v end address count j) where
    abbrev at : ℕ
    at = stream_of w end

    abbrev operation : Operation
    operation = called end address count

    abbrev open_stream : Stream
    open_stream = with_operation side (stream_in w at) operation

    abbrev o : World
    o = opened side w at operation

    open_counts : open_stream.received ≡ (stream_in w at).received
    open_counts = by side
      where
        by : (side : Side) → (with_operation side (stream_in w at) operation).received ≡ (stream_in w at).received
        by Writing = refl
        by Reading = refl

    last_told : (r : ℕ) → told_of (reader_at v r) ≡ told_of (reader_at c.mid r)
    last_told r =
        elim c.told [
          | inl e ↦ ap (λ x. told_of (reader_at x r)) e
          | inr e ↦ ap (λ x. told_of (reader_at x r)) e ∙ back-told c.mid at (delivered side (stream_in c.mid at)) r
        ]

    told_holds : (r : ℕ) → (reader_at v r).holds ≡ (reader_at c.mid r).holds
    told_holds r = ap (λ (p : Option (List Item) × List ReaderSaid). p.0) (last_told r)

    told_counts : (s : ℕ) → received s v.state ≡ received s c.mid.state
    told_counts s =
        elim c.told [
          | inl e ↦ ap (λ x. received s x.state) e
          | inr e ↦ ap (λ x. received s x.state) e ∙ back-received c.mid at (delivered side (stream_in c.mid at)) (told_stream side (stream_in c.mid at)).received s
        ]

    first_told : (r : ℕ) → told_of (reader_at o r) ≡ told_of (reader_at w r)
    first_told r = back-told w at open_stream r

    first_holds : (r : ℕ) → (reader_at o r).holds ≡ (reader_at w r).holds
    first_holds r = back-holds w at open_stream r

    first_counts : (s : ℕ) → received s o.state ≡ received s w.state
    first_counts s = back-received w at open_stream open_counts s

  write_took : (end : NamedEnd) (address count j : ℕ) → IsCall Writing w m.part v end address count j → (s r : ℕ) → Took s r m
  write_took end address count j c s r =
      let t = stream_of w end in
      let write = called end address count in
      let stream = with_operation Writing (stream_in w t) write in
      let open_world = opened Writing w t write in
      let found = c.begun.found in
      let here : stream_in open_world t ≡ stream = back-here w t stream found.made in
      let first = first_holds Writing end address count j c in
      let counted = first_counts Writing end address count j c in
      elim (cases_eq r j) [
        | inl e ↦ Takes t (subst (λ k. TakesOn t k m) (sym e) (record {
          operation = write;
          count = c.turned.said.taken;
          owner = c.owner;
          unhosted = ap is_host (h.held.agree.named end.guest end.handle t Writing found.held);
          busy = λ taken. true≢false (sym (ap is_held (h.held.agree.named end.guest end.handle t Writing found.held)) ∙ taken.unheld);
          place = call_source t (plain m) end address count (ap act_in c.part_is) (named_itself w.state (OnEnd Writing end (Operate address count)) m.reply t Writing Writing (found.named m.reply));
          counts = λ has.
              let was = counted t in
              let room : HasRoom w.state t (Acts (OnEnd Writing end (Operate address count))) = subst (HasRoom w.state t) c.part_is has in
              told_counts Writing end address count j c t
              ∙ counts_here open_world c.mid t j write c.turned (subst (λ k. t < k) (sym (back-length w t stream)) found.made) (placed_small (sizes_of w.state.guests) (stream_in w t).payload write c.begun.placed) (omega (arith, was, room))
              ∙ ap (λ k. k + c.turned.said.taken) was;
          good =
              let n = c.turned.said.taken in
              subst (λ gs. length (lifted_items gs (stream_in w t).payload write n) ≡ n) (back-guests w t stream)
              (subst (λ (x : Stream). length (lifted_items open_world.state.guests x.payload write n) ≡ n) here c.turned.good);
          holds =
              told_holds Writing end address count j c j
              ∙ holds_here open_world c.mid t j write c.turned
              ∙ ap (λ held. option_map (λ xs. xs ++ lifted_items open_world.state.guests (stream_in open_world t).payload write c.turned.said.taken) held) (first j)
              ∙ ap (λ gs. option_map (λ xs. xs ++ lifted_items gs (stream_in open_world t).payload write c.turned.said.taken) (reader_at w j).holds) (back-guests w t stream)
              ∙ ap (λ (x : Stream). option_map (λ xs. xs ++ lifted_items w.state.guests x.payload write c.turned.said.taken) (reader_at w j).holds) here;
        }))
        | inr ne ↦ Rests (record {
          told = last_told Writing end address count j c r ∙ told_other open_world c.mid t j write c.turned r ne ∙ first_told Writing end address count j c r;
          counts = λ f. told_counts Writing end address count j c s ∙ counts_other open_world c.mid t j write c.turned s (other_stream s t r j c.owner ne f) ∙ counted s;
        })
      ]

  read_took : (end : NamedEnd) (address count n : ℕ) → IsCall Reading w m.part v end address count n → (s r : ℕ) → Took s r m
  read_took end address count n c s r =
      let t = stream_of w end in
      let read = called end address count in
      let open_world = opened Reading w t read in
      let k = c.turned in
      let but_it = turned open_world t n read k.items k.producer k.writer in
      let moved = stream_moved open_world t read k.items k.result in
      let own = h.held.agree.named end.guest end.handle t Reading c.begun.found.held in
      Rests (record {
        told = last_told Reading end address count n c r ∙ ap (λ x. told_of (reader_at x r)) k.is ∙ back-told but_it t moved r ∙ first_told Reading end address count n c r;
        counts = λ f.
            let ne : s ≢ t = λ q. let wrong : Host r ≡ Held end.guest end.handle = sym f ∙ ap (λ a. (stream_in w a).reader.owner) q ∙ own in cc in
            told_counts Reading end address count n c s ∙ ap (λ x. received s x.state) k.is ∙ ap (λ (x : Stream). x.received) (back-other but_it t moved s ne) ∙ first_counts Reading end address count n c s;
      })

  -- AN END IS DROPPED

  forsaken_counts : (side : Side) (stream : Stream) → (forsaken side stream).received ≡ stream.received
  forsaken_counts Writing stream = refl
  forsaken_counts Reading stream = refl

  forsaken_took : (act : Act) (side : Side) (t n : ℕ) → IsForsaking w v act side t n → (s r : ℕ) → Took s r m
  forsaken_took act side t n f s r =
      let u = reacted_to w act in
      let gone = forsaken side (stream_in u t) in
      Rests (record {
        told = ap (λ x. told_of (reader_at x r)) f.is ∙ back-told u t gone r;
        counts = λ e.
            ap (λ x. received s x.state) f.is ∙ back-received u t gone (forsaken_counts side (stream_in u t)) s ∙ reaction-counts w.state act s h (owner_taken Reading w.state s r h e);
      })

  -- A PIPE

  pipe_took : (t j : ℕ) → IsPiping w v t j → (s r : ℕ) → Took s r m
  pipe_took t j p s r =
      let u = with_consumer w j (record no_consumer { duty = Serves t }) in
      let pipe = piped (stream_in w t) j in
      let none = without_ends pipe in
      let first_held = back-told u t pipe in
      let first_counted = back-received u t pipe refl in
      elim p.is [
        | inl e ↦ Rests (record {
          told = ap (λ x. told_of (reader_at x r)) e ∙ first_held r;
          counts = λ o. ap (λ x. received s x.state) e ∙ first_counted s;
        })
        | inr e ↦ Rests (record {
          told = ap (λ x. told_of (reader_at x r)) e ∙ back-told (piped_to w t j) t none r ∙ first_held r;
          counts = λ o. ap (λ x. received s x.state) e ∙ back-received (piped_to w t j) t none (sym (first_counted t)) s ∙ first_counted s;
        })
      ]

  round_took : (t n j : ℕ) → IsRound w m.part v t n j → (s r : ℕ) → Took s r m
  round_took t n j i s r =
      elim (cases_eq r j) [
        | inl e ↦ Passes t n (subst (IsRound w m.part v t n) (sym e) i)
        | inr ne ↦ Rests (record {
          told = round_reader w t n j v i.passed r ne;
          counts = λ o. ap (λ (x : Stream). x.received) (round_other w t n j v i.passed s (other_stream s t r j i.read ne o));
        })
      ]

  -- ANY MOMENT

  pub form_took : Form w m.part m.reply v → (s r : ℕ) → Took s r m
  form_took (BySame n e) s r = same_took s r w refl refl e
  form_took (ByReacting act n e) s r = Rests (record {
    told = ap (λ x. told_of (reader_at x r)) e;
    counts = λ o. ap (λ x. received s x.state) e ∙ reaction-counts w.state act s h (owner_taken Reading w.state s r h o);
  })
  form_took (ByForsaking act side t n u f) s r = forsaken_took act side t n f s r
  form_took (ByHosting n p x u e) s r = Rests (record {
    told = ap (λ y. told_of (reader_at y r)) e;
    counts = λ o.
        ap (λ y. received s y.state) e
        ∙ ap (λ (y : Stream). y.received) (get_or_append_left w.state.streams (hosted_stream (writer_at w n) n ∷ []) no_stream s (owner_taken Reading w.state s r h o).made);
  })
  form_took (ByFeeding n bytes u e) s r = Rests (record { told = ap (λ x. told_of (reader_at x r)) e; counts = λ o. ap (λ x. received s x.state) e })
  form_took (ByGranting j count u e) s r = Rests (record {
    told = ap (λ x. told_of (reader_at x r)) e ∙ set-keeps told_of w.readers j r (granted_reader (reader_at w j) count) no_reader refl;
    counts = λ o. ap (λ x. received s x.state) e;
  })
  form_took (ByPiping t j u p) s r = pipe_took t j p s r
  form_took (ByTurning Reading t n read u i) s r = written_took t n read i s r
  form_took (ByTurning Writing t j write u i) s r = drive_took t j write i s r
  form_took (ByPassing t n j u i) s r = round_took t n j i s r
  form_took (ByCalling Reading end address count n u c) s r = read_took end address count n c s r
  form_took (ByCalling Writing end address count j u c) s r = write_took end address count j c s r
