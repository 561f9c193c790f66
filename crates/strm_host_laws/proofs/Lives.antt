-- What holds of every world that a run comes to: its state is sound, host writers that have a stream are
-- there, and what host writers hold and will produce are items of their payload.
use Rattle.std.proofs.Common.{◌≡◌, ℕ, ◌<◌, true, List, ◌∷◌, length, Option, Some, None, refl, sym, ap, subst, ◌∙◌}
use Rattle.std.specs.Prelude.{All}
use Rattle.std.proofs.lemmas.List.Elements.{All-head, All-tail}
use Rattle.strm_codes.specs.Layout.{item_type}
use Rattle.strm_codes.specs.ItemTypes.{ItemType}
use Rattle.strm_memory.specs.Items.{AreItems}
use Rattle.strm_memory.proofs.AppendLemmas.{AreItems-drop}
use Rattle.strm_buffers.specs.Said.{WriterSaid, past_room}
use Rattle.strm_buffers.specs.Listing.{Item}
use Rattle.strm_machine.specs.State.{State, producer_at, stream_at}
use Rattle.strm_machine.specs.Sides.{with_operation}
use Rattle.strm_machine.specs.Soundness.{sizes_of, IsPlaced, OperationIsPlaced}
use Rattle.strm_machine.specs.declared.acts.Act.TheVariants.{OnHost}
use Rattle.strm_machine.specs.declared.acts.HostAct.TheVariants.{Feed, Grant}
use Rattle.strm_machine.specs.declared.acts.NamedEnd.{NamedEnd}
use Rattle.strm_machine.specs.declared.streams.Duty.TheVariants.{Serves}
use Rattle.strm_machine.specs.declared.streams.Owner.TheVariants.{Host}
use Rattle.strm_machine.specs.declared.streams.Operation.{Operation}
use Rattle.strm_machine.specs.declared.streams.Side.TheVariants.{Writing, Reading}
use Rattle.strm_machine.specs.declared.streams.Stream.{Stream}
use Rattle.strm_machine.specs.declared.replies.Reply.{Reply}
use Rattle.strm_machine.proofs.HostLemmas.{serving_made}
use Rattle.strm_machine.proofs.SoundLemmas.{placed_at}
use Rattle.strm_host_machine.specs.Ends.{Writer, polled_writer, fed_writer}
use Rattle.strm_host_machine.specs.World.{World, stream_in, writer_at}
use Rattle.strm_host_machine.specs.Outcomes.{Outcome, Goes, Stops, Stuck}
use Rattle.strm_host_machine.specs.Does.{SaidFits}
use Rattle.strm_host_laws.specs.HostMoments.{Part, Acts, HostMoment, part_on}
use Rattle.strm_host_laws.specs.HostLaws.{Supplies}
use Rattle.strm_host_laws.proofs.Chains.{is_part}
use Rattle.strm_host_laws.proofs.Closed.{Stands, Kept, SameClosed, part-closes}
use Rattle.strm_host_laws.proofs.Fed.{OfWriters, OfEach, part-each, grant-each, rules-each, stopping-each, with-each}
use Rattle.strm_host_laws.proofs.Forms.{opened, called, stream_of, IsTurn, IsCall, Form, part-formed}
use Rattle.strm_host_laws.proofs.GoingRules.{IfGoes, Comes, with_stream_in-same}
use Rattle.strm_host_laws.proofs.Goings.{feed-comes}
use Rattle.strm_host_laws.proofs.TurnsStand.{Holds}
use Rattle.strm_host_laws.proofs.Standing.{Holds-next}
use Rattle.strm_host_laws.proofs.Unmoved.{IsQuiet, WriterHost}
use Rattle.strm_host_laws.proofs.WrittenBack.{back-guests, back-here, back-length, CanTurn, turned-length}

-- ITEMS OF HOST WRITERS

-- a writer holds and will produce items, if another does
abbrev Feeding : Writer → Writer → Type 0
Feeding a b = Supplies a → Supplies b

past_items : (ss : ItemType) (room : Option ℕ) (items : List Item) → AreItems ss items → AreItems ss (past_room room items)
past_items ss None items h = tt
past_items ss (Some n) items h = AreItems-drop ss n items h

polled_supplies : (a : Writer) (room : Option ℕ) (said : WriterSaid) (more : List WriterSaid) → a.coming ≡ said ∷ more → Supplies a → Supplies (polled_writer a room said more)
polled_supplies a room said more e h =
    let all : All (SaidFits a.payload) (said ∷ more) = subst (All (SaidFits a.payload)) e h.coming in
    record {
      holds = past_items (item_type a.payload) room said.items (All-head (SaidFits a.payload) said more all);
      coming = All-tail (SaidFits a.payload) said more all;
    }

of_supplies : OfWriters Feeding
of_supplies = record {
  same = λ a h. h;
  joined = λ a b c f g h. g (f h);
  polled = polled_supplies;
  given = λ a k h. record { holds = AreItems-drop (item_type a.payload) k a.holds h.holds; coming = h.coming };
  closed = λ a h. record { holds = tt; coming = h.coming };
}

-- each host writer does
abbrev pub AllSupply : World → Type 0
AllSupply w = (n : ℕ) → Supplies (writer_at w n)

part-supplies : (w : World) (part : Part) → is_part part ≡ true → IfGoes (part_on w part) (λ reply v. OfEach Feeding of_supplies w v)
part-supplies w part p = by (part_on w part) (part-any w part p)
  where
    by : (o : Outcome) → Comes (OfEach Feeding of_supplies) (OfEach Feeding of_supplies) w o → IfGoes o (λ reply v. OfEach Feeding of_supplies w v)
    by (Goes reply v) h = h
    by (Stops stop writers readers) h = tt
    by Stuck h = tt

    part-any : (w : World) (part : Part) → is_part part ≡ true → Comes (OfEach Feeding of_supplies) (OfEach Feeding of_supplies) w (part_on w part)
    part-any w (Acts (OnHost n (Feed bytes))) p =
        feed-comes (OfEach Feeding of_supplies) (OfEach Feeding of_supplies) (rules-each Feeding of_supplies) (stopping-each Feeding of_supplies) w n bytes
        (λ e. with-each Feeding of_supplies w n (fed_writer (writer_at w n) bytes) (λ h. record { holds = h.holds; coming = h.coming }))
    part-any w (Acts (OnHost r (Grant count))) p = grant-each Feeding of_supplies w r count
    part-any w part p = part-each Feeding of_supplies w part p refl

-- THE STATE

-- what is known of the world before a moment
pub record Lives (first w : World) : Type 0 where
  pub holds : Holds w.state
  pub stands : Stands first w
  pub supplied : AllSupply w

-- a stream of a host writer was made
pub owned_made : (state : State) (s n : ℕ) → Holds state → (stream_at state s).writer.owner ≡ Host n → s < length state.streams
owned_made state s n h e = serving_made state Writing n s h.hosts ((h.hosts.serve Writing n s).serves e)

-- and no other is its
pub owned_once : (state : State) (s t n : ℕ) → Holds state → (stream_at state s).writer.owner ≡ Host n → (stream_at state t).writer.owner ≡ Host n → t ≡ s
owned_once state s t n h e f =
    let a : (producer_at state n).duty ≡ Serves s = (h.hosts.serve Writing n s).serves e in
    let b : (producer_at state n).duty ≡ Serves t = (h.hosts.serve Writing n t).serves f in
    let c : Serves t ≡ Serves s = sym b ∙ a in
    cc

pub owned_quiet : (state : State) (s n : ℕ) → Holds state → (stream_at state s).writer.owner ≡ Host n → IsQuiet (stream_at state s)
owned_quiet state s n h e = WriterHost n e ((h.hosts.serve Writing n s).idle e)

-- a turn in a drive round can be
pub drive_can : (first w : World) (part : Part) (v : World) (s n : ℕ) (read : Operation) → Lives first w → IsTurn Reading w part v s n read → CanTurn w s n read
drive_can first w part v s n read l t =
    let made = owned_made w.state s n l.holds t.owner in
    let placed = placed_at w.state s made l.holds.sound in
    record {
      made = made;
      owner = t.owner;
      placed = subst (OperationIsPlaced (sizes_of w.state.guests) (stream_in w s).payload) t.operation_is placed.reader;
      there = (l.stands.there s n t.owner).there;
    }

module _ (first w : World) (part : Part) (v : World) (end : NamedEnd) (address count n : ℕ) (l : Lives first w) (r : IsCall Reading w part v end address count n) where
  abbrev at : ℕ
  at = stream_of w end

  abbrev read : Operation
  read = called end address count

  abbrev open_world : World
  open_world = opened Reading w at read

  at_made : at < length w.state.streams
  at_made = r.begun.found.made

  pub opened_here : stream_in open_world at ≡ with_operation Reading (stream_in w at) read
  opened_here = back-here w at (with_operation Reading (stream_in w at) read) at_made

  -- its turn can be
  pub read_can : CanTurn open_world at n read
  read_can = record {
    made = subst (λ k. at < k) (sym (back-length w at (with_operation Reading (stream_in w at) read))) at_made;
    owner = ap (λ (x : Stream). x.writer.owner) opened_here ∙ r.owner;
    placed =
        subst (λ gs. IsPlaced (sizes_of gs) (stream_in open_world at).payload read) (sym (back-guests w at (with_operation Reading (stream_in w at) read)))
        (subst (λ p. IsPlaced (sizes_of w.state.guests) p read) (sym (ap (λ (x : Stream). x.payload) opened_here)) r.begun.placed);
    there = subst (λ ws. n < length ws) (sym (ap (λ (x : World). x.writers) (with_stream_in-same w at (with_operation Reading (stream_in w at) read) (record { writer = refl; reader = refl })))) (l.stands.there at n r.owner).there;
  }

  pub mid_made : at < length r.mid.state.streams
  mid_made = subst (λ k. at < k) (sym (turned-length open_world at n read r.mid r.turned read_can)) read_can.made

module _ (first w : World) (l : Lives first w) where
  -- a part that goes on
  pub goes_form : (part : Part) (reply : Reply) (v : World) → is_part part ≡ true → part_on w part ≡ Goes reply v → Form w part reply v
  goes_form part reply v p e = subst (λ o. IfGoes o (Form w part)) e (part-formed w l.holds part p)

  pub goes_lives : (part : Part) (reply : Reply) (v : World) → is_part part ≡ true → part_on w part ≡ Goes reply v → Lives first v
  goes_lives part reply v p e =
      let supplies : OfEach Feeding of_supplies w v = subst (λ o. IfGoes o (λ reply x. OfEach Feeding of_supplies w x)) e (part-supplies w part p) in
      let stands : Kept first w v = subst (Comes (Kept first) SameClosed w) e (part-closes first w part p) in
      record {
        holds = Holds-next w (record { part = part; before = w; reply = reply; after = v }) (record { begins = refl; part = p; goes = e }) l.holds;
        stands = stands l.stands;
        supplied = λ n. supplies n (l.supplied n);
      }

-- the world after a moment
pub follows_lives : (first : World) (m : HostMoment) → is_part m.part ≡ true → part_on m.before m.part ≡ Goes m.reply m.after → Lives first m.before → Lives first m.after
follows_lives first m p e l = goes_lives first m.before l m.part m.reply m.after p e
