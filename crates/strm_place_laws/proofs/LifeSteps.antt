-- What a step hands to the laws where numbers are given again: a making is seen of no stream but its own, and
-- all else is the machine's.
use Rattle.std.proofs.Common.{◌≡◌, ◌≢◌, ℕ, ◌+◌, ◌^◌, ◌≤◌, Bool, true, false, List, length, set, None, refl, sym, ap, ◌∙◌, subst, inl, inr, arith, ⊎_elim}
use Rattle.std.specs.Prelude.{All, IsSome, ◌&&◌}
use Rattle.std.proofs.Math.Bool.{and-false}
use Rattle.std.proofs.lemmas.Bool.{cases_eq, cases_lt, eq-eqb, eqb-true}
use Rattle.std.proofs.lemmas.List.{length-set, get_or_past}
use Rattle.std.proofs.lemmas.List.Elements.{All-set}
use Rattle.strm_codes.specs.declared.codes.TransmitIndex.{TransmitIndex}
use Rattle.strm_handles.specs.Handles.{inserted}
use Rattle.strm_memory.specs.Bytes.{IsBytes, bytes_at}
use Rattle.strm_machine.specs.Words.{Guest, Handles, State, no_stream, no_guest, guest_in, memory_in, stream_at, end_of, with_handles, Reaction, goes, act_of, react, received, got_in, both_open}
use Rattle.strm_machine.specs.declared.streams.Stream.{Stream}
use Rattle.strm_machine.specs.declared.streams.Side.{Side}
use Rattle.strm_machine.specs.declared.acts.Act.{Act}
use Rattle.strm_machine.specs.declared.streams.Side.TheVariants.{Writing, Reading}
use Rattle.strm_machine.specs.Moments.{PutsBytes}
use Rattle.strm_machine.specs.Making.{read_entry, write_entry, with_read_end}
use Rattle.strm_machine.specs.Refusals.{refusal}
use Rattle.strm_machine.specs.Reactions.{reaction}
use Rattle.strm_machine.specs.Asked.{HasBadItem}
use Rattle.strm_machine.specs.declared.steps.Step.{Step}
use Rattle.strm_machine.proofs.AskedLemmas.{bad-traps, bad-keeps, reply-bad}
use Rattle.strm_machine.specs.Untouched.{LieThere, StaysAside}
use Rattle.strm_machine.specs.declared.acts.Making.TheVariants as makings
use Rattle.strm_machine.specs.declared.acts.Act.TheVariants.{Transfer, OnHost, Drive, Event, OnSet, OnContext, Make, OnEnd, OnLoose, OnMemory}
use Rattle.strm_machine.specs.declared.replies.Reply.TheVariants as replies
use Rattle.strm_machine.proofs.Changes.{scene, Change}
use Rattle.strm_machine.proofs.TallyLemmas.{IsFresh as IsFreshEnd, Tallies}
use Rattle.strm_machine.proofs.ArrivalLemmas.{AreBytes, memory_bytes}
use Rattle.strm_machine.proofs.HeldLemmas.{StateIsHeld}
use Rattle.strm_machine.proofs.Lawful.{IsLawful, HasRoom, as_moment, Reacts}
use Rattle.strm_machine.proofs.LawfulLemmas.{reacts}
use Rattle.strm_machine.proofs.MomentLemmas.{Seen, untold, seen_same}
use Rattle.strm_machine.proofs.PutLemmas.{reaction-there}
use Rattle.strm_machine.proofs.ReactionLemmas.{reaction-trapped, reaction-refused, reaction-performs}
use Rattle.strm_machine.proofs.RefusalLemmas.{PairFits, pair_fits}
use Rattle.strm_machine.proofs.TableLemmas.{set-keeps}
use Rattle.strm_machine.proofs.UntouchedLemmas.{reaction-stays}
use Rattle.strm_places.specs.Again.{IsFree, made_pair_at, with_pair_at, is_making, performs_at, reaction_at, reacts_at}
use Rattle.strm_places.proofs.AgainLemmas.{stream_made, reaction_at-by, performs_at-other, reaction_at-other, IsSound-put_at}
use Rattle.strm_place_laws.specs.Lives.{tells_made, is_made_in}
use Rattle.strm_place_laws.proofs.RenamedStreams.{PutsOne, PutsOne-put}
use Rattle.strm_place_laws.proofs.RenamedRuns.{performs_many}

-- ## A step makes a stream of its number, or is the machine's and makes none

pub data Goes (n : ℕ) (state : State) (act : Act) (r : Reaction) : Type 0 where
  Makes : (writer reader : ℕ) (ty : TransmitIndex) → act ≡ Make (makings.Between writer reader ty) → PairFits state writer reader ty → r ≡ goes (replies.Pair (made_pair_at state n writer reader ty)) (with_pair_at state n writer reader ty) → Goes n state act r
  Rests : r ≡ reaction state act → length r.state.streams ≡ length state.streams → ((s : ℕ) → is_made_in s (as_moment state act r) ≡ false) → Goes n state act r

made_goes : (n : ℕ) (state : State) (act : Act) → is_making act ≡ true → refusal state act ≡ None → Goes n state act (performs_at n state act)
unfolding performs_at
made_goes n state (Make (makings.Between writer reader ty)) e free = Makes writer reader ty refl (pair_fits state writer reader ty free) refl
made_goes n state (Make (makings.Guest size)) e free = cc
made_goes n state (Make (makings.Set g)) e free = cc
made_goes n state (Make (makings.Context g address len)) e free = cc
made_goes n state (OnEnd side end act) e free = cc
made_goes n state (Transfer end to) e free = cc
made_goes n state (OnLoose reader act) e free = cc
made_goes n state (OnHost host act) e free = cc
made_goes n state Drive e free = cc
made_goes n state (Event g handle) e free = cc
made_goes n state (OnSet g set act) e free = cc
made_goes n state (OnContext g handle act) e free = cc
made_goes n state (OnMemory g act) e free = cc

performed_goes : (n : ℕ) (state : State) (act : Act) (b : Bool) → is_making act ≡ b → state.trapped ≡ false → refusal state act ≡ None → Goes n state act (performs_at n state act)
performed_goes n state act true e t free = made_goes n state act e free
performed_goes n state act false e t free =
    let same = performs_at-other n state act e in
    Rests (same ∙ sym (reaction-performs state act t free))
    (ap (λ (r : Reaction). length r.state.streams) same ∙ performs_many state act e)
    (λ s. ap (λ b. b && tells_made s (performs_at n state act).reply) e)

pub reaction_goes : (n : ℕ) (state : State) (act : Act) → Goes n state act (reaction_at n state act)
reaction_goes n state act =
    reaction_at-by (Goes n state act) n state act
    (record {
      trapped = λ t. Rests (sym (reaction-trapped state act t)) refl (λ s. and-false (is_making act));
      refused = λ why t e. Rests (sym (reaction-refused state act why t e)) refl (λ s. and-false (is_making act));
      performed = λ t e. performed_goes n state act (is_making act) refl t e;
    })

-- ## What is known of it

-- nothing was received on a stream, and no end of it has an operation
pub record IsFresh (s : ℕ) (state : State) : Type 0 where
  pub count : received s state ≡ 0
  pub idle : (side : Side) → (end_of side (stream_at state s)).operation ≡ None

-- of each stream that was not made in it one change, as of the machine's steps; one that was made is fresh
pub record GoesLawfully (state : State) (act : Act) (r : Reaction) : Type 0 where
  pub change : (s : ℕ) (side : Side) → is_made_in s (as_moment state act r) ≡ false → Change side (scene s side (as_moment state act r))
  pub whole : (s : ℕ) → is_made_in s (as_moment state act r) ≡ false → All IsSome (got_in s (as_moment state act r))
  pub kind : (s : ℕ) → is_made_in s (as_moment state act r) ≡ false → (stream_at r.state s).kind ≡ (stream_at state s).kind
  pub fresh : (s : ℕ) → is_made_in s (as_moment state act r) ≡ true → IsFresh s r.state
  pub most : (s : ℕ) → received s r.state ≤ received s state + 2 ^ 28
  pub lawful : IsLawful r.state

module _ (state : State) (act : Act) (h : IsLawful state) (room : HasRoom state) where
  -- the machine's
  module _ (bytes : PutsBytes act) where
    abbrev after : Reaction
    after = reaction state act

    machine : Reacts state act after
    machine = reacts state act bytes h room

    kind_stays : length after.state.streams ≡ length state.streams → (s : ℕ) → (stream_at after.state s).kind ≡ (stream_at state s).kind
    kind_stays many s =
        elim (cases_lt s (length state.streams)) [
          | inl l ↦ (machine.made s l).kind
          | inr l ↦ ap (λ (x : Stream). x.kind) (get_or_past after.state.streams s no_stream (omega (arith, l, many)) ∙ sym (get_or_past state.streams s no_stream l))
        ]

    rests : length after.state.streams ≡ length state.streams → ((s : ℕ) → is_made_in s (as_moment state act after) ≡ false) → GoesLawfully state act after
    rests many unmade = record {
      change = λ s side u. machine.change s side;
      whole = λ s u. machine.whole s;
      kind = λ s u. kind_stays many s;
      fresh = λ s e. absurd (let wrong : true ≡ false = sym e ∙ unmade s in cc);
      most = machine.most;
      lawful = machine.lawful;
    }

-- a making in a free place
module _ (n : ℕ) (state : State) (h : IsLawful state) (held : StateIsHeld state) (free : IsFree state.streams n) (writer reader : ℕ) (ty : TransmitIndex) (fits : PairFits state writer reader ty) where
  abbrev making : Act
  making = Make (makings.Between writer reader ty)

  abbrev made : Stream
  made = stream_made state writer reader ty

  abbrev pub goes_then : Reaction
  goes_then = goes (replies.Pair (made_pair_at state n writer reader ty)) (with_pair_at state n writer reader ty)

  pub puts : PutsOne state.streams n made goes_then.state.streams
  unfolding with_pair_at
  puts = PutsOne-put state.streams n made free refl

  pub here : stream_at goes_then.state n ≡ made
  here = puts.here

  pub same : (s : ℕ) → s ≢ n → stream_at goes_then.state s ≡ stream_at state s
  same s ne =
      elim (cases_lt s (length goes_then.state.streams)) [
        | inl l ↦ puts.same s ne l
        | inr l ↦ get_or_past goes_then.state.streams s no_stream l ∙ sym (get_or_past state.streams s no_stream (omega (arith, l, puts.grows)))
      ]

  -- what holds of the stream that is made, and of those before, holds of each
  pub of_each : (P : Stream → Type 0) → P made → ((s : ℕ) → P (stream_at state s)) → (s : ℕ) → P (stream_at goes_then.state s)
  of_each P new old s =
      ⊎_elim
      (λ q. subst (λ k. P (stream_at goes_then.state k)) (sym q) (subst P (sym here) new))
      (λ ne. subst P (sym (same s ne)) (old s))
      (cases_eq s n)

  pub apart_from : (s : ℕ) → is_made_in s (as_moment state making goes_then) ≡ false → s ≢ n
  apart_from s u q = let wrong : true ≡ false = sym (eq-eqb n s (sym q)) ∙ u in cc

  pub is_it : (s : ℕ) → is_made_in s (as_moment state making goes_then) ≡ true → s ≡ n
  is_it s e = sym (eqb-true n s e)

  seen : (s : ℕ) → is_made_in s (as_moment state making goes_then) ≡ false → Seen s (as_moment state making goes_then)
  seen s u = seen_same s (as_moment state making goes_then) (λ side. untold s side (as_moment state making goes_then) refl) (same s (apart_from s u)) (h.apart s) (h.tallies s)

  none_waits : (side : Side) → (end_of side made).operation ≡ None
  none_waits Writing = refl
  none_waits Reading = refl

  fresh : (s : ℕ) → s ≡ n → IsFresh s goes_then.state
  fresh s q = subst (λ k. IsFresh k goes_then.state) (sym q) (record {
    count = ap (λ (x : Stream). x.received) here;
    idle = λ side. ap (λ (x : Stream). (end_of side x).operation) here ∙ none_waits side;
  })

  few : (s : ℕ) → received s goes_then.state ≤ received s state + 2 ^ 28
  few s =
      ⊎_elim
      (λ q. omega (arith, (fresh s q).count))
      (λ ne. omega (arith, ap (λ (x : Stream). x.received) (same s ne)))
      (cases_eq s n)

  none_passed : (side : Side) → IsFreshEnd (end_of side made).operation made
  none_passed side e = refl

  bytes_set : (guests : List Guest) (g : ℕ) (handles : Handles) → AreBytes guests → AreBytes (with_handles guests g handles)
  bytes_set guests g handles b = All-set (λ (k : Guest). IsBytes k.memory) guests g (record (guest_in guests g) { handles = handles }) (memory_bytes guests g b) b

  bytes_made : AreBytes goes_then.state.guests
  unfolding with_pair_at
  bytes_made = bytes_set (with_read_end state.guests reader ty n) writer _ (bytes_set state.guests reader _ h.bytes)

  lawful_made : IsLawful goes_then.state
  lawful_made = record {
    sound = IsSound-put_at state n writer reader ty free held fits h.sound;
    bytes = bytes_made;
    apart = of_each (λ x. both_open x ≡ false) refl h.apart;
    tallies = of_each Tallies (record { writing = tt; reading = tt; one = λ k. record { writing = tt; reading = tt; count = refl; fresh = none_passed } }) h.tallies;
  }

  makes_lawfully : GoesLawfully state making goes_then
  makes_lawfully = record {
    change = λ s side u. (seen s u).change side;
    whole = λ s u. (seen s u).whole;
    kind = λ s u. ap (λ (x : Stream). x.kind) (same s (apart_from s u));
    fresh = λ s e. fresh s (is_it s e);
    most = few;
    lawful = lawful_made;
  }

  -- memories stay
  memory_set : (guests : List Guest) (g : ℕ) (handles : Handles) (k : ℕ) → memory_in (with_handles guests g handles) k ≡ memory_in guests k
  memory_set guests g handles k = set-keeps (λ (x : Guest). x.memory) guests g k (record (guest_in guests g) { handles = handles }) no_guest refl

  memory_made : (k : ℕ) → memory_in goes_then.state.guests k ≡ memory_in state.guests k
  unfolding with_pair_at
  memory_made k = memory_set (with_read_end state.guests reader ty n) writer _ k ∙ memory_set state.guests reader _ k

  guests_made : length state.guests ≤ length goes_then.state.guests
  unfolding with_pair_at
  guests_made = omega (arith, length-set state.guests reader (record (guest_in state.guests reader) { handles = inserted (guest_in state.guests reader).handles (read_entry ty n) }), length-set (with_read_end state.guests reader ty n) writer (record (guest_in (with_read_end state.guests reader ty n) writer) { handles = inserted (guest_in (with_read_end state.guests reader ty n) writer).handles (write_entry ty n) }))

  aside_made : StaysAside (as_moment state making goes_then)
  aside_made = record {
    guests = guests_made;
    size = λ g l. ap length (memory_made g);
    bytes = λ r l u. ap (λ m. bytes_at m r.place.address r.size) (memory_made r.place.guest);
  }

-- ## Whichever step

module _ (n : ℕ) (state : State) (act : Act) (h : IsLawful state) (held : StateIsHeld state) (free : IsFree state.streams n) where
  pub goes_lawfully : PutsBytes act → HasRoom state → GoesLawfully state act (reaction_at n state act)
  goes_lawfully bytes room = by (reaction_at n state act) (reaction_goes n state act)
    where
      by : (r : Reaction) → Goes n state act r → GoesLawfully state act r
      by r (Makes writer reader ty does fits e) = rw (e, does) (makes_lawfully n state h held free writer reader ty fits)
      by r (Rests e many unmade) =
          subst (λ x. length x.state.streams ≡ length state.streams → ((s : ℕ) → is_made_in s (as_moment state act x) ≡ false) → GoesLawfully state act x) (sym e) (rests state act h room bytes) many unmade

  pub goes_aside : HasRoom state → StaysAside (as_moment state act (reaction_at n state act))
  goes_aside room = by (reaction_at n state act) (reaction_goes n state act)
    where
      by : (r : Reaction) → Goes n state act r → StaysAside (as_moment state act r)
      by r (Makes writer reader ty does fits e) = rw (e, does) (aside_made n state h held free writer reader ty fits)
      by r (Rests e many unmade) = rw e (reaction-stays state act h.sound room)

  pub goes_there : LieThere (as_moment state act (reaction_at n state act))
  goes_there = by (reaction_at n state act) (reaction_goes n state act)
    where
      by : (r : Reaction) → Goes n state act r → LieThere (as_moment state act r)
      by r (Makes writer reader ty does fits e) = rw (e, does) refl
      by r (Rests e many unmade) = rw e (reaction-there state act h.sound)

-- ## Bad items

-- what a step goes by answers a pair, or is the machine's
bad_same : (n : ℕ) (state : State) (act : Act) (s : ℕ) (r : Reaction) → Goes n state act r → r.reply ≡ replies.BadItem s → r ≡ reaction state act
bad_same n state act s r (Makes writer reader ty does fits e) q = let wrong : replies.Pair (made_pair_at state n writer reader ty) ≡ replies.BadItem s = sym (ap (λ (x : Reaction). x.reply) e) ∙ q in cc
bad_same n state act s r (Rests e many unmade) q = e

module _ (n : ℕ) (state : State) (step : Step) (s : ℕ) where
  machine_bad : (reacts_at n state step).reply ≡ replies.BadItem s → reacts_at n state step ≡ react state step
  machine_bad = bad_same n state (act_of step) s (reacts_at n state step) (reaction_goes n state (act_of step))

  pub bad_asked : state.trapped ≡ false → (reacts_at n state step).reply ≡ replies.BadItem s → HasBadItem state step s
  bad_asked t e = reply-bad state step s t (sym (ap (λ (r : Reaction). r.reply) (machine_bad e)) ∙ e)

  -- a step that asks to move items makes no stream
  asks_none : HasBadItem state step s → is_making (act_of step) ≡ false
  asks_none h = ap is_making h.asked.does

  pub asked_bad : state.trapped ≡ false → HasBadItem state step s → (reacts_at n state step).reply ≡ replies.BadItem s
  asked_bad t h = ap (λ (r : Reaction). r.reply) (reaction_at-other n state (act_of step) (asks_none h) ∙ bad-traps state step s t h)

  pub bad_keeps : (reacts_at n state step).reply ≡ replies.BadItem s → (reacts_at n state step).state ≡ record state { trapped = true }
  bad_keeps e =
      let same = machine_bad e in
      ap (λ (r : Reaction). r.state) same ∙ bad-keeps state step s (sym (ap (λ (r : Reaction). r.reply) same) ∙ e)
