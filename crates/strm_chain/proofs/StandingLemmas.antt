-- Where the guests of a joined chain stand, by the machine.
use Rattle.std.specs.Prelude.{IsSome}
use Rattle.std.proofs.Common.{◌≡◌, ◌≢◌, ℕ, ◌+◌, ◌-◌, ◌<◌, ◌≤◌, true, false, List, length, refl, sym, ap, ◌∙◌, inl, inr, arith}
use Rattle.std.proofs.lemmas.Bool.{cases_eq, cases_lt, cases_Bool, ne_eqb, eq-eqb}
use Rattle.std.proofs.lemmas.List.{get_or_past}
use Rattle.strm_machine.specs.State.{stream_at, no_stream, is_gone}
use Rattle.strm_machine.specs.Sides.{end_of}
use Rattle.strm_machine.specs.declared.streams.Side.{Side}
use Rattle.strm_machine.specs.declared.streams.Side.TheVariants.{Writing as AWrite, Reading as ARead}
use Rattle.strm_machine.specs.declared.streams.Owner.TheVariants.{Held}
use Rattle.strm_machine.specs.declared.streams.Stream.{Stream}
use Rattle.strm_laws.specs.Laws.{waiting}
use Rattle.strm_chain.specs.declared.workers.Worker.{Worker}
use Rattle.strm_chain.specs.declared.workers.Doing.TheVariants.{Nothing, Reading, Writing, Ended}
use Rattle.strm_chain.specs.Playing.{ChainPlay}
use Rattle.strm_chain.specs.Turning.{HasOperation, guest_has_ended}
use Rattle.strm_chain.specs.Turned.{IsAt}
use Rattle.strm_chain.specs.Keeping.{worker_at, sink_of, IsJoined, IsGoing}
use Rattle.strm_chain.proofs.StayLemmas.{no_operation}
use Rattle.strm_chain.proofs.TurnedLemmas.{apart_doing, held_same, one_handle}
use Rattle.strm_chain.proofs.ReadTurnLemmas.{before_it, behind_it}
use Rattle.strm_chain.proofs.EndLemmas.{ended_or, held_stays}

-- what a guest is at, and where it stands
pub record Stands (sink g : ℕ) (w : Worker) (p : ChainPlay) : Type 0 where
  pub ended : w.doing ≡ Ended → guest_has_ended sink g p ≡ true
  pub going : w.doing ≢ Ended → guest_has_ended sink g p ≡ false
  pub busy : (handle : ℕ) → IsAt w handle → HasOperation g handle p.state
  pub free : w.doing ≡ Nothing → (handle : ℕ) → ¬ HasOperation g handle p.state

module _ (p : ChainPlay) (ws : List Worker) (go : IsGoing p ws) (g : ℕ) (l : g < length ws) where
  abbrev j : IsJoined p ws
  j = go.joined

  abbrev w : Worker
  w = worker_at ws g

  abbrev sink : ℕ
  sink = length ws - 1

  at_sink : g ≡ sink → guest_has_ended sink g p ≡ (sink_of ws).closed
  at_sink e = rw (eq-eqb g sink e) go.told

  before_sink : g ≢ sink → guest_has_ended sink g p ≡ is_gone (stream_at p.state g).writer.owner
  before_sink ne = rw (ne_eqb g sink ne) refl

  more_there : g ≢ sink → g + 1 < length ws
  more_there ne = elim (cases_lt (g + 1) (length ws)) [ inl x ↦ x | inr x ↦ absurd (ne (omega (arith, x, l))) ]

  stands_ended : w.doing ≡ Ended → guest_has_ended sink g p ≡ true
  stands_ended d = elim (cases_eq g sink) [
    | inl e ↦ at_sink e ∙ j.sink.ends (ap (λ n. (worker_at ws n).doing) (sym e) ∙ d)
    | inr ne ↦ before_sink ne ∙ (j.joins g (more_there ne)).writes.gone d
  ]

  stands_going : w.doing ≢ Ended → guest_has_ended sink g p ≡ false
  stands_going d = elim (cases_eq g sink) [
    | inl e ↦ at_sink e ∙ elim (cases_Bool (sink_of ws).closed) [
      | inl c ↦ absurd (d (ap (λ n. (worker_at ws n).doing) e ∙ j.sink.ended c))
      | inr c ↦ c
    ]
    | inr ne ↦ before_sink ne ∙ ap is_gone ((j.joins g (more_there ne)).writes.owner d)
  ]

  stands_busy : (handle : ℕ) → IsAt w handle → HasOperation g handle p.state
  stands_busy handle (inl x) =
      let s = g - 1 in
      let b = before_it p ws g handle j l x.1 in
      let r = (j.joins s b.there).reads in
      record {
        stream = s;
        side = ARead;
        held = r.owner ∙ held_same g (s + 1) r.handle handle (sym b.is) (one_handle w.read r.handle handle (ap (λ n. (worker_at ws n).read) b.is ∙ r.has) x.1);
        waits = r.busy (ap (λ n. (worker_at ws n).doing) (sym b.is) ∙ x.0);
      }
  stands_busy handle (inr x) =
      let h = (j.joins g (behind_it p ws g handle j l x.1)).writes in
      record {
        stream = g;
        side = AWrite;
        held = h.owner (apart_doing w Writing Ended x.0 (λ e. cc)) ∙ held_same g g h.handle handle refl (one_handle w.write h.handle handle h.has x.1);
        waits = h.busy x.0;
      }

  -- no end of a stream that was not made is held
  unmade : (k : ℕ) → length ws ≤ k + 1 → stream_at p.state k ≡ no_stream
  unmade k far = get_or_past p.state.streams k no_stream (omega (arith, j.streams, far))

  free_by : w.doing ≡ Nothing → (handle k : ℕ) (side : Side) → (end_of side (stream_at p.state k)).owner ≡ Held g handle → IsSome (waiting k side p.state) → ⊥
  free_by d handle k AWrite held waits = elim (cases_lt (k + 1) (length ws)) [
    | inl more ↦ (let h = (j.joins k more).writes in elim (ended_or (worker_at ws k).doing) [
      | inl e ↦ held_stays (stream_at p.state k).writer.owner g handle held (h.gone e)
      | inr ne ↦ (let both : Held k h.handle ≡ Held g handle = sym (h.owner ne) ∙ held in
          let same : k ≡ g = cc in
          no_operation (stream_at p.state k).writer.operation
          (h.idle (apart_doing (worker_at ws k) Nothing Writing (ap (λ n. (worker_at ws n).doing) same ∙ d) (λ e. cc))) waits)
    ])
    | inr far ↦ no_operation (stream_at p.state k).writer.operation (ap (λ (x : Stream). x.writer.operation) (unmade k far)) waits
  ]
  free_by d handle k ARead held waits = elim (cases_lt (k + 1) (length ws)) [
    | inl more ↦ (let r = (j.joins k more).reads in
        let both : Held (k + 1) r.handle ≡ Held g handle = sym r.owner ∙ held in
        let same : k + 1 ≡ g = cc in
        no_operation (stream_at p.state k).reader.operation
        (r.idle (apart_doing (worker_at ws (k + 1)) Nothing Reading (ap (λ n. (worker_at ws n).doing) same ∙ d) (λ e. cc))) waits)
    | inr far ↦ no_operation (stream_at p.state k).reader.operation (ap (λ (x : Stream). x.reader.operation) (unmade k far)) waits
  ]

  pub stands : Stands sink g w p
  stands = record {
    ended = stands_ended;
    going = stands_going;
    busy = stands_busy;
    free = λ d handle o. free_by d handle o.stream o.side o.held o.waits;
  }
