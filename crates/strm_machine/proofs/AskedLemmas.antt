-- A bad item: where it is asked for, nothing moves and the store is trapped; and nothing else stops a
-- store that goes on.
use Rattle.std.proofs.Common.{◌≡◌, ℕ, ◌<◌, min, ℤ, arith, Bool, true, false, cond, List, Option, Some, None, inl, inr, refl, sym, ap, ◌∙◌, subst}
use Rattle.std.proofs.lemmas.Bool.{cond_both, ne_eqb}
use Rattle.std.proofs.lemmas.Bool.Decides.{eqb_tells}
use Rattle.std.proofs.lemmas.List.{set-get_or}
use Rattle.std.specs.Option.{option_map}
use Rattle.strm_codes.specs.declared.codes.ReturnCode.{ReturnCode}
use Rattle.strm_machine.specs.Words.{Guest, Payload, item_type, items_at, memory_in, with_memory, stored_at, no_stream, act_of, State, stream_at, end_of, opposite, same_side, carried, Operated, named, stream_named, Reaction, goes, operates, react, NamedEnd, Operate, OnEnd, Side, Writing, Reading, Operation, Stream, Step}
use Rattle.strm_machine.specs.State.{is_gone}
use Rattle.strm_machine.specs.Sides.{write_of, read_of}
use Rattle.strm_machine.specs.Meetings.{meeting_of, begun}
use Rattle.strm_machine.specs.Operating.{learns, waits, moves, completes_alone, rendezvous, rendezvous_by, finds, operate}
use Rattle.strm_machine.specs.Tests.{items_asked}
use Rattle.strm_machine.specs.Refusals.{refusal}
use Rattle.strm_machine.specs.Reactions.{written_back, on_stream, performs}
use Rattle.strm_machine.specs.Plays.{is_settled}
use Rattle.strm_machine.specs.Asked.{HasBadItem}
use Rattle.strm_machine.specs.declared.streams.Meeting.{Meeting}
use Rattle.strm_machine.specs.declared.streams.Meeting.TheVariants.{BothComplete, WriteCompletes, ReadCompletes}
use Rattle.strm_machine.specs.declared.replies.Reply.TheVariants as replies
use Rattle.strm_machine.proofs.CarryLemmas.{carried_none}
use Rattle.strm_machine.proofs.ReactionLemmas.{reaction-by, reaction-trapped, reaction-performs, performs-on_end}
use Rattle.strm_machine.proofs.Ways.{Standing, IsDone, Way, OperatesOne, SetsOne, AddsOne, SetsNone}
use Rattle.strm_machine.proofs.ShapeLemmas.{performs-known}

-- ## Who completes

-- where mine meets theirs
abbrev meeting_at : Side → Operation → Operation → Meeting
meeting_at side mine theirs = meeting_of (write_of side mine theirs).left (read_of side mine theirs).left

both_complete : (w r : ℕ) → 0 < w → 0 < r → meeting_of w r ≡ BothComplete
both_complete w r h k = rw (ne_eqb w 0 (λ e. omega arith), ne_eqb r 0 (λ e. omega arith)) refl

both_have : (w r : ℕ) → meeting_of w r ≡ BothComplete → (0 < w) × (0 < r)
both_have w r e =
    elim (eqb_tells w 0) [
      | inl t ↦ absurd (let wrong = rw t.0 at e in cc)
      | inr t ↦ elim (eqb_tells r 0) [
        | inl u ↦ absurd (let wrong = rw (t.0, u.0) at e in cc)
        | inr u ↦ (omega (arith, t.1), omega (arith, u.1))
      ]
    ]

meets_both : (side : Side) (mine theirs : Operation) → 0 < mine.left → 0 < theirs.left → meeting_at side mine theirs ≡ BothComplete
meets_both Writing mine theirs h k = both_complete mine.left theirs.left h k
meets_both Reading mine theirs h k = both_complete theirs.left mine.left k h

sides_have : (side : Side) (mine theirs : Operation) → meeting_at side mine theirs ≡ BothComplete → (0 < mine.left) × (0 < theirs.left)
sides_have Writing mine theirs e = both_have mine.left theirs.left e
sides_have Reading mine theirs e = let h = both_have theirs.left mine.left e in (h.1, h.0)

-- ## A turn

-- an open operation waits, both have items left, and one of those that would move is none
record MeetsBad (side : Side) (guests : List Guest) (stream : Stream) (mine : Operation) : Type 0 where
  theirs : Operation
  there : is_gone (end_of (opposite side) stream).owner ≡ false
  waits : (end_of (opposite side) stream).operation ≡ Some theirs
  opened : theirs.is_open ≡ true
  asks : 0 < mine.left
  left : 0 < theirs.left
  bad : items_at (item_type stream.payload) (memory_in guests (write_of side mine theirs).guest) (write_of side mine theirs).address (min mine.left theirs.left) ≡ None

-- then there is no code, and guests and stream stay
abbrev no_code : List Guest → Stream → Operated
no_code guests stream = record { code = None; guests = guests; stream = stream }

not_lifted : (guests : List Guest) (payload : Payload) (write read : Operation) (n : ℕ) → carried guests payload write read n ≡ None → items_at (item_type payload) (memory_in guests write.guest) write.address n ≡ None
not_lifted guests payload write read n = only_none (items_at (item_type payload) (memory_in guests write.guest) write.address n)
  where
    only_none : (o : Option (List (List ℤ))) → option_map (λ xs. with_memory guests read.guest (stored_at (item_type payload) (memory_in guests read.guest) read.address xs)) o ≡ None → o ≡ None
    only_none None e = refl
    only_none (Some xs) e = cc

module _ (side : Side) (guests : List Guest) (stream : Stream) (mine : Operation) where
  operate-bad : MeetsBad side guests stream mine → operate side guests stream mine ≡ no_code guests stream
  unfolding operate
  operate-bad h =
      let theirs = h.theirs in
      let n = min mine.left theirs.left in
      ap (λ b. cond b (learns side guests stream) (finds side guests stream mine (end_of (opposite side) stream).operation)) h.there
      ∙ ap (finds side guests stream mine) h.waits
      ∙ ap (λ b. cond b (rendezvous side guests stream mine theirs) (waits side guests stream mine)) h.opened
      ∙ ap (λ m. rendezvous_by m side guests stream mine theirs) (meets_both side mine theirs h.asks h.left)
      ∙ ap (moves side guests stream mine theirs n) (carried_none guests stream.payload (write_of side mine theirs) (read_of side mine theirs) n h.bad)

  not_carried : (theirs : Operation) (n : ℕ) (o : Option (List Guest)) → (moves side guests stream mine theirs n o).code ≡ None → o ≡ None
  not_carried theirs n None e = refl
  not_carried theirs n (Some after) e = cc

  alone_answers : (who : Side) (theirs : Operation) → (completes_alone who side guests stream mine theirs).code ≡ None → ⊥
  alone_answers who theirs = cond_both (same_side who side) _ _ (λ (t : Operated). t.code ≡ None → ⊥) (λ b e. cc) (λ b e. cc)

  module _ (there : is_gone (end_of (opposite side) stream).owner ≡ false) where
    bad-rendezvous : (theirs : Operation) → (end_of (opposite side) stream).operation ≡ Some theirs → theirs.is_open ≡ true → (m : Meeting) → meeting_at side mine theirs ≡ m → (rendezvous_by m side guests stream mine theirs).code ≡ None → MeetsBad side guests stream mine
    bad-rendezvous theirs w o BothComplete m e =
        let have = sides_have side mine theirs m in
        let none = not_carried theirs (min mine.left theirs.left) _ e in
        record { theirs = theirs; there = there; waits = w; opened = o; asks = have.0; left = have.1; bad = not_lifted guests stream.payload (write_of side mine theirs) (read_of side mine theirs) (min mine.left theirs.left) none }
    bad-rendezvous theirs w o WriteCompletes m e = absurd (alone_answers Writing theirs e)
    bad-rendezvous theirs w o ReadCompletes m e = absurd (alone_answers Reading theirs e)

    bad-finds : (o : Option Operation) → (end_of (opposite side) stream).operation ≡ o → (finds side guests stream mine o).code ≡ None → MeetsBad side guests stream mine
    bad-finds None w = λ e. cc
    bad-finds (Some theirs) w =
        cond_both theirs.is_open _ _ (λ (t : Operated). t.code ≡ None → MeetsBad side guests stream mine)
        (λ o. bad-rendezvous theirs w o _ refl)
        (λ o e. cc)

  bad-turn : (operate side guests stream mine).code ≡ None → MeetsBad side guests stream mine
  unfolding operate
  bad-turn =
      cond_both (is_gone (end_of (opposite side) stream).owner) _ _ (λ (t : Operated). t.code ≡ None → MeetsBad side guests stream mine)
      (λ g e. cc)
      (λ g. bad-finds g (end_of (opposite side) stream).operation refl)

-- ## What stops a store

-- a step that is done: a run goes on, and the store is trapped only where it was
pub record Proceeds (state : State) (r : Reaction) : Type 0 where
  pub settled : is_settled r.reply ≡ true
  pub trapped : r.state.trapped ≡ state.trapped

stands : (state : State) (r : Reaction) → IsDone state r → Proceeds state r
stands state r e = record { settled = ap (λ (k : Standing). k.settled) e; trapped = ap (λ (k : Standing). k.trapped) e }

-- ## A read or write

-- the stop at a bad item of stream s
abbrev pub trapped_by : State → ℕ → Reaction
trapped_by state s = goes (replies.BadItem s) (record state { trapped = true })

on_stream-bad : (state : State) (s : ℕ) (side : Side) (mine : Operation) → MeetsBad side state.guests (stream_at state s) mine → on_stream state s side mine ≡ trapped_by state s
on_stream-bad state s side mine h =
    ap (λ (t : Operated). written_back state s t t.code) (operate-bad side state.guests (stream_at state s) mine h)
    ∙ ap (λ streams. goes (replies.BadItem s) (record state { streams = streams; trapped = true })) (set-get_or state.streams s no_stream)

pub bad-traps : (state : State) (step : Step) (s : ℕ) → state.trapped ≡ false → HasBadItem state step s → react state step ≡ trapped_by state s
bad-traps state step s t h =
    let a = h.asked in
    reaction-performs state (act_of step) t a.unrefused
    ∙ ap (performs state) a.does
    ∙ performs-on_end state a.side a.end (Operate a.address a.count)
    ∙ ap (λ n. on_stream state n a.side (begun a.end.guest a.address (items_asked a.end.ty a.count))) a.stream
    ∙ ap (on_stream state s a.side) (sym a.begins)
    ∙ on_stream-bad state s a.side a.mine (record { theirs = a.theirs; there = a.there; waits = a.waits; opened = a.opened; asks = a.asks; left = a.left; bad = h.bad })

module _ (P : Reaction → Type 0) (state : State) (step : Step) (bad : (s : ℕ) → HasBadItem state step s → P (trapped_by state s)) (done : (r : Reaction) → Proceeds state r → P r) where
  module _ (side : Side) (end : NamedEnd) (address count : ℕ) (does : act_of step ≡ OnEnd side end (Operate address count)) (unrefused : refusal state (act_of step) ≡ None) where
    abbrev s : ℕ
    s = stream_named (named state end)

    abbrev mine : Operation
    mine = begun end.guest address (items_asked end.ty count)

    abbrev t : Operated
    t = operate side state.guests (stream_at state s) mine

    asked_bad : MeetsBad side state.guests (stream_at state s) mine → HasBadItem state step s
    asked_bad m = record {
      asked = record { side = side; end = end; address = address; count = count; does = does; unrefused = unrefused; stream = refl; mine = mine; begins = refl; asks = m.asks; theirs = m.theirs; there = m.there; waits = m.waits; opened = m.opened; left = m.left };
      bad = m.bad;
    }

    by_code : (o : Option ReturnCode) → t.code ≡ o → P (written_back state s t o)
    by_code None e =
        let m = bad-turn side state.guests (stream_at state s) mine e in
        subst P (sym (ap (written_back state s t) (sym e) ∙ on_stream-bad state s side mine m)) (bad s (asked_bad m))
    by_code (Some code) e = done _ (record { settled = refl; trapped = refl })

    operates-by : P (operates state side end address count)
    operates-by = by_code t.code refl

  way-by : (r : Reaction) → Way state (act_of step) r → refusal state (act_of step) ≡ None → P r
  way-by r (OperatesOne side end address count does e) u = subst P (sym e) (operates-by side end address count does u)
  way-by r (SetsOne s x d e h) u = done r (stands state r d)
  way-by r (AddsOne x d e h) u = done r (stands state r d)
  way-by r (SetsNone d e) u = done r (stands state r d)

  -- a store that is not trapped goes on, or a bad item is asked for
  pub react-by : state.trapped ≡ false → P (react state step)
  react-by untrapped =
      reaction-by P state (act_of step)
      (λ e. absurd (let wrong : true ≡ false = sym e ∙ untrapped in cc))
      (λ r e. done _ (record { settled = refl; trapped = refl }))
      (way-by (performs state (act_of step)) (performs-known state (act_of step)).way)

-- ## Both ways

-- the reply names the stream
pub reply-bad : (state : State) (step : Step) (s : ℕ) → state.trapped ≡ false → (react state step).reply ≡ replies.BadItem s → HasBadItem state step s
reply-bad state step s t =
    react-by (λ r. r.reply ≡ replies.BadItem s → HasBadItem state step s) state step
    (λ n h e. let same : n ≡ s = cc in subst (HasBadItem state step) same h)
    (λ r g e. absurd (let wrong : true ≡ false = sym g.settled ∙ ap is_settled e in cc)) t

-- a store that a step traps was asked for a bad item
pub trapped-bad : (state : State) (step : Step) → state.trapped ≡ false → (react state step).state.trapped ≡ true → (s : ℕ) × HasBadItem state step s
trapped-bad state step t =
    react-by (λ r. r.state.trapped ≡ true → (s : ℕ) × HasBadItem state step s) state step
    (λ s h e. (s, h))
    (λ r g e. absurd (let wrong : true ≡ false = sym e ∙ g.trapped ∙ t in cc)) t

-- only a trapped store answers so
pub told-trapped : (state : State) (step : Step) → (react state step).reply ≡ replies.StoreTrapped → state.trapped ≡ true
told-trapped state step e = by_flag state.trapped refl
  where
    by_flag : (b : Bool) → state.trapped ≡ b → b ≡ true
    by_flag true t = refl
    by_flag false t =
        absurd (react-by (λ r. r.reply ≡ replies.StoreTrapped → ⊥) state step
        (λ s h f. cc)
        (λ r g f. let wrong : true ≡ false = sym g.settled ∙ ap is_settled f in cc) t e)

-- at a bad item nothing changes but that the store is trapped
pub bad-keeps : (state : State) (step : Step) (s : ℕ) → (react state step).reply ≡ replies.BadItem s → (react state step).state ≡ record state { trapped = true }
bad-keeps state step s e = by_flag state.trapped refl
  where
    by_flag : (b : Bool) → state.trapped ≡ b → (react state step).state ≡ record state { trapped = true }
    by_flag true t = absurd (let f = sym (ap (λ (r : Reaction). r.reply) (reaction-trapped state (act_of step) t)) ∙ e in cc)
    by_flag false t = ap (λ (r : Reaction). r.state) (bad-traps state step s t (reply-bad state step s t e))
