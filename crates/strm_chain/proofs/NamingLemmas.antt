-- Which ends the steps of a guest name, and why none of them was refused.
use Rattle.std.proofs.Common.{◌≡◌, ◌≢◌, ℕ, Bool, true, false, Ok, Err, None, refl, sym, ap, ◌∙◌, subst}
use Rattle.std.specs.Prelude.{◌==◌, ◌&&◌}
use Rattle.std.proofs.lemmas.Bool.{eqb-true, ne_eqb}
use Rattle.strm_machine.specs.State.{State, stream_at}
use Rattle.strm_machine.specs.Sides.{end_of, same_side}
use Rattle.strm_machine.specs.Soundness.{IsSound}
use Rattle.strm_machine.specs.Tests.{Name, named, end_named, side_of, stream_named, side_named}
use Rattle.strm_machine.specs.Moments.{Moment, is_end, names}
use Rattle.strm_machine.specs.Refusals.{refusal}
use Rattle.strm_machine.specs.Reactions.{Reaction, goes, performs, reaction}
use Rattle.strm_machine.specs.declared.streams.Side.{Side}
use Rattle.strm_machine.specs.declared.streams.Side.TheVariants.{Writing, Reading}
use Rattle.strm_machine.specs.declared.streams.Owner.TheVariants.{Held}
use Rattle.strm_machine.specs.declared.acts.NamedEnd.{NamedEnd}
use Rattle.strm_machine.specs.declared.acts.Act.{Act}
use Rattle.strm_machine.specs.declared.acts.Act.TheVariants.{OnEnd, Event}
use Rattle.strm_machine.specs.declared.acts.EndAct.TheVariants.{Operate, Drop}
use Rattle.strm_machine.specs.declared.replies.Reply.{Reply}
use Rattle.strm_machine.proofs.ReactionLemmas.{reaction-by, refusal-on_end}
use Rattle.strm_machine.proofs.RefusalLemmas.{event_fits, drop_fits, named_ok}
use Rattle.strm_machine.proofs.NamedEndLemmas.{NamesEnd, IsFound, on_end-found, event-found}
use Rattle.strm_machine.proofs.ShapeLemmas.{operate-fits}
use Rattle.strm_machine.proofs.SideLemmas.{same_side_is}
use Rattle.strm_transmit.specs.Meets.{is_done}
use Rattle.strm_laws.specs.Laws.{HandlesHold}

-- a step that is done was not refused, and performs what it answers
pub record IsPerformed (state : State) (act : Act) (reply : Reply) (next : State) : Type 0 where
  pub free : refusal state act ≡ None
  pub does : performs state act ≡ goes reply next

pub performed : (state : State) (act : Act) (reply : Reply) (next : State) → reaction state act ≡ goes reply next → is_done reply ≡ true → IsPerformed state act reply next
performed state act reply next e done =
    reaction-by (λ r. r ≡ goes reply next → IsPerformed state act reply next) state act
    (λ t f. absurd (let wrong : false ≡ true = ap (λ (r : Reaction). is_done r.reply) f ∙ done in cc))
    (λ x t f. absurd (let wrong : false ≡ true = ap (λ (r : Reaction). is_done r.reply) f ∙ done in cc))
    (λ t f. record { free = t; does = f })
    e

-- one name answers one end
pub both_true : (a b : Bool) → a && b ≡ true → (a ≡ true) × (b ≡ true)
both_true true b e = (refl, e)
both_true false b e = cc

is_end_one : (s k : ℕ) (side other : Side) (name : Name) → is_end s side name ≡ true → is_end k other name ≡ true → (s ≡ k) × (side ≡ other)
is_end_one s k side other (Ok answer) e f =
    let one = both_true (answer.0 == s) (same_side (side_of answer.1) side) e in
    let two = both_true (answer.0 == k) (same_side (side_of answer.1) other) f in
    (sym (eqb-true answer.0 s one.0) ∙ eqb-true answer.0 k two.0, same_side_is (side_of answer.1) side one.1 ∙ sym (same_side_is (side_of answer.1) other two.1))
is_end_one s k side other (Err error) e f = cc

-- a moment names this end of stream s, and no other
abbrev pub NamesOnly : Moment → ℕ → Side → Type 0
NamesOnly m s side = NamesEnd m.before m.act m.reply s side

-- what is found under a handle is the end that is held under it
names_held : (state : State) (act : Act) (reply : Reply) (g handle s k : ℕ) (side other : Side) → HandlesHold state → IsFound state act g handle k other → (end_of side (stream_at state s)).owner ≡ Held g handle → NamesEnd state act reply s side × (k ≡ s) × (other ≡ side)
names_held state act reply g handle s k side other holds found owner =
    let same = is_end_one k s other side (end_named state g handle) found.held (holds.held g handle s side owner) in (
      subst (λ x. NamesEnd state act reply s x) same.1 (subst (λ x. NamesEnd state act reply x other) same.0 (found.named reply)),
      same.0,
      same.1,
    )

-- an act on an end that its guest holds names that end alone
pub record NamesHeld (state : State) (act : Act) (reply : Reply) (name : Name) (s : ℕ) (side : Side) : Type 0 where
  pub only : NamesEnd state act reply s side
  pub stream : stream_named name ≡ s

module _ (state : State) (side : Side) (end : NamedEnd) (address count s : ℕ) (reply : Reply) where
  pub operate_names : IsSound state → HandlesHold state → refusal state (OnEnd side end (Operate address count)) ≡ None → (end_of side (stream_at state s)).owner ≡ Held end.guest end.handle → NamesHeld state (OnEnd side end (Operate address count)) reply (named state end) s side
  operate_names h holds free owner =
      let act = OnEnd side end (Operate address count) in
      let o = operate-fits state side end address count h (sym (refusal-on_end state side end (Operate address count)) ∙ free) in
      let n = names_held state act reply end.guest end.handle s (stream_named (named state end)) side side holds o.found owner in
      record { only = n.0; stream = n.1 }

module _ (state : State) (side : Side) (end : NamedEnd) (s : ℕ) (reply : Reply) where
  pub drop_names : IsSound state → HandlesHold state → refusal state (OnEnd side end Drop) ≡ None → (end_of side (stream_at state s)).owner ≡ Held end.guest end.handle → NamesHeld state (OnEnd side end Drop) reply (named state end) s side
  drop_names h holds free owner =
      let act = OnEnd side end Drop in
      let f = drop_fits state side end (sym (refusal-on_end state side end Drop) ∙ free) in
      let found = on_end-found state side end Drop h f.there (named_ok state end f.found) (same_side_is side (side_named (named state end)) f.same) in
      let n = names_held state act reply end.guest end.handle s (stream_named (named state end)) side side holds found owner in
      record { only = n.0; stream = n.1 }

-- the same of an event, which also tells the side
pub record EventNames (state : State) (g handle : ℕ) (reply : Reply) (s : ℕ) (side : Side) : Type 0 where
  pub only : NamesEnd state (Event g handle) reply s side
  pub stream : stream_named (end_named state g handle) ≡ s
  pub on : side_named (end_named state g handle) ≡ side

pub event_names : (state : State) (g handle s : ℕ) (side : Side) (reply : Reply) → IsSound state → HandlesHold state → refusal state (Event g handle) ≡ None → (end_of side (stream_at state s)).owner ≡ Held g handle → EventNames state g handle reply s side
event_names state g handle s side reply h holds free owner =
    let name = end_named state g handle in
    let found = event-found state g handle h (event_fits state g handle free) in
    let n = names_held state (Event g handle) reply g handle s (stream_named name) side (side_named name) holds found owner in
    record { only = n.0; stream = n.1; on = n.2 }

-- so every other end is not named
pub unnamed_stream : (m : Moment) (s : ℕ) (side : Side) (k : ℕ) (other : Side) → NamesOnly m s side → k ≢ s → names k other m.before m.act m.reply ≡ false
unnamed_stream m s side k other named ne = named k other ∙ ap (λ b. b && same_side side other) (ne_eqb s k (λ e. ne (sym e)))

none_of : (b : Bool) → b && false ≡ false
none_of true = refl
none_of false = refl

pub unnamed_reader : (m : Moment) (s k : ℕ) → NamesOnly m s Writing → names k Reading m.before m.act m.reply ≡ false
unnamed_reader m s k named = named k Reading ∙ none_of (s == k)

pub unnamed_writer : (m : Moment) (s k : ℕ) → NamesOnly m s Reading → names k Writing m.before m.act m.reply ≡ false
unnamed_writer m s k named = named k Writing ∙ none_of (s == k)
