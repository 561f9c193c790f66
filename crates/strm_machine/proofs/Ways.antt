-- The few ways in which a step changes the streams, whatever the state; in none of them a host writer gets
-- the write end of a stream.
use Rattle.std.specs.Prelude.{ℤ}
use Rattle.std.proofs.Common.{◌≡◌, ℕ, zero, suc, Bool, List, [], ◌∷◌, ◌++◌, get_or, set, Option, Some, None, refl, sym, ap, subst, ◌∙◌}
use Rattle.std.proofs.lemmas.Bool.{cond_both}
use Rattle.strm_codes.specs.declared.codes.ReturnCode.{ReturnCode}
use Rattle.strm_machine.specs.State.{State, Guest, no_stream, stream_at, is_gone}
use Rattle.strm_machine.specs.Sides.{opposite, same_side, end_of, with_operation}
use Rattle.strm_machine.specs.Meetings.{begun, advanced}
use Rattle.strm_machine.specs.Moves.{with_owner}
use Rattle.strm_machine.specs.Operating.{Operated, with_received, moves, completes_alone, rendezvous_by, learns, finds, operate}
use Rattle.strm_machine.specs.Endings.{delivered, dropped}
use Rattle.strm_machine.specs.Tests.{named, stream_named, items_asked}
use Rattle.strm_machine.specs.Reactions.{Reaction, goes, written_back, on_stream, operates}
use Rattle.strm_machine.specs.Plays.{is_settled}
use Rattle.strm_machine.specs.declared.acts.Act.{Act}
use Rattle.strm_machine.specs.declared.acts.Act.TheVariants.{OnEnd}
use Rattle.strm_machine.specs.declared.acts.EndAct.TheVariants.{Operate}
use Rattle.strm_machine.specs.declared.acts.NamedEnd.{NamedEnd}
use Rattle.strm_machine.specs.declared.streams.Meeting.{Meeting}
use Rattle.strm_machine.specs.declared.streams.Meeting.TheVariants.{BothComplete, WriteCompletes, ReadCompletes}
use Rattle.strm_machine.specs.declared.streams.Owner.TheVariants.{Held, Loose, Host}
use Rattle.strm_machine.specs.declared.streams.Producer.{Producer}
use Rattle.strm_machine.specs.declared.streams.Consumer.{Consumer}
use Rattle.strm_machine.specs.declared.streams.Side.{Side}
use Rattle.strm_machine.specs.declared.streams.Side.TheVariants.{Writing, Reading}
use Rattle.strm_machine.specs.declared.streams.Operation.{Operation}
use Rattle.strm_machine.specs.declared.streams.Stream.{Stream}
use Rattle.strm_machine.specs.declared.replies.Reply.TheVariants as replies

-- ## A stream that changes

-- a host writer that has the write end of the new stream had that of the old one, of the same payload
abbrev pub HostsFrom : Stream → Stream → Type 0
HostsFrom old new = (n : ℕ) → new.writer.owner ≡ Host n → (old.writer.owner ≡ Host n) × (new.payload ≡ old.payload)

-- another stream has the same writer and payload
pub record WriterStays (old new : Stream) : Type 0 where
  pub owner : new.writer.owner ≡ old.writer.owner
  pub payload : new.payload ≡ old.payload

pub same_writer : (old new : Stream) → WriterStays old new → HostsFrom old new
same_writer old new h n f = (sym h.owner ∙ f, h.payload)

writer_itself : (stream : Stream) → WriterStays stream stream
writer_itself stream = record { owner = refl; payload = refl }

writer_twice : (a b c : Stream) → WriterStays a b → WriterStays b c → WriterStays a c
writer_twice a b c h k = record { owner = k.owner ∙ h.owner; payload = k.payload ∙ h.payload }

pub with_operation-stays : (side : Side) (stream : Stream) (operation : Operation) → WriterStays stream (with_operation side stream operation)
with_operation-stays Writing stream operation = record { owner = refl; payload = refl }
with_operation-stays Reading stream operation = record { owner = refl; payload = refl }

learns-stays : (side : Side) (guests : List Guest) (stream : Stream) → WriterStays stream (learns side guests stream).stream
learns-stays Writing guests stream = record { owner = refl; payload = refl }
learns-stays Reading guests stream = record { owner = refl; payload = refl }

module _ (side : Side) (guests : List Guest) (stream : Stream) (mine : Operation) where
  -- this turn leaves writer and payload
  abbrev Leaves : Operated → Type 0
  Leaves t = WriterStays stream t.stream

  moves-stays : (theirs : Operation) (n : ℕ) (o : Option (List Guest)) → Leaves (moves side guests stream mine theirs n o)
  moves-stays theirs n None = writer_itself stream
  moves-stays theirs n (Some after) =
      let k = with_operation-stays (opposite side) (with_received stream n) (advanced stream.payload theirs n) in
      record { owner = k.owner; payload = k.payload }

  alone-stays : (who : Side) (theirs : Operation) → Leaves (completes_alone who side guests stream mine theirs)
  alone-stays who theirs =
      let stopped = with_operation (opposite side) stream (advanced stream.payload theirs 0) in
      cond_both (same_side who side) _ _ Leaves
      (λ e. writer_itself stream)
      (λ e. writer_twice stream stopped (with_operation side stopped mine)
      (with_operation-stays (opposite side) stream (advanced stream.payload theirs 0)) (with_operation-stays side stopped mine))

  rendezvous-stays : (meeting : Meeting) (theirs : Operation) → Leaves (rendezvous_by meeting side guests stream mine theirs)
  rendezvous-stays BothComplete theirs = moves-stays theirs _ _
  rendezvous-stays WriteCompletes theirs = alone-stays Writing theirs
  rendezvous-stays ReadCompletes theirs = alone-stays Reading theirs

  finds-stays : (o : Option Operation) → Leaves (finds side guests stream mine o)
  finds-stays None = with_operation-stays side stream mine
  finds-stays (Some theirs) =
      cond_both theirs.is_open _ _ Leaves
      (λ e. rendezvous-stays _ theirs)
      (λ e. with_operation-stays side stream mine)

  operate-stays : Leaves (operate side guests stream mine)
  unfolding operate
  operate-stays =
      cond_both (is_gone (end_of (opposite side) stream).owner) _ _ Leaves
      (λ e. learns-stays side guests stream)
      (λ e. finds-stays _)

pub delivered-from : (side : Side) (stream : Stream) → HostsFrom stream (delivered side stream)
unfolding delivered
delivered-from Writing stream n e = (e, refl)
delivered-from Reading stream n e = (e, refl)

pub dropped-from : (side : Side) (stream : Stream) → HostsFrom stream (dropped side stream)
unfolding dropped
dropped-from Writing stream n e = cc
dropped-from Reading stream n e = (e, refl)

pub held-from : (side : Side) (stream : Stream) (g handle : ℕ) → HostsFrom stream (with_owner side stream (Held g handle))
held-from Writing stream g handle n e = cc
held-from Reading stream g handle n e = (e, refl)

pub loose-from : (side : Side) (stream : Stream) → HostsFrom stream (with_owner side stream Loose)
loose-from Writing stream n e = cc
loose-from Reading stream n e = (e, refl)

-- ## All streams

-- the same of the streams of a number
abbrev pub HostsFromIn : List Stream → List Stream → Type 0
HostsFromIn old new = (k : ℕ) → HostsFrom (get_or old k no_stream) (get_or new k no_stream)

pub set-from : (xs : List Stream) (s : ℕ) (x : Stream) → HostsFrom (get_or xs s no_stream) x → HostsFromIn xs (set xs s x)
set-from [] s x h k n e = (e, refl)
set-from (y ∷ ys) zero x h zero n e = h n e
set-from (y ∷ ys) zero x h (suc k) n e = (e, refl)
set-from (y ∷ ys) (suc s) x h zero n e = (e, refl)
set-from (y ∷ ys) (suc s) x h (suc k) n e = set-from ys s x h k n e

-- a stream more that no host writer writes
pub push-from : (xs : List Stream) (x : Stream) → ((n : ℕ) → x.writer.owner ≡ Host n → ⊥) → HostsFromIn xs (xs ++ x ∷ [])
push-from [] x h zero n e = absurd (h n e)
push-from [] x h (suc k) n e = (e, refl)
push-from (y ∷ ys) x h zero n e = (e, refl)
push-from (y ∷ ys) x h (suc k) n e = push-from ys x h k n e

written_back-from : (state : State) (s : ℕ) (t : Operated) (code : Option ReturnCode) → HostsFrom (stream_at state s) t.stream → HostsFromIn state.streams (written_back state s t code).state.streams
written_back-from state s t (Some code) h = set-from state.streams s t.stream h
written_back-from state s t None h = set-from state.streams s t.stream h

on_stream-from : (state : State) (s : ℕ) (side : Side) (mine : Operation) → HostsFromIn state.streams (on_stream state s side mine).state.streams
on_stream-from state s side mine =
    let t = operate side state.guests (stream_at state s) mine in
    written_back-from state s t t.code (same_writer (stream_at state s) t.stream (operate-stays side state.guests (stream_at state s) mine))

-- ## All ways

-- what is kept of host writers and of host readers
abbrev pub Kept : Type 0
Kept = List Producer × (List Consumer × List (List (List ℤ)))

abbrev pub kept_in : State → Kept
kept_in state = (state.producers, (state.consumers, state.kept))

-- what is kept beside guests, streams and error contexts, and whether the reply lets a run go on
pub record Standing : Type 0 where
  pub settled : Bool
  pub trapped : Bool
  pub kept : Kept

abbrev pub standing : Reaction → Standing
standing r = record { settled = is_settled r.reply; trapped = r.state.trapped; kept = kept_in r.state }

-- a run goes on, and all that stays
abbrev pub IsDone : State → Reaction → Type 0
IsDone state r = standing r ≡ standing (goes replies.Done state)

-- a read or write, or it proceeds: one stream becomes another, one stands behind the others, or they stay
pub data Way (state : State) (act : Act) (r : Reaction) : Type 0 where
  OperatesOne : (side : Side) (end : NamedEnd) (address count : ℕ) → act ≡ OnEnd side end (Operate address count) → r ≡ operates state side end address count → Way state act r
  SetsOne : (s : ℕ) (x : Stream) → IsDone state r → r.state.streams ≡ set state.streams s x → HostsFrom (stream_at state s) x → Way state act r
  AddsOne : (x : Stream) → IsDone state r → r.state.streams ≡ state.streams ++ x ∷ [] → ((n : ℕ) → x.writer.owner ≡ Host n → ⊥) → Way state act r
  SetsNone : IsDone state r → r.state.streams ≡ state.streams → Way state act r

written_back-kept : (state : State) (s : ℕ) (t : Operated) (code : Option ReturnCode) → kept_in (written_back state s t code).state ≡ kept_in state
written_back-kept state s t (Some code) = refl
written_back-kept state s t None = refl

operates-kept : (state : State) (s : ℕ) (side : Side) (mine : Operation) → kept_in (on_stream state s side mine).state ≡ kept_in state
operates-kept state s side mine =
    let t = operate side state.guests (stream_at state s) mine in written_back-kept state s t t.code

-- what is kept of host ends stays
pub way-kept : (state : State) (act : Act) (r : Reaction) → Way state act r → kept_in r.state ≡ kept_in state
way-kept state act r (OperatesOne side end address count a e) =
    ap (λ (x : Reaction). kept_in x.state) e
    ∙ operates-kept state (stream_named (named state end)) side (begun end.guest address (items_asked end.ty count))
way-kept state act r (SetsOne s x p e h) = ap (λ (k : Standing). k.kept) p
way-kept state act r (AddsOne x p e h) = ap (λ (k : Standing). k.kept) p
way-kept state act r (SetsNone p e) = ap (λ (k : Standing). k.kept) p

-- no host writer gets the write end of a stream
pub way-from : (state : State) (act : Act) (r : Reaction) → Way state act r → HostsFromIn state.streams r.state.streams
way-from state act r (OperatesOne side end address count a e) =
    subst (λ (x : Reaction). HostsFromIn state.streams x.state.streams) (sym e)
    (on_stream-from state (stream_named (named state end)) side (begun end.guest address (items_asked end.ty count)))
way-from state act r (SetsOne s x p e h) = subst (HostsFromIn state.streams) (sym e) (set-from state.streams s x h)
way-from state act r (AddsOne x p e h) = subst (HostsFromIn state.streams) (sym e) (push-from state.streams x h)
way-from state act r (SetsNone p e) = subst (HostsFromIn state.streams) (sym e) (λ k n f. (f, refl))
