-- What a moment does to the items that are kept of a host writer, and to the records of the host reader of its
-- stream: nothing, unless it is the round of that stream.
use Rattle.std.proofs.Common.{◌≡◌, ℕ, [], get_or, refl, sym, ap, subst, ◌∙◌, ◌⊎◌, inl, inr}
use Rattle.std.proofs.lemmas.Bool.{cases_eq, true≢false}
use Rattle.strm_buffers.specs.declared.answers.ReaderSaid.{ReaderSaid}
use Rattle.strm_buffers.specs.Listing.{Item}
use Rattle.std.specs.Prelude.{List, Option}
use Rattle.strm_machine.specs.State.{no_consumer, kept_at, is_host}
use Rattle.strm_machine.specs.Sides.{end_of, with_operation}
use Rattle.strm_machine.specs.Endings.{delivered}
use Rattle.strm_machine.specs.declared.acts.NamedEnd.{NamedEnd}
use Rattle.strm_machine.specs.declared.streams.Duty.TheVariants.{Serves}
use Rattle.strm_machine.specs.declared.streams.Operation.{Operation}
use Rattle.strm_machine.specs.declared.streams.Owner.{Owner}
use Rattle.strm_machine.specs.declared.streams.Owner.TheVariants.{Host}
use Rattle.strm_machine.specs.declared.streams.Side.{Side}
use Rattle.strm_machine.specs.declared.streams.Side.TheVariants.{Writing, Reading}
use Rattle.strm_machine.specs.declared.replies.Reply.{Reply}
use Rattle.strm_machine.proofs.ShapeLemmas.{reaction-kept_items}
use Rattle.strm_host_machine.specs.Attaching.{piped, without_ends, forsaken}
use Rattle.strm_host_machine.specs.World.{World, stream_in, reader_at, with_consumer}
use Rattle.strm_host_laws.specs.HostMoments.{Part, HostMoment}
use Rattle.strm_host_laws.specs.HostLaws.{used_by}
use Rattle.strm_host_laws.proofs.Fed.{used_are}
use Rattle.strm_host_laws.proofs.Forms.{HasTurned, opened, called, reacted_to, stream_of, IsRound, IsCall, IsPiping, Form, BySame, ByReacting, ByForsaking, ByHosting, ByFeeding, ByGranting, ByPiping, ByTurning, ByPassing, ByCalling}
use Rattle.strm_host_laws.proofs.GoingRules.{piped_to}
use Rattle.strm_host_laws.proofs.HostsAgree.{no_two, one_stream}
use Rattle.strm_host_laws.proofs.TurnsStand.{Holds}
use Rattle.strm_host_laws.proofs.Took.{Took, Rests, Takes, Passes, form_took}
use Rattle.strm_host_laws.proofs.Turned.{turned, stream_moved, taken_by, stream_taken}
use Rattle.strm_host_laws.proofs.WrittenBack.{told_of, back-kept, round_kept}

-- all items are kept as they were, or it is the round of a stream
data KeptOrRound (w : World) (part : Part) (v : World) : Type 0 where
  KeepsAll : v.state.kept ≡ w.state.kept → KeptOrRound w part v
  Rounds : (t n r : ℕ) → IsRound w part v t n r → KeptOrRound w part v

module _ (w : World) (part : Part) (reply : Reply) (v : World) where
  -- the turn of a host end
  pub turned_kept : (side : Side) (u x : World) (s n : ℕ) (operation : Operation) → HasTurned side u s n operation x → x.state.kept ≡ u.state.kept
  turned_kept Reading u x s n operation t =
      ap (λ (y : World). y.state.kept) t.is ∙ back-kept (turned u s n operation t.items t.producer t.writer) s (stream_moved u s operation t.items t.result)
  turned_kept Writing u x s n operation t =
      ap (λ (y : World). y.state.kept) t.is ∙ back-kept (taken_by u s n operation t.said t.more) s (stream_taken u s operation t.said)

  call_kept : (side : Side) (end : NamedEnd) (address count n : ℕ) → IsCall side w part v end address count n → v.state.kept ≡ w.state.kept
  call_kept side end address count n c =
      let t = stream_of w end in
      let operation = called end address count in
      let first = back-kept w t (with_operation side (stream_in w t) operation) in
      let mid = turned_kept side (opened side w t operation) c.mid t n operation c.turned ∙ first in
      elim c.told [
        | inl e ↦ ap (λ (y : World). y.state.kept) e ∙ mid
        | inr e ↦ ap (λ (y : World). y.state.kept) e ∙ back-kept c.mid t (delivered side (stream_in c.mid t)) ∙ mid
      ]

  pipe_kept : (t j : ℕ) → IsPiping w v t j → v.state.kept ≡ w.state.kept
  pipe_kept t j p =
      let first = back-kept (with_consumer w j (record no_consumer { duty = Serves t })) t (piped (stream_in w t) j) in
      elim p.is [
        | inl e ↦ ap (λ (y : World). y.state.kept) e ∙ first
        | inr e ↦ ap (λ (y : World). y.state.kept) e ∙ back-kept (piped_to w t j) t (without_ends (piped (stream_in w t) j)) ∙ first
      ]

  form_kept : Form w part reply v → KeptOrRound w part v
  form_kept (BySame m e) = KeepsAll (ap (λ (y : World). y.state.kept) e)
  form_kept (ByReacting act m e) = KeepsAll (ap (λ (y : World). y.state.kept) e ∙ reaction-kept_items w.state act)
  form_kept (ByForsaking act side t n m f) =
      let u = reacted_to w act in
      KeepsAll (ap (λ (y : World). y.state.kept) f.is ∙ back-kept u t (forsaken side (stream_in u t)) ∙ reaction-kept_items w.state act)
  form_kept (ByHosting n p r e f) = KeepsAll (ap (λ (y : World). y.state.kept) f)
  form_kept (ByFeeding n bytes m e) = KeepsAll (ap (λ (y : World). y.state.kept) e)
  form_kept (ByGranting r count m e) = KeepsAll (ap (λ (y : World). y.state.kept) e)
  form_kept (ByPiping t j m p) = KeepsAll (pipe_kept t j p)
  form_kept (ByTurning side t n operation m i) = KeepsAll (turned_kept side w v t n operation i.turned)
  form_kept (ByPassing t n r m i) = Rounds t n r i
  form_kept (ByCalling side end address count n m c) = KeepsAll (call_kept side end address count n c)

-- a host reader that has the records that it had used none
pub unused_by : (r : ℕ) (m : HostMoment) → told_of (reader_at m.after r) ≡ told_of (reader_at m.before r) → used_by r m ≡ []
unused_by r m e =
    used_are (reader_at m.before r).coming (reader_at m.after r).coming []
    (sym (ap (λ (p : Option (List Item) × List ReaderSaid). p.1) e))

-- what is kept of host writer n stays, and the host reader of stream s uses no record
pub record Rested (s n : ℕ) (m : HostMoment) : Type 0 where
  pub kept : kept_at m.after.state n ≡ kept_at m.before.state n
  pub used : (r : ℕ) → (stream_in m.before s).reader.owner ≡ Host r → used_by r m ≡ []

-- it is the round of stream s
pub record Passing (s n : ℕ) (m : HostMoment) : Type 0 where
  pub reader : ℕ
  pub round : IsRound m.before m.part m.after s n reader

module _ (s n : ℕ) (m : HostMoment) (h : Holds m.before.state) (o : (stream_in m.before s).writer.owner ≡ Host n) (form : Form m.before m.part m.reply m.after) where
  -- a host end has one stream
  same_stream : (side : Side) (a b k : ℕ) → (end_of side (stream_in m.before a)).owner ≡ Host k → (end_of side (stream_in m.before b)).owner ≡ Host k → a ≡ b
  same_stream side a b k e f = one_stream a b (sym ((h.hosts.serve side k a).serves e) ∙ (h.hosts.serve side k b).serves f)

  -- the round of a stream, if it is this one
  passing_here : (t k j : ℕ) → t ≡ s → IsRound m.before m.part m.after t k j → Passing s n m
  passing_here t k j e i =
      let here = subst (λ a. IsRound m.before m.part m.after a k j) e i in
      record { reader = j; round = subst (λ a. IsRound m.before m.part m.after s a j) (no_two k n (sym here.wrote ∙ o)) here }

  by_kept : ((r : ℕ) → (stream_in m.before s).reader.owner ≡ Host r → used_by r m ≡ []) → KeptOrRound m.before m.part m.after → Rested s n m ⊎ Passing s n m
  by_kept used (KeepsAll e) = inl (record { kept = ap (λ ks. get_or ks n []) e; used = used })
  by_kept used (Rounds t k j i) =
      elim (cases_eq t s) [
        | inl e ↦ inr (passing_here t k j e i)
        | inr ne ↦ inl (record {
          kept = round_kept m.before t k j m.after i.passed n (λ e. ne (same_stream Writing t s k i.wrote (o ∙ ap Host e)));
          used = used;
        })
      ]

  pub rested_or_passing : Rested s n m ⊎ Passing s n m
  rested_or_passing = by (stream_in m.before s).reader.owner refl
    where
      read : (r : ℕ) → (stream_in m.before s).reader.owner ≡ Host r → Took s r m → Rested s n m ⊎ Passing s n m
      read r e (Rests x) = by_kept (λ k f. subst (λ j. used_by j m ≡ []) (no_two r k (sym e ∙ f)) (unused_by r m x.told)) (form_kept m.before m.part m.reply m.after form)
      read r e (Takes t x) =
          let same = same_stream Reading t s r x.owner e in
          absurd (true≢false (sym (ap (λ i. is_host (stream_in m.before i).writer.owner) same ∙ ap is_host o) ∙ x.unhosted))
      read r e (Passes t k i) = inr (passing_here t k r (same_stream Reading t s r i.read e) i)

      by : (owner : Owner) → (stream_in m.before s).reader.owner ≡ owner → Rested s n m ⊎ Passing s n m
      by (Host r) e = read r e (form_took m h form s r)
      by owner e = by_kept (λ k f. let wrong = sym e ∙ f in cc) (form_kept m.before m.part m.reply m.after form)
