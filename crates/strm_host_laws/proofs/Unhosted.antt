-- Moments that make no stream of a number, and streams that no host writer writes: no host writer produces for
-- them.
use Rattle.std.proofs.Common.{◌≡◌, ◌≢◌, ℕ, ◌<◌, true, false, cond, [], ◌∷◌, length, get_or, refl, sym, ap, subst, ◌∙◌, ◌⊎◌, inl, inr, arith, length-append}
use Rattle.std.proofs.lemmas.Bool.{ne_eqb}
use Rattle.strm_machine.specs.State.{no_stream, no_consumer, is_host}
use Rattle.strm_machine.specs.Sides.{with_operation}
use Rattle.strm_machine.specs.Endings.{delivered}
use Rattle.strm_machine.specs.declared.acts.Act.{Act}
use Rattle.strm_machine.specs.declared.acts.Act.TheVariants.{OnHost}
use Rattle.strm_machine.specs.declared.acts.HostAct.TheVariants.{New}
use Rattle.strm_machine.specs.declared.acts.NamedEnd.{NamedEnd}
use Rattle.strm_machine.specs.declared.streams.Owner.TheVariants.{Host, Gone}
use Rattle.strm_machine.specs.declared.streams.Side.{Side}
use Rattle.strm_machine.specs.declared.streams.Side.TheVariants.{Writing, Reading}
use Rattle.strm_machine.specs.declared.streams.Operation.{Operation}
use Rattle.strm_machine.specs.declared.streams.Duty.TheVariants.{Serves}
use Rattle.strm_machine.specs.declared.streams.Stream.{Stream}
use Rattle.strm_machine.specs.declared.replies.Reply.{Reply}
use Rattle.strm_machine.specs.declared.replies.Reply.TheVariants as replies
use Rattle.strm_host_machine.specs.World.{World, stream_in, writer_at, with_consumer, with_stream_in}
use Rattle.strm_host_machine.specs.Settling.{result_of}
use Rattle.strm_host_machine.specs.Attaching.{piped, without_ends, forsaken, hosted_stream}
use Rattle.strm_host_laws.specs.HostMoments.{Part, Acts}
use Rattle.strm_host_laws.specs.HostLaws.{made_of, is_made_by}
use Rattle.strm_host_laws.proofs.Forms.{opened, called, reacted_to, stream_of, is_making, IsCall, IsPiping, Form, BySame, ByReacting, ByForsaking, ByHosting, ByFeeding, ByGranting, ByPiping, ByTurning, ByPassing, ByCalling}
use Rattle.strm_host_laws.proofs.GoingRules.{piped_to, moved_on-payload}
use Rattle.strm_host_laws.proofs.Turned.{taken_by, stream_taken, Taken}
use Rattle.strm_host_laws.proofs.TurnMoves.{moved-mine}
use Rattle.strm_host_laws.proofs.Lives.{Lives, drive_can, read_can}
use Rattle.strm_machine.proofs.Ways.{HostsFrom, set-from, delivered-from}
use Rattle.strm_machine.proofs.ShapeLemmas.{reaction-from}
use Rattle.strm_host_laws.proofs.Touched.{reaction-made}
use Rattle.strm_host_laws.proofs.Unmoved.{push-other}
use Rattle.strm_host_laws.proofs.WrittenBack.{round_other, round_length, back-streams, back-other, back-length, turned-other, turned_length, call_length, pipe_length}
use Rattle.strm_machine.proofs.HostLemmas.{no_host, unless_host}

-- MOMENTS THAT MAKE NO STREAM OF A NUMBER

-- stream s is not made of a host writer in this part
pub record MakesNot (s : ℕ) (w : World) (part : Part) (reply : Reply) : Type 0 where
  pub made : made_of s w part reply ≡ []
  pub by : is_made_by s part reply ≡ false

pub unmaking : (s : ℕ) (w : World) (part : Part) (reply : Reply) → is_making part reply ≡ false → MakesNot s w part reply
unmaking s w (Acts (OnHost host New)) (replies.Number n) e = cc
unmaking s w (Acts (OnHost host New)) reply e = record { made = refl; by = refl }
unmaking s w part reply e = record { made = refl; by = refl }

other_number : (s n : ℕ) (w : World) (k : ℕ) → k ≢ s → MakesNot s w (Acts (OnHost n New)) (replies.Number k)
other_number s n w k ne = record {
  made = ap (λ b. cond b (writer_at w n).holds []) (ne_eqb k s ne);
  by = ne_eqb k s ne;
}

pub form_makes_not : (s : ℕ) (w : World) (part : Part) (reply : Reply) (v : World) → s ≢ length w.state.streams → Form w part reply v → MakesNot s w part reply
form_makes_not s w part reply v ne (BySame m e) = unmaking s w part reply m
form_makes_not s w part reply v ne (ByReacting act m e) = unmaking s w part reply m
form_makes_not s w part reply v ne (ByForsaking act side t n m f) = unmaking s w part reply m
form_makes_not s w part reply v ne (ByHosting n p r e f) =
    subst (λ x. MakesNot s w x reply) (sym p) (subst (λ x. MakesNot s w (Acts (OnHost n New)) x) (sym r) (other_number s n w (length w.state.streams) (λ g. ne (sym g))))
form_makes_not s w part reply v ne (ByFeeding n bytes m e) = unmaking s w part reply m
form_makes_not s w part reply v ne (ByGranting r count m e) = unmaking s w part reply m
form_makes_not s w part reply v ne (ByPiping t r m p) = unmaking s w part reply m
form_makes_not s w part reply v ne (ByTurning side t n operation m i) = unmaking s w part reply m
form_makes_not s w part reply v ne (ByPassing t n r m i) = unmaking s w part reply m
form_makes_not s w part reply v ne (ByCalling side end address count n m r) = unmaking s w part reply m

-- A STREAM THAT NO HOST WRITER WRITES

-- no host writer has the write end of stream s
abbrev pub IsUnhosted : ℕ → World → Type 0
IsUnhosted s w = is_host (stream_in w s).writer.owner ≡ false

module _ (first w : World) (s : ℕ) (l : Lives first w) (u : IsUnhosted s w) where
  reacted_from : (act : Act) (n : ℕ) → (stream_in (reacted_to w act) s).writer.owner ≡ Host n → ⊥
  reacted_from act n e =
      no_host (stream_in w s).writer.owner n u (reaction-from w.state act s n e).0

  -- another stream, whose host writer had a turn
  off : (t n : ℕ) → (stream_in w t).writer.owner ≡ Host n → s ≢ t
  off t n e f = no_host (stream_in w s).writer.owner n u (ap (λ k. (stream_in w k).writer.owner) f ∙ e)

  -- a stream written back that no other host writer writes
  back_unhosted : (x : World) (t : ℕ) (stream : Stream) → IsUnhosted s x → HostsFrom (stream_in x t) stream → IsUnhosted s (with_stream_in x t stream)
  back_unhosted x t stream unhosted from =
      unless_host (stream_in (with_stream_in x t stream) s).writer.owner
      (λ n e. no_host (stream_in x s).writer.owner n unhosted (set-from x.state.streams t stream from s n (ap (λ xs. (get_or xs s no_stream).writer.owner) (sym (back-streams x t stream)) ∙ e)).0)

  forsaken_from : (side : Side) (stream : Stream) → HostsFrom stream (forsaken side stream)
  forsaken_from Reading stream n f = let wrong : Gone ≡ Host n = f in cc
  forsaken_from Writing stream n f = (f, refl)

  forsaken_unhosted : (act : Act) (side : Side) (t : ℕ) → IsUnhosted s (with_stream_in (reacted_to w act) t (forsaken side (stream_in (reacted_to w act) t)))
  forsaken_unhosted act side t =
      let x = reacted_to w act in
      back_unhosted x t (forsaken side (stream_in x t)) (unless_host (stream_in x s).writer.owner (reacted_from act)) (forsaken_from side (stream_in x t))

  read_same : (part : Part) (v : World) (end : NamedEnd) (address count n : ℕ) → IsCall Reading w part v end address count n → stream_in v s ≡ stream_in w s
  read_same part v end address count n r =
      let t = stream_of w end in
      let read = called end address count in
      let ne = off t n r.owner in
      let told = delivered Reading (stream_in r.mid t) in
      let mid : stream_in r.mid s ≡ stream_in w s = turned-other (opened Reading w t read) t n read r.mid r.turned (read_can first w part v end address count n l r) s ne ∙ back-other w t (with_operation Reading (stream_in w t) read) s ne in
      elim r.told [
        | inl e ↦ ap (λ x. stream_in x s) e ∙ mid
        | inr e ↦ ap (λ x. stream_in x s) e ∙ back-other r.mid t told s ne ∙ mid
      ]

  -- the turn of a host reader
  taken_unhosted : (x v : World) (t r : ℕ) (write : Operation) → Taken x t r write v → IsUnhosted s x → IsUnhosted s v
  taken_unhosted x v t r write k unhosted =
      subst (IsUnhosted s) (sym k.is)
      (back_unhosted (taken_by x t r write k.said k.more) t (stream_taken x t write k.said) unhosted
      (λ n f. (sym (moved-mine (stream_in x t) write k.said.taken Writing (result_of k.said.answer)) ∙ f, moved_on-payload Writing (stream_in x t) write k.said.taken (result_of k.said.answer))))

  write_unhosted : (part : Part) (v : World) (end : NamedEnd) (address count r : ℕ) → IsCall Writing w part v end address count r → IsUnhosted s v
  write_unhosted part v end address count r c =
      let t = stream_of w end in
      let write = called end address count in
      let open_world = opened Writing w t write in
      let mid = taken_unhosted open_world c.mid t r write c.turned (back_unhosted w t (with_operation Writing (stream_in w t) write) u (λ n f. (f, refl))) in
      elim c.told [
        | inl e ↦ subst (IsUnhosted s) (sym e) mid
        | inr e ↦ subst (IsUnhosted s) (sym e) (back_unhosted c.mid t (delivered Writing (stream_in c.mid t)) mid (delivered-from Writing (stream_in c.mid t)))
      ]

  pipe_unhosted : (v : World) (t r : ℕ) → IsPiping w v t r → IsUnhosted s v
  pipe_unhosted v t r p =
      let pipe = piped (stream_in w t) r in
      let first = back_unhosted (with_consumer w r (record no_consumer { duty = Serves t })) t pipe u (λ n f. (f, refl)) in
      elim p.is [
        | inl e ↦ subst (IsUnhosted s) (sym e) first
        | inr e ↦ subst (IsUnhosted s) (sym e) (back_unhosted (piped_to w t r) t (without_ends pipe) first (λ n f. let wrong : Gone ≡ Host n = f in cc))
      ]

  making_not : (n k : ℕ) (part : Part) (reply : Reply) → part ≡ Acts (OnHost n New) → reply ≡ replies.Number k → is_making part reply ≡ false → ⊥
  making_not n k part reply p r m =
      let is : is_making part reply ≡ true = ap (λ x. is_making x reply) p ∙ ap (is_making (Acts (OnHost n New))) r in
      let wrong : true ≡ false = sym is ∙ m in
      cc

  -- none gets it but by the making of a stream of its number
  pub form_unhosted : (part : Part) (reply : Reply) (v : World) → (s ≢ length w.state.streams) ⊎ (is_making part reply ≡ false) → Form w part reply v → IsUnhosted s v
  form_unhosted part reply v ne (BySame m e) = ap (λ x. is_host (stream_in x s).writer.owner) e ∙ u
  form_unhosted part reply v ne (ByReacting act m e) =
      ap (λ x. is_host (stream_in x s).writer.owner) e ∙ unless_host (stream_in (reacted_to w act) s).writer.owner (reacted_from act)
  form_unhosted part reply v ne (ByForsaking act side t n m f) = subst (IsUnhosted s) (sym f.is) (forsaken_unhosted act side t)
  form_unhosted part reply v (inr m) (ByHosting n p r e f) = absurd (making_not n (length w.state.streams) part reply p r m)
  form_unhosted part reply v (inl ne) (ByHosting n p r e f) =
      ap (λ x. is_host (stream_in x s).writer.owner) f
      ∙ ap (λ (x : Stream). is_host x.writer.owner) (push-other w.state.streams (hosted_stream (writer_at w n) n) s ne) ∙ u
  form_unhosted part reply v ne (ByFeeding n bytes m e) = ap (λ x. is_host (stream_in x s).writer.owner) e ∙ u
  form_unhosted part reply v ne (ByGranting r count m e) = ap (λ x. is_host (stream_in x s).writer.owner) e ∙ u
  form_unhosted part reply v ne (ByPiping t r m p) = pipe_unhosted v t r p
  form_unhosted part reply v ne (ByTurning Reading t n read m i) =
      ap (λ (x : Stream). is_host x.writer.owner) (turned-other w t n read v i.turned (drive_can first w part v t n read l i) s (off t n i.owner)) ∙ u
  form_unhosted part reply v ne (ByTurning Writing t r write m i) = taken_unhosted w v t r write i.turned u
  form_unhosted part reply v ne (ByPassing t n r m i) =
      ap (λ (x : Stream). is_host x.writer.owner) (round_other w t n r v i.passed s (off t n i.wrote)) ∙ u
  form_unhosted part reply v ne (ByCalling Reading end address count n m r) =
      ap (λ (x : Stream). is_host x.writer.owner) (read_same part v end address count n r) ∙ u
  form_unhosted part reply v ne (ByCalling Writing end address count n m r) = write_unhosted part v end address count n r

-- a stream stays made
module _ (first w : World) (s : ℕ) (l : Lives first w) (made : s < length w.state.streams) where
  long_as : (v : World) → length v.state.streams ≡ length w.state.streams → s < length v.state.streams
  long_as v e = subst (λ k. s < k) (sym e) made

  pub form_made : (part : Part) (reply : Reply) (v : World) → Form w part reply v → s < length v.state.streams
  form_made part reply v (BySame m e) = long_as v (ap (λ (x : World). length x.state.streams) e)
  form_made part reply v (ByReacting act m e) = subst (λ (x : World). s < length x.state.streams) (sym e) (reaction-made w.state act s l.holds made)
  form_made part reply v (ByForsaking act side t n m f) =
      let x = reacted_to w act in
      let now = forsaken side (stream_in x t) in
      subst (λ k. s < k) (sym (ap (λ (y : World). length y.state.streams) f.is ∙ back-length x t now)) (reaction-made w.state act s l.holds made)
  form_made part reply v (ByHosting n p r e f) =
      subst (λ (x : World). s < length x.state.streams) (sym f) (omega (arith, made, length-append w.state.streams (hosted_stream (writer_at w n) n ∷ [])))
  form_made part reply v (ByFeeding n bytes m e) = long_as v (ap (λ (x : World). length x.state.streams) e)
  form_made part reply v (ByGranting r count m e) = long_as v (ap (λ (x : World). length x.state.streams) e)
  form_made part reply v (ByPiping t r m p) = long_as v (pipe_length w v t r p)
  form_made part reply v (ByTurning side t n operation m i) = long_as v (turned_length side w t n operation v i.turned)
  form_made part reply v (ByPassing t n r m i) = long_as v (round_length w t n r v i.passed)
  form_made part reply v (ByCalling side end address count n m r) = long_as v (call_length side w part v end address count n r)
