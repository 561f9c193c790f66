-- A future that a host writer writes: it passes one item at most, if its writer held no more than one when it was
-- made.
use Rattle.std.proofs.Common.{◌≡◌, ℕ, Bool, true, false, [], ◌++◌, get_or, Some, None, refl, sym, ap, subst, ◌∙◌, inl, inr, arith}
use Rattle.strm_codes.specs.declared.codes.TransmitKind.TheVariants.{Future}
use Rattle.strm_machine.specs.State.{kept_at, is_loose}
use Rattle.strm_machine.specs.declared.streams.Operation.{Operation}
use Rattle.strm_machine.specs.declared.streams.Owner.TheVariants.{Host, Gone}
use Rattle.strm_machine.specs.declared.streams.Side.TheVariants.{Reading}
use Rattle.strm_machine.specs.declared.replies.Reply.TheVariants as replies
use Rattle.strm_machine.proofs.HostLemmas.{unless_host}
use Rattle.strm_host_machine.specs.World.{World, stream_in, writer_at, held_of}
use Rattle.strm_host_laws.specs.HostMoments.{Part, HostMoment}
use Rattle.strm_host_laws.proofs.Forms.{IsTurn, IsRound, IsCall, Form}
use Rattle.strm_host_laws.proofs.HostsAgree.{no_two}
use Rattle.strm_host_laws.proofs.KeptItems.{turned_kept, Rested, rested_or_passing}
use Rattle.strm_host_laws.proofs.Lives.{Lives, drive_can}
use Rattle.strm_host_laws.proofs.TurnsStand.{nothing_kept}
use Rattle.strm_host_laws.proofs.Touched.{Touch, NotTouched, IsLost, HasTurn, HasRound, HasRead}
use Rattle.strm_host_laws.proofs.FutureKept.{OneWritten, one_most, one_step, Busy, BusyTurn, BusyRound, BusyCall, Quiet, form_quiet}
use Rattle.strm_host_laws.proofs.FutureTurns.{Onward, turn_onward, round_onward, call_onward}

-- ## Any moment

module _ (first w : World) (s n : ℕ) (l : Lives first w) (o : (stream_in w s).writer.owner ≡ Host n) (future : (stream_in w s).kind ≡ Future) (h : OneWritten w s n) where
  -- the host writer is this one
  who_is : (k : ℕ) → (stream_in w s).writer.owner ≡ Host k → k ≡ n
  who_is k e = no_two k n (sym e ∙ o)

  busy_onward : (part : Part) (v : World) → Busy s w part v → Onward v s n
  busy_onward part v (BusyTurn k read i) =
      let turn = subst (λ a. IsTurn Reading w part v s a read) (who_is k i.owner) i in
      let idle : (r : ℕ) → (stream_in w s).reader.owner ≡ Host r → ⊥ = λ r f. (let none = (l.holds.hosts.serve Reading r s).idle f in let wrong : Some read ≡ None = sym i.operation_is ∙ none in cc) in
      let unread = unless_host (stream_in w s).reader.owner idle in
      let none = nothing_kept w.state s n l.holds.hosts o unread in
      turn_onward w s n read v turn.turned (drive_can first w part v s n read l turn) h
      (record { waits = i.operation_is; open_ = i.is_open; tied = tied read i.operation_is; unread = unread; none = none })
      future (ap (λ ks. get_or ks n []) (turned_kept w part replies.Done v Reading w v s n read turn.turned) ∙ none)
    where
      tied : (read : Operation) → (stream_in w s).reader.operation ≡ Some read → is_loose (stream_in w s).reader.owner ≡ false
      tied read e = by (is_loose (stream_in w s).reader.owner) refl
        where
          by : (b : Bool) → is_loose (stream_in w s).reader.owner ≡ b → is_loose (stream_in w s).reader.owner ≡ false
          by false f = f
          by true f = absurd (let none = l.holds.loose s f in let wrong : Some read ≡ None = sym e ∙ none in cc)
  busy_onward part v (BusyRound k r i) = round_onward w part s n r v (subst (λ a. IsRound w part v s a r) (who_is k i.wrote) i) l.holds h future
  busy_onward part v (BusyCall end address count k e c) =
      let owner : (stream_in w s).writer.owner ≡ Host k = ap (λ a. (stream_in w a).writer.owner) (sym e) ∙ c.owner in
      let call = subst (λ a. IsCall Reading w part v end address count a) (who_is k owner) c in
      subst (λ a. Onward v a n) e
      (call_onward first w n l part v end address count call (ap (λ a. (stream_in w a).kind) e ∙ future) (subst (λ a. OneWritten w a n) (sym e) h))

  -- a moment in which nothing is received, and no record used
  rested_onward : (m : HostMoment) → m.before ≡ w → Quiet s w m.after → Rested s n m → Touch s w m.part m.after → Onward m.after s n
  rested_onward m b q rested (NotTouched a) =
      let held : held_of m.after n ≡ held_of w n = ap (λ ks. ks ++ (writer_at m.after n).holds) (rested.kept ∙ ap (λ (x : World). kept_at x.state n) b) ∙ ap (λ xs. kept_at w.state n ++ xs) (a.writer n o).holds in
      let after = one_step w m.after s n q.step held q.rest h in
      record { most = one_most m.after s n after; one = λ e. after }
  rested_onward m b q rested (IsLost k f) =
      let count = f.received in
      let before = one_most w s n h in
      record { most = omega (arith, count, before); one = λ e. absurd (let wrong : Gone ≡ Host n = sym f.gone ∙ e in cc) }
  rested_onward m b q rested (HasTurn k read i) = busy_onward m.part m.after (BusyTurn k read i)
  rested_onward m b q rested (HasRound k r i) = busy_onward m.part m.after (BusyRound k r i)
  rested_onward m b q rested (HasRead end address count k at c) = busy_onward m.part m.after (BusyCall end address count k at c)

-- any moment
pub moment_onward : (first : World) (m : HostMoment) (s n : ℕ) → Lives first m.before → (stream_in m.before s).writer.owner ≡ Host n → (stream_in m.before s).kind ≡ Future → OneWritten m.before s n → Form m.before m.part m.reply m.after → Touch s m.before m.part m.after → Onward m.after s n
moment_onward first m s n l o future h form touch =
    elim (form_quiet first m.before s n l o future h m.part m.reply m.after form) [
      | inl q ↦ elim (rested_or_passing s n m l.holds o form) [
        | inl rested ↦ rested_onward first m.before s n l o future h m refl q rested touch
        | inr passing ↦ busy_onward first m.before s n l o future h m.part m.after (BusyRound n passing.reader passing.round)
      ]
      | inr busy ↦ busy_onward first m.before s n l o future h m.part m.after busy
    ]
