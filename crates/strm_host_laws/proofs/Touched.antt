-- What a moment does to one stream that a host writer has, or that its writer has left: nothing, unless it is
-- that host writer's turn, or the stream is forsaken.
use Rattle.std.proofs.Common.{◌≡◌, ◌≢◌, ℕ, ◌<◌, List, [], ◌∷◌, ◌++◌, length, set, refl, sym, ap, subst, ◌∙◌, ◌⊎◌, Some, None, true, inl, inr, arith}
use Rattle.std.proofs.lemmas.Bool.{cases_eq}
use Rattle.std.proofs.lemmas.List.{length-append}
use Rattle.strm_machine.specs.State.{State, no_consumer}
use Rattle.strm_machine.specs.Sides.{with_operation}
use Rattle.strm_machine.specs.Endings.{delivered}
use Rattle.strm_machine.specs.Reactions.{reaction}
use Rattle.strm_machine.specs.declared.acts.Act.{Act}
use Rattle.strm_machine.specs.declared.acts.NamedEnd.{NamedEnd}
use Rattle.strm_machine.specs.declared.streams.Owner.{Owner}
use Rattle.strm_machine.specs.declared.streams.Owner.TheVariants.{Host, Gone}
use Rattle.strm_machine.specs.declared.streams.Duty.TheVariants.{Serves}
use Rattle.strm_machine.specs.declared.streams.Operation.{Operation}
use Rattle.strm_machine.specs.declared.streams.Side.{Side}
use Rattle.strm_machine.specs.declared.streams.Side.TheVariants.{Writing, Reading}
use Rattle.strm_machine.specs.declared.streams.Stream.{Stream}
use Rattle.strm_machine.specs.declared.replies.Reply.{Reply}
use Rattle.strm_machine.proofs.StreamSteps.{reaction_streams}
use Rattle.strm_host_machine.specs.Ends.{Writer, no_writer, fed_writer, granted_reader}
use Rattle.strm_host_machine.specs.World.{World, stream_in, writer_at, reader_at, with_consumer, with_reader, with_stream_in}
use Rattle.strm_host_machine.specs.Attaching.{piped, is_dry, without_ends, forsaken, hosted_stream}
use Rattle.strm_host_laws.specs.HostMoments.{Part}
use Rattle.strm_machine.proofs.TableLemmas.{set-keeps}
use Rattle.strm_host_laws.proofs.Forms.{opened, called, reacted_to, stream_of, IsTurn, IsRound, IsCall, IsForsaking, IsPiping, Form, BySame, ByReacting, ByForsaking, ByHosting, ByFeeding, ByGranting, ByPiping, ByTurning, ByPassing, ByCalling}
use Rattle.strm_host_laws.proofs.Closed.{is_new_reader}
use Rattle.strm_host_laws.proofs.PartEffects.{loose_made}
use Rattle.strm_host_laws.proofs.Turned.{Taken}
use Rattle.strm_host_laws.proofs.GoingRules.{hosted, piped_to}
use Rattle.strm_host_laws.proofs.Lives.{Lives, owned_made, owned_once, owned_quiet, drive_can, read_can}
use Rattle.strm_host_laws.proofs.TurnsStand.{Holds}
use Rattle.strm_host_laws.proofs.Unmoved.{push-other, Unmoved, IsQuiet, unheld_by, quiet_none, reaction-unmoved}
use Rattle.strm_host_laws.proofs.WrittenBack.{back-writer, back-coming, back-here, back-other, back-length, back-stays, turned-other, turned-length, turned-writer, round_other, round_length, round_writer, taken-other, taken-length, taken-writer}

-- STREAMS STAY MADE

push_made : (xs : List Stream) (s : ℕ) (x : Stream) → s < length xs → s < length (xs ++ x ∷ [])
push_made xs s x l = omega (arith, l, length-append xs (x ∷ []))

pub reaction-made : (state : State) (act : Act) (s : ℕ) → Holds state → s < length state.streams → s < length (reaction state act).state.streams
reaction-made state act s h l = omega (arith, l, (reaction_streams state act h.sound).many)

-- WHAT IS DONE TO ONE STREAM

-- a host writer holds what it held, and none of its records is used
pub record SameHeld (a b : Writer) : Type 0 where
  pub holds : b.holds ≡ a.holds
  pub coming : b.coming ≡ a.coming

held_by_same : (a b : Writer) → b ≡ a → SameHeld a b
held_by_same a b e = record { holds = ap (λ (x : Writer). x.holds) e; coming = ap (λ (x : Writer). x.coming) e }

-- nothing is done to stream s, nor to its host writer
pub record Aside (s : ℕ) (w v : World) : Type 0 where
  pub stream : Unmoved (stream_in w s) (stream_in v s)
  pub made : s < length v.state.streams
  pub writer : (n : ℕ) → (stream_in w s).writer.owner ≡ Host n → SameHeld (writer_at w n) (writer_at v n)

-- its host writer is gone, and nothing was received
pub record Forsaken (s n : ℕ) (w v : World) : Type 0 where
  pub was : (stream_in w s).writer.owner ≡ Host n
  pub gone : (stream_in v s).writer.owner ≡ Gone
  pub received : (stream_in v s).received ≡ (stream_in w s).received
  pub made : s < length v.state.streams
  pub coming : (writer_at v n).coming ≡ (writer_at w n).coming

pub data Touch (s : ℕ) (w : World) (part : Part) (v : World) : Type 0 where
  NotTouched : Aside s w v → Touch s w part v
  IsLost : (n : ℕ) → Forsaken s n w v → Touch s w part v
  HasTurn : (n : ℕ) (read : Operation) → IsTurn Reading w part v s n read → Touch s w part v
  HasRound : (n r : ℕ) → IsRound w part v s n r → Touch s w part v
  HasRead : (end : NamedEnd) (address count n : ℕ) → stream_of w end ≡ s → IsCall Reading w part v end address count n → Touch s w part v

same_stream : (a b : Stream) → b ≡ a → Unmoved a b
same_stream a b e = record { received = ap (λ (x : Stream). x.received) e; writer = ap (λ (x : Stream). x.writer.owner) e }

unmoved_twice : (a b c : Stream) → Unmoved a b → Unmoved b c → Unmoved a c
unmoved_twice a b c h k = record { received = k.received ∙ h.received; writer = k.writer ∙ h.writer }

aside_same : (s : ℕ) (w v : World) → v ≡ w → s < length w.state.streams → Aside s w v
aside_same s w v e l = record {
  stream = same_stream (stream_in w s) (stream_in v s) (ap (λ x. stream_in x s) e);
  made = subst (λ (x : World). s < length x.state.streams) (sym e) l;
  writer = λ n o. held_by_same (writer_at w n) (writer_at v n) (ap (λ x. writer_at x n) e);
}

-- told its report, a stream's read end changes nothing of its writer
pub told_stream : (side : Side) (stream : Stream) → Unmoved stream (delivered side stream)
unfolding delivered
told_stream Writing stream = record { received = refl; writer = refl }
told_stream Reading stream = record { received = refl; writer = refl }

-- an operation that opens changes as little
opened_stream : (side : Side) (stream : Stream) (operation : Operation) → Unmoved stream (with_operation side stream operation)
opened_stream Writing stream operation = record { received = refl; writer = refl }
opened_stream Reading stream operation = record { received = refl; writer = refl }

module _ (first w : World) (s : ℕ) (l : Lives first w) (made : s < length w.state.streams) (q : IsQuiet (stream_in w s)) where
  -- a host writer of another stream is another one
  other_writer : (t n m : ℕ) → s ≢ t → (stream_in w t).writer.owner ≡ Host n → (stream_in w s).writer.owner ≡ Host m → m ≢ n
  other_writer t n m ne e f g =
      let same : (stream_in w s).writer.owner ≡ Host n = f ∙ ap Host g in
      ne (owned_once w.state t s n l.holds e same)

  reacted_aside : (v : World) (act : Act) → v ≡ reacted_to w act → Aside s w v
  reacted_aside v act e = record {
    stream = subst (λ x. Unmoved (stream_in w s) (stream_in x s)) (sym e) (reaction-unmoved w.state act s l.holds made q);
    made = subst (λ (x : World). s < length x.state.streams) (sym e) (reaction-made w.state act s l.holds made);
    writer = λ n o. held_by_same (writer_at w n) (writer_at v n) (ap (λ x. writer_at x n) e);
  }

  -- a host writer goes with a read end
  forsaken_touch : (part : Part) (v : World) (act : Act) (t n : ℕ) → IsForsaking w v act Reading t n → Touch s w part v
  forsaken_touch part v act t n f =
      let u = reacted_to w act in
      let a = reacted_aside u act refl in
      let tmade = owned_made w.state t n l.holds f.owner in
      let tquiet = owned_quiet w.state t n l.holds f.owner in
      let towner : (stream_in u t).writer.owner ≡ Host n = (reaction-unmoved w.state act t l.holds tmade tquiet).writer ∙ f.owner in
      let now = forsaken Reading (stream_in u t) in
      let long : s < length v.state.streams = subst (λ (x : World). s < length x.state.streams) (sym f.is) (subst (λ k. s < k) (sym (back-length u t now)) a.made) in
      elim (cases_eq s t) [
        | inl e ↦
            let here : stream_in v s ≡ now = ap (λ x. stream_in x s) f.is ∙ ap (λ k. stream_in (with_stream_in u t now) k) e ∙ back-here u t now (reaction-made w.state act t l.holds tmade) in
            IsLost n (record {
              was = ap (λ k. (stream_in w k).writer.owner) e ∙ f.owner;
              gone = ap (λ (x : Stream). x.writer.owner) here;
              received = ap (λ (x : Stream). x.received) here ∙ ap (λ k. (stream_in u k).received) (sym e) ∙ a.stream.received;
              made = long;
              coming = ap (λ x. (writer_at x n).coming) f.is ∙ back-coming u t now n;
            })
        | inr ne ↦ NotTouched (record {
          stream = unmoved_twice (stream_in w s) (stream_in u s) (stream_in v s) a.stream
              (same_stream (stream_in u s) (stream_in v s) (ap (λ x. stream_in x s) f.is ∙ back-other u t now s ne));
          made = long;
          writer = λ m o. held_by_same (writer_at w m) (writer_at v m)
              (ap (λ x. writer_at x m) f.is
              ∙ back-writer u t now m (λ k g. let same : Host k ≡ Host n = sym g ∙ towner in let who : k ≡ n = cc in λ h. other_writer t n m ne f.owner o (h ∙ who)));
        })
      ]

  -- a stream set to another with the same writer, and the same count
  set_aside : (u v : World) (t : ℕ) (x : Stream) → Aside s w u → Unmoved (stream_in u t) x → v ≡ with_stream_in u t x → Aside s w v
  set_aside u v t x a same e =
      let long : s < length v.state.streams = subst (λ (y : World). s < length y.state.streams) (sym e) (subst (λ k. s < k) (sym (back-length u t x)) a.made) in
      let writers : (m : ℕ) → writer_at v m ≡ writer_at u m = λ m. ap (λ y. writer_at y m) e ∙ back-stays u t x same.writer m in
      record {
        stream = elim (cases_eq s t) [
          | inl q ↦
              let here : stream_in v s ≡ x = ap (λ y. stream_in y s) e ∙ ap (λ k. stream_in (with_stream_in u t x) k) q ∙ back-here u t x (subst (λ k. k < length u.state.streams) q a.made) in
              let was : Unmoved (stream_in u s) x = subst (λ k. Unmoved (stream_in u k) x) (sym q) same in
              unmoved_twice (stream_in w s) (stream_in u s) (stream_in v s) a.stream (subst (Unmoved (stream_in u s)) (sym here) was)
          | inr ne ↦ unmoved_twice (stream_in w s) (stream_in u s) (stream_in v s) a.stream (same_stream (stream_in u s) (stream_in v s) (ap (λ y. stream_in y s) e ∙ back-other u t x s ne))
        ];
        made = long;
        writer = λ m o. let h = a.writer m o in record {
          holds = ap (λ (y : Writer). y.holds) (writers m) ∙ h.holds;
          coming = ap (λ (y : Writer). y.coming) (writers m) ∙ h.coming;
        };
      }

  -- a host reader goes with a write end
  unread_aside : (v : World) (act : Act) (t n : ℕ) → IsForsaking w v act Writing t n → Aside s w v
  unread_aside v act t n f =
      let u = reacted_to w act in
      set_aside u v t (forsaken Writing (stream_in u t)) (reacted_aside u act refl) (record { received = refl; writer = refl }) f.is

  hosted_aside : (v : World) (n : ℕ) → v ≡ hosted w n → Aside s w v
  hosted_aside v n e = record {
    stream = same_stream (stream_in w s) (stream_in v s) (ap (λ x. stream_in x s) e ∙ push-other w.state.streams (hosted_stream (writer_at w n) n) s (λ f. absurd (omega (arith, made, f))));
    made = subst (λ (x : World). s < length x.state.streams) (sym e) (push_made w.state.streams s (hosted_stream (writer_at w n) n) made);
    writer = λ m o. held_by_same (writer_at w m) (writer_at v m) (ap (λ x. writer_at x m) e);
  }

  fed_aside : (v : World) (n : ℕ) (bytes : List ℕ) → v ≡ record w { writers = set w.writers n (fed_writer (writer_at w n) bytes) } → Aside s w v
  fed_aside v n bytes e = record {
    stream = same_stream (stream_in w s) (stream_in v s) (ap (λ x. stream_in x s) e);
    made = subst (λ (x : World). s < length x.state.streams) (sym e) made;
    writer = λ m o. record {
      holds = ap (λ x. (writer_at x m).holds) e ∙ set-keeps (λ (x : Writer). x.holds) w.writers n m (fed_writer (writer_at w n) bytes) no_writer refl;
      coming = ap (λ x. (writer_at x m).coming) e ∙ set-keeps (λ (x : Writer). x.coming) w.writers n m (fed_writer (writer_at w n) bytes) no_writer refl;
    };
  }

  granted_aside : (v : World) (r count : ℕ) → v ≡ with_reader w r (granted_reader (reader_at w r) count) → Aside s w v
  granted_aside v r count e = record {
    stream = same_stream (stream_in w s) (stream_in v s) (ap (λ x. stream_in x s) e);
    made = subst (λ (x : World). s < length x.state.streams) (sym e) made;
    writer = λ m o. held_by_same (writer_at w m) (writer_at v m) (ap (λ x. writer_at x m) e);
  }

  -- A PIPE

  piped_aside : (t r : ℕ) → Aside s w (piped_to w t r)
  piped_aside t r =
      let u = with_consumer w r (record no_consumer { duty = Serves t }) in
      set_aside u (piped_to w t r) t (piped (stream_in w t) r)
      (record { stream = same_stream (stream_in w s) (stream_in w s) refl; made = made; writer = λ m o. held_by_same (writer_at w m) (writer_at w m) refl })
      (record { received = refl; writer = refl }) refl

  -- whose both ends go at once
  dry_touch : (part : Part) (v : World) (t r : ℕ) → v ≡ with_stream_in (piped_to w t r) t (without_ends (piped (stream_in w t) r)) → (owner : Owner) → (stream_in w t).writer.owner ≡ owner → is_dry w owner ≡ true → t < length w.state.streams → Touch s w part v
  dry_touch part v t r e Gone o d tmade =
      let u = piped_to w t r in
      let v_ = with_consumer w r (record no_consumer { duty = Serves t }) in
      let here : stream_in u t ≡ piped (stream_in w t) r = back-here v_ t (piped (stream_in w t) r) tmade in
      NotTouched
      (set_aside u v t (without_ends (piped (stream_in w t) r)) (piped_aside t r)
      (subst (λ x. Unmoved x (without_ends (piped (stream_in w t) r))) (sym here) (record { received = refl; writer = sym o })) e)
  dry_touch part v t r e (Host n) o d tmade =
      let u = piped_to w t r in
      let v_ = with_consumer w r (record no_consumer { duty = Serves t }) in
      let pipe = piped (stream_in w t) r in
      let last = without_ends pipe in
      let a = piped_aside t r in
      let here : stream_in u t ≡ pipe = back-here v_ t pipe tmade in
      let long : s < length v.state.streams = subst (λ (x : World). s < length x.state.streams) (sym e) (subst (λ k. s < k) (sym (back-length u t last)) a.made) in
      elim (cases_eq s t) [
        | inl q ↦
            let now : stream_in v s ≡ last = ap (λ x. stream_in x s) e ∙ ap (λ k. stream_in (with_stream_in u t last) k) q ∙ back-here u t last (subst (λ k. t < k) (sym (back-length v_ t pipe)) tmade) in
            IsLost n (record {
              was = ap (λ k. (stream_in w k).writer.owner) q ∙ o;
              gone = ap (λ (x : Stream). x.writer.owner) now;
              received = ap (λ (x : Stream). x.received) now ∙ ap (λ k. (stream_in w k).received) (sym q);
              made = long;
              coming = ap (λ x. (writer_at x n).coming) e ∙ back-coming u t last n ∙ back-coming v_ t pipe n;
            })
        | inr ne ↦ NotTouched (record {
          stream = unmoved_twice (stream_in w s) (stream_in u s) (stream_in v s) a.stream (same_stream (stream_in u s) (stream_in v s) (ap (λ x. stream_in x s) e ∙ back-other u t last s ne));
          made = long;
          writer = λ m x.
              let h = a.writer m x in
              let same : writer_at v m ≡ writer_at u m =
              ap (λ y. writer_at y m) e
              ∙ back-writer u t last m (λ k g. let owner : Host k ≡ Host n = sym g ∙ ap (λ (y : Stream). y.writer.owner) here ∙ o in let who : k ≡ n = cc in λ f. other_writer t n m ne o x (f ∙ who)) in
              record { holds = ap (λ (y : Writer). y.holds) same ∙ h.holds; coming = ap (λ (y : Writer). y.coming) same ∙ h.coming };
        })
      ]
  dry_touch part v t r e _ o d tmade = cc

  pipe_touch : (part : Part) (v : World) (t r : ℕ) → IsPiping w v t r → Touch s w part v
  pipe_touch part v t r p = by p.is p.dry
    where
      kept : v ≡ piped_to w t r → Touch s w part v
      kept e = NotTouched (subst (Aside s w) (sym e) (piped_aside t r))

      by : (v ≡ piped_to w t r) ⊎ (v ≡ with_stream_in (piped_to w t r) t (without_ends (piped (stream_in w t) r))) → (v ≡ piped_to w t r) ⊎ (is_dry w (stream_in w t).writer.owner ≡ true) → Touch s w part v
      by (inl e) d = kept e
      by (inr e) (inl f) = kept f
      by (inr e) (inr d) = dry_touch part v t r e (stream_in w t).writer.owner refl d (loose_made w.state t (is_new_reader w r t p.unrefused).loose)

  -- A TURN

  turned_touch : (part : Part) (v : World) (t n : ℕ) (read : Operation) → IsTurn Reading w part v t n read → Touch s w part v
  turned_touch part v t n read i =
      let can = drive_can first w part v t n read l i in
      elim (cases_eq t s) [
        | inl e ↦ HasTurn n read (subst (λ k. IsTurn Reading w part v k n read) e i)
        | inr ne ↦ (
            let off : s ≢ t = λ f. ne (sym f) in
            NotTouched (record {
              stream = same_stream (stream_in w s) (stream_in v s) (turned-other w t n read v i.turned can s off);
              made = subst (λ k. s < k) (sym (turned-length w t n read v i.turned can)) made;
              writer = λ m o. held_by_same (writer_at w m) (writer_at v m) (turned-writer w t n read v i.turned can m (other_writer t n m off i.owner o));
            }))
      ]

  -- of a host reader, on another stream
  taken_aside : (u v : World) (t r : ℕ) (write : Operation) → Taken u t r write v → s ≢ t → Aside s w u → Aside s w v
  taken_aside u v t r write k ne a = record {
    stream = unmoved_twice (stream_in w s) (stream_in u s) (stream_in v s) a.stream (same_stream (stream_in u s) (stream_in v s) (taken-other u t r write v k s ne));
    made = subst (λ n. s < n) (sym (taken-length u t r write v k)) a.made;
    writer = λ m o. (let h = a.writer m o in let same = taken-writer u t r write v k m in record { holds = ap (λ (y : Writer). y.holds) same ∙ h.holds; coming = ap (λ (y : Writer). y.coming) same ∙ h.coming });
  }

  -- nothing is written on a stream that is quiet
  taking_touch : (part : Part) (v : World) (t r : ℕ) (write : Operation) → IsTurn Writing w part v t r write → Touch s w part v
  taking_touch part v t r write i =
      NotTouched
      (taken_aside w v t r write i.turned (λ e. not_quiet (ap (λ k. (stream_in w k).writer.operation) e ∙ i.operation_is))
      (aside_same s w w refl made))
    where
      not_quiet : (stream_in w s).writer.operation ≡ Some write → ⊥
      not_quiet f = let none = quiet_none (stream_in w s) q in let wrong : Some write ≡ None = sym f ∙ none in cc

  -- A CALL

  -- told its report
  told_aside : (side : Side) (u v : World) (t : ℕ) → Aside s w u → (v ≡ u) ⊎ (v ≡ with_stream_in u t (delivered side (stream_in u t))) → Aside s w v
  told_aside side u v t a (inl e) = subst (Aside s w) (sym e) a
  told_aside side u v t a (inr e) = set_aside u v t (delivered side (stream_in u t)) a (told_stream side (stream_in u t)) e

  read_touch : (part : Part) (v : World) (end : NamedEnd) (address count n : ℕ) → IsCall Reading w part v end address count n → Touch s w part v
  read_touch part v end address count n r =
      let t = stream_of w end in
      let read = called end address count in
      let o = opened Reading w t read in
      let can = read_can first w part v end address count n l r in
      let open_stream = with_operation Reading (stream_in w t) read in
      elim (cases_eq t s) [
        | inl e ↦ HasRead end address count n e r
        | inr ne ↦ (
            let off : s ≢ t = λ f. ne (sym f) in
            let mid_stream : stream_in r.mid s ≡ stream_in w s = turned-other o t n read r.mid r.turned can s off ∙ back-other w t open_stream s off in
            let mid_long : s < length r.mid.state.streams = subst (λ k. s < k) (sym (turned-length o t n read r.mid r.turned can ∙ back-length w t open_stream)) made in
            let mid_writer : (m : ℕ) → (stream_in w s).writer.owner ≡ Host m → writer_at r.mid m ≡ writer_at w m = λ m x. turned-writer o t n read r.mid r.turned can m (other_writer t n m off r.owner x) ∙ back-stays w t open_stream refl m in
            let mid : Aside s w r.mid = record {
              stream = same_stream (stream_in w s) (stream_in r.mid s) mid_stream;
              made = mid_long;
              writer = λ m x. held_by_same (writer_at w m) (writer_at r.mid m) (mid_writer m x);
            } in
            NotTouched (told_aside Reading r.mid v t mid r.told))
      ]

  write_touch : (part : Part) (v : World) (end : NamedEnd) (address count r : ℕ) → IsCall Writing w part v end address count r → Touch s w part v
  write_touch part v end address count r c =
      let t = stream_of w end in
      let write = called end address count in
      let o = opened Writing w t write in
      let own = l.holds.held.agree.named end.guest end.handle t Writing c.begun.found.held in
      let off : s ≢ t = λ e. unheld_by (stream_in w s) end.guest end.handle q (ap (λ k. (stream_in w k).writer.owner) e ∙ own) in
      let open_aside = set_aside w o t (with_operation Writing (stream_in w t) write) (aside_same s w w refl made) (opened_stream Writing (stream_in w t) write) refl in
      NotTouched (told_aside Writing c.mid v t (taken_aside o c.mid t r write c.turned off open_aside) c.told)

  -- THE ROUND OF A PIPE

  round_touch : (part : Part) (v : World) (t n r : ℕ) → IsRound w part v t n r → Touch s w part v
  round_touch part v t n r i =
      elim (cases_eq t s) [
        | inl e ↦ HasRound n r (subst (λ k. IsRound w part v k n r) e i)
        | inr ne ↦ (
            let off : s ≢ t = λ f. ne (sym f) in
            NotTouched (record {
              stream = same_stream (stream_in w s) (stream_in v s) (round_other w t n r v i.passed s off);
              made = subst (λ k. s < k) (sym (round_length w t n r v i.passed)) made;
              writer = λ m o. held_by_same (writer_at w m) (writer_at v m) (round_writer w t n r v i.passed i.wrote m (other_writer t n m off i.wrote o));
            }))
      ]

  pub form_touch : (part : Part) (reply : Reply) (v : World) → Form w part reply v → Touch s w part v
  form_touch part reply v (BySame m e) = NotTouched (aside_same s w v e made)
  form_touch part reply v (ByReacting act m e) = NotTouched (reacted_aside v act e)
  form_touch part reply v (ByForsaking act Reading t n m f) = forsaken_touch part v act t n f
  form_touch part reply v (ByForsaking act Writing t n m f) = NotTouched (unread_aside v act t n f)
  form_touch part reply v (ByHosting n p r e f) = NotTouched (hosted_aside v n f)
  form_touch part reply v (ByFeeding n bytes m e) = NotTouched (fed_aside v n bytes e)
  form_touch part reply v (ByGranting r count m e) = NotTouched (granted_aside v r count e)
  form_touch part reply v (ByPiping t r m p) = pipe_touch part v t r p
  form_touch part reply v (ByTurning Reading t n read m i) = turned_touch part v t n read i
  form_touch part reply v (ByTurning Writing t r write m i) = taking_touch part v t r write i
  form_touch part reply v (ByPassing t n r m i) = round_touch part v t n r i
  form_touch part reply v (ByCalling Reading end address count n m r) = read_touch part v end address count n r
  form_touch part reply v (ByCalling Writing end address count n m r) = write_touch part v end address count n r
