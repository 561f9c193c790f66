-- Host ends and streams agree after a stream is another, one more is made, or what is kept of one host end
-- is other than it was.
use Rattle.std.proofs.Common.{◌≡◌, ◌≢◌, ◌⊎◌, ℕ, zero, suc, ◌<◌, false, List, [], ◌∷◌, ◌++◌, length, get_or, set, replicate, refl, sym, ap, ◌∙◌, inl, inr, ⊎_elim, arith, length-append}
use Rattle.std.proofs.lemmas.Bool.{cases_eq, cases_lt}
use Rattle.std.proofs.lemmas.List.{length-set, length-replicate, get_or-replicate, get_or_past, get_or-set_same, get_or-set_other}
use Rattle.strm_machine.specs.State.{is_host, host_limit, no_stream, no_producer, no_consumer}
use Rattle.strm_machine.specs.Hosting.{duty_among}
use Rattle.strm_machine.specs.Sides.{end_of}
use Rattle.strm_machine.specs.declared.streams.Consumer.{Consumer}
use Rattle.strm_machine.specs.declared.streams.Duty.{Duty}
use Rattle.strm_machine.specs.declared.streams.Duty.TheVariants.{Unused, Serves, Ended}
use Rattle.strm_machine.specs.declared.streams.Owner.{Owner}
use Rattle.strm_machine.specs.declared.streams.Owner.TheVariants.{Host, Gone}
use Rattle.strm_machine.specs.declared.streams.Producer.{Producer}
use Rattle.strm_machine.specs.declared.streams.Side.{Side}
use Rattle.strm_machine.specs.declared.streams.Side.TheVariants.{Writing, Reading}
use Rattle.strm_machine.specs.declared.streams.Stream.{Stream}
use Rattle.strm_machine.proofs.HostLemmas.{no_host}
use Rattle.strm_machine.proofs.TableLemmas.{at_push}
use Rattle.strm_transmit.specs.Inside.{AreServed}

-- ## Places of a list

-- what holds at each place of a list of which one place was set
pub at_set : {A : Type 0} (xs : List A) (i : ℕ) (x d : A) (k : ℕ) (P : A → Type 0) → i < length xs → (k ≡ i → P x) → (k ≢ i → P (get_or xs k d)) → P (get_or (set xs i x) k d)
at_set [] i x d k P l f g = absurd (omega (arith, l))
at_set (y ∷ ys) zero x d zero P l f g = f refl
at_set (y ∷ ys) zero x d (suc k) P l f g = g (λ e. omega (arith, e))
at_set (y ∷ ys) (suc i) x d zero P l f g = g (λ e. omega (arith, e))
at_set (y ∷ ys) (suc i) x d (suc k) P l f g =
    at_set ys i x d k P (omega (arith, l)) (λ e. f (ap suc e)) (λ n. g (λ e. n (omega (arith, e))))

-- ## Duties

pub same_stream : (a b : ℕ) (d : Duty) → d ≡ Serves a → d ≡ Serves b → a ≡ b
same_stream a b d e f = cc

pub same_host : (a b : ℕ) (o : Owner) → o ≡ Host a → o ≡ Host b → a ≡ b
same_host a b o e f = cc

pub gone_no_host : (o : Owner) (m : ℕ) → o ≡ Gone → o ≡ Host m → ⊥
gone_no_host o m e f = cc

pub not_unused : (d : Duty) (s : ℕ) → d ≡ Unused → d ≢ Serves s
not_unused d s e f = cc

pub ended_no : (d : Duty) (s : ℕ) → d ≡ Ended → d ≢ Serves s
ended_no d s e f = cc

-- a host end that serves a stream is one of those that are kept
pub serving_kept : (producers : List Producer) (n s : ℕ) → (get_or producers n no_producer).duty ≡ Serves s → n < length producers
serving_kept producers n s e =
    ⊎_elim (λ l. l)
    (λ l. let past : get_or producers n no_producer ≡ no_producer = get_or_past producers n no_producer l in
    absurd (not_unused (get_or producers n no_producer).duty s (ap (λ (p : Producer). p.duty) past) e))
    (cases_lt n (length producers))

pub reading_kept : (consumers : List Consumer) (r s : ℕ) → (get_or consumers r no_consumer).duty ≡ Serves s → r < length consumers
reading_kept consumers r s e =
    ⊎_elim (λ l. l)
    (λ l. let past : get_or consumers r no_consumer ≡ no_consumer = get_or_past consumers r no_consumer l in
    absurd (not_unused (get_or consumers r no_consumer).duty s (ap (λ (c : Consumer). c.duty) past) e))
    (cases_lt r (length consumers))

-- so its number is one of the 64
pub duty_known : (side : Side) (ps : List Producer) (cs : List Consumer) (streams : List Stream) (n s : ℕ) → AreServed ps cs streams → duty_among side ps cs n ≡ Serves s → n < host_limit
duty_known Writing ps cs streams n s h e = rw h.all at (serving_kept ps n s e)
duty_known Reading ps cs streams n s h e = rw h.all_readers at (reading_kept cs n s e)

-- ## Streams

-- a stream that no host end came to
abbrev pub ComesNoHost : Stream → Stream → Type 0
ComesNoHost before after = (side : Side) (n : ℕ) → (end_of side after).owner ≡ Host n → (end_of side before).owner ≡ Host n

pub same_owners : (before after : Stream) → after.writer.owner ≡ before.writer.owner → after.reader.owner ≡ before.reader.owner → ComesNoHost before after
same_owners before after w r Writing n e = sym w ∙ e
same_owners before after w r Reading n e = sym r ∙ e

module _ (producers : List Producer) (consumers : List Consumer) (streams : List Stream) (h : AreServed producers consumers streams) where
  -- one stream is another
  pub AreServed-set : (s : ℕ) (stream : Stream) → s < length streams → ComesNoHost (get_or streams s no_stream) stream → AreServed producers consumers (set streams s stream)
  AreServed-set s stream l c = record {
    all = h.all;
    all_readers = h.all_readers;
    serves = λ side n k. at_set streams s stream no_stream k (λ x. (end_of side x).owner ≡ Host n → duty_among side producers consumers n ≡ Serves k) l
        (λ e o. rw e (h.serves side n s (c side n o))) (λ _. h.serves side n k);
    made = λ side n k e. rw (length-set streams s stream) (h.made side n k e);
  }

  -- one more that is no host's
  pub AreServed-push : (stream : Stream) → ((side : Side) → is_host (end_of side stream).owner ≡ false) → AreServed producers consumers (streams ++ stream ∷ [])
  AreServed-push stream u = record {
    all = h.all;
    all_readers = h.all_readers;
    serves = λ side n k. at_push streams stream no_stream k (λ x. (end_of side x).owner ≡ Host n → duty_among side producers consumers n ≡ Serves k)
        (λ e o. absurd (no_host (end_of side stream).owner n (u side) o)) (λ _. h.serves side n k);
    made = λ side n k e. omega (arith, h.made side n k e, length-append streams (stream ∷ []));
  }

  -- a host end has an end of no other stream than the one that it serves
  pub serves_only : (side : Side) (n s : ℕ) → duty_among side producers consumers n ≡ Serves s → (t : ℕ) → t ≢ s → (end_of side (get_or streams t no_stream)).owner ≢ Host n
  serves_only side n s d t other o = other (same_stream t s (duty_among side producers consumers n) (h.serves side n t o) d)

  -- one that was never used has none
  pub serves_none : (side : Side) (n : ℕ) → duty_among side producers consumers n ≡ Unused → (t : ℕ) → (end_of side (get_or streams t no_stream)).owner ≢ Host n
  serves_none side n d t o = not_unused (duty_among side producers consumers n) t d (h.serves side n t o)

-- ## No stream

unused_writer : (n : ℕ) → get_or (replicate host_limit no_producer) n no_producer ≡ no_producer
unused_writer n =
    ⊎_elim (λ l. get_or-replicate host_limit n no_producer no_producer l)
    (λ l. get_or_past (replicate host_limit no_producer) n no_producer (omega (arith, l, length-replicate host_limit no_producer)))
    (cases_lt n host_limit)

unused_reader : (n : ℕ) → get_or (replicate host_limit no_consumer) n no_consumer ≡ no_consumer
unused_reader n =
    ⊎_elim (λ l. get_or-replicate host_limit n no_consumer no_consumer l)
    (λ l. get_or_past (replicate host_limit no_consumer) n no_consumer (omega (arith, l, length-replicate host_limit no_consumer)))
    (cases_lt n host_limit)

pub all_unused : (side : Side) (n : ℕ) → duty_among side (replicate host_limit no_producer) (replicate host_limit no_consumer) n ≡ Unused
all_unused Writing n = ap (λ (p : Producer). p.duty) (unused_writer n)
all_unused Reading n = ap (λ (c : Consumer). c.duty) (unused_reader n)

no_streams : (side : Side) (s : ℕ) → (end_of side (get_or [] s no_stream)).owner ≡ Gone
no_streams Writing s = ap (λ (x : Stream). x.writer.owner) (get_or_past [] s no_stream (omega arith))
no_streams Reading s = ap (λ (x : Stream). x.reader.owner) (get_or_past [] s no_stream (omega arith))

-- no host end was used
pub AreServed-none : AreServed (replicate host_limit no_producer) (replicate host_limit no_consumer) []
AreServed-none = record {
  all = length-replicate host_limit no_producer;
  all_readers = length-replicate host_limit no_consumer;
  serves = λ side n s e. absurd (gone_no_host (end_of side (get_or [] s no_stream)).owner n (no_streams side s) e);
  made = λ side n s e. absurd (not_unused _ s (all_unused side n) e);
}

-- ## Host ends that begin, go on and end

-- of all that is kept, only what is kept of host end n on a side may be other than it was
pub record KeepsOthers (ps qs : List Producer) (cs ds : List Consumer) (side : Side) (n : ℕ) : Type 0 where
  pub all : length qs ≡ length ps
  pub all_readers : length ds ≡ length cs
  pub others : (k : Side) (m : ℕ) → (duty_among k qs ds m ≡ duty_among k ps cs m) ⊎ ((k ≡ side) × (m ≡ n))

pub keeps_readers : (ps : List Producer) (cs : List Consumer) (n : ℕ) (p : Producer) → KeepsOthers ps (set ps n p) cs cs Writing n
keeps_readers ps cs n p = record { all = length-set ps n p; all_readers = refl; others = others }
  where
    others : (k : Side) (m : ℕ) → (duty_among k (set ps n p) cs m ≡ duty_among k ps cs m) ⊎ ((k ≡ Writing) × (m ≡ n))
    others Writing m =
        elim (cases_eq m n) [
          | inl e ↦ inr (refl, e)
          | inr ne ↦ inl (ap (λ (q : Producer). q.duty) (get_or-set_other ps n m p no_producer ne))
        ]
    others Reading m = inl refl

pub keeps_writers : (ps : List Producer) (cs : List Consumer) (n : ℕ) (c : Consumer) → KeepsOthers ps ps cs (set cs n c) Reading n
keeps_writers ps cs n c = record { all = refl; all_readers = length-set cs n c; others = others }
  where
    others : (k : Side) (m : ℕ) → (duty_among k ps (set cs n c) m ≡ duty_among k ps cs m) ⊎ ((k ≡ Reading) × (m ≡ n))
    others Writing m = inl refl
    others Reading m =
        elim (cases_eq m n) [
          | inl e ↦ inr (refl, e)
          | inr ne ↦ inl (ap (λ (q : Consumer). q.duty) (get_or-set_other cs n m c no_consumer ne))
        ]

-- what is kept of the one that was set
pub writer_now : (ps : List Producer) (cs : List Consumer) (n : ℕ) (p : Producer) → n < length ps → duty_among Writing (set ps n p) cs n ≡ p.duty
writer_now ps cs n p l = ap (λ (q : Producer). q.duty) (get_or-set_same ps n p no_producer l)

pub reader_now : (ps : List Producer) (cs : List Consumer) (n : ℕ) (c : Consumer) → n < length cs → duty_among Reading ps (set cs n c) n ≡ c.duty
reader_now ps cs n c l = ap (λ (q : Consumer). q.duty) (get_or-set_same cs n c no_consumer l)

module _ (ps qs : List Producer) (cs ds : List Consumer) (streams : List Stream) (h : AreServed ps cs streams) (side : Side) (n : ℕ) (c : KeepsOthers ps qs cs ds side n) where
  -- whichever serves a stream did so before, or is the one that may be other
  served_by : (P : Type 0) (k : Side) (m t : ℕ) → duty_among k qs ds m ≡ Serves t → (duty_among k ps cs m ≡ Serves t → P) → (duty_among side qs ds n ≡ Serves t → P) → P
  served_by P k m t e f g =
      elim (c.others k m) [
        | inl same ↦ f (sym same ∙ e)
        | inr it ↦ g (rw it.0 at (rw it.1 at e))
      ]

  -- and one that has an end of a stream serves it, unless it is that one
  owner_by : (k : Side) (m t : ℕ) → (end_of k (get_or streams t no_stream)).owner ≡ Host m → ((end_of side (get_or streams t no_stream)).owner ≢ Host n) → duty_among k qs ds m ≡ Serves t
  owner_by k m t o none =
      elim (c.others k m) [
        | inl same ↦ same ∙ h.serves k m t o
        | inr it ↦ absurd (none (rw it.0 at (rw it.1 at o)))
      ]

  -- it serves this stream or none
  abbrev pub ServesAtMost : ℕ → Type 0
  ServesAtMost s = (t : ℕ) → duty_among side qs ds n ≡ Serves t → t ≡ s

  -- it has an end of no other stream than this one
  abbrev pub HasNoOther : ℕ → Type 0
  HasNoOther s = (t : ℕ) → t ≢ s → (end_of side (get_or streams t no_stream)).owner ≢ Host n

  -- whoever is a host end of this stream serves it
  abbrev pub AllServe : Stream → ℕ → Type 0
  AllServe stream s = (k : Side) (m : ℕ) → (end_of k stream).owner ≡ Host m → duty_among k qs ds m ≡ Serves s

  -- its stream is another too
  pub AreServed-turned : (s : ℕ) (stream : Stream) → s < length streams → AllServe stream s → HasNoOther s → ServesAtMost s → AreServed qs ds (set streams s stream)
  AreServed-turned s stream l all none most = record {
    all = c.all ∙ h.all;
    all_readers = c.all_readers ∙ h.all_readers;
    serves = λ k m t. at_set streams s stream no_stream t (λ x. (end_of k x).owner ≡ Host m → duty_among k qs ds m ≡ Serves t) l
        (λ e o. rw e (all k m o)) (λ other o. owner_by k m t o (none t other));
    made = λ k m t e. rw (length-set streams s stream) (served_by (t < length streams) k m t e (h.made k m t) (λ f. rw (most t f) l));
  }

  -- a stream more
  pub AreServed-hosted : (stream : Stream) → AllServe stream (length streams) → HasNoOther (length streams) → ServesAtMost (length streams) → AreServed qs ds (streams ++ stream ∷ [])
  AreServed-hosted stream all none most = record {
    all = c.all ∙ h.all;
    all_readers = c.all_readers ∙ h.all_readers;
    serves = λ k m t. at_push streams stream no_stream t (λ x. (end_of k x).owner ≡ Host m → duty_among k qs ds m ≡ Serves t)
        (λ e o. rw e (all k m o)) (λ other o. owner_by k m t o (none t other));
    made = λ k m t e. served_by (t < length (streams ++ stream ∷ [])) k m t e
        (λ f. omega (arith, h.made k m t f, length-append streams (stream ∷ []))) (λ f. omega (arith, most t f, length-append streams (stream ∷ [])));
  }

  -- it is no end of a stream any more
  pub AreServed-retired : ((t : ℕ) → (end_of side (get_or streams t no_stream)).owner ≢ Host n) → duty_among side qs ds n ≡ Ended → AreServed qs ds streams
  AreServed-retired none ended = record {
    all = c.all ∙ h.all;
    all_readers = c.all_readers ∙ h.all_readers;
    serves = λ k m t o. owner_by k m t o (none t);
    made = λ k m t e. served_by (t < length streams) k m t e (h.made k m t) (λ f. absurd (ended_no (duty_among side qs ds n) t ended f));
  }

-- the one that serves a stream whose end on its side is gone has none
pub gone_has_none : (side : Side) (ps : List Producer) (cs : List Consumer) (streams : List Stream) (n s : ℕ) → AreServed ps cs streams → duty_among side ps cs n ≡ Serves s → (end_of side (get_or streams s no_stream)).owner ≡ Gone → (t : ℕ) → (end_of side (get_or streams t no_stream)).owner ≢ Host n
gone_has_none side ps cs streams n s h d gone t o =
    elim (cases_eq t s) [
      | inl e ↦ gone_no_host (end_of side (get_or streams t no_stream)).owner n (rw e gone) o
      | inr ne ↦ serves_only ps cs streams h side n s d t ne o
    ]
