-- A change at one stream and its host ends leaves every other stream as it is.
use Rattle.std.proofs.Common.{◌≡◌, ◌≢◌, ℕ, ◌∷◌, ◌++◌, length, get_or, set, Option, refl, sym, ap, subst, ◌∙◌, List, []}
use Rattle.std.proofs.lemmas.List.{get_or-set_other}
use Rattle.strm_buffers.specs.Listing.{Item}
use Rattle.strm_machine.specs.State.{State, Guest, no_stream, no_producer, no_consumer, producer_at, kept_at, consumer_at, stream_at}
use Rattle.strm_machine.specs.Sides.{end_of}
use Rattle.strm_machine.specs.Hosting.{HostsHold}
use Rattle.strm_machine.specs.declared.streams.Consumer.{Consumer}
use Rattle.strm_machine.specs.declared.streams.Duty.TheVariants.{Ended}
use Rattle.strm_machine.specs.declared.streams.Owner.{Owner}
use Rattle.strm_machine.specs.declared.streams.Owner.TheVariants.{Host, Gone}
use Rattle.strm_machine.specs.declared.streams.Producer.{Producer}
use Rattle.strm_machine.specs.declared.streams.Side.{Side}
use Rattle.strm_machine.specs.declared.streams.Side.TheVariants.{Writing, Reading}
use Rattle.strm_machine.specs.declared.streams.Stream.{Stream}
use Rattle.strm_host_machine.specs.Ends.{Writer, Reader, no_writer, no_reader, closed_writer, closed_reader}
use Rattle.strm_host_machine.specs.World.{World, stream_in, writer_at, reader_at, with_producer, with_kept, with_consumer, with_writer, with_reader, leaves_writer, leaves_reader, with_stream_in}
use Rattle.strm_host_laws.specs.Isolation.{StreamStaysWhole}
use Rattle.strm_host_laws.proofs.GoingRules.{with_state}
use Rattle.strm_host_laws.proofs.HostsAgree.{one_stream}
use Rattle.strm_host_laws.proofs.WrittenBack.{set_back}

-- what is kept of host writer n, its items that are kept, and those that it holds
abbrev pub kept_of : World → ℕ → Producer × List Item × List Item
kept_of w n = (producer_at w.state n, kept_at w.state n, (writer_at w n).holds)

-- what is kept of host reader r, and what it took
abbrev pub known_of : World → ℕ → Consumer × Option (List Item)
known_of w r = (consumer_at w.state r, (reader_at w r).holds)

-- what changes is stream s, host writers that are so, and host readers that are so
pub record OnlyAt (s : ℕ) (W R : ℕ → Type 0) (w v : World) : Type 0 where
  pub streams : (k : ℕ) → k ≢ s → stream_in v k ≡ stream_in w k
  pub writers : (n : ℕ) → (W n → ⊥) → kept_of v n ≡ kept_of w n
  pub readers : (r : ℕ) → (R r → ⊥) → known_of v r ≡ known_of w r

-- its host ends
abbrev pub WritesIt : World → ℕ → ℕ → Type 0
WritesIt w s n = (stream_in w s).writer.owner ≡ Host n

abbrev pub ReadsIt : World → ℕ → ℕ → Type 0
ReadsIt w s r = (stream_in w s).reader.owner ≡ Host r

pub kept_same : (w v : World) (n : ℕ) → producer_at v.state n ≡ producer_at w.state n → kept_at v.state n ≡ kept_at w.state n → (writer_at v n).holds ≡ (writer_at w n).holds → kept_of v n ≡ kept_of w n
kept_same w v n e f g =
    ap (λ p. (p, kept_at v.state n, (writer_at v n).holds)) e
    ∙ ap (λ k. (producer_at w.state n, k, (writer_at v n).holds)) f
    ∙ ap (λ x. (producer_at w.state n, kept_at w.state n, x)) g

pub known_same : (w v : World) (r : ℕ) → consumer_at v.state r ≡ consumer_at w.state r → (reader_at v r).holds ≡ (reader_at w r).holds → known_of v r ≡ known_of w r
known_same w v r e f =
    ap (λ c. (c, (reader_at v r).holds)) e
    ∙ ap (λ x. (consumer_at w.state r, x)) f

-- by fewer host ends
pub only-fewer : (s : ℕ) (W R P Q : ℕ → Type 0) (w v : World) → ((n : ℕ) → W n → P n) → ((r : ℕ) → R r → Q r) → OnlyAt s W R w v → OnlyAt s P Q w v
only-fewer s W R P Q w v f g h = record {
  streams = h.streams;
  writers = λ n q. h.writers n (λ is. q (f n is));
  readers = λ r q. h.readers r (λ is. q (g r is));
}

module _ (s : ℕ) (W R : ℕ → Type 0) where
  abbrev Only : World → World → Type 0
  Only w v = OnlyAt s W R w v

  pub only-same : (w : World) → Only w w
  only-same w = record { streams = λ k ne. refl; writers = λ n h. refl; readers = λ r h. refl }

  pub only-then : (a b c : World) → Only a b → Only b c → Only a c
  only-then a b c h k = record {
    streams = λ j ne. k.streams j ne ∙ h.streams j ne;
    writers = λ n q. k.writers n q ∙ h.writers n q;
    readers = λ r q. k.readers r q ∙ h.readers r q;
  }

  -- guests may change, and stream s
  pub only-set : (w : World) (guests : List Guest) (x : Stream) → Only w (with_state w (record w.state { guests = guests; streams = set w.state.streams s x }))
  only-set w guests x = record {
    streams = λ k ne. get_or-set_other w.state.streams s k x no_stream ne;
    writers = λ n h. refl;
    readers = λ r h. refl;
  }

  pub only-guests : (w : World) (guests : List Guest) → Only w (with_state w (record w.state { guests = guests }))
  only-guests w guests = record { streams = λ k ne. refl; writers = λ n h. refl; readers = λ r h. refl }

  module _ (w : World) (n : ℕ) (is : W n) where
    other : (m : ℕ) → (W m → ⊥) → m ≢ n
    other m h e = h (subst W (sym e) is)

    pub only-producer : (producer : Producer) → Only w (with_producer w n producer)
    only-producer producer = record {
      streams = λ k ne. refl;
      writers = λ m h. kept_same w (with_producer w n producer) m (get_or-set_other w.state.producers n m producer no_producer (other m h)) refl refl;
      readers = λ r h. refl;
    }

    pub only-kept : (items : List Item) → Only w (with_kept w n items)
    only-kept items = record {
      streams = λ k ne. refl;
      writers = λ m h. kept_same w (with_kept w n items) m refl (get_or-set_other w.state.kept n m items [] (other m h)) refl;
      readers = λ r h. refl;
    }

    pub only-writer : (writer : Writer) → Only w (with_writer w n writer)
    only-writer writer = record {
      streams = λ k ne. refl;
      writers = λ m h. kept_same w (with_writer w n writer) m refl refl (ap (λ (x : Writer). x.holds) (get_or-set_other w.writers n m writer no_writer (other m h)));
      readers = λ r h. refl;
    }

  module _ (w : World) (r : ℕ) (is : R r) where
    other_reader : (m : ℕ) → (R m → ⊥) → m ≢ r
    other_reader m h e = h (subst R (sym e) is)

    pub only-consumer : (consumer : Consumer) → Only w (with_consumer w r consumer)
    only-consumer consumer = record {
      streams = λ k ne. refl;
      writers = λ n h. refl;
      readers = λ m h. known_same w (with_consumer w r consumer) m (get_or-set_other w.state.consumers r m consumer no_consumer (other_reader m h)) refl;
    }

    pub only-reader : (reader : Reader) → Only w (with_reader w r reader)
    only-reader reader = record {
      streams = λ k ne. refl;
      writers = λ n h. refl;
      readers = λ m h. known_same w (with_reader w r reader) m refl (ap (λ (x : Reader). x.holds) (get_or-set_other w.readers r m reader no_reader (other_reader m h)));
    }

  -- a host writer that goes
  only-left : (old new : Owner) (w : World) → ((n : ℕ) → old ≡ Host n → W n) → Only w (leaves_writer old new w)
  only-left (Host n) Gone w h =
      let ended = with_producer w n (record (producer_at w.state n) { duty = Ended }) in
      only-then w ended (leaves_writer (Host n) Gone w)
      (only-producer w n (h n refl) (record (producer_at w.state n) { duty = Ended }))
      (only-writer ended n (h n refl) (closed_writer (writer_at w n)))
  only-left (Host n) _ w h = only-same w
  only-left _ new w h = only-same w

  only-left_reader : (old new : Owner) (w : World) → ((r : ℕ) → old ≡ Host r → R r) → Only w (leaves_reader old new w)
  only-left_reader (Host r) Gone w h =
      let ended = with_consumer w r (record (consumer_at w.state r) { duty = Ended }) in
      only-then w ended (leaves_reader (Host r) Gone w)
      (only-consumer w r (h r refl) (record (consumer_at w.state r) { duty = Ended }))
      (only-reader ended r (h r refl) (closed_reader (reader_at w r)))
  only-left_reader (Host r) _ w h = only-same w
  only-left_reader _ new w h = only-same w

  -- stream s is written back
  pub only-back : (w : World) (x : Stream) → ((n : ℕ) → WritesIt w s n → W n) → ((r : ℕ) → ReadsIt w s r → R r) → Only w (with_stream_in w s x)
  unfolding with_stream_in
  only-back w x h k =
      let old = stream_in w s in
      let set_ = set_back w s x in
      let but = leaves_reader old.reader.owner x.reader.owner set_ in
      only-then w set_ (leaves_writer old.writer.owner x.writer.owner but)
      (only-set w w.state.guests x)
      (only-then set_ but (leaves_writer old.writer.owner x.writer.owner but)
      (only-left_reader old.reader.owner x.reader.owner set_ k)
      (only-left old.writer.owner x.writer.owner but h))

-- the last of a list
pub push-here : (xs : List Stream) (x : Stream) → get_or (xs ++ x ∷ []) (length xs) no_stream ≡ x
push-here [] x = refl
push-here (y ∷ ys) x = push-here ys x

-- STREAMS THAT STAY

-- a host end is the end of one stream
pub served_once : (side : Side) (state : State) (s t n : ℕ) → HostsHold state → (end_of side (stream_at state s)).owner ≡ Host n → (end_of side (stream_at state t)).owner ≡ Host n → t ≡ s
served_once side state s t n h e f = one_stream t s (sym ((h.serve side n t).serves f) ∙ (h.serve side n s).serves e)

-- another stream stays
pub stays-only : (s k : ℕ) (W R : ℕ → Type 0) (w v : World) → OnlyAt s W R w v → k ≢ s → ((n : ℕ) → WritesIt w k n → W n → ⊥) → ((r : ℕ) → ReadsIt w k r → R r → ⊥) → StreamStaysWhole k w v
stays-only s k W R w v h ne a b = record {
  stream = h.streams k ne;
  writer = λ n o. let same = h.writers n (a n o) in record {
    producer = ap (λ (x : Producer × List Item × List Item). x.0) same;
    kept = ap (λ (x : Producer × List Item × List Item). x.1) same;
    holds = ap (λ (x : Producer × List Item × List Item). x.2) same;
  };
  reader = λ r o. let same = h.readers r (b r o) in record {
    consumer = ap (λ (x : Consumer × Option (List Item)). x.0) same;
    holds = ap (λ (x : Consumer × Option (List Item)). x.1) same;
  };
}

-- where the host ends that change are those of stream s
pub stays-apart : (s k : ℕ) (w v : World) → HostsHold w.state → OnlyAt s (WritesIt w s) (ReadsIt w s) w v → k ≢ s → StreamStaysWhole k w v
stays-apart s k w v hosts h ne =
    stays-only s k (WritesIt w s) (ReadsIt w s) w v h ne
    (λ n o e. ne (served_once Writing w.state s k n hosts e o))
    (λ r o e. ne (served_once Reading w.state s k r hosts e o))
