-- What is seen of a world after one of its streams was written back, and after a turn.
use Rattle.std.proofs.Common.{◌≡◌, ◌≢◌, ℕ, ◌<◌, Bool, true, false, cond, List, [], ◌++◌, length, get_or, set, Option, refl, sym, ap, ◌∙◌, ◌⊎◌, inl, inr, arith}
use Rattle.std.proofs.lemmas.List.{get_or-set_same, get_or-set_other, length-set}
use Rattle.std.specs.Prelude.{slice_set}
use Rattle.strm_buffers.specs.declared.answers.ReaderSaid.{ReaderSaid}
use Rattle.strm_buffers.specs.Listing.{Item}
use Rattle.strm_machine.specs.State.{no_stream, no_consumer, kept_at}
use Rattle.strm_machine.specs.declared.streams.End.{End}
use Rattle.strm_machine.specs.Soundness.{sizes_of, IsPlaced}
use Rattle.strm_machine.specs.declared.streams.Owner.{Owner}
use Rattle.strm_machine.specs.declared.streams.Owner.TheVariants.{Host, Gone}
use Rattle.strm_machine.specs.declared.streams.Operation.{Operation}
use Rattle.strm_machine.specs.declared.streams.Side.{Side}
use Rattle.strm_machine.specs.declared.streams.Side.TheVariants.{Writing, Reading}
use Rattle.strm_machine.specs.declared.streams.Stream.{Stream}
use Rattle.strm_host_machine.specs.Ends.{Reader, no_reader, closed_reader, Writer, no_writer, closed_writer}
use Rattle.strm_host_machine.specs.World.{World, stream_in, reader_at, writer_at, held_of, with_consumer, leaves_writer, leaves_reader, with_stream_in}
use Rattle.strm_host_machine.specs.Settling.{result_of, with_some_received}
use Rattle.strm_host_machine.specs.WriterTurn.{lowered_items}
use Rattle.strm_host_machine.proofs.SettleLemmas.{is_done_with, moved_on-owner, leaves_writer-stays}
use Rattle.strm_machine.proofs.TableLemmas.{set-keeps}
use Rattle.strm_host_laws.proofs.GoingRules.{with_state, some_received-end, written-streams, piped_to}
use Rattle.strm_host_laws.proofs.Rounds.{Passed}
use Rattle.strm_host_laws.specs.HostMoments.{Part}
use Rattle.strm_machine.specs.declared.acts.NamedEnd.{NamedEnd}
use Rattle.strm_machine.specs.Sides.{end_of, with_operation}
use Rattle.strm_machine.specs.Endings.{delivered}
use Rattle.strm_machine.specs.declared.streams.Duty.TheVariants.{Serves}
use Rattle.strm_host_machine.specs.Attaching.{piped, without_ends}
use Rattle.strm_host_laws.proofs.Forms.{HasTurned, IsCall, IsPiping, opened, called, stream_of}
use Rattle.strm_host_laws.proofs.TurnMoves.{moved-mine}
use Rattle.strm_host_laws.proofs.Turned.{turned, stream_moved, Turned, taken_by, stream_taken, Taken}

-- A STREAM WRITTEN BACK

-- what a host reader tells, and its records to come
abbrev pub told_of : Reader → Option (List Item) × List ReaderSaid
told_of reader = (reader.holds, reader.coming)

-- but for its writer
abbrev pub set_back : World → ℕ → Stream → World
set_back w s stream = with_state w (record w.state { streams = slice_set w.state.streams s stream })

leaves-guests : (old new : Owner) (w : World) → (leaves_writer old new w).state.guests ≡ w.state.guests
leaves-guests (Host n) Gone w = refl
leaves-guests (Host n) _ w = refl
leaves-guests _ new w = refl

-- a host reader that goes leaves guests and host writers as they are
leaves_reader-guests : (old new : Owner) (w : World) → (leaves_reader old new w).state.guests ≡ w.state.guests
leaves_reader-guests (Host n) Gone w = refl
leaves_reader-guests (Host n) _ w = refl
leaves_reader-guests _ new w = refl

leaves_reader-writers : (old new : Owner) (w : World) → (leaves_reader old new w).writers ≡ w.writers
leaves_reader-writers (Host n) Gone w = refl
leaves_reader-writers (Host n) _ w = refl
leaves_reader-writers _ new w = refl

-- and a host writer that goes leaves host readers
pub leaves_writer-readers : (old new : Owner) (w : World) → (leaves_writer old new w).readers ≡ w.readers
leaves_writer-readers (Host n) Gone w = refl
leaves_writer-readers (Host n) _ w = refl
leaves_writer-readers _ new w = refl

-- a host reader that goes tells what it told, and has the records that it had
leaves_reader-told : (old new : Owner) (w : World) (k : ℕ) → told_of (reader_at (leaves_reader old new w) k) ≡ told_of (reader_at w k)
leaves_reader-told (Host n) Gone w k = set-keeps told_of w.readers n k (closed_reader (reader_at w n)) no_reader refl
leaves_reader-told (Host n) _ w k = refl
leaves_reader-told _ new w k = refl

-- what is kept of items stays
leaves-kept : (old new : Owner) (w : World) → (leaves_writer old new w).state.kept ≡ w.state.kept
leaves-kept (Host n) Gone w = refl
leaves-kept (Host n) _ w = refl
leaves-kept _ new w = refl

leaves_reader-kept : (old new : Owner) (w : World) → (leaves_reader old new w).state.kept ≡ w.state.kept
leaves_reader-kept (Host n) Gone w = refl
leaves_reader-kept (Host n) _ w = refl
leaves_reader-kept _ new w = refl

leaves-other : (old new : Owner) (w : World) (k : ℕ) → ((n : ℕ) → old ≡ Host n → k ≢ n) → writer_at (leaves_writer old new w) k ≡ writer_at w k
leaves-other (Host n) Gone w k ne = get_or-set_other w.writers n k (closed_writer (writer_at w n)) no_writer (ne n refl)
leaves-other (Host n) _ w k ne = refl
leaves-other _ new w k ne = refl

leaves-coming : (old new : Owner) (w : World) (k : ℕ) → (writer_at (leaves_writer old new w) k).coming ≡ (writer_at w k).coming
leaves-coming (Host n) Gone w k = set-keeps (λ (x : Writer). x.coming) w.writers n k (closed_writer (writer_at w n)) no_writer refl
leaves-coming (Host n) _ w k = refl
leaves-coming _ new w k = refl

module _ (w : World) (s : ℕ) (stream : Stream) where
  -- once its host reader is closed, if it is gone
  abbrev but_read : World
  but_read = leaves_reader (stream_in w s).reader.owner stream.reader.owner (set_back w s stream)

  but_read-writer : (k : ℕ) → writer_at but_read k ≡ writer_at w k
  but_read-writer k = ap (λ ws. get_or ws k no_writer) (leaves_reader-writers (stream_in w s).reader.owner stream.reader.owner (set_back w s stream))

  pub back-streams : (with_stream_in w s stream).state.streams ≡ set w.state.streams s stream
  back-streams = written-streams w s stream

  pub back-guests : (with_stream_in w s stream).state.guests ≡ w.state.guests
  unfolding with_stream_in
  back-guests = leaves-guests (stream_in w s).writer.owner stream.writer.owner but_read ∙ leaves_reader-guests (stream_in w s).reader.owner stream.reader.owner (set_back w s stream)

  pub back-writer : (k : ℕ) → ((n : ℕ) → (stream_in w s).writer.owner ≡ Host n → k ≢ n) → writer_at (with_stream_in w s stream) k ≡ writer_at w k
  unfolding with_stream_in
  back-writer k ne = leaves-other (stream_in w s).writer.owner stream.writer.owner but_read k ne ∙ but_read-writer k

  pub back-coming : (k : ℕ) → (writer_at (with_stream_in w s stream) k).coming ≡ (writer_at w k).coming
  unfolding with_stream_in
  back-coming k = leaves-coming (stream_in w s).writer.owner stream.writer.owner but_read k ∙ ap (λ (x : Writer). x.coming) (but_read-writer k)

  pub back-told : (k : ℕ) → told_of (reader_at (with_stream_in w s stream) k) ≡ told_of (reader_at w k)
  unfolding with_stream_in
  back-told k =
      ap (λ rs. told_of (get_or rs k no_reader)) (leaves_writer-readers (stream_in w s).writer.owner stream.writer.owner but_read)
      ∙ leaves_reader-told (stream_in w s).reader.owner stream.reader.owner (set_back w s stream) k

  pub back-holds : (k : ℕ) → (reader_at (with_stream_in w s stream) k).holds ≡ (reader_at w k).holds
  back-holds k = ap (λ (p : Option (List Item) × List ReaderSaid). p.0) (back-told k)

  pub back-kept : (with_stream_in w s stream).state.kept ≡ w.state.kept
  unfolding with_stream_in
  back-kept = leaves-kept (stream_in w s).writer.owner stream.writer.owner but_read ∙ leaves_reader-kept (stream_in w s).reader.owner stream.reader.owner (set_back w s stream)

  -- counts, where this one stays
  pub back-received : stream.received ≡ (stream_in w s).received → (k : ℕ) → (stream_in (with_stream_in w s stream) k).received ≡ (stream_in w k).received
  back-received e k = ap (λ xs. (get_or xs k no_stream).received) back-streams ∙ set-keeps (λ (x : Stream). x.received) w.state.streams s k stream no_stream e

  pub back-here : s < length w.state.streams → stream_in (with_stream_in w s stream) s ≡ stream
  back-here l = ap (λ xs. get_or xs s no_stream) back-streams ∙ get_or-set_same w.state.streams s stream no_stream l

  pub back-other : (k : ℕ) → k ≢ s → stream_in (with_stream_in w s stream) k ≡ stream_in w k
  back-other k ne = ap (λ xs. get_or xs k no_stream) back-streams ∙ get_or-set_other w.state.streams s k stream no_stream ne

  pub back-length : length (with_stream_in w s stream).state.streams ≡ length w.state.streams
  back-length = ap length back-streams ∙ length-set w.state.streams s stream

  pub back-stays : stream.writer.owner ≡ (stream_in w s).writer.owner → (k : ℕ) → writer_at (with_stream_in w s stream) k ≡ writer_at w k
  unfolding with_stream_in
  back-stays e k =
      ap (λ o. writer_at (leaves_writer (stream_in w s).writer.owner o but_read) k) e
      ∙ ap (λ v. writer_at v k) (leaves_writer-stays (stream_in w s).writer.owner but_read)
      ∙ but_read-writer k

-- A TURN OF A HOST WRITER

-- the read of a turn is one that may be, on a stream of this host writer
pub record CanTurn (w : World) (s n : ℕ) (read : Operation) : Type 0 where
  pub made : s < length w.state.streams
  pub owner : (stream_in w s).writer.owner ≡ Host n
  pub placed : IsPlaced (sizes_of w.state.guests) (stream_in w s).payload read
  pub there : n < length w.writers

module _ (w : World) (s n : ℕ) (read : Operation) (v : World) (t : Turned w s n read v) (c : CanTurn w s n read) where
  -- the world but for the stream, and the stream
  abbrev but : World
  but = turned w s n read t.items t.producer t.writer

  abbrev now : Stream
  now = stream_moved w s read t.items t.result

  pub turned-guests : v.state.guests ≡ lowered_items w.state.guests (stream_in w s).payload read t.items
  turned-guests = ap (λ (x : World). x.state.guests) t.is ∙ back-guests but s now

  pub turned-here : stream_in v s ≡ now
  turned-here = ap (λ x. stream_in x s) t.is ∙ back-here but s now c.made

  pub turned-other : (k : ℕ) → k ≢ s → stream_in v k ≡ stream_in w k
  turned-other k ne = ap (λ x. stream_in x k) t.is ∙ back-other but s now k ne

  pub turned-length : length v.state.streams ≡ length w.state.streams
  turned-length = ap (λ (x : World). length x.state.streams) t.is ∙ back-length but s now

  pub turned-writer : (k : ℕ) → k ≢ n → writer_at v k ≡ writer_at w k
  turned-writer k ne =
      ap (λ x. writer_at x k) t.is
      ∙ back-writer but s now k (λ m e f. let same : Host m ≡ Host n = sym e ∙ c.owner in ne (f ∙ cc))
      ∙ get_or-set_other w.writers n k t.writer no_writer ne

  writer_but : writer_at but n ≡ t.writer
  writer_but = get_or-set_same w.writers n t.writer no_writer c.there

  pub turned-coming : (writer_at w n).coming ≡ t.said ++ (writer_at v n).coming
  turned-coming =
      t.coming
      ∙ ap (λ (x : Writer). t.said ++ x.coming) (sym writer_but)
      ∙ ap (λ xs. t.said ++ xs) (sym (ap (λ x. (writer_at x n).coming) t.is ∙ back-coming but s now n))

  owner_now : now.writer.owner ≡ cond (is_done_with t.result) Gone (Host n)
  owner_now =
      moved_on-owner (stream_in w s) read (length t.items) t.result
      ∙ ap (λ o. cond (is_done_with t.result) Gone o) c.owner

  -- the writer stays, and holds this, or is gone
  pub turned-ends : ((stream_in v s).writer.owner ≡ Gone) ⊎ (((stream_in v s).writer.owner ≡ Host n) × ((writer_at v n).holds ≡ t.writer.holds))
  turned-ends = by (is_done_with t.result) refl
    where
      by : (b : Bool) → is_done_with t.result ≡ b → ((stream_in v s).writer.owner ≡ Gone) ⊎ (((stream_in v s).writer.owner ≡ Host n) × ((writer_at v n).holds ≡ t.writer.holds))
      by true e = inl (ap (λ (x : Stream). x.writer.owner) turned-here ∙ owner_now ∙ ap (λ b. cond b Gone (Host n)) e)
      by false e =
          let stays : now.writer.owner ≡ Host n = owner_now ∙ ap (λ b. cond b Gone (Host n)) e in
          inr (
            ap (λ (x : Stream). x.writer.owner) turned-here ∙ stays,
            ap (λ x. (writer_at x n).holds) t.is ∙ ap (λ (x : Writer). x.holds) (back-stays but s now (stays ∙ sym c.owner) n ∙ writer_but),
          )

-- A TURN OF A HOST READER

module _ (w : World) (s r : ℕ) (write : Operation) (v : World) (t : Taken w s r write v) where
  -- the world but for the stream
  abbrev taken_but : World
  taken_but = taken_by w s r write t.said t.more

  abbrev taken_stream : Stream
  taken_stream = stream_taken w s write t.said

  pub taken-here : s < length w.state.streams → stream_in v s ≡ taken_stream
  taken-here l = ap (λ x. stream_in x s) t.is ∙ back-here taken_but s taken_stream l

  pub taken-other : (k : ℕ) → k ≢ s → stream_in v k ≡ stream_in w k
  taken-other k ne = ap (λ x. stream_in x k) t.is ∙ back-other taken_but s taken_stream k ne

  pub taken-length : length v.state.streams ≡ length w.state.streams
  taken-length = ap (λ (x : World). length x.state.streams) t.is ∙ back-length taken_but s taken_stream

  pub taken-guests : v.state.guests ≡ w.state.guests
  taken-guests = ap (λ (x : World). x.state.guests) t.is ∙ back-guests taken_but s taken_stream

  pub taken-writer : (k : ℕ) → writer_at v k ≡ writer_at w k
  taken-writer k =
      ap (λ x. writer_at x k) t.is
      ∙ back-stays taken_but s taken_stream (moved-mine (stream_in w s) write t.said.taken Writing (result_of t.said.answer)) k

-- THE ROUND OF A PIPE

module _ (w : World) (s n r : ℕ) (v : World) (p : Passed w s n r v) where
  -- the stream with these items received, and once both its ends are gone
  abbrev passed_stream : Stream
  passed_stream = with_some_received (stream_in w s) p.count

  abbrev both_left : Stream
  both_left = without_ends (stream_in p.mid s)

  mid_streams : p.mid.state.streams ≡ set w.state.streams s passed_stream
  mid_streams =
      ap (λ (x : World). x.state.streams) p.mid_is
      ∙ back-streams p.but s passed_stream
      ∙ ap (λ (x : World). set x.state.streams s passed_stream) p.but_is

  pub mid_end : (side : Side) → end_of side (stream_in p.mid s) ≡ end_of side (stream_in w s)
  mid_end side =
      ap (λ xs. end_of side (get_or xs s no_stream)) mid_streams
      ∙ set-keeps (λ (x : Stream). end_of side x) w.state.streams s s passed_stream no_stream (some_received-end side (stream_in w s) p.count)

  mid_other : (k : ℕ) → k ≢ s → stream_in p.mid k ≡ stream_in w k
  mid_other k ne = ap (λ xs. get_or xs k no_stream) mid_streams ∙ get_or-set_other w.state.streams s k passed_stream no_stream ne

  pub round_other : (k : ℕ) → k ≢ s → stream_in v k ≡ stream_in w k
  round_other k ne =
      elim p.ends [
        | inl e ↦ ap (λ x. stream_in x k) e ∙ mid_other k ne
        | inr e ↦ ap (λ x. stream_in x k) e ∙ back-other p.mid s both_left k ne ∙ mid_other k ne
      ]

  pub round_length : length v.state.streams ≡ length w.state.streams
  round_length =
      let mid = ap length mid_streams ∙ length-set w.state.streams s passed_stream in
      elim p.ends [
        | inl e ↦ ap (λ (x : World). length x.state.streams) e ∙ mid
        | inr e ↦ ap (λ (x : World). length x.state.streams) e ∙ back-length p.mid s both_left ∙ mid
      ]

  -- what ends that go leave as it is
  pub round_keeps : {A : Type 0} (f : Stream → A) → ((x : Stream) → f (without_ends x) ≡ f x) → s < length w.state.streams → f (stream_in v s) ≡ f passed_stream
  round_keeps f same l =
      let mid : stream_in p.mid s ≡ passed_stream = ap (λ xs. get_or xs s no_stream) mid_streams ∙ get_or-set_same w.state.streams s passed_stream no_stream l in
      let long = ap length mid_streams ∙ length-set w.state.streams s passed_stream in
      elim p.ends [
        | inl e ↦ ap (λ x. f (stream_in x s)) e ∙ ap f mid
        | inr e ↦ ap (λ x. f (stream_in x s)) e ∙ ap f (back-here p.mid s both_left (omega (arith, l, long))) ∙ same (stream_in p.mid s) ∙ ap f mid
      ]

  pub round_received : s < length w.state.streams → (stream_in v s).received ≡ passed_stream.received
  round_received l = round_keeps (λ x. x.received) (λ x. refl) l

  -- the host writer
  pub round_coming : (writer_at v n).coming ≡ (writer_at p.but n).coming
  round_coming =
      let mid = ap (λ x. (writer_at x n).coming) p.mid_is ∙ back-coming p.but s passed_stream n in
      elim p.ends [
        | inl e ↦ ap (λ x. (writer_at x n).coming) e ∙ mid
        | inr e ↦ ap (λ x. (writer_at x n).coming) e ∙ back-coming p.mid s both_left n ∙ mid
      ]

  pub round_kept : (k : ℕ) → k ≢ n → kept_at v.state k ≡ kept_at w.state k
  round_kept k ne =
      let but : kept_at p.but.state k ≡ kept_at w.state k = ap (λ (x : World). kept_at x.state k) p.but_is ∙ get_or-set_other w.state.kept n k p.kept [] ne in
      let mid = ap (λ (x : World). kept_at x.state k) p.mid_is ∙ ap (λ ks. get_or ks k []) (back-kept p.but s passed_stream) ∙ but in
      elim p.ends [
        | inl e ↦ ap (λ (x : World). kept_at x.state k) e ∙ mid
        | inr e ↦
            ap (λ (x : World). kept_at x.state k) e
            ∙ get_or-set_other (with_stream_in p.mid s both_left).state.kept n k [] [] ne
            ∙ ap (λ ks. get_or ks k []) (back-kept p.mid s both_left) ∙ mid
      ]

  -- the write end stays in all that is before it may go
  mid_writer : (k : ℕ) → writer_at p.mid k ≡ writer_at p.but k
  mid_writer k =
      ap (λ x. writer_at x k) p.mid_is
      ∙ back-stays p.but s passed_stream
      (ap (λ (x : End). x.owner) (some_received-end Writing (stream_in w s) p.count) ∙ ap (λ x. (stream_in x s).writer.owner) (sym p.but_is)) k

  module _ (o : (stream_in w s).writer.owner ≡ Host n) where
    pub round_writer : (k : ℕ) → k ≢ n → writer_at v k ≡ writer_at w k
    round_writer k ne =
        let but : writer_at p.but k ≡ writer_at w k = ap (λ x. writer_at x k) p.but_is ∙ get_or-set_other w.writers n k p.writer no_writer ne in
        let mid = mid_writer k ∙ but in
        elim p.ends [
          | inl e ↦ ap (λ x. writer_at x k) e ∙ mid
          | inr e ↦
              ap (λ x. writer_at x k) e
              ∙ back-writer p.mid s both_left k (λ m f g. let same : Host m ≡ Host n = sym f ∙ ap (λ (x : End). x.owner) (mid_end Writing) ∙ o in ne (g ∙ cc))
              ∙ mid
        ]

    -- the writer stays, and this is held, or it is gone
    pub round_ends : s < length w.state.streams → ((stream_in v s).writer.owner ≡ Gone) ⊎ (((stream_in v s).writer.owner ≡ Host n) × (held_of v n ≡ held_of p.but n))
    round_ends l =
        elim p.ends [
          | inl e ↦ inr (
            ap (λ x. (stream_in x s).writer.owner) e ∙ ap (λ (x : End). x.owner) (mid_end Writing) ∙ o,
            ap (λ x. held_of x n) e
                ∙ ap (λ (x : Writer). kept_at p.mid.state n ++ x.holds) (mid_writer n)
                ∙ ap (λ ks. get_or ks n [] ++ (writer_at p.but n).holds) (ap (λ (x : World). x.state.kept) p.mid_is ∙ back-kept p.but s passed_stream),
          )
          | inr e ↦
              let long = ap length mid_streams ∙ length-set w.state.streams s passed_stream in
              inl (ap (λ x. (stream_in x s).writer.owner) e ∙ ap (λ (x : Stream). x.writer.owner) (back-here p.mid s both_left (omega (arith, l, long))))
        ]

  -- host readers
  pub round_told : (k : ℕ) → told_of (reader_at v k) ≡ told_of (reader_at p.but k)
  round_told k =
      let mid = ap (λ x. told_of (reader_at x k)) p.mid_is ∙ back-told p.but s passed_stream k in
      elim p.ends [
        | inl e ↦ ap (λ x. told_of (reader_at x k)) e ∙ mid
        | inr e ↦ ap (λ x. told_of (reader_at x k)) e ∙ back-told p.mid s both_left k ∙ mid
      ]

  pub round_reader : (k : ℕ) → k ≢ r → told_of (reader_at v k) ≡ told_of (reader_at w k)
  round_reader k ne = round_told k ∙ ap (λ x. told_of (reader_at x k)) p.but_is ∙ ap told_of (get_or-set_other w.readers r k p.reader no_reader ne)

-- the turn of a host end on either side
pub turned_length : (side : Side) (w : World) (s n : ℕ) (operation : Operation) (v : World) → HasTurned side w s n operation v → length v.state.streams ≡ length w.state.streams
turned_length Reading w s n operation v t =
    ap (λ (x : World). length x.state.streams) t.is ∙ back-length (turned w s n operation t.items t.producer t.writer) s (stream_moved w s operation t.items t.result)
turned_length Writing w s n operation v t = taken-length w s n operation v t

-- a call makes no stream
pub call_length : (side : Side) (w : World) (part : Part) (v : World) (end : NamedEnd) (address count n : ℕ) → IsCall side w part v end address count n → length v.state.streams ≡ length w.state.streams
call_length side w part v end address count n r =
    let t = stream_of w end in
    let operation = called end address count in
    let mid : length r.mid.state.streams ≡ length w.state.streams = turned_length side (opened side w t operation) t n operation r.mid r.turned ∙ back-length w t (with_operation side (stream_in w t) operation) in
    elim r.told [
      | inl e ↦ ap (λ (x : World). length x.state.streams) e ∙ mid
      | inr e ↦ ap (λ (x : World). length x.state.streams) e ∙ back-length r.mid t (delivered side (stream_in r.mid t)) ∙ mid
    ]

-- nor does a pipe
pub pipe_length : (w v : World) (s r : ℕ) → IsPiping w v s r → length v.state.streams ≡ length w.state.streams
pipe_length w v s r p =
    let u = with_consumer w r (record no_consumer { duty = Serves s }) in
    let first = back-length u s (piped (stream_in w s) r) in
    elim p.is [
      | inl e ↦ ap (λ (x : World). length x.state.streams) e ∙ first
      | inr e ↦ ap (λ (x : World). length x.state.streams) e ∙ back-length (piped_to w s r) s (without_ends (piped (stream_in w s) r)) ∙ first
    ]
