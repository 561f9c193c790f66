-- The loose read end of a stream that goes to a host reader: what refuses it, what the machine does, the
-- host ends that the store needs then, and what the store keeps.
use Rattle.std.proofs.Common.{◌≡◌, ℕ, ◌<◌, ◌==◌, Bool, true, false, cond, List, [], ◌∷◌, length, set, Option, Some, None, Ok, refl, sym, ap, subst, ◌∙◌, ⊎_elim, inl, inr, arith}
use Rattle.std.specs.Prelude.{not, ◌&&◌, ◌⊎◌}
use Rattle.std.specs.Option.{option_map}
use Rattle.std.proofs.lemmas.Bool.{cases_lt, not-false}
use Rattle.std.proofs.lemmas.Bool.Decides.{nat_tests}
use Rattle.std.proofs.lemmas.List.{get_or_past, get_or-set_same, set-set, length-set}
use Rattle.strm_codes.specs.Sameness.{same_payload}
use Rattle.strm_codes.proofs.SamenessLemmas.{Decides-same_payload}
use Rattle.strm_codes.specs.Types.{kind_of, payload_of}
use Rattle.strm_codes.specs.declared.codes.TransmitKind.{TransmitKind}
use Rattle.strm_codes.specs.declared.codes.TransmitKind.TheVariants as kinds
use Rattle.strm_codes.specs.declared.payloads.Payload.{Payload}
use Rattle.strm_codes.specs.declared.refusals.Refusal.TheVariants as refusals
use Rattle.strm_buffers.specs.Listing.{Item}
use Rattle.strm_buffers.specs.Tells.{WriterTells, Tells, told_by, with_told, told_by_reader, reader_tells_closed as closed_tells}
use Rattle.strm_machine.specs.State.{State, no_stream, no_consumer, producer_at, consumer_at, stream_at, is_held, is_host, is_loose}
use Rattle.strm_machine.specs.Hosting.{duty_among}
use Rattle.strm_machine.specs.Moves.{with_owner}
use Rattle.strm_machine.specs.Sides.{end_of}
use Rattle.strm_machine.specs.Tests.{same_kind, is_unknown_reader, is_of_other_kind, is_of_other_payload}
use Rattle.strm_machine.specs.Refusals.{Reason, where_, reader_reasons}
use Rattle.strm_machine.specs.Reactions.{with_stream_at}
use Rattle.strm_machine.specs.Soundness.{IsSound, type_with, IsPlaced, OperationIsPlaced, StreamIsPlaced}
use Rattle.strm_machine.specs.declared.acts.Act.TheVariants.{OnHost}
use Rattle.strm_machine.specs.declared.acts.HostAct.TheVariants.{Pipe}
use Rattle.strm_machine.specs.declared.replies.Reply.TheVariants as replies
use Rattle.strm_machine.specs.declared.streams.Consumer.{Consumer}
use Rattle.strm_machine.specs.declared.streams.Duty.TheVariants.{Unused, Serves}
use Rattle.strm_machine.specs.declared.streams.Operation.{Operation}
use Rattle.strm_machine.specs.declared.streams.Owner.{Owner}
use Rattle.strm_machine.specs.declared.streams.Owner.TheVariants.{Held, Loose, Host, Gone}
use Rattle.strm_machine.specs.declared.streams.Side.{Side}
use Rattle.strm_machine.specs.declared.streams.Side.TheVariants.{Writing, Reading}
use Rattle.strm_machine.specs.declared.streams.Stream.{Stream}
use Rattle.strm_machine.proofs.EndLemmas.{Unchanged}
use Rattle.strm_machine.proofs.RefusalLemmas.{same_kind_is}
use Rattle.strm_machine.proofs.SideLemmas.{StreamKeeps, with_end-keeps}
use Rattle.strm_machine.proofs.SoundLemmas.{IsSound-set}
use Rattle.strm_machine.proofs.TurnLemmas.{all_kept}
use Rattle.strm_channels.specs.Guests.{guests_of}
use Rattle.strm_host_machine.specs.World.{World}
use Rattle.strm_host_machine.specs.Attaching.{withdrawn, piped, has_items, is_dry, without_ends, pipes}
use Rattle.strm_host_machine.specs.HostRefusals.{is_unknown_host, is_used}
use Rattle.strm_host_machine.specs.Steps.{performs_in}
use Rattle.strm_host_machine.specs.Does.{Logs, world_of, FitsReader, Fits, Does}
use Rattle.strm_host_machine.proofs.CloseLemmas.{ended_in}
use Rattle.strm_host_machine.proofs.FitsLemmas.{Fits-stream}
use Rattle.strm_host_machine.proofs.PipeAttachLemmas.{reading_in, piped_in, is_dry_told, is_dry-told, IsWritten, MayPipe, Does-pipes, dry_in, Does-pipes_gone, Does-pipes_dry}
use Rattle.strm_host_machine.proofs.ReaderLemmas.{ended_reader_in}
use Rattle.strm_host_machine.proofs.SettleLemmas.{AreBothLeft}
use Rattle.strm_transmit.specs.Hosted.{MayBeDone, MeetsHosted}
use Rattle.strm_transmit.specs.Inside.{state_of, AreServed, HavePlaces, IsStore}
use Rattle.strm_transmit.specs.Places.{ArePlaces}
use Rattle.strm_transmit.specs.Piping.{report_withdrawn, handed_to, unread_in, reader_closed, PipeFits, WriterEnds, EndsPipe}
use Rattle.strm_transmit.specs.declared.store.Store.TheInside.{Inside}
use Rattle.strm_transmit.proofs.FitsLemmas.{keeps-closed, Fits-told, Fits-told_reader, Fits-ended, Fits-reader_ended, HasWriter, serving}
use Rattle.strm_transmit.proofs.HostStepLemmas.{does_admitted, Does-after, Fits-after}
use Rattle.strm_transmit.proofs.HostingLemmas.{no_logs, type_told, host_refusal-is, passes, known_host, unused_is}
use Rattle.strm_transmit.proofs.KeptLemmas.{have_set}
use Rattle.strm_transmit.proofs.ServedLemmas.{at_set, same_stream, same_host, serves_none, keeps_writers, reader_now, AreServed-turned}
use Rattle.strm_transmit.proofs.ToldLemmas.{but-besides, besides-set, told-retold, IsHeld-set}
use Rattle.strm_machine.proofs.HeldLemmas.{IsHeld}
use Rattle.strm_transmit.proofs.StoreLemmas.{kept_tables, Agrees, IsStore-counted, IsSound-same}
use Rattle.strm_transmit.specs.ReadyGuests.{Retold}
use Rattle.strm_transmit.proofs.ReadyGuestLemmas.{counted-retold}

-- ## What refuses a pipe

pub kind-with : (kind : TransmitKind) (payload : Payload) → kind_of (type_with kind payload) ≡ kind
kind-with kinds.Stream payload = refl
kind-with kinds.Future payload = refl

pub payload-with : (kind : TransmitKind) (payload : Payload) → payload_of (type_with kind payload) ≡ payload
payload-with kinds.Stream payload = refl
payload-with kinds.Future payload = refl

pub pipe_fits : (state : State) (tells : Tells) (s r : ℕ) → MayBeDone state tells (OnHost r (Pipe s)) → PipeFits state tells s r
pipe_fits state tells s r may =
    let stream = stream_at state s in
    let told = told_by_reader tells r in
    let ty = type_told tells r in
    let payload_behind : List Reason = where_ (is_of_other_payload ty stream) refusals.WrongType ∷ [] in
    let kind_behind : List Reason = where_ (is_of_other_kind ty stream) refusals.WrongKind ∷ payload_behind in
    let used = is_used (consumer_at state r).duty in
    let a = passes (is_unknown_host (length tells.readers) r) refusals.UnknownHost (where_ used refusals.HostUsed ∷ reader_reasons state s ty) (sym (host_refusal-is state tells r (Pipe s) no_logs) ∙ may.none no_logs) in
    let b = passes used refusals.HostUsed (reader_reasons state s ty) a.behind in
    let c = passes (is_unknown_reader state s) refusals.UnknownReader kind_behind b.behind in
    let d = passes (is_of_other_kind ty stream) refusals.WrongKind payload_behind c.behind in
    let e = passes (is_of_other_payload ty stream) refusals.WrongType [] d.behind in
    let known = known_host (length tells.readers) r a.test in
    let kind : stream.kind ≡ kind_of ty = same_kind_is stream.kind (kind_of ty) (not-false (same_kind stream.kind (kind_of ty)) d.test) in
    let payload : stream.payload ≡ payload_of ty = (Decides-same_payload stream.payload (payload_of ty)).0 (not-false (same_payload stream.payload (payload_of ty)) e.test) in
    record {
      there = known.0;
      few = known.1;
      unused = unused_is (consumer_at state r).duty b.test;
      loose = not-false (is_loose stream.reader.owner) c.test;
      kind = sym (kind ∙ kind-with told.kind told.payload);
      payload = sym (payload ∙ payload-with told.kind told.payload);
    }

loose_is : (owner : Owner) → is_loose owner ≡ true → owner ≡ Loose
loose_is Loose e = refl
loose_is (Held g h) e = cc
loose_is (Host n) e = cc
loose_is Gone e = cc

-- ## A pipe that may be made

-- in a store that its host ends fit
pub record MayAttach (state : State) (tells : Tells) (s r : ℕ) : Type 0 where
  pub served : AreServed state.producers state.consumers state.streams
  pub pipe : PipeFits state tells s r
  pub fits : Fits state tells

pub may_attach : (state : State) (tells : Tells) (s r : ℕ) → AreServed state.producers state.consumers state.streams → PipeFits state tells s r → Fits state tells → MayAttach state tells s r
may_attach state tells s r served pipe fits = record { served = served; pipe = pipe; fits = fits }

module _ (old : State) (tells : Tells) (s r : ℕ) (h : MayAttach old tells s r) where
  pub reader_is_loose : (stream_at old s).reader.owner ≡ Loose
  reader_is_loose = loose_is (stream_at old s).reader.owner h.pipe.loose

  pub pipe_made : s < length old.streams
  pipe_made =
      ⊎_elim (λ l. l)
      (λ l. let past : stream_at old s ≡ no_stream = get_or_past old.streams s no_stream l in
      let gone : Gone ≡ Loose = sym (ap (λ (x : Stream). x.reader.owner) past) ∙ reader_is_loose in cc)
      (cases_lt s (length old.streams))

  pub pipe_kept : r < length old.consumers
  pipe_kept = omega (arith, h.served.all_readers, h.pipe.few)

  written : IsWritten old tells s
  written n o = serving old tells n s (record { served = h.served; made = pipe_made; owner = o; fits = h.fits })

  may_pipe : MayPipe old tells s r
  may_pipe = record { made = pipe_made; there = h.pipe.there; unread = ap is_host reader_is_loose; written = written }

  -- host reader r as it is kept then
  abbrev serves_now : Consumer
  serves_now = record no_consumer { duty = Serves s }

  reading-fits : Fits (reading_in old s r) tells
  reading-fits = record {
    writers = h.fits.writers;
    readers = λ m t e.
        at_set old.consumers r serves_now no_consumer m (λ q. q.duty ≡ Serves t → FitsReader (stream_at old t) tells m) pipe_kept
        (λ same f.
        let there = same_stream s t serves_now.duty refl f in
        subst (λ k. FitsReader (stream_at old t) tells k) (sym same)
        (subst (λ k. FitsReader (stream_at old k) tells r) there (record { there = h.pipe.there; kind = h.pipe.kind; payload = h.pipe.payload })))
        (λ _ f. h.fits.readers m t f) e;
  }

  pub piped-fits : Fits (piped_in old s r) tells
  piped-fits = Fits-stream (reading_in old s r) tells s (piped (stream_at old s) r) (record { kind = refl; payload = refl }) reading-fits

  -- ## By the steps in which a store does it

  pub handed-is : (mid : State) → mid ≡ with_stream_at old s (report_withdrawn (stream_at old s)) → handed_to mid s r ≡ piped_in old s r
  handed-is mid e =
      let here : stream_at mid s ≡ report_withdrawn (stream_at old s) = ap (λ (x : State). stream_at x s) e ∙ get_or-set_same old.streams s (report_withdrawn (stream_at old s)) no_stream pipe_made in
      ap (λ (x : State). with_stream_at (reading_in x s r) s (with_owner Reading (stream_at mid s) (Host r))) e
      ∙ ap (λ (x : Stream). with_stream_at (reading_in (with_stream_at old s (report_withdrawn (stream_at old s))) s r) s (with_owner Reading x (Host r))) here
      ∙ ap (λ xs. record (reading_in old s r) { streams = xs }) (set-set old.streams s (report_withdrawn (stream_at old s)) (piped (stream_at old s) r))

  module _ (mid : State) (e : mid ≡ piped_in old s r) where
    here : stream_at mid s ≡ piped (stream_at old s) r
    here = ap (λ (x : State). stream_at x s) e ∙ get_or-set_same old.streams s (piped (stream_at old s) r) no_stream pipe_made

    pub writer_same : (stream_at mid s).writer.owner ≡ (stream_at old s).writer.owner
    writer_same = ap (λ (x : Stream). x.writer.owner) here

    pub mid_fits : Fits mid tells
    mid_fits = subst (λ (x : State). Fits x tells) (sym e) piped-fits

    pub mid_made : s < length mid.streams
    mid_made = rw (ap (λ (x : State). length x.streams) e, length-set old.streams s (piped (stream_at old s) r)) pipe_made

    -- what is dry was before it was piped
    pub dry_before : (b : Bool) → ((logs : Logs) → b ≡ is_dry (world_of mid tells logs) (stream_at mid s).writer.owner) → is_dry_told old tells (stream_at old s).writer.owner ≡ b
    dry_before b d =
        sym (is_dry-told old tells no_logs s (stream_at old s).writer.owner (λ n o. written n o))
        ∙ same (stream_at old s).writer.owner refl
        ∙ ap (is_dry (world_of mid tells no_logs)) (sym writer_same)
        ∙ sym (d no_logs)
      where
        producers_same : mid.producers ≡ old.producers
        producers_same = ap (λ (x : State). x.producers) e

        same : (owner : Owner) → (stream_at old s).writer.owner ≡ owner → is_dry (world_of old tells no_logs) owner ≡ is_dry (world_of mid tells no_logs) owner
        same (Held g k) o = refl
        same Loose o = refl
        same Gone o = refl
        same (Host n) o = ap (λ (x : State). is_dry (world_of x tells no_logs) (Host n)) (sym e)

    -- something may still come
    pub pipes-goes : is_dry_told old tells (stream_at old s).writer.owner ≡ false → Does old mid tells tells (Ok replies.Done) (λ w. pipes w s r)
    pipes-goes d = Does-after e refl (Does-pipes old tells s r may_pipe d)

    unread-is : unread_in mid s r ≡ dry_in old tells s r may_pipe
    unread-is =
        ap (λ (x : State). unread_in x s r) e
        ∙ ap (λ (x : Stream). ended_reader_in (with_stream_at (piped_in old s r) s (without_ends x)) r) (get_or-set_same old.streams s (piped (stream_at old s) r) no_stream pipe_made)

    -- the host ends that the store needs once both ends are gone
    unread-fits : Fits (unread_in mid s r) (reader_closed tells r)
    unread-fits =
        let gone = with_stream_at mid s (without_ends (stream_at mid s)) in
        Fits-told_reader (unread_in mid s r) tells r (closed_tells (told_by_reader tells r)) (record { kind = refl; payload = refl })
        (Fits-reader_ended gone tells r (rw (ap (λ (x : State). length x.consumers) e, length-set old.consumers r serves_now) pipe_kept)
        (Fits-stream mid tells s (without_ends (stream_at mid s)) (record { kind = refl; payload = refl }) mid_fits))

    module _ (new : State) (told : Tells) where
      -- the write end was gone
      pub pipes-gone : (stream_at old s).writer.owner ≡ Gone → new ≡ unread_in mid s r → told ≡ reader_closed tells r → Does old new tells told (Ok replies.Done) (λ w. pipes w s r)
      pipes-gone g is closed = Does-after (is ∙ unread-is) closed (Does-pipes_gone old tells s r may_pipe g)

      pub gone-fits : new ≡ unread_in mid s r → told ≡ reader_closed tells r → Fits new told
      gone-fits is closed = Fits-after (unread_in mid s r) new (reader_closed tells r) told is closed unread-fits

      module _ (n : ℕ) (o : (stream_at old s).writer.owner ≡ Host n) (w : WriterEnds (unread_in mid s r) new (reader_closed tells r) told n) where
        abbrev ends_as : WriterTells
        ends_as = told_by told n

        both_left : AreBothLeft (piped_in old s r) tells s n r (without_ends (piped (stream_at old s) r)) ends_as
        both_left =
            let there : stream_at (piped_in old s r) s ≡ piped (stream_at old s) r = get_or-set_same old.streams s (piped (stream_at old s) r) no_stream pipe_made in
            record {
              there = (written n o).there;
              kept = (written n o).kept;
              owner = ap (λ (x : Stream). x.writer.owner) there ∙ o;
              gone = refl;
              closes = w.closes;
              reader_there = h.pipe.there;
              reader_owner = ap (λ (x : Stream). x.reader.owner) there;
              reader_gone = refl;
            }

        -- its host writer was over, and held nothing
        pub pipes-dry : is_dry_told old tells (stream_at old s).writer.owner ≡ true → Does old new tells told (Ok replies.Done) (λ v. pipes v s r)
        pipes-dry d =
            Does-after (w.state ∙ ap (λ x. ended_in x n) unread-is) w.others (Does-pipes_dry old tells s r may_pipe n ends_as d both_left)

        producers_kept : n < length mid.producers
        producers_kept = rw (ap (λ (x : State). length x.producers) e) (written n o).kept

        pub dry-fits : Fits new told
        dry-fits =
            Fits-after (ended_in (unread_in mid s r) n) new (with_told (reader_closed tells r) n ends_as) told w.state w.others
            (Fits-told (ended_in (unread_in mid s r) n) (reader_closed tells r) n ends_as (keeps-closed (told_by tells n) ends_as w.closes)
            (Fits-ended (unread_in mid s r) (reader_closed tells r) n producers_kept unread-fits))

      -- by who had the write end
      pub pipes-ended : (owner : Owner) → (stream_at old s).writer.owner ≡ owner → is_dry_told old tells owner ≡ true → EndsPipe owner mid new tells told s r → Does old new tells told (Ok replies.Done) (λ w. pipes w s r)
      pipes-ended (Host n) o d x = pipes-dry n o x (ap (is_dry_told old tells) o ∙ d)
      pipes-ended Gone o d x = pipes-gone o x.0 x.1
      pipes-ended (Held g k) o d x = cc d
      pipes-ended Loose o d x = cc d

      pub ended-fits : (owner : Owner) → (stream_at old s).writer.owner ≡ owner → EndsPipe owner mid new tells told s r → Fits new told
      ended-fits (Host n) o x = dry-fits n o x
      ended-fits Gone o x = gone-fits x.0 x.1
      ended-fits (Held g k) o x = gone-fits x.0 x.1
      ended-fits Loose o x = gone-fits x.0 x.1

      -- by who has it now
      pub pipes-ended_by : EndsPipe (stream_at mid s).writer.owner mid new tells told s r → is_dry_told old tells (stream_at old s).writer.owner ≡ true → Does old new tells told (Ok replies.Done) (λ w. pipes w s r)
      pipes-ended_by x d = pipes-ended (stream_at mid s).writer.owner (sym writer_same) (subst (λ o. is_dry_told old tells o ≡ true) (sym writer_same) d) x

      pub ended-fits_by : EndsPipe (stream_at mid s).writer.owner mid new tells told s r → Fits new told
      ended-fits_by x = ended-fits (stream_at mid s).writer.owner (sym writer_same) x

performs-pipe : (world : World) (r s : ℕ) → performs_in world (OnHost r (Pipe s)) ≡ pipes world s r
unfolding performs_in
performs-pipe world r s = refl

pub hosted_pipe : (old new : State) (tells told : Tells) (s r : ℕ) → MayBeDone old tells (OnHost r (Pipe s)) → Does old new tells told (Ok replies.Done) (λ w. pipes w s r) → Fits new told → MeetsHosted old new tells told (Ok replies.Done) (OnHost r (Pipe s))
hosted_pipe old new tells told s r may does fits = record {
  does = does_admitted old new tells told (OnHost r (Pipe s)) (Ok replies.Done) (λ w. pipes w s r) may (λ logs. performs-pipe (world_of old tells logs) r s) does;
  fits = fits;
  alone = λ u. cc u;
  err = tt;
  by_record = tt;
  out_of_memory = λ w. cc;
}

-- items that are counted as none are none
none_held : (items : List Item) → (length items == 0) ≡ not (has_items items)
none_held [] = refl
none_held (item ∷ items) = grind (arith, nat_tests)

-- nothing comes any more from a host writer that is over and holds none
pub dry-held : (state : State) (tells : Tells) (s n held : ℕ) → HasWriter state tells n s → (producer_at state n).over ≡ true → held ≡ length (told_by tells n).holds → (logs : Logs) → (held == 0) ≡ is_dry (world_of state tells logs) (stream_at state s).writer.owner
dry-held state tells s n held h over e logs =
    let items = (told_by tells n).holds in
    let told : is_dry_told state tells (Host n) ≡ not (has_items items) = ap (λ b. b && not (has_items items)) over in
    ap (λ k. k == 0) e
    ∙ none_held items
    ∙ sym told
    ∙ sym (ap (is_dry_told state tells) h.owner)
    ∙ sym (is_dry-told state tells logs s (stream_at state s).writer.owner (λ m o. serving state tells m s (record { served = h.served; made = h.made; owner = o; fits = h.fits })))

-- a writer of which nothing comes any more is no guest's
dry_unheld : (world : World) (owner : Owner) → true ≡ is_dry world owner → is_held owner ≡ false
dry_unheld world Gone e = refl
dry_unheld world (Host n) e = refl
dry_unheld world Loose e = cc
dry_unheld world (Held g handle) e = cc

-- the writer of a stream is dry, whatever is recorded
abbrev IsDryAt : State → Tells → ℕ → Type 0
IsDryAt state tells s = (logs : Logs) → true ≡ is_dry (world_of state tells logs) (stream_at state s).writer.owner

-- and so are both ends of a stream at a host reader
pub piped_unheld : (first : State) (tells : Tells) (s r : ℕ) → MayAttach first tells s r → (old new : State) → s < length old.streams → new ≡ handed_to old s r → IsDryAt new tells s → (side : Side) → is_held (end_of side (stream_at new s)).owner ≡ false
piped_unheld first tells s r h old new l e dry Writing = dry_unheld (world_of new tells no_logs) (stream_at new s).writer.owner (dry no_logs)
piped_unheld first tells s r h old new l e dry Reading =
    ap (λ (x : State). is_held (stream_at x s).reader.owner) e
    ∙ ap (λ (x : Stream). is_held x.reader.owner) (get_or-set_same old.streams s (with_owner Reading (stream_at old s) (Host r)) no_stream l)

-- a write whose report is withdrawn leaves the read end loose
pub withdrawn_loose : (old new : State) (s : ℕ) → s < length old.streams → new ≡ with_stream_at old s (report_withdrawn (stream_at old s)) → is_loose (stream_at old s).reader.owner ≡ true → is_loose (stream_at new s).reader.owner ≡ true
withdrawn_loose old new s l e loose =
    ap (λ (x : State). is_loose (stream_at x s).reader.owner) e
    ∙ ap (λ (x : Stream). is_loose x.reader.owner) (get_or-set_same old.streams s (report_withdrawn (stream_at old s)) no_stream l)
    ∙ loose

-- and its stream is still there
pub withdrawn_made : (old new : State) (s : ℕ) → s < length old.streams → new ≡ with_stream_at old s (report_withdrawn (stream_at old s)) → s < length new.streams
withdrawn_made old new s l e = rw e (omega (arith, l, length-set old.streams s (report_withdrawn (stream_at old s))))

-- both ends of stream s went, one after the other
pub ended_stream : (old mid new : State) (s : ℕ) → s < length old.streams → mid ≡ with_stream_at old s (with_owner Reading (stream_at old s) Gone) → new ≡ with_stream_at mid s (with_owner Writing (stream_at mid s) Gone) → new ≡ with_stream_at old s (without_ends (stream_at old s))
ended_stream old mid new s l e f =
    let unread = with_owner Reading (stream_at old s) Gone in
    f
    ∙ ap (λ (x : State). with_stream_at x s (with_owner Writing (stream_at x s) Gone)) e
    ∙ ap (λ (x : Stream). with_stream_at (with_stream_at old s unread) s (with_owner Writing x Gone)) (get_or-set_same old.streams s unread no_stream l)
    ∙ ap (λ xs. record old { streams = xs }) (set-set old.streams s unread (without_ends (stream_at old s)))

-- ## What the store keeps

withdrawn-placed : (sizes : List ℕ) (payload : Payload) (o : Option Operation) → OperationIsPlaced sizes payload o → OperationIsPlaced sizes payload (option_map withdrawn o)
withdrawn-placed sizes payload None h = h
withdrawn-placed sizes payload (Some operation) h = by_flag operation.is_open
  where
    by_flag : (b : Bool) → IsPlaced sizes payload (cond b (record operation { met = false }) operation)
    by_flag true = record { there = h.there; inside = h.inside; counted = h.counted }
    by_flag false = h

pub withdrawn-keeps : (sizes : List ℕ) (stream : Stream) → StreamIsPlaced sizes stream → StreamKeeps sizes stream (report_withdrawn stream)
withdrawn-keeps sizes stream h =
    with_end-keeps Writing sizes stream (record stream.writer { operation = option_map withdrawn stream.writer.operation }) h refl
    (withdrawn-placed sizes stream.payload stream.writer.operation h.writer)

-- stream s has its read end at host reader r, which was not used
pub record HandsTo (old new : Inside) (s r : ℕ) (c : Consumer) : Type 0 where
  pub made : s < length old.streams.items
  pub kept : r < length old.consumers
  pub unused : (consumer_at (state_of old) r).duty ≡ Unused
  pub serves : c.duty ≡ Serves s
  pub tag : new.tag ≡ old.tag
  pub limits : new.limits ≡ old.limits
  pub contexts : new.contexts ≡ old.contexts
  pub counter : new.counter ≡ old.counter
  pub guests : new.guests ≡ old.guests
  pub live_sets : new.live_sets ≡ old.live_sets
  pub bytes : new.bytes ≡ old.bytes
  pub counted : ArePlaces new.places new.streams.items
  pub streams : new.streams.items ≡ set old.streams.items s (with_owner Reading (stream_at (state_of old) s) (Host r))
  pub producers : new.producers ≡ old.producers
  pub same_kept : new.kept ≡ old.kept
  pub consumers : new.consumers ≡ set old.consumers r c
  pub loose : is_loose (stream_at (state_of old) s).reader.owner ≡ true
  pub retold : Retold (guests_of new.guests.items) s (with_owner Reading (stream_at (state_of old) s) (Host r)) old.ready new.ready

module _ (old new : Inside) (s r : ℕ) (c : Consumer) (h : HandsTo old new s r c) (i : IsStore old) where
  abbrev given : Stream
  given = with_owner Reading (stream_at (state_of old) s) (Host r)

  now : duty_among Reading old.producers (set old.consumers r c) r ≡ Serves s
  now = reader_now old.producers old.consumers r c h.kept ∙ h.serves

  all_serve : (k : Side) (m : ℕ) → (end_of k given).owner ≡ Host m → duty_among k old.producers (set old.consumers r c) m ≡ Serves s
  all_serve Writing m o = i.served.serves Writing m s o
  all_serve Reading m o = rw (same_host m r given.reader.owner o refl) now

  served : AreServed new.producers new.consumers new.streams.items
  served =
      rw (h.producers, h.consumers, h.streams)
      (AreServed-turned old.producers old.producers old.consumers (set old.consumers r c) old.streams.items i.served Reading r (keeps_writers old.producers old.consumers r c) s given h.made all_serve
      (λ t other. serves_none old.producers old.consumers old.streams.items i.served Reading r h.unused t)
      (λ t e. same_stream t s (duty_among Reading old.producers (set old.consumers r c) r) e now))

  places : HavePlaces new.producers new.kept.items new.streams.items
  places =
      rw (h.producers, h.same_kept, h.streams) (have_set old.producers old.kept.items old.streams.items i.kept s given h.made refl)

  sound : IsSound (state_of new)
  sound =
      let stream = IsSound-set (state_of old) s Reading (record (end_of Reading (stream_at (state_of old) s)) { owner = Host r }) h.made (Unchanged refl) i.sound in
      IsSound-same (record (state_of old) { streams = set old.streams.items s given }) (state_of new) (ap (λ (g : _). guests_of g.items) h.guests) h.streams h.contexts stream

  agrees : Agrees new
  agrees =
      let guests = guests_of old.guests.items in
      let more = set old.streams.items s given in
      let same : guests_of new.guests.items ≡ guests = ap (λ (g : _). guests_of g.items) h.guests in
      let held : IsHeld guests more = IsHeld-set guests old.streams.items s given h.made owners i.held in
      let retold : Retold guests s given old.ready new.ready = subst (λ (x : _). Retold x s given old.ready new.ready) same h.retold in
      record {
        held = rw (same, h.streams) held;
        told = rw (same, h.streams)
            (told-retold guests more s held old.ready.sets new.ready.sets given (get_or-set_same old.streams.items s given no_stream h.made)
            (but-besides guests guests old.streams.items more s old.ready.sets (λ _ _ _. refl) (besides-set old.streams.items s given) i.told) retold.sets);
        ready_counted = rw (same, h.streams) (counted-retold guests guests guests old.streams.items s given old.ready new.ready refl retold i.ready_counted);
      }
    where
      loose_unheld : (owner : Owner) → is_loose owner ≡ true → is_held owner ≡ false
      loose_unheld (Held g handle) e = cc
      loose_unheld _ e = refl

      owners : (side : Side) → ((end_of side given).owner ≡ (end_of side (stream_at (state_of old) s)).owner) ⊎ ((is_held (end_of side (stream_at (state_of old) s)).owner ≡ false) × (is_held (end_of side given).owner ≡ false))
      owners Writing = inl refl
      owners Reading = inr (loose_unheld (stream_at (state_of old) s).reader.owner h.loose, refl)

  pub IsStore-handed : IsStore new
  IsStore-handed =
      IsStore-counted old new
      (kept_tables old new (record { limits = h.limits; counter = h.counter; live_sets = h.live_sets; bytes = h.bytes; guests = rw h.guests (all_kept (guests_of old.guests.items)) }) i)
      (record { places = h.counted; served = served; kept = places; few = rw (h.streams, length-set old.streams.items s given) i.few_streams })
      sound agrees i
