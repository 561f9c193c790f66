-- The second half of a pipe's round: the offer, and whether the pipe ends then.
use Rattle.std.proofs.Common.{◌≡◌, ℕ, Bool, true, false, cond, take, Option, Some, None, Ok, Err, refl, sym, ap, subst, ◌∙◌, arith}
use Rattle.strm_buffers.specs.declared.answers.Answer.{Answer}
use Rattle.strm_buffers.specs.declared.answers.Answer.TheVariants.{Failed}
use Rattle.strm_buffers.specs.declared.answers.ReaderSaid.{ReaderSaid}
use Rattle.strm_buffers.specs.HostRules.{breaks_as_reader}
use Rattle.strm_codes.specs.Counters.{Rose}
use Rattle.strm_buffers.specs.Tells.{WriterTells, ReaderTells, Tells, no_reader_tells, told_by, with_told, RisesOnFailed, writer_given, reader_tells_closed as closed_tells, told_by_reader}
use Rattle.strm_machine.specs.State.{State, stream_at}
use Rattle.strm_machine.specs.declared.stops.Stop.{Stop}
use Rattle.strm_machine.specs.declared.stops.Stop.TheVariants.{HostFailed, HostBroke, BadItem}
use Rattle.strm_machine.specs.declared.streams.HostEnd.TheVariants as ends
use Rattle.strm_machine.specs.declared.replies.Reply.TheVariants as replies
use Rattle.strm_host_machine.specs.World.{World}
use Rattle.strm_host_machine.specs.Outcomes.{Outcome, Stops, stops}
use Rattle.strm_host_machine.specs.Polls.{is_failed}
use Rattle.strm_host_machine.specs.Attaching.{without_ends}
use Rattle.strm_host_machine.specs.Piping.{passed_on, ends_if_done}
use Rattle.strm_host_machine.specs.Does.{Logs, Extends, writers_from, readers_from, world_of, Answered, Gives, Caused, Does}
use Rattle.strm_host_machine.proofs.DoesLemmas.{Does-as, Does-untold}
use Rattle.strm_host_machine.proofs.GrowLemmas.{Follows, follows-told, follows-then, grows-same, grows-closed, Does-follows}
use Rattle.strm_host_machine.proofs.PollLemmas.{IsServing}
use Rattle.strm_host_machine.proofs.ReaderLemmas.{begins-told_reader, told_by_reader-told, grows-polled_reader, grows-same_reader, follows-told_reader}
use Rattle.strm_host_machine.proofs.SettleLemmas.{AreBothLeft, with_reader_closed}
use Rattle.strm_host_machine.proofs.PipeLemmas.{offers_told, ends_told, gathered_in, gathered_tells, offers-none, IsOffered, offered_tells, passed_in, BeginsSo, PollPasses, offers-judged, offers-passed, ends-not, over_in, ends-both, offers_and_ends}

-- the reader is not polled: it may be over all the same
pub Does-offers_none : (old new : State) (tells more : Tells) (s n r : ℕ) (result : Answered) → IsServing old tells n s → offers_told old tells n r ≡ false
    → Does old new tells more result (λ w. ends_if_done w s n r None) → Does old new tells more result (offers_and_ends s n r)
Does-offers_none old new tells more s n r result i e d =
    Does-as old new tells more result (λ w. ends_if_done w s n r None) (offers_and_ends s n r)
    (λ logs. offers-none old tells n s i logs r (λ after answer. ends_if_done after s n r answer) e) d

module _ (old : State) (tells : Tells) (n s r : ℕ) (said : ReaderSaid) (t : ReaderTells) (o : IsOffered old tells n s r said t) where
  abbrev told : Tells
  told = offered_tells old tells n s r said t o

  -- the writer gave all that it held, and the reader took of it
  follows_is : Follows tells told
  follows_is =
      follows-then tells (gathered_tells tells n) told
      (follows-told tells n (writer_given (told_by tells n) None) o.serving.there (grows-same (told_by tells n) (writer_given (told_by tells n) None) refl refl (omega arith)))
      (follows-told_reader (gathered_tells tells n) r t o.there (grows-polled_reader (told_by_reader tells r) t said (take said.taken _) o.polls))

  begins_is : (logs : Logs) → Extends told logs → BeginsSo old tells n s r said t o logs
  begins_is logs e = begins-told_reader tells.readers logs.readers r t o.there e.1

  -- the pipe goes on or ends by its answer
  abbrev pub EndsSo : State → Tells → Answered → Type 0
  EndsSo new more result =
      Does (passed_in old tells n s r said t o) new told more result (λ w. ends_if_done w s n r (Some said.answer))

  -- what causes a stop then, causes that of both
  abbrev pub CausesSo : Tells → Answered → Type 0
  CausesSo more result = Caused result told more → Caused result tells more

  -- it answered, and the pipe goes on or ends
  pub Does-offers : (new : State) (more : Tells) (result : Answered) → PollPasses (stream_at old s).kind said → EndsSo new more result → CausesSo more result
      → Does old new tells more result (offers_and_ends s n r)
  Does-offers new more result p d cause = record {
    begins = λ logs e. follows_is.begins logs (d.begins logs e);
    gives = λ logs e.
        subst (Gives result (world_of new more logs))
        (sym (offers-passed old tells n s r said t o (λ after answer. ends_if_done after s n r answer) logs (begins_is logs (d.begins logs e)) p))
        (d.gives logs e);
    supplied = λ first x. d.supplied first (follows_is.supplied first x);
    faults = λ end. let a = follows_is.faults end in let c = d.faults end in omega (arith, a, c);
    cause = cause d.cause;
  }

  -- ## It stops

  abbrev judged_as : Logs → World
  judged_as logs = world_of (gathered_in old tells n) told logs

  stops-by : (new : State) (logs : Logs) (stop : Stop) → new.producers ≡ (gathered_in old tells n).producers
      → stops stop (judged_as logs) ≡ Stops stop (world_of new told logs).writers (world_of new told logs).readers
  stops-by new logs stop e =
      ap (λ ps. Stops stop (writers_from ps told.writers logs.writers) (readers_from told.readers logs.readers)) (sym e)

  abbrev broke_or : Logs → Bool → Outcome
  broke_or logs b = cond b (stops (HostBroke (ends.Reader r)) (judged_as logs)) (ends_if_done (passed_on (judged_as logs) s n r said.answer said.taken) s n r (Some said.answer))

  abbrev bad_or : Logs → Bool → Outcome
  bad_or logs b = cond b (stops (BadItem s) (judged_as logs)) (broke_or logs (breaks_as_reader (stream_at old s).kind said))

  abbrev failed_or : Logs → Bool → Outcome
  failed_or logs b = cond b (stops (HostFailed (ends.Reader r)) (judged_as logs)) (bad_or logs said.bad)

  judged : (logs : Logs) → Extends told logs → offers_and_ends s n r (world_of old tells logs) ≡ failed_or logs (is_failed said.answer)
  judged logs x = offers-judged old tells n s r said t o (λ after answer. ends_if_done after s n r answer) logs (begins_is logs x)

  faults_rise : said.answer ≡ Failed → Rose (told_by_reader tells r).faults (told_by_reader told r).faults
  faults_rise f =
      subst (λ (v : ReaderTells). Rose (told_by_reader tells r).faults v.faults) (sym (told_by_reader-told tells.readers r t no_reader_tells o.there))
      (subst (λ a. RisesOnFailed a (told_by_reader tells r).faults t.faults) f o.polls.faults)

  pub Does-offers_failed : (new : State) → said.answer ≡ Failed → new.producers ≡ (gathered_in old tells n).producers
      → Does old new tells told (Err (Some (HostFailed (ends.Reader r)))) (offers_and_ends s n r)
  Does-offers_failed new f e =
      Does-follows old new tells told (Err (Some (HostFailed (ends.Reader r)))) (offers_and_ends s n r) follows_is
      (λ logs x. judged logs x
      ∙ ap (λ a. failed_or logs (is_failed a)) f
      ∙ stops-by new logs (HostFailed (ends.Reader r)) e)
      (faults_rise f)

  pub Does-offers_bad : (new : State) → is_failed said.answer ≡ false → said.bad ≡ true → new.producers ≡ (gathered_in old tells n).producers
      → Does old new tells told (Err (Some (BadItem s))) (offers_and_ends s n r)
  Does-offers_bad new f b e =
      Does-follows old new tells told (Err (Some (BadItem s))) (offers_and_ends s n r) follows_is
      (λ logs x. judged logs x
      ∙ ap (failed_or logs) f
      ∙ ap (bad_or logs) b
      ∙ stops-by new logs (BadItem s) e)
      tt

  pub Does-offers_broke : (new : State) → is_failed said.answer ≡ false → said.bad ≡ false → breaks_as_reader (stream_at old s).kind said ≡ true → new.producers ≡ (gathered_in old tells n).producers
      → Does old new tells told (Err (Some (HostBroke (ends.Reader r)))) (offers_and_ends s n r)
  Does-offers_broke new f b k e =
      Does-follows old new tells told (Err (Some (HostBroke (ends.Reader r)))) (offers_and_ends s n r) follows_is
      (λ logs x. judged logs x
      ∙ ap (failed_or logs) f
      ∙ ap (bad_or logs) b
      ∙ ap (broke_or logs) k
      ∙ stops-by new logs (HostBroke (ends.Reader r)) e)
      tt

-- ## The end

pub Does-ends_not : (state : State) (tells : Tells) (n s r : ℕ) (answer : Option Answer) → IsServing state tells n s → ends_told state tells s n r answer ≡ false
    → Does state state tells tells (Ok replies.Done) (λ w. ends_if_done w s n r answer)
Does-ends_not state tells n s r answer i e =
    Does-untold state state tells (Ok replies.Done) (λ w. ends_if_done w s n r answer) (λ logs. ends-not state tells n s r answer i logs e) tt

-- what all ends tell once host writer n told this, and host reader r was closed
abbrev pub both_closed : Tells → ℕ → ℕ → WriterTells → Tells
both_closed tells n r w = with_told (with_reader_closed tells r) n w

module _ (state : State) (tells : Tells) (n s r : ℕ) (answer : Option Answer) (i : IsServing state tells n s) (w : WriterTells) where
  pub Does-ends : ends_told state tells s n r answer ≡ true → AreBothLeft state tells s n r (without_ends (stream_at state s)) w
      → Does state (over_in state tells n s r answer i) tells (both_closed tells n r w) (Ok replies.Done) (λ v. ends_if_done v s n r answer)
  Does-ends e l =
      let f = follows-told_reader tells r (closed_tells (told_by_reader tells r)) l.reader_there (grows-same_reader (told_by_reader tells r) (closed_tells (told_by_reader tells r)) refl (omega arith)) in
      let g = follows-told (with_reader_closed tells r) n w l.there (grows-closed (told_by tells n) w l.closes) in
      Does-follows state (over_in state tells n s r answer i) tells (with_told (with_reader_closed tells r) n w) (Ok replies.Done) (λ v. ends_if_done v s n r answer)
      (follows-then tells (with_reader_closed tells r) (with_told (with_reader_closed tells r) n w) f g)
      (λ logs x. ends-both state tells n s r answer i logs w e l) tt
