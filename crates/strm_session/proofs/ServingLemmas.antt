-- The words of the program, and what a status tells.
use Rattle.std.specs.Prelude.{IfSome}
use Rattle.std.proofs.Common.{◌≡◌, ◌≢◌, ◌⊎◌, ℕ, ◌≤◌, List, [], ◌∷◌, length, map, get_or, Option, Some, None, Result, Ok, Err, refl, sym, ap, ◌∙◌, subst, ⊎_elim, inl, inr, decimal, arith}
use Rattle.std.proofs.lemmas.Bool.{cases_eq}
use Rattle.std.specs.Prelude.{codes}
use Rattle.strm_machine.specs.declared.steps.Step.{Step}
use Rattle.strm_codes.specs.Counters.{Rose}
use Rattle.strm_lines.specs.Grammar.{IsU32}
use Rattle.strm_lines.specs.Lines.{lines_of, Spells, IsFirstBadLine, IsTooLong}
use Rattle.strm_input_output.specs.Serving.{IsOfSource}
use Rattle.strm_input_output.proofs.ServingLemmas.{source_of_input, is_read}
use Rattle.strm_session.specs.Serving.{TellsToRun, IsGen, IsStopStatus, IsStatusOfLines, IsStatusOf, PlaysOn, HaltsWith, StandsFor, IsOfInput, IsRunOutput, IsComplete, EndsOrStops, InputWasRun, LeavesUnwritten}
use Rattle.strm_host_machine.specs.Ends.{Writer, Reader}
use Rattle.strm_host_machine.specs.World.{World}
use Rattle.strm_host_machine.specs.HostPlays.{HostPlayed, host_play, Ends, Halts}
use Rattle.std.specs.Io.KnownBytes.{IsAtEnd}
use Rattle.strm_lines.proofs.LineLemmas.{one_spelling, spelled_not_bad}
use Rattle.strm_machine.specs.declared.replies.Reply.{Reply}
use Rattle.strm_buffers.specs.Tells.{Tells}
use Rattle.strm_machine.specs.declared.stops.Stop.{Stop}
use Rattle.strm_machine.specs.declared.stops.Stop.TheVariants as stops
use Rattle.strm_session.specs.Records.{NoneRose, ObeyRules}
use Rattle.strm_session.specs.Runs.{start_among, stop_of, HaltsBy, AsksBad, AsksItems, HasStopped}
use Rattle.strm_session.specs.Playing.{HasRun}
use Rattle.strm_session.specs.declared.playing.Ended.{Ended}
use Rattle.strm_session.specs.declared.runs.RunCause.{RunCause}
use Rattle.strm_session.specs.declared.runs.RunCause.TheVariants as causes
use Rattle.strm_machine.specs.declared.stops.Stop.TheVariants.{BadItem}
use Rattle.strm_session.proofs.StopLemmas.{asks-halts, only_memory}

-- of one word, which it is
pub one_word : {X : Type 0} (f : X → List ℕ) (items : List X) (x : X) (word : List ℕ) → length items ≡ 1 → x ≡ get_or items 0 x → (f x ≡ word → map f items ≡ word ∷ []) × (map f items ≡ word ∷ [] → f x ≡ word)
one_word f [] x word l e = absurd (omega (arith, l))
one_word f (y ∷ []) x word l e = (
  (λ q. ap (λ v. v ∷ []) (ap f (sym e) ∙ q)),
  (λ q. let first : f y ≡ word = cc in ap f e ∙ first),
)
one_word f (y ∷ z ∷ more) x word l e = absurd (omega (arith, l))

-- the statuses of a text
abbrev pub Known : ℕ → Type 0
Known status = (status ≤ 4) ⊎ IsStopStatus status

-- those of lines that are neither of the other two
zero_of : {status : ℕ} → IsStatusOfLines status → status ≢ 2 → (IsStopStatus status → ⊥) → status ≡ 0
zero_of (inl e) bad stop = e
zero_of (inr (inl e)) bad stop = absurd (bad e)
zero_of (inr (inr s)) bad stop = absurd (stop s)

two_of : {status : ℕ} → IsStatusOfLines status → status ≢ 0 → (IsStopStatus status → ⊥) → status ≡ 2
two_of (inl e) done stop = absurd (done e)
two_of (inr (inl e)) done stop = e
two_of (inr (inr s)) done stop = absurd (stop s)

stop_of_lines : {status : ℕ} → IsStatusOfLines status → status ≢ 0 → status ≢ 2 → IsStopStatus status
stop_of_lines (inl e) done bad = absurd (done e)
stop_of_lines (inr (inl e)) done bad = absurd (bad e)
stop_of_lines (inr (inr s)) done bad = s

-- AMONG HOST ENDS

abbrev stop_in : HostPlayed → Stop
stop_in (Halts told stop writers readers) = stop
stop_in _ = stops.StoreTrapped

-- a play that halts does not come to its end
halts_no_end : (told replies : List Reply) (stop : Stop) (writers : List Writer) (readers : List Reader) (end : World) → Halts told stop writers readers ≡ Ends replies end → ⊥
halts_no_end told replies stop writers readers end e = cc

module _ (old new : Tells) (steps : List Step) (told : List Reply) (status : ℕ) where
  -- a run that stops was not played to its end
  stops_no_end : (cause : RunCause) (why : Stop) → IsStatusOf status cause why → HaltsBy (start_among old new) steps told new (stop_of cause) → PlaysOn (start_among old new) steps → ⊥
  stops_no_end (causes.HostFailed x) why s h plays = halts_no_end told plays.0 _ _ _ plays.1 (sym h ∙ plays.2)
  stops_no_end (causes.HostBroke x) why s h plays = halts_no_end told plays.0 _ _ _ plays.1 (sym h ∙ plays.2)
  stops_no_end (causes.BadItem x) why s h plays = halts_no_end told plays.0 _ _ _ plays.1 (sym h ∙ plays.2)
  stops_no_end causes.OutOfMemory why s h plays = absurd s

  -- and its status is that of the stop
  stands_for : (cause : RunCause) (why stop : Stop) → IsStatusOf status cause why → HaltsBy (start_among old new) steps told new (stop_of cause) → HaltsWith (start_among old new) steps stop → StandsFor status stop
  stands_for (causes.HostFailed x) why stop s h halts = subst (StandsFor status) (ap stop_in (sym h ∙ halts.3)) s.0
  stands_for (causes.HostBroke x) why stop s h halts = subst (StandsFor status) (ap stop_in (sym h ∙ halts.3)) s.0
  stands_for (causes.BadItem x) why stop s h halts = subst (StandsFor status) (ap stop_in (sym h ∙ halts.3)) s.0
  stands_for causes.OutOfMemory why stop s h halts = absurd s

  -- a run that stops but for running out of memory has a cause
  no_cause : (cause : RunCause) (why : Stop) → IsStatusOf status cause why → HasStopped old new steps told cause → NoneRose old new → ObeyRules old new → AsksItems (start_among old new) steps → ⊥
  no_cause cause why s h none obey items = untold cause why s (only_memory old new steps told cause h none obey items)
    where
      untold : (cause : RunCause) (why : Stop) → IsStatusOf status cause why → cause ≡ causes.OutOfMemory → ⊥
      untold (causes.HostFailed end) why s e = cc
      untold (causes.HostBroke end) why s e = cc
      untold (causes.BadItem stream) why s e = cc
      untold causes.OutOfMemory why s e = s

three_of : (status : ℕ) → status ≢ 4 → (status ≢ 3 → ⊥) → status ≡ 3
three_of status d n = ⊎_elim (λ e. e) (λ e. absurd (n e)) (cases_eq status 3)

-- what an input that was read leaves, its source does
pub unwritten_of_source : {old new : Tells} (left : Option (List ℕ)) (input : List ℕ) → IfSome left (λ bytes. input ≡ bytes) → LeavesUnwritten (Some input) old new → LeavesUnwritten left old new
unwritten_of_source left input e (inl same) = inl same
unwritten_of_source None input e (inr w) = inr (record { steps = w.steps; spelled = tt; within = tt; replies = w.replies; run = w.run })
unwritten_of_source {old} {new} (Some bytes) input e (inr w) = inr (subst (λ b. InputWasRun (Some b) old new) e w)

-- a run of which nothing is written
pub was_run : {old new : Tells} (input : List ℕ) (steps : List Step) (told : List Reply) (r : Result Ended RunCause) → Spells (lines_of input) steps → (IsTooLong input → ⊥) → HasRun old new steps told r → InputWasRun (Some input) old new
was_run {old} {new} input steps told r s long h = record { steps = steps; spelled = s; within = long; replies = told; run = by r h }
  where
    by : (r : Result Ended RunCause) → HasRun old new steps told r → EndsOrStops old new steps told
    by (Ok e) h = inl (e.store, h.ok)
    by (Err cause) h = inr (cause, h.stop)

module _ {rest : Option (List ℕ)} {old new : Tells} {before after status : ℕ} {text : List ℕ} where
  -- what is told of an input that was read is told of its source, which is at its end then
  pub told_of_source : (left : Option (List ℕ)) (input : List ℕ) → IfSome left (λ bytes. input ≡ bytes) → IsAtEnd rest → IsOfInput (Some input) (Some []) old new before after status text → IsOfInput left rest old new before after status text
  told_of_source None input e end h = record {
    source = source_of_input None input e end h.source;
    done = λ _. tt;
    bad_line = λ s. let bad = h.bad_line s in (bad.0, tt, bad.2);
    stopped = λ _. tt;
    unrun = h.unrun;
    whole_lines = λ _ _ _ _. end;
  }
  told_of_source (Some bytes) input e end h =
      let k = subst (λ b. IsOfInput (Some b) (Some []) old new before after status text) e h in
      record {
        source = source_of_input (Some bytes) input e end h.source;
        done = k.done;
        bad_line = k.bad_line;
        stopped = k.stopped;
        unrun = k.unrun;
        whole_lines = λ _ _ _ _. end;
      }

  module _ (input : List ℕ) (h : IsOfInput (Some input) rest old new before after status text) (calm : Rose before after → ⊥) where
    not_fault : status ≢ 4
    not_fault q = calm (h.source.read_fault q).0

    module _ (long : IsTooLong input → ⊥) where
      lines : IsStatusOfLines status
      lines = is_read h.source (λ q. long (h.source.too_long q).0) not_fault

      module _ (steps : List Step) (s : Spells (lines_of input) steps) where
        no_bad_line : status ≢ 2
        no_bad_line q = let bad = h.bad_line q in spelled_not_bad (lines_of input) steps bad.0 s bad.1

        -- a run that the machine plays to its end is done
        ends_of : PlaysOn (start_among old new) steps → status ≡ 0
        ends_of plays =
            zero_of lines no_bad_line
            (λ q.
            let stopped = h.stopped q in
            let same = one_spelling (lines_of input) stopped.steps steps stopped.spelled s in
            stops_no_end old new stopped.steps stopped.replies status stopped.cause stopped.why stopped.status_is stopped.run.stops.halts
            (subst (PlaysOn (start_among old new)) (sym same) plays))

        -- and one that it halts has the status of the stop
        halts_of : (stop : Stop) → HaltsWith (start_among old new) steps stop → StandsFor status stop
        halts_of stop halts =
            let undone : status ≢ 0 = λ q.
            let done = h.done q in
            let same = one_spelling (lines_of input) done.steps steps done.spelled s in
            halts_no_end halts.0 done.replies stop halts.1 halts.2 _ (sym halts.3 ∙ ap (host_play [] (start_among old new)) (sym same) ∙ done.run.played) in
            let stopped = h.stopped (stop_of_lines lines undone no_bad_line) in
            let same = one_spelling (lines_of input) stopped.steps steps stopped.spelled s in
            stands_for old new stopped.steps stopped.replies status stopped.cause stopped.why stop stopped.status_is stopped.run.stops.halts
            (subst (λ k. HaltsWith (start_among old new) k stop) (sym same) halts)

        -- where no host end fails, each obeys its rules, and each item asked for is one, the run is done
        done_of : NoneRose old new → ObeyRules old new → AsksItems (start_among old new) steps → status ≡ 0
        done_of none obey items =
            zero_of lines no_bad_line
            (λ q.
            let stopped = h.stopped q in
            let same = one_spelling (lines_of input) stopped.steps steps stopped.spelled s in
            no_cause old new stopped.steps stopped.replies status stopped.cause stopped.why stopped.status_is stopped.run none obey
            (subst (AsksItems (start_among old new)) (sym same) items))

        -- and where a bad item is asked for it stops
        bad_item_of : (told : List Reply) (stream : ℕ) → AsksBad (start_among old new) steps told stream → status ≡ 8
        bad_item_of told stream a =
            let halts = asks-halts (start_among old new) refl steps told stream a in
            halts_of (BadItem stream) (told, _, _, halts)

      -- a bad line is told
      bad_line_of : (line : ℕ) → IsFirstBadLine (lines_of input) line → status ≡ 2
      bad_line_of line bad =
          two_of lines
          (λ q. let done = h.done q in spelled_not_bad (lines_of input) done.steps line done.spelled bad)
          (λ q. let stopped = h.stopped q in spelled_not_bad (lines_of input) stopped.steps line stopped.spelled bad)

    -- and so is an input over the limits
    too_long_of : IsTooLong input → status ≡ 3
    too_long_of long = three_of status not_fault (λ q. h.source.within (is_read h.source q not_fault) long)

  module _ {words : List (List ℕ)} (left : Option (List ℕ)) (input : List ℕ) (h : IsRunOutput words left rest old new before after status text) where
    -- of a source that has this input left, where nothing fails
    told_input : TellsToRun words → left ≡ Some input → IsOfInput (Some input) rest old new before after status text
    told_input r e = subst (λ l. IsOfInput l rest old new before after status text) e (h.of_input r)

    pub told_done : TellsToRun words → left ≡ Some input → (Rose before after → ⊥) → (IsTooLong input → ⊥) → (steps : List Step) → Spells (lines_of input) steps → NoneRose old new → ObeyRules old new → AsksItems (start_among old new) steps → status ≡ 0
    told_done r e calm = done_of input (told_input r e) calm

    pub told_bad_item : TellsToRun words → left ≡ Some input → (Rose before after → ⊥) → (IsTooLong input → ⊥) → (steps : List Step) → Spells (lines_of input) steps → (told : List Reply) (stream : ℕ) → AsksBad (start_among old new) steps told stream → status ≡ 8
    told_bad_item r e calm = bad_item_of input (told_input r e) calm

    pub told_ends : TellsToRun words → left ≡ Some input → (Rose before after → ⊥) → (IsTooLong input → ⊥) → (steps : List Step) → Spells (lines_of input) steps → PlaysOn (start_among old new) steps → status ≡ 0
    told_ends r e calm = ends_of input (told_input r e) calm

    pub told_halts : TellsToRun words → left ≡ Some input → (Rose before after → ⊥) → (IsTooLong input → ⊥) → (steps : List Step) → Spells (lines_of input) steps → (stop : Stop) → HaltsWith (start_among old new) steps stop → StandsFor status stop
    told_halts r e calm = halts_of input (told_input r e) calm

    pub told_bad_line : TellsToRun words → left ≡ Some input → (Rose before after → ⊥) → (IsTooLong input → ⊥) → (line : ℕ) → IsFirstBadLine (lines_of input) line → status ≡ 2
    told_bad_line r e calm = bad_line_of input (told_input r e) calm

    pub told_too_long : TellsToRun words → left ≡ Some input → (Rose before after → ⊥) → IsTooLong input → status ≡ 3
    told_too_long r e calm = too_long_of input (told_input r e) calm

-- COMPLETENESS

module _ (words : List (List ℕ)) (left rest : Option (List ℕ)) (sb sa kb ka : ℕ) (old new : Tells) where
  -- nothing is owed where memory had run out
  pub complete_memory : IsComplete words left sb sa kb ka old new 9
  complete_memory = record {
    complete = λ steps r none obey items. inr refl;
    bad_item = λ steps r told s a. inr refl;
    ends = λ steps r plays. inr refl;
    halts = λ steps r stop halts. inr refl;
    bad_line = λ input line r f bad long. inr refl;
    too_long = λ input r f long. inr refl;
    generated = λ n seed g calm few. inr refl;
    too_many = λ n seed g calm many. inr refl;
    usage = λ none calm. inr refl;
  }

  -- and where the sink failed
  pub complete_fault : (status : ℕ) → Rose kb ka → IsComplete words left sb sa kb ka old new status
  complete_fault status rose = record {
    complete = λ steps r none obey items. absurd (r.faultless.sink rose);
    bad_item = λ steps r told s a. absurd (r.faultless.sink rose);
    ends = λ steps r plays. absurd (r.faultless.sink rose);
    halts = λ steps r stop halts. absurd (r.faultless.sink rose);
    bad_line = λ input line r f bad long. absurd (f.sink rose);
    too_long = λ input r f long. absurd (f.sink rose);
    generated = λ n seed g calm few. absurd (calm rose);
    too_many = λ n seed g calm many. absurd (calm rose);
    usage = λ none calm. absurd (calm rose);
  }

  -- what is written has its cause
  pub complete_told : (status : ℕ) (text : List ℕ) → IsRunOutput words left rest old new sb sa status text → IsComplete words left sb sa kb ka old new status
  complete_told status text o = record {
    complete = λ steps r none obey items.
        let f = r.faultless in inl (told_done left r.input o r.run f.input_is f.source r.within steps r.spelled none obey items);
    bad_item = λ steps r told s a.
        let f = r.faultless in inl (told_bad_item left r.input o r.run f.input_is f.source r.within steps r.spelled told s a);
    ends = λ steps r plays.
        let f = r.faultless in inl (told_ends left r.input o r.run f.input_is f.source r.within steps r.spelled plays);
    halts = λ steps r stop halts.
        let f = r.faultless in inl (told_halts left r.input o r.run f.input_is f.source r.within steps r.spelled stop halts);
    bad_line = λ input line r f bad long. inl (told_bad_line left input o r f.input_is f.source long line bad);
    too_long = λ input r f long. inl (told_too_long left input o r f.input_is f.source long);
    generated = λ n seed g calm few. inl ((o.of_numbers n seed g).done few).0;
    too_many = λ n seed g calm many. inl ((o.of_numbers n seed g).too_long many).0;
    usage = λ none calm. inl (o.usage none).0;
  }

  -- so has what was answered, of which the sink took all or failed
  pub complete_written : (answered status : ℕ) (text : List ℕ) {Taken : Type 0} → IsRunOutput words left rest old new sb sa status text → (answered ≢ 5 → (answered ≡ status) × Taken) → (answered ≡ 5 → Rose kb ka) → IsComplete words left sb sa kb ka old new answered
  complete_written answered status text o told fault = by (cases_eq answered 5)
    where
      by : (answered ≡ 5) ⊎ (answered ≢ 5) → IsComplete words left sb sa kb ka old new answered
      by (inl e) = complete_fault answered (fault e)
      by (inr n) = subst (λ (s : ℕ). IsComplete words left sb sa kb ka old new s) (sym (told n).0) (complete_told status text o)

-- WORDS

-- three words, each of which is one
pub three_words : {X : Type 0} (f : X → List ℕ) (items : List X) (x y z : X) → length items ≡ 3 → x ≡ get_or items 0 x → y ≡ get_or items 1 y → z ≡ get_or items 2 z → map f items ≡ f x ∷ f y ∷ f z ∷ []
three_words f [] x y z l a b c = absurd (omega (arith, l))
three_words f (p ∷ []) x y z l a b c = absurd (omega (arith, l))
three_words f (p ∷ q ∷ []) x y z l a b c = absurd (omega (arith, l))
three_words f (p ∷ q ∷ r ∷ []) x y z l a b c = rw (a, b, c) refl
three_words f (p ∷ q ∷ r ∷ s ∷ more) x y z l a b c = absurd (omega (arith, l))

-- what a word is read as
abbrev pub Reads : List ℕ → Option ℕ → Type 0
Reads word found = (n : ℕ) → (found ≡ Some n → IsU32 n × (word ≡ decimal n)) × (IsU32 n × (word ≡ decimal n) → found ≡ Some n)

-- and the numbers that words tell
abbrev pub Numbers : List (List ℕ) → Option (ℕ × ℕ) → Type 0
Numbers words found = (n seed : ℕ) → (found ≡ Some (n, seed) → IsGen words n seed) × (IsGen words n seed → found ≡ Some (n, seed))

abbrev tail_of : List (List ℕ) → List (List ℕ)
tail_of [] = []
tail_of (word ∷ words) = words

abbrev first_of_words : List (List ℕ) → List ℕ
first_of_words [] = []
first_of_words (word ∷ words) = word

abbrev pair_of : Option (ℕ × ℕ) → ℕ × ℕ
pair_of (Some p) = p
pair_of None = (0, 0)

module _ (words : List (List ℕ)) (a b d : List ℕ) (are : words ≡ a ∷ b ∷ d ∷ []) where
  second_word : (n seed : ℕ) → IsGen words n seed → b ≡ decimal n
  second_word n seed g = ap (λ ws. first_of_words (tail_of ws)) (sym are ∙ g.words_are)

  third_word : (n seed : ℕ) → IsGen words n seed → d ≡ decimal seed
  third_word n seed g = ap (λ ws. first_of_words (tail_of (tail_of ws))) (sym are ∙ g.words_are)

  pub numbers_found : a ≡ codes "gen" → (count seed : ℕ) → Reads b (Some count) → Reads d (Some seed) → Numbers words (Some (count, seed))
  numbers_found e count seed f h = λ n s. (
    (λ same.
        let m : count ≡ n = ap (λ o. (pair_of o).0) same in
        let t : seed ≡ s = ap (λ o. (pair_of o).1) same in
        let first = (f n).0 (ap Some m) in
        let second = (h s).0 (ap Some t) in
        record { words_are = rw (are, e, first.1, second.1) refl; count = first.0; number = second.0 }),
    (λ g.
        let first : Some count ≡ Some n = (f n).1 (g.count, second_word n s g) in
        let second : Some seed ≡ Some s = (h s).1 (g.number, third_word n s g) in
        let m : count ≡ n = cc in
        let t : seed ≡ s = cc in
        ap (λ k. Some (k, seed)) m ∙ ap (λ k. Some (n, k)) t),
  )

-- a status of a text is none of a fault of the sink, and none of running out of memory
pub known_status : (status : ℕ) → Known status → status ≤ 9
known_status status k = ⊎_elim (λ l. omega (arith, l)) (λ s. omega (arith, s.1)) k

pub known_unfailed : (status : ℕ) → Known status → (status ≢ 5) × (status ≢ 9)
known_unfailed status k = (
  (λ e. ⊎_elim (λ l. absurd (omega (arith, l, e))) (λ s. absurd (omega (arith, s.0, e))) k),
  (λ e. ⊎_elim (λ l. absurd (omega (arith, l, e))) (λ s. absurd (omega (arith, s.1, e))) k),
)

-- so is none that was answered with it, but for a fault of the sink
module _ (answered status : ℕ) (k : Known status) {Taken : Type 0} (told : answered ≢ 5 → (answered ≡ status) × Taken) where
  pub written_known : answered ≤ 9
  written_known = by (cases_eq answered 5)
    where
      by : (answered ≡ 5) ⊎ (answered ≢ 5) → answered ≤ 9
      by (inl e) = omega (arith, e)
      by (inr n) = subst (λ (s : ℕ). s ≤ 9) (sym (told n).0) (known_status status k)

  pub written_not_nine : answered ≢ 9
  written_not_nine e = (known_unfailed status k).1 (sym (told (λ five. omega (arith, e, five))).0 ∙ e)
