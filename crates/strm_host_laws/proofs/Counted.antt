-- A run has no more moments than its steps can have: a drive round has one for each stream, and a step makes one
-- stream at most.
use Rattle.std.proofs.Common.{◌≡◌, ℕ, zero, suc, ◌+◌, ◌*◌, ◌≤◌, Bool, true, false, cond, List, [], ◌∷◌, length, map, take, Option, Some, None, refl, sym, ap, subst, ◌∙◌, arith, length-append}
use Rattle.std.proofs.lemmas.Bool.{cond_both}
use Rattle.strm_machine.specs.Acts.{act_of}
use Rattle.strm_machine.specs.declared.acts.Act.{Act}
use Rattle.strm_machine.specs.declared.acts.Act.TheVariants.{Drive}
use Rattle.strm_machine.specs.declared.steps.Step.{Step}
use Rattle.strm_machine.specs.declared.streams.Operation.{Operation}
use Rattle.strm_machine.specs.declared.streams.Owner.{Owner}
use Rattle.strm_machine.specs.declared.streams.Owner.TheVariants.{Host}
use Rattle.strm_machine.specs.declared.streams.Side.{Side}
use Rattle.strm_machine.specs.declared.streams.Side.TheVariants.{Writing, Reading}
use Rattle.strm_machine.specs.declared.streams.Stream.{Stream}
use Rattle.strm_machine.specs.declared.replies.Reply.{Reply}
use Rattle.strm_machine.proofs.StreamSteps.{reaction_streams}
use Rattle.strm_host_machine.specs.World.{World, stream_in, writer_at}
use Rattle.strm_host_machine.specs.Outcomes.{Outcome, Goes, Stops, Stuck}
use Rattle.strm_host_machine.specs.Attaching.{forsaken, hosted_stream}
use Rattle.strm_host_machine.specs.WriterTurn.{writer_turn}
use Rattle.strm_host_machine.specs.ReaderTurn.{reader_turn}
use Rattle.strm_host_machine.specs.Driving.{if_open, driven_by, drive_turn, numbers_from, round_of}
use Rattle.strm_host_machine.proofs.OutcomeLemmas.{outcome-trapped}
use Rattle.strm_host_laws.specs.HostMoments.{Part, Acts, Turns, HostMoment, parts_of, part_on, followed, acted, host_moments, first_moments}
use Rattle.strm_host_laws.proofs.Chains.{is_part}
use Rattle.strm_host_laws.proofs.Forms.{HasTurned, reacted_to, Form, BySame, ByReacting, ByForsaking, ByHosting, ByFeeding, ByGranting, ByPiping, ByTurning, ByPassing, ByCalling}
use Rattle.strm_host_laws.proofs.GoingRules.{IfGoes}
use Rattle.strm_machine.proofs.HostLemmas.{serving_known}
use Rattle.strm_host_machine.specs.Piping.{pipe_round}
use Rattle.strm_host_laws.proofs.Rounds.{HasPassed, round_is}
use Rattle.strm_host_laws.proofs.TurnsStand.{Holds}
use Rattle.strm_host_laws.proofs.Lives.{Lives, goes_form, goes_lives}
use Rattle.strm_host_laws.proofs.Turned.{turn_is, taking_is}
use Rattle.strm_host_laws.proofs.WrittenBack.{back-length, round_length, turned_length, call_length, pipe_length}

-- the streams made
abbrev pub streams_in : World → ℕ
streams_in w = length w.state.streams

-- ONE STREAM MORE AT MOST

module _ (first w : World) (l : Lives first w) where
  as_many : (v : World) → streams_in v ≡ streams_in w → streams_in v ≤ streams_in w + 1
  as_many v e = omega (arith, e)

  form_grows : (part : Part) (reply : Reply) (v : World) → Form w part reply v → streams_in v ≤ streams_in w + 1
  form_grows part reply v (BySame m e) = as_many v (ap streams_in e)
  form_grows part reply v (ByReacting act m e) = subst (λ x. streams_in x ≤ streams_in w + 1) (sym e) ((reaction_streams w.state act l.holds.sound).few)
  form_grows part reply v (ByForsaking act side t n m f) =
      let x = reacted_to w act in
      let same = ap streams_in f.is ∙ back-length x t (forsaken side (stream_in x t)) in
      let grows = (reaction_streams w.state act l.holds.sound).few in
      omega (arith, same, grows)
  form_grows part reply v (ByHosting n p r e f) =
      let same = ap streams_in f in
      let long = length-append w.state.streams (hosted_stream (writer_at w n) n ∷ []) in
      omega (arith, same, long)
  form_grows part reply v (ByFeeding n bytes m e) = as_many v (ap streams_in e)
  form_grows part reply v (ByGranting r count m e) = as_many v (ap streams_in e)
  form_grows part reply v (ByPiping t r m p) = as_many v (pipe_length w v t r p)
  form_grows part reply v (ByTurning side t n operation m i) = as_many v (turned_length side w t n operation v i.turned)
  form_grows part reply v (ByPassing t n r m i) = as_many v (round_length w t n r v i.passed)
  form_grows part reply v (ByCalling side end address count n m r) = as_many v (call_length side w part v end address count n r)

-- A TURN MAKES NONE

module _ (w : World) (s : ℕ) (holds : Holds w.state) where
  abbrev MakesNone : Outcome → Type 0
  MakesNone o = IfGoes o (λ reply v. streams_in v ≡ streams_in w)

  open_makes_none : (side : Side) (n : ℕ) (o : Option Operation) (turn : Operation → Outcome) → ((operation : Operation) → IfGoes (turn operation) (λ reply v. HasTurned side w s n operation v)) → MakesNone (if_open w o turn)
  open_makes_none side n None turn h = refl
  open_makes_none side n (Some operation) turn h =
      cond_both operation.is_open _ _ MakesNone (λ e. by (turn operation) (h operation)) (λ e. refl)
    where
      by : (o : Outcome) → IfGoes o (λ reply v. HasTurned side w s n operation v) → IfGoes o (λ reply v. streams_in v ≡ streams_in w)
      by (Goes reply v) t = turned_length side w s n operation v t
      by (Stops stop writers readers) t = tt
      by Stuck t = tt

  round_makes_none : (n r : ℕ) → (stream_in w s).writer.owner ≡ Host n → MakesNone (pipe_round w s n r)
  round_makes_none n r e =
      let known = serving_known w.state Writing n s holds.hosts ((holds.hosts.serve Writing n s).serves e) in
      let all = holds.hosts.all_kept in
      by (pipe_round w s n r) (round_is w s n r (omega (arith, known, all)))
    where
      by : (o : Outcome) → IfGoes o (HasPassed w s n r) → MakesNone o
      by (Goes reply v) p = round_length w s n r v p.0
      by (Stops stop writers readers) p = tt
      by Stuck p = tt

  driven_makes_none : (stream : Stream) (writer reader : Owner) → (stream_in w s).writer.owner ≡ writer → MakesNone (driven_by w s stream writer reader)
  driven_makes_none stream (Host n) (Host r) e = round_makes_none n r e
  driven_makes_none stream (Host n) _ e = open_makes_none Reading n stream.reader.operation (writer_turn w s n) (turn_is w s n)
  driven_makes_none stream _ (Host r) e = open_makes_none Writing r stream.writer.operation (reader_turn w s r) (taking_is w s r)
  driven_makes_none stream _ _ e = refl

  turn_makes_none : MakesNone (drive_turn w s)
  unfolding drive_turn
  turn_makes_none = driven_makes_none (stream_in w s) (stream_in w s).writer.owner (stream_in w s).reader.owner refl

-- MOMENTS

length-numbers : (s n : ℕ) → length (numbers_from s n) ≡ n
length-numbers s zero = refl
length-numbers s (suc n) = ap suc (length-numbers (s + 1) n)

module _ (first : World) where
  -- at most so many moments follow from a world with at most so many streams
  abbrev AtMost : ℕ → ℕ → (World → List HostMoment) → Type 0
  AtMost streams most next = (v : World) → Lives first v → streams_in v ≤ streams → length (next v) ≤ most

  turns_few : (xs : List ℕ) (w : World) (streams most : ℕ) (next : World → List HostMoment) → Lives first w → streams_in w ≤ streams → AtMost streams most next
      → length (acted w (map Turns xs) next) ≤ length xs + most
  turns_few [] w streams most next l few h = omega (arith, h w l few)
  turns_few (s ∷ xs) w streams most next l few h =
      by (drive_turn w s) refl (turn_makes_none w s l.holds) (λ v k f. turns_few xs v streams most next k f h)
    where
      by : (o : Outcome) → drive_turn w s ≡ o → IfGoes o (λ reply v. streams_in v ≡ streams_in w) → ((v : World) → Lives first v → streams_in v ≤ streams → length (acted v (map Turns xs) next) ≤ length xs + most)
          → length (followed w (Turns s) o (λ v. acted v (map Turns xs) next)) ≤ suc (length xs) + most
      by (Goes reply v) e same rest = omega (arith, rest v (goes_lives first w l (Turns s) reply v refl e) (omega (arith, same, few)))
      by (Stops stop writers readers) e same rest = omega arith
      by Stuck e same rest = omega arith

  act_few : (act : Act) (w : World) (streams most : ℕ) (next : World → List HostMoment) → is_part (Acts act) ≡ true → Lives first w → streams_in w + 1 ≤ streams → AtMost streams most next
      → length (acted w (Acts act ∷ []) next) ≤ 1 + most
  act_few act w streams most next p l few h = by (part_on w (Acts act)) refl
    where
      by : (o : Outcome) → part_on w (Acts act) ≡ o → length (followed w (Acts act) o next) ≤ 1 + most
      by (Goes reply v) e =
          let grows = form_grows first w l (Acts act) reply v (goes_form first w l (Acts act) reply v p e) in
          omega (arith, h v (goes_lives first w l (Acts act) reply v p e) (omega (arith, grows, few)))
      by (Stops stop writers readers) e = omega arith
      by Stuck e = omega arith

  parts_few : (act : Act) (w : World) (streams most : ℕ) (next : World → List HostMoment) → Lives first w → streams_in w + 1 ≤ streams → AtMost streams most next
      → length (acted w (parts_of w act) next) ≤ streams + most
  parts_few Drive w streams most next l few h =
      omega (arith, few, length-numbers 0 (streams_in w), turns_few (round_of w) w streams most next l (omega (arith, few)) h)
  parts_few act w streams most next l few h = omega (arith, few, act_few act w streams most next refl l few h)

  step_few : (act : Act) (w : World) (streams most : ℕ) (next : World → List HostMoment) (b : Bool) → w.state.trapped ≡ b → Lives first w → streams_in w + 1 ≤ streams → AtMost streams most next
      → length (acted w (cond b (Acts act ∷ []) (parts_of w act)) next) ≤ streams + most
  step_few act w streams most next true t l few h =
      subst (λ o. length (followed w (Acts act) o next) ≤ streams + most) (sym (outcome-trapped w act t)) (omega arith)
  step_few act w streams most next false t l few h = parts_few act w streams most next l few h

  -- from a world with few streams, few steps have few moments
  pub moments_few : (w : World) (run : List Step) → Lives first w → streams_in w + length run ≤ 4294967295 → length (host_moments w run) ≤ 4294967295 * length run
  moments_few w [] l few = omega arith
  moments_few w (step ∷ more) l few =
      let most = 4294967295 * length more in
      let rest : AtMost (streams_in w + 1) most (λ v. host_moments v more) = λ v k f. moments_few v more k (omega (arith, f, few)) in
      let all = step_few (act_of step) w (streams_in w + 1) most (λ v. host_moments v more) w.state.trapped refl l (omega arith) rest in
      omega (arith, all, few)

  front_few : (count : ℕ) (all : List HostMoment) → length (take count all) ≤ length all
  front_few zero all = omega arith
  front_few (suc k) [] = omega arith
  front_few (suc k) (m ∷ more) = let rest = front_few k more in omega (arith, rest)

  pub first_few : (count : ℕ) (w : World) (run : List Step) → Lives first w → streams_in w + length run ≤ 4294967295 → length (first_moments count w run) ≤ 4294967295 * length run
  first_few count w run l few =
      let all = moments_few w run l few in
      let front = front_few count (host_moments w run) in
      omega (arith, all, front)
