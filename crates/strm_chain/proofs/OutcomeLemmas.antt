-- What a turn says of itself: its steps, what it answers, and what it leaves of its guest.
use Rattle.std.proofs.Common.{◌≡◌, ℕ, ◌≤◌, List, [], ◌∷◌, ◌++◌, length, true, Some, None, refl, sym, ap, ◌∙◌, inl, inr, append_assoc, arith}
use Rattle.std.specs.Prelude.{count_by}
use Rattle.std.proofs.lemmas.List.{append-nil}
use Rattle.std.proofs.lemmas.List.Elements.{All-nil, All-cons}
use Rattle.strm_codes.specs.Codes.{count_of_code}
use Rattle.strm_codes.specs.declared.codes.ReturnCode.{ReturnCode}
use Rattle.strm_codes.specs.declared.codes.ReturnCode.TheVariants as codes
use Rattle.strm_machine.specs.Plays.{Ends as EndsSo, is_settled}
use Rattle.strm_machine.specs.declared.steps.Step.{Step}
use Rattle.strm_machine.specs.declared.steps.Step.TheVariants as steps
use Rattle.strm_machine.specs.declared.replies.Reply.{Reply}
use Rattle.strm_machine.specs.declared.replies.Reply.TheVariants as replies
use Rattle.strm_chain.specs.declared.workers.Worker.{Worker}
use Rattle.strm_chain.specs.declared.workers.Doing.TheVariants.{Nothing, Ended}
use Rattle.strm_chain.specs.declared.workers.ChainTurn.{ChainTurn}
use Rattle.strm_chain.specs.declared.workers.ChainTurn.TheVariants.{Moved}
use Rattle.strm_chain.specs.Playing.{ChainPlay, Adds, bytes_type}
use Rattle.strm_chain.specs.Turning.{IsChunkCount, IsStepOf, is_event, is_call, HasCall, Answers, NoStep, NoReport, Report, Call, Turns}
use Rattle.strm_chain.specs.Turned.{WritesPiece, Turned, Rests, Waits, ReadOpens, ReadServes, ReadSettles, WriteOpens, WriteServes, WriteSettles, Ends}
use Rattle.strm_chain.proofs.StageLemmas.{work_left-stage}
use Rattle.strm_chain.proofs.PlayingLemmas.{play-goes}
use Rattle.strm_chain.proofs.StandingLemmas.{Stands}
use Rattle.strm_chain.proofs.TurnedLemmas.{apart_doing, no_handle}

-- ## Its steps

-- the turn's one step, or its two
module _ (sink g chunk : ℕ) (turn : ChainTurn) where
  turns_one : (p q : ChainPlay) (step : Step) (reply : Reply) → Adds p q step reply → is_settled reply ≡ true → IsStepOf g chunk step → count_by is_event (step ∷ []) ≤ 1 → Answers sink g p (step ∷ []) (reply ∷ []) turn → Turns sink chunk g turn p q
  turns_one p q step reply a settled own few answers = record {
    made = step ∷ [];
    told = reply ∷ [];
    steps_are = a.steps_are;
    replies_are = a.replies_are;
    plays = play-goes [] p.state q.state step [] reply settled a.reacts;
    own = All-cons (IsStepOf g chunk) step [] own (All-nil (IsStepOf g chunk));
    few = few;
    answers = answers;
  }

  module _ (p q r : ChainPlay) (step other : Step) (reply answer : Reply) where
    turns_two : Adds p q step reply → Adds q r other answer → is_settled reply ≡ true → is_settled answer ≡ true → IsStepOf g chunk step → IsStepOf g chunk other → count_by is_event (step ∷ other ∷ []) ≤ 1 → Answers sink g p (step ∷ other ∷ []) (reply ∷ answer ∷ []) turn → Turns sink chunk g turn p r
    turns_two a b settled too own other_own few answers = record {
      made = step ∷ other ∷ [];
      told = reply ∷ answer ∷ [];
      steps_are = b.steps_are ∙ ap (λ xs. xs ++ other ∷ []) a.steps_are ∙ append_assoc p.steps (step ∷ []) (other ∷ []);
      replies_are = b.replies_are ∙ ap (λ xs. xs ++ answer ∷ []) a.replies_are ∙ append_assoc p.replies (reply ∷ []) (answer ∷ []);
      plays = play-goes [] p.state q.state step (other ∷ []) reply settled a.reacts ∙ play-goes (reply ∷ []) q.state r.state other [] answer too b.reacts;
      own = All-cons (IsStepOf g chunk) step (other ∷ []) own (All-cons (IsStepOf g chunk) other [] other_own (All-nil (IsStepOf g chunk)));
      few = few;
      answers = answers;
    }

-- the first of these steps is a call, or the second
call_first : (step : Step) (reply : Reply) (later : List Step) (rest : List Reply) → is_call step reply ≡ true → HasCall (step ∷ later) (reply ∷ rest)
call_first step reply later rest is = record {
  before = [];
  told_before = [];
  step = step;
  reply = reply;
  later = later;
  told_later = rest;
  steps_are = refl;
  replies_are = refl;
  is = is;
}

call_second : (first step : Step) (told reply : Reply) → is_call step reply ≡ true → HasCall (first ∷ step ∷ []) (told ∷ reply ∷ [])
call_second first step told reply is = record {
  before = first ∷ [];
  told_before = told ∷ [];
  step = step;
  reply = reply;
  later = [];
  told_later = [];
  steps_are = refl;
  replies_are = refl;
  is = is;
}

module _ (sink g chunk : ℕ) (w w' : Worker) (p q : ChainPlay) (turn : ChainTurn) (some : 1 ≤ chunk) (at : Stands sink g w p) where
  -- what a guest that has no operation does is a call
  calls : (made : List Step) (told : List Reply) → turn ≡ Moved → w.doing ≡ Nothing → HasCall made told → Answers sink g p made told turn
  calls made told t rests x = Call t (at.going (apart_doing w Nothing Ended rests (λ e. cc))) (at.free rests) x

  asked : IsChunkCount chunk chunk
  asked = record { some = some; most = omega arith }

  writes : (code : ReturnCode) → turn ≡ Moved → WritesPiece g chunk w p q code → Turns sink chunk g turn p q
  writes code t x =
      let poke = steps.Poke g 64 x.bytes in
      let step = steps.Write g bytes_type x.handle 64 (length x.bytes) in
      turns_two sink g chunk turn p x.mid q poke step replies.Done (replies.Code code) x.pokes.adds x.adds refl refl refl (refl, x.pokes.some) (omega arith)
      (calls (poke ∷ step ∷ []) (replies.Done ∷ replies.Code code ∷ []) t x.pokes.rests (call_second poke step replies.Done (replies.Code code) refl))

  pub turned_turns : Turned g chunk w p turn w' q → Turns sink chunk g turn p q
  turned_turns (Rests t e is same) = record {
    made = [];
    told = [];
    steps_are = ap (λ (x : ChainPlay). x.steps) same ∙ sym (append-nil p.steps);
    replies_are = ap (λ (x : ChainPlay). x.replies) same ∙ sym (append-nil p.replies);
    plays = ap (λ (x : ChainPlay). EndsSo [] x.state) (sym same);
    own = All-nil (IsStepOf g chunk);
    few = omega arith;
    answers = NoStep t (at.ended e) refl;
  }
  turned_turns (Waits t is x) =
      turns_one sink g chunk turn p q (steps.Event g x.handle) (replies.Event None) x.hears refl refl (omega arith)
      (NoReport x.handle t (at.busy x.handle x.has) refl refl)
  turned_turns (ReadOpens t x is) =
      let step = steps.Read g bytes_type x.handle 0 chunk in
      let reply = replies.Code codes.Blocked in
      turns_one sink g chunk turn p q step reply x.adds refl (refl, asked) (omega arith)
      (calls (step ∷ []) (reply ∷ []) t x.rests (call_first step reply [] [] refl))
  turned_turns (ReadServes mid code t x y) =
      let step = steps.Read g bytes_type x.handle 0 chunk in
      let dump = steps.Dump g 0 (count_of_code code) in
      turns_two sink g chunk turn p mid q step dump (replies.Code code) (replies.Bytes y.bytes) x.adds y.dumps refl refl (refl, asked) refl (omega arith)
      (calls (step ∷ dump ∷ []) (replies.Code code ∷ replies.Bytes y.bytes ∷ []) t x.rests (call_first step (replies.Code code) (dump ∷ []) (replies.Bytes y.bytes ∷ []) refl))
  turned_turns (ReadSettles mid code t x y) =
      let step = steps.Event g x.handle in
      let dump = steps.Dump g 0 (count_of_code code) in
      turns_two sink g chunk turn p mid q step dump (replies.Event (Some code)) (replies.Bytes y.bytes) x.adds y.dumps refl refl refl refl (omega arith)
      (Report x.handle code (dump ∷ []) (replies.Bytes y.bytes ∷ []) t (at.busy x.handle (inl (x.waits, x.has))) refl refl)
  turned_turns (WriteOpens t x is) = writes codes.Blocked t x
  turned_turns (WriteServes code t x h) = writes code t x
  turned_turns (WriteSettles code t x h) =
      turns_one sink g chunk turn p q (steps.Event g x.handle) (replies.Event (Some code)) x.adds refl refl (omega arith)
      (Report x.handle code [] [] t (at.busy x.handle (inr (x.waits, x.has))) refl refl)
  turned_turns (Ends t x) =
      let step = steps.DropWrite g bytes_type x.handle in
      turns_one sink g chunk turn p q step replies.Done x.adds refl refl (omega arith)
      (calls (step ∷ []) (replies.Done ∷ []) t x.rests (call_first step replies.Done [] [] refl))

-- ## Its guest

pub turned_stage : (g chunk : ℕ) (w w' : Worker) (p q : ChainPlay) (turn : ChainTurn) → Turned g chunk w p turn w' q → w'.work.stage ≡ w.work.stage
turned_stage g chunk w w' p q turn (Rests t e is same) = ap (λ (v : Worker). v.work.stage) is
turned_stage g chunk w w' p q turn (Waits t is x) = ap (λ (v : Worker). v.work.stage) is
turned_stage g chunk w w' p q turn (ReadOpens t x is) = ap (λ (v : Worker). v.work.stage) is
turned_stage g chunk w w' p q turn (ReadServes mid code t x y) = ap (λ (v : Worker). v.work.stage) y.is ∙ work_left-stage w.work y.bytes
turned_stage g chunk w w' p q turn (ReadSettles mid code t x y) = ap (λ (v : Worker). v.work.stage) y.is ∙ work_left-stage w.work y.bytes
turned_stage g chunk w w' p q turn (WriteOpens t x is) = ap (λ (v : Worker). v.work.stage) is
turned_stage g chunk w w' p q turn (WriteServes code t x h) = ap (λ (v : Worker). v.work.stage) h.is
turned_stage g chunk w w' p q turn (WriteSettles code t x h) = ap (λ (v : Worker). v.work.stage) h.is
turned_stage g chunk w w' p q turn (Ends t x) = ap (λ (v : Worker). v.work.stage) x.is

-- one that reads nothing puts out nothing more
pub turned_source : (g chunk : ℕ) (w w' : Worker) (p q : ChainPlay) (turn : ChainTurn) → w.read ≡ None → Turned g chunk w p turn w' q → w'.made ≡ w.made
turned_source g chunk w w' p q turn none (Rests t e is same) = ap (λ (v : Worker). v.made) is
turned_source g chunk w w' p q turn none (Waits t is x) = ap (λ (v : Worker). v.made) is
turned_source g chunk w w' p q turn none (ReadOpens t x is) = ap (λ (v : Worker). v.made) is
turned_source g chunk w w' p q turn none (ReadServes mid code t x y) = absurd (no_handle w.read x.handle none x.has)
turned_source g chunk w w' p q turn none (ReadSettles mid code t x y) = absurd (no_handle w.read x.handle none x.has)
turned_source g chunk w w' p q turn none (WriteOpens t x is) = ap (λ (v : Worker). v.made) is
turned_source g chunk w w' p q turn none (WriteServes code t x h) = ap (λ (v : Worker). v.made) h.is
turned_source g chunk w w' p q turn none (WriteSettles code t x h) = ap (λ (v : Worker). v.made) h.is
turned_source g chunk w w' p q turn none (Ends t x) = ap (λ (v : Worker). v.made) x.is
