-- A poll of a consumer is one of a host reader; and what a consumer of a future does is what one of a
-- stream owes.
use Rattle.std.proofs.Common.{◌≡◌, ℕ, ◌-◌, ◌<◌, ◌≤◌, Bool, true, false, [], ◌∷◌, ◌++◌, length, Some, None, refl, sym, ap, subst, ◌∙◌, arith}
use Rattle.std.specs.Prelude.{◌==◌, nat_lt, nat_le, not, ◌&&◌, if◌then◌else◌, IfSome}
use Rattle.std.specs.Option.{option_map}
use Rattle.std.proofs.lemmas.Bool.Decides.{nat_tests}
use Rattle.strm_codes.specs.Layout.{item_type}
use Rattle.strm_codes.specs.declared.codes.StreamResult.{StreamResult}
use Rattle.strm_buffers.specs.declared.answers.Answer.{Answer}
use Rattle.strm_buffers.specs.declared.answers.Answer.TheVariants as answer
use Rattle.strm_buffers.specs.declared.answers.Turn.{Turn}
use Rattle.strm_buffers.specs.declared.answers.Turn.TheVariants.{Pending, Ready, Failed, NoMemory}
use Rattle.strm_buffers.specs.Said.{IfAnswered, turn_of}
use Rattle.strm_buffers.specs.Offers.{Offered, items_lent, good_lent, IsOffer, IsBadNext}
use Rattle.strm_buffers.specs.Tells.{ReaderTells, PollsReader, RisesOnFailed, SameOffer, reader_record, first_lent}
use Rattle.strm_buffers.proofs.OfferLemmas.{good_most, first_good, length-first_lent}
use Rattle.strm_host.specs.Consuming.{ItemOffer, ConsumerPlan, offering_of, took_more}
use Rattle.strm_host.specs.FutureConsuming.{FutureConsumerPlan, KeepsTaking, is_used_up, stream_turn, taking_of, consumer_plan, IsSettled}

-- what is known of an offer that came back, said of the one that was lent
module _ (o p : Offered) (same : SameOffer o p) (s : IsOffer p.payload p.source p.taken p.bad) where
  pub good_same : p.taken ≤ length (good_lent (item_type o.payload) o.source)
  good_same = rw (← same.payload, ← same.source) s.good

  pub most_same : p.taken ≤ items_lent o.source
  most_same = rw (← same.source) s.most

  pub next_same : p.bad ≡ true → IsBadNext (item_type o.payload) o.source p.taken
  next_same = rw (← same.payload, ← same.source) s.next

  -- A POLL

  -- what a poll of the consumer leaves
  pub record Consumed (old new : ReaderTells) (finish : Bool) (answer : Answer) : Type 0 where
    pub said : new.said ≡ old.said ++ reader_record o p finish answer ∷ []
    pub took : new.holds ≡ took_more old.holds p.taken (offering_of o)
    pub failed : RisesOnFailed answer old.faults new.faults
    pub closed : new.closed ≡ old.closed
    pub heard : new.heard ≡ old.heard
    pub kind : new.kind ≡ old.kind
    pub payload : new.payload ≡ old.payload

  pub consumed_poll : (old new : ReaderTells) (finish : Bool) (a : Answer) → Consumed old new finish a → PollsReader old new (reader_record o p finish a) (first_lent (item_type o.payload) o.source p.taken)
  consumed_poll old new finish a d = record {
    said_more = d.said;
    holds = d.took ∙ ap (λ ys. option_map (λ xs. xs ++ ys) old.holds) (sym (first_good (item_type o.payload) o.source p.taken good_same));
    taken = sym (length-first_lent (item_type o.payload) o.source p.taken good_same);
    most = most_same;
    faults = d.failed;
    closed = d.closed;
    heard = d.heard;
    kind = d.kind;
    payload = d.payload;
  }

-- what holds of a turn holds of its answer
answered_by : (a : Answer) (P : Answer → Type 0) → IfAnswered (turn_of a) P → P a
answered_by answer.Pending P p = p
answered_by answer.Completed P p = p
answered_by answer.Cancelled P p = p
answered_by answer.Dropped P p = p
answered_by answer.Failed P p = p

pub at_answer : (turn : Turn StreamResult) (a : Answer) (P : Answer → Type 0) → turn ≡ turn_of a → IfAnswered turn P → P a
at_answer turn a P e p = answered_by a P (subst (λ t. IfAnswered t P) e p)

-- FUTURES

-- nothing is left where all that was offered is taken
pub spent_left : (o : Offered) (n : ℕ) → n ≤ length (good_lent (item_type o.payload) o.source) → ((items_lent o.source - n) == 0) ≡ is_used_up (offering_of o) n
spent_left o n h =
    let g : ℕ = length (good_lent (item_type o.payload) o.source) in
    decided (nat_lt g (items_lent o.source)) refl (nat_le g n) refl
  where
    decided : (cut : Bool) → nat_lt (length (good_lent (item_type o.payload) o.source)) (items_lent o.source) ≡ cut → (all : Bool) → nat_le (length (good_lent (item_type o.payload) o.source)) n ≡ all → ((items_lent o.source - n) == 0) ≡ (not cut && all)
    decided true p all q =
        let less : length (good_lent (item_type o.payload) o.source) < items_lent o.source = grind (arith, nat_tests) in
        grind (arith, nat_tests)
    decided false p true q =
        let most = good_most (item_type o.payload) o.source in
        let all : length (good_lent (item_type o.payload) o.source) ≤ n = grind (arith, nat_tests) in
        let least : items_lent o.source ≤ length (good_lent (item_type o.payload) o.source) = grind (arith, nat_tests) in
        grind (arith, nat_tests)
    decided false p false q =
        let most = good_most (item_type o.payload) o.source in
        let few : n < length (good_lent (item_type o.payload) o.source) = grind (arith, nat_tests) in
        grind (arith, nat_tests)

-- a poll is what was planned
abbrev KeepsPlan : ConsumerPlan → ItemOffer → Bool → ℕ → Turn StreamResult → Type 0
KeepsPlan plan offering finish taken turn =
    IfSome plan (λ next. IfAnswered turn (λ a. next offering finish ≡ record { taken = taken; answer = a }))

-- a poll that is the future's plan is the stream's
pub stream_taken : (plan : FutureConsumerPlan) (offering : ItemOffer) (finish : Bool) (taken : ℕ) (turn : Turn (Unit {0})) (spent : Bool) → spent ≡ is_used_up offering taken → KeepsTaking plan offering finish taken turn
    → KeepsPlan (consumer_plan plan) offering finish taken (stream_turn turn spent)
stream_taken None offering finish taken turn spent s k = tt
stream_taken (Some next) offering finish taken Pending spent s k = ap (taking_of offering) k
stream_taken (Some next) offering finish taken (Ready u) true s k =
    ap (taking_of offering) k ∙ ap (λ (b : Bool). record { taken = taken; answer = if b then answer.Completed else answer.Cancelled }) (sym s)
stream_taken (Some next) offering finish taken (Ready u) false s k =
    ap (taking_of offering) k ∙ ap (λ (b : Bool). record { taken = taken; answer = if b then answer.Completed else answer.Cancelled }) (sym s)
stream_taken (Some next) offering finish taken Failed spent s k = ap (taking_of offering) k
stream_taken (Some next) offering finish taken NoMemory spent s k = tt

-- a turn that is done says whether anything is left
pub settled : (turn : Turn (Unit {0})) (left n : ℕ) (none : Bool) → (left == 0) ≡ none → left ≡ n → IsSettled (stream_turn turn none) n
settled Pending left n none q e = tt
settled (Ready u) left n true q e =
    let zero : left ≡ 0 = grind (arith, nat_tests) in
    sym e ∙ zero
settled (Ready u) left n false q e =
    let some : 0 < left = grind (arith, nat_tests) in
    omega (arith, e, some)
settled Failed left n none q e = tt
settled NoMemory left n none q e = tt
