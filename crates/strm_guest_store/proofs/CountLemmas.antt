-- How many streams there are after a step: as many as before, unless one was made.
use Rattle.std.proofs.Common.{◌≡◌, ℕ, ◌+◌, ◌<◌, ◌≤◌, Bool, true, false, cond, List, [], ◌∷◌, length, Option, Some, None, refl, sym, ap, ◌∙◌, ⊎_elim, arith, length-append, length-set}
use Rattle.std.specs.Prelude.{◌*◌, ◌^◌, All, count_by, nat_lt, nat_le}
use Rattle.std.proofs.lemmas.Bool.Decides.{nat_tests}
use Rattle.std.proofs.lemmas.Bool.{cond_both, cases_lt}
use Rattle.std.proofs.lemmas.List.Elements.{All-head, All-tail}
use Rattle.std.proofs.lemmas.List.Sums.{sum_by-cons}
use Rattle.strm_codes.specs.declared.codes.ReturnCode.{ReturnCode}
use Rattle.strm_codes.specs.declared.codes.TransmitIndex.{TransmitIndex}
use Rattle.strm_codes.specs.declared.refusals.Refusal.{Refusal}
use Rattle.strm_error_contexts.specs.Contexts.{len as contexts_there}
use Rattle.strm_machine.specs.State.{State, is_live, sets_in_use, stream_limit}
use Rattle.strm_machine.specs.Soundness.{IsSound}
use Rattle.strm_machine.specs.Operating.{Operated}
use Rattle.strm_machine.specs.Tests.{named, stream_named, are_streams_full}
use Rattle.strm_machine.specs.Refusals.{refusal, first_of, lower_context_reasons}
use Rattle.strm_machine.specs.Reactions.{Reaction, goes, written_back, shares_unless, reaction, lowers_context}
use Rattle.strm_machine.specs.declared.acts.Act.{Act}
use Rattle.strm_machine.specs.declared.acts.Act.TheVariants.{Make}
use Rattle.strm_machine.specs.declared.acts.Making.TheVariants.{Between}
use Rattle.strm_machine.specs.declared.limits.Limits.{Limits}
use Rattle.strm_machine.specs.declared.replies.Reply.TheVariants as replies
use Rattle.strm_machine.specs.declared.streams.Stream.{Stream}
use Rattle.strm_machine.proofs.Shapes.{turn_on, Shape, ByTurn, BySetting, ByOwner, ByTable, ByPair, ByGuest, ByPut, ByRest}
use Rattle.strm_machine.proofs.ShapeLemmas.{reaction-shape}
use Rattle.strm_places.specs.Again.{put, with_pair_at, performs_at, reaction_at}
use Rattle.strm_places.proofs.AgainLemmas.{reaction_at-by}
use Rattle.strm_transmit.specs.Again.{GrowsFull}
use Rattle.strm_transmit.proofs.AgainLemmas.{pair_places}
use Rattle.strm_transmit.proofs.PlaceLemmas.{live_by, live_weight}

-- ## As many as before

-- a step that makes no stream
abbrev pub makes_none : Act → Bool
makes_none (Make (Between writer reader ty)) = false
makes_none act = true

-- as many streams, under the same limits
pub record AsMany (old new : State) : Type 0 where
  pub many : length new.streams ≡ length old.streams
  pub limits : new.limits ≡ old.limits

pub few_kept : (old new : State) → AsMany old new → 3 * length old.streams ≤ old.limits.places → 3 * length new.streams ≤ new.limits.places
few_kept old new m few = omega (arith, m.many, ap (λ (l : Limits). l.places) m.limits, few)

written-many : (state : State) (s : ℕ) (t : Operated) (code : Option ReturnCode) → AsMany state (written_back state s t code).state
written-many state s t None = record { many = length-set state.streams s t.stream; limits = refl }
written-many state s t (Some code) = record { many = length-set state.streams s t.stream; limits = refl }

shape-many : (state : State) (act : Act) (r : Reaction) → makes_none act ≡ true → Shape state act r → AsMany state r.state
shape-many state act r n (ByTurn side end address count a e o) =
    let t = turn_on state side end address count in
    rw e (written-many state (stream_named (named state end)) t t.code)
shape-many state act r n (BySetting reply x e h) = rw e (record { many = length-set state.streams x.stream _; limits = refl })
shape-many state act r n (ByOwner reply x e o) = rw e (record { many = length-set state.streams x.stream _; limits = refl })
shape-many state act r n (ByTable reply x e t) = rw e (record { many = refl; limits = refl })
shape-many state act r n (ByPair writer reader ty a e fits) = let wrong : false ≡ true = sym (ap makes_none a) ∙ n in cc
shape-many state act r n (ByGuest size a e fits) = rw e (record { many = refl; limits = refl })
shape-many state act r n (ByPut reply g address bytes e p) = rw e (record { many = refl; limits = refl })
shape-many state act r n (ByRest reply e none) = rw e (record { many = refl; limits = refl })

pub reaction-many : (state : State) (act : Act) → makes_none act ≡ true → IsSound state → AsMany state (reaction state act).state
reaction-many state act n sound = shape-many state act (reaction state act) n (reaction-shape state act sound)

shared-many : (state : State) (number g : ℕ) (o : Option Refusal) → AsMany state (shares_unless state number g o).state
shared-many state number g (Some r) = record { many = refl; limits = refl }
shared-many state number g None = record { many = refl; limits = refl }

pub lowering-many : (state : State) (number g : ℕ) → AsMany state (lowers_context state number g).state
unfolding lowers_context
lowering-many state number g = by_trap state.trapped
  where
    by_trap : (b : Bool) → AsMany state (cond b (goes replies.StoreTrapped state) (shares_unless state number g (first_of (lower_context_reasons state number g)))).state
    by_trap true = record { many = refl; limits = refl }
    by_trap false = shared-many state number g (first_of (lower_context_reasons state number g))

-- ## One more, where none is gone

-- as many streams or one more, which nothing refuses, under the same limits
pub record Grown (old : State) (act : Act) (new : State) : Type 0 where
  pub limits : new.limits ≡ old.limits
  pub most : length new.streams ≤ length old.streams + 1
  pub may : length old.streams < length new.streams → refusal old act ≡ None

pub grown-not : (state : State) (act : Act) → Grown state act state
grown-not state act = record { limits = refl; most = omega arith; may = λ more. absurd (omega (arith, more)) }

put-most : (streams : List Stream) (n : ℕ) (x : Stream) → length (put streams n x) ≤ length streams + 1
unfolding put
put-most streams n x =
    cond_both (nat_lt n (length streams)) _ _ (λ (xs : List Stream). length xs ≤ length streams + 1)
    (λ e. omega (arith, length-set streams n x)) (λ e. omega (arith, length-append streams (x ∷ [])))

performed-grown : (n : ℕ) (state : State) (writer reader : ℕ) (ty : TransmitIndex) → refusal state (Make (Between writer reader ty)) ≡ None
    → Grown state (Make (Between writer reader ty)) (performs_at n state (Make (Between writer reader ty))).state
unfolding performs_at with_pair_at
performed-grown n state writer reader ty e = record { limits = refl; most = put-most state.streams n _; may = λ more. e }

pub making-grown : (n : ℕ) (state : State) (writer reader : ℕ) (ty : TransmitIndex) → Grown state (Make (Between writer reader ty)) (reaction_at n state (Make (Between writer reader ty))).state
making-grown n state writer reader ty =
    let act = Make (Between writer reader ty) in
    reaction_at-by (λ (r : Reaction). Grown state act r.state) n state act
    (record {
      trapped = λ t. grown-not state act;
      refused = λ r t e. grown-not state act;
      performed = λ t e. performed-grown n state writer reader ty e;
    })

-- where each has an end left, as many have one as there are
all_counted : (streams : List Stream) → All (λ stream. is_live stream ≡ true) streams → count_by is_live streams ≡ length streams
all_counted [] a = refl
all_counted (stream ∷ streams) a =
    let one : live_weight stream ≡ 1 = ap live_by (All-head (λ x. is_live x ≡ true) stream streams a) in
    let rest = all_counted streams (All-tail (λ x. is_live x ≡ true) stream streams a) in
    sum_by-cons live_weight stream streams ∙ omega (arith, one, rest)

-- so the limit on places is one on streams
pub few_grown : (old new : State) (writer reader : ℕ) (ty : TransmitIndex) → Grown old (Make (Between writer reader ty)) new → GrowsFull old.streams new.streams
    → 3 * length old.streams ≤ old.limits.places → 3 * length new.streams ≤ new.limits.places
few_grown old new writer reader ty g grows few =
    let limit = ap (λ (l : Limits). l.places) g.limits in
    ⊎_elim
    (λ more.
    let all = all_counted old.streams (grows more) in
    let room : 3 * count_by is_live old.streams + sets_in_use old + contexts_there old.contexts + 3 ≤ old.limits.places = pair_places old writer reader ty (g.may more) in
    omega (arith, all, room, g.most, limit))
    (λ less. omega (arith, less, few, limit))
    (cases_lt (length old.streams) (length new.streams))

-- and there is always a number left
pub never_full : (state : State) → 3 * length state.streams ≤ state.limits.places → state.limits.places < 2 ^ 32 → are_streams_full state ≡ false
never_full state few small = by (length state.streams) (omega (arith, few, small))
  where
    by : (n : ℕ) → n < stream_limit → nat_le stream_limit n ≡ false
    by n l = grind (arith, nat_tests)
