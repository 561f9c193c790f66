-- Streams are isolated in every run.
use Rattle.std.proofs.Common.{◌≡◌, ℕ, zero, suc, ◌+◌, ◌<◌, ◌≤◌, Bool, true, false, cond, List, [], ◌∷◌, map, take, refl, sym, subst, arith}
use Rattle.std.specs.Prelude.{All}
use Rattle.std.proofs.lemmas.List.Elements.{All-nil, All-cons}
use Rattle.strm_buffers.specs.Tells.{Tells}
use Rattle.strm_machine.specs.Acts.{act_of}
use Rattle.strm_machine.specs.declared.acts.Act.{Act}
use Rattle.strm_machine.specs.declared.acts.Act.TheVariants.{Drive}
use Rattle.strm_machine.specs.declared.limits.Limits.{Limits}
use Rattle.strm_machine.specs.declared.steps.Step.{Step}
use Rattle.strm_machine.specs.declared.replies.Reply.{Reply}
use Rattle.strm_host_machine.specs.Does.{start_world}
use Rattle.strm_host_machine.specs.Driving.{numbers_from}
use Rattle.strm_host_machine.specs.Outcomes.{Outcome, Goes, Stops, Stuck}
use Rattle.strm_host_machine.specs.World.{World}
use Rattle.strm_host_machine.proofs.OutcomeLemmas.{outcome-trapped}
use Rattle.strm_host_laws.specs.HostMoments.{Part, Acts, Turns, HostMoment, parts_of, part_on, followed, acted, host_moments, first_moments, end_world}
use Rattle.strm_host_laws.specs.Isolation.{LeavesOthers, AreIsolated}
use Rattle.strm_host_laws.proofs.Chains.{is_part, Follows}
use Rattle.strm_host_laws.proofs.Closed.{Stands, Kept, SameClosed, part-closes, Stands-start}
use Rattle.strm_host_laws.proofs.CourseRuns.{streams_in, BySelf, AllBySelf, unmade-runs}
use Rattle.strm_host_laws.proofs.PartEffects.{follows_effect}
use Rattle.strm_host_laws.proofs.GoingRules.{Comes, IfGoes}
use Rattle.strm_host_laws.proofs.Happenings.{moment_at, Happening, ToNone, ToOne, Makes, happening-by_self, happening-leaves}
use Rattle.strm_host_laws.proofs.HostCounts.{effect_kind}
use Rattle.strm_host_laws.proofs.TurnsStand.{Holds}
use Rattle.strm_host_laws.proofs.Standing.{Holds-next, Holds-empty}
use Rattle.strm_host_laws.proofs.StreamsApart.{IsMadePart, part-happens}

-- what a moment does is done to one stream, as it is by itself
record IsApart (m : HostMoment) : Type 0 where
  leaves : LeavesOthers m
  by_self : (s : ℕ) → BySelf s m

-- moments that follow each other from a world are such
abbrev AreApart : World → List HostMoment → Type 0
AreApart world [] = Unit {0}
AreApart world (m ∷ more) = (m.before ≡ world) × IsApart m × AreApart m.after more

all-by_self : (s : ℕ) (world : World) (all : List HostMoment) → AreApart world all → AllBySelf s world all
all-by_self s world [] h = tt
all-by_self s world (m ∷ more) h = (h.0, h.1.by_self s, all-by_self s m.after more h.2)

front-apart : (count : ℕ) (world : World) (all : List HostMoment) → AreApart world all → AreApart world (take count all)
front-apart zero world all a = tt
front-apart (suc k) world [] a = tt
front-apart (suc k) world (m ∷ more) a = (a.0, a.1, front-apart k m.after more a.2)

all-leave : (world : World) (all : List HostMoment) → AreApart world all → All LeavesOthers all
all-leave world [] h = All-nil LeavesOthers
all-leave world (m ∷ more) h = All-cons LeavesOthers m more h.1.leaves (all-leave m.after more h.2)

-- a turn of a part is of one of the first n streams
abbrev IsOfFirst : ℕ → Part → Type 0
IsOfFirst n (Acts act) = Unit {0}
IsOfFirst n (Turns s) = s < n

abbrev AreParts : ℕ → List Part → Type 0
AreParts n [] = Unit {0}
AreParts n (part ∷ more) = (is_part part ≡ true) × IsOfFirst n part × AreParts n more

turns_parts : (s k n : ℕ) → s + k ≤ n → AreParts n (map Turns (numbers_from s k))
turns_parts s zero n l = tt
turns_parts s (suc k) n l = (refl, omega (arith, l), turns_parts (s + 1) k n (omega (arith, l)))

act_parts : (world : World) (act : Act) → AreParts (streams_in world) (parts_of world act)
act_parts world Drive = turns_parts 0 (streams_in world) (streams_in world) (omega arith)
act_parts world _ = (refl, tt, tt)

-- streams stay made
grows : (m : HostMoment) → Happening m → streams_in m.before ≤ streams_in m.after
grows m (ToNone h same) = omega (arith, same)
grows m (ToOne s made h others same) = omega (arith, same)
grows m (Makes h others same) = omega (arith, same)

module _ (first : World) where
  -- what is known of the world before a moment
  record IsReached (w : World) : Type 0 where
    holds : Holds w.state
    stands : Stands first w

  abbrev Next : Type 0
  Next = World → List HostMoment

  module _ (w : World) (h : IsReached w) (part : Part) (reply : Reply) (v : World) (p : is_part part ≡ true) (l : IsOfFirst (streams_in w) part) (goes : part_on w part ≡ Goes reply v) where
    abbrev m : HostMoment
    m = moment_at w part reply v

    follows : Follows w m
    follows = record { begins = refl; part = p; goes = goes }

    made : (part : Part) → IsOfFirst (streams_in w) part → IsMadePart first w h.holds h.stands part
    made (Acts act) l = tt
    made (Turns s) l = l

    happens : Happening m
    happens = subst (λ o. IfGoes o (λ reply v. Happening (moment_at w part reply v))) goes (part-happens first w h.holds h.stands part p (made part l))

    apart : IsApart m
    apart = record {
      leaves = happening-leaves m happens;
      by_self = happening-by_self m (λ k l. effect_kind w.state v.state part reply k h.holds l (follows_effect w m h.holds.hosts follows)) happens;
    }

    reached : IsReached v
    reached = record {
      holds = Holds-next w m follows h.holds;
      stands = (let kept : Kept first w v = subst (Comes (Kept first) SameClosed w) goes (part-closes first w part p) in kept h.stands);
    }

  -- what follows is such, from whichever world that has the first n streams
  abbrev Follow : ℕ → Next → Type 0
  Follow n next = (v : World) → IsReached v → n ≤ streams_in v → AreApart v (next v)

  of-more : (n k : ℕ) (part : Part) → n ≤ k → IsOfFirst n part → IsOfFirst k part
  of-more n k (Acts act) l h = tt
  of-more n k (Turns s) l h = omega (arith, l, h)

  followed-apart : (w : World) (n : ℕ) (part : Part) (o : Outcome) (next : Next) → part_on w part ≡ o → IsReached w → is_part part ≡ true → IsOfFirst n part → n ≤ streams_in w → Follow n next → AreApart w (followed w part o next)
  followed-apart w n part (Goes reply v) next e h p l few f =
      let of = of-more n (streams_in w) part few l in
      let more = grows (m w h part reply v p of e) (happens w h part reply v p of e) in
      (refl, apart w h part reply v p of e, f v (reached w h part reply v p of e) (omega (arith, few, more)))
  followed-apart w n part (Stops stop writers readers) next e h p l few f = tt
  followed-apart w n part Stuck next e h p l few f = tt

  acted-apart : (w : World) (n : ℕ) (parts : List Part) (next : Next) → IsReached w → n ≤ streams_in w → AreParts n parts → Follow n next → AreApart w (acted w parts next)
  acted-apart w n [] next h few a f = f w h few
  acted-apart w n (part ∷ more) next h few a f =
      followed-apart w n part (part_on w part) (λ v. acted v more next) refl h a.0 a.1 few (λ v k few. acted-apart v n more next k few a.2 f)

  act-apart : (w : World) (act : Act) (next : Next) (b : Bool) → w.state.trapped ≡ b → IsReached w → Follow (streams_in w) next → AreApart w (acted w (cond b (Acts act ∷ []) (parts_of w act)) next)
  act-apart w act next true t h f = subst (λ o. AreApart w (followed w (Acts act) o next)) (sym (outcome-trapped w act t)) tt
  act-apart w act next false t h f = acted-apart w (streams_in w) (parts_of w act) next h (omega arith) (act_parts w act) f

  moments-apart : (w : World) (run : List Step) → IsReached w → AreApart w (host_moments w run)
  moments-apart w [] h = tt
  moments-apart w (step ∷ more) h =
      act-apart w (act_of step) (λ after. host_moments after more) w.state.trapped refl h (λ v k few. moments-apart v more k)

-- of a run from an unused store among whichever host ends
pub run-isolated : (tag : ℕ) (limits : Limits) (old new : Tells) (run : List Step) (count : ℕ) → AreIsolated (first_moments count (start_world tag limits old new) run) (end_world (start_world tag limits old new) (first_moments count (start_world tag limits old new) run))
run-isolated tag limits old new run count =
    let first = start_world tag limits old new in
    let all = first_moments count first run in
    let apart = front-apart count first (host_moments first run) (moments-apart first first run (record { holds = Holds-empty tag limits; stands = Stands-start tag limits old new })) in
    record {
      answers = λ s. unmade-runs s first all (omega arith) (all-by_self s first all apart);
      others = all-leave first all apart;
    }
