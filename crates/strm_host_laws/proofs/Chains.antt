-- The moments of a run follow each other, and the world after the last of them is where its play ends.
use Rattle.std.proofs.Common.{◌≡◌, ℕ, zero, suc, take, Bool, true, false, cond, List, [], ◌∷◌, ◌++◌, map, refl, sym, ap, subst, ◌∙◌, inl, inr, ◌⊎◌}
use Rattle.strm_machine.specs.Acts.{act_of}
use Rattle.strm_machine.specs.declared.acts.Act.{Act}
use Rattle.strm_machine.specs.declared.acts.Act.TheVariants.{Drive}
use Rattle.strm_machine.specs.declared.replies.Reply.{Reply}
use Rattle.strm_machine.specs.declared.replies.Reply.TheVariants as replies
use Rattle.strm_machine.specs.declared.steps.Step.{Step}
use Rattle.strm_machine.specs.declared.stops.Stop.{Stop}
use Rattle.strm_machine.specs.declared.stops.Stop.TheVariants.{StoreTrapped}
use Rattle.strm_host_machine.specs.Ends.{Writer, Reader}
use Rattle.strm_host_machine.specs.World.{World}
use Rattle.strm_host_machine.specs.Outcomes.{Outcome, Goes, Stops, Stuck, stops, done, then_on}
use Rattle.strm_host_machine.specs.Driving.{drive_turn, driven, round_of}
use Rattle.strm_host_machine.specs.Steps.{performs_in, outcome}
use Rattle.strm_host_machine.specs.HostPlays.{Ends, Halts, after_host_step, host_play}
use Rattle.strm_host_machine.proofs.OutcomeLemmas.{outcome-trapped, outcome-performs, refusal_in-drive}
use Rattle.strm_host_machine.proofs.DriveLemmas.{then_on-twice, then_on_same}
use Rattle.strm_host_laws.specs.HostMoments.{Part, Acts, Turns, HostMoment, parts_of, parts_in, part_on, followed, acted, host_moments, first_moments, end_world}

-- THE MOMENTS FOLLOW EACH OTHER

-- a part that a run has: a drive round goes by its turns
abbrev pub is_part : Part → Bool
is_part (Acts Drive) = false
is_part _ = true

-- a moment follows this world
pub record Follows (world : World) (m : HostMoment) : Type 0 where
  pub begins : m.before ≡ world
  pub part : is_part m.part ≡ true
  pub goes : part_on m.before m.part ≡ Goes m.reply m.after

abbrev pub Chain : World → List HostMoment → Type 0
Chain world [] = Unit {0}
Chain world (m ∷ more) = Follows world m × Chain m.after more

abbrev Next : Type 0
Next = World → List HostMoment

-- what follows a moment is a chain from whichever world
abbrev Chains : Next → Type 0
Chains next = (v : World) → Chain v (next v)

followed-chain : (world : World) (part : Part) (o : Outcome) (next : Next) → part_on world part ≡ o → is_part part ≡ true → Chains next → Chain world (followed world part o next)
followed-chain world part (Goes reply after) next e p h = (record { begins = refl; part = p; goes = e }, h after)
followed-chain world part (Stops stop writers readers) next e p h = tt
followed-chain world part Stuck next e p h = tt

abbrev AreParts : List Part → Type 0
AreParts [] = Unit {0}
AreParts (part ∷ more) = (is_part part ≡ true) × AreParts more

acted-chain : (world : World) (parts : List Part) (next : Next) → AreParts parts → Chains next → Chain world (acted world parts next)
acted-chain world [] next a h = h world
acted-chain world (part ∷ more) next a h =
    followed-chain world part (part_on world part) (λ v. acted v more next) refl a.0 (λ v. acted-chain v more next a.1 h)

turns_parts : (xs : List ℕ) → AreParts (map Turns xs)
turns_parts [] = tt
turns_parts (x ∷ xs) = (refl, turns_parts xs)

act_parts : (world : World) (act : Act) → AreParts (parts_of world act)
act_parts world Drive = turns_parts (round_of world)
act_parts world _ = (refl, tt)

act-chain : (world : World) (act : Act) (next : Next) (b : Bool) → world.state.trapped ≡ b → Chains next → Chain world (acted world (cond b (Acts act ∷ []) (parts_of world act)) next)
act-chain world act next true t h = subst (λ o. Chain world (followed world (Acts act) o next)) (sym (outcome-trapped world act t)) tt
act-chain world act next false t h = acted-chain world (parts_of world act) next (act_parts world act) h

pub moments-chain : (world : World) (run : List Step) → Chain world (host_moments world run)
moments-chain world [] = tt
moments-chain world (step ∷ more) =
    act-chain world (act_of step) (λ after. host_moments after more) world.state.trapped refl (λ v. moments-chain v more)

-- and so do the first of them
front-chain : (count : ℕ) (world : World) (all : List HostMoment) → Chain world all → Chain world (take count all)
front-chain zero world all c = tt
front-chain (suc k) world [] c = tt
front-chain (suc k) world (m ∷ more) c = (c.0, front-chain k m.after more c.1)

pub first-chain : (count : ℕ) (world : World) (run : List Step) → Chain world (first_moments count world run)
first-chain count world run = front-chain count world (host_moments world run) (moments-chain world run)

-- THE PARTS OF A STEP DO WHAT IT DOES

-- what comes of these parts in order
abbrev parts_on : World → List Part → Outcome
parts_on world [] = done world
parts_on world (part ∷ more) = then_on (part_on world part) (λ v. parts_on v more)

driven-parts : (world : World) (xs : List ℕ) → parts_on world (map Turns xs) ≡ then_on (driven world xs) done
driven-parts world [] = refl
driven-parts world (s ∷ xs) =
    then_on_same (drive_turn world s) (λ v. parts_on v (map Turns xs)) (λ v. then_on (driven v xs) done) (λ v. driven-parts v xs)
    ∙ sym (then_on-twice (drive_turn world s) (λ v. driven v xs) done)

untrapped_parts : (world : World) (act : Act) → world.state.trapped ≡ false → parts_on world (parts_of world act) ≡ then_on (outcome world act) done
unfolding performs_in
untrapped_parts world Drive t =
    driven-parts world (round_of world)
    ∙ ap (λ o. then_on o done) (sym (outcome-performs world Drive t (refusal_in-drive world)))
untrapped_parts world _ t = refl

by_trapped : (world : World) (act : Act) (b : Bool) → world.state.trapped ≡ b → parts_on world (cond b (Acts act ∷ []) (parts_of world act)) ≡ then_on (outcome world act) done
by_trapped world act true t = refl
by_trapped world act false t = untrapped_parts world act t

outcome-parts : (world : World) (act : Act) → parts_on world (parts_in world act) ≡ then_on (outcome world act) done
outcome-parts world act = by_trapped world act world.state.trapped refl

-- WHERE A PLAY ENDS

-- a part stops in this world; where the store was trapped, the host ends are as they were
pub record StopsAt (world : World) (stop : Stop) (writers : List Writer) (readers : List Reader) : Type 0 where
  pub part : Part
  pub stopped : part_on world part ≡ Stops stop writers readers
  pub form : (is_part part ≡ true) ⊎ ((writers ≡ world.writers) × (readers ≡ world.readers))

abbrev last_acted : World → List Part → Next → World
last_acted world parts next = end_world world (acted world parts next)

-- after a part
abbrev after_part : World → Part → Outcome → List Part → Next → World
after_part world part o more next = end_world world (followed world part o (λ v. acted v more next))

acted-goes : (world : World) (parts : List Part) (next : Next) (reply : Reply) (end : World) → parts_on world parts ≡ Goes reply end
    → last_acted world parts next ≡ end_world end (next end)
acted-goes world [] next reply end e =
    let same : world ≡ end = cc in ap (λ w. end_world w (next w)) same
acted-goes world (part ∷ more) next reply end e = by (λ v f. acted-goes v more next reply end f) (part_on world part) e
  where
    by : ((v : World) → parts_on v more ≡ Goes reply end → last_acted v more next ≡ end_world end (next end)) → (o : Outcome) → then_on o (λ v. parts_on v more) ≡ Goes reply end → after_part world part o more next ≡ end_world end (next end)
    by h (Goes r v) f = h v f
    by h (Stops stop writers readers) f = cc
    by h Stuck f = cc

module _ (all : List Reply) (end : World) where
  -- the rest of a run ends so
  abbrev RestEnds : List Reply → List Step → Type 0
  RestEnds told more = (reply : Reply) (v : World) → host_play (told ++ reply ∷ []) v more ≡ Ends all end → end_world v (host_moments v more) ≡ end

  pub host_play-ends : (told : List Reply) (world : World) (run : List Step) → host_play told world run ≡ Ends all end → end_world world (host_moments world run) ≡ end
  host_play-ends told world [] e = cc
  host_play-ends told world (step ∷ more) e =
      by (λ reply v f. host_play-ends (told ++ reply ∷ []) v more f) (outcome world (act_of step)) refl e
    where
      by : RestEnds told more → (o : Outcome) → outcome world (act_of step) ≡ o → after_host_step told o (λ told' v. host_play told' v more) ≡ Ends all end
          → last_acted world (parts_in world (act_of step)) (λ v. host_moments v more) ≡ end
      by h (Goes reply v) g f =
          acted-goes world (parts_in world (act_of step)) (λ w. host_moments w more) replies.Done v (outcome-parts world (act_of step) ∙ ap (λ o. then_on o done) g)
          ∙ h reply v f
      by h (Stops stop writers readers) g f = cc
      by h Stuck g f = cc

-- WHERE IT STOPS

module _ (stop : Stop) (writers : List Writer) (readers : List Reader) where
  -- an outcome is this stop
  abbrev IsStop : Outcome → Type 0
  IsStop o = o ≡ Stops stop writers readers

  -- a part stops so in this world
  abbrev StopsIn : World → Type 0
  StopsIn world = StopsAt world stop writers readers

  -- the parts behind one stop so
  abbrev RestStops : List Part → Next → Type 0
  RestStops more next = (v : World) → IsStop (parts_on v more) → StopsIn (last_acted v more next)

  acted-stops : (world : World) (parts : List Part) (next : Next) → AreParts parts → IsStop (parts_on world parts) → StopsIn (last_acted world parts next)
  acted-stops world [] next a e = cc
  acted-stops world (part ∷ more) next a e =
      by (λ v f. acted-stops v more next a.1 f) (part_on world part) refl e
    where
      by : RestStops more next → (o : Outcome) → part_on world part ≡ o → IsStop (then_on o (λ v. parts_on v more)) → StopsIn (after_part world part o more next)
      by h (Goes r v) g f = h v f
      by h (Stops x y z) g f = record { part = part; stopped = g ∙ f; form = inl a.0 }
      by h Stuck g f = cc

  trapped-stops : (world : World) (act : Act) (next : Next) → world.state.trapped ≡ true → IsStop (outcome world act) → StopsIn (last_acted world (Acts act ∷ []) next)
  trapped-stops world act next t e =
      let same : stops StoreTrapped world ≡ Stops stop writers readers = sym (outcome-trapped world act t) ∙ e in
      let unchanged : writers ≡ world.writers = cc in
      let unchanged_readers : readers ≡ world.readers = cc in
      subst (λ o. StopsIn (after_part world (Acts act) o [] next)) (sym e)
      (record { part = Acts act; stopped = e; form = inr (unchanged, unchanged_readers) })

  act-stops : (world : World) (act : Act) (next : Next) (b : Bool) → world.state.trapped ≡ b → IsStop (outcome world act)
      → StopsIn (last_acted world (cond b (Acts act ∷ []) (parts_of world act)) next)
  act-stops world act next true t e = trapped-stops world act next t e
  act-stops world act next false t e =
      acted-stops world (parts_of world act) next (act_parts world act)
      (untrapped_parts world act t ∙ ap (λ o. then_on o done) e)

  -- the rest of a run stops so
  abbrev RestHalts : List Reply → List Reply → List Step → Type 0
  RestHalts all told more =
      (reply : Reply) (v : World) → host_play (told ++ reply ∷ []) v more ≡ Halts all stop writers readers → StopsIn (end_world v (host_moments v more))

  pub host_play-halts : (told : List Reply) (world : World) (run : List Step) (all : List Reply) → host_play told world run ≡ Halts all stop writers readers → StopsIn (end_world world (host_moments world run))
  host_play-halts told world [] all e = cc
  host_play-halts told world (step ∷ more) all e =
      by (λ reply v f. host_play-halts (told ++ reply ∷ []) v more all f) (outcome world (act_of step)) refl e
    where
      by : RestHalts all told more → (o : Outcome) → outcome world (act_of step) ≡ o → after_host_step told o (λ told' v. host_play told' v more) ≡ Halts all stop writers readers
          → StopsIn (last_acted world (parts_in world (act_of step)) (λ v. host_moments v more))
      by h (Goes reply v) g f =
          subst StopsIn
          (sym (acted-goes world (parts_in world (act_of step)) (λ w. host_moments w more) replies.Done v (outcome-parts world (act_of step) ∙ ap (λ o. then_on o done) g)))
          (h reply v f)
      by h (Stops a b c) g f =
          let same : Stops a b c ≡ Stops stop writers readers = cc in
          act-stops world (act_of step) (λ w. host_moments w more) world.state.trapped refl (g ∙ same)
      by h Stuck g f = cc
