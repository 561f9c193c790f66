-- The moments of a run, by what each does to one stream: no more of them than the run has steps may have to do
-- with it, since a drive round goes through each stream once.
use Rattle.std.proofs.Common.{◌≡◌, ◌≢◌, ℕ, zero, suc, ◌+◌, ◌-◌, ◌<◌, ◌≤◌, ◌==◌, Bool, true, false, cond, List, [], ◌∷◌, length, map, take, sym, ap, subst, ◌∙◌, inl, inr, arith}
use Rattle.std.specs.Prelude.{All}
use Rattle.std.proofs.lemmas.Bool.{cases_eq, eq-eqb, ne_eqb}
use Rattle.std.proofs.lemmas.List.Elements.{All-head, All-tail}
use Rattle.strm_machine.specs.Acts.{act_of}
use Rattle.strm_machine.specs.Moments.{PutsBytes}
use Rattle.strm_machine.specs.declared.acts.Act.{Act}
use Rattle.strm_machine.specs.declared.acts.Act.TheVariants.{Drive}
use Rattle.strm_machine.specs.declared.steps.Step.{Step}
use Rattle.strm_host_machine.specs.World.{World}
use Rattle.strm_host_machine.specs.Outcomes.{Outcome, Goes, Stops, Stuck}
use Rattle.strm_host_machine.specs.Driving.{numbers_from}
use Rattle.strm_laws.specs.Laws.{StepHasBytes}
use Rattle.strm_host_laws.specs.HostMoments.{Part, Acts, Turns, HostMoment, parts_of, part_on, followed, acted, host_moments, first_moments}

-- of so many, those left for stream s after a part: an act takes one, and the turn of the stream itself
abbrev pub left_after : ℕ → Part → ℕ → ℕ
left_after s (Acts act) n = n - 1
left_after s (Turns k) n = cond (k == s) (n - 1) n

-- one is left for it, and puts bytes
abbrev pub Pays : ℕ → Part → ℕ → Type 0
Pays s (Acts act) n = (0 < n) × PutsBytes act
Pays s (Turns k) n = k ≡ s → 0 < n

-- so many are enough for these moments
abbrev pub Costs : ℕ → List HostMoment → ℕ → Type 0
Costs s [] n = Unit {0}
Costs s (m ∷ more) n = Pays s m.part n × Costs s more (left_after s m.part n)

module _ (s : ℕ) where
  costs_more : (all : List HostMoment) (n k : ℕ) → n ≤ k → Costs s all n → Costs s all k
  costs_more [] n k l c = tt
  costs_more (m ∷ more) n k l c = (pays m.part c.0, costs_more more (left_after s m.part n) (left_after s m.part k) (left m.part) c.1)
    where
      pays : (part : Part) → Pays s part n → Pays s part k
      pays (Acts act) p = (omega (arith, l, p.0), p.1)
      pays (Turns j) p = λ e. omega (arith, l, p e)

      either : (b : Bool) → cond b (n - 1) n ≤ cond b (k - 1) k
      either true = omega (arith, l)
      either false = l

      left : (part : Part) → left_after s part n ≤ left_after s part k
      left (Acts act) = omega (arith, l)
      left (Turns j) = either (j == s)

  abbrev Next : Type 0
  Next = World → List HostMoment

  abbrev AllCost : Next → ℕ → Type 0
  AllCost next n = (v : World) → Costs s (next v) n

  one_less : (n : ℕ) → n ≡ suc n - 1
  one_less n = omega arith

  act_costs : (world : World) (act : Act) (o : Outcome) (next : Next) (n : ℕ) → PutsBytes act → AllCost next n → Costs s (followed world (Acts act) o next) (suc n)
  act_costs world act (Goes reply v) next n p h = ((omega arith, p), subst (Costs s (next v)) (one_less n) (h v))
  act_costs world act (Stops stop writers readers) next n p h = tt
  act_costs world act Stuck next n p h = tt

  -- the turn of another stream
  other_costs : (world : World) (k : ℕ) (o : Outcome) (next : Next) (n : ℕ) → k ≢ s → AllCost next n → Costs s (followed world (Turns k) o next) n
  other_costs world k (Goes reply v) next n ne h =
      let left : n ≡ cond (k == s) (n - 1) n = ap (λ b. cond b (n - 1) n) (sym (ne_eqb k s ne)) in
      ((λ e. absurd (ne e)), subst (Costs s (next v)) left (h v))
  other_costs world k (Stops stop writers readers) next n ne h = tt
  other_costs world k Stuck next n ne h = tt

  -- its own
  own_costs : (world : World) (k : ℕ) (o : Outcome) (next : Next) (n : ℕ) → k ≡ s → AllCost next n → Costs s (followed world (Turns k) o next) (suc n)
  own_costs world k (Goes reply v) next n e h =
      let left : n ≡ cond (k == s) (suc n - 1) (suc n) = one_less n ∙ ap (λ b. cond b (suc n - 1) (suc n)) (sym (eq-eqb k s e)) in
      ((λ q. omega arith), subst (Costs s (next v)) left (h v))
  own_costs world k (Stops stop writers readers) next n e h = tt
  own_costs world k Stuck next n e h = tt

  -- turns behind its own
  past_costs : (world : World) (k count : ℕ) (next : Next) (n : ℕ) → s < k → AllCost next n → Costs s (acted world (map Turns (numbers_from k count)) next) n
  past_costs world k zero next n l h = h world
  past_costs world k (suc count) next n l h =
      other_costs world k (part_on world (Turns k)) (λ v. acted v (map Turns (numbers_from (k + 1) count)) next) n (λ e. omega (arith, l, e))
      (λ v. past_costs v (k + 1) count next n (omega (arith, l)) h)

  turns_cost : (world : World) (k count : ℕ) (next : Next) (n : ℕ) → AllCost next n → Costs s (acted world (map Turns (numbers_from k count)) next) (suc n)
  turns_cost world k zero next n h = costs_more (next world) n (suc n) (omega arith) (h world)
  turns_cost world k (suc count) next n h =
      elim (cases_eq k s) [
        | inl e ↦ own_costs world k (part_on world (Turns k)) (λ v. acted v (map Turns (numbers_from (k + 1) count)) next) n e (λ v. past_costs v (k + 1) count next n (omega (arith, e)) h)
        | inr ne ↦ other_costs world k (part_on world (Turns k)) (λ v. acted v (map Turns (numbers_from (k + 1) count)) next) (suc n) ne (λ v. turns_cost v (k + 1) count next n h)
      ]

  parts_cost : (world : World) (act : Act) (next : Next) (n : ℕ) → PutsBytes act → AllCost next n → Costs s (acted world (parts_of world act) next) (suc n)
  parts_cost world Drive next n p h = turns_cost world 0 (length world.state.streams) next n h
  parts_cost world act next n p h = act_costs world act (part_on world (Acts act)) (λ v. acted v [] next) n p h

  step_costs : (world : World) (act : Act) (next : Next) (n : ℕ) (b : Bool) → PutsBytes act → AllCost next n → Costs s (acted world (cond b (Acts act ∷ []) (parts_of world act)) next) (suc n)
  step_costs world act next n true p h = act_costs world act (part_on world (Acts act)) (λ v. acted v [] next) n p h
  step_costs world act next n false p h = parts_cost world act next n p h

  pub moments_cost : (world : World) (run : List Step) → All StepHasBytes run → Costs s (host_moments world run) (length run)
  moments_cost world [] b = tt
  moments_cost world (step ∷ more) b =
      step_costs world (act_of step) (λ v. host_moments v more) (length more) world.state.trapped (All-head StepHasBytes step more b)
      (λ v. moments_cost v more (All-tail StepHasBytes step more b))

  front_cost : (count : ℕ) (all : List HostMoment) (n : ℕ) → Costs s all n → Costs s (take count all) n
  front_cost zero all n c = tt
  front_cost (suc k) [] n c = tt
  front_cost (suc k) (m ∷ more) n c = (c.0, front_cost k more (left_after s m.part n) c.1)

  pub first_cost : (count : ℕ) (world : World) (run : List Step) → All StepHasBytes run → Costs s (first_moments count world run) (length run)
  first_cost count world run b = front_cost count (host_moments world run) (length run) (moments_cost world run b)
