-- A round of a chain that has not ended leaves less to do.
use Rattle.std.proofs.Common.{◌≡◌, ◌≢◌, ℕ, ◌+◌, ◌-◌, ◌<◌, ◌≤◌, false, List, length, refl, sym, ap, ◌∙◌, subst, inl, inr, arith}
use Rattle.std.specs.Prelude.{◌⊎◌}
use Rattle.std.proofs.lemmas.Bool.{cases_eq}
use Rattle.strm_machine.specs.State.{State}
use Rattle.strm_chain.specs.declared.workers.Worker.{Worker}
use Rattle.strm_chain.specs.declared.workers.ChainTurn.{ChainTurn}
use Rattle.strm_chain.specs.declared.workers.ChainTurn.TheVariants.{Moved, Idle}
use Rattle.strm_chain.specs.Playing.{ChainPlay, IsChainPlayed}
use Rattle.strm_chain.specs.Reporting.{is_told}
use Rattle.strm_chain.specs.Turned.{Turned}
use Rattle.strm_chain.specs.Keeping.{worker_at, stages_of, input_of, IsJoined, IsGoing}
use Rattle.strm_chain.specs.Measuring.{most_of, most_in, taken_in_bytes, rank, unclosed, to_do_of, to_do_to, to_do, IsStuck, LowersMeasure, Less, Same}
use Rattle.strm_chain.proofs.MomentLemmas.{IsRunOf, played_run}
use Rattle.strm_chain.proofs.JoinedLemmas.{OneChanged}
use Rattle.strm_chain.proofs.BoundLemmas.{taken_few, sent_few}
use Rattle.strm_chain.proofs.MeasureLemmas.{turned_take, own_falls, idle_same, sum_less, sum_same}
use Rattle.strm_chain.proofs.StuckLemmas.{not_all_stuck}

-- as many guests, of the same stages, and the same input
pub record AreAlike (ws ws' : List Worker) : Type 0 where
  pub many : length ws' ≡ length ws
  pub stages : stages_of ws' ≡ stages_of ws
  pub input : input_of ws' ≡ input_of ws

most-same : (ws ws' : List Worker) → AreAlike ws ws' → most_in ws' ≡ most_in ws
most-same ws ws' a = ap (λ s. most_of s (length (input_of ws'))) a.stages ∙ ap (λ i. most_of (stages_of ws) (length i)) a.input

-- what is to do, by the limit and the number of other guests
to_do-as : (state : State) (ws ws' : List Worker) → AreAlike ws ws' → to_do state ws' ≡ to_do_to (most_in ws) state ws' (length ws)
to_do-as state ws ws' a = ap (λ b. to_do_to b state ws' (length ws')) (most-same ws ws' a) ∙ ap (to_do_to (most_in ws) state ws') a.many

to_do-same : (old new : State) (ws ws' : List Worker) → AreAlike ws ws' → new ≡ old → ((k : ℕ) → worker_at ws' k ≡ worker_at ws k) → to_do new ws' ≡ to_do old ws
to_do-same old new ws ws' a e same =
    to_do-as new ws ws' a
    ∙ sum_same (most_in ws) old new ws ws' (length ws)
    (λ k. ap (λ s. to_do_of (most_in ws) s k (worker_at ws' k)) e ∙ ap (to_do_of (most_in ws) old k) (same k))

-- ## A turn

moved_or : (turn : ChainTurn) → (turn ≡ Moved) ⊎ (turn ≡ Idle)
moved_or Moved = inl refl
moved_or Idle = inr refl

module _ (p q : ChainPlay) (ws ws' : List Worker) (g chunk : ℕ) (turn : ChainTurn) (some : 2 ≤ length ws) (l : g < length ws) (most : chunk ≤ 64)
    (one : OneChanged g ws ws') (alike : AreAlike ws ws') (j : IsJoined p ws) (k : IsJoined q ws') (run : IsRunOf p) (after : IsRunOf q) where
  abbrev bound : ℕ
  bound = most_in ws

  some_after : 2 ≤ length ws'
  some_after = omega (arith, some, one.many)

  takes_within : taken_in_bytes q.state (g - 1) ≤ bound
  takes_within = omega (arith, taken_few q ws' some_after k after (g - 1) (omega (arith, l, some, one.many)), most-same ws ws' alike)

  sends_within : g + 1 < length ws → (worker_at ws' g).sent ≤ bound
  sends_within more = omega (arith, sent_few q ws' some_after k after g (omega (arith, more, one.many)), most-same ws ws' alike)

  -- the guests of other turns have no more to do
  others_less : Turned g chunk (worker_at ws g) p turn (worker_at ws' g) q → (i : ℕ) → i ≢ g → to_do_of bound q.state i (worker_at ws' i) ≤ to_do_of bound p.state i (worker_at ws i)
  others_less t i ne =
      let e = one.others i ne in
      omega (
        arith,
        turned_take g chunk (worker_at ws g) (worker_at ws' g) p q turn run after.are t (i - 1),
        ap (λ (w : Worker). w.sent) e,
        ap (λ (w : Worker). unclosed w.closed) e,
        ap (λ (w : Worker). rank w.doing) e,
      )

  pub turn_lowers : Turned g chunk (worker_at ws g) p turn (worker_at ws' g) q → LowersMeasure g turn p.state ws q.state ws'
  turn_lowers t =
      let takes = turned_take g chunk (worker_at ws g) (worker_at ws' g) p q turn run after.are t (g - 1) in
      elim (moved_or turn) [
        | inl m ↦ Less m
            (subst (λ n. n < to_do p.state ws) (sym (to_do-as q.state ws ws' alike))
            (sum_less bound p.state q.state ws ws' g (length ws) l (others_less t)
            (own_falls p ws g chunk j l run most q (worker_at ws' g) turn after.are bound takes_within sends_within takes m t)))
        | inr i ↦ (let same = idle_same p ws g chunk j l run most q (worker_at ws' g) turn after.are bound takes_within sends_within takes i t in
            Same i same.0
            (λ n. elim (cases_eq n g) [
              | inl e ↦ subst (λ x. worker_at ws' x ≡ worker_at ws x) (sym e) same.1
              | inr ne ↦ one.others n ne
            ])
            same.2)
      ]

-- ## A round

-- a round in which the first so many guests had their turns: less is to do, or all is as it was and these
-- are stuck
pub data SoFar (who : ℕ) (old : State) (ws : List Worker) (new : State) (ws' : List Worker) : Type 0 where
  Fell : to_do new ws' < to_do old ws → SoFar who old ws new ws'
  Stood : new ≡ old → ((k : ℕ) → worker_at ws' k ≡ worker_at ws k) → ((k : ℕ) → k < who → IsStuck k (worker_at ws k) old) → SoFar who old ws new ws'

pub round_none : (old : State) (ws : List Worker) → SoFar 0 old ws old ws
round_none old ws = Stood refl (λ k. refl) (λ k l. absurd (omega (arith, l)))

module _ (who : ℕ) (turn : ChainTurn) (old mid new : State) (ws ws1 ws2 : List Worker) (a : AreAlike ws ws1) (b : AreAlike ws1 ws2) where
  pub round_more : SoFar who old ws mid ws1 → LowersMeasure who turn mid ws1 new ws2 → SoFar (who + 1) old ws new ws2
  round_more (Fell f) (Less t g) = Fell (omega (arith, f, g))
  round_more (Fell f) (Same t e same stuck) = Fell (omega (arith, f, to_do-same mid new ws1 ws2 b e same))
  round_more (Stood d was rest) (Less t g) = Fell (omega (arith, g, to_do-same old mid ws ws1 a d was))
  round_more (Stood d was rest) (Same t e same stuck) =
      Stood (e ∙ d) (λ k. same k ∙ was k)
      (λ k l. elim (cases_eq k who) [
        | inl z ↦ subst (λ n. IsStuck n (worker_at ws n) old) (sym z) (subst (IsStuck who (worker_at ws who)) d (subst (λ w. IsStuck who w mid) (was who) stuck))
        | inr ne ↦ rest k (omega (arith, l, ne))
      ])

-- not all guests of a chain that goes on are stuck
pub somebody_goes : (p : ChainPlay) (ws : List Worker) → IsChainPlayed p → IsGoing p ws → 2 ≤ length ws → is_told (length ws - 1) p.steps p.replies ≡ false → ((g : ℕ) → g < length ws → IsStuck g (worker_at ws g) p.state) → ⊥
somebody_goes p ws played go some untold all =
    not_all_stuck p ws go.joined (played_run p played) all some (sym go.told ∙ untold)

pub round_falls : (n : ℕ) (old new : State) (ws ws' : List Worker) → n ≡ length ws → (((g : ℕ) → g < length ws → IsStuck g (worker_at ws g) old) → ⊥) → SoFar n old ws new ws' → to_do new ws' < to_do old ws
round_falls n old new ws ws' e goes (Fell f) = f
round_falls n old new ws ws' e goes (Stood d was rest) = absurd (goes (λ g l. rest g (omega (arith, l, e))))
