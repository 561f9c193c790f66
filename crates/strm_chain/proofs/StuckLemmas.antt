-- In a chain that has not ended some guest is not stuck.
use Rattle.std.specs.Prelude.{IsSome, ◌&&◌, cond}
use Rattle.std.proofs.Common.{◌≡◌, ℕ, zero, suc, ◌+◌, ◌-◌, ◌<◌, ◌≤◌, Bool, true, false, List, length, Option, Some, None, refl, sym, ap, ◌∙◌, subst, inl, inr, arith}
use Rattle.std.specs.Option.{option_map}
use Rattle.std.proofs.lemmas.Bool.{cases_eq}
use Rattle.strm_codes.specs.declared.codes.TransmitKind.TheVariants.{Stream as AStream}
use Rattle.strm_events.specs.Reports.{report_of, outcome_code}
use Rattle.strm_machine.specs.State.{State, stream_at, is_gone}
use Rattle.strm_laws.specs.Starts.{run_start}
use Rattle.strm_machine.specs.Sides.{opposite, end_of}
use Rattle.strm_machine.specs.Endings.{report_on, pending_of}
use Rattle.strm_machine.specs.Soundness.{is_opened, both_open}
use Rattle.strm_machine.specs.declared.streams.Side.{Side}
use Rattle.strm_machine.specs.declared.streams.Side.TheVariants.{Writing as AWrite, Reading as ARead}
use Rattle.strm_machine.specs.declared.streams.Operation.{Operation}
use Rattle.strm_machine.specs.declared.streams.Stream.{Stream}
use Rattle.strm_laws.proofs.LawfulRuns.{apart}
use Rattle.strm_chain.specs.declared.workers.Worker.{Worker}
use Rattle.strm_chain.specs.declared.workers.Doing.TheVariants.{Reading}
use Rattle.strm_chain.specs.Playing.{ChainPlay}
use Rattle.strm_chain.specs.Keeping.{IsPlain, ArePlain, worker_at, sink_of, IsJoined}
use Rattle.strm_chain.specs.Measuring.{IsStuck, AtEnd, InRead, InWrite}
use Rattle.strm_chain.proofs.MomentLemmas.{IsRunOf}
use Rattle.strm_chain.proofs.AfterLemmas.{plain_on}
use Rattle.strm_chain.proofs.StayLemmas.{kind_is}
use Rattle.strm_chain.proofs.TurnedLemmas.{no_handle}

-- an operation that has no report is open, and the other end is there
record Unmet (gone : Bool) (o : Option Operation) : Type 0 where
  there : gone ≡ false
  opened : is_opened o ≡ true

unmet_by : (gone told passed : Bool) (o : Option Operation) → IsPlain o → IsSome o → report_of AStream (option_map pending_of o) gone told passed ≡ None → Unmet gone o
unmet_by gone told passed None h some e = absurd (let wrong : false ≡ true = some in cc)
unmet_by true told passed (Some o) h some e = absurd (let wrong = e in cc)
unmet_by false told passed (Some o) h some e = record { there = refl; opened = h.unmet (by o.met refl e) }
  where
    by : (b : Bool) → o.met ≡ b → cond b (Some (outcome_code AStream o.outcome o.moved)) None ≡ None → o.met ≡ false
    by true met f = absurd (let wrong = f in cc)
    by false met f = met

unmet : (side : Side) (stream : Stream) → stream.kind ≡ AStream → ArePlain stream → IsSome (end_of side stream).operation → report_on side stream ≡ None → Unmet (is_gone (end_of (opposite side) stream).owner) (end_of side stream).operation
unmet side stream k p some e =
    let o = (end_of side stream).operation in
    let gone = is_gone (end_of (opposite side) stream).owner in
    unmet_by gone (end_of side stream).told stream.passed o (plain_on side stream p) some
    (ap (λ kind. report_of kind (option_map pending_of o) gone (end_of side stream).told stream.passed) (sym k) ∙ e)

module _ (p : ChainPlay) (ws : List Worker) (j : IsJoined p ws) (run : IsRunOf p) (all : (g : ℕ) → g < length ws → IsStuck g (worker_at ws g) p.state) where
  not_both : (k : ℕ) → is_opened (stream_at p.state k).writer.operation ≡ true → is_opened (stream_at p.state k).reader.operation ≡ true → ⊥
  not_both k a b =
      let never : both_open (stream_at p.state k) ≡ false = ap (λ (s : State). both_open (stream_at s k)) run.last_is ∙ apart run_start.tag run_start.limits p.steps k run.are in
      let both : both_open (stream_at p.state k) ≡ true = ap (λ x. x && is_opened (stream_at p.state k).reader.operation) a ∙ b in
      let wrong : false ≡ true = sym never ∙ both in cc

  -- a guest waits for its read, which has no report
  abbrev Down : ℕ → Type 0
  Down k = k + 1 < length ws → (worker_at ws (k + 1)).doing ≡ Reading → report_on ARead (stream_at p.state k) ≡ None → ⊥

  -- then the one before it waits for its own
  step_down : (k : ℕ) → ((i : ℕ) → k ≡ i + 1 → Down i) → Down k
  step_down k down l reads none = by (all k (omega (arith, l)))
    where
      u : Unmet (is_gone (stream_at p.state k).writer.owner) (stream_at p.state k).reader.operation
      u = let at = j.joins k l in unmet ARead (stream_at p.state k) (kind_is p.state k at.typed) at.reads.plain (at.reads.busy reads) none

      by : IsStuck k (worker_at ws k) p.state → ⊥
      by (AtEnd e) = let wrong : false ≡ true = sym u.there ∙ (j.joins k l).writes.gone e in cc
      by (InWrite handle e has rests) =
          let at = j.joins k l in
          let mine : Unmet (is_gone (stream_at p.state k).reader.owner) (stream_at p.state k).writer.operation = unmet AWrite (stream_at p.state k) (kind_is p.state k at.typed) at.reads.plain (at.writes.busy e) rests in
          not_both k mine.opened u.opened
      by (InRead handle e has rests) = elim (cases_eq k 0) [
        | inl z ↦ no_handle (worker_at ws 0).read handle j.source.0 (ap (λ n. (worker_at ws n).read) (sym z) ∙ has)
        | inr ne ↦ (let same : k ≡ (k - 1) + 1 = omega (arith, ne) in
            down (k - 1) same (omega (arith, l)) (ap (λ n. (worker_at ws n).doing) (sym same) ∙ e) rests)
      ]

  reading_down : (k : ℕ) → Down k
  reading_down zero = step_down zero (λ i e. absurd (omega (arith, e)))
  reading_down (suc k) = step_down (suc k) (λ i e. let same : k ≡ i = omega (arith, e) in subst Down same (reading_down k))

  pub not_all_stuck : 2 ≤ length ws → (sink_of ws).closed ≡ false → ⊥
  not_all_stuck some goes = by (all (length ws - 1) (omega (arith, some)))
    where
      by : IsStuck (length ws - 1) (sink_of ws) p.state → ⊥
      by (AtEnd e) = let wrong : false ≡ true = sym goes ∙ j.sink.ends e in cc
      by (InWrite handle e has none) = no_handle (sink_of ws).write handle j.sink.write has
      by (InRead handle e has none) =
          let same : length ws - 1 ≡ (length ws - 2) + 1 = omega (arith, some) in
          let less : (length ws - 1) - 1 ≡ length ws - 2 = omega (arith, some) in
          reading_down (length ws - 2) (omega (arith, some)) (ap (λ n. (worker_at ws n).doing) (sym same) ∙ e) (ap (λ n. report_on ARead (stream_at p.state n)) (sym less) ∙ none)
