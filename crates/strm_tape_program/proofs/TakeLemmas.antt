-- What is written of a script that is taken on tape.
use Rattle.std.proofs.lemmas.Bool.{cases_eq}
use Rattle.std.proofs.Common.{◌≡◌, ◌≢◌, ◌⊎◌, inl, inr, ℕ, zero, suc, ◌<◌, List, [], ◌∷◌, length, Option, Some, None, ap, ◌∙◌, subst, ⊎_elim, arith}
use Rattle.std.specs.Prelude.{All, IfSome, slice_index_or}
use Rattle.std.specs.Io.KnownBytes.{IsAtEnd}
use Rattle.std.proofs.lemmas.List.Elements.{All-head, All-tail}
use Rattle.strm_buffers.specs.Tells.{WriterTells, Tells, no_tells}
use Rattle.strm_machine.specs.declared.steps.Step.{Step}
use Rattle.strm_codes.specs.Counters.{Rose}
use Rattle.strm_lines.specs.Lines.{lines_of, Spells, IsFirstBadLine, IsTooLong}
use Rattle.strm_lines.proofs.LineLemmas.{spelled_not_bad}
use Rattle.strm_tape_runs.specs.Taking.{NoneHolds, HoldsNone, IsFirstHolding}
use Rattle.strm_input_output.specs.Serving.{IsOfSource}
use Rattle.strm_input_output.proofs.ServingLemmas.{source_of_input, is_read}
use Rattle.strm_tape_program.specs.Taking.{IsStatusOfScript, IsOfScript, IsTakeStatus}

-- where no host writer holds items, none is the first that does
pub none_first : (n : ℕ) (tells : Tells) → NoneHolds tells → IsFirstHolding n tells → ⊥
none_first n tells none first = by n tells.writers none first.there first.holds
  where
    by : (n : ℕ) (ws : List WriterTells) → All HoldsNone ws → n < length ws → 0 < length (slice_index_or ws n no_tells).holds → ⊥
    by n [] none there holds = absurd (omega (arith, there))
    by zero (w ∷ ws) none there holds = let e : length w.holds ≡ 0 = ap length (All-head HoldsNone w ws none) in absurd (omega (arith, e, holds))
    by (suc n) (w ∷ ws) none there holds = by n ws (All-tail HoldsNone w ws none) (omega (arith, there)) holds

module _ {rest : Option (List ℕ)} {old new : Tells} {before after status : ℕ} {text : List ℕ} where
  -- what is told of an input that was read is told of its source, which is at its end then
  pub told_of_source : (left : Option (List ℕ)) (input : List ℕ) → IfSome left (λ bytes. input ≡ bytes) → IsAtEnd rest → IsOfScript (Some input) (Some []) old new before after status text → IsOfScript left rest old new before after status text
  told_of_source None input e end h = record {
    source = source_of_input None input e end h.source;
    done = λ _. tt;
    bad_line = λ s. let bad = h.bad_line s in (bad.0, tt, bad.2);
    unrun = h.unrun;
  }
  told_of_source (Some bytes) input e end h =
      let k = subst (λ b. IsOfScript (Some b) (Some []) old new before after status text) e h in
      record {
        source = source_of_input (Some bytes) input e end h.source;
        done = k.done;
        bad_line = k.bad_line;
        unrun = k.unrun;
      }

  module _ (input : List ℕ) (h : IsOfScript (Some input) rest old new before after status text) (calm : Rose before after → ⊥) (short : IsTooLong input → ⊥) where
    -- of an input within the limits, that nothing else is told
    done_or_bad : IsStatusOfScript status
    done_or_bad = is_read h.source (λ q. short (h.source.too_long q).0) (λ q. calm (h.source.read_fault q).0)

    pub done_of : (steps : List Step) → Spells (lines_of input) steps → status ≡ 0
    done_of steps s = ⊎_elim (λ d. d) (λ b. let bad = h.bad_line b in absurd (spelled_not_bad (lines_of input) steps bad.0 s bad.1)) done_or_bad

    pub bad_line_of : (line : ℕ) → IsFirstBadLine (lines_of input) line → status ≡ 2
    bad_line_of line bad = ⊎_elim (λ d. let done = h.done d in absurd (spelled_not_bad (lines_of input) done.steps line done.spelled bad)) (λ b. b) done_or_bad

  module _ (left : Option (List ℕ)) (input : List ℕ) (h : IsOfScript left rest old new before after status text) (e : left ≡ Some input) where
    pub told_done : (Rose before after → ⊥) → (IsTooLong input → ⊥) → (steps : List Step) → Spells (lines_of input) steps → status ≡ 0
    told_done calm short steps s = done_of input (subst (λ l. IsOfScript l rest old new before after status text) e h) calm short steps s

    pub told_bad_line : (Rose before after → ⊥) → (IsTooLong input → ⊥) → (line : ℕ) → IsFirstBadLine (lines_of input) line → status ≡ 2
    told_bad_line calm short line bad = bad_line_of input (subst (λ l. IsOfScript l rest old new before after status text) e h) calm short line bad

module _ {left rest : Option (List ℕ)} {old new : Tells} {before after status : ℕ} {text : List ℕ} (h : IsOfScript left rest old new before after status text) where
  -- the statuses of what is written
  pub unfailed : (status ≢ 5) × (status ≢ 9)
  unfailed = by h.source.known
    where
      by : IsStatusOfScript status ⊎ ((status ≡ 3) ⊎ (status ≡ 4)) → (status ≢ 5) × (status ≢ 9)
      by (inl (inl e)) = (λ q. omega (arith, e, q), λ q. omega (arith, e, q))
      by (inl (inr e)) = (λ q. omega (arith, e, q), λ q. omega (arith, e, q))
      by (inr (inl e)) = (λ q. omega (arith, e, q), λ q. omega (arith, e, q))
      by (inr (inr e)) = (λ q. omega (arith, e, q), λ q. omega (arith, e, q))

  -- and what is answered by `write_answer`
  pub written_known : (answered : ℕ) {Taken : Type 0} → (answered ≢ 5 → (answered ≡ status) × Taken) → IsTakeStatus answered
  written_known answered told = by (cases_eq answered 5)
    where
      of : IsStatusOfScript status ⊎ ((status ≡ 3) ⊎ (status ≡ 4)) → answered ≡ status → IsTakeStatus answered
      of (inl (inl e)) q = inl (q ∙ e)
      of (inl (inr e)) q = inr (inl (q ∙ e))
      of (inr (inl e)) q = inr (inr (inl (q ∙ e)))
      of (inr (inr e)) q = inr (inr (inr (inl (q ∙ e))))

      by : (answered ≡ 5) ⊎ (answered ≢ 5) → IsTakeStatus answered
      by (inl e) = inr (inr (inr (inr (inl e))))
      by (inr n) = of h.source.known (told n).0

  -- an input over the limits is told
  pub told_too_long : (input : List ℕ) → left ≡ Some input → (Rose before after → ⊥) → IsTooLong input → status ≡ 3
  told_too_long input e calm long = by (cases_eq status 3)
    where
      source : IsOfSource IsStatusOfScript IsTooLong (Some input) rest before after status text
      source = subst (λ l. IsOfSource IsStatusOfScript IsTooLong l rest before after status text) e h.source

      by : (status ≡ 3) ⊎ (status ≢ 3) → status ≡ 3
      by (inl q) = q
      by (inr n) = absurd (source.within (is_read source n (λ q. calm (source.read_fault q).0)) long)
