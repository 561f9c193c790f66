-- The words of the program, and what a status tells.
use Rattle.std.proofs.lemmas.Bool.{cases_eq}
use Rattle.std.proofs.Common.{◌≡◌, ◌≢◌, ◌⊎◌, inl, inr, ℕ, zero, suc, ◌<◌, ◌≤◌, List, [], ◌∷◌, length, map, get_or, Option, Some, None, refl, sym, ap, ◌∙◌, subst, arith}
use Rattle.std.specs.Fmt.{decimal}
use Rattle.strm_lines.specs.Grammar.{IsBetween}
use Rattle.strm_lines.specs.Lines.{lines_of}
use Rattle.strm_lines.specs.Reading.{number_within}
use Rattle.strm_lines.proofs.ReadingLemmas.{IsReading, IsReading-within}
use Rattle.strm_codes.specs.Counters.{Rose}
use Rattle.strm_input_output.proofs.ServingLemmas.{read_of}
use Rattle.strm_frames.specs.Frames.{Frame}
use Rattle.strm_frames.specs.Muxes.{Written}
use Rattle.strm_machine.specs.declared.replies.Reply.{Reply}
use Rattle.strm_machine.specs.declared.steps.Step.{Step}
use Rattle.strm_mux.specs.Carrying.{AreCarried}
use Rattle.strm_mux.specs.LineReading.{HoldsLines}
use Rattle.strm_mux.specs.Texts.{output_text}
use Rattle.strm_mux.specs.Lines.{Puts, IsFirstBadLaneLine, IsMuxTooLong}
use Rattle.strm_mux.specs.Serving.{AreSizes, IsSizes, IsCarriedBy, IsOfPuts, IsMuxOutput, IsMuxStatus}
use Rattle.strm_mux.proofs.LineLemmas.{puts_not_bad}

-- TWO SIZES

IsReading-size : IsReading (number_within 16 64) decimal (IsBetween 16 64)
IsReading-size = IsReading-within 16 64 (omega arith)

-- an item of a list, as it is seen
pub item_at : {X : Type 0} (f : X → List ℕ) (items : List X) (k : ℕ) (x : X) → k < length items → x ≡ get_or items k x → get_or (map f items) k [] ≡ f x
item_at f [] k x h e = absurd (omega arith)
item_at f (a ∷ items) zero x h e = ap f (sym e)
item_at f (a ∷ items) (suc k) x h e = item_at f items k x (omega arith) e

-- two words that are read as sizes are
pub sizes_read : (words : List (List ℕ)) (a b : List ℕ) (write read : ℕ) → length words ≡ 2 → get_or words 0 [] ≡ a → get_or words 1 [] ≡ b → Some write ≡ number_within 16 64 a → Some read ≡ number_within 16 64 b → AreSizes words write read
sizes_read [] a b write read l d e f g = absurd (omega (arith, l))
sizes_read (x ∷ []) a b write read l d e f g = absurd (omega (arith, l))
sizes_read (x ∷ y ∷ z ∷ words) a b write read l d e f g = absurd (omega (arith, l))
sizes_read (x ∷ y ∷ []) a b write read l d e f g =
    let w = IsReading-size.sound a write (sym f) in
    let r = IsReading-size.sound b read (sym g) in
    record {
      words_are = rw (d, e, w.0, r.0) refl;
      write_is = w.1;
      read_is = r.1;
    }

-- each of two sizes is read as one
pub first_read : (words : List (List ℕ)) (a : List ℕ) → get_or words 0 [] ≡ a → number_within 16 64 a ≡ None → IsSizes words → ⊥
first_read words a e n s =
    let same : decimal s.0 ≡ a = sym (ap (λ ws. get_or ws 0 []) s.2.words_are) ∙ e in
    let read = IsReading-size.complete s.0 s.2.write_is in
    let both : Some s.0 ≡ None = sym read ∙ ap (number_within 16 64) same ∙ n in cc

pub second_read : (words : List (List ℕ)) (a : List ℕ) → get_or words 1 [] ≡ a → number_within 16 64 a ≡ None → IsSizes words → ⊥
second_read words a e n s =
    let same : decimal s.1 ≡ a = sym (ap (λ ws. get_or ws 1 []) s.2.words_are) ∙ e in
    let read = IsReading-size.complete s.1 s.2.read_is in
    let both : Some s.1 ≡ None = sym read ∙ ap (number_within 16 64) same ∙ n in cc

-- WHAT IS CARRIED

-- what was carried of a mux that these lines filled is what they put
pub carried_by : (write read moved : ℕ) (input text : List ℕ) (written : Written) (steps : List Step) (replies : List Reply) (h : HoldsLines written (lines_of input)) → AreCarried write read written.bytes steps replies moved → text ≡ output_text h.given moved → IsCarriedBy write read input text
carried_by write read moved input text written steps replies h c t = record {
  given = h.given;
  puts = h.puts;
  steps = steps;
  replies = replies;
  moved = moved;
  carried = subst (λ bytes. AreCarried write read bytes steps replies moved) h.bytes c;
  text_is = t;
}

-- WHAT A STATUS TELLS

module _ {words : List (List ℕ)} {left rest : Option (List ℕ)} {before after status : ℕ} {text : List ℕ} (h : IsMuxOutput words left rest before after status text) where
  -- the statuses of a text
  known : status ≤ 4
  known = by (cases_eq status 1)
    where
      of : IsOfPuts status ⊎ ((status ≡ 3) ⊎ (status ≡ 4)) → status ≤ 4
      of (inl (inl e)) = omega (arith, e)
      of (inl (inr e)) = omega (arith, e)
      of (inr (inl e)) = omega (arith, e)
      of (inr (inr e)) = omega (arith, e)

      by : (status ≡ 1) ⊎ (status ≢ 1) → status ≤ 4
      by (inl e) = omega (arith, e)
      by (inr n) = of (h.by_words.asked n).1.known

  pub unfailed : (status ≢ 5) × (status ≢ 9)
  unfailed = (λ q. omega (arith, known, q), λ q. omega (arith, known, q))

  -- and what is answered by `write_answer`
  pub written_known : (answered : ℕ) {Taken : Type 0} → (answered ≢ 5 → (answered ≡ status) × Taken) → IsMuxStatus answered
  written_known answered told = by (cases_eq answered 5)
    where
      by : (answered ≡ 5) ⊎ (answered ≢ 5) → IsMuxStatus answered
      by (inl e) = inl (omega (arith, e))
      by (inr n) = inl (omega (arith, known, (told n).0))

  -- of a source that has this input left, where nothing fails
  module _ (input : List ℕ) (sizes : IsSizes words) (is : left ≡ Some input) (calm : Rose before after → ⊥) (short : IsMuxTooLong input → ⊥) where
    told_input : IsMuxOutput words (Some input) rest before after status text
    told_input = subst (λ l. IsMuxOutput words l rest before after status text) is h

    puts : IsOfPuts status
    puts = read_of h.by_words input sizes is calm short

    pub told_done : (given : List Frame) → Puts (lines_of input) given → status ≡ 0
    told_done given p = by puts
      where
        by : IsOfPuts status → status ≡ 0
        by (inl e) = e
        by (inr e) = let bad = told_input.bad_line e in absurd (puts_not_bad (lines_of input) given bad.0 p bad.1)

    pub told_bad_line : (line : ℕ) → IsFirstBadLaneLine (lines_of input) line → status ≡ 2
    told_bad_line line bad = by puts
      where
        by : IsOfPuts status → status ≡ 2
        by (inl e) = let done = told_input.done e in absurd (puts_not_bad (lines_of input) done.3.given line done.3.puts bad)
        by (inr e) = e
