-- Lines of an input, one more at a time, and their one reading.
use Rattle.std.proofs.Common.{◌≡◌, ◌≢◌, true, false, ℕ, zero, suc, ◌+◌, ◌-◌, ◌<◌, ◌≤◌, List, [], ◌∷◌, ◌++◌, length, length-take-le, map, take, get_or, cond, eqb, Option, Some, None, Result, Err, refl, sym, ap, ◌∙◌, arith, inl, inr, append_assoc, length-append}
use Rattle.std.specs.Prelude.{slice_get, is_some, All}
use Rattle.std.specs.Option.{option_map, option_to_list}
use Rattle.std.proofs.lemmas.Bool.Decides.{eqb_tells}
use Rattle.std.proofs.lemmas.Bool.{cases_lt, ne_eqb}
use Rattle.std.proofs.lemmas.List.{take_more, append-nil, take_at, length-map, map-append, get_or_at, length_push}
use Rattle.std.proofs.lemmas.List.Elements.{All-push, All-head, All-tail}
use Rattle.std.proofs.lemmas.Option.{slice_get-get_or, same_Some}
use Rattle.strm_machine.specs.declared.steps.Step.{Step}
use Rattle.strm_lines.specs.declared.parsing.ParseError.{ParseError}
use Rattle.strm_lines.specs.declared.parsing.ParseError.TheVariants as error
use Rattle.strm_lines.specs.Grammar.{spelling, HasLine}
use Rattle.strm_lines.specs.Lines.{on_first, lines_of, feeds, Spells, IsFirstBadLine}
use Rattle.strm_lines.specs.Reading.{cut_at, step_of}
use Rattle.strm_lines.proofs.CutLemmas.{option_map_some}
use Rattle.strm_lines.proofs.StepLemmas.{step_sound, step_complete}

-- the first line ends at the first line feed
pub lines-cut : (bytes : List ℕ) (p : List ℕ × List ℕ) → cut_at 10 bytes ≡ Some p → lines_of bytes ≡ p.0 ∷ lines_of p.1
unfolding cut_at lines_of
lines-cut [] p e = cc
lines-cut (x ∷ bytes) p e =
    elim (eqb_tells x 10) [
      | inl t ↦ (let q : ([], bytes) ≡ p = same_Some ([], bytes) p (rw t.0 at e) in rw (t.0, ← q) refl)
      | inr t ↦ option_map_some _ (cut_at 10 bytes) p (rw t.0 at e) (λ q s u. rw (t.0, ← u, lines-cut bytes q s) refl)
    ]

-- or at the end
lines-last : (x : ℕ) (bytes : List ℕ) → cut_at 10 (x ∷ bytes) ≡ None → lines_of (x ∷ bytes) ≡ (x ∷ bytes) ∷ []
unfolding cut_at lines_of
lines-last x [] e =
    elim (eqb_tells x 10) [ inl t ↦ (let f = rw t.0 at e in cc) | inr t ↦ rw t.0 refl ]
lines-last x (y ∷ bytes) e =
    elim (eqb_tells x 10) [
      | inl t ↦ (let f = rw t.0 at e in cc)
      | inr t ↦ (let f : cut_at 10 (y ∷ bytes) ≡ None = none_below (cut_at 10 (y ∷ bytes)) (rw t.0 at e) in rw (t.0, lines-last y bytes f) refl)
    ]
  where
    none_below : (o : Option (List ℕ × List ℕ)) → option_map {U = List ℕ × List ℕ} (λ p. (x ∷ p.0, p.1)) o ≡ None → o ≡ None
    none_below None e = refl
    none_below (Some p) e = cc

pub lines-end : (bytes rest : List ℕ) → 0 < length bytes → rest ≡ [] → cut_at 10 bytes ≡ None → lines_of bytes ≡ bytes ∷ lines_of rest
unfolding lines_of
lines-end [] rest h z e = absurd (omega arith)
lines-end (x ∷ bytes) rest h z e = rw z (lines-last x bytes e)

-- a line more that spells a step
pub spelled_more : (lines more : List (List ℕ)) (line : List ℕ) (steps : List Step) (s : Step) → lines ≡ map spelling steps ++ line ∷ more → All HasLine steps → Some s ≡ step_of line → (lines ≡ map spelling (steps ++ s ∷ []) ++ more) × All HasLine (steps ++ s ∷ [])
spelled_more lines more line steps s e f g =
    let r : (spelling s ≡ line) × HasLine s = step_sound line s (sym g) in
    (e ∙ rw (map-append, ← r.0) (sym (append_assoc (map spelling steps) (spelling s ∷ []) more)), All-push HasLine steps s f r.1)

-- fewer steps than lines, where a line is left
pub fewer : (lines more : List (List ℕ)) (line : List ℕ) (steps : List Step) → lines ≡ map spelling steps ++ line ∷ more → length steps < length lines
fewer lines more line steps e = omega (arith, ap length e, length-map steps spelling, length-append (map spelling steps) (line ∷ more))

-- a line that spells none
pub bad_line : (lines more : List (List ℕ)) (line : List ℕ) (steps : List Step) → lines ≡ map spelling steps ++ line ∷ more → All HasLine steps → None ≡ step_of line → IsFirstBadLine lines (length steps + 1)
bad_line lines more line steps e f g =
    let n : length (map spelling steps) ≡ length steps = length-map steps spelling in
    let k : length steps + 1 - 1 ≡ length steps = omega arith in
    let inside : length steps < length (map spelling steps ++ line ∷ more) = omega (arith, n, length-append (map spelling steps) (line ∷ more)) in
    let here : slice_get (map spelling steps ++ line ∷ more) (length steps) ≡ Some line = slice_get-get_or (map spelling steps ++ line ∷ more) (length steps) [] inside ∙ ap Some (get_or_at (map spelling steps) line more [] (length steps) n) in
    rw e (record {
      first = omega arith;
      last = omega (arith, inside);
      before = (steps, record { each = rw k (take_at (map spelling steps) (line ∷ more) (length steps) n); have = f });
      bad = rw k (λ s h p. let same : line ≡ spelling s = same_Some line (spelling s) (sym here ∙ p) in let q = g ∙ ap step_of same ∙ step_complete s h in cc);
    })

-- a line of which a step was read, or none
pub kept_line : (lines more : List (List ℕ)) (line : List ℕ) (steps new : List Step) (o : Option Step) → o ≡ step_of line → is_some o ≡ true → new ≡ steps ++ option_to_list o → lines ≡ map spelling steps ++ line ∷ more → All HasLine steps → (lines ≡ map spelling new ++ more) × All HasLine new
kept_line lines more line steps new None r t n e f = cc
kept_line lines more line steps new (Some s) r t n e f = rw n (spelled_more lines more line steps s e f r)

pub kept_one : (steps new : List Step) (o : Option Step) → is_some o ≡ true → new ≡ steps ++ option_to_list o → length new ≡ length steps + 1
kept_one steps new None t n = cc
kept_one steps new (Some s) t n = ap length n ∙ length_push steps s

pub unkept_line : (lines more : List (List ℕ)) (line : List ℕ) (steps : List Step) (o : Option Step) → o ≡ step_of line → is_some o ≡ false → lines ≡ map spelling steps ++ line ∷ more → All HasLine steps → IsFirstBadLine lines (length steps + 1)
unkept_line lines more line steps None r t e f = bad_line lines more line steps e f r
unkept_line lines more line steps (Some s) r t e f = cc

same_steps : (steps others : List Step) → All HasLine steps → All HasLine others → map spelling steps ≡ map spelling others → steps ≡ others
same_steps [] [] f g e = refl
same_steps [] (t ∷ others) f g e = cc
same_steps (s ∷ steps) [] f g e = cc
same_steps (s ∷ steps) (t ∷ others) f g e =
    let head : spelling s ≡ spelling t = heads (spelling s) (spelling t) (map spelling steps) (map spelling others) e in
    let rest : map spelling steps ≡ map spelling others = tails (spelling s) (spelling t) (map spelling steps) (map spelling others) e in
    let one : s ≡ t = same_Some s t (sym (step_complete s (All-head HasLine s steps f)) ∙ ap step_of head ∙ step_complete t (All-head HasLine t others g)) in
    rw (one, same_steps steps others (All-tail HasLine s steps f) (All-tail HasLine t others g) rest) refl
  where
    heads : (a b : List ℕ) (xs ys : List (List ℕ)) → a ∷ xs ≡ b ∷ ys → a ≡ b
    heads a b xs ys e = cc

    tails : (a b : List ℕ) (xs ys : List (List ℕ)) → a ∷ xs ≡ b ∷ ys → xs ≡ ys
    tails a b xs ys e = cc

pub one_spelling : (lines : List (List ℕ)) (steps others : List Step) → Spells lines steps → Spells lines others → steps ≡ others
one_spelling lines steps others f g = same_steps steps others f.have g.have (sym f.each ∙ g.each)

pub all_spelled : (lines : List (List ℕ)) (steps : List Step) (rest : List ℕ) → lines ≡ map spelling steps ++ lines_of rest → All HasLine steps → length rest ≡ 0 → Spells lines steps
unfolding lines_of
all_spelled lines steps [] e f t = record { each = e ∙ append-nil (map spelling steps); have = f }
all_spelled lines steps (x ∷ rest) e f t = absurd (omega arith)

spelled_at : (steps : List Step) (k : ℕ) → k < length (map spelling steps) → All HasLine steps → (step : Step) × HasLine step × (slice_get (map spelling steps) k ≡ Some (spelling step))
spelled_at [] k h f = absurd (omega arith)
spelled_at (s ∷ steps) zero h f = (s, All-head HasLine s steps f, refl)
spelled_at (s ∷ steps) (suc k) h f = spelled_at steps k (omega arith) (All-tail HasLine s steps f)

-- a line among lines that are spelled
spells_at : (lines : List (List ℕ)) (steps : List Step) (k : ℕ) → k < length lines → Spells lines steps → (step : Step) × HasLine step × (slice_get lines k ≡ Some (spelling step))
spells_at lines steps k h f =
    let w = spelled_at steps k (omega (arith, ap length f.each)) f.have in
    (w.0, w.1, ap (λ ls. slice_get ls k) f.each ∙ w.2)

pub spelled_not_bad : (lines : List (List ℕ)) (steps : List Step) (line : ℕ) → Spells lines steps → ¬ IsFirstBadLine lines line
spelled_not_bad lines steps line f b =
    let w = spells_at lines steps (line - 1) (omega (arith, b.first, b.last)) f in b.bad w.0 w.1 w.2

slice_get-take : {A : Type 0} (n : ℕ) (xs : List A) (k : ℕ) → k < n → slice_get (take n xs) k ≡ slice_get xs k
slice_get-take zero xs k h = absurd (omega arith)
slice_get-take (suc n) [] k h = refl
slice_get-take (suc n) (x ∷ xs) zero h = refl
slice_get-take (suc n) (x ∷ xs) (suc k) h = slice_get-take n xs k (omega arith)

-- no line before a first bad line is bad
none_before : (lines : List (List ℕ)) (line other : ℕ) → IsFirstBadLine lines line → IsFirstBadLine lines other → ¬ (line < other)
none_before lines line other b o h =
    let inside : line - 1 < length (take (other - 1) lines) = omega (arith, b.first, b.last, o.first, o.last, length-take-le (other - 1) lines (omega (arith, o.last))) in
    let w = spells_at (take (other - 1) lines) o.before.0 (line - 1) inside o.before.1 in
    b.bad w.0 w.1 (sym (slice_get-take (other - 1) lines (line - 1) (omega (arith, b.first))) ∙ w.2)

pub one_bad_line : (lines : List (List ℕ)) (line other : ℕ) → IsFirstBadLine lines line → IsFirstBadLine lines other → line ≡ other
one_bad_line lines line other b o =
    elim (cases_lt line other) [
      | inl h ↦ absurd (none_before lines line other b o h)
      | inr h ↦ elim (cases_lt other line) [ inl i ↦ absurd (none_before lines other line o b i) | inr i ↦ omega arith ]
    ]

-- the number of lines, from the number of line feeds

-- 1 where the bytes end within a line
unended : List ℕ → ℕ
unended [] = 0
unended (b ∷ []) = cond (eqb b 10) 0 1
unended (b ∷ c ∷ bytes) = unended (c ∷ bytes)

some_line : (c : ℕ) (bytes : List ℕ) → 0 < length (lines_of (c ∷ bytes))
unfolding lines_of
some_line c bytes = elim (eqb_tells c 10) [ inl t ↦ rw t.0 (omega arith) | inr t ↦ rw t.0 (on_first_some (lines_of bytes)) ]
  where
    on_first_some : (ls : List (List ℕ)) → 0 < length (on_first c ls)
    on_first_some [] = omega arith
    on_first_some (l ∷ ls) = omega arith

length-on_first : (b : ℕ) (lines : List (List ℕ)) → 0 < length lines → length (on_first b lines) ≡ length lines
length-on_first b [] h = absurd (omega arith)
length-on_first b (line ∷ lines) h = refl

pub feeds-append : (xs ys : List ℕ) → feeds (xs ++ ys) ≡ feeds xs + feeds ys
unfolding feeds
feeds-append [] ys = omega arith
feeds-append (x ∷ xs) ys =
    elim (eqb_tells x 10) [
      | inl t ↦ rw t.0 (omega (arith, feeds-append xs ys))
      | inr t ↦ rw t.0 (feeds-append xs ys)
    ]

pub feeds-yes : (bytes : List ℕ) (k : ℕ) → k < length bytes → get_or bytes k 0 ≡ 10 → feeds (take (k + 1) bytes) ≡ feeds (take k bytes) + 1
unfolding feeds
feeds-yes bytes k h e = rw (take_more bytes k 0 h, feeds-append (take k bytes) (get_or bytes k 0 ∷ []), e) refl

pub feeds-no : (bytes : List ℕ) (k : ℕ) → k < length bytes → get_or bytes k 0 ≢ 10 → feeds (take (k + 1) bytes) ≡ feeds (take k bytes)
unfolding feeds
feeds-no bytes k h e = rw (take_more bytes k 0 h, feeds-append (take k bytes) (get_or bytes k 0 ∷ []), ne_eqb (get_or bytes k 0) 10 e) (omega arith)

length-lines : (bytes : List ℕ) → length (lines_of bytes) ≡ feeds bytes + unended bytes
unfolding lines_of unended feeds
length-lines [] = refl
length-lines (b ∷ []) = elim (eqb_tells b 10) [ inl t ↦ rw t.0 refl | inr t ↦ rw t.0 refl ]
length-lines (b ∷ c ∷ bytes) =
    let rest = length-lines (c ∷ bytes) in
    elim (eqb_tells b 10) [
      | inl t ↦ rw t.0 (omega (arith, rest))
      | inr t ↦ rw (t.0, length-on_first b (lines_of (c ∷ bytes)) (some_line c bytes)) rest
    ]

unended_at : (bytes : List ℕ) → 0 < length bytes → unended bytes ≡ cond (eqb (get_or bytes (length bytes - 1) 0) 10) 0 1
unfolding unended
unended_at [] h = absurd (omega arith)
unended_at (b ∷ []) h = refl
unended_at (b ∷ c ∷ bytes) h =
    let k : length (b ∷ c ∷ bytes) - 1 ≡ suc (length (c ∷ bytes) - 1) = omega arith in
    rw k (unended_at (c ∷ bytes) (omega arith))

pub no_lines : (bytes : List ℕ) (n : ℕ) → n ≤ length bytes → length bytes ≡ 0 → n ≡ length (lines_of bytes)
unfolding lines_of
no_lines [] n h e = omega arith
no_lines (b ∷ bytes) n h e = absurd (omega arith)

pub lines_ended : (bytes : List ℕ) (n : ℕ) → n ≡ feeds bytes → 0 < length bytes → get_or bytes (length bytes - 1) 0 ≡ 10 → n ≡ length (lines_of bytes)
lines_ended bytes n e h f =
    let u : unended bytes ≡ 0 = unended_at bytes h ∙ rw f refl in
    omega (arith, length-lines bytes)

pub lines_unended : (bytes : List ℕ) (n : ℕ) → n ≡ feeds bytes → 0 < length bytes → get_or bytes (length bytes - 1) 0 ≢ 10 → n + 1 ≡ length (lines_of bytes)
lines_unended bytes n e h f =
    let u : unended bytes ≡ 1 = unended_at bytes h ∙ rw (ne_eqb (get_or bytes (length bytes - 1) 0) 10 f) refl in
    omega (arith, length-lines bytes)

-- lines that spell steps, and are not too many, are not read by running out of memory alone
module _ (lines : List (List ℕ)) (steps : List Step) (spelled : Spells lines steps) where
  pub runs_out_of_memory : {T L : Type 0} (r : Result T ParseError) (e : ParseError) → r ≡ Err e → (r ≡ Err error.TooLong → L) → ((line : ℕ) → r ≡ Err (error.BadLine line) → IsFirstBadLine lines line) → ¬ L → e ≡ error.OutOfMemory
  runs_out_of_memory r error.TooLong is long bad within = absurd (within (long is))
  runs_out_of_memory r (error.BadLine line) is long bad within = absurd (spelled_not_bad lines steps line spelled (bad line is))
  runs_out_of_memory r error.OutOfMemory is long bad within = refl
