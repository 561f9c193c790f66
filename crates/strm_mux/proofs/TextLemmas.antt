-- A lane is named exactly where it has bytes or ended.
use Rattle.std.proofs.Common.{◌≡◌, eqb, true, false, Bool, ◌||◌, ℕ, suc, ◌+◌, ◌<◌, List, [], ◌∷◌, ◌++◌, length, refl, sym, ap, ◌∙◌, arith, append_assoc}
use Rattle.std.specs.Prelude.{All, ◌==◌, cond, if◌then◌else◌}
use Rattle.std.proofs.lemmas.List.{append-nil}
use Rattle.std.proofs.lemmas.List.Elements.{All-head, All-tail}
use Rattle.strm_lines.specs.Text.{line_ended}
use Rattle.strm_frames.specs.Frames.{Frame, Data, End, part_for, lane_in, ends}
use Rattle.strm_mux.specs.Lines.{FrameHasLine}
use Rattle.strm_mux.specs.Texts.{names_lane, lane_text, lane_line, lanes_below}

-- there are bytes
abbrev pub is_some : List ℕ → Bool
is_some [] = false
is_some (b ∷ bytes) = true

is_some-append : (xs ys : List ℕ) → is_some (xs ++ ys) ≡ (is_some xs || is_some ys)
is_some-append [] ys = refl
is_some-append (x ∷ xs) ys = refl

data_named : (lane : ℕ) (bytes : List ℕ) (t p e : Bool) → 0 < length bytes → (t || (p || e)) ≡ ((is_some (cond t bytes []) || p) || e)
data_named lane [] t p e h = absurd (omega arith)
data_named lane (b ∷ bytes) true p e h = refl
data_named lane (b ∷ bytes) false p e h = refl

end_named : (t p e : Bool) → (t || (p || e)) ≡ (p || (t || e))
end_named true true e = refl
end_named true false e = refl
end_named false p e = refl

pub named_tells : (lane : ℕ) (given : List Frame) → All FrameHasLine given → names_lane lane given ≡ (is_some (lane_in lane given) || ends lane given)
unfolding names_lane ends
named_tells lane [] h = refl
named_tells lane (Data l bytes ∷ given) h =
    let rest = named_tells lane given (All-tail FrameHasLine (Data l bytes) given h) in
    let here = All-head FrameHasLine (Data l bytes) given h in
    rw (rest, is_some-append (part_for lane (Data l bytes)) (lane_in lane given)) (data_named lane bytes (l == lane) (is_some (lane_in lane given)) (ends lane given) here.1.some)
named_tells lane (End l ∷ given) h =
    let rest = named_tells lane given (All-tail FrameHasLine (End l) given h) in
    rw rest (end_named (l == lane) (is_some (lane_in lane given)) (ends lane given))

-- THE LINE OF A LANE

module _ (lane : ℕ) (given : List Frame) (bytes : List ℕ) (flag : Bool) (h : All FrameHasLine given) (e : lane_in lane given ≡ bytes) (f : ends lane given ≡ flag) where
  -- it is there where the lane has bytes or ended
  line_by : lane_line lane given ≡ (if is_some bytes || flag then line_ended (lane_text lane bytes flag) else [])
  line_by = shown (names_lane lane given) (lane_in lane given) (ends lane given) (named_tells lane given h) e f
    where
      shown : (n : Bool) (xs : List ℕ) (k : Bool) → n ≡ (is_some xs || k) → xs ≡ bytes → k ≡ flag → (if n then line_ended (lane_text lane xs k) else []) ≡ (if is_some bytes || flag then line_ended (lane_text lane bytes flag) else [])
      shown n xs k d e f = rw (d, e, f) refl

  pub unnamed_line : length bytes ≡ 0 → flag ≡ false → lane_line lane given ≡ []
  unnamed_line z n = line_by ∙ rw n (none bytes z)
    where
      none : (xs : List ℕ) → length xs ≡ 0 → (if is_some xs || false then line_ended (lane_text lane bytes false) else []) ≡ []
      none [] z = refl
      none (x ∷ xs) z = absurd (omega arith)

  -- where it has bytes
  pub line_of_bytes : eqb (length bytes) 0 ≡ false → lane_line lane given ≡ line_ended (lane_text lane bytes flag)
  line_of_bytes n = line_by ∙ some bytes n
    where
      some : (xs : List ℕ) → eqb (length xs) 0 ≡ false → (if is_some xs || flag then line_ended (lane_text lane bytes flag) else []) ≡ line_ended (lane_text lane bytes flag)
      some [] n = cc
      some (x ∷ xs) n = refl

  -- and where it ended
  pub line_of_end : flag ≡ true → lane_line lane given ≡ line_ended (lane_text lane bytes flag)
  line_of_end t = line_by ∙ rw t (either (is_some bytes))
    where
      either : (b : Bool) → (if b || true then line_ended (lane_text lane bytes true) else []) ≡ line_ended (lane_text lane bytes true)
      either true = refl
      either false = refl

-- LINES OF LANES

pub no_lanes : (out : List ℕ) (given : List Frame) → out ≡ out ++ lanes_below 0 given
unfolding lanes_below
no_lanes out given = sym (append-nil out)

pub lanes_more : (old now new : List ℕ) (lane : ℕ) (given : List Frame) → now ≡ old ++ lanes_below lane given → new ≡ now ++ lane_line lane given → new ≡ old ++ lanes_below (lane + 1) given
unfolding lanes_below
lanes_more old now new lane given e f =
    let n : lane + 1 ≡ suc lane = omega arith in
    rw n (f ∙ ap (λ s. s ++ lane_line lane given) e ∙ append_assoc old (lanes_below lane given) (lane_line lane given))
