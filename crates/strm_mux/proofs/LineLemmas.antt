-- A line is read as what it puts exactly where it spells it.
use Rattle.std.proofs.Common.{◌≡◌, Bool, true, false, ℕ, zero, suc, ◌+◌, ◌-◌, ◌<◌, ◌≤◌, List, [], ◌∷◌, ◌++◌, length, map, take, codes, Option, Some, None, Result, Ok, Err, refl, drop, sym, ap, ◌∙◌, arith, inl, inr, append_assoc, length-append}
use Rattle.std.specs.Fmt.{decimal}
use Rattle.std.specs.Prelude.{All, OnOk, ◌↔◌, ◌==◌, if◌then◌else◌, slice_index_or}
use Rattle.std.specs.List.{flat_map}
use Rattle.std.proofs.lemmas.Bool.{cases_lt}
use Rattle.std.proofs.lemmas.List.{append-nil, take_at, take_all, drop_all, length-map, map-append, take-map}
use Rattle.std.proofs.lemmas.List.Concat.{flat_map-append}
use Rattle.std.proofs.lemmas.List.Elements.{All-nil, All-push, All-head, All-tail, All-take}
use Rattle.std.proofs.lemmas.Option.{same_Some}
use Rattle.std.proofs.lemmas.Result.{IfOk-at_ok}
use Rattle.strm_lines.specs.Grammar.{IsBetween, IsLineBytes}
use Rattle.strm_lines.specs.Lines.{on_first, lines_of}
use Rattle.strm_lines.specs.Reading.{behind, followed_by, hex}
use Rattle.strm_lines.specs.Words.{hex_pairs}
use Rattle.strm_lines.proofs.CutLemmas.{option_map_some}
use Rattle.strm_lines.proofs.HexLemmas.{length-hex_pairs}
use Rattle.strm_lines.proofs.NumberLemmas.{IsWithout-decimal}
use Rattle.strm_lines.proofs.ReadingLemmas.{IsReading, IsWord, IsReading-within, IsReading-hex, IsReading-followed_by, behind_sound, behind_complete}
use Rattle.strm_frames.specs.Frames.{Frame, Data, End, lane_named, spelled, encoding, IsFrame, ends, AreFrames, AreFramesAfter}
use Rattle.strm_frames.specs.declared.errors.MuxError.{MuxError}
use Rattle.strm_frames.specs.declared.errors.MuxError.TheVariants as errors
use Rattle.strm_frames.specs.Muxes.{Written, pieces_of, MuxCarries}
use Rattle.strm_frames.proofs.DemuxLemmas.{are_append}
use Rattle.strm_frames.proofs.MuxLemmas.{pieces_none, pieces_some}
use Rattle.strm_mux.specs.Lines.{line_of_frame, FrameHasLine, Puts, IsFirstBadLaneLine}
use Rattle.strm_mux.specs.LineReading.{lane_read, data_read, end_read, other_read, front_read, line_read, TakesLine, IsRefused, HoldsLines, HoldsSoFar}

-- ONE LINE

IsReading-lane : IsReading lane_read decimal (IsBetween 0 255)
IsReading-lane = IsReading-within 0 255 (omega arith)

-- the number of a lane is a byte
pub lane_fits : (word : List ℕ) (n : ℕ) → lane_read word ≡ Some n → n < 256
lane_fits word n e = let r = IsReading-lane.sound word n e in omega (arith, r.1.1)

IsWord-lane : IsWord decimal (IsBetween 0 255)
IsWord-lane = record { spaceless = λ x f. IsWithout-decimal x (omega (arith, f.1)) }

IsReading-data : IsReading (followed_by lane_read hex) (λ p. decimal p.0 ++ 32 ∷ hex_pairs p.1) (λ p. IsBetween 0 255 p.0 × IsLineBytes p.1)
IsReading-data = IsReading-followed_by IsReading-lane IsWord-lane IsReading-hex

data_sound : (rest : List ℕ) (f : Frame) → data_read rest ≡ Some f → (line_of_frame f ≡ codes "lane " ++ rest) × FrameHasLine f
data_sound rest f e =
    option_map_some (λ p. Data p.0 p.1) (followed_by lane_read hex rest) f e (λ p s u.
    let r = IsReading-data.sound rest p s in
    rw (← u) (ap (λ w. codes "lane " ++ w) r.0, (r.1.0.1, r.1.1)))

end_sound : (rest : List ℕ) (f : Frame) → end_read rest ≡ Some f → (line_of_frame f ≡ codes "end " ++ rest) × FrameHasLine f
end_sound rest f e =
    option_map_some (λ lane. End lane) (lane_read rest) f e (λ n s u.
    let r = IsReading-lane.sound rest n s in
    rw (← u) (ap (λ w. codes "end " ++ w) r.0, r.1.1))

-- what is read is spelled by the line
pub line_sound : (line : List ℕ) (f : Frame) → line_read line ≡ Some f → (line_of_frame f ≡ line) × FrameHasLine f
unfolding line_read
line_sound line f e = by_front (behind (codes "lane ") line) refl e
  where
    by_end : (o : Option (List ℕ)) → behind (codes "end ") line ≡ o → other_read o ≡ Some f → (line_of_frame f ≡ line) × FrameHasLine f
    by_end (Some rest) b e = rw (behind_sound (codes "end ") line rest b) (end_sound rest f e)
    by_end None b e = cc

    by_front : (o : Option (List ℕ)) → behind (codes "lane ") line ≡ o → front_read o line ≡ Some f → (line_of_frame f ≡ line) × FrameHasLine f
    by_front (Some rest) b e = rw (behind_sound (codes "lane ") line rest b) (data_sound rest f e)
    by_front None b e = by_end (behind (codes "end ") line) refl e

not_lane : (rest : List ℕ) → behind (codes "lane ") (codes "end " ++ rest) ≡ None
unfolding behind
not_lane rest = refl

-- and what is spelled is read
pub line_complete : (f : Frame) → FrameHasLine f → line_read (line_of_frame f) ≡ Some f
unfolding line_read
line_complete (Data lane bytes) h =
    let e : behind (codes "lane ") (line_of_frame (Data lane bytes)) ≡ Some (decimal lane ++ 32 ∷ hex_pairs bytes) = behind_complete (codes "lane ") (decimal lane ++ 32 ∷ hex_pairs bytes) in
    rw (e, IsReading-data.complete (lane, bytes) ((omega arith, h.0), h.1)) refl
line_complete (End lane) h =
    let n : behind (codes "lane ") (line_of_frame (End lane)) ≡ None = not_lane (decimal lane) in
    let e : behind (codes "end ") (line_of_frame (End lane)) ≡ Some (decimal lane) = behind_complete (codes "end ") (decimal lane) in
    rw (n, e, IsReading-lane.complete lane (omega arith, h)) refl

-- what has a line is a frame
is_frame : (f : Frame) → FrameHasLine f → IsFrame f
is_frame (Data lane bytes) h = (h.1.some, omega (arith, h.1.most))
is_frame (End lane) h = tt

-- of a lane that a byte names
names_byte : (f : Frame) → FrameHasLine f → lane_named f < 256
names_byte (Data lane bytes) h = omega (arith, h.0)
names_byte (End lane) h = omega (arith, h)

-- and is no longer than it
short_line : (f : Frame) → FrameHasLine f → length (spelled f) ≤ length (line_of_frame f)
short_line (Data lane bytes) h =
    let inner = length-append (decimal lane) (32 ∷ hex_pairs bytes) in
    omega (arith, length-hex_pairs bytes, inner)
short_line (End lane) h = omega arith

-- LINES

heads : (a b : List ℕ) (xs ys : List (List ℕ)) → a ∷ xs ≡ b ∷ ys → a ≡ b
heads a b xs ys e = cc

tails : (a b : List ℕ) (xs ys : List (List ℕ)) → a ∷ xs ≡ b ∷ ys → xs ≡ ys
tails a b xs ys e = cc

-- one line puts one thing
same_frame : (f g : Frame) → FrameHasLine f → FrameHasLine g → line_of_frame f ≡ line_of_frame g → f ≡ g
same_frame f g h i e = same_Some f g (sym (line_complete f h) ∙ ap line_read e ∙ line_complete g i)

same_frames : (fs gs : List Frame) → All FrameHasLine fs → All FrameHasLine gs → map line_of_frame fs ≡ map line_of_frame gs → fs ≡ gs
same_frames [] [] f g e = refl
same_frames [] (y ∷ gs) f g e = cc
same_frames (x ∷ fs) [] f g e = cc
same_frames (x ∷ fs) (y ∷ gs) f g e =
    let one : x ≡ y = same_frame x y (All-head FrameHasLine x fs f) (All-head FrameHasLine y gs g) (heads (line_of_frame x) (line_of_frame y) (map line_of_frame fs) (map line_of_frame gs) e) in
    let rest : fs ≡ gs = same_frames fs gs (All-tail FrameHasLine x fs f) (All-tail FrameHasLine y gs g) (tails (line_of_frame x) (line_of_frame y) (map line_of_frame fs) (map line_of_frame gs) e) in
    rw (one, rest) refl

pub one_given : (lines : List (List ℕ)) (given others : List Frame) → Puts lines given → Puts lines others → given ≡ others
one_given lines given others p q = same_frames given others p.have q.have (sym p.each ∙ q.each)

-- the first of them are lines too
take_are : (n : ℕ) (earlier given : List Frame) → AreFramesAfter earlier given → AreFramesAfter earlier (take n given)
unfolding AreFramesAfter
take_are zero earlier given h = tt
take_are (suc n) earlier [] h = tt
take_are (suc n) earlier (f ∷ given) h = (h.0, h.1, take_are n (earlier ++ f ∷ []) given h.2)

puts_first : (n : ℕ) (lines : List (List ℕ)) (given : List Frame) → Puts lines given → Puts (take n lines) (take n given)
puts_first n lines given p = record {
  each = ap (take n) p.each ∙ take-map line_of_frame n given;
  have = All-take FrameHasLine n given p.have;
  are = take_are n [] given p.are;
}

-- lines that put something have no bad one
pub puts_not_bad : (lines : List (List ℕ)) (given : List Frame) (line : ℕ) → Puts lines given → ¬ IsFirstBadLaneLine lines line
puts_not_bad lines given line p b = b.bad (take line given) (puts_first line lines given p)

take_take : (n k : ℕ) (lines : List (List ℕ)) → n ≤ k → take n (take k lines) ≡ take n lines
take_take zero k lines h = refl
take_take (suc n) zero lines h = absurd (omega arith)
take_take (suc n) (suc k) [] h = refl
take_take (suc n) (suc k) (l ∷ lines) h = ap (λ ls. l ∷ ls) (take_take n k lines (omega arith))

none_before : (lines : List (List ℕ)) (line other : ℕ) → IsFirstBadLaneLine lines line → IsFirstBadLaneLine lines other → ¬ (line < other)
none_before lines line other b o h =
    let p = puts_first line (take (other - 1) lines) o.before.0 o.before.1 in
    b.bad (take line o.before.0) (rw (take_take line (other - 1) lines (omega (arith, b.first))) at p)

pub one_bad : (lines : List (List ℕ)) (line other : ℕ) → IsFirstBadLaneLine lines line → IsFirstBadLaneLine lines other → line ≡ other
one_bad lines line other b o =
    elim (cases_lt line other) [
      | inl h ↦ absurd (none_before lines line other b o h)
      | inr h ↦ elim (cases_lt other line) [ inl i ↦ absurd (none_before lines other line o b i) | inr i ↦ omega arith ]
    ]

-- WHAT A MUX TAKES OF A LINE

-- so few bytes are one frame
one_piece : (lane : ℕ) (bytes : List ℕ) → 0 < length bytes → length bytes ≤ 255 → encoding (pieces_of lane bytes) ≡ spelled (Data lane bytes)
one_piece lane bytes some few =
    let rest : drop 255 bytes ≡ [] = drop_all 255 bytes few in
    let none : pieces_of lane (drop 255 bytes) ≡ [] = pieces_none lane (drop 255 bytes) (ap length rest) in
    ap encoding (pieces_some lane bytes some) ∙ rw (none, take_all 255 bytes few) (append-nil (spelled (Data lane bytes)))

-- a lane that is not said to have ended did not
not_ended : (flag : Bool) (r : Result (Unit {0}) MuxError) (lane : ℕ) (u : Unit {0}) → r ≡ Ok u → ((r ≡ Err (errors.Ended lane)) ↔ (flag ≡ true)) → flag ≡ false
not_ended false r lane u e f = refl
not_ended true r lane u e f = let g : r ≡ Err (errors.Ended lane) = f.1 refl in cc

-- what was put is one frame
pub data_taken : (old now : Written) (lane : ℕ) (piece : List ℕ) (r : Result (Unit {0}) MuxError) → FrameHasLine (Data lane piece) → OnOk r (now ≡ record old { bytes = old.bytes ++ encoding (pieces_of lane piece) }) → OnOk r (now.bytes ≡ old.bytes ++ spelled (Data lane piece))
data_taken old now lane piece (Ok u) h e =
    ap (λ (w : Written). w.bytes) e ∙ ap (λ s. old.bytes ++ s) (one_piece lane piece h.1.some (omega (arith, h.1.most)))
data_taken old now lane piece (Err error) h e = e

pub end_taken : (old now : Written) (lane : ℕ) (flags : List Bool) (r : Result (Unit {0}) MuxError) → OnOk r (now ≡ record { bytes = old.bytes ++ spelled (End lane); ended = flags }) → OnOk r (now.bytes ≡ old.bytes ++ spelled (End lane))
end_taken old now lane flags (Ok u) e = ap (λ (w : Written). w.bytes) e
end_taken old now lane flags (Err error) e = e

-- what a put or an end of a frame answers, and leaves
pub record Answers (old now : Written) (f : Frame) (r : Result (Unit {0}) MuxError) : Type 0 where
  pub taken : OnOk r (now.bytes ≡ old.bytes ++ spelled f)
  pub carries : (given : List Frame) → MuxCarries old given → OnOk r (MuxCarries now (given ++ f ∷ []))
  pub ended : (r ≡ Err (errors.Ended (lane_named f))) ↔ (slice_index_or old.ended (lane_named f) false ≡ true)

pub takes : (old now new : Written) (line : List ℕ) (f : Frame) (r : Result (Unit {0}) MuxError) (u : Unit {0}) → line_read line ≡ Some f → r ≡ Ok u → new ≡ now → Answers old now f r → TakesLine old new line
takes old now new line f r u read ok is a =
    rw is (record {
      frame = f;
      read = read;
      unended = not_ended (slice_index_or old.ended (lane_named f) false) r (lane_named f) u ok a.ended;
      bytes = IfOk-at_ok (λ _. now.bytes ≡ old.bytes ++ spelled f) ok a.taken;
      carries = λ given c. IfOk-at_ok (λ _. MuxCarries now (given ++ f ∷ [])) ok (a.carries given c);
    })

-- WHAT A MUX HOLDS OF THEM

pub nothing_held : (written : Written) (bytes : List ℕ) → written.bytes ≡ [] → MuxCarries written [] → HoldsSoFar written bytes bytes 0
unfolding AreFramesAfter
nothing_held written bytes e c = record {
  given = [];
  lines = refl;
  have = All-nil FrameHasLine;
  are = tt;
  carries = c;
  spelled_is = e;
  count_is = refl;
}

spelling_more : (given : List Frame) (f : Frame) → encoding (given ++ f ∷ []) ≡ encoding given ++ spelled f
spelling_more given f = flat_map-append spelled given (f ∷ []) ∙ ap (λ s. encoding given ++ s) (append-nil (spelled f))

are_more : (given : List Frame) (f : Frame) → AreFrames given → IsFrame f → ends (lane_named f) given ≡ false → AreFrames (given ++ f ∷ [])
unfolding AreFramesAfter
are_more given f a i e = are_append [] given (f ∷ []) a (i, e, tt)

-- a line more
pub held_more : (old new : Written) (bytes rest line after : List ℕ) (count : ℕ) → HoldsSoFar old bytes rest count → lines_of rest ≡ line ∷ lines_of after → TakesLine old new line → HoldsSoFar new bytes after (count + 1)
held_more old new bytes rest line after count h e t =
    let f = t.frame in
    let r : (line_of_frame f ≡ line) × FrameHasLine f = line_sound line f t.read in
    let open_lane : ends (lane_named f) h.given ≡ false = sym (h.carries.flags (lane_named f) (names_byte f r.1)) ∙ t.unended in
    record {
      given = h.given ++ f ∷ [];
      lines = h.lines ∙ ap (λ ls. map line_of_frame h.given ++ ls) e ∙ rw (map-append, ← r.0) (sym (append_assoc (map line_of_frame h.given) (line_of_frame f ∷ []) (lines_of after)));
      have = All-push FrameHasLine h.given f h.have r.1;
      are = are_more h.given f h.are (is_frame f r.1) open_lane;
      carries = t.carries h.given h.carries;
      spelled_is = t.bytes ∙ ap (λ s. s ++ spelled f) h.spelled_is ∙ sym (spelling_more h.given f);
      count_is = omega (arith, h.count_is, length-append h.given (f ∷ []));
    }

-- all of them
pub all_held : (written : Written) (bytes rest : List ℕ) (count : ℕ) → HoldsSoFar written bytes rest count → length rest ≡ 0 → HoldsLines written (lines_of bytes)
unfolding lines_of
all_held written bytes [] count h z = record {
  given = h.given;
  puts = record { each = h.lines ∙ append-nil (map line_of_frame h.given); have = h.have; are = h.are };
  carries = h.carries;
  bytes = h.spelled_is;
}
all_held written bytes (b ∷ rest) count h z = absurd (omega arith)

-- what is behind frames that have these lines
record Last (earlier : List Frame) (line : List ℕ) : Type 0 where
  frame : Frame
  same : line_of_frame frame ≡ line
  has : FrameHasLine frame
  unended : ends (lane_named frame) earlier ≡ false

last_of : (earlier given others : List Frame) (line : List ℕ) → map line_of_frame others ≡ map line_of_frame given ++ line ∷ [] → All FrameHasLine given → All FrameHasLine others → AreFramesAfter earlier others → Last (earlier ++ given) line
unfolding AreFramesAfter
last_of earlier [] [] line e f g a = cc
last_of earlier [] (y ∷ others) line e f g a =
    rw append-nil (record {
      frame = y;
      same = heads (line_of_frame y) line (map line_of_frame others) [] e;
      has = All-head FrameHasLine y others g;
      unended = a.1;
    })
last_of earlier (x ∷ given) [] line e f g a = cc
last_of earlier (x ∷ given) (y ∷ others) line e f g a =
    let one : y ≡ x = same_frame y x (All-head FrameHasLine y others g) (All-head FrameHasLine x given f) (heads (line_of_frame y) (line_of_frame x) (map line_of_frame others) (map line_of_frame given ++ line ∷ []) e) in
    let rest = last_of (earlier ++ y ∷ []) given others line (tails (line_of_frame y) (line_of_frame x) (map line_of_frame others) (map line_of_frame given ++ line ∷ []) e) (All-tail FrameHasLine x given f) (All-tail FrameHasLine y others g) a.2 in
    rw (append_assoc earlier (y ∷ []) given, one) at rest

take_behind : (xs more : List (List ℕ)) (line : List ℕ) (n : ℕ) → n ≡ length xs → take (n + 1) (xs ++ line ∷ more) ≡ xs ++ line ∷ []
take_behind [] more line n e = rw e refl
take_behind (x ∷ xs) more line n e =
    let k : n + 1 ≡ suc (length xs + 1) = omega (arith, e) in
    rw k (ap (λ ls. x ∷ ls) (take_behind xs more line (length xs) refl))

-- a line that is refused is the first bad one
pub refused_line : (old : Written) (bytes rest line after : List ℕ) (count : ℕ) → HoldsSoFar old bytes rest count → lines_of rest ≡ line ∷ lines_of after → IsRefused old line → IsFirstBadLaneLine (lines_of bytes) (count + 1)
refused_line old bytes rest line after count h e refused =
    let front = map line_of_frame h.given in
    let long : count ≡ length front = h.count_is ∙ sym (length-map h.given line_of_frame) in
    let all : lines_of bytes ≡ front ++ line ∷ lines_of after = h.lines ∙ ap (λ ls. front ++ ls) e in
    let back : count + 1 - 1 ≡ count = omega arith in
    rw all (record {
      first = omega arith;
      last = omega (arith, long, length-append front (line ∷ lines_of after));
      before = (h.given, rw back (record { each = take_at front (line ∷ lines_of after) count (sym long); have = h.have; are = h.are }));
      bad = λ others p.
          let l = last_of [] h.given others line (sym p.each ∙ take_behind front (lines_of after) line count long) h.have p.have p.are in
          let ended = refused l.frame (ap line_read (sym l.same) ∙ line_complete l.frame l.has) in
          let flag = h.carries.flags (lane_named l.frame) (names_byte l.frame l.has) in
          let both : true ≡ false = sym ended ∙ flag ∙ l.unended in cc;
    })

-- A MUX OF LINES IS NO LONGER THAN THEY ARE

-- the bytes of lines, without what ends them
abbrev joined : List (List ℕ) → List ℕ
joined lines = flat_map (λ l. l) lines

joined_first : (b : ℕ) (lines : List (List ℕ)) → length (joined (on_first b lines)) ≡ 1 + length (joined lines)
joined_first b [] = refl
joined_first b (l ∷ lines) = omega arith

length-lines : (bytes : List ℕ) → length (joined (lines_of bytes)) ≤ length bytes
unfolding lines_of
length-lines [] = omega arith
length-lines (b ∷ bytes) = one_more (b == 10) (length-lines bytes)
  where
    one_more : (t : Bool) → length (joined (lines_of bytes)) ≤ length bytes → length (joined (if t then [] ∷ lines_of bytes else on_first b (lines_of bytes))) ≤ length (b ∷ bytes)
    one_more true h = omega (arith, h)
    one_more false h = omega (arith, joined_first b (lines_of bytes), h)

short_lines : (given : List Frame) → All FrameHasLine given → length (encoding given) ≤ length (joined (map line_of_frame given))
short_lines [] h = omega arith
short_lines (f ∷ given) h =
    omega (arith, short_line f (All-head FrameHasLine f given h), short_lines given (All-tail FrameHasLine f given h), length-append (spelled f) (encoding given), length-append (line_of_frame f) (joined (map line_of_frame given)))

pub short_mux : (written : Written) (input : List ℕ) → HoldsLines written (lines_of input) → length written.bytes ≤ length input
short_mux written input h =
    omega (arith, ap length h.bytes, short_lines h.given h.puts.have, ap (λ ls. length (joined ls)) h.puts.each, length-lines input)
