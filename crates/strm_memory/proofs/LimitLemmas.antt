-- Items copied byte by byte under limits, instead of item by item.
use Rattle.std.proofs.Common.{◌≡◌, ℕ, zero, suc, ◌+◌, ◌*◌, ◌<◌, ◌≤◌, ◌-◌, Bool, true, false, cond, List, [], ◌∷◌, ◌++◌, length, take, drop, replicate, refl, sym, ap, ◌∙◌, append_assoc, arith, length-drop, length-append, append-nil, min, map, lit≤}
use Rattle.std.proofs.lemmas.Bool.{ltb-true, ltb-false}
use Rattle.std.proofs.lemmas.List.{length-take, length-take-le, drop-drop, take_at, drop_at, take-append-drop, take-take, take-append-le, drop-take, drop_all, take-replicate, drop-replicate, length-replicate, replicate-append-replicate}
use Rattle.std.proofs.Math.Seq.{take-add, take-append-add}
use Rattle.std.specs.Prelude.{ltb, eqb}
use lib.Lanes.{zip2, sel_l, chunk, put_chunk, top}
use Rattle.std.proofs.lemmas.Simd.{tops_compared}
use Rattle.std.specs.Int.{w8}
use Rattle.strm_codes.specs.Scalars.{size_of}
use Rattle.strm_codes.specs.Offsets.{gap_before}
use Rattle.strm_codes.specs.Fields.{end_offset, fields_size}
use Rattle.strm_codes.proofs.LayoutLemmas.{le-end_offset}
use Rattle.std.proofs.Math.Nat.{mul-le-mul_left}
use Rattle.strm_memory.proofs.FieldLemmas.{IsField, drop_field, length-settled}
use Rattle.strm_codes.specs.declared.scalars.Scalar.{Scalar}
use Rattle.strm_codes.specs.declared.scalars.Scalar.TheVariants.{Bool as Flag, S8, U8, S16, U16, S32, U32, S64, U64, Char, F32, F64}
use Rattle.strm_memory.specs.Bytes.{put_at, bytes_at, IsBytes}
use Rattle.strm_memory.specs.Copies.{bytes_settled, copied_from, copied, limited, blended, blended_on, limit_of, limit_bytes, limits_from, item_limits, repeated}
use Rattle.strm_memory.proofs.ByteLemmas.{IsBytes-drop, put_chunk-put_at, length-put_at}
use Rattle.strm_memory.proofs.ItemLemmas.{sweep_more}

-- ## Bytes under limits

-- only the bytes that have a limit change
pub drop-blended : (ls source bytes : List ℕ) → drop (length ls) (blended ls source bytes) ≡ drop (length ls) bytes
unfolding blended
drop-blended [] source bytes = refl
drop-blended (l ∷ ls) [] bytes = refl
drop-blended (l ∷ ls) (s ∷ source) [] = refl
drop-blended (l ∷ ls) (s ∷ source) (b ∷ bytes) = drop-blended ls source bytes

pub length-blended : (ls source bytes : List ℕ) → length (blended ls source bytes) ≡ length bytes
unfolding blended
length-blended [] source bytes = refl
length-blended (l ∷ ls) [] bytes = refl
length-blended (l ∷ ls) (s ∷ source) [] = refl
length-blended (l ∷ ls) (s ∷ source) (b ∷ bytes) = ap suc (length-blended ls source bytes)

blended-append : (xs ys source bytes : List ℕ) → length xs ≤ length source → length xs ≤ length bytes → blended (xs ++ ys) source bytes ≡ take (length xs) (blended xs source bytes) ++ blended ys (drop (length xs) source) (drop (length xs) bytes)
unfolding blended
blended-append [] ys source bytes h l = refl
blended-append (x ∷ xs) ys [] bytes h l = absurd (omega arith)
blended-append (x ∷ xs) ys (s ∷ source) [] h l = absurd (omega arith)
blended-append (x ∷ xs) ys (s ∷ source) (b ∷ bytes) h l = ap (λ t. limited x s b ∷ t) (blended-append xs ys source bytes (omega arith) (omega arith))

-- after the first limits, the rest
pub blended_more : (ls source m : List ℕ) (from to n : ℕ) → n ≤ length ls → from + n ≤ length source → to + n ≤ length m → blended_on (drop n ls) source (from + n) (to + n) (blended_on (take n ls) source from to m) ≡ blended_on ls source from to m
blended_more ls source m from to n h l k =
    let front = take n ls in
    let wide : length front ≡ n = length-take-le n ls h in
    let e = blended front (drop from source) (drop to m) in
    let behind : drop n e ≡ drop n (drop to m) = ap (λ i. drop i e) (sym wide) ∙ drop-blended front (drop from source) (drop to m) ∙ ap (λ i. drop i (drop to m)) wide in
    let whole : blended ls (drop from source) (drop to m) ≡ take n e ++ blended (drop n ls) (drop n (drop from source)) (drop n (drop to m)) =
    ap (λ xs. blended xs (drop from source) (drop to m)) (sym (take-append-drop n ls))
    ∙ blended-append front (drop n ls) (drop from source) (drop to m) (omega (arith, wide, length-drop from source)) (omega (arith, wide, length-drop to m))
    ∙ rw wide refl in
    sweep_more m to n e (λ b. blended (drop n ls) (drop (from + n) source) b) (omega arith)
    ∙ rw (behind, ← drop-drop n from source, whole) refl

pub blended_none : (source m : List ℕ) (from to : ℕ) → blended_on [] source from to m ≡ m
unfolding blended
blended_none source m from to = take-append-drop to m

-- ## Vectors of bytes

min_cases : (x y : ℕ) → min x y ≡ cond (ltb x y) x y
min_cases x y = either (ltb x y) refl
  where
    either : (b : Bool) → ltb x y ≡ b → min x y ≡ cond b x y
    either true e = omega (arith, ltb-true x y e)
    either false e = omega (arith, ltb-false x y e)

-- what a vector of bytes becomes
blended-lanes : (ls source bytes : List ℕ) (n : ℕ) → length ls ≡ n → length source ≡ n → length bytes ≡ n → sel_l (zip2 eqb ls (replicate n 0)) bytes (sel_l (zip2 ltb source ls) source ls) ≡ blended ls source bytes
unfolding blended
blended-lanes [] [] [] zero e h l = refl
blended-lanes [] [] [] (suc n) e h l = absurd (omega arith)
blended-lanes [] (s ∷ source) bytes n e h l = absurd (omega arith)
blended-lanes [] [] (b ∷ bytes) n e h l = absurd (omega arith)
blended-lanes (x ∷ ls) source bytes zero e h l = absurd (omega arith)
blended-lanes (x ∷ ls) [] bytes (suc n) e h l = absurd (omega arith)
blended-lanes (x ∷ ls) (s ∷ source) [] (suc n) e h l = absurd (omega arith)
blended-lanes (x ∷ ls) (s ∷ source) (b ∷ bytes) (suc n) e h l =
    rw (min_cases s x, blended-lanes ls source bytes n (omega arith) (omega arith) (omega arith)) refl

-- so many bytes under limits, and others behind them
blended-front : (ls source bytes : List ℕ) (n : ℕ) → length ls ≡ n → n ≤ length source → n ≤ length bytes → (rest : List ℕ) → drop n bytes ≡ rest → blended ls (take n source) (take n bytes) ++ rest ≡ blended ls source bytes
unfolding blended
blended-front [] source bytes zero e h l rest f = sym f
blended-front [] source bytes (suc n) e h l rest f = absurd (omega arith)
blended-front (x ∷ ls) source bytes zero e h l rest f = absurd (omega arith)
blended-front (x ∷ ls) [] bytes (suc n) e h l rest f = absurd (omega arith)
blended-front (x ∷ ls) (s ∷ source) [] (suc n) e h l rest f = absurd (omega arith)
blended-front (x ∷ ls) (s ∷ source) (b ∷ bytes) (suc n) e h l rest f =
    ap (λ t. limited x s b ∷ t) (blended-front ls source bytes n (omega arith) (omega arith) (omega arith) rest f)

-- bytes under limits as the code makes them, of the lanes' top bits
abbrev pub lanes_put : (ls source m : List ℕ) (from to n : ℕ) → List ℕ
lanes_put ls source m from to n = put_chunk to m (sel_l (map (top 7) (zip2 (λ a b. cond (eqb a b) 255 0) ls (replicate n 0))) (chunk to n m) (sel_l (map (top 7) (zip2 (λ a b. cond (ltb a b) 255 0) (chunk from n source) ls)) (chunk from n source) ls))

-- they are the same
pub lanes_blended : (ls source m : List ℕ) (from to n : ℕ) → length ls ≡ n → from + n ≤ length source → to + n ≤ length m → lanes_put ls source m from to n ≡ blended_on ls source from to m
lanes_blended ls source m from to n e h l =
    let s = take n (drop from source) in
    let b = take n (drop to m) in
    let es : length s ≡ n = length-take-le n (drop from source) (omega (arith, length-drop from source)) in
    let eb : length b ≡ n = length-take-le n (drop to m) (omega (arith, length-drop to m)) in
    let lanes : sel_l (zip2 eqb ls (replicate n 0)) b (sel_l (zip2 ltb s ls) s ls) ≡ blended ls s b = blended-lanes ls s b n e es eb in
    let size : length (blended ls s b) ≡ n = length-blended ls s b ∙ eb in
    rw (tops_compared w8 eqb ls (replicate n 0), tops_compared w8 ltb s ls, lanes)
    (put_chunk-put_at m to (blended ls s b) (omega (arith, size))
    ∙ rw size (append_assoc (take to m) (blended ls s b) (drop (to + n) m))
    ∙ ap (λ t. take to m ++ t) (blended-front ls (drop from source) (drop to m) n e (omega (arith, length-drop from source)) (omega (arith, length-drop to m)) (drop (to + n) m) (drop-drop n to m)))

-- a number of whole vectors more
pub front_of_front : (limits : List ℕ) (len k n : ℕ) → k + n ≤ len → take n (drop k (take len limits)) ≡ take n (drop k limits)
front_of_front limits len k n h =
    let split : len ≡ k + (len - k) = omega arith in
    rw split (rw (drop-take k (len - k) limits) (take-take n (len - k) (drop k limits) (omega arith)))

module _ (limits source m : List ℕ) (len from to k n : ℕ) where
  -- bytes under the limits behind so many of them
  abbrev behind : ℕ → List ℕ → List ℕ
  behind i bytes = blended_on (drop i (take len limits)) source (from + i) (to + i) bytes

  pub vector_more : k + n ≤ len → len ≤ length limits → from + len ≤ length source → to + len ≤ length m → behind (k + n) (blended_on (bytes_at limits k n) source (from + k) (to + k) m) ≡ behind k m
  vector_more h l p q =
      let ls = drop k (take len limits) in
      let size : length (take len limits) ≡ len = length-take-le len limits l in
      let rest : length ls ≡ len - k = length-drop k (take len limits) ∙ ap (λ i. i - k) size in
      let a : from + (k + n) ≡ from + k + n = omega arith in
      let b : to + (k + n) ≡ to + k + n = omega arith in
      rw (a, b, ← drop-drop n k (take len limits), ← front_of_front limits len k n h)
      (blended_more ls source m (from + k) (to + k) n (omega (arith, rest)) (omega arith) (omega arith))

-- all limits used
pub vectors_end : (limits source m : List ℕ) (len k from to : ℕ) → len ≤ k → blended_on (drop k (take len limits)) source from to m ≡ m
vectors_end limits source m len k from to h =
    rw (drop_all k (take len limits) (omega (arith, length-take len limits))) (blended_none source m from to)

-- ## Limits of many items

pub length-repeated : (n : ℕ) (xs : List ℕ) → length (repeated n xs) ≡ length xs * n
unfolding repeated
length-repeated zero xs = omega arith
length-repeated (suc n) xs = length-append xs (repeated n xs) ∙ omega (arith, length-repeated n xs)

pub repeated-add : (n m : ℕ) (xs : List ℕ) → repeated (n + m) xs ≡ repeated n xs ++ repeated m xs
unfolding repeated
repeated-add zero m xs = let e : zero + m ≡ m = omega arith in rw e refl
repeated-add (suc n) m xs =
    let e : suc n + m ≡ suc (n + m) = omega arith in
    rw (e, repeated-add n m xs) (sym (append_assoc xs (repeated n xs) (repeated m xs)))

-- the first n of them
pub take-repeated : (n m : ℕ) (xs : List ℕ) → n ≤ m → take (length xs * n) (repeated m xs) ≡ repeated n xs
take-repeated n m xs h =
    let e : m ≡ n + (m - n) = omega arith in
    rw (e, repeated-add n (m - n) xs) (take_at (repeated n xs) (repeated (m - n) xs) (length xs * n) (length-repeated n xs))

pub drop-repeated : (n m : ℕ) (xs : List ℕ) → n ≤ m → drop (length xs * n) (repeated m xs) ≡ repeated (m - n) xs
drop-repeated n m xs h =
    let e : m ≡ n + (m - n) = omega arith in
    let f : n + (m - n) - n ≡ m - n = omega arith in
    rw (e, repeated-add n (m - n) xs, f) (drop_at (repeated n xs) (repeated (m - n) xs) (length xs * n) (length-repeated n xs))

-- the limits of an item, and of some that repeat it
abbrev item_of : List ℕ → ℕ → List ℕ
item_of limits size = take size limits

pub periods_front : (limits : List ℕ) (len size items n : ℕ) → len ≡ size * items → size ≤ length limits → take len limits ≡ repeated items (item_of limits size) → n ≤ items → take (size * n) limits ≡ repeated n (item_of limits size)
periods_front limits len size items n e h p l =
    let w : length (item_of limits size) ≡ size = length-take-le size limits h in
    let fits : size * n ≤ len = rw e (mul-le-mul_left size l) in
    let same : size * n ≡ length (item_of limits size) * n = ap (λ i. i * n) (sym w) in
    sym (take-take (size * n) len limits fits)
    ∙ ap (take (size * n)) p
    ∙ ap (λ i. take i (repeated items (item_of limits size))) same
    ∙ take-repeated n items (item_of limits size) l

pub item_within : (len size items most : ℕ) → 1 ≤ items → len ≡ size * items → len ≤ most → size ≤ most
item_within len size items most h e l =
    let split : items ≡ 1 + (items - 1) = omega arith in
    let fits : size ≤ size * items = rw split (omega arith) in
    omega arith

module _ (limits source m : List ℕ) (len size items count done from to : ℕ) (e : len ≡ size * items) (h : size ≤ length limits) (p : take len limits ≡ repeated items (item_of limits size)) where
  -- bytes under the limits of all items behind so many of them
  abbrev periods_behind : ℕ → List ℕ → List ℕ
  periods_behind i bytes = blended_on (repeated (count - i) (item_of limits size)) source (from + size * i) (to + size * i) bytes

  pub periods_more : done + items ≤ count → from + size * count ≤ length source → to + size * count ≤ length m → periods_behind (done + items) (blended_on (take len limits) source (from + size * done) (to + size * done) m) ≡ periods_behind done m
  periods_more l k q =
      let one = item_of limits size in
      let w : length one ≡ size = length-take-le size limits h in
      let ls = repeated (count - done) one in
      let same : len ≡ length one * items = e ∙ ap (λ i. i * items) (sym w) in
      let few : items ≤ count - done = omega arith in
      let fits : size * done + size * items ≤ size * count = omega (arith, mul-le-mul_left size l) in
      let front : take len ls ≡ take len limits = rw same (take-repeated items (count - done) one few) ∙ sym p in
      let left : count - done - items ≡ count - (done + items) = omega arith in
      let behind : drop len ls ≡ repeated (count - (done + items)) one = rw (same, ← left) (drop-repeated items (count - done) one few) in
      let long : len ≤ length ls = rw (length-repeated (count - done) one, same) (mul-le-mul_left (length one) few) in
      let a : from + size * (done + items) ≡ from + size * done + len = omega (arith, e) in
      let b : to + size * (done + items) ≡ to + size * done + len = omega (arith, e) in
      rw (a, b, ← behind, ← front) (blended_more ls source m (from + size * done) (to + size * done) len long (omega (arith, e, fits)) (omega (arith, e, fits)))

-- ## The limits of an item

length-limit_bytes : (s : Scalar) → length (limit_bytes s) ≡ 8
length-limit_bytes Flag = refl
length-limit_bytes S8 = refl
length-limit_bytes U8 = refl
length-limit_bytes S16 = refl
length-limit_bytes U16 = refl
length-limit_bytes S32 = refl
length-limit_bytes U32 = refl
length-limit_bytes S64 = refl
length-limit_bytes U64 = refl
length-limit_bytes Char = refl
length-limit_bytes F32 = refl
length-limit_bytes F64 = refl

pub limit_put : (m new : List ℕ) (start : ℕ) (s : Scalar) → start + 8 ≤ length m → new ≡ limit_bytes s → put_chunk start m new ≡ put_at m start (limit_bytes s)
limit_put m new start s h e = rw e (put_chunk-put_at m start (limit_bytes s) (omega (arith, h, length-limit_bytes s)))

pub length-limit_put : (m : List ℕ) (start : ℕ) (s : Scalar) → start + 8 ≤ length m → length (put_at m start (limit_bytes s)) ≡ length m
length-limit_put m start s h = length-put_at m start (limit_bytes s) (omega (arith, h, length-limit_bytes s))

size_of_most : (s : Scalar) → size_of s ≤ 8
size_of_most Flag = lit≤ tt
size_of_most S8 = lit≤ tt
size_of_most U8 = lit≤ tt
size_of_most S16 = lit≤ tt
size_of_most U16 = lit≤ tt
size_of_most S32 = lit≤ tt
size_of_most U32 = lit≤ tt
size_of_most S64 = lit≤ tt
size_of_most U64 = lit≤ tt
size_of_most Char = lit≤ tt
size_of_most F32 = lit≤ tt
size_of_most F64 = lit≤ tt

-- one field's limits written where all behind the fields before it are 0
module _ (m : List ℕ) (room at gap : ℕ) (s : Scalar) (long : length m ≡ room) (fits : at + gap + 8 ≤ room) (zeros : drop at m ≡ replicate (room - at) 0) where
  abbrev own : List ℕ
  own = replicate (size_of s) (limit_of s)

  abbrev padding : List ℕ
  padding = replicate gap 0

  abbrev front : List ℕ
  front = take at m ++ (padding ++ own)

  length-front : length front ≡ at + gap + size_of s
  length-front = omega (arith, length-append (take at m) (padding ++ own), length-take-le at m (omega arith), length-append padding own, length-replicate {A = ℕ} gap 0, length-replicate {A = ℕ} (size_of s) (limit_of s))

  limits_put : put_at m (at + gap) (limit_bytes s) ≡ front ++ replicate (room - (at + gap + size_of s)) 0
  limits_put =
      let w = size_of s in
      let small : w ≤ 8 = size_of_most s in
      let before : take (at + gap) m ≡ take at m ++ replicate gap 0 = take-add at gap m ∙ ap (λ t. take at m ++ t) (rw zeros (take-replicate gap (room - at) 0 (omega arith))) in
      let behind : drop (at + gap + 8) m ≡ replicate (room - (at + gap + 8)) 0 =
      let e : at + gap + 8 ≡ at + (gap + 8) = omega arith in
      let f : room - at - (gap + 8) ≡ room - (at + (gap + 8)) = omega arith in
      rw (e, ← drop-drop (gap + 8) at m, zeros, ← f) (drop-replicate (gap + 8) (room - at) 0) in
      let own_rest : List ℕ = replicate (8 - w) 0 in
      let others : List ℕ = replicate (room - (at + gap + 8)) 0 in
      let joined : own_rest ++ others ≡ replicate (room - (at + gap + w)) 0 =
      let e : 8 - w + (room - (at + gap + 8)) ≡ room - (at + gap + w) = omega (arith, small) in
      replicate-append-replicate (8 - w) (room - (at + gap + 8)) 0 ∙ ap (λ n. replicate n 0) e in
      rw (length-limit_bytes s, before, behind, ← joined) (simp append_assoc)

  pub limits_taken : take (at + gap + size_of s) (put_at m (at + gap) (limit_bytes s)) ≡ take at m ++ (replicate gap 0 ++ replicate (size_of s) (limit_of s))
  limits_taken = rw limits_put (take_at front _ (at + gap + size_of s) length-front)

  pub limits_behind : drop (at + gap + size_of s) (put_at m (at + gap) (limit_bytes s)) ≡ replicate (room - (at + gap + size_of s)) 0
  limits_behind = rw limits_put (drop_at front _ (at + gap + size_of s) length-front)

-- one field more, in a loop
module _ (ss : List Scalar) (k at start size : ℕ) (s : Scalar) (m : List ℕ) (room : ℕ) (f : IsField ss k at start size s) (long : length m ≡ room) (fits : start + 8 ≤ room) (zeros : drop at m ≡ replicate (room - at) 0) where
  pub limits_step : take (start + size) (put_at m start (limit_bytes s)) ++ limits_from (start + size) (drop (k + 1) ss) ≡ take at m ++ limits_from at (drop k ss)
  unfolding limits_from
  limits_step =
      let gap = gap_before at (size_of s) in
      rw (drop_field ss k at start size s f, f.begins, f.takes, limits_taken m room at gap s long (rw f.begins at fits) zeros)
      (append_assoc (take at m) (replicate gap 0 ++ replicate (size_of s) (limit_of s)) (limits_from (at + gap + size_of s) (drop (k + 1) ss)))

  pub limits_step_behind : drop (start + size) (put_at m start (limit_bytes s)) ≡ replicate (room - (start + size)) 0
  limits_step_behind =
      rw (f.begins, f.takes) (limits_behind m room at (gap_before at (size_of s)) s long (rw f.begins at fits) zeros)

pub limits_end : (ss : List Scalar) (k at : ℕ) (m : List ℕ) (room : ℕ) → length ss ≤ k → take at m ++ limits_from at (drop k ss) ≡ limits_from 0 ss → drop at m ≡ replicate (room - at) 0 → end_offset at (drop k ss) ≡ end_offset 0 ss → m ≡ limits_from 0 ss ++ replicate (room - end_offset 0 ss) 0
unfolding limits_from
limits_end ss k at m room h e zeros f =
    let none : drop k ss ≡ [] = drop_all k ss h in
    let same : at ≡ end_offset 0 ss = rw none at f in
    let front : take at m ≡ limits_from 0 ss = sym (append-nil (take at m)) ∙ rw none at e in
    sym (take-append-drop at m) ∙ rw (front, zeros, ← same) refl

-- ## Limits repeated

pub repeat_more : (m old : List ℕ) (size at k n : ℕ) → at ≡ size * k → size ≤ n → at + n ≤ length m → n ≤ length old → take (size * k) m ≡ repeated k (take size old) → take (size * (k + 1)) (put_at m at (take n old)) ≡ repeated (k + 1) (take size old)
unfolding repeated
repeat_more m old size at k n e h l q p =
    let one = take size old in
    let new = take n old in
    let wide : length new ≡ n = length-take-le n old q in
    let first : length (take at m) ≡ at = length-take-le at m (omega arith) in
    let place : size * (k + 1) ≡ length (take at m) + size = omega (arith, e, first) in
    let before : take at m ≡ repeated k one = rw e p in
    rw (append_assoc (take at m) new (drop (at + length new) m), place, take-append-add (take at m) (new ++ drop (at + length new) m) size, take-append-le size new (drop (at + length new) m) (omega (arith, wide)), take-take size n old h, before, repeated-add k 1 one)
    (ap (λ t. repeated k one ++ t) (sym (append-nil one)))

pub repeat_first : (m : List ℕ) (size : ℕ) → take (size * 1) m ≡ repeated 1 (take size m)
unfolding repeated
repeat_first m size = let e : size * 1 ≡ size = omega arith in rw e (sym (append-nil (take size m)))

pub item_repeated : (m one : List ℕ) (size items : ℕ) → 1 ≤ items → length one ≡ size → take (size * items) m ≡ repeated items one → take size m ≡ one
unfolding repeated
item_repeated m one size items h e p =
    let split : items ≡ 1 + (items - 1) = omega arith in
    let fits : size ≤ size * items = rw split (omega arith) in
    sym (take-take size (size * items) m fits)
    ∙ ap (take size) (p ∙ ap (λ n. repeated n one) split ∙ repeated-add 1 (items - 1) one)
    ∙ rw (append-nil one) (take_at one (repeated (items - 1) one) size e)

-- a vector fits behind k items where another item follows
pub repeat_room : (size k items n most : ℕ) → k < items → size * items + n ≤ most + size → size * k + n ≤ most
repeat_room size k items n most h l =
    let more : size * (k + 1) ≤ size * items = mul-le-mul_left size (omega arith) in
    omega (arith, more)

-- ## Under its limits an item is copied

all_stays : (n : ℕ) (source bytes : List ℕ) → blended (replicate n 0) source bytes ≡ bytes
unfolding blended
all_stays zero source bytes = refl
all_stays (suc n) [] bytes = refl
all_stays (suc n) (s ∷ source) [] = refl
all_stays (suc n) (s ∷ source) (b ∷ bytes) = ap (λ t. b ∷ t) (all_stays n source bytes)

all_copied : (n : ℕ) (source bytes : List ℕ) → IsBytes source → n ≤ length source → n ≤ length bytes → blended (replicate n 255) source bytes ≡ take n source ++ drop n bytes
unfolding blended
all_copied zero source bytes h l k = refl
all_copied (suc n) [] bytes h l k = absurd (omega arith)
all_copied (suc n) (s ∷ source) [] h l k = absurd (omega arith)
all_copied (suc n) (s ∷ source) (b ∷ bytes) h l k =
    let small : s < 256 = h 0 in
    let same : min s 255 ≡ s = omega arith in
    rw same (ap (λ t. s ∷ t) (all_copied n source bytes (λ i. h (suc i)) (omega arith) (omega arith)))

flag_blended : (source bytes : List ℕ) → 1 ≤ length source → 1 ≤ length bytes → blended (replicate 1 1) source bytes ≡ bytes_settled Flag (take 1 source) ++ drop 1 bytes
unfolding blended
flag_blended [] bytes l k = absurd (omega arith)
flag_blended (s ∷ source) [] l k = absurd (omega arith)
flag_blended (s ∷ source) (b ∷ bytes) l k = refl

field_blended : (s : Scalar) (source bytes : List ℕ) → IsBytes source → size_of s ≤ length source → size_of s ≤ length bytes → blended (replicate (size_of s) (limit_of s)) source bytes ≡ bytes_settled s (take (size_of s) source) ++ drop (size_of s) bytes
field_blended Flag source bytes h l k = flag_blended source bytes l k
field_blended S8 source bytes h l k = all_copied 1 source bytes h l k
field_blended U8 source bytes h l k = all_copied 1 source bytes h l k
field_blended S16 source bytes h l k = all_copied 2 source bytes h l k
field_blended U16 source bytes h l k = all_copied 2 source bytes h l k
field_blended S32 source bytes h l k = all_copied 4 source bytes h l k
field_blended U32 source bytes h l k = all_copied 4 source bytes h l k
field_blended S64 source bytes h l k = all_copied 8 source bytes h l k
field_blended U64 source bytes h l k = all_copied 8 source bytes h l k
field_blended Char source bytes h l k = all_copied 4 source bytes h l k
field_blended F32 source bytes h l k = all_copied 4 source bytes h l k
field_blended F64 source bytes h l k = all_copied 8 source bytes h l k

-- a gap and a field, and then the rest
fields_blended : (at : ℕ) (ss : List Scalar) (source bytes : List ℕ) → IsBytes source → end_offset at ss ≤ at + length source → end_offset at ss ≤ at + length bytes → blended (limits_from at ss) source bytes ≡ copied_from at ss source bytes
unfolding limits_from copied_from blended
fields_blended at [] source bytes h l k = refl
fields_blended at (s ∷ ss) source bytes h l k =
    let gap = gap_before at (size_of s) in
    let w = size_of s in
    let padding : List ℕ = replicate gap 0 in
    let own : List ℕ = replicate w (limit_of s) in
    let here = padding ++ own in
    let rest = limits_from (at + gap + w) ss in
    let a : at + gap + w ≤ at + length source = omega (arith, l, le-end_offset (at + gap + w) ss) in
    let b : at + gap + w ≤ at + length bytes = omega (arith, k, le-end_offset (at + gap + w) ss) in
    let lp : length padding ≡ gap = length-replicate {A = ℕ} gap 0 in
    let lo : length own ≡ w = length-replicate {A = ℕ} w (limit_of s) in
    let lh : length here ≡ gap + w = omega (arith, length-append padding own, lp, lo) in
    let field : blended own (drop gap source) (drop gap bytes) ≡ bytes_settled s (take w (drop gap source)) ++ drop w (drop gap bytes) = field_blended s (drop gap source) (drop gap bytes) (IsBytes-drop source gap h) (omega (arith, a, length-drop gap source)) (omega (arith, b, length-drop gap bytes)) in
    let new = bytes_settled s (take w (drop gap source)) in
    let ln : length new ≡ w = length-settled s (take w (drop gap source)) (length-take-le w (drop gap source) (omega (arith, a, length-drop gap source))) in
    let first : blended here source bytes ≡ take gap bytes ++ (new ++ drop w (drop gap bytes)) =
    blended-append padding own source bytes (omega (arith, lp, a)) (omega (arith, lp, b))
    ∙ rw (lp, all_stays gap source bytes, field) refl in
    let lf : length (take gap bytes ++ new) ≡ gap + w = omega (arith, length-append (take gap bytes) new, ln, length-take-le gap bytes (omega (arith, b))) in
    let taken : take (gap + w) (blended here source bytes) ≡ take gap bytes ++ new =
    rw (first, ← append_assoc (take gap bytes) new (drop w (drop gap bytes))) (take_at (take gap bytes ++ new) (drop w (drop gap bytes)) (gap + w) lf) in
    blended-append here rest source bytes (omega (arith, lh, a)) (omega (arith, lh, b))
    ∙ rw (lh, taken, fields_blended (at + gap + w) ss (drop (gap + w) source) (drop (gap + w) bytes) (IsBytes-drop source (gap + w) h) (omega (arith, l, a, length-drop (gap + w) source)) (omega (arith, k, b, length-drop (gap + w) bytes))) refl

length-limits_from : (at : ℕ) (ss : List Scalar) → at + length (limits_from at ss) ≡ end_offset at ss
unfolding limits_from
length-limits_from at [] = omega arith
length-limits_from at (s ∷ ss) =
    let gap = gap_before at (size_of s) in
    let padding : List ℕ = replicate gap 0 in
    let own : List ℕ = replicate (size_of s) (limit_of s) in
    let rest = limits_from (at + gap + size_of s) ss in
    omega (arith, length-append (padding ++ own) rest, length-append padding own, length-replicate {A = ℕ} gap 0, length-replicate {A = ℕ} (size_of s) (limit_of s), length-limits_from (at + gap + size_of s) ss)

pub length-item_limits : (ss : List Scalar) → length (item_limits ss) ≡ fields_size ss
length-item_limits ss =
    let behind : List ℕ = replicate (fields_size ss - end_offset 0 ss) 0 in
    omega (arith, length-append (limits_from 0 ss) behind, length-limits_from 0 ss, length-replicate {A = ℕ} (fields_size ss - end_offset 0 ss) 0)

item_blended : (ss : List Scalar) (source bytes : List ℕ) → IsBytes source → fields_size ss ≤ length source → fields_size ss ≤ length bytes → blended (item_limits ss) source bytes ≡ copied_from 0 ss source bytes
item_blended ss source bytes h l k =
    let front = limits_from 0 ss in
    let behind : List ℕ = replicate (fields_size ss - end_offset 0 ss) 0 in
    let lf : length front ≡ end_offset 0 ss = omega (arith, length-limits_from 0 ss) in
    blended-append front behind source bytes (omega (arith, lf)) (omega (arith, lf))
    ∙ rw (all_stays (fields_size ss - end_offset 0 ss) (drop (length front) source) (drop (length front) bytes), ← drop-blended front source bytes) (take-append-drop (length front) (blended front source bytes))
    ∙ fields_blended 0 ss source bytes h (omega arith) (omega arith)

pub items_blended : (ss : List Scalar) (n : ℕ) (source bytes : List ℕ) → IsBytes source → fields_size ss * n ≤ length source → fields_size ss * n ≤ length bytes → blended (repeated n (item_limits ss)) source bytes ≡ copied ss source bytes n
unfolding repeated copied blended
items_blended ss zero source bytes h l k = refl
items_blended ss (suc n) source bytes h l k =
    let w = fields_size ss in
    let one = item_limits ss in
    let item = copied_from 0 ss source bytes in
    let a : w + w * n ≤ length source = omega (arith, l) in
    let b : w + w * n ≤ length bytes = omega (arith, k) in
    let lw : length one ≡ w = length-item_limits ss in
    let same : blended one source bytes ≡ item = item_blended ss source bytes h (omega (arith, a)) (omega (arith, b)) in
    let behind : drop w item ≡ drop w bytes = ap (drop w) (sym same) ∙ ap (λ i. drop i (blended one source bytes)) (sym lw) ∙ drop-blended one source bytes ∙ ap (λ i. drop i bytes) lw in
    blended-append one (repeated n one) source bytes (omega (arith, lw, a)) (omega (arith, lw, b))
    ∙ rw (lw, same, behind, items_blended ss n (drop w source) (drop w bytes) (IsBytes-drop source w h) (omega (arith, a, length-drop w source)) (omega (arith, b, length-drop w bytes))) refl

-- the first of the limits, where those of one item were written
pub item_written : (ss : List Scalar) (m : List ℕ) (size room : ℕ) → size ≡ fields_size ss → size ≤ room → m ≡ limits_from 0 ss ++ replicate (room - end_offset 0 ss) 0 → take size m ≡ item_limits ss
item_written ss m size room e h f =
    let front = limits_from 0 ss in
    let behind : List ℕ = replicate (room - end_offset 0 ss) 0 in
    let lf : length front ≡ end_offset 0 ss = omega (arith, length-limits_from 0 ss) in
    let split : size ≡ length front + (fields_size ss - end_offset 0 ss) = omega (arith, lf, e) in
    rw (f, split) (take-append-add front behind (fields_size ss - end_offset 0 ss) ∙ ap (λ t. front ++ t) (take-replicate (fields_size ss - end_offset 0 ss) (room - end_offset 0 ss) 0 (omega (arith, e))))
