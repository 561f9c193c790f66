-- How a link of the chain goes on where an end of its stream changes.
use Rattle.std.proofs.Common.{◌≡◌, ℕ, zero, suc, ◌+◌, ◌*◌, ◌≤◌, ℤ, pos, List, [], ◌∷◌, ◌++◌, length, take, drop, Option, Some, None, refl, sym, ap, ◌∙◌, arith}
use Rattle.std.proofs.lemmas.List.{take-take, drop-take, drop-drop, take-append-drop, map-append, append-nil, length-drop}
use Rattle.strm_memory.specs.Bytes.{bytes_at}
use Rattle.strm_machine.specs.Moments.{decoded}
use Rattle.strm_machine.specs.declared.streams.Operation.{Operation}
use Rattle.strm_codes.specs.Layout.{byte_type}
use Rattle.strm_memory.proofs.AppendLemmas.{decode-byte}
use Rattle.strm_chain.specs.declared.stages.Work.{Work}
use Rattle.strm_chain.specs.Stages.{work_done, work_left}
use Rattle.strm_chain.proofs.StageLemmas.{work_left-append, work_done-append}
use Rattle.strm_chain.specs.Flowing.{as_items}
use Rattle.strm_chain.specs.Linking.{OffersWrite, Sends, HoldsRead, Takes, Arrived}

-- ## Bytes of a memory as items

pub decoded-bytes : (bytes : List ℕ) (n : ℕ) → n ≤ length bytes → decoded byte_type bytes n ≡ as_items (take n bytes)
unfolding decoded
decoded-bytes bytes zero h = refl
decoded-bytes [] (suc n) h = absurd (omega arith)
decoded-bytes (b ∷ bytes) (suc n) h =
    rw (decode-byte b bytes, decoded-bytes bytes n (omega (arith, h))) refl

-- ## Fronts of lists

take-plus : {A : Type 0} (a n : ℕ) (xs : List A) → take (a + n) xs ≡ take a xs ++ take n (drop a xs)
take-plus a n xs =
    sym (take-append-drop a (take (a + n) xs))
    ∙ ap (λ f. f ++ drop a (take (a + n) xs)) (take-take a (a + n) xs (omega arith))
    ∙ ap (λ r. take a xs ++ r) (drop-take a n xs)

-- where two lists agree at the front, so do parts of it
parts_agree : (count m n : ℕ) (xs ys : List ℕ) → m + n ≤ count → take count xs ≡ take count ys → take n (drop m xs) ≡ take n (drop m ys)
parts_agree count m n xs ys l e =
    sym (drop-take m n xs)
    ∙ ap (drop m) (sym (take-take (m + n) count xs l) ∙ ap (take (m + n)) e ∙ take-take (m + n) count ys l)
    ∙ drop-take m n ys

pub as_items-append : (a b : List ℕ) → as_items (a ++ b) ≡ as_items a ++ as_items b
as_items-append a b = map-append (λ x. Some (pos x ∷ [])) a b

-- ## A write hands items over

-- the next items of a write are the next bytes that its guest has put out
pub offers_next : (g at sent n : ℕ) (made memory : List ℕ) (o : Operation) → OffersWrite g at sent made memory o → n ≤ o.left → decoded byte_type (drop o.address memory) n ≡ as_items (take n (drop (sent + o.moved) made))
offers_next g at sent n made memory o h l =
    let m = o.moved in
    let long : n ≤ length (drop o.address memory) = rw (h.begun.place, length-drop (at + m) memory) (omega (arith, l, h.inside, h.begun.whole)) in
    decoded-bytes (drop o.address memory) n long
    ∙ ap (λ a. as_items (take n (drop a memory))) h.begun.place
    ∙ ap (λ xs. as_items (take n xs)) (sym (drop-drop m at memory))
    ∙ ap as_items (parts_agree h.count m n (drop at memory) (drop sent made) (omega (arith, l, h.begun.whole)) h.lies)
    ∙ ap (λ xs. as_items (take n xs)) (drop-drop m sent made)

-- so what was received stays the front of that
pub front_goes_on : (sent m n : ℕ) (made : List ℕ) (received got : List (Option (List ℤ))) → received ≡ as_items (take (sent + m) made) → got ≡ as_items (take n (drop (sent + m) made)) → received ++ got ≡ as_items (take (sent + (m + n)) made)
front_goes_on sent m n made received got e f =
    ap (λ r. r ++ got) e ∙ ap (λ r. as_items (take (sent + m) made) ++ r) f
    ∙ sym (as_items-append (take (sent + m) made) (take n (drop (sent + m) made)))
    ∙ ap as_items (sym (take-plus (sent + m) n made))
    ∙ ap (λ k. as_items (take k made)) (omega arith)

-- the write waits on, with n more items moved
module _ (g at sent n : ℕ) (made memory : List ℕ) (o p : Operation) (received got : List (Option (List ℤ))) where
  pub sends_on : Sends g at sent made memory (Some o) received → p.guest ≡ o.guest → p.address ≡ o.address + 1 * n → p.moved ≡ o.moved + n → p.left + n ≡ o.left → got ≡ decoded byte_type (drop o.address memory) n → Sends g at sent made memory (Some p) (received ++ got)
  sends_on h guest address moved rest is =
      let f = h.offers in
      let l : n ≤ o.left = omega (arith, rest) in
      record {
        front = front_goes_on sent o.moved n made received got h.front (is ∙ offers_next g at sent n made memory o f l)
            ∙ ap (λ k. as_items (take (sent + k) made)) (sym moved);
        within = omega (arith, moved, l, f.within, f.begun.whole);
        offers = record {
          count = f.count;
          begun = record {
            guest = guest ∙ f.begun.guest;
            place = omega (arith, address, moved, f.begun.place);
            whole = omega (arith, moved, rest, f.begun.whole);
          };
          within = f.within;
          inside = f.inside;
          lies = f.lies;
        };
      }

-- the write ends with its report, whose count is what it has moved: the guest has handed over so many more
pub sends_told : (g at sent k : ℕ) (made memory : List ℕ) (o : Operation) (received : List (Option (List ℤ))) → Sends g at sent made memory (Some o) received → k ≡ o.moved → Sends g at (sent + k) made memory None received
sends_told g at sent k made memory o received h e = record {
  front = h.front ∙ ap (λ n. as_items (take n made)) (omega (arith, e));
  within = omega (arith, e, h.within);
  offers = tt;
}

-- a write is begun on bytes that were put where it writes from, and has moved n of them
module _ (g at sent count n : ℕ) (made memory : List ℕ) (p : Operation) (received got : List (Option (List ℤ)))
    (h : Sends g at sent made memory None received) (lies : bytes_at memory at count ≡ take count (drop sent made)) where
  pub sends_begun : sent + count ≤ length made → at + count ≤ length memory → p.guest ≡ g → p.address ≡ at + 1 * n → p.moved ≡ n → n + p.left ≡ count → got ≡ decoded byte_type (drop at memory) n → Sends g at sent made memory (Some p) (received ++ got)
  sends_begun within inside guest address moved rest is =
      let zero_front : received ≡ as_items (take (sent + 0) made) = h.front in
      let next = decoded-bytes (drop at memory) n (rw (length-drop at memory) (omega (arith, rest, inside))) ∙ ap as_items (parts_agree count 0 n (drop at memory) (drop sent made) (omega (arith, rest)) lies) in
      record {
        front = front_goes_on sent 0 n made received got zero_front (is ∙ next ∙ ap (λ k. as_items (take n (drop k made))) (omega arith))
            ∙ ap (λ k. as_items (take (sent + k) made)) (omega (arith, moved));
        within = omega (arith, moved, rest, within);
        offers = record {
          count = count;
          begun = record { guest = guest; place = omega (arith, address, moved); whole = omega (arith, moved, rest) };
          within = within;
          inside = inside;
          lies = lies;
        };
      }

-- a write is begun and has its report at once, of k items
module _ (g at sent count k : ℕ) (made memory : List ℕ) (received got : List (Option (List ℤ))) where
  pub sends_served : Sends g at sent made memory None received → bytes_at memory at count ≡ take count (drop sent made) → sent + count ≤ length made → at + count ≤ length memory → k ≤ count → got ≡ decoded byte_type (drop at memory) k → Sends g at (sent + k) made memory None (received ++ got)
  sends_served h lies within inside l is =
      let next = decoded-bytes (drop at memory) k (rw (length-drop at memory) (omega (arith, l, inside))) ∙ ap as_items (parts_agree count 0 k (drop at memory) (drop sent made) (omega (arith, l)) lies) in
      record {
        front = front_goes_on sent 0 k made received got h.front (is ∙ next ∙ ap (λ n. as_items (take k (drop n made))) (omega arith))
            ∙ ap (λ n. as_items (take n made)) (omega arith);
        within = omega (arith, l, within);
        offers = tt;
      }

-- ## A read takes items

-- what a read has moved lies where it reads to, and the items that it moves next lie behind it
module _ (g at n : ℕ) (memory after : List ℕ) (o p : Operation) (rest got : List (Option (List ℤ)))
    (h : HoldsRead g at memory o rest) where
  pub holds_on : p.guest ≡ o.guest → p.address ≡ o.address + 1 * n → p.moved ≡ o.moved + n → p.left + n ≡ o.left → bytes_at after at o.moved ≡ bytes_at memory at o.moved → length after ≡ length memory → got ≡ decoded byte_type (drop o.address after) n → HoldsRead g at after p (rest ++ got)
  holds_on guest address moved work_left stays size is =
      let m = o.moved in
      let inside : o.address + n ≤ length after = omega (arith, size, work_left, h.inside, h.begun.place, h.begun.whole) in
      let next : got ≡ as_items (take n (drop m (drop at after))) =
      is ∙ decoded-bytes (drop o.address after) n (rw (length-drop o.address after) (omega (arith, inside)))
      ∙ ap (λ a. as_items (take n (drop a after))) h.begun.place ∙ ap (λ xs. as_items (take n xs)) (sym (drop-drop m at after)) in
      record {
        count = h.count;
        begun = record {
          guest = guest ∙ h.begun.guest;
          place = omega (arith, address, moved, h.begun.place);
          whole = omega (arith, moved, work_left, h.begun.whole);
        };
        inside = omega (arith, size, h.inside);
        few = h.few;
        lies =
            ap (λ r. r ++ got) h.lies ∙ ap (λ xs. as_items xs ++ got) (sym stays)
            ∙ ap (λ r. as_items (bytes_at after at m) ++ r) next
            ∙ sym (as_items-append (bytes_at after at m) (take n (drop m (drop at after))))
            ∙ ap as_items (sym (take-plus m n (drop at after)))
            ∙ ap (λ k. as_items (bytes_at after at k)) (sym moved);
      }

-- a read is begun, and has moved n items
pub holds_begun : (g at count n : ℕ) (after : List ℕ) (p : Operation) (got : List (Option (List ℤ))) → p.guest ≡ g → p.address ≡ at + 1 * n → p.moved ≡ n → n + p.left ≡ count → at + count ≤ length after → count ≤ 64 → got ≡ decoded byte_type (drop at after) n → HoldsRead g at after p got
holds_begun g at count n after p got guest address moved work_left inside few is = record {
  count = count;
  begun = record { guest = guest; place = omega (arith, address, moved); whole = omega (arith, moved, work_left) };
  inside = inside;
  few = few;
  lies = is ∙ decoded-bytes (drop at after) n (rw (length-drop at after) (omega (arith, work_left, inside))) ∙ ap (λ k. as_items (bytes_at after at k)) (sym moved);
}

-- the read ends with its report: what it has moved lies where it reads to
pub arrived_told : (g at k : ℕ) (first work : Work) (made memory : List ℕ) (o : Operation) (received : List (Option (List ℤ))) → Takes g at first work made memory (Some o) received → k ≡ o.moved → Arrived at k first work made memory received
arrived_told g at k first work made memory o received t e = record {
  taken = t.taken;
  split = t.split ∙ ap (λ r. as_items t.taken ++ r) (t.holds.lies ∙ ap (λ n. as_items (bytes_at memory at n)) (sym e));
  makes = t.makes;
  goes_on = t.goes_on;
}

-- a read is begun and has its report at once, of k items
pub arrived_served : (g at k : ℕ) (first work : Work) (made memory after : List ℕ) (received got : List (Option (List ℤ))) → Takes g at first work made memory None received → at + k ≤ length after → got ≡ decoded byte_type (drop at after) k → Arrived at k first work made after (received ++ got)
arrived_served g at k first work made memory after received got t inside is = record {
  taken = t.taken;
  split = ap (λ r. r ++ got) (t.split ∙ ap (λ r. as_items t.taken ++ r) t.holds ∙ append-nil (as_items t.taken))
      ∙ ap (λ r. as_items t.taken ++ r) (is ∙ decoded-bytes (drop at after) k (rw (length-drop at after) (omega (arith, inside))));
  makes = t.makes;
  goes_on = t.goes_on;
}

-- what has arrived is dumped, and the stage takes it
pub takes_arrived : (g at k : ℕ) (first work : Work) (made memory after : List ℕ) (received : List (Option (List ℤ))) → Arrived at k first work made memory received → Takes g at first (work_left work (bytes_at memory at k)) (made ++ work_done work (bytes_at memory at k)) after None received
takes_arrived g at k first work made memory after received t =
    let new = bytes_at memory at k in
    record {
      taken = t.taken ++ new;
      rest = [];
      split = t.split ∙ sym (as_items-append t.taken new) ∙ sym (append-nil (as_items (t.taken ++ new)));
      holds = refl;
      makes = ap (λ m. m ++ work_done work new) t.makes ∙ ap (λ w. work_done first t.taken ++ work_done w new) t.goes_on ∙ sym (work_done-append first t.taken new);
      goes_on = ap (λ w. work_left w new) t.goes_on ∙ sym (work_left-append first t.taken new);
    }
