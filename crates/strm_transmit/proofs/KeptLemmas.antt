-- Items kept of host writers: the places for them, as the machine sees them and as the store keeps them.
use Rattle.std.proofs.Common.{◌≡◌, ◌≢◌, ℕ, zero, suc, ◌-◌, ◌<◌, ◌≤◌, List, [], ◌∷◌, ◌++◌, length, map, replicate, get_or, set, refl, sym, ap, subst, ◌∙◌, arith, length-append}
use Rattle.std.proofs.lemmas.List.{length-set, get_or_past, get_or-set_same, get_or-set_other, get_or_append_left, set-get_or}
use Rattle.std.proofs.Math.Seq.{get_or-append_seam}
use Rattle.strm_codes.specs.declared.payloads.Payload.{Payload}
use Rattle.strm_buffers.specs.Listing.{Item, TypedItems}
use Rattle.strm_machine.specs.State.{host_limit, no_producer, no_stream}
use Rattle.strm_machine.specs.declared.streams.Consumer.{Consumer}
use Rattle.strm_machine.specs.declared.streams.Duty.{Duty}
use Rattle.strm_machine.specs.declared.streams.Duty.TheVariants.{Unused, Serves, Ended}
use Rattle.strm_machine.specs.declared.streams.Producer.{Producer}
use Rattle.strm_machine.specs.declared.streams.Side.TheVariants.{Writing}
use Rattle.strm_machine.specs.declared.streams.Stream.{Stream}
use Rattle.strm_transmit.specs.Inside.{padded_items, nothing_kept, HasPlace, AreServed, HavePlaces}
use Rattle.strm_transmit.specs.Keeping.{HasGrown, PlaceMade}
use Rattle.strm_transmit.proofs.ServedLemmas.{at_set, same_stream, not_unused, ended_no, all_unused}

-- ## As the machine sees them

-- the items at each place, and so many more places
abbrev items_then : List TypedItems → ℕ → List (List Item)
items_then kept m = map (λ k. k.items) kept ++ replicate m []

none_at : (m n : ℕ) → get_or (replicate {A = List Item} m []) n [] ≡ []
none_at zero n = refl
none_at (suc m) zero = refl
none_at (suc m) (suc n) = none_at m n

items_at : (kept : List TypedItems) (m n : ℕ) → get_or (items_then kept m) n [] ≡ (get_or kept n nothing_kept).items
items_at [] m n = none_at m n
items_at (k ∷ kept) m zero = refl
items_at (k ∷ kept) m (suc n) = items_at kept m n

-- the items of one host writer
pub padded_items-at : (kept : List TypedItems) (n : ℕ) → get_or (padded_items kept) n [] ≡ (get_or kept n nothing_kept).items
padded_items-at kept n = items_at kept (host_limit - length kept) n

set_then : (kept : List TypedItems) (m n : ℕ) (k : TypedItems) → n < length kept → items_then (set kept n k) m ≡ set (items_then kept m) n k.items
set_then [] m n k l = absurd (omega (arith, l))
set_then (x ∷ kept) m zero k l = refl
set_then (x ∷ kept) m (suc n) k l = ap (λ xs. x.items ∷ xs) (set_then kept m n k (omega (arith, l)))

-- other items of one of them
pub padded_items-set : (kept : List TypedItems) (n : ℕ) (k : TypedItems) → n < length kept → padded_items (set kept n k) ≡ set (padded_items kept) n k.items
padded_items-set kept n k l =
    ap (λ m. items_then (set kept n k) (host_limit - m)) (length-set kept n k) ∙ set_then kept (host_limit - length kept) n k l

push_then : (kept : List TypedItems) (m : ℕ) (k : TypedItems) → k.items ≡ [] → items_then (kept ++ k ∷ []) m ≡ items_then kept (suc m)
push_then [] m k e = ap (λ xs. xs ∷ replicate m []) e
push_then (x ∷ kept) m k e = ap (λ xs. x.items ∷ xs) (push_then kept m k e)

-- a place more, with nothing in it, is not seen
pub padded_items-push : (kept : List TypedItems) (k : TypedItems) → k.items ≡ [] → length kept < host_limit → padded_items (kept ++ k ∷ []) ≡ padded_items kept
padded_items-push kept k e l =
    let fewer : host_limit - length kept ≡ suc (host_limit - length (kept ++ k ∷ [])) = omega (arith, l, length-append kept (k ∷ [])) in
    push_then kept (host_limit - length (kept ++ k ∷ [])) k e ∙ ap (items_then kept) (sym fewer)

-- ## A place that is made

pub grown-none : (kept : List TypedItems) → length kept ≤ host_limit → HasGrown kept kept
grown-none kept l = record { few = l; more = omega arith; same = λ m e. refl; view = refl }

pub grown-push : (old new : List TypedItems) (k : TypedItems) → HasGrown old new → k.items ≡ [] → length new < host_limit → HasGrown old (new ++ k ∷ [])
grown-push old new k g e l = record {
  few = omega (arith, l, length-append new (k ∷ []));
  more = omega (arith, g.more, length-append new (k ∷ []));
  same = λ m b. get_or_append_left new (k ∷ []) nothing_kept m (omega (arith, b, g.more)) ∙ g.same m b;
  view = padded_items-push new k e l ∙ g.view;
}

same_items : (old new : List TypedItems) (m : ℕ) → padded_items new ≡ padded_items old → (get_or new m nothing_kept).items ≡ (get_or old m nothing_kept).items
same_items old new m e = sym (padded_items-at new m) ∙ ap (λ xs. get_or xs m []) e ∙ padded_items-at old m

ended_used : (d : Duty) → d ≡ Ended → d ≢ Unused
ended_used d e f = cc

-- nothing is kept where there is no place
pub have_none : HavePlaces (replicate host_limit no_producer) [] []
have_none = record {
  few = omega arith;
  places = λ n s e. absurd (not_unused _ s (all_unused Writing n) e);
  unused = λ n e. ap (λ (k : TypedItems). k.items) (get_or_past [] n nothing_kept (omega arith));
}

module _ (ps : List Producer) (old : List TypedItems) (ss : List Stream) (h : HavePlaces ps old ss) where
  pub have_grown : (new : List TypedItems) → HasGrown old new → HavePlaces ps new ss
  have_grown new g = record {
    few = g.few;
    places = λ n s e.
        let p = h.places n s e in
        record { there = omega (arith, p.there, g.more); type = ap (λ (k : TypedItems). k.payload) (g.same n p.there) ∙ p.type };
    unused = λ n e. same_items old new n g.view ∙ h.unused n e;
  }

  -- streams, of which those that were made have the payloads that they had
  pub have_streams : (news : List Stream) → ((n s : ℕ) → (get_or ps n no_producer).duty ≡ Serves s → (get_or news s no_stream).payload ≡ (get_or ss s no_stream).payload) → HavePlaces ps old news
  have_streams news same = record {
    few = h.few;
    places = λ n s e. let p = h.places n s e in record { there = p.there; type = p.type ∙ sym (same n s e) };
    unused = h.unused;
  }

  -- one stream is another, of the same payload
  pub have_set : (s : ℕ) (stream : Stream) → s < length ss → stream.payload ≡ (get_or ss s no_stream).payload → HavePlaces ps old (set ss s stream)
  have_set s stream l e =
      have_streams (set ss s stream) (λ n t d. at_set ss s stream no_stream t (λ (x : Stream). x.payload ≡ (get_or ss t no_stream).payload) l (λ here. e ∙ ap (λ k. (get_or ss k no_stream).payload) (sym here)) (λ other. refl))

  -- one more
  pub have_push : (cs : List Consumer) (stream : Stream) → AreServed ps cs ss → HavePlaces ps old (ss ++ stream ∷ [])
  have_push cs stream served =
      have_streams (ss ++ stream ∷ []) (λ n t d. ap (λ (x : Stream). x.payload) (get_or_append_left ss (stream ∷ []) no_stream t (served.made Writing n t d)))

  -- something else is kept of host writer n, which had been used, and serves no other stream
  pub have_producer : (n : ℕ) (p : Producer) → n < length ps → p.duty ≢ Unused → ((s : ℕ) → p.duty ≡ Serves s → (get_or ps n no_producer).duty ≡ Serves s) → HavePlaces (set ps n p) old ss
  have_producer n p l used same = record {
    few = h.few;
    places = λ m s. at_set ps n p no_producer m (λ q. q.duty ≡ Serves s → HasPlace old m (get_or ss s no_stream).payload) l
        (λ here e. h.places m s (ap (λ k. (get_or ps k no_producer).duty) here ∙ same s e)) (λ other. h.places m s);
    unused = λ m. at_set ps n p no_producer m (λ q. q.duty ≡ Unused → (get_or old m nothing_kept).items ≡ []) l
        (λ here e. absurd (used e)) (λ other. h.unused m);
  }

  -- it is no end of a stream any more
  pub have_retired : (n : ℕ) (p : Producer) → n < length ps → p.duty ≡ Ended → HavePlaces (set ps n p) old ss
  have_retired n p l ended = have_producer n p l (ended_used p.duty ended) (λ s e. absurd (ended_no p.duty s ended e))

  -- other items of one of these payloads are kept of host writer n, which had been used
  pub have_items : (n : ℕ) (k : TypedItems) → n < length old → (get_or ps n no_producer).duty ≢ Unused → k.payload ≡ (get_or old n nothing_kept).payload → HavePlaces ps (set old n k) ss
  have_items n k l used same = record {
    few = omega (arith, h.few, length-set old n k);
    places = λ m s e.
        let p = h.places m s e in
        record {
          there = omega (arith, p.there, length-set old n k);
          type = at_set old n k nothing_kept m (λ x. x.payload ≡ (get_or ss s no_stream).payload) l
              (λ here. same ∙ ap (λ i. (get_or old i nothing_kept).payload) (sym here) ∙ p.type) (λ other. p.type);
        };
    unused = λ m e. at_set old n k nothing_kept m (λ x. x.items ≡ []) l
        (λ here. absurd (used (ap (λ i. (get_or ps i no_producer).duty) (sym here) ∙ e))) (λ other. h.unused m e);
  }

  -- a stream more, which host writer n serves, of which a place was made
  pub have_hosted : (cs : List Consumer) (new : List TypedItems) (n : ℕ) (p : Producer) (stream : Stream) → AreServed ps cs ss → n < length ps → p.duty ≡ Serves (length ss) → (get_or ps n no_producer).duty ≡ Unused
      → PlaceMade old new n stream.payload → HavePlaces (set ps n p) new (ss ++ stream ∷ [])
  have_hosted cs new n p stream served l serves unused made =
      let empty : TypedItems = record { payload = stream.payload; items = [] } in
      let grown = have_grown made.between made.grown in
      subst (λ kept. HavePlaces (set ps n p) kept (ss ++ stream ∷ [])) (sym made.after) (record {
        few = omega (arith, made.grown.few, length-set made.between n empty);
        places = λ m s. at_set ps n p no_producer m (λ q. q.duty ≡ Serves s → HasPlace (set made.between n empty) m (get_or (ss ++ stream ∷ []) s no_stream).payload) l
            (λ here e. record {
              there = omega (arith, made.there, here, length-set made.between n empty);
              type = ap (λ k. (get_or (set made.between n empty) k nothing_kept).payload) here
                  ∙ ap (λ (k : TypedItems). k.payload) (get_or-set_same made.between n empty nothing_kept made.there)
                  ∙ sym (ap (λ k. (get_or (ss ++ stream ∷ []) k no_stream).payload) (same_stream s (length ss) p.duty e serves) ∙ ap (λ (x : Stream). x.payload) (get_or-append_seam ss stream [] no_stream));
            })
            (λ other e.
            let q = grown.places m s e in
            record {
              there = omega (arith, q.there, length-set made.between n empty);
              type = ap (λ (k : TypedItems). k.payload) (get_or-set_other made.between n m empty nothing_kept other) ∙ q.type
                  ∙ sym (ap (λ (x : Stream). x.payload) (get_or_append_left ss (stream ∷ []) no_stream s (served.made Writing m s e)));
            });
        unused = λ m. at_set ps n p no_producer m (λ q. q.duty ≡ Unused → (get_or (set made.between n empty) m nothing_kept).items ≡ []) l
            (λ here e. absurd (not_unused p.duty (length ss) e serves))
            (λ other e. ap (λ (k : TypedItems). k.items) (get_or-set_other made.between n m empty nothing_kept other) ∙ grown.unused m e);
      })

  -- and the machine sees no change
  pub view_made : (new : List TypedItems) (n : ℕ) (payload : Payload) → (get_or ps n no_producer).duty ≡ Unused → PlaceMade old new n payload → padded_items new ≡ padded_items old
  view_made new n payload unused made =
      let none : get_or (padded_items made.between) n [] ≡ [] = padded_items-at made.between n ∙ same_items old made.between n made.grown.view ∙ h.unused n unused in
      ap padded_items made.after
      ∙ padded_items-set made.between n (record { payload = payload; items = [] }) made.there
      ∙ ap (set (padded_items made.between) n) (sym none) ∙ set-get_or (padded_items made.between) n []
      ∙ made.grown.view
