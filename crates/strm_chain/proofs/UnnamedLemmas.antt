-- A step that does not name an end leaves its link as it is, but for the items that move meanwhile.
use Rattle.std.proofs.Common.{◌≡◌, ℕ, ◌+◌, ◌*◌, ◌≤◌, false, ℤ, List, [], ◌∷◌, ◌++◌, length, drop, Option, Some, None, refl, sym, ap, ◌∙◌, subst, append_assoc, arith}
use Rattle.std.proofs.lemmas.List.{append-nil}
use Rattle.strm_codes.specs.Layout.{item_type, byte_type}
use Rattle.strm_codes.specs.ItemTypes.{item_size}
use Rattle.strm_codes.specs.declared.codes.ReturnCode.{ReturnCode}
use Rattle.strm_codes.specs.declared.payloads.Payload.TheVariants.{One}
use Rattle.strm_codes.specs.declared.scalars.Scalar.TheVariants.{U8}
use Rattle.strm_memory.specs.Bytes.{bytes_at}
use Rattle.strm_machine.specs.State.{memory_in, stream_at}
use Rattle.strm_machine.specs.Moments.{Moment, is_named, report_in, accepted_in, got_in, items_in_memory, decoded, received, rise, target, place_of}
use Rattle.strm_machine.specs.declared.streams.Side.{Side}
use Rattle.strm_machine.specs.declared.streams.Side.TheVariants.{Writing, Reading}
use Rattle.strm_machine.specs.declared.streams.Operation.{Operation}
use Rattle.strm_machine.proofs.Changes.{Scene, scene, Change, ByRest, ByGoing, BySettling, ByOpening, ByServing, Rests, GoesOn}
use Rattle.strm_chain.specs.declared.stages.Work.{Work}
use Rattle.strm_chain.specs.Flowing.{as_items}
use Rattle.strm_chain.specs.Linking.{OffersWrite, Sends, HoldsRead, HoldsIf, Takes}
use Rattle.strm_chain.proofs.LinkLemmas.{sends_on, holds_on}

-- ## What an end that is not named may do

pub data Still (side : Side) (v : Scene) : Type 0 where
  Resting : Rests side v → Still side v
  Going : (o p : Operation) (n : ℕ) → GoesOn side v o p n → Still side v

unreported : (s : ℕ) (side : Side) (m : Moment) → is_named s side m ≡ false → report_in s side m ≡ None
unreported s side m e = rw e refl

untaken : (s : ℕ) (side : Side) (m : Moment) (r : Option ReturnCode) → is_named s side m ≡ false → accepted_in s side m r ≡ []
untaken s side m r e = rw e refl

pub still : (s : ℕ) (side : Side) (m : Moment) → is_named s side m ≡ false → Change side (scene s side m) → Still side (scene s side m)
still s side m e (ByRest r) = Resting r
still s side m e (ByGoing o p n g) = Going o p n g
still s side m e (BySettling o code x) = absurd (let wrong : Some code ≡ None = sym x.report ∙ unreported s side m e in cc)
still s side m e (ByOpening g address asked p n x) = absurd (let wrong = sym x.takes ∙ untaken s side m (report_in s side m) e in cc)
still s side m e (ByServing g address asked code x) = absurd (let wrong = sym x.takes ∙ untaken s side m (report_in s side m) e in cc)

-- ## The writing side

-- a write that waits, whose bytes stay where they lie
offers_stay : (g at sent : ℕ) (made memory after : List ℕ) (o : Operation) → OffersWrite g at sent made memory o → length after ≡ length memory → ((c : ℕ) → at + c ≤ length memory → bytes_at after at c ≡ bytes_at memory at c) → OffersWrite g at sent made after o
offers_stay g at sent made memory after o h size same = record {
  count = h.count;
  begun = h.begun;
  within = h.within;
  inside = omega (arith, h.inside, size);
  lies = same h.count h.inside ∙ h.lies;
}

module _ (g at sent : ℕ) (made memory after : List ℕ) (received : List (Option (List ℤ))) where
  pub sends_in : (o : Option Operation) → Sends g at sent made memory o received → length after ≡ length memory → ((c : ℕ) → at + c ≤ length memory → bytes_at after at c ≡ bytes_at memory at c) → Sends g at sent made after o received
  sends_in None h size same = record { front = h.front; within = h.within; offers = tt }
  sends_in (Some o) h size same = record { front = h.front; within = h.within; offers = offers_stay g at sent made memory after o h.offers size same }

-- the memory of a guest, and the operations of a stream's ends, at the two sides of a moment
abbrev memory_before : Moment → ℕ → List ℕ
memory_before m g = memory_in m.before.guests g

abbrev memory_after : Moment → ℕ → List ℕ
memory_after m g = memory_in m.after.guests g

abbrev before : Side → Moment → ℕ → Option Operation
before Writing m s = (stream_at m.before s).writer.operation
before Reading m s = (stream_at m.before s).reader.operation

abbrev after_it : Side → Moment → ℕ → Option Operation
after_it Writing m s = (stream_at m.after s).writer.operation
after_it Reading m s = (stream_at m.after s).reader.operation

-- bytes from a place on stay, as far as there are any
abbrev BytesStay : ℕ → List ℕ → List ℕ → Type 0
BytesStay at memory after = (c : ℕ) → at + c ≤ length memory → bytes_at after at c ≡ bytes_at memory at c

-- what the read that waits has moved to a place stays
abbrev MovedStays : Moment → ℕ → ℕ → ℕ → Type 0
MovedStays m s g at =
    (o : Operation) → before Reading m s ≡ Some o → bytes_at (memory_after m g) at o.moved ≡ bytes_at (memory_before m g) at o.moved

module _ (s g at sent : ℕ) (made after : List ℕ) (m : Moment) (got : List (Option (List ℤ)))
    (payload : (stream_at m.before s).payload ≡ One U8) where
  pub unnamed_sends : Still Writing (scene s Writing m) → Sends g at sent made (memory_before m g) (before Writing m s) got → length after ≡ length (memory_before m g) → BytesStay at (memory_before m g) after → Sends g at sent made after (after_it Writing m s) (got ++ got_in s m)
  unnamed_sends (Resting r) h size same =
      let memory = memory_in m.before.guests g in
      let none : Sends g at sent made memory None got = subst (λ o. Sends g at sent made memory o got) r.was h in
      rw (r.is, r.nothing, append-nil got) (sends_in g at sent made memory after got None none size same)
  unnamed_sends (Going o p n x) h size same =
      let memory = memory_in m.before.guests g in
      let some : Sends g at sent made memory (Some o) got = subst (λ q. Sends g at sent made memory q got) x.was h in
      let is : got_in s m ≡ decoded byte_type (drop o.address memory) n =
      x.brings refl ∙ ap (λ ss. decoded (item_type ss) (drop o.address (memory_in m.before.guests o.guest)) n) payload
      ∙ ap (λ k. decoded byte_type (drop o.address (memory_in m.before.guests k)) n) some.offers.begun.guest in
      let address : p.address ≡ o.address + 1 * n = x.address ∙ ap (λ ss. o.address + item_size (item_type ss) * n) payload in
      rw x.is
      (sends_in g at sent made memory after (got ++ got_in s m) (Some p)
      (sends_on g at sent n made memory o p got (got_in s m) some x.guest address x.moved x.left is) size same)

-- ## The reading side

pub target-unnamed : (s : ℕ) (m : Moment) → is_named s Reading m ≡ false → target s m ≡ place_of (stream_at m.before s).reader.operation
target-unnamed s m e = rw e refl

-- what is received lies where the read that waits reads next
module _ (s g n : ℕ) (m : Moment) (o : Operation) where
  received_there : (stream_at m.before s).payload ≡ One U8 → is_named s Reading m ≡ false → (stream_at m.before s).reader.operation ≡ Some o → o.guest ≡ g → received s m.after ≡ received s m.before + n → got_in s m ≡ decoded byte_type (drop o.address (memory_in m.after.guests g)) n
  received_there payload e was guest more =
      let pay = (stream_at m.before s).payload in
      let there = target-unnamed s m e ∙ ap place_of was in
      let count : rise s m ≡ n = omega (arith, more) in
      ap (λ p. items_in_memory pay m.after.guests p.guest p.address (rise s m)) there
      ∙ ap (λ k. items_in_memory pay m.after.guests o.guest o.address k) count
      ∙ ap (λ ss. decoded (item_type ss) (drop o.address (memory_in m.after.guests o.guest)) n) payload
      ∙ ap (λ k. decoded byte_type (drop o.address (memory_in m.after.guests k)) n) guest

holds_in : (g at : ℕ) (memory after : List ℕ) (o : Option Operation) (rest : List (Option (List ℤ))) → HoldsIf g at memory o rest → o ≡ None → HoldsIf g at after None rest
holds_in g at memory after None rest h e = h
holds_in g at memory after (Some o) rest h e = absurd (let wrong = e in cc)

module _ (s g at : ℕ) (first work : Work) (made : List ℕ) (m : Moment) (got : List (Option (List ℤ)))
    (payload : (stream_at m.before s).payload ≡ One U8) (e : is_named s Reading m ≡ false) where
  pub unnamed_takes : Still Reading (scene s Reading m) → Takes g at first work made (memory_before m g) (before Reading m s) got → length (memory_after m g) ≡ length (memory_before m g) → MovedStays m s g at → Takes g at first work made (memory_after m g) (after_it Reading m s) (got ++ got_in s m)
  unnamed_takes (Resting r) t size stays =
      rw (r.is, r.nothing, append-nil got)
      (record {
        taken = t.taken;
        rest = t.rest;
        split = t.split;
        holds = holds_in g at (memory_in m.before.guests g) (memory_in m.after.guests g) (stream_at m.before s).reader.operation t.rest t.holds r.was;
        makes = t.makes;
        goes_on = t.goes_on;
      })
  unnamed_takes (Going o p n x) t size stays =
      let memory = memory_in m.before.guests g in
      let after = memory_in m.after.guests g in
      let h : HoldsRead g at memory o t.rest = subst (λ q. HoldsIf g at memory q t.rest) x.was t.holds in
      let is = received_there s g n m o payload e x.was h.begun.guest x.more in
      let address : p.address ≡ o.address + 1 * n = x.address ∙ ap (λ ss. o.address + item_size (item_type ss) * n) payload in
      rw x.is
      (record {
        taken = t.taken;
        rest = t.rest ++ got_in s m;
        split = ap (λ xs. xs ++ got_in s m) t.split ∙ append_assoc (as_items t.taken) t.rest (got_in s m);
        holds = holds_on g at n memory after o p t.rest (got_in s m) h x.guest address x.moved x.left (stays o x.was) size is;
        makes = t.makes;
        goes_on = t.goes_on;
      })
