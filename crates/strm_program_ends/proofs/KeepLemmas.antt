-- What a scripted reader keeps: the bytes of the items that it took, one poll's behind another's.
use Rattle.std.proofs.Common.{◌≡◌, ℕ, ◌+◌, ◌*◌, List, [], ◌∷◌, ◌++◌, length, take, Bool, true, false, Option, Some, None, refl, sym, ap, subst, ◌∙◌, arith, length-append, length-drop, ◌≤◌, min}
use Rattle.std.proofs.lemmas.List.{take_all}
use Rattle.std.proofs.Math.Nat.{mul-le-mul_left}
use Rattle.std.specs.Prelude.{IsSome}
use Rattle.std.specs.Option.{option_map}
use Rattle.strm_codes.specs.Layout.{item_type}
use Rattle.strm_codes.specs.ItemTypes.{item_size}
use Rattle.strm_codes.specs.declared.payloads.Payload.{Payload}
use Rattle.strm_memory.specs.Bytes.{IsBytes}
use Rattle.strm_memory.specs.Items.{items_at}
use Rattle.strm_memory.proofs.RegionLemmas.{AreItems-items}
use Rattle.strm_buffers.specs.Offers.{Offered, items_lent, good_lent, after_taking}
use Rattle.strm_buffers.proofs.OfferLemmas.{good_most}
use Rattle.strm_buffers.specs.declared.answers.Answer.{Answer}
use Rattle.strm_buffers.specs.declared.answers.ReaderSaid.{ReaderSaid}
use Rattle.strm_buffers.specs.Tells.{reader_record, first_lent}
use Rattle.strm_buffers.specs.Listing.{Item, LieIn, items_in}
use Rattle.strm_buffers.proofs.ListingLemmas.{Lie, lie_is, lie_made, lie_none, lie_more}
use Rattle.strm_program_ends.specs.Kept.{taken_in_polls, AreTaken, items_kept}

taken_in_polls-more : (saids : List ReaderSaid) (said : ReaderSaid) → taken_in_polls (saids ++ said ∷ []) ≡ taken_in_polls saids + said.taken
taken_in_polls-more [] said = omega arith
taken_in_polls-more (x ∷ saids) said = omega (arith, taken_in_polls-more saids said)

-- they lie there
taken_lie : (payload : Payload) (bytes : List ℕ) (saids : List ReaderSaid) → IsBytes bytes → AreTaken payload bytes saids → LieIn (item_type payload) bytes 0 (taken_in_polls saids)
taken_lie payload bytes saids b a =
    go (items_at (item_type payload) bytes 0 (taken_in_polls saids)) refl a.good
  where
    go : (o : Option (List Item)) → items_at (item_type payload) bytes 0 (taken_in_polls saids) ≡ o → IsSome o → LieIn (item_type payload) bytes 0 (taken_in_polls saids)
    go None e g = cc
    go (Some xs) e g = (lie_made (item_type payload) bytes 0 (taken_in_polls saids) xs (omega (arith, a.all)) e (AreItems-items (item_type payload) bytes (taken_in_polls saids) xs b e)).lie

-- nothing is kept before the first poll
pub taken_none : (payload : Payload) (bytes : List ℕ) (saids : List ReaderSaid) → bytes ≡ [] → saids ≡ [] → AreTaken payload bytes saids
taken_none payload bytes saids e f =
    let none : AreTaken payload [] [] = record { all = omega arith; good = (lie_none (item_type payload) [] 0 (omega arith)).lie.good } in
    subst (λ xs. AreTaken payload xs saids) (sym e) (subst (λ s. AreTaken payload [] s) (sym f) none)

-- what a turn takes needs no more room than was made
pub taken_within : (payload : Payload) (o : Offered) (wanted offered size : ℕ) → o.payload ≡ payload → o.taken ≡ 0 → offered ≡ items_lent o.source → size ≡ item_size (item_type payload)
    → item_size (item_type payload) * (after_taking wanted o).taken ≤ size * min wanted offered
taken_within payload o wanted offered size p t n e =
    let ss = item_type o.payload in
    let few : (after_taking wanted o).taken ≤ min wanted offered = omega (arith, t, n, good_most ss o.source, length-drop o.taken (good_lent ss o.source)) in
    rw e (mul-le-mul_left (item_size (item_type payload)) few)

-- the bytes of one poll more
pub record KeptMore (payload : Payload) (bytes new : List ℕ) (saids news : List ReaderSaid) (took : List Item) : Type 0 where
  pub taken : AreTaken payload new news
  pub is : items_in (item_type payload) new 0 (taken_in_polls news) ≡ items_in (item_type payload) bytes 0 (taken_in_polls saids) ++ took

module _ (payload : Payload) (bytes given new : List ℕ) (saids news : List ReaderSaid) (said : ReaderSaid) (took : List Item) (b : IsBytes bytes) (a : AreTaken payload bytes saids) (e : new ≡ bytes ++ given) (f : news ≡ saids ++ said ∷ []) where
  pub kept_more : let ss = item_type payload in LieIn ss given 0 said.taken → items_in ss given 0 said.taken ≡ took → length given ≡ item_size ss * said.taken → KeptMore payload bytes new saids news took
  kept_more l i size =
      let ss = item_type payload in
      let w = item_size ss in
      let n = taken_in_polls saids in
      let count : taken_in_polls news ≡ n + said.taken = ap taken_in_polls f ∙ taken_in_polls-more saids said in
      let more : w * (n + said.taken) ≡ w * n + w * said.taken = grind arith in
      let old = taken_lie payload bytes saids b a in
      let behind = lie_more ss bytes given 0 n said.taken (items_in ss given 0 said.taken) (record { lie = old; all = omega (arith, a.all) }) (lie_is ss given 0 said.taken l) l.fit (omega (arith, size)) in
      let all : bytes ++ take (w * said.taken) given ≡ new = ap (λ xs. bytes ++ xs) (take_all (w * said.taken) given (omega (arith, size))) ∙ sym e in
      let lie : Lie ss new 0 (taken_in_polls news) (items_in ss bytes 0 n ++ items_in ss given 0 said.taken) =
      subst (λ m. Lie ss new 0 m (items_in ss bytes 0 n ++ items_in ss given 0 said.taken)) (sym count) (subst (λ xs. Lie ss xs 0 (n + said.taken) (items_in ss bytes 0 n ++ items_in ss given 0 said.taken)) all behind) in
      record {
        taken = record { all = ap length e ∙ omega (arith, length-append bytes given, a.all, size, more, ap (λ m. w * m) count); good = lie.lie.good };
        is = lie.is ∙ ap (λ xs. items_in ss bytes 0 n ++ xs) i;
      }

-- and what it tells of them, where it keeps them
pub kept_holds : (keeps : Bool) (payload : Payload) (bytes new : List ℕ) (saids news : List ReaderSaid) (took : List Item) → (keeps ≡ true → KeptMore payload bytes new saids news took)
    → items_kept keeps payload new news ≡ option_map (λ xs. xs ++ took) (items_kept keeps payload bytes saids)
kept_holds true payload bytes new saids news took h = ap Some (h refl).is
kept_holds false payload bytes new saids news took h = refl

-- after a poll that did a turn
module _ (payload : Payload) (old new : Offered) (wanted : ℕ) (bytes given kept : List ℕ) (saids news : List ReaderSaid) (finish : Bool) (answer : Answer) (h : old.payload ≡ payload) (e : new ≡ after_taking wanted old) (b : IsBytes bytes) (a : AreTaken payload bytes saids) (k : kept ≡ bytes ++ given) (f : news ≡ saids ++ reader_record old new finish answer ∷ []) where
  pub polled_more : let ss = item_type new.payload in LieIn ss given 0 new.taken → items_in ss given 0 new.taken ≡ first_lent ss new.source new.taken → length given ≡ item_size ss * new.taken → KeptMore payload bytes kept saids news (first_lent (item_type old.payload) old.source new.taken)
  polled_more lie items size =
      let p : new.payload ≡ payload = ap (λ (o : Offered). o.payload) e ∙ h in
      let s = ap (λ (o : Offered). o.source) e in
      let took = subst (λ q. items_in (item_type q) given 0 new.taken ≡ first_lent (item_type q) new.source new.taken) p items
      ∙ ap (λ src. first_lent (item_type payload) src new.taken) s ∙ ap (λ q. first_lent (item_type q) old.source new.taken) (sym h) in
      kept_more payload bytes given kept saids news (reader_record old new finish answer) _ b a k f
      (subst (λ q. LieIn (item_type q) given 0 new.taken) p lie) took (subst (λ q. length given ≡ item_size (item_type q) * new.taken) p size)
