-- One poll through an offer over a write's region, by what the host reader's record says.
use Rattle.std.proofs.Common.{◌≡◌, ℕ, zero, suc, ◌+◌, ◌*◌, ◌<◌, ◌≤◌, Bool, true, false, List, [], ◌∷◌, ◌++◌, length, drop, Option, Some, None, refl, sym, ap, subst, ◌∙◌, arith}
use Rattle.std.specs.Prelude.{◌==◌, ◌||◌, nat_lt, if◌then◌else◌, option_and_then, IsSome, IsNone}
use Rattle.std.specs.Option.{option_map}
use Rattle.std.proofs.lemmas.Bool.{ne_eqb}
use Rattle.std.proofs.lemmas.Bool.Decides.{nat_tests}
use Rattle.std.proofs.lemmas.List.{drop-drop}
use Rattle.strm_codes.specs.declared.codes.StreamResult.{StreamResult}
use Rattle.strm_codes.specs.Layout.{item_type}
use Rattle.strm_codes.specs.ItemTypes.{item_size, ItemType}
use Rattle.strm_codes.specs.declared.payloads.Payload.{Payload}
use Rattle.strm_memory.specs.Items.{items, items_at}
use Rattle.strm_memory.specs.Loads.{decode}
use Rattle.strm_buffers.specs.declared.answers.Answer.{Answer}
use Rattle.strm_buffers.specs.declared.answers.ReaderSaid.{ReaderSaid}
use Rattle.strm_buffers.specs.declared.answers.Turn.{Turn}
use Rattle.strm_buffers.specs.declared.sources.Source.{Source}
use Rattle.std.proofs.lemmas.Option.{slice_get-get_or}
use Rattle.strm_buffers.specs.declared.sources.Source.TheVariants.{Listed}
use Rattle.strm_buffers.specs.Listing.{Item, TypedItems, listed, items_in}
use Rattle.strm_buffers.specs.Offers.{Offered, IsBadNext, IsMemoryOf}
use Rattle.strm_buffers.specs.Said.{IfAnswered}
use Rattle.strm_buffers.specs.Tells.{ReaderTells, PollsReader, reader_record, first_lent}
use Rattle.strm_machine.specs.State.{Guest, memory_in}
use Rattle.strm_memory.specs.Linear.{LinearMemory, untold}
use Rattle.strm_channels.specs.Guests.{linear_in, with_linear}
use Rattle.strm_channels.proofs.GuestLemmas.{with_linear-twice}
use Rattle.strm_machine.specs.declared.streams.Operation.{Operation}
use Rattle.strm_machine.proofs.StateLemmas.{with_memory-same}
use Rattle.strm_memory.proofs.ItemLemmas.{items-add}
use Rattle.strm_memory.proofs.NoByteLemmas.{decode-no_bytes, items-no_bytes}
use Rattle.strm_host_machine.specs.ReaderTurn.{lifted_items}
use Rattle.strm_host_machine.proofs.ReaderLemmas.{IsBadNext as BadBehind}
use Rattle.strm_host_turns.specs.Regions.{region_address, lent_items}
use Rattle.strm_host_turns.specs.ReaderPolls.{IsBadBehind, PollsFrom}
use Rattle.strm_host_turns.proofs.RegionLemmas.{not_zero}
use Rattle.strm_host_turns.proofs.WriterPollLemmas.{Reads, of_answer}

-- ## Its address

items-none : (ss : ItemType) (a b : List ℕ) → items ss a 0 ≡ items ss b 0
unfolding items
items-none ss a b = refl

-- as many items were read as there were to be
were_read : (o : Option (List Item)) (n : ℕ) → n ≡ length (listed o) → 0 < n → IsSome o
were_read None n e l = absurd (omega (arith, e, l))
were_read (Some xs) n e l = refl

none_read : (ss : ItemType) (bytes : List ℕ) → IsSome (items ss bytes 0)
unfolding items
none_read ss bytes = refl

module _ (guests : List Guest) (payload : Payload) (write : Operation) where
  abbrev memory : List ℕ
  memory = memory_in guests write.guest

  abbrev ss : ItemType
  ss = item_type payload

  -- the address of the region of so many items that take so many bytes
  abbrev address_for : ℕ → ℕ → ℕ
  address_for w n = if (w == 0) || (n == 0) then 0 else write.address

  region_by_size : (w n k : ℕ) → item_size ss ≡ w → k ≤ n → items_at ss memory (address_for w n) k ≡ items_at ss memory write.address k
  region_by_size zero n k e l = items-no_bytes ss memory (drop write.address memory) k e
  region_by_size (suc w) zero zero e l = rw (not_zero w) (items-none ss memory (drop write.address memory))
  region_by_size (suc w) zero (suc k) e l = absurd (omega (arith, l))
  region_by_size (suc w) (suc n) k e l = rw (not_zero w, not_zero n) refl

  -- items that the write has left lie there as at its own address
  pub lifted_region : (k : ℕ) → k ≤ write.left → items_in ss memory (region_address payload write) k ≡ lifted_items guests payload write k
  lifted_region k l = ap listed (region_by_size (item_size ss) write.left k refl l)

  -- and one that is none as well
  bad_by_size : (w n k : ℕ) → item_size ss ≡ w → k < n → decode ss (drop (address_for w n + item_size ss * k) memory) ≡ None → decode ss (drop (write.address + item_size ss * k) memory) ≡ None
  bad_by_size zero n k e l b = cc (decode-no_bytes ss (drop (address_for zero n + item_size ss * k) memory) e, b)
  bad_by_size (suc w) zero k e l b = absurd (omega (arith, l))
  bad_by_size (suc w) (suc n) k e l b = subst (λ a. decode ss (drop (a + item_size ss * k) memory) ≡ None) (rw (not_zero w, not_zero n) refl) b

  -- the item behind so many of the region
  abbrev region_item : ℕ → Option Item
  region_item k = if nat_lt k write.left then decode ss (drop (region_address payload write + item_size ss * k) memory) else None

  is_none : (o : Option Item) → o ≡ None → IsNone o
  is_none None e = refl
  is_none (Some x) e = cc

  there_is : (k : ℕ) → k < write.left → region_item k ≡ decode ss (drop (region_address payload write + item_size ss * k) memory)
  there_is k l = let less : nat_lt k write.left ≡ true = grind (arith, nat_tests) in rw less refl

  before_bad : (k : ℕ) → k ≡ length (lifted_items guests payload write k) → IsSome (items ss (drop write.address memory) k)
  before_bad zero e = none_read ss (drop write.address memory)
  before_bad (suc k) e = were_read (items ss (drop write.address memory) (suc k)) (suc k) e (omega arith)

  bad_region : (k : ℕ) → k ≡ length (lifted_items guests payload write k) → k < write.left → region_item k ≡ None → IsBadBehind guests payload write k
  bad_region k e l b = record {
    within = l;
    before = before_bad k e;
    bad = is_none (decode ss (drop (item_size ss * k) (drop write.address memory)))
        (ap (decode ss) (drop-drop (item_size ss * k) write.address memory) ∙ bad_by_size (item_size ss) write.left k refl l (sym (there_is k l) ∙ b));
  }

  -- ## Lent and returned

  -- the guests are as they were, where the offer that came back is of the source that was lent
  pub items_returned : (source : Source) (since : ℕ) (between after : List Guest) → source ≡ (lent_items guests payload write since).source → between ≡ with_linear guests write.guest (untold [])
      → ((m : LinearMemory) → IsMemoryOf source m → after ≡ with_linear between write.guest m) → after ≡ guests
  items_returned source since between after is o b =
      let lent : LinearMemory = linear_in guests write.guest in
      b lent (subst (λ s. IsMemoryOf s lent) (sym is) refl)
      ∙ rw o (with_linear-twice guests write.guest (untold []) lent ∙ with_memory-same guests write.guest)

  -- ## A poll

  module _ (since : ℕ) (taken : Offered) (tells told : ReaderTells) where
    -- the offer
    abbrev lent : Offered
    lent = lent_items guests payload write since

    -- its record
    abbrev pub record_of : Offered → Answer → ReaderSaid
    record_of w answer = reader_record w taken write.asked answer

    -- what it took
    abbrev pub took_of : Offered → List Item
    took_of w = first_lent (item_type w.payload) w.source taken.taken

    -- a bad item that it asked for is the next one
    abbrev pub BadNext : Offered → Type 0
    BadNext w = taken.bad ≡ true → IsBadNext (item_type w.payload) w.source taken.taken

    offered : (answer : Answer) → PollsReader tells told (record_of lent answer) (took_of lent) → BadNext lent → PollsFrom tells told guests payload since write (record_of lent answer)
    offered answer p b =
        let same = lifted_region taken.taken p.most in
        let polls = subst (PollsReader tells told (record_of lent answer)) same p in
        record {
          polls = polls;
          offered = refl;
          after = refl;
          finish = refl;
          next = λ e. bad_region taken.taken polls.taken (b e).0 (b e).1;
        }

    -- what a turn tells of a poll that offered w
    abbrev pub TurnTells : Offered → Turn StreamResult → Type 0
    TurnTells w turn = IfAnswered turn (λ a. PollsReader tells told (record_of w a) (took_of w))

    -- an answer was read off the turn of a poll that offered w, and how many it took, and whether it met a
    -- bad item
    pub record WasRead (w : Offered) (turn : Turn StreamResult) (o : Option Answer) (answer : Answer) (count : ℕ) (bad : Bool) : Type 0 where
      pub of : w ≡ lent
      pub reads : Reads turn o
      pub some : o ≡ Some answer
      pub counted : count ≡ taken.taken
      pub bad_is : bad ≡ taken.bad
      pub polls : TurnTells w turn
      pub next : BadNext w

    -- the record of such a poll
    abbrev pub said_so : Answer → ℕ → Bool → ReaderSaid
    said_so answer count bad =
        record { offered = write.left; since = since; finish = write.asked; taken = count; bad = bad; answer = answer }

    pub offered_read : (w : Offered) (turn : Turn StreamResult) (o : Option Answer) (answer : Answer) (count : ℕ) (bad : Bool) → WasRead w turn o answer count bad
        → PollsFrom tells told guests payload since write (said_so answer count bad)
    offered_read w turn o answer count bad r =
        let polls = subst (λ v. TurnTells v turn) r.of r.polls in
        let p = of_answer (λ a. PollsReader tells told (record_of lent a) (took_of lent)) turn o answer r.reads r.some polls in
        rw (r.counted, r.bad_is) (offered answer p (subst BadNext r.of r.next))

-- no more is taken than the write has left
pub taken_few : (tells told : ReaderTells) (guests : List Guest) (payload : Payload) (since : ℕ) (write : Operation) (said : ReaderSaid) → PollsFrom tells told guests payload since write said → said.taken ≤ write.left
taken_few tells told guests payload since write said p = omega (arith, p.polls.most, p.offered)

-- ## A bad item behind others

no_item : (o : Option Item) → IsNone o → o ≡ None
no_item None h = refl
no_item (Some x) h = cc

then_none : (o : Option (List Item)) → option_and_then (λ xs. option_map (λ ys. xs ++ ys) None) o ≡ None
then_none None = refl
then_none (Some xs) = refl

one_none : (ss : ItemType) (bytes : List ℕ) → decode ss bytes ≡ None → items ss bytes 1 ≡ None
unfolding items
one_none fields bytes e = ap (λ o. option_and_then (λ x. option_map (λ xs. x ∷ xs) (Some [])) o) e

more_none : (ss : ItemType) (bytes : List ℕ) (n : ℕ) → IsNone (decode ss (drop (item_size ss * n) bytes)) → items ss bytes (n + 1) ≡ None
more_none ss bytes n h =
    items-add ss bytes n 1
    ∙ ap (λ o. option_and_then (λ xs. option_map (λ ys. xs ++ ys) o) (items ss bytes n)) (one_none ss (drop (item_size ss * n) bytes) (no_item _ h))
    ∙ then_none (items ss bytes n)

none_listed : (o : Option (List Item)) (n : ℕ) → o ≡ None → length (listed o) == n + 1 ≡ false
none_listed None n e = ne_eqb 0 (n + 1) (λ f. omega (arith, f))
none_listed (Some xs) n e = cc

-- the first bad item of a write is the one behind those that are items
pub bad_behind : (guests : List Guest) (payload : Payload) (write : Operation) (n : ℕ) → IsBadBehind guests payload write n → BadBehind write.left (lifted_items guests payload write) n
bad_behind guests payload write n b = record {
  within = b.within;
  bad = none_listed _ n (more_none (item_type payload) (drop write.address (memory_in guests write.guest)) n b.bad);
}

-- a list has no bad item
pub no_bad : (ss : ItemType) (source : Source) (items : TypedItems) (n : ℕ) (bad : Bool) → source ≡ Listed items → (bad ≡ true → IsBadNext ss source n) → bad ≡ false
no_bad ss source items n false e h = refl
no_bad ss source items n true e h =
    let next = subst (λ s. IsBadNext ss s n) e (h refl) in
    absurd (let some = slice_get-get_or items.items n [] next.0 in let wrong = sym next.1 ∙ some in cc)
