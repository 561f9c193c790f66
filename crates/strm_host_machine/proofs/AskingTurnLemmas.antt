-- The turn of a host end, or the round of a pipe, stops at a bad item exactly where one of the items that it asks
-- for is none.
use Rattle.std.proofs.Common.{◌≡◌, ℕ, ◌+◌, ◌-◌, ◌<◌, ◌==◌, Bool, true, false, ◌&&◌, ◌||◌, not, cond, List, [], ◌∷◌, length, take, drop, Option, Some, None, refl, sym, ap, subst, ◌∙◌, arith, length-take}
use Rattle.std.specs.Prelude.{nat_lt}
use Rattle.std.proofs.lemmas.Bool.{cond_both, and_parts, eq-eqb, eqb-true}
use Rattle.std.proofs.lemmas.Bool.Decides.{nat_tests}
use Rattle.strm_codes.specs.Layout.{item_type}
use Rattle.strm_memory.specs.Items.{items}
use Rattle.strm_memory.proofs.RegionLemmas.{length-items}
use Rattle.strm_buffers.specs.Listing.{Item, listed}
use Rattle.strm_buffers.specs.declared.answers.Answer.{Answer}
use Rattle.strm_buffers.specs.declared.answers.ReaderSaid.{ReaderSaid}
use Rattle.strm_buffers.specs.Said.{WriterSaid}
use Rattle.strm_buffers.specs.HostRules.{breaks_as_writer, breaks_as_reader}
use Rattle.strm_machine.specs.State.{State, producer_at, consumer_at, memory_in, stream_at}
use Rattle.strm_machine.specs.Asked.{items_next}
use Rattle.strm_machine.specs.declared.replies.Reply.{Reply}
use Rattle.strm_machine.specs.declared.stops.Stop.TheVariants.{HostFailed, HostBroke, BadItem}
use Rattle.strm_machine.specs.declared.streams.HostEnd.TheVariants as ends
use Rattle.strm_machine.specs.declared.streams.Operation.{Operation}
use Rattle.strm_machine.specs.declared.streams.Owner.TheVariants.{Host}
use Rattle.strm_host_machine.specs.Ends.{Writer, Reader, polled_writer, polled_reader}
use Rattle.strm_host_machine.specs.World.{World, stream_in, writer_at, reader_at, held_of, with_kept, with_writer, with_reader}
use Rattle.strm_host_machine.specs.Outcomes.{Outcome, Goes, Stops, Stuck, stops, done, then_on}
use Rattle.strm_host_machine.specs.Polls.{AfterWriter, is_failed, is_writer_poll, writer_says, AfterReader, is_reader_poll, are_items, tells_truly, reader_says}
use Rattle.strm_host_machine.specs.WriterTurn.{receives, with_answer, produced_result, produces, writer_turn}
use Rattle.strm_host_machine.specs.ReaderTurn.{lifted_items, reader_with_taken, gives_up, reader_turn}
use Rattle.strm_host_machine.specs.Piping.{wants_items, fetches, gathered, passed_on, offers, is_done_with, is_run_dry, ends_if_done, pipe_round}
use Rattle.strm_host_machine.specs.Attaching.{has_items}
use Rattle.strm_host_machine.specs.Asking.{asked_by, ReaderAsksBad, after_asking}

-- ## Items

-- where the next items of a write are not items, there are none
none_by : (o : Option (List Item)) (n : ℕ) → ((xs : List Item) → o ≡ Some xs → length xs ≡ n) → length (listed o) == n ≡ false → o ≡ None
none_by None n h e = refl
none_by (Some xs) n h e = absurd (let wrong = sym e ∙ eq-eqb (length xs) n (h xs refl) in cc)

next_none : (state : State) (s : ℕ) (write : Operation) (n : ℕ) → are_items (lifted_items state.guests (stream_at state s).payload write) n ≡ false → items_next state s write n ≡ None
next_none state s write n e =
    none_by (items_next state s write n) n
    (length-items (item_type (stream_at state s).payload) (drop write.address (memory_in state.guests write.guest)) n) e

-- a record that tells truly of a bad item
bad_within : (offered : ℕ) (first : ℕ → List Item) (said : ReaderSaid) → tells_truly offered first said ≡ true → said.bad ≡ true → (said.taken < offered) × (are_items first (said.taken + 1) ≡ false)
bad_within offered first said t b =
    let parts = and_parts (are_items first said.taken) (not said.bad || (nat_lt said.taken offered && not (are_items first (said.taken + 1)))) t in
    let told : nat_lt said.taken offered && not (are_items first (said.taken + 1)) ≡ true = subst (λ x. not x || (nat_lt said.taken offered && not (are_items first (said.taken + 1))) ≡ true) b parts.1 in
    let two = and_parts (nat_lt said.taken offered) (not (are_items first (said.taken + 1))) told in
    let inside = two.0 in
    (grind (arith, nat_tests), not_true (are_items first (said.taken + 1)) two.1)
  where
    not_true : (b : Bool) → not b ≡ true → b ≡ false
    not_true true e = cc
    not_true false e = refl

no_items : (state : State) (s : ℕ) (write : Operation) → items_next state s write 0 ≡ None → ⊥
unfolding items
no_items state s write e = cc

-- the items that a reader asks for are none only where it tells of a bad one
bad_asked : (state : State) (s offered : ℕ) (write : Operation) (said : ReaderSaid) → tells_truly offered (lifted_items state.guests (stream_at state s).payload write) said ≡ true → items_next state s write (asked_by said) ≡ None → said.bad ≡ true
bad_asked state s offered write said t e = by said.bad refl
  where
    some_taken : (o : Option (List Item)) (n : ℕ) → o ≡ None → (length (listed o) == n ≡ true) → n ≡ 0
    some_taken None n e h = sym (eqb-true 0 n h)
    some_taken (Some xs) n e h = cc

    by : (b : Bool) → said.bad ≡ b → b ≡ true
    by true f = refl
    by false f =
        let taken : items_next state s write said.taken ≡ None = subst (λ x. items_next state s write (cond x (said.taken + 1) said.taken) ≡ None) f e in
        let first = lifted_items state.guests (stream_at state s).payload write in
        let good = (and_parts (are_items first said.taken) (not said.bad || (nat_lt said.taken offered && not (are_items first (said.taken + 1)))) t).0 in
        let nothing = some_taken (items_next state s write said.taken) said.taken taken good in
        absurd (no_items state s write (subst (λ n. items_next state s write n ≡ None) nothing taken))

-- ## What a stop at a bad item says

-- this holds of the stream of a bad item
abbrev pub IfBad : (ℕ → Type 0) → Outcome → Type 0
IfBad P (Stops (BadItem s) writers readers) = P s
IfBad P _ = Unit {0}

if_bad : (P : ℕ → Type 0) (o : Outcome) → ((s : ℕ) (writers : List Writer) (readers : List Reader) → o ≡ Stops (BadItem s) writers readers → P s) → IfBad P o
if_bad P (Goes reply w) h = tt
if_bad P (Stops (BadItem s) writers readers) h = h s writers readers refl
if_bad P (Stops _ writers readers) h = tt
if_bad P Stuck h = tt

pub bad_is : (P : ℕ → Type 0) (o : Outcome) (s : ℕ) (writers : List Writer) (readers : List Reader) → IfBad P o → o ≡ Stops (BadItem s) writers readers → P s
bad_is P o s writers readers h e = subst (IfBad P) e h

-- one that says less
pub bad_weaker : (P Q : ℕ → Type 0) (o : Outcome) → ((s : ℕ) → P s → Q s) → IfBad P o → IfBad Q o
bad_weaker P Q (Goes reply w) f h = tt
bad_weaker P Q (Stops (BadItem s) writers readers) f h = f s h
bad_weaker P Q (Stops _ writers readers) f h = tt
bad_weaker P Q Stuck f h = tt

pub then_bad : (P : ℕ → Type 0) (o : Outcome) (next : World → Outcome) → IfBad P o → ((reply : Reply) (w : World) → o ≡ Goes reply w → IfBad P (next w)) → IfBad P (then_on o next)
then_bad P (Goes reply w) next h k = k reply w refl
then_bad P (Stops stop writers readers) next h k = h
then_bad P Stuck next h k = tt

-- ## The turn of a host writer asks for none

module _ (P : ℕ → Type 0) where
  writer-bad : (w : World) (s n : ℕ) (room : Option ℕ) (finish : Bool) (coming : List WriterSaid) (next : AfterWriter) → ((v : World) (said : WriterSaid) → IfBad P (next v said)) → IfBad P (writer_says w s n room finish coming next)
  writer-bad w s n room finish [] next h = tt
  writer-bad w s n room finish (said ∷ more) next h =
      let after = with_writer w n (polled_writer (writer_at w n) room said more) in
      cond_both (is_writer_poll room finish said) _ _ (IfBad P)
      (λ p. cond_both (is_failed said.answer) _ _ (IfBad P) (λ f. tt)
      (λ f. cond_both (breaks_as_writer (stream_in w s).kind said) _ _ (IfBad P) (λ b. tt) (λ b. h after said)))
      (λ p. tt)

  produces-bad : (w : World) (s n : ℕ) (read : Operation) (items : List Item) → IfBad P (produces w s n read items)
  produces-bad w s n read (item ∷ items) = tt
  produces-bad w s n read [] =
      cond_both (producer_at w.state n).over _ _ (IfBad P) (λ o. tt)
      (λ o. writer-bad w s n (Some read.left) read.asked (writer_at w n).coming
      (λ after said. done (receives (with_answer after n said.answer (drop read.left said.items)) s read (take read.left said.items) (produced_result said.answer (drop read.left said.items))))
      (λ v said. tt))

  pub produced-bad : (w : World) (s n : ℕ) (read : Operation) → IfBad P (writer_turn w s n read)
  unfolding writer_turn
  produced-bad w s n read = produces-bad w s n read (writer_at w n).holds

-- ## A poll of a host reader

module _ (P : ℕ → Type 0) (w : World) (s r offered : ℕ) (finish : Bool) (first : ℕ → List Item) where
  -- a record that is used, and is of a bad item
  record UsesBad (said : ReaderSaid) : Type 0 where
    more : List ReaderSaid
    next : (reader_at w r).coming ≡ said ∷ more
    polled : is_reader_poll offered (consumer_at w.state r).since finish said ≡ true
    truly : tells_truly offered first said ≡ true
    answered : is_failed said.answer ≡ false
    bad : said.bad ≡ true

  reader-bad : (coming : List ReaderSaid) (next : AfterReader) → (reader_at w r).coming ≡ coming → ((said : ReaderSaid) → UsesBad said → P s) → ((v : World) (said : ReaderSaid) → IfBad P (next v said)) → IfBad P (reader_says w s r offered finish first coming next)
  reader-bad [] next e h k = tt
  reader-bad (said ∷ more) next e h k =
      let after = with_reader w r (polled_reader (reader_at w r) (first said.taken) more) in
      cond_both (is_reader_poll offered (consumer_at w.state r).since finish said && tells_truly offered first said) _ _ (IfBad P)
      (λ p.
      let parts = and_parts (is_reader_poll offered (consumer_at w.state r).since finish said) (tells_truly offered first said) p in
      cond_both (is_failed said.answer) _ _ (IfBad P) (λ f. tt)
      (λ f. cond_both said.bad _ _ (IfBad P)
      (λ b. h said (record { more = more; next = e; polled = parts.0; truly = parts.1; answered = f; bad = b }))
      (λ b. cond_both (breaks_as_reader (stream_in w s).kind said) _ _ (IfBad P) (λ x. tt) (λ x. k after said))))
      (λ p. tt)

-- ## The turn of a host reader

asked_one : (state : State) (s : ℕ) (write : Operation) (said : ReaderSaid) → said.bad ≡ true → items_next state s write (said.taken + 1) ≡ None → items_next state s write (asked_by said) ≡ None
asked_one state s write said b e = subst (λ x. items_next state s write (cond x (said.taken + 1) said.taken) ≡ None) (sym b) e

-- stream s is asked for an item that is none, of this write
pub record AsksOf (w : World) (s : ℕ) (write : Operation) (t : ℕ) : Type 0 where
  pub same : t ≡ s
  pub asks : ReaderAsksBad w s write

pub consumed-bad : (w : World) (s r : ℕ) (write : Operation) → (stream_in w s).reader.owner ≡ Host r → IfBad (AsksOf w s write) (reader_turn w s r write)
unfolding reader_turn
consumed-bad w s r write o =
    let first = lifted_items w.state.guests (stream_in w s).payload write in
    reader-bad (AsksOf w s write) w s r write.left write.asked first (reader_at w r).coming
    (λ after said. done (gives_up (reader_with_taken after r said.answer said.taken) s write said.taken said.answer))
    refl
    (λ said u. record {
      same = refl;
      asks = record {
        reader = r;
        owner = o;
        said = said;
        more = u.more;
        next = u.next;
        polled = u.polled;
        truly = u.truly;
        answered = u.answered;
        bad = asked_one w.state s write said u.bad (next_none w.state s write (said.taken + 1) (bad_within write.left first said u.truly u.bad).1);
      };
    })
    (λ v said. tt)

-- and where it is, the turn stops at it
module _ (w : World) (s : ℕ) (write : Operation) (a : ReaderAsksBad w s write) where
  abbrev r : ℕ
  r = a.reader

  abbrev first : ℕ → List Item
  first = lifted_items w.state.guests (stream_in w s).payload write

  abbrev after : World
  after = after_asking w s write a

  abbrev goes_on : AfterReader
  goes_on v said = done (gives_up (reader_with_taken v r said.answer said.taken) s write said.taken said.answer)

  abbrev broke_or : Bool → Outcome
  broke_or b = cond b (stops (HostBroke (ends.Reader r)) after) (goes_on after a.said)

  abbrev bad_or : Bool → Outcome
  bad_or b = cond b (stops (BadItem s) after) (broke_or (breaks_as_reader (stream_in w s).kind a.said))

  abbrev failed_or : Bool → Outcome
  failed_or b = cond b (stops (HostFailed (ends.Reader r)) after) (bad_or a.said.bad)

  pub turn-asked : reader_turn w s r write ≡ stops (BadItem s) after
  unfolding reader_turn
  turn-asked =
      ap (λ rs. reader_says w s r write.left write.asked first rs goes_on) a.next
      ∙ ap (λ b. cond (b && tells_truly write.left first a.said) (failed_or (is_failed a.said.answer)) Stuck) a.polled
      ∙ ap (λ b. cond b (failed_or (is_failed a.said.answer)) Stuck) a.truly
      ∙ ap failed_or a.answered
      ∙ ap bad_or (bad_asked w.state s write.left write a.said a.truly a.bad)

-- ## The round of a pipe asks for none

-- each item of a list is one
list_good : (held : List Item) (said : ReaderSaid) → tells_truly (length held) (λ k. take k held) said ≡ true → said.bad ≡ true → ⊥
list_good held said t b =
    let h = bad_within (length held) (λ k. take k held) said t b in
    let all : length (take (said.taken + 1) held) ≡ said.taken + 1 = omega (arith, length-take (said.taken + 1) held, h.0) in
    let wrong = sym h.1 ∙ eq-eqb (length (take (said.taken + 1) held)) (said.taken + 1) all in
    cc

module _ (P : ℕ → Type 0) where
  ends-bad : (w : World) (s n r : ℕ) (answer : Option Answer) → IfBad P (ends_if_done w s n r answer)
  ends-bad w s n r answer = cond_both (is_done_with (stream_in w s).kind answer || is_run_dry w n r) _ _ (IfBad P) (λ d. tt) (λ d. tt)

  fetches-bad : (w : World) (s n r : ℕ) → IfBad P (fetches w s n r)
  fetches-bad w s n r =
      cond_both (wants_items w n r) _ _ (IfBad P)
      (λ e. writer-bad P w s n None false (writer_at w n).coming (λ after said. done (with_kept (with_answer after n said.answer []) n said.items)) (λ v said. tt))
      (λ e. tt)

  offers-bad : (w : World) (s n r : ℕ) → IfBad P (offers w s n r (λ after answer. ends_if_done after s n r answer))
  offers-bad w s n r =
      let held = held_of w n in
      let u = gathered w n in
      cond_both (has_items held || (consumer_at w.state r).resting) _ _ (IfBad P)
      (λ e. reader-bad P u s r (length held) false (λ k. take k held) (reader_at u r).coming
      (λ after said. ends_if_done (passed_on after s n r said.answer said.taken) s n r (Some said.answer)) refl
      (λ said x. absurd (list_good held said x.truly x.bad))
      (λ v said. ends-bad (passed_on v s n r said.answer said.taken) s n r (Some said.answer)))
      (λ e. ends-bad w s n r None)

  pub piped-bad : (w : World) (s n r : ℕ) → IfBad P (pipe_round w s n r)
  unfolding pipe_round
  piped-bad w s n r = then_bad P (fetches w s n r) (λ f. offers f s n r (λ after answer. ends_if_done after s n r answer)) (fetches-bad w s n r) (λ reply f e. offers-bad f s n r)
