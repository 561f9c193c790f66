-- What the round of a pipe does where it goes on: the records that its two host ends used, the items that the
-- reader took, and what is held then.
use Rattle.std.proofs.Common.{◌≡◌, ℕ, ◌<◌, ◌≤◌, ◌==◌, ◌||◌, ◌&&◌, Bool, true, false, List, [], ◌∷◌, ◌++◌, length, take, drop, get_or, set, Option, Some, None, refl, sym, ap, subst, ◌∙◌, ◌⊎◌, inl, inr, arith, append-nil, take-append-drop, length-take}
use Rattle.std.proofs.lemmas.Bool.{cond_both, cases_lt, and_parts, or_parts, eqb-true, not-false}
use Rattle.std.proofs.lemmas.Bool.Decides.{nat_tests}
use Rattle.std.proofs.lemmas.List.{get_or-set_same, get_or_past, length-set, set-set}
use Rattle.std.specs.Prelude.{zero, suc, slice_set, nat_lt, nat_le, not}
use Rattle.std.specs.Option.{option_map}
use Rattle.strm_codes.specs.declared.codes.TransmitKind.{TransmitKind}
use Rattle.strm_codes.specs.declared.codes.TransmitKind.TheVariants.{Future}
use Rattle.strm_buffers.specs.declared.answers.Answer.{Answer}
use Rattle.strm_buffers.specs.declared.answers.Answer.TheVariants as answers
use Rattle.strm_buffers.specs.declared.answers.ReaderSaid.{ReaderSaid}
use Rattle.strm_buffers.specs.HostRules.{is_untouched, writer_breaks, reader_breaks, breaks_as_writer, breaks_as_reader}
use Rattle.strm_buffers.specs.Listing.{Item}
use Rattle.strm_buffers.specs.Said.{WriterSaid}
use Rattle.strm_machine.specs.State.{no_stream, no_producer, no_consumer, producer_at, kept_at, consumer_at}
use Rattle.strm_machine.specs.declared.streams.Producer.{Producer}
use Rattle.strm_machine.specs.declared.streams.Consumer.{Consumer}
use Rattle.strm_machine.specs.declared.streams.Stream.{Stream}
use Rattle.strm_machine.specs.declared.replies.Reply.{Reply}
use Rattle.strm_machine.specs.declared.replies.Reply.TheVariants as replies
use Rattle.strm_machine.proofs.TableLemmas.{set-keeps}
use Rattle.strm_host_machine.specs.Ends.{Writer, Reader, no_writer, no_reader, polled_writer, polled_reader}
use Rattle.strm_host_machine.specs.World.{World, stream_in, writer_at, reader_at, held_of, with_kept, with_consumer, with_writer, with_reader, with_stream_in}
use Rattle.strm_host_machine.specs.Outcomes.{Outcome, Goes, Stops, Stuck, done, then_on}
use Rattle.strm_host_machine.specs.Polls.{is_failed, same_flag, is_writer_poll, writer_says, is_reader_poll, tells_truly, reader_says}
use Rattle.strm_host_machine.specs.Settling.{with_some_received, since_after}
use Rattle.strm_host_machine.specs.WriterTurn.{is_last, with_answer}
use Rattle.strm_host_machine.specs.Attaching.{has_items}
use Rattle.strm_host_machine.specs.Piping.{wants_items, fetches, gathered, is_resting, passed_on, offers, is_done_with, is_run_dry, both_gone, ends_if_done, pipe_round}
use Rattle.strm_host_machine.proofs.WorldLemmas.{set-same}
use Rattle.strm_host_laws.specs.HostLaws.{items_of_records, count_taken}
use Rattle.strm_host_laws.proofs.GoingRules.{with_state, IfGoes, some_received-kind, written-streams, with_stream_in-same}

-- FETCHING

-- this is kept of host writer n
abbrev fetched_world : World → ℕ → Producer → List Item → Writer → World
fetched_world w n producer kept writer = record {
  state = record w.state { producers = slice_set w.state.producers n producer; kept = slice_set w.state.kept n kept };
  writers = slice_set w.writers n writer;
  readers = w.readers;
}

-- a host writer is polled where nothing is held and the reader does not wait; on a future it produces one item at
-- most
pub record FetchesOnce (w : World) (s n r : ℕ) (said : List WriterSaid) : Type 0 where
  pub one : (stream_in w s).kind ≡ Future → length (items_of_records said) ≤ 1
  pub none : (said ≡ []) ⊎ ((held_of w n ≡ []) × ((consumer_at w.state r).resting ≡ false))

-- it used these records, and their items are kept
record Fetched (w : World) (s n r : ℕ) (f : World) : Type 0 where
  said : List WriterSaid
  producer : Producer
  kept : List Item
  writer : Writer
  is : f ≡ fetched_world w n producer kept writer
  duty : producer.duty ≡ (producer_at w.state n).duty
  coming : (writer_at w n).coming ≡ said ++ (writer_at f n).coming
  balance : held_of w n ++ items_of_records said ≡ held_of f n
  wants : FetchesOnce w s n r said

-- a record that does not say Failed, and breaks no rule
abbrev pub IsGoodSaid : TransmitKind → WriterSaid → Type 0
IsGoodSaid kind said = (is_failed said.answer ≡ false) × (breaks_as_writer kind said ≡ false)

-- the same of a host reader's
abbrev IsGoodTold : TransmitKind → ReaderSaid → Type 0
IsGoodTold kind said = (is_failed said.answer ≡ false) × (breaks_as_reader kind said ≡ false)

-- a record by the rules of a future has one item at most
pub one_said : (said : WriterSaid) → IsGoodSaid Future said → length said.items ≤ 1
one_said said good = by said.answer good.0 good.1
  where
    by : (answer : Answer) → is_failed answer ≡ false → writer_breaks Future answer said.room said.finish (length said.items) ≡ false → length said.items ≤ 1
    by answers.Pending f e = grind (arith, nat_tests)
    by answers.Completed f e = let one = not-false (length said.items == 1) e in omega (arith, eqb-true (length said.items) 1 one)
    by answers.Cancelled f e = let none = (or_parts (nat_lt 0 (length said.items)) (not said.finish) e).0 in grind (arith, nat_tests)
    by answers.Dropped f e = cc
    by answers.Failed f e = cc

-- what is not so
not_true : (b : Bool) → not b ≡ true → b ≡ false
not_true true e = cc
not_true false e = refl

-- nothing is held
pub none_held : (xs : List Item) → not (has_items xs) ≡ true → xs ≡ []
none_held [] e = refl
none_held (x ∷ xs) e = cc

-- a host end that has records is there
pub writer_there : (w : World) (n : ℕ) (said : WriterSaid) (more : List WriterSaid) → (writer_at w n).coming ≡ said ∷ more → n < length w.writers
writer_there w n said more e =
    elim (cases_lt n (length w.writers)) [
      | inl l ↦ l
      | inr l ↦ absurd (let past = ap (λ (x : Writer). x.coming) (get_or_past w.writers n no_writer l) in let wrong : [] ≡ said ∷ more = sym past ∙ e in cc)
    ]

pub reader_there : (w : World) (r : ℕ) (said : ReaderSaid) (more : List ReaderSaid) → (reader_at w r).coming ≡ said ∷ more → r < length w.readers
reader_there w r said more e =
    elim (cases_lt r (length w.readers)) [
      | inl l ↦ l
      | inr l ↦ absurd (let past = ap (λ (x : Reader). x.coming) (get_or_past w.readers r no_reader l) in let wrong : [] ≡ said ∷ more = sym past ∙ e in cc)
    ]

module _ (w : World) (s n r : ℕ) (known : n < length w.state.kept) where
  -- a part that goes on fetched so
  abbrev IsFetched : Outcome → Type 0
  IsFetched o = IfGoes o (λ reply f. Fetched w s n r f)

  unfetched : Fetched w s n r w
  unfetched = record {
    said = [];
    producer = producer_at w.state n;
    kept = kept_at w.state n;
    writer = writer_at w n;
    is =
        ap (λ ps. record { state = record w.state { producers = ps; kept = w.state.kept }; writers = w.writers; readers = w.readers }) (sym (set-same w.state.producers n no_producer))
        ∙ ap (λ ks. record { state = record w.state { producers = slice_set w.state.producers n (producer_at w.state n); kept = ks }; writers = w.writers; readers = w.readers }) (sym (set-same w.state.kept n []))
        ∙ ap (λ ws. record { state = record w.state { producers = slice_set w.state.producers n (producer_at w.state n); kept = slice_set w.state.kept n (kept_at w.state n) }; writers = ws; readers = w.readers }) (sym (set-same w.writers n no_writer));
    duty = refl;
    coming = refl;
    balance = append-nil (held_of w n);
    wants = record { one = λ e. omega arith; none = inl refl };
  }

  -- the world after this record
  abbrev fetched_now : WriterSaid → List WriterSaid → World
  fetched_now said more = with_kept (with_answer (with_writer w n (polled_writer (writer_at w n) None said more)) n said.answer []) n said.items

  fetched_by : (said : WriterSaid) (more : List WriterSaid) → (writer_at w n).coming ≡ said ∷ more → held_of w n ≡ [] → (consumer_at w.state r).resting ≡ false → IsGoodSaid (stream_in w s).kind said → Fetched w s n r (fetched_now said more)
  fetched_by said more c e rest good =
      let writer = polled_writer (writer_at w n) None said more in
      let now = get_or-set_same w.writers n writer no_writer (writer_there w n said more c) in
      record {
        said = said ∷ [];
        producer = record (producer_at w.state n) { over = (producer_at w.state n).over || is_last said.answer; holding = false };
        kept = said.items;
        writer = writer;
        is = refl;
        duty = refl;
        coming = c ∙ ap (λ (x : Writer). said ∷ x.coming) (sym now);
        balance =
            ap (λ xs. xs ++ (said.items ++ [])) e
            ∙ ap (λ xs. xs ++ []) (sym (get_or-set_same w.state.kept n said.items [] known))
            ∙ ap (λ (x : Writer). get_or (set w.state.kept n said.items) n [] ++ x.holds) (sym now);
        wants = record {
          one = λ k. (let one = one_said said (good.0, ap (λ x. breaks_as_writer x said) (sym k) ∙ good.1) in let none = ap length (append-nil said.items) in omega (arith, one, none));
          none = inr (e, rest);
        };
      }

  fetched_after : (coming : List WriterSaid) → (writer_at w n).coming ≡ coming → held_of w n ≡ [] → (consumer_at w.state r).resting ≡ false
      → IsFetched (writer_says w s n None false coming (λ after said. done (with_kept (with_answer after n said.answer []) n said.items)))
  fetched_after [] c e rest = tt
  fetched_after (said ∷ more) c e rest =
      cond_both (is_writer_poll None false said) _ _ IsFetched
      (λ f. cond_both (is_failed said.answer) _ _ IsFetched (λ g. tt)
      (λ g. cond_both (breaks_as_writer (stream_in w s).kind said) _ _ IsFetched (λ k. tt) (λ k. fetched_by said more c e rest (g, k))))
      (λ f. tt)

  fetches_is : IsFetched (fetches w s n r)
  fetches_is =
      cond_both (wants_items w n r) _ _ IsFetched
      (λ e.
      let wants = and_parts (not (consumer_at w.state r).resting) (not (has_items (held_of w n)) && not (producer_at w.state n).over) e in
      let held = and_parts (not (has_items (held_of w n))) (not (producer_at w.state n).over) wants.1 in
      fetched_after (writer_at w n).coming refl (none_held (held_of w n) held.0) (not_true (consumer_at w.state r).resting wants.0))
      (λ e. unfetched)

-- PASSING ON

-- this is kept of the two host ends of a pipe, and the stream is not written back yet
abbrev pub between : World → (n r : ℕ) → Producer → List Item → Consumer → Writer → Reader → World
between w n r producer kept consumer writer reader = record {
  state = record w.state {
    producers = slice_set w.state.producers n producer;
    kept = slice_set w.state.kept n kept;
    consumers = slice_set w.state.consumers r consumer;
  };
  writers = slice_set w.writers n writer;
  readers = slice_set w.readers r reader;
}

-- the reader waits then, or it did not wait and took nothing
abbrev pub Waits : World → ℕ → Consumer → ℕ → Type 0
Waits w r consumer count = (consumer.resting ≡ true) ⊎ ((count ≡ 0) × ((consumer_at w.state r).resting ≡ false))

-- the round of stream s, from host writer n to host reader r: the records that they used, the items that the
-- reader took, and so many of them
pub record Passed (w : World) (s n r : ℕ) (v : World) : Type 0 where
  pub said : List WriterSaid
  pub told : List ReaderSaid
  pub items : List Item
  pub count : ℕ
  pub producer : Producer
  pub kept : List Item
  pub consumer : Consumer
  pub writer : Writer
  pub reader : Reader
  -- the world but for the stream, and before it may end
  pub but : World
  pub mid : World
  pub but_is : but ≡ between w n r producer kept consumer writer reader
  pub mid_is : mid ≡ with_stream_in but s (with_some_received (stream_in w s) count)
  pub ends : (v ≡ mid) ⊎ (v ≡ both_gone mid s n)
  pub duty : producer.duty ≡ (producer_at w.state n).duty
  pub serves : consumer.duty ≡ (consumer_at w.state r).duty
  pub open_ : reader.closed ≡ (reader_at w r).closed
  pub coming : (writer_at w n).coming ≡ said ++ (writer_at but n).coming
  pub balance : held_of w n ++ items_of_records said ≡ items ++ held_of but n
  pub records : (reader_at w r).coming ≡ told ++ (reader_at but r).coming
  pub holds : (reader_at but r).holds ≡ option_map (λ xs. xs ++ items) (reader_at w r).holds
  pub wants : FetchesOnce w s n r said
  pub stays : (stream_in w s).kind ≡ Future → (v ≡ both_gone mid s n) ⊎ Waits w r consumer count
  pub long : length items ≡ count
  pub taken : count ≡ count_taken told

-- a round tells nothing of its own
abbrev pub HasPassed : World → (s n r : ℕ) → Reply → World → Type 0
HasPassed w s n r reply v = Passed w s n r v × (reply ≡ replies.Done)

-- what is held of a writer that holds nothing is what is kept
pub set_empty : (ws : List Writer) (n : ℕ) (x : Writer) → x.holds ≡ [] → (get_or (set ws n x) n no_writer).holds ≡ []
set_empty [] n x e = refl
set_empty (y ∷ ys) zero x e = e
set_empty (y ∷ ys) (suc n) x e = set_empty ys n x e

-- nothing more is held where it was
held_more : (x : Option (List Item)) → x ≡ option_map (λ xs. xs ++ []) x
held_more None = refl
held_more (Some xs) = ap Some (sym (append-nil xs))

-- a reader takes no more than it was offered
took_few : (offered since : ℕ) (finish : Bool) (said : ReaderSaid) → is_reader_poll offered since finish said ≡ true → said.taken ≤ offered
took_few offered since finish said e =
    let one = and_parts (said.offered == offered) ((said.since == since) && (same_flag said.finish finish && nat_le said.taken offered)) e in
    let two = and_parts (said.since == since) (same_flag said.finish finish && nat_le said.taken offered) one.1 in
    let three = and_parts (same_flag said.finish finish) (nat_le said.taken offered) two.1 in
    let few = three.1 in
    grind (arith, nat_tests)

-- it is asked so to finish
finish_is : (offered since : ℕ) (finish : Bool) (said : ReaderSaid) → is_reader_poll offered since finish said ≡ true → said.finish ≡ finish
finish_is offered since finish said e =
    let one = and_parts (said.offered == offered) ((said.since == since) && (same_flag said.finish finish && nat_le said.taken offered)) e in
    let two = and_parts (said.since == since) (same_flag said.finish finish && nat_le said.taken offered) one.1 in
    flag said.finish finish (and_parts (same_flag said.finish finish) (nat_le said.taken offered) two.1).0
  where
    flag : (a b : Bool) → same_flag a b ≡ true → a ≡ b
    flag true b e = sym e
    flag false true e = cc
    flag false false e = refl

-- of a future, a reader that is not done with it waits
rests_else : (said : ReaderSaid) → said.finish ≡ false → IsGoodTold Future said → is_done_with Future (Some said.answer) ≡ false → is_resting said.answer ≡ true
rests_else said finish good d = by said.answer good.0 good.1 d
  where
    by : (answer : Answer) → is_failed answer ≡ false → reader_breaks Future answer said.offered said.since said.finish said.taken ≡ false → is_done_with Future (Some answer) ≡ false → is_resting answer ≡ true
    by answers.Pending f e d = refl
    by answers.Completed f e d = cc
    by answers.Cancelled f e d =
        let asked = (or_parts (not said.finish) (not (is_untouched said.taken said.since)) e).0 in
        let wrong : true ≡ false = ap not (sym finish) ∙ asked in
        cc
    by answers.Dropped f e d = cc
    by answers.Failed f e d = cc

module _ (w : World) (s n r : ℕ) (known : n < length w.state.kept) (producer : Producer) (kept : List Item) (writer : Writer) (said : List WriterSaid) where
  -- the world after fetching
  abbrev f : World
  f = fetched_world w n producer kept writer

  module _ (duty : producer.duty ≡ (producer_at w.state n).duty) (coming : (writer_at w n).coming ≡ said ++ (writer_at f n).coming) (balance : held_of w n ++ items_of_records said ≡ held_of f n) (wants : FetchesOnce w s n r said) where
    -- what comes of a part that goes on
    abbrev GoesSo : Outcome → Type 0
    GoesSo o = IfGoes o (HasPassed w s n r)

    -- the reader is not polled
    unpolled : (consumer_at w.state r).resting ≡ false → (v : World) → (v ≡ f) ⊎ (v ≡ both_gone f s n) → Passed w s n r v
    unpolled rest v ends = record {
      said = said;
      told = [];
      items = [];
      count = 0;
      producer = producer;
      kept = kept;
      consumer = consumer_at w.state r;
      writer = writer;
      reader = reader_at w r;
      but = f;
      mid = f;
      but_is =
          ap (λ cs. record f { state = record f.state { consumers = cs } }) (sym (set-same w.state.consumers r no_consumer))
          ∙ ap (λ rs. record f { state = record f.state { consumers = slice_set w.state.consumers r (consumer_at w.state r) }; readers = rs }) (sym (set-same w.readers r no_reader));
      mid_is = ap (λ xs. with_state f (record f.state { streams = xs })) (sym (set-same w.state.streams s _)) ∙ sym (with_stream_in-same f s (stream_in w s) (record { writer = refl; reader = refl }));
      ends = ends;
      duty = duty;
      serves = refl;
      open_ = refl;
      coming = coming;
      balance = balance;
      records = refl;
      holds = held_more (reader_at w r).holds;
      wants = wants;
      stays = λ k. inr (inr (refl, rest));
      long = refl;
      taken = refl;
    }

    -- all that is held is offered
    abbrev held : List Item
    held = held_of f n

    abbrev offered : World
    offered = gathered f n

    module _ (one : ReaderSaid) (more : List ReaderSaid) (c : (reader_at w r).coming ≡ one ∷ more) (few : one.taken ≤ length held) where
      abbrev polled : Reader
      polled = polled_reader (reader_at w r) (take one.taken held) more

      abbrev after : World
      after = with_reader offered r polled

      abbrev left : List Item
      left = drop one.taken (kept_at after.state n)

      abbrev rested : Consumer
      rested = record (consumer_at w.state r) { since = since_after one.answer (consumer_at w.state r).since one.taken; resting = is_resting one.answer }

      abbrev but : World
      but = with_consumer (with_kept after n left) r rested

      abbrev gave : Writer
      gave = record (writer_at f n) { holds = [] }

      -- what is kept of the writer then
      abbrev emptied : Producer
      emptied = record (producer_at f.state n) { holding = false }

      known_then : n < length (set w.state.kept n kept)
      known_then = omega (arith, known, length-set w.state.kept n kept)

      kept_after : kept_at after.state n ≡ held
      kept_after = get_or-set_same (set w.state.kept n kept) n held [] known_then

      left_is : kept_at but.state n ≡ drop one.taken held
      left_is =
          get_or-set_same (set (set w.state.kept n kept) n held) n left [] (omega (arith, known_then, length-set (set w.state.kept n kept) n held))
          ∙ ap (drop one.taken) kept_after

      held_then : held_of but n ≡ drop one.taken held
      held_then =
          ap (λ xs. kept_at but.state n ++ xs) (set_empty f.writers n gave refl)
          ∙ append-nil (kept_at but.state n)
          ∙ left_is

      reader_now : reader_at but r ≡ polled
      reader_now = get_or-set_same w.readers r polled no_reader (reader_there w r one more c)

      abbrev passed : World
      passed = with_stream_in but s (with_some_received (stream_in w s) one.taken)

      taken_so : (v : World) → ((stream_in w s).kind ≡ Future → (v ≡ both_gone passed s n) ⊎ (is_resting one.answer ≡ true)) → (v ≡ passed) ⊎ (v ≡ both_gone passed s n) → Passed w s n r v
      taken_so v rest ends = record {
        said = said;
        told = one ∷ [];
        items = take one.taken held;
        count = one.taken;
        producer = emptied;
        kept = left;
        consumer = rested;
        writer = gave;
        reader = polled;
        but = but;
        mid = passed;
        but_is =
            ap (λ ks. record but { state = record but.state { kept = ks } }) (set-set (set w.state.kept n kept) n held left ∙ set-set w.state.kept n kept left)
            ∙ ap (λ ps. record but { state = record but.state { producers = ps; kept = slice_set w.state.kept n left } }) (set-set w.state.producers n producer emptied)
            ∙ ap (λ ws. record but { state = record but.state { producers = slice_set w.state.producers n emptied; kept = slice_set w.state.kept n left }; writers = ws }) (set-set w.writers n writer gave);
        mid_is = refl;
        ends = ends;
        duty = set-keeps (λ (x : Producer). x.duty) w.state.producers n n producer no_producer duty;
        serves = refl;
        open_ = refl;
        coming = coming ∙ ap (λ xs. said ++ xs) (sym (set-keeps (λ (x : Writer). x.coming) f.writers n n gave no_writer refl));
        balance = balance ∙ sym (take-append-drop one.taken held) ∙ ap (λ xs. take one.taken held ++ xs) (sym held_then);
        records = c ∙ ap (λ (x : Reader). one ∷ x.coming) (sym reader_now);
        holds = ap (λ (x : Reader). x.holds) reader_now;
        wants = wants;
        stays = λ k. elim (rest k) [
          | inl e ↦ inl e
          | inr e ↦ inr (inl e)
        ];
        long = omega (arith, length-take one.taken held, few);
        taken = omega arith;
      }

    -- it ends, or the reader is not done with it
    abbrev EndsSo : World → Option Answer → World → Type 0
    EndsSo u answer v = (v ≡ both_gone u s n) ⊎ (is_done_with (stream_in u s).kind answer ≡ false)

    -- it may end then
    ended : (u : World) (answer : Option Answer) → ((v : World) → EndsSo u answer v → (v ≡ u) ⊎ (v ≡ both_gone u s n) → Passed w s n r v) → GoesSo (ends_if_done u s n r answer)
    ended u answer h =
        cond_both (is_done_with (stream_in u s).kind answer || is_run_dry u n r) _ _ GoesSo
        (λ e. (h (both_gone u s n) (inl refl) (inr refl), refl))
        (λ e. (h u (inr (or_parts (is_done_with (stream_in u s).kind answer) (is_run_dry u n r) e).0) (inl refl), refl))

    -- the record is of this poll
    abbrev IsOffered : ReaderSaid → Type 0
    IsOffered one = is_reader_poll (length held) (consumer_at w.state r).since false one ≡ true

    -- the world after this record
    abbrev passed_now : ReaderSaid → List ReaderSaid → World
    passed_now one more = passed_on (with_reader offered r (polled_reader (reader_at w r) (take one.taken held) more)) s n r one.answer one.taken

    passed_by : (one : ReaderSaid) (more : List ReaderSaid) → (reader_at w r).coming ≡ one ∷ more → IsOffered one → IsGoodTold (stream_in w s).kind one → GoesSo (ends_if_done (passed_now one more) s n r (Some one.answer))
    passed_by one more c e good =
        let few = took_few (length held) (consumer_at w.state r).since false one e in
        let u = passed one more c few in
        let kind : (stream_in u s).kind ≡ (stream_in w s).kind =
        ap (λ xs. (get_or xs s no_stream).kind) (written-streams (but one more c few) s (with_some_received (stream_in w s) one.taken))
        ∙ set-keeps (λ (x : Stream). x.kind) w.state.streams s s (with_some_received (stream_in w s) one.taken) no_stream (some_received-kind (stream_in w s) one.taken) in
        ended u (Some one.answer)
        (λ v ends. taken_so one more c few v
        (λ f. elim ends [
          | inl x ↦ inl x
          | inr x ↦ inr (rests_else one (finish_is (length held) (consumer_at w.state r).since false one e) (good.0, ap (λ q. breaks_as_reader q one) (sym f) ∙ good.1) (ap (λ q. is_done_with q (Some one.answer)) (sym (kind ∙ f)) ∙ x))
        ]))

    passed_after : (coming : List ReaderSaid) → (reader_at w r).coming ≡ coming
        → GoesSo (reader_says offered s r (length held) false (λ k. take k held) coming (λ u one. ends_if_done (passed_on u s n r one.answer one.taken) s n r (Some one.answer)))
    passed_after [] c = tt
    passed_after (one ∷ more) c =
        cond_both (is_reader_poll (length held) (consumer_at w.state r).since false one && tells_truly (length held) (λ k. take k held) one) _ _ GoesSo
        (λ e. cond_both (is_failed one.answer) _ _ GoesSo (λ g. tt)
        (λ g. cond_both one.bad _ _ GoesSo (λ b. tt)
        (λ b. cond_both (breaks_as_reader (stream_in w s).kind one) _ _ GoesSo (λ k. tt)
        (λ k. passed_by one more c (and_parts (is_reader_poll (length held) (consumer_at w.state r).since false one) (tells_truly (length held) (λ k. take k held) one) e).0 (g, k)))))
        (λ e. tt)

    offers_is : GoesSo (offers f s n r (λ u answer. ends_if_done u s n r answer))
    offers_is =
        cond_both (has_items held || (consumer_at w.state r).resting) _ _ GoesSo
        (λ e. passed_after (reader_at w r).coming refl)
        (λ e. ended f None (λ v ends. unpolled (or_parts (has_items held) (consumer_at w.state r).resting e).1 v))

module _ (w : World) (s n r : ℕ) (known : n < length w.state.kept) where
  after_fetching : (f : World) → Fetched w s n r f → IfGoes (offers f s n r (λ u answer. ends_if_done u s n r answer)) (HasPassed w s n r)
  after_fetching f x =
      subst (λ u. IfGoes (offers u s n r (λ u answer. ends_if_done u s n r answer)) (HasPassed w s n r)) (sym x.is)
      (offers_is w s n r known x.producer x.kept x.writer x.said x.duty
      (x.coming ∙ ap (λ u. x.said ++ (writer_at u n).coming) x.is) (x.balance ∙ ap (λ u. held_of u n) x.is) x.wants)

  pub round_is : IfGoes (pipe_round w s n r) (HasPassed w s n r)
  unfolding pipe_round
  round_is = by (fetches w s n r) (fetches_is w s n r known)
    where
      by : (o : Outcome) → IfGoes o (λ reply f. Fetched w s n r f) → IfGoes (then_on o (λ f. offers f s n r (λ u answer. ends_if_done u s n r answer))) (HasPassed w s n r)
      by (Goes reply f) x = after_fetching f x
      by (Stops stop writers readers) x = tt
      by Stuck x = tt
