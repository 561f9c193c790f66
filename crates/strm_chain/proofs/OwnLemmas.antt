-- What a guest's own reads, writes and events do to its links.
use Rattle.std.proofs.Common.{◌≡◌, ◌≢◌, ℕ, zero, suc, ◌+◌, ◌≤◌, true, List, [], ◌∷◌, ◌++◌, length, take, drop, Option, Some, None, refl, sym, ap, ◌∙◌, subst, arith}
use Rattle.std.specs.Prelude.{IsSome}
use Rattle.std.proofs.lemmas.List.{append-nil, length-drop}
use Rattle.strm_codes.specs.Codes.{count_of_code}
use Rattle.strm_codes.specs.declared.codes.ReturnCode.{ReturnCode}
use Rattle.strm_codes.specs.declared.codes.ReturnCode.TheVariants as codes
use Rattle.strm_memory.specs.Bytes.{bytes_at}
use Rattle.strm_machine.specs.State.{memory_in, stream_at}
use Rattle.strm_machine.specs.Tests.{items_asked}
use Rattle.strm_machine.specs.Soundness.{type_of}
use Rattle.strm_machine.specs.Moments.{Moment, MemoryPlace, is_named, got_in, moved_of, received, target, report_in, accepted_in, as_report, count_reported, k_of}
use Rattle.strm_machine.specs.declared.streams.Side.TheVariants.{Writing, Reading}
use Rattle.strm_machine.specs.declared.streams.Operation.{Operation}
use Rattle.strm_machine.specs.declared.acts.Act.TheVariants.{OnEnd, Event}
use Rattle.strm_machine.specs.declared.acts.EndAct.TheVariants.{Operate}
use Rattle.strm_machine.specs.declared.acts.NamedEnd.{NamedEnd}
use Rattle.strm_machine.specs.declared.replies.Reply.TheVariants as replies
use Rattle.strm_machine.proofs.Changes.{scene, Change, ByRest, ByGoing, BySettling, ByOpening, ByServing, Settles}
use Rattle.strm_chain.specs.Playing.{bytes_type}
use Rattle.strm_chain.specs.declared.stages.Work.{Work}
use Rattle.strm_chain.specs.Linking.{Sends, Takes, Arrived}
use Rattle.strm_chain.specs.Measuring.{taken_in_bytes}
use Rattle.strm_chain.specs.Flowing.{as_items}
use Rattle.strm_chain.specs.Keeping.{Items}
use Rattle.strm_chain.proofs.RegionLemmas.{ReceivesLow, Nothing, Low}
use Rattle.strm_chain.proofs.NamedLemmas.{TakesCall, opened, served, write_opens, write_serves, write_settles, call_taken, call_report, event_report, event_takes, read_opens, read_serves, read_settles}
use Rattle.strm_chain.proofs.StayLemmas.{payload_is, kind_is}

-- ## Reports

-- a code that ends an operation of a stream is its report, and its count is what was moved
pub reported : (code : ReturnCode) → code ≢ codes.Blocked → as_report (Some code) ≡ Some code
reported codes.Blocked ne = absurd (ne refl)
reported (codes.Completed n) ne = refl
reported (codes.Dropped n) ne = refl
reported (codes.Cancelled n) ne = refl

pub counted : (m : Moment) (s : ℕ) (code : ReturnCode) → type_of (stream_at m.before s) ≡ bytes_type → count_of_code code ≡ count_reported (stream_at m.before s).kind code
counted m s code ty = ap (λ k. count_reported k code) (sym (kind_is m.before s ty))

-- ## Reads

module _ (m : Moment) (s : ℕ) (first work : Work) (made : List ℕ) (got : Items)
    (ty : type_of (stream_at m.before s) ≡ bytes_type)
    (named : is_named s Reading m ≡ true)
    (change : Change Reading (scene s Reading m))
    (room : length (memory_in m.after.guests (s + 1)) ≡ 8192) where
  abbrev before : Option Operation
  before = (stream_at m.before s).reader.operation

  abbrev after : Option Operation
  after = (stream_at m.after s).reader.operation

  -- a read is over with this code: its bytes lie where it read to, and count as taken
  pub record IsOver (code : ReturnCode) : Type 0 where
    pub arrived : Arrived 0 (count_of_code code) first work made (memory_in m.after.guests (s + 1)) (got ++ got_in s m)
    pub low : ReceivesLow m s
    pub none : after ≡ None
    pub few : count_of_code code ≤ 64
    pub taken : taken_in_bytes m.before s + count_of_code code ≤ taken_in_bytes m.after s

  module _ (end : NamedEnd) (count : ℕ) (act : m.act ≡ OnEnd Reading end (Operate 0 count)) (guest : end.guest ≡ s + 1) (asks : end.ty ≡ bytes_type) (few : count ≤ 64) where
    called : (code : ReturnCode) → m.reply ≡ replies.Code code → TakesCall (scene s Reading m) (s + 1) 0 count
    called code reply =
        subst (λ k. TakesCall (scene s Reading m) k 0 count) guest
        (call_taken s Reading m Reading end 0 count code act reply named
        ∙ ap (λ t. record { guest = end.guest; address = 0; asked = items_asked t count; report = report_in s Reading m } ∷ []) asks)

    here : target s m ≡ record { guest = end.guest; address = 0 }
    here = rw (named, act) refl

    low_at : (n : ℕ) → received s m.after ≡ received s m.before + n → n ≤ count → ReceivesLow m s
    low_at n more l = Low (payload_is m.before s ty) (ap (λ (p : MemoryPlace). p.guest) here ∙ guest) (omega (arith, ap (λ (p : MemoryPlace). p.address) here, more, l, few))

    -- a read that waits
    pub own_read_waits : m.reply ≡ replies.Code codes.Blocked → Takes (s + 1) 0 first work made (memory_in m.before.guests (s + 1)) None got → Takes (s + 1) 0 first work made (memory_in m.after.guests (s + 1)) after (got ++ got_in s m) × ReceivesLow m s × IsSome after
    own_read_waits reply t =
        let o = opened Reading (scene s Reading m) (s + 1) 0 count change (called codes.Blocked reply) (call_report s Reading m codes.Blocked reply named) in (
          read_opens s (s + 1) 0 first work made m got (payload_is m.before s ty) end count o.1 o.0 act guest named o.2 t (omega (arith, room, few)) few,
          low_at o.1 o.2.more (omega (arith, o.2.left)),
          subst IsSome (sym o.2.is) refl,
        )

    -- a read that is over at once
    module _ (code : ReturnCode) (ne : code ≢ codes.Blocked) (reply : m.reply ≡ replies.Code code) where
      pub own_read_serves : Takes (s + 1) 0 first work made (memory_in m.before.guests (s + 1)) None got → IsOver code
      own_read_serves t =
          let x = served Reading (scene s Reading m) (s + 1) 0 count code change (called code reply) (call_report s Reading m code reply named ∙ reported code ne) in
          let k = counted m s code ty in
          record {
            arrived = read_serves s (s + 1) 0 first work made m got (payload_is m.before s ty) end count (count_of_code code) code act guest named x k t (omega (arith, room, few));
            low = low_at (count_reported (stream_at m.before s).kind code) x.more x.within;
            none = x.is;
            few = omega (arith, k, x.within, few);
            taken = omega (arith, ap moved_of x.was, ap moved_of x.is, x.more, k);
          }

  -- a read that waited is told of
  module _ (g handle : ℕ) (code : ReturnCode) (ne : code ≢ codes.Blocked) (act : m.act ≡ Event g handle)
      (reply : m.reply ≡ replies.Event (Some code))
      (stays : memory_in m.after.guests (s + 1) ≡ memory_in m.before.guests (s + 1)) where
    pub own_read_settles : moved_of before ≤ received s m.before → Takes (s + 1) 0 first work made (memory_in m.before.guests (s + 1)) before got → IsOver code
    own_read_settles within t = by change
      where
        tells : report_in s Reading m ≡ Some code
        tells = event_report s Reading m code reply named ∙ reported code ne

        none_taken : accepted_in s Reading m (report_in s Reading m) ≡ []
        none_taken = event_takes s Reading m (Some code) (report_in s Reading m) reply named

        k : count_of_code code ≡ count_reported (stream_at m.before s).kind code
        k = counted m s code ty

        by : Change Reading (scene s Reading m) → IsOver code
        by (ByGoing o p n x) = absurd (let wrong : None ≡ Some code = sym x.unreported ∙ tells in cc)
        by (ByOpening g' address asked p n x) = absurd (let wrong = sym x.takes ∙ none_taken in cc)
        by (ByServing g' address asked c x) = absurd (let wrong = sym x.takes ∙ none_taken in cc)
        by (BySettling o c x) =
            let same : c ≡ code = (let y : Some c ≡ Some code = sym x.report ∙ tells in cc) in
            let y = subst (λ z. Settles Reading (scene s Reading m) o z) same x in
            let some : Takes (s + 1) 0 first work made (memory_in m.before.guests (s + 1)) (Some o) got = subst (λ q. Takes (s + 1) 0 first work made (memory_in m.before.guests (s + 1)) q got) y.was t in
            record {
              arrived = read_settles s (s + 1) 0 first work made m got (payload_is m.before s ty) (count_of_code code) o code y k some stays;
              low = Nothing (omega (arith, y.same));
              none = y.is;
              few = omega (arith, k, y.counts, some.holds.begun.whole, some.holds.few);
              taken = omega (arith, ap moved_of y.was, ap moved_of y.is, y.same, y.counts, k, within);
            }
        by (ByRest x) =
            let none : Takes (s + 1) 0 first work made (memory_in m.before.guests (s + 1)) None got = subst (λ q. Takes (s + 1) 0 first work made (memory_in m.before.guests (s + 1)) q got) x.was t in
            let nothing : count_of_code code ≡ 0 = k ∙ sym (ap (k_of (stream_at m.before s).kind 0) tells) ∙ x.counts in
            record {
              arrived = record {
                taken = none.taken;
                split = ap (λ z. got ++ z) x.nothing ∙ append-nil got ∙ none.split ∙ ap (λ z. as_items none.taken ++ z) none.holds
                    ∙ ap (λ n. as_items none.taken ++ as_items (bytes_at (memory_in m.after.guests (s + 1)) 0 n)) (sym nothing);
                makes = none.makes;
                goes_on = none.goes_on;
              };
              low = Nothing (omega (arith, x.same));
              none = x.is;
              few = omega (arith, nothing);
              taken = omega (arith, nothing, x.same, ap moved_of x.was, ap moved_of x.is);
            }

-- ## Writes

-- the front of a list that a part of it is
pub front_itself : (n : ℕ) (xs : List ℕ) → take (length (take n xs)) xs ≡ take n xs
front_itself zero xs = refl
front_itself (suc n) [] = refl
front_itself (suc n) (x ∷ xs) = ap (λ more. x ∷ more) (front_itself n xs)

-- what is to be written next is within what was put out
pub next_within : (chunk sent : ℕ) (made bytes : List ℕ) → bytes ≡ take chunk (drop sent made) → 1 ≤ length bytes → sent + length bytes ≤ length made
next_within chunk sent made bytes e some =
    let l : length bytes ≤ length (drop sent made) = rw e (shorter chunk (drop sent made)) in
    omega (arith, l, length-drop sent made, some)
  where
    shorter : (n : ℕ) (xs : List ℕ) → length (take n xs) ≤ length xs
    shorter zero xs = omega arith
    shorter (suc n) [] = omega arith
    shorter (suc n) (x ∷ xs) = omega (arith, shorter n xs)

module _ (m : Moment) (g sent : ℕ) (made : List ℕ) (got : Items)
    (ty : type_of (stream_at m.before g) ≡ bytes_type)
    (named : is_named g Writing m ≡ true)
    (change : Change Writing (scene g Writing m))
    (size : length (memory_in m.after.guests g) ≡ length (memory_in m.before.guests g))
    (same : (c : ℕ) → bytes_at (memory_in m.after.guests g) 64 c ≡ bytes_at (memory_in m.before.guests g) 64 c) where
  module _ (end : NamedEnd) (count : ℕ) (act : m.act ≡ OnEnd Writing end (Operate 64 count)) (guest : end.guest ≡ g) (asks : end.ty ≡ bytes_type)
      (old : Sends g 64 sent made (memory_in m.before.guests g) None got)
      (lies : bytes_at (memory_in m.before.guests g) 64 count ≡ take count (drop sent made)) (within : sent + count ≤ length made) (inside : 64 + count ≤ length (memory_in m.before.guests g)) where
    calls : (code : ReturnCode) → m.reply ≡ replies.Code code → TakesCall (scene g Writing m) g 64 count
    calls code reply =
        subst (λ k. TakesCall (scene g Writing m) k 64 count) guest
        (call_taken g Writing m Writing end 64 count code act reply named
        ∙ ap (λ t. record { guest = end.guest; address = 64; asked = items_asked t count; report = report_in g Writing m } ∷ []) asks)

    -- a write that waits
    pub own_write_waits : m.reply ≡ replies.Code codes.Blocked → Sends g 64 sent made (memory_in m.after.guests g) (stream_at m.after g).writer.operation (got ++ got_in g m) × IsSome (stream_at m.after g).writer.operation
    own_write_waits reply =
        let o = opened Writing (scene g Writing m) g 64 count change (calls codes.Blocked reply) (call_report g Writing m codes.Blocked reply named) in (
          write_opens g g 64 sent made (memory_in m.after.guests g) m got (payload_is m.before g ty) size (λ c l. same c) count o.1 o.0 o.2 old lies within inside,
          subst IsSome (sym o.2.is) refl,
        )

    -- a write that is over at once
    pub own_write_serves : (code : ReturnCode) → code ≢ codes.Blocked → m.reply ≡ replies.Code code → Sends g 64 (sent + count_of_code code) made (memory_in m.after.guests g) (stream_at m.after g).writer.operation (got ++ got_in g m) × ((stream_at m.after g).writer.operation ≡ None)
    own_write_serves code ne reply =
        let x = served Writing (scene g Writing m) g 64 count code change (calls code reply) (call_report g Writing m code reply named ∙ reported code ne) in (
          write_serves g g 64 sent made (memory_in m.after.guests g) m got (payload_is m.before g ty) size (λ c l. same c) count (count_of_code code) code x (counted m g code ty) old lies within inside,
          x.is,
        )

  -- a write that waited is told of
  module _ (h handle : ℕ) (code : ReturnCode) (ne : code ≢ codes.Blocked) (act : m.act ≡ Event h handle)
      (reply : m.reply ≡ replies.Event (Some code))
      (t : Sends g 64 sent made (memory_in m.before.guests g) (stream_at m.before g).writer.operation got) where
    pub own_write_settles : Sends g 64 (sent + count_of_code code) made (memory_in m.after.guests g) (stream_at m.after g).writer.operation (got ++ got_in g m) × ((stream_at m.after g).writer.operation ≡ None)
    own_write_settles = by change
      where
        tells : report_in g Writing m ≡ Some code
        tells = event_report g Writing m code reply named ∙ reported code ne

        none_taken : accepted_in g Writing m (report_in g Writing m) ≡ []
        none_taken = event_takes g Writing m (Some code) (report_in g Writing m) reply named

        k : count_of_code code ≡ count_reported (stream_at m.before g).kind code
        k = counted m g code ty

        by : Change Writing (scene g Writing m) → Sends g 64 (sent + count_of_code code) made (memory_in m.after.guests g) (stream_at m.after g).writer.operation (got ++ got_in g m) × ((stream_at m.after g).writer.operation ≡ None)
        by (ByGoing o p n x) = absurd (let wrong : None ≡ Some code = sym x.unreported ∙ tells in cc)
        by (ByOpening g' address asked p n x) = absurd (let wrong = sym x.takes ∙ none_taken in cc)
        by (ByServing g' address asked c x) = absurd (let wrong = sym x.takes ∙ none_taken in cc)
        by (BySettling o c x) =
            let eq : c ≡ code = (let y : Some c ≡ Some code = sym x.report ∙ tells in cc) in
            let y = subst (λ z. Settles Writing (scene g Writing m) o z) eq x in
            let some : Sends g 64 sent made (memory_in m.before.guests g) (Some o) got = subst (λ q. Sends g 64 sent made (memory_in m.before.guests g) q got) y.was t in (
              write_settles g g 64 sent made (memory_in m.after.guests g) m got (payload_is m.before g ty) size (λ c l. same c) (count_of_code code) o code y k some,
              y.is,
            )
        by (ByRest x) =
            let none : Sends g 64 sent made (memory_in m.before.guests g) None got = subst (λ q. Sends g 64 sent made (memory_in m.before.guests g) q got) x.was t in
            let nothing : count_of_code code ≡ 0 = k ∙ sym (ap (k_of (stream_at m.before g).kind 0) tells) ∙ x.counts in (
              rw (x.is, x.nothing, append-nil got, nothing) (record {
                front = none.front ∙ ap (λ n. as_items (take n made)) (omega arith);
                within = omega (arith, none.within);
                offers = tt;
              }),
              x.is,
            )

-- an end without an operation that a drop names
module _ (m : Moment) (g sent : ℕ) (made : List ℕ) (got : Items) (reply : m.reply ≡ replies.Done)
    (named : is_named g Writing m ≡ true) (change : Change Writing (scene g Writing m))
    (t : Sends g 64 sent made (memory_in m.before.guests g) (stream_at m.before g).writer.operation got) where
  pub dropped_sends : (stream_at m.before g).writer.operation ≡ None → Sends g 64 sent made (memory_in m.after.guests g) (stream_at m.after g).writer.operation (got ++ got_in g m) × ((stream_at m.after g).writer.operation ≡ None)
  dropped_sends idle = by change
    where
      untold : report_in g Writing m ≡ None
      untold = rw (named, reply) refl

      none_taken : (r : Option ReturnCode) → accepted_in g Writing m r ≡ []
      none_taken r = rw (named, reply) refl

      by : Change Writing (scene g Writing m) → Sends g 64 sent made (memory_in m.after.guests g) (stream_at m.after g).writer.operation (got ++ got_in g m) × ((stream_at m.after g).writer.operation ≡ None)
      by (ByGoing o p n x) = absurd (let wrong : Some o ≡ None = sym x.was ∙ idle in cc)
      by (BySettling o c x) = absurd (let wrong : Some o ≡ None = sym x.was ∙ idle in cc)
      by (ByOpening g' address asked p n x) = absurd (let wrong = sym x.takes ∙ none_taken (report_in g Writing m) in cc)
      by (ByServing g' address asked c x) = absurd (let wrong = sym x.takes ∙ none_taken (report_in g Writing m) in cc)
      by (ByRest x) =
          let none : Sends g 64 sent made (memory_in m.before.guests g) None got = subst (λ q. Sends g 64 sent made (memory_in m.before.guests g) q got) idle t in
          (rw (x.is, x.nothing, append-nil got) (record { front = none.front; within = none.within; offers = tt }), x.is)
