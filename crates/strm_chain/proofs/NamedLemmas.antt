-- What a guest's own reads, writes and events do to its links.
use Rattle.std.proofs.Common.{◌≡◌, ℕ, ◌+◌, ◌*◌, ◌≤◌, true, ℤ, List, [], ◌∷◌, ◌++◌, length, take, drop, Option, Some, None, refl, sym, ap, ◌∙◌, subst, arith}
use Rattle.std.proofs.lemmas.List.{append-nil}
use Rattle.strm_codes.specs.Layout.{item_type, byte_type}
use Rattle.strm_codes.specs.ItemTypes.{item_size}
use Rattle.strm_codes.specs.declared.codes.ReturnCode.{ReturnCode}
use Rattle.strm_codes.specs.declared.payloads.Payload.TheVariants.{One}
use Rattle.strm_codes.specs.declared.scalars.Scalar.TheVariants.{U8}
use Rattle.strm_memory.specs.Bytes.{bytes_at}
use Rattle.strm_machine.specs.State.{memory_in, stream_at}
use Rattle.strm_machine.specs.Sides.{end_of}
use Rattle.strm_machine.specs.Moments.{Moment, Call, got_in, items_in_memory, decoded, count_reported}
use Rattle.strm_machine.specs.declared.streams.Side.{Side}
use Rattle.strm_machine.specs.declared.streams.Side.TheVariants.{Writing, Reading}
use Rattle.strm_machine.specs.declared.streams.Operation.{Operation}
use Rattle.strm_machine.proofs.Changes.{Scene, scene, Change, ByRest, ByGoing, BySettling, ByOpening, ByServing, Opens, Serves, Settles}
use Rattle.strm_machine.specs.Moments.{is_named, received, rise, target, report_in, accepted_in, as_report}
use Rattle.strm_machine.specs.declared.replies.Reply.TheVariants as replies
use Rattle.strm_machine.specs.declared.acts.Act.TheVariants.{OnEnd}
use Rattle.strm_machine.specs.declared.acts.EndAct.TheVariants.{Operate}
use Rattle.strm_machine.specs.declared.acts.NamedEnd.{NamedEnd}
use Rattle.strm_machine.specs.Tests.{items_asked}
use Rattle.strm_chain.specs.declared.stages.Work.{Work}
use Rattle.strm_chain.specs.Flowing.{as_items}
use Rattle.strm_chain.specs.Linking.{Sends, Takes, Arrived}
use Rattle.strm_chain.proofs.LinkLemmas.{sends_told, sends_begun, sends_served, holds_begun, arrived_told, arrived_served}
use Rattle.strm_chain.proofs.UnnamedLemmas.{sends_in}

-- ## Which change it is

abbrev first_guest : List Call → ℕ
first_guest [] = 0
first_guest (c ∷ cs) = c.guest

abbrev first_address : List Call → ℕ
first_address [] = 0
first_address (c ∷ cs) = c.address

abbrev first_asked : List Call → ℕ
first_asked [] = 0
first_asked (c ∷ cs) = c.asked

-- the one call that is taken in a scene
abbrev pub TakesCall : Scene → ℕ → ℕ → ℕ → Type 0
TakesCall v g at count = v.taken ≡ record { guest = g; address = at; asked = count; report = v.report } ∷ []

-- a call that has no report waits
pub opened : (side : Side) (v : Scene) (g at count : ℕ) → Change side v → TakesCall v g at count → v.report ≡ None → (p : Operation) × (n : ℕ) × Opens side v g at count p n
opened side v g at count (ByRest x) e r = absurd (let wrong = sym x.takes ∙ e in cc)
opened side v g at count (ByGoing o p n x) e r = absurd (let wrong = sym x.takes ∙ e in cc)
opened side v g at count (BySettling o code x) e r = absurd (let wrong = sym x.takes ∙ e in cc)
opened side v g at count (ByOpening g' at' count' p n x) e r =
    let same = sym x.takes ∙ e in (
      p,
      n,
      subst (λ k. Opens side v k at count p n) (ap first_guest same)
          (subst (λ k. Opens side v g' k count p n) (ap first_address same)
          (subst (λ k. Opens side v g' at' k p n) (ap first_asked same) x)),
    )
opened side v g at count (ByServing g' at' count' code x) e r = absurd (let wrong : Some code ≡ None = sym x.report ∙ r in cc)

-- one that has a report is over
pub served : (side : Side) (v : Scene) (g at count : ℕ) (code : ReturnCode) → Change side v → TakesCall v g at count → v.report ≡ Some code → Serves side v g at count code
served side v g at count code (ByRest x) e r = absurd (let wrong = sym x.takes ∙ e in cc)
served side v g at count code (ByGoing o p n x) e r = absurd (let wrong = sym x.takes ∙ e in cc)
served side v g at count code (BySettling o c x) e r = absurd (let wrong = sym x.takes ∙ e in cc)
served side v g at count code (ByOpening g' at' count' p n x) e r = absurd (let wrong : None ≡ Some code = sym x.unreported ∙ r in cc)
served side v g at count code (ByServing g' at' count' c x) e r =
    let same = sym x.takes ∙ e in
    let code_same : c ≡ code = (let y : Some c ≡ Some code = sym x.report ∙ r in cc) in
    subst (λ k. Serves side v g at count k) code_same
    (subst (λ k. Serves side v k at count c) (ap first_guest same)
    (subst (λ k. Serves side v g' k count c) (ap first_address same)
    (subst (λ k. Serves side v g' at' k c) (ap first_asked same) x)))

-- an operation that waited and has its report has ended
pub settled : (side : Side) (v : Scene) (o : Operation) (code : ReturnCode) → Change side v → (end_of side v.before).operation ≡ Some o → v.report ≡ Some code → v.taken ≡ [] → Settles side v o code
settled side v o code (ByRest x) was r t = absurd (let wrong : None ≡ Some o = sym x.was ∙ was in cc)
settled side v o code (ByGoing q p n x) was r t = absurd (let wrong : None ≡ Some code = sym x.unreported ∙ r in cc)
settled side v o code (BySettling q c x) was r t =
    let op_same : q ≡ o = (let y : Some q ≡ Some o = sym x.was ∙ was in cc) in
    let code_same : c ≡ code = (let y : Some c ≡ Some code = sym x.report ∙ r in cc) in
    subst (λ k. Settles side v o k) code_same (subst (λ k. Settles side v k c) op_same x)
settled side v o code (ByOpening g at count p n x) was r t = absurd (let wrong = sym x.takes ∙ t in cc)
settled side v o code (ByServing g at count c x) was r t = absurd (let wrong = sym x.takes ∙ t in cc)

-- ## Writes

module _ (s g at sent : ℕ) (made after : List ℕ) (m : Moment) (got : List (Option (List ℤ)))
    (payload : (stream_at m.before s).payload ≡ One U8)
    (size : length after ≡ length (memory_in m.before.guests g))
    (same : (c : ℕ) → at + c ≤ length (memory_in m.before.guests g) → bytes_at after at c ≡ bytes_at (memory_in m.before.guests g) at c) where
  brought : (n : ℕ) → got_in s m ≡ items_in_memory (stream_at m.before s).payload m.before.guests g at n → got_in s m ≡ decoded byte_type (drop at (memory_in m.before.guests g)) n
  brought n e = e ∙ ap (λ ss. decoded (item_type ss) (drop at (memory_in m.before.guests g)) n) payload

  -- a write that waits
  module _ (count n : ℕ) (p : Operation) (x : Opens Writing (scene s Writing m) g at count p n)
      (h : Sends g at sent made (memory_in m.before.guests g) None got) where
    pub write_opens : bytes_at (memory_in m.before.guests g) at count ≡ take count (drop sent made) → sent + count ≤ length made → at + count ≤ length (memory_in m.before.guests g) → Sends g at sent made after (stream_at m.after s).writer.operation (got ++ got_in s m)
    write_opens lies within inside =
        let memory = memory_in m.before.guests g in
        let place : p.address ≡ at + 1 * n = x.place ∙ ap (λ ss. at + item_size (item_type ss) * n) payload in
        rw x.is
        (sends_in g at sent made memory after (got ++ got_in s m) (Some p)
        (sends_begun g at sent count n made memory p got (got_in s m) h lies within inside x.guest place x.moved x.left (brought n (x.brings refl))) size same)

  -- a write that is over at once
  module _ (count k : ℕ) (code : ReturnCode) (x : Serves Writing (scene s Writing m) g at count code)
      (e : k ≡ count_reported (stream_at m.before s).kind code)
      (h : Sends g at sent made (memory_in m.before.guests g) None got) where
    pub write_serves : bytes_at (memory_in m.before.guests g) at count ≡ take count (drop sent made) → sent + count ≤ length made → at + count ≤ length (memory_in m.before.guests g) → Sends g at (sent + k) made after (stream_at m.after s).writer.operation (got ++ got_in s m)
    write_serves lies within inside =
        let memory = memory_in m.before.guests g in
        rw x.is
        (sends_in g at (sent + k) made memory after (got ++ got_in s m) None
        (sends_served g at sent count k made memory got (got_in s m) h lies within inside (omega (arith, x.within, e)) (brought k (x.brings refl ∙ ap (λ n. items_in_memory (stream_at m.before s).payload m.before.guests g at n) (sym e)))) size same)

  -- a write that waited is told
  module _ (k : ℕ) (o : Operation) (code : ReturnCode) where
    pub write_settles : Settles Writing (scene s Writing m) o code → k ≡ count_reported (stream_at m.before s).kind code → Sends g at sent made (memory_in m.before.guests g) (Some o) got → Sends g at (sent + k) made after (stream_at m.after s).writer.operation (got ++ got_in s m)
    write_settles x e h =
        let memory = memory_in m.before.guests g in
        rw (x.is, x.nothing, append-nil got)
        (sends_in g at (sent + k) made memory after got None (sends_told g at sent k made memory o got h (e ∙ x.counts)) size same)

-- ## What the step tells

-- a read or write whose reply is a code is taken, with its report
pub call_taken : (s : ℕ) (side : Side) (m : Moment) (side' : Side) (end : NamedEnd) (at count : ℕ) (code : ReturnCode) → m.act ≡ OnEnd side' end (Operate at count) → m.reply ≡ replies.Code code → is_named s side m ≡ true → TakesCall (scene s side m) end.guest at (items_asked end.ty count)
call_taken s side m side' end at count code act reply named = rw (named, act, reply) refl

pub call_report : (s : ℕ) (side : Side) (m : Moment) (code : ReturnCode) → m.reply ≡ replies.Code code → is_named s side m ≡ true → report_in s side m ≡ as_report (Some code)
call_report s side m code reply named = rw (named, reply) refl

pub event_report : (s : ℕ) (side : Side) (m : Moment) (code : ReturnCode) → m.reply ≡ replies.Event (Some code) → is_named s side m ≡ true → report_in s side m ≡ as_report (Some code)
event_report s side m code reply named = rw (named, reply) refl

pub event_takes : (s : ℕ) (side : Side) (m : Moment) (code : Option ReturnCode) (r : Option ReturnCode) → m.reply ≡ replies.Event code → is_named s side m ≡ true → accepted_in s side m r ≡ []
event_takes s side m code r reply named = rw (named, reply) refl

-- ## Reads

module _ (s g at : ℕ) (first work : Work) (made : List ℕ) (m : Moment) (got : List (Option (List ℤ)))
    (payload : (stream_at m.before s).payload ≡ One U8) where
  -- where the items of a read that is called lie
  called_there : (end : NamedEnd) (count n : ℕ) → m.act ≡ OnEnd Reading end (Operate at count) → end.guest ≡ g → is_named s Reading m ≡ true → received s m.after ≡ received s m.before + n → got_in s m ≡ decoded byte_type (drop at (memory_in m.after.guests g)) n
  called_there end count n act guest named more =
      let pay = (stream_at m.before s).payload in
      let there : target s m ≡ record { guest = end.guest; address = at } = rw (named, act) refl in
      let count_is : rise s m ≡ n = omega (arith, more) in
      ap (λ p. items_in_memory pay m.after.guests p.guest p.address (rise s m)) there
      ∙ ap (λ k. items_in_memory pay m.after.guests end.guest at k) count_is
      ∙ ap (λ ss. decoded (item_type ss) (drop at (memory_in m.after.guests end.guest)) n) payload
      ∙ ap (λ k. decoded byte_type (drop at (memory_in m.after.guests k)) n) guest

  -- a read that waits
  module _ (end : NamedEnd) (count n : ℕ) (p : Operation) (act : m.act ≡ OnEnd Reading end (Operate at count))
      (guest : end.guest ≡ g) (named : is_named s Reading m ≡ true)
      (x : Opens Reading (scene s Reading m) g at count p n) where
    pub read_opens : Takes g at first work made (memory_in m.before.guests g) None got → at + count ≤ length (memory_in m.after.guests g) → count ≤ 64 → Takes g at first work made (memory_in m.after.guests g) (stream_at m.after s).reader.operation (got ++ got_in s m)
    read_opens t inside few =
        let after = memory_in m.after.guests g in
        let is = called_there end count n act guest named x.more in
        let place : p.address ≡ at + 1 * n = x.place ∙ ap (λ ss. at + item_size (item_type ss) * n) payload in
        rw x.is
        (record {
          taken = t.taken;
          rest = got_in s m;
          split = ap (λ xs. xs ++ got_in s m) (t.split ∙ ap (λ xs. as_items t.taken ++ xs) t.holds ∙ append-nil (as_items t.taken));
          holds = holds_begun g at count n after p (got_in s m) x.guest place x.moved x.left inside few is;
          makes = t.makes;
          goes_on = t.goes_on;
        })

  -- a read that is over at once
  module _ (end : NamedEnd) (count k : ℕ) (code : ReturnCode) (act : m.act ≡ OnEnd Reading end (Operate at count))
      (guest : end.guest ≡ g) (named : is_named s Reading m ≡ true)
      (x : Serves Reading (scene s Reading m) g at count code) where
    pub read_serves : k ≡ count_reported (stream_at m.before s).kind code → Takes g at first work made (memory_in m.before.guests g) None got → at + count ≤ length (memory_in m.after.guests g) → Arrived at k first work made (memory_in m.after.guests g) (got ++ got_in s m)
    read_serves e t inside =
        let is = called_there end count k act guest named (x.more ∙ ap (λ n. (stream_at m.before s).received + n) (sym e)) in
        arrived_served g at k first work made (memory_in m.before.guests g) (memory_in m.after.guests g) got (got_in s m) t (omega (arith, x.within, e, inside)) is

  -- a read that waited is told, by an event, which changes no memory
  module _ (k : ℕ) (o : Operation) (code : ReturnCode) (x : Settles Reading (scene s Reading m) o code) where
    pub read_settles : k ≡ count_reported (stream_at m.before s).kind code → Takes g at first work made (memory_in m.before.guests g) (Some o) got → memory_in m.after.guests g ≡ memory_in m.before.guests g → Arrived at k first work made (memory_in m.after.guests g) (got ++ got_in s m)
    read_settles e t stays =
        rw (x.nothing, append-nil got, stays) (arrived_told g at k first work made (memory_in m.before.guests g) o got t (e ∙ x.counts))
