-- What the steps of a turn leave of streams: owners, operations that come out plainly, and ends that are told
-- Dropped only where the other one is gone.
use Rattle.std.proofs.Common.{◌≡◌, ◌≢◌, ℕ, ◌-◌, ◌<◌, ◌≤◌, Bool, true, false, cond, min, take, drop, List, length, get_or, set, Option, Some, None, refl, sym, ap, ◌∙◌, subst, inl, inr, arith}
use Rattle.std.specs.Prelude.{◌&&◌, ◌||◌, not}
use Rattle.std.proofs.lemmas.Bool.{cases_eq, cond_both, ne_eqb, ltb-true}
use Rattle.std.proofs.lemmas.List.{length-set, set-get_or, get_or-set_same, get_or-set_other}
use Rattle.std.specs.Option.{option_map}
use Rattle.strm_codes.specs.declared.codes.ReturnCode.{ReturnCode}
use Rattle.strm_codes.specs.declared.codes.ReturnCode.TheVariants as codes
use Rattle.strm_codes.specs.declared.codes.StreamResult.TheVariants.{Completed}
use Rattle.strm_codes.specs.declared.codes.TransmitKind.{TransmitKind}
use Rattle.strm_codes.specs.declared.codes.TransmitKind.TheVariants.{Stream as AStream, Future}
use Rattle.strm_codes.specs.Codes.{completed_code}
use Rattle.strm_events.specs.Reports.{is_dropped, report_of, operation_report, idle_report, outcome_code, left_pending, told_after}
use Rattle.strm_machine.specs.State.{State, Guest, no_stream, memory_in, stream_at, is_gone}
use Rattle.strm_machine.specs.Sides.{opposite, end_of, with_end, write_of, read_of}
use Rattle.strm_machine.specs.Meetings.{meeting_of, begun, advanced}
use Rattle.strm_machine.specs.Operating.{Operated, operate, finds, rendezvous_by, moves, completes_alone}
use Rattle.strm_machine.specs.Tests.{named, end_named, stream_named, side_named, items_asked}
use Rattle.strm_machine.specs.Endings.{report_on, pending_of, told_end, delivered, dropped}
use Rattle.strm_machine.specs.Reactions.{Reaction, goes, written, written_back, with_stream_at, told, performs}
use Rattle.strm_machine.specs.declared.streams.Side.{Side}
use Rattle.strm_machine.specs.declared.streams.Side.TheVariants.{Writing, Reading}
use Rattle.strm_machine.specs.declared.streams.Operation.{Operation}
use Rattle.strm_machine.specs.declared.streams.Owner.TheVariants.{Gone}
use Rattle.strm_machine.specs.declared.streams.Stream.{Stream}
use Rattle.strm_machine.specs.declared.streams.Meeting.{Meeting}
use Rattle.strm_machine.specs.declared.streams.Meeting.TheVariants.{BothComplete, WriteCompletes, ReadCompletes}
use Rattle.strm_machine.specs.declared.acts.NamedEnd.{NamedEnd}
use Rattle.strm_machine.specs.declared.acts.Act.TheVariants.{OnEnd, Event, OnMemory}
use Rattle.strm_machine.specs.declared.acts.EndAct.TheVariants.{Operate, Drop}
use Rattle.strm_machine.specs.declared.acts.MemoryAct.TheVariants.{Poke, Dump}
use Rattle.strm_machine.specs.declared.replies.Reply.TheVariants as replies
use Rattle.strm_machine.proofs.TableLemmas.{OwnersStay, owner_in, owner-set_stays, owner-set_same, owner-set_other}
use Rattle.strm_machine.specs.Moves.{without_handle}
use Rattle.strm_chain.specs.Keeping.{HasItems, IsPlain, ArePlain}
use Rattle.strm_codes.specs.declared.payloads.Payload.{Payload}
use Rattle.strm_chain.proofs.NamingLemmas.{IsPerformed}

-- ## A stream in the place of another

-- what a step on one end of a stream keeps of it: who has its ends, that its operations come out with their
-- items, and whether the other end was told
pub record StaysOwned (side : Side) (old new : Stream) : Type 0 where
  pub owners : OwnersStay old new
  pub plain : ArePlain old → ArePlain new
  pub told : (end_of (opposite side) new).told ≡ (end_of (opposite side) old).told

-- whether an end was told that the other one is gone
abbrev pub told_at : State → ℕ → Side → Bool
told_at state k on = (end_of on (stream_at state k)).told

-- what a step on an end of stream s keeps of all streams
pub record Steady (s : ℕ) (side : Side) (old new : State) : Type 0 where
  pub many : length new.streams ≡ length old.streams
  pub owner : (k : ℕ) (on : Side) → owner_in new.streams k on ≡ owner_in old.streams k on
  pub plain : (k : ℕ) → ArePlain (stream_at old k) → ArePlain (stream_at new k)
  -- an end that the step is not on was told as before
  pub told : (k : ℕ) (on : Side) → (k ≡ s → on ≢ side) → told_at new k on ≡ told_at old k on

plain-set : (streams : List Stream) (s : ℕ) (x : Stream) (k : ℕ) → s < length streams → (ArePlain (get_or streams s no_stream) → ArePlain x) → ArePlain (get_or streams k no_stream) → ArePlain (get_or (set streams s x) k no_stream)
plain-set streams s x k l h p =
    elim (cases_eq k s) [
      | inl e ↦ subst (λ n. ArePlain (get_or (set streams s x) n no_stream)) (sym e)
          (subst ArePlain (sym (get_or-set_same streams s x no_stream l)) (h (subst (λ n. ArePlain (get_or streams n no_stream)) e p)))
      | inr ne ↦ subst ArePlain (sym (get_or-set_other streams s k x no_stream ne)) p
    ]

other_side : (on side : Side) → on ≢ side → on ≡ opposite side
other_side Writing Writing ne = absurd (ne refl)
other_side Writing Reading ne = refl
other_side Reading Writing ne = refl
other_side Reading Reading ne = absurd (ne refl)

-- what was told to an end, where a stream stands in the place of another
told-set : (streams : List Stream) (s : ℕ) (x : Stream) (k : ℕ) (on : Side) → s < length streams → (k ≡ s → (end_of on x).told ≡ (end_of on (get_or streams s no_stream)).told) → (end_of on (get_or (set streams s x) k no_stream)).told ≡ (end_of on (get_or streams k no_stream)).told
told-set streams s x k on l h =
    elim (cases_eq k s) [
      | inl e ↦ subst (λ n. (end_of on (get_or (set streams s x) n no_stream)).told ≡ (end_of on (get_or streams n no_stream)).told) (sym e)
          (ap (λ y. (end_of on y).told) (get_or-set_same streams s x no_stream l) ∙ h e)
      | inr ne ↦ ap (λ y. (end_of on y).told) (get_or-set_other streams s k x no_stream ne)
    ]

steady_set : (old new : State) (s : ℕ) (side : Side) (x : Stream) → new.streams ≡ set old.streams s x → s < length old.streams → StaysOwned side (stream_at old s) x → Steady s side old new
steady_set old new s side x e l h = record {
  many = ap length e ∙ length-set old.streams s x;
  owner = λ k on. ap (λ xs. owner_in xs k on) e ∙ owner-set_stays old.streams s x k on h.owners;
  plain = λ k p. subst (λ xs. ArePlain (get_or xs k no_stream)) (sym e) (plain-set old.streams s x k l h.plain p);
  told = λ k on other.
      ap (λ xs. (end_of on (get_or xs k no_stream)).told) e
      ∙ told-set old.streams s x k on l
      (λ at. subst (λ o. (end_of o x).told ≡ (end_of o (stream_at old s)).told) (sym (other_side on side (other at))) h.told);
}

-- ## A read or write

owned_same : (side : Side) (stream : Stream) → StaysOwned side stream stream
owned_same side stream = record { owners = record { writer = refl; reader = refl }; plain = λ p. p; told = refl }

-- one that is called with some items, and one that some were moved of
begun_items : (guest address n : ℕ) → 1 ≤ n → HasItems (begun guest address n)
begun_items guest address n some = record {
  outcome = refl;
  unmet = λ e. refl;
  left = λ e. some;
  moved = λ e. absurd (let wrong : false ≡ true = e in cc);
}

advanced_items : (payload : Payload) (o : Operation) (n : ℕ) → 1 ≤ n → HasItems (advanced payload o n)
advanced_items payload o n some = record {
  outcome = refl;
  unmet = λ e. absurd (let wrong : true ≡ false = e in cc);
  left = λ e. omega (arith, ltb-true 0 (o.left - n) e);
  moved = λ e. omega (arith, some);
}

moves-owned : (side : Side) (guests : List Guest) (stream : Stream) (mine theirs : Operation) (n : ℕ) (after : Option (List Guest)) → 1 ≤ n → StaysOwned side stream (moves side guests stream mine theirs n after).stream
moves-owned side guests stream mine theirs n None some = owned_same side stream
moves-owned Writing guests stream mine theirs n (Some after) some = record { owners = record { writer = refl; reader = refl }; plain = λ p. (p.0, advanced_items stream.payload theirs n some); told = refl }
moves-owned Reading guests stream mine theirs n (Some after) some = record { owners = record { writer = refl; reader = refl }; plain = λ p. (advanced_items stream.payload theirs n some, p.1); told = refl }

waits-owned : (side : Side) (stream : Stream) (mine : Operation) → HasItems mine → StaysOwned side stream (with_end side stream (record (end_of side stream) { operation = Some mine }))
waits-owned Writing stream mine c = record { owners = record { writer = refl; reader = refl }; plain = λ p. (c, p.1); told = refl }
waits-owned Reading stream mine c = record { owners = record { writer = refl; reader = refl }; plain = λ p. (p.0, c); told = refl }

-- where both have items, both complete
meeting_some : (write read : ℕ) → 1 ≤ write → 1 ≤ read → meeting_of write read ≡ BothComplete
meeting_some write read a b = rw (ne_eqb write 0 (λ e. omega (arith, a, e)), ne_eqb read 0 (λ e. omega (arith, b, e))) refl

pub both_meet : (side : Side) (mine theirs : Operation) → 1 ≤ mine.left → 1 ≤ theirs.left → meeting_of (write_of side mine theirs).left (read_of side mine theirs).left ≡ BothComplete
both_meet Writing mine theirs a b = meeting_some mine.left theirs.left a b
both_meet Reading mine theirs a b = meeting_some theirs.left mine.left b a

finds-owned : (side : Side) (guests : List Guest) (stream : Stream) (mine : Operation) (o : Option Operation) → IsPlain o → 1 ≤ mine.left → HasItems mine → StaysOwned side stream (finds side guests stream mine o).stream
finds-owned side guests stream mine None f l c = waits-owned side stream mine c
finds-owned side guests stream mine (Some theirs) f l c =
    cond_both theirs.is_open _ _ (λ (t : Operated). StaysOwned side stream t.stream)
    (λ e. subst (λ m. StaysOwned side stream (rendezvous_by m side guests stream mine theirs).stream) (sym (both_meet side mine theirs l (f.left e)))
    (moves-owned side guests stream mine theirs (min mine.left theirs.left) _ (omega (arith, l, f.left e))))
    (λ e. waits-owned side stream mine c)

learns-owned : (side : Side) (stream : Stream) → StaysOwned side stream (with_end side stream (record (end_of side stream) { told = true }))
learns-owned Writing stream = record { owners = record { writer = refl; reader = refl }; plain = λ p. p; told = refl }
learns-owned Reading stream = record { owners = record { writer = refl; reader = refl }; plain = λ p. p; told = refl }

-- the operation of one end
pub plain_on : (side : Side) (stream : Stream) → ArePlain stream → IsPlain (end_of side stream).operation
plain_on Writing stream p = p.0
plain_on Reading stream p = p.1

operate-owned : (side : Side) (guests : List Guest) (stream : Stream) (mine : Operation) → ArePlain stream → 1 ≤ mine.left → HasItems mine → StaysOwned side stream (operate side guests stream mine).stream
unfolding operate
operate-owned side guests stream mine p l c =
    cond_both (is_gone (end_of (opposite side) stream).owner) _ _ (λ (t : Operated). StaysOwned side stream t.stream)
    (λ e. learns-owned side stream)
    (λ e. finds-owned side guests stream mine (end_of (opposite side) stream).operation (plain_on (opposite side) stream p) l c)

-- ## An end is told where its code is Dropped, and else as it was

waits-told : (side : Side) (stream : Stream) (mine : Operation) → (end_of side (with_end side stream (record (end_of side stream) { operation = Some mine }))).told ≡ (end_of side stream).told
waits-told Writing stream mine = refl
waits-told Reading stream mine = refl

moves-told : (side : Side) (guests : List Guest) (stream : Stream) (mine theirs : Operation) (n : ℕ) (after : Option (List Guest)) → (end_of side (moves side guests stream mine theirs n after).stream).told ≡ (end_of side stream).told
moves-told side guests stream mine theirs n None = refl
moves-told Writing guests stream mine theirs n (Some after) = refl
moves-told Reading guests stream mine theirs n (Some after) = refl

alone-told : (who side : Side) (guests : List Guest) (stream : Stream) (mine theirs : Operation) → (end_of side (completes_alone who side guests stream mine theirs).stream).told ≡ (end_of side stream).told
alone-told Writing Writing guests stream mine theirs = refl
alone-told Reading Reading guests stream mine theirs = refl
alone-told Writing Reading guests stream mine theirs = refl
alone-told Reading Writing guests stream mine theirs = refl

meeting-told : (m : Meeting) (side : Side) (guests : List Guest) (stream : Stream) (mine theirs : Operation) → (end_of side (rendezvous_by m side guests stream mine theirs).stream).told ≡ (end_of side stream).told
meeting-told BothComplete side guests stream mine theirs = moves-told side guests stream mine theirs _ _
meeting-told WriteCompletes side guests stream mine theirs = alone-told Writing side guests stream mine theirs
meeting-told ReadCompletes side guests stream mine theirs = alone-told Reading side guests stream mine theirs

finds-told : (side : Side) (guests : List Guest) (stream : Stream) (mine : Operation) (o : Option Operation) → (end_of side (finds side guests stream mine o).stream).told ≡ (end_of side stream).told
finds-told side guests stream mine None = waits-told side stream mine
finds-told side guests stream mine (Some theirs) =
    cond_both theirs.is_open _ _ (λ (t : Operated). (end_of side t.stream).told ≡ (end_of side stream).told)
    (λ e. meeting-told (meeting_of (write_of side mine theirs).left (read_of side mine theirs).left) side guests stream mine theirs)
    (λ e. waits-told side stream mine)

-- the code of a turn is another than Dropped, and so the end was told as before
abbrev TellsOther : Side → Stream → Operated → Type 0
TellsOther side stream t = (code : ReturnCode) → t.code ≡ Some code → is_dropped code ≡ false → (end_of side t.stream).told ≡ (end_of side stream).told

operate-told : (side : Side) (guests : List Guest) (stream : Stream) (mine : Operation) → TellsOther side stream (operate side guests stream mine)
unfolding operate
operate-told side guests stream mine =
    cond_both (is_gone (end_of (opposite side) stream).owner) _ _ (TellsOther side stream)
    (λ gone code e d. absurd (let same : codes.Dropped 0 ≡ code = cc in let wrong : true ≡ false = ap is_dropped same ∙ d in cc))
    (λ e code f d. finds-told side guests stream mine (end_of (opposite side) stream).operation)

or_false : (b : Bool) → b || false ≡ b
or_false true = refl
or_false false = refl

delivered-told : (side : Side) (stream : Stream) (code : ReturnCode) → report_on side stream ≡ Some code → is_dropped code ≡ false → (end_of side (delivered side stream)).told ≡ (end_of side stream).told
unfolding delivered
delivered-told Writing stream code e d = ap (λ o. told_after o stream.writer.told) e ∙ ap (λ b. stream.writer.told || b) d ∙ or_false stream.writer.told
delivered-told Reading stream code e d = ap (λ o. told_after o stream.reader.told) e ∙ ap (λ b. stream.reader.told || b) d ∙ or_false stream.reader.told

-- ## What completes has moved items

-- a code that completes says so of some items
abbrev CountsSome : Option ReturnCode → Type 0
CountsSome code = (n : ℕ) → code ≡ Some (codes.Completed n) → 1 ≤ n

other_code : (code : ReturnCode) (n : ℕ) → Some code ≡ Some (codes.Completed n) → code ≢ codes.Completed n → 1 ≤ n
other_code code n e ne = absurd (ne (let same : code ≡ codes.Completed n = cc in same))

moves-some : (side : Side) (guests : List Guest) (stream : Stream) (mine theirs : Operation) (n : ℕ) (after : Option (List Guest)) → stream.kind ≡ AStream → 1 ≤ n → CountsSome (moves side guests stream mine theirs n after).code
moves-some side guests stream mine theirs n None k some m e = absurd (let wrong = e in cc)
moves-some side guests stream mine theirs n (Some after) k some m e =
    let same : Some (codes.Completed n) ≡ Some (codes.Completed m) = ap (λ kind. Some (completed_code kind n)) (sym k) ∙ e in
    let is : n ≡ m = cc in omega (arith, is, some)

finds-some : (side : Side) (guests : List Guest) (stream : Stream) (mine : Operation) (o : Option Operation) → stream.kind ≡ AStream → IsPlain o → 1 ≤ mine.left → CountsSome (finds side guests stream mine o).code
finds-some side guests stream mine None k f l m e = other_code codes.Blocked m e (λ b. cc)
finds-some side guests stream mine (Some theirs) k f l i c =
    (cond_both theirs.is_open _ _ (λ (t : Operated). CountsSome t.code)
    (λ e. subst (λ m. CountsSome (rendezvous_by m side guests stream mine theirs).code) (sym (both_meet side mine theirs l (f.left e)))
    (moves-some side guests stream mine theirs (min mine.left theirs.left) _ k (omega (arith, l, f.left e))))
    (λ e m b. other_code codes.Blocked m b (λ x. cc))) i c

operate-some : (side : Side) (guests : List Guest) (stream : Stream) (mine : Operation) → stream.kind ≡ AStream → ArePlain stream → 1 ≤ mine.left → CountsSome (operate side guests stream mine).code
unfolding operate
operate-some side guests stream mine k p l =
    cond_both (is_gone (end_of (opposite side) stream).owner) _ _ (λ (t : Operated). CountsSome t.code)
    (λ e m b. other_code (codes.Dropped 0) m b (λ x. cc))
    (λ e. finds-some side guests stream mine (end_of (opposite side) stream).operation k (plain_on (opposite side) stream p) l)

idle-some : (gone told passed : Bool) → CountsSome (idle_report gone told passed)
idle-some gone told passed n e = by (gone && not told && not passed) e
  where
    by : (b : Bool) → cond b (Some (codes.Dropped 0)) None ≡ Some (codes.Completed n) → 1 ≤ n
    by true f = other_code (codes.Dropped 0) n f (λ x. cc)
    by false f = absurd (let wrong = f in cc)

pending-some : (gone passed : Bool) (o : Operation) → HasItems o → CountsSome (operation_report AStream (pending_of o) gone passed)
pending-some true passed o h n e = other_code (codes.Dropped o.moved) n e (λ x. cc)
pending-some false passed o h n e = by o.met refl e
  where
    by : (b : Bool) → o.met ≡ b → cond b (Some (outcome_code AStream o.outcome o.moved)) None ≡ Some (codes.Completed n) → 1 ≤ n
    by true met f =
        let same : Some (codes.Completed o.moved) ≡ Some (codes.Completed n) = ap (λ x. Some (outcome_code AStream x o.moved)) (sym h.outcome) ∙ f in
        let is : o.moved ≡ n = cc in omega (arith, is, h.moved met)
    by false met f = absurd (let wrong = f in cc)

report-some : (side : Side) (stream : Stream) → stream.kind ≡ AStream → ArePlain stream → CountsSome (report_on side stream)
report-some side stream k p n e =
    by (end_of side stream).operation (plain_on side stream p)
    (ap (λ kind. report_of kind (option_map pending_of (end_of side stream).operation) (is_gone (end_of (opposite side) stream).owner) (end_of side stream).told stream.passed) (sym k) ∙ e)
  where
    by : (o : Option Operation) → IsPlain o → report_of AStream (option_map pending_of o) (is_gone (end_of (opposite side) stream).owner) (end_of side stream).told stream.passed ≡ Some (codes.Completed n) → 1 ≤ n
    by None q f = idle-some (is_gone (end_of (opposite side) stream).owner) (end_of side stream).told stream.passed n f
    by (Some o) q f = pending-some (is_gone (end_of (opposite side) stream).owner) stream.passed o q n f

-- ## Dropped is told only where the other end is gone

-- a code that is no Dropped
abbrev IsOther : Option ReturnCode → Type 0
IsOther None = Unit {0}
IsOther (Some code) = is_dropped code ≡ false

completed-other : (kind : TransmitKind) (n : ℕ) → IsOther (Some (completed_code kind n))
completed-other AStream n = refl
completed-other Future n = refl

moves-other : (side : Side) (guests : List Guest) (stream : Stream) (mine theirs : Operation) (n : ℕ) (after : Option (List Guest)) → IsOther (moves side guests stream mine theirs n after).code
moves-other side guests stream mine theirs n None = tt
moves-other side guests stream mine theirs n (Some after) = completed-other stream.kind n

alone-other : (who side : Side) (guests : List Guest) (stream : Stream) (mine theirs : Operation) → IsOther (completes_alone who side guests stream mine theirs).code
alone-other Writing Writing guests stream mine theirs = completed-other stream.kind 0
alone-other Reading Reading guests stream mine theirs = completed-other stream.kind 0
alone-other Writing Reading guests stream mine theirs = refl
alone-other Reading Writing guests stream mine theirs = refl

meeting-other : (m : Meeting) (side : Side) (guests : List Guest) (stream : Stream) (mine theirs : Operation) → IsOther (rendezvous_by m side guests stream mine theirs).code
meeting-other BothComplete side guests stream mine theirs = moves-other side guests stream mine theirs _ _
meeting-other WriteCompletes side guests stream mine theirs = alone-other Writing side guests stream mine theirs
meeting-other ReadCompletes side guests stream mine theirs = alone-other Reading side guests stream mine theirs

finds-other : (side : Side) (guests : List Guest) (stream : Stream) (mine : Operation) (o : Option Operation) → IsOther (finds side guests stream mine o).code
finds-other side guests stream mine None = refl
finds-other side guests stream mine (Some theirs) =
    cond_both theirs.is_open _ _ (λ (t : Operated). IsOther t.code)
    (λ e. meeting-other (meeting_of (write_of side mine theirs).left (read_of side mine theirs).left) side guests stream mine theirs)
    (λ e. refl)

-- a Dropped is told, or the code is another
abbrev OnlyGone : Side → Stream → Option ReturnCode → Type 0
OnlyGone side stream code = (c : ReturnCode) → code ≡ Some c → is_dropped c ≡ true → is_gone (end_of (opposite side) stream).owner ≡ true

other-only : (side : Side) (stream : Stream) (code : Option ReturnCode) → IsOther code → OnlyGone side stream code
other-only side stream None o c e d = cc
other-only side stream (Some x) o c e d = absurd (let same : x ≡ c = cc in let wrong : false ≡ true = sym o ∙ ap is_dropped same ∙ d in cc)

operate-only : (side : Side) (guests : List Guest) (stream : Stream) (mine : Operation) → OnlyGone side stream (operate side guests stream mine).code
unfolding operate
operate-only side guests stream mine =
    cond_both (is_gone (end_of (opposite side) stream).owner) _ _ (λ (t : Operated). OnlyGone side stream t.code)
    (λ gone c e d. gone)
    (λ e. other-only side stream _ (finds-other side guests stream mine (end_of (opposite side) stream).operation))

pending-only : (stream : Stream) (gone : Bool) (o : Operation) → o.outcome ≡ Completed → (c : ReturnCode) → operation_report AStream (pending_of o) gone stream.passed ≡ Some c → is_dropped c ≡ true → gone ≡ true
pending-only stream true o p c e d = refl
pending-only stream false o p c e d = by o.met e
  where
    by : (b : Bool) → (cond b (Some (outcome_code AStream o.outcome o.moved)) None) ≡ Some c → false ≡ true
    by true f = absurd (let same : outcome_code AStream o.outcome o.moved ≡ c = cc in let wrong : false ≡ true = sym (ap (λ x. is_dropped (outcome_code AStream x o.moved)) p) ∙ ap is_dropped same ∙ d in cc)
    by false f = cc

idle-only : (gone told passed : Bool) (c : ReturnCode) → idle_report gone told passed ≡ Some c → gone ≡ true
idle-only true told passed c e = refl
idle-only false told passed c e = cc

report-only : (stream : Stream) → stream.kind ≡ AStream → IsPlain stream.reader.operation → OnlyGone Reading stream (report_on Reading stream)
report-only stream k p c e d =
    by stream.reader.operation p
    (ap (λ kind. report_of kind (option_map pending_of stream.reader.operation) (is_gone stream.writer.owner) stream.reader.told stream.passed) (sym k) ∙ e)
  where
    by : (o : Option Operation) → IsPlain o → report_of AStream (option_map pending_of o) (is_gone stream.writer.owner) stream.reader.told stream.passed ≡ Some c → is_gone stream.writer.owner ≡ true
    by None p f = idle-only (is_gone stream.writer.owner) stream.reader.told stream.passed c f
    by (Some o) p f = pending-only stream (is_gone stream.writer.owner) o p.outcome c f d

-- ## Whole steps

pub written_is : (state next : State) (s : ℕ) (t : Operated) (o : Option ReturnCode) (code : ReturnCode) → written_back state s t o ≡ goes (replies.Code code) next → (o ≡ Some code) × (next ≡ written state s t)
written_is state next s t None code e = absurd (let wrong = ap (λ (r : Reaction). r.reply) e in cc)
written_is state next s t (Some x) code e =
    let reply : replies.Code x ≡ replies.Code code = ap (λ (r : Reaction). r.reply) e in
    let same : x ≡ code = cc in
    (ap Some same, sym (ap (λ (r : Reaction). r.state) e))

-- a read or write of some items, on a stream whose operations come out with theirs
pub record IsOfSome (state : State) (s count : ℕ) : Type 0 where
  pub plain : ArePlain (stream_at state s)
  pub kind : (stream_at state s).kind ≡ AStream
  pub some : 1 ≤ count

-- a read or write that answers a code
pub record IsOperated (state next : State) (s : ℕ) (side : Side) (code : ReturnCode) : Type 0 where
  pub steady : Steady s side state next
  pub own : is_dropped code ≡ false → told_at next s side ≡ told_at state s side
  pub only : is_dropped code ≡ true → is_gone (end_of (opposite side) (stream_at state s)).owner ≡ true
  pub some : (n : ℕ) → code ≡ codes.Completed n → 1 ≤ n

module _ (state next : State) (s : ℕ) (side : Side) (end : NamedEnd) (address count : ℕ) (code : ReturnCode) where
  pub operate_after : IsPerformed state (OnEnd side end (Operate address count)) (replies.Code code) next → stream_named (named state end) ≡ s → s < length state.streams → IsOfSome state s (items_asked end.ty count) → IsOperated state next s side code
  unfolding performs
  operate_after p e l z =
      let n = stream_named (named state end) in
      let mine = begun end.guest address (items_asked end.ty count) in
      let t = operate side state.guests (stream_at state n) mine in
      let w = written_is state next n t t.code code p.does in
      let y : IsOfSome state n (items_asked end.ty count) = subst (λ k. IsOfSome state k (items_asked end.ty count)) (sym e) z in
      let there : n < length state.streams = subst (λ k. k < length state.streams) (sym e) l in
      let is : next.streams ≡ set state.streams n t.stream = ap (λ (x : State). x.streams) w.1 in
      record {
        own = λ d. subst (λ k. told_at next k side ≡ told_at state k side) e
            (ap (λ xs. (end_of side (get_or xs n no_stream)).told) is ∙ ap (λ y. (end_of side y).told) (get_or-set_same state.streams n t.stream no_stream there)
            ∙ operate-told side state.guests (stream_at state n) mine code w.0 d);
        steady = subst (λ k. Steady k side state next) e (steady_set state next n side t.stream is there (operate-owned side state.guests (stream_at state n) mine y.plain y.some (begun_items end.guest address (items_asked end.ty count) y.some)));
        only = λ d. subst (λ k. is_gone (end_of (opposite side) (stream_at state k)).owner ≡ true) e (operate-only side state.guests (stream_at state n) mine code w.0 d);
        some = λ i c. operate-some side state.guests (stream_at state n) mine y.kind y.plain y.some i (w.0 ∙ ap Some c);
      }

left_plain : (code : Option ReturnCode) (o : Option Operation) → IsPlain o → IsPlain (left_pending code o)
left_plain None o p = p
left_plain (Some code) o p = tt

delivered-owned : (side : Side) (stream : Stream) → StaysOwned side stream (delivered side stream)
unfolding delivered
delivered-owned Writing stream = record { owners = record { writer = refl; reader = refl }; plain = λ p. (left_plain (report_on Writing stream) stream.writer.operation p.0, p.1); told = refl }
delivered-owned Reading stream = record { owners = record { writer = refl; reader = refl }; plain = λ p. (p.0, left_plain (report_on Reading stream) stream.reader.operation p.1); told = refl }

-- an event that answers this
pub record Told (state next : State) (s : ℕ) (side : Side) (code : Option ReturnCode) : Type 0 where
  pub steady : Steady s side state next
  pub own : (told : ReturnCode) → code ≡ Some told → is_dropped told ≡ false → told_at next s side ≡ told_at state s side
  pub reports : report_on side (stream_at state s) ≡ code
  pub guests : next.guests ≡ state.guests

module _ (state next : State) (g handle s : ℕ) (side : Side) (code : Option ReturnCode) where
  pub event_after : IsPerformed state (Event g handle) (replies.Event code) next → stream_named (end_named state g handle) ≡ s → side_named (end_named state g handle) ≡ side → s < length state.streams → Told state next s side code
  unfolding performs
  event_after p e f l =
      let does = subst (λ d. goes (replies.Event (report_on d (stream_at state s))) (told state s d) ≡ goes (replies.Event code) next) f
      (subst (λ k. goes (replies.Event (report_on (side_named (end_named state g handle)) (stream_at state k))) (told state k (side_named (end_named state g handle))) ≡ goes (replies.Event code) next) e p.does) in
      let reply : replies.Event (report_on side (stream_at state s)) ≡ replies.Event code = ap (λ (r : Reaction). r.reply) does in
      let next_is : next ≡ told state s side = sym (ap (λ (r : Reaction). r.state) does) in
      let is : next.streams ≡ set state.streams s (delivered side (stream_at state s)) = ap (λ (x : State). x.streams) next_is in
      let reports : report_on side (stream_at state s) ≡ code = cc in
      record {
        steady = steady_set state next s side (delivered side (stream_at state s)) is l (delivered-owned side (stream_at state s));
        own = λ told e d.
            ap (λ xs. (end_of side (get_or xs s no_stream)).told) is ∙ ap (λ y. (end_of side y).told) (get_or-set_same state.streams s (delivered side (stream_at state s)) no_stream l)
            ∙ delivered-told side (stream_at state s) told (reports ∙ e) d;
        reports = reports;
        guests = ap (λ (x : State). x.guests) next_is;
      }

-- one that answers none changes no stream
undelivered : (side : Side) (stream : Stream) → report_on side stream ≡ None → delivered side stream ≡ stream
unfolding delivered
undelivered Writing stream e = ap (λ code. with_end Writing stream (told_end code (end_of Writing stream))) e
undelivered Reading stream e = ap (λ code. with_end Reading stream (told_end code (end_of Reading stream))) e

untold : (state : State) (s : ℕ) (side : Side) → report_on side (stream_at state s) ≡ None → told state s side ≡ state
untold state s side e =
    ap (λ xs. record state { streams = xs }) (ap (set state.streams s) (undelivered side (stream_at state s) e) ∙ set-get_or state.streams s no_stream)

-- it tells of some items where it tells that all is done
pub told_some : (state next : State) (s : ℕ) (side : Side) (code : ReturnCode) → Told state next s side (Some code) → (stream_at state s).kind ≡ AStream → ArePlain (stream_at state s) → (n : ℕ) → code ≡ codes.Completed n → 1 ≤ n
told_some state next s side code t k p n e = report-some side (stream_at state s) k p n (t.reports ∙ ap Some e)

pub told_gone : (state next : State) (s : ℕ) (code : ReturnCode) → Told state next s Reading (Some code) → (stream_at state s).kind ≡ AStream → IsPlain (stream_at state s).reader.operation → is_dropped code ≡ true → is_gone (stream_at state s).writer.owner ≡ true
told_gone state next s code t k p d = report-only (stream_at state s) k p code t.reports d

-- the drop of a write end
pub record Forsaken (state next : State) (s : ℕ) : Type 0 where
  pub many : length next.streams ≡ length state.streams
  pub readers : (k : ℕ) → owner_in next.streams k Reading ≡ owner_in state.streams k Reading
  pub others : (k : ℕ) → k ≢ s → owner_in next.streams k Writing ≡ owner_in state.streams k Writing
  pub gone : owner_in next.streams s Writing ≡ Gone
  pub plain : (k : ℕ) → ArePlain (stream_at state k) → ArePlain (stream_at next k)
  pub told : (k : ℕ) (on : Side) → told_at next k on ≡ told_at state k on

same_told : (stream : Stream) (on : Side) → (end_of on (with_end Writing stream (record stream.writer { owner = Gone }))).told ≡ (end_of on stream).told
same_told stream Writing = refl
same_told stream Reading = refl

pub drop_after : (state next : State) (s : ℕ) (end : NamedEnd) → IsPerformed state (OnEnd Writing end Drop) replies.Done next → stream_named (named state end) ≡ s → s < length state.streams → Forsaken state next s
unfolding performs dropped
drop_after state next s end p e l =
    let does = subst (λ k. goes replies.Done (with_stream_at (without_handle state end.guest end.handle) k (dropped Writing (stream_at state k))) ≡ goes replies.Done next) e p.does in
    let x = dropped Writing (stream_at state s) in
    let is : next.streams ≡ set state.streams s x = sym (ap (λ (r : Reaction). r.state.streams) does) in
    record {
      many = ap length is ∙ length-set state.streams s x;
      readers = λ k. ap (λ xs. owner_in xs k Reading) is ∙ owner-set_same state.streams s x k Reading refl;
      others = λ k ne. ap (λ xs. owner_in xs k Writing) is ∙ owner-set_other state.streams s x k Writing ne;
      gone = ap (λ xs. owner_in xs s Writing) is ∙ ap (λ (y : Stream). y.writer.owner) (get_or-set_same state.streams s x no_stream l);
      plain = λ k q. subst (λ xs. ArePlain (get_or xs k no_stream)) (sym is) (plain-set state.streams s x k l (λ y. y) q);
      told = λ k on. ap (λ xs. (end_of on (get_or xs k no_stream)).told) is ∙ told-set state.streams s x k on l (λ at. same_told (stream_at state s) on);
    }

-- bytes put into a memory, and bytes shown
pub poke_after : (state next : State) (g address : ℕ) (bytes : List ℕ) → IsPerformed state (OnMemory g (Poke address bytes)) replies.Done next → next.streams ≡ state.streams
unfolding performs
poke_after state next g address bytes p = sym (ap (λ (r : Reaction). r.state.streams) p.does)

pub dump_after : (state next : State) (g address len : ℕ) (bytes : List ℕ) → IsPerformed state (OnMemory g (Dump address len)) (replies.Bytes bytes) next → (next ≡ state) × (bytes ≡ take (min len 64) (drop address (memory_in state.guests g)))
unfolding performs
dump_after state next g address len bytes p =
    let reply : replies.Bytes (take (min len 64) (drop address (memory_in state.guests g))) ≡ replies.Bytes bytes = ap (λ (r : Reaction). r.reply) p.does in
    (sym (ap (λ (r : Reaction). r.state) p.does), sym (let same : take (min len 64) (drop address (memory_in state.guests g)) ≡ bytes = cc in same))

-- an event that answers none changes nothing
pub event_none : (state next : State) (g handle : ℕ) → IsPerformed state (Event g handle) (replies.Event None) next → next ≡ state
unfolding performs
event_none state next g handle p =
    let s = stream_named (end_named state g handle) in
    let side = side_named (end_named state g handle) in
    let reply : replies.Event (report_on side (stream_at state s)) ≡ replies.Event None = ap (λ (r : Reaction). r.reply) p.does in
    sym (ap (λ (r : Reaction). r.state) p.does) ∙ untold state s side (let none : report_on side (stream_at state s) ≡ None = cc in none)
