-- The records that a run added: each keeps the rules, and where a host end stopped it, its last one says why.
use Rattle.std.proofs.Common.{◌≡◌, ℕ, zero, suc, List, [], ◌∷◌, ◌++◌, length, take, drop, map, get_or, Option, Some, None, Ok, Err, inl, inr, refl, sym, ap, ◌∙◌, subst, append_assoc, arith}
use Rattle.std.proofs.lemmas.List.{drop_all, append-nil}
use Rattle.std.proofs.lemmas.List.Elements.{All-nil, All-append}
use Rattle.strm_buffers.specs.declared.answers.ReaderSaid.{ReaderSaid}
use Rattle.strm_buffers.specs.Said.{WriterSaid}
use Rattle.strm_machine.specs.State.{State}
use Rattle.strm_machine.specs.declared.replies.Reply.{Reply}
use Rattle.strm_machine.specs.declared.stops.Stop.{Stop}
use Rattle.strm_machine.specs.declared.stops.Stop.TheVariants.{HostFailed, HostBroke, BadItem, StoreTrapped}
use Rattle.strm_machine.specs.declared.streams.Side.TheVariants.{Writing, Reading}
use Rattle.strm_machine.specs.declared.steps.Step.{Step}
use Rattle.strm_host_machine.specs.World.{World, writer_at, reader_at}
use Rattle.strm_host_machine.specs.Ends.{no_writer, no_reader}
use Rattle.strm_buffers.specs.Tells.{WriterTells, ReaderTells, Tells, no_tells, no_reader_tells, told_by, told_by_reader}
use Rattle.strm_machine.specs.declared.streams.Producer.{Producer}
use Rattle.strm_host_machine.specs.Does.{AllBegin, Extends, saids, writers_from, readers_from, world_of, world_spent, Logs, Fits, Does}
use Rattle.strm_host_machine.specs.HostPlays.{host_play, Ends}
use Rattle.strm_host_machine.proofs.DoesLemmas.{extends_self}
use Rattle.strm_host_machine.proofs.LaterLemmas.{Used, UsedLast}
use Rattle.strm_host_machine.proofs.StepRecordLemmas.{Halts, act-halts}
use Rattle.strm_host_machine.proofs.LastRecordLemmas.{writer-coming, writer-spent, writer-kind, reader-coming, reader-spent, reader-kind, AreServing, ends_fit, halts_by_record}
use Rattle.strm_host_machine.specs.LastRecord.{SaysFailed, SaysBroken, ReaderSaysFailed, ReaderSaysBroken, SaysLast, HaltsByRecord, KeepsRules, ReaderKeepsRules, SaysWhy, ReaderSaysWhy}
use Rattle.strm_machine.specs.Acts.{act_of}
use Rattle.strm_host_machine.specs.Steps.{outcome_of_step}
use Rattle.strm_session.specs.Records.{StopsByRecord, AddsKept, AddsWhy, WriterKeeps, WriterTellsWhy, ReaderKeeps, ReaderTellsWhy, RulesKept, RulesKeptBut, StopRules}
use Rattle.strm_session.specs.Runs.{start_among}
use Rattle.strm_machine.specs.Hosting.{HostsHold}
use Rattle.strm_laws.specs.Laws.{AreSteps}
use Rattle.strm_session.proofs.AmongLemmas.{LedAmong}
use Rattle.strm_session.proofs.KeptLemmas.{LawsAmong, LeadsAmong, all_laws}
use Rattle.strm_machine.specs.declared.streams.HostEnd.TheVariants as ends

-- where host ends and streams agree, a host end that has an end of a stream serves it
serving : (state : State) → HostsHold state → AreServing state
serving state h side n s = (h.serve side n s).serves

-- a step that stops
step_by_record : (now new : Tells) (state next : State) (step : Step) (stop : Option Stop) → HostsHold state → Fits state now → Does state next now new (Err stop) (λ w. outcome_of_step w step) → StopsByRecord now new stop
step_by_record now new state next step None h fits d = tt
step_by_record now new state next step (Some stop) h fits d = halts_by_record now new state next (act_of step) stop (serving state h) fits d

-- what had been said before may be more than was asked for
said_before : {A : Type 0} (P : A → Type 0) (old now new more : List A) → now ≡ old ++ more → SaysLast P now new → SaysLast P old new
said_before P old now new more e s =
    (more ++ s.0, s.1, s.2 ∙ ap (λ xs. xs ++ (s.0 ++ s.1 ∷ [])) e ∙ append_assoc old more (s.0 ++ s.1 ∷ []) ∙ ap (λ xs. old ++ xs) (sym (append_assoc more s.0 (s.1 ∷ []))), s.3)

-- EACH RECORD

-- what was used is what was added, where nothing is to come any more
adds_kept : {A : Type 0} (P : A → Type 0) (old new coming rest : List A) → new ≡ old ++ coming → rest ≡ [] → Used P coming rest → AddsKept P old new
adds_kept P old new coming rest e r u = record {
  added = u.0;
  said = e ∙ ap (λ xs. old ++ xs) (u.1 ∙ ap (λ ys. u.0 ++ ys) r ∙ append-nil u.0);
  kept = u.2;
}

adds_why : {A : Type 0} (P Q : A → Type 0) (old new coming rest : List A) → new ≡ old ++ coming → rest ≡ [] → UsedLast P Q coming rest → AddsWhy P Q old new
adds_why P Q old new coming rest e r u = record {
  added = u.0;
  last = u.1;
  said = e ∙ ap (λ xs. old ++ xs) (u.2 ∙ ap (λ ys. u.0 ++ u.1 ∷ ys) r);
  kept = u.3;
  says = u.4;
}

-- behind records that kept the rules
kept_twice : {A : Type 0} (P : A → Type 0) (old now new : List A) → AddsKept P old now → AddsKept P now new → AddsKept P old new
kept_twice P old now new a b = record {
  added = a.added ++ b.added;
  said = b.said ∙ ap (λ xs. xs ++ b.added) a.said ∙ append_assoc old a.added b.added;
  kept = All-append P a.added b.added a.kept b.kept;
}

why_behind : {A : Type 0} (P Q : A → Type 0) (old now new : List A) → AddsKept P old now → AddsWhy P Q now new → AddsWhy P Q old new
why_behind P Q old now new a b = record {
  added = a.added ++ b.added;
  last = b.last;
  said = b.said ∙ ap (λ xs. xs ++ (b.added ++ b.last ∷ [])) a.said ∙ append_assoc old a.added (b.added ++ b.last ∷ []) ∙ ap (λ xs. old ++ xs) (sym (append_assoc a.added b.added (b.last ∷ [])));
  kept = All-append P a.added b.added a.kept b.kept;
  says = b.says;
}

-- host ends whose records keep the rules of their kinds, which stay
pub record KeepOn (old new : Tells) : Type 0 where
  pub rules : RulesKept old new
  pub writer_kinds : (n : ℕ) → (told_by new n).kind ≡ (told_by old n).kind
  pub reader_kinds : (r : ℕ) → (told_by_reader new r).kind ≡ (told_by_reader old r).kind

pub keep_none : (tells : Tells) → KeepOn tells tells
keep_none tells = record {
  rules = record {
    writers = λ n. record { added = []; said = sym (append-nil (told_by tells n).said); kept = All-nil (KeepsRules (told_by tells n).kind) };
    readers = λ r. record { added = []; said = sym (append-nil (told_by_reader tells r).said); kept = All-nil (ReaderKeepsRules (told_by_reader tells r).kind) };
  };
  writer_kinds = λ n. refl;
  reader_kinds = λ r. refl;
}

module _ (old now new : Tells) (k : KeepOn old now) where
  writer_rules : (n : ℕ) → WriterKeeps now new n → WriterKeeps old new n
  writer_rules n a = kept_twice _ _ _ _ (k.rules.writers n) (subst (λ q. AddsKept (KeepsRules q) (told_by now n).said (told_by new n).said) (k.writer_kinds n) a)

  reader_rules : (r : ℕ) → ReaderKeeps now new r → ReaderKeeps old new r
  reader_rules r a = kept_twice _ _ _ _ (k.rules.readers r) (subst (λ q. AddsKept (ReaderKeepsRules q) (told_by_reader now r).said (told_by_reader new r).said) (k.reader_kinds r) a)

  keep_more : KeepOn now new → KeepOn old new
  keep_more j = record {
    rules = record { writers = λ n. writer_rules n (j.rules.writers n); readers = λ r. reader_rules r (j.rules.readers r) };
    writer_kinds = λ n. j.writer_kinds n ∙ k.writer_kinds n;
    reader_kinds = λ r. j.reader_kinds r ∙ k.reader_kinds r;
  }

  writer_why : (stop : Stop) (n : ℕ) → WriterTellsWhy stop now new n → WriterTellsWhy stop old new n
  writer_why stop n a = why_behind _ _ _ _ _ (k.rules.writers n) (subst (λ q. AddsWhy (KeepsRules q) (SaysWhy stop n q) (told_by now n).said (told_by new n).said) (k.writer_kinds n) a)

  reader_why : (stop : Stop) (r : ℕ) → ReaderTellsWhy stop now new r → ReaderTellsWhy stop old new r
  reader_why stop r a = why_behind _ _ _ _ _ (k.rules.readers r) (subst (λ q. AddsWhy (ReaderKeepsRules q) (ReaderSaysWhy stop r q) (told_by_reader now r).said (told_by_reader new r).said) (k.reader_kinds r) a)

  keep_but : (stop : Stop) → RulesKeptBut stop now new → RulesKeptBut stop old new
  keep_but stop j = record {
    writers = λ n. elim (j.writers n) [ inl a ↦ inl (writer_rules n a) | inr a ↦ inr (writer_why stop n a) ];
    readers = λ r. elim (j.readers r) [ inl a ↦ inl (reader_rules r a) | inr a ↦ inr (reader_why stop r a) ];
  }

-- a step, on the records that it added
module _ (now new : Tells) (state next : State) (step : Step) (h : HostsHold state) (fits : Fits state now) where
  abbrev here : World
  here = world_of state now (saids new)

  writer_here : (n : ℕ) → (writer_at here n).kind ≡ (told_by now n).kind
  writer_here n = writer-kind state.producers now.writers (saids new).writers n

  reader_here : (r : ℕ) → (reader_at here r).kind ≡ (told_by_reader now r).kind
  reader_here r = reader-kind now.readers (saids new).readers r

  writer_kept : (n : ℕ) → Extends now (saids new) → Used (KeepsRules (writer_at here n).kind) (writer_at here n).coming (writer_at (world_spent next new) n).coming → WriterKeeps now new n
  writer_kept n b u =
      subst (λ q. AddsKept (KeepsRules q) (told_by now n).said (told_by new n).said) (writer_here n)
      (adds_kept _ _ _ _ _ (writer-coming state.producers now.writers new.writers n b.0) (writer-spent next.producers new.writers n) u)

  reader_kept : (r : ℕ) → Extends now (saids new) → Used (ReaderKeepsRules (reader_at here r).kind) (reader_at here r).coming (reader_at (world_spent next new) r).coming → ReaderKeeps now new r
  reader_kept r b u =
      subst (λ q. AddsKept (ReaderKeepsRules q) (told_by_reader now r).said (told_by_reader new r).said) (reader_here r)
      (adds_kept _ _ _ _ _ (reader-coming now.readers new.readers r b.1) (reader-spent new.readers r) u)

  pub step_keeps : (reply : Reply) → Does state next now new (Ok reply) (λ w. outcome_of_step w step) → KeepOn now new
  step_keeps reply d =
      let logs = saids new in
      let e = extends_self new in
      let b = d.begins logs e in
      let later = subst (Halts here) (d.gives logs e) (act-halts here (ends_fit state now logs (serving state h) fits) (act_of step)) in
      record {
        rules = record { writers = λ n. writer_kept n b (later.writers n).coming; readers = λ r. reader_kept r b (later.readers r).coming };
        writer_kinds = λ n. sym (writer-kind next.producers new.writers (saids new).writers n) ∙ (later.writers n).kind ∙ writer_here n;
        reader_kinds = λ r. sym (reader-kind new.readers (saids new).readers r) ∙ (later.readers r).kind ∙ reader_here r;
      }

  writer_stop : (stop : Stop) (n : ℕ) → Extends now (saids new) → UsedLast (KeepsRules (writer_at here n).kind) (SaysWhy stop n (writer_at here n).kind) (writer_at here n).coming (writer_at (world_spent next new) n).coming
      → WriterTellsWhy stop now new n
  writer_stop stop n b u =
      subst (λ q. AddsWhy (KeepsRules q) (SaysWhy stop n q) (told_by now n).said (told_by new n).said) (writer_here n)
      (adds_why _ _ _ _ _ _ (writer-coming state.producers now.writers new.writers n b.0) (writer-spent next.producers new.writers n) u)

  reader_stop : (stop : Stop) (r : ℕ) → Extends now (saids new) → UsedLast (ReaderKeepsRules (reader_at here r).kind) (ReaderSaysWhy stop r (reader_at here r).kind) (reader_at here r).coming (reader_at (world_spent next new) r).coming
      → ReaderTellsWhy stop now new r
  reader_stop stop r b u =
      subst (λ q. AddsWhy (ReaderKeepsRules q) (ReaderSaysWhy stop r q) (told_by_reader now r).said (told_by_reader new r).said) (reader_here r)
      (adds_why _ _ _ _ _ _ (reader-coming now.readers new.readers r b.1) (reader-spent new.readers r) u)

  step_stops : (stop : Option Stop) → Does state next now new (Err stop) (λ w. outcome_of_step w step) → StopRules stop now new
  step_stops None d = tt
  step_stops (Some stop) d =
      let logs = saids new in
      let e = extends_self new in
      let b = d.begins logs e in
      let by = subst (Halts here) (d.gives logs e) (act-halts here (ends_fit state now logs (serving state h) fits) (act_of step)) in
      record {
        writers = λ n. elim (by.writers n) [ inl x ↦ inl (writer_kept n b x.coming) | inr x ↦ inr (writer_stop stop n b x.coming) ];
        readers = λ r. elim (by.readers r) [ inl x ↦ inl (reader_kept r b x.coming) | inr x ↦ inr (reader_stop stop r b x.coming) ];
      }

-- and where it stops a run
pub rules_of_stop : (old now new : Tells) (state next : State) (step : Step) (stop : Option Stop) → KeepOn old now → HostsHold state → Fits state now → Does state next now new (Err stop) (λ w. outcome_of_step w step) → StopRules stop old new
rules_of_stop old now new state next step None k h fits d = tt
rules_of_stop old now new state next step (Some stop) k h fits d = keep_but old now new k stop (step_stops now new state next step h fits (Some stop) d)

pub rules_more : (old now new : Tells) (state next : State) (step : Step) (reply : Reply) → KeepOn old now → HostsHold state → Fits state now → Does state next now new (Ok reply) (λ w. outcome_of_step w step) → KeepOn old new
rules_more old now new state next step reply k h fits d = keep_more old now new k (step_keeps now new state next step h fits reply d)

-- THE RUN OF WHICH IT IS A STEP

-- the records of before this step are behind those of before the run
by_record_before : (old now new : Tells) (stop : Option Stop) → Extends old (saids now) → StopsByRecord now new stop → StopsByRecord old new stop
by_record_before old now new None b h = tt
by_record_before old now new (Some (HostFailed (ends.Writer n))) b h = said_before SaysFailed _ _ _ _ (writer-coming [] old.writers now.writers n b.0) h
by_record_before old now new (Some (HostFailed (ends.Reader r))) b h = said_before ReaderSaysFailed _ _ _ _ (reader-coming old.readers now.readers r b.1) h
by_record_before old now new (Some (HostBroke (ends.Writer n))) b h = said_before (SaysBroken _) _ _ _ _ (writer-coming [] old.writers now.writers n b.0) h
by_record_before old now new (Some (HostBroke (ends.Reader r))) b h = said_before (ReaderSaysBroken _) _ _ _ _ (reader-coming old.readers now.readers r b.1) h
by_record_before old now new (Some (BadItem s)) b h = tt
by_record_before old now new (Some StoreTrapped) b h = tt

-- the laws of the steps before say that host ends and streams agree
pub hosts_before : (old now : Tells) → LawsAmong (start_among old now) → LeadsAmong (start_among old now) → (steps : List Step) (k : ℕ) (told : List Reply) (state : State) → AreSteps (take k steps) → LedAmong old steps k told state now → HostsHold state
hosts_before old now laws leads steps k told state a l =
    let first = start_among old now in
    let front = take k steps in
    let led = (l.led (saids now) (extends_self now)).goes_on [] in
    let played : host_play [] first front ≡ Ends told (world_of state now (saids now)) = ap (host_play [] first) (sym (append-nil front)) ∙ led in
    let end = leads front told (world_of state now (saids now)) played in
    subst (λ (w : World). HostsHold w.state) end (all_laws (start_among old now) front (laws front a)).hosts

-- a step that stops a run
pub stops_by_record : (old now new : Tells) (state next : State) (step : Step) (stop : Option Stop) → Extends old (saids now) → HostsHold state → Fits state now → Does state next now new (Err stop) (λ w. outcome_of_step w step) → StopsByRecord old new stop
stops_by_record old now new state next step stop b h fits d =
    by_record_before old now new stop b (step_by_record now new state next step stop h fits d)
