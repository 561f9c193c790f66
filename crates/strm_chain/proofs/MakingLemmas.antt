-- The making of a chain leaves it joined.
use Rattle.std.proofs.Common.{◌≡◌, ℕ, zero, suc, ◌+◌, ◌-◌, ◌<◌, ◌≤◌, true, false, List, [], ◌∷◌, ◌++◌, length, take, drop, get_or, Some, None, refl, sym, ap, ◌∙◌, subst, inl, inr, append_assoc, add-one, arith}
use Rattle.std.specs.Prelude.{map, replicate, Result, Ok, Err, IfOk, OnOk}
use Rattle.std.proofs.lemmas.Bool.{cases_lt}
use Rattle.std.proofs.lemmas.List.{append-nil, length_push, length-set, length-replicate, length-map, take_more, take_all, map_push, replicate_more}
use Rattle.strm_handles.specs.Handles.{no_handles, Handles}
use Rattle.strm_waitable_sets.specs.Sets.{no_sets}
use Rattle.strm_machine.specs.State.{State, Guest, no_guest, no_stream, guest_in, memory_in, with_handles, stream_at}
use Rattle.strm_machine.specs.Acts.{act_of}
use Rattle.strm_machine.specs.Making.{made_stream, made_pair, with_stream, with_read_end}
use Rattle.strm_machine.specs.Moments.{received}
use Rattle.strm_machine.specs.Soundness.{type_of}
use Rattle.strm_machine.specs.Reactions.{Reaction, performs}
use Rattle.strm_machine.specs.declared.acts.Act.TheVariants.{Make}
use Rattle.strm_machine.specs.declared.acts.Making.TheVariants.{Guest as AGuest, Between}
use Rattle.strm_machine.specs.declared.steps.Step.TheVariants as steps
use Rattle.strm_machine.specs.declared.replies.Pair.{Pair}
use Rattle.strm_machine.specs.declared.replies.Reply.TheVariants as replies
use Rattle.strm_machine.specs.declared.streams.Stream.{Stream}
use Rattle.strm_machine.proofs.TableLemmas.{at_push, set-keeps}
use Rattle.strm_chain.specs.declared.stages.Stage.{Stage}
use Rattle.strm_chain.specs.declared.stages.Stage.TheVariants.{Copy}
use Rattle.strm_chain.specs.declared.workers.Worker.{Worker}
use Rattle.strm_chain.specs.declared.workers.Doing.TheVariants.{Nothing, Reading, Writing, Ended}
use Rattle.strm_chain.specs.Stages.{work_begun}
use Rattle.strm_chain.specs.Playing.{ChainPlay, no_play, Adds, bytes_type}
use Rattle.strm_chain.specs.Flowing.{got_on}
use Rattle.strm_chain.specs.Reporting.{last_report, tells_end, is_told}
use Rattle.strm_chain.specs.Running.{guests_made, streams_made}
use Rattle.strm_chain.specs.Keeping.{new_worker, worker_at, sink_of, Items, IsJoined}
use Rattle.strm_chain.specs.Making.{AreMade, IsNew, MakesPair, HasWrite, HasRead, source_of, AreJoined, IsReady}
use Rattle.strm_chain.proofs.StageLemmas.{work_done-none, work_left-none}
use Rattle.strm_chain.proofs.NamingLemmas.{IsPerformed, performed}
use Rattle.strm_chain.proofs.LimitLemmas.{little_guest, little_pair}
use Rattle.strm_chain.proofs.ToldLemmas.{even_adds, last-adds}
use Rattle.strm_machine.specs.declared.steps.Step.{Step}

-- ## Guests

guest_is : (state next : State) (size n : ℕ) → IsPerformed state (Make (AGuest size)) (replies.Number n) next → next ≡ record state { guests = state.guests ++ (record { memory = replicate size 0; base = None; handles = no_handles; sets = no_sets }) ∷ [] }
unfolding performs
guest_is state next size n p = sym (ap (λ (r : Reaction). r.state) p.does)

-- ## The steps of the making so far

no_streams : (made : List Step) → made ++ streams_made 0 ≡ made
unfolding streams_made
no_streams made = append-nil made

stream_more : (s : ℕ) → streams_made (s + 1) ≡ streams_made s ++ steps.Between s (s + 1) bytes_type ∷ []
unfolding streams_made
stream_more s = ap streams_made (add-one s)

-- before the first step
pub none_made : AreMade 0 0 no_play
unfolding streams_made last_report
none_made = record {
  guests_are = refl;
  streams_are = refl;
  room = λ g l. absurd (omega (arith, l));
  little = record { limits = refl; bytes = refl; handles = omega arith; tables = λ g. record { freed = refl; entries = omega arith }; sets = refl; contexts = refl };
  steps_are = refl;
  even = refl;
  quiet = λ g. refl;
}

pub guest_made : (p q : ChainPlay) (n k : ℕ) → Adds p q (steps.Guest 8192) (replies.Number n) → AreMade k 0 p → AreMade (k + 1) 0 q
guest_made p q n k a m =
    let x : Guest = record { memory = replicate 8192 0; base = None; handles = no_handles; sets = no_sets } in
    let is = guest_is p.state q.state 8192 n (performed p.state (act_of (steps.Guest 8192)) (replies.Number n) q.state a.reacts refl) in
    let guests : q.state.guests ≡ p.state.guests ++ x ∷ [] = ap (λ (s : State). s.guests) is in
    record {
      guests_are = ap length guests ∙ length_push p.state.guests x ∙ ap (λ i. i + 1) m.guests_are;
      streams_are = ap (λ (s : State). length s.streams) is ∙ m.streams_are;
      room = λ g l.
          ap (λ xs. length (memory_in xs g)) guests
          ∙ at_push p.state.guests x no_guest g (λ (y : Guest). length y.memory ≡ 8192) (λ e. length-replicate {A = ℕ} 8192 0) (λ ne. m.room g (omega (arith, l, m.guests_are, ne)));
      little = little_guest k 0 p.state q.state is m.little;
      steps_are = a.steps_are ∙ ap (λ xs. xs ++ steps.Guest 8192 ∷ []) (m.steps_are ∙ no_streams (guests_made k)) ∙ replicate_more k (steps.Guest 8192) ∙ sym (no_streams (guests_made (k + 1)));
      even = even_adds p q (steps.Guest 8192) (replies.Number n) a m.even;
      quiet = λ g. last-adds g p q (steps.Guest 8192) (replies.Number n) a m.even ∙ m.quiet g;
    }

-- ## Streams

with_handles-memory : (guests : List Guest) (g : ℕ) (handles : Handles) (k : ℕ) → memory_in (with_handles guests g handles) k ≡ memory_in guests k
with_handles-memory guests g handles k = set-keeps (λ (h : Guest). h.memory) guests g k (record (guest_in guests g) { handles = handles }) no_guest refl

with_handles-many : (guests : List Guest) (g : ℕ) (handles : Handles) → length (with_handles guests g handles) ≡ length guests
with_handles-many guests g handles = length-set guests g (record (guest_in guests g) { handles = handles })

record PairIs (state next : State) (writer reader : ℕ) (pair : Pair) : Type 0 where
  streams : next.streams ≡ state.streams ++ made_stream bytes_type writer pair.write reader pair.read ∷ []
  many : length next.guests ≡ length state.guests
  memory : (k : ℕ) → memory_in next.guests k ≡ memory_in state.guests k

pair_is : (state next : State) (writer reader : ℕ) (pair : Pair) → IsPerformed state (Make (Between writer reader bytes_type)) (replies.Pair pair) next → PairIs state next writer reader pair
unfolding performs with_stream
pair_is state next writer reader pair p =
    let reply : replies.Pair (made_pair state writer reader bytes_type) ≡ replies.Pair pair = ap (λ (r : Reaction). r.reply) p.does in
    let same : made_pair state writer reader bytes_type ≡ pair = cc in
    let is : with_stream state writer reader bytes_type ≡ next = ap (λ (r : Reaction). r.state) p.does in
    let held = with_read_end state.guests reader bytes_type (length state.streams) in
    record {
      streams = sym (ap (λ (s : State). s.streams) is) ∙ ap (λ (x : Pair). state.streams ++ made_stream bytes_type writer x.write reader x.read ∷ []) same;
      many = sym (ap (λ (s : State). length s.guests) is) ∙ with_handles-many held writer _ ∙ with_handles-many state.guests reader _;
      memory = λ k. sym (ap (λ (s : State). memory_in s.guests k) is) ∙ with_handles-memory held writer _ k ∙ with_handles-memory state.guests reader _ k;
    }

pub pair_made : (p q : ChainPlay) (s there : ℕ) (pair : Pair) → s ≤ 8 → s + 1 < there → AreMade there s p → Adds p q (steps.Between s (s + 1) bytes_type) (replies.Pair pair) → MakesPair s p pair q
pair_made p q s there pair few more before a =
    let step = steps.Between s (s + 1) bytes_type in
    let does = performed p.state (act_of step) (replies.Pair pair) q.state a.reacts refl in
    let is = pair_is p.state q.state s (s + 1) pair does in
    let x = made_stream bytes_type s pair.write (s + 1) pair.read in
    record {
      made = λ guests m. record {
        guests_are = is.many ∙ m.guests_are;
        streams_are = ap length is.streams ∙ length_push p.state.streams x ∙ ap (λ i. i + 1) m.streams_are;
        room = λ g l. ap length (is.memory g) ∙ m.room g l;
        little = little_pair guests s p.state m.guests_are m.streams_are few (omega (arith, more, before.guests_are, m.guests_are)) m.little q.state pair does;
        steps_are = a.steps_are ∙ ap (λ xs. xs ++ step ∷ []) m.steps_are ∙ append_assoc (guests_made guests) (streams_made s) (step ∷ [])
            ∙ ap (λ xs. guests_made guests ++ xs) (sym (stream_more s));
        even = even_adds p q step (replies.Pair pair) a m.even;
        quiet = λ g. last-adds g p q step (replies.Pair pair) a m.even ∙ m.quiet g;
      };
      new = λ e. ap (λ xs. get_or xs s no_stream) is.streams ∙ at_push p.state.streams x no_stream s (λ y. y ≡ x) (λ f. refl) (λ ne. absurd (ne (sym e)));
      others = λ k l. ap (λ xs. get_or xs k no_stream) is.streams
          ∙ at_push p.state.streams x no_stream k (λ y. y ≡ stream_at p.state k) (λ e. absurd (omega (arith, e, l))) (λ ne. refl);
    }

-- ## One guest after the other

abbrev stage_of : Worker → Stage
stage_of w = w.work.stage

pushed_same : (ws : List Worker) (w : Worker) (k : ℕ) → k < length ws → worker_at (ws ++ w ∷ []) k ≡ worker_at ws k
pushed_same ws w k l = at_push ws w (new_worker Copy) k (λ y. y ≡ worker_at ws k) (λ e. absurd (omega (arith, e, l))) (λ ne. refl)

pushed_last : (ws : List Worker) (w : Worker) (k : ℕ) → k ≡ length ws → worker_at (ws ++ w ∷ []) k ≡ w
pushed_last ws w k e = at_push ws w (new_worker Copy) k (λ y. y ≡ w) (λ f. refl) (λ ne. absurd (ne e))

behind_push : (ws : List Worker) (w : Worker) → 0 < length ws → drop 1 (ws ++ w ∷ []) ≡ drop 1 ws ++ w ∷ []
behind_push [] w l = absurd (omega (arith, l))
behind_push (x ∷ ws) w l = refl

new_on : (p q : ChainPlay) (s write read : ℕ) → stream_at q.state s ≡ stream_at p.state s → IsNew p s write read → IsNew q s write read
new_on p q s write read e n = e ∙ n

-- the source
pub joined_first : (input : List ℕ) (stages : List Stage) (q : ChainPlay) (write read : ℕ) → IsNew q 0 write read → AreJoined input 0 read stages q (source_of input write ∷ [])
joined_first input stages q write read new = record {
  many = refl;
  stages_are = refl;
  source = (write, refl);
  writes = λ s l. let zero_is : 0 ≡ s = omega (arith, l) in
      subst (λ k. HasWrite k (worker_at (source_of input write ∷ []) k) q) zero_is (record { write = write; read = read; has = refl; new = new; rests = (refl, refl) });
  reads = λ s l. absurd (omega (arith, l));
  next = (write, new);
}

-- a guest of a stage
module _ (input : List ℕ) (i read : ℕ) (stages : List Stage) (stage : Stage) (p q : ChainPlay) (ws : List Worker)
    (w : Worker) (pair : Pair) (j : AreJoined input i read stages p ws) where
  pub joined_more : MakesPair (i + 1) p pair q → length p.state.streams ≡ i + 1 → i < length stages → stage ≡ get_or stages i Copy → w ≡ record (new_worker stage) { read = Some read; write = Some pair.write } → AreJoined input (i + 1) pair.read stages q (ws ++ w ∷ [])
  joined_more m count l at is =
      let all = ws ++ w ∷ [] in
      let carry : (s write read : ℕ) → s < i + 1 → IsNew p s write read → IsNew q s write read = λ s write read b. new_on p q s write read (m.others s (omega (arith, b, count))) in
      record {
        many = length_push ws w ∙ ap (λ n. n + 1) j.many;
        stages_are =
            ap (map stage_of) (behind_push ws w (omega (arith, j.many))) ∙ map_push stage_of (drop 1 ws) w
            ∙ ap (λ xs. xs ++ stage_of w ∷ []) j.stages_are ∙ ap (λ x. take i stages ++ x ∷ []) (ap stage_of is ∙ at) ∙ sym (take_more stages i Copy l);
        source = (j.source.0, pushed_same ws w 0 (omega (arith, j.many)) ∙ j.source.1);
        writes = λ s b. elim (cases_lt s (i + 1)) [
          | inl c ↦ (let h = j.writes s c in
              subst (λ v. HasWrite s v q) (sym (pushed_same ws w s (omega (arith, c, j.many))))
              (record { write = h.write; read = h.read; has = h.has; new = carry s h.write h.read c h.new; rests = h.rests }))
          | inr c ↦ (let e : i + 1 ≡ s = omega (arith, b, c) in
              subst (λ k. HasWrite k (worker_at all k) q) e
              (subst (λ v. HasWrite (i + 1) v q) (sym (pushed_last ws w (i + 1) (sym j.many)))
              (subst (λ v. HasWrite (i + 1) v q) (sym is) (record { write = pair.write; read = pair.read; has = refl; new = m.new count; rests = (refl, refl) }))))
        ];
        reads = λ s b. elim (cases_lt s i) [
          | inl c ↦ (let h = j.reads s c in
              subst (λ v. HasRead s v q) (sym (pushed_same ws w (s + 1) (omega (arith, c, j.many))))
              (record { write = h.write; read = h.read; has = h.has; new = carry s h.write h.read (omega (arith, c)) h.new; fresh = h.fresh }))
          | inr c ↦ (let e : i ≡ s = omega (arith, b, c) in
              subst (λ k. HasRead k (worker_at all (k + 1)) q) e
              (subst (λ v. HasRead i v q) (sym (pushed_last ws w (i + 1) (sym j.many)))
              (subst (λ v. HasRead i v q) (sym is) (record { write = j.next.0; read = read; has = refl; new = carry i j.next.0 read (omega arith) j.next.1; fresh = refl }))))
        ];
        next = (pair.write, m.new count);
      }

-- the sink
module _ (input : List ℕ) (read : ℕ) (stages : List Stage) (p : ChainPlay) (ws : List Worker) (w : Worker) where
  pub joined_last : AreJoined input (length stages) read stages p ws → AreMade (length stages + 2) (length stages + 1) p → w ≡ record (new_worker Copy) { read = Some read } → IsReady stages input p (ws ++ w ∷ [])
  joined_last j m is =
      let all = ws ++ w ∷ [] in
      let n = length stages in
      let many : length all ≡ n + 2 = length_push ws w ∙ ap (λ k. k + 1) j.many ∙ omega arith in
      let behind : length (drop 1 ws) ≡ n = sym (length-map (drop 1 ws) stage_of) ∙ ap length (j.stages_are ∙ take_all n stages (omega arith)) in
      record {
        many = many;
        stages_are =
            ap (λ k. map stage_of (take k (drop 1 all))) (let e : length all - 2 ≡ n = omega (arith, many) in e)
            ∙ ap (λ xs. map stage_of (take n xs)) (behind_push ws w (omega (arith, j.many)))
            ∙ ap (map stage_of) (front_push n (drop 1 ws) w behind)
            ∙ j.stages_are ∙ take_all n stages (omega arith);
        made = subst (λ k. AreMade k (n + 1) p) (sym many) m;
        source = (j.source.0, pushed_same ws w 0 (omega (arith, j.many)) ∙ j.source.1);
        writes = λ s l. subst (λ v. HasWrite s v p) (sym (pushed_same ws w s (omega (arith, l, j.many)))) (j.writes s l);
        reads = λ s l. elim (cases_lt s n) [
          | inl c ↦ subst (λ v. HasRead s v p) (sym (pushed_same ws w (s + 1) (omega (arith, c, j.many)))) (j.reads s c)
          | inr c ↦ (let e : n ≡ s = omega (arith, l, c) in
              subst (λ k. HasRead k (worker_at all (k + 1)) p) e
              (subst (λ v. HasRead n v p) (sym (pushed_last ws w (n + 1) (sym j.many)))
              (subst (λ v. HasRead n v p) (sym is) (record { write = j.next.0; read = read; has = refl; new = j.next.1; fresh = refl }))))
        ];
        sink = (read, pushed_last ws w (length all - 1) (omega (arith, many, j.many)) ∙ is);
      }
    where
      front_push : (n : ℕ) (xs : List Worker) (x : Worker) → length xs ≡ n → take n (xs ++ x ∷ []) ≡ xs
      front_push zero [] x e = refl
      front_push (suc n) [] x e = absurd (omega (arith, e))
      front_push zero (y ∷ xs) x e = absurd (omega (arith, e))
      front_push (suc n) (y ∷ xs) x e = ap (λ more. y ∷ more) (front_push n xs x (omega (arith, e)))

-- ## A chain that was made is joined

empty_got : (got : Items) → length got ≡ 0 → got ≡ []
empty_got [] e = refl
empty_got (x ∷ got) e = absurd (omega (arith, e))

pub ready_joined : (stages : List Stage) (input : List ℕ) (p : ChainPlay) (ws : List Worker) → IsReady stages input p ws → ((s : ℕ) → length (got_on p.steps s) ≡ received s p.state) → IsJoined p ws
ready_joined stages input p ws r counts = record {
  guests = omega (arith, r.made.guests_are);
  streams = omega (arith, r.made.streams_are, r.many);
  room = r.made.room;
  joins = λ s l.
      let w = worker_at ws s in
      let v = worker_at ws (s + 1) in
      let a = r.writes s (omega (arith, l, r.many)) in
      let b = r.reads s (omega (arith, l, r.many)) in
      let nothing : got_on p.steps s ≡ [] = empty_got (got_on p.steps s) (counts s ∙ ap (λ (x : Stream). x.received) a.new) in
      let write_none = ap (λ (x : Stream). x.writer.operation) a.new in
      let read_none = ap (λ (x : Stream). x.reader.operation) a.new in
      let made : v.made ≡ [] = ap (λ (x : Worker). x.made) b.fresh in
      record {
        typed = ap type_of a.new;
        writes = record {
          handle = a.write;
          has = a.has;
          owner = λ _. ap (λ (x : Stream). x.writer.owner) a.new;
          sends = rw (write_none, nothing, a.rests.0) (record { front = refl; within = omega arith; offers = tt });
          idle = λ _. write_none;
          busy = λ e. absurd (let wrong : Nothing ≡ Writing = sym a.rests.1 ∙ e in cc);
          gone = λ e. absurd (let wrong : Nothing ≡ Ended = sym a.rests.1 ∙ e in cc);
          untold = ap (λ (x : Stream). x.writer.told) a.new;
          over = λ e. absurd (let wrong : Nothing ≡ Ended = sym a.rests.1 ∙ e in cc);
        };
        reads = record {
          handle = b.read;
          has = b.has;
          owner = ap (λ (x : Stream). x.reader.owner) b.new;
          takes = rw (read_none, nothing) (record {
            taken = [];
            rest = [];
            split = refl;
            holds = refl;
            makes = made ∙ sym (work_done-none (work_begun v.work.stage));
            goes_on = ap (λ (x : Worker). x.work) b.fresh ∙ sym (work_left-none (work_begun v.work.stage));
          });
          idle = λ _. read_none;
          busy = λ e. absurd (let wrong : Nothing ≡ Reading = sym (ap (λ (x : Worker). x.doing) b.fresh) ∙ e in cc);
          unclosed = λ _. ap (λ (x : Worker). x.closed) b.fresh;
          untold = λ _. ap (λ (x : Stream). x.reader.told) b.new;
          plain = (rw write_none tt, rw read_none tt);
          gone = λ e. absurd (let wrong : false ≡ true = sym (ap (λ (x : Worker). x.closed) b.fresh) ∙ e in cc);
        };
      };
  source = (ap (λ (x : Worker). x.read) r.source.1, ap (λ (x : Worker). x.closed) r.source.1);
  unreading = λ e. let wrong : Nothing ≡ Reading = sym (ap (λ (x : Worker). x.doing) r.source.1) ∙ e in cc;
  sink = record {
    write = ap (λ (x : Worker). x.write) r.sink.1;
    copies = ap stage_of r.sink.1;
    ends = λ e. absurd (let wrong : Nothing ≡ Ended = sym (ap (λ (x : Worker). x.doing) r.sink.1) ∙ e in cc);
    ended = λ e. absurd (let wrong : false ≡ true = sym (ap (λ (x : Worker). x.closed) r.sink.1) ∙ e in cc);
    unwriting = λ e. let wrong : Nothing ≡ Writing = sym (ap (λ (x : Worker). x.doing) r.sink.1) ∙ e in cc;
  };
}

-- and its sink was told nothing
pub ready_untold : (stages : List Stage) (input : List ℕ) (p : ChainPlay) (ws : List Worker) → IsReady stages input p ws → is_told (length ws - 1) p.steps p.replies ≡ (sink_of ws).closed
ready_untold stages input p ws r =
    ap tells_end (r.made.quiet (length ws - 1)) ∙ sym (ap (λ (x : Worker). x.closed) r.sink.1)

-- ## The calls of the making

pub source_added : (input : List ℕ) (stages : List Stage) (guests : ℕ) (p q : ChainPlay) (pair : Pair) (ws : List Worker) → AreMade guests 0 p → MakesPair 0 p pair q → ws ≡ source_of input pair.write ∷ [] → AreJoined input 0 pair.read stages q ws × AreMade guests 1 q
source_added input stages guests p q pair ws m x e =
    (subst (AreJoined input 0 pair.read stages q) (sym e) (joined_first input stages q pair.write pair.read (x.new m.streams_are)), x.made guests m)

module _ (input : List ℕ) (stages : List Stage) (guests i s read : ℕ) (stage : Stage) (p q : ChainPlay) (pair : Pair)
    (ws new : List Worker) (l : i < length stages) (at : stage ≡ get_or stages i Copy) where
  pub stage_added : AreJoined input i read stages p ws → AreMade guests (i + 1) p → s ≡ length ws → MakesPair s p pair q → new ≡ ws ++ record (new_worker stage) { read = Some read; write = Some pair.write } ∷ [] → AreJoined input (i + 1) pair.read stages q new × AreMade guests (i + 2) q
  stage_added j m e x is =
      let y : MakesPair (i + 1) p pair q = subst (λ k. MakesPair k p pair q) (e ∙ j.many) x in
      let z : AreMade guests ((i + 1) + 1) q = y.made guests m in (
        subst (AreJoined input (i + 1) pair.read stages q) (sym is) (joined_more input i read stages stage p q ws _ pair j y m.streams_are l at refl),
        subst (λ k. AreMade guests k q) (omega arith) z,
      )

-- what the player answers
pub guest_ok : {E : Type 0} (r : Result ℕ E) (p q : ChainPlay) → IfOk r (λ number. Adds p q (steps.Guest 8192) (replies.Number number)) → (n : ℕ) → AreMade n 0 p → OnOk r (AreMade (n + 1) 0 q)
guest_ok (Ok number) p q a n m = guest_made p q number n a m
guest_ok (Err e) p q a n m = tt

pub pair_ok : {E : Type 0} (r : Result Pair E) (p q : ChainPlay) (s there : ℕ) → s ≤ 8 → s + 1 < there → AreMade there s p → IfOk r (λ pair. Adds p q (steps.Between s (s + 1) bytes_type) (replies.Pair pair)) → IfOk r (λ pair. MakesPair s p pair q)
pair_ok (Ok pair) p q s there few more m a = pair_made p q s there pair few more m a
pair_ok (Err e) p q s there few more m a = tt
