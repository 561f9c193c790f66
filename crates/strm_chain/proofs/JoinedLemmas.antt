-- A chain stays joined: what each step of a turn leaves of all links but those of its guest, and how the
-- links of a chain are put together again.
use Rattle.std.proofs.Common.{◌≡◌, ◌≢◌, ℕ, ◌+◌, ◌-◌, ◌<◌, ◌≤◌, true, false, List, ◌++◌, length, get_or, None, refl, sym, ap, ◌∙◌, subst, inl, inr, arith}
use Rattle.std.proofs.lemmas.Bool.{cases_eq}
use Rattle.std.proofs.lemmas.List.{append-nil}
use Rattle.strm_machine.specs.State.{State, memory_in, stream_at, no_stream, is_gone}
use Rattle.strm_machine.specs.Acts.{act_of}
use Rattle.strm_machine.specs.Soundness.{type_with, type_of}
use Rattle.strm_machine.specs.Reactions.{Reaction}
use Rattle.strm_machine.specs.Moments.{Moment, is_named}
use Rattle.strm_machine.specs.Untouched.{LiesApart, Region, put_by}
use Rattle.strm_machine.specs.Sides.{end_of}
use Rattle.strm_machine.specs.declared.streams.Side.{Side}
use Rattle.strm_machine.specs.declared.streams.Side.TheVariants.{Writing, Reading}
use Rattle.strm_machine.specs.declared.streams.Stream.{Stream}
use Rattle.strm_machine.specs.declared.steps.Step.{Step}
use Rattle.strm_machine.specs.declared.replies.Reply.{Reply}
use Rattle.strm_machine.proofs.StreamSteps.{StreamsStay, reaction_streams}
use Rattle.strm_machine.proofs.TableLemmas.{owner_in}
use Rattle.strm_chain.specs.declared.workers.Worker.{Worker}
use Rattle.strm_chain.specs.declared.workers.Doing.TheVariants.{Reading as Reads}
use Rattle.strm_chain.specs.Playing.{ChainPlay, Adds, bytes_type}
use Rattle.strm_chain.specs.Flowing.{got_on}
use Rattle.strm_chain.specs.Keeping.{worker_at, ArePlain, WritesOn, ReadsFrom, IsSink, IsJoined}
use Rattle.strm_chain.proofs.MomentLemmas.{moment_at, IsSeen}
use Rattle.strm_chain.proofs.RegionLemmas.{ReceivesLow}
use Rattle.strm_chain.proofs.AfterLemmas.{told_at, Steady, Forsaken}
use Rattle.strm_chain.proofs.StayLemmas.{low_unless, got_none, writes_stay, writes_idle, reads_stay}
use Rattle.strm_chain.proofs.NamingLemmas.{NamesOnly, unnamed_stream, unnamed_reader, unnamed_writer}

-- ## What a chain needs of a state apart from its links

pub record Frame (count : ℕ) (state : State) : Type 0 where
  pub guests : count ≤ length state.guests
  pub streams : length state.streams + 1 ≡ count
  pub room : (g : ℕ) → g < count → length (memory_in state.guests g) ≡ 8192
  pub typed : (s : ℕ) → s + 1 < count → type_of (stream_at state s) ≡ bytes_type

pub frame_of : (p : ChainPlay) (ws : List Worker) → IsJoined p ws → Frame (length ws) p.state
frame_of p ws j = record { guests = j.guests; streams = j.streams; room = j.room; typed = λ s l. (j.joins s l).typed }

same_type : (old new : Stream) → new.kind ≡ old.kind → new.payload ≡ old.payload → type_of new ≡ type_of old
same_type old new k p = ap (λ x. type_with x new.payload) k ∙ ap (type_with old.kind) p

pub frame_stays : (count : ℕ) (p q : ChainPlay) (step : Step) (reply : Reply) → Adds p q step reply → IsSeen (moment_at p q step reply) p.steps q.steps → length q.state.streams ≡ length p.state.streams → Frame count p.state → Frame count q.state
frame_stays count p q step reply a seen many f =
    let stay : StreamsStay p.state.streams q.state.streams = subst (λ (r : Reaction). StreamsStay p.state.streams r.state.streams) a.reacts (reaction_streams p.state (act_of step) seen.sound) in
    record {
      guests = omega (arith, f.guests, seen.aside.guests);
      streams = omega (arith, f.streams, many);
      room = λ g l. seen.aside.size g (omega (arith, l, f.guests)) ∙ f.room g l;
      typed = λ s l.
          same_type (stream_at p.state s) (stream_at q.state s) (stay.kind s (omega (arith, l, f.streams))) (stay.payload s (omega (arith, l, f.streams)))
          ∙ f.typed s l;
    }

-- ## What a step leaves of the links

-- the links that a step from p to q keeps, of streams of which this is said
pub record Passes (count : ℕ) (p q : ChainPlay) (writers readers : ℕ → Type 0) : Type 0 where
  pub frame : Frame count q.state
  pub writes : (s : ℕ) (w : Worker) → s + 1 < count → writers s → WritesOn s w p.state (got_on p.steps s) → WritesOn s w q.state (got_on q.steps s)
  pub reads : (s : ℕ) (w : Worker) → s + 1 < count → readers s → ReadsFrom s w p.state (got_on p.steps s) → ReadsFrom s w q.state (got_on q.steps s)

-- all streams, and all but one
abbrev pub Each : ℕ → Type 0
Each s = Unit {0}

abbrev pub But : ℕ → ℕ → Type 0
But other s = s ≢ other

-- a step that changes no state brings nothing
pub got_same : (p q : ChainPlay) (step : Step) (reply : Reply) (s : ℕ) → IsSeen (moment_at p q step reply) p.steps q.steps → q.state ≡ p.state → got_on q.steps s ≡ got_on p.steps s
got_same p q step reply s seen same =
    seen.got s ∙ ap (λ x. got_on p.steps s ++ x) (got_none s (moment_at p q step reply) (ap (λ (x : State). x.streams) same)) ∙ append-nil (got_on p.steps s)

-- so all links stay
pub same_passes : (count : ℕ) (p q : ChainPlay) (step : Step) (reply : Reply) → IsSeen (moment_at p q step reply) p.steps q.steps → q.state ≡ p.state → Frame count p.state → Passes count p q Each Each
same_passes count p q step reply seen same f =
    let got : (s : ℕ) → got_on q.steps s ≡ got_on p.steps s = λ s. got_same p q step reply s seen same in
    record {
      frame = subst (Frame count) (sym same) f;
      writes = λ s w l _ h. subst (WritesOn s w q.state) (sym (got s)) (subst (λ x. WritesOn s w x (got_on p.steps s)) (sym same) h);
      reads = λ s w l _ h. subst (ReadsFrom s w q.state) (sym (got s)) (subst (λ x. ReadsFrom s w x (got_on p.steps s)) (sym same) h);
    }

module _ (p q : ChainPlay) (ws : List Worker) (step : Step) (reply : Reply) (a : Adds p q step reply) (j : IsJoined p ws)
    (seen : IsSeen (moment_at p q step reply) p.steps q.steps) where
  abbrev m : Moment
  m = moment_at p q step reply

  there : (s : ℕ) → s < length ws → s < length p.state.guests
  there s l = omega (arith, l, j.guests)

  -- a step that puts no bytes into a memory, names one read end, and receives low on its stream
  pub reader_passes : (s : ℕ) → Steady s Reading p.state q.state → ((r : Region) → LiesApart r (put_by (act_of step) reply)) → NamesOnly m s Reading → ReceivesLow m s → Passes (length ws) p q Each (But s)
  reader_passes s steady put only here =
      let low : (t : ℕ) → ReceivesLow m t = λ t. elim (cases_eq t s) [
        | inl e ↦ subst (ReceivesLow m) (sym e) here
        | inr ne ↦ low_unless p ws m t refl j (seen.change t Reading) (unnamed_stream m s Reading t Reading only ne)
      ] in
      record {
        frame = frame_stays (length ws) p q step reply a seen steady.many (frame_of p ws j);
        writes = λ k w l _ h. writes_stay m k w _ _ (j.joins k l).typed (seen.change k Writing) (unnamed_writer m s k only) seen.aside (there k (omega (arith, l))) (λ c. put _) low
            (steady.owner k Writing) (steady.told k Writing (λ e f. cc)) (seen.got k) h;
        reads = λ k w l ne h. reads_stay m k w _ _ (j.joins k l).typed (seen.change k Reading) (unnamed_stream m s Reading k Reading only ne) seen.aside (there (k + 1) (omega (arith, l))) (λ c _. put _) low
            (steady.owner k Reading) (λ g. ap is_gone (steady.owner k Writing) ∙ g) (steady.plain k) (steady.told k Reading (λ e. absurd (ne e))) (seen.got k) h;
      }

  -- a step that puts no bytes into a memory, and names one write end
  pub writer_passes : (s : ℕ) → Steady s Writing p.state q.state → ((r : Region) → LiesApart r (put_by (act_of step) reply)) → NamesOnly m s Writing → Passes (length ws) p q (But s) Each
  writer_passes s steady put only =
      let low : (t : ℕ) → ReceivesLow m t = λ t. low_unless p ws m t refl j (seen.change t Reading) (unnamed_reader m s t only) in
      record {
        frame = frame_stays (length ws) p q step reply a seen steady.many (frame_of p ws j);
        writes = λ k w l ne h. writes_stay m k w _ _ (j.joins k l).typed (seen.change k Writing) (unnamed_stream m s Writing k Writing only ne) seen.aside (there k (omega (arith, l))) (λ c. put _) low
            (steady.owner k Writing) (steady.told k Writing (λ e. absurd (ne e))) (seen.got k) h;
        reads = λ k w l _ h. reads_stay m k w _ _ (j.joins k l).typed (seen.change k Reading) (unnamed_reader m s k only) seen.aside (there (k + 1) (omega (arith, l))) (λ c _. put _) low
            (steady.owner k Reading) (λ g. ap is_gone (steady.owner k Writing) ∙ g) (steady.plain k) (steady.told k Reading (λ e f. cc)) (seen.got k) h;
      }

  -- the drop of a write end
  gone_stays : (s k : ℕ) → Forsaken p.state q.state s → is_gone (stream_at p.state k).writer.owner ≡ true → is_gone (stream_at q.state k).writer.owner ≡ true
  gone_stays s k f g =
      elim (cases_eq k s) [
        | inl e ↦ ap (λ n. is_gone (owner_in q.state.streams n Writing)) e ∙ ap is_gone f.gone
        | inr ne ↦ ap is_gone (f.others k ne) ∙ g
      ]

  pub drop_passes : (s : ℕ) → Forsaken p.state q.state s → ((r : Region) → LiesApart r (put_by (act_of step) reply)) → NamesOnly m s Writing → Passes (length ws) p q (But s) Each
  drop_passes s f put only =
      let low : (t : ℕ) → ReceivesLow m t = λ t. low_unless p ws m t refl j (seen.change t Reading) (unnamed_reader m s t only) in
      record {
        frame = frame_stays (length ws) p q step reply a seen f.many (frame_of p ws j);
        writes = λ k w l ne h. writes_stay m k w _ _ (j.joins k l).typed (seen.change k Writing) (unnamed_stream m s Writing k Writing only ne) seen.aside (there k (omega (arith, l))) (λ c. put _) low
            (f.others k ne) (f.told k Writing) (seen.got k) h;
        reads = λ k w l _ h. reads_stay m k w _ _ (j.joins k l).typed (seen.change k Reading) (unnamed_reader m s k only) seen.aside (there (k + 1) (omega (arith, l))) (λ c _. put _) low
            (f.readers k) (gone_stays s k f) (f.plain k) (f.told k Reading) (seen.got k) h;
      }

  -- a poke of guest g from byte 64 of its memory on, where it has no write that waits
  module _ (g : ℕ) (same : q.state.streams ≡ p.state.streams) where
    pub poke_passes : ((k : ℕ) (side : Side) → is_named k side m ≡ false) → ((r : Region) → (r.place.guest ≡ g → 0 < r.size → r.place.address + r.size ≤ 64) → LiesApart r (put_by (act_of step) reply)) → (stream_at p.state g).writer.operation ≡ None → Passes (length ws) p q Each Each
    poke_passes none put idle =
        let low : (t : ℕ) → ReceivesLow m t = λ t. low_unless p ws m t refl j (seen.change t Reading) (none t Reading) in
        let told : (k : ℕ) (side : Side) → told_at q.state k side ≡ told_at p.state k side = λ k side. ap (λ xs. (end_of side (get_or xs k no_stream)).told) same in
        let owner : (k : ℕ) (side : Side) → owner_in q.state.streams k side ≡ owner_in p.state.streams k side = λ k side. ap (λ xs. owner_in xs k side) same in
        record {
          frame = frame_stays (length ws) p q step reply a seen (ap length same) (frame_of p ws j);
          writes = λ k w l _ h. elim (cases_eq k g) [
            | inl e ↦ writes_idle m k w _ _ (seen.change k Writing) (none k Writing) (ap (λ n. (stream_at p.state n).writer.operation) e ∙ idle) (owner k Writing) (told k Writing) (seen.got k) h
            | inr ne ↦ writes_stay m k w _ _ (j.joins k l).typed (seen.change k Writing) (none k Writing) seen.aside (there k (omega (arith, l))) (λ c. put _ (λ e some. absurd (ne e))) low
                (owner k Writing) (told k Writing) (seen.got k) h
          ];
          reads = λ k w l _ h. reads_stay m k w _ _ (j.joins k l).typed (seen.change k Reading) (none k Reading) seen.aside (there (k + 1) (omega (arith, l))) (λ c few. put _ (λ e some. omega (arith, few))) low
              (owner k Reading) (λ x. ap is_gone (owner k Writing) ∙ x) (λ x. subst (λ xs. ArePlain (get_or xs k no_stream)) (sym same) x) (told k Reading) (seen.got k) h;
        }

-- of fewer streams
pub fewer : (count : ℕ) (p q : ChainPlay) (W R V S : ℕ → Type 0) → Passes count p q W R → ((s : ℕ) → V s → W s) → ((s : ℕ) → S s → R s) → Passes count p q V S
fewer count p q W R V S x f h = record {
  frame = x.frame;
  writes = λ s w l v. x.writes s w l (f s v);
  reads = λ s w l v. x.reads s w l (h s v);
}

-- one step after the other
pub both_pass : (count : ℕ) (p q r : ChainPlay) (W R : ℕ → Type 0) → Passes count p q W R → Passes count q r W R → Passes count p r W R
both_pass count p q r W R x y = record {
  frame = y.frame;
  writes = λ s w l v h. y.writes s w l v (x.writes s w l v h);
  reads = λ s w l v h. y.reads s w l v (x.reads s w l v h);
}

-- no step
pub none_pass : (count : ℕ) (p : ChainPlay) → Frame count p.state → Passes count p p Each Each
none_pass count p f = record { frame = f; writes = λ s w l _ h. h; reads = λ s w l _ h. h }

-- ## A chain with one guest changed

-- what a turn leaves of its guest's part in the chain
pub record SamePart (w w' : Worker) : Type 0 where
  pub read : w'.read ≡ w.read
  pub write : w'.write ≡ w.write
  pub stage : w'.work.stage ≡ w.work.stage
  pub source : w.read ≡ None → (w'.closed ≡ w.closed) × (w'.made ≡ w.made)
  pub unreading : w.read ≡ None → w.doing ≢ Reads → w'.doing ≢ Reads
  pub sink : IsSink w → IsSink w'

-- one guest of a list is another, and all others are as they were
pub record OneChanged (g : ℕ) (ws ws' : List Worker) : Type 0 where
  pub many : length ws' ≡ length ws
  pub others : (k : ℕ) → k ≢ g → worker_at ws' k ≡ worker_at ws k

-- a property of the guest of a number, where it holds of that one before and after
pub either : (P : Worker → Worker → Type 0) (g : ℕ) (ws ws' : List Worker) (k : ℕ) → OneChanged g ws ws' → ((w : Worker) → P w w) → P (worker_at ws g) (worker_at ws' g) → P (worker_at ws k) (worker_at ws' k)
either P g ws ws' k one same changed =
    elim (cases_eq k g) [
      | inl e ↦ subst (λ n. P (worker_at ws n) (worker_at ws' n)) (sym e) changed
      | inr ne ↦ subst (P (worker_at ws k)) (sym (one.others k ne)) (same (worker_at ws k))
    ]

pub same_part : (w w' : Worker) → w' ≡ w → SamePart w w'
same_part w w' e = subst (SamePart w) (sym e) (record { read = refl; write = refl; stage = refl; source = λ _. (refl, refl); unreading = λ _ ne. ne; sink = λ x. x })

module _ (p q : ChainPlay) (ws ws' : List Worker) (g : ℕ) (j : IsJoined p ws) (one : OneChanged g ws ws') (part : SamePart (worker_at ws g) (worker_at ws' g)) where
  pub joined_again : Passes (length ws) p q (But g) (λ s. s + 1 ≢ g) → (g + 1 < length ws → WritesOn g (worker_at ws' g) q.state (got_on q.steps g)) → ((s : ℕ) → s + 1 < length ws → s + 1 ≡ g → ReadsFrom s (worker_at ws' g) q.state (got_on q.steps s)) → IsJoined q ws'
  joined_again passes writes reads = record {
    guests = omega (arith, one.many, passes.frame.guests);
    streams = passes.frame.streams ∙ sym one.many;
    room = λ k l. passes.frame.room k (omega (arith, l, one.many));
    joins = λ s l.
        let there : s + 1 < length ws = omega (arith, l, one.many) in
        let at = j.joins s there in
        record {
          typed = passes.frame.typed s there;
          writes = elim (cases_eq s g) [
            | inl e ↦ subst (λ n. WritesOn n (worker_at ws' n) q.state (got_on q.steps n)) (sym e) (writes (subst (λ n. n + 1 < length ws) e there))
            | inr ne ↦ subst (λ w. WritesOn s w q.state (got_on q.steps s)) (sym (one.others s ne)) (passes.writes s (worker_at ws s) there ne at.writes)
          ];
          reads = elim (cases_eq (s + 1) g) [
            | inl e ↦ subst (λ n. ReadsFrom s (worker_at ws' n) q.state (got_on q.steps s)) (sym e) (reads s there e)
            | inr ne ↦ subst (λ w. ReadsFrom s w q.state (got_on q.steps s)) (sym (one.others (s + 1) ne)) (passes.reads s (worker_at ws (s + 1)) there ne at.reads)
          ];
        };
    source = either (λ w w'. (w.read ≡ None) × (w.closed ≡ true) → (w'.read ≡ None) × (w'.closed ≡ true)) g ws ws' 0 one (λ w x. x)
        (λ x. (part.read ∙ x.0, (part.source x.0).0 ∙ x.1)) j.source;
    unreading = either (λ w w'. (w.read ≡ None) × (w.doing ≢ Reads) → w'.doing ≢ Reads) g ws ws' 0 one (λ w x. x.1)
        (λ x. part.unreading x.0 x.1) (j.source.0, j.unreading);
    sink = subst (λ n. IsSink (worker_at ws' (n - 1))) (sym one.many)
        (either (λ w w'. IsSink w → IsSink w') g ws ws' (length ws - 1) one (λ w x. x) part.sink j.sink);
  }

-- and where its guest is as it was too
pub joined_same : (p q : ChainPlay) (ws ws' : List Worker) (g : ℕ) → IsJoined p ws → OneChanged g ws ws' → worker_at ws' g ≡ worker_at ws g → Passes (length ws) p q Each Each → IsJoined q ws'
joined_same p q ws ws' g j one e x =
    joined_again p q ws ws' g j one (same_part (worker_at ws g) (worker_at ws' g) e)
    (fewer (length ws) p q Each Each (But g) (λ s. s + 1 ≢ g) x (λ s _. tt) (λ s _. tt))
    (λ l. subst (λ w. WritesOn g w q.state (got_on q.steps g)) (sym e) (x.writes g (worker_at ws g) l tt (j.joins g l).writes))
    (λ s l f. subst (λ w. ReadsFrom s w q.state (got_on q.steps s)) (sym e)
    (x.reads s (worker_at ws g) l tt (subst (λ n. ReadsFrom s (worker_at ws n) p.state (got_on p.steps s)) f (j.joins s l).reads)))

pub unchanged : (g : ℕ) (ws : List Worker) → OneChanged g ws ws
unchanged g ws = record { many = refl; others = λ k _. refl }
