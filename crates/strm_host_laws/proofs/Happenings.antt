-- What a moment of a run is to each stream: to none it is anything, or to one, or one is made in it.
use Rattle.std.proofs.Common.{◌≡◌, ◌≢◌, ℕ, suc, ◌<◌, false, cond, List, [], ◌∷◌, ◌++◌, length, Option, refl, sym, ap, subst, ◌∙◌, inl, inr, arith, append-nil}
use Rattle.std.specs.Prelude.{◌&&◌}
use Rattle.std.proofs.lemmas.Bool.{cases_eq, ne_eqb}
use Rattle.strm_codes.specs.declared.codes.ReturnCode.{ReturnCode}
use Rattle.strm_buffers.specs.Listing.{Item}
use Rattle.strm_machine.specs.Moments.{names}
use Rattle.strm_machine.specs.State.{producer_at, kept_at}
use Rattle.strm_machine.specs.declared.streams.Owner.{Owner}
use Rattle.strm_machine.specs.declared.streams.Owner.TheVariants.{Held, Loose, Host, Gone}
use Rattle.strm_machine.specs.declared.streams.Producer.{Producer}
use Rattle.strm_machine.specs.declared.streams.Stream.{Stream}
use Rattle.strm_machine.specs.Sides.{same_side}
use Rattle.strm_machine.specs.declared.acts.Act.{Act}
use Rattle.strm_machine.specs.declared.replies.Reply.{Reply}
use Rattle.strm_machine.specs.declared.streams.Side.{Side}
use Rattle.strm_machine.specs.declared.streams.Side.TheVariants.{Writing, Reading}
use Rattle.strm_machine.proofs.NamedEndLemmas.{NamesEnd, named_itself}
use Rattle.strm_host_machine.specs.Courses.{StreamEvent, Course, Reached, reaches, fresh_course, is_answered, answers_of, course_by, codes_from}
use Rattle.strm_host_machine.specs.World.{World, stream_in, writer_at}
use Rattle.strm_host_laws.specs.HostMoments.{Part, Acts, HostMoment}
use Rattle.strm_host_laws.specs.Isolation.{StreamStaysWhole, LeavesOthers}
use Rattle.strm_host_laws.specs.StreamEvents.{polls_across, by_name, events_at, events_by_number, events_in, code_answered, answered_at, answered_in}
use Rattle.strm_host_laws.proofs.Tracing.{held_for, over_for, seen, course_of}
use Rattle.strm_host_laws.proofs.CourseRuns.{streams_in, GoesOnBySelf, BeginsBySelf, Waits, BySelf, course_after}

-- a part that went so
abbrev pub moment_at : World → Part → Reply → World → HostMoment
moment_at w part reply v = record { part = part; before = w; reply = reply; after = v }

-- it is nothing to stream k, of which nothing is answered
pub record Silent (k : ℕ) (m : HostMoment) : Type 0 where
  pub events : events_in k m ≡ []
  pub answers : answered_in k m ≡ []

-- no end of it is named, and its number is not
pub silent-of : (k : ℕ) (m : HostMoment) → ((side : Side) → events_at k side m ≡ []) → events_by_number k m m.part m.reply ≡ [] → ((side : Side) → answered_at k side m ≡ []) → Silent k m
silent-of k m e f a = record {
  events =
      ap (λ xs. xs ++ (events_at k Reading m ++ events_by_number k m m.part m.reply)) (e Writing)
      ∙ ap (λ xs. xs ++ events_by_number k m m.part m.reply) (e Reading)
      ∙ f;
  answers = ap (λ xs. xs ++ answered_at k Reading m) (a Writing) ∙ a Reading;
}

-- and the stream stays
abbrev pub Spares : ℕ → HostMoment → Type 0
Spares k m = Silent k m × StreamStaysWhole k m.before m.after

-- it is this event of stream s, which is answered so, and leads the stream where its course leads
pub record Happens (s : ℕ) (m : HostMoment) : Type 0 where
  pub event : StreamEvent
  pub code : Option ReturnCode
  pub events : events_in s m ≡ event ∷ []
  pub answers : answered_in s m ≡ cond (is_answered event) (code ∷ []) []
  pub course : course_by event (course_of s m.before) ≡ reaches code (course_of s m.after)

-- stream s is made in it
pub record IsMade (s : ℕ) (m : HostMoment) : Type 0 where
  pub answers : answered_in s m ≡ []
  pub unanswered : codes_from (fresh_course (stream_in m.after s).kind) (events_in s m) ≡ []
  pub course : course_of s m.after ≡ course_after (fresh_course (stream_in m.after s).kind) (events_in s m)

pub data Happening (m : HostMoment) : Type 0 where
  ToNone : ((k : ℕ) → Spares k m) → streams_in m.after ≡ streams_in m.before → Happening m
  ToOne : (s : ℕ) → s < streams_in m.before → Happens s m → ((k : ℕ) → k ≢ s → Spares k m) → streams_in m.after ≡ streams_in m.before → Happening m
  Makes : IsMade (streams_in m.before) m → ((k : ℕ) → k ≢ streams_in m.before → Spares k m) → streams_in m.after ≡ suc (streams_in m.before) → Happening m

-- ## Streams that stay

pub course-stays : (k : ℕ) (w v : World) → StreamStaysWhole k w v → course_of k v ≡ course_of k w
course-stays k w v h =
    ap (λ (x : Stream). seen x (held_for v x.writer.owner) (over_for v x.writer.owner)) h.stream
    ∙ by (stream_in w k).writer.owner refl
  where
    by : (o : Owner) → (stream_in w k).writer.owner ≡ o → seen (stream_in w k) (held_for v o) (over_for v o) ≡ seen (stream_in w k) (held_for w o) (over_for w o)
    by (Host n) e =
        let same = h.writer n e in
        ap (λ (p : Producer). seen (stream_in w k) (held_for v (Host n)) p.over) same.producer
        ∙ ap (λ (xs : List Item). seen (stream_in w k) (length (xs ++ (writer_at v n).holds)) (producer_at w.state n).over) same.kept
        ∙ ap (λ (xs : List Item). seen (stream_in w k) (length (kept_at w.state n ++ xs)) (producer_at w.state n).over) same.holds
    by (Held g handle) e = refl
    by Loose e = refl
    by Gone e = refl

-- ## What each moment is to each stream

module _ (m : HostMoment) (kinds : (k : ℕ) → k < streams_in m.before → (stream_in m.after k).kind ≡ (stream_in m.before k).kind) where
  spared : (k : ℕ) → k < streams_in m.before → k < streams_in m.after → Spares k m → GoesOnBySelf k m
  spared k l made h = record {
    answers = h.0.answers ∙ ap (codes_from (course_of k m.before)) (sym h.0.events);
    course = course-stays k m.before m.after h.1 ∙ ap (course_after (course_of k m.before)) (sym h.0.events);
    kind = kinds k l;
    made = made;
  }

  waits : (k : ℕ) → Spares k m → Waits k m
  waits k h = record { answers = h.0.answers; nothing = h.0.events }

  -- one event, answered or not
  answered-one : (event : StreamEvent) (course : Course) (to : Course) (code : Option ReturnCode) → course_by event course ≡ reaches code to → cond (is_answered event) (code ∷ []) [] ≡ codes_from course (event ∷ [])
  answered-one event course to code e =
      ap (λ (x : Reached). cond (is_answered event) (x.code ∷ []) []) (sym e) ∙ sym (append-nil (answers_of event course))

  happened : (s : ℕ) → s < streams_in m.before → s < streams_in m.after → Happens s m → GoesOnBySelf s m
  happened s l made h = record {
    answers =
        h.answers
        ∙ answered-one h.event (course_of s m.before) (course_of s m.after) h.code h.course
        ∙ ap (codes_from (course_of s m.before)) (sym h.events);
    course = sym (ap (λ (x : Reached). x.course) h.course) ∙ ap (course_after (course_of s m.before)) (sym h.events);
    kind = kinds s l;
    made = made;
  }

  pub happening-by_self : Happening m → (k : ℕ) → BySelf k m
  happening-by_self (ToNone h same) k = record {
    made = λ l. spared k l (omega (arith, l, same)) (h k);
    making = λ l n. absurd (omega (arith, l, n, same));
    unmade = λ l n. waits k (h k);
  }
  happening-by_self (ToOne s made h others same) k = elim (cases_eq k s) [
    | inl e ↦ subst (λ j. BySelf j m) (sym e) (record {
      made = λ l. happened s l (omega (arith, l, same)) h;
      making = λ l n. absurd (omega (arith, l, made));
      unmade = λ l n. absurd (omega (arith, l, made));
    })
    | inr ne ↦ record {
      made = λ l. spared k l (omega (arith, l, same)) (others k ne);
      making = λ l n. absurd (omega (arith, l, n, same));
      unmade = λ l n. waits k (others k ne);
    }
  ]
  happening-by_self (Makes h others same) k = elim (cases_eq k (streams_in m.before)) [
    | inl e ↦ record {
      made = λ l. absurd (omega (arith, l, e));
      making = λ l n. subst (λ j. BeginsBySelf j m) (sym e) (record { answers = h.answers; unanswered = h.unanswered; course = h.course });
      unmade = λ l n. absurd (omega (arith, n, e, same));
    }
    | inr ne ↦ record {
      made = λ l. spared k l (omega (arith, l, same)) (others k ne);
      making = λ l n. absurd (ne (omega (arith, l, n, same)));
      unmade = λ l n. waits k (others k ne);
    }
  ]

-- it leaves others
pub happening-leaves : (m : HostMoment) → Happening m → LeavesOthers m
happening-leaves m (ToNone h same) k l e = (h k).1
happening-leaves m (ToOne s made h others same) k l e = elim (cases_eq k s) [
  | inl f ↦ absurd (let wrong : h.event ∷ [] ≡ [] = sym h.events ∙ ap (λ j. events_in j m) (sym f) ∙ e in cc)
  | inr ne ↦ (others k ne).1
]
happening-leaves m (Makes h others same) k l e = (others k (λ f. absurd (omega (arith, l, f)))).1

-- ## Acts that name an end

module _ (w : World) (act : Act) (reply : Reply) (v : World) (s : ℕ) (side : Side) (named : NamesEnd w.state act reply s side) (free : (k : ℕ) → events_by_number k (moment_at w (Acts act) reply v) (Acts act) reply ≡ []) where
  abbrev m : HostMoment
  m = moment_at w (Acts act) reply v

  unnamed-events : (k : ℕ) (other : Side) → names k other w.state act reply ≡ false → events_at k other m ≡ []
  unnamed-events k other e = ap (λ b. cond b (by_name other act reply (polls_across k other m)) []) e

  unnamed-answers : (k : ℕ) (other : Side) → names k other w.state act reply ≡ false → answered_at k other m ≡ []
  unnamed-answers k other e = ap (λ b. cond b (code_answered reply) []) e

  -- other streams
  pub named-silent : (k : ℕ) → k ≢ s → Silent k m
  named-silent k ne =
      let off : (other : Side) → names k other w.state act reply ≡ false = λ other. named k other ∙ ap (λ b. b && same_side side other) (ne_eqb s k (λ e. ne (sym e))) in
      silent-of k m (λ other. unnamed-events k other (off other)) (free k) (λ other. unnamed-answers k other (off other))

  on-it : (other : Side) → names s other w.state act reply ≡ same_side side other
  on-it other = named_itself w.state act reply s side other named

  -- the stream itself
  pub named-events : events_in s m ≡ by_name side act reply (polls_across s side m)
  named-events = by side (λ other. on-it other)
    where
      by : (side : Side) → ((other : Side) → names s other w.state act reply ≡ same_side side other) → events_in s m ≡ by_name side act reply (polls_across s side m)
      by Writing on =
          ap (λ b. cond b (by_name Writing act reply (polls_across s Writing m)) [] ++ (events_at s Reading m ++ events_by_number s m (Acts act) reply)) (on Writing)
          ∙ ap (λ xs. by_name Writing act reply (polls_across s Writing m) ++ (xs ++ events_by_number s m (Acts act) reply)) (unnamed-events s Reading (on Reading))
          ∙ ap (λ xs. by_name Writing act reply (polls_across s Writing m) ++ xs) (free s)
          ∙ append-nil (by_name Writing act reply (polls_across s Writing m))
      by Reading on =
          ap (λ xs. xs ++ (events_at s Reading m ++ events_by_number s m (Acts act) reply)) (unnamed-events s Writing (on Writing))
          ∙ ap (λ b. cond b (by_name Reading act reply (polls_across s Reading m)) [] ++ events_by_number s m (Acts act) reply) (on Reading)
          ∙ ap (λ xs. by_name Reading act reply (polls_across s Reading m) ++ xs) (free s)
          ∙ append-nil (by_name Reading act reply (polls_across s Reading m))

  pub named-answers : answered_in s m ≡ code_answered reply
  named-answers = by side (λ other. on-it other)
    where
      by : (side : Side) → ((other : Side) → names s other w.state act reply ≡ same_side side other) → answered_in s m ≡ code_answered reply
      by Writing on =
          ap (λ b. cond b (code_answered reply) [] ++ answered_at s Reading m) (on Writing)
          ∙ ap (λ xs. code_answered reply ++ xs) (unnamed-answers s Reading (on Reading))
          ∙ append-nil (code_answered reply)
      by Reading on =
          ap (λ xs. xs ++ answered_at s Reading m) (unnamed-answers s Writing (on Writing))
          ∙ ap (λ b. cond b (code_answered reply) []) (on Reading)
