-- What the program does, put together.
use Rattle.std.proofs.Common.{◌≡◌, ◌⊎◌, inl, inr, ℕ, ◌<◌, ◌≤◌, List, length, map, Option, Result, Ok, Err, IfSome, refl, sym, ap, ◌∙◌, subst, arith}
use Rattle.std.specs.Prelude.{MatchResult, IfOk, IsOkAnd}
use Rattle.strm_buffers.specs.Tells.{WriterTells, ReaderTells, Tells}
use Rattle.strm_codes.specs.Counters.{Rose}
use Rattle.strm_tape.specs.Spelling.{TapeOf, IsTape, tape_spelling}
use Rattle.strm_tape_runs.proofs.RunLemmas.{hosts_stay}
use Rattle.strm_tape_program.specs.Reading.{IsReadable, most_bytes}
use Rattle.strm_program_hosts.specs.HostEnds.{writers, readers, host_ends}
use Rattle.tape.specs.HostEnds.{following, following_reader, followers}
use Rattle.strm_input_output.specs.Serving.{Port, ReadsWithin, Writes}
use Rattle.strm_tape_program.specs.Modes.{Names, NamesNone}
use Rattle.strm_tape_program.specs.declared.modes.Mode.TheVariants.{Take, Play}
use Rattle.tape.specs.Outcomes.{TakesAmong, TakesScript, ShowsAmong, Plays, ReadsTape, PlaysRead, TellsUsage, Answers}
use Rattle.tape.specs.declared.Shown.{Shown}
use Rattle.tape.specs.declared.Shown.TheVariants.{Replies, Picture}

-- what host ends tell, by the lists of it
tells_are : (tells : Tells) (ws : List WriterTells) (rs : List ReaderTells) → tells.writers ≡ ws → tells.readers ≡ rs → tells ≡ record { writers = ws; readers = rs }
tells_are tells ws rs e f =
    ap (λ (xs : List WriterTells). record { writers = xs; readers = tells.readers }) e
    ∙ ap (λ (ys : List ReaderTells). record { writers = ws; readers = ys }) f

-- of host ends that told this before and tell that after, and by the status that is handed on
module _ (ends after : Tells) (status code : ℕ) (same : code ≡ status) where
  -- what is taken among host ends that tell what the program's do
  pub takes_among : (source source_after sink sink_after : Port) → ends.writers ≡ writers → ends.readers ≡ readers → TakesAmong ends after source source_after sink sink_after status → TakesAmong host_ends after source source_after sink sink_after code
  takes_among source source_after sink sink_after ws rs takes =
      subst (λ (n : ℕ). TakesAmong host_ends after source source_after sink sink_after n) (sym same)
      (subst (λ (t : Tells). TakesAmong t after source source_after sink sink_after status) (tells_are ends writers readers ws rs) takes)

  -- what is shown among host ends that tell what those do that follow the tape
  module _ (shown : Shown) (tape : TapeOf) (sink sink_after : Port) where
    -- this was shown among such host ends
    abbrev pub Among : Shown → Tells → ℕ → Type 0
    Among kind before n = ShowsAmong kind before after tape sink sink_after n

    pub shows_among : (kind : Shown) → shown ≡ kind → ends.writers ≡ map following tape.writers → ends.readers ≡ map following_reader tape.readers → Among kind ends status → Among shown (followers tape) code
    shows_among kind is ws rs shows =
        subst (λ (s : Shown). Among s (followers tape) code) (sym is)
        (subst (λ (n : ℕ). Among kind (followers tape) n) (sym same)
        (subst (λ (t : Tells). Among kind t status) (tells_are ends (map following tape.writers) (map following_reader tape.readers) ws rs) shows))

-- nothing was written for running out of memory
writes_none : {P : ℕ → List ℕ → Type 0} (sink after : Port) (code : ℕ) → code ≡ 9 → Writes P sink after code
writes_none sink after code e = record {
  told = λ p q. absurd (q e);
  part = λ f. absurd (omega (arith, e, f));
  write_fault = λ f. absurd (omega (arith, e, f));
}

-- of a tape for whose host ends memory had run out
pub plays_out_of_memory : (shown : Shown) (tape : TapeOf) (sink after : Port) (code : ℕ) → code ≡ 9 → Plays shown tape sink after code
plays_out_of_memory Replies tape sink after code e = (
  followers tape,
  record {
    known = inr (omega (arith, e), omega (arith, e));
    writes = writes_none sink after code e;
    goes_on = hosts_stay (followers tape);
    complete = λ end same plays calm. inr e;
    differs = λ other calm. inr e;
    out_of_memory = λ f. inl refl;
  },
)
plays_out_of_memory Picture tape sink after code e = (
  followers tape,
  record {
    known = inr (omega (arith, e), omega (arith, e));
    writes = writes_none sink after code e;
  },
)

-- what was answered well is no error
pub no_error : {A : Type 0} (answer : Result A ℕ) (x : A) (n m : ℕ) → answer ≡ Ok x → (answer ≡ Err n) ⊎ (answer ≡ Err m) → ⊥
no_error answer x n m is (inl e) = cc
no_error answer x n m is (inr e) = cc

-- of an error, which it is
pub of_error : {A : Type 0} (answer : Result A ℕ) (status n m : ℕ) → answer ≡ Err status → (answer ≡ Err n) ⊎ (answer ≡ Err m) → (status ≡ n) ⊎ (status ≡ m)
of_error answer status n m is (inl e) = inl cc
of_error answer status n m is (inr e) = inr cc

-- of a tape or an error that was answered, which it is
pub tape_read : (answer : Result TapeOf ℕ) (tape found : TapeOf) → answer ≡ Ok found → MatchResult answer (λ x. x ≡ tape) (λ status. status ≡ 9) → found ≡ tape
tape_read answer tape found is = subst (λ (r : Result TapeOf ℕ). MatchResult r (λ x. x ≡ tape) (λ status. status ≡ 9)) is

pub error_read : (answer : Result TapeOf ℕ) (tape : TapeOf) (why : ℕ) → answer ≡ Err why → MatchResult answer (λ x. x ≡ tape) (λ status. status ≡ 9) → why ≡ 9
error_read answer tape why is = subst (λ (r : Result TapeOf ℕ). MatchResult r (λ x. x ≡ tape) (λ status. status ≡ 9)) is

-- a tape that was read and played
module _ (shown : Shown) (source source_after : Port) where
  -- the bytes that the source has left are these, and they are readable
  abbrev pub Has : List ℕ → Type 0
  Has bytes = IsReadable source.bytes source.faults source_after.faults bytes

  -- no other tape has them as its spelling
  abbrev pub IsOnly : TapeOf → Type 0
  IsOnly tape = (t : TapeOf) → IsTape t → Has (tape_spelling t) → length (tape_spelling t) ≤ most_bytes → tape ≡ t

  -- they are not too many, but for faults of a sink
  abbrev pub IsWithin : Port → Port → Type 0
  IsWithin sink sink_after = (bytes : List ℕ) → Has bytes → most_bytes < length bytes → ¬ Rose sink.faults sink_after.faults → ⊥

  pub plays_read : (tape : TapeOf) (sink mid after : Port) (code : ℕ) → mid ≡ sink → ReadsTape tape source source_after → ReadsWithin most_bytes source.bytes source_after.bytes → IsOnly tape → IsWithin sink mid → Plays shown tape mid after code → PlaysRead shown source source_after sink after code
  plays_read tape sink mid after status quiet reads read only within plays =
      let here = subst (λ (port : Port). Plays shown tape port after status) quiet plays in
      record {
        played = inl (tape, reads, here);
        read = read;
        complete = λ t is few has. inl (subst (λ (x : TapeOf). Plays shown x sink after status) (only t is has few) here);
        too_long = λ bytes many has room calm.
            absurd (within bytes has many (subst (λ (port : Port). ¬ Rose sink.faults port.faults) (sym quiet) room));
        not_a_tape = λ bytes few other has calm.
            absurd (other (tape, reads.is_tape, subst (λ (left : Option (List ℕ)). IfSome left (λ b. tape_spelling tape ≡ b)) has.left_is reads.spelled));
      }

  -- the same by the status that is handed on
  pub plays_same : (sink sink_after : Port) (status code : ℕ) → code ≡ status → PlaysRead shown source source_after sink sink_after status → PlaysRead shown source source_after sink sink_after code
  plays_same sink sink_after status code e = subst (λ (n : ℕ). PlaysRead shown source source_after sink sink_after n) (sym e)

-- what is done for words of each kind, put together
module _ {A E : Type 0} (status : A → ℕ) (words : List (List ℕ)) (source source_after sink sink_after : Port) where
  -- a status that is answered is one of these
  abbrev pub Ends : Result A E → (Port → Port → Port → Port → ℕ → Type 0) → Type 0
  Ends result to = IfOk result (λ code. to source source_after sink sink_after (status code))

  -- how to call the program is told
  abbrev pub EndsUsage : Result A E → Type 0
  EndsUsage result = IsOkAnd result (λ code. TellsUsage sink sink_after (status code))

  pub answers_all : (result : Result A E) → (Names words Take → Ends result TakesScript) → (Names words Play → Ends result (PlaysRead Replies)) → (NamesNone words → EndsUsage result) → (NamesNone words → source_after ≡ source) → Ends result (Answers words)
  answers_all (Ok code) takes plays usage unread = record { takes = takes; plays = plays; usage = usage; unread = unread }
  answers_all (Err error) takes plays usage unread = tt
