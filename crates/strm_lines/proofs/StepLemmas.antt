-- A line is read as a step exactly where it spells it.
use Rattle.std.proofs.Common.{◌≡◌, [], ◌∙◌, ℕ, List, ◌∷◌, ◌++◌, Option, Some, None, refl, ap}
use Rattle.std.specs.Option.{option_map_or}
use Rattle.std.proofs.lemmas.Option.{none-some}
use Rattle.strm_machine.specs.declared.steps.Step.{Step}
use Rattle.strm_machine.specs.declared.steps.Step.TheVariants.{Guest, New, Between, Write, Read, DropWrite, DropRead, CancelWrite, CancelRead, Move, Lift, Lower, Close, HostNew, Feed, Pipe, Grant, Drive, Event, SetNew, SetJoin, SetPoll, SetDrop, ErrNew, ErrText, ErrMove, ErrDrop, Poke, Dump}
use Rattle.strm_lines.specs.Grammar.{Argument, line_of, spelling, HasLine}
use Rattle.strm_lines.specs.Reading.{Command, command, behind, read_by, explaining, gathering, hosting, moving, ending, pairing, opening, making, touching, often, step_of}
use Rattle.strm_lines.proofs.CutLemmas.{option_map_some}
use Rattle.strm_lines.proofs.ReadingLemmas.{behind_sound}
use Rattle.strm_lines.proofs.ArgumentLemmas.{text, AreArguments, AreArguments-from_all, All-from_arguments, AreRead, AreRead-nothing, AreRead-number, AreRead-two_numbers, AreRead-three_numbers, AreRead-number_and_type, AreRead-two_numbers_and_type, AreRead-named_end, AreRead-end_and_guest, AreRead-operands, AreRead-number_and_fed, AreRead-place_and_bytes, AreRead-place_and_len}

-- what is read is the step that is spelled

-- each step that a command reads has the line that was read
record IsSound (c : Command) : Type 0 where
  sound : (rest : List ℕ) (s : Step) → c.read rest ≡ Some s → (spelling s ≡ c.front ++ rest) × HasLine s

-- where its arguments are read so, and are those of the step that they make
module _ {V : Type 0} {read : List ℕ → Option V} {arguments : V → List Argument} where
  made : (front : List ℕ) (make : V → Step) → AreRead read arguments → ((v : V) → spelling (make v) ≡ front ++ text (arguments v)) → ((v : V) → arguments v ≡ (line_of (make v)).arguments) → IsSound (command front read make)
  made front make r spelled same = record {
    sound = λ rest s e.
        option_map_some make (read rest) s e (λ v f g.
        let one = r.reading.sound rest v f in
        rw (← g) (spelled v ∙ ap (λ w. front ++ w) one.0, All-from_arguments (line_of (make v)).arguments (rw (same v) at one.1)));
  }

abbrev AreSound : List Command → Type 0
AreSound [] = Unit {0}
AreSound (c ∷ commands) = IsSound c × AreSound commands

explaining_sound : AreSound explaining
unfolding explaining
explaining_sound = (
  made _ _ AreRead-two_numbers (λ v. refl) (λ v. refl),
  (
    made _ _ AreRead-three_numbers (λ v. refl) (λ v. refl),
    (
      made _ _ AreRead-three_numbers (λ v. refl) (λ v. refl),
      (made _ _ AreRead-three_numbers (λ v. refl) (λ v. refl), tt),
    ),
  ),
)

gathering_sound : AreSound gathering
unfolding gathering
gathering_sound = (
  made _ _ AreRead-two_numbers (λ v. refl) (λ v. refl),
  (
    made _ _ AreRead-three_numbers (λ v. refl) (λ v. refl),
    (
      made _ _ AreRead-number (λ v. refl) (λ v. refl),
      (made _ _ AreRead-two_numbers (λ v. refl) (λ v. refl), explaining_sound),
    ),
  ),
)

hosting_sound : AreSound hosting
unfolding hosting
hosting_sound = (
  made _ _ AreRead-number (λ v. refl) (λ v. refl),
  (
    made _ _ AreRead-number_and_fed (λ v. refl) (λ v. refl),
    (
      made _ _ AreRead-two_numbers (λ v. refl) (λ v. refl),
      (
        made _ _ AreRead-two_numbers (λ v. refl) (λ v. refl),
        (made _ _ AreRead-nothing (λ v. refl) (λ v. refl), gathering_sound),
      ),
    ),
  ),
)

moving_sound : AreSound moving
unfolding moving
moving_sound = (
  made _ _ AreRead-end_and_guest (λ v. refl) (λ v. refl),
  (
    made _ _ AreRead-named_end (λ v. refl) (λ v. refl),
    (made _ _ AreRead-two_numbers_and_type (λ v. refl) (λ v. refl), hosting_sound),
  ),
)

ending_sound : AreSound ending
unfolding ending
ending_sound = (
  made _ _ AreRead-named_end (λ v. refl) (λ v. refl),
  (
    made _ _ AreRead-named_end (λ v. refl) (λ v. refl),
    (
      made _ _ AreRead-named_end (λ v. refl) (λ v. refl),
      (
        made _ _ AreRead-named_end (λ v. refl) (λ v. refl),
        (made _ _ AreRead-number (λ v. refl) (λ v. refl), moving_sound),
      ),
    ),
  ),
)

pairing_sound : AreSound pairing
unfolding pairing
pairing_sound = (made _ _ AreRead-two_numbers_and_type (λ v. refl) (λ v. refl), ending_sound)

opening_sound : AreSound opening
unfolding opening
opening_sound = (made _ _ AreRead-number_and_type (λ v. refl) (λ v. refl), pairing_sound)

making_sound : AreSound making
unfolding making
making_sound = (made _ _ AreRead-number (λ v. refl) (λ v. refl), opening_sound)

touching_sound : AreSound touching
unfolding touching
touching_sound = (
  made _ _ AreRead-place_and_bytes (λ v. refl) (λ v. refl),
  (made _ _ AreRead-place_and_len (λ v. refl) (λ v. refl), making_sound),
)

often_sound : AreSound often
unfolding often
often_sound = (
  made _ _ AreRead-operands (λ v. refl) (λ v. refl),
  (
    made _ _ AreRead-operands (λ v. refl) (λ v. refl),
    (made _ _ AreRead-two_numbers (λ v. refl) (λ v. refl), touching_sound),
  ),
)

-- by the first command that a line begins with
read_by_sound : (commands : List Command) (line : List ℕ) (s : Step) → AreSound commands → read_by commands line ≡ Some s → (spelling s ≡ line) × HasLine s
read_by_sound [] line s h e = absurd (none-some s e)
read_by_sound (c ∷ commands) line s h e = by_front (behind c.front line) refl (read_by_sound commands line s h.1) e
  where
    by_front : (o : Option (List ℕ)) → behind c.front line ≡ o → (read_by commands line ≡ Some s → (spelling s ≡ line) × HasLine s) → option_map_or c.read o (read_by commands line) ≡ Some s → (spelling s ≡ line) × HasLine s
    by_front None f others e = others e
    by_front (Some rest) f others e = rw (behind_sound c.front line rest f) (h.0.sound rest s e)

pub step_sound : (line : List ℕ) (s : Step) → step_of line ≡ Some s → (spelling s ≡ line) × HasLine s
unfolding step_of
step_sound line s e = read_by_sound often line s often_sound e

-- what is spelled is read as the step

step_read : (s : Step) → AreArguments (line_of s).arguments → step_of (spelling s) ≡ Some s
unfolding step_of behind often touching making opening pairing ending moving hosting gathering explaining
step_read (Guest size) h = rw (AreRead-number.reading.complete size h) refl
step_read (New guest ty) h = rw (AreRead-number_and_type.reading.complete (guest, ty) h) refl
step_read (Between writer reader ty) h = rw (AreRead-two_numbers_and_type.reading.complete (writer, reader, ty) h) refl
step_read (Write guest ty handle address count) h = rw (AreRead-operands.reading.complete (record { guest = guest; ty = ty; handle = handle }, address, count) h) refl
step_read (Read guest ty handle address count) h = rw (AreRead-operands.reading.complete (record { guest = guest; ty = ty; handle = handle }, address, count) h) refl
step_read (DropWrite guest ty handle) h = rw (AreRead-named_end.reading.complete (record { guest = guest; ty = ty; handle = handle }) h) refl
step_read (DropRead guest ty handle) h = rw (AreRead-named_end.reading.complete (record { guest = guest; ty = ty; handle = handle }) h) refl
step_read (CancelWrite guest ty handle) h = rw (AreRead-named_end.reading.complete (record { guest = guest; ty = ty; handle = handle }) h) refl
step_read (CancelRead guest ty handle) h = rw (AreRead-named_end.reading.complete (record { guest = guest; ty = ty; handle = handle }) h) refl
step_read (Move guest ty handle to) h = rw (AreRead-end_and_guest.reading.complete (record { guest = guest; ty = ty; handle = handle }, to) h) refl
step_read (Lift guest ty handle) h = rw (AreRead-named_end.reading.complete (record { guest = guest; ty = ty; handle = handle }) h) refl
step_read (Lower reader guest ty) h = rw (AreRead-two_numbers_and_type.reading.complete (reader, guest, ty) h) refl
step_read (Close reader) h = rw (AreRead-number.reading.complete reader h) refl
step_read (HostNew host) h = rw (AreRead-number.reading.complete host h) refl
step_read (Feed host bytes) h = rw (AreRead-number_and_fed.reading.complete (host, bytes) h) refl
step_read (Pipe reader host) h = rw (AreRead-two_numbers.reading.complete (reader, host) h) refl
step_read (Grant host count) h = rw (AreRead-two_numbers.reading.complete (host, count) h) refl
step_read Drive h = rw (AreRead-nothing.reading.complete tt h) refl
step_read (Event guest handle) h = rw (AreRead-two_numbers.reading.complete (guest, handle) h) refl
step_read (SetNew guest) h = rw (AreRead-number.reading.complete guest h) refl
step_read (SetJoin guest set handle) h = rw (AreRead-three_numbers.reading.complete (guest, set, handle) h) refl
step_read (SetPoll guest set) h = rw (AreRead-two_numbers.reading.complete (guest, set) h) refl
step_read (SetDrop guest set) h = rw (AreRead-two_numbers.reading.complete (guest, set) h) refl
step_read (ErrNew guest address len) h = rw (AreRead-three_numbers.reading.complete (guest, address, len) h) refl
step_read (ErrText guest handle address) h = rw (AreRead-three_numbers.reading.complete (guest, handle, address) h) refl
step_read (ErrMove guest handle to) h = rw (AreRead-three_numbers.reading.complete (guest, handle, to) h) refl
step_read (ErrDrop guest handle) h = rw (AreRead-two_numbers.reading.complete (guest, handle) h) refl
step_read (Poke guest address bytes) h = rw (AreRead-place_and_bytes.reading.complete (guest, address, bytes) h) refl
step_read (Dump guest address len) h = rw (AreRead-place_and_len.reading.complete (guest, address, len) h) refl

pub step_complete : (s : Step) → HasLine s → step_of (spelling s) ≡ Some s
step_complete s h = step_read s (AreArguments-from_all (line_of s).arguments h)
