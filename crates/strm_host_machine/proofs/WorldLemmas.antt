-- One host writer that told more, among the others: the world with that writer changed, and no other.
use Rattle.std.proofs.Common.{◌≡◌, ℕ, zero, suc, ◌+◌, ◌<◌, Bool, false, List, [], ◌∷◌, ◌++◌, length, drop, append_assoc, refl, sym, ap, ◌∙◌, arith}
use Rattle.std.specs.Prelude.{slice_set, slice_index_or}
use Rattle.std.proofs.lemmas.List.{length-append}
use Rattle.strm_codes.specs.declared.codes.TransmitKind.{TransmitKind}
use Rattle.strm_codes.specs.declared.payloads.Payload.{Payload}
use Rattle.strm_buffers.specs.Listing.{Item}
use Rattle.strm_buffers.specs.Said.{WriterSaid, past_room}
use Rattle.strm_buffers.specs.Tells.{Heard, WriterTells, PollsWriter}
use Rattle.strm_machine.specs.declared.streams.Duty.TheVariants.{Serves}
use Rattle.strm_machine.specs.declared.streams.Producer.{Producer}
use Rattle.strm_host_machine.specs.Ends.{Writer, writer_in, polled_writer}
use Rattle.strm_host_machine.specs.Does.{LogBegins, first_duty, first_log, writer_of, writers_from}

-- the records of all writers
abbrev pub Saids : Type 0
Saids = List (List WriterSaid)

-- the log of the n-th writer
abbrev pub log_of : Saids → ℕ → List WriterSaid
log_of logs n = first_log (drop n logs)

-- what the n-th writer is to the machine
abbrev pub writer_from : List Producer → List (List WriterSaid) → ℕ → WriterTells → Writer
writer_from producers logs n told = writer_of (first_duty (drop n producers)) told (first_log (drop n logs))

pub drop_one : {A : Type 0} (n : ℕ) (xs : List A) → drop n (drop 1 xs) ≡ drop (suc n) xs
drop_one zero [] = refl
drop_one (suc n) [] = refl
drop_one n (x ∷ xs) = refl

pub writers_from-set : (ps : List Producer) (ws : List WriterTells) (logs : List (List WriterSaid)) (n : ℕ) (w : WriterTells)
    → n < length ws → writers_from ps (slice_set ws n w) logs ≡ slice_set (writers_from ps ws logs) n (writer_from ps logs n w)
writers_from-set ps [] logs n w l = refl
writers_from-set ps (x ∷ ws) logs zero w l = refl
writers_from-set ps (x ∷ ws) logs (suc n) w l =
    ap (λ more. writer_of (first_duty ps) x (first_log logs) ∷ more)
    (writers_from-set (drop 1 ps) ws (drop 1 logs) n w (omega (arith, l))
    ∙ ap (slice_set (writers_from (drop 1 ps) ws (drop 1 logs)) n)
    (ap (λ d. writer_of (first_duty d) w (first_log (drop n (drop 1 logs)))) (drop_one n ps)
    ∙ ap (λ d. writer_of (first_duty (drop (suc n) ps)) w (first_log d)) (drop_one n logs)))

pub writer_in-from : (ps : List Producer) (ws : List WriterTells) (logs : List (List WriterSaid)) (n : ℕ) (d : WriterTells)
    → n < length ws → writer_in (writers_from ps ws logs) n ≡ writer_from ps logs n (slice_index_or ws n d)
writer_in-from ps [] logs n d l = absurd (omega (arith, l))
writer_in-from ps (x ∷ ws) logs zero d l = refl
writer_in-from ps (x ∷ ws) logs (suc n) d l =
    writer_in-from (drop 1 ps) ws (drop 1 logs) n d (omega (arith, l))
    ∙ ap (λ k. writer_of (first_duty k) (slice_index_or ws n d) (first_log (drop n (drop 1 logs)))) (drop_one n ps)
    ∙ ap (λ k. writer_of (first_duty (drop (suc n) ps)) (slice_index_or ws n d) (first_log k)) (drop_one n logs)

pub length-writers_from : (ps : List Producer) (ws : List WriterTells) (logs : List (List WriterSaid)) → length (writers_from ps ws logs) ≡ length ws
length-writers_from ps [] logs = refl
length-writers_from ps (x ∷ ws) logs = ap suc (length-writers_from (drop 1 ps) ws (drop 1 logs))

-- the duty of the n-th, where it is there
pub first_duty-drop : (ps : List Producer) (n : ℕ) (d : Producer) → n < length ps → first_duty (drop n ps) ≡ (slice_index_or ps n d).duty
first_duty-drop [] n d l = absurd (omega (arith, l))
first_duty-drop (p ∷ ps) zero d l = refl
first_duty-drop (p ∷ ps) (suc n) d l = first_duty-drop ps n d (omega (arith, l))

-- what is kept of one writer, but its duty, is nothing to the machine's writers
pub writers_from-duty : (ps : List Producer) (ws : List WriterTells) (logs : List (List WriterSaid)) (n : ℕ) (p d : Producer)
    → (slice_index_or ps n d).duty ≡ p.duty → writers_from (slice_set ps n p) ws logs ≡ writers_from ps ws logs
writers_from-duty [] ws logs n p d e = refl
writers_from-duty (q ∷ ps) [] logs n p d e = refl
writers_from-duty (q ∷ ps) (x ∷ ws) logs zero p d e = ap (λ k. writer_of k x (first_log logs) ∷ writers_from ps ws (drop 1 logs)) (sym e)
writers_from-duty (q ∷ ps) (x ∷ ws) logs (suc n) p d e =
    ap (λ more. writer_of q.duty x (first_log logs) ∷ more) (writers_from-duty ps ws (drop 1 logs) n p d e)

-- a place that gets what it had
pub set-same : {A : Type 0} (xs : List A) (n : ℕ) (d : A) → slice_set xs n (slice_index_or xs n d) ≡ xs
set-same [] n d = refl
set-same (x ∷ xs) zero d = refl
set-same (x ∷ xs) (suc n) d = ap (λ more. x ∷ more) (set-same xs n d)

drop-length : {A : Type 0} (xs ys : List A) → drop (length xs) (xs ++ ys) ≡ ys
drop-length [] ys = refl
drop-length (x ∷ xs) ys = drop-length xs ys

-- of a log that begins with what was said and one record more, that record is the next
pub coming-next : {A : Type 0} (said log : List A) (x : A) → LogBegins (said ++ x ∷ []) log → drop (length said) log ≡ x ∷ drop (length (said ++ x ∷ [])) log
coming-next said log x b =
    ap (drop (length said)) (b ∙ append_assoc said (x ∷ []) (drop (length (said ++ x ∷ [])) log))
    ∙ drop-length said (x ∷ drop (length (said ++ x ∷ [])) log)

-- and it begins with what was said before
pub begins-before : {A : Type 0} (said more log : List A) → LogBegins (said ++ more) log → LogBegins said log
begins-before said more log b =
    let rest = drop (length (said ++ more)) log in
    let e : log ≡ said ++ (more ++ rest) = b ∙ append_assoc said more rest in
    e ∙ ap (λ xs. said ++ xs) (sym (ap (drop (length said)) e ∙ drop-length said (more ++ rest)))

abbrev pub writer_made : TransmitKind → Payload → List Item → List WriterSaid → ℕ → Bool → Bool → Heard (List ℕ) → Writer
writer_made k p h c n b g x =
    record { kind = k; payload = p; holds = h; coming = c; spoken = n; closed = b; ended = g; heard = x }

pub same_writer : {k l : TransmitKind} {p q : Payload} {h i : List Item} {c : List WriterSaid} {m n : ℕ} {a b : Bool} {x y : Heard (List ℕ)} → k ≡ l → p ≡ q → h ≡ i → m ≡ n → a ≡ b → x ≡ y
    → writer_made k p h c m a false x ≡ writer_made l q i c n b false y
same_writer e f g h i j = cc

-- a writer in use that was polled is the machine's with its next record used
pub polled-writer_of : (s : ℕ) (old new : WriterTells) (said : WriterSaid) (marked : List Item) (log : List WriterSaid) → PollsWriter old new said marked
    → writer_of (Serves s) new log ≡ polled_writer (writer_of (Serves s) old log) said.room said (drop (length new.said) log)
polled-writer_of s old new said marked log p =
    let kind : new.kind ≡ old.kind = p.kind in
    let payload : new.payload ≡ old.payload = p.payload in
    let holds : new.holds ≡ past_room said.room said.items = p.holds in
    let spoken : length new.said ≡ length old.said + 1 =
    ap length p.said_more ∙ length-append old.said (said ∷ []) in
    let closed : new.closed ≡ old.closed = p.closed in
    let heard : new.heard ≡ old.heard = p.heard in
    same_writer kind payload holds spoken closed heard
