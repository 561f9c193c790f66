-- A drive round passes over the streams that have no host end, and may be cut in two.
use Rattle.std.proofs.Common.{◌≡◌, ℕ, zero, suc, ◌+◌, Bool, true, false, cond, List, [], ◌∷◌, ◌++◌, append-nil, Option, Some, None, Ok, Err, refl, sym, ap, ◌∙◌, arith}
use Rattle.strm_buffers.specs.Tells.{Tells}
use Rattle.strm_machine.specs.State.{State, is_host}
use Rattle.strm_machine.specs.declared.stops.Stop.{Stop}
use Rattle.strm_machine.specs.declared.streams.Operation.{Operation}
use Rattle.strm_machine.specs.declared.replies.Reply.TheVariants as replies
use Rattle.strm_machine.specs.declared.streams.Owner.{Owner}
use Rattle.strm_machine.specs.declared.streams.Owner.TheVariants.{Host}
use Rattle.strm_machine.specs.declared.streams.Stream.{Stream}
use Rattle.strm_host_machine.specs.World.{World, stream_in}
use Rattle.strm_host_machine.specs.Outcomes.{Outcome, Goes, Stops, Stuck, done, then_on}
use Rattle.strm_host_machine.specs.WriterTurn.{writer_turn}
use Rattle.strm_host_machine.specs.ReaderTurn.{reader_turn}
use Rattle.strm_host_machine.specs.Piping.{pipe_round}
use Rattle.strm_host_machine.specs.Driving.{if_open, driven_by, drive_turn, driven, numbers_from}
use Rattle.strm_host_machine.specs.Does.{Logs, world_of, Answered, Does}
use Rattle.strm_host_machine.proofs.DoesLemmas.{Does-then, Does-stop, Does-untold, Does-as}

driven_by-other : (world : World) (s : ℕ) (stream : Stream) (writer reader : Owner) → is_host writer ≡ false → is_host reader ≡ false → driven_by world s stream writer reader ≡ done world
driven_by-other world s stream (Host n) reader e f = cc
driven_by-other world s stream writer (Host r) e f = cc
driven_by-other world s stream _ _ e f = refl

-- no host end has an end of stream s
pub record IsAlone (world : World) (s : ℕ) : Type 0 where
  pub writer : is_host (stream_in world s).writer.owner ≡ false
  pub reader : is_host (stream_in world s).reader.owner ≡ false

pub drive_turn-alone : (world : World) (s : ℕ) → IsAlone world s → drive_turn world s ≡ done world
unfolding drive_turn
drive_turn-alone world s h = driven_by-other world s (stream_in world s) (stream_in world s).writer.owner (stream_in world s).reader.owner h.writer h.reader

-- so many streams from one on are alone
abbrev pub AreAlone : World → ℕ → ℕ → Type 0
AreAlone world s zero = Unit {0}
AreAlone world s (suc n) = IsAlone world s × AreAlone world (s + 1) n

pub driven-alone : (world : World) (s n : ℕ) (more : List ℕ) → AreAlone world s n → driven world (numbers_from s n ++ more) ≡ driven world more
driven-alone world s zero more h = refl
driven-alone world s (suc n) more h =
    ap (λ o. then_on o (λ after. driven after (numbers_from (s + 1) n ++ more))) (drive_turn-alone world s h.0)
    ∙ driven-alone world (s + 1) n more h.1

-- what is done after two parts is done after the second of them
pub then_on-twice : (o : Outcome) (f g : World → Outcome) → then_on (then_on o f) g ≡ then_on o (λ w. then_on (f w) g)
then_on-twice (Goes reply world) f g = refl
then_on-twice (Stops stop writers readers) f g = refl
then_on-twice Stuck f g = refl

-- two continuations that do the same on each world
pub then_on_same : (o : Outcome) (f g : World → Outcome) → ((w : World) → f w ≡ g w) → then_on o f ≡ then_on o g
then_on_same (Goes reply world) f g h = h world
then_on_same (Stops stop writers readers) f g h = refl
then_on_same Stuck f g h = refl

pub driven-append : (world : World) (xs ys : List ℕ) → driven world (xs ++ ys) ≡ then_on (driven world xs) (λ w. driven w ys)
driven-append world [] ys = refl
driven-append world (s ∷ xs) ys =
    then_on_same (drive_turn world s) (λ w. driven w (xs ++ ys)) (λ w. then_on (driven w xs) (λ v. driven v ys)) (λ w. driven-append w xs ys)
    ∙ sym (then_on-twice (drive_turn world s) (λ w. driven w xs) (λ w. driven w ys))

-- ONE STREAM

-- a stream whose host writer has an open read to serve
pub record IsDue (world : World) (s n : ℕ) (read : Operation) : Type 0 where
  pub owner : (stream_in world s).writer.owner ≡ Host n
  pub unpiped : is_host (stream_in world s).reader.owner ≡ false
  pub read_is : (stream_in world s).reader.operation ≡ Some read
  pub is_open : read.is_open ≡ true

driven_by-writer : (world : World) (s : ℕ) (stream : Stream) (n : ℕ) (reader : Owner) → is_host reader ≡ false → driven_by world s stream (Host n) reader ≡ if_open world stream.reader.operation (writer_turn world s n)
driven_by-writer world s stream n (Host r) e = cc
driven_by-writer world s stream n _ e = refl

pub drive_turn-due : (world : World) (s n : ℕ) (read : Operation) → IsDue world s n read → drive_turn world s ≡ writer_turn world s n read
unfolding drive_turn
drive_turn-due world s n read d =
    ap (λ o. driven_by world s (stream_in world s) o (stream_in world s).reader.owner) d.owner
    ∙ driven_by-writer world s (stream_in world s) n (stream_in world s).reader.owner d.unpiped
    ∙ ap (λ o. if_open world o (writer_turn world s n)) d.read_is
    ∙ ap (λ b. cond b (writer_turn world s n read) (done world)) d.is_open

-- an operation that is open
abbrev pub waits_open : Option Operation → Bool
waits_open None = false
waits_open (Some operation) = operation.is_open

if_open-idle : (world : World) (o : Option Operation) (turn : Operation → Outcome) → waits_open o ≡ false → if_open world o turn ≡ done world
if_open-idle world None turn e = refl
if_open-idle world (Some operation) turn e = ap (λ b. cond b (turn operation) (done world)) e

idle_by : (world : World) (s : ℕ) (owner reader : Owner) → waits_open (stream_in world s).reader.operation ≡ false → is_host reader ≡ false → driven_by world s (stream_in world s) owner reader ≡ done world
idle_by world s owner (Host r) e f = cc
idle_by world s (Host n) reader e f = driven_by-writer world s (stream_in world s) n reader f ∙ if_open-idle world (stream_in world s).reader.operation (writer_turn world s n) e
idle_by world s _ _ e f = refl

-- a stream without an open read, which no host reader reads
pub drive_turn-idle : (world : World) (s : ℕ) → waits_open (stream_in world s).reader.operation ≡ false → is_host (stream_in world s).reader.owner ≡ false → drive_turn world s ≡ done world
unfolding drive_turn
drive_turn-idle world s e f = idle_by world s (stream_in world s).writer.owner (stream_in world s).reader.owner e f

-- a stream that a host reader reads has an open write to serve
pub record IsDueWrite (world : World) (s r : ℕ) (write : Operation) : Type 0 where
  pub owner : (stream_in world s).reader.owner ≡ Host r
  pub unhosted : is_host (stream_in world s).writer.owner ≡ false
  pub write_is : (stream_in world s).writer.operation ≡ Some write
  pub is_open : write.is_open ≡ true

driven_by-reader : (world : World) (s : ℕ) (stream : Stream) (writer : Owner) (r : ℕ) → is_host writer ≡ false → driven_by world s stream writer (Host r) ≡ if_open world stream.writer.operation (reader_turn world s r)
driven_by-reader world s stream (Host n) r e = cc
driven_by-reader world s stream _ r e = refl

pub drive_turn-due_write : (world : World) (s r : ℕ) (write : Operation) → IsDueWrite world s r write → drive_turn world s ≡ reader_turn world s r write
unfolding drive_turn
drive_turn-due_write world s r write d =
    ap (driven_by world s (stream_in world s) (stream_in world s).writer.owner) d.owner
    ∙ driven_by-reader world s (stream_in world s) (stream_in world s).writer.owner r d.unhosted
    ∙ ap (λ o. if_open world o (reader_turn world s r)) d.write_is
    ∙ ap (λ b. cond b (reader_turn world s r write) (done world)) d.is_open

-- and none
pub drive_turn-idle_write : (world : World) (s r : ℕ) → (stream_in world s).reader.owner ≡ Host r → is_host (stream_in world s).writer.owner ≡ false → waits_open (stream_in world s).writer.operation ≡ false → drive_turn world s ≡ done world
unfolding drive_turn
drive_turn-idle_write world s r o u e =
    ap (driven_by world s (stream_in world s) (stream_in world s).writer.owner) o
    ∙ driven_by-reader world s (stream_in world s) (stream_in world s).writer.owner r u
    ∙ if_open-idle world (stream_in world s).writer.operation (reader_turn world s r) e

-- a stream from a host writer to a host reader
pub drive_turn-piped : (world : World) (s n r : ℕ) → (stream_in world s).writer.owner ≡ Host n → (stream_in world s).reader.owner ≡ Host r → drive_turn world s ≡ pipe_round world s n r
unfolding drive_turn
drive_turn-piped world s n r o e =
    ap (λ w. driven_by world s (stream_in world s) w (stream_in world s).reader.owner) o
    ∙ ap (driven_by world s (stream_in world s) (Host n)) e

-- THE ROUND AS A LOOP

pub numbers_from-cut : (s n m k t : ℕ) → k ≡ n + m → t ≡ s + n → numbers_from s k ≡ numbers_from s n ++ numbers_from t m
numbers_from-cut s zero m k t e f = let g : k ≡ m = omega (arith, e) in let h : s ≡ t = omega (arith, f) in cc
numbers_from-cut s (suc n) m zero t e f = absurd (omega (arith, e))
numbers_from-cut s (suc n) m (suc k) t e f =
    ap (λ more. s ∷ more) (numbers_from-cut (s + 1) n m k t (omega (arith, e)) (omega (arith, f)))

-- the first so many streams
abbrev pub drives_first : ℕ → World → Outcome
drives_first n world = driven world (numbers_from 0 n)

drives_first-more : (world : World) (n m : ℕ) → drives_first (n + m) world ≡ then_on (drives_first n world) (λ w. driven w (numbers_from n m))
drives_first-more world n m = ap (driven world) (numbers_from-cut 0 n m (n + m) n refl (omega arith)) ∙ driven-append world (numbers_from 0 n) (numbers_from n m)

pub Does-drives_none : (state : State) (tells : Tells) → Does state state tells tells (Ok replies.Done) (drives_first 0)
Does-drives_none state tells = Does-untold state state tells (Ok replies.Done) (drives_first 0) (λ logs. refl) tt

-- after the first n streams, m more that are alone
pub Does-drives_alone : (old new : State) (tells told : Tells) (n m : ℕ) → Does old new tells told (Ok replies.Done) (drives_first n)
    → ((logs : Logs) → AreAlone (world_of new told logs) n m) → Does old new tells told (Ok replies.Done) (drives_first (n + m))
Does-drives_alone old new tells told n m d alone =
    Does-as old new tells told (Ok replies.Done) (λ w. then_on (drives_first n w) (λ v. driven v (numbers_from n m))) (drives_first (n + m))
    (λ logs. drives_first-more (world_of old tells logs) n m)
    (Does-then old new new tells told told replies.Done (Ok replies.Done) (drives_first n) (λ v. driven v (numbers_from n m)) d
    (Does-untold new new told (Ok replies.Done) (λ v. driven v (numbers_from n m))
    (λ logs. ap (driven (world_of new told logs)) (sym (append-nil (numbers_from n m))) ∙ driven-alone (world_of new told logs) n m [] (alone logs)) tt))

-- where a turn goes on there is nothing to tell
abbrev pub EndsDone : Answered → Type 0
EndsDone (Ok reply) = reply ≡ replies.Done
EndsDone (Err stop) = Unit {0}

-- one stream, of which the last reply is no matter
one_more : (b c : State) (y z : Tells) (n : ℕ) (result : Answered) → EndsDone result → Does b c y z result (λ w. drive_turn w n) → Does b c y z result (λ v. driven v (numbers_from n 1))
one_more b c y z n (Ok reply) e d = Does-then b c c y z z reply (Ok reply) (λ w. drive_turn w n) done d (Does-untold c c z (Ok reply) done (λ logs. ap (λ r. Goes r (world_of c z logs)) (sym e)) tt)
one_more b c y z n (Err stop) e d = Does-stop b c y z stop (λ w. drive_turn w n) done d

-- and then the turn of stream n
pub Does-drives_one : (a b c : State) (x y z : Tells) (n : ℕ) (result : Answered) → EndsDone result → Does a b x y (Ok replies.Done) (drives_first n)
    → Does b c y z result (λ w. drive_turn w n) → Does a c x z result (drives_first (n + 1))
Does-drives_one a b c x y z n result e d t =
    Does-as a c x z result (λ w. then_on (drives_first n w) (λ v. driven v (numbers_from n 1))) (drives_first (n + 1))
    (λ logs. drives_first-more (world_of a x logs) n 1)
    (Does-then a b c x y z replies.Done result (drives_first n) (λ v. driven v (numbers_from n 1)) d (one_more b c y z n result e t))

-- where one of the first stops, the round stops
pub Does-drives_stop : (a c : State) (x z : Tells) (n m : ℕ) (stop : Option Stop) → Does a c x z (Err stop) (drives_first n) → Does a c x z (Err stop) (drives_first (n + m))
Does-drives_stop a c x z n m stop d =
    Does-as a c x z (Err stop) (λ w. then_on (drives_first n w) (λ v. driven v (numbers_from n m))) (drives_first (n + m))
    (λ logs. drives_first-more (world_of a x logs) n m)
    (Does-stop a c x z stop (drives_first n) (λ v. driven v (numbers_from n m)) d)
