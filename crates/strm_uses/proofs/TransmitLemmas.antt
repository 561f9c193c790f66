-- What the calls of a caller of the store come to, by what the machine does with their steps.
use Rattle.std.proofs.Common.{◌≡◌, ℕ, ◌+◌, ◌*◌, ◌%◌, ◌<◌, ◌≢◌, false, List, [], ◌∷◌, take, length, Option, Some, None, Ok, refl, sym, ap, subst, ◌∙◌, arith}
use Rattle.strm_codes.specs.declared.codes.ReturnCode.{ReturnCode}
use Rattle.strm_codes.specs.declared.codes.ReturnCode.TheVariants.{Blocked, Completed}
use Rattle.strm_codes.specs.declared.codes.TransmitIndex.{TransmitIndex}
use Rattle.strm_codes.specs.declared.codes.TransmitIndex.TheVariants as index
use Rattle.strm_codes.specs.declared.payloads.Payload.TheVariants.{One}
use Rattle.strm_codes.specs.declared.scalars.Scalar.TheVariants.{U8}
use Rattle.strm_memory.specs.Bytes.{IsBytes}
use Rattle.strm_memory.specs.Items.{items, stored}
use Rattle.strm_memory.specs.Loads.{decode, encode}
use Rattle.strm_machine.specs.Acts.{act_of}
use Rattle.strm_machine.specs.State.{State, empty, memory_in, stream_at}
use Rattle.strm_machine.specs.Operating.{operate}
use Rattle.strm_machine.specs.Endings.{delivered}
use Rattle.strm_machine.specs.Refusals.{refusal}
use Rattle.strm_machine.specs.Making.{with_stream}
use Rattle.strm_machine.specs.Reactions.{Reaction, goes, performs, reaction, react}
use Rattle.strm_machine.specs.declared.steps.Step.{Step}
use Rattle.strm_machine.specs.declared.steps.Step.TheVariants as steps
use Rattle.strm_machine.specs.declared.replies.Pair.{Pair}
use Rattle.strm_machine.specs.declared.replies.Reply.{Reply}
use Rattle.strm_machine.specs.declared.replies.Reply.TheVariants as replies
use Rattle.strm_places.specs.Again.{IsFree, Behind, Again, reaction_at, reacts_at}
use Rattle.strm_places.proofs.AgainLemmas.{reaction_at-behind}
use Rattle.strm_host_machine.specs.Steps.{touches}
use Rattle.strm_transmit.specs.Again.{MeetsAt}
use Rattle.strm_transmit.specs.Hosted.{lone}

abbrev bytes_type : TransmitIndex
bytes_type = index.Stream (One U8)

abbrev start : State
start = empty 0 (record { handles = 2; places = 3 })

abbrev number_in : Reply → ℕ
number_in (replies.Number n) = n
number_in _ = 0

abbrev no_pair : Pair
no_pair = record { read = 0; write = 0; stream = 0 }

abbrev pair_in : Reply → Pair
pair_in (replies.Pair pair) = pair
pair_in _ = no_pair

abbrev code_in : Reply → ReturnCode
code_in (replies.Code code) = code
code_in _ = Blocked

abbrev event_in : Reply → Option ReturnCode
event_in (replies.Event event) = event
event_in _ = None

-- two guests and a stream of bytes between them
abbrev one : Reaction
one = react start (steps.Guest 16)

abbrev two : Reaction
two = react one.state (steps.Guest 16)

abbrev joined : Reaction
joined = react two.state (steps.Between 0 1 bytes_type)

-- bytes are poked into the first one's memory, written, read, and told
abbrev poked : List ℕ → Reaction
poked bytes = react joined.state (steps.Poke 0 0 bytes)

abbrev written : List ℕ → Reaction
written bytes = react (poked bytes).state (steps.Write 0 bytes_type 1 0 3)

abbrev read : List ℕ → Reaction
read bytes = react (written bytes).state (steps.Read 1 bytes_type 1 0 3)

abbrev told : List ℕ → Reaction
told bytes = react (read bytes).state (steps.Event 0 1)

one_is : number_in one.reply ≡ 0
unfolding reaction refusal performs
one_is = refl

two_is : number_in two.reply ≡ 1
unfolding reaction refusal performs
two_is = refl

joined_is : pair_in joined.reply ≡ record { read = 1; write = 1; stream = 0 }
unfolding reaction refusal performs with_stream
joined_is = refl

none_yet : length two.state.streams ≡ 0
unfolding reaction refusal performs
none_yet = refl

-- the first stream has no other's number
first_number : (n : ℕ) → IsFree two.state.streams n → n ≡ length two.state.streams
first_number n (Behind e) = e
first_number n (Again l gone) = absurd (omega (arith, l, none_yet))

module _ (s1 s2 s3 : State) (writer reader : ℕ) (pair : Pair) where
  abbrev joins : Step
  joins = steps.Between writer reader bytes_type

  pub first_made : react start (steps.Guest 16) ≡ goes (replies.Number writer) s1 → react s1 (steps.Guest 16) ≡ goes (replies.Number reader) s2
      → MeetsAt s2 s3 (Ok (replies.Pair pair)) (λ n. reacts_at n s2 joins) → react s2 joins ≡ goes (replies.Pair pair) s3
  first_made a b m =
      let e1 : s1 ≡ one.state = sym (ap (λ (r : Reaction). r.state) a) in
      let f2 : react one.state (steps.Guest 16) ≡ goes (replies.Number reader) s2 = rw e1 at b in
      let e2 : s2 ≡ two.state = sym (ap (λ (r : Reaction). r.state) f2) in
      let free : IsFree two.state.streams m.number = subst (λ (s : State). IsFree s.streams m.number) e2 m.free in
      let last : m.number ≡ length s2.streams = first_number m.number free ∙ ap (λ (s : State). length s.streams) (sym e2) in
      sym (ap (λ n. reaction_at n s2 (act_of joins)) last ∙ reaction_at-behind s2 (act_of joins)) ∙ m.meets

-- neither end of the stream is a host end
written_alone : (x y z : ℕ) → touches (lone (poked (x ∷ y ∷ z ∷ [])).state) (act_of (steps.Write 0 bytes_type 1 0 3)) ≡ false
unfolding reaction refusal performs with_stream
written_alone x y z = refl

read_alone : (x y z : ℕ) → touches (lone (written (x ∷ y ∷ z ∷ [])).state) (act_of (steps.Read 1 bytes_type 1 0 3)) ≡ false
unfolding reaction refusal performs with_stream operate decode encode items stored
read_alone x y z = refl

read_is : (x y z : ℕ) → code_in (read (x ∷ y ∷ z ∷ [])).reply ≡ Completed 3
unfolding reaction refusal performs with_stream operate decode encode items stored
read_is x y z = refl

told_is : (x y z : ℕ) → event_in (told (x ∷ y ∷ z ∷ [])).reply ≡ Some (Completed 3)
unfolding reaction refusal performs with_stream operate delivered decode encode items stored
told_is x y z = refl

moved_is : (x y z : ℕ) → (stream_at (told (x ∷ y ∷ z ∷ [])).state 0).received ≡ 3
unfolding reaction refusal performs with_stream operate delivered decode encode items stored
moved_is x y z = refl

in_byte : ℕ → ℕ
in_byte x = (x + 256 * 0) % 256

byte_is : (x : ℕ) → x < 256 → in_byte x ≡ x
unfolding in_byte
byte_is x h = omega (arith, h)

memory_is : (x y z : ℕ) → x < 256 → y < 256 → z < 256 → take 3 (memory_in (told (x ∷ y ∷ z ∷ [])).state.guests 1) ≡ x ∷ y ∷ z ∷ []
unfolding reaction refusal performs with_stream operate delivered decode encode items stored in_byte
memory_is x y z a b c =
    let raw : take 3 (memory_in (told (x ∷ y ∷ z ∷ [])).state.guests 1) ≡ in_byte x ∷ in_byte y ∷ in_byte z ∷ [] = refl in
    raw ∙ ap (λ n. n ∷ in_byte y ∷ in_byte z ∷ []) (byte_is x a) ∙ ap (λ n. x ∷ n ∷ in_byte z ∷ []) (byte_is y b) ∙ ap (λ n. x ∷ y ∷ n ∷ []) (byte_is z c)

-- what is known of a step where it touches no host end
abbrev pub IfAlone : State → Step → Type 0 → Type 0
IfAlone state step known = touches (lone state) (act_of step) ≡ false → known

-- the answers of the calls, and the states between them
pub record Calls (bytes : List ℕ) (writer reader : ℕ) (pair : Pair) (s1 s2 s3 s4 s5 s6 s7 : State) (wrote took : ReturnCode) (event : Option ReturnCode) : Type 0 where
  pub one : react (empty 0 (record { handles = 2; places = 3 })) (steps.Guest 16) ≡ goes (replies.Number writer) s1
  pub two : react s1 (steps.Guest 16) ≡ goes (replies.Number reader) s2
  pub joined : react s2 (steps.Between writer reader (index.Stream (One U8))) ≡ goes (replies.Pair pair) s3
  pub poked : react s3 (steps.Poke writer 0 bytes) ≡ goes replies.Done s4
  pub written : IfAlone s4 (steps.Write writer (index.Stream (One U8)) pair.write 0 3) (react s4 (steps.Write writer (index.Stream (One U8)) pair.write 0 3) ≡ goes (replies.Code wrote) s5)
  pub read : IfAlone s5 (steps.Read reader (index.Stream (One U8)) pair.read 0 3) (react s5 (steps.Read reader (index.Stream (One U8)) pair.read 0 3) ≡ goes (replies.Code took) s6)
  pub told : react s6 (steps.Event writer pair.write) ≡ goes (replies.Event event) s7

-- what is known after them
pub record Known (bytes : List ℕ) (s7 : State) (took : ReturnCode) (event : Option ReturnCode) : Type 0 where
  pub memory : take 3 (memory_in s7.guests 1) ≡ bytes
  pub read : took ≡ Completed 3
  pub told : event ≡ Some (Completed 3)
  pub moved : (stream_at s7 0).received ≡ 3

known_of : (x y z : ℕ) (writer reader : ℕ) (pair : Pair) (s1 s2 s3 s4 s5 s6 s7 : State) (wrote took : ReturnCode) (event : Option ReturnCode) → x < 256 → y < 256 → z < 256 → Calls (x ∷ y ∷ z ∷ []) writer reader pair s1 s2 s3 s4 s5 s6 s7 wrote took event → Known (x ∷ y ∷ z ∷ []) s7 took event
known_of x y z writer reader pair s1 s2 s3 s4 s5 s6 s7 wrote took event a b c k =
    let bytes = x ∷ y ∷ z ∷ [] in
    let w : writer ≡ 0 = sym (ap (λ r. number_in r.reply) k.one) ∙ one_is in
    let e1 : s1 ≡ one.state = sym (ap (λ r. r.state) k.one) in
    let f2 : react one.state (steps.Guest 16) ≡ goes (replies.Number reader) s2 = rw e1 at k.two in
    let r : reader ≡ 1 = sym (ap (λ r. number_in r.reply) f2) ∙ two_is in
    let e2 : s2 ≡ two.state = sym (ap (λ r. r.state) f2) in
    let f3 : react two.state (steps.Between 0 1 bytes_type) ≡ goes (replies.Pair pair) s3 = rw (e2, w, r) at k.joined in
    let p : pair ≡ record { read = 1; write = 1; stream = 0 } = sym (ap (λ r. pair_in r.reply) f3) ∙ joined_is in
    let e3 : s3 ≡ joined.state = sym (ap (λ r. r.state) f3) in
    let f4 : react joined.state (steps.Poke 0 0 bytes) ≡ goes replies.Done s4 = rw (e3, w) at k.poked in
    let e4 : s4 ≡ (poked bytes).state = sym (ap (λ r. r.state) f4) in
    let f5 : react (poked bytes).state (steps.Write 0 bytes_type 1 0 3) ≡ goes (replies.Code wrote) s5 = (rw (e4, w, p) at k.written) (written_alone x y z) in
    let e5 : s5 ≡ (written bytes).state = sym (ap (λ r. r.state) f5) in
    let f6 : react (written bytes).state (steps.Read 1 bytes_type 1 0 3) ≡ goes (replies.Code took) s6 = (rw (e5, r, p) at k.read) (read_alone x y z) in
    let e6 : s6 ≡ (read bytes).state = sym (ap (λ r. r.state) f6) in
    let f7 : react (read bytes).state (steps.Event 0 1) ≡ goes (replies.Event event) s7 = rw (e6, w, p) at k.told in
    let e7 : s7 ≡ (told bytes).state = sym (ap (λ r. r.state) f7) in
    record {
      memory = rw e7 (memory_is x y z a b c);
      read = sym (ap (λ r. code_in r.reply) f6) ∙ read_is x y z;
      told = sym (ap (λ r. event_in r.reply) f7) ∙ told_is x y z;
      moved = rw e7 (moved_is x y z);
    }

-- the calls of a caller that passes three bytes
pub known : (bytes : List ℕ) (writer reader : ℕ) (pair : Pair) (s1 s2 s3 s4 s5 s6 s7 : State) (wrote took : ReturnCode) (event : Option ReturnCode) → length bytes ≡ 3 → IsBytes bytes → Calls bytes writer reader pair s1 s2 s3 s4 s5 s6 s7 wrote took event → Known bytes s7 took event
known (x ∷ y ∷ z ∷ []) writer reader pair s1 s2 s3 s4 s5 s6 s7 wrote took event n b k =
    known_of x y z writer reader pair s1 s2 s3 s4 s5 s6 s7 wrote took event (b 0) (b 1) (b 2) k
known [] writer reader pair s1 s2 s3 s4 s5 s6 s7 wrote took event n b k = cc
known (x ∷ []) writer reader pair s1 s2 s3 s4 s5 s6 s7 wrote took event n b k = cc
known (x ∷ y ∷ []) writer reader pair s1 s2 s3 s4 s5 s6 s7 wrote took event n b k = cc
known (x ∷ y ∷ z ∷ u ∷ more) writer reader pair s1 s2 s3 s4 s5 s6 s7 wrote took event n b k = let no : length (x ∷ y ∷ z ∷ u ∷ more) ≢ 3 = omega arith in absurd (no n)
