use Rattle.std.proofs.Common.{◌≡◌, ◌≢◌, ◌<◌, ◌≤◌, ◌+◌, ◌*◌, ◌-◌, ◌^◌, ℕ, List, length, min, take, drop, get_or, refl, arith, length-drop}
use Rattle.std.proofs.lemmas.Bool.{le-ltb, lt-ltb, lt-leb, ne_eqb}
use Rattle.std.proofs.lemmas.List.{length-take-le, get_or-take, get_or-drop, get_or_default}
use Rattle.strm_machine.specs.Reactions.{reaction, performs}
use Rattle.strm_machine.specs.Refusals.{refusal}
use Rattle.strm_machine.specs.Operating.{operate}
use Rattle.strm_machine.specs.Making.{with_stream}
use Rattle.strm_memory.proofs.AppendLemmas.{items-bytes, stored-bytes}
use Rattle.strm_carry_laws.proofs.serves.Goals as goal

pub returns : goal.returns
unfolding reaction performs refusal operate with_stream
returns c = λ m0 m1 n a i j r met t h g u p q x y.
    let few : r < 268435456 = omega arith in
    let fits : 0 + 1 * r ≤ length m1 = omega arith in
    let within : min r j ≤ length (drop a m0) = omega (arith, length-drop a m0) in
    let long : length (take (min r j) (drop a m0)) ≡ min r j = length-take-le (min r j) (drop a m0) within in
    let b : List ℕ = take (min r j) (drop a m0) in
    let room : length b ≤ length m1 = omega (arith, long) in
    let bytes_b : (k d : ℕ) → k < length b → get_or b k d < 256 = λ k d l.
    let k1 : k < min r j = omega (arith, long) in
    let k2 : a + k < length m0 = omega (arith, k1) in
    omega (arith, t (a + k), get_or-take (min r j) (drop a m0) k d k1, get_or-drop a m0 k d, get_or_default m0 (a + k) d 0 k2) in
    let no_w : j ≢ 0 = omega arith in
    let no_r : r ≢ 0 = omega arith in
    let top : min (n + min r j) (2 ^ 128 - 1) ≡ n + min r j = omega (arith, u) in
    rw (lt-leb 268435456 r few, lt-ltb 0 r x, le-ltb (length m1) (0 + 1 * r) fits, lt-ltb 0 j p, ne_eqb j 0 no_w, ne_eqb r 0 no_r, items-bytes (drop a m0) (min r j) within, stored-bytes m1 b bytes_b room, long, top) refl
