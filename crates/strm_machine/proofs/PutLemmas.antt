-- What a step puts into a memory lies there after it.
use Rattle.std.proofs.Common.{◌≡◌, ℕ, ◌+◌, ◌≤◌, false, suc, List, [], ◌∷◌, ◌++◌, length, take, drop, None, refl, sym, ap, ◌∙◌, arith, length-take}
use Rattle.std.proofs.Math.Seq.{drop-append_seam, take-append_seam}
use Rattle.std.proofs.lemmas.Bool.Decides.{nat_tests}
use Rattle.std.proofs.lemmas.List.{append_assoc}
use Rattle.strm_memory.specs.Bytes.{bytes_at}
use Rattle.strm_memory.specs.Region.{bytes_out_of_bounds}
use Rattle.strm_machine.specs.Words.{State, memory_in, put_at, IsSound, Act, OnMemory, Poke}
use Rattle.strm_machine.specs.State.{with_bytes}
use Rattle.strm_machine.specs.ErrorContexts.{message_named}
use Rattle.strm_machine.specs.Refusals.{refusal}
use Rattle.strm_machine.specs.Reactions.{texts, on_memory, performs, reaction}
use Rattle.strm_machine.specs.Untouched.{bytes_of, LieThere}
use Rattle.strm_machine.specs.declared.acts.ContextAct.TheVariants.{Text}
use Rattle.strm_machine.specs.declared.acts.Act.TheVariants.{OnContext}
use Rattle.strm_machine.proofs.StateLemmas.{memory_in-with_memory}
use Rattle.strm_machine.proofs.RefusalLemmas.{BytesFit, poke_fits}
use Rattle.strm_machine.proofs.ContextStepLemmas.{text_fits}
use Rattle.strm_machine.proofs.ReactionLemmas.{reaction-by}
use Rattle.strm_machine.proofs.Lawful.{as_moment}

-- ## Bytes

put_lies : (memory : List ℕ) (address : ℕ) (new : List ℕ) → address ≤ length memory → bytes_at (put_at memory address new) address (length new) ≡ new
put_lies memory address new l =
    let front = take address memory in
    let rest = drop (address + length new) memory in
    let here : length front ≡ address = omega (arith, l, length-take address memory) in
    ap (λ b. bytes_at b address (length new)) (append_assoc front new rest)
    ∙ ap (λ n. take (length new) (drop n (front ++ (new ++ rest)))) (sym here)
    ∙ ap (take (length new)) (drop-append_seam front (new ++ rest))
    ∙ take-append_seam new rest

put_there : (memory : List ℕ) (address : ℕ) (new : List ℕ) → bytes_out_of_bounds (length memory) address (length new) ≡ false → bytes_at (put_at memory address new) address (length new) ≡ new
put_there memory address [] inside = refl
put_there memory address (b ∷ new) inside = put_lies memory address (b ∷ new) (fits (length memory) address (length new) inside)
  where
    fits : (size address count : ℕ) → bytes_out_of_bounds size address (suc count) ≡ false → address ≤ size
    fits size address count e = grind (arith, nat_tests)

bytes_there : (state : State) (g address : ℕ) (bytes : List ℕ) → BytesFit state g address (length bytes) → bytes_of (with_bytes state g address bytes).guests (record { place = record { guest = g; address = address }; size = length bytes }) ≡ bytes
bytes_there state g address bytes fits =
    let memory = memory_in state.guests g in
    ap (λ b. bytes_at b address (length bytes)) (memory_in-with_memory state.guests g (put_at memory address bytes) fits.there)
    ∙ put_there memory address bytes fits.inside

-- ## Steps

-- a message and the bytes of a poke lie there, where they are put
text_there : (state : State) (g handle address : ℕ) → IsSound state → refusal state (OnContext g handle (Text address)) ≡ None → LieThere (as_moment state (OnContext g handle (Text address)) (texts state g handle address))
text_there state g handle address h e =
    bytes_there state g address (message_named state g handle) (text_fits state g handle address h e).bytes

poke_there : (state : State) (g address : ℕ) (bytes : List ℕ) → refusal state (OnMemory g (Poke address bytes)) ≡ None → LieThere (as_moment state (OnMemory g (Poke address bytes)) (on_memory state g (Poke address bytes)))
poke_there state g address bytes e = bytes_there state g address bytes (poke_fits state g address bytes e)

-- nothing else puts bytes, nor does one of them that isn't done
pub reaction-there : (state : State) (act : Act) → IsSound state → LieThere (as_moment state act (reaction state act))
unfolding performs
reaction-there state (OnContext g handle (Text address)) h =
    reaction-by (λ r. LieThere (as_moment state (OnContext g handle (Text address)) r)) state (OnContext g handle (Text address))
    (λ t. refl) (λ r e. refl) (text_there state g handle address h)
reaction-there state (OnMemory g (Poke address bytes)) h =
    reaction-by (λ r. LieThere (as_moment state (OnMemory g (Poke address bytes)) r)) state (OnMemory g (Poke address bytes))
    (λ t. refl) (λ r e. refl) (poke_there state g address bytes)
reaction-there state _ h = refl
