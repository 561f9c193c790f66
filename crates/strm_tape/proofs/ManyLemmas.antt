-- Things in a row, read one after the other; and a host writer's record of its parts.
use Rattle.std.proofs.Common.{◌≡◌, ℕ, zero, suc, ◌<◌, Bool, List, [], ◌∷◌, ◌++◌, Option, Some, None, refl, sym, ap, subst, ◌∙◌, arith, append_assoc}
use Rattle.std.specs.Prelude.{option_and_then}
use Rattle.std.specs.Option.{option_map}
use Rattle.std.proofs.lemmas.List.{append-nil}
use Rattle.strm_codes.specs.Layout.{item_type}
use Rattle.strm_codes.specs.declared.payloads.Payload.{Payload}
use Rattle.strm_buffers.specs.declared.answers.Answer.{Answer}
use Rattle.strm_buffers.specs.Listing.{TypedItems}
use Rattle.strm_buffers.specs.Said.{WriterSaid}
use Rattle.strm_lines.proofs.CutLemmas.{option_map_some}
use Rattle.strm_tape.specs.Reading.{Found, read_as, many, read_room, flag, read_item_list, answer, typed_items, read_writer_record}

-- things found before, in front of those that are found next
abbrev pub in_front : {A : Type 0} → List A → Found (List A) → Found (List A)
in_front front o = option_map (λ p. (front ++ p.0, p.1)) o

module _ {A : Type 0} (read : List ℕ → Found A) where
  more_found : (front : List A) (n : ℕ) (bytes : List ℕ) (p : A × List ℕ) → read bytes ≡ Some p → in_front (front ++ p.0 ∷ []) (many read n p.1) ≡ in_front front (many read (suc n) bytes)
  unfolding many
  more_found front n bytes p e = rw e (by (many read n p.1))
    where
      by : (o : Found (List A)) → in_front (front ++ p.0 ∷ []) o ≡ in_front front (option_map (λ (v : (A × List A) × List ℕ). (v.0.0 ∷ v.0.1, v.1)) (option_and_then {U = (A × List A) × List ℕ} (λ (q : List A × List ℕ). Some ((p.0, q.0), q.1)) o))
      by None = refl
      by (Some q) = ap (λ l. Some (l, q.1)) (append_assoc front (p.0 ∷ []) q.0)

  none_found : (front : List A) (n : ℕ) (bytes : List ℕ) → read bytes ≡ None → in_front front (many read (suc n) bytes) ≡ None
  unfolding many
  none_found front n bytes e = rw e refl

  end_found : (front : List A) (bytes : List ℕ) → in_front front (many read 0 bytes) ≡ Some (front, bytes)
  unfolding many
  end_found front bytes = ap (λ l. Some (l, bytes)) (append-nil front)

  -- by how many are still to be read
  pub many_stopped : (front : List A) (m : ℕ) (bytes : List ℕ) → 0 < m → read bytes ≡ None → in_front front (many read m bytes) ≡ None
  many_stopped front zero bytes h e = absurd (omega (arith, h))
  many_stopped front (suc n) bytes h e = none_found front n bytes e

  pub many_on : (front : List A) (m n : ℕ) (bytes : List ℕ) (p : A × List ℕ) → m ≡ suc n → read bytes ≡ Some p → in_front (front ++ p.0 ∷ []) (many read n p.1) ≡ in_front front (many read m bytes)
  many_on front m n bytes p h e = more_found front n bytes p e ∙ ap (λ j. in_front front (many read j bytes)) (sym h)

  pub many_over : (front : List A) (m : ℕ) (bytes : List ℕ) → m ≡ 0 → in_front front (many read m bytes) ≡ Some (front, bytes)
  many_over front m bytes h = ap (λ j. in_front front (many read j bytes)) h ∙ end_found front bytes

-- a host writer's record of its parts
module _ (payload : Payload) (bytes b1 b2 b3 b4 : List ℕ) (r : Option ℕ) (f : Bool) (t : TypedItems) (a : Answer) where
  abbrev said_of : TypedItems → WriterSaid
  said_of u = record { room = r; finish = f; payload = u.payload; items = u.items; answer = a }

  pub record_read : read_room bytes ≡ Some (r, b1) → flag b1 ≡ Some (f, b2) → read_as (typed_items payload) (read_item_list (item_type payload)) b2 ≡ Some (t, b3) → answer b3 ≡ Some (a, b4) → Some (said_of t, b4) ≡ read_writer_record payload bytes
  record_read e g h i =
      option_map_some (λ p. (typed_items payload p.0, p.1)) (read_item_list (item_type payload) b2) (t, b3) h (λ p j k.
      subst (λ q. answer q.1 ≡ Some (a, b4) → Some (said_of q.0, b4) ≡ read_writer_record payload bytes) k
      (λ l. rw (e, g, j, l) refl) i)
