-- Worked runs with waitable sets, computed.
use Rattle.std.proofs.Common.{◌≡◌, ◌≢◌, ℕ, Bool, true, false, List, [], ◌∷◌, Option, Some, None, refl, sym, ap, ◌∙◌, inl, inr, arith}
use Rattle.std.specs.FinMap.{get-empty, get-insert}
use Rattle.std.specs.Cmp.{nat_cmp_total}
use Rattle.std.specs.Ordering.{nat_cmp}
use Rattle.std.specs.Prelude.{map, ◌⊎◌, take, is_some}
use Rattle.std.proofs.lemmas.Bool.{cases_eq}
use Rattle.strm_machine.specs.Words.{State, empty, sets_in}
use Rattle.strm_machine.specs.declared.steps.Step.{Step}
use Rattle.strm_machine.specs.declared.replies.Reply.{Reply}
use Rattle.strm_machine.specs.declared.replies.Reply.TheVariants as replies
use Rattle.strm_machine.specs.declared.steps.Step.TheVariants as steps
use Rattle.strm_codes.specs.declared.codes.ReturnCode.TheVariants.{Blocked, Completed}
use Rattle.strm_codes.specs.declared.refusals.Refusal.TheVariants as refusals
use Rattle.strm_machine.specs.Operating.{operate}
use Rattle.strm_machine.specs.Endings.{delivered, dropped}
use Rattle.strm_machine.specs.Making.{with_stream}
use Rattle.strm_machine.specs.Reactions.{performs, reaction}
use Rattle.strm_machine.specs.Refusals.{refusal}
use Rattle.strm_machine.specs.Moments.{decoded}
use Rattle.strm_machine.specs.WaitableSets.{is_in_set, has_member, is_ready, ready_member}
use Rattle.strm_memory.specs.Items.{items, stored}
use Rattle.strm_memory.specs.Loads.{decode, encode}
use Rattle.strm_waitable_sets.specs.Sets.{Sets, no_sets, set_of, is_member, with_new_set, handle_joined, handle_left}
use Rattle.strm_codes.specs.OptionalNumbers.{is_number}
use Rattle.strm_waitable_sets.proofs.SetLemmas.{is_member-left_same, is_member-left_other, is_member-joined_same, is_member-joined_other}
use Rattle.strm_machine.proofs.SetStepLemmas.{ready_member-least, ready_member-none, has_member-some, has_member-none}
use Rattle.strm_laws.specs.Conservation.{moments, handed, all_handed}
use Rattle.strm_laws.proofs.Answered.{Answered, last_state, AllGive, steps_of}
use Rattle.strm_laws.proofs.Rows.{bytes, start, item, call, replies_to, replies-by, account, account-by}

abbrev answered : Step → Bool → Bool → Option ℕ → Answered
answered step in_set has_member ready = record { step = step; answer = record { in_set = in_set; has_member = has_member; ready = ready; text = true } }

-- a step that asks sets nothing
abbrev plain : Step → Answered
plain step = answered step false false None

-- ## A set with two members

-- both ends of a stream join a set; a poll tells the writer, and none before it has met. The set stays
-- while it has members, and a member stays where it is
abbrev polled : List Answered
polled =
    plain (steps.Guest 16)
    ∷ plain (steps.New 0 bytes)
    ∷ plain (steps.SetNew 0)
    ∷ plain (steps.SetJoin 0 3 1)
    ∷ plain (steps.SetJoin 0 3 2)
    ∷ answered (steps.SetPoll 0 3) false false None
    ∷ plain (steps.Write 0 bytes 2 0 1)
    ∷ plain (steps.Read 0 bytes 1 8 1)
    ∷ answered (steps.SetPoll 0 3) false false (Some 2)
    ∷ answered (steps.SetDrop 0 3) false true None
    ∷ answered (steps.Lift 0 bytes 1) true false None
    ∷ plain (steps.SetJoin 0 0 1)
    ∷ plain (steps.SetJoin 0 0 2)
    ∷ answered (steps.SetDrop 0 3) false false None
    ∷ []

abbrev fresh : Sets
fresh = with_new_set no_sets

abbrev with_one : Sets
with_one = handle_joined fresh 1 0

abbrev with_two : Sets
with_two = handle_joined with_one 2 0

-- the set has these two members, and no other
neither : (handle : ℕ) → handle ≢ 1 → handle ≢ 2 → is_member with_two 0 handle ≡ false
neither handle not_one not_two =
    is_member-joined_other with_one 2 0 0 handle not_two ∙ is_member-joined_other fresh 1 0 0 handle not_one ∙ ap (λ o. is_number o 0) (get-empty nat_cmp handle)

two : (handle : ℕ) → is_member with_two 0 handle ≡ true → (handle ≡ 1) ⊎ (handle ≡ 2)
two handle m = elim (cases_eq handle 2) [
  | inl e ↦ inr e
  | inr not_two ↦ elim (cases_eq handle 1) [
    | inl e ↦ inl e
    | inr not_one ↦ absurd (let none = neither handle not_one not_two in cc)
  ]
]

-- a state whose first guest has these two in its first set
module _ (state : State) (at : sets_in state.guests 0 ≡ with_two) where
  either : (handle : ℕ) → is_member (sets_in state.guests 0) 0 handle ≡ true → (handle ≡ 1) ⊎ (handle ≡ 2)
  either handle m = two handle (ap (λ sets. is_member sets 0 handle) (sym at) ∙ m)

  second : is_member (sets_in state.guests 0) 0 2 ≡ true
  second = ap (λ sets. is_member sets 0 2) at ∙ is_member-joined_same with_one 2 0 0

  none_ready : is_ready state 0 1 ≡ false → is_ready state 0 2 ≡ false → ready_member state 0 0 ≡ None
  none_ready one other = ready_member-none state 0 0 (λ handle m. elim (either handle m) [
    | inl e ↦ ap (is_ready state 0) e ∙ one
    | inr e ↦ ap (is_ready state 0) e ∙ other
  ])

  second_ready : is_ready state 0 1 ≡ false → is_ready state 0 2 ≡ true → ready_member state 0 0 ≡ Some 2
  second_ready one other = ready_member-least state 0 0 2 (record {
    member = second;
    ready = other;
    least = λ handle l m. elim (either handle m) [
      | inl e ↦ ap (is_ready state 0) e ∙ one
      | inr e ↦ absurd (omega (arith, l, e))
    ];
  })

  has_two : has_member state 0 0 ≡ true
  has_two = has_member-some state 0 0 (record { handle = 2; there = second })

  first_in_set : is_in_set state 0 1 ≡ true
  first_in_set = ap (λ sets. is_some (set_of sets 1)) at ∙ ap is_some (get-insert nat_cmp_total with_one.homes 2 0 1 ∙ get-insert nat_cmp_total fresh.homes 1 0 1)

-- and both have left
both_left : (state : State) → sets_in state.guests 0 ≡ handle_left (handle_left with_two 1) 2 → has_member state 0 0 ≡ false
both_left state at = has_member-none state 0 0 (λ handle. ap (λ sets. is_member sets 0 handle) at ∙ none handle)
  where
    none : (handle : ℕ) → is_member (handle_left (handle_left with_two 1) 2) 0 handle ≡ false
    none handle = elim (cases_eq handle 2) [
      | inl e ↦ ap (is_member (handle_left (handle_left with_two 1) 2) 0) e ∙ is_member-left_same (handle_left with_two 1) 2 0
      | inr not_two ↦ is_member-left_other (handle_left with_two 1) 2 0 handle not_two ∙ elim (cases_eq handle 1) [
        | inl e ↦ ap (is_member (handle_left with_two 1) 0) e ∙ is_member-left_same with_two 1 0
        | inr not_one ↦ is_member-left_other with_two 1 0 handle not_one ∙ neither handle not_one not_two
      ]
    ]

abbrev after_steps : ℕ → State
after_steps n = last_state start (take n polled)

gives-polled : AllGive start polled
unfolding performs with_stream operate delivered dropped decode encode items stored
gives-polled = (
  none_ready (after_steps 5) refl refl refl,
  (
    second_ready (after_steps 8) refl refl refl,
    (
      has_two (after_steps 9) refl,
      (
        first_in_set (after_steps 10) refl,
        (both_left (after_steps 13) refl, tt),
      ),
    ),
  ),
)

replies_to-polled : replies_to (steps_of polled) ≡
    replies.Number 0
    ∷ replies.Pair (record { read = 1; write = 2; stream = 0 })
    ∷ replies.Number 3
    ∷ replies.Done
    ∷ replies.Done
    ∷ replies.Member None
    ∷ replies.Code Blocked
    ∷ replies.Code (Completed 1)
    ∷ replies.Member (Some (record { handle = 2; code = Completed 1 }))
    ∷ replies.Refused refusals.SetNotEmpty
    ∷ replies.Refused refusals.LiftInSet
    ∷ replies.Done
    ∷ replies.Done
    ∷ replies.Done
    ∷ []
unfolding performs with_stream operate delivered dropped decode encode items stored
replies_to-polled = replies-by polled gives-polled

-- the write's report is what the poll told
account-polled : account 0 (steps_of polled) ≡ record {
  written = call 0 0 1 (Some (Completed 1)) ∷ [];
  read = call 0 8 1 (Some (Completed 1)) ∷ [];
  count = 1;
  taken = item 0 ∷ [];
  given = item 0 ∷ [];
}
unfolding performs with_stream operate delivered dropped decode encode items stored decoded handed all_handed
account-polled = account-by 0 polled gives-polled

-- ## An end that goes from set to set

-- a join leaves the set before it, which may be dropped then; the set is looked at before the member, and
-- neither a set nor an end stands for the other. A dropped end leaves its set, and numbers are given again
abbrev regrouped : List Answered
regrouped =
    plain (steps.Guest 16)
    ∷ plain (steps.New 0 bytes)
    ∷ plain (steps.SetNew 0)
    ∷ plain (steps.SetNew 0)
    ∷ plain (steps.SetJoin 0 3 1)
    ∷ plain (steps.SetJoin 0 4 1)
    ∷ answered (steps.SetDrop 0 3) false false None
    ∷ plain (steps.SetJoin 0 3 9)
    ∷ plain (steps.SetJoin 0 1 9)
    ∷ plain (steps.SetJoin 0 4 9)
    ∷ plain (steps.SetJoin 0 4 4)
    ∷ plain (steps.SetNew 0)
    ∷ answered (steps.SetDrop 0 4) false true None
    ∷ plain (steps.DropRead 0 bytes 1)
    ∷ answered (steps.SetDrop 0 4) false false None
    ∷ []

abbrev first_home : Sets
first_home = handle_joined fresh 1 0

abbrev second_home : Sets
second_home = handle_joined first_home 1 1

alone : (handle number : ℕ) → handle ≢ 1 → is_member second_home number handle ≡ false
alone handle number ne =
    is_member-joined_other first_home 1 1 number handle ne ∙ is_member-joined_other fresh 1 0 number handle ne ∙ ap (λ o. is_number o number) (get-empty nat_cmp handle)

moved : (handle : ℕ) → is_member second_home 0 handle ≡ false
moved handle = elim (cases_eq handle 1) [
  | inl e ↦ ap (is_member second_home 0) e ∙ is_member-joined_same first_home 1 1 0
  | inr ne ↦ alone handle 0 ne
]

gone : (handle : ℕ) → is_member (handle_left second_home 1) 1 handle ≡ false
gone handle = elim (cases_eq handle 1) [
  | inl e ↦ ap (is_member (handle_left second_home 1) 1) e ∙ is_member-left_same second_home 1 1
  | inr ne ↦ is_member-left_other second_home 1 1 handle ne ∙ alone handle 1 ne
]

abbrev regrouped_steps : ℕ → State
regrouped_steps n = last_state start (take n regrouped)

gives-regrouped : AllGive start regrouped
unfolding performs with_stream operate delivered dropped decode encode items stored
gives-regrouped = (
  has_member-none (regrouped_steps 6) 0 0 moved,
  (
    has_member-some (regrouped_steps 12) 0 1 (record { handle = 1; there = is_member-joined_same first_home 1 1 1 }),
    (has_member-none (regrouped_steps 14) 0 1 gone, tt),
  ),
)

replies_to-regrouped : replies_to (steps_of regrouped) ≡
    replies.Number 0
    ∷ replies.Pair (record { read = 1; write = 2; stream = 0 })
    ∷ replies.Number 3
    ∷ replies.Number 4
    ∷ replies.Done
    ∷ replies.Done
    ∷ replies.Done
    ∷ replies.Refused refusals.UnknownHandle
    ∷ replies.Refused refusals.WrongKind
    ∷ replies.Refused refusals.UnknownHandle
    ∷ replies.Refused refusals.WrongKind
    ∷ replies.Number 3
    ∷ replies.Refused refusals.SetNotEmpty
    ∷ replies.Done
    ∷ replies.Done
    ∷ []
unfolding performs with_stream operate delivered dropped decode encode items stored
replies_to-regrouped = replies-by regrouped gives-regrouped

-- ## Numbers and limits

-- a set gets the number of the table that was freed last, and else the next one
abbrev numbered : List Step
numbered =
    steps.Guest 16
    ∷ steps.New 0 bytes
    ∷ steps.Event 0 0
    ∷ steps.DropRead 0 bytes 1
    ∷ steps.Event 0 1
    ∷ steps.SetNew 0
    ∷ steps.SetNew 0
    ∷ steps.SetNew 1
    ∷ []

replies_to-numbered : replies_to numbered ≡
    replies.Number 0
    ∷ replies.Pair (record { read = 1; write = 2; stream = 0 })
    ∷ replies.Refused refusals.UnknownHandle
    ∷ replies.Done
    ∷ replies.Refused refusals.UnknownHandle
    ∷ replies.Number 1
    ∷ replies.Number 3
    ∷ replies.Refused refusals.UnknownGuest
    ∷ []
unfolding reaction refusal performs with_stream operate delivered dropped
replies_to-numbered = refl

-- a set takes a handle, and a place
abbrev replies_within : ℕ → ℕ → List Step → List Reply
replies_within handles places run = map (λ m. m.reply) (moments (empty 0 (record { handles = handles; places = places })) run)

one_handle : replies_within 1 100 (steps.Guest 16 ∷ steps.New 0 bytes ∷ steps.SetNew 0 ∷ steps.SetNew 0 ∷ []) ≡
    replies.Number 0
    ∷ replies.Refused refusals.HandleLimit
    ∷ replies.Number 1
    ∷ replies.Refused refusals.HandleLimit
    ∷ []
unfolding reaction refusal performs with_stream
one_handle = refl

four_places : replies_within 100 4 (steps.Guest 16 ∷ steps.New 0 bytes ∷ steps.SetNew 0 ∷ steps.SetNew 0 ∷ []) ≡
    replies.Number 0
    ∷ replies.Pair (record { read = 1; write = 2; stream = 0 })
    ∷ replies.Number 3
    ∷ replies.Refused refusals.Full
    ∷ []
unfolding reaction refusal performs with_stream
four_places = refl
