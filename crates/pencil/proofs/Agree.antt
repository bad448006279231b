-- The pencil gives what the listing has, and nothing else; and the listing is all that the pencil gives.
use mathlib.Core.Path.{◌≡◌, refl, sym, ap, subst, ◌∙◌}
use mathlib.Core.Bool.{true, false}
use mathlib.Core.List.{List, []}
use Prim.Native.Nat.{ℕ, zero, suc, ◌+◌, ◌*◌, ◌/◌, ◌≤◌, ◌<◌}
use native.Mathlib.Omega.{arith}
use borrow.Author.Tests.{lt-ltb, le-ltb}
use lib.ListN.{length, drop, get_or}
use lib.Seq.{ext_get_or}
use Rattle.std.specs.Prelude.{Ok, Err}
use Rattle.std.specs.declared.ops.ControlFlow.TheVariants.{Break}
use Rattle.laws.proofs.Choice.{pick_yes, pick_no}
use Rattle.laws.proofs.Tests.{yes_or_no}
use Rattle.answer.specs.declared.Outcome.{Outcome}
use Rattle.answer.specs.Answers.{is_accepted}
use Rattle.entry.specs.declared.Entry.{Entry}
use Rattle.entry.specs.Entry.{size, nowhere}
use Rattle.entry.proofs.Table.{entry_is}
use Rattle.walk.specs.Room.{Listed}
use Rattle.walk.proofs.Cut.{plain}
use Rattle.listing.specs.Listing.{head_of, listed, lists}
use Rattle.listing.proofs.Heads.{head_count, refused_head}
use Rattle.pencil.specs.declared.paper.Paper.{Paper}
use Rattle.pencil.specs.Pencil.{Reply, Turn, first, turn_at, Leads, says, goes, Pencil, header, blocks}
use Rattle.pencil.specs.Agrees.{answer_of, asked, Agrees, AgreesWith}
use Rattle.pencil.proofs.Turns.{left, Reached, at_first, Next, last, on, next, gone}

-- ### A listing, asked

asked_entry : (a : Listed) (k : ℕ) → k < length a.entries → asked a k ≡ Ok (get_or a.entries k nowhere)
unfolding asked
asked_entry a k low = pick_yes _ _ _ (lt-ltb k (length a.entries) low)

asked_past : (a : Listed) (k : ℕ) → length a.entries ≤ k → asked a k ≡ Err (answer_of a)
unfolding asked
asked_past a k past = pick_no _ _ _ (le-ltb k (length a.entries) past)

-- what a reply has
entry_in : Reply → Entry
entry_in (Ok e) = e
entry_in (Err o) = nowhere

outcome_in : Outcome → Reply → Outcome
outcome_in d (Ok e) = d
outcome_in d (Err o) = o

-- two listings with the same replies are one
module _ (a b : Listed) (same : (k : ℕ) → asked a k ≡ asked b k) where
  outcome_same : answer_of a ≡ answer_of b
  unfolding outcome_in
  outcome_same =
      let k = length a.entries + length b.entries in
      ap (outcome_in (answer_of a)) (sym (asked_past a k (omega arith)) ∙ same k ∙ asked_past b k (omega arith))

  count_same : length a.entries ≡ length b.entries
  count_same = ap (λ (o : Outcome). o.count) outcome_same

  entries_same : a.entries ≡ b.entries
  unfolding entry_in
  entries_same =
      ext_get_or nowhere a.entries b.entries count_same
      (λ k low. ap entry_in (sym (asked_entry a k low) ∙ same k ∙ asked_entry b k (omega (arith, count_same))))

  listing_same : a ≡ b
  listing_same = λ i. record { answer = (outcome_same i).answer; place = (outcome_same i).place; entries = entries_same i }

-- ### Behind a file header that passes

module _ (s : List ℕ) (room k : ℕ) where
  abbrev reply : Reply
  reply = asked (listed s room) k

  module _ (good : is_accepted (head_of s).answer ≡ true) where
    -- it comes to an end
    step : {p : Paper} {t : Turn} → turn_at s room k p ≡ t → Next s good room k p t
        → ((q : Paper) → Reached s good room k q → left s q < left s p → Leads s room k q reply) → Leads s room k p reply
    step is (last e) rest = says (is ∙ ap Break e)
    step is (on {q} r less) rest = goes is (rest q r less)

    leads : (n : ℕ) {p : Paper} → left s p < n → Reached s good room k p → Leads s room k p reply
    leads zero few r = absurd (omega arith)
    leads (suc n) few r = step refl (next s good room k r) (λ q r' less. leads n (omega arith) r')

    -- and says nothing else
    said : {p : Paper} {r : Reply} → Next s good room k p (Break r) → r ≡ reply
    said (last e) = e

    leads_only : {p : Paper} {r : Reply} → Reached s good room k p → Leads s room k p r → r ≡ reply
    leads_only {p} x (says is) = said (subst (Next s good room k p) is (next s good room k x))
    leads_only {p} x (goes is l) = leads_only (gone s good room k (subst (Next s good room k p) is (next s good room k x))).0 l

  -- ### A header that is refused

  refused_is : is_accepted (head_of s).answer ≡ false → Err (head_of s) ≡ reply
  refused_is bad =
      let none : head_of s ≡ answer_of (plain (head_of s).answer (head_of s).place []) =
      λ i. record { answer = (head_of s).answer; place = (head_of s).place; count = head_count s i } in
      ap Err none ∙ sym (asked_past (plain (head_of s).answer (head_of s).place []) k (omega arith)) ∙ ap (λ (a : Listed). asked a k) (sym (refused_head s room bad))

  -- ### For every input, room and k

  pencil_gives : Pencil s room k reply
  pencil_gives =
      yes_or_no (is_accepted (head_of s).answer) (λ good. blocks good (leads good (suc (left s first)) (omega arith) (at_first s good room k)))
      (λ bad. subst (Pencil s room k) (refused_is bad) (header bad))

  pencil_only : (r : Reply) → Pencil s room k r → r ≡ reply
  pencil_only r (header bad) = refused_is bad
  pencil_only r (blocks good l) = leads_only good (at_first s good room k) l

pub agrees : (s : List ℕ) (room : ℕ) → Agrees s room
agrees s room = record {
  gives = pencil_gives s room;
  only = pencil_only s room;
  back = λ a all. listing_same a (listed s room) (λ k. pencil_only s room k (asked a k) (all k));
}

-- ### The same of a table

pub agrees_with : (s table : List ℕ) → AgreesWith s table
unfolding lists
agrees_with s table =
    let a = listed s (length table / size) in
    let es = a.entries in
    record {
      entry = λ k r low gives.
          pencil_only s (length table / size) k r gives
          ∙ asked_entry a k low
          ∙ ap Ok (sym (entry_is es (drop (size * length es) table) k nowhere low));
      answer = λ k r past gives. (answer_of a, (pencil_only s (length table / size) k r gives ∙ asked_past a k past, refl));
    }
