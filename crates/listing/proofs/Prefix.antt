-- More input never takes anything back: what is listed of a beginning stands in the whole, and two inputs agree on what lies wholly in a
-- beginning that they share. So a file may be listed as it comes in.
use mathlib.Core.Path.{◌≡◌, sym, ap, ◌∙◌}
use mathlib.Core.Logic.{⊎_elim}
use mathlib.Core.Bool.{true}
use mathlib.Core.List.{List, ◌++◌}
use Prim.Native.Nat.{ℕ, ◌+◌, ◌≤◌, ◌<◌}
use native.Mathlib.Omega.{arith}
use lib.ListN.{length, take, drop, get_or, take-append-drop}
use lib.Seq.{length-take-le}
use Rattle.limits.specs.Limits.{input_limit}
use Rattle.laws.specs.Choice.{pick}
use Rattle.laws.specs.Front.{Front}
use Rattle.laws.proofs.Choice.{pick_ind₂}
use Rattle.laws.proofs.Tests.{yes_or_no}
use Rattle.laws.proofs.All.{all_at}
use Rattle.laws.proofs.Front.{front_refl, front_take}
use Rattle.answer.specs.declared.Outcome.{Outcome}
use Rattle.answer.specs.Answers.{is_accepted}
use Rattle.entry.specs.declared.Entry.{Entry}
use Rattle.walk.specs.Walk.{Listing}
use Rattle.walk.specs.Room.{cut}
use Rattle.walk.specs.Promised.{Stands}
use Rattle.walk.proofs.Cut.{cut_entries}
use Rattle.walk.proofs.Prefix.{ended_stands, soon_stands, prefix}
use Rattle.walk.proofs.Agree.{agree}
use Rattle.walk.proofs.Tiling.{tiles_above}
use Rattle.headers.specs.FileHeader.{file_header_size}
use Rattle.memory.specs.declared.state.State.{State}
use Rattle.memory.specs.Parent.{main}
use Rattle.memory.specs.State.{start}
use Rattle.block.specs.Step.{step_at}
use Rattle.block.proofs.Owed.{rules, prompt}
use Rattle.listing.specs.Listing.{head_of, beyond, behind, listing, listed}
use Rattle.listing.proofs.Heads.{behind_head, head_longer, refused_empty}
use Rattle.listing.proofs.Tiled.{found_before}

-- both listings, by a header that they share
behind_both : (s t : List ℕ) (room more : ℕ) → room ≤ more → (h : Outcome) → Stands (cut room (behind s h)) (cut more (behind (s ++ t) h))
behind_both s t room more le h =
    pick_ind₂ (λ (w w' : Listing State). Stands (cut room w) (cut more w')) (is_accepted h.answer) _ _ _ _
    (λ _. prefix main step_at rules s t start file_header_size beyond (omega arith) room more le) (λ _. ended_stands h.answer h.place start room more)

-- the entries of a beginning stand in front of those of the whole, and any refusal but "ends too soon" and "table full" stands as it is
pub beginning :
    (s t : List ℕ) (room more : ℕ) → length (s ++ t) ≤ input_limit → room ≤ more → Stands (listed s room) (listed (s ++ t) more)
unfolding listing pick
beginning s t room more small le =
    ⊎_elim (λ soon. rw soon.0 (soon_stands 0 start room (listed (s ++ t) more))) (λ same. rw same (behind_both s t room more le (head_of (s ++ t)))) (head_longer s t small)

-- a larger room lists at least as many entries, and the same ones in front
pub more_room : (s : List ℕ) (room more : ℕ) → room ≤ more → Front (listed s room).entries (listed s more).entries
more_room s room more le =
    rw (cut_entries room (listing s), cut_entries more (listing s)) (front_take (front_refl (listing s).entries) room more le)

-- ### Two inputs with a common beginning

-- entries come behind a header that passes only, and from its end on
module _ (s : List ℕ) (room k : ℕ) (d : Entry) (some : k < length (listed s room).entries) where
  pub listed_good : is_accepted (head_of s).answer ≡ true
  listed_good = yes_or_no (is_accepted (head_of s).answer) (λ e. e) (λ e. absurd (omega (arith, ap length (refused_empty s room e))))

  pub listed_behind : file_header_size ≤ (get_or (listed s room).entries k d).block.place
  listed_behind = all_at (tiles_above file_header_size (omega arith) (found_before s room listed_good).tiles) k d some

module _ (s t t' : List ℕ) (room k : ℕ) (d : Entry) (small : length (s ++ t) ≤ input_limit) (small' : length (s ++ t') ≤ input_limit) where
  abbrev Same : Type 0
  Same = (k < length (listed (s ++ t') room).entries) × (get_or (listed (s ++ t') room).entries k d ≡ get_or (listed (s ++ t) room).entries k d)

  -- an entry that lies wholly in the common beginning is listed of both, at the same position
  pub agreed :
      k < length (listed (s ++ t) room).entries
      → (get_or (listed (s ++ t) room).entries k d).block.place + (get_or (listed (s ++ t) room).entries k d).block.owned ≤ length s → Same
  agreed some inside =
      let behind = listed_behind (s ++ t) room k d some in
      let good = listed_good (s ++ t) room k d some in
      let whole : length s < file_header_size → Same = λ short. absurd (omega arith) in
      ⊎_elim (λ soon. whole soon.1) (λ same. ⊎_elim (λ soon. whole soon.1) (λ same'.
      let is = behind_head (s ++ t) good in
      let is' = behind_head (s ++ t') (ap (λ (h : Outcome). is_accepted h.answer) (sym same' ∙ same) ∙ good) in
      rw (is', is) (agree main step_at rules prompt start file_header_size beyond (omega arith) room s t t' k d (rw is at some) (rw is at inside)))
      (head_longer s t' small')) (head_longer s t small)

-- the same of two inputs that agree on their first n bytes
pub agreed_on :
    (x y : List ℕ) (n room k : ℕ) (d : Entry) → n ≤ length x → take n x ≡ take n y → length x ≤ input_limit → length y ≤ input_limit
    → k < length (listed x room).entries → (get_or (listed x room).entries k d).block.place + (get_or (listed x room).entries k d).block.owned ≤ n
    → (k < length (listed y room).entries) × (get_or (listed y room).entries k d ≡ get_or (listed x room).entries k d)
agreed_on x y n room k d there same small small' some inside =
    let split : take n x ++ drop n x ≡ x = take-append-drop n x in
    let split' : take n x ++ drop n y ≡ y = ap (λ (b : List ℕ). b ++ drop n y) same ∙ take-append-drop n y in
    let len : length (take n x) ≡ n = length-take-le n x there in
    rw (split, split') at (agreed (take n x) (drop n x) (drop n y) room k d (rw split small) (rw split' small') (rw split some) (rw (split, len) inside))
