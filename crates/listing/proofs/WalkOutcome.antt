-- What the one walk of an input leaves, in the words of the listing: behind a file header that passes, and where it is refused. Each entry
-- point of the crate is a walk with a room, a table and a question of its own, and takes its contract from here.
use mathlib.Core.Path.{◌≡◌, refl, ap, ◌∙◌}
use mathlib.Core.Bool.{true, false}
use mathlib.Core.List.{List, ◌++◌}
use Prim.Native.Nat.{ℕ, ◌-◌, ◌*◌, ◌/◌, ◌≤◌}
use native.Mathlib.Omega.{arith}
use borrow.Author.Tests.{ltb-true}
use lib.ListN.{length, take, drop}
use lib.Seq.{take_all}
use Rattle.laws.proofs.Choice.{pick_ind}
use Rattle.answer.specs.Answers.{answer_number, is_accepted}
use Rattle.entry.specs.declared.Entry.{Entry}
use Rattle.entry.specs.Entry.{size, numbers, stored, keep, write}
use Rattle.entry.proofs.Table.{write_all}
use Rattle.walk.specs.Walk.{run}
use Rattle.walk.specs.Room.{Listed, cut, Walked}
use Rattle.walk.proofs.Cut.{cut_room}
use Rattle.walk.proofs.KeptAlong.{walked_along}
use Rattle.headers.specs.FileHeader.{file_header_size}
use Rattle.memory.specs.Parent.{main}
use Rattle.memory.specs.State.{start}
use Rattle.block.specs.Step.{step_at}
use Rattle.listing.specs.declared.question.Question.{Question}
use Rattle.listing.specs.declared.walker.Out.{Out}
use Rattle.listing.specs.Question.{found_in, nothing, noted, Kept, kept, put}
use Rattle.listing.specs.Listing.{head_of, beyond, listing, listed, told, tabled, room_up_to, lists_up_to, left_by}
use Rattle.listing.specs.Walks.{Walks}
use Rattle.listing.proofs.Noted.{noted_all}
use Rattle.listing.proofs.Heads.{head_count, behind_head, refused_head}

module _ (s : List ℕ) (room : ℕ) (t : List ℕ) (q : Question) where
  -- behind the header
  pub walked_leaves :
      is_accepted (head_of s).answer ≡ true → (o : Out) (after : List ℕ)
      → Walked (put q) (run (step_at s) (length s) start file_header_size beyond main) room 0 (kept t nothing) o.outcome o.state (kept after o.found)
      → Walks s room t q o after
  walked_leaves good o after m =
      let w = run (step_at s) (length s) start file_header_size beyond main in
      let all : room - 0 ≡ room = omega arith in
      let same : cut (room - 0) w ≡ listed s room = rw (behind_head s good) (ap (λ (n : ℕ). cut n w) all) in
      let table = walked_along (put q) stored (λ (k : Kept). k.table) (λ k i e. refl) w room 0 (kept t nothing) o.outcome o.state (kept after o.found) m in
      let found = walked_along (put q) (λ x i e. noted q x e) (λ (k : Kept). k.found) (λ k i e. refl) w room 0 (kept t nothing) o.outcome o.state (kept after o.found) m in
      let count : o.outcome.count ≡ length (cut (room - 0) w).entries = omega (arith, m.count) in
      record {
        answer = (λ i. record { number = answer_number (m.answer i); place = m.place i; count = count i }) ∙ ap told same;
        stores = table.kept ∙ ap (λ (r : Listed). write t 0 r.entries) same;
        finds = found.kept ∙ noted_all q (cut (room - 0) w).entries ∙ ap (λ (r : Listed). found_in q r.entries) same;
      }

  -- a header that is refused
  pub refused_leaves : is_accepted (head_of s).answer ≡ false → Walks s room t q (record { outcome = head_of s; state = start; found = nothing }) t
  unfolding keep
  refused_leaves bad = record {
    answer = rw (refused_head s room bad) (ap (λ (n : ℕ). record { number = answer_number (head_of s).answer; place = (head_of s).place; count = n }) (head_count s));
    stores = rw (refused_head s room bad);
    finds = rw (refused_head s room bad) (noted_all q _);
  }

-- a table that reaches as far as the room
module _ (s t : List ℕ) (q : Question) (r : Out) (after : List ℕ) where
  pub list_up_to_leaves : (most : ℕ) → Walks s (room_up_to most t) t q r after → left_by r.outcome after ≡ lists_up_to s most t
  unfolding lists_up_to
  list_up_to_leaves most w =
      let room = room_up_to most t in
      let a = listed s room in
      let low : room ≤ length t / size =
      pick_ind (λ (n : ℕ). n ≤ length t / size) _ _ _ (λ less. omega (arith, ltb-true most (length t / size) less)) (λ _. omega arith) in
      let all : take (length t / size) a.entries ≡ a.entries = take_all (length t / size) a.entries (omega (arith, cut_room room (listing s))) in
      let table : after ≡ tabled a t =
      w.stores ∙ write_all a.entries t ∙ ap (λ (es : List Entry). numbers es ++ drop (size * length es) t) all in
      λ i. record { told = w.answer i; dest = table i }
