-- A walk behind a good file header answers 0, 2, 5 to 11 or 12: the header's own answers are never a walk's.
use mathlib.Core.Path.{◌≡◌, refl, subst⁻¹}
use mathlib.Core.Bool.{Bool, true, ◌&&◌, ◌||◌}
use mathlib.Core.List.{List}
use Prim.Native.Nat.{ℕ}
use native.Mathlib.Omega.{arith}
use lib.Dec.{eqb, leb}
use lib.ListN.{length}
use Rattle.std.specs.Prelude.{Err}
use Rattle.answer.specs.declared.Refusal.{Refusal}
use Rattle.answer.specs.declared.Refusal.TheVariants.{EndsTooSoon, WrongMark, WrongLength, OutOfPlace, WrongField, NotExpected, Missing, NotReadable}
use Rattle.answer.specs.Answers.{Answer, answer_number, is_accepted}
use Rattle.answer.specs.declared.Stopped.TheVariants.{Rule}
use Rattle.walk.specs.Walk.{Step, Listing, run}
use Rattle.walk.specs.Room.{Listed, cut}
use Rattle.walk.specs.Course.{Says, at_end, by_rule}
use Rattle.walk.proofs.Course.{run_led}
use Rattle.walk.proofs.Cut.{cut_case}
use Rattle.headers.specs.FileHeader.{file_header_size}
use Rattle.memory.specs.declared.state.State.{State}
use Rattle.memory.specs.Parent.{main}
use Rattle.memory.specs.State.{start}
use Rattle.block.specs.Step.{step_at}
use Rattle.block.proofs.Owed.{moves}
use Rattle.listing.specs.Listing.{head_of, beyond, listed}
use Rattle.listing.proofs.Heads.{behind_head}

abbrev is_told : ℕ → Bool
is_told n = eqb n 0 || eqb n 2 || (leb 5 n && leb n 12)

refusal_told : (r : Refusal) → is_told (answer_number (Err (Rule r))) ≡ true
refusal_told EndsTooSoon = refl
refusal_told WrongMark = refl
refusal_told WrongLength = refl
refusal_told OutOfPlace = refl
refusal_told WrongField = refl
refusal_told NotExpected = refl
refusal_told Missing = refl
refusal_told NotReadable = refl

said_told : {at p : ℕ} {a : Answer} {k : Step State} → Says at a p k → is_told (answer_number a) ≡ true
said_told at_end = refl
said_told (by_rule {r}) = refusal_told r

pub told_numbers :
    (s : List ℕ) (room : ℕ) → is_accepted (head_of s).answer ≡ true → is_told (answer_number (listed s room).answer) ≡ true
told_numbers s room good =
    let w = run (step_at s) (length s) start file_header_size beyond main in
    let l = run_led main (length s) (step_at s) (moves s) main (omega arith) start file_header_size beyond (omega arith) in
    subst⁻¹ (λ (x : Listing State). is_told (answer_number (cut room x).answer) ≡ true) (behind_head s good)
    (cut_case (λ (r : Listed). is_told (answer_number r.answer) ≡ true) room w (λ _. said_told l.says)
    (λ r full f. subst⁻¹ (λ (a : Answer). is_told (answer_number a) ≡ true) full refl))
