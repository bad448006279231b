-- The answers: each is told by its paper alone, so the contract leaves one outcome for every input.
use mathlib.Core.Path.{◌≡◌, refl}
use Prim.Native.Nat.{ℕ}
use lib.Dec.{eqb}
use Rattle.std.specs.Prelude.{Result, Ok, Err}
use Rattle.laws.specs.Choice.{pick}
use Rattle.laws.specs.Outcomes.{OneOutcome}
use Rattle.laws.proofs.OneOutcome.{result_one}
use Rattle.packer.specs.declared.told.Packed.{Packed}
use Rattle.packer.specs.declared.PackError.{PackError}
use Rattle.packer.specs.declared.PackError.TheVariants.{NoRoom, OverLimit}
use Rattle.packer.specs.Packing.{paper}
use Rattle.packer.proofs.form.pack.Reads as pack

-- the answer that a paper tells of
answer_of : Packed → Result ℕ PackError
answer_of p = pick (eqb p.number 0) (Ok p.length) (pick (eqb p.number 30) (Err NoRoom) (Err OverLimit))

answer_back : (a : Result ℕ PackError) → answer_of (paper a) ≡ a
unfolding answer_of pick
answer_back (Ok n) = refl
answer_back (Err NoRoom) = refl
answer_back (Err OverLimit) = refl

pub pack_one : OneOutcome (λ l e. e.1.0.now) pack.Learnt
pack_one l a y z e f = result_one paper answer_of answer_back _ y z _ _
