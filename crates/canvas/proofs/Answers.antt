-- The answers: each is told by its number alone, so the contract of `place` leaves one outcome for every input.
use mathlib.Core.Path.{◌≡◌, refl}
use Prim.Native.Nat.{ℕ}
use lib.Dec.{eqb}
use Rattle.std.specs.Prelude.{Result, Ok, Err}
use Rattle.laws.specs.Choice.{pick}
use Rattle.laws.specs.Outcomes.{OneOutcome}
use Rattle.laws.proofs.OneOutcome.{result_one}
use Rattle.canvas.specs.Placing.{place_paper}
use Rattle.canvas.specs.declared.PlaceError.{PlaceError}
use Rattle.canvas.specs.declared.PlaceError.TheVariants.{BadCanvas, BadRect, BadPlane}
use Rattle.canvas.proofs.placer.place.Reads as place

-- the answer that a number tells of
answer_of : ℕ → Result (Unit {0}) PlaceError
answer_of n = pick (eqb n 0) (Ok tt) (pick (eqb n 40) (Err BadCanvas) (pick (eqb n 41) (Err BadRect) (Err BadPlane)))

answer_back : (a : Result (Unit {0}) PlaceError) → answer_of (place_paper a) ≡ a
unfolding answer_of pick
answer_back (Ok done) = refl
answer_back (Err BadCanvas) = refl
answer_back (Err BadRect) = refl
answer_back (Err BadPlane) = refl

pub place_one : OneOutcome (λ l e. e.1.1.0.now) place.Learnt
place_one l a y z e f = result_one place_paper answer_of answer_back _ y z _ _
