-- The answers: each is told by its paper alone, so a contract leaves one outcome for every input.
use mathlib.Core.Path.{◌≡◌, refl, sym, ap, ◌∙◌}
use mathlib.Core.List.{List, ◌++◌}
use Prim.Native.Nat.{ℕ, ◌≤◌}
use native.Mathlib.Omega.{arith}
use borrow.Author.Tests.{le-ltb}
use lib.Dec.{eqb}
use lib.ListN.{length, take, drop}
use lib.Seq.{length-take-le}
use Rattle.laws.specs.Choice.{pick}
use Rattle.laws.specs.Outcomes.{OneOutcome}
use Rattle.packet.specs.Stream.{Outcome, bytes, refused, meaning}
use Rattle.std.specs.Prelude.{Ok, Err}
use Rattle.packet.specs.Reading.{PlaneAnswer, paper, left_by, verdict, laid, unpacked}
use Rattle.packet.specs.declared.told.Plane.{Plane}
use Rattle.packet.specs.declared.answer.PlaneError.{PlaneError}
use Rattle.packet.specs.declared.answer.PlaneError.TheVariants.{NoRoom, Count128, Missing, TooMuch, UnknownCode, RawLength, OverLimit, Outside}
use Rattle.laws.proofs.Choice.{pick_no}
use Rattle.laws.proofs.OneOutcome.{result_one}
use Rattle.reading.proofs.plane.read_plane.Reads as read-plane
use Rattle.reading.proofs.packets.unpack.Reads as unpack

-- the answer that a paper tells of
answer_of : Plane → PlaneAnswer
answer_of p =
    pick (eqb p.number 0) (Ok (record { stored = p.place; plane = p.bytes }))
    (pick (eqb p.number 20) (Err NoRoom)
    (pick (eqb p.number 21) (Err (Count128 p.place))
    (pick (eqb p.number 22) (Err (Missing p.place))
    (pick (eqb p.number 23) (Err (TooMuch p.place))
    (pick (eqb p.number 24) (Err UnknownCode)
    (pick (eqb p.number 25) (Err RawLength)
    (pick (eqb p.number 26) (Err OverLimit)
    (Err Outside))))))))

answer_back : (a : PlaneAnswer) → answer_of (paper a) ≡ a
unfolding answer_of pick
answer_back (Ok read) = refl
answer_back (Err NoRoom) = refl
answer_back (Err (Count128 place)) = refl
answer_back (Err (Missing place)) = refl
answer_back (Err (TooMuch place)) = refl
answer_back (Err UnknownCode) = refl
answer_back (Err RawLength) = refl
answer_back (Err OverLimit) = refl
answer_back (Err Outside) = refl

pub unpack_one : OneOutcome (λ l e. e.1.0.now) unpack.Learnt
unpack_one l a y z e f = result_one paper answer_of answer_back _ y z _ _

pub read_plane_one : OneOutcome (λ l e. e.1.1.1.1.1.0.now) read-plane.Learnt
read_plane_one l a y z e f = result_one paper answer_of answer_back _ y z _ _

-- an answer that is not the whole plane leaves the destination as it was
left_alone :
    (a : PlaneAnswer) (stored plane : ℕ) (dest : List ℕ) (o : Outcome) → ((paper a).number ≡ 0 → ⊥)
    → paper a ≡ verdict stored plane o → dest ≡ laid plane dest o
left_alone a stored plane dest (bytes xs) other e = absurd (other (ap (λ (p : Plane). p.number) e))
left_alone a stored plane dest (refused number place) other e = refl

-- the plane that is written into the front of a destination
pub laid_front :
    (stream : List ℕ) (plane : ℕ) (dest ys : List ℕ) → plane ≤ length dest → meaning stream (length (take plane dest)) ≡ bytes ys
    → ys ++ drop plane dest ≡ laid plane dest (meaning stream plane)
laid_front stream plane dest ys h e = sym (ap (laid plane dest) (ap (meaning stream) (sym (length-take-le plane dest h)) ∙ e))

-- what the two passes leave is what the definition says
pub unpacked_is :
    (stream : List ℕ) (plane : ℕ) (dest : List ℕ) (a : PlaneAnswer) (after : List ℕ) → plane ≤ length dest
    → paper a ≡ verdict (length stream) plane (meaning stream plane) → after ≡ laid plane dest (meaning stream plane)
    → left_by a after ≡ unpacked stream plane dest
unfolding unpacked
unpacked_is stream plane dest a after h e f =
    ◌∙◌ {b = record { told = verdict (length stream) plane (meaning stream plane); dest = laid plane dest (meaning stream plane) }}
    (λ i. record { told = e i; dest = f i }) (sym (pick_no _ _ _ (le-ltb (length dest) plane h)))

-- a refusal has a number
numbered : (e : PlaneError) → (paper (Err e)).number ≡ 0 → ⊥
numbered NoRoom z = omega arith
numbered (Count128 place) z = omega arith
numbered (Missing place) z = omega arith
numbered (TooMuch place) z = omega arith
numbered UnknownCode z = omega arith
numbered RawLength z = omega arith
numbered OverLimit z = omega arith
numbered Outside z = omega arith

pub unpacked_refused :
    (stream : List ℕ) (plane : ℕ) (dest : List ℕ) (e : PlaneError) → plane ≤ length dest
    → paper (Err e) ≡ verdict (length stream) plane (meaning stream plane) → left_by (Err e) dest ≡ unpacked stream plane dest
unpacked_refused stream plane dest e h says =
    unpacked_is stream plane dest (Err e) dest h says (left_alone (Err e) (length stream) plane dest (meaning stream plane) (numbered e) says)
