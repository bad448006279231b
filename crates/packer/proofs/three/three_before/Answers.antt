-- At once, at the third equal byte, behind each byte that goes by, and at the end.
use mathlib.Core.Path.{◌≡◌, sym, ap, subst, ◌∙◌}
use mathlib.Core.List.{List, ◌∷◌}
use Prim.Native.Nat.{ℕ, ◌+◌, ◌<◌}
use native.Mathlib.Numerals.{add-one}
use native.Mathlib.Omega.{arith}
use borrow.Author.Tests.{eq-eqb, eqb-true, eqb-false}
use lib.ListN.{length, get_or}
use Rattle.laws.proofs.Tests.{both, other_not}
use Rattle.packer.proofs.Passing.{Passing, passing_first, passing_more, passing_other, passing_three, passing_end}
use Rattle.packer.proofs.three.three_before.Goals as goal
use Rattle.packer.proofs.three.three_before.Goals.{then-equal, else-equal}

-- the first byte, and those behind it
module _ (p : List ℕ) {first : ℕ} {others : List ℕ} (e : p ≡ first ∷ others) where
  first_is : get_or p 0 0 ≡ first
  first_is = ap (λ (l : List ℕ). get_or l 0 0) e

  other_is : (i : ℕ) → get_or p (i + 1) 0 ≡ get_or others i 0
  other_is i = ap (λ (l : List ℕ). get_or l (i + 1) 0) e ∙ ap (λ (n : ℕ). get_or (first ∷ others) n 0) (add-one i)

pub loop-i-init : goal.loop-i-init
loop-i-init c =
    let p = c.args.rest.now in
    let end = length p in
    let cases = c.in-Some.ensures.cases in
    let some : 0 < end = omega (arith, cases.1) in
    let P : ℕ → Type 0 = λ byte. Passing p 0 end byte 1 1 in
    subst P (first_is p cases.0) (passing_first p 0 end (λ none. omega arith) (omega arith))

pub returns-then-equal-same : goal.returns-then-equal-same
returns-then-equal-same c =
    let p = c.args.rest.now in
    let end = length p in
    let i = c.loop-i.i in
    let cases = c.in-Some.ensures.cases in
    let less : i + 1 < end = omega (arith, cases.1) in
    let t = both _ _ c.if-equal-same.true in
    let found = passing_three p 0 end _ _ (i + 1) c.loop-i.invariant less (omega arith) (other_is p cases.0 i ∙ eqb-true _ _ t.0) (eqb-true _ _ t.1) in
    record { within = omega (arith, eqb-true _ _ t.1); before = λ k below. found.2 k (omega arith) below; found = found.3 }

pub loop-i-preserved : goal.loop-i-preserved
loop-i-preserved c =
    let p = c.args.rest.now in
    let end = length p in
    let l = c.loop-i in
    let cases = c.in-Some.ensures.cases in
    let less : l.i + 1 < end = omega (arith, cases.1) in
    let other = other_is p cases.0 l.i in
    let Now : ℕ → ℕ → Type 0 = λ byte same. Passing p 0 end byte same (l.i + 1 + 1) in
    elim c.if-equal.branch [
      | then-equal w ↦
          let e = w.if-equal.true in
          let twice = passing_more p 0 end _ _ (l.i + 1) l.invariant less (other ∙ e) (eqb-false _ _ (other_not _ _ c.if-equal-same.false (eq-eqb _ _ e))) in
          subst (λ (byte : ℕ). Now byte c.if-equal.same) (other ∙ sym w.byte-is) (subst (Now (get_or p (l.i + 1) 0)) (sym w.same-is) twice)
      | else-equal w ↦
          let once = passing_other p 0 end _ _ (l.i + 1) l.invariant less (λ e. w.if-equal.false (sym other ∙ e)) in
          subst (λ (byte : ℕ). Now byte c.if-equal.same) (other ∙ sym w.byte-is) (subst (Now (get_or p (l.i + 1) 0)) (sym w.same-is) once)
    ]

pub returns : goal.returns
returns c =
    let p = c.args.rest.now in
    let end = length p in
    let i = c.loop-i.invariant in
    let all : c.loop-i.i + 1 ≡ end = omega (arith, i.below, c.in-Some.ensures.cases.1) in
    let found = passing_end p 0 end _ _ _ i (omega arith) in
    record { within = omega arith; before = λ k below. found.2 k (omega arith) (omega (arith, i.few)); found = λ long. absurd (omega arith) }
