-- One block more in each iteration.
use mathlib.Core.Path.{sym, ap, subst, ◌∙◌}
use mathlib.Core.List.{List}
use Prim.Native.Nat.{ℕ, ◌≤◌}
use native.Mathlib.Omega.{arith}
use lib.ListN.{length, get_or}
use Rattle.packer.specs.Packing.{other_than}
use Rattle.packer.proofs.Places.{other_front}
use Rattle.packer.proofs.Reach.{Behind, behind_first, behind_more}
use Rattle.packer.proofs.equal.equal_blocks.Goals as goal

pub loop-block-init : goal.loop-block-init
loop-block-init c = behind_first (other_than c.args.byte) c.args.rest.now

pub loop-block-preserved : goal.loop-block-preserved
loop-block-preserved c =
    let a = c.args in
    let left = c.loop-block.left.now in
    let cases = c.in-Some.ensures.cases in
    let long : 32 ≤ length left = omega (arith, cases.2) in
    subst (Behind (other_than a.byte) a.rest.now) (sym cases.1)
    (behind_more (other_than a.byte) a.rest.now left 32 c.loop-block.invariant long
    (λ k h. other_front left 32 k a.byte h (ap (λ (l : List ℕ). get_or l k 0) (sym cases.0) ∙ c.all_equal.ensures c.if-not-all_equal.false k h)))

pub returns : goal.returns
returns c = record { within = omega arith; before = λ k below. c.loop-block.invariant.clear k (omega arith) below }
