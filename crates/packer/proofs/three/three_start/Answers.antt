-- Too few bytes, at once, or beyond the first byte.
use mathlib.Core.Path.{◌≡◌, sym}
use mathlib.Core.Bool.{false}
use native.Mathlib.Omega.{arith}
use lib.ListN.{length}
use Rattle.packer.specs.Packing.{three}
use Rattle.packer.proofs.Places.{three_same, three_gap, to_end}
use Rattle.packer.proofs.Until.{until_none, until_on}
use Rattle.packer.proofs.Reach.{clear_none, counted_within}
use Rattle.packer.proofs.Passing.{found_none}
use Rattle.packer.proofs.three.three_start.Goals as goal
use Rattle.packer.proofs.three.three_start.Goals.{else-a-b-via-then-a-b+else-a-c, else-a-b-via-else-a-b}

pub returns-in_default : goal.returns-in_default
returns-in_default c =
    let p = c.args.rest.now in
    record { within = omega arith; counted = found_none p 0 (clear_none three p 0) (omega arith) (omega arith) }

pub returns-then-a-c : goal.returns-then-a-c
returns-then-a-c c =
    let p = c.args.rest.now in
    record { within = omega arith; counted = sym (until_none three (length p) p (three_same p 0 (omega arith) (sym c.if-a-b.true) (sym c.if-a-c.true))) }

pub returns : goal.returns
returns c =
    let p = c.args.rest.now in
    let none : three p ≡ false =
    elim c.else-a-b.branch [
      | else-a-b-via-then-a-b+else-a-c w ↦ three_gap p 0 2 (omega arith) (omega arith) (λ e. w.if-a-c.false (sym e))
      | else-a-b-via-else-a-b w ↦ three_gap p 0 1 (omega arith) (omega arith) (λ e. w.if-a-b.false (sym e))
    ] in
    let counted = until_on three p _ (to_end p 1) (omega arith) none c.three_beyond.ensures.counted in
    record { within = counted_within three p _ counted; counted = counted }
