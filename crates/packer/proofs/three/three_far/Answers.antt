-- Behind whole blocks, or nowhere.
use mathlib.Core.Path.{◌≡◌, sym, ap, ◌∙◌}
use mathlib.Core.Bool.{true, false}
use mathlib.Core.List.{List}
use Prim.Native.Nat.{ℕ, ◌+◌, ◌<◌}
use native.Mathlib.Omega.{arith}
use lib.ListN.{drop}
use lib.Seq.{drop-drop}
use Rattle.packer.specs.Packing.{three}
use Rattle.packer.proofs.Places.{to_end}
use Rattle.packer.proofs.Reach.{Clear, clear_front, clear_join, clear_rest, counted_within}
use Rattle.packer.proofs.Passing.{found_here, found_none}
use Rattle.packer.proofs.three.three_far.Goals as goal

-- three equal bytes start nowhere in the blocks, and in what is left before a place
far_clear :
    (p : List ℕ) (far last : ℕ) {r : List ℕ} → r ≡ drop far p → ((k : ℕ) → k < far → three (drop k p) ≡ false)
    → ((k : ℕ) → k < last → three (drop k r) ≡ false) → Clear three p 0 (far + last)
far_clear p far last e blocks behind =
    clear_join three p 0 far (far + last) (clear_front three p far blocks) (clear_rest three p far last e behind)

pub returns-then-rest-last-ge3 : goal.returns-then-rest-last-ge3
returns-then-rest-last-ge3 c =
    let p = c.args.rest.now in
    let far = c.plain_blocks-far.result in
    let last = c.three_before in
    let here : three (drop (far + last.result) p) ≡ true =
    ap three (sym (drop-drop last.result far p)) ∙ ap (λ (l : List ℕ). three (drop last.result l)) (sym (to_end p far)) ∙ last.ensures.found (omega arith) in
    let counted = found_here p (far + last.result) (far_clear p far last.result (to_end p far) c.plain_blocks-far.ensures.before last.ensures.before) (omega arith) here in
    record { within = counted_within three p _ counted; counted = counted }

pub returns-else-rest-last-ge3 : goal.returns-else-rest-last-ge3
returns-else-rest-last-ge3 c =
    let p = c.args.rest.now in
    let far = c.plain_blocks-far.result in
    let last = c.three_before in
    record { within = omega arith; counted = found_none p (far + last.result) (far_clear p far last.result (to_end p far) c.plain_blocks-far.ensures.before last.ensures.before) (omega arith) (omega arith) }
