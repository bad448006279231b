use mathlib.Core.Path.{ap, ap₂, ◌∙◌}
use mathlib.Core.Bool.{true, ◌&&◌}
use Prim.Native.Nat.{ℕ, ◌*◌, ◌≤◌}
use native.Mathlib.Nat.{mul-le-mul}
use native.Mathlib.Omega.{arith}
use lib.Dec.{eqb}
use lib.ListN.{length}
use Rattle.rect.specs.Rows.{is_form}
use Rattle.canvas.proofs.placer.is_plane.Goals as goal

pub overflow_mul-result : goal.overflow_mul-result
overflow_mul-result c =
    let row : c.args.row ≤ 4294967295 = omega arith in
    let height : c.height.result ≤ 65535 = omega (arith, c.height.ensures.1) in
    omega (arith, mul-le-mul row height)

pub returns : goal.returns
returns c =
    let a = c.args in
    ap₂ ◌&&◌ (c.is_form.ensures ∙ ap (λ (w : ℕ). is_form w 8 true a.row) c.width.ensures.0)
    (ap (λ (h : ℕ). eqb (length a.plane.now) (a.row * h)) c.height.ensures.0)
