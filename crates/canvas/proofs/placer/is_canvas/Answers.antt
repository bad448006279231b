use Prim.Native.Nat.{◌≤◌}
use native.Mathlib.Nat.{mul-le-mul}
use native.Mathlib.Omega.{arith}
use Rattle.canvas.proofs.placer.is_canvas.Goals as goal

pub overflow_mul-result : goal.overflow_mul-result
overflow_mul-result c =
    let width : c.args.width ≤ 4294967295 = omega arith in
    let height : c.args.height ≤ 4294967295 = omega arith in
    omega (arith, mul-le-mul width height)
