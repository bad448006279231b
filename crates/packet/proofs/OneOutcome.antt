-- Any two results that a contract admits are equal.
use mathlib.Core.List.{List}
use Prim.Native.Nat.{ℕ}
use Rattle.laws.specs.Outcomes.{OneFixed}
use Rattle.laws.proofs.OneOutcome.{one}
use Rattle.packet.proofs.stand.Stand.first.Reads as first

-- where a pass begins: the stream, the plane's length, and both places
pub first_one : OneFixed {Fixed = List ℕ × ℕ × ℕ × ℕ} (λ l y e. (y.stream.now, y.plane, y.at, y.done)) first.Learnt
first_one l a y z e f p q =
    let stream = one p.0 q.0 in
    let plane = one p.1 q.1 in
    let at = one p.4 q.4 in
    let done = one p.2 q.2 in
    λ i. (stream i, plane i, at i, done i)
