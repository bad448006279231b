-- `reading::plane::read_plane` meets its contract: each return by the tests that led there.
use mathlib.Core.Path.{sym, ap, ◌∙◌}
use mathlib.Core.List.{List}
use Prim.Native.Nat.{ℕ, ◌+◌, ◌≤◌}
use native.Mathlib.Omega.{arith}
use lib.ListN.{length}
use Rattle.packet.specs.Reading.{filled, unpacked}
use Rattle.laws.proofs.Part.{lent}
use Rattle.packet.proofs.PlaneTests.{unknown_code, over_limit, outside, no_room, packets, raw, raw_length}
use Rattle.reading.proofs.plane.read_plane.Goals as goal

pub returns-then-code-gt1 : goal.returns-then-code-gt1
returns-then-code-gt1 c = sym (unknown_code _ _ _ _ _ _ (omega arith))

pub returns-then-plane-gt-PLANE : goal.returns-then-plane-gt-PLANE
returns-then-plane-gt-PLANE c = sym (over_limit _ _ _ _ _ _ (omega arith) c.if-plane-gt-PLANE.true)

pub returns-then-input-start : goal.returns-then-input-start
returns-then-input-start c = sym (outside _ _ _ _ _ _ (omega arith) c.if-plane-gt-PLANE.false (omega arith))

pub returns-then-input-start-2 : goal.returns-then-input-start-2
returns-then-input-start-2 c = sym (outside _ _ _ _ _ _ (omega arith) c.if-plane-gt-PLANE.false (omega arith))

pub returns-then-dest-plane : goal.returns-then-dest-plane
returns-then-dest-plane c = sym (no_room _ _ _ _ _ _ (omega arith) c.if-plane-gt-PLANE.false (omega arith) c.if-dest-plane.true)

pub returns-then-code-eq1 : goal.returns-then-code-eq1
returns-then-code-eq1 c =
    let a = c.args in
    c.unpack.ensures
    ∙ ap (λ (l : List ℕ). unpacked l a.plane a.dest.now) (lent a.input.now a.start a.stored)
    ∙ sym (packets _ _ _ _ _ _ (omega arith) c.if-plane-gt-PLANE.false (omega arith) c.if-dest-plane.false c.if-code-eq1.true)

pub returns-then-stored-plane : goal.returns-then-stored-plane
returns-then-stored-plane c =
    sym (raw_length _ _ _ _ _ _ (omega arith) c.if-plane-gt-PLANE.false (omega arith) c.if-dest-plane.false c.if-code-eq1.false c.if-stored-plane.true)

pub returns : goal.returns
returns c =
    let a = c.args in
    let there : a.start + a.stored ≤ length a.input.now = omega arith in
    let part = c.copy_from_slice.ensures.after ∙ lent a.input.now a.start a.stored in
    ap (λ (l : List ℕ). filled a.stored a.plane l a.dest.now) part
    ∙ sym (raw _ _ _ _ _ _ (omega arith) c.if-plane-gt-PLANE.false there c.if-dest-plane.false c.if-code-eq1.false c.if-stored-plane.false)
