-- A packet as it is stored, of either kind.
use mathlib.Core.Path.{◌≡◌, sym, ap, ◌∙◌}
use mathlib.Core.List.{List, ◌∷◌, ◌++◌, append_assoc}
use Prim.Native.Nat.{ℕ, ◌+◌, ◌-◌}
use native.Mathlib.Omega.{arith}
use lib.ListN.{length, take, drop}
use lib.Seq.{take-length, drop-drop}
use Rattle.packet.specs.declared.Packet.{Packet}
use Rattle.laws.specs.Lists.{over}
use Rattle.laws.proofs.Over.{over_cons, over_two}
use Rattle.packet.specs.Stream.{size_of, count_of}
use Rattle.packer.specs.Packing.{stored_as}
use Rattle.packer.proofs.form.store.Goals as goal

-- a copy of a whole slice into a part that is as long
put_over : (l xs ys : List ℕ) (at : ℕ) → ys ≡ xs → take at l ++ (ys ++ drop (at + length xs - at) (drop at l)) ≡ over l at xs
unfolding over
put_over l xs ys at e =
    let less : (n : ℕ) → at + n - at ≡ n = λ n. omega arith in
    simp (e, less, append_assoc, drop-drop)

pub returns-in-Literals : goal.returns-in-Literals
returns-in-Literals c =
    let dest = c.args.dest.now in
    let bytes = c.args.piece.bytes.now in
    let n = c.in-Literals.n in
    let count : count_of c.args.piece.packet ≡ n = ap count_of c.in-Literals.is in
    let size : size_of c.args.piece.packet ≡ n + 1 = ap size_of c.in-Literals.is in
    let long : length bytes ≡ n = c.requires.whole ∙ count in
    let all : bytes ≡ take n bytes = sym (ap (λ (m : ℕ). take m bytes) (sym long) ∙ take-length bytes) in
    put_over _ bytes _ 1 c.copy_from_slice.ensures.after
    ∙ over_cons dest 0 n bytes (omega (arith, c.requires.room))
    ∙ ap (λ (xs : List ℕ). over dest 0 (n ∷ xs)) all
    ∙ ap (λ (q : Packet). over dest 0 (stored_as q bytes)) (sym c.in-Literals.is)

pub returns-in-Run : goal.returns-in-Run
returns-in-Run c =
    let dest = c.args.dest.now in
    let size : size_of c.args.piece.packet ≡ 2 = ap size_of c.in-Run.is in
    over_two dest 0 _ _ (omega (arith, c.requires.room))
    ∙ ap (λ (q : Packet). over dest 0 (stored_as q c.args.piece.bytes.now)) (sym c.in-Run.is)
