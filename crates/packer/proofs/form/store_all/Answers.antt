-- Each packet has room, and is stored behind those before it.
use mathlib.Core.Path.{◌≡◌, ap, ◌∙◌}
use mathlib.Core.List.{List, [], ◌++◌, append-nil, append_assoc}
use Prim.Native.Nat.{ℕ, ◌+◌, ◌-◌}
use native.Mathlib.Nat.{zero-add}
use native.Mathlib.Omega.{arith}
use lib.ListN.{length, take, drop, length-drop, drop_of_length-le}
use lib.Seq.{drop-drop}
use Rattle.laws.specs.Lists.{over}
use Rattle.packer.proofs.Places.{to_end}
use Rattle.packer.proofs.Packing.{onward, storing_room, storing_next, storing_last}
use Rattle.packer.proofs.form.store_all.Goals as goal

pub store-requires : goal.store-requires
store-requires c =
    let l = c.loop-piece in
    let takes = c.in-Some.ensures.steps in
    let on = onward takes in
    let room = storing_room c.args.packets.rest.now c.args.dest.now l.dest l.done c.requires l.invariant takes in
    record {
      whole = on.long;
      few = on.few;
      room = omega (arith, ap length (to_end l.dest l.done), length-drop l.done l.dest, room);
    }

-- what is lent from a place on, with something over its front
put_rest :
    (l xs ys : List ℕ) (at : ℕ) → ys ≡ over (take (length l - at) (drop at l)) 0 xs
    → take at l ++ (ys ++ drop (length l - at) (drop at l)) ≡ over l at xs
unfolding over
put_rest l xs ys at e =
    let none : drop (length l - at) (drop at l) ≡ [] = drop_of_length-le (drop at l) (simp length-drop (omega arith)) in
    let front : ys ≡ xs ++ drop (at + length xs) l =
    e ∙ ap (λ (s : List ℕ). over s 0 xs) (to_end l at) ∙ simp (zero-add, drop-drop) in
    simp (front, none, append-nil, append_assoc)

pub loop-piece-preserved : goal.loop-piece-preserved
loop-piece-preserved c =
    let l = c.loop-piece in
    storing_next c.args.packets.rest.now c.args.dest.now l.dest l.done c.requires l.invariant c.in-Some.ensures.steps c.size-done.result _ c.size-done.ensures
    (put_rest l.dest _ c.store.new.dest l.done c.store.ensures)

pub returns : goal.returns
returns c =
    let l = c.loop-piece in
    let all = storing_last c.args.packets.rest.now c.args.dest.now l.piece-iterator.rest.now l.done l.dest l.invariant c.in-None.ensures.steps.0 in
    record { r_value = all.0; dest_after = all.1 }
