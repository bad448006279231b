use mathlib.Core.Path.{◌≡◌}
use Prim.Native.Nat.{ℕ, ◌/◌}
use native.Mathlib.Omega.{arith}
use borrow.Author.Tests.{ltb-true, ltb-false}
use lib.Dec.{ltb}
use lib.ListN.{length}
use Rattle.laws.proofs.Choice.{pick_ind}
use Rattle.entry.specs.Entry.{size}
use Rattle.listing.specs.Listing.{room_up_to}
use Rattle.listing.proofs.WalkOutcome.{list_up_to_leaves}
use Rattle.listing.proofs.lister.list_up_to.Goals as goal

pub returns : goal.returns
returns c =
    let a = c.args in
    let whole = length a.table.now / size in
    let room : c.min-room.result ≡ room_up_to a.most a.table.now =
    pick_ind (λ (n : ℕ). c.min-room.result ≡ n) (ltb a.most whole) _ _
    (λ yes. omega (arith, ltb-true a.most whole yes, c.min-room.ensures))
    (λ no. omega (arith, ltb-false a.most whole no, c.min-room.ensures)) in
    list_up_to_leaves a.input.now a.table.now _ c.walk.result _ a.most (rw room at c.walk.ensures)
