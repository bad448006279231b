-- No table has as many entries as the greatest number, so the room is the table's own.
use mathlib.Core.Path.{ap, ◌∙◌}
use Prim.Native.Nat.{ℕ, ◌/◌}
use native.Mathlib.Omega.{arith}
use borrow.Author.Tests.{le-ltb}
use lib.ListN.{length}
use Rattle.laws.proofs.Choice.{pick_no}
use Rattle.entry.specs.Entry.{size}
use Rattle.listing.specs.Listing.{listed, told, tabled, lists, lists_up_to}
use Rattle.listing.proofs.lister.list.Goals as goal

pub returns : goal.returns
unfolding lists lists_up_to
returns c =
    let a = c.args in
    let whole = length a.table.now / size in
    c.list_up_to.ensures
    ∙ ap (λ (room : ℕ). record { told = told (listed a.input.now room); dest = tabled (listed a.input.now room) a.table.now })
    (pick_no _ _ whole (le-ltb 18446744073709551615 whole (omega arith)))
