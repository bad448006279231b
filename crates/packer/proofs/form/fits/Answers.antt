-- `packer::form::fits` meets its contract: by the bound of every packed form, or by the measure of this one.
use mathlib.Core.Path.{sym, ap}
use Prim.Native.Nat.{ℕ}
use native.Mathlib.Omega.{arith}
use borrow.Author.Tests.{le-leb}
use lib.Dec.{leb}
use lib.ListN.{length}
use Rattle.packer.specs.Packing.{packed}
use Rattle.packer.proofs.Bound.{packed_bound}
use Rattle.packer.proofs.form.fits.Goals as goal

pub returns-then-n-room : goal.returns-then-n-room
returns-then-n-room c =
    let a = c.args in
    sym (le-leb (length (packed a.packets.rest.now)) a.room (omega (arith, packed_bound a.packets.rest.now, c.if-n-room.true)))

pub returns : goal.returns
returns c = ap (λ (n : ℕ). leb n c.args.room) c.measure.ensures
