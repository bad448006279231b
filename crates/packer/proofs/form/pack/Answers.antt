-- `packer::form::pack` meets its contract: over the limit, short of room, and stored.
use mathlib.Core.Path.{sym, ap, ◌∙◌}
use mathlib.Core.List.{List, ◌++◌}
use Prim.Native.Nat.{ℕ}
use native.Mathlib.Omega.{arith}
use lib.ListN.{length, drop}
use Rattle.packer.specs.Packing.{packed}
use borrow.Author.Tests.{leb-true, leb-false}
use Rattle.packer.proofs.Packing.{pack_over_limit, pack_short, pack_whole}
use Rattle.packer.proofs.form.pack.Goals as goal

pub returns-then-plane-gt-PLANE : goal.returns-then-plane-gt-PLANE
returns-then-plane-gt-PLANE c = sym (pack_over_limit _ _ c.if-plane-gt-PLANE.true)

pub returns-then-not-fits : goal.returns-then-not-fits
returns-then-not-fits c =
    let same = ap (λ (p : List ℕ). length (packed p)) c.new-packets.ensures in
    let short = leb-false _ _ (sym c.fits.ensures ∙ c.if-not-fits.true) in
    sym (pack_short _ _ c.if-plane-gt-PLANE.false (omega arith))

pub store_all-requires : goal.store_all-requires
store_all-requires c = leb-true _ _ (sym c.fits.ensures ∙ c.if-not-fits.false)

pub returns : goal.returns
returns c =
    let stored = c.store_all.ensures in
    let new = c.new-packets.ensures in
    let same = ap (λ (p : List ℕ). length (packed p)) new in
    let room = leb-true _ _ (sym c.fits.ensures ∙ c.if-not-fits.false) in
    pack_whole _ _ _ _ c.if-plane-gt-PLANE.false (omega arith) (stored.r_value ∙ same)
    (stored.dest_after ∙ ap (λ (p : List ℕ). packed p ++ drop (length (packed p)) c.args.dest.now) new)
