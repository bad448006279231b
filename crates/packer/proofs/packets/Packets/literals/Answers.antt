-- So many literals, up to the next three equal bytes.
use mathlib.Core.Path.{sym, subst}
use mathlib.Core.List.{List}
use Prim.Native.Nat.{ℕ, ◌-◌}
use native.Mathlib.Omega.{arith}
use Rattle.packer.specs.Packing.{three}
use Rattle.packer.proofs.Reach.{counted_within}
use Rattle.packer.proofs.Ahead.{Known, literals_next, literals_ahead}
use Rattle.packer.proofs.packets.Packets.literals.Goals as goal

pub split_at-requires : goal.split_at-requires
split_at-requires c =
    let self = c.args.self.now in
    omega (arith, counted_within three self.rest.now self.plain self.plain_is, c.min-n.ensures)

pub invariant_of-self : goal.invariant_of-self
invariant_of-self c =
    let self = c.args.self.now in
    let n = c.min-n.result in
    let known : Known self.rest.now self.plain self.same = (self.plain_is, self.same_is) in
    let P : List ℕ → Type 0 = λ l. Known l (self.plain - n) self.same in
    let ahead = subst P (sym c.split_at.ensures.back) (literals_ahead self.rest.now self.plain self.same n known c.requires c.min-n.ensures) in
    record { plain_is = ahead.0; same_is = ahead.1 }

pub returns : goal.returns
returns c =
    let self = c.args.self.now in
    record {
      some = omega (arith, counted_within three self.rest.now self.plain self.plain_is);
      packet = literals_next self.rest.now self.plain self.same c.min-n.result (self.plain_is, self.same_is) c.requires c.min-n.ensures;
      bytes = c.split_at.ensures.front;
      left = c.split_at.ensures.back;
    }
