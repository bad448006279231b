-- `packet::stand::Stand::first` meets its contract: the whole stream is ahead.
use mathlib.Core.Path.{◌≡◌, refl, ap}
use Prim.Native.Nat.{◌-◌}
use native.Mathlib.Omega.{arith}
use Rattle.packet.specs.Stream.{meaning, meaning_from}
use Rattle.packet.proofs.stand.Stand.first.Goals as goal

pub returns : goal.returns
unfolding meaning
returns c = (refl, refl, refl, ap (meaning_from c.args.stream.now 0) all, refl)
  where
    all : c.args.plane - 0 ≡ c.args.plane
    all = omega arith
