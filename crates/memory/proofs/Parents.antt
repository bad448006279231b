-- What holds a place tells how many levels are left and which main block is open, and the other way round.
use mathlib.Core.Path.{◌≡◌, refl}
use Prim.Native.Nat.{ℕ, zero, suc, ◌≤◌}
use native.Mathlib.Omega.{arith}
use Rattle.laws.specs.Choice.{pick}
use Rattle.memory.specs.declared.parent.Open.{Open}
use Rattle.memory.specs.declared.parent.Open.TheVariants.{Layers, Mask, Alphas}
use Rattle.memory.specs.declared.parent.Parent.{Parent}
use Rattle.memory.specs.declared.parent.Parent.TheVariants.{Main, Bank, Layer, Selection, AlphaBank, Alpha}
use Rattle.memory.specs.Parent.{main, parent_at}

-- a place, by what holds it
pub data Held (o : Open) (levels : ℕ) : Parent → Type 0 where
  by_main : levels ≡ main → Held o levels Main
  by_bank : levels ≡ 1 → o ≡ Layers → Held o levels Bank
  by_layer : levels ≡ 0 → o ≡ Layers → Held o levels Layer
  by_selection : levels ≡ 1 → o ≡ Mask → Held o levels Selection
  by_nothing : levels ≡ 0 → o ≡ Mask → Held o levels Selection
  by_alpha_bank : levels ≡ 1 → o ≡ Alphas → Held o levels AlphaBank
  by_alpha : levels ≡ 0 → o ≡ Alphas → Held o levels Alpha

pub held : (o : Open) (levels : ℕ) → levels ≤ main → Held o levels (parent_at o levels)
unfolding parent_at pick
held Layers zero low = by_layer refl refl
held Mask zero low = by_nothing refl refl
held Alphas zero low = by_alpha refl refl
held Layers (suc zero) low = by_bank refl refl
held Mask (suc zero) low = by_selection refl refl
held Alphas (suc zero) low = by_alpha_bank refl refl
held o (suc (suc zero)) low = by_main refl
held o (suc (suc (suc n))) low = absurd (omega arith)
