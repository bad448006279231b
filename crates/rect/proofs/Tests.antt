-- What the tests of a rectangle say.
use mathlib.Core.Path.{◌≡◌, subst}
use mathlib.Core.Logic.{◌⊎◌, inl, inr}
use mathlib.Core.Bool.{true, ◌||◌}
use lib.IntN.{ℤ}
use lib.Signed.{le_z}
use borrow.Author.Tests.{leb-true}
use Rattle.laws.proofs.Tests.{both, either, one_of}
use Rattle.rect.specs.declared.Rect.{Rect}
use Rattle.rect.specs.Rect.{Proper, Sized, is_proper, is_empty, is_inside, is_within, is_saved}
use Rattle.rect.proofs.Axis.{meet, met}

pub proper_yes : (r : Rect) → is_proper r ≡ true → Proper r
proper_yes r h =
    let h₅ = both _ _ h in
    let h₄ = both _ _ h₅.0 in
    let h₃ = both _ _ h₄.0 in
    let h₂ = both _ _ h₃.0 in
    let h₁ = both _ _ h₂.0 in
    record {
      across = record { low = h₁.0; order = h₁.1; high = h₂.1 };
      down = record { low = h₃.1; order = h₄.1; high = h₅.1 };
    }

pub within_sized : (r : Rect) → is_within r ≡ true → Sized r
within_sized r h =
    let rules = both _ _ h in
    let sides = both _ _ rules.1 in
    record { proper = proper_yes r rules.0; width = leb-true _ _ sides.0; height = leb-true _ _ sides.1 }

-- a saved rectangle has the sides that a plane asks
pub saved_sized : (r border : Rect) → is_saved r border ≡ true → Sized r
saved_sized r border h = within_sized r (both (is_within r) _ h).0

pub saved_inside : (r border : Rect) → is_saved r border ≡ true → (is_empty r || is_inside r border) ≡ true
saved_inside r border h = (both (is_within r) _ h).1

-- of a proper rectangle: empty is equal corners on an axis
pub empty_yes : (r : Rect) → Proper r → is_empty r ≡ true → (r.left ≡ r.right) ⊎ (r.top ≡ r.bottom)
empty_yes r p h =
    either (le_z r.right r.left) (le_z r.bottom r.top) h
    (λ e. inl (meet r.left r.right p.across.order e))
    (λ e. inr (meet r.top r.bottom p.down.order e))

pub empty_is : (r : Rect) → (r.left ≡ r.right) ⊎ (r.top ≡ r.bottom) → is_empty r ≡ true
empty_is r (inl e) = one_of (le_z r.right r.left) _ (inl (subst (λ (z : ℤ). le_z z r.left ≡ true) e (met r.left)))
empty_is r (inr e) = one_of (le_z r.right r.left) _ (inr (subst (λ (z : ℤ). le_z z r.top ≡ true) e (met r.top)))
