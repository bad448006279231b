-- An image chunk without a fault satisfies its rules.
use mathlib.Core.Path.{◌≡◌, refl, subst⁻¹}
use mathlib.Core.Bool.{Bool, true, false, ◌&&◌, ◌||◌, not, cond}
use Prim.Native.Nat.{ℕ, ◌≤◌}
use native.Mathlib.Omega.{arith}
use borrow.Author.Tests.{leb-true, eqb-true}
use lib.Dec.{eqb, leb, ltb}
use lib.IntN.{ℤ, pos, negsuc}
use Rattle.std.specs.Prelude.{None}
use Rattle.limits.specs.Limits.{side_limit}
use Rattle.laws.proofs.Tests.{never, both, either}
use Rattle.attributes.specs.declared.image_attributes.ImageChunk.{ImageChunk}
use Rattle.attributes.specs.Depth.{is_depth, colour_bits}
use Rattle.attributes.specs.ImageAttributes.{is_side, is_paletted, image_fields, image_fault}
use Rattle.attributes.specs.Resolution.{is_usable}
use Rattle.attributes.specs.Rules.{Side, ImageRules}
use Rattle.attributes.proofs.Earliest.{kept}

side : (z : ℤ) → is_side z ≡ true → Side z
side (pos n) h =
    let p = both _ _ h in
    record { n = n; is = refl; low = leb-true 1 n p.0; high = leb-true n side_limit p.1 }
side (negsuc n) h = never h

module _ (m : ℕ) (usable : Bool) (h : (eqb m 0 || (leb m 2 && usable)) ≡ true) where
  metric : m ≤ 2
  metric = either (eqb m 0) _ h (λ e. omega (arith, eqb-true m 0 e)) (λ p. leb-true m 2 (both (leb m 2) usable p).0)

  value : (m ≡ 0 → ⊥) → usable ≡ true
  value n = either (eqb m 0) _ h (λ e. absurd (n (eqb-true m 0 e))) (λ p. (both (leb m 2) usable p).1)

-- what holds at each of the four depths holds at a depth
pub four : (P : ℕ → Type 0) → P 1 → P 4 → P 8 → P 24 → (d : ℕ) → is_depth d ≡ true → P d
four P p₁ p₄ p₈ p₂₄ d h =
    either (eqb d 1 || eqb d 4 || eqb d 8) (eqb d 24) h
    (λ h. either (eqb d 1 || eqb d 4) (eqb d 8) h (λ h. either (eqb d 1) (eqb d 4) h (is 1 p₁) (is 4 p₄)) (is 8 p₈))
    (is 24 p₂₄)
  where
    is : (n : ℕ) → P n → eqb d n ≡ true → P d
    is n p e = subst⁻¹ P (eqb-true d n e) p

-- the depth below 24, else 8
pub colour_bits_lem : (d : ℕ) → is_depth d ≡ true → colour_bits d ≡ cond (ltb d 24) d 8
unfolding colour_bits
colour_bits_lem = four (λ (d : ℕ). colour_bits d ≡ cond (ltb d 24) d 8) refl refl refl refl

module _ (g d : ℕ) (h : (eqb g 0 || (eqb g 1 && eqb d 8)) ≡ true) where
  grey : g ≤ 1
  grey = either (eqb g 0) _ h (λ e. omega (arith, eqb-true g 0 e)) (λ p. omega (arith, eqb-true g 1 (both (eqb g 1) _ p).0))

  grey_depth : g ≡ 1 → d ≡ 8
  grey_depth one = either (eqb g 0) _ h (λ e. omega (arith, eqb-true g 0 e)) (λ p. eqb-true d 8 (both (eqb g 1) (eqb d 8) p).1)

implied : (a b : Bool) → (not a || b) ≡ true → a ≡ true → b ≡ true
implied true b h e = h
implied false b h e = never e

pub image_rules : (c : ImageChunk) → image_fault c ≡ None → ImageRules c
unfolding image_fault
image_rules c fault =
    let k = kept (image_fields c) fault in
    let resolution = k.1.1.0 in
    let k₄ = k.1.1.1 in
    let k₇ = k₄.1.1.1 in
    let layers = both _ _ k₇.1.1.0 in
    let count = both _ _ layers.0 in
    record {
      width = side c.width k.0;
      height = side c.height k.1.0;
      metric = metric c.resolution.metric (is_usable c.resolution.value) resolution;
      resolution = value c.resolution.metric (is_usable c.resolution.value) resolution;
      compression = leb-true _ _ k₄.0;
      depth = k₄.1.0;
      planes = eqb-true _ _ k₄.1.1.0;
      colours = eqb-true _ _ k₇.0;
      grey = grey c.grey c.depth k₇.1.0;
      grey_depth = grey_depth c.grey c.depth k₇.1.0;
      layers_low = leb-true _ _ count.0;
      layers_high = leb-true _ _ count.1;
      paletted = λ p. eqb-true _ _ (implied (is_paletted c) _ layers.1 p);
    }
