-- Two corners of an axis and their distance. `lift z` is z + 32,768, a natural number: the bridge by which `omega` proves what is said of coordinates.
use mathlib.Core.Path.{◌≡◌, refl, sym, ap, ◌∙◌, subst⁻¹}
use mathlib.Core.Bool.{Bool, true, cond}
use Prim.Native.Nat.{ℕ, zero, suc, ◌+◌, ◌-◌, ◌<◌, ◌≤◌}
use native.Mathlib.Omega.{arith}
use borrow.Author.Tests.{le-ltb, le-leb, leb-true}
use lib.IntN.{ℤ, pos, negsuc, ◌-ℤ◌, sub_ℕ, nat_abs}
use lib.Signed.{le_z}
use mir.Syntax.{w32}
use mir.Val.{SFits, to_z, of_z}
use mir.ValLaws.{to_z-of_z}
use Rattle.laws.proofs.Tests.{never}
use Rattle.rect.specs.Rect.{Span, side_of}

abbrev lift : ℤ → ℕ
lift (pos n) = n + 32768
lift (negsuc n) = 32767 - n

sub_is : (a b : ℕ) → b ≤ a → sub_ℕ a b ≡ pos (a - b)
sub_is a b h = ap (λ (t : Bool). cond t (negsuc (b - suc a)) (pos (a - b))) (le-ltb a b h)

at : {a b : ℕ} → a ≡ b → pos a ≡ pos b
at e = ap pos e

distance : (a b : ℤ) → Span a b → b -ℤ a ≡ pos (lift b - lift a)
distance (pos zero) (pos b) h = at (omega arith)
distance (pos (suc a)) (pos b) h = sub_is b (suc a) (leb-true (suc a) b h.order) ∙ at (omega arith)
distance (negsuc a) (pos b) h = at (omega (arith, leb-true a 32767 h.low))
distance (pos a) (negsuc b) h = never h.order
distance (negsuc a) (negsuc b) h =
    let order = leb-true b a h.order in
    sub_is (suc a) (suc b) (omega arith) ∙ at (omega (arith, leb-true a 32767 h.low))

-- from a corner to one that is not negative
pub side_pos : (a b : ℕ) → a ≤ b → side_of (pos a) (pos b) ≡ b - a
unfolding side_of
side_pos zero b h = omega arith
side_pos (suc a) b h = ap nat_abs (sub_is b (suc a) h)

pub side_neg : (a b : ℕ) → side_of (negsuc a) (pos b) ≡ b + suc a
unfolding side_of
side_neg a b = refl

-- the distance grows by what the further corner moves on
pub side_on : (a : ℤ) (b n : ℕ) → le_z a (pos b) ≡ true → b ≤ n → side_of a (pos n) ≡ side_of a (pos b) + (n - b)
side_on (pos a) b n h k =
    let low = leb-true a b h in
    omega (arith, side_pos a n (omega arith), side_pos a b low)
side_on (negsuc a) b n h k = omega (arith, side_neg a n, side_neg a b)

pub near : (a b : ℤ) → Span a b → side_of a b < 65536
unfolding side_of
near a b h = subst⁻¹ (λ (z : ℤ). nat_abs z < 65536) (distance a b h) (below a b h)
  where
    below : (a b : ℤ) → Span a b → lift b - lift a < 65536
    below a (pos b) h = omega (arith, leb-true b 32767 h.high)
    below a (negsuc b) h = omega arith

module _ (a b : ℤ) (a-fits : SFits w32 a) (b-fits : SFits w32 b) (h : Span a b) where
  -- the difference, as the code forms it, is the distance
  difference : to_z w32 (of_z w32 b) -ℤ to_z w32 (of_z w32 a) ≡ pos (side_of a b)
  unfolding side_of
  difference =
      rw (to_z-of_z w32 a a-fits, to_z-of_z w32 b b-fits)
      (distance a b h ∙ sym (ap (λ (z : ℤ). pos (nat_abs z)) (distance a b h)))

  pub fits : SFits w32 (to_z w32 (of_z w32 b) -ℤ to_z w32 (of_z w32 a))
  fits = subst⁻¹ (SFits w32) difference (record { sfits = omega (arith, near a b h) })

  pub side_is : to_z w32 (of_z w32 (to_z w32 (of_z w32 b) -ℤ to_z w32 (of_z w32 a))) ≡ pos (side_of a b)
  side_is = to_z-of_z w32 _ fits ∙ difference

-- corners in order that are not apart are equal, and equal ones are not
pub meet : (a b : ℤ) → le_z a b ≡ true → le_z b a ≡ true → a ≡ b
meet (pos a) (pos b) p q = at (omega (arith, leb-true a b p, leb-true b a q))
meet (pos a) (negsuc b) p q = never p
meet (negsuc a) (pos b) p q = never q
meet (negsuc a) (negsuc b) p q = ap negsuc (same a b (leb-true b a p) (leb-true a b q))
  where
    same : (a b : ℕ) → b ≤ a → a ≤ b → a ≡ b
    same a b p q = omega arith

pub met : (a : ℤ) → le_z a a ≡ true
met (pos a) = le-leb a a (omega arith)
met (negsuc a) = le-leb a a (omega arith)
