-- The order of coordinates: three laws by the signs, and what follows from them.
use mathlib.Core.Path.{◌≡◌, refl, sym, ◌∙◌}
use mathlib.Core.Bool.{Bool, true, false, not}
use Prim.Native.Nat.{ℕ}
use native.Mathlib.Omega.{arith}
use borrow.Author.Tests.{ltb-true, ltb-false, leb-true, leb-false, le-leb, not-false, not-true}
use lib.Dec.{ltb, leb}
use lib.IntN.{ℤ, pos, negsuc}
use lib.Signed.{lt_z, le_z}
use Rattle.laws.proofs.Tests.{never}

pub le_trans : (a b x : ℤ) → le_z a b ≡ true → le_z b x ≡ true → le_z a x ≡ true
le_trans (pos a) (pos b) (pos x) h k = le-leb a x (omega (arith, leb-true a b h, leb-true b x k))
le_trans (pos a) (pos b) (negsuc x) h k = never k
le_trans (pos a) (negsuc b) x h k = never h
le_trans (negsuc a) b (pos x) h k = refl
le_trans (negsuc a) (pos b) (negsuc x) h k = never k
le_trans (negsuc a) (negsuc b) (negsuc x) h k = le-leb x a (omega (arith, leb-true b a h, leb-true x b k))

pub lt_le : (a b : ℤ) → lt_z a b ≡ true → le_z a b ≡ true
lt_le (pos a) (pos b) h = le-leb a b (omega (arith, ltb-true a b h))
lt_le (pos a) (negsuc b) h = never h
lt_le (negsuc a) (pos b) h = refl
lt_le (negsuc a) (negsuc b) h = le-leb b a (omega (arith, ltb-true b a h))

-- below is not at or above
less_not : (a b : ℕ) → ltb a b ≡ not (leb b a)
less_not a b = go (ltb a b) (leb b a) refl refl
  where
    go : (t u : Bool) → ltb a b ≡ t → leb b a ≡ u → t ≡ not u
    go true true h k = absurd (omega (arith, ltb-true a b h, leb-true b a k))
    go true false h k = refl
    go false true h k = refl
    go false false h k = absurd (omega (arith, ltb-false a b h, leb-false b a k))

pub lt_not : (a b : ℤ) → lt_z a b ≡ not (le_z b a)
lt_not (pos a) (pos b) = less_not a b
lt_not (pos a) (negsuc b) = refl
lt_not (negsuc a) (pos b) = refl
lt_not (negsuc a) (negsuc b) = less_not b a

pub not_lt : (a b : ℤ) → lt_z a b ≡ false → le_z b a ≡ true
not_lt a b h = not-false (le_z b a) (sym (lt_not a b) ∙ h)

pub clash : {X : Type 0} (a b : ℤ) → lt_z a b ≡ true → le_z b a ≡ true → X
clash a b h k = never (sym (not-true (le_z b a) (sym (lt_not a b) ∙ h)) ∙ k)

-- what is not at or above is below
below : (a b : ℤ) → (le_z b a ≡ true → ⊥) → lt_z a b ≡ true
below a b h = lt_not a b ∙ no (le_z b a) h
  where
    no : (t : Bool) → (t ≡ true → ⊥) → not t ≡ true
    no true f = absurd (f refl)
    no false f = refl

pub lt_le_trans : (a b x : ℤ) → lt_z a b ≡ true → le_z b x ≡ true → lt_z a x ≡ true
lt_le_trans a b x h k = below a x (λ e. clash a b h (le_trans b x a k e))

pub le_lt_trans : (a b x : ℤ) → le_z a b ≡ true → lt_z b x ≡ true → lt_z a x ≡ true
le_lt_trans a b x h k = below a x (λ e. clash b x k (le_trans x a b e h))
