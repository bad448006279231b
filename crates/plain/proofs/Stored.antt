-- What is stored block by block: nothing at first, then one entry more a turn.
use mathlib.Core.Path.{◌≡◌, refl, ap, ◌∙◌}
use mathlib.Core.List.{List, [], ◌∷◌, ◌++◌}
use Prim.Native.Nat.{ℕ, ◌+◌, ◌≤◌}
use native.Mathlib.Omega.{arith}
use Rattle.entry.specs.declared.Entry.{Entry}
use Rattle.entry.specs.Entry.{keep, stored, write}
use Rattle.entry.proofs.Keep.{counted_next, kept_next}
use Rattle.plain.specs.Standing.{Stores}

module _ (first end room from : ℕ) (t : List ℕ) where
  pub none_stored : first ≤ end → from ≤ room → Stores first end room from t [] first from t
  unfolding keep
  none_stored order fits = record { counted = omega arith; table = refl; onward = omega arith; within = order; fits = fits }

  pub one_stored :
      {es : List Entry} {at count : ℕ} {t' : List ℕ} → Stores first end room from t es at count t' → (count ≡ room → ⊥)
      → (next : ℕ) → at ≤ next → next ≤ end → (e : Entry) {t'' : List ℕ} → t'' ≡ stored t' count e
      → Stores first end room from t (es ++ e ∷ []) next (count + 1) t''
  one_stored {es} k some next on near e is = record {
    counted = counted_next stored t from es e k.counted;
    table = kept_next stored t from es e k.counted k.table is;
    onward = omega (arith, k.onward);
    within = near;
    fits = omega (arith, k.fits);
  }

  -- an entry in front of those that were stored
  pub first_stored :
      {next at count : ℕ} {es : List Entry} {t' t'' : List ℕ} (e : Entry) → Stores next end room (from + 1) t' es at count t'' → first ≤ next → t' ≡ stored t from e
      → Stores first end room from t (e ∷ es) at count t''
  unfolding keep
  first_stored {es} e k on is = record {
    counted = omega (arith, k.counted);
    table = k.table ∙ ap (λ (x : List ℕ). write x (from + 1) es) is;
    onward = omega (arith, k.onward);
    within = k.within;
    fits = k.fits;
  }
