-- What is kept of entries, with one entry more.
use mathlib.Core.Path.{◌≡◌, sym, ap, ap₂, ◌∙◌}
use mathlib.Core.List.{List, [], ◌∷◌, ◌++◌}
use Prim.Native.Nat.{ℕ, ◌+◌}
use native.Mathlib.Omega.{arith}
use lib.ListN.{length, length-append}
use Rattle.entry.specs.declared.Entry.{Entry}
use Rattle.entry.specs.Entry.{keep}

pub keep_next :
    {K : Type 0} (put : K → ℕ → Entry → K) (es : List Entry) (e : Entry) (k : K) (i : ℕ)
    → keep put k i (es ++ e ∷ []) ≡ put (keep put k i es) (i + length es) e
unfolding keep
keep_next put [] e k i = let here : i ≡ i + 0 = omega arith in ap (λ (n : ℕ). put k n e) here
keep_next put (x ∷ es) e k i =
    let behind : i + 1 + length es ≡ i + length (x ∷ es) = omega arith in
    keep_next put es e (put k i x) (i + 1) ∙ ap (λ (n : ℕ). put (keep put (put k i x) (i + 1) es) n e) behind

-- where the index has no say
pub keep_more :
    {K : Type 0} (put : K → Entry → K) (es : List Entry) (e : Entry) (k : K) (i : ℕ)
    → keep (λ k i e. put k e) k i (es ++ e ∷ []) ≡ put (keep (λ k i e. put k e) k i es) e
keep_more put es e k i = keep_next (λ k i e. put k e) es e k i

-- ### As a loop has it: what was kept and how many there were, and both with one entry more

module _ {K : Type 0} (put : K → ℕ → Entry → K) (k : K) (from : ℕ) (es : List Entry) (e : Entry) {n : ℕ} (counted : n ≡ from + length es) where
  pub counted_next : n + 1 ≡ from + length (es ++ e ∷ [])
  counted_next = omega (arith, length-append es (e ∷ []))

  pub kept_next : {kept next : K} → kept ≡ keep put k from es → next ≡ put kept n e → next ≡ keep put k from (es ++ e ∷ [])
  kept_next is puts = puts ∙ ap₂ (λ (x : K) (i : ℕ). put x i e) is counted ∙ sym (keep_next put es e k from)
