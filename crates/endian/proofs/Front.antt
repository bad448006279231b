-- A number is that of its own bytes: lists that begin alike, or end alike, have the same numbers there.
use mathlib.Core.Path.{◌≡◌, refl, sym, ap, ◌∙◌}
use mathlib.Core.Bool.{true}
use mathlib.Core.List.{List, [], ◌∷◌}
use Prim.Native.Nat.{ℕ, zero, suc, ◌+◌, ◌-◌, ◌≤◌}
use native.Mathlib.Omega.{arith}
use borrow.Author.Tests.{leb-true}
use lib.Dec.{leb}
use lib.ListN.{take, drop}
use lib.Seq.{drop-drop}
use Rattle.endian.specs.Number.{le, number_at}

pub le_front : (n m : ℕ) (s : List ℕ) → n ≤ m → le n (take m s) ≡ le n s
unfolding le
le_front zero m s h = refl
le_front (suc n) zero s h = absurd (omega arith)
le_front (suc n) (suc m) [] h = refl
le_front (suc n) (suc m) (x ∷ s) h = rw (le_front n m s (omega arith))

front : (n at m : ℕ) (s : List ℕ) → at + n ≤ m → le n (drop at (take m s)) ≡ le n (drop at s)
front n zero m s h = le_front n m s (omega arith)
front n (suc at) zero s h = absurd (omega arith)
front n (suc at) (suc m) [] h = refl
front n (suc at) (suc m) (x ∷ s) h = front n at m s (omega arith)

pub number_front : (s t : List ℕ) (n at m : ℕ) → leb (at + n) m ≡ true → take m s ≡ take m t → number_at n s at ≡ number_at n t at
unfolding number_at
number_front s t n at m h same =
    let low = leb-true (at + n) m h in
    sym (front n at m s low) ∙ ap (λ (l : List ℕ). le n (drop at l)) same ∙ front n at m t low

pub number_behind : (s t : List ℕ) (n at m : ℕ) → m ≤ at → drop m s ≡ drop m t → number_at n s at ≡ number_at n t at
unfolding number_at
number_behind s t n at m h same =
    let behind : (l : List ℕ) → drop (at - m) (drop m l) ≡ drop at l =
    λ l. let there : m + (at - m) ≡ at = omega arith in drop-drop (at - m) m l ∙ ap (λ (k : ℕ). drop k l) there in
    sym (ap (le n) (behind s)) ∙ ap (λ (l : List ℕ). le n (drop (at - m) l)) same ∙ ap (le n) (behind t)
