-- Each byte has one owner: what "side by side" says, byte by byte.
use mathlib.Core.Path.{◌≡◌, refl, ap}
use mathlib.Core.Logic.{⊎_elim}
use mathlib.Core.List.{List, ◌∷◌}
use Prim.Native.Nat.{ℕ, zero, suc, ◌+◌, ◌≤◌, ◌<◌}
use native.Mathlib.Omega.{arith}
use Rattle.laws.proofs.Tests.{less_or_not}
use Rattle.entry.specs.declared.Entry.{Entry}
use Rattle.walk.specs.Promised.{Tiles, none, next, Owner, here, there, OneOwner}

-- no entry from a on owns a byte before a
owner_above : {a b k i : ℕ} {es : List Entry} → Tiles a es b → Owner k es i → a ≤ k
owner_above (none {a}) o = elim o [ ]
owner_above (next p t) (here low high) = omega arith
owner_above (next {a} {e} p t) (there o) = omega (arith, owner_above t o)

first_owner : {a b k : ℕ} {e : Entry} {es : List Entry} → e.block.place ≡ a → Tiles (a + e.block.owned) es b → a ≤ k → k < a + e.block.owned → OneOwner k (e ∷ es)
first_owner {k} {e} {es} p t low high = record { index = 0; owns = at_first; only = λ j o. only j o }
  where
    at_first : Owner k (e ∷ es) 0
    at_first =
        let from : e.block.place ≤ k = omega arith in
        let to : k < e.block.place + e.block.owned = omega arith in
        here from to

    only : (j : ℕ) → Owner k (e ∷ es) j → j ≡ 0
    only zero o = refl
    only (suc j) (there o) = absurd (omega (arith, owner_above t o))

later_owner : {a k : ℕ} {e : Entry} {es : List Entry} → e.block.place ≡ a → a + e.block.owned ≤ k → OneOwner k es → OneOwner k (e ∷ es)
later_owner {k} {e} {es} p far w = record { index = suc w.index; owns = there w.owns; only = λ j o. only j o }
  where
    only : (j : ℕ) → Owner k (e ∷ es) j → j ≡ suc w.index
    only zero (here low high) = absurd (omega arith)
    only (suc j) (there o) = ap suc (w.only j o)

pub one_owner : {a b : ℕ} {es : List Entry} → Tiles a es b → (k : ℕ) → a ≤ k → k < b → OneOwner k es
one_owner none k low high = absurd (omega arith)
one_owner (next {a} {e} p t) k low high =
    ⊎_elim (λ near. first_owner p t low near) (λ far. later_owner p far (one_owner t k far high)) (less_or_not k (a + e.block.owned))
