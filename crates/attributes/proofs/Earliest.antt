-- The earliest bad field of any rule: a chunk without one keeps every field, and the place of one is that of the first that is judged.
use mathlib.Core.Path.{◌≡◌, refl, sym, ◌∙◌}
use mathlib.Core.Bool.{Bool, true, false, not}
use mathlib.Core.List.{List, [], ◌∷◌}
use Prim.Native.Nat.{ℕ}
use Rattle.std.specs.Prelude.{Option, None, Some}
use Rattle.std.specs.Option.{option_or}
use Rattle.std.specs.Bool.{then_some}
use Rattle.std.proofs.lemmas.Option.{none-some, same_Some}
use Rattle.laws.proofs.Tests.{never}
use Rattle.attributes.specs.Fault.{unless_of, Field, from, earliest, First, here, behind}

-- a field by itself: its offset, unless it is permitted
pub alone : (p : Bool) (offset : ℕ) → then_some (not p) offset ≡ unless_of None p offset
unfolding unless_of
alone true offset = refl
alone false offset = refl

-- and behind what is found so far
pub behind_fault : (f : Option ℕ) (p : Bool) (offset : ℕ) → option_or f (unless_of None p offset) ≡ unless_of f p offset
unfolding unless_of
behind_fault None p offset = refl
behind_fault (Some earlier) p offset = refl

-- every field is permitted
abbrev pub Kept : List Field → Type 0
Kept [] = Unit
Kept (x ∷ xs) = (x.permitted ≡ true) × Kept xs

-- a fault that was found stays
stays : (p : ℕ) (xs : List Field) → from (Some p) xs ≡ Some p
unfolding unless_of
stays p [] = refl
stays p (x ∷ xs) = stays p xs

keeps : (b : Bool) (offset : ℕ) (xs : List Field) → from (unless_of None b offset) xs ≡ None → (b ≡ true) × (earliest xs ≡ None)
unfolding unless_of
keeps true offset xs h = (refl, h)
keeps false offset xs h = absurd (none-some offset (sym h ∙ stays offset xs))

pub kept : (xs : List Field) → earliest xs ≡ None → Kept xs
kept [] h = tt
kept (x ∷ xs) h =
    let k = keeps x.permitted x.offset xs h in
    (k.0, kept xs k.1)

-- ### The first that is not permitted

-- of any size
found : (offset : ℕ) (x : Field) (xs : List Field) (b : Bool) → x.permitted ≡ b → (earliest xs ≡ Some offset → (n : ℕ) × First offset n xs)
    → from (unless_of None b x.offset) xs ≡ Some offset → (n : ℕ) × First offset n (x ∷ xs)
unfolding unless_of
found offset x xs true e rest h = let r = rest h in (r.0, behind e r.1)
found offset x xs false e rest h = (x.size, here (same_Some x.offset offset (sym (stays x.offset xs) ∙ h)) refl e)

pub first : (offset : ℕ) (xs : List Field) → earliest xs ≡ Some offset → (n : ℕ) × First offset n xs
first offset [] h = absurd (none-some offset h)
first offset (x ∷ xs) h = found offset x xs x.permitted refl (first offset xs) h

-- a rule without a fault names none
pub named_none : {offset size : ℕ} {xs : List Field} → First offset size xs → Kept xs → ⊥
named_none (here o n e) k = never (sym e ∙ k.0)
named_none (behind e f) k = named_none f k.1
