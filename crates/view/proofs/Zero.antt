-- The code asks the library for a name's end, and the definition goes by the list's tail: both count the same.
use mathlib.Core.Path.{◌≡◌, refl, sym, ap, ◌∙◌}
use mathlib.Core.Bool.{Bool, true, false}
use mathlib.Core.List.{List, [], ◌∷◌}
use Prim.Native.Nat.{ℕ, suc, ◌+◌, ◌-◌, ◌≤◌}
use native.Mathlib.Omega.{arith}
use borrow.Author.Tests.{ltb-false}
use lib.Dec.{eqb, ltb}
use lib.ListN.{length, take, drop}
use lib.Seq.{take-take}
use Rattle.std.specs.Prelude.{Some, None, cond, unwrap_or, position}
use Rattle.std.specs.List.{position_or_len}
use Rattle.std.proofs.lemmas.List.Recursion.{is_position_or_len}
use Rattle.laws.specs.Choice.{pick}
use Rattle.laws.specs.Lists.{part}
use Rattle.laws.proofs.Choice.{pick_ind}
use Rattle.laws.proofs.Part.{lent}
use Rattle.chunk.specs.LayerInformation.{layer_of, layer_at}
use Rattle.view.specs.Name.{before_zero}

pub zero_most : (l : List ℕ) → before_zero l ≤ length l
unfolding before_zero
zero_most [] = omega arith
zero_most (b ∷ bs) =
    pick_ind (λ (n : ℕ). n ≤ length (b ∷ bs)) (eqb b 0) _ _ (λ _. omega arith) (λ _. omega (arith, zero_most bs))

one_more : (b : Bool) (n : ℕ) → pick b 0 (suc n) ≡ cond b 0 (1 + n)
unfolding pick
one_more true n = refl
one_more false n = omega arith

pub zero_is : (l : List ℕ) → before_zero l ≡ position_or_len (λ b. eqb b 0) l
unfolding before_zero
zero_is = is_position_or_len before_zero (λ b. eqb b 0) refl (λ b bs. one_more (eqb b 0) (before_zero bs))

-- so the library's first place of a zero, or else the end, is the length of the name
pub zero_first : (l : List ℕ) → unwrap_or (position (λ b. eqb b 0) l) (length l) ≡ before_zero l
zero_first l = by _ _ (omega (arith, zero_is l, zero_most l)) ∙ sym (zero_is l)
  where
    by : (n m : ℕ) → n ≤ m → unwrap_or (cond (ltb n m) (Some n) None) m ≡ n
    by n m low = at (ltb n m) refl
      where
        at : (b : Bool) → ltb n m ≡ b → unwrap_or (cond b (Some n) None) m ≡ n
        at true e = refl
        at false e = omega (arith, ltb-false n m e)

-- what is counted of `&s[at..at + 256]`
pub name_length : (s : List ℕ) (at : ℕ) → before_zero (take (at + 256 - at) (drop at s)) ≡ before_zero (part s at 256)
name_length s at = ap before_zero (lent s at 256)

-- the name that a layer's facts have is the part that is shown up to its first zero
pub name_field : (s : List ℕ) (at : ℕ) → (layer_at s at).name ≡ part s at 256
unfolding layer_of part
name_field s at = take-take 256 375 (drop at s) (omega arith)
