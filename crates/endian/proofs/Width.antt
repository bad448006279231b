-- One law over the width: m + n bytes are m bytes and then n. By it the library's number of an array of bytes is `le`.
use mathlib.Core.Path.{◌≡◌, refl, sym, ap, ap₂, ◌∙◌, subst⁻¹}
use mathlib.Core.List.{List, [], ◌∷◌}
use Prim.Native.Nat.{ℕ, zero, suc, ◌+◌, ◌*◌, ◌^◌, ◌<◌}
use native.Mathlib.Nat.{zero-add, suc-add, mul_comm, mul-zero, mul-suc, mul_assoc, mul-le-mul_left, pow-succ'}
use Rattle.std.proofs.Math.Numerals.{add-one}
use native.Mathlib.Omega.{arith}
use lib.Pow.{pow-add}
use lib.ListN.{drop, get_or}
use lib.Seq.{drop-drop}
use Rattle.std.specs.Int.{byte_worth, sum_through}
use Rattle.laws.specs.Lists.{part}
use Rattle.endian.specs.Number.{le, number_at, Reads}
use Rattle.endian.proofs.Front.{le_front}

le_nil : (n : ℕ) → le n [] ≡ 0
unfolding le
le_nil zero = refl
le_nil (suc n) = refl

le_split : (m n : ℕ) (s : List ℕ) → le (m + n) s ≡ le m s + 256 ^ m * le n (drop m s)
unfolding le
le_split zero n s = ap (λ (k : ℕ). le k s) (zero-add n) ∙ omega arith
le_split (suc m) n [] = ap (λ (k : ℕ). le k []) (suc-add m n) ∙ rw (le_nil n, mul-zero) refl
le_split (suc m) n (x ∷ s) =
    ap (λ (k : ℕ). le k (x ∷ s)) (suc-add m n)
    ∙ omega (arith, le_split m n s, ap (λ (k : ℕ). k * le n (drop m s)) (pow-succ' 256 m) ∙ mul_assoc 256 (256 ^ m) (le n (drop m s)))

pub split : (m n : ℕ) (s : List ℕ) (at : ℕ) → number_at (m + n) s at ≡ number_at m s at + 256 ^ m * number_at n s (at + m)
unfolding number_at
split m n s at = le_split m n (drop at s) ∙ ap (λ (l : List ℕ). le m (drop at s) + 256 ^ m * le n l) (drop-drop m at s)

-- what two readers answer, one behind the other, is what a reader of both answers
pub joined :
    (m n : ℕ) (s : List ℕ) (at : ℕ) {a b : ℕ}
    → Reads m s at a → Reads n s (at + m) b → Reads (m + n) s at (a + 256 ^ m * b)
joined m n s at {a} {b} p q =
    record {
      value = ap₂ (λ (x y : ℕ). x + 256 ^ m * y) p.value q.value ∙ sym (split m n s at);
      range =
          subst⁻¹ (λ (k : ℕ). a + 256 ^ m * b < k) (pow-add 256 m n)
          (omega (arith, p.range, mul-suc (256 ^ m) b, mul-le-mul_left (256 ^ m) q.range));
    }

-- ### The library's number of bytes, the least first

-- a byte is its own number
pub one : (s : List ℕ) (at : ℕ) → get_or s at 0 ≡ number_at 1 s at
unfolding number_at le
one [] zero = refl
one [] (suc at) = refl
one (x ∷ s) zero = omega arith
one (x ∷ s) (suc at) = one s at

le_next : (k : ℕ) (s : List ℕ) → le (suc k) s ≡ le k s + get_or s k 0 * 256 ^ k
unfolding number_at
le_next k s =
    ap (λ (n : ℕ). le n s) (sym (add-one k))
    ∙ le_split k 1 s
    ∙ ap (λ (n : ℕ). le k s + n) (mul_comm (256 ^ k) (le 1 (drop k s)) ∙ ap (λ (b : ℕ). b * 256 ^ k) (sym (one s k)))

le_is : (k : ℕ) (s : List ℕ) → sum_through (λ i. byte_worth i (get_or s i 0)) k ≡ le (suc k) s
unfolding number_at
le_is zero s = one s 0
le_is (suc k) s = ap (λ (n : ℕ). n + get_or s (suc k) 0 * 256 ^ suc k) (le_is k s) ∙ sym (le_next (suc k) s)

-- what it makes of the bytes of a place
pub le_at : (k : ℕ) (s xs : List ℕ) (at : ℕ) → xs ≡ part s at (suc k) → sum_through (λ i. byte_worth i (get_or xs i 0)) k ≡ number_at (suc k) s at
unfolding number_at part
le_at k s xs at taken = le_is k xs ∙ ap (le (suc k)) taken ∙ le_front (suc k) (suc k) (drop at s) (omega arith)

pub reads_le :
    (k : ℕ) (s xs : List ℕ) (at : ℕ) {r : ℕ} → r < 256 ^ suc k → xs ≡ part s at (suc k)
    → r ≡ sum_through (λ i. byte_worth i (get_or xs i 0)) k → Reads (suc k) s at r
reads_le k s xs at small taken is = record { value = is ∙ le_at k s xs at taken; range = small }
