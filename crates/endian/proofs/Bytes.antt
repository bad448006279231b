-- The bytes of a number, and what they say where they are written over others.
use mathlib.Core.Path.{◌≡◌, refl, sym, ap, ap₂, ◌∙◌}
use mathlib.Core.List.{List, [], ◌∷◌, ◌++◌}
use Prim.Native.Nat.{ℕ, zero, suc, ◌+◌, ◌-◌, ◌*◌, ◌/◌, ◌^◌, ◌≤◌, ◌<◌}
use native.Mathlib.Nat.{zero-add, suc-add, mul_assoc, pow-succ'}
use native.Mathlib.Omega.{arith}
use borrow.Author.Tests.{le-leb}
use lib.ListN.{length, take, drop, length-append}
use lib.Seq.{length-take-le, take_all, take_at, take-take, drop-append-add}
use Rattle.laws.specs.All.{All, empty, both}
use Rattle.laws.specs.Lists.{over}
use Rattle.laws.proofs.Over.{over_take}
use Rattle.endian.specs.Number.{le, number_at, bytes_of}
use Rattle.endian.proofs.Front.{number_front}

-- ### The bytes of a number

pub bytes_length : (n m : ℕ) → length (bytes_of n m) ≡ n
unfolding bytes_of
bytes_length zero m = refl
bytes_length (suc n) m = ap suc (bytes_length n (m / 256))

pub each_byte : (n m : ℕ) → All (λ (b : ℕ). b < 256) (bytes_of n m)
unfolding bytes_of
each_byte zero m = empty
each_byte (suc n) m = let low : m - 256 * (m / 256) < 256 = omega arith in both low (each_byte n (m / 256))

pub bytes_number : (n m : ℕ) → m < 256 ^ n → number_at n (bytes_of n m) 0 ≡ m
unfolding number_at le bytes_of
bytes_number zero m small = omega arith
bytes_number (suc n) m small =
    let high : m / 256 < 256 ^ n = omega (arith, pow-succ' 256 n) in
    omega (arith, bytes_number n (m / 256) high)

-- bytes are those of their number
pub number_bytes : (n : ℕ) (s : List ℕ) → length s ≡ n → All (λ (b : ℕ). b < 256) s → bytes_of n (le n s) ≡ s
unfolding le bytes_of
number_bytes zero [] e a = refl
number_bytes zero (x ∷ s) e a = absurd (omega arith)
number_bytes (suc n) [] e a = absurd (omega arith)
number_bytes (suc n) (x ∷ s) e (both small a) =
    let high : (x + 256 * le n s) / 256 ≡ le n s = omega arith in
    ap₂ ◌∷◌ (omega arith) (ap (bytes_of n) high ∙ number_bytes n s (omega arith) a)

-- and n of them say no more than n can
pub bytes_small : (n : ℕ) (s : List ℕ) → All (λ (b : ℕ). b < 256) s → le n s < 256 ^ n
unfolding le
bytes_small zero s a = omega arith
bytes_small (suc n) [] a = omega (arith, bytes_small n [] a, pow-succ' 256 n)
bytes_small (suc n) (x ∷ s) (both small a) = omega (arith, bytes_small n s a, pow-succ' 256 n)

-- those of a number below 256 ^ n, and behind them those of another, are the bytes of both
pub bytes_joined : (n m a b : ℕ) → a < 256 ^ n → bytes_of (n + m) (a + 256 ^ n * b) ≡ bytes_of n a ++ bytes_of m b
unfolding bytes_of
bytes_joined zero m a b small = ap₂ bytes_of (zero-add m) (omega arith)
bytes_joined (suc n) m a b small =
    let wider : 256 ^ suc n * b ≡ 256 * (256 ^ n * b) = ap (λ (k : ℕ). k * b) (pow-succ' 256 n) ∙ mul_assoc 256 (256 ^ n) b in
    let high : (a + 256 ^ suc n * b) / 256 ≡ a / 256 + 256 ^ n * b = omega (arith, wider) in
    let less : a / 256 < 256 ^ n = omega (arith, pow-succ' 256 n) in
    ap (λ (k : ℕ). bytes_of k (a + 256 ^ suc n * b)) (suc-add n m)
    ∙ ap₂ ◌∷◌ (omega (arith, wider)) (ap (bytes_of (n + m)) high ∙ bytes_joined n m (a / 256) b less)

-- ### Written over others

module _ (s : List ℕ) (at : ℕ) (xs : List ℕ) (inside : at + length xs ≤ length s) where
  some : length (take at s) ≡ at
  some = length-take-le at s (omega arith)

  -- what stands in front of them stays
  pub over_front : take at (over s at xs) ≡ take at s
  over_front =
      sym (take-take at (at + length xs) (over s at xs) (omega arith))
      ∙ ap (take at) (over_take s at xs inside)
      ∙ take_at (take at s) xs at some

  -- what is read inside them is theirs
  pub number_over : (n k : ℕ) → k + n ≤ length xs → number_at n (over s at xs) (at + k) ≡ number_at n xs k
  unfolding number_at
  number_over n k h =
      let whole : length (take at s ++ xs) ≤ at + length xs = omega (arith, length-append (take at s) xs, some) in
      number_front (over s at xs) (take at s ++ xs) n (at + k) (at + length xs) (le-leb (at + k + n) (at + length xs) (omega arith))
      (over_take s at xs inside ∙ sym (take_all (at + length xs) (take at s ++ xs) whole))
      ∙ ap (λ (m : ℕ). le n (drop (m + k) (take at s ++ xs))) (sym some)
      ∙ ap (le n) (drop-append-add (take at s) xs k)
