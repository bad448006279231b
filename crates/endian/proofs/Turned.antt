-- Numbers with the greatest byte first: their laws are those of the same bytes from the last to the first.
use mathlib.Core.Path.{◌≡◌, sym, ap, ap₂, subst, ◌∙◌}
use mathlib.Core.List.{List, [], ◌∷◌, ◌++◌, reverse, reverse-append, reverse-reverse}
use Prim.Native.Nat.{ℕ, ◌+◌, ◌-◌, ◌*◌, ◌/◌, ◌%◌, ◌^◌, ◌≤◌, ◌<◌}
use native.Mathlib.Nat.{add_comm, zero-add}
use native.Mathlib.Omega.{arith}
use lib.ListN.{length, length-reverse}
use lib.Seq.{take_at, drop_at}
use Rattle.std.specs.Int.{w32, from_be_bytes, to_be_bytes}
use Rattle.laws.specs.All.{All}
use Rattle.laws.specs.Lists.{part, over}
use Rattle.laws.proofs.All.{all_part, all_reverse}
use Rattle.laws.proofs.Over.{over_over}
use Rattle.laws.proofs.Part.{part_length, part_join}
use Rattle.endian.specs.Number.{le, number_at, bytes_of, big_at, big_bytes_of, Reads, ReadsBig}
use Rattle.endian.proofs.Front.{le_front}
use Rattle.endian.proofs.Width.{joined}
use Rattle.endian.proofs.Bytes.{bytes_length, bytes_number, bytes_joined, number_bytes, bytes_small}

-- ### As the library has them, of four bytes

four : (xs : List ℕ) → length xs ≡ 4 → from_be_bytes w32 xs ≡ le 4 (reverse xs)
unfolding le
four (a ∷ b ∷ c ∷ d ∷ []) e = omega arith
four [] e = absurd (omega arith)
four (a ∷ []) e = absurd (omega arith)
four (a ∷ b ∷ []) e = absurd (omega arith)
four (a ∷ b ∷ c ∷ []) e = absurd (omega arith)
four (a ∷ b ∷ c ∷ d ∷ x ∷ xs) e = absurd (omega arith)

-- what it makes of the bytes of a place
pub reads_be :
    (s xs : List ℕ) (at : ℕ) {r : ℕ} → at + 4 ≤ length s → r < 2 ^ 32 → xs ≡ part s at 4 → r ≡ from_be_bytes w32 xs → ReadsBig 4 s at r
unfolding big_at
reads_be s xs at h small taken is = record {
  value = is ∙ four xs (ap length taken ∙ part_length s at 4 h) ∙ ap (λ (l : List ℕ). le 4 (reverse l)) taken;
  range = small;
}

-- and the bytes that it makes of a number
pub four_of : (n : ℕ) → to_be_bytes w32 n ≡ big_bytes_of 4 n
unfolding big_bytes_of bytes_of
four_of n =
    let first : n / 16777216 % 256 ≡ n / 256 / 256 / 256 - 256 * (n / 256 / 256 / 256 / 256) = omega arith in
    let second : n / 65536 % 256 ≡ n / 256 / 256 - 256 * (n / 256 / 256 / 256) = omega arith in
    let third : n / 256 % 256 ≡ n / 256 - 256 * (n / 256 / 256) = omega arith in
    let last : n % 256 ≡ n - 256 * (n / 256) = omega arith in
    ap₂ (λ (a b : ℕ). a ∷ b ∷ n / 256 % 256 ∷ n % 256 ∷ []) first second
    ∙ ap₂ (λ (c d : ℕ). (n / 256 / 256 / 256 - 256 * (n / 256 / 256 / 256 / 256)) ∷ (n / 256 / 256 - 256 * (n / 256 / 256 / 256)) ∷ c ∷ d ∷ []) third last

-- ### One law over the width, of reading and of writing

-- what two readers answer, one behind the other, is what a reader of both answers
pub big_joined :
    (m n : ℕ) (s : List ℕ) (at : ℕ) {a b : ℕ} → at + (m + n) ≤ length s
    → ReadsBig m s at a → ReadsBig n s (at + m) b → ReadsBig (m + n) s at (b + 256 ^ n * a)
unfolding big_at number_at
big_joined m n s at {a} {b} h p q =
    let high = reverse (part s at m) in
    let low = reverse (part s (at + m) n) in
    let turned : reverse (part s at (m + n)) ≡ low ++ high = ap reverse (sym (part_join s at m n)) ∙ reverse-append (part s at m) (part s (at + m) n) in
    let long : length low ≡ n = length-reverse (part s (at + m) n) ∙ part_length s (at + m) n (omega arith) in
    let first : Reads n (low ++ high) 0 b = record {
      value = q.value ∙ ap (le n) (sym (take_at low high n long)) ∙ le_front n n (low ++ high) (omega arith);
      range = q.range;
    } in
    let second : Reads m (low ++ high) (0 + n) a = record {
      value = p.value ∙ ap (le m) (sym (drop_at low high (0 + n) (long ∙ sym (zero-add n))));
      range = p.range;
    } in
    let both = joined n m (low ++ high) 0 first second in
    record {
      value = both.value ∙ ap₂ le (add_comm n m) (sym turned);
      range = subst (λ (k : ℕ). b + 256 ^ n * a < 256 ^ k) (add_comm n m) both.range;
    }

pub big_length : (n m : ℕ) → length (big_bytes_of n m) ≡ n
unfolding big_bytes_of
big_length n m = length-reverse (bytes_of n m) ∙ bytes_length n m

-- two numbers written, one behind the other, are one
pub big_over :
    (m n : ℕ) (dest : List ℕ) (at a b : ℕ) → at + (m + n) ≤ length dest → b < 256 ^ n
    → over (over dest at (big_bytes_of m a)) (at + m) (big_bytes_of n b) ≡ over dest at (big_bytes_of (m + n) (b + 256 ^ n * a))
unfolding big_bytes_of
big_over m n dest at a b h small =
    over_over dest at (at + m) (big_bytes_of m a) (big_bytes_of n b) (omega (arith, big_length m a)) (omega (arith, big_length n b))
    ∙ ap (over dest at)
    (sym (reverse-append (bytes_of n b) (bytes_of m a))
    ∙ ap reverse (sym (bytes_joined n m b a small) ∙ ap (λ (k : ℕ). bytes_of k (b + 256 ^ n * a)) (add_comm n m)))

-- ### The way back

-- the bytes of a number have that number
pub big_number : (n m : ℕ) (s : List ℕ) (at : ℕ) → m < 256 ^ n → part s at n ≡ big_bytes_of n m → big_at n s at ≡ m
unfolding big_at big_bytes_of number_at
big_number n m s at small e = ap (λ (l : List ℕ). le n (reverse l)) e ∙ ap (le n) (reverse-reverse (bytes_of n m)) ∙ bytes_number n m small

-- bytes are those of their number
pub big_bytes : (n : ℕ) (s : List ℕ) (at : ℕ) → at + n ≤ length s → All (λ (b : ℕ). b < 256) s → big_bytes_of n (big_at n s at) ≡ part s at n
unfolding big_at big_bytes_of
big_bytes n s at h bytes =
    let long = length-reverse (part s at n) ∙ part_length s at n h in
    ap reverse (number_bytes n (reverse (part s at n)) long (all_reverse (all_part at n bytes))) ∙ reverse-reverse (part s at n)

pub big_small : (n : ℕ) (s : List ℕ) (at : ℕ) → All (λ (b : ℕ). b < 256) s → big_at n s at < 256 ^ n
unfolding big_at
big_small n s at bytes = bytes_small n (reverse (part s at n)) (all_reverse (all_part at n bytes))
