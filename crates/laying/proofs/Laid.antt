-- What the reader lays into a buffer: blocks, and parts of it.
use mathlib.Core.Path.{◌≡◌, sym, ap, ◌∙◌}
use mathlib.Core.List.{List, ◌++◌}
use Prim.Native.Nat.{ℕ, ◌+◌, ◌≤◌}
use native.Mathlib.Omega.{arith}
use lib.ListN.{length, take, drop, replicate, length-append, length-drop, length-replicate}
use lib.Seq.{length-take-le, take-append-le, take-append-add, take-take}
use Rattle.std.proofs.lemmas.List.{take-replicate}

-- ### A block that is longer than what it is laid for

-- ys stands in front of a list that keeps its length; what stands behind it is not said
abbrev pub Front : List ℕ → ℕ → List ℕ → List ℕ → Type 0
Front t n ys after = (length after ≡ length t) × (take n after ≡ ys)

module _ (t after : List ℕ) (n m : ℕ) (le : n ≤ m) (fits : m ≤ length t) where
  front : (xs : List ℕ) → length xs ≡ m → after ≡ xs ++ drop m t → Front t n (take n xs) after
  front xs long e =
      (ap length e ∙ omega (arith, length-append xs (drop m t), length-drop m t), ap (take n) e ∙ take-append-le n xs (drop m t) (omega arith))

  pub literals_front : (s : List ℕ) → m ≤ length s → after ≡ take m s ++ drop m t → Front t n (take n s) after
  literals_front s there e =
      let f = front (take m s) (length-take-le m s there) e in
      (f.0, f.1 ∙ take-take n m s le)

  pub run_front : (b : ℕ) → after ≡ replicate m b ++ drop m t → Front t n (replicate n b) after
  run_front b e =
      let f = front (replicate m b) (length-replicate m b) e in
      (f.0, f.1 ∙ take-replicate n m b le)

-- ### A part of a buffer

-- xs stands in a list from a place on, behind all that stood before it; what stands behind xs is not said
abbrev pub Ahead : List ℕ → ℕ → ℕ → List ℕ → List ℕ → Type 0
Ahead t at n xs after = (length after ≡ length t) × (take (at + n) after ≡ take at t ++ xs)

-- m elements from a place on are written, the first n of them as ys has them
pub written :
    (t xs ys : List ℕ) (at n m : ℕ) → at + m ≤ length t → n ≤ m → length xs ≡ length (take m (drop at t)) → take n xs ≡ ys
    → Ahead t at n ys (take at t ++ (xs ++ drop m (drop at t)))
written t xs ys at n m fits le same e =
    let long : length xs ≡ m = same ∙ length-take-le m (drop at t) (omega (arith, length-drop at t)) in
    let before : length (take at t) ≡ at = length-take-le at t (omega arith) in
    let rest = drop m (drop at t) in (
      omega (arith, before, length-append (take at t) (xs ++ rest), length-append xs rest, length-drop m (drop at t), length-drop at t),
      ap (λ (k : ℕ). take (k + n) (take at t ++ (xs ++ rest))) (sym before)
          ∙ take-append-add (take at t) (xs ++ rest) n
          ∙ ap (λ (l : List ℕ). take at t ++ l) (take-append-le n xs rest (omega arith) ∙ e),
    )
