-- A chunk that begins with a name: what its rule judges, and the rectangles and counts, stand in the bytes behind the name.
use mathlib.Core.Path.{◌≡◌, refl}
use mathlib.Core.List.{List}
use Prim.Native.Nat.{ℕ, ◌+◌, ◌≤◌}
use native.Mathlib.Omega.{arith}
use lib.ListN.{drop}
use Rattle.endian.specs.Number.{number_at}
use Rattle.endian.proofs.Front.{number_behind}
use Rattle.rect.specs.Rect.{rect_at}
use Rattle.chunk.specs.Area.{area_at}
use Rattle.chunk.specs.Mask.{mask_at}
use Rattle.chunk.specs.LayerInformation.{layer_of, layer_fault}

module _ (m : ℕ) (xs ys : List ℕ) (alike : drop m xs ≡ drop m ys) where
  number : (n at : ℕ) → m ≤ at → number_at n xs at ≡ number_at n ys at
  number n at h = number_behind xs ys n at m h alike

  rect : (at : ℕ) → m ≤ at → rect_at xs at ≡ rect_at ys at
  unfolding rect_at
  rect at h = rw (number 4 at h, number 4 (at + 4) (omega arith), number 4 (at + 8) (omega arith), number 4 (at + 12) (omega arith)) refl

  pub area_behind : (at : ℕ) → m ≤ at → area_at xs at ≡ area_at ys at
  unfolding area_at
  area_behind at h = rw (rect at h, rect (at + 16) (omega arith)) refl

  pub mask_behind : (at : ℕ) → m ≤ at → mask_at xs at ≡ mask_at ys at
  unfolding mask_at
  mask_behind at h = rw (area_behind at h, number 2 (at + 32) (omega arith), number 2 (at + 34) (omega arith)) refl

module _ (xs ys : List ℕ) (alike : drop 256 xs ≡ drop 256 ys) where
  pub layer_fault_behind : (depth : ℕ) → layer_fault depth (layer_of xs) ≡ layer_fault depth (layer_of ys)
  unfolding layer_fault layer_of
  layer_fault_behind depth =
      rw (
        number 256 xs ys alike 1 256 (omega arith),
        area_behind 256 xs ys alike 257 (omega arith),
        area_behind 256 xs ys alike 294 (omega arith),
        number 256 xs ys alike 2 329 (omega arith),
        number 256 xs ys alike 2 371 (omega arith),
        number 256 xs ys alike 2 373 (omega arith),
      ) refl
