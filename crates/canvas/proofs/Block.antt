-- What a block of rows leaves on a canvas: a byte of one of its rows is the plane's, and any other keeps its own.
use mathlib.Core.Path.{◌≡◌, refl, sym, ap, ◌∙◌, subst}
use mathlib.Core.List.{List}
use mathlib.Core.Logic.{◌⊎◌, inl, inr, ⊎_elim}
use Prim.Native.Nat.{ℕ, zero, suc, ◌+◌, ◌-◌, ◌*◌, ◌<◌, ◌≤◌}
use native.Mathlib.Nat.{mul-le-mul_right, suc-mul, add-mul, eq-or-lt_of_le}
use native.Mathlib.Omega.{arith}
use lib.ListN.{length, get_or}
use Rattle.laws.specs.Lists.{part}
use Rattle.laws.proofs.Part.{part_length, part_at}
use Rattle.laws.proofs.Over.{over_length, over_before, over_within, over_behind}
use Rattle.laws.proofs.Tests.{less_or_not}
use Rattle.canvas.specs.Blocks.{Room, rows_of}

-- a row ends where the next one starts, or before
pub next : (i j across : ℕ) → i < j → i * across + across ≤ j * across
next i j across h = subst (λ (n : ℕ). n ≤ j * across) (suc-mul i across) (mul-le-mul_right across h)

-- row i of a block that starts at (x, y), in rows of `across` bytes of which there are n
pub row_inside :
    (x w across y h n i : ℕ) → x + w ≤ across → y + h ≤ n → i < h → y * across + x + i * across + w ≤ n * across
row_inside x w across y h n i p q k = omega (arith, next (y + i) n across (omega arith), add-mul y i across)

module _ (plane : List ℕ) (row from w : ℕ) (canvas : List ℕ) (across at : ℕ) where
  abbrev rows : ℕ → List ℕ
  rows = rows_of plane row from w canvas across at

  -- row h of the block
  abbrev line : ℕ → List ℕ
  line h = part plane (from + h * row) w

  module _ (h : ℕ) (room : Room plane row from w canvas across at (suc h)) where
    earlier : Room plane row from w canvas across at h
    earlier = record { there = λ i k. room.there i (omega arith); here = λ i k. room.here i (omega arith) }

    line_length : length (line h) ≡ w
    line_length = part_length plane (from + h * row) w (room.here h (omega arith))

    fits : length (rows h) ≡ length canvas → at + h * across + length (line h) ≤ length (rows h)
    fits e = omega (arith, line_length, room.there h (omega arith))

  pub rows_length : (h : ℕ) → Room plane row from w canvas across at h → length (rows h) ≡ length canvas
  unfolding rows_of
  rows_length zero room = refl
  rows_length (suc h) room =
      let e = rows_length h (earlier h room) in
      over_length (rows h) (at + h * across) (line h) (fits h room e) ∙ e

  -- a byte of a row of the block
  rows_in :
      (h : ℕ) → Room plane row from w canvas across at h → w ≤ across → (i t : ℕ) → i < h → t < w
      → get_or (rows h) (at + i * across + t) 0 ≡ get_or plane (from + i * row + t) 0
  unfolding rows_of
  rows_in zero room wide i t k q = absurd (omega arith)
  rows_in (suc h) room wide i t k q =
      let inside = fits h room (rows_length h (earlier h room)) in
      let last : i ≤ h = omega arith in
      ⊎_elim
      (λ e.
      ap (λ (n : ℕ). get_or (rows (suc h)) (at + n * across + t) 0) e
      ∙ over_within (rows h) (at + h * across) (line h) inside 0 t (omega (arith, line_length h room))
      ∙ part_at plane (from + h * row) w t 0 q
      ∙ ap (λ (n : ℕ). get_or plane (from + n * row + t) 0) (sym e))
      (λ less.
      over_before (rows h) (at + h * across) (line h) inside 0 (at + i * across + t) (omega (arith, next i h across less))
      ∙ rows_in h (earlier h room) wide i t less q)
      (eq-or-lt_of_le last)

  -- any other
  rows_out :
      (h : ℕ) → Room plane row from w canvas across at h → (k : ℕ)
      → ((i : ℕ) → i < h → (k < at + i * across) ⊎ (at + i * across + w ≤ k)) → get_or (rows h) k 0 ≡ get_or canvas k 0
  unfolding rows_of
  rows_out zero room k off = refl
  rows_out (suc h) room k off =
      let inside = fits h room (rows_length h (earlier h room)) in
      ⊎_elim
      (λ b. over_before (rows h) (at + h * across) (line h) inside 0 k b)
      (λ b. over_behind (rows h) (at + h * across) (line h) inside 0 k (omega (arith, line_length h room)))
      (off h (omega arith))
      ∙ rows_out h (earlier h room) k (λ i z. off i (omega arith))

-- by pixels: the block's first pixel is (x₀, y₀) on the canvas, and (dx, dy) in the plane
module _
    (plane : List ℕ) (row dx dy : ℕ) (canvas : List ℕ) (across x₀ y₀ w h : ℕ)
    (room : Room plane row (dy * row + dx) w canvas across (y₀ * across + x₀) h) (inside : x₀ + w ≤ across) where
  abbrev block : List ℕ
  block = rows_of plane row (dy * row + dx) w canvas across (y₀ * across + x₀) h

  pub block_in :
      (x y : ℕ) → x₀ ≤ x → x < x₀ + w → y₀ ≤ y → y < y₀ + h
      → get_or block (y * across + x) 0 ≡ get_or plane ((dy + (y - y₀)) * row + (dx + (x - x₀))) 0
  block_in x y p q p' q' =
      let i = y - y₀ in
      let back : y₀ + i ≡ y = omega arith in
      let here : y * across + x ≡ y₀ * across + x₀ + i * across + (x - x₀) =
      omega (arith, add-mul y₀ i across, ap (λ (n : ℕ). n * across) back) in
      let there : dy * row + dx + i * row + (x - x₀) ≡ (dy + i) * row + (dx + (x - x₀)) = omega (arith, add-mul dy i row) in
      ap (λ (n : ℕ). get_or block n 0) here
      ∙ rows_in plane row (dy * row + dx) w canvas across (y₀ * across + x₀) h room (omega arith) i (x - x₀) (omega arith) (omega arith)
      ∙ ap (λ (n : ℕ). get_or plane n 0) there

  pub block_out :
      (x y : ℕ) → x < across → (x₀ ≤ x → x < x₀ + w → y₀ ≤ y → y < y₀ + h → ⊥)
      → get_or block (y * across + x) 0 ≡ get_or canvas (y * across + x) 0
  block_out x y low off = rows_out plane row (dy * row + dx) w canvas across (y₀ * across + x₀) h room (y * across + x) beside
    where
      -- row i of the block is another row of the canvas, or the pixel stands before or behind it
      beside : (i : ℕ) → i < h → (y * across + x < y₀ * across + x₀ + i * across) ⊎ (y₀ * across + x₀ + i * across + w ≤ y * across + x)
      beside i k =
          let sum = add-mul y₀ i across in
          ⊎_elim
          (λ less. inl (omega (arith, sum, next y (y₀ + i) across less)))
          (λ more.
          ⊎_elim
          (λ e.
          let same : y₀ * across + i * across ≡ y * across = sym sum ∙ ap (λ (n : ℕ). n * across) e in
          ⊎_elim
          (λ before. inl (omega (arith, same)))
          (λ from.
          ⊎_elim
          (λ within. absurd (off from within (omega arith) (omega arith)))
          (λ behind. inr (omega (arith, same)))
          (less_or_not x (x₀ + w)))
          (less_or_not x x₀))
          (λ less. inr (omega (arith, sum, next (y₀ + i) y across less)))
          (eq-or-lt_of_le more))
          (less_or_not y (y₀ + i))
