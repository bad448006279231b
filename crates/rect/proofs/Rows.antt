-- Padded rows, and planes, once over the bit width.
use Prim.Native.Nat.{ℕ, ◌+◌, ◌*◌, ◌≤◌, ◌<◌}
use native.Mathlib.Nat.{mul-le-mul}
use native.Mathlib.Omega.{arith}
use Rattle.limits.specs.Limits.{side_limit}
use Rattle.rect.specs.Rows.{row_of}

-- sixteen bits a side: a row has at most 65,536 bytes, and a plane fits 32 bits
pub pixels : (w bits : ℕ) → w < 65536 → bits ≤ 8 → w * bits ≤ 65535 * 8
pixels w bits small few = let most : w ≤ 65535 = omega arith in mul-le-mul most few

pub wide_plane : (row h : ℕ) → row ≤ 65536 → h < 65536 → row * h ≤ 65536 * 65535
wide_plane row h wide low = let most : h ≤ 65535 = omega arith in mul-le-mul wide most

-- a padded row holds its pixels, with less than four bytes to spare
pub holds : (w bits : ℕ) → (w * bits ≤ 8 * row_of w bits) × (8 * row_of w bits ≤ w * bits + 31)
unfolding row_of
holds w bits = (omega arith, omega arith)

-- a permitted side: a padded row is within the limit of sides
pub row : (w bits : ℕ) → w ≤ side_limit → bits ≤ 8 → row_of w bits ≤ side_limit
unfolding row_of
row w bits w_Fits bits_fit = let most : w * bits ≤ side_limit * 8 = mul-le-mul w_Fits bits_fit in omega arith
