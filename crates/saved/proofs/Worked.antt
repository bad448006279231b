-- Worked files: an entry and a number more, byte for byte; and a version by the height alone.
use mathlib.Core.Path.{◌≡◌, refl}
use mathlib.Core.List.{List, [], ◌∷◌}
use Prim.Native.Nat.{ℕ}
use lib.ListN.{set}
use Rattle.laws.specs.Choice.{pick}
use Rattle.laws.specs.Lists.{part, over}
use Rattle.endian.specs.Number.{le, bytes_of, big_at, big_bytes_of}
use Rattle.saved.specs.Saved.{in_bytes, following, saved_as, any_large, version_of, saved, numbers_at, reads}

-- fourteen numbers, the last of them 01 02 03 04, and one that makes no entry
abbrev table : List ℕ
table = 7 ∷ 0 ∷ 2 ∷ 36 ∷ 128 ∷ 5 ∷ 1 ∷ 3 ∷ 154 ∷ 4096 ∷ 640 ∷ 480 ∷ 307200 ∷ 16909060 ∷ 99 ∷ []

-- length, version and count; then the entry
abbrev file : List ℕ
file =
    0 ∷ 0 ∷ 0 ∷ 61 ∷ 1 ∷ 0 ∷ 0 ∷ 0 ∷ 1
    ∷ 0 ∷ 0 ∷ 0 ∷ 7 ∷ 0 ∷ 0 ∷ 0 ∷ 0 ∷ 0 ∷ 0 ∷ 0 ∷ 2 ∷ 0 ∷ 0 ∷ 0 ∷ 36 ∷ 0 ∷ 0 ∷ 0 ∷ 128 ∷ 0 ∷ 0 ∷ 0 ∷ 5 ∷ 0 ∷ 0 ∷ 0 ∷ 1
    ∷ 0 ∷ 0 ∷ 0 ∷ 3 ∷ 0 ∷ 0 ∷ 0 ∷ 154 ∷ 0 ∷ 0 ∷ 16 ∷ 0 ∷ 0 ∷ 0 ∷ 2 ∷ 128 ∷ 0 ∷ 0 ∷ 1 ∷ 224 ∷ 0 ∷ 4 ∷ 176 ∷ 0 ∷ 1 ∷ 2 ∷ 3 ∷ 4 ∷ []

pub file_worked : saved table ≡ file
unfolding saved_as following in_bytes big_bytes_of bytes_of any_large pick
file_worked = refl

-- the same with a height of 30,000: version 2, and the height's bytes
abbrev large_table : List ℕ
large_table = set table 11 30000

pub large_file_worked : saved large_table ≡ over (set file 4 2) 53 (0 ∷ 0 ∷ 117 ∷ 48 ∷ [])
unfolding saved_as following in_bytes big_bytes_of bytes_of any_large pick over
large_file_worked = refl

-- a side of 4,096 is not large, and one more is
pub edge_worked : (version_of (set table 10 4096) ≡ 1) × (version_of (set table 10 4097) ≡ 2)
unfolding any_large pick
edge_worked = (refl, refl)

-- no entries in version 2: 74, in no room and in any
pub empty_worked : (room : List ℕ) → (reads (0 ∷ 0 ∷ 0 ∷ 5 ∷ 2 ∷ 0 ∷ 0 ∷ 0 ∷ 0 ∷ []) room).told.number ≡ 74
unfolding reads numbers_at any_large big_at le part pick
empty_worked room = refl
