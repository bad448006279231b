-- The version of the library.
use Rattle.std.specs.Prelude.{ℕ, ◌+◌, ◌*◌}

-- 0.9.0: major times 10,000, minor times 100, patch
abbrev pub version : ℕ
version = 0 * 10000 + 9 * 100 + 0
