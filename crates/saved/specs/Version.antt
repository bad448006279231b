-- The versions of a saved table and their numbers (document 02, request ix).
use Rattle.std.specs.Prelude.{ℕ, ◌≡◌, ◌||◌, true, ltb, Result, MatchResult}
use Rattle.saved.specs.declared.sides.Version.{Version}
use Rattle.saved.specs.declared.sides.Version.TheVariants.{First, Second}
use Rattle.saved.specs.declared.sides.UnknownVersion.{UnknownVersion}

abbrev pub number_of : Version → ℕ
number_of First = 1
number_of Second = 2

-- the version that has this number, or a number that is below the first or above the second
abbrev pub IsVersionOf : ℕ → Result Version UnknownVersion → Type 0
IsVersionOf n r = MatchResult r (λ version. number_of version ≡ n) (λ e. (e.0 ≡ n) × ((ltb n 1 || ltb 2 n) ≡ true))
