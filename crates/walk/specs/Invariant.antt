-- What every step keeps, from the walk's start on. A family speaks of the levels left, of the place that the walk has come to,
-- of all entries listed so far, front to back, and of the rules' state.
use Rattle.std.specs.Prelude.{◌≡◌, List, [], ◌∷◌, ◌++◌, ℕ, ◌-◌, ◌≤◌, ◌<◌}
use Rattle.entry.specs.declared.Entry.{Entry}
use Rattle.walk.specs.Walk.{End, Leaf, Nest, Look}
use Rattle.walk.specs.Owed.{Owns, Opens}

abbrev pub Family : Type 0 → Type 1
Family S = ℕ → ℕ → List Entry → S → Type 0

module _ {S : Type 0} (main len : ℕ) (look : Look S) (P : Family S) where
  -- an entry is listed; one is listed and its inside entered; an inside is left, where it ends
  pub record Invariant : Type 0 where
    pub leaf :
        {st : S} {at end levels : ℕ} {es : List Entry} {e : Entry} {next : ℕ} {q : S}
        → levels ≤ main → Owns len at end e next → look st at end levels ≡ Leaf e next q
        → P levels at es st → P levels next (es ++ e ∷ []) q
    pub nest :
        {st : S} {at end levels : ℕ} {es : List Entry} {e : Entry} {inside : ℕ} {q : S} {after : ℕ}
        → levels ≤ main → Opens len at end levels e inside after → look st at end levels ≡ Nest e inside q after
        → P levels at es st → P (levels - 1) inside (es ++ e ∷ []) q
    pub out :
        {st : S} {end levels : ℕ} {es : List Entry} → 0 < levels → levels ≤ main → look st end end (levels - 1) ≡ End
        → P (levels - 1) end es st → P levels end es st

  -- what the entry of each step has of the entries before it
  pub record Each (Q : List Entry → Entry → Type 0) : Type 0 where
    pub leaf :
        {st : S} {at end levels : ℕ} {es : List Entry} {e : Entry} {next : ℕ} {q : S}
        → levels ≤ main → Owns len at end e next → look st at end levels ≡ Leaf e next q → P levels at es st → Q es e
    pub nest :
        {st : S} {at end levels : ℕ} {es : List Entry} {e : Entry} {inside : ℕ} {q : S} {after : ℕ}
        → levels ≤ main → Opens len at end levels e inside after → look st at end levels ≡ Nest e inside q after → P levels at es st → Q es e
