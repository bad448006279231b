-- A unit: bytes that are judged once all of them are present (document 01, "Units, and when they are judged").
use Rattle.std.specs.Prelude.{ℕ, ◌+◌, List, ltb, length}
use Rattle.laws.specs.Choice.{pick}
use Rattle.laws.specs.Lists.{part}
use Rattle.answer.specs.declared.Refusal.TheVariants.{EndsTooSoon}
use Rattle.walk.specs.Walk.{Step, Stop}

-- the n bytes of s at a place are judged, or the answer is "ends too soon" there
unfoldable pub unit : {S : Type 0} → List ℕ → ℕ → ℕ → (List ℕ → Step S) → Step S
unit s at n judge = pick (ltb (length s) (at + n)) (Stop EndsTooSoon at) (judge (part s at n))
