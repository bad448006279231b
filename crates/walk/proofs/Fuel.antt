-- The walk is defined by fuel, and fuel has no say: a walk from a place on is the same for any two fuels that its input cannot use up.
use mathlib.Core.Path.{◌≡◌, refl, ap}
use Prim.Native.Nat.{ℕ, zero, suc, ◌-◌, ◌≤◌, ◌<◌}
use native.Mathlib.Omega.{arith}
use Rattle.walk.specs.Walk.{Step, Look, Rest, Go, done, ◌◂◌, follow, walk, run, enough}
use Rattle.walk.specs.Owed.{Moves, ends, stops, leaf, nest, MovesOn}

module _ {S : Type 0} (main len : ℕ) where
  -- two walks that agree further on agree here
  follow_same :
      (go go' : Go S) (st : S) (at end levels : ℕ) (rest rest' : Rest S)
      → ((q : S) (a b l : ℕ) (r r' : Rest S) → at < a → at < len → a ≤ b → l ≤ main → ((p : ℕ) (x : S) → r p x ≡ r' p x)
      → go q a b l r ≡ go' q a b l r')
      → levels ≤ main → ((p : ℕ) (x : S) → rest p x ≡ rest' p x)
      → {k : Step S} → Moves len main at end levels k → follow go st at end levels rest k ≡ follow go' st at end levels rest' k
  unfolding follow
  follow_same go go' st at end levels rest rest' ih low same (ends m) = same at st
  follow_same go go' st at end levels rest rest' ih low same (stops m) = refl
  follow_same go go' st at end levels rest rest' ih low same (leaf {e} {next} {q} m) =
      ap (e ◂◌) (ih q next end levels rest rest' m.on (omega arith) m.within low same)
  follow_same go go' st at end levels rest rest' ih low same (nest {e} {inside} {after} {q} m) =
      ap (e ◂◌) (ih q inside after (levels - 1) _ _ m.owns.on (omega arith) m.order (omega arith)
      (λ p left. ih left after end levels rest rest' (omega arith) (omega arith) m.within low same))

  pub steady :
      (look : Look S) → MovesOn main len look
      → (f g : ℕ) (st : S) (at end levels : ℕ) (rest rest' : Rest S) → len - at < f → len - at < g → at ≤ end → levels ≤ main
      → ((p : ℕ) (x : S) → rest p x ≡ rest' p x) → walk look f st at end levels rest ≡ walk look g st at end levels rest'
  unfolding walk
  steady look moves zero g st at end levels rest rest' h h' order low same = absurd (omega arith)
  steady look moves (suc f) zero st at end levels rest rest' h h' order low same = absurd (omega arith)
  steady look moves (suc f) (suc g) st at end levels rest rest' h h' order low same =
      follow_same (walk look f) (walk look g) st at end levels rest rest'
      (λ q a b l r r' on header ord lo eq. steady look moves f g q a b l r r' (omega arith) (omega arith) ord lo eq)
      low same (moves st at end levels order low)

  -- a walk to the parent's end, with any fuel that is enough
  pub run_fuel :
      (look : Look S) → MovesOn main len look
      → (f : ℕ) (st : S) (at end levels : ℕ) → len - at < f → at ≤ end → levels ≤ main
      → walk look f st at end levels done ≡ run look len st at end levels
  unfolding run
  run_fuel look moves f st at end levels h order low =
      steady look moves f (enough len at) st at end levels done done h (omega arith) order low (λ p x. refl)
