-- A run by its first step: what the look found there, and what is listed then. The code takes one step a turn; this is what its turn
-- may say of the whole listing.
use mathlib.Core.Path.{◌≡◌, ap, subst, ◌∙◌}
use Prim.Native.Nat.{ℕ, ◌-◌, ◌≤◌}
use native.Mathlib.Omega.{arith}
use Rattle.std.specs.Prelude.{Err}
use Rattle.answer.specs.declared.Refusal.{Refusal}
use Rattle.answer.specs.declared.Stopped.TheVariants.{Rule}
use Rattle.entry.specs.declared.Entry.{Entry}
use Rattle.walk.specs.Walk.{Step, End, Stop, Leaf, Nest, Look, Listing, ended, done, ◌◂◌, follow, walk, run}
use Rattle.walk.specs.Owed.{Owns, Opens, Moves, leaf, nest, MovesOn}
use Rattle.walk.proofs.Fuel.{steady, run_fuel}
use Rattle.walk.proofs.Continued.{and_then, walk_then}

leaf_owns : {S : Type 0} {len main at end levels : ℕ} {e : Entry} {n : ℕ} {q : S} → Moves len main at end levels (Leaf e n q) → Owns len at end e n
leaf_owns (leaf m) = m

nest_opens :
    {S : Type 0} {len main at end levels : ℕ} {e : Entry} {n : ℕ} {q : S} {b : ℕ}
    → Moves len main at end levels (Nest e n q b) → Opens len at end levels e n b
nest_opens (nest m) = m

module _
    {S : Type 0} (main len : ℕ) (look : Look S) (moves : MovesOn main len look)
    (st : S) (at end levels : ℕ) (order : at ≤ end) (low : levels ≤ main) where
  -- ### What the look found

  found : (k : Step S) → look st at end levels ≡ k → Moves len main at end levels k
  found k e = subst (Moves len main at end levels) e (moves st at end levels order low)

  pub owns : (e : Entry) (next : ℕ) (q : S) → look st at end levels ≡ Leaf e next q → Owns len at end e next
  owns e next q h = leaf_owns (found (Leaf e next q) h)

  pub opens : (e : Entry) (inside : ℕ) (q : S) (after : ℕ) → look st at end levels ≡ Nest e inside q after → Opens len at end levels e inside after
  opens e inside q after h = nest_opens (found (Nest e inside q after) h)

  -- ### What is listed

  by_step : (k : Step S) → look st at end levels ≡ k → run look len st at end levels ≡ follow (walk look (len - at)) st at end levels done k
  unfolding run walk
  by_step k e = ap (follow (walk look (len - at)) st at end levels done) e

  pub run_end : look st at end levels ≡ End → run look len st at end levels ≡ done at st
  unfolding follow
  run_end e = by_step End e

  pub run_stop : (r : Refusal) (p : ℕ) → look st at end levels ≡ Stop r p → run look len st at end levels ≡ ended (Err (Rule r)) p st
  unfolding follow
  run_stop r p e = by_step (Stop r p) e

  pub run_leaf :
      (e : Entry) (next : ℕ) (q : S) → look st at end levels ≡ Leaf e next q
      → run look len st at end levels ≡ e ◂ run look len q next end levels
  unfolding follow
  run_leaf e next q h =
      let o = owns e next q h in
      by_step (Leaf e next q) h
      ∙ ap (e ◂◌) (run_fuel main len look moves (len - at) q next end levels (omega (arith, o.on, o.present)) o.within low)

  pub run_nest :
      (e : Entry) (inside : ℕ) (q : S) (after : ℕ) → look st at end levels ≡ Nest e inside q after
      → run look len st at end levels ≡ e ◂ and_then (run look len q inside after (levels - 1)) (λ _ left. run look len left after end levels)
  unfolding follow
  run_nest e inside q after h =
      let o = opens e inside q after h in
      let on = o.owns in
      by_step (Nest e inside q after) h
      ∙ ap (e ◂◌) (
      steady main len look moves (len - at) (len - at) q inside after (levels - 1)
      (λ _ left. walk look (len - at) left after end levels done) (λ _ left. run look len left after end levels)
      (omega (arith, on.on, on.present)) (omega (arith, on.on, on.present)) o.order (omega arith)
      (λ p left. run_fuel main len look moves (len - at) left after end levels (omega (arith, on.on, on.present, o.order)) o.within low)
      ∙ walk_then look (len - at) q inside after (levels - 1) (λ _ left. run look len left after end levels)
      ∙ ap (λ (w : Listing S). and_then w (λ _ left. run look len left after end levels))
      (run_fuel main len look moves (len - at) q inside after (levels - 1) (omega (arith, on.on, on.present)) o.order (omega arith)))
