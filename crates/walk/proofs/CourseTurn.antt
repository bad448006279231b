-- A turn of the code's loop that goes along a course of several looks: what it lets the loop conclude, once the entries of the course are
-- kept. The course ends in the loop's own parent, or inside a block of it.
use mathlib.Core.Path.{◌≡◌, refl, ap, subst, subst⁻¹, ◌∙◌}
use mathlib.Core.List.{List, [], ◌∷◌, ◌++◌}
use Prim.Native.Nat.{ℕ, ◌+◌, ◌-◌, ◌≤◌}
use native.Mathlib.Omega.{arith}
use lib.ListN.{length}
use Rattle.answer.specs.Answers.{Accepted, is_accepted}
use Rattle.answer.specs.declared.Outcome.{Outcome}
use Rattle.entry.specs.declared.Entry.{Entry}
use Rattle.entry.specs.Entry.{keep}
use Rattle.walk.specs.Walk.{Leaf, Look, Listing, Rest, done, run, walk, enough}
use Rattle.walk.specs.Room.{Walked}
use Rattle.walk.specs.Owed.{MovesOn}
use Rattle.walk.specs.Course.{Stand, stand, Course, leaf}
use Rattle.walk.proofs.Continued.{and_then, walk_then}
use Rattle.walk.proofs.Course.{rest_from, from, course_run}
use Rattle.walk.proofs.LoopArms.{count_fits, many_more, halts, goes_on}
use Rattle.walk.proofs.LoopTurn.{Continues}

all_levels : (levels : ℕ) → levels - 0 ≡ levels
all_levels levels = omega arith

-- one leaf more, in the parent that the course began in
pub leaf_more :
    {S : Type 0} {look : Look S} {levels end at : ℕ} {begin : Stand S} {es : List Entry} {q : S} → Course look levels begin es (stand at end [] q)
    → {e : Entry} {next : ℕ} {x : S} → look q at end levels ≡ Leaf e next x → Course look levels begin (es ++ e ∷ []) (stand next end [] x)
leaf_more {look} {levels} {end} {at} {q} c is = leaf c (ap (look q at end) (all_levels levels) ∙ is)

module _
    {S K : Type 0} (put : K → ℕ → Entry → K) (main len : ℕ) (look : Look S) (moves : MovesOn main len look)
    (st : S) (at end levels : ℕ) (order : at ≤ end) (low : levels ≤ main) where
  abbrev Along : List Entry → Stand S → Type 0
  Along = Course look levels (stand at end [] st)

  -- what is listed from where the course ends
  abbrev rest : Stand S → Listing S
  rest = from main len look moves levels low st at end order

  module _ (room start : ℕ) (t : K) (es : List Entry) (n : ℕ) (counted : n ≡ start + length es) (fits : n ≤ room) (t' : K) (stores : t' ≡ keep put t start es) where
    -- behind the entries of the course
    behind : (x : Stand S) → Along es x → Continues put (run look len st at end levels) room start t (rest x) n t'
    behind x c r q after m =
        subst⁻¹ (λ (w : Listing S). Walked put w room start t r q after) (course_run main len look moves levels low st at end order c)
        (many_more put room es (rest x) start n t r q after counted fits (subst (λ (k : K). Walked put (rest x) room n k r q after) stores m))

    -- in the same parent
    pub passed : (next : ℕ) (q : S) → Along es (stand next end [] q) → Continues put (run look len st at end levels) room start t (run look len q next end levels) n t'
    unfolding run
    passed next q c =
        subst (λ (l : ℕ). Continues put (run look len st at end levels) room start t (walk look (enough len next) q next end l done) n t') (all_levels levels)
        (behind (stand next end [] q) c)

    -- ### Inside a block of it, which ends at `close`

    module _ (next close : ℕ) (q : S) (c : Along es (stand next close (end ∷ []) q)) where
      abbrev inside : Listing S
      inside = run look len q next close (levels - 1)

      abbrev outside : Rest S
      outside p x = run look len x close end levels

      inside_out : rest (stand next close (end ∷ []) q) ≡ and_then inside outside
      unfolding run
      inside_out =
          walk_then look (enough len next) q next close (levels - 1) (rest_from main len look moves levels low st at end order close (end ∷ []))
          ∙ ap (λ (l : ℕ). and_then inside (λ p x. walk look (enough len close) x close end l done)) (all_levels levels)

      on : Continues put (run look len st at end levels) room start t (and_then inside outside) n t'
      on = subst (λ (w : Listing S). Continues put (run look len st at end levels) room start t w n t') inside_out (behind (stand next close (end ∷ []) q) c)

      -- what is left of the inside refuses
      pub halted :
          (o : Outcome) (x : S) (mid : K) → Walked put inside room n t' o x mid → (o.answer ≡ Accepted → ⊥)
          → Walked put (run look len st at end levels) room start t o x mid
      halted o x mid m some = on o x mid (halts put room (is_accepted inside.answer) inside outside n t' o x mid refl some m)

      -- or it is listed whole, and the walk goes on behind the block
      pub went_on :
          (o : Outcome) (x : S) (mid : K) → Walked put inside room n t' o x mid → o.answer ≡ Accepted
          → (o.count ≤ room) × Continues put (run look len st at end levels) room start t (run look len x close end levels) o.count mid
      went_on o x mid m whole = (
        count_fits put room inside n t' o x mid fits m,
        λ r y last k. on r y last (goes_on put room inside outside n t' o x mid r y last fits whole m k),
      )
