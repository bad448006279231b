-- What a walk keeps, seen through a map that the putting respects: so a walk that keeps a table beside something else leaves, of each
-- alone, what a walk that keeps only this one leaves.
use mathlib.Core.Path.{◌≡◌, refl, ap, ◌∙◌}
use mathlib.Core.List.{List, [], ◌∷◌}
use Prim.Native.Nat.{ℕ, ◌+◌, ◌-◌}
use Rattle.answer.specs.declared.Outcome.{Outcome}
use Rattle.entry.specs.declared.Entry.{Entry}
use Rattle.entry.specs.Entry.{keep}
use Rattle.walk.specs.Walk.{Listing}
use Rattle.walk.specs.Room.{cut, Walked}

module _ {K L : Type 0} (put : K → ℕ → Entry → K) (put' : L → ℕ → Entry → L) (f : K → L) (h : (k : K) (i : ℕ) (e : Entry) → f (put k i e) ≡ put' (f k) i e) where
  keep_along : (es : List Entry) (k : K) (i : ℕ) → f (keep put k i es) ≡ keep put' (f k) i es
  unfolding keep
  keep_along [] k i = refl
  keep_along (e ∷ es) k i = keep_along es (put k i e) (i + 1) ∙ ap (λ x. keep put' x (i + 1) es) (h k i e)

  pub walked_along :
      {S : Type 0} (w : Listing S) (room from : ℕ) (k : K) (r : Outcome) (state : S) (after : K)
      → Walked put w room from k r state after → Walked put' w room from (f k) r state (f after)
  walked_along w room from k r state after m = record {
    answer = m.answer;
    place = m.place;
    count = m.count;
    kept = ap f m.kept ∙ keep_along (cut (room - from) w).entries k from;
    ends_in = m.ends_in;
  }
