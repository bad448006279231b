-- Two inputs of one length that differ only where no step reads, in bytes hidden in entries that are listed, have the same listing: the course
-- of one is a course of the other, and its last look says the same.
use mathlib.Core.Path.{◌≡◌, refl, sym, subst, ◌∙◌}
use mathlib.Core.Logic.{◌⊎◌, inl, inr, ⊎_elim}
use mathlib.Core.List.{List, [], ◌∷◌, ◌++◌}
use Prim.Native.Nat.{ℕ, zero, suc, ◌+◌, ◌-◌, ◌≤◌, ◌<◌}
use native.Mathlib.Omega.{arith}
use lib.ListN.{length, get_or}
use Rattle.laws.specs.Differ.{DifferIn}
use Rattle.laws.proofs.Differ.{byte_same}
use Rattle.laws.proofs.Tests.{not_other}
use Rattle.entry.specs.declared.Entry.{Entry}
use Rattle.walk.specs.Walk.{Step, Look, run}
use Rattle.walk.specs.Room.{cut}
use Rattle.walk.specs.Owed.{Owns, Moves, MovesOn, Shares, Blind}
use Rattle.walk.specs.Promised.{Tiles, none, next, Hides, here, there}
use Rattle.walk.specs.Course as course
use Rattle.walk.specs.Course.{Stand, stand, seen, Course, Answered}
use Rattle.walk.proofs.Course.{owns_of, opens_of, Fits, fits, owed}
use Rattle.walk.proofs.Tiling.{tiles_total, course_tiles}
use Rattle.walk.proofs.Exact.{cut_exact, exact_only}

-- ### Where hidden bytes lie

module _ {hidden : Entry → ℕ → Type 0} {i : ℕ} where
  -- among those that entries side by side own
  pub hides_within : {a b : ℕ} {es : List Entry} → Tiles a es b → Hides hidden i es → (a ≤ i) × (i < b)
  hides_within (none {a}) h = elim h [ ]
  hides_within (next k t) (here low high h) = (omega arith, omega (arith, tiles_total t))
  hides_within (next k t) (there h) = let w = hides_within t h in (omega (arith, w.0), w.1)

  -- in the k-th of them
  pub hides_at :
      (es : List Entry) (k : ℕ) (d : Entry) → k < length es → (get_or es k d).block.place ≤ i → i < (get_or es k d).block.place + (get_or es k d).block.owned
      → hidden (get_or es k d) i → Hides hidden i es
  hides_at [] k d some low high h = absurd (omega arith)
  hides_at (e ∷ es) zero d some low high h = here low high h
  hides_at (e ∷ es) (suc k) d some low high h = there (hides_at es k d (omega arith) low high h)

  -- in one before the last, or in that
  hides_last : (es : List Entry) (e : Entry) → Hides hidden i (es ++ e ∷ []) → Hides hidden i es ⊎ ((e.block.place ≤ i) × hidden e i)
  hides_last [] e (here low high h) = inr (low, h)
  hides_last [] e (there h) = elim h [ ]
  hides_last (x ∷ es) e (here low high h) = inl (here low high h)
  hides_last (x ∷ es) e (there h) = ⊎_elim (λ z. inl (there z)) inr (hides_last es e h)

-- ### The same listing

module _
    {S : Type 0} (main : ℕ) (look : List ℕ → Look S) (moves : (s : List ℕ) → MovesOn main (length s) (look s)) (hidden : Entry → ℕ → Type 0)
    (blind : Blind hidden look) (s s' : List ℕ) (long : length s ≡ length s') (st : S) (at end top : ℕ) (order : at ≤ end) (low : top ≤ main) where
  abbrev On : List ℕ → List Entry → Stand S → Type 0
  On t = Course (look t) top (stand at end [] st)

  abbrev Other : ℕ → Type 0
  Other i = get_or s i 0 ≡ get_or s' i 0 → ⊥

  tiles : {es : List Entry} {x : Stand S} → On s es x → Tiles at es x.at
  tiles = course_tiles main (length s) (look s) (moves s) st at end top order low

  stands : {es : List Entry} {x : Stand S} → On s es x → Fits main (length s) (look s) (moves s) top low st at end order x
  stands = fits main (length s) (look s) (moves s) top low st at end order

  owes :
      {es : List Entry} {x : Stand S} {k : Step S} → On s es x → seen (look s) top x ≡ k
      → Moves (length s) main x.at x.end (top - length x.around) k
  owes c is = owed main (length s) (look s) (moves s) top low st at end order (stands c) is

  -- each byte before p that is not the same in both is hidden in one of these entries
  abbrev Before : List Entry → ℕ → Type 0
  Before es p = (i : ℕ) → Other i → i < p → Hides hidden i es

  seen_same : (x : Stand S) {k : Step S} → seen (look s) top x ≡ k → Shares hidden s s' x.at k → seen (look s') top x ≡ k
  seen_same x is shares = sym (blind.reads s s' long x.state x.at x.end _ (subst (Shares hidden s s' x.at) (sym is) shares)) ∙ is

  -- where an entry was found, it was by bytes that are shared, and so were those before it
  module _ {es : List Entry} {x : Stand S} {e : Entry} {n : ℕ} (c : On s es x) (o : Owns (length s) x.at x.end e n) (so : Before (es ++ e ∷ []) n) where
    shared : (i : ℕ) → x.at ≤ i → i < n → (hidden e i → ⊥) → get_or s i 0 ≡ get_or s' i 0
    shared i from to clear =
        not_other _ _ (λ other. ⊎_elim (λ h. omega (arith, (hides_within (tiles c) h).1)) (λ h. clear h.1) (hides_last es e (so i other to)))

    before : Before es x.at
    before i other to =
        ⊎_elim (λ h. h) (λ h. absurd (omega (arith, h.0, o.place))) (hides_last es e (so i other (omega (arith, o.on))))

  course_same : {es : List Entry} {x : Stand S} → On s es x → Before es x.at → On s' es x
  course_same course.start so = course.start
  course_same (course.leaf {x} c is) so =
      let o = owns_of (owes c is) in
      course.leaf (course_same c (before c o so)) (seen_same x is (λ i from r. shared c o so i from r.0 r.1))
  course_same (course.nest {x} c is) so =
      let o = (opens_of (owes c is)).owns in
      course.nest (course_same c (before c o so)) (seen_same x is (λ i from r. shared c o so i from r.0 r.1))
  course_same (course.leave {x} c inside is) so =
      let on = (stands c).here in
      course.leave (course_same c (λ i other to. so i other (omega arith))) inside (seen_same x is (λ i from r. absurd r))

  pub blind_cut :
      (room : ℕ) → DifferIn (λ i. Hides hidden i (cut room (run (look s) (length s) st at end top)).entries) s s'
      → cut room (run (look s) (length s) st at end top) ≡ cut room (run (look s') (length s') st at end top)
  blind_cut room differ =
      let x = cut_exact main (length s) (look s) (moves s) st at end top order low room in
      let r = cut room (run (look s) (length s) st at end top) in
      let last : seen (look s') top x.last ≡ seen (look s) top x.last =
      seen_same x.last refl (λ i from _. byte_same differ i (λ h. omega (arith, (hides_within x.tiles h).1))) in
      exact_only main (length s') (look s') (moves s') st at end top order low room r (record {
        last = x.last;
        course = course_same x.course (λ i other _. differ.only i other);
        tiles = x.tiles;
        answered = subst (λ (k : Step S). Answered room r.entries x.last k r.answer r.place) (sym last) x.answered;
      })
