-- From one step to the whole walk: what each step keeps holds wherever a course stands; what the entry of each step has of those before it,
-- each listed entry has.
use mathlib.Core.Path.{◌≡◌, refl, sym, ap, subst, subst₂, ◌∙◌}
use mathlib.Core.List.{List, [], ◌∷◌, ◌++◌}
use Prim.Native.Nat.{ℕ, ◌-◌, ◌≤◌, ◌<◌}
use native.Mathlib.Omega.{arith}
use lib.ListN.{length, take, get_or}
use Rattle.laws.specs.Along.{Along, along_end}
use Rattle.laws.proofs.Along.{along_more, along_take, along_at}
use Rattle.answer.specs.Answers.{Answer, Accepted}
use Rattle.answer.proofs.Names.{not_accepted}
use Rattle.entry.specs.declared.Entry.{Entry}
use Rattle.walk.specs.Walk.{Step, End, Look, run}
use Rattle.walk.specs.Room.{Listed, cut}
use Rattle.walk.specs.Owed.{Ends, Moves, MovesOn}
use Rattle.walk.specs.Course as course
use Rattle.walk.specs.Course.{Stand, stand, seen, Course, Says, at_end, by_rule}
use Rattle.walk.specs.Invariant.{Family, Invariant, Each}
use Rattle.walk.proofs.Cut.{plain, cut_entries, cut_whole}
use Rattle.walk.proofs.Course.{outermost, ends_of, owns_of, opens_of, Fits, fits, owed, run_led}

-- a look that has the walk accept is that at an end
said_end : {S : Type 0} {at p : ℕ} {a : Answer} {k : Step S} → Says at a p k → a ≡ Accepted → (at ≡ p) × (k ≡ End)
said_end at_end z = (refl, refl)
said_end by_rule z = absurd (not_accepted refl z)

module _ {S : Type 0} (main len : ℕ) (look : Look S) (moves : MovesOn main len look) (P : Family S) (inv : Invariant main len look P) where
  module _ (st : S) (at end levels : ℕ) (order : at ≤ end) (low : levels ≤ main) (begins : P levels at [] st) where
    abbrev On : List Entry → Stand S → Type 0
    On = Course look levels (stand at end [] st)

    -- the levels left inside the blocks around a place
    abbrev left : List ℕ → ℕ
    left bs = levels - length bs

    stands : {es : List Entry} {x : Stand S} → On es x → Fits main len look moves levels low st at end order x
    stands = fits main len look moves levels low st at end order

    owes : {es : List Entry} {x : Stand S} {k : Step S} → On es x → seen look levels x ≡ k → Moves len main x.at x.end (left x.around) k
    owes c is = owed main len look moves levels low st at end order (stands c) is

    -- ### Wherever a course stands

    pub course_keeps : {es : List Entry} {x : Stand S} → On es x → P (left x.around) x.at es x.state
    course_keeps course.start = let all : levels ≡ left [] = omega arith in subst (λ (l : ℕ). P l at [] st) all begins
    course_keeps (course.leaf c is) = inv.leaf (omega arith) (owns_of (owes c is)) is (course_keeps c)
    course_keeps (course.nest {es} {x} {e} {inside} {q} c is) =
        let down : left x.around - 1 ≡ left (x.end ∷ x.around) = omega arith in
        subst (λ (l : ℕ). P l inside (es ++ e ∷ []) q) down (inv.nest (omega arith) (opens_of (owes c is)) is (course_keeps c))
    course_keeps (course.leave {es} {x} {b} {bs} c inside is) =
        let deep = (stands c).deep in
        let more : length x.around ≡ length (b ∷ bs) = ap length inside in
        let up : left x.around ≡ left bs - 1 = omega arith in
        let there : x.at ≡ x.end = (ends_of (owes c is)).inside (omega arith) in
        inv.out (omega arith) (omega arith) (subst₂ (λ (a l : ℕ). look x.state a x.end l ≡ End) there up is)
        (subst₂ (λ (a l : ℕ). P l a es x.state) there up (course_keeps c))

    -- ### Each entry

    module _ (Q : List Entry → Entry → Type 0) (has : Each main len look P Q) where
      course_each : {es : List Entry} {x : Stand S} → On es x → Along Q [] es
      course_each course.start = along_end
      course_each (course.leaf c is) = along_more (course_each c) (has.leaf (omega arith) (owns_of (owes c is)) is (course_keeps c))
      course_each (course.nest c is) = along_more (course_each c) (has.nest (omega arith) (opens_of (owes c is)) is (course_keeps c))
      course_each (course.leave c inside is) = course_each c

      -- of the k-th entry that is listed in any room
      pub cut_each :
          (room : ℕ) → let es = (cut room (run look len st at end levels)).entries in (k : ℕ) (d : Entry) → k < length es → Q (take k es) (get_or es k d)
      cut_each room =
          along_at (subst (Along Q []) (sym (cut_entries room (run look len st at end levels)))
          (along_take room (course_each (run_led main len look moves levels low st at end order).course)))

    -- ### At the end of all blocks

    pub record Finished (r : Listed) : Type 0 where
      pub state : S
      pub ends : Ends len main r.place end levels
      pub holds : P levels r.place r.entries state
      pub stops : look state r.place end levels ≡ End

    run_finished : let w = run look len st at end levels in w.answer ≡ Accepted → Finished (plain w.answer w.place w.entries)
    run_finished accepted =
        let w = run look len st at end levels in
        let l = run_led main len look moves levels low st at end order in
        let f = stands l.course in
        let said = said_end l.says accepted in
        let alone = l.whole accepted in
        let there : l.last ≡ stand w.place end [] l.last.state = λ i. record {
          at = said.0 i;
          end = (sym (ap (outermost l.last.end) alone) ∙ f.outer) i;
          around = alone i;
          state = l.last.state;
        } in
        let all : left [] ≡ levels = omega arith in
        let stops = subst (λ (n : ℕ). look l.last.state w.place end n ≡ End) all (subst (λ (x : Stand S). seen look levels x ≡ End) there said.1) in
        record {
          state = l.last.state;
          ends = ends_of (subst (Moves len main w.place end levels) stops (moves l.last.state w.place end levels (subst (λ (x : Stand S). x.at ≤ x.end) there f.here) low));
          holds = subst (λ (n : ℕ). P n w.place w.entries l.last.state) all (subst (λ (x : Stand S). P (left x.around) x.at w.entries x.state) there (course_keeps l.course));
          stops = stops;
        }

    pub cut_finished : (room : ℕ) → let r = cut room (run look len st at end levels) in r.answer ≡ Accepted → Finished r
    cut_finished room h =
        let w = run look len st at end levels in
        let all = cut_whole room w h in
        subst Finished (sym all) (run_finished (sym (ap (λ (a : Listed). a.answer) all) ∙ h))
