-- A course inside a block, walked by itself, is a part of the course around it.
use mathlib.Core.Path.{◌≡◌, sym, ap, subst, ◌∙◌}
use mathlib.Core.List.{List, [], ◌∷◌, ◌++◌, append-nil, append_assoc}
use Prim.Native.Nat.{ℕ, ◌-◌}
use native.Mathlib.Omega.{arith}
use lib.ListN.{length, length-append}
use Rattle.entry.specs.declared.Entry.{Entry}
use Rattle.walk.specs.Walk.{Step, Look}
use Rattle.walk.specs.Course as course
use Rattle.walk.specs.Course.{Stand, stand, seen, Course}

module _
    {S : Type 0} (look : Look S) (top : ℕ) (begin : Stand S) (around : List ℕ) (inside after : ℕ) (q : S) (before : List Entry)
    (to : Course look top begin before (stand inside after around q)) where
  -- where it stands, with the blocks around
  abbrev out : Stand S → Stand S
  out x = stand x.at x.end (x.around ++ around) x.state

  same_look : (x : Stand S) {k : Step S} → seen look (top - length around) x ≡ k → seen look top (out x) ≡ k
  same_look x is =
      let level : top - length (x.around ++ around) ≡ top - length around - length x.around = omega (arith, length-append x.around around) in
      ap (look x.state x.at x.end) level ∙ is

  one_more : (es : List Entry) (e : Entry) (x : Stand S) → Course look top begin (before ++ es ++ e ∷ []) x → Course look top begin (before ++ (es ++ e ∷ [])) x
  one_more es e x = subst (λ (l : List Entry). Course look top begin l x) (append_assoc before es (e ∷ []))

  pub course_inside : {es : List Entry} {x : Stand S} → Course look (top - length around) (stand inside after [] q) es x → Course look top begin (before ++ es) (out x)
  course_inside course.start = subst (λ (l : List Entry). Course look top begin l (stand inside after around q)) (sym (append-nil before)) to
  course_inside (course.leaf {es} {x} {e} c is) = one_more es e _ (course.leaf (course_inside c) (same_look x is))
  course_inside (course.nest {es} {x} {e} c is) = one_more es e _ (course.nest (course_inside c) (same_look x is))
  course_inside (course.leave {x} c here is) = course.leave (course_inside c) (ap (λ (l : List ℕ). l ++ around) here) (same_look x is)
