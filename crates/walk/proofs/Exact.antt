-- A listing in a room is exactly what is found, and nothing else is: its entries are those of the walk's course, and the look where they end
-- gives its answer.
use mathlib.Core.Path.{◌≡◌, refl, sym, ap, subst, ◌∙◌}
use mathlib.Core.List.{List, [], ◌∷◌, ◌++◌, append-nil}
use Prim.Native.Nat.{ℕ, ◌+◌, ◌-◌, ◌≤◌, ◌<◌}
use native.Mathlib.Omega.{arith}
use lib.ListN.{length, take, get_or, length-append, length-take}
use lib.Seq.{get_or-append-add, get_or-take}
use Rattle.std.specs.Prelude.{Err}
use Rattle.laws.specs.Along.{Along}
use Rattle.laws.proofs.Along.{along_here}
use Rattle.answer.specs.Answers.{Answer, Accepted}
use Rattle.answer.specs.declared.Stopped.TheVariants.{TableFull}
use Rattle.entry.specs.declared.Entry.{Entry}
use Rattle.walk.specs.Walk.{Step, Look, Listing, ended, ◌◂◌, follow, run}
use Rattle.walk.specs.Room.{Listed, cut}
use Rattle.walk.specs.Owed.{Moves, leaf, nest, MovesOn}
use Rattle.walk.specs.Course.{Stand, stand, seen, Course, Says, at_end, by_rule, Finds, as_leaf, as_nest, Answered, said, full, Exactly}
use Rattle.walk.proofs.Continued.{◌⧺◌}
use Rattle.walk.proofs.Cut.{plain, cut_case, cut_fits, cut_entries, cut_seam}
use Rattle.walk.proofs.Course.{Led, Next, Fits, fits, moved, run_led, course_along, course_run, from, by_look, from_leaf, from_nest, from_end}
use Rattle.walk.proofs.Tiling.{course_tiles}

-- an entry that is found stands at the place looked at
found_place : {S : Type 0} {len main at end levels : ℕ} {e : Entry} {k : Step S} → Finds e k → Moves len main at end levels k → e.block.place ≡ at
found_place as_leaf (leaf o) = o.place
found_place as_nest (nest o) = o.owns.place

module _ {S : Type 0} (main len : ℕ) (look : Look S) (moves : MovesOn main len look) (st : S) (at end top : ℕ) (order : at ≤ end) (low : top ≤ main) where
  abbrev begin : Stand S
  begin = stand at end [] st

  abbrev whole : Listing S
  whole = run look len st at end top

  abbrev leads : Led main len look moves top low st at end order whole
  leads = run_led main len look moves top low st at end order

  place_of : {es : List Entry} {x : Stand S} {e : Entry} {k : Step S} → Course look top begin es x → seen look top x ≡ k → Finds e k → e.block.place ≡ x.at
  place_of {x} c is f =
      found_place f (subst (Moves len main x.at x.end (top - length x.around)) is
      (moved main len look moves top low st at end order (fits main len look moves top low st at end order c)))

  -- ### What is listed is exact

  pub cut_exact : (room : ℕ) → Exactly look top begin room (cut room whole)
  cut_exact room =
      cut_case (Exactly look top begin room) room whole
      (λ enough. record {
        last = leads.last;
        course = leads.course;
        tiles = course_tiles main len look moves st at end top order low leads.course;
        answered = said leads.says leads.whole enough;
      })
      (λ r answer f.
      let along = course_along main len look moves top low st at end order leads.course in
      let n = along_here r.entries f.first f.more (subst (Along (Next main len look moves top low st at end order) []) f.is along) in
      let x = n.stands in
      let at-header : x.at ≡ r.place = sym (place_of n.before refl n.finds) ∙ sym f.place in
      record {
        last = x;
        course = n.before;
        tiles = course_tiles main len look moves st at end top order low n.before;
        answered =
            subst (λ (p : ℕ). Answered room r.entries x (seen look top x) r.answer p) at-header
            (subst (λ (a : Answer). Answered room r.entries x (seen look top x) a x.at) (sym answer) (full f.first n.finds f.count));
      })

  -- ### And nothing else is

  abbrev onward : Stand S → Listing S
  onward x = from main len look moves top low st at end order x

  says_from :
      {x : Stand S} {a : Answer} {p : ℕ} {k : Step S} → Says x.at a p k → seen look top x ≡ k → (a ≡ Accepted → x.around ≡ [])
      → onward x ≡ ended a p x.state
  unfolding follow
  says_from {x} at_end is all = from_end main len look moves top low st at end order x (all refl) is
  says_from {x} by_rule is all = by_look main len look moves top low st at end order x is

  finds_from : {x : Stand S} {e : Entry} {k : Step S} → Fits main len look moves top low st at end order x → Finds e k → seen look top x ≡ k → (w : Listing S) × (onward x ≡ e ◂ w)
  finds_from {x} f as_leaf is = (_, from_leaf main len look moves top low st at end order x f is)
  finds_from {x} f as_nest is = (_, from_nest main len look moves top low st at end order x f is)

  pub only :
      (room : ℕ) {es : List Entry} {x : Stand S} {k : Step S} {a : Answer} {p : ℕ} → Course look top begin es x → seen look top x ≡ k
      → Answered room es x k a p → plain a p es ≡ cut room whole
  only room {es} {x} c is (said {a} {p} says all enough) =
      let is_whole : whole ≡ es ⧺ ended a p x.state =
      course_run main len look moves top low st at end order c ∙ ap (λ w. es ⧺ w) (says_from says is all) in
      sym (ap (cut room) is_whole ∙ cut_fits room (es ⧺ ended a p x.state) (omega (arith, ap length (append-nil es))) ∙ ap (plain a p) (append-nil es))
  only room {es} {x} c is (full e finds count) =
      let f = finds_from (fits main len look moves top low st at end order c) finds is in
      sym (ap (cut room) (course_run main len look moves top low st at end order c ∙ ap (λ w. es ⧺ w) f.1)
      ∙ cut_seam room es e f.0 count
      ∙ ap (λ (p : ℕ). plain (Err TableFull) p es) (place_of c is finds))

  pub exact_only : (room : ℕ) (r : Listed) → Exactly look top begin room r → r ≡ cut room whole
  exact_only room r x = only room x.course refl x.answered

  -- ### The entry that is found where a course stands is the next one listed

  pub next_listed :
      (room : ℕ) {es : List Entry} {x : Stand S} {e : Entry} {k : Step S} → Course look top begin es x → seen look top x ≡ k → Finds e k
      → length es < room → (d : Entry) → let l = (cut room whole).entries in (length es < length l) × (get_or l (length es) d ≡ e)
  next_listed room {es} {x} {e} c is finds lt d =
      let f = finds_from (fits main len look moves top low st at end order c) finds is in
      let all : List Entry = es ++ e ∷ f.0.entries in
      let listed : (cut room whole).entries ≡ take room all =
      cut_entries room whole
      ∙ ap (λ (w : Listing S). take room w.entries) (course_run main len look moves top low st at end order c ∙ ap (λ w. es ⧺ w) f.1) in
      let here : length es + 0 ≡ length es = omega arith in (
        omega (arith, ap length listed, length-take room all, length-append es (e ∷ f.0.entries)),
        ap (λ (l : List Entry). get_or l (length es) d) listed
            ∙ get_or-take room all (length es) d lt
            ∙ ap (λ (n : ℕ). get_or all n d) (sym here)
            ∙ get_or-append-add es (e ∷ f.0.entries) 0 d,
      )
