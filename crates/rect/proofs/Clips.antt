-- What is shown of the intersection is true of any function whose results are the intersection: of `intersect`, by its contract.
use mathlib.Core.Path.{◌≡◌, refl, sym, ap, ap₂, ◌∙◌, subst}
use borrow.Fn.World.{ArgsD}
use contract.Lifetimes.{Lfts}
use Rattle.laws.specs.Outcomes.{Call}
use Rattle.laws.proofs.OneOutcome.{call_is}
use Rattle.rect.specs.declared.Rect.{Rect}
use Rattle.rect.specs.Shared.{has_pixel, shared_of}
use Rattle.rect.specs.Clipping.{Group, shared_by, clipped_to, Itself, InsideBoth, Calls, none, last, Clips}
use Rattle.rect.proofs.Pixels.{shared_pixels}
use Rattle.rect.proofs.Clipping.{shared_order, shared_grouping, shared_itself, shared_inside, shared_seen}
use Rattle.rect.proofs.Groups.{shared_any_order}
use Rattle.rect.specs.contracts.Rect.intersect as of-intersect
use Rattle.rect.proofs.Rect.intersect.Reads as intersect

module _ {Gives : Rect → Rect → Rect → Type 0} (is : (a b p : Rect) → Gives a b p → p ≡ shared_of a b) where
  called : {g : Group} {p : Rect} → Calls Gives g p → p ≡ shared_by g
  called none = refl
  called (last {p = p} {q} {r} c d e) = is p q r e ∙ ap₂ shared_of (called c) (called d)

  pub clips : Clips Gives
  clips =
      record {
        pixels = λ a b p g x y. ap (λ (r : Rect). has_pixel r x y) (is a b p g) ∙ shared_pixels a b x y;
        order = λ a b p q g h. is a b p g ∙ shared_order a b ∙ sym (is b a q h);
        grouping = λ a b c ab bc p q g h i j.
            is ab c p h ∙ ap (λ (r : Rect). shared_of r c) (is a b ab g)
            ∙ shared_grouping a b c
            ∙ sym (is a bc q j ∙ ap (shared_of a) (is b c bc i));
        any_order = λ g h p q d c e. called c ∙ shared_any_order g h d ∙ sym (called e);
        itself = λ a p g. subst (Itself a) (sym (is a a p g)) (shared_itself a);
        inside = λ a b p g. subst (InsideBoth a b) (sym (is a b p g)) (shared_inside a b);
        seen = λ a b p g under picture x y.
            (λ i. shared_seen a b under picture i x y) ∙ ap (λ (r : Rect). clipped_to r under picture x y) (sym (is a b p g));
      }

-- the two that a call is given, read off its arguments
abbrev pub two : (l : Lfts 0) → ArgsD of-intersect.signature l → Rect × Rect
two l xs = (xs.0, xs.1.0)

pub intersect_clips : Clips (λ a b p. Call two (λ l y e. y) intersect.Learnt (a, b) p)
intersect_clips = clips (λ a b p. call_is (λ g. shared_of g.0 g.1) (λ l a y e h. h))
