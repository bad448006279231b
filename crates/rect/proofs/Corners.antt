-- Pixels tell the corners: a rectangle that has pixels lies inside any that has them all, and two that are zeros where they are empty, and have
-- the same pixels, are one.
use mathlib.Core.Path.{◌≡◌, sym, ap, ◌∙◌}
use mathlib.Core.Bool.{true, false, not, ◌&&◌, true≢false}
use lib.IntN.{ℤ}
use lib.Signed.{lt_z, le_z}
use Rattle.laws.proofs.Tests.{never, both, neither, yes_or_no}
use Rattle.rect.specs.declared.Rect.{Rect}
use Rattle.rect.specs.Rect.{is_empty, is_inside}
use Rattle.rect.specs.Shared.{has_pixel, no_pixels}
use Rattle.rect.proofs.Order.{lt_le, lt_not, not_lt}
use Rattle.rect.proofs.Axis.{met, meet}
use Rattle.rect.proofs.Pixels.{empty_has}

-- ### A side

-- what lies from a up to b, which is outside
abbrev pub Between : ℤ → ℤ → ℤ → Type 0
Between a b x = (le_z a x ≡ true) × (lt_z x b ≡ true)

not_below : {X : Type 0} (a : ℤ) → lt_z a a ≡ true → X
not_below a h = never (sym (lt_not a a ∙ ap not (met a)) ∙ h)

-- a span with all its pixels in another: an end beyond the other's would have a pixel at the other's end
span_inside : (a b c d : ℤ) → lt_z a b ≡ true → ((x : ℤ) → Between a b x → Between c d x) → (le_z c a ≡ true) × (le_z b d ≡ true)
span_inside a b c d some all =
    let first = all a (met a, some) in
    (first.0, yes_or_no (lt_z d b) (λ far. not_below d (all d (lt_le a d first.1, far)).1) (not_lt d b))

-- ### A pixel by its sides

pub pixel_between : (r : Rect) (x y : ℤ) → has_pixel r x y ≡ true → (Between r.left r.right x) × (Between r.top r.bottom y)
pixel_between r x y h =
    let sides = both _ _ h in
    (both _ _ sides.0, both _ _ sides.1)

pub between_pixel : (r : Rect) (x y : ℤ) → Between r.left r.right x → Between r.top r.bottom y → has_pixel r x y ≡ true
between_pixel r x y p q = λ i. (p.0 i && p.1 i) && (q.0 i && q.1 i)

-- of a rectangle that is not empty
module _ (r : Rect) (e : is_empty r ≡ false) where
  orders : (lt_z r.left r.right ≡ true) × (lt_z r.top r.bottom ≡ true)
  orders =
      let no = neither (le_z r.right r.left) (le_z r.bottom r.top) e in
      (lt_not r.left r.right ∙ ap not no.0, lt_not r.top r.bottom ∙ ap not no.1)

  -- it has its upper left pixel
  first : (Between r.left r.right r.left) × (Between r.top r.bottom r.top)
  first = ((met r.left, orders.0), (met r.top, orders.1))

  pub first_pixel : has_pixel r r.left r.top ≡ true
  first_pixel = between_pixel r r.left r.top first.0 first.1

  module _ (q : Rect) (all : (x y : ℤ) → has_pixel r x y ≡ true → has_pixel q x y ≡ true) where
    across : (le_z q.left r.left ≡ true) × (le_z r.right q.right ≡ true)
    across =
        span_inside _ _ q.left q.right orders.0
        (λ x h. (pixel_between q x r.top (all x r.top (between_pixel r x r.top h first.1))).0)

    down : (le_z q.top r.top ≡ true) × (le_z r.bottom q.bottom ≡ true)
    down =
        span_inside _ _ q.top q.bottom orders.1
        (λ y h. (pixel_between q r.left y (all r.left y (between_pixel r r.left y first.0 h))).1)

    pub pixels_inside : is_inside r q ≡ true
    pixels_inside = λ i. (across.0 i && down.0 i) && across.1 i && down.1 i

-- ### Two rectangles

corners :
    (p q : Rect) → is_inside p q ≡ true
    → (le_z q.left p.left ≡ true) × (le_z q.top p.top ≡ true) × (le_z p.right q.right ≡ true) × (le_z p.bottom q.bottom ≡ true)
corners p q h =
    let three = both _ _ h in
    let two = both _ _ three.0 in
    let one = both _ _ two.0 in
    (one.0, one.1, two.1, three.1)

inside_both : (p q : Rect) → is_inside p q ≡ true → is_inside q p ≡ true → p ≡ q
inside_both p q there back =
    let h = corners p q there in
    let k = corners q p back in
    λ i. record {
      left = meet p.left q.left k.0 h.0 i;
      top = meet p.top q.top k.1 h.1 i;
      right = meet p.right q.right h.2 k.2 i;
      bottom = meet p.bottom q.bottom h.3 k.3 i;
    }

-- zeros where it is empty: then its pixels say which rectangle it is
abbrev pub Settled : Rect → Type 0
Settled r = is_empty r ≡ true → r ≡ no_pixels

pub same_pixels : (p q : Rect) → Settled p → Settled q → ((x y : ℤ) → has_pixel p x y ≡ has_pixel q x y) → p ≡ q
same_pixels p q p-is q-is same =
    yes_or_no (is_empty p)
    (λ e. yes_or_no (is_empty q) (λ f. p-is e ∙ sym (q-is f)) (λ f. lost q p f e (λ x y. sym (same x y))))
    (λ e. yes_or_no (is_empty q) (λ f. lost p q e f same) (λ f.
    inside_both p q (pixels_inside p e q (λ x y h. sym (same x y) ∙ h)) (pixels_inside q f p (λ x y h. same x y ∙ h))))
  where
    lost : {X : Type 0} (p q : Rect) → is_empty p ≡ false → is_empty q ≡ true → ((x y : ℤ) → has_pixel p x y ≡ has_pixel q x y) → X
    lost p q e f same = absurd (true≢false (sym (first_pixel p e) ∙ same p.left p.top ∙ empty_has q p.left p.top f))
