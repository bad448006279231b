-- Clipping to two rectangles (document 02, request xi). The order goes side by side; the rest follows from the pixels, since where two
-- rectangles are settled equal pixels are equal corners.
use mathlib.Core.Path.{◌≡◌, refl, sym, ap, ◌∙◌}
use mathlib.Core.Bool.{Bool, true, false, cond, ◌&&◌, and_assoc, and_self, true≢false}
use lib.IntN.{ℤ}
use lib.Signed.{lt_z}
use Rattle.std.specs.Int.{int_max, int_min}
use Rattle.laws.specs.Choice.{pick}
use Rattle.laws.proofs.Choice.{pick_ind}
use Rattle.laws.proofs.Tests.{both, either, yes_or_no}
use Rattle.rect.specs.declared.Rect.{Rect}
use Rattle.rect.specs.Rect.{is_empty}
use Rattle.rect.specs.Shared.{has_pixel, lesser_of, greater_of, framed_of, no_pixels, shared_of}
use Rattle.rect.specs.Clipping.{Picture, clipped_to, Itself, InsideBoth}
use Rattle.rect.proofs.Order.{lt_le, not_lt, clash}
use Rattle.rect.proofs.Axis.{meet}
use Rattle.rect.proofs.Pixels.{empty_has, shared_pixels}
use Rattle.rect.proofs.Corners.{Settled, same_pixels, pixels_inside}

-- ### Order

-- a choice between two, by which is less
less_first : {A : Type 0} (a b : ℤ) (x y : A) → (a ≡ b → x ≡ y) → pick (lt_z a b) x y ≡ pick (lt_z b a) y x
less_first a b x y same =
    pick_ind (λ m. m ≡ pick (lt_z b a) y x) (lt_z a b) x y
    (λ h. pick_ind (λ m. x ≡ m) (lt_z b a) y x (λ k. clash a b h (lt_le b a k)) (λ _. refl))
    (λ h. pick_ind (λ m. y ≡ m) (lt_z b a) y x (λ _. refl) (λ k. sym (same (meet a b (not_lt b a k) (not_lt a b h)))))

greater_order : (a b : ℤ) → greater_of a b ≡ greater_of b a
unfolding greater_of
greater_order a b = less_first a b b a sym

lesser_order : (a b : ℤ) → lesser_of a b ≡ lesser_of b a
unfolding lesser_of
lesser_order a b = less_first a b a b (λ e. e)

-- as the library chooses
chosen : {A : Type 0} (t : Bool) (x y : A) → cond t x y ≡ pick t x y
unfolding pick
chosen true x y = refl
chosen false x y = refl

pub greater_is : (a b : ℤ) → int_max a b ≡ greater_of a b
unfolding greater_of
greater_is a b = chosen (lt_z b a) a b ∙ greater_order b a

pub lesser_is : (a b : ℤ) → int_min a b ≡ lesser_of a b
unfolding lesser_of
lesser_is a b = chosen (lt_z b a) b a ∙ lesser_order b a

pub shared_order : (a b : Rect) → shared_of a b ≡ shared_of b a
shared_order a b = λ i.
    framed_of
    (greater_order a.left b.left i)
    (greater_order a.top b.top i)
    (lesser_order a.right b.right i)
    (lesser_order a.bottom b.bottom i)

-- ### Grouping

framed_settled : (l t r b : ℤ) → Settled (framed_of l t r b)
unfolding framed_of
framed_settled l t r b =
    pick_ind Settled (lt_z l r) _ _
    (λ h. pick_ind Settled (lt_z t b) _ _ (λ k e. either _ _ e (clash l r h) (clash t b k)) (λ _ _. refl))
    (λ _ _. refl)

pub shared_settled : (a b : Rect) → Settled (shared_of a b)
shared_settled a b = framed_settled _ _ _ _

pub shared_grouping : (a b c : Rect) → shared_of (shared_of a b) c ≡ shared_of a (shared_of b c)
shared_grouping a b c =
    same_pixels (shared_of (shared_of a b) c) (shared_of a (shared_of b c)) (shared_settled (shared_of a b) c) (shared_settled a (shared_of b c))
    (λ x y.
    shared_pixels (shared_of a b) c x y
    ∙ ap (λ (t : Bool). t && has_pixel c x y) (shared_pixels a b x y)
    ∙ and_assoc (has_pixel a x y) (has_pixel b x y) (has_pixel c x y)
    ∙ sym (shared_pixels a (shared_of b c) x y ∙ ap (λ (t : Bool). has_pixel a x y && t) (shared_pixels b c x y)))

-- ### One rectangle twice

-- a rectangle with a pixel is not empty
not_empty : (r : Rect) (x y : ℤ) → has_pixel r x y ≡ true → is_empty r ≡ false
not_empty r x y h = yes_or_no (is_empty r) (λ e. absurd (true≢false (sym h ∙ empty_has r x y e))) (λ e. e)

pub shared_itself : (a : Rect) → Itself a (shared_of a a)
shared_itself a =
    record {
      some = λ x y h.
          same_pixels (shared_of a a) a (shared_settled a a) (λ e. absurd (true≢false (sym e ∙ not_empty a x y h)))
          (λ x y. shared_pixels a a x y ∙ and_self (has_pixel a x y));
      none = λ no.
          same_pixels (shared_of a a) no_pixels (shared_settled a a) (λ _. refl)
          (λ x y. shared_pixels a a x y ∙ and_self (has_pixel a x y) ∙ no x y ∙ sym (empty_has no_pixels x y refl));
    }

-- ### Inside both

pub shared_inside : (a b : Rect) → InsideBoth a b (shared_of a b)
shared_inside a b =
    record {
      first = λ x y h. pixels_inside (shared_of a b) (not_empty (shared_of a b) x y h) a (λ x y k. (parts x y k).0);
      second = λ x y h. pixels_inside (shared_of a b) (not_empty (shared_of a b) x y h) b (λ x y k. (parts x y k).1);
    }
  where
    parts : (x y : ℤ) → has_pixel (shared_of a b) x y ≡ true → (has_pixel a x y ≡ true) × (has_pixel b x y ≡ true)
    parts x y h = both (has_pixel a x y) (has_pixel b x y) (sym (shared_pixels a b x y) ∙ h)

-- ### What is seen

pick_both : {A : Type 0} (s t : Bool) (u v : A) → pick t (pick s u v) v ≡ pick (s && t) u v
unfolding pick
pick_both true t u v = refl
pick_both false true u v = refl
pick_both false false u v = refl

pub shared_seen :
    (a b : Rect) (under picture : Picture) → clipped_to b under (clipped_to a under picture) ≡ clipped_to (shared_of a b) under picture
shared_seen a b under picture = λ i x y.
    (pick_both (has_pixel a x y) (has_pixel b x y) (picture x y) (under x y)
    ∙ ap (λ (t : Bool). pick t (picture x y) (under x y)) (sym (shared_pixels a b x y))) i
