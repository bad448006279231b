-- The intersection's pixels are those of both rectangles: at every pixel, and for every two rectangles, corners out of order included.
use mathlib.Core.Path.{◌≡◌, refl, sym, ap, ◌∙◌}
use mathlib.Core.Bool.{Bool, true, false, not, ◌&&◌, true≢false}
use lib.IntN.{ℤ, pos}
use lib.Signed.{lt_z, le_z}
use Rattle.laws.proofs.Choice.{pick_ind}
use Rattle.laws.proofs.Tests.{either}
use Rattle.rect.specs.declared.Rect.{Rect}
use Rattle.rect.specs.Rect.{is_empty}
use Rattle.rect.specs.Shared.{has_pixel, lesser_of, greater_of, no_pixels, framed_of, shared_of}
use Rattle.rect.proofs.Order.{le_trans, lt_le, lt_not, not_lt, lt_le_trans, le_lt_trans}
use Rattle.rect.proofs.Axis.{met}

-- ---- truth values

-- of two tests of which one implies the other, the first is both
implied : (p q : Bool) → (p ≡ true → q ≡ true) → p ≡ (p && q)
implied true q h = sym (h refl)
implied false q h = refl

implied' : (p q : Bool) → (q ≡ true → p ≡ true) → q ≡ (p && q)
implied' true q h = refl
implied' false true h = sym (h refl)
implied' false false h = refl

not_both : (p q : Bool) → (p ≡ true → q ≡ true → ⊥) → (p && q) ≡ false
not_both true true h = absurd (h refl refl)
not_both true false h = refl
not_both false q h = refl

off : (p : Bool) → (p && false) ≡ false
off true = refl
off false = refl

swap : (a b c d : Bool) → ((a && b) && (c && d)) ≡ ((a && c) && (b && d))
swap true true c d = refl
swap true false true d = refl
swap true false false d = refl
swap false b c d = refl

-- ---- a side

from_greater : (a b x : ℤ) → le_z (greater_of a b) x ≡ (le_z a x && le_z b x)
unfolding greater_of
from_greater a b x =
    pick_ind (λ m. le_z m x ≡ (le_z a x && le_z b x)) (lt_z a b) b a
    (λ h. implied' (le_z a x) (le_z b x) (le_trans a b x (lt_le a b h)))
    (λ h. implied (le_z a x) (le_z b x) (le_trans b a x (not_lt a b h)))

to_lesser : (a b x : ℤ) → lt_z x (lesser_of a b) ≡ (lt_z x a && lt_z x b)
unfolding lesser_of
to_lesser a b x =
    pick_ind (λ m. lt_z x m ≡ (lt_z x a && lt_z x b)) (lt_z a b) a b
    (λ h. implied (lt_z x a) (lt_z x b) (λ k. lt_le_trans x a b k (lt_le a b h)))
    (λ h. implied' (lt_z x a) (lt_z x b) (λ k. lt_le_trans x b a k (not_lt a b h)))

-- the greater is at or above each of the two, and the lesser at or below
pub greater_above : (a b : ℤ) → (le_z a (greater_of a b) ≡ true) × (le_z b (greater_of a b) ≡ true)
unfolding greater_of
greater_above a b =
    pick_ind (λ m. (le_z a m ≡ true) × (le_z b m ≡ true)) (lt_z a b) b a (λ h. (lt_le a b h, met b)) (λ h. (met a, not_lt a b h))

pub lesser_below : (a b : ℤ) → (le_z (lesser_of a b) a ≡ true) × (le_z (lesser_of a b) b ≡ true)
unfolding lesser_of
lesser_below a b =
    pick_ind (λ m. (le_z m a ≡ true) × (le_z m b ≡ true)) (lt_z a b) a b (λ h. (met a, lt_le a b h)) (λ h. (not_lt a b h, met b))

-- nothing lies between sides that are not in order
nothing : (l r x : ℤ) → lt_z l r ≡ false → (le_z l x && lt_z x r) ≡ false
nothing l r x e = not_both (le_z l x) (lt_z x r) (λ h k. true≢false (sym (le_lt_trans l x r h k) ∙ e))

-- ---- the pixels

none_has : (x y : ℤ) → has_pixel no_pixels x y ≡ false
none_has x y = ap (λ (p : Bool). p && (le_z (pos 0) y && lt_z y (pos 0))) (nothing (pos 0) (pos 0) x refl)

framed_has : (l t r b x y : ℤ) → has_pixel (framed_of l t r b) x y ≡ ((le_z l x && lt_z x r) && (le_z t y && lt_z y b))
unfolding framed_of
framed_has l t r b x y =
    let across = le_z l x && lt_z x r in
    let down = le_z t y && lt_z y b in
    let P : Rect → Type 0 = λ f. has_pixel f x y ≡ (across && down) in
    pick_ind P (lt_z l r) _ _
    (λ _. pick_ind P (lt_z t b) _ _ (λ _. refl)
    (λ h. none_has x y ∙ sym (ap (λ (p : Bool). across && p) (nothing t b y h) ∙ off across)))
    (λ h. none_has x y ∙ sym (ap (λ (p : Bool). p && down) (nothing l r x h)))

pub empty_has : (r : Rect) (x y : ℤ) → is_empty r ≡ true → has_pixel r x y ≡ false
empty_has r x y h =
    let across = le_z r.left x && lt_z x r.right in
    let down = le_z r.top y && lt_z y r.bottom in
    either (le_z r.right r.left) (le_z r.bottom r.top) h
    (λ e. ap (λ (p : Bool). p && down) (nothing r.left r.right x (lt_not r.left r.right ∙ ap not e)))
    (λ e. ap (λ (p : Bool). across && p) (nothing r.top r.bottom y (lt_not r.top r.bottom ∙ ap not e)) ∙ off across)

-- a frame that is not empty has the four sides, in order
pub record Framed (l t r b : ℤ) (f : Rect) : Type 0 where
  pub is : f ≡ record { left = l; top = t; right = r; bottom = b }
  pub across : lt_z l r ≡ true
  pub down : lt_z t b ≡ true

pub framed_some : (l t r b : ℤ) → is_empty (framed_of l t r b) ≡ false → Framed l t r b (framed_of l t r b)
unfolding framed_of
framed_some l t r b =
    let P : Rect → Type 0 = λ f. is_empty f ≡ false → Framed l t r b f in
    pick_ind P (lt_z l r) _ _
    (λ h. pick_ind P (lt_z t b) _ _ (λ k e. record { is = refl; across = h; down = k }) (λ k e. absurd (true≢false e)))
    (λ h e. absurd (true≢false e))

pub shared_pixels : (a b : Rect) (x y : ℤ) → has_pixel (shared_of a b) x y ≡ (has_pixel a x y && has_pixel b x y)
shared_pixels a b x y =
    framed_has (greater_of a.left b.left) (greater_of a.top b.top) (lesser_of a.right b.right) (lesser_of a.bottom b.bottom) x y
    ∙ rw (from_greater a.left b.left x, from_greater a.top b.top y, to_lesser a.right b.right x, to_lesser a.bottom b.bottom y)
    (rw (swap (le_z a.left x) (le_z b.left x) (lt_z x a.right) (lt_z x b.right), swap (le_z a.top y) (le_z b.top y) (lt_z y a.bottom) (lt_z y b.bottom))
    (swap (le_z a.left x && lt_z x a.right) (le_z b.left x && lt_z x b.right) (le_z a.top y && lt_z y a.bottom) (le_z b.top y && lt_z y b.bottom)))
