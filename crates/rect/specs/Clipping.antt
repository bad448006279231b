-- Clipping by several rectangles (document 02, request xi): any order, any grouping, and what is seen of a picture.
use Rattle.std.specs.Prelude.{◌≡◌, true, false, ◌&&◌, ℕ, ℤ}
use mathlib.Core.List.{List, [], ◌∷◌, ◌++◌, Permᴰ}
use Rattle.laws.specs.Choice.{pick}
use Rattle.rect.specs.declared.Rect.{Rect}
use Rattle.rect.specs.Rect.{is_inside}
use Rattle.rect.specs.Shared.{has_pixel, no_pixels, shared_of}

-- an order and a grouping of rectangles: one alone, or one group with another
pub data Group : Type 0 where
  one : Rect → Group
  both : Group → Group → Group

-- the rectangles, as they stand in it
abbrev pub members : Group → List Rect
members (one r) = r ∷ []
members (both g h) = members g ++ members h

-- what it comes to
abbrev pub shared_by : Group → Rect
shared_by (one r) = r
shared_by (both g h) = shared_of (shared_by g) (shared_by h)

-- a list of them, one after another
abbrev pub in_turn : Rect → List Rect → Rect
in_turn r [] = r
in_turn r (s ∷ ss) = in_turn (shared_of r s) ss

-- the same list in any order: neighbours exchanged, any number of times
abbrev pub Rearranged : List Rect → List Rect → Type 0
Rearranged = Permᴰ

-- ### Pictures

abbrev pub Picture : Type 0
Picture = ℤ → ℤ → ℕ

-- clipped to a rectangle: inside its own pixels are seen, and outside those that lie under it
abbrev pub clipped_to : Rect → Picture → Picture → Picture
clipped_to r under picture x y = pick (has_pixel r x y) (picture x y) (under x y)

-- to one after another
abbrev pub clipped_in_turn : List Rect → Picture → Picture → Picture
clipped_in_turn [] under picture = picture
clipped_in_turn (r ∷ rs) under picture = clipped_in_turn rs under (clipped_to r under picture)

-- ### What is said of p

-- it is a with itself: a if that has a pixel, and zeros if not
pub record Itself (a p : Rect) : Type 0 where
  pub some : (x y : ℤ) → has_pixel a x y ≡ true → p ≡ a
  pub none : ((x y : ℤ) → has_pixel a x y ≡ false) → p ≡ no_pixels

-- it lies inside both, if it has a pixel
pub record InsideBoth (a b p : Rect) : Type 0 where
  pub first : (x y : ℤ) → has_pixel p x y ≡ true → is_inside p a ≡ true
  pub second : (x y : ℤ) → has_pixel p x y ≡ true → is_inside p b ≡ true

-- ### What is said of a function, by the results that it may give of two rectangles

-- the result of its calls for a group
pub data Calls (Gives : Rect → Rect → Rect → Type 0) : Group → Rect → Type 0 where
  none : {r : Rect} → Calls Gives (one r) r
  last : {g h : Group} {p q r : Rect} → Calls Gives g p → Calls Gives h q → Gives p q r → Calls Gives (both g h) r

pub record Clips (Gives : Rect → Rect → Rect → Type 0) : Type 0 where
  pub pixels : (a b p : Rect) → Gives a b p → (x y : ℤ) → has_pixel p x y ≡ (has_pixel a x y && has_pixel b x y)
  pub order : (a b p q : Rect) → Gives a b p → Gives b a q → p ≡ q
  pub grouping : (a b c ab bc p q : Rect) → Gives a b ab → Gives ab c p → Gives b c bc → Gives a bc q → p ≡ q
  pub any_order : (g h : Group) (p q : Rect) → Rearranged (members g) (members h) → Calls Gives g p → Calls Gives h q → p ≡ q
  pub itself : (a p : Rect) → Gives a a p → Itself a p
  pub inside : (a b p : Rect) → Gives a b p → InsideBoth a b p
  pub seen :
      (a b p : Rect) → Gives a b p → (under picture : Picture) (x y : ℤ)
      → clipped_to b under (clipped_to a under picture) x y ≡ clipped_to p under picture x y
