-- An axis: two corners clipped at a canvas side. From signed corners to the numbers that the rows are copied by.
use mathlib.Core.Path.{◌≡◌, refl, sym, ap, ap₂, ◌∙◌}
use mathlib.Core.Bool.{true, ◌&&◌}
use Prim.Native.Nat.{ℕ, ◌+◌, ◌-◌, ◌<◌, ◌≤◌}
use native.Mathlib.Omega.{arith}
use borrow.Author.Tests.{leb-true, ltb-true, le-leb}
use lib.Dec.{leb, ltb}
use lib.IntN.{ℤ, pos, negsuc}
use lib.Signed.{le_z, lt_z}
use Rattle.laws.proofs.Tests.{never}
use Rattle.limits.specs.Limits.{side_limit, most_coordinate}
use Rattle.rect.specs.Rect.{Span, side_of}
use Rattle.rect.specs.Shared.{lesser_of, greater_of}
use Rattle.rect.proofs.Order.{le_trans, lt_le}
use Rattle.rect.proofs.Axis.{side_pos, side_on}
use Rattle.rect.proofs.Pixels.{greater_above, lesser_below}

-- the part from `from` to `to` of corners a and b that lies on a canvas side of n pixels
pub record Cut (a b : ℤ) (n : ℕ) (from to : ℤ) : Type 0 where
  pub near : le_z a from ≡ true
  pub low : le_z (pos 0) from ≡ true
  pub order : lt_z from to ≡ true
  pub end : le_z to b ≡ true
  pub far : le_z to (pos n) ≡ true

pub cut :
    (a b : ℤ) (n : ℕ) → lt_z (greater_of a (pos 0)) (lesser_of b (pos n)) ≡ true
    → Cut a b n (greater_of a (pos 0)) (lesser_of b (pos n))
cut a b n h =
    record {
      near = (greater_above a (pos 0)).0;
      low = (greater_above a (pos 0)).1;
      order = h;
      end = (lesser_below b (pos n)).0;
      far = (lesser_below b (pos n)).1;
    }

-- as numbers: `at` and `count` on the canvas, and `skip` in the plane
pub record Clip (a b : ℤ) (n : ℕ) (from to : ℤ) (at skip count : ℕ) : Type 0 where
  pub inside : at + count ≤ n
  pub held : skip + count ≤ side_of a b
  pub has : (x : ℕ) → (le_z from (pos x) && lt_z (pos x) to) ≡ (leb at x && ltb x (at + count))
  pub byte : (x : ℕ) → at ≤ x → side_of a (pos x) ≡ skip + (x - at)

pub clip : (a b : ℤ) (n : ℕ) (from to : ℤ) → Cut a b n from to → Clip a b n from to (side_of (pos 0) from) (side_of a from) (side_of from to)
clip a b n (negsuc f) to c = never c.low
clip a b n (pos f) (negsuc t) c = never c.order
clip a (negsuc b) n (pos f) (pos t) c = never c.end
clip a (pos b) n (pos f) (pos t) c =
    let order : f < t = ltb-true f t c.order in
    let far : t ≤ n = leb-true t n c.far in
    let end : t ≤ b = leb-true t b c.end in
    let at : side_of (pos 0) (pos f) ≡ f = side_pos 0 f (omega arith) ∙ omega arith in
    let count : side_of (pos f) (pos t) ≡ t - f = side_pos f t (omega arith) in
    let to : t ≡ side_of (pos 0) (pos f) + side_of (pos f) (pos t) = omega (arith, at, count) in
    record {
      inside = omega (arith, to);
      held = omega (arith, count, side_on a f b c.near (omega arith));
      has = λ x. ap₂ (λ (i j : ℕ). leb i x && ltb x j) (sym at) to;
      byte = λ x h. side_on a f x c.near (omega (arith, at)) ∙ ap (λ (i : ℕ). side_of a (pos f) + (x - i)) (sym at);
    }

-- the corners that the code subtracts
module _ (a b : ℤ) (n : ℕ) (from to : ℤ) (small : n ≤ side_limit) (s : Span a b) (c : Cut a b n from to) where
  most : le_z (pos n) most_coordinate ≡ true
  most = le-leb n 32767 (omega arith)

  to_most : le_z to most_coordinate ≡ true
  to_most = le_trans to (pos n) most_coordinate c.far most

  from_most : le_z from most_coordinate ≡ true
  from_most = le_trans from to most_coordinate (lt_le from to c.order) to_most

  pub on_canvas_lem : Span (pos 0) from
  on_canvas_lem = record { low = refl; order = c.low; high = from_most }

  pub in_plane : Span a from
  in_plane = record { low = s.low; order = c.near; high = from_most }

  pub shared_span : Span from to
  shared_span =
      record {
        low = le_trans (negsuc 32767) (pos 0) from refl c.low;
        order = lt_le from to c.order;
        high = to_most;
      }
