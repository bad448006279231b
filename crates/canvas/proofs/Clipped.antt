-- The clipped block is the canvas with the plane on it: the pixels that canvas and rectangle share are its own, and they all have room.
use mathlib.Core.Path.{◌≡◌, refl, sym, ap, ap₂, ◌∙◌, subst}
use mathlib.Core.Bool.{Bool, true, false, ◌&&◌, true≢false}
use mathlib.Core.List.{List}
use mathlib.Core.Logic.{⊎_elim}
use Prim.Native.Nat.{ℕ, ◌+◌, ◌*◌, ◌/◌, ◌%◌, ◌<◌}
use native.Mathlib.Nat.{mul_comm, mul-le-mul_right, div-add-mod', mod-lt}
use native.Mathlib.Omega.{arith}
use borrow.Author.Tests.{le-leb, lt-ltb, leb-true, ltb-true}
use lib.Dec.{leb, ltb}
use lib.IntN.{pos}
use lib.ListN.{length, get_or}
use Rattle.laws.proofs.Choice.{pick_no, pick_ind}
use Rattle.laws.proofs.Tests.{both, less_or_not}
use Rattle.rect.specs.declared.Rect.{Rect}
use Rattle.rect.specs.Rect.{Span, Proper, side_of, width_of, height_of, is_empty}
use Rattle.rect.specs.Shared.{has_pixel, shared_of, greater_of, lesser_of}
use Rattle.rect.proofs.Pixels.{Framed, framed_some, empty_has, shared_pixels}
use Rattle.canvas.specs.Placing.{byte_of, pixel_of, on_canvas}
use Rattle.canvas.specs.declared.rows.Rows.{Rows}
use Rattle.canvas.specs.Blocks.{frame_of, Room, Fit, rows_of}
use Rattle.canvas.proofs.Block.{row_inside, rows_length, block_in, block_out}
use Rattle.canvas.proofs.Axes.{Cut, cut, Clip, clip, on_canvas_lem, in_plane, shared_span}
use Rattle.canvas.proofs.Pixels.{placed_is, frame_has}

and-true : (p q : Bool) → q ≡ true → (p && q) ≡ p
and-true true q h = h
and-true false q h = refl

all : (a b c d : Bool) → a ≡ true → b ≡ true → c ≡ true → d ≡ true → ((a && b) && (c && d)) ≡ true
all a b c d p q x y = λ i. ((p i && q i) && (x i && y i))

-- the canvas as a rectangle, and what it shares with r
pub record Clipping (width height : ℕ) (canvas : List ℕ) (r : Rect) (plane : List ℕ) (row : ℕ) (whole s : Rect) : Type 0 where
  pub fit : Fit width height canvas r plane row
  pub whole_is : whole ≡ frame_of width height
  pub s_is : s ≡ shared_of r whole

pub clipping_of :
    {width height : ℕ} {canvas : List ℕ} {r : Rect} {plane : List ℕ} {row : ℕ} {whole s : Rect}
    → Fit width height canvas r plane row → whole ≡ frame_of width height → s ≡ shared_of r whole
    → Clipping width height canvas r plane row whole s
clipping_of f w s = record { fit = f; whole_is = w; s_is = s }

module _
    {width height : ℕ} {canvas : List ℕ} {r : Rect} {plane : List ℕ} {row : ℕ} {whole s : Rect}
    (clipping : Clipping width height canvas r plane row whole s) where
  fit : Fit width height canvas r plane row
  fit = clipping.fit

  shared_is : s ≡ shared_of r (frame_of width height)
  shared_is = clipping.s_is ∙ ap (shared_of r) clipping.whole_is

  -- on the canvas, the rectangle's pixels are the shared ones
  on : (x y : ℕ) → x < width → y < height → has_pixel r (pos x) (pos y) ≡ has_pixel s (pos x) (pos y)
  on x y p q =
      sym
      (ap (λ (f : Rect). has_pixel f (pos x) (pos y)) shared_is
      ∙ shared_pixels r (frame_of width height) (pos x) (pos y)
      ∙ and-true (has_pixel r (pos x) (pos y)) _ (frame_has width height x y p q))

  -- byte k is a pixel of the canvas
  column : (k : ℕ) → k % width < width
  column k = mod-lt k fit.some

  line : (k : ℕ) → k < length canvas → k / width < height
  line k h =
      ⊎_elim (λ p. p)
      (λ p. absurd (omega (arith, mul-le-mul_right width p, div-add-mod' k width, mul_comm width height, fit.long)))
      (less_or_not (k / width) height)

  pub none_shared : is_empty s ≡ true → canvas ≡ on_canvas width row r plane canvas
  none_shared e =
      placed_is width row r plane canvas canvas refl
      (λ k h.
      sym
      (pick_no _ _ _
      (on (k % width) (k / width) (column k) (line k h) ∙ empty_has s (pos (k % width)) (pos (k / width)) e)))

  module _ (some : is_empty s ≡ false) where
    framed :
        Framed (greater_of r.left (pos 0)) (greater_of r.top (pos 0)) (lesser_of r.right (pos width)) (lesser_of r.bottom (pos height))
        (shared_of r (frame_of width height))
    framed = framed_some _ _ _ _ (sym (ap is_empty shared_is) ∙ some)

    corners : s ≡ record {
      left = greater_of r.left (pos 0);
      top = greater_of r.top (pos 0);
      right = lesser_of r.right (pos width);
      bottom = lesser_of r.bottom (pos height);
    }
    corners = shared_is ∙ framed.is

    cut_across : Cut r.left r.right width s.left s.right
    cut_across =
        subst (λ (f : Rect). Cut r.left r.right width f.left f.right) (sym corners)
        (cut r.left r.right width framed.across)

    cut_down : Cut r.top r.bottom height s.top s.bottom
    cut_down =
        subst (λ (f : Rect). Cut r.top r.bottom height f.top f.bottom) (sym corners)
        (cut r.top r.bottom height framed.down)

    -- ### What the code subtracts

    pub canvas_spans : (Span whole.left s.left) × (Span whole.top s.top)
    canvas_spans =
        subst (λ (f : Rect). (Span f.left s.left) × (Span f.top s.top)) (sym clipping.whole_is)
        (on_canvas_lem _ _ _ _ _ fit.wide fit.sized.proper.across cut_across, on_canvas_lem _ _ _ _ _ fit.high fit.sized.proper.down cut_down)

    pub plane_spans : (Span r.left s.left) × (Span r.top s.top)
    plane_spans = (in_plane _ _ _ _ _ fit.wide fit.sized.proper.across cut_across, in_plane _ _ _ _ _ fit.high fit.sized.proper.down cut_down)

    pub shared_proper : Proper s
    shared_proper =
        record {
          across = shared_span _ _ _ _ _ fit.wide fit.sized.proper.across cut_across;
          down = shared_span _ _ _ _ _ fit.high fit.sized.proper.down cut_down;
        }

    -- ### The block

    x₀ : ℕ
    x₀ = side_of (pos 0) s.left

    y₀ : ℕ
    y₀ = side_of (pos 0) s.top

    dx : ℕ
    dx = side_of r.left s.left

    dy : ℕ
    dy = side_of r.top s.top

    across : Clip r.left r.right width s.left s.right x₀ dx (width_of s)
    unfolding x₀ dx
    across = clip r.left r.right width s.left s.right cut_across

    down : Clip r.top r.bottom height s.top s.bottom y₀ dy (height_of s)
    unfolding y₀ dy
    down = clip r.top r.bottom height s.top s.bottom cut_down

    room : Room plane row (dy * row + dx) (width_of s) canvas width (y₀ * width + x₀) (height_of s)
    room =
        record {
          there = λ i k. omega (arith, row_inside x₀ (width_of s) width y₀ (height_of s) height i across.inside down.inside k, mul_comm width height, fit.long);
          here = λ i k. omega (arith, row_inside dx (width_of s) row dy (height_of s) (height_of r) i (omega (arith, across.held, fit.holds)) down.held k, mul_comm row (height_of r), fit.whole);
        }

    block : List ℕ
    block = rows_of plane row (dy * row + dx) (width_of s) canvas width (y₀ * width + x₀) (height_of s)

    has : (x y : ℕ) → has_pixel s (pos x) (pos y) ≡ ((leb x₀ x && ltb x (x₀ + width_of s)) && (leb y₀ y && ltb y (y₀ + height_of s)))
    has x y = ap₂ (λ (p q : Bool). p && q) (across.has x) (down.has y)

    block_pixel :
        (x y : ℕ) → x < width → y < height
        → get_or block (y * width + x) 0 ≡ pixel_of r row plane (pos x) (pos y) (get_or canvas (y * width + x) 0)
    unfolding block
    block_pixel x y p q =
        let test = on x y p q ∙ has x y in
        pick_ind (λ (z : ℕ). get_or block (y * width + x) 0 ≡ z) (has_pixel r (pos x) (pos y)) _ _
        (λ yes.
        let parts = both _ _ (sym test ∙ yes) in
        let h = both _ _ parts.0 in
        let v = both _ _ parts.1 in
        let right = leb-true x₀ x h.0 in
        let below = leb-true y₀ y v.0 in
        block_in plane row dx dy canvas width x₀ y₀ (width_of s) (height_of s) room across.inside x y right (ltb-true _ _ h.1) below (ltb-true _ _ v.1)
        ∙ ap₂ (λ (i j : ℕ). get_or plane (i * row + j) 0) (sym (down.byte y below)) (sym (across.byte x right)))
        (λ no.
        block_out plane row dx dy canvas width x₀ y₀ (width_of s) (height_of s) room across.inside x y p
        (λ a b c d.
        true≢false (sym (all _ _ _ _ (le-leb x₀ x a) (lt-ltb x _ b) (le-leb y₀ y c) (lt-ltb y _ d)) ∙ sym test ∙ no)))

    block_is : block ≡ on_canvas width row r plane canvas
    unfolding block
    block_is =
        placed_is width row r plane canvas block (rows_length plane row (dy * row + dx) (width_of s) canvas width (y₀ * width + x₀) (height_of s) room)
        (λ k h.
        let here = div-add-mod' k width in
        ap (λ (n : ℕ). get_or block n 0) (sym here)
        ∙ block_pixel (k % width) (k / width) (column k) (line k h)
        ∙ ap (λ (n : ℕ). pixel_of r row plane (pos (k % width)) (pos (k / width)) (get_or canvas n 0)) here)

    -- as the code has the numbers
    module _
        (on of : Rows) (w h : ℕ) (on_is : (on.first ≡ byte_of whole width s.left s.top) × (on.apart ≡ width))
        (of_is : (of.first ≡ byte_of r row s.left s.top) × (of.apart ≡ row)) (w-is : w ≡ width_of s) (h-is : h ≡ height_of s) where
      at_starts : on.first ≡ y₀ * width + x₀
      unfolding x₀ y₀
      at_starts = on_is.0 ∙ ap (λ (f : Rect). byte_of f width s.left s.top) clipping.whole_is

      from_starts : of.first ≡ dy * row + dx
      unfolding dx dy
      from_starts = of_is.0

      pub rows_room : Room plane of.apart of.first w canvas on.apart on.first h
      rows_room = rw (of_is.1, on_is.1, from_starts, at_starts, w-is, h-is) room

      pub rows_place : rows_of plane of.apart of.first w canvas on.apart on.first h ≡ on_canvas width row r plane canvas
      unfolding block
      rows_place = (λ i. rows_of plane (of_is.1 i) (from_starts i) (w-is i) canvas (on_is.1 i) (at_starts i) (h-is i)) ∙ block_is
