-- The fields of each rule stand in file order, none looks at a byte behind itself, and each can be mended by itself: so the one that is named is
-- the earliest, of two the later, and the one at fault. A channel has two rules, as its plane length is judged last and stands first.
use mathlib.Core.Path.{◌≡◌, refl, ap, ◌∙◌}
use mathlib.Core.Logic.{inl}
use mathlib.Core.Bool.{Bool, true, false, ◌&&◌, cond}
use mathlib.Core.List.{List, ◌∷◌}
use Prim.Native.Nat.{ℕ, ◌+◌, ◌-◌, ◌*◌, ◌^◌, ◌≤◌, ◌<◌}
use native.Mathlib.Omega.{arith}
use borrow.Author.Tests.{eq-eqb, ne_eqb, lt-ltb, le-leb, leb-true}
use lib.Dec.{eqb, leb}
use lib.IntN.{pos}
use lib.Pow.{pow_pos}
use lib.ListN.{length, take}
use Rattle.std.specs.Prelude.{Some}
use Rattle.laws.specs.Lists.{over}
use Rattle.laws.proofs.Tests.{both, one_of}
use Rattle.limits.specs.Limits.{side_limit}
use Rattle.endian.specs.Number.{le, number_at, bytes_of, signed}
use Rattle.endian.proofs.Bytes.{bytes_length, over_front, number_over}
use Rattle.endian.proofs.Front.{number_front}
use Rattle.rect.specs.declared.planes.Shape.{Shape}
use Rattle.rect.specs.Rect.{rect_at, is_proper, side_of, is_saved}
use Rattle.rect.specs.Rows.{row_of, is_plane}
use Rattle.rect.proofs.Forms.{plane_is, plane_within}
use Rattle.attributes.specs.Depth.{colour_channels}
use Rattle.attributes.specs.Fault.{Field, field, in_order, Names}
use Rattle.attributes.proofs.Named.{Alike, none, next_field, test_at, Mends, by_number, MendsEach, no_field, mend, names}
use Rattle.chunk.specs.AlphaInformation.{alpha_size, alpha_of, alpha_fault, alpha_rule}
use Rattle.chunk.specs.Area.{area_at}
use Rattle.chunk.specs.ChannelInformation.{channel_size, channel_of, codes_fault, plane_fault, codes_rule, plane_rule}
use Rattle.chunk.specs.ColorPalette.{palette_size, palette_of, palette_fault, palette_rule}
use Rattle.chunk.specs.LayerInformation.{layer_size, layer_of, layer_fault, layer_rule}
use Rattle.chunk.specs.Mask.{mask_size, mask_at, mask_fault, mask_rule}
use Rattle.chunk.specs.SelectionInformation.{selection_size, selection_of, selection_fault, selection_rule}

-- ### No byte behind a field has a say in it

module _ (s t : List ℕ) where
  rect_front : (at m : ℕ) → leb (at + 16) m ≡ true → take m s ≡ take m t → rect_at s at ≡ rect_at t at
  unfolding rect_at
  rect_front at m h e =
      let all = leb-true (at + 16) m h in
      let low : (k : ℕ) → k ≤ 12 → leb (at + k + 4) m ≡ true = λ k near. le-leb (at + k + 4) m (omega arith) in
      λ i. record {
        left = signed (number_front s t 4 at m (le-leb (at + 4) m (omega arith)) e i);
        top = signed (number_front s t 4 (at + 4) m (low 4 (omega arith)) e i);
        right = signed (number_front s t 4 (at + 8) m (low 8 (omega arith)) e i);
        bottom = signed (number_front s t 4 (at + 12) m (low 12 (omega arith)) e i);
      }

  palette_alike : (depth : ℕ) → Alike s t (palette_rule depth s) (palette_rule depth t)
  unfolding palette_of
  palette_alike depth = next_field (λ e. ap (λ (n : ℕ). leb 1 n && leb n (2 ^ depth)) (number_front s t 4 0 4 refl e)) none

  layer_alike : (depth : ℕ) → Alike s t (layer_rule depth s) (layer_rule depth t)
  unfolding layer_of area_at
  layer_alike depth =
      next_field (λ e. ap (λ (n : ℕ). leb n 1) (number_front s t 1 256 257 refl e))
      (next_field (λ e. ap is_proper (rect_front 257 273 refl e))
      (next_field (λ e i. is_saved (rect_front 273 289 refl e i) (rect_front 257 289 refl e i))
      (next_field (λ e. ap is_proper (rect_front 294 310 refl e))
      (next_field (λ e i. is_saved (rect_front 310 326 refl e i) (rect_front 294 326 refl e i))
      (next_field (λ e. ap (λ (n : ℕ). leb n 5) (number_front s t 2 329 331 refl e))
      (next_field (λ e. ap (λ (n : ℕ). leb 1 n && leb n 3) (number_front s t 2 371 373 refl e))
      (next_field
      (λ e i. eqb (number_front s t 2 373 375 refl e i + 1) (colour_channels depth + number_front s t 2 371 375 refl e i))
      none)))))))

  codes_alike : Alike s t (codes_rule s) (codes_rule t)
  unfolding channel_of
  codes_alike =
      next_field (λ e. ap (λ (n : ℕ). leb n 5) (number_front s t 2 8 10 refl e))
      (next_field (λ e. ap (λ (n : ℕ). leb n 3) (number_front s t 2 10 12 refl e)) none)

  -- wherever a selection's or an alpha channel's rectangles begin
  mask_alike : (from : ℕ) → Alike s t (mask_rule from s) (mask_rule from t)
  unfolding mask_at area_at
  mask_alike from =
      let ends : (k n : ℕ) → leb (from + k + n) (from + k + n) ≡ true = λ k n. le-leb (from + k + n) (from + k + n) (omega arith) in
      let whole = le-leb (from + 16) (from + 16) (omega arith) in
      let before = le-leb (from + 16) (from + 16 + 16) (omega arith) in
      next_field (λ e. ap is_proper (rect_front from (from + 16) whole e))
      (next_field (λ e i. is_saved (rect_front (from + 16) (from + 16 + 16) (ends 16 16) e i) (rect_front from (from + 16 + 16) before e i))
      (next_field (λ e. ap (λ (n : ℕ). eqb n 1) (number_front s t 2 (from + 32) (from + 32 + 2) (ends 32 2) e))
      (next_field (λ e. ap (λ (n : ℕ). eqb n 1) (number_front s t 2 (from + 34) (from + 34 + 2) (ends 34 2) e))
      none)))

  plane_alike : (shape : Shape) → Alike s t (plane_rule shape s) (plane_rule shape t)
  unfolding channel_of
  plane_alike shape = next_field (λ e. ap (is_plane shape) (number_front s t 4 4 8 refl e)) none

-- ### A number for each field

-- the test of a field by its place in the table: it stands first, or behind one that begins before it
field_first : (offset n : ℕ) (p : Bool) (xs : List Field) → test_at offset (field offset n p ∷ xs) ≡ p
field_first offset n p xs = ap (λ (b : Bool). cond b p (test_at offset xs)) (eq-eqb offset offset refl)

field_next : {offset o : ℕ} (n : ℕ) (p : Bool) (xs : List Field) → o < offset → test_at offset (field o n p ∷ xs) ≡ test_at offset xs
field_next {offset} {o} n p xs before =
    ap (λ (b : Bool). cond b p (test_at offset xs)) (ne_eqb o offset (λ z. absurd (omega arith)))

colours_few : (depth : ℕ) → colour_channels depth ≤ 3
colours_few depth = by (eqb depth 24)
  where
    by : (b : Bool) → cond b 3 1 ≤ 3
    by true = omega arith
    by false = omega arith

-- a shape within the limits
pub record Limited (shape : Shape) : Type 0 where
  pub few : shape.bits ≤ 8
  pub wide : shape.sides.width ≤ side_limit
  pub high : shape.sides.height ≤ side_limit

module _ (s : List ℕ) where
  palette_mends : (depth : ℕ) → palette_size ≤ length s → MendsEach (palette_rule depth) s (palette_rule depth s)
  unfolding palette_of
  palette_mends depth long = mend (by_number (palette_rule depth) s long 0 4 1 refl refl (λ is. rw is (le-leb 1 (2 ^ depth) (pow_pos depth)))) (λ _. no_field)

  codes_mends : channel_size ≤ length s → MendsEach codes_rule s (codes_rule s)
  unfolding channel_of
  codes_mends long =
      mend (by_number codes_rule s long 8 2 0 refl refl (λ is. rw is)) (λ _.
      mend (by_number codes_rule s long 10 2 0 refl refl (λ is. rw is)) (λ _. no_field))

  -- the padded form
  plane_mends : (shape : Shape) → Limited shape → channel_size ≤ length s → MendsEach (plane_rule shape) s (plane_rule shape s)
  unfolding channel_of
  plane_mends shape limited long =
      let n = row_of shape.sides.width shape.bits * shape.sides.height in
      let good = plane_is shape n ∙ one_of _ _ (inl (eq-eqb n _ refl)) in
      let most = plane_within shape n limited.few limited.wide limited.high good in
      mend (by_number (plane_rule shape) s long 4 4 n refl (lt-ltb n (256 ^ 4) (omega (arith, most))) (λ is. rw is good)) (λ _. no_field)

  -- an empty rectangle at the origin, in a chunk that is so long
  nowhere : (most at : ℕ) → most ≤ length s → leb (at + 16) most ≡ true → rect_at (over s at (bytes_of 16 0)) at ≡ record { left = pos 0; top = pos 0; right = pos 0; bottom = pos 0 }
  unfolding rect_at signed number_at le bytes_of
  nowhere most at long inside =
      let zeros = bytes_of 16 0 in
      let low = leb-true (at + 16) most inside in
      let fits : at + length zeros ≤ length s = omega arith in
      let read : (k : ℕ) → k + 4 ≤ 16 → number_at 4 (over s at zeros) (at + k) ≡ number_at 4 zeros k = λ k h. number_over s at zeros fits 4 k (omega arith) in
      let there : at ≡ at + 0 = omega arith in
      λ i. record {
        left = signed ((ap (number_at 4 (over s at zeros)) there ∙ read 0 (omega arith)) i);
        top = signed (read 4 (omega arith) i);
        right = signed (read 8 (omega arith) i);
        bottom = signed (read 12 (omega arith) i);
      }

  -- wherever a selection's or an alpha channel's rectangles begin
  mask_mends : (from : ℕ) → from + mask_size ≤ length s → MendsEach (mask_rule from) s (mask_rule from s)
  unfolding mask_at area_at side_of
  mask_mends from long =
      let rule = mask_rule from in
      let inside : (k n : ℕ) → k + n ≤ mask_size → leb (from + k + n) (from + mask_size) ≡ true = λ k n h. le-leb (from + k + n) (from + mask_size) (omega arith) in
      let start = le-leb (from + 16) (from + mask_size) (omega arith) in
      let first : (k : ℕ) → 0 < k → from < from + k = λ k h. omega arith in
      let later : (j k : ℕ) → j < k → from + j < from + k = λ j k h. omega arith in
      mend (by_number rule s long from 16 0 start refl (λ is. rw field_first (rw (nowhere (from + mask_size) from long start)))) (λ _.
      mend (by_number rule s long (from + 16) 16 0 (inside 16 16 (omega arith)) refl (λ is.
      rw (field_next _ _ _ (first 16 (omega arith)), field_first) (rw (nowhere (from + mask_size) (from + 16) long (inside 16 16 (omega arith)))))) (λ _.
      mend (by_number rule s long (from + 32) 2 1 (inside 32 2 (omega arith)) refl (λ is.
      rw (field_next _ _ _ (first 32 (omega arith)), field_next _ _ _ (later 16 32 (omega arith)), field_first, is))) (λ _.
      mend (by_number rule s long (from + 34) 2 1 (inside 34 2 (omega arith)) refl (λ is.
      rw (field_next _ _ _ (first 34 (omega arith)), field_next _ _ _ (later 16 34 (omega arith)), field_next _ _ _ (later 32 34 (omega arith)), field_first, is))) (λ _.
      no_field))))

  module _ (depth : ℕ) (long : layer_size ≤ length s) where
    -- as many as depth and bitmaps make
    channels : (leb 1 (number_at 2 s 371) && leb (number_at 2 s 371) 3) ≡ true → Mends (layer_rule depth) s 373 2
    unfolding layer_of
    channels bitmaps =
        let b = number_at 2 s 371 in
        let n = colour_channels depth + b - 1 in
        let k = both (leb 1 b) _ bitmaps in
        let low = leb-true 1 b k.0 in
        let high = leb-true b 3 k.1 in
        let few = colours_few depth in
        let t = over s 373 (bytes_of 2 n) in
        let same = number_front t s 2 371 373 refl (over_front s 373 (bytes_of 2 n) (omega (arith, bytes_length 2 n))) in
        by_number (layer_rule depth) s long 373 2 n refl (lt-ltb n (256 ^ 2) (omega arith))
        (λ is. let agree : number_at 2 t 373 + 1 ≡ colour_channels depth + number_at 2 t 371 = omega arith in eq-eqb _ _ agree)

    layer_mends : MendsEach (layer_rule depth) s (layer_rule depth s)
    unfolding layer_of area_at side_of
    layer_mends =
        mend (by_number (layer_rule depth) s long 256 1 0 refl refl (λ is. rw is)) (λ _.
        mend (by_number (layer_rule depth) s long 257 16 0 refl refl (λ is. rw (nowhere layer_size 257 long refl))) (λ _.
        mend (by_number (layer_rule depth) s long 273 16 0 refl refl (λ is. rw (nowhere layer_size 273 long refl))) (λ _.
        mend (by_number (layer_rule depth) s long 294 16 0 refl refl (λ is. rw (nowhere layer_size 294 long refl))) (λ _.
        mend (by_number (layer_rule depth) s long 310 16 0 refl refl (λ is. rw (nowhere layer_size 310 long refl))) (λ _.
        mend (by_number (layer_rule depth) s long 329 2 0 refl refl (λ is. rw is)) (λ _.
        mend (by_number (layer_rule depth) s long 371 2 1 refl refl (λ is. rw is)) (λ bitmaps.
        mend (channels bitmaps) (λ _.
        no_field))))))))

-- ### The field that is named

pub palette_names :
    (depth : ℕ) (chunk : List ℕ) → palette_size ≤ length chunk → (offset : ℕ) → palette_fault depth (palette_of chunk) ≡ Some offset
    → Names (palette_rule depth) chunk offset
unfolding palette_fault
palette_names depth chunk long offset =
    names (palette_rule depth) (λ s. refl) (λ s t. palette_alike s t depth) chunk offset (palette_mends chunk depth long)

pub layer_names :
    (depth : ℕ) (chunk : List ℕ) → layer_size ≤ length chunk → (offset : ℕ) → layer_fault depth (layer_of chunk) ≡ Some offset
    → Names (layer_rule depth) chunk offset
unfolding layer_fault
layer_names depth chunk long offset = names (layer_rule depth) (λ s. refl) (λ s t. layer_alike s t depth) chunk offset (layer_mends chunk depth long)

pub codes_names : (chunk : List ℕ) → channel_size ≤ length chunk → (offset : ℕ) → codes_fault (channel_of chunk) ≡ Some offset → Names codes_rule chunk offset
unfolding codes_fault
codes_names chunk long offset = names codes_rule (λ s. refl) codes_alike chunk offset (codes_mends chunk long)

pub plane_names :
    (shape : Shape) → Limited shape → (chunk : List ℕ) → channel_size ≤ length chunk → (offset : ℕ) → plane_fault shape (channel_of chunk) ≡ Some offset
    → Names (plane_rule shape) chunk offset
unfolding plane_fault
plane_names shape limited chunk long offset =
    names (plane_rule shape) (λ s. refl) (λ s t. plane_alike s t shape) chunk offset (plane_mends chunk shape limited long)

module _ (from : ℕ) (chunk : List ℕ) (order : (s : List ℕ) → in_order (mask_rule from s) ≡ true) (long : from + mask_size ≤ length chunk) where
  mask_names : (offset : ℕ) → mask_fault from (mask_at chunk from) ≡ Some offset → Names (mask_rule from) chunk offset
  unfolding mask_fault
  mask_names offset = names (mask_rule from) order (λ s t. mask_alike s t from) chunk offset (mask_mends chunk from long)

pub selection_names :
    (chunk : List ℕ) → selection_size ≤ length chunk → (offset : ℕ) → selection_fault (selection_of chunk) ≡ Some offset → Names selection_rule chunk offset
unfolding selection_of
selection_names chunk long = mask_names 0 chunk (λ s. refl) (omega arith)

pub alpha_names : (chunk : List ℕ) → alpha_size ≤ length chunk → (offset : ℕ) → alpha_fault (alpha_of chunk) ≡ Some offset → Names alpha_rule chunk offset
unfolding alpha_of
alpha_names chunk long = mask_names 256 chunk (λ s. refl) long
