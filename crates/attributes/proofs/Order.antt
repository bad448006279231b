-- The fields of the image's rule stand in file order, none looks at a byte behind itself, and each can be mended by itself: so the one that is
-- named is the earliest, of two the later, and the one at fault.
use mathlib.Core.Path.{◌≡◌, refl, sym, ap, ◌∙◌}
use mathlib.Core.Logic.{inr}
use mathlib.Core.Bool.{true, ◌&&◌, ◌||◌, not}
use mathlib.Core.List.{List}
use Prim.Native.Nat.{ℕ, ◌^◌, ◌≤◌}
use native.Mathlib.Omega.{arith}
use borrow.Author.Tests.{eq-eqb}
use lib.Dec.{eqb, leb, ltb}
use lib.Ieee.{binary64, of_bits}
use lib.ListN.{length}
use Rattle.std.specs.Prelude.{Some}
use Rattle.limits.specs.Limits.{layer_limit}
use Rattle.laws.proofs.Tests.{one_of}
use Rattle.endian.specs.Number.{signed, number_at, bytes_of}
use Rattle.endian.proofs.Bytes.{bytes_length, over_front}
use Rattle.endian.proofs.Front.{number_front}
use Rattle.attributes.specs.Depth.{is_depth}
use Rattle.attributes.specs.Fault.{Names}
use Rattle.attributes.specs.ImageAttributes.{image_size, is_side, image_of, is_paletted, image_fault, image_rule}
use Rattle.attributes.specs.Resolution.{resolution_at, is_resolution}
use Rattle.attributes.proofs.Named.{Alike, none, next_field, Mends, by_number, MendsEach, no_field, mend, names}
use Rattle.attributes.proofs.Rules.{four}

-- ### No byte behind a field has a say in it

alike : (s t : List ℕ) → Alike s t (image_rule s) (image_rule t)
unfolding image_of resolution_at
alike s t =
    next_field (λ e. ap (λ (n : ℕ). is_side (signed n)) (number_front s t 4 0 4 refl e))
    (next_field (λ e. ap (λ (n : ℕ). is_side (signed n)) (number_front s t 4 4 8 refl e))
    (next_field (λ e i. is_resolution (record { value = of_bits binary64 (number_front s t 8 8 17 refl e i); metric = number_front s t 1 16 17 refl e i }))
    (next_field (λ e. ap (λ (n : ℕ). leb n 2) (number_front s t 2 17 19 refl e))
    (next_field (λ e. ap is_depth (number_front s t 2 19 21 refl e))
    (next_field (λ e. ap (λ (n : ℕ). eqb n 1) (number_front s t 2 21 23 refl e))
    (next_field (λ e i. eqb (number_front s t 4 23 27 refl e i) (2 ^ number_front s t 2 19 27 refl e i))
    (next_field
    (λ e i.
    let grey = number_front s t 1 27 28 refl e i in
    eqb grey 0 || (eqb grey 1 && eqb (number_front s t 2 19 28 refl e i) 8))
    (next_field
    (λ e i.
    let layers = number_front s t 2 36 38 refl e i in
    leb 1 layers && leb layers layer_limit
    && (not (ltb (number_front s t 2 19 38 refl e i) 24 && eqb (number_front s t 1 27 38 refl e i) 0) || eqb layers 1))
    none))))))))

-- ### A number for each field

-- 2 to a depth is one of four bytes
colours_fit : (d : ℕ) → is_depth d ≡ true → ltb (2 ^ d) (256 ^ 4) ≡ true
colours_fit = four (λ (d : ℕ). ltb (2 ^ d) (256 ^ 4) ≡ true) refl refl refl refl

module _ (s : List ℕ) (long : image_size ≤ length s) where
  -- two to the depth in front of it
  colours : is_depth (number_at 2 s 19) ≡ true → Mends image_rule s 23 4
  unfolding image_of
  colours depth =
      let n = 2 ^ number_at 2 s 19 in
      let in-front = over_front s 23 (bytes_of 4 n) (omega (arith, bytes_length 4 n)) in
      by_number image_rule s long 23 4 n refl (colours_fit (number_at 2 s 19) depth)
      (λ is. eq-eqb _ _ (is ∙ ap (λ (d : ℕ). 2 ^ d) (sym (number_front _ s 2 19 23 refl in-front))))

  mends : MendsEach image_rule s (image_rule s)
  unfolding image_of resolution_at signed
  mends =
      mend (by_number image_rule s long 0 4 1 refl refl (λ is. rw is)) (λ _.
      mend (by_number image_rule s long 4 4 1 refl refl (λ is. rw is)) (λ _.
      mend (by_number image_rule s long 16 1 0 refl refl (λ is. rw is)) (λ _.
      mend (by_number image_rule s long 17 2 0 refl refl (λ is. rw is)) (λ _.
      mend (by_number image_rule s long 19 2 1 refl refl (λ is. rw is)) (λ depth.
      mend (by_number image_rule s long 21 2 1 refl refl (λ is. rw is)) (λ _.
      mend (colours depth) (λ _.
      mend (by_number image_rule s long 27 1 0 refl refl (λ is. rw is)) (λ _.
      mend (by_number image_rule s long 36 2 1 refl refl (λ is. rw is (one_of (not (is_paletted (image_of _))) true (inr refl)))) (λ _.
      no_field)))))))))

-- ### The field that is named

pub image_names :
    (chunk : List ℕ) → image_size ≤ length chunk → (offset : ℕ) → image_fault (image_of chunk) ≡ Some offset → Names image_rule chunk offset
unfolding image_fault
image_names chunk long offset = names image_rule (λ s. refl) alike chunk offset (mends chunk long)
