-- What the library's default of a chunk is: zeros, as the definitions have it.
use mathlib.Core.Path.{◌≡◌, sym, ◌∙◌}
use mathlib.Core.List.{List}
use Prim.Native.Nat.{ℕ}
use native.Mathlib.Omega.{arith}
use lib.IntN.{pos}
use lib.ListN.{replicate}
use lib.Seq.{ext_get_or}
use Rattle.std.specs.Array.{AllOfLen}
use Rattle.std.proofs.lemmas.List.{length-replicate, get_or-replicate}
use Rattle.rect.specs.declared.Rect.{Rect}
use Rattle.chunk.specs.declared.area.Area.{Area}
use Rattle.view.specs.Zeros.{no_rect, no_area}

pub all_zero : (xs : List ℕ) (n : ℕ) → AllOfLen (λ x. x ≡ 0) xs n → xs ≡ replicate n 0
all_zero xs n a =
    ext_get_or 0 xs (replicate n 0) (a.long ∙ sym (length-replicate n 0))
    (λ k low. a.at k 0 (omega (arith, a.long)) ∙ sym (get_or-replicate n k 0 0 (omega (arith, a.long))))

abbrev pub ZeroRect : Rect → Type 0
ZeroRect r = (r.left ≡ pos 0) × ((r.top ≡ pos 0) × ((r.right ≡ pos 0) × (r.bottom ≡ pos 0)))

rect_zero : {r : Rect} → ZeroRect r → r ≡ no_rect
rect_zero z = λ i. record { left = z.0 i; top = z.1.0 i; right = z.1.1.0 i; bottom = z.1.1.1 i }

pub area_zero : (a : Area) → ZeroRect a.border × ZeroRect a.saved → a ≡ no_area
unfolding no_area
area_zero a z = λ i. record { border = rect_zero z.0 i; saved = rect_zero z.1 i }
