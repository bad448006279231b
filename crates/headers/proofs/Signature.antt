-- Lists that are the same byte for byte: what the test says, and that `==` finds it.
use mathlib.Core.Path.{◌≡◌, refl, ap, ap₂, ◌∙◌}
use mathlib.Core.Bool.{Bool, true, ◌&&◌}
use mathlib.Core.List.{List, [], ◌∷◌}
use Prim.Native.Nat.{ℕ}
use borrow.Author.Tests.{eqb-true, eq-eqb}
use lib.Dec.{eqb}
use lib.Pointwise.{pointwise}
use Rattle.laws.proofs.Tests.{never, both}
use Rattle.headers.specs.declared.file_header.FileHeader.{FileHeader}
use Rattle.headers.specs.FileHeader.{is_same, is_signed, signature}

same_yes : (a b : List ℕ) → is_same a b ≡ true → a ≡ b
unfolding is_same
same_yes [] [] h = refl
same_yes [] (y ∷ b) h = never h
same_yes (x ∷ a) [] h = never h
same_yes (x ∷ a) (y ∷ b) h =
    let p = both (eqb x y) (is_same a b) h in
    ap₂ (λ (x : ℕ) (l : List ℕ). x ∷ l) (eqb-true x y p.0) (same_yes a b p.1)

same_is : (a : List ℕ) → is_same a a ≡ true
unfolding is_same
same_is [] = refl
same_is (x ∷ a) = rw (eq-eqb x x refl) (same_is a)

-- a header is signed exactly where its bytes are the signature
pub signed_yes : (h : FileHeader) → is_signed h ≡ true → h.signature ≡ signature
signed_yes h = same_yes h.signature signature

pub signed_is : (h : FileHeader) → h.signature ≡ signature → is_signed h ≡ true
signed_is h e = ap (λ (s : List ℕ). is_same s signature) e ∙ same_is signature

-- what `==` of two arrays computes
pub same_bytes : (a b : List ℕ) → pointwise eqb a b ≡ is_same a b
unfolding is_same
same_bytes [] [] = refl
same_bytes [] (y ∷ b) = refl
same_bytes (x ∷ a) [] = refl
same_bytes (x ∷ a) (y ∷ b) = ap (λ (t : Bool). eqb x y && t) (same_bytes a b)
