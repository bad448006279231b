-- Kinds and ids determine one another.
use mathlib.Core.Path.{◌≡◌, refl, sym, ap, ◌∙◌}
use Prim.Native.Nat.{ℕ, ◌<◌, ◌≤◌}
use native.Mathlib.Omega.{arith}
use lib.Dec.{eqb}
use Rattle.std.specs.Prelude.{Result, Ok, Err, IsErr}
use Rattle.laws.specs.Choice.{pick}
use Rattle.headers.specs.declared.kind.Kind.{Kind}
use Rattle.headers.specs.declared.kind.Kind.TheVariants.{Image, Creator, Palette, Bank, Layer, Channel, Selection, AlphaBank, Alpha, Thumbnail, Extended, Tube}
use Rattle.headers.specs.declared.kind.UnknownId.{UnknownId}
use Rattle.headers.specs.Kind.{id_of, IsKindOf}

pub id_below : (k : Kind) → id_of k < 12
id_below Image = omega arith
id_below Creator = omega arith
id_below Palette = omega arith
id_below Bank = omega arith
id_below Layer = omega arith
id_below Channel = omega arith
id_below Selection = omega arith
id_below AlphaBank = omega arith
id_below Alpha = omega arith
id_below Thumbnail = omega arith
id_below Extended = omega arith
id_below Tube = omega arith

-- the kind of an id below 12
kind_of : ℕ → Kind
kind_of id =
    pick (eqb id 0) Image
    (pick (eqb id 1) Creator
    (pick (eqb id 2) Palette
    (pick (eqb id 3) Bank
    (pick (eqb id 4) Layer
    (pick (eqb id 5) Channel
    (pick (eqb id 6) Selection
    (pick (eqb id 7) AlphaBank
    (pick (eqb id 8) Alpha
    (pick (eqb id 9) Thumbnail
    (pick (eqb id 10) Extended
    Tube))))))))))

kind_of_id : (k : Kind) → kind_of (id_of k) ≡ k
unfolding kind_of pick
kind_of_id Image = refl
kind_of_id Creator = refl
kind_of_id Palette = refl
kind_of_id Bank = refl
kind_of_id Layer = refl
kind_of_id Channel = refl
kind_of_id Selection = refl
kind_of_id AlphaBank = refl
kind_of_id Alpha = refl
kind_of_id Thumbnail = refl
kind_of_id Extended = refl
kind_of_id Tube = refl

-- kinds with one id are one
pub id_of_injective : (a b : Kind) → id_of a ≡ id_of b → a ≡ b
id_of_injective a b same = sym (kind_of_id a) ∙ ap kind_of same ∙ kind_of_id b

-- what conversion gives is the kind, where the id is a kind's, and an error from 12 on
pub known : (id : ℕ) (r : Result Kind UnknownId) → IsKindOf id r → (k : Kind) → id_of k ≡ id → r ≡ Ok k
known id (Ok a) is k names = ap Ok (id_of_injective a k (is ∙ sym names))
known id (Err e) is k names = absurd (omega (arith, id_below k))

pub unknown : (id : ℕ) (r : Result Kind UnknownId) → IsKindOf id r → 12 ≤ id → IsErr r
unknown id (Ok a) is high = absurd (omega (arith, id_below a))
unknown id (Err e) is high = refl

-- so of any two answers both are one
pub kind_is_one : (id : ℕ) (y z : Result Kind UnknownId) → IsKindOf id y → IsKindOf id z → y ≡ z
kind_is_one id (Ok a) (Ok b) p q = ap Ok (id_of_injective a b (p ∙ sym q))
kind_is_one id (Ok a) (Err e) p q = absurd (omega (arith, id_below a))
kind_is_one id (Err d) (Ok b) p q = absurd (omega (arith, id_below b))
kind_is_one id (Err d) (Err e) p q = ap (λ (n : ℕ). Err (record { 0 = n })) (p.0 ∙ sym q.0)
