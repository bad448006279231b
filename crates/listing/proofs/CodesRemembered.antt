-- What the rules remember of the codes of a layer's channels is what has come: so a code that has not come is none of those listed. Of a
-- selection and an alpha channel they remember the count alone: one channel, of the one code that is expected.
use mathlib.Core.Path.{◌≡◌, refl, sym, ap, subst⁻¹, ◌∙◌}
use mathlib.Core.Logic.{inl, inr}
use mathlib.Core.Bool.{Bool, true, false, ◌&&◌, ◌||◌, not}
use mathlib.Core.List.Memᴰ
use mathlib.Core.List.{List, [], ◌∷◌, ◌++◌, Memᴰ}
use Prim.Native.Nat.{ℕ, zero, suc, ◌≤◌}
use native.Mathlib.Omega.{arith}
use borrow.Author.Tests.{eqb-true, leb-true}
use lib.Dec.{eqb, leb}
use Rattle.laws.specs.Choice.{pick}
use lib.ListN.{length}
use Rattle.laws.specs.All.{All, empty, both}
use Rattle.laws.specs.Along.{Along, along_step}
use Rattle.laws.proofs.All.{all_map, all_more}
use Rattle.laws.proofs.Tests as tests
use Rattle.laws.proofs.Tests.{never, either, one_of}
use Rattle.entry.specs.declared.Code.{Code}
use Rattle.entry.specs.Entry.{code}
use Rattle.memory.specs.declared.codes.Codes.{Codes}
use Rattle.memory.specs.declared.parent.Parent.{Parent}
use Rattle.memory.specs.declared.parent.Parent.TheVariants.{Main, Bank, Layer, Selection, AlphaBank, Alpha}
use Rattle.memory.specs.Codes.{is_of_layer, is_expected, no_codes, has_codes, with_codes, has_colours}
use Rattle.memory.specs.Parent.{is_host}
use Rattle.listing.specs.Right.{Awaited, needed}

-- ### What holds of each code that may be expected holds of one that is

one_to_three : (P : ℕ → Type 0) → P 1 → P 2 → P 3 → (n : ℕ) → 1 ≤ n → n ≤ 3 → P n
one_to_three P p₁ p₂ p₃ zero low high = absurd (omega arith)
one_to_three P p₁ p₂ p₃ (suc zero) low high = p₁
one_to_three P p₁ p₂ p₃ (suc (suc zero)) low high = p₂
one_to_three P p₁ p₂ p₃ (suc (suc (suc zero))) low high = p₃
one_to_three P p₁ p₂ p₃ (suc (suc (suc (suc n)))) low high = absurd (omega arith)

layer_ind :
    (P : ℕ → ℕ → Type 0) → P 0 0 → P 0 1 → P 0 2 → P 0 3 → P 1 0 → P 2 0
    → (depth b c : ℕ) → is_of_layer depth b c ≡ true → P b c
layer_ind P p₀₀ p₀₁ p₀₂ p₀₃ p₁₀ p₂₀ depth b c h =
    either (eqb b 0 && ((eqb depth 24 && leb 1 c && leb c 3) || (not (eqb depth 24) && eqb c 0))) _ h
    (λ colour.
    let k = tests.both (eqb b 0) _ colour in
    subst⁻¹ (λ (n : ℕ). P n c) (eqb-true b 0 k.0)
    (either (eqb depth 24 && leb 1 c && leb c 3) _ k.1
    (λ x.
    let m = tests.both (eqb depth 24 && leb 1 c) _ x in
    one_to_three (P 0) p₀₁ p₀₂ p₀₃ c (leb-true 1 c (tests.both (eqb depth 24) _ m.0).1) (leb-true c 3 m.1))
    (λ x. subst⁻¹ (P 0) (eqb-true c 0 (tests.both (not (eqb depth 24)) _ x).1) p₀₀)))
    (λ mask.
    let k = tests.both (eqb b 1 || eqb b 2) _ mask in
    subst⁻¹ (P b) (eqb-true c 0 k.1)
    (either (eqb b 1) (eqb b 2) k.0
    (λ e. subst⁻¹ (λ (n : ℕ). P n 0) (eqb-true b 1 e) p₁₀)
    (λ e. subst⁻¹ (λ (n : ℕ). P n 0) (eqb-true b 2 e) p₂₀)))

one_code : (P : ℕ → ℕ → Type 0) (bitmap b c : ℕ) → P bitmap 0 → (eqb b bitmap && eqb c 0) ≡ true → P b c
one_code P bitmap b c p h =
    let k = tests.both (eqb b bitmap) _ h in
    subst⁻¹ (λ (n : ℕ). P n c) (eqb-true b bitmap k.0) (subst⁻¹ (P bitmap) (eqb-true c 0 k.1) p)

pub expected_ind :
    (P : Parent → ℕ → ℕ → Type 0) → P Layer 0 0 → P Layer 0 1 → P Layer 0 2 → P Layer 0 3 → P Layer 1 0 → P Layer 2 0 → P Selection 3 0 → P Alpha 4 0
    → (p : Parent) (depth b c : ℕ) → is_expected p depth b c ≡ true → P p b c
expected_ind P p₀₀ p₀₁ p₀₂ p₀₃ p₁₀ p₂₀ p₃₀ p₄₀ Layer depth b c h = layer_ind (P Layer) p₀₀ p₀₁ p₀₂ p₀₃ p₁₀ p₂₀ depth b c h
expected_ind P p₀₀ p₀₁ p₀₂ p₀₃ p₁₀ p₂₀ p₃₀ p₄₀ Selection depth b c h = one_code (P Selection) 3 b c p₃₀ h
expected_ind P p₀₀ p₀₁ p₀₂ p₀₃ p₁₀ p₂₀ p₃₀ p₄₀ Alpha depth b c h = one_code (P Alpha) 4 b c p₄₀ h
expected_ind P p₀₀ p₀₁ p₀₂ p₀₃ p₁₀ p₂₀ p₃₀ p₄₀ Main depth b c h = never h
expected_ind P p₀₀ p₀₁ p₀₂ p₀₃ p₁₀ p₂₀ p₃₀ p₄₀ Bank depth b c h = never h
expected_ind P p₀₀ p₀₁ p₀₂ p₀₃ p₁₀ p₂₀ p₃₀ p₄₀ AlphaBank depth b c h = never h

-- ### One code more

or-true : (t : Bool) → (t || true) ≡ true
or-true true = refl
or-true false = refl

joined : (a b a' b' : Bool) → (a ≡ true → a' ≡ true) → (b ≡ true → b' ≡ true) → (a || b) ≡ true → (a' || b') ≡ true
joined a b a' b' f g h = either a b h (λ e. one_of a' b' (inl (f e))) (λ e. one_of a' b' (inr (g e)))

still : (t a b : Bool) → (t && a) ≡ true → (t && (a || b)) ≡ true
still true a b h = one_of a b (inl h)
still false a b h = never h

-- a code that came stays
stays : (k : Codes) (b c x y : ℕ) → has_codes k x y ≡ true → has_codes (with_codes k b c) x y ≡ true
stays k b c x y =
    joined _ _ _ _
    (joined _ _ _ _
    (joined _ _ _ _
    (joined _ _ _ _
    (joined _ _ _ _
    (still (eqb x 0 && eqb y 0) k.composite _)
    (still (eqb x 0 && eqb y 1) k.red _))
    (still (eqb x 0 && eqb y 2) k.green _))
    (still (eqb x 0 && eqb y 3) k.blue _))
    (still (eqb x 1) k.transparency _))
    (still (eqb x 2) k.user _)

comes : (depth : ℕ) (k : Codes) (b c : ℕ) → is_of_layer depth b c ≡ true → has_codes (with_codes k b c) b c ≡ true
comes depth k b c =
    layer_ind (λ (x y : ℕ). has_codes (with_codes k x y) x y ≡ true)
    (simp or-true) (simp or-true) (simp or-true) (simp or-true) (simp or-true) (simp or-true) depth b c

-- ### The codes that have come, and what the rules remember

pub record Came (k : Codes) (codes : List Code) : Type 0 where
  pub has : All (λ (x : Code). has_codes k x.bitmap x.channel ≡ true) codes
  pub composite : k.composite ≡ true → Memᴰ (code 0 0) codes
  pub red : k.red ≡ true → Memᴰ (code 0 1) codes
  pub green : k.green ≡ true → Memᴰ (code 0 2) codes
  pub blue : k.blue ≡ true → Memᴰ (code 0 3) codes

came_none : Came no_codes []
came_none = record { has = empty; composite = λ h. never h; red = λ h. never h; green = λ h. never h; blue = λ h. never h }

-- a colour code is remembered, or it is the one that comes
colour_more :
    (n b c : ℕ) (t : Bool) {codes : List Code} → (t ≡ true → Memᴰ (code 0 n) codes)
    → (t || (eqb b 0 && eqb c n)) ≡ true → Memᴰ (code 0 n) (codes ++ code b c ∷ [])
colour_more n b c t {codes} had h =
    either t _ h (λ e. Memᴰ.append_left _ (had e))
    (λ e.
    let k = tests.both (eqb b 0) _ e in
    let x = eqb-true b 0 k.0 in
    let y = eqb-true c n k.1 in
    Memᴰ.append_right codes (Memᴰ.head (λ i. code (sym x i) (sym y i))))

came_more :
    (depth b c : ℕ) {k : Codes} {codes : List Code} → is_of_layer depth b c ≡ true → Came k codes
    → Came (with_codes k b c) (codes ++ code b c ∷ [])
came_more depth b c {k} expected h = record {
  has = all_more (all_map (λ x e. stays k b c x.bitmap x.channel e) h.has) (comes depth k b c expected);
  composite = colour_more 0 b c _ h.composite;
  red = colour_more 1 b c _ h.red;
  green = colour_more 2 b c _ h.green;
  blue = colour_more 3 b c _ h.blue;
}

-- what has not come is none of these codes
came_once :
    {k : Codes} {codes : List Code} (b c : ℕ) → Came k codes → has_codes k b c ≡ false → All (λ (y : Code). y ≡ code b c → ⊥) codes
came_once {k} b c h other =
    all_map
    (λ y has e. never (sym other ∙ sym (ap (λ (x : Code). has_codes k x.bitmap x.channel) e) ∙ has)) h.has

came_coloured :
    (depth : ℕ) {k : Codes} {codes : List Code} → Came k codes → has_colours k depth ≡ true
    → All (λ (x : Code). Memᴰ x codes) (needed Layer depth)
unfolding pick
came_coloured depth {k} {codes} h all = by (eqb depth 24) all
  where
    by :
        (t : Bool) → ((t && k.red && k.green && k.blue) || (not t && k.composite)) ≡ true
        → All (λ (x : Code). Memᴰ x codes) (pick t (code 0 1 ∷ code 0 2 ∷ code 0 3 ∷ []) (code 0 0 ∷ []))
    by true e =
        either (k.red && k.green && k.blue) false e
        (λ e.
        let p = tests.both (k.red && k.green) k.blue e in
        let q = tests.both k.red k.green p.0 in
        both (h.red q.0) (both (h.green q.1) (both (h.blue p.1) empty)))
        (λ z. never z)
    by false e = both (h.composite e) empty

-- ### By what holds the channels

-- only a layer's codes are remembered
abbrev pub CameIn : Parent → Codes → List Code → Type 0
CameIn Layer k codes = Came k codes
CameIn Selection k codes = Unit
CameIn Alpha k codes = Unit
CameIn Main k codes = Unit
CameIn Bank k codes = Unit
CameIn AlphaBank k codes = Unit

pub came_in_none : (p : Parent) → CameIn p no_codes []
came_in_none Layer = came_none
came_in_none Selection = tt
came_in_none Alpha = tt
came_in_none Main = tt
came_in_none Bank = tt
came_in_none AlphaBank = tt

pub came_in_more :
    (p : Parent) (depth b c : ℕ) (k : Codes) (codes : List Code) → is_expected p depth b c ≡ true → CameIn p k codes
    → CameIn p (with_codes k b c) (codes ++ code b c ∷ [])
came_in_more Layer depth b c k codes expected h = came_more depth b c expected h
came_in_more Selection depth b c k codes expected h = tt
came_in_more Alpha depth b c k codes expected h = tt
came_in_more Main depth b c k codes expected h = tt
came_in_more Bank depth b c k codes expected h = tt
came_in_more AlphaBank depth b c k codes expected h = tt

-- none comes twice: it is not remembered, or none has come at all
nothing_yet : {x : Code} (codes : List Code) → length codes ≡ 0 → All (λ (y : Code). y ≡ x → ⊥) codes
nothing_yet [] h = empty
nothing_yet (y ∷ codes) h = absurd (omega arith)

pub came_in_once :
    (p : Parent) (k : Codes) (codes : List Code) (b c : ℕ) → is_host p ≡ true → CameIn p k codes → has_codes k b c ≡ false
    → ((p ≡ Layer → ⊥) → length codes ≡ 0) → All (λ (y : Code). y ≡ code b c → ⊥) codes
came_in_once Layer k codes b c host h other none = came_once b c h other
came_in_once Selection k codes b c host h other none = nothing_yet codes (none (λ e. let z : ◌≡◌ {A = ℕ} 0 1 = cc in absurd (omega arith)))
came_in_once Alpha k codes b c host h other none = nothing_yet codes (none (λ e. let z : ◌≡◌ {A = ℕ} 0 1 = cc in absurd (omega arith)))
came_in_once Main k codes b c host h other none = never host
came_in_once Bank k codes b c host h other none = never host
came_in_once AlphaBank k codes b c host h other none = never host

-- all that is needed has come: of one channel, the one that is expected
only_one :
    {p : Parent} {depth : ℕ} (x : Code) (codes : List Code) → ((b c : ℕ) → is_expected p depth b c ≡ true → x ≡ code b c) → length codes ≡ 1
    → Along (Awaited p depth) [] codes → All (λ (y : Code). Memᴰ y codes) (x ∷ [])
only_one x [] only one each = absurd (omega arith)
only_one x (y ∷ []) only one (along_step q rest) = both (Memᴰ.head (only y.bitmap y.channel q.expected)) empty
only_one x (y ∷ (z ∷ codes)) only one each = absurd (omega arith)

pub came_in_all :
    (p : Parent) (depth : ℕ) (k : Codes) (codes : List Code) → is_host p ≡ true → CameIn p k codes → (p ≡ Layer → has_colours k depth ≡ true)
    → ((p ≡ Layer → ⊥) → length codes ≡ 1) → Along (Awaited p depth) [] codes → All (λ (x : Code). Memᴰ x codes) (needed p depth)
came_in_all Layer depth k codes host h coloured one each = came_coloured depth h (coloured refl)
came_in_all Selection depth k codes host h coloured one each =
    only_one (code 3 0) codes (λ b c. one_code (λ (x y : ℕ). code 3 0 ≡ code x y) 3 b c refl)
    (one (λ e. let z : ◌≡◌ {A = ℕ} 0 1 = cc in absurd (omega arith))) each
came_in_all Alpha depth k codes host h coloured one each =
    only_one (code 4 0) codes (λ b c. one_code (λ (x y : ℕ). code 4 0 ≡ code x y) 4 b c refl)
    (one (λ e. let z : ◌≡◌ {A = ℕ} 0 1 = cc in absurd (omega arith))) each
came_in_all Main depth k codes host h coloured one each = never host
came_in_all Bank depth k codes host h coloured one each = never host
came_in_all AlphaBank depth k codes host h coloured one each = never host
