-- Any order and grouping of a list of rectangles (document 02, request xi): a group has the pixels that each of its rectangles has, and these
-- are the same in any order.
use mathlib.Core.Path.{◌≡◌, refl, sym, ap, ap₂, ◌∙◌, subst}
use mathlib.Core.Bool.{Bool, true, ◌&&◌, and_comm, and_assoc, and-true}
use mathlib.Core.List.{List, [], ◌∷◌, ◌++◌, append_assoc, append-nil}
use mathlib.Core.List.Permᴰ
use lib.IntN.{ℤ}
use Rattle.rect.specs.declared.Rect.{Rect}
use Rattle.rect.specs.Shared.{has_pixel, shared_of}
use Rattle.rect.specs.Clipping.{Group, one, both, members, shared_by, in_turn, Rearranged, Picture, clipped_to, clipped_in_turn}
use Rattle.rect.proofs.Pixels.{shared_pixels}
use Rattle.rect.proofs.Corners.{same_pixels}
use Rattle.rect.proofs.Clipping.{shared_order, shared_settled, shared_seen}

-- ### Pixels

-- the pixel is in each of them
abbrev in_each : ℤ → ℤ → List Rect → Bool
in_each x y [] = true
in_each x y (r ∷ rs) = has_pixel r x y && in_each x y rs

in_each_two : (x y : ℤ) (rs ss : List Rect) → in_each x y (rs ++ ss) ≡ (in_each x y rs && in_each x y ss)
in_each_two x y [] ss = refl
in_each_two x y (r ∷ rs) ss = ap (λ (t : Bool). has_pixel r x y && t) (in_each_two x y rs ss) ∙ sym (and_assoc (has_pixel r x y) _ _)

pub group_pixels : (g : Group) (x y : ℤ) → has_pixel (shared_by g) x y ≡ in_each x y (members g)
group_pixels (one r) x y = sym (and-true (has_pixel r x y))
group_pixels (both g h) x y =
    shared_pixels (shared_by g) (shared_by h) x y
    ∙ ap₂ (λ (s t : Bool). s && t) (group_pixels g x y) (group_pixels h x y)
    ∙ sym (in_each_two x y (members g) (members h))

in_each_order : (x y : ℤ) {rs ss : List Rect} → Rearranged rs ss → in_each x y rs ≡ in_each x y ss
in_each_order x y Permᴰ.nil = refl
in_each_order x y (Permᴰ.cons e d) = ap₂ (λ (s t : Bool). s && t) (ap (λ (r : Rect). has_pixel r x y) e) (in_each_order x y d)
in_each_order x y (Permᴰ.swap {a} {b} {l = l} e f) =
    let p = has_pixel a x y in
    let q = has_pixel b x y in
    let t = in_each x y l in
    sym (and_assoc p q t) ∙ ap (λ (u : Bool). u && t) (and_comm p q) ∙ and_assoc q p t
    ∙ ap₂ (λ (r s : Rect). has_pixel r x y && (has_pixel s x y && t)) f e
in_each_order x y (Permᴰ.trans d e) = in_each_order x y d ∙ in_each_order x y e

-- ### A list of one is itself in any order, and a group of two has more than one

abbrev Alone : Rect → List Rect → Type 0
Alone r [] = ⊥
Alone r (s ∷ []) = r ≡ s
Alone r (s ∷ t ∷ more) = ⊥

abbrev Some : List Rect → Type 0
Some [] = ⊥
Some (r ∷ rs) = Unit {0}

none_left : {rs : List Rect} → Rearranged [] rs → Some rs → ⊥
none_left Permᴰ.nil h = h
none_left (Permᴰ.trans {l₂ = []} d e) h = none_left e h
none_left (Permᴰ.trans {l₂ = r ∷ rs} d e) h = none_left d tt

alone : (r : Rect) {rs ss : List Rect} → Rearranged rs ss → Alone r rs → Alone r ss
alone r Permᴰ.nil h = h
alone r (Permᴰ.cons {l₁ = []} {l₂ = []} e d) h = h ∙ e
alone r (Permᴰ.cons {l₁ = []} {l₂ = s ∷ ss} e d) h = none_left d tt
alone r (Permᴰ.cons {l₁ = s ∷ ss} e d) h = absurd h
alone r (Permᴰ.swap e f) h = h
alone r (Permᴰ.trans d e) h = alone r e (alone r d h)

some_two : (rs ss : List Rect) → Some rs → Some (rs ++ ss)
some_two [] ss h = absurd h
some_two (r ∷ rs) ss h = tt

some_members : (g : Group) → Some (members g)
some_members (one r) = tt
some_members (both g h) = some_two (members g) (members h) (some_members g)

not_alone : (r : Rect) (rs ss : List Rect) → Some rs → Some ss → Alone r (rs ++ ss) → ⊥
not_alone r [] ss p q h = p
not_alone r (s ∷ []) [] p q h = q
not_alone r (s ∷ []) (t ∷ ts) p q h = h
not_alone r (s ∷ t ∷ rs) ss p q h = h

-- ### Groups

pub shared_any_order : (g h : Group) → Rearranged (members g) (members h) → shared_by g ≡ shared_by h
shared_any_order (one r) (one s) d = alone r d refl
shared_any_order (one r) (both g h) d =
    absurd (not_alone r (members g) (members h) (some_members g) (some_members h) (alone r d refl))
shared_any_order (both g h) (one r) d =
    absurd (not_alone r (members g) (members h) (some_members g) (some_members h) (alone r (Permᴰ.symm d) refl))
shared_any_order (both g h) (both i j) d =
    same_pixels _ _ (shared_settled (shared_by g) (shared_by h)) (shared_settled (shared_by i) (shared_by j))
    (λ x y. group_pixels (both g h) x y ∙ in_each_order x y d ∙ sym (group_pixels (both i j) x y))

-- ### One after another

-- the group of it
turns : Group → List Rect → Group
turns g [] = g
turns g (s ∷ ss) = turns (both g (one s)) ss

turns_members : (g : Group) (ss : List Rect) → members (turns g ss) ≡ (members g ++ ss)
unfolding turns
turns_members g [] = sym (append-nil (members g))
turns_members g (s ∷ ss) = turns_members (both g (one s)) ss ∙ append_assoc (members g) (s ∷ []) ss

turns_shared : (g : Group) (ss : List Rect) → shared_by (turns g ss) ≡ in_turn (shared_by g) ss
unfolding turns
turns_shared g [] = refl
turns_shared g (s ∷ ss) = turns_shared (both g (one s)) ss

pub shared_in_turn : (g : Group) (r : Rect) (rs : List Rect) → Rearranged (members g) (r ∷ rs) → shared_by g ≡ in_turn r rs
shared_in_turn g r rs d =
    shared_any_order g (turns (one r) rs) (subst (Rearranged (members g)) (sym (turns_members (one r) rs)) d) ∙ turns_shared (one r) rs

-- ### Pictures

pub seen_in_turn :
    (r : Rect) (rs : List Rect) (under picture : Picture) → clipped_in_turn (r ∷ rs) under picture ≡ clipped_to (in_turn r rs) under picture
seen_in_turn r [] under picture = refl
seen_in_turn r (s ∷ ss) under picture =
    ap (clipped_in_turn ss under) (shared_seen r s under picture) ∙ seen_in_turn (shared_of r s) ss under picture

pub seen_any_order :
    {rs ss : List Rect} → Rearranged rs ss → (under picture : Picture) → clipped_in_turn rs under picture ≡ clipped_in_turn ss under picture
seen_any_order Permᴰ.nil under picture = refl
seen_any_order (Permᴰ.cons {a} {l₂ = l} e d) under picture =
    seen_any_order d under (clipped_to a under picture) ∙ ap (λ (r : Rect). clipped_in_turn l under (clipped_to r under picture)) e
seen_any_order (Permᴰ.swap {a} {b} {l = l} e f) under picture =
    ap (clipped_in_turn l under)
    (shared_seen a b under picture
    ∙ ap (λ (r : Rect). clipped_to r under picture) (shared_order a b)
    ∙ sym (shared_seen b a under picture))
    ∙ ap₂ (λ (r s : Rect). clipped_in_turn l under (clipped_to s under (clipped_to r under picture))) f e
seen_any_order (Permᴰ.trans d e) under picture = seen_any_order d under picture ∙ seen_any_order e under picture
