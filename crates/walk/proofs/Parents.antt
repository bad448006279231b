-- What an entry holds, looked back at and looked on at, is one: so what is checked of each parent where its inside ends, while the list
-- grows, holds of each entry of the list with what it holds.
use mathlib.Core.Path.{◌≡◌, refl, ap, subst, subst⁻¹, ◌∙◌}
use mathlib.Core.Logic.{⊎_elim}
use mathlib.Core.List.{List, [], ◌∷◌, ◌++◌, append-nil}
use Prim.Native.Nat.{ℕ, suc, ◌+◌, ◌≤◌, ◌<◌}
use native.Mathlib.Omega.{arith}
use borrow.Author.Tests.{leb-true, leb-false, eqb-true, eqb-false, eq-eqb, ne_eqb}
use lib.ListN.{length, take, drop, get_or, length-drop, take-append-drop}
use lib.Seq.{append_snoc, take-suc, take-add, get_or-drop}
use Rattle.laws.proofs.Choice.{pick_yes, pick_no, pick_ind}
use Rattle.laws.proofs.Tests.{less_or_not}
use Rattle.entry.specs.declared.Entry.{Entry}
use Rattle.entry.proofs.Keep.{keep_more}
use Rattle.walk.specs.Parents.{nothing, holds, holding, next, holder, held, Of}

-- ### One entry more

module _ (level : ℕ) (es : List Entry) (e : Entry) where
  pub holder_more : holder level (es ++ e ∷ []) ≡ next level (holder level es) e
  holder_more = keep_more (next level) es e nothing 0

  -- one of that level holds from here on, and nothing yet
  pub holder_new : e.block.level ≡ level → holder level (es ++ e ∷ []) ≡ holds e []
  unfolding next
  holder_new h = holder_more ∙ pick_yes _ _ _ (eq-eqb e.block.level level h)

  -- one a level below is held
  pub holder_held : e.block.level ≡ suc level → holder level (es ++ e ∷ []) ≡ holding (holder level es) e
  unfolding next
  holder_held h =
      holder_more ∙ pick_no _ _ _ (ne_eqb e.block.level level (λ z. omega arith)) ∙ pick_yes _ _ _ (eq-eqb e.block.level (suc level) h)

  -- any other is not
  pub holder_same : (e.block.level ≡ level → ⊥) → (e.block.level ≡ suc level → ⊥) → holder level (es ++ e ∷ []) ≡ holder level es
  unfolding next
  holder_same h h' =
      holder_more ∙ pick_no _ _ _ (ne_eqb e.block.level level h) ∙ pick_no _ _ _ (ne_eqb e.block.level (suc level) h')

-- ### Each with what it holds

module _ (F : Entry → List Entry → Type 0) where
  -- where the holder of a level is right before each further entry that is not deeper, and at the end, it is right with what it still gets
  closes :
      (level : ℕ) (rest before : List Entry) (p : Entry) (got : List Entry) → holder level before ≡ holds p got
      → ((j : ℕ) (d : Entry) → j < length rest → (get_or rest j d).block.level ≤ level → Of F (holder level (before ++ take j rest)))
      → Of F (holder level (before ++ rest)) → F p (got ++ held level rest)
  unfolding held holding
  closes level [] before p got is each end =
      subst⁻¹ (F p) (append-nil got) (subst (Of F) (ap (holder level) (append-nil before) ∙ is) end)
  closes level (e ∷ rest) before p got is each end =
      let each' : (j : ℕ) (d : Entry) → j < length rest → (get_or rest j d).block.level ≤ level → Of F (holder level ((before ++ e ∷ []) ++ take j rest)) =
      λ j d h z. subst⁻¹ (λ (l : List Entry). Of F (holder level l)) (append_snoc before e (take j rest)) (each (suc j) d (omega arith) z) in
      let end' : Of F (holder level ((before ++ e ∷ []) ++ rest)) = subst⁻¹ (λ (l : List Entry). Of F (holder level l)) (append_snoc before e rest) end in
      let P : List Entry → Type 0 = λ l. F p (got ++ l) in
      pick_ind P _ _ _
      (λ z.
      subst⁻¹ (F p) (append-nil got)
      (subst (Of F) (ap (holder level) (append-nil before) ∙ is) (each 0 e (omega arith) (leb-true e.block.level level z))))
      (λ deeper. pick_ind P _ _ _
      (λ z.
      subst (F p) (append_snoc got e (held level rest))
      (closes level rest (before ++ e ∷ []) p (got ++ e ∷ [])
      (holder_held level before e (eqb-true e.block.level (suc level) z) ∙ ap (λ h. holding h e) is) each' end'))
      (λ z.
      closes level rest (before ++ e ∷ []) p got
      (holder_same level before e (λ y. omega (arith, leb-false e.block.level level deeper)) (eqb-false e.block.level (suc level) z) ∙ is)
      each' end'))

  -- where every holder is right whenever an entry of its level or above comes, and at the end, each entry is right with what it holds
  pub each_holds :
      (es : List Entry)
      → ((j : ℕ) (d : Entry) → j < length es → (l : ℕ) → (get_or es j d).block.level ≤ l → Of F (holder l (take j es)))
      → ((l : ℕ) → Of F (holder l es))
      → (k : ℕ) (d : Entry) → k < length es → F (get_or es k d) (held (get_or es k d).block.level (drop (suc k) es))
  each_holds es each end k d h =
      let level = (get_or es k d).block.level in
      closes level (drop (suc k) es) (take (suc k) es) (get_or es k d) []
      (ap (holder level) (take-suc es k d h) ∙ holder_new level (take k es) (get_or es k d) refl)
      (λ j d' low y.
      subst (λ (l : List Entry). Of F (holder level l)) (take-add (suc k) j es)
      (each (suc k + j) d' (omega (arith, length-drop (suc k) es)) level
      (subst (λ (x : Entry). x.block.level ≤ level) (get_or-drop (suc k) es j d') y)))
      (subst⁻¹ (λ (l : List Entry). Of F (holder level l)) (take-append-drop (suc k) es) (end level))

-- ### While the list grows

module _ (F : Entry → List Entry → Type 0) (level : ℕ) (es : List Entry) (e : Entry) (here : e.block.level ≡ level)
    (closed : (l : ℕ) → level ≤ l → Of F (holder l es)) where
  -- an entry whose inside is entered: what lies deeper is as it was
  pub closed_inside : (l : ℕ) → suc level ≤ l → Of F (holder l (es ++ e ∷ []))
  closed_inside l low =
      subst⁻¹ (Of F) (holder_same l es e (λ z. absurd (omega arith)) (λ z. absurd (omega arith))) (closed l (omega arith))

  -- an entry that is right with nothing held
  pub closed_more : F e [] → (l : ℕ) → level ≤ l → Of F (holder l (es ++ e ∷ []))
  closed_more none l low = ⊎_elim (λ deeper. closed_inside l deeper) (λ same. subst⁻¹ (Of F) (holder_new l es e (omega arith)) none) (less_or_not level l)
