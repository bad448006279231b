-- The walk notes entry by entry what a view asked of all of them: here is why that is the same, and that no more is found than was listed,
-- so that the code's count cannot overflow.
use mathlib.Core.Path.{◌≡◌, refl, sym, ap, ◌∙◌}
use mathlib.Core.Bool.{false}
use mathlib.Core.List.{List, [], ◌∷◌, ◌++◌, append-nil, append_assoc}
use Prim.Native.Nat.{ℕ, zero, suc, ◌+◌, ◌-◌, ◌≤◌}
use native.Mathlib.Omega.{arith}
use lib.Dec.{eqb, eqb-zero-suc, eqb-suc-zero, eqb-suc-suc}
use lib.ListN.{length, get_or, length-append}
use Rattle.laws.specs.Choice.{pick}
use Rattle.laws.specs.Lists.{filter}
use Rattle.laws.specs.All.{All, empty, both}
use Rattle.laws.proofs.Choice.{pick_yes, pick_no, pick_ind}
use Rattle.laws.proofs.Filter.{filter_more, filter_same}
use Rattle.answer.specs.declared.Outcome.{Outcome}
use Rattle.entry.specs.declared.Entry.{Entry}
use Rattle.entry.specs.Entry.{nowhere, stored, keep, write}
use Rattle.walk.specs.Walk.{Listing}
use Rattle.walk.specs.Room.{cut, Walked}
use Rattle.walk.proofs.KeptAlong.{walked_along}
use Rattle.memory.specs.declared.state.State.{State}
use Rattle.listing.specs.declared.question.Question.{Question}
use Rattle.listing.specs.declared.question.Found.{Found}
use Rattle.listing.specs.Question.{is_asked, found_in, nothing, noted, Kept, kept, put}

-- an element of a list with one more behind it: that one, or an element of the list
get_d_more : {A : Type 0} (xs : List A) (x d : A) (i : ℕ) → get_or (xs ++ x ∷ []) i d ≡ pick (eqb (length xs) i) x (get_or xs i d)
get_d_more [] x d zero = sym (pick_yes _ _ _ refl)
get_d_more [] x d (suc i) = sym (pick_no _ _ _ (eqb-zero-suc i))
get_d_more (y ∷ xs) x d zero = sym (pick_no _ _ _ (eqb-suc-zero (length xs)))
get_d_more (y ∷ xs) x d (suc i) = rw (eqb-suc-suc (length xs) i) (get_d_more xs x d i)

module _ (q : Question) where
  abbrev note : Found → ℕ → Entry → Found
  note x i e = noted q x e

  -- ### What is found

  one_more : (seen : List Entry) (e : Entry) → noted q (found_in q seen) e ≡ found_in q (seen ++ e ∷ [])
  unfolding noted found_in
  one_more seen e =
      pick_ind (λ (x : Found). x ≡ found_in q (seen ++ e ∷ [])) (is_asked q e) _ _
      (λ yes. rw (filter_more (is_asked q) seen e yes, length-append, get_d_more (filter (is_asked q) seen) e nowhere q.index))
      (λ no. rw (filter_same (is_asked q) seen e no))

  all_more : (es seen : List Entry) (i : ℕ) → keep note (found_in q seen) i es ≡ found_in q (seen ++ es)
  unfolding keep
  all_more [] seen i = rw append-nil
  all_more (e ∷ es) seen i = rw (one_more seen e, all_more es (seen ++ e ∷ []) (i + 1), append_assoc)

  pub noted_all : (es : List Entry) → keep note nothing 0 es ≡ found_in q es
  unfolding found_in filter
  noted_all es = all_more es [] 0

  -- ### Entries that are not asked about

  pub unasked_kept : {es : List Entry} → All (λ (e : Entry). is_asked q e ≡ false) es → (t : List ℕ) (x : Found) (i : ℕ) → keep (put q) (kept t x) i es ≡ kept (write t i es) x
  unfolding keep noted
  unasked_kept empty t x i = refl
  unasked_kept (both {x = e} {xs} other more) t x i =
      ap (λ (y : Found). keep (put q) (kept (stored t i e) y) (i + 1) xs) (pick_no _ _ _ other) ∙ unasked_kept more (stored t i e) x (i + 1)

  -- behind one that may be
  pub first_kept :
      {es : List Entry} → All (λ (e : Entry). is_asked q e ≡ false) es → (e : Entry) (t : List ℕ) (x : Found) (i : ℕ)
      → keep (put q) (kept t x) i (e ∷ es) ≡ kept (write t i (e ∷ es)) (noted q x e)
  unfolding keep
  first_kept unasked e t x i = unasked_kept unasked (stored t i e) (noted q x e) (i + 1)

  -- ### No more than were listed

  pub noted_few : (x : Found) (e : Entry) → (noted q x e).count ≤ x.count + 1
  unfolding noted
  noted_few x e = pick_ind (λ (y : Found). y.count ≤ x.count + 1) (is_asked q e) _ _ (λ _. omega arith) (λ _. omega arith)

  pub one_few : (x : Found) (e : Entry) (n : ℕ) {y : Found} → y ≡ noted q x e → x.count ≤ n → y.count ≤ n + 1
  one_few x e n is few = omega (arith, ap (λ (z : Found). z.count) is, noted_few x e)

  pub kept_few : (es : List Entry) (x : Found) (i : ℕ) → (keep note x i es).count ≤ x.count + length es
  unfolding keep
  kept_few [] x i = omega arith
  kept_few (e ∷ es) x i = omega (arith, kept_few es (noted q x e) (i + 1), noted_few x e)

  -- and so after a walk
  pub walked_few :
      (w : Listing State) (room from : ℕ) (t : List ℕ) (x : Found) (r : Outcome) (state : State) (after : List ℕ) (y : Found)
      → x.count ≤ from → Walked (put q) w room from (kept t x) r state (kept after y) → y.count ≤ r.count
  walked_few w room from t x r state after y few m =
      let alone = walked_along (put q) note (λ (k : Kept). k.found) (λ k i e. refl) w room from (kept t x) r state (kept after y) m in
      omega (arith, m.count, ap (λ (z : Found). z.count) alone.kept, kept_few (cut (room - from) w).entries x from)
