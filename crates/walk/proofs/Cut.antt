-- The table has room for some entries only: what is known of a listing cut to a room, by its first entry, of what has room, with a larger
-- room, and with more behind it.
use mathlib.Core.Path.{◌≡◌, refl, sym, ap, ap₂, subst, ◌∙◌}
use mathlib.Core.List.{List, [], ◌∷◌, ◌++◌, append-nil}
use Prim.Native.Nat.{ℕ, zero, suc, ◌≤◌}
use native.Mathlib.Omega.{arith}
use lib.ListN.{length, take, drop, length-take, length-drop, take-append-drop, drop_of_length-le}
use lib.Seq.{take_all, take-nil, drop-nil, take_at, drop_at}
use Rattle.std.specs.Prelude.{Err}
use Rattle.answer.specs.Answers.{Answer, Accepted}
use Rattle.answer.specs.declared.Stopped.TheVariants.{TableFull}
use Rattle.answer.proofs.Names.{not_accepted}
use Rattle.entry.specs.declared.Entry.{Entry}
use Rattle.walk.specs.Walk.{Listing, ended, ◌◂◌}
use Rattle.walk.proofs.Continued.{◌⧺◌}
use Rattle.walk.specs.Room.{Listed, closed, cut}
use Rattle.walk.specs.Promised.{Full}

-- ### Of a list that was split at the room

abbrev pub plain : Answer → ℕ → List Entry → Listed
plain a p es = record { answer = a; place = p; entries = es }

abbrev pub first : Entry → Listed → Listed
first e r = record { answer = r.answer; place = r.place; entries = e ∷ r.entries }

closed_entries : (a : Answer) (p : ℕ) (fit more : List Entry) → (closed a p fit more).entries ≡ fit
unfolding closed
closed_entries a p fit [] = refl
closed_entries a p fit (e ∷ more) = refl

closed_first : (a : Answer) (p : ℕ) (e : Entry) (fit more : List Entry) → closed a p (e ∷ fit) more ≡ first e (closed a p fit more)
unfolding closed
closed_first a p e fit [] = refl
closed_first a p e fit (x ∷ more) = refl

-- what follows a list that has no room for itself does not count
closed_over :
    (a : Answer) (p : ℕ) (a' : Answer) (p' room : ℕ) (es ys : List Entry) → (drop room es ≡ [] → ⊥)
    → closed a p (take room (es ++ ys)) (drop room (es ++ ys)) ≡ closed a' p' (take room es) (drop room es)
unfolding closed
closed_over a p a' p' room [] ys h = absurd (h (drop-nil room))
closed_over a p a' p' zero (e ∷ es) ys h = refl
closed_over a p a' p' (suc room) (e ∷ es) ys h =
    closed_first a p e _ (drop room (es ++ ys)) ∙ ap (first e) (closed_over a p a' p' room es ys h) ∙ sym (closed_first a' p' e _ (drop room es))

closed_all : (a : Answer) (p : ℕ) (fit more : List Entry) → ((closed a p fit more).answer ≡ Err TableFull → ⊥) → more ≡ []
unfolding closed
closed_all a p fit [] h = refl
closed_all a p fit (e ∷ more) h = absurd (h refl)

closed_case :
    (P : Listed → Type 0) (a : Answer) (p : ℕ) (fit more : List Entry)
    → (more ≡ [] → P (plain a p fit)) → ((e : Entry) (rest : List Entry) → more ≡ e ∷ rest → P (plain (Err TableFull) e.block.place fit))
    → P (closed a p fit more)
unfolding closed
closed_case P a p fit [] all full = all refl
closed_case P a p fit (e ∷ more) all full = full e more refl

module _ {S : Type 0} where
  -- ### By the first entry

  pub cut_ended : (room : ℕ) (a : Answer) (p : ℕ) (st : S) → cut room (ended a p st) ≡ plain a p []
  unfolding cut closed
  cut_ended room a p st = ap₂ (closed a p) (take-nil room) (drop-nil room)

  pub cut_first : (room : ℕ) (e : Entry) (w : Listing S) → cut (suc room) (e ◂ w) ≡ first e (cut room w)
  unfolding cut
  cut_first room e w = closed_first _ _ e _ (drop room w.entries)

  pub cut_full : (e : Entry) (w : Listing S) → cut 0 (e ◂ w) ≡ plain (Err TableFull) e.block.place []
  unfolding cut closed
  cut_full e w = refl

  -- ### What has room

  pub cut_entries : (room : ℕ) (w : Listing S) → (cut room w).entries ≡ take room w.entries
  unfolding cut
  cut_entries room w = closed_entries _ _ _ (drop room w.entries)

  pub cut_room : (room : ℕ) (w : Listing S) → length (cut room w).entries ≤ room
  cut_room room w = omega (arith, ap length (cut_entries room w), length-take room w.entries)

  pub cut_fits : (room : ℕ) (w : Listing S) → length w.entries ≤ room → cut room w ≡ plain w.answer w.place w.entries
  unfolding cut closed
  cut_fits room w h = ap₂ (closed w.answer w.place) (take_all room w.entries h) (drop_of_length-le w.entries h)

  -- an answer that is not "table full" had room
  pub cut_had_room : (room : ℕ) (w : Listing S) → ((cut room w).answer ≡ Err TableFull → ⊥) → length w.entries ≤ room
  unfolding cut
  cut_had_room room w h =
      omega (arith, sym (length-drop room w.entries) ∙ ap length (closed_all _ _ _ (drop room w.entries) h))

  -- and so had one that is accepted
  pub cut_whole : (room : ℕ) (w : Listing S) → (cut room w).answer ≡ Accepted → cut room w ≡ plain w.answer w.place w.entries
  cut_whole room w h = cut_fits room w (cut_had_room room w (λ z. not_accepted refl (sym z ∙ h)))

  -- a listing that is cut is the whole listing, or full
  pub cut_case :
      (P : Listed → Type 0) (room : ℕ) (w : Listing S)
      → (length w.entries ≤ room → P (plain w.answer w.place w.entries)) → ((r : Listed) → r.answer ≡ Err TableFull → Full w.entries room r → P r) → P (cut room w)
  unfolding cut
  cut_case P room w all full =
      let es = w.entries in
      let split : es ≡ take room es ++ drop room es = sym (take-append-drop room es) in
      closed_case P w.answer w.place (take room es) (drop room es)
      (λ z. subst (λ (l : List Entry). P (plain w.answer w.place l)) (split ∙ ap (λ (l : List Entry). take room es ++ l) z ∙ append-nil (take room es))
      (all (omega (arith, sym (length-drop room es) ∙ ap length z))))
      (λ e more z. full _ refl (record {
        first = e;
        more = more;
        is = split ∙ ap (λ (l : List Entry). take room es ++ l) z;
        count = omega (arith, length-take room es, sym (length-drop room es) ∙ ap length z);
        place = refl;
      }))

  pub cut_table_full :
      (room : ℕ) (w : Listing S) → (w.answer ≡ Err TableFull → ⊥) → (cut room w).answer ≡ Err TableFull → Full w.entries room (cut room w)
  cut_table_full room w own =
      cut_case (λ (r : Listed). r.answer ≡ Err TableFull → Full w.entries room r) room w (λ _ z. absurd (own z)) (λ r _ f _. f)

  -- ### With a larger room

  pub cut_larger : (room more : ℕ) (w : Listing S) → room ≤ more → ((cut room w).answer ≡ Err TableFull → ⊥) → cut room w ≡ cut more w
  cut_larger room more w le h =
      let fits = cut_had_room room w h in cut_fits room w fits ∙ sym (cut_fits more w (omega arith))

  -- ### With more behind it

  -- where one entry more has no room, it is full there
  pub cut_seam : (room : ℕ) (es : List Entry) (e : Entry) (w : Listing S) → length es ≡ room → cut room (es ⧺ (e ◂ w)) ≡ plain (Err TableFull) e.block.place es
  unfolding cut closed
  cut_seam room es e w count =
      ap₂ (closed w.answer w.place) (take_at es (e ∷ w.entries) room count) (drop_at es (e ∷ w.entries) room count)

  pub cut_over : (room : ℕ) (w more : Listing S) → ((cut room w).answer ≡ w.answer → ⊥) → cut room (w.entries ⧺ more) ≡ cut room w
  unfolding cut closed
  cut_over room w more h =
      closed_over _ _ _ _ room w.entries more.entries
      (λ z. h (ap (λ l. (closed w.answer w.place (take room w.entries) l).answer) z))
