-- Counting bytes up to a test, a number or the end: what the count says.
use mathlib.Core.Path.{◌≡◌, refl, sym, ap, ◌∙◌}
use mathlib.Core.Logic.{◌⊎◌, inl, inr}
use mathlib.Core.Bool.{Bool, true, false}
use mathlib.Core.List.{List, [], ◌∷◌}
use Prim.Native.Nat.{ℕ, zero, suc, ◌+◌, ◌<◌, ◌≤◌}
use native.Mathlib.Omega.{arith}
use lib.ListN.{length, drop}
use Rattle.packer.specs.Packing.{until}
use Rattle.laws.specs.Choice.{pick}
use Rattle.laws.proofs.Choice.{pick_yes, pick_no, pick_ind}

module _ (stop : List ℕ → Bool) where
  pub until_go : (most b : ℕ) (p : List ℕ) → stop (b ∷ p) ≡ false → until (suc most) stop (b ∷ p) ≡ suc (until most stop p)
  unfolding until
  until_go most b p h = pick_no _ _ _ h

  -- what ended a count: it is full, the bytes are at their end, or the test holds
  abbrev pub Ended : ℕ → List ℕ → ℕ → Type 0
  Ended most p n = (n ≡ most) ⊎ ((n ≡ length p) ⊎ (stop (drop n p) ≡ true))

  -- a count: the test holds at no byte that is counted
  pub record Count (most : ℕ) (p : List ℕ) (n : ℕ) : Type 0 where
    pub few : n ≤ most
    pub within : n ≤ length p
    pub clear : (k : ℕ) → k < n → stop (drop k p) ≡ false
    pub ended : Ended most p n

  ended_suc : (most b : ℕ) (p : List ℕ) (n : ℕ) → Ended most p n → Ended (suc most) (b ∷ p) (suc n)
  ended_suc most b p n (inl e) = inl (ap suc e)
  ended_suc most b p n (inr (inl e)) = inr (inl (ap suc e))
  ended_suc most b p n (inr (inr h)) = inr (inr h)

  clear_suc :
      (b : ℕ) (p : List ℕ) (n : ℕ) → stop (b ∷ p) ≡ false → ((k : ℕ) → k < n → stop (drop k p) ≡ false)
      → (k : ℕ) → k < suc n → stop (drop k (b ∷ p)) ≡ false
  clear_suc b p n h c zero less = h
  clear_suc b p n h c (suc k) less = c k (omega arith)

  pub count : (most : ℕ) (p : List ℕ) → Count most p (until most stop p)
  unfolding until
  count zero p = record { few = omega arith; within = omega arith; clear = λ k h. absurd (omega arith); ended = inl refl }
  count (suc most) [] = record { few = omega arith; within = omega arith; clear = λ k h. absurd (omega arith); ended = inr (inl refl) }
  count (suc most) (b ∷ p) =
      let c = count most p in
      pick_ind (Count (suc most) (b ∷ p)) _ _ _
      (λ h. record { few = omega arith; within = omega arith; clear = λ k less. absurd (omega arith); ended = inr (inr h) })
      (λ h. record {
        few = omega (arith, c.few);
        within = omega (arith, c.within);
        clear = clear_suc b p (until most stop p) h c.clear;
        ended = ended_suc most b p (until most stop p) c.ended;
      })

  -- any number of the length or more allows one count
  pub until_steady : (f g : ℕ) (p : List ℕ) → length p ≤ f → length p ≤ g → until f stop p ≡ until g stop p
  unfolding until
  until_steady zero zero p hf hg = refl
  until_steady zero (suc g) [] hf hg = refl
  until_steady zero (suc g) (b ∷ p) hf hg = absurd (omega arith)
  until_steady (suc f) zero [] hf hg = refl
  until_steady (suc f) zero (b ∷ p) hf hg = absurd (omega arith)
  until_steady (suc f) (suc g) [] hf hg = refl
  until_steady (suc f) (suc g) (b ∷ p) hf hg =
      ap (λ (n : ℕ). pick (stop (b ∷ p)) 0 (suc n)) (until_steady f g p (omega arith) (omega arith))

  -- the first byte decides, or the count goes on behind it
  pub until_none : (most : ℕ) (p : List ℕ) → stop p ≡ true → until most stop p ≡ 0
  unfolding until
  until_none zero p h = refl
  until_none (suc most) [] h = refl
  until_none (suc most) (b ∷ p) h = pick_yes _ _ _ h

  until_first : (p : List ℕ) → 0 < length p → stop p ≡ false → until (length p) stop p ≡ 1 + until (length (drop 1 p)) stop (drop 1 p)
  until_first [] some h = absurd (omega arith)
  until_first (b ∷ p) some h = let e = until_go (length p) b p h in omega arith

  pub until_on :
      (p : List ℕ) (n : ℕ) {l : List ℕ} → l ≡ drop 1 p → 0 < length p → stop p ≡ false → n ≡ until (length l) stop l → 1 + n ≡ until (length p) stop p
  until_on p n e some h counted =
      ap (λ (m : ℕ). 1 + m) (counted ∙ ap (λ (l : List ℕ). until (length l) stop l) e) ∙ sym (until_first p some h)
