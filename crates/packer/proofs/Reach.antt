-- How far a test holds nowhere, by places of a plane: what a count says there, and how reaches are joined.
use mathlib.Core.Path.{◌≡◌, refl, sym, ap, subst, ◌∙◌}
use mathlib.Core.Logic.{◌⊎◌, inl, inr, ⊎_elim}
use mathlib.Core.Bool.{Bool, true, false}
use mathlib.Core.List.{List}
use Prim.Native.Nat.{ℕ, ◌+◌, ◌-◌, ◌<◌, ◌≤◌, min}
use native.Mathlib.Nat.{zero-add}
use native.Mathlib.Omega.{arith}
use lib.ListN.{length, drop, length-drop}
use lib.Seq.{drop-drop}
use Rattle.laws.proofs.Tests.{never, less_or_not}
use Rattle.packer.specs.Packing.{until}
use Rattle.packer.proofs.Until.{count, until_steady}

module _ (stop : List ℕ → Bool) (p : List ℕ) where
  -- the test holds at no place from `at` on and before `to`
  abbrev pub Clear : ℕ → ℕ → Type 0
  Clear at to = (k : ℕ) → at ≤ k → k < to → stop (drop k p) ≡ false

  pub clear_none : (at : ℕ) → Clear at at
  clear_none at k above below = absurd (omega arith)

  pub clear_front : (to : ℕ) → ((k : ℕ) → k < to → stop (drop k p) ≡ false) → Clear 0 to
  clear_front to c k above below = c k below

  pub clear_join : (at mid to : ℕ) → Clear at mid → Clear mid to → Clear at to
  clear_join at mid to c d k above below = ⊎_elim (λ h. c k above h) (λ h. d k h below) (less_or_not k mid)

  -- at the front of what is left from a place on
  pub clear_rest : (at n : ℕ) {l : List ℕ} → l ≡ drop at p → ((k : ℕ) → k < n → stop (drop k l) ≡ false) → Clear at (at + n)
  clear_rest at n e c k above below =
      let there : at + (k - at) ≡ k = omega arith in
      ap (λ (i : ℕ). stop (drop i p)) (sym there)
      ∙ ap stop (sym (drop-drop (k - at) at p))
      ∙ ap (λ (l : List ℕ). stop (drop (k - at) l)) (sym e)
      ∙ c (k - at) (omega arith)

  pub clear_one : (at to next : ℕ) → next ≡ to + 1 → Clear at to → stop (drop to p) ≡ false → Clear at next
  clear_one at to next e c h =
      clear_join at to next c (λ k above below. let here : to ≡ k = omega arith in ap (λ (i : ℕ). stop (drop i p)) (sym here) ∙ h)

  -- from `at` on the test holds first at `to`, or so many bytes are gone by, or all
  pub record Reach (most at to : ℕ) : Type 0 where
    pub above : at ≤ to
    pub few : to ≤ at + most
    pub within : to ≤ length p
    pub clear : Clear at to
    pub ended : (to ≡ at + most) ⊎ ((to ≡ length p) ⊎ (stop (drop to p) ≡ true))

  module _ (most at : ℕ) where
    not_below : (a b : ℕ) → Reach most at a → Reach most at b → a < b → ⊥
    not_below a b r s h =
        ⊎_elim (λ e. omega (arith, s.few)) (⊎_elim (λ e. omega (arith, s.within)) (λ t. never (sym (s.clear a r.above h) ∙ t))) r.ended

    reach_one : (a b : ℕ) → Reach most at a → Reach most at b → a ≡ b
    reach_one a b r s =
        ⊎_elim (λ h. absurd (not_below a b r s h)) (λ h. ⊎_elim (λ k. absurd (not_below b a s r k)) (λ k. omega arith) (less_or_not b a)) (less_or_not a b)

    -- what a count says, at its place
    pub reach : at ≤ length p → Reach most at (at + until most stop (drop at p))
    reach h =
        let n = until most stop (drop at p) in
        let c = count stop most (drop at p) in
        let len : length (drop at p) ≡ length p - at = length-drop at p in
        record {
          above = omega arith;
          few = omega (arith, c.few);
          within = omega (arith, c.within);
          clear = clear_rest at n refl c.clear;
          ended =
              ⊎_elim (λ e. inl (ap (λ (m : ℕ). at + m) e))
              (⊎_elim (λ e. inr (inl (omega arith))) (λ t. inr (inr (ap stop (sym (drop-drop n at p)) ∙ t)))) c.ended;
        }

    pub reached : (to : ℕ) → Reach most at to → to ≡ at + until most stop (drop at p)
    reached to r = reach_one to (at + until most stop (drop at p)) r (reach (omega (arith, r.above, r.within)))

  -- a reach that only the test or the end of the plane can stop
  abbrev pub Whole : ℕ → ℕ → Type 0
  Whole = Reach (length p)

  pub whole :
      (at to : ℕ) → at ≤ to → to ≤ length p → Clear at to → (to ≡ length p) ⊎ (stop (drop to p) ≡ true) → Whole at to
  whole at to above within clear ended =
      record { above = above; few = omega arith; within = within; clear = clear; ended = inr ended }

  -- from the front of the plane on
  pub reach_front : Whole 0 (until (length p) stop p)
  reach_front = subst (Whole 0) (zero-add (until (length p) stop p)) (reach (length p) 0 (omega arith))

  pub reached_front : (to : ℕ) → Whole 0 to → to ≡ until (length p) stop p
  reached_front to r = reached (length p) 0 to r ∙ zero-add (until (length p) stop p)

  pub counted_within : (n : ℕ) → n ≡ until (length p) stop p → n ≤ length p
  counted_within n e = omega (arith, reach_front.within)

  -- from the front of what is left on
  pub reach_rest : (at n : ℕ) → at ≤ length p → n ≡ until (length (drop at p)) stop (drop at p) → Whole at (at + n)
  reach_rest at n h e =
      subst (λ (m : ℕ). Whole at (at + m))
      (sym (e ∙ until_steady stop (length (drop at p)) (length p) (drop at p) (omega arith) (simp length-drop (omega arith))))
      (reach (length p) at h)

  module _ (at to : ℕ) (r : Whole at to) where
    pub whole_ended : (to ≡ length p) ⊎ (stop (drop to p) ≡ true)
    whole_ended = ⊎_elim (λ e. inl (omega (arith, r.within))) (λ e. e) r.ended

    -- from an earlier place
    pub whole_before : (before : ℕ) → before ≤ at → Clear before at → Whole before to
    whole_before before h c = whole before to (omega (arith, r.above)) r.within (clear_join before at to c r.clear) whole_ended

    -- from a later place
    pub whole_behind : (later : ℕ) → at ≤ later → later ≤ to → Whole later to
    whole_behind later h k = whole later to k r.within (λ i above below. r.clear i (omega arith) below) whole_ended

    -- how many bytes it goes by
    pub whole_count : until (length p) stop (drop at p) ≡ to - at
    whole_count = let e = reached (length p) at to r in omega arith

  -- a count that goes on behind a place
  pub counted_on :
      (at n : ℕ) {l : List ℕ} → at ≤ length p → Clear 0 at → l ≡ drop at p → n ≡ until (length l) stop l → at + n ≡ until (length p) stop p
  counted_on at n h clear e counted =
      reached_front (at + n)
      (whole_before at (at + n) (reach_rest at n h (counted ∙ ap (λ (l : List ℕ). until (length l) stop l) e)) 0 (omega arith) clear)

  -- and how many of them up to 127
  pub most_count : (to n : ℕ) → Whole 0 to → n ≡ min to 127 → n ≡ until 127 stop p
  most_count to n r e =
      let up_to : Reach 127 0 n = record {
        above = omega arith;
        few = omega arith;
        within = omega (arith, r.within);
        clear = λ k above below. r.clear k above (omega arith);
        ended =
            ⊎_elim (λ h. let here : to ≡ n = omega arith in subst (λ (i : ℕ). (i ≡ 0 + 127) ⊎ ((i ≡ length p) ⊎ (stop (drop i p) ≡ true))) here (inr (whole_ended 0 to r)))
            (λ h. inl (omega arith)) (less_or_not to 127);
      } in
      reached 127 0 n up_to ∙ zero-add (until 127 stop p)

  -- what a loop has left is behind places where the test does not hold
  pub record Behind (left : List ℕ) : Type 0 where
    pub few : length left ≤ length p
    pub there : left ≡ drop (length p - length left) p
    pub clear : Clear 0 (length p - length left)

  pub behind_first : Behind p
  behind_first =
      let none : length p - length p ≡ 0 = omega arith in
      record { few = omega arith; there = ap (λ (n : ℕ). drop n p) (sym none); clear = λ k above below. absurd (omega arith) }

  pub behind_more : (left : List ℕ) (n : ℕ) → Behind left → n ≤ length left → ((k : ℕ) → k < n → stop (drop k left) ≡ false) → Behind (drop n left)
  behind_more left n b h c =
      let len : length (drop n left) ≡ length left - n = length-drop n left in
      let m = length p - length left in
      let e : m + n ≡ length p - length (drop n left) = omega (arith, b.few) in
      record {
        few = omega (arith, b.few);
        there = ap (drop n) b.there ∙ drop-drop n m p ∙ ap (λ (i : ℕ). drop i p) e;
        clear = subst (Clear 0) e (clear_join 0 m (m + n) b.clear (clear_rest m n b.there c));
      }

-- the same reach, in what is left from an earlier place on
pub whole_moved :
    (stop : List ℕ → Bool) (p : List ℕ) (n at to : ℕ) → Whole stop p (n + at) (n + to) → n ≤ length p → Whole stop (drop n p) at to
whole_moved stop p n at to r h =
    let len : length (drop n p) ≡ length p - n = length-drop n p in
    let there : (k : ℕ) → stop (drop k (drop n p)) ≡ stop (drop (n + k) p) = λ k. ap stop (drop-drop k n p) in
    whole stop (drop n p) at to (omega (arith, r.above)) (omega (arith, r.within))
    (λ k above below. there k ∙ r.clear (n + k) (omega arith) (omega arith))
    (⊎_elim (λ e. inl (omega arith)) (λ t. inr (there to ∙ t)) (whole_ended stop p (n + at) (n + to) r))

pub whole_lifted :
    (stop : List ℕ → Bool) (p : List ℕ) (n at to : ℕ) → Whole stop (drop n p) at to → n ≤ length p → Whole stop p (n + at) (n + to)
whole_lifted stop p n at to r h =
    let len : length (drop n p) ≡ length p - n = length-drop n p in
    let there : (k : ℕ) → stop (drop k (drop n p)) ≡ stop (drop (n + k) p) = λ k. ap stop (drop-drop k n p) in
    whole stop p (n + at) (n + to) (omega (arith, r.above)) (omega (arith, r.within))
    (λ k above below.
    let back : n + (k - n) ≡ k = omega arith in
    sym (there (k - n) ∙ ap (λ (i : ℕ). stop (drop i p)) back) ∙ r.clear (k - n) (omega arith) (omega arith))
    (⊎_elim (λ e. inl (omega arith)) (λ t. inr (sym (there to) ∙ t)) (whole_ended stop (drop n p) at to r))
