-- Rules that are made of units, and of tests that do not look at the input, pay what they owe unit by unit.
use mathlib.Core.Path.{◌≡◌, refl, sym, ap, subst, ◌∙◌}
use mathlib.Core.List.{List, ◌++◌}
use Prim.Native.Nat.{ℕ, ◌+◌, ◌≤◌, ◌<◌}
use native.Mathlib.Omega.{arith}
use borrow.Author.Tests.{lt-ltb, le-ltb, ltb-true, ltb-false}
use lib.ListN.{length, drop, length-append}
use Rattle.laws.specs.Lists.{part}
use Rattle.laws.proofs.Part.{part_longer, part_alike}
use Rattle.laws.proofs.Choice.{pick_yes, pick_no, pick_ind}
use Rattle.answer.specs.declared.Refusal.TheVariants.{EndsTooSoon}
use Rattle.entry.specs.declared.Entry.{Entry}
use Rattle.walk.specs.Walk.{Step, End, Stop, Leaf, Nest}
use Rattle.walk.specs.Unit.{unit}
use Rattle.walk.specs.Owed.{soon, Beyond, refused, leaf_past, nest_past, Waits, waits, Reads, Shares}

-- ### A unit's answer

module _ {S : Type 0} where
  pub unit_soon : (s : List ℕ) (at n : ℕ) (judge : List ℕ → Step S) → length s < at + n → unit s at n judge ≡ Stop EndsTooSoon at
  unfolding unit
  unit_soon s at n judge h = pick_yes _ _ _ (lt-ltb (length s) (at + n) h)

  pub unit_there : (s : List ℕ) (at n : ℕ) (judge : List ℕ → Step S) → at + n ≤ length s → unit s at n judge ≡ judge (part s at n)
  unfolding unit
  unit_there s at n judge h = pick_no _ _ _ (le-ltb (length s) (at + n) h)

  -- what holds of "ends too soon", and of the judgement where the unit is present, holds of the unit
  pub unit_ind :
      (P : Step S → Type 0) (s : List ℕ) (at n : ℕ) (judge : List ℕ → Step S)
      → (length s < at + n → P (Stop EndsTooSoon at)) → (at + n ≤ length s → P (judge (part s at n))) → P (unit s at n judge)
  unfolding unit
  unit_ind P s at n judge short there = pick_ind P _ _ _ (λ h. short (ltb-true (length s) (at + n) h)) (λ h. there (ltb-false (length s) (at + n) h))

  -- ### On more input

  -- a relation to a step k on more input, which is the unit where the unit was present already
  unit_to :
      (R : Step S → Step S → Type 0) (s t : List ℕ) (at n : ℕ) (judge judge' : List ℕ → Step S) (k : Step S)
      → (length s < at + n → R (Stop EndsTooSoon at) k) → ((xs : List ℕ) → R (judge xs) (judge' xs)) → (at + n ≤ length s → k ≡ unit (s ++ t) at n judge')
      → R (unit s at n judge) k
  unit_to R s t at n judge judge' k short rule is =
      unit_ind (λ (x : Step S). R x k) s at n judge short (λ here.
      subst (R (judge (part s at n)))
      (sym (is here ∙ unit_there (s ++ t) at n judge' (omega (arith, length-append s t)) ∙ ap judge' (part_longer s t at n here)))
      (rule (part s at n)))

  module _ (main levels : ℕ) (s t : List ℕ) (at n : ℕ) (judge judge' : List ℕ → Step S) where
    -- a unit waits, if no entry that is judged by it ends before it
    pub unit_waits_to :
        (k : Step S) → (length s < at + n → Beyond (length s) main levels k)
        → ((xs : List ℕ) → Waits (length s) main levels (judge xs) (judge' xs)) → (at + n ≤ length s → k ≡ unit (s ++ t) at n judge')
        → Waits (length s) main levels (unit s at n judge) k
    unit_waits_to k past = unit_to (Waits (length s) main levels) s t at n judge judge' k (λ short. waits soon (past short))

    pub unit_waits :
        (length s < at + n → (xs : List ℕ) → Beyond (length s) main levels (judge' xs))
        → ((xs : List ℕ) → Waits (length s) main levels (judge xs) (judge' xs))
        → Waits (length s) main levels (unit s at n judge) (unit (s ++ t) at n judge')
    unit_waits past rule =
        unit_waits_to (unit (s ++ t) at n judge')
        (λ short. unit_ind (Beyond (length s) main levels) (s ++ t) at n judge' (λ _. refused) (λ _. past short (part (s ++ t) at n)))
        rule (λ _. refl)

  -- ### On another input of that length

  module _ (hidden : Entry → ℕ → Type 0) where
    -- an entry that is read at a byte reaches behind it
    pub reads_past : (main levels i : ℕ) (k : Step S) → Reads hidden i k → Beyond i main levels k
    reads_past main levels i End r = absurd r
    reads_past main levels i (Stop _ _) r = refused
    reads_past main levels i (Leaf e next q) r = leaf_past r.0
    reads_past main levels i (Nest e inside q after) r = nest_past r.0

    module _ (s s' : List ℕ) (same : length s ≡ length s') (at : ℕ) where
      -- a step on each of both: the same, if they share what it reads
      abbrev pub Depends : Step S → Step S → Type 0
      Depends k k' = Shares hidden s s' at k → k ≡ k'

      -- a unit that is judged by its bytes from the m-th on
      pub unit_depends_from :
          (m place n : ℕ) (judge judge' : List ℕ → Step S) → at ≤ place → ((xs : List ℕ) (i : ℕ) → place + m ≤ i → i < place + n → Reads hidden i (judge xs))
          → ((xs ys : List ℕ) → drop m xs ≡ drop m ys → Depends (judge xs) (judge' ys)) → Depends (unit s place n judge) (unit s' place n judge')
      unit_depends_from m place n judge judge' low reads rule =
          unit_ind (λ (k : Step S). Depends k (unit s' place n judge')) s place n judge (λ short _. sym (unit_soon s' place n judge' (omega arith))) (λ there shares.
          rule (part s place n) (part s' place n) (part_alike s s' place n m 0 same (λ i from to. shares i (omega arith) (reads (part s place n) i from to))) shares
          ∙ sym (unit_there s' place n judge' (omega arith)))

      -- by all of them
      pub unit_depends :
          (place n : ℕ) (judge judge' : List ℕ → Step S) → at ≤ place → ((xs : List ℕ) (i : ℕ) → place ≤ i → i < place + n → Reads hidden i (judge xs))
          → ((xs : List ℕ) → Depends (judge xs) (judge' xs)) → Depends (unit s place n judge) (unit s' place n judge')
      unit_depends place n judge judge' low reads rule =
          unit_depends_from 0 place n judge judge' low (λ xs i from to. reads xs i (omega arith) to)
          (λ xs ys alike. subst (λ (zs : List ℕ). Depends (judge xs) (judge' zs)) alike (rule xs))

  -- a unit that only has to be there
  pub unit_unread :
      (s s' : List ℕ) → length s ≡ length s' → (place n : ℕ) (k : Step S) → unit s place n (λ _. k) ≡ unit s' place n (λ _. k)
  unfolding unit
  unit_unread s s' same place n k = rw same refl
