-- Bytes that go by: what the blocks' tests say of them, and the pass that carries how many equal ones have just gone by.
use mathlib.Core.Path.{◌≡◌, refl, sym, ap, ◌∙◌}
use mathlib.Core.Logic.{inl, inr, ⊎_elim}
use mathlib.Core.Bool.{Bool, true, false, ◌||◌}
use mathlib.Core.List.{List}
use Prim.Native.Nat.{ℕ, ◌+◌, ◌-◌, ◌<◌, ◌≤◌}
use native.Mathlib.Omega.{arith}
use lib.ListN.{length, drop, get_or}
use Rattle.laws.proofs.Tests.{neither, less_or_not}
use Rattle.packer.specs.Packing.{three, until}
use Rattle.packer.proofs.Places.{three_short, three_same, three_gap}
use Rattle.packer.proofs.Reach.{Clear, clear_none, clear_one, clear_join, whole, reached_front}

-- a place more of a block where three equal bytes start nowhere
pub plain_more :
    (p : List ℕ) (at i : ℕ) (any here : Bool) → (any ≡ false → Clear three p at (at + i)) → here ≡ three (drop (at + i) p) → (any || here) ≡ false
    → Clear three p at (at + (i + 1))
plain_more p at i any here c e f =
    let n = neither any here f in
    clear_one three p at (at + i) (at + (i + 1)) (omega arith) (c n.0) (sym e ∙ n.1)

-- up to a place all bytes have gone by, the last of them this one, and one or two of them equal; three equal ones start nowhere before those
pub record Passing (p : List ℕ) (at end byte same to : ℕ) : Type 0 where
  pub some : 1 ≤ same
  pub few : same ≤ 2
  pub above : at + same ≤ to
  pub below : to ≤ end
  pub plain : Clear three p at (to - same)
  pub equal : (k : ℕ) → to ≤ k + same → k < to → get_or p k 0 ≡ byte

-- what the pass finds
abbrev pub Found : List ℕ → ℕ → ℕ → ℕ → Type 0
Found p at end r = (at ≤ r) × (r ≤ end) × Clear three p at r × (r + 3 ≤ end → three (drop r p) ≡ true)

module _ (p : List ℕ) (at end : ℕ) where
  pub found_at_once : at ≡ end → Found p at end at
  found_at_once e = (omega arith, omega arith, clear_none three p at, λ long. absurd (omega arith))

  pub passing_first : (at ≡ end → ⊥) → at ≤ end → Passing p at end (get_or p at 0) 1 (at + 1)
  passing_first more h = record {
    some = omega arith;
    few = omega arith;
    above = omega arith;
    below = omega arith;
    plain = λ k above below. absurd (omega arith);
    equal = λ k above below. let here : at ≡ k = omega arith in ap (λ (i : ℕ). get_or p i 0) (sym here);
  }

  module _ (byte same to : ℕ) (s : Passing p at end byte same to) (more : to < end) where
    -- an equal byte behind one
    pub passing_more : get_or p to 0 ≡ byte → (same ≡ 2 → ⊥) → Passing p at end (get_or p to 0) 2 (to + 1)
    passing_more e one = record {
      some = omega arith;
      few = omega arith;
      above = omega (arith, s.some, s.above);
      below = omega arith;
      plain = λ k above below. s.plain k above (omega (arith, s.some, s.few));
      equal = λ k above below.
          ⊎_elim (λ h. s.equal k (omega (arith, s.some)) h ∙ sym e) (λ h. let here : to ≡ k = omega arith in ap (λ (i : ℕ). get_or p i 0) (sym here))
          (less_or_not k to);
    }

    -- another byte: those that have gone by are no three
    pub passing_other : (get_or p to 0 ≡ byte → ⊥) → Passing p at end (get_or p to 0) 1 (to + 1)
    passing_other differs = record {
      some = omega arith;
      few = omega arith;
      above = omega (arith, s.above);
      below = omega arith;
      plain = λ k above below. clear_join three p at (to - same) to s.plain no_three k above (omega arith);
      equal = λ k above below. let here : to ≡ k = omega arith in ap (λ (i : ℕ). get_or p i 0) (sym here);
    }
      where
        no_three : Clear three p (to - same) to
        no_three k above below = three_gap p k to below (omega (arith, s.few)) (λ e. differs (e ∙ s.equal k (omega arith) below))

    -- an equal byte behind two
    pub passing_three : end ≤ length p → get_or p to 0 ≡ byte → same ≡ 2 → Found p at end (to - same)
    passing_three inside e two =
        let first : get_or p (to - same) 0 ≡ byte = s.equal (to - same) (omega arith) (omega (arith, s.above)) in
        let one : to - same + 1 < to = omega (arith, s.above) in
        let last : to ≡ to - same + 2 = omega (arith, s.above) in (
          omega (arith, s.above),
          omega arith,
          s.plain,
          λ long.
              three_same p (to - same) (omega arith) (s.equal (to - same + 1) (omega arith) one ∙ sym first) (ap (λ (i : ℕ). get_or p i 0) (sym last) ∙ e ∙ sym first),
        )

  pub passing_end : (byte same to : ℕ) → Passing p at end byte same to → end ≤ to → Found p at end (to - same)
  passing_end byte same to s h = (omega (arith, s.above), omega (arith, s.below), s.plain, λ long. absurd (omega (arith, s.few, s.above)))

-- ---- the whole way

-- three equal bytes start nowhere before a place, and there they start, or fewer than three bytes are left
module _ (p : List ℕ) (to : ℕ) (clear : Clear three p 0 to) where
  pub found_here : to + 3 ≤ length p → three (drop to p) ≡ true → to ≡ until (length p) three p
  found_here long t = reached_front three p to (whole three p 0 to (omega arith) (omega arith) clear (inr t))

  pub found_none : to ≤ length p → length p < to + 3 → length p ≡ until (length p) three p
  found_none inside few =
      reached_front three p (length p)
      (whole three p 0 (length p) (omega arith) (omega arith) (clear_join three p 0 to (length p) clear (λ k above below. three_short p k (omega arith))) (inl refl))
