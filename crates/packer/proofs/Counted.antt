-- Counts that are made of parts: few bytes, blocks behind them, and what is left.
use mathlib.Core.Path.{◌≡◌, ap, ◌∙◌}
use mathlib.Core.Bool.{false}
use mathlib.Core.Logic.{inl, inr, ⊎_elim}
use mathlib.Core.List.{List}
use Prim.Native.Nat.{ℕ, ◌+◌, ◌-◌, ◌<◌, ◌≤◌}
use native.Mathlib.Omega.{arith}
use lib.ListN.{length, take, drop, get_or, length-drop}
use lib.Seq.{get_or-take, get_or-drop, length-take-le}
use Rattle.laws.proofs.Tests.{less_or_not}
use Rattle.packer.specs.Packing.{other_than, until}
use Rattle.packer.proofs.Places.{other_yes, other_no, other_front}
use Rattle.packer.proofs.Reach.{Clear, clear_front, clear_join, clear_rest, reached_front, whole}

module _ (b : ℕ) (p : List ℕ) where
  -- another byte among the first few
  pub few_counted :
      (n to : ℕ) → n ≤ length p → to < n → ((k : ℕ) → k < to → get_or (take n p) k 0 ≡ b) → (to < length (take n p) → get_or (take n p) to 0 ≡ b → ⊥)
      → to ≡ until (length p) (other_than b) p
  few_counted n to inside less before ended =
      let len : length (take n p) ≡ n = length-take-le n p inside in
      reached_front (other_than b) p to
      (whole (other_than b) p 0 to (omega arith) (omega arith)
      (clear_front (other_than b) p to (λ k h. other_front p n k b (omega arith) (before k h)))
      (inr (other_yes b p to (λ e. ended (omega arith) (get_or-take n p to 0 less ∙ e)))))

  -- and none there
  pub few_clear : (n : ℕ) → ((k : ℕ) → k < n → get_or (take n p) k 0 ≡ b) → Clear (other_than b) p 0 n
  few_clear n before = clear_front (other_than b) p n (λ k h. other_front p n k b h (before k h))

  -- none in the blocks at the front: another byte in what is left, or the end
  pub far_counted :
      (far to : ℕ) {r : List ℕ} → far ≤ length p → ((k : ℕ) → k < far → other_than b (drop k p) ≡ false) → r ≡ drop far p
      → to ≤ length r → ((k : ℕ) → k < to → get_or r k 0 ≡ b) → (to < length r → get_or r to 0 ≡ b → ⊥)
      → far + to ≡ until (length p) (other_than b) p
  far_counted far to {r} inside blocks f there before ended =
      let other = other_than b in
      let len : length r ≡ length p - far = ap length f ∙ length-drop far p in
      let last : Clear other p far (far + to) = clear_rest other p far to f (λ k h. other_no b r k (before k h)) in
      reached_front other p (far + to)
      (whole other p 0 (far + to) (omega arith) (omega arith) (clear_join other p 0 far (far + to) (clear_front other p far blocks) last)
      (⊎_elim
      (λ less. inr (other_yes b p (far + to) (λ same. ended less (ap (λ (s : List ℕ). get_or s to 0) f ∙ get_or-drop far p to 0 ∙ same))))
      (λ all. inl (omega arith))
      (less_or_not to (length r))))
