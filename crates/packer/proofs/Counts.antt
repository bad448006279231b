-- The packed form has no count 128.
use mathlib.Core.Path.{◌≡◌, refl, ap, ◌∙◌, subst⁻¹}
use mathlib.Core.List.{List, [], ◌∷◌, ◌++◌}
use Prim.Native.Nat.{ℕ, zero, suc, ◌+◌, ◌-◌, ◌≤◌}
use native.Mathlib.Omega.{arith}
use borrow.Author.Tests.{lt-ltb, le-ltb}
use lib.ListN.{length, take, drop, get_or, length-drop}
use lib.Seq.{drop_at, length-take-le}
use Rattle.laws.proofs.Choice.{pick_yes, pick_no}
use Rattle.packet.specs.declared.Packet.{Packet}
use Rattle.packet.specs.declared.Packet.TheVariants.{Literals, Run}
use Rattle.packet.specs.Stream.{packet_of, data_of, count_of}
use Rattle.packer.specs.Counts.{counts_with, counts}
use Rattle.packer.specs.Packing.{next_of, stored_as, packed_with, packed}
use Rattle.packer.proofs.Packing.{Chosen, run, literals, chosen, taken}

-- no count byte is 128
abbrev No128 : List ℕ → Type 0
No128 cs = (k : ℕ) → get_or cs k 0 ≡ 128 → ⊥

none : No128 []
none k e = omega arith

cons : (c : ℕ) (cs : List ℕ) → (c ≡ 128 → ⊥) → No128 cs → No128 (c ∷ cs)
cons c cs h t zero e = h e
cons c cs h t (suc k) e = t k e

-- a packet in front, whose data ends where the rest begins
counted :
    (f count : ℕ) (behind rest : List ℕ) (q : Packet) → (count ≡ 128 → ⊥) → packet_of count behind ≡ q → drop (data_of q) behind ≡ rest
    → ((g : ℕ) → No128 (counts_with g rest)) → No128 (counts_with f (count ∷ behind))
unfolding counts_with
counted zero count behind rest q h e ends more = none
counted (suc f) count behind rest q h e ends more =
    cons count (counts_with f (drop (data_of (packet_of count behind)) behind)) h
    (subst⁻¹ (λ (l : List ℕ). No128 (counts_with f l)) (ap (λ (r : Packet). drop (data_of r) behind) e ∙ ends) (more f))

stored :
    (f : ℕ) (p rest : List ℕ) {q : Packet} → Chosen p q → ((g : ℕ) → No128 (counts_with g rest)) → No128 (counts_with f (stored_as q p ++ rest))
unfolding packet_of
stored f p rest (run {n} {b} three-equal some same c) =
    let back : 128 + n - 128 ≡ n = omega arith in
    counted f (128 + n) (b ∷ rest) rest (Run n b) (λ e. omega arith)
    (pick_no _ _ _ (le-ltb (128 + n) 128 (omega arith)) ∙ ap (λ (m : ℕ). Run m b) back) refl
stored f p rest (literals {n} plain some c) =
    let few : n ≤ 127 = c.few in
    counted f n (take n p ++ rest) rest (Literals n) (λ e. omega arith)
    (pick_yes _ _ _ (lt-ltb n 128 (omega arith))) (drop_at (take n p) rest n (length-take-le n p c.within))

nothing : (f : ℕ) → No128 (counts_with f [])
unfolding counts_with
nothing zero = none
nothing (suc f) = none

no_128 : (g : ℕ) (p : List ℕ) (f : ℕ) → length p ≤ g → No128 (counts_with f (packed_with g p))
unfolding packed_with
no_128 zero p f h = nothing f
no_128 (suc g) [] f h = nothing f
no_128 (suc g) (b ∷ p) f h =
    let c = chosen (b ∷ p) (omega arith) in
    stored f (b ∷ p) _ c (λ e. no_128 g (drop (count_of (next_of (b ∷ p))) (b ∷ p)) e (simp length-drop (omega (arith, (taken c).some))))

pub packed_no_128 : (p : List ℕ) (k : ℕ) → get_or (counts (packed p)) k 0 ≡ 128 → ⊥
unfolding packed
packed_no_128 p = no_128 (length p) p (length (packed p)) (omega arith)
