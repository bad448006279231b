-- The packed form of n bytes has at most n + ceiling(n / 127) bytes.
use mathlib.Core.Path.{◌≡◌, sym, ap, ◌∙◌}
use mathlib.Core.Logic.{⊎_elim}
use mathlib.Core.Bool.{true}
use mathlib.Core.List.{List, [], ◌∷◌, ◌++◌}
use Prim.Native.Nat.{ℕ, zero, suc, ◌+◌, ◌-◌, ◌/◌, ◌≤◌}
use native.Mathlib.Omega.{arith}
use lib.ListN.{length, take, drop, length-append, length-drop}
use lib.Seq.{length-take-le}
use Rattle.laws.proofs.Tests.{never}
use Rattle.packet.specs.declared.Packet.{Packet}
use Rattle.packet.specs.declared.Packet.TheVariants.{Literals}
use Rattle.packet.specs.Stream.{count_of}
use Rattle.packer.specs.Packing.{three, next_of, stored_as, packed_with, packed}
use Rattle.packer.proofs.Until.{Ended}
use Rattle.packer.proofs.Packing.{Chosen, run, literals, chosen, taken}

-- one byte more for each 127 that are begun
abbrev most : ℕ → ℕ
most n = n + (n + 126) / 127

-- a plane that starts with three equal bytes has a byte to spare
record Short (plane form : List ℕ) : Type 0 where
  within : length form ≤ most (length plane)
  spare : three plane ≡ true → length form + 1 ≤ most (length plane)

-- literals in front: 127 of them pay for a byte; at the end one is begun; and three equal bytes behind them have one to spare
literals_short :
    (p form : List ℕ) (n : ℕ) → 1 ≤ n → n ≤ length p → Ended three 127 p n → Short (drop n p) form
    → length (stored_as (Literals n) p ++ form) ≤ most (length p)
literals_short p form n some within ended s =
    let rest : length (drop n p) ≡ length p - n = length-drop n p in
    let all : length (take n p ++ form) ≡ n + length form = length-append (take n p) form ∙ ap (λ (k : ℕ). k + length form) (length-take-le n p within) in
    ⊎_elim (λ e. omega (arith, s.within)) (⊎_elim (λ e. omega (arith, s.within)) (λ t. omega (arith, s.spare t))) ended

-- a packet in front of a packed form that is short
short_on : (p form : List ℕ) {q : Packet} → Chosen p q → Short (drop (count_of q) p) form → Short p (stored_as q p ++ form)
short_on p form (run {n} three-equal some same c) s =
    let rest : length (drop n p) ≡ length p - n = length-drop n p in
    record { within = omega (arith, s.within, c.within); spare = λ _. omega (arith, s.within, c.within) }
short_on p form (literals {n} plain some c) s =
    record { within = literals_short p form n some c.within c.ended s; spare = λ t. never (sym plain ∙ t) }

short : (f : ℕ) (p : List ℕ) → length p ≤ f → Short p (packed_with f p)
unfolding packed_with three
short zero [] h = record { within = omega arith; spare = λ t. never t }
short zero (b ∷ p) h = absurd (omega arith)
short (suc f) [] h = record { within = omega arith; spare = λ t. never t }
short (suc f) (b ∷ p) h =
    let q = next_of (b ∷ p) in
    let c = chosen (b ∷ p) (omega arith) in
    let rest = drop (count_of q) (b ∷ p) in
    short_on (b ∷ p) (packed_with f rest) c (short f rest (simp length-drop (omega (arith, (taken c).some))))

pub packed_bound : (p : List ℕ) → length (packed p) ≤ length p + (length p + 126) / 127
unfolding packed
packed_bound p = (short (length p) p (omega arith)).within
