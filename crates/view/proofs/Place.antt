-- The two forms of a part agree: what `&s[start..start + n]` is by its numbers, and that a place and bytes leave one part.
use mathlib.Core.Path.{◌≡◌, refl, sym, ◌∙◌}
use Prim.Native.Nat.{ℕ, ◌+◌, ◌-◌}
use native.Mathlib.Omega.{arith}
use lib.ListN.{take, drop, length}
use lib.Seq.{take_all}
use Rattle.laws.proofs.Part.{lent}
use Rattle.laws.specs.Lists.{part}
use Rattle.view.specs.Shown.{Slice, PartOf}

-- `&s[start..start + n]`
abbrev pub taken : Slice → ℕ → ℕ → Slice
taken s start n = record { ref_ptr = (s.ref_ptr.0, start + s.ref_ptr.1); now = take (start + n - start) (drop start s.now) }

pub part_of : (s : Slice) (start n : ℕ) → PartOf s start n (taken s start n)
part_of s start n = record { block = refl; place = omega arith; bytes = lent s.now start n }

-- all of a slice of that length
pub whole_of : (s : Slice) (n : ℕ) → length s.now ≡ n → PartOf s 0 n s
unfolding part
whole_of s n long = record { block = refl; place = omega arith; bytes = sym (take_all n s.now (omega (arith, long))) }

-- one place, and the same bytes
abbrev pub Same : Slice → Slice → Type 0
Same r r' = (r.ref_ptr ≡ r'.ref_ptr) × (r.now ≡ r'.now)

pub part_one : (s : Slice) (start n : ℕ) (r r' : Slice) → PartOf s start n r → PartOf s start n r' → Same r r'
part_one s start n r r' p q = ((λ i. ((p.block ∙ sym q.block) i, (p.place ∙ sym q.place) i)), p.bytes ∙ sym q.bytes)
