-- The way back: the packed form of a plane means the plane.
use mathlib.Core.Path.{◌≡◌, refl, sym, ap, ap₂, ◌∙◌}
use mathlib.Core.List.{List, [], ◌∷◌, ◌++◌}
use Prim.Native.Nat.{ℕ, zero, suc, ◌+◌, ◌<◌, ◌≤◌}
use native.Mathlib.Omega.{arith}
use lib.ListN.{length, take, drop, length-append, length-drop, take-append-drop}
use lib.Seq.{take_at, length-take-le}
use Rattle.packet.specs.declared.Packet.{Packet}
use Rattle.packet.specs.declared.Packet.TheVariants.{Literals, Run}
use Rattle.packet.specs.FullPackets.{FullPacket, literals, run, stored, given, Counted, given_all, none, more, StreamOf}
use Rattle.packet.specs.Stream.{count_of, bytes, meaning}
use Rattle.limits.specs.Limits.{plane_limit}
use Rattle.laws.specs.Lists.{part}
use Rattle.packet.specs.Reading.{filled, unpacked, plane_read}
use Rattle.packer.specs.Packing.{next_of, stored_as, packed_with, packed}
use Rattle.packet.proofs.FullPackets.{stream_means}
use Rattle.packet.proofs.Promises.{unpacked_bytes}
use Rattle.packet.proofs.PlaneTests.{packets}
use Rattle.packer.proofs.Packing as packing
use Rattle.packer.proofs.Packing.{Chosen, chosen, taken}

-- ### The packed form is the stored form of packets that give the plane

-- the packet that was chosen, with its bytes
abbrev full_of : Packet → List ℕ → FullPacket
full_of (Literals n) p = literals (take n p)
full_of (Run n b) p = run n b

record Full (p : List ℕ) (q : Packet) : Type 0 where
  counted : Counted (full_of q p)
  stores : stored_as q p ≡ stored (full_of q p)
  gives : take (count_of q) p ≡ given (full_of q p)

full : (p : List ℕ) {q : Packet} → Chosen p q → Full p q
full p (packing.run three-equal some same c) = record { counted = omega arith; stores = refl; gives = same }
full p (packing.literals {n} plain some c) =
    let long = length-take-le n p c.within in
    record { counted = omega (arith, c.few); stores = ap (λ (m : ℕ). m ∷ take n p) (sym long); gives = refl }

packed_with_lem : (f : ℕ) (p : List ℕ) → length p ≤ f → StreamOf (packed_with f p) p
unfolding packed_with
packed_with_lem zero [] h = record { packets = []; good = none; is = refl; gives = refl }
packed_with_lem zero (b ∷ p) h = absurd (omega arith)
packed_with_lem (suc f) [] h = record { packets = []; good = none; is = refl; gives = refl }
packed_with_lem (suc f) (b ∷ p) h =
    let plane : List ℕ = b ∷ p in
    let q = next_of plane in
    let c = chosen plane (omega arith) in
    let x = full plane c in
    let left = drop (count_of q) plane in
    let rest = packed_with_lem f left (simp length-drop (omega (arith, (taken c).some))) in
    let is : plane ≡ given (full_of q plane) ++ given_all rest.packets = sym (take-append-drop (count_of q) plane) ∙ ap₂ ◌++◌ x.gives rest.gives in
    let some : 0 < length (given_all (full_of q plane ∷ rest.packets)) = omega (arith, ap length is) in
    record {
      packets = full_of q plane ∷ rest.packets;
      good = more x.counted some rest.good;
      is = ap₂ ◌++◌ x.stores rest.is;
      gives = is;
    }

pub packed_stream : (p : List ℕ) → StreamOf (packed p) p
unfolding packed
packed_stream p = packed_with_lem (length p) p (omega arith)

-- reading back what was packed gives the plane
pub way_back : (p : List ℕ) → meaning (packed p) (length p) ≡ bytes p
way_back p = stream_means (packed_stream p)

-- and the packet reader leaves the plane in front of its destination
pub unpacked_packed :
    (p dest : List ℕ) → length p ≤ length dest → unpacked (packed p) (length p) dest ≡ filled (length (packed p)) (length p) p dest
unpacked_packed p dest room = unpacked_bytes (packed p) (length p) p dest (way_back p) room

-- and so does the plane reader, wherever the packed form stands in its input
pub read_packed :
    (input : List ℕ) (start : ℕ) (p dest : List ℕ) → part input start (length (packed p)) ≡ packed p → start + length (packed p) ≤ length input
    → length p ≤ plane_limit → length p ≤ length dest
    → plane_read input start (length (packed p)) (length p) 1 dest ≡ filled (length (packed p)) (length p) p dest
read_packed input start p dest e there small room =
    packets input start (length (packed p)) (length p) 1 dest (omega arith) small there room refl
    ∙ ap (λ (l : List ℕ). unpacked l (length p) dest) e
    ∙ unpacked_packed p dest room

-- what the packer leaves in a buffer reads back as the plane
pub pack_read :
    (p buffer dest : List ℕ) → length p ≤ plane_limit → length p ≤ length dest
    → plane_read (packed p ++ drop (length (packed p)) buffer) 0 (length (packed p)) (length p) 1 dest ≡ filled (length (packed p)) (length p) p dest
unfolding part
pack_read p buffer dest small room =
    let behind = drop (length (packed p)) buffer in
    read_packed (packed p ++ behind) 0 p dest (take_at (packed p) behind (length (packed p)) refl) (omega (arith, length-append (packed p) behind)) small room
