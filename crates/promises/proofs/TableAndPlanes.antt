-- Demand 2, shown: the table in file order and right entry by entry, an accepted file owned whole, planes that are what their packets mean.
use mathlib.Core.Path.{◌≡◌, refl, sym, ap, ◌∙◌}
use mathlib.Core.List.{List}
use Prim.Native.Nat.{ℕ, ◌+◌, ◌≤◌, ◌<◌}
use native.Mathlib.Numerals.{lt_of_le_of_ne}
use native.Mathlib.Omega.{arith}
use borrow.Author.Tests.{ltb-false, eqb-true, eqb-false}
use lib.ListN.{length}
use Rattle.laws.specs.Lists.{part}
use Rattle.laws.specs.Results.{Result}
use Rattle.laws.proofs.Choice.{pick_ind}
use Rattle.laws.proofs.Part.{part_length}
use Rattle.laws.proofs.Filter.{filter_at}
use Rattle.limits.specs.Limits.{plane_limit}
use Rattle.answer.specs.Answers as answers
use Rattle.entry.specs.declared.Entry.{Entry}
use Rattle.walk.proofs.Tiling.{tiles_order}
use Rattle.listing.specs.Listing.{listed}
use Rattle.listing.specs.Right.{is_layer}
use Rattle.listing.proofs.Tiled.{accepted_tiled, accepted_owner, found_before}
use Rattle.listing.proofs.Prefix.{listed_good}
use Rattle.listing.proofs.RightEntries.{each_right, each_headed, layers_numbered, accepted_complete}
use Rattle.packet.specs.declared.told.Plane.{Plane}
use Rattle.packet.specs.Stream.{Outcome, bytes, refused, meaning}
use Rattle.packet.specs.Reading.{untouched, filled, verdict, laid, unpacked, plane_read}
use Rattle.packet.proofs.PlaneTests as tests
use Rattle.packet.proofs.Promises.{Right, stopped, meaning_right, unpacked_bytes}
use Rattle.packet.proofs.FullPackets.{stream_means, means_packets}
use Rattle.packer.specs.declared.told.Packed.{Packed}
use Rattle.packer.specs.Packing.{packs}
use Rattle.packer.proofs.WayBack.{pack_read}
use Rattle.promises.specs.TableAndPlanes.{InOrder, EachRight, WholeFile, Meant, raw, packed, MeantPlane, ReadsMeant, ReadsBack}

-- ### The table

module _ (s : List ℕ) (room : ℕ) where
  -- entries as they stand in the file, layers counted 0, 1, 2 ..
  pub in_order : InOrder (listed s room).entries
  in_order = record {
    file_order = λ i j d lt inside. tiles_order (found_before s room (listed_good s room j d inside)).tiles i j d lt inside;
    layer_numbers = λ k d some.
        let p = filter_at is_layer (listed s room).entries k d some in
        ap (λ (e : Entry). e.layer) p.is ∙ layers_numbered s room p.index d p.inside p.passes ∙ p.before;
  }

  -- each entry by document 01's rules
  pub entries_right : EachRight s (listed s room).entries
  entries_right k d some = (each_right s room k d some, each_headed s room k d some)

  -- an accepted file is owned whole, byte by byte, and complete
  pub whole_file : (listed s room).answer ≡ answers.Accepted → WholeFile s (listed s room).entries
  whole_file good = record {
    tiles = (accepted_tiled s room good).0;
    owner = accepted_owner s room good;
    complete = accepted_complete s room good;
  }

-- ### A plane

module _ (input : List ℕ) (start stored code : ℕ) (dest : List ℕ) where
  abbrev stream : List ℕ
  stream = part input start stored

  -- what means a plane is read
  reads :
      (xs : List ℕ) → Meant code stream xs → start + stored ≤ length input → length xs ≤ plane_limit → length xs ≤ length dest
      → plane_read input start stored (length xs) code dest ≡ filled stored (length xs) xs dest
  reads xs (raw is) there small room =
      tests.raw input start stored (length xs) code dest (omega arith) small there room (λ e. omega arith) (sym (part_length input start stored there))
  reads xs (packed is o) there small room =
      tests.packets input start stored (length xs) code dest (omega arith) small there room is
      ∙ unpacked_bytes stream (length xs) xs dest (stream_means o) room
      ∙ ap (λ (n : ℕ). filled n (length xs) xs dest) (part_length input start stored there)

  abbrev IfGood : ℕ → Result Plane → Type 0
  IfGood plane r = r.told.number ≡ 0 → MeantPlane code stream stored plane dest r

  no : (plane number : ℕ) → 0 < number → IfGood plane (untouched number dest)
  no plane number some e = absurd (omega arith)

  unpacked_left : (plane : ℕ) → code ≡ 1 → length stream ≡ stored → IfGood plane (unpacked stream plane dest)
  unfolding unpacked
  unpacked_left plane is all =
      pick_ind (IfGood plane) _ _ _ (λ _. no plane 20 (omega arith)) (λ room. by (meaning stream plane) (meaning_right stream plane) refl)
    where
      by :
          (o : Outcome) → Right 0 (length stream) plane o → meaning stream plane ≡ o
          → IfGood plane (record { told = verdict (length stream) plane o; dest = laid plane dest o })
      by (bytes xs) r means e =
          let m = means_packets stream plane xs means in
          record { bytes = xs; meant = packed is m.0; long = m.1; leaves = ap (λ (n : ℕ). filled n plane xs dest) all }
      by (refused number place) (stopped n p low high from to) means e = absurd (omega arith)

  read_left : (plane : ℕ) → IfGood plane (plane_read input start stored plane code dest)
  unfolding plane_read
  read_left plane =
      let I = IfGood plane in
      pick_ind I _ _ _ (λ _. no plane 24 (omega arith)) (λ known.
      pick_ind I _ _ _ (λ _. no plane 26 (omega arith)) (λ _.
      pick_ind I _ _ _ (λ _. no plane 27 (omega arith)) (λ there.
      let all = part_length input start stored (ltb-false _ _ there) in
      pick_ind I _ _ _ (λ _. no plane 20 (omega arith)) (λ _.
      pick_ind I _ _ _ (λ one. unpacked_left plane (eqb-true code 1 one) all) (λ other.
      pick_ind I _ _ _
      (λ same e.
      let none : code ≡ 0 = omega (arith, lt_of_le_of_ne (ltb-false _ _ known) (eqb-false code 1 other)) in
      record { bytes = stream; meant = raw none; long = all ∙ eqb-true stored plane same; leaves = refl })
      (λ _. no plane 25 (omega arith)))))))

  -- each plane is the bytes that its packets mean, and nothing else is read
  pub reads_meant : ReadsMeant input start stored code dest
  reads_meant = record { reads = reads; only = read_left }

-- ### The way back

-- a plane that the packer packs reads back as that plane
pub reads_back : (plane buffer : List ℕ) → ReadsBack plane buffer
unfolding packs
reads_back plane buffer =
    let B : Result Packed → Type 0 = λ r.
    r.told.number ≡ 0 → (dest : List ℕ) → length plane ≤ length dest
    → plane_read r.dest 0 r.told.length (length plane) 1 dest ≡ filled r.told.length (length plane) plane dest in
    pick_ind B _ _ _ (λ _ e. absurd (omega arith)) (λ small.
    pick_ind B _ _ _ (λ _ e. absurd (omega arith)) (λ _ e dest room. pack_read plane buffer dest (ltb-false _ _ small) room))
