-- Request (xiv), shown. A part that has no say is the own bytes of its entry that no step reads; so the listings are equal, and a byte of another
-- entry is the same in both inputs.
use mathlib.Core.Path.{◌≡◌, refl, sym, ap, subst, ◌∙◌}
use mathlib.Core.Logic.{⊎_elim}
use mathlib.Core.Bool.{true}
use mathlib.Core.List.{List}
use Prim.Native.Nat.{ℕ, ◌+◌, ◌/◌, ◌≤◌, ◌<◌}
use native.Mathlib.Omega.{arith}
use borrow.Author.Tests.{eqb-true}
use lib.Dec.{eqb}
use lib.ListN.{length, get_or}
use Rattle.laws.specs.Differ.{DifferIn}
use Rattle.laws.proofs.Differ.{part_same}
use Rattle.laws.proofs.Tests.{never, both, either, not_other, less_or_not}
use Rattle.entry.specs.declared.Entry.{Entry}
use Rattle.entry.specs.Entry.{block, plain, size, nowhere, is_kind}
use Rattle.walk.specs.Room.{Listed}
use Rattle.walk.specs.Promised.{Hides}
use Rattle.walk.proofs.Blind.{hides_at}
use Rattle.headers.specs.BlockHeader.{block_header_size}
use Rattle.headers.specs.Places.{image_place, image_chunk_place}
use Rattle.attributes.specs.declared.image_attributes.ImageChunk.{ImageChunk}
use Rattle.attributes.specs.ImageAttributes.{image_size, image_of}
use Rattle.chunk.specs.Heads.{image_head, layer_head, alpha_head}
use Rattle.kinds.specs.Unread.{InName, name_size, is_named, Unread, stored, named}
use Rattle.packet.specs.Reading.{plane_read}
use Rattle.packet.proofs.PlaneTests.{plane_alike}
use Rattle.listing.specs.Listing.{told, tabled, listed, lists}
use Rattle.listing.specs.Right.{is_channel, image_in}
use Rattle.listing.proofs.Blind.{same_listing}
use Rattle.listing.proofs.RightEntries.{each_right}
use Rattle.promises.specs.MoreInput.{plane_of}
use Rattle.promises.specs.Spoiled.{InChannel, InSkipped, Silent, in_channel, in_skipped, in_colours, in_name, Chosen, Same}
use Rattle.promises.proofs.TableAndPlanes.{in_order}

-- no step reads it
not_read : {e : Entry} {i : ℕ} → Silent e i → Unread e i
not_read (in_channel h) = stored h.1
not_read (in_skipped h) = stored h.1
not_read (in_colours h) = stored h.1
not_read (in_name h) = named h

-- an image has no such part
image_silent : {e : Entry} {i : ℕ} → e ≡ plain (block 0 0 0 image_place image_head) → Silent e i → ⊥
image_silent is (in_channel h) = never (sym (ap (is_kind 5) is) ∙ h.0)
image_silent is (in_skipped h) = omega (arith, ap (λ (e : Entry). e.block.skipped) is, h.0)
image_silent is (in_colours h) = never (sym (ap (is_kind 2) is) ∙ h.0)
image_silent is (in_name h) = never (sym (ap is_named is) ∙ h.kind)

module _ (s s' : List ℕ) (room : ℕ) where
  abbrev es : List Entry
  es = (listed s room).entries

  abbrev entry : ℕ → Entry
  entry k = get_or es k nowhere

  -- ### Where it lies

  -- among the bytes that the k-th entry owns
  pub record Own (k i : ℕ) : Type 0 where
    pub there : k < length es
    pub low : (entry k).block.place ≤ i
    pub high : i < (entry k).block.place + (entry k).block.owned

  own : (k i : ℕ) → k < length es → Silent (entry k) i → Own k i
  own k i some (in_channel h) =
      let r = (each_right s room k nowhere some).kind 5 h.0 in
      record { there = some; low = omega (arith, r.start, h.1.low); high = omega (arith, r.start, r.owned, h.1.high) }
  own k i some (in_skipped h) =
      let r = ((each_right s room k nowhere some).skipped h.0).is in
      let start = ap (λ (e : Entry). e.content.start) r in
      let owned = ap (λ (e : Entry). e.block.owned) r in
      record { there = some; low = omega (arith, start, h.1.low); high = omega (arith, start, owned, h.1.high) }
  own k i some (in_colours h) =
      let r = ((each_right s room k nowhere some).kind 2 h.0).is in
      let start = ap (λ (e : Entry). e.content.start) r in
      let owned = ap (λ (e : Entry). e.block.owned) r in
      let stored = ap (λ (e : Entry). e.content.stored) r in
      record { there = some; low = omega (arith, start, h.1.low); high = omega (arith, start, owned, stored, h.1.high) }
  own k i some (in_name h) =
      let r = each_right s room k nowhere some in
      let by : (head : ℕ) → block_header_size + name_size ≤ head → (entry k).block.owned ≡ head → Own k i =
      λ head large owned. record { there = some; low = omega (arith, h.low); high = omega (arith, h.high) } in
      either (is_kind 4 (entry k)) (is_kind 8 (entry k)) h.kind
      (λ is. by layer_head (omega arith) (ap (λ (e : Entry). e.block.owned) (r.kind 4 is).is))
      (λ is. by alpha_head (omega arith) (ap (λ (e : Entry). e.block.owned) (r.kind 8 is).is))

  -- no byte has two owners
  same_owner : (j k i : ℕ) → Own j i → Own k i → j ≡ k
  same_owner j k i a b =
      let order = (in_order s room).file_order in
      not_other j k (λ other. ⊎_elim
      (λ lt. omega (arith, order j k nowhere lt b.there, a.high, b.low))
      (λ le. omega (arith, order k j nowhere (omega arith) a.there, b.high, a.low)) (less_or_not j k))

  -- ### Any choice among the listed entries

  module _ (chosen : ℕ → Type 0) (differ : DifferIn (Chosen Silent chosen es) s s') where
    hidden : DifferIn (λ i. Hides Unread i es) s s'
    hidden = record {
      long = differ.long;
      only = λ i other.
          let c = differ.only i other in
          let o = own c.position i c.there c.inside in
          hides_at es c.position nowhere c.there o.low o.high (not_read c.inside);
    }

    listing_same : listed s' room ≡ listed s room
    listing_same = sym (same_listing s s' room hidden)

    -- a byte of a listed entry that is not chosen, or that lies in no such part of it, is the same
    elsewhere : (k i : ℕ) → Own k i → (chosen k → Silent (entry k) i → ⊥) → Chosen Silent chosen es i → ⊥
    elsewhere k i o clear c =
        let is = same_owner c.position k i (own c.position i c.there c.inside) o in
        clear (subst chosen is c.is) (subst (λ (j : ℕ). Silent (entry j) i) is c.inside)

    image_same : 0 < length es → image_in s ≡ image_in s'
    image_same some =
        let first = (each_right s room 0 nowhere some).first refl in
        let place = ap (λ (e : Entry). e.block.place) first in
        let owned = ap (λ (e : Entry). e.block.owned) first in
        ap image_of (part_same differ image_chunk_place image_size (λ i low high.
        elsewhere 0 i (record { there = some; low = omega arith; high = omega arith }) (λ _. image_silent first)))

    plane_same :
        (k : ℕ) → k < length es → is_channel (entry k) ≡ true → (chosen k → ⊥) → (dest : List ℕ)
        → plane_of s' (get_or (listed s' room).entries k nowhere) dest ≡ plane_of s (entry k) dest
    plane_same k some channel sound dest =
        let e = entry k in
        let content = part_same differ e.content.start e.content.stored (λ i low high.
        elsewhere k i (own k i some (in_channel (channel, record { low = low; high = high }))) (λ z _. sound z)) in
        ap (λ (r : Listed). plane_of s' (get_or r.entries k nowhere) dest) listing_same
        ∙ ap (λ (c : ImageChunk). plane_read s' e.content.start e.content.stored e.size.plane c.compression dest) (sym (image_same (omega arith)))
        ∙ sym (plane_alike s s' e.content.start e.content.stored e.size.plane (image_in s).compression dest differ.long content)

    tables_same : (table : List ℕ) → length table / size ≡ room → lists s' table ≡ lists s table
    unfolding lists
    tables_same table is = rw is (ap (λ (r : Listed). record { told = told r; dest = tabled r table }) listing_same)

    -- no name, no content, no colour and nothing that is skipped ever decides
    pub silent_parts : Same (λ k. chosen k → ⊥) s s' room
    silent_parts = record { listing = listing_same; tables = tables_same; planes = plane_same }

  -- ### Its cases

  narrowed :
      {part : Entry → ℕ → Type 0} {chosen chosen' : ℕ → Type 0} → ((k i : ℕ) → chosen k → part (entry k) i → chosen' k × Silent (entry k) i)
      → DifferIn (Chosen part chosen es) s s' → DifferIn (Chosen Silent chosen' es) s s'
  narrowed case differ = record {
    long = differ.long;
    only = λ i other.
        let c = differ.only i other in
        let h = case c.position i c.is c.inside in
        record { position = c.position; there = c.there; is = h.0; inside = h.1 };
  }

  -- channels that are spoiled, however many
  pub spoiled_channels : (chosen : ℕ → Type 0) → DifferIn (Chosen InChannel chosen es) s s' → Same (λ k. chosen k → ⊥) s s' room
  spoiled_channels chosen differ = silent_parts chosen (narrowed (λ k i is h. (is, in_channel h)) differ)

  -- one of them
  pub one_spoiled_channel : (j : ℕ) → DifferIn (Chosen InChannel (λ k. k ≡ j) es) s s' → Same (λ k. k ≡ j → ⊥) s s' room
  one_spoiled_channel j = spoiled_channels (λ k. k ≡ j)

  -- where no channel is chosen, every plane reads the same
  every_plane :
      (chosen : ℕ → Type 0) → ((k : ℕ) → is_channel (entry k) ≡ true → chosen k → ⊥) → DifferIn (Chosen Silent chosen es) s s' → Same (λ _. Unit) s s' room
  every_plane chosen none differ =
      let all = silent_parts chosen differ in
      record { listing = all.listing; tables = all.tables; planes = λ k some channel _. all.planes k some channel (none k channel) }

  -- names, of layers and of alpha channels
  pub names_never_decide : (chosen : ℕ → Type 0) → DifferIn (Chosen InName chosen es) s s' → Same (λ _. Unit) s s' room
  names_never_decide chosen differ =
      every_plane (λ k. is_named (entry k) ≡ true) channel_nameless (narrowed (λ k i _ h. (h.kind, in_name h)) differ)
    where
      channel_nameless : (k : ℕ) → is_channel (entry k) ≡ true → is_named (entry k) ≡ true → ⊥
      channel_nameless k channel name =
          let e = (entry k).block in
          let five = eqb-true e.id 5 (both (eqb e.skipped 0) (eqb e.id 5) channel).1 in
          either (is_kind 4 (entry k)) (is_kind 8 (entry k)) name
          (λ is. omega (arith, five, eqb-true e.id 4 (both (eqb e.skipped 0) (eqb e.id 4) is).1))
          (λ is. omega (arith, five, eqb-true e.id 8 (both (eqb e.skipped 0) (eqb e.id 8) is).1))

  -- what skipped blocks hold
  pub skipped_never_decides : (chosen : ℕ → Type 0) → DifferIn (Chosen InSkipped chosen es) s s' → Same (λ _. Unit) s s' room
  skipped_never_decides chosen differ =
      every_plane (λ k. (entry k).block.skipped ≡ 1) channel_entered (narrowed (λ k i _ h. (h.0, in_skipped h)) differ)
    where
      channel_entered : (k : ℕ) → is_channel (entry k) ≡ true → (entry k).block.skipped ≡ 1 → ⊥
      channel_entered k channel skipped =
          let e = (entry k).block in omega (arith, skipped, eqb-true e.skipped 0 (both (eqb e.skipped 0) (eqb e.id 5) channel).0)
