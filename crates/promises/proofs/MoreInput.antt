-- Demand 3, shown. Let s be the beginning of s ++ t, both within the input limit, and let the longer have at least the shorter's room.
use mathlib.Core.Path.{◌≡◌, sym, ap, ◌∙◌}
use mathlib.Core.Bool.{true}
use mathlib.Core.List.{List, ◌++◌}
use Prim.Native.Nat.{ℕ, ◌≤◌, ◌<◌}
use native.Mathlib.Omega.{arith}
use lib.ListN.{length, get_or}
use Rattle.laws.proofs.Front.{front_length, front_at}
use Rattle.laws.proofs.Part.{part_longer}
use Rattle.limits.specs.Limits.{input_limit}
use Rattle.entry.specs.declared.Entry.{Entry}
use Rattle.entry.specs.Entry.{nowhere}
use Rattle.headers.specs.Places.{image_chunk_place}
use Rattle.attributes.specs.declared.image_attributes.ImageChunk.{ImageChunk}
use Rattle.attributes.specs.ImageAttributes.{image_size, image_of}
use Rattle.packet.specs.Reading.{plane_read}
use Rattle.packet.proofs.PlaneTests.{plane_longer}
use Rattle.listing.specs.Listing.{listed}
use Rattle.listing.specs.Right.{is_channel, image_in}
use Rattle.listing.proofs.Prefix.{beginning}
use Rattle.listing.proofs.RightEntries.{each_right}
use Rattle.promises.specs.MoreInput.{plane_of, Kept}

module _ (s t : List ℕ) (room more : ℕ) (small : length (s ++ t) ≤ input_limit) (le : room ≤ more) where
  abbrev es : List Entry
  es = (listed s room).entries

  abbrev longer : List Entry
  longer = (listed (s ++ t) more).entries

  entry_kept : (k : ℕ) (d : Entry) → k < length es → (k < length longer) × (get_or longer k d ≡ get_or es k d)
  entry_kept k d some = let front = (beginning s t room more small le).entries in (omega (arith, front_length front), front_at front k d some)

  image_kept : 0 < length es → image_in (s ++ t) ≡ image_in s
  image_kept some = ap image_of (part_longer s t image_chunk_place image_size (omega (arith, (each_right s room 0 nowhere some).image.inside)))

  plane_kept :
      (k : ℕ) (d : Entry) → k < length es → is_channel (get_or es k d) ≡ true → (dest : List ℕ)
      → plane_of (s ++ t) (get_or longer k d) dest ≡ plane_of s (get_or es k d) dest
  plane_kept k d some channel dest =
      let e = get_or es k d in
      ap (λ (x : Entry). plane_of (s ++ t) x dest) (entry_kept k d some).1
      ∙ ap (λ (c : ImageChunk). plane_read (s ++ t) e.content.start e.content.stored e.size.plane c.compression dest) (image_kept (omega arith))
      ∙ plane_longer s t e.content.start e.content.stored e.size.plane (image_in s).compression dest ((each_right s room k d some).kind 5 channel).inside

  -- more input never takes anything back
  pub more_input : Kept s t room more
  more_input = record {
    entries = entry_kept;
    image = image_kept;
    planes = plane_kept;
    refusal = λ accepted soon full. sym ((beginning s t room more small le).settled accepted soon full);
  }
