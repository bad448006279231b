-- Document 02, request (xiv), and its near relations: what a channel stores, what a layer or an alpha channel is called, and what a skipped
-- block or a palette holds, has no say in the listing, nor in the plane of another channel.
use Rattle.std.specs.Prelude.{◌≡◌, true, List, ℕ, ◌/◌, ◌<◌, length, get_or}
use Rattle.entry.specs.declared.Entry.{Entry}
use Rattle.entry.specs.Entry.{size, nowhere}
use Rattle.kinds.specs.Unread.{InContent, InName}
use Rattle.listing.specs.Listing.{listed, lists}
use Rattle.listing.specs.Right.{is_palette, is_channel}
use Rattle.promises.specs.MoreInput.{plane_of}

-- ### The parts of an entry that have no say

-- byte i lies in the content of a channel, whether a layer, a selection or an alpha channel holds it
abbrev pub InChannel : Entry → ℕ → Type 0
InChannel e i = (is_channel e ≡ true) × InContent e i

-- in the data of a skipped block
abbrev pub InSkipped : Entry → ℕ → Type 0
InSkipped e i = (e.block.skipped ≡ 1) × InContent e i

-- in the colours of a palette
abbrev pub InColours : Entry → ℕ → Type 0
InColours e i = (is_palette e ≡ true) × InContent e i

-- in one of these, or in the 256 bytes of the name of a layer or an alpha channel
pub data Silent (e : Entry) (i : ℕ) : Type 0 where
  in_channel : InChannel e i → Silent e i
  in_skipped : InSkipped e i → Silent e i
  in_colours : InColours e i → Silent e i
  in_name : InName e i → Silent e i

-- ### Where two inputs differ

-- byte i lies in such a part of an entry that is listed, at a position that is chosen. That two inputs of one length differ only there is
-- `DifferIn (Chosen part chosen es)` (laws/specs/Differ)
pub record Chosen (part : Entry → ℕ → Type 0) (chosen : ℕ → Type 0) (es : List Entry) (i : ℕ) : Type 0 where
  pub position : ℕ
  pub there : position < length es
  pub is : chosen position
  pub inside : part (get_or es position nowhere) i

-- ### What is the same

-- read with one room
pub record Same (sound : ℕ → Type 0) (s s' : List ℕ) (room : ℕ) : Type 0 where
  -- the listing: number, place, entries
  pub listing : listed s' room ≡ listed s room
  -- so what `list` answers, and what it leaves in any table that has this room
  pub tables : (table : List ℕ) → length table / size ≡ room → lists s' table ≡ lists s table
  -- the plane of each listed channel at a sound position: number, place, bytes, and the whole destination
  pub planes :
      (k : ℕ) → k < length (listed s room).entries → is_channel (get_or (listed s room).entries k nowhere) ≡ true → sound k → (dest : List ℕ)
      → plane_of s' (get_or (listed s' room).entries k nowhere) dest ≡ plane_of s (get_or (listed s room).entries k nowhere) dest
