-- Bytes owned: the entries of a listing lie side by side from the file header's end on, so that of an accepted file each byte is told of
-- once.
use mathlib.Core.Path.{◌≡◌}
use mathlib.Core.Bool.{true}
use mathlib.Core.List.{List}
use Prim.Native.Nat.{ℕ, ◌+◌, ◌≤◌, ◌<◌}
use native.Mathlib.Omega.{arith}
use lib.ListN.{length}
use Rattle.std.specs.Prelude.{Err}
use Rattle.answer.specs.Answers.{Accepted, is_accepted}
use Rattle.answer.specs.declared.Stopped.TheVariants.{TableFull}
use Rattle.walk.specs.Promised.{Tiles, total, Found, Full, OneOwner}
use Rattle.walk.proofs.Cut.{cut_room}
use Rattle.walk.proofs.Tiling.{tiles_total, cut_found, cut_full_tiles, cut_accepted}
use Rattle.walk.proofs.Owners.{one_owner}
use Rattle.headers.specs.FileHeader.{file_header_size}
use Rattle.memory.specs.Parent.{main}
use Rattle.memory.specs.State.{start}
use Rattle.block.specs.Step.{step_at}
use Rattle.block.proofs.Owed.{moves}
use Rattle.listing.specs.Listing.{head_of, beyond, listing, listed}
use Rattle.listing.proofs.Heads.{behind_head, accepted_good}

module _ (s : List ℕ) (room : ℕ) where
  -- an accepted file: from the header's end to the input's end, which is the answer's place
  pub accepted_tiled : (listed s room).answer ≡ Accepted → Tiles file_header_size (listed s room).entries (length s) × ((listed s room).place ≡ length s)
  accepted_tiled ok =
      let is = behind_head s (accepted_good s room ok) in
      rw is (cut_accepted main (length s) (step_at s) (moves s) start file_header_size beyond (omega arith) room (rw is at ok))

  -- the header and all bytes owned are the input's length
  pub accepted_owned : (listed s room).answer ≡ Accepted → file_header_size + total (listed s room).entries ≡ length s
  accepted_owned ok = tiles_total (accepted_tiled ok).0

  -- each byte after the header has one owner
  pub accepted_owner : (listed s room).answer ≡ Accepted → (k : ℕ) → file_header_size ≤ k → k < length s → OneOwner k (listed s room).entries
  accepted_owner ok = one_owner (accepted_tiled ok).0

  -- any answer behind a header that passes: the entries lie side by side from its end up to a place at or before the answer's
  pub found_before : is_accepted (head_of s).answer ≡ true → Found file_header_size (listed s room)
  found_before good =
      rw (behind_head s good) (cut_found main (length s) (step_at s) (moves s) start file_header_size beyond main (omega arith) (omega arith) room)

  -- where the table is full, the place is the header of the first entry that did not fit, and the entries reach it
  pub full_table :
      is_accepted (head_of s).answer ≡ true → (listed s room).answer ≡ Err TableFull
      → Full (listing s).entries room (listed s room) × Tiles file_header_size (listed s room).entries (listed s room).place
  full_table good full =
      let is = behind_head s good in
      rw is (cut_full_tiles main (length s) (step_at s) (moves s) start file_header_size beyond main (omega arith) (omega arith) room (rw is at full))

  -- the count never exceeds the room
  pub count_room : length (listed s room).entries ≤ room
  count_room = cut_room room (listing s)
