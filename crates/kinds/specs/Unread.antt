-- The bytes of an entry that no rule looks at: what it stores, and the name of a layer or of an alpha channel (document 02, request xiv).
use Rattle.std.specs.Prelude.{ℕ, ◌+◌, ◌≤◌, ◌<◌, ◌≡◌, Bool, true, ◌||◌}
use Rattle.entry.specs.declared.Entry.{Entry}
use Rattle.entry.specs.Entry.{is_kind}
use Rattle.headers.specs.BlockHeader.{block_header_size}

-- byte i lies in an entry's content: a channel's, a palette's, or a skipped block's data
pub record InContent (e : Entry) (i : ℕ) : Type 0 where
  pub low : e.content.start ≤ i
  pub high : i < e.content.start + e.content.stored

-- a name is 256 bytes long
abbrev pub name_size : ℕ
name_size = 256

-- a layer, or an alpha channel
abbrev pub is_named : Entry → Bool
is_named e = is_kind 4 e || is_kind 8 e

-- in its name, with which its chunk begins
pub record InName (e : Entry) (i : ℕ) : Type 0 where
  pub kind : is_named e ≡ true
  pub low : e.block.place + block_header_size ≤ i
  pub high : i < e.block.place + block_header_size + name_size

pub data Unread (e : Entry) (i : ℕ) : Type 0 where
  stored : InContent e i → Unread e i
  named : InName e i → Unread e i
