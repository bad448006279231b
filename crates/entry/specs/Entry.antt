-- An entry by what it tells of its block, its fourteen numbers in the table's order, and where a table keeps them (document 01, "The table").
use Rattle.std.specs.Prelude.{ℕ, ◌+◌, ◌*◌, ◌/◌, Bool, ◌&&◌, List, [], ◌∷◌, ◌++◌, eqb, ltb, length, get_or}
use Rattle.laws.specs.Choice.{pick}
use Rattle.laws.specs.Lists.{over}
use Rattle.rect.specs.Rows.{no_size}
use Rattle.entry.specs.declared.Block.{Block}
use Rattle.entry.specs.declared.Code.{Code}
use Rattle.entry.specs.declared.Content.{Content}
use Rattle.entry.specs.declared.Entry.{Entry}

-- the numbers of an entry
abbrev pub size : ℕ
size = 14

-- ### An entry, by what it tells. A part without meaning for its kind is zeros

-- id, skipped, level, header place, bytes owned
abbrev pub block : ℕ → ℕ → ℕ → ℕ → ℕ → Block
block id skipped level place owned = record { id = id; skipped = skipped; level = level; place = place; owned = owned }

abbrev pub code : ℕ → ℕ → Code
code bitmap channel = record { bitmap = bitmap; channel = channel }

abbrev pub content : ℕ → ℕ → Content
content start stored = record { start = start; stored = stored }

-- a block that tells nothing more; one with a rank; one with content
abbrev pub plain : Block → Entry
plain b = record { block = b; layer = 0; code = code 0 0; content = content 0 0; size = no_size }

abbrev pub ranked : Block → ℕ → Entry
ranked b n = record { block = b; layer = n; code = code 0 0; content = content 0 0; size = no_size }

abbrev pub filled : Block → Content → Entry
filled b c = record { block = b; layer = 0; code = code 0 0; content = c; size = no_size }

-- no entry
abbrev pub nowhere : Entry
nowhere = plain (block 0 0 0 0 0)

-- an entry of this id, of a block that is not skipped
abbrev pub is_kind : ℕ → Entry → Bool
is_kind id e = eqb e.block.skipped 0 && eqb e.block.id id

-- ### In a table

abbrev pub numbers_of : Entry → List ℕ
numbers_of e =
    e.block.id ∷ e.block.skipped ∷ e.block.level ∷ e.block.place ∷ e.block.owned ∷ e.layer ∷ e.code.bitmap ∷ e.code.channel
    ∷ e.content.start ∷ e.content.stored ∷ e.size.width ∷ e.size.height ∷ e.size.plane ∷ e.size.row ∷ []

-- the entry whose fourteen numbers stand in a table from a place on
abbrev pub entry_at : List ℕ → ℕ → Entry
entry_at t at = record {
  block = block (get_or t at 0) (get_or t (at + 1) 0) (get_or t (at + 2) 0) (get_or t (at + 3) 0) (get_or t (at + 4) 0);
  layer = get_or t (at + 5) 0;
  code = code (get_or t (at + 6) 0) (get_or t (at + 7) 0);
  content = content (get_or t (at + 8) 0) (get_or t (at + 9) 0);
  size = record { width = get_or t (at + 10) 0; height = get_or t (at + 11) 0; plane = get_or t (at + 12) 0; row = get_or t (at + 13) 0 };
}

-- the numbers of entries, one after another
unfoldable pub numbers : List Entry → List ℕ
numbers [] = []
numbers (e ∷ es) = numbers_of e ++ numbers es

-- t with an entry as its index-th, where t reaches
unfoldable pub stored : List ℕ → ℕ → Entry → List ℕ
stored t index e = pick (ltb index (length t / size)) (over t (index * size) (numbers_of e)) t

-- what is kept of entries, from the index-th on: `put` says what is kept of one
unfoldable pub keep : {K : Type 0} → (K → ℕ → Entry → K) → K → ℕ → List Entry → K
keep put k index [] = k
keep put k index (e ∷ es) = keep put (put k index e) (index + 1) es

-- t with entries from the index-th on, where t reaches
abbrev pub write : List ℕ → ℕ → List Entry → List ℕ
write = keep stored
