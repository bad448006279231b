-- Each kind of block of the main level, once its header has passed: its chunk and its other units, in document 01's order of tests ("Units,
-- and when they are judged"). `at` is the header's place. Layers and channels are in the crate `layers`, selections and alpha channels in `masks`.
use Rattle.std.specs.Prelude.{ℕ, ◌+◌, ◌*◌, Bool, List, Option, None, Some, Result, Ok, Err, eqb}
use Rattle.laws.specs.Choice.{pick}
use Rattle.answer.specs.declared.Refusal.TheVariants.{WrongLength, WrongField, NotReadable}
use Rattle.entry.specs.declared.Entry.{Entry}
use Rattle.entry.specs.Entry.{block, content, plain, filled}
use Rattle.walk.specs.Walk as walk
use Rattle.walk.specs.Walk.{End, Stop, Leaf, Nest}
use Rattle.walk.specs.Unit.{unit}
use Rattle.headers.specs.BlockHeader.{block_header_size}
use Rattle.attributes.specs.declared.image_attributes.ImageChunk.{ImageChunk}
use Rattle.attributes.specs.ImageAttributes.{image_size, image_of, image_fault}
use Rattle.chunk.specs.declared.color_palette.PaletteChunk.{PaletteChunk}
use Rattle.chunk.specs.Heads.{image_head, palette_head}
use Rattle.chunk.specs.ColorPalette.{palette_size, palette_of, palette_fault}
use Rattle.memory.specs.declared.state.State.{State}
use Rattle.memory.specs.State.{with_image, with_palette, with_bank}
use Rattle.kinds.specs.declared.answers.Stop as code_stop
use Rattle.kinds.specs.declared.answers.Step.{Step}
use Rattle.kinds.specs.declared.answers.Step.TheVariants as code

abbrev pub Judged : Type 0
Judged = walk.Step State

-- the code's step or stop, as the walk's
abbrev pub told : Result Step code_stop.Stop → Judged
told (Ok code.End) = End
told (Ok (code.Leaf e next st)) = Leaf e next st
told (Ok (code.Nest e inside st after)) = Nest e inside st after
told (Err s) = Stop s.refusal s.place

-- what a test of the code lets through is judged on, and where it stops is the answer
abbrev pub tested : {A : Type 0} → Result A code_stop.Stop → (A → Judged) → Judged
tested (Ok x) rest = rest x
tested (Err s) rest = Stop s.refusal s.place

-- ### Answers

-- a refusal, unless a test holds
abbrev pub unless : Bool → Judged → Judged → Judged
unless test refusal rest = pick test rest refusal

-- a fault becomes an answer: 8 at the field (document 02, request vi)
abbrev pub wrong_field : ℕ → ℕ → Judged
wrong_field chunk offset = Stop WrongField (chunk + offset)

-- unless every field is permitted
unfoldable pub permitted : Option ℕ → ℕ → Judged → Judged
permitted None chunk rest = rest
permitted (Some offset) chunk rest = wrong_field chunk offset

-- a block that is entered behind its chunk: the chunk's fields, then the entry, the state inside, and the end that its total tells
abbrev pub nest_block : List ℕ → ℕ → ℕ → ℕ → (List ℕ → Option ℕ) → Entry → (List ℕ → State) → Judged
nest_block s total at size fault entry state =
    unit s (at + block_header_size) size (λ chunk.
    permitted (fault chunk) (at + block_header_size) (Nest entry (at + (block_header_size + size)) (state chunk) (at + block_header_size + total)))

-- ### Image, id 0: a bad field comes before a compression that is not read

abbrev pub image_read : State → ℕ → ℕ → ImageChunk → Judged
image_read st at level c =
    pick (eqb c.compression 2) (Stop NotReadable (at + block_header_size))
    (Leaf (plain (block 0 0 level at image_head)) (at + image_head) (with_image c st))

abbrev pub image_judged : State → ℕ → ℕ → ImageChunk → Judged
image_judged st at level c = permitted (image_fault c) (at + block_header_size) (image_read st at level c)

unfoldable pub image_block : List ℕ → State → ℕ → ℕ → Judged
image_block s st at level = unit s (at + block_header_size) image_size (λ chunk. image_judged st at level (image_of chunk))

-- ### Palette, id 2: the count, the total by the count, the entries

-- once the count n is permitted
unfoldable pub palette_counted : List ℕ → State → ℕ → ℕ → ℕ → ℕ → Judged
palette_counted s st total at level n =
    unless (eqb total (palette_size + 4 * n)) (Stop WrongLength at)
    (unit s (at + palette_head) (4 * n) (λ _.
    Leaf (filled (block 2 0 level at (palette_head + 4 * n)) (content (at + palette_head) (4 * n))) (at + palette_head + 4 * n) (with_palette st)))

abbrev pub palette_judged : List ℕ → State → ℕ → ℕ → ℕ → PaletteChunk → Judged
palette_judged s st total at level c =
    permitted (palette_fault st.image.depth c) (at + block_header_size) (palette_counted s st total at level c.count)

unfoldable pub palette_block : List ℕ → State → ℕ → ℕ → ℕ → Judged
palette_block s st total at level = unit s (at + block_header_size) palette_size (λ chunk. palette_judged s st total at level (palette_of chunk))

-- ### Bank, id 3: its header is all that it owns

unfoldable pub bank_block : State → ℕ → ℕ → ℕ → Judged
bank_block st total at level =
    Nest (plain (block 3 0 level at block_header_size)) (at + block_header_size) (with_bank st) (at + block_header_size + total)

-- ### A skipped block: its data is one unit

-- a palette that is skipped was met all the same
unfoldable pub skipped_by : ℕ → State → State
skipped_by id st = pick (eqb id 2) (with_palette st) st

unfoldable pub skip_block : List ℕ → State → ℕ → ℕ → ℕ → ℕ → Judged
skip_block s st id total at level =
    unit s (at + block_header_size) total (λ _.
    Leaf (filled (block id 1 level at (block_header_size + total)) (content (at + block_header_size) total)) (at + block_header_size + total) (skipped_by id st))
