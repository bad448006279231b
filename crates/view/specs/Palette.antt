-- The palette that is shown, and of which of two lent slices it is a part (document 01, "Canvas and palette").
use Rattle.std.specs.Prelude.{List, Result, Ok, Err, ℕ, eqb, length}
use Rattle.laws.specs.Choice.{pick}
use Rattle.entry.specs.declared.Content.{Content}
use Rattle.headers.specs.Places.{image_chunk_place}
use Rattle.attributes.specs.ImageAttributes.{image_at}
use Rattle.view.specs.declared.not_shown.Lacking.TheVariants.{Palette, Ramp}
use Rattle.view.specs.declared.not_shown.NotShown.{NotShown}
use Rattle.view.specs.declared.not_shown.NotShown.TheVariants.{Lacks}
use Rattle.view.specs.declared.part.Part.{Part}
use Rattle.view.specs.declared.shown.Shown.{Shown}
use Rattle.view.specs.declared.shown.Shown.TheVariants.{Input, WholeRamp}
use Rattle.view.specs.Asked.{palette_asked, asked, is_there, of_accepted}
use Rattle.view.specs.Shown.{part_told, span_of, Slice, ShownIn}

-- where the entries of the listed palette are
abbrev pub palette_entries : List ℕ → ℕ → Content
palette_entries s room = (asked palette_asked s room).entry.content

-- by a ramp's length: none at depth 24; the listed palette's entries; the ramp; none. What is accepted below depth 24 without a palette is grey
-- (`accepted_grey`)
unfoldable pub palette_seen : List ℕ → ℕ → ℕ → Result Shown NotShown
palette_seen s room ramp =
    of_accepted s room
    (pick (eqb (image_at s image_chunk_place).depth 24) (Err (Lacks Palette))
    (pick (is_there palette_asked s room) (Ok (Input (record { start = (palette_entries s room).start; length = (palette_entries s room).stored })))
    (pick (eqb ramp 1024) (Ok WholeRamp) (Err (Lacks Ramp)))))

unfoldable pub palette_view : List ℕ → ℕ → ℕ → Part
palette_view s room ramp = part_told (palette_seen s room ramp)

-- the slice of the two that a part is of
abbrev pub lent_to : Slice → Slice → Shown → Slice
lent_to input ramp (Input _) = input
lent_to input ramp WholeRamp = ramp

abbrev pub PaletteShown : Slice → ℕ → Slice → Result Slice NotShown → Type 0
PaletteShown input room ramp = ShownIn (lent_to input ramp) span_of (palette_seen input.now room (length ramp.now))
