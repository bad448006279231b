-- Where a block may stand (document 01, "Place rules"; document 02, request vii).
use Rattle.std.specs.Prelude.{ℕ, Bool, ◌&&◌, ◌||◌, eqb, leb}
use Rattle.laws.specs.Choice.{pick}
use Rattle.memory.specs.declared.parent.Parent.{Parent}
use Rattle.memory.specs.declared.parent.Parent.TheVariants.{Main, Bank, Layer, Selection, AlphaBank, Alpha}
use Rattle.memory.specs.declared.places.Placing.{Placing}
use Rattle.memory.specs.declared.places.Placing.TheVariants.{Refuse, Enter, Skip}
use Rattle.memory.specs.declared.state.State.{State}
use Rattle.memory.specs.Parent.{is_main}

-- at the main level 0, 2, 3, 6 and 7 are entered, no 4, 5 or 8 may stand, and the other ids are skipped; a bank holds layers, an alpha bank
-- alpha channels, and a layer, a selection and an alpha channel hold channels
unfoldable pub grid_of : ℕ → Parent → Placing
grid_of id Main =
    pick (eqb id 0 || eqb id 2 || eqb id 3 || eqb id 6 || eqb id 7) Enter (pick (eqb id 4 || eqb id 5 || eqb id 8) Refuse Skip)
grid_of id Bank = pick (eqb id 4) Enter Refuse
grid_of id Layer = pick (eqb id 5) Enter Refuse
grid_of id Selection = pick (eqb id 5) Enter Refuse
grid_of id AlphaBank = pick (eqb id 8) Enter Refuse
grid_of id Alpha = pick (eqb id 5) Enter Refuse

-- what was met before bars a main block: an image after the first block; a second palette, bank, selection or alpha bank; a thumbnail behind
-- the bank
abbrev pub is_barred : State → ℕ → Bool
is_barred st id =
    eqb id 0
    || (eqb id 2 && st.met.palette)
    || (eqb id 3 && st.met.bank)
    || (eqb id 9 && st.met.bank)
    || (eqb id 6 && st.met.selection)
    || (eqb id 7 && st.met.alphas)

-- at depth 24 a palette has no use
abbrev pub is_unused : State → ℕ → Bool
is_unused st id = eqb id 2 && eqb st.image.depth 24

-- the image comes first. Ids 12 and up are skipped anywhere behind it, and so is a palette that has no use
unfoldable pub place_of : State → ℕ → Parent → Placing
place_of st id parent =
    pick (eqb st.image.depth 0) (pick (eqb id 0) Enter Refuse)
    (pick (leb 12 id) Skip
    (pick (is_main parent && is_barred st id) Refuse
    (pick (is_main parent && is_unused st id) Skip
    (grid_of id parent))))
