-- What a view asks of the listing, and what all views have in common: any of them is refused alike, by the listing's own number first.
use Rattle.std.specs.Prelude.{ℕ, ◌+◌, ◌≤◌, ◌≡◌, Bool, List, Result, Ok, Err, ltb, length}
use Rattle.laws.specs.Choice.{pick}
use Rattle.laws.specs.Lists.{part}
use Rattle.answer.specs.Answers.{Answer}
use Rattle.headers.specs.BlockHeader.{block_header_size}
use Rattle.listing.specs.declared.question.Question.{Question}
use Rattle.listing.specs.declared.question.Found.{Found}
use Rattle.listing.specs.Listing.{listed}
use Rattle.listing.specs.Question.{question, found_in}
use Rattle.view.specs.declared.not_shown.Lacking.{Lacking}
use Rattle.view.specs.declared.not_shown.Lacking.TheVariants.{Layer}
use Rattle.view.specs.declared.not_shown.NotShown.{NotShown}
use Rattle.view.specs.declared.not_shown.NotShown.TheVariants.{Listing, Lacks}
use Rattle.view.specs.NotShown.{not_shown_number}

-- ### Questions

-- layer k, counted from 0
abbrev pub layer_asked : ℕ → Question
layer_asked k = question 4 0 k

-- the palette: there is at most one
abbrev pub palette_asked : Question
palette_asked = question 2 0 0

-- of the entries that are listed in a room
abbrev pub asked : Question → List ℕ → ℕ → Found
asked q s room = found_in q (listed s room).entries

-- there are so many that the one asked for is among them
abbrev pub is_there : Question → List ℕ → ℕ → Bool
is_there q s room = ltb q.index (asked q s room).count

-- ### Views, by what they tell of a refusal

-- what is shown where the listing answers so
abbrev pub if_accepted : {A : Type 0} → Result A NotShown → Answer → Result A NotShown
if_accepted shown (Ok _) = shown
if_accepted shown (Err stopped) = Err (Listing stopped)

-- what is shown of an accepted input
unfoldable pub of_accepted : {A : Type 0} → List ℕ → ℕ → Result A NotShown → Result A NotShown
of_accepted s room shown = if_accepted shown (listed s room).answer

-- where the chunk of what was asked for is
abbrev pub chunk_place : Question → List ℕ → ℕ → ℕ
chunk_place q s room = (asked q s room).entry.block.place + block_header_size

-- where a chunk is, or why there is none
abbrev pub Sought : Type 0
Sought = Result ℕ NotShown

-- the chunk of the k-th block of an id: the listing's own refusal; then what is lacking, where there is no such block
unfoldable pub chunk_sought : List ℕ → ℕ → ℕ → Lacking → ℕ → Sought
chunk_sought s room id lacking k =
    of_accepted s room (pick (is_there (question id 0 k) s room) (Ok (chunk_place (question id 0 k) s room)) (Err (Lacks lacking)))

-- where a chunk was found, so many bytes of it lie inside the input
abbrev pub Inside : ℕ → List ℕ → Sought → Type 0
Inside size s sought = (place : ℕ) → sought ≡ Ok place → place + size ≤ length s

-- the chunk at a place, of so many bytes, whose fields are read so
abbrev pub chunk_of : {A : Type 0} → (List ℕ → A) → ℕ → List ℕ → ℕ → A
chunk_of fields_of size s at = fields_of (part s at size)

-- what is read of a chunk by its place
abbrev pub read_of : {A : Type 0} → (ℕ → A) → Sought → Result A NotShown
read_of read (Ok place) = Ok (read place)
read_of read (Err e) = Err e

-- what C gets of something that is shown, or of a refusal by its number
abbrev pub shown_of : {A B : Type 0} → (ℕ → A) → (B → A) → Result B NotShown → A
shown_of refused shown (Ok x) = shown x
shown_of refused shown (Err e) = refused (not_shown_number e)

-- of layer k: there may be no layer k
abbrev pub layer_sought : List ℕ → ℕ → ℕ → Sought
layer_sought s room k = chunk_sought s room 4 Layer k
