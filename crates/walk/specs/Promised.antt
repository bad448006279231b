-- The claims of a listing that follow from what the rules owe.
use Rattle.std.specs.Prelude.{◌≡◌, List, [], ◌∷◌, ◌++◌, ℕ, suc, ◌+◌, ◌≤◌, ◌<◌, length, Err}
use Rattle.laws.specs.Front.{Front}
use Rattle.answer.specs.declared.Refusal.TheVariants.{EndsTooSoon}
use Rattle.answer.specs.Answers.{Accepted}
use Rattle.answer.specs.declared.Stopped.TheVariants.{Rule, TableFull}
use Rattle.entry.specs.declared.Entry.{Entry}
use Rattle.walk.specs.Room.{Listed}

-- ### Bytes owned

-- the entries lie side by side, from a to b
pub data Tiles : ℕ → List Entry → ℕ → Type 0 where
  none : {a : ℕ} → Tiles a [] a
  next : {a b : ℕ} {e : Entry} {es : List Entry} → e.block.place ≡ a → Tiles (a + e.block.owned) es b → Tiles a (e ∷ es) b

unfoldable pub total : List Entry → ℕ
total [] = 0
total (e ∷ es) = e.block.owned + total es

-- of any answer, accepted or refused: its entries lie side by side from a on, up to a place at or before the answer's
pub record Found (a : ℕ) (r : Listed) : Type 0 where
  pub upto : ℕ
  pub tiles : Tiles a r.entries upto
  pub before : upto ≤ r.place

-- the i-th entry owns byte k
pub data Owner (k : ℕ) : List Entry → ℕ → Type 0 where
  here : {e : Entry} {es : List Entry} → e.block.place ≤ k → k < e.block.place + e.block.owned → Owner k (e ∷ es) 0
  there : {e : Entry} {es : List Entry} {i : ℕ} → Owner k es i → Owner k (e ∷ es) (suc i)

-- one entry owns byte k, and no other
pub record OneOwner (k : ℕ) (es : List Entry) : Type 0 where
  pub index : ℕ
  pub owns : Owner k es index
  pub only : (j : ℕ) → Owner k es j → j ≡ index

-- ### The room

-- the table is full: of all entries as many as have room are listed, and the place is the header of the first that has none
pub record Full (all : List Entry) (room : ℕ) (r : Listed) : Type 0 where
  pub first : Entry
  pub more : List Entry
  pub is : all ≡ r.entries ++ first ∷ more
  pub count : length r.entries ≡ room
  pub place : r.place ≡ first.block.place

-- ### More input, and more room

-- the answer to a beginning of the input with some room, and to the whole of it with at least that room
pub record Stands (a b : Listed) : Type 0 where
  pub entries : Front a.entries b.entries
  pub settled : (a.answer ≡ Accepted → ⊥) → (a.answer ≡ Err (Rule EndsTooSoon) → ⊥) → (a.answer ≡ Err TableFull → ⊥) → a ≡ b

-- ### Other bytes where no step reads

-- byte i is hidden in one of these entries, which owns it
pub data Hides (hidden : Entry → ℕ → Type 0) (i : ℕ) : List Entry → Type 0 where
  here :
      {e : Entry} {es : List Entry} → e.block.place ≤ i → i < e.block.place + e.block.owned → hidden e i → Hides hidden i (e ∷ es)
  there : {e : Entry} {es : List Entry} → Hides hidden i es → Hides hidden i (e ∷ es)
