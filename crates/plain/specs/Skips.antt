-- Runs of skipped blocks.
use Rattle.std.specs.Prelude.{ℕ, ◌≡◌, Bool, true, ◌&&◌, ◌||◌, not, List, eqb, leb}
use Rattle.laws.specs.All.{All}
use Rattle.entry.specs.declared.Entry.{Entry}
use Rattle.memory.specs.declared.state.State.{State}
use Rattle.memory.specs.Parent.{main}
use Rattle.plain.specs.declared.stretch.Passed.{Passed}
use Rattle.plain.specs.Standing.{Goes, Stores}

-- an id that is skipped whatever came before: 12 and up anywhere behind the image; at the main level also 1, 10 and 11, but for one that
-- is asked about
unfoldable pub is_passable : ℕ → ℕ → ℕ → Bool
is_passable levels asked id = leb 12 id || (eqb levels main && (eqb id 1 || leb 10 id) && not (eqb id asked))

-- blocks were passed, each of a passable id; whatever the state behind the image is, it is the same behind them
pub record Skips (s : List ℕ) (first end levels asked room from : ℕ) (t : List ℕ) (r : Passed) (t' : List ℕ) : Type 0 where
  pub entries : List Entry
  pub goes : (st : State) → (st.image.depth ≡ 0 → ⊥) → Goes s end levels st first entries st r.at
  pub passable : All (λ (e : Entry). is_passable levels asked e.block.id ≡ true) entries
  pub stores : Stores first end room from t entries r.at r.count t'
