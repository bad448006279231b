-- A selection, an alpha bank and its alpha channels, once a header has passed: the chunk, then what is inside (document 02, request vii). `at` is
-- the header's place. Their channels are in the crate `layers`.
use Rattle.std.specs.Prelude.{ℕ, List, None}
use Rattle.entry.specs.Entry.{block, plain, ranked}
use Rattle.chunk.specs.AlphaBankInformation.{alpha_bank_size, alpha_bank_of}
use Rattle.chunk.specs.AlphaInformation.{alpha_size, alpha_of, alpha_fault}
use Rattle.chunk.specs.Heads.{selection_head, alpha_bank_head, alpha_head}
use Rattle.chunk.specs.SelectionInformation.{selection_size, selection_of, selection_fault}
use Rattle.memory.specs.declared.state.State.{State}
use Rattle.memory.specs.State.{with_selection, with_alpha_bank, with_alpha}
use Rattle.kinds.specs.Blocks.{Judged, nest_block}

-- ### Selection, id 6

unfoldable pub selection_block : List ℕ → State → ℕ → ℕ → ℕ → Judged
selection_block s st total at level =
    nest_block s total at selection_size (λ chunk. selection_fault (selection_of chunk)) (plain (block 6 0 level at selection_head))
    (λ chunk. with_selection (selection_of chunk) st)

-- ### Alpha bank, id 7: its count is not judged

unfoldable pub alpha_bank_block : List ℕ → State → ℕ → ℕ → ℕ → Judged
alpha_bank_block s st total at level =
    nest_block s total at alpha_bank_size (λ _. None) (plain (block 7 0 level at alpha_bank_head)) (λ chunk. with_alpha_bank (alpha_bank_of chunk) st)

-- ### Alpha channel, id 8: its number is its rank in the alpha bank

unfoldable pub alpha_block : List ℕ → State → ℕ → ℕ → ℕ → Judged
alpha_block s st total at level =
    nest_block s total at alpha_size (λ chunk. alpha_fault (alpha_of chunk)) (ranked (block 8 0 level at alpha_head) st.members.found)
    (λ chunk. with_alpha (alpha_of chunk) st)
