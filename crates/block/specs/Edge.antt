-- What is known of a place before a header is read there: an end, a refusal, or a block. The code tells this apart from the block itself; that
-- both make the step of the place is the law `edge_step`.
use Rattle.std.specs.Prelude.{ℕ, ◌-◌, Bool, false, List, eqb, ltb, length, Result, Ok, Err}
use Rattle.laws.specs.Choice.{pick}
use Rattle.answer.specs.declared.Refusal.{Refusal}
use Rattle.answer.specs.declared.Refusal.TheVariants.{EndsTooSoon, WrongLength, Missing}
use Rattle.walk.specs.Walk as walk
use Rattle.headers.specs.BlockHeader.{block_header_size}
use Rattle.memory.specs.declared.state.State.{State}
use Rattle.memory.specs.Parent.{main, parent_at}
use Rattle.memory.specs.State.{is_full}
use Rattle.kinds.specs.declared.answers.Stop.{Stop}
use Rattle.kinds.specs.Blocks.{Judged}
use Rattle.block.specs.declared.looking.Edge.{Edge}
use Rattle.block.specs.declared.looking.Edge.TheVariants.{End, Block}
use Rattle.block.specs.Step.{block_at}

-- blocks end with their parent, and those of the main level with the input
abbrev pub ends_at : List ℕ → ℕ → ℕ → ℕ → Bool
ends_at s at end levels = pick (eqb levels main) (eqb at (length s)) (eqb at end)

-- where something is missing at an end: more input may bring it to the main level, and nothing brings it to a parent
abbrev pub lacking_at : ℕ → Refusal
lacking_at levels = pick (eqb levels main) EndsTooSoon Missing

-- a parent has 1 to 13 bytes left
abbrev pub is_short : ℕ → ℕ → ℕ → Bool
is_short at end levels = pick (eqb levels main) false (ltb (end - at) block_header_size)

unfoldable pub edge_of : List ℕ → State → ℕ → ℕ → ℕ → Result Edge Stop
edge_of s st at end levels =
    pick (ends_at s at end levels) (pick (is_full st (parent_at st.opened levels)) (Ok End) (Err (record { refusal = lacking_at levels; place = at })))
    (pick (is_short at end levels) (Err (record { refusal = WrongLength; place = at })) (Ok Block))

-- the step that it makes; that of a block is by the tests of its header
abbrev pub edged : List ℕ → State → ℕ → ℕ → ℕ → Result Edge Stop → Judged
edged s st at end levels (Ok End) = walk.End
edged s st at end levels (Ok Block) = block_at s st at end levels
edged s st at end levels (Err stop) = walk.Stop stop.refusal stop.place
