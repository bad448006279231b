-- The listing by pencil (document 02, request x): one who is asked for entry k starts at byte 0 and goes from place to place. On the paper
-- stand the place, where the open blocks end, what the rules remember, and how many entries were passed; there is no table.
use Rattle.std.specs.Prelude.{ℕ, ◌+◌, ◌≡◌, true, false, List, eqb, Result, Ok, Err}
use Rattle.std.specs.declared.ops.ControlFlow.{ControlFlow}
use Rattle.std.specs.declared.ops.ControlFlow.TheVariants.{Continue, Break}
use Rattle.laws.specs.Choice.{pick}
use Rattle.answer.specs.Answers.{Answer, Accepted, is_accepted}
use Rattle.answer.specs.declared.Stopped.TheVariants.{Rule, TableFull}
use Rattle.answer.specs.declared.Outcome.{Outcome}
use Rattle.entry.specs.declared.Entry.{Entry}
use Rattle.walk.specs.Walk.{End, Stop, Leaf, Nest}
use Rattle.headers.specs.FileHeader.{file_header_size}
use Rattle.memory.specs.declared.state.State.{State}
use Rattle.memory.specs.State.{start}
use Rattle.kinds.specs.Blocks.{Judged}
use Rattle.block.specs.Step.{step_at}
use Rattle.listing.specs.Listing.{head_of, beyond}
use Rattle.pencil.specs.declared.paper.Inside.{Inside}
use Rattle.pencil.specs.declared.paper.Inside.TheVariants.{Nothing, One, Two}
use Rattle.pencil.specs.declared.paper.Paper.{Paper}

-- ### The paper

abbrev pub paper : ℕ → Inside → State → ℕ → Paper
paper place inside state count = record { place = place; inside = inside; state = state; count = count }

-- behind the file header, inside no block, with no entry passed
abbrev pub first : Paper
first = paper file_header_size Nothing start 0

-- where the inner block ends; at the main level no end is held against a block
abbrev pub end_of : Inside → ℕ
end_of Nothing = beyond
end_of (One end) = end
end_of (Two end outer) = end

-- how many more blocks may be opened. Where two are open none is, and what `entered` says of it is not asked for
abbrev pub levels_of : Inside → ℕ
levels_of Nothing = 2
levels_of (One end) = 1
levels_of (Two end outer) = 0

abbrev pub entered : ℕ → Inside → Inside
entered end Nothing = One end
entered end (One outer) = Two end outer
entered end (Two outer other) = Two end outer

-- ### One turn

-- the entry that was asked for; or, where there is none, the listing's final answer
abbrev pub Reply : Type 0
Reply = Result Entry Outcome

-- a turn breaks off with the reply, or goes on with a new paper
abbrev pub Turn : Type 0
Turn = ControlFlow Reply Paper

-- a final answer has the count of entries that were passed
abbrev pub final : Paper → Answer → ℕ → Turn
final p answer place = Break (Err (record { answer = answer; place = place; count = p.count }))

-- at an end the pencil goes out of the inner block; inside no block the file has come to its end
unfoldable pub out_of : Paper → Inside → Turn
out_of p Nothing = final p Accepted p.place
out_of p (One end) = Continue (paper end Nothing p.state p.count)
out_of p (Two end outer) = Continue (paper end (One outer) p.state p.count)

-- at an entry: no room is left for it (12), it is the one that was asked for, or it is passed
unfoldable pub passed : ℕ → ℕ → Paper → Entry → ℕ → Inside → State → Turn
passed room k p e place inside state =
    pick (eqb p.count room) (final p (Err TableFull) p.place)
    (pick (eqb p.count k) (Break (Ok e))
    (Continue (paper place inside state (p.count + 1))))

-- by what the rule of the place gives: out, stop, on behind the block, or into it
unfoldable pub turn_by : ℕ → ℕ → Paper → Judged → Turn
turn_by room k p End = out_of p p.inside
turn_by room k p (Stop refusal place) = final p (Err (Rule refusal)) place
turn_by room k p (Leaf e next state) = passed room k p e next p.inside state
turn_by room k p (Nest e inside state after) = passed room k p e inside (entered after p.inside) state

-- the rule of one place: the order of tests at every block (crate `block`)
abbrev pub rule_at : List ℕ → Paper → Judged
rule_at s p = step_at s p.state p.place (end_of p.inside) (levels_of p.inside)

unfoldable pub turn_at : List ℕ → ℕ → ℕ → Paper → Turn
turn_at s room k p = turn_by room k p (rule_at s p)

-- ### Turn after turn

-- from what stands on the paper to the reply
pub data Leads (s : List ℕ) (room k : ℕ) : Paper → Reply → Type 0 where
  says : {p : Paper} {r : Reply} → turn_at s room k p ≡ Break r → Leads s room k p r
  goes : {p q : Paper} {r : Reply} → turn_at s room k p ≡ Continue q → Leads s room k q r → Leads s room k p r

-- the file header first: its refusal is the final answer, whatever was asked
pub data Pencil (s : List ℕ) (room k : ℕ) : Reply → Type 0 where
  header : is_accepted (head_of s).answer ≡ false → Pencil s room k (Err (head_of s))
  blocks : {r : Reply} → is_accepted (head_of s).answer ≡ true → Leads s room k first r → Pencil s room k r
