-- Demand 1: every input gets an end and an answer, however damaged or short; a refusal has its number and leaves what was lent.
-- That a call ends, and that an entry point may be called with any arguments, the kit proves of each function that has no `requires`.
-- Here stands what the answers say, and what they leave.
use Rattle.std.specs.Prelude.{◌≡◌, ◌⊎◌, true, false, List, [], ℕ, ◌≤◌, length, take, drop, Err}
use Rattle.laws.specs.Results.{Result}
use Rattle.answer.specs.Answers.{is_accepted}
use Rattle.answer.specs.declared.Stopped.TheVariants.{TableFull}
use Rattle.walk.specs.Room.{Listed}
use Rattle.walk.specs.Promised.{Full}
use Rattle.walk.specs.Course.{Stand, stand, Exactly}
use Rattle.headers.specs.FileHeader.{file_header_size}
use Rattle.memory.specs.declared.state.State.{State}
use Rattle.memory.specs.Parent.{main}
use Rattle.memory.specs.State.{start}
use Rattle.block.specs.Step.{step_at}
use Rattle.listing.specs.Listing.{head_of, beyond, listing, listed}
use Rattle.packet.specs.declared.told.Plane.{Plane}
use Rattle.packet.specs.FullPackets.{RefusedAt}

-- ### A listing holds exactly the entries found before its place

-- where the walk of the blocks begins: behind the file header, inside nothing
abbrev pub behind_header : Stand State
behind_header = stand file_header_size beyond [] start

-- A file header that is refused: its own answer and place, and no entry. Behind one that passes: the entries of the walk's course, side by
-- side from byte 36; where they end the look gives the answer and its place, or finds one entry more than there is room for.
pub data Exact (s : List ℕ) (room : ℕ) : Listed → Type 0 where
  header : is_accepted (head_of s).answer ≡ false → Exact s room (record { answer = (head_of s).answer; place = (head_of s).place; entries = [] })
  blocks : {r : Listed} → is_accepted (head_of s).answer ≡ true → Exactly (step_at s) main behind_header room r → Exact s room r

pub record ListsExactly (s : List ℕ) (room : ℕ) : Type 0 where
  -- what is listed is exact, and nothing else would be
  pub exact : Exact s room (listed s room)
  pub only : (r : Listed) → Exact s room r → r ≡ listed s room
  -- any larger room gives every answer but "table full" the same number, place and entries
  pub larger : (more : ℕ) → room ≤ more → ((listed s room).answer ≡ Err TableFull → ⊥) → listed s more ≡ listed s room
  -- and "table full" names the first entry that did not fit
  pub first_out : (listed s room).answer ≡ Err TableFull → Full (listing s).entries room (listed s room)

-- ### What is lent is left

-- document 01's numbers: 0, or a refusal's
abbrev pub Numbered : ℕ → ℕ → ℕ → Type 0
Numbered low high n = (n ≡ 0) ⊎ ((low ≤ n) × (n ≤ high))

-- a buffer that holds these in front, and behind them what it held before
pub record Holds {A : Type 0} (xs before after : List A) : Type 0 where
  pub front : take (length xs) after ≡ xs
  pub rest : drop (length xs) after ≡ drop (length xs) before
  pub long : length after ≡ length before

-- a call that refuses leaves its buffer as it was: a plane, a packed plane, a canvas, a saved table, a table
pub record Refuses {P : Type 0} (number : P → ℕ) (low high : ℕ) (before : List ℕ) (r : Result P) : Type 0 where
  pub numbered : Numbered low high (number r.told)
  pub untouched : (number r.told ≡ 0 → ⊥) → r.dest ≡ before

-- the packet reader's own refusals, 21 to 23, are at the start of a packet: all before it are packets for the plane, and the look there refuses so
abbrev pub RefusesAtPacket : List ℕ → ℕ → Plane → Type 0
RefusesAtPacket stream plane told = 21 ≤ told.number → told.number ≤ 23 → RefusedAt stream plane told.number told.place
