-- The listing of an input, and what listing leaves (document 01, "Answer numbers", "Units, and when they are judged").
use Rattle.std.specs.Prelude.{ℕ, ◌*◌, ◌/◌, List, ◌++◌, ltb, length, drop, Err}
use Rattle.limits.specs.Limits.{input_limit}
use Rattle.laws.specs.Choice.{pick}
use Rattle.laws.specs.Results.{Result}
use Rattle.answer.specs.declared.Refusal.TheVariants.{EndsTooSoon}
use Rattle.answer.specs.Answers.{Answer, Accepted, answer_number, is_accepted, paper}
use Rattle.answer.specs.declared.Stopped.TheVariants.{Rule, OverLimit, WrongSignature, WrongVersion}
use Rattle.answer.specs.declared.Outcome.{Outcome}
use Rattle.answer.specs.declared.Told.{Told}
use Rattle.entry.specs.Entry.{size, numbers}
use Rattle.walk.specs.Walk.{Listing, ended, run}
use Rattle.walk.specs.Room.{Listed, cut}
use Rattle.headers.specs.FileHeader.{file_header_size, version_place, file_header_at, is_signed, is_version}
use Rattle.memory.specs.declared.state.State.{State}
use Rattle.memory.specs.Parent.{main}
use Rattle.memory.specs.State.{start}
use Rattle.block.specs.Step.{step_at}

-- ### The listing

-- nothing is listed before the header has passed
abbrev pub head_answer : Answer → ℕ → Outcome
head_answer answer place = record { answer = answer; place = place; count = 0 }

-- the file header: the limit (1), presence (2), the signature (3), the versions (4)
unfoldable pub head_of : List ℕ → Outcome
head_of s =
    pick (ltb input_limit (length s)) (head_answer (Err OverLimit) 0)
    (pick (ltb (length s) file_header_size) (head_answer (Err (Rule EndsTooSoon)) 0)
    (pick (is_signed (file_header_at s 0))
    (pick (is_version (file_header_at s 0)) (head_answer Accepted file_header_size)
    (head_answer (Err WrongVersion) version_place))
    (head_answer (Err WrongSignature) 0)))

-- no end is held against a main block: no block of a permitted input ends past this
abbrev pub beyond : ℕ
beyond = 8589934592

-- behind a good header the blocks are walked
abbrev pub behind : List ℕ → Outcome → Listing State
behind s h = pick (is_accepted h.answer) (run (step_at s) (length s) start file_header_size beyond main) (ended h.answer h.place start)

-- answer, place, and all entries in file order
unfoldable pub listing : List ℕ → Listing State
listing s = behind s (head_of s)

-- ### In a table with a room

-- answer, place and entries of an input, in a table that has room for so many: it is full at the header of the first that does not fit
abbrev pub listed : List ℕ → ℕ → Listed
listed s room = cut room (listing s)

abbrev pub told : Listed → Told
told a = record { number = answer_number a.answer; place = a.place; count = length a.entries }

-- what `list` leaves: fourteen numbers an entry, room rounded down; the entries stand in front of the table, and its rest is as it was
abbrev pub tabled : Listed → List ℕ → List ℕ
tabled a table = numbers a.entries ++ drop (size * length a.entries) table

unfoldable pub lists : List ℕ → List ℕ → Result Told
lists s table = record { told = told (listed s (length table / size)); dest = tabled (listed s (length table / size)) table }

-- the same, in a room for at most so many entries
abbrev pub room_up_to : ℕ → List ℕ → ℕ
room_up_to most table = pick (ltb most (length table / size)) most (length table / size)

unfoldable pub lists_up_to : List ℕ → ℕ → List ℕ → Result Told
lists_up_to s most table = record { told = told (listed s (room_up_to most table)); dest = tabled (listed s (room_up_to most table)) table }

abbrev pub left_by : Outcome → List ℕ → Result Told
left_by o table = record { told = paper o; dest = table }
