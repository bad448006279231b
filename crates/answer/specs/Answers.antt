-- The one place of document 01's answer numbers: what it tells of an answer by name (document 01, "Answer numbers").
use Rattle.std.specs.Prelude.{ℕ, Bool, Result, Ok, Err, ⊤, is_ok}
use Rattle.answer.specs.declared.Refusal.{Refusal}
use Rattle.answer.specs.declared.Refusal.TheVariants.{EndsTooSoon, WrongMark, WrongLength, OutOfPlace, WrongField, NotExpected, Missing, NotReadable}
use Rattle.answer.specs.declared.Stopped.{Stopped}
use Rattle.answer.specs.declared.Stopped.TheVariants.{OverLimit, WrongSignature, WrongVersion, Rule, TableFull}
use Rattle.answer.specs.declared.Outcome.{Outcome}
use Rattle.answer.specs.declared.Told.{Told}

abbrev pub refusal_number : Refusal → ℕ
refusal_number EndsTooSoon = 2
refusal_number WrongMark = 5
refusal_number WrongLength = 6
refusal_number OutOfPlace = 7
refusal_number WrongField = 8
refusal_number NotExpected = 9
refusal_number Missing = 10
refusal_number NotReadable = 11

abbrev pub stopped_number : Stopped → ℕ
stopped_number OverLimit = 1
stopped_number WrongSignature = 3
stopped_number WrongVersion = 4
stopped_number (Rule r) = refusal_number r
stopped_number TableFull = 12

-- what a listing answers
abbrev pub Answer : Type 0
Answer = Result ⊤ Stopped

abbrev pub Accepted : Answer
Accepted = Ok tt

abbrev pub answer_number : Answer → ℕ
answer_number (Ok _) = 0
answer_number (Err s) = stopped_number s

abbrev pub is_accepted : Answer → Bool
is_accepted a = is_ok a

-- the answer on paper: number, place and count
abbrev pub paper : Outcome → Told
paper o = record { number = answer_number o.answer; place = o.place; count = o.count }
