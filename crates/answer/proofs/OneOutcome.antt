-- Any two outcomes that are told alike are equal: the name is known by its number.
use mathlib.Core.Path.{◌≡◌, refl}
use Prim.Native.Nat.{ℕ}
use lib.Dec.{eqb}
use Rattle.std.specs.Prelude.{Ok, Err}
use Rattle.laws.specs.Choice.{pick}
use Rattle.answer.specs.declared.Refusal.{Refusal}
use Rattle.answer.specs.declared.Refusal.TheVariants.{EndsTooSoon, WrongMark, WrongLength, OutOfPlace, WrongField, NotExpected, Missing, NotReadable}
use Rattle.answer.specs.declared.Stopped.{Stopped}
use Rattle.answer.specs.declared.Stopped.TheVariants.{OverLimit, WrongSignature, WrongVersion, Rule, TableFull}
use Rattle.answer.specs.declared.Outcome.{Outcome}
use Rattle.answer.specs.declared.Told.{Told}
use Rattle.answer.specs.Answers.{Answer, Accepted, refusal_number, answer_number, paper}

-- what stopped it, by its number
pub stopped_of : ℕ → Stopped
stopped_of n =
    pick (eqb n 1) OverLimit
    (pick (eqb n 2) (Rule EndsTooSoon)
    (pick (eqb n 3) WrongSignature
    (pick (eqb n 4) WrongVersion
    (pick (eqb n 5) (Rule WrongMark)
    (pick (eqb n 6) (Rule WrongLength)
    (pick (eqb n 7) (Rule OutOfPlace)
    (pick (eqb n 8) (Rule WrongField)
    (pick (eqb n 9) (Rule NotExpected)
    (pick (eqb n 10) (Rule Missing)
    (pick (eqb n 11) (Rule NotReadable)
    TableFull))))))))))

-- the answer of a number
pub answer_of : ℕ → Answer
answer_of n = pick (eqb n 0) Accepted (Err (stopped_of n))

refusal_back : (r : Refusal) → answer_of (refusal_number r) ≡ Err (Rule r)
unfolding answer_of stopped_of pick
refusal_back EndsTooSoon = refl
refusal_back WrongMark = refl
refusal_back WrongLength = refl
refusal_back OutOfPlace = refl
refusal_back WrongField = refl
refusal_back NotExpected = refl
refusal_back Missing = refl
refusal_back NotReadable = refl

pub answer_back : (a : Answer) → answer_of (answer_number a) ≡ a
unfolding answer_of stopped_of pick
answer_back (Ok _) = refl
answer_back (Err OverLimit) = refl
answer_back (Err WrongSignature) = refl
answer_back (Err WrongVersion) = refl
answer_back (Err (Rule r)) = refusal_back r
answer_back (Err TableFull) = refl

-- the outcome that a paper tells of
pub outcome_of : Told → Outcome
outcome_of t = record { answer = answer_of t.number; place = t.place; count = t.count }

pub outcome_back : (o : Outcome) → outcome_of (paper o) ≡ o
unfolding outcome_of
outcome_back o = λ i. record { answer = answer_back o.answer i; place = o.place; count = o.count }
