-- The contracts leave the code no choice: any two outcomes that a contract of the listing admits are equal.
use Rattle.laws.specs.Outcomes.{OneResult, OneOutcome, OneFixed}
use Rattle.laws.proofs.OneOutcome.{one, answer_one, result_one}
use Rattle.answer.specs.declared.Outcome.{Outcome}
use Rattle.answer.specs.Answers.{paper}
use Rattle.answer.proofs.OneOutcome.{outcome_of, outcome_back}
use Rattle.listing.specs.declared.question.Found.{Found}
use Rattle.listing.proofs.lister.list.Reads as list
use Rattle.listing.proofs.lister.list_up_to.Reads as list-up-to
use Rattle.listing.proofs.lister.count.Reads as count
use Rattle.listing.proofs.lister.seek.Reads as seek

-- the table is left beside the outcome
pub list_one : OneOutcome (λ l e. e.1.0.now) list.Learnt
list_one l a y z e f = result_one paper outcome_of outcome_back _ y z _ _

pub list_up_to_one : OneOutcome (λ l e. e.1.1.0.now) list-up-to.Learnt
list_up_to_one l a y z e f = result_one paper outcome_of outcome_back _ y z _ _

pub count_one : OneResult count.Learnt
count_one l a y z e f p q = answer_one paper outcome_of outcome_back y z (one p q)

-- outcome and found entry; the state after the walk is left open
pub seek_one : OneFixed {Fixed = Outcome × Found} (λ l r e. (r.outcome, r.found)) seek.Learnt
seek_one l a y z e f p q = λ i. (answer_one paper outcome_of outcome_back y.outcome z.outcome (one p.0 q.0) i, one p.1 q.1 i)
