-- The contract leaves the program's listing one outcome, and one end content of the table.
use Rattle.laws.specs.Outcomes.{OneOutcome}
use Rattle.laws.proofs.OneOutcome.{result_one}
use Rattle.answer.specs.Answers.{paper}
use Rattle.answer.proofs.OneOutcome.{outcome_of, outcome_back}
use Rattle.psplist.proofs.lines.list.Reads as list

pub program_list_one : OneOutcome (λ l e. e.1.0.now) list.Learnt
program_list_one l a y z e f = result_one paper outcome_of outcome_back _ y z _ _
