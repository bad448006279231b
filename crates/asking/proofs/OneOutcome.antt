-- The contract leaves the code no choice: any two replies that the pencil may give are one.
use mathlib.Core.Path.{sym, ◌∙◌}
use Rattle.laws.specs.Outcomes.{OneResult}
use Rattle.pencil.proofs.Agree.{agrees}
use Rattle.asking.proofs.entry_at.Reads as entry_at

pub entry_at_one : OneResult entry_at.Learnt
entry_at_one l a y z e f p q = let g = (agrees _ _).only _ in g y p ∙ sym (g z q)
