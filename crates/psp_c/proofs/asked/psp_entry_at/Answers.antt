use mathlib.Core.Path.{ap, ◌∙◌}
use Rattle.asking.specs.Told.{told}
use Rattle.pencil.proofs.Agree.{agrees}
use Rattle.psp_c.proofs.asked.psp_entry_at.Goals as goal

-- the pencil gives what the listing has
pub returns : goal.returns
returns c = c.into.ensures ∙ ap told ((agrees _ _).only _ _ c.entry_at.ensures)
