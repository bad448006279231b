-- `psplist::lines::list` meets its contract: an input over the program's limit, and any other.
use mathlib.Core.Path.{sym, ◌∙◌}
use borrow.Author.Tests.{lt-ltb, le-ltb}
use Rattle.laws.proofs.Choice.{pick_yes, pick_no}
use Rattle.psplist.specs.Program.{program_lists}
use Rattle.psplist.proofs.lines.list.Goals as goal

pub returns-then-input-gt-INPUT : goal.returns-then-input-gt-INPUT
unfolding program_lists
returns-then-input-gt-INPUT c = sym (pick_yes _ _ _ (lt-ltb _ _ c.if-input-gt-INPUT.true))

pub returns : goal.returns
unfolding program_lists
returns c = c.list.ensures ∙ sym (pick_no _ _ _ (le-ltb _ _ c.if-input-gt-INPUT.false))
