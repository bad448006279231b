use mathlib.Core.Path.{sym, ap, ◌∙◌}
use Rattle.std.specs.Prelude.{Ok}
use Rattle.view.proofs.Accepted.{accepted_has}
use Rattle.view.proofs.Asked.{went_on, told_on, accepted_shown}
use Rattle.view.proofs.facts.seek_image.Goals as goal

pub decode-requires : goal.decode-requires
decode-requires c = (accepted_has _ _ (went_on _ _ c.count.ensures c.in_ok-count.was)).inside

pub returns : goal.returns
returns c = ap Ok c.decode.ensures ∙ sym (accepted_shown _ _ _ (went_on _ _ c.count.ensures c.in_ok-count.was))

pub returns-in_err-count : goal.returns-in_err-count
returns-in_err-count c = told_on _ _ c.count.ensures c.in_err-count.was c.from_residual.ensures.1 _
