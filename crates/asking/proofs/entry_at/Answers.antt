-- Less is left from turn to turn, and what the paper leads to stays what it led to at the first place.
use mathlib.Core.Path.{sym, ap, ◌∙◌}
use mathlib.Core.Bool.{not}
use Rattle.answer.specs.declared.Outcome.{Outcome}
use Rattle.answer.specs.Answers.{is_accepted}
use Rattle.pencil.specs.Pencil.{header}
use Rattle.pencil.proofs.Follows.{from_first, may_look, reply_is, goes_on}
use Rattle.asking.proofs.entry_at.Goals as goal

pub returns-then-is_err : goal.returns-then-is_err
returns-then-is_err c = rw c.judge-head.ensures (header (sym (ap (λ (h : Outcome). is_accepted h.answer) c.judge-head.ensures) ∙ c.is_err.ensures.negation ∙ ap not c.if-is_err.true))

pub returns-in-Break : goal.returns-in-Break
returns-in-Break c =
    reply_is _ _ _ c.loop-reply.invariant (sym c.turn.ensures ∙ c.in-Break.is)

pub loop-reply-init : goal.loop-reply-init
loop-reply-init c = from_first _ _ _ (sym (ap (λ (h : Outcome). is_accepted h.answer) c.judge-head.ensures) ∙ c.is_err.ensures.negation ∙ ap not c.if-is_err.false)

pub turn-requires : goal.turn-requires
turn-requires c = may_look _ _ _ c.loop-reply.invariant

pub loop-reply-smaller : goal.loop-reply-smaller
loop-reply-smaller c = (goes_on _ _ _ c.loop-reply.invariant (sym c.turn.ensures ∙ c.in-Continue.is)).1

pub loop-reply-preserved : goal.loop-reply-preserved
loop-reply-preserved c = (goes_on _ _ _ c.loop-reply.invariant (sym c.turn.ensures ∙ c.in-Continue.is)).0
