use mathlib.Core.Path.{sym, ap, ◌∙◌}
use mathlib.Core.Bool.{not}
use native.Mathlib.Omega.{arith}
use Rattle.answer.specs.declared.Outcome.{Outcome}
use Rattle.answer.specs.Answers.{is_accepted}
use Rattle.listing.proofs.Heads.{good_small}
use Rattle.listing.proofs.WalkOutcome.{walked_leaves, refused_leaves}
use Rattle.listing.proofs.lister.walk.Goals as goal

pub returns-then-is_err : goal.returns-then-is_err
returns-then-is_err c =
    let a = c.args in
    rw c.judge-head.ensures (refused_leaves a.input.now a.room a.table.now a.question (sym (ap (λ (h : Outcome). is_accepted h.answer) c.judge-head.ensures) ∙ c.is_err.ensures.negation ∙ ap not c.if-is_err.true))

pub invariant_of-whole : goal.invariant_of-whole
invariant_of-whole c =
    record {
      small = good_small _ (sym (ap (λ (h : Outcome). is_accepted h.answer) c.judge-head.ensures) ∙ c.is_err.ensures.negation ∙ ap not c.if-is_err.false);
      order = omega arith;
      near = omega arith;
      fits = omega arith;
    }

pub returns : goal.returns
returns c =
    let a = c.args in
    walked_leaves a.input.now a.room a.table.now a.question (sym (ap (λ (h : Outcome). is_accepted h.answer) c.judge-head.ensures) ∙ c.is_err.ensures.negation ∙ ap not c.if-is_err.false) _ _ c.siblings.ensures
