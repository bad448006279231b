-- Skipped blocks that are plain are passed one by one, each by a step of the rule.
use mathlib.Core.Path.{refl, sym, ap, ◌∙◌}
use mathlib.Core.List.{[], ◌∷◌, ◌++◌}
use native.Mathlib.Omega.{arith}
use Rattle.laws.specs.All.{empty}
use Rattle.laws.proofs.All.{all_more}
use Rattle.entry.specs.declared.Entry.{Entry}
use Rattle.walk.specs.Course.{start}
use Rattle.walk.proofs.CourseTurn.{leaf_more}
use Rattle.plain.specs.Skips.{is_passable}
use Rattle.plain.proofs.SkipStep.{PlainSkip, skip_steps}
use Rattle.plain.proofs.Stored.{none_stored, one_stored}
use Rattle.plain.proofs.skipped.skips.Goals as goal

pub loop-at-init : goal.loop-at-init
loop-at-init c =
    record {
      here = c.reach-stop.ensures.0;
      near = c.reach-stop.ensures.1;
      same = refl;
      passed = record { entries = []; goes = λ st begun. start; passable = empty; stores = none_stored _ _ _ _ _ c.args.stretch.order c.args.stretch.fits };
    }

pub loop-at-preserved : goal.loop-at-preserved
loop-at-preserved c =
    let i = c.loop-at.invariant in
    let p : PlainSkip c.args.stretch.input.now c.loop-at.at c.args.stretch.end c.args.levels c.args.asked c.decode-h.result = record {
      marked = sym c.marked.ensures ∙ c.if-not-marked.false;
      passable = sym c.passable.ensures ∙ c.if-not-passable.false;
      there = omega (arith, c.if-stop-next.false, i.here);
      inside = omega (arith, c.if-stop-next.false, i.near);
    } in
    record {
      here = i.here;
      near = i.near;
      same = c.store.auto.table ∙ i.same;
      passed = record {
        entries = i.passed.entries ++ c.filled_entry-e.result ∷ [];
        goes = λ st begun.
            leaf_more (i.passed.goes st begun)
            (skip_steps c.args.stretch.input.now st c.loop-at.at c.args.stretch.end c.args.levels c.args.asked begun c.decode-h.result c.decode-h.ensures p
            c.filled_entry-e.result c.filled_entry-e.ensures);
        passable = all_more i.passed.passable (ap (λ (e : Entry). is_passable c.args.levels c.args.asked e.block.id) c.filled_entry-e.ensures ∙ p.passable);
        stores = one_stored _ _ _ _ _ i.passed.stores c.if-count-stretch.false _ (omega arith) (omega (arith, c.if-stop-next.false, i.near)) c.filled_entry-e.result c.store.ensures;
      };
    }
