use borrow.Author.Tests.{eq-eqb, ne_eqb}
use Rattle.laws.specs.Choice.{pick}
use Rattle.kinds.specs.Blocks.{image_judged, image_block}
use Rattle.kinds.proofs.Judging.{handed_on}
use Rattle.kinds.proofs.image.image_block.Goals as goal

pub returns-in_err-c : goal.returns-in_err-c
unfolding image_block
returns-in_err-c c =
    let a = c.args in
    handed_on _ c.from_residual.ensures.1 (c.in_err-c.ensures (image_judged a.st a.here.at a.here.level))

pub returns-in_err-permitted : goal.returns-in_err-permitted
unfolding image_block
returns-in_err-permitted c =
    let a = c.args in
    handed_on _ c.from_residual-in_err-permitted.ensures.1
    (rw (← c.in_ok-c.ensures (image_judged a.st a.here.at a.here.level), ← c.judge.ensures) (c.in_err-permitted.ensures.judged _))

pub returns-then-c-eq-LZ77 : goal.returns-then-c-eq-LZ77
unfolding image_block pick
returns-then-c-eq-LZ77 c =
    let a = c.args in
    rw (← c.in_ok-c.ensures (image_judged a.st a.here.at a.here.level), ← c.judge.ensures, ← c.in_ok-permitted.ensures.judged _, eq-eqb _ _ c.if-c-eq-LZ77.true, c.chunk_place.ensures)

pub returns : goal.returns
unfolding image_block pick
returns c =
    let a = c.args in
    rw (← c.in_ok-c.ensures (image_judged a.st a.here.at a.here.level), ← c.judge.ensures, ← c.in_ok-permitted.ensures.judged _, ne_eqb _ _ c.if-c-eq-LZ77.false, c.ranked_entry.ensures, c.with_image.ensures)
