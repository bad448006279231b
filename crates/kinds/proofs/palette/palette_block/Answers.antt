use Rattle.kinds.specs.Blocks.{palette_counted, palette_judged, palette_block}
use Rattle.kinds.proofs.Judging.{handed_on}
use Rattle.kinds.proofs.palette.palette_block.Goals as goal

pub returns-in_err-c : goal.returns-in_err-c
unfolding palette_block
returns-in_err-c c =
    let a = c.args in
    handed_on _ c.from_residual.ensures.1 (c.in_err-c.ensures (palette_judged a.here.input.now a.st a.total a.here.at a.here.level))

pub returns-in_err-permitted : goal.returns-in_err-permitted
unfolding palette_block
returns-in_err-permitted c =
    let a = c.args in
    handed_on _ c.from_residual-in_err-permitted.ensures.1
    (rw (← c.in_ok-c.ensures (palette_judged a.here.input.now a.st a.total a.here.at a.here.level), ← c.judge.ensures) (c.in_err-permitted.ensures.judged _))

pub returns-in_err-unless : goal.returns-in_err-unless
unfolding palette_block palette_counted
returns-in_err-unless c =
    let a = c.args in
    handed_on _ c.from_residual-in_err-unless.ensures.1
    (rw (← c.in_ok-c.ensures (palette_judged a.here.input.now a.st a.total a.here.at a.here.level), ← c.judge.ensures, ← c.in_ok-permitted.ensures.judged _) (c.in_err-unless.ensures _))

pub returns-in_err-next : goal.returns-in_err-next
unfolding palette_block palette_counted
returns-in_err-next c =
    let a = c.args in
    handed_on _ c.from_residual-in_err-next.ensures.1
    (rw (← c.in_ok-c.ensures (palette_judged a.here.input.now a.st a.total a.here.at a.here.level), ← c.judge.ensures, ← c.in_ok-permitted.ensures.judged _, ← c.in_ok-unless.ensures _)
    (c.in_err-next.ensures.judged _))

pub returns : goal.returns
unfolding palette_block palette_counted
returns c =
    let a = c.args in
    rw (← c.in_ok-c.ensures (palette_judged a.here.input.now a.st a.total a.here.at a.here.level), ← c.judge.ensures, ← c.in_ok-permitted.ensures.judged _, ← c.in_ok-unless.ensures _, c.filled_entry.ensures, c.with_palette.ensures, c.in_ok-next.ensures.there.0)
    (c.in_ok-next.ensures.judged _)
