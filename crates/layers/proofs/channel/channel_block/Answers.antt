use Rattle.kinds.proofs.Judging.{handed_on}
use Rattle.layers.specs.Layers.{channel_judged, channel_coded, channel_sized, channel_block}
use Rattle.layers.proofs.channel.channel_block.Goals as goal

pub returns-in_err-c : goal.returns-in_err-c
unfolding channel_block
returns-in_err-c c = handed_on _ c.from_residual.ensures.1 (c.in_err-c.ensures (let a = c.args in channel_judged a.here.input.now a.st a.parent a.total a.here.at a.here.level))

pub returns-in_err-unless : goal.returns-in_err-unless
unfolding channel_block channel_coded channel_sized
returns-in_err-unless c =
    handed_on _ c.from_residual-in_err-unless.ensures.1
    (rw (← c.in_ok-c.ensures (let a = c.args in channel_judged a.here.input.now a.st a.parent a.total a.here.at a.here.level)) (c.in_err-unless.ensures _))

pub returns-in_err-permitted : goal.returns-in_err-permitted
unfolding channel_block channel_coded channel_sized
returns-in_err-permitted c =
    handed_on _ c.from_residual-in_err-permitted.ensures.1
    (rw (← c.in_ok-c.ensures (let a = c.args in channel_judged a.here.input.now a.st a.parent a.total a.here.at a.here.level), ← c.in_ok-unless.ensures _, ← c.judge_codes.ensures) (c.in_err-permitted.ensures.judged _))

pub returns-in_err-unless-2 : goal.returns-in_err-unless-2
unfolding channel_block channel_coded channel_sized
returns-in_err-unless-2 c =
    handed_on _ c.from_residual-in_err-unless-2.ensures.1
    (rw (← c.in_ok-c.ensures (let a = c.args in channel_judged a.here.input.now a.st a.parent a.total a.here.at a.here.level), ← c.in_ok-unless.ensures _, ← c.judge_codes.ensures, ← c.in_ok-permitted.ensures.judged _, ← c.awaited.ensures) (c.in_err-unless-2.ensures _))

pub returns-in_err-permitted-2 : goal.returns-in_err-permitted-2
unfolding channel_block channel_coded channel_sized
returns-in_err-permitted-2 c =
    handed_on _ c.from_residual-in_err-permitted-2.ensures.1
    (rw (← c.in_ok-c.ensures (let a = c.args in channel_judged a.here.input.now a.st a.parent a.total a.here.at a.here.level), ← c.in_ok-unless.ensures _, ← c.judge_codes.ensures, ← c.in_ok-permitted.ensures.judged _, ← c.awaited.ensures, ← c.in_ok-unless-2.ensures _, ← c.shape_for-shape.ensures.0, ← c.judge_plane.ensures) (c.in_err-permitted-2.ensures.judged _))

pub returns-in_err-next : goal.returns-in_err-next
unfolding channel_block channel_coded channel_sized
returns-in_err-next c =
    handed_on _ c.from_residual-in_err-next.ensures.1
    (rw (← c.in_ok-c.ensures (let a = c.args in channel_judged a.here.input.now a.st a.parent a.total a.here.at a.here.level), ← c.in_ok-unless.ensures _, ← c.judge_codes.ensures, ← c.in_ok-permitted.ensures.judged _, ← c.awaited.ensures, ← c.in_ok-unless-2.ensures _, ← c.shape_for-shape.ensures.0, ← c.judge_plane.ensures, ← c.in_ok-permitted-2.ensures.judged _) (c.in_err-next.ensures.judged _))

pub returns : goal.returns
unfolding channel_block channel_coded channel_sized
returns c =
    rw (← c.in_ok-c.ensures (let a = c.args in channel_judged a.here.input.now a.st a.parent a.total a.here.at a.here.level), ← c.in_ok-unless.ensures _, ← c.judge_codes.ensures, ← c.in_ok-permitted.ensures.judged _, ← c.awaited.ensures, ← c.in_ok-unless-2.ensures _, ← c.shape_for-shape.ensures.0, ← c.judge_plane.ensures, ← c.in_ok-permitted-2.ensures.judged _, c.channel_entry.ensures, c.with_channel.ensures, c.in_ok-next.ensures.there.0, c.size.ensures)
    (c.in_ok-next.ensures.judged _)
