-- `reading::packets::unpack` meets its contract: with no room, refused by the first pass, and written by the second.
use mathlib.Core.Path.{sym, ap, ◌∙◌}
use borrow.Author.Tests.{lt-ltb}
use Rattle.std.specs.Prelude.{Ok, Err}
use Rattle.std.proofs.lemmas.Result.{err_from_is_err_and}
use Rattle.laws.proofs.Choice.{pick_yes}
use Rattle.packet.specs.Reading.{PlaneAnswer, left_by, unpacked}
use Rattle.reading.proofs.Answers.{laid_front, unpacked_is, unpacked_refused}
use Rattle.reading.proofs.packets.unpack.Goals as goal

pub returns-then-dest-plane : goal.returns-then-dest-plane
unfolding unpacked
returns-then-dest-plane c = sym (pick_yes _ _ _ (lt-ltb _ _ c.if-dest-plane.true))

pub returns-in_err-read : goal.returns-in_err-read
returns-in_err-read c =
    let answer = err_from_is_err_and c.from_residual.result c.from_residual.ensures.1 in
    ap (λ (r : PlaneAnswer). left_by r c.args.dest.now) (answer.1 ∙ ap Err answer.2)
    ∙ unpacked_refused _ _ _ c.in_err-read.field-0.0 c.if-dest-plane.false c.in_err-read.ensures

pub returns : goal.returns
returns c =
    unpacked_is _ _ _ (Ok c.in_ok-read.read) _ c.if-dest-plane.false c.in_ok-read.ensures (laid_front _ _ _ _ c.if-dest-plane.false c.write.ensures)
