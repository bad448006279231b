-- `saved::writer::write_table` meets its contract: too long, short of room, and written.
use mathlib.Core.Path.{sym, ap, ◌∙◌}
use Rattle.std.specs.Prelude.{Ok}
use Rattle.saved.specs.Saved.{write_result}
use Rattle.saved.proofs.Tests.{write_over_long, write_no_room, write_whole}
use Rattle.saved.proofs.writer.write_table.Goals as goal

pub returns-then-count-gt-MOST : goal.returns-then-count-gt-MOST
returns-then-count-gt-MOST c = sym (write_over_long _ _ _ c.if-count-gt-MOST.true)

pub returns-then-dest-length : goal.returns-then-dest-length
returns-then-dest-length c = sym (write_no_room _ _ _ c.if-count-gt-MOST.false c.if-dest-length.true)

pub returns : goal.returns
returns c =
    ap (write_result (Ok _)) c.put_file.ensures ∙ sym (write_whole _ _ _ c.if-count-gt-MOST.false c.if-dest-length.false)
