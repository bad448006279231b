-- `saved::writer::put_file` meets its contract: length, version, count and numbers, one behind another.
use mathlib.Core.Path.{ap, ◌∙◌}
use Prim.Native.Nat.{ℕ}
use lib.ListN.{set}
use Rattle.laws.specs.Lists.{over}
use Rattle.endian.specs.Number.{big_bytes_of}
use Rattle.saved.proofs.Form.{file_put, over_behind}
use Rattle.saved.proofs.writer.put_file.Goals as goal

pub returns : goal.returns
returns c =
    let a = c.args in
    file_put a.table.now a.dest.now _ _ _ _ a.count c.requires.0 c.requires.2 c.put_u32.ensures
    (c.put_u32-2.ensures ∙ ap (λ (v : ℕ). over (set c.put_u32.new.dest 4 v) 5 (big_bytes_of 4 a.count)) (c.from.ensures ∙ c.version_of.ensures))
    (over_behind c.put_u32-2.new.dest _ c.put_numbers.new.dest 9 c.put_numbers.ensures)
