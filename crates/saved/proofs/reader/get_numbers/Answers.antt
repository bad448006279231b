-- `saved::reader::get_numbers` meets its contract. The loop's invariant: i numbers are stored.
use native.Mathlib.Omega.{arith}
use lib.ListN.{length}
use Rattle.laws.proofs.Stored.{stored_first}
use Rattle.saved.proofs.Form.{numbers_at_length, get_next, get_last}
use Rattle.saved.proofs.reader.get_numbers.Goals as goal

pub loop-i-init : goal.loop-i-init
loop-i-init c = stored_first _ _ _ (omega (arith, numbers_at_length (length c.args.numbers.now) c.args.bytes.now 0))

pub loop-i-preserved : goal.loop-i-preserved
loop-i-preserved c = get_next _ _ _ _ _ c.loop-i-test.true c.u32_at.ensures.value c.loop-i.invariant

pub returns : goal.returns
returns c = get_last _ _ _ _ (omega arith) c.loop-i.invariant
