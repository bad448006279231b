-- Requests (iv) and (ix) of the exported functions: what `psp_write_table` writes and `psp_read_table` reads. Their contracts are those of
-- `write_table` and `read_table`.
use mathlib.Core.Path.{◌≡◌}
use mathlib.Core.List.{List}
use Prim.Native.Nat.{ℕ}
use Rattle.laws.specs.Outcomes.{Call}
use Rattle.laws.specs.Results.{Result}
use Rattle.laws.proofs.OneOutcome.{call_is}
use Rattle.saved.specs.declared.writer.Saved.{Saved}
use Rattle.saved.specs.declared.reader.Restored.{Restored}
use Rattle.saved.specs.Saved.{writes, reads}
use Rattle.saved.specs.Kept.{Keeps}
use Rattle.saved.specs.Earlier.{Succeeds}
use Rattle.saved.proofs.Keeps.{keeps}
use Rattle.saved.proofs.Succeeds.{succeeds}
use Rattle.psp_c.proofs.filed.psp_write_table.Reads as write
use Rattle.psp_c.proofs.filed.psp_read_table.Reads as read

-- what their contracts admit
abbrev Writing : List ℕ → List ℕ → Result Saved → Type 0
Writing t d = Call {Given = List ℕ × List ℕ} (λ l a. (a.0.now, a.1.0.now)) (λ l n e. record { told = n; dest = e.1.0.now }) write.Learnt (t, d)

abbrev Reading : List ℕ → List ℕ → Result Restored → Type 0
Reading f t = Call {Given = List ℕ × List ℕ} (λ l a. (a.0.now, a.1.0.now)) (λ l n e. record { told = n; dest = e.1.0.now }) read.Learnt (f, t)

writing_is : (t d : List ℕ) (w : Result Saved) → Writing t d w → w ≡ writes t d
writing_is t d w = call_is (λ g. writes g.0 g.1) (λ l a y e h. h)

reading_is : (f t : List ℕ) (r : Result Restored) → Reading f t r → r ≡ reads f t
reading_is f t r = call_is (λ g. reads g.0 g.1) (λ l a y e h. h)

pub psp_table_keeps : Keeps Writing Reading
psp_table_keeps = keeps writing_is reading_is

pub psp_table_succeeds : Succeeds Writing Reading
psp_table_succeeds = succeeds writing_is reading_is
