-- The answers: each is told by its paper alone, so each contract leaves one outcome for every input.
use mathlib.Core.Path.{◌≡◌, refl}
use Prim.Native.Nat.{ℕ}
use lib.Dec.{eqb}
use Rattle.std.specs.Prelude.{Result as Answer}
use Rattle.std.specs.Prelude.{Ok, Err}
use Rattle.laws.specs.Choice.{pick}
use Rattle.laws.specs.Outcomes.{OneOutcome}
use Rattle.laws.proofs.OneOutcome.{result_one}
use Rattle.saved.specs.declared.writer.Saved.{Saved}
use Rattle.saved.specs.declared.writer.WriteError.{WriteError}
use Rattle.saved.specs.declared.writer.WriteError.TheVariants as write
use Rattle.saved.specs.declared.reader.Restored.{Restored}
use Rattle.saved.specs.declared.reader.ReadError.{ReadError}
use Rattle.saved.specs.declared.reader.ReadError.TheVariants as read
use Rattle.saved.specs.Saved.{write_paper, read_paper}
use Rattle.saved.proofs.writer.write_table.Reads as write-table
use Rattle.saved.proofs.reader.read_table.Reads as read_table

-- the answer that a paper tells of
write_of : Saved → Answer ℕ WriteError
write_of p = pick (eqb p.number 0) (Ok p.length) (pick (eqb p.number 70) (Err write.OverLong) (Err write.NoRoom))

write_back : (a : Answer ℕ WriteError) → write_of (write_paper a) ≡ a
unfolding write_of pick
write_back (Ok n) = refl
write_back (Err write.OverLong) = refl
write_back (Err write.NoRoom) = refl

read_of : Restored → Answer ℕ ReadError
read_of p =
    pick (eqb p.number 0) (Ok p.count)
    (pick (eqb p.number 70) (Err read.WrongLength)
    (pick (eqb p.number 71) (Err read.WrongVersion)
    (pick (eqb p.number 72) (Err read.WrongCount)
    (pick (eqb p.number 74) (Err read.WrongSides) (Err read.NoRoom)))))

read_back : (a : Answer ℕ ReadError) → read_of (read_paper a) ≡ a
unfolding read_of pick
read_back (Ok n) = refl
read_back (Err read.WrongLength) = refl
read_back (Err read.WrongVersion) = refl
read_back (Err read.WrongCount) = refl
read_back (Err read.WrongSides) = refl
read_back (Err read.NoRoom) = refl

pub write_table_one : OneOutcome (λ l e. e.1.0.now) write-table.Learnt
write_table_one l a y z e f = result_one write_paper write_of write_back _ y z _ _

pub read_table_one : OneOutcome (λ l e. e.1.0.now) read_table.Learnt
read_table_one l a y z e f = result_one read_paper read_of read_back _ y z _ _
