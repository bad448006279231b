-- Any two outcomes that a contract admits are equal: the entry that is read, the end contents of the table.
use mathlib.Core.Path.{refl}
use Rattle.laws.specs.Outcomes.{OneResult, OneOutcome}
use Rattle.laws.proofs.OneOutcome.{one}
use Rattle.entry.proofs.Entry.read.Reads as read
use Rattle.entry.proofs.EntryFromArrayU32EntrySIZE.from.Reads as from
use Rattle.entry.proofs.ArrayU32EntrySIZEFromEntry.from.Reads as numbers
use Rattle.entry.proofs.put.Reads as put
use Rattle.entry.proofs.store.Reads as store

pub read_one : OneResult read.Learnt
read_one l a y z e f = one

pub from_one : OneResult from.Learnt
from_one l a y z e f = one

pub numbers_one : OneResult numbers.Learnt
numbers_one l a y z e f = one

pub put_one : OneOutcome (λ l e. e.0.now) put.Learnt
put_one l a y z e f p q = (refl, one p q)

pub store_one : OneOutcome (λ l e. e.0.now) store.Learnt
store_one l a y z e f p q = (refl, one p q)
