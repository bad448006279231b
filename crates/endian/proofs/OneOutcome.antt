-- Any two results that a contract admits are equal, and any two end contents of a buffer.
use mathlib.Core.Path.{refl}
use Rattle.laws.specs.Outcomes.{OneResult, OneOutcome}
use Rattle.laws.proofs.OneOutcome.{one}
use Rattle.endian.proofs.u8_at.Reads as u8-at
use Rattle.endian.proofs.u16_at.Reads as u16-at
use Rattle.endian.proofs.u32_at.Reads as u32-at
use Rattle.endian.proofs.u64_at.Reads as u64-at
use Rattle.endian.proofs.i32_at.Reads as i32-at
use Rattle.endian.proofs.f64_at.Reads as f64-at
use Rattle.endian.proofs.double_of.Reads as double-of
use Rattle.endian.proofs.big.u32_at.Reads as big-u32-at
use Rattle.endian.proofs.big.put_u32.Reads as put-u32

pub u8_at_one : OneResult u8-at.Learnt
u8_at_one l a y z e f p q = one p.value q.value

pub u16_at_one : OneResult u16-at.Learnt
u16_at_one l a y z e f p q = one p.value q.value

pub u32_at_one : OneResult u32-at.Learnt
u32_at_one l a y z e f p q = one p.value q.value

pub u64_at_one : OneResult u64-at.Learnt
u64_at_one l a y z e f p q = one p.value q.value

pub i32_at_one : OneResult i32-at.Learnt
i32_at_one l a y z e f = one

pub f64_at_one : OneResult f64-at.Learnt
f64_at_one l a y z e f = one

pub double_of_one : OneResult double-of.Learnt
double_of_one l a y z e f = one

pub big_u32_at_one : OneResult big-u32-at.Learnt
big_u32_at_one l a y z e f p q = one p.value q.value

pub put_u32_one : OneOutcome (λ l e. e.0.now) put-u32.Learnt
put_u32_one l a y z e f p q = (refl, one p q)
