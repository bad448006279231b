-- Any two results that a contract admits are equal. A leaf that also says a bound is fixed by its value.
use mathlib.Core.Path.{◌≡◌, ap, ◌∙◌}
use Prim.Native.Nat.{ℕ}
use Rattle.std.specs.Prelude.{Option}
use Rattle.std.specs.Option.{option_or}
use Rattle.laws.specs.Outcomes.{OneResult}
use Rattle.laws.proofs.OneOutcome.{one}
use Rattle.attributes.specs.Fault.{unless_of}
use Rattle.attributes.proofs.Earliest.{behind_fault}
use Rattle.attributes.proofs.depth.bits.Reads as bits
use Rattle.attributes.proofs.depth.channels.Reads as channels
use Rattle.attributes.proofs.depth.full.Reads as full
use Rattle.attributes.proofs.depth.permitted.Reads as depth
use Rattle.attributes.proofs.depth.short.Reads as short
use Rattle.attributes.proofs.depth.within.Reads as within
use Rattle.attributes.proofs.fault.unless.Reads as unless
use Rattle.attributes.proofs.image_attributes.ImageChunkFields.decode.Reads as image
use Rattle.attributes.proofs.image_attributes.ImageChunk.judge.Reads as image-judge
use Rattle.attributes.proofs.resolution.Resolution.decode.Reads as resolution
use Rattle.attributes.proofs.resolution.Resolution.per_centimetre.Reads as per-centimetre
use Rattle.attributes.proofs.resolution.Resolution.permitted.Reads as permitted
use Rattle.attributes.proofs.resolution.usable.Reads as usable

-- ### Decoding

pub image_one : OneResult image.Learnt
image_one l a y z e f = one

pub resolution_one : OneResult resolution.Learnt
resolution_one l a y z e f = one

-- ### Tests and judges

pub image_judge_one : OneResult image-judge.Learnt
image_judge_one l a y z e f = one

pub unless_one : OneResult unless.Learnt
unless_one l a y z e f = one

-- whatever fault came before: by `or` it is kept, and of none this field is judged
pub unless_behind :
    (earlier : Option ℕ) (l : _) (a : _) (y : _) (e : _)
    → unless.Learnt l a y e → option_or earlier y ≡ unless_of earlier a.0 a.1.0
unless_behind earlier l a y e p = ap (option_or earlier) p ∙ behind_fault earlier a.0 a.1.0

pub permitted_one : OneResult permitted.Learnt
permitted_one l a y z e f = one

pub usable_one : OneResult usable.Learnt
usable_one l a y z e f = one

pub per_centimetre_one : OneResult per-centimetre.Learnt
per_centimetre_one l a y z e f = one

pub depth_one : OneResult depth.Learnt
depth_one l a y z e f = one

pub short_one : OneResult short.Learnt
short_one l a y z e f = one

pub full_one : OneResult full.Learnt
full_one l a y z e f = one

pub within_one : OneResult within.Learnt
within_one l a y z e f = one

pub channels_one : OneResult channels.Learnt
channels_one l a y z e f p q = one p.0 q.0

pub bits_one : OneResult bits.Learnt
bits_one l a y z e f p q = one p.0 q.0
