-- Any two results that a contract admits are equal. A leaf that also says a range is fixed by its value.
use Rattle.laws.specs.Outcomes.{OneResult}
use Rattle.laws.proofs.OneOutcome.{one}
use Rattle.rect.proofs.Rect.decode.Reads as decode
use Rattle.rect.proofs.Rect.intersect.Reads as intersect
use Rattle.rect.proofs.planes.row_bytes.Reads as row-bytes
use Rattle.rect.proofs.planes.is_form.Reads as is-form
use Rattle.rect.proofs.planes.Sides.of.Reads as sides
use Rattle.rect.proofs.planes.Shape.permits.Reads as permits
use Rattle.rect.proofs.planes.Shape.size.Reads as size
use Rattle.rect.proofs.Rect.is_proper.Reads as proper
use Rattle.rect.proofs.Rect.is_empty.Reads as empty
use Rattle.rect.proofs.Rect.is_inside.Reads as inside
use Rattle.rect.proofs.Rect.is_within.Reads as within
use Rattle.rect.proofs.Rect.is_saved.Reads as saved
use Rattle.rect.proofs.sides.side.Reads as side
use Rattle.rect.proofs.Rect.width.Reads as width
use Rattle.rect.proofs.Rect.height.Reads as height

pub decode_one : OneResult decode.Learnt
decode_one l a y z e f = one

pub proper_one : OneResult proper.Learnt
proper_one l a y z e f = one

pub empty_one : OneResult empty.Learnt
empty_one l a y z e f = one

pub inside_one : OneResult inside.Learnt
inside_one l a y z e f = one

pub within_one : OneResult within.Learnt
within_one l a y z e f = one

pub saved_one : OneResult saved.Learnt
saved_one l a y z e f = one

pub side_one : OneResult side.Learnt
side_one l a y z e f p q = one p.0 q.0

pub width_one : OneResult width.Learnt
width_one l a y z e f p q = one p.0 q.0

pub height_one : OneResult height.Learnt
height_one l a y z e f p q = one p.0 q.0

pub row_bytes_one : OneResult row-bytes.Learnt
row_bytes_one l a y z e f p q = one p.0 q.0

pub is_form_one : OneResult is-form.Learnt
is_form_one l a y z e f = one

pub intersect_one : OneResult intersect.Learnt
intersect_one l a y z e f = one

pub sides_one : OneResult sides.Learnt
sides_one l a y z e f = one

pub permits_one : OneResult permits.Learnt
permits_one l a y z e f = one

pub size_one : OneResult size.Learnt
size_one l a y z e f = one
