-- Request (xi) of the exported functions: clipping in any order by `psp_intersect`, and a plane that `psp_place` places again. Their contracts
-- are those of `intersect` and `place`.
use Rattle.laws.specs.Outcomes.{Call}
use Rattle.laws.proofs.OneOutcome.{call_is}
use Rattle.rect.specs.Shared.{shared_of}
use Rattle.rect.specs.Clipping.{Clips}
use Rattle.rect.proofs.Clips.{clips, two}
use Rattle.canvas.specs.Touching.{placed_by, Places}
use Rattle.canvas.proofs.Called.{given, places}
use Rattle.psp_c.proofs.placing.psp_intersect.Reads as intersect
use Rattle.psp_c.proofs.placing.psp_place.Reads as place

pub psp_intersect_clips : Clips (λ a b p. Call two (λ l y e. y) intersect.Learnt (a, b) p)
psp_intersect_clips = clips (λ a b p. call_is (λ g. shared_of g.0 g.1) (λ l a y e h. h))

pub psp_place_places : Places (Call given (λ l n e. record { told = n; dest = e.1.1.0.now }) place.Learnt)
psp_place_places = places (λ g s. call_is placed_by (λ l a y e h. h))
