-- Each return by the tests that led there.
use mathlib.Core.Path.{sym, ◌∙◌}
use Rattle.rect.proofs.Tests.{within_sized}
use Rattle.canvas.proofs.PlaceTests.{bad_canvas, bad_rect, bad_plane, all_well, fit}
use Rattle.canvas.proofs.placer.place.Goals as goal

pub returns-then-not-is_canvas : goal.returns-then-not-is_canvas
returns-then-not-is_canvas c = sym (bad_canvas _ _ _ _ _ _ (sym c.is_canvas.ensures ∙ c.if-not-is_canvas.true))

pub returns-then-not-is_within : goal.returns-then-not-is_within
returns-then-not-is_within c = sym (bad_rect _ _ _ _ _ _ ((sym c.is_canvas.ensures ∙ c.if-not-is_canvas.false)) (sym c.is_within.ensures ∙ c.if-not-is_within.true))

pub is_plane-requires : goal.is_plane-requires
is_plane-requires c = within_sized _ ((sym c.is_within.ensures ∙ c.if-not-is_within.false))

pub returns-then-not-is_plane : goal.returns-then-not-is_plane
returns-then-not-is_plane c =
    sym (bad_plane _ _ _ _ _ _ ((sym c.is_canvas.ensures ∙ c.if-not-is_canvas.false)) ((sym c.is_within.ensures ∙ c.if-not-is_within.false)) (sym c.is_plane.ensures ∙ c.if-not-is_plane.true))

pub put-requires : goal.put-requires
put-requires c =
    fit _ _ _ _ _ _ ((sym c.is_canvas.ensures ∙ c.if-not-is_canvas.false)) ((sym c.is_within.ensures ∙ c.if-not-is_within.false)) ((sym c.is_plane.ensures ∙ c.if-not-is_plane.false))

pub returns : goal.returns
returns c =
    (λ i. record { told = 0; dest = c.put.ensures i }) ∙ sym (all_well _ _ _ _ _ _ ((sym c.is_canvas.ensures ∙ c.if-not-is_canvas.false)) ((sym c.is_within.ensures ∙ c.if-not-is_within.false)) ((sym c.is_plane.ensures ∙ c.if-not-is_plane.false)))
