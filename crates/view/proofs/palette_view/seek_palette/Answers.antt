use mathlib.Core.Path.{◌≡◌, sym, ap, ◌∙◌}
use mathlib.Core.Bool.{true, false}
use mathlib.Core.List.{List}
use Prim.Native.Nat.{ℕ}
use borrow.Author.Tests.{eq-eqb, ne_eqb}
use lib.Dec.{eqb}
use Rattle.std.specs.Prelude.{Ok, Err}
use Rattle.laws.specs.Choice.{pick}
use Rattle.laws.proofs.Choice.{pick_yes, pick_no}
use Rattle.answer.specs.Answers.{is_accepted}
use Rattle.headers.specs.Places.{image_chunk_place}
use Rattle.attributes.specs.declared.image_attributes.ImageChunk.{ImageChunk}
use Rattle.attributes.specs.ImageAttributes.{image_at}
use Rattle.listing.specs.declared.question.Found.{Found}
use Rattle.listing.specs.Listing.{listed}
use Rattle.view.specs.declared.not_shown.Lacking.TheVariants.{Ramp}
use Rattle.view.specs.declared.not_shown.NotShown.TheVariants.{Lacks}
use Rattle.view.specs.Asked.{palette_asked, is_there}
use Rattle.view.specs.Palette.{palette_seen}
use Rattle.view.specs.declared.shown.Shown.TheVariants.{Input, WholeRamp}
use Rattle.view.proofs.Accepted.{accepted_has}
use Rattle.view.proofs.Asked.{went_on, told_on, is_there_lem, not_there, accepted_shown}
use Rattle.view.proofs.palette_view.seek_palette.Goals as goal

-- below depth 24 without a palette: by the ramp
by_ramp :
    (s : List ℕ) (room ramp : ℕ) → is_accepted (listed s room).answer ≡ true → ((image_at s image_chunk_place).depth ≡ 24 → ⊥)
    → is_there palette_asked s room ≡ false → palette_seen s room ramp ≡ pick (eqb ramp 1024) (Ok WholeRamp) (Err (Lacks Ramp))
unfolding palette_seen
by_ramp s room ramp ok below none = accepted_shown _ _ _ ok ∙ pick_no _ _ _ (ne_eqb _ _ below) ∙ pick_no _ _ _ none

pub returns-in_err-seen : goal.returns-in_err-seen
unfolding palette_seen
returns-in_err-seen c = told_on _ _ c.seek-seen.ensures.0 c.in_err-seen.was c.from_residual.ensures.1 _

pub decode-image-requires : goal.decode-image-requires
decode-image-requires c = (accepted_has _ _ (went_on _ _ c.seek-seen.ensures.0 c.in_ok-seen.was)).inside

pub returns-then-image-eq24 : goal.returns-then-image-eq24
unfolding palette_seen
returns-then-image-eq24 c =
    let ok = went_on _ _ c.seek-seen.ensures.0 c.in_ok-seen.was in
    let depth = ap (λ (x : ImageChunk). x.depth) c.decode-image.ensures in
    ap Err c.into.ensures ∙ sym (accepted_shown _ _ _ ok ∙ pick_yes _ _ _ (eq-eqb _ _ (sym depth ∙ c.if-image-eq24.true)))

-- the palette is listed
pub returns-then-found-gt0 : goal.returns-then-found-gt0
unfolding palette_seen
returns-then-found-gt0 c =
    let ok = went_on _ _ c.seek-seen.ensures.0 c.in_ok-seen.was in
    let depth = ap (λ (x : ImageChunk). x.depth) c.decode-image.ensures in
    let found = c.seek-seen.ensures.1 in
    ap (λ (x : Found). Ok (Input (record { start = x.entry.content.start; length = x.entry.content.stored }))) found
    ∙ sym (accepted_shown _ _ _ ok
    ∙ pick_no _ _ _ (ne_eqb _ _ (λ z. c.if-image-eq24.false (depth ∙ z)))
    ∙ pick_yes _ _ _ (is_there_lem palette_asked _ _ found c.if-found-gt0.true))

pub returns-then-ramp-eq-RAMP : goal.returns-then-ramp-eq-RAMP
returns-then-ramp-eq-RAMP c =
    let ok = went_on _ _ c.seek-seen.ensures.0 c.in_ok-seen.was in
    let depth = ap (λ (x : ImageChunk). x.depth) c.decode-image.ensures in
    sym (by_ramp _ _ _ ok (λ z. c.if-image-eq24.false (depth ∙ z)) (not_there palette_asked _ _ c.seek-seen.ensures.1 c.if-found-gt0.false)
    ∙ pick_yes _ _ _ (eq-eqb _ _ c.if-ramp-eq-RAMP.true))

pub returns : goal.returns
returns c =
    let ok = went_on _ _ c.seek-seen.ensures.0 c.in_ok-seen.was in
    let depth = ap (λ (x : ImageChunk). x.depth) c.decode-image.ensures in
    ap Err c.into-2.ensures
    ∙ sym (by_ramp _ _ _ ok (λ z. c.if-image-eq24.false (depth ∙ z)) (not_there palette_asked _ _ c.seek-seen.ensures.1 c.if-found-gt0.false)
    ∙ pick_no _ _ _ (ne_eqb _ _ c.if-ramp-eq-RAMP.false))
