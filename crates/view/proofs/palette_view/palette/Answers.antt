use mathlib.Core.Path.{sym, ap, ◌∙◌}
use Rattle.std.specs.Prelude.{Ok}
use Rattle.view.proofs.Place.{whole_of}
use Rattle.view.proofs.Views.{palette_inside, ramp_long, shown_is}
use Rattle.view.proofs.palette_view.palette.Goals as goal

pub of-requires : goal.of-requires
of-requires c = palette_inside _ _ _ c.in-Input.span (sym c.seek_palette.ensures ∙ c.in_ok-span.was ∙ ap Ok c.in-Input.is)

-- all of the ramp
pub returns-in-WholeRamp : goal.returns-in-WholeRamp
returns-in-WholeRamp c =
    let is = sym c.seek_palette.ensures ∙ c.in_ok-span.was ∙ ap Ok c.in-WholeRamp.is in
    shown_is _ _ is (whole_of c.args.ramp 1024 (ramp_long _ _ _ is))
