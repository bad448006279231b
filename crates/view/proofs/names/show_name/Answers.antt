use mathlib.Core.Path.{sym, ◌∙◌}
use Rattle.view.proofs.Accepted.{named_inside}
use Rattle.view.proofs.Views.{name_inside, shown_is}
use Rattle.view.proofs.names.show_name.Goals as goal

pub returns : goal.returns
returns g c = shown_is _ _ (sym c.seek_name.ensures ∙ c.in_ok-span.was) c.of.ensures

pub of-requires : goal.of-requires
of-requires g c =
    name_inside _ _ _ (named_inside _ _ _ _ _ _ g.met.C.Viewed.whole g.met.C.Named.name_inside) (sym c.seek_name.ensures ∙ c.in_ok-span.was)
