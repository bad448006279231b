use mathlib.Core.Path.{sym, ap, ◌∙◌}
use Rattle.std.specs.Prelude.{Ok}
use Rattle.view.specs.Asked.{chunk_of, read_of}
use Rattle.view.proofs.Here.{here_inside}
use Rattle.view.proofs.at.read_at.Goals as goal

pub decode-requires : goal.decode-requires
decode-requires g c = here_inside _ _ _ _ _ c.in_ok-at.at (sym c.place_of.ensures ∙ c.in_ok-at.was)

pub returns : goal.returns
returns g c = ap Ok c.decode.ensures ∙ sym (ap (read_of (chunk_of g.C.Fields.fields_of g.C.Fields.SIZE c.args.input.now)) (sym c.place_of.ensures ∙ c.in_ok-at.was))
