-- The sizes of the packets are summed up, and the sum stays below the bound of every packed form.
use mathlib.Core.Path.{◌∙◌}
use native.Mathlib.Omega.{arith}
use Rattle.std.proofs.Common.{rules, tests}
use Rattle.std.proofs.lemmas.Iterator.{YieldsList, YieldsList-from_map}
use Rattle.std.proofs.lemmas.Iterator.Consumers.{YieldsList-at, YieldsList-from_shown, sum_by_from_yields_List, fits_by_from_yields_list}
use Rattle.packet.specs.Stream.{size_of}
use Rattle.std.specs.Prelude.{Option}
use Rattle.packer.specs.declared.packets.Packets.{Packets}
use Rattle.packer.specs.declared.packets.Piece.{Piece}
use Rattle.packer.specs.Pieces.{NextPiece}
use Rattle.packer.proofs.Bound.{packed_bound}
use Rattle.packer.proofs.Packing.{given, given_end, given_next, sizes}
use Rattle.packer.proofs.form.measure.Goals as goal

-- the iterator gives the packets that stand for what is left
packets_given : (s : Packets) → YieldsList (λ (s : Packets) (r : Option Piece) (t : Packets). NextPiece s.rest.now r t.rest.now) (λ (p : Piece). p.packet) s (given s.rest.now)
packets_given =
    YieldsList-from_shown (λ (s : Packets) (r : Option Piece) (t : Packets). NextPiece s.rest.now r t.rest.now) (λ (p : Piece). p.packet) (λ s. given s.rest.now)
    (λ s t none. given_end s.rest.now none.0) (λ s x t some. given_next some)

pub sum-requires-clause-fits : goal.sum-requires-clause-fits
sum-requires-clause-fits c =
    let p = c.args.packets.rest.now in
    fits_by_from_yields_list size_of (given p) c.map.result _
    (YieldsList-from_map _ size_of (YieldsList-at c.map.ensures.source (packets_given c.args.packets)) c.map.ensures.closure (λ x r q k. search (rules, tests)))
    (omega (arith, sizes p, packed_bound p))

pub returns : goal.returns
returns c =
    let p = c.args.packets.rest.now in
    sum_by_from_yields_List size_of (given p) c.map.result _ c.sum.ensures.ran
    (YieldsList-from_map _ size_of (YieldsList-at c.map.ensures.source (packets_given c.args.packets)) c.map.ensures.closure (λ x r q k. search (rules, tests)))
    ∙ sizes p
