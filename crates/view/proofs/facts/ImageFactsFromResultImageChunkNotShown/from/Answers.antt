use lib.Ieee.{of_bits}
use Rattle.view.specs.Zeros.{no_image}
use Rattle.view.proofs.facts.ImageFactsFromResultImageChunkNotShown.from.Goals as goal

pub returns-in-Err : goal.returns-in-Err
unfolding no_image of_bits
returns-in-Err c =
    let z = c.default.ensures in
    rw c.in-Err.is
    (λ i. record {
      number = c.into.ensures i;
      image = record {
        width = z.0 i;
        height = z.1.0 i;
        bits = z.1.1.0 i;
        resolution = record { value = z.1.1.1.0.0 i; metric = z.1.1.1.0.1 i };
        compression = z.1.1.1.1.0 i;
        depth = z.1.1.1.1.1.0 i;
        planes = z.1.1.1.1.1.1.0 i;
        colours = z.1.1.1.1.1.1.1.0 i;
        grey = z.1.1.1.1.1.1.1.1.0 i;
        total = z.1.1.1.1.1.1.1.1.1.0 i;
        active = z.1.1.1.1.1.1.1.1.1.1.0 i;
        layers = z.1.1.1.1.1.1.1.1.1.1.1 i;
      };
    })
