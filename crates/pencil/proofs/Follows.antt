-- What the code knows of its paper from turn to turn: it goes where the walk of the listing goes, and whatever it leads to from here it leads
-- to from the first place.
use mathlib.Core.Path.{◌≡◌, subst}
use mathlib.Core.Bool.{true}
use mathlib.Core.List.{List}
use Prim.Native.Nat.{ℕ, ◌<◌}
use Rattle.std.specs.declared.ops.ControlFlow.TheVariants.{Continue, Break}
use Rattle.answer.specs.Answers.{is_accepted}
use Rattle.listing.specs.Listing.{head_of}
use Rattle.pencil.specs.declared.paper.Paper.{Paper}
use Rattle.pencil.specs.Pencil.{Reply, first, turn_at, Leads, says, goes, Pencil, blocks}
use Rattle.pencil.specs.Standing.{Standing}
use Rattle.pencil.proofs.Turns.{left, Reached, at_first, Next, next, gone, standing}

module _ (s : List ℕ) (room k : ℕ) where
  pub record Follows (p : Paper) : Type 0 where
    pub good : is_accepted (head_of s).answer ≡ true
    pub reached : Reached s good room k p
    pub leads : {r : Reply} → Leads s room k p r → Leads s room k first r

  pub from_first : is_accepted (head_of s).answer ≡ true → Follows first
  from_first good = record { good = good; reached = at_first s good room k; leads = λ l. l }

  pub may_look : {p : Paper} → Follows p → Standing s room p
  may_look f = standing s f.good room k f.reached

  pub reply_is : {p : Paper} {r : Reply} → Follows p → turn_at s room k p ≡ Break r → Pencil s room k r
  reply_is f is = blocks f.good (f.leads (says is))

  pub goes_on : {p q : Paper} → Follows p → turn_at s room k p ≡ Continue q → Follows q × (left s q < left s p)
  goes_on {p} f is =
      let g = gone s f.good room k (subst (Next s f.good room k p) is (next s f.good room k f.reached)) in
      (record { good = f.good; reached = g.0; leads = λ l. f.leads (goes is l) }, g.1)
