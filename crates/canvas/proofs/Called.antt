-- What is shown of placing is true of any function that leaves what `placed` says: of `place`, by its contract.
use mathlib.Core.Path.{◌≡◌, ap, ◌∙◌, sym, subst}
use Prim.Native.Nat.{ℕ}
use borrow.Fn.World.{ArgsD}
use contract.Lifetimes.{Lfts}
use Rattle.laws.specs.Outcomes.{Call}
use Rattle.laws.specs.Results.{Result}
use Rattle.laws.proofs.OneOutcome.{call_is}
use Rattle.canvas.specs.Placing.{place_result}
use Rattle.canvas.specs.Touching.{Touches, Given, onto, placed_by, Places}
use Rattle.canvas.proofs.Touched.{place_touches}
use Rattle.canvas.proofs.Twice.{place_twice}
use Rattle.canvas.specs.contracts.placer.place as of-place
use Rattle.canvas.proofs.placer.place.Reads as place

pub places : {Leaves : Given → Result ℕ → Type 0} → ((g : Given) (s : Result ℕ) → Leaves g s → s ≡ placed_by g) → Places Leaves
places is =
    record {
      again = λ g once twice d e.
          is (onto once.dest g) twice e
          ∙ ap (λ (s : Result ℕ). placed_by (onto s.dest g)) (is g once d)
          ∙ place_twice g.width g.height g.canvas g.r g.plane g.row
          ∙ sym (is g once d);
      touches = λ g once d.
          subst (λ (s : Result ℕ). s.told ≡ 0 → Touches g.width g.height g.canvas s.dest g.r g.plane g.row)
          (sym (is g once d))
          (place_touches g.width g.height g.canvas g.r g.plane g.row);
    }

-- what a call is given, read off its arguments
abbrev pub given : (l : Lfts 2) → ArgsD of-place.signature l → Given
given l a =
    record {
      width = a.0;
      height = a.1.0;
      canvas = a.1.1.0.now;
      r = a.1.1.1.0;
      plane = a.1.1.1.1.0.now;
      row = a.1.1.1.1.1.0;
    }

pub place_places : Places (Call given (λ l y e. place_result y e.1.1.0.now) place.Learnt)
place_places = places (λ g s. call_is placed_by (λ l a y e h. h))
