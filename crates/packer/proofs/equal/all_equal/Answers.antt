-- The yes that is carried on says that each byte so far was this one.
use mathlib.Core.Path.{◌≡◌, sym, ◌∙◌}
use mathlib.Core.Bool.{Bool, true, ◌&&◌}
use mathlib.Core.List.{List, [], ◌∷◌}
use Prim.Native.Nat.{ℕ, zero, suc, ◌<◌}
use native.Mathlib.Omega.{arith}
use borrow.Author.Tests.{eqb-true}
use lib.Dec.{eqb}
use lib.ListN.{length, get_or}
use Rattle.std.proofs.Common.{rules, tests}
use Rattle.std.specs.Prelude.{fold}
use Rattle.std.proofs.lemmas.Iterator.{YieldsList-from_slice}
use Rattle.std.proofs.lemmas.Iterator.Consumers.{fold_from_yields_List}
use Rattle.laws.proofs.Tests.{both}
use Rattle.packer.proofs.equal.all_equal.Goals as goal

all_same : (byte : ℕ) (so_far : Bool) (l : List ℕ) → fold (λ all b. all && eqb b byte) so_far l ≡ true → (so_far ≡ true) × ((k : ℕ) → k < length l → get_or l k 0 ≡ byte)
all_same byte so_far [] e = (e, λ k below. absurd (omega arith))
all_same byte so_far (b ∷ l) e =
    let behind = all_same byte (so_far && eqb b byte) l e in
    let now = both so_far (eqb b byte) behind.0 in
    (now.0, at (eqb-true b byte now.1) behind.1)
  where
    at : b ≡ byte → ((k : ℕ) → k < length l → get_or l k 0 ≡ byte) → (k : ℕ) → k < length (b ∷ l) → get_or (b ∷ l) k 0 ≡ byte
    at here behind zero below = here
    at here behind (suc k) below = behind k (omega arith)

pub returns : goal.returns
returns c told k below =
    let a = c.args in
    let all = fold_from_yields_List _ (λ all b. all && eqb b a.byte) true _ c.fold.ensures.ran (YieldsList-from_slice a.block.now (cc)) (λ so_far x b q k. search (rules, tests)) in
    (all_same a.byte true a.block.now (sym all ∙ told)).1 k (omega arith)
