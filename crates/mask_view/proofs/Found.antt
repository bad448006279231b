-- What is found: the selection and alpha channel k are listed, and their chunks lie inside the input.
use mathlib.Core.Path.{◌≡◌, sym, ap, ◌∙◌}
use mathlib.Core.Bool.{true}
use mathlib.Core.List.{List}
use Prim.Native.Nat.{ℕ, ◌+◌, ◌≤◌}
use native.Mathlib.Omega.{arith}
use lib.ListN.{length, drop}
use lib.Seq.{take-take}
use Rattle.std.specs.Prelude.{Ok}
use Rattle.laws.specs.Lists.{part}
use Rattle.entry.specs.declared.Entry.{Entry}
use Rattle.chunk.specs.AlphaInformation.{alpha_size, alpha_of, alpha_at}
use Rattle.chunk.specs.SelectionInformation.{selection_size}
use Rattle.listing.specs.Question.{question}
use Rattle.listing.specs.Right.{SelectionRight, AlphaRight}
use Rattle.view.specs.declared.not_shown.Lacking.TheVariants.{Selection, Alpha}
use Rattle.view.specs.Asked.{asked, is_there}
use Rattle.view.proofs.Accepted.{kind, so_many, found_listed}
use Rattle.view.proofs.Asked.{sought_at}
use Rattle.mask_view.specs.Sought.{selection_sought, alpha_sought}

module _ (s : List ℕ) (room : ℕ) where
  pub selection_has :
      (there : is_there (question 6 0 0) s room ≡ true)
      → SelectionRight s (found_listed s room (question 6 0 0) there).before (asked (question 6 0 0) s room).entry
  selection_has there =
      let l = found_listed s room (question 6 0 0) there in
      l.right.kind 6 (sym (kind 6 0 (asked (question 6 0 0) s room).entry) ∙ l.asks)

  pub selection_inside : {at : ℕ} → selection_sought s room ≡ Ok at → at + selection_size ≤ length s
  selection_inside e = let found = sought_at s room 6 Selection 0 e in omega (arith, (selection_has found.0).only.inside, found.1)

  module _ (k : ℕ) where
    pub alpha_has :
        (there : is_there (question 8 0 k) s room ≡ true)
        → AlphaRight s (found_listed s room (question 8 0 k) there).before (asked (question 8 0 k) s room).entry
    alpha_has there =
        let l = found_listed s room (question 8 0 k) there in
        l.right.kind 8 (sym (kind 8 k (asked (question 8 0 k) s room).entry) ∙ l.asks)

    -- the alpha channel that is found for k has the rank k in the table
    pub alpha_number : is_there (question 8 0 k) s room ≡ true → (asked (question 8 0 k) s room).entry.layer ≡ k
    alpha_number there =
        let l = found_listed s room (question 8 0 k) there in
        ap (λ (e : Entry). e.layer) (alpha_has there).is ∙ sym (so_many 8 k l.before) ∙ l.index

    pub alpha_inside : {at : ℕ} → alpha_sought s room k ≡ Ok at → at + alpha_size ≤ length s
    alpha_inside e = let found = sought_at s room 8 Alpha k e in omega (arith, (alpha_has found.0).inside, found.1)

-- the name that an alpha channel's facts have is the part that is shown up to its first zero
pub alpha_name_field : (s : List ℕ) (at : ℕ) → (alpha_at s at).name ≡ part s at 256
unfolding alpha_of part
alpha_name_field s at = take-take 256 292 (drop at s) (omega arith)
