-- Facts come from chunks that the listing accepted, and satisfy their rules; a name lies inside the input; each view leaves one outcome.
use mathlib.Core.Path.{◌≡◌}
use mathlib.Core.List.{List}
use Prim.Native.Nat.{ℕ, ◌+◌, ◌≤◌}
use native.Mathlib.Omega.{arith}
use lib.ListN.{length}
use Rattle.laws.specs.Outcomes.{OneResult, OneFixed}
use Rattle.laws.proofs.OneOutcome.{one}
use Rattle.chunk.specs.AlphaInformation.{alpha_size}
use Rattle.chunk.specs.Rules.{MaskRules}
use Rattle.chunk.proofs.Rules.{mask_rules}
use Rattle.view.specs.declared.not_shown.Lacking.TheVariants.{Selection, Alpha}
use Rattle.view.specs.Asked.{Sought}
use Rattle.view.proofs.Asked.{refused_not_zero, sought_ind}
use Rattle.view.proofs.Here.{here_inside}
use Rattle.view.proofs.Views.{seen, shown_one, name_of_lies}
use Rattle.mask_view.specs.Facts.{selection_facts_of, alpha_facts_of, selection_facts, alpha_facts}
use Rattle.mask_view.specs.Name.{alpha_name_view}
use Rattle.mask_view.specs.Sought.{alpha_sought}
use Rattle.mask_view.specs.At.{alpha_here, alpha_name_view_at}
use Rattle.mask_view.proofs.Found.{selection_has, alpha_has, alpha_inside}
use Rattle.mask_view.proofs.at.alpha_at.Reads as alpha-at
use Rattle.mask_view.proofs.at.alpha_name_at.Reads as alpha-name-at
use Rattle.mask_view.proofs.at.selection_at.Reads as selection-at
use Rattle.mask_view.proofs.facts.selection_facts.Reads as selection-facts
use Rattle.mask_view.proofs.facts.alpha_facts.Reads as alpha-facts
use Rattle.mask_view.proofs.names.alpha_name_part.Reads as alpha-name-part
use Rattle.mask_view.proofs.names.alpha_name.Reads as alpha-name

-- ### Facts

pub selection_facts_rules : (s : List ℕ) (room : ℕ) → (selection_facts s room).number ≡ 0 → MaskRules (selection_facts s room).selection.mask
unfolding selection_facts
selection_facts_rules s room =
    sought_ind s room 6 Selection 0
    (λ (x : Sought). (selection_facts_of s x).number ≡ 0 → MaskRules (selection_facts_of s x).selection.mask)
    (λ good there _. mask_rules 0 _ (selection_has s room there).permitted)
    (λ _ z. absurd (omega arith))
    (λ e _ z. absurd (refused_not_zero e z))

pub alpha_facts_rules : (s : List ℕ) (room k : ℕ) → (alpha_facts s room k).number ≡ 0 → MaskRules (alpha_facts s room k).alpha.mask
unfolding alpha_facts
alpha_facts_rules s room k =
    sought_ind s room 8 Alpha k
    (λ (x : Sought). (alpha_facts_of s x).number ≡ 0 → MaskRules (alpha_facts_of s x).alpha.mask)
    (λ good there _. mask_rules 256 _ (alpha_has s room k there).permitted)
    (λ _ z. absurd (omega arith))
    (λ e _ z. absurd (refused_not_zero e z))

pub selection_facts_one : OneResult selection-facts.Learnt
selection_facts_one l a y z e f = one

pub alpha_facts_one : OneResult alpha-facts.Learnt
alpha_facts_one l a y z e f = one

-- ### A name

pub alpha_name_lies : (s : List ℕ) (room k : ℕ) → (alpha_name_view s room k).start + (alpha_name_view s room k).length ≤ length s
unfolding alpha_name_view
alpha_name_lies s room k = name_of_lies s (alpha_sought s room k) (λ at e. omega (arith, alpha_inside s room k e))

pub alpha_name_at_lies : (s : List ℕ) (place : ℕ) → (alpha_name_view_at s place).start + (alpha_name_view_at s place).length ≤ length s
unfolding alpha_name_view_at
alpha_name_at_lies s place = name_of_lies s (alpha_here s place) (λ at e. omega (arith, here_inside s place 8 alpha_size Alpha at e))

pub alpha_name_part_one : OneResult alpha-name-part.Learnt
alpha_name_part_one l a y z e f = one

pub alpha_name_one : OneFixed (λ l r e. seen r) alpha-name.Learnt
alpha_name_one l a y z e f = shown_one _ _ _ y z

-- ### At a place

pub selection_at_one : OneResult selection-at.Learnt
selection_at_one l a y z e f = one

pub alpha_at_one : OneResult alpha-at.Learnt
alpha_at_one l a y z e f = one

pub alpha_name_at_one : OneResult alpha-name-at.Learnt
alpha_name_at_one l a y z e f = one
