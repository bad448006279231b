-- At the places that a listing gives, refused or not, the selection's and the alpha channels' own chunks stand; and of an accepted input that
-- is what the views show.
use mathlib.Core.Path.{◌≡◌, sym, ap}
use mathlib.Core.Bool.{true}
use mathlib.Core.List.{List}
use Prim.Native.Nat.{ℕ, ◌+◌, ◌<◌}
use lib.ListN.{length, get_or}
use Rattle.std.specs.Prelude.{Ok}
use Rattle.answer.specs.Answers.{Accepted}
use Rattle.entry.specs.declared.Entry.{Entry}
use Rattle.headers.specs.BlockHeader.{block_header_size}
use Rattle.chunk.specs.AlphaInformation.{alpha_size}
use Rattle.chunk.specs.SelectionInformation.{selection_size}
use Rattle.listing.specs.Listing.{listed}
use Rattle.listing.specs.Right.{is_selection, is_alpha, selection_from, alpha_from}
use Rattle.listing.proofs.RightEntries.{each_right, alphas_numbered}
use Rattle.view.specs.declared.not_shown.Lacking.TheVariants.{Selection, Alpha}
use Rattle.view.specs.Name.{name_at, name_of}
use Rattle.view.proofs.Given.{entry_stands, entry_sought}
use Rattle.mask_view.specs.Sought.{alpha_sought}
use Rattle.mask_view.specs.Facts.{selection_facts, selection_facts_of, alpha_facts, alpha_facts_of}
use Rattle.mask_view.specs.Name.{alpha_name_view}
use Rattle.mask_view.specs.At.{selection_here, alpha_here, selection_facts_at, alpha_facts_at, alpha_name_view_at}

module _ (s : List ℕ) (room k : ℕ) (d : Entry) (low : k < length (listed s room).entries) where
  abbrev e : Entry
  e = get_or (listed s room).entries k d

  abbrev place : ℕ
  place = e.block.place

  -- ### The selection

  module _ (is : is_selection e ≡ true) where
    selection_stands : selection_here s place ≡ Ok (place + block_header_size)
    selection_stands = entry_stands s room k d low 6 selection_size Selection is ((each_right s room k d low).kind 6 is).only.inside

    pub selection_at_listed : selection_facts_at s place ≡ record { number = 0; selection = selection_from s place }
    unfolding selection_facts_at
    selection_at_listed = ap (selection_facts_of s) selection_stands

    -- no selection stands before it
    pub selection_at_accepted : (listed s room).answer ≡ Accepted → selection_facts s room ≡ selection_facts_at s place
    unfolding selection_facts selection_facts_at
    selection_at_accepted good =
        let only = ((each_right s room k d low).kind 6 is).only in
        ap (selection_facts_of s)
        (entry_sought s room k d low 6 selection_size Selection is only.inside 0 (ap (λ (l : List Entry). length l) only.once) good)

  -- ### An alpha channel

  module _ (is : is_alpha e ≡ true) where
    alpha_stands : alpha_here s place ≡ Ok (place + block_header_size)
    alpha_stands = entry_stands s room k d low 8 alpha_size Alpha is ((each_right s room k d low).kind 8 is).inside

    pub alpha_at_listed : alpha_facts_at s place ≡ record { number = 0; alpha = alpha_from s place }
    unfolding alpha_facts_at
    alpha_at_listed = ap (alpha_facts_of s) alpha_stands

    pub alpha_name_at_listed : alpha_name_view_at s place ≡ name_at s (place + block_header_size)
    unfolding alpha_name_view_at
    alpha_name_at_listed = ap (name_of s) alpha_stands

    module _ (good : (listed s room).answer ≡ Accepted) where
      alpha_sought_lem : alpha_sought s room e.layer ≡ alpha_here s place
      alpha_sought_lem =
          entry_sought s room k d low 8 alpha_size Alpha is ((each_right s room k d low).kind 8 is).inside e.layer
          (sym (alphas_numbered s room k d low is)) good

      pub alpha_at_accepted : alpha_facts s room e.layer ≡ alpha_facts_at s place
      unfolding alpha_facts alpha_facts_at
      alpha_at_accepted = ap (alpha_facts_of s) alpha_sought_lem

      pub alpha_name_at_accepted : alpha_name_view s room e.layer ≡ alpha_name_view_at s place
      unfolding alpha_name_view alpha_name_view_at
      alpha_name_at_accepted = ap (name_of s) alpha_sought_lem
