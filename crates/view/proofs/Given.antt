-- At the places that a listing gives, refused or not, the blocks' own chunks stand; and of an accepted input that is what the views show.
use mathlib.Core.Path.{◌≡◌, sym, ap, ◌∙◌}
use mathlib.Core.Bool.{true, ◌&&◌}
use mathlib.Core.List.{List, ◌++◌, ◌∷◌}
use Prim.Native.Nat.{ℕ, suc, ◌+◌, ◌≤◌, ◌<◌}
use native.Mathlib.Omega.{arith}
use borrow.Author.Tests.{lt-ltb, eqb-true, eq-eqb}
use lib.Dec.{eqb}
use lib.ListN.{length, length-append, take, drop, get_or}
use lib.Seq.{get_or_at}
use Rattle.std.specs.Prelude.{Ok}
use Rattle.laws.specs.Lists.{filter}
use Rattle.laws.proofs.Filter.{filter_around}
use Rattle.laws.proofs.Tests.{both}
use Rattle.answer.specs.Answers.{Accepted}
use Rattle.answer.proofs.Names.{accepted_yes}
use Rattle.entry.specs.declared.Entry.{Entry}
use Rattle.entry.specs.Entry.{nowhere, is_kind}
use Rattle.headers.specs.BlockHeader.{block_header_size, block_header_at}
use Rattle.listing.specs.declared.question.Question.{Question}
use Rattle.listing.specs.Listing.{listed}
use Rattle.listing.specs.Question.{question, is_asked, found_in}
use Rattle.listing.specs.Right.{is_layer, layer_from}
use Rattle.listing.proofs.RightEntries.{each_right, each_headed, layers_numbered}
use Rattle.chunk.specs.LayerInformation.{layer_size}
use Rattle.view.specs.declared.not_shown.Lacking.{Lacking}
use Rattle.view.specs.declared.not_shown.Lacking.TheVariants.{Layer}
use Rattle.view.specs.Asked.{asked, is_there, chunk_sought, layer_sought}
use Rattle.view.specs.Facts.{layer_facts, layer_facts_of}
use Rattle.view.specs.Name.{name_at, name_of, name_view}
use Rattle.view.specs.At.{is_header_of, chunk_at, layer_here, layer_facts_at, name_view_at}
use Rattle.view.proofs.Accepted.{kind, so_many}
use Rattle.view.proofs.Asked.{sought_there}
use Rattle.view.proofs.Here.{by_header, stands}

module _ (s : List ℕ) (room k : ℕ) (d : Entry) (low : k < length (listed s room).entries) where
  abbrev es : List Entry
  es = (listed s room).entries

  abbrev e : Entry
  e = get_or es k d

  abbrev place : ℕ
  place = e.block.place

  -- ### A block of any kind, with so many bytes of chunk

  module _ (id size : ℕ) (lacking : Lacking) (is : is_kind id e ≡ true) (inside : place + (block_header_size + size) ≤ length s) where
    -- its header is good: the walk has judged it so
    header : is_header_of id (block_header_at s place) ≡ true
    header =
        let h = each_headed s room k d low in
        let parts = both (eqb e.block.skipped 0) (eqb e.block.id id) is in
        let named = eq-eqb (block_header_at s place).id id (sym h.named ∙ eqb-true e.block.id id parts.1) in
        let lengths = h.lengths (eqb-true e.block.skipped 0 parts.0) in
        λ i. (h.marked i && named i) && lengths i

    -- where the entry says, the block stands
    pub entry_stands : chunk_at s place id size lacking ≡ Ok (place + block_header_size)
    entry_stands = stands s place id size lacking (by_header s place id size inside ∙ header)

    -- of an accepted input it is the chunk that is sought for the entry's rank among its kind
    module _ (rank : ℕ) (before : length (filter (is_kind id) (take k es)) ≡ rank) where
      abbrev q : Question
      q = question id 0 rank

      abbrev front : List Entry
      front = filter (is_asked q) (take k es)

      abbrev behind : List Entry
      behind = filter (is_asked q) (drop (suc k) es)

      around : filter (is_asked q) es ≡ front ++ e ∷ behind
      around = filter_around (is_asked q) es k d low (kind id rank e ∙ is)

      ahead : length front ≡ rank
      ahead = so_many id rank (take k es) ∙ before

      found : (asked q s room).entry ≡ e
      unfolding found_in
      found = ap (λ (l : List Entry). get_or l rank nowhere) around ∙ get_or_at front e behind nowhere rank ahead

      there : is_there q s room ≡ true
      unfolding found_in
      there =
          let all : length (filter (is_asked q) es) ≡ length front + length (e ∷ behind) = ap length around ∙ length-append front (e ∷ behind) in
          lt-ltb rank _ (omega (arith, ahead))

      pub entry_sought : (listed s room).answer ≡ Accepted → chunk_sought s room id lacking rank ≡ chunk_at s place id size lacking
      entry_sought good =
          sought_there s room id lacking rank (accepted_yes good) there ∙ ap (λ (x : Entry). Ok (x.block.place + block_header_size)) found ∙ sym entry_stands

  -- ### A layer

  module _ (is : is_layer e ≡ true) where
    layer_stands : layer_here s place ≡ Ok (place + block_header_size)
    layer_stands = entry_stands 4 layer_size Layer is ((each_right s room k d low).kind 4 is).inside

    pub layer_at_listed : layer_facts_at s place ≡ record { number = 0; layer = layer_from s place }
    unfolding layer_facts_at
    layer_at_listed = ap (layer_facts_of s) layer_stands

    pub name_at_listed : name_view_at s place ≡ name_at s (place + block_header_size)
    unfolding name_view_at
    name_at_listed = ap (name_of s) layer_stands

    module _ (good : (listed s room).answer ≡ Accepted) where
      layer_sought_lem : layer_sought s room e.layer ≡ layer_here s place
      layer_sought_lem =
          entry_sought 4 layer_size Layer is ((each_right s room k d low).kind 4 is).inside e.layer (sym (layers_numbered s room k d low is)) good

      pub layer_at_accepted : layer_facts s room e.layer ≡ layer_facts_at s place
      unfolding layer_facts layer_facts_at
      layer_at_accepted = ap (layer_facts_of s) layer_sought_lem

      pub name_at_accepted : name_view s room e.layer ≡ name_view_at s place
      unfolding name_view name_view_at
      name_at_accepted = ap (name_of s) layer_sought_lem
