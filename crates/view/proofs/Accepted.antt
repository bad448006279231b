-- The walk is over when a view decodes: that the image's chunk, the palette and the chunk of layer k are there is known of their entries.
use mathlib.Core.Path.{◌≡◌, refl, sym, ap, subst⁻¹, ◌∙◌}
use mathlib.Core.Bool.{Bool, true, false, and_comm}
use mathlib.Core.List.{List}
use Prim.Native.Nat.{ℕ, ◌+◌, ◌≤◌}
use native.Mathlib.Omega.{arith}
use borrow.Author.Tests.{eqb-false, ltb-true, ltb-false}
use lib.Dec.{eqb, ltb}
use lib.ListN.{length, take}
use Rattle.std.specs.Prelude.{Ok}
use Rattle.laws.specs.Lists.{filter}
use Rattle.laws.proofs.Filter.{filter_alike, filter_at}
use Rattle.laws.proofs.Tests.{other_not}
use Rattle.answer.specs.Answers.{is_accepted}
use Rattle.answer.proofs.Names.{accepted_is}
use Rattle.entry.specs.declared.Entry.{Entry}
use Rattle.entry.specs.Entry.{nowhere, is_kind}
use Rattle.attributes.specs.Depth.{is_depth}
use Rattle.attributes.specs.ImageAttributes.{is_paletted}
use Rattle.attributes.proofs.Rules.{four, image_rules}
use Rattle.listing.specs.declared.question.Question.{Question}
use Rattle.listing.specs.Question.{question, is_asked, found_in}
use Rattle.listing.specs.Listing.{listed}
use Rattle.listing.specs.Right.{image_in, depth_of, ImageRight, PaletteRight, LayerRight, Right}
use Rattle.listing.proofs.RightEntries.{each_right, accepted_complete}
use Rattle.chunk.specs.LayerInformation.{layer_size}
use Rattle.view.specs.declared.not_shown.Lacking.{Lacking}
use Rattle.view.specs.declared.not_shown.Lacking.TheVariants.{Layer}
use Rattle.view.specs.Whole.{Whole}
use Rattle.view.specs.Asked.{Inside, chunk_sought, layer_asked, palette_asked, asked, is_there, layer_sought}
use Rattle.view.proofs.Asked.{sought_at}

-- ### A question, and the kinds of entries

pub kind : (id index : ℕ) (e : Entry) → is_asked (question id 0 index) e ≡ is_kind id e
kind id index e = and_comm (eqb e.block.id id) (eqb e.block.skipped 0)

pub so_many : (id index : ℕ) (es : List Entry) → length (filter (is_asked (question id 0 index)) es) ≡ length (filter (is_kind id) es)
so_many id index es = ap (λ (l : List Entry). length l) (filter_alike _ _ es (kind id index))

below : (d : ℕ) → is_depth d ≡ true → (d ≡ 24 → ⊥) → ltb d 24 ≡ true
below = four (λ (d : ℕ). (d ≡ 24 → ⊥) → ltb d 24 ≡ true) (λ _. refl) (λ _. refl) (λ _. refl) (λ other. absurd (other refl))

module _ (s : List ℕ) (room : ℕ) where
  -- ### What is found

  -- an entry that was asked for, right by those before it, of which as many were asked for as its index says
  pub record Listed (q : Question) (e : Entry) : Type 0 where
    pub before : List Entry
    pub right : Right s before e
    pub asks : is_asked q e ≡ true
    pub index : length (filter (is_asked q) before) ≡ q.index

  pub found_listed : (q : Question) → is_there q s room ≡ true → Listed q (asked q s room).entry
  unfolding found_in
  found_listed q there =
      let es = (listed s room).entries in
      let p = filter_at (is_asked q) es q.index nowhere (ltb-true _ _ there) in
      subst⁻¹ (Listed q) p.is
      (record {
        before = take p.index es;
        right = each_right s room p.index nowhere p.inside;
        asks = p.passes;
        index = p.before;
      })

  -- its entries lie inside the input
  pub palette_has : (there : is_there palette_asked s room ≡ true) → PaletteRight s (found_listed palette_asked there).before (asked palette_asked s room).entry
  palette_has there = let l = found_listed palette_asked there in l.right.kind 2 (sym (kind 2 0 (asked palette_asked s room).entry) ∙ l.asks)

  module _ (k : ℕ) (there : is_there (layer_asked k) s room ≡ true) where
    -- its chunk lies inside the input, and its fields are permitted
    pub layer_has : LayerRight s (found_listed (layer_asked k) there).before (asked (layer_asked k) s room).entry
    layer_has = let l = found_listed (layer_asked k) there in l.right.kind 4 (sym (kind 4 k (asked (layer_asked k) s room).entry) ∙ l.asks)

    -- the layer that is found for k has the number k in the table
    pub layer_number : (asked (layer_asked k) s room).entry.layer ≡ k
    layer_number =
        let l = found_listed (layer_asked k) there in
        ap (λ (e : Entry). e.layer) layer_has.is ∙ sym (so_many 4 k l.before) ∙ l.index

  -- a layer's chunk that was found lies inside the input
  pub layer_inside : (k : ℕ) {at : ℕ} → layer_sought s room k ≡ Ok at → at + layer_size ≤ length s
  layer_inside k e = let found = sought_at s room 4 Layer k e in omega (arith, (layer_has k found.0).inside, found.1)

  -- and so does the chunk of any block that the listing promises whole
  pub chunk_inside : (id size : ℕ) (lacking : Lacking) (k : ℕ) → Whole id size → Inside size s (chunk_sought s room id lacking k)
  chunk_inside id size lacking k whole at is =
      let found = sought_at s room id lacking k is in
      let l = found_listed (question id 0 k) found.0 in
      let h = whole s l.before _ l.right (sym (kind id k (asked (question id 0 k) s room).entry) ∙ l.asks) in
      omega (arith, h, found.1)

  -- and the name that it begins
  pub named_inside : (id size : ℕ) (lacking : Lacking) (k : ℕ) → Whole id size → 256 ≤ size → Inside 256 s (chunk_sought s room id lacking k)
  named_inside id size lacking k whole named at is = omega (arith, chunk_inside id size lacking k whole at is)

  -- ### Where the input is accepted

  module _ (good : is_accepted (listed s room).answer ≡ true) where
    pub accepted_has : ImageRight s
    accepted_has = (accepted_complete s room (accepted_is (listed s room).answer good)).image

    -- below depth 24, without a listed palette, the image is grey
    pub accepted_grey : (depth_of s ≡ 24 → ⊥) → is_there palette_asked s room ≡ false → (image_in s).grey ≡ 1
    unfolding found_in
    accepted_grey used none = by (is_paletted (image_in s)) refl
      where
        by : (b : Bool) → is_paletted (image_in s) ≡ b → (image_in s).grey ≡ 1
        by true paletted =
            let one = (accepted_complete s room (accepted_is (listed s room).answer good)).palettes paletted in
            absurd (omega (arith, ltb-false 0 (asked palette_asked s room).count none, so_many 2 0 (listed s room).entries))
        by false plain =
            let rules = image_rules (image_in s) accepted_has.permitted in
            let some = eqb-false (image_in s).grey 0 (other_not (ltb (depth_of s) 24) _ plain (below (depth_of s) rules.depth used)) in
            let low = rules.grey in
            omega arith
