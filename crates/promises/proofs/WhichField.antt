-- Request (vi), shown: what the walk knows where it stands makes of a chunk's fault the field that is named.
use mathlib.Core.Path.{◌≡◌, refl, sym, ap, subst, ◌∙◌}
use mathlib.Core.Bool.{true, cond}
use mathlib.Core.List.{List}
use Prim.Native.Nat.{ℕ, ◌+◌, ◌≤◌, ◌<◌}
use native.Mathlib.Omega.{arith}
use lib.Dec.{eqb, ltb}
use lib.ListN.{length}
use Rattle.std.specs.Prelude.{None, Some, Err}
use Rattle.laws.specs.All.{empty, both}
use Rattle.laws.proofs.Choice.{pick_ind}
use Rattle.laws.proofs.Part.{part_length}
use Rattle.laws.proofs.Tests.{never}
use Rattle.rect.specs.Rect.{Sized}
use Rattle.rect.specs.declared.planes.Shape.{Shape}
use Rattle.answer.specs.declared.Refusal.{Refusal}
use Rattle.answer.specs.declared.Refusal.TheVariants.{WrongField}
use Rattle.answer.specs.Answers.{Answer, answer_number}
use Rattle.answer.specs.declared.Stopped.TheVariants.{Rule}
use Rattle.answer.proofs.OneOutcome.{answer_of, answer_back}
use Rattle.entry.specs.declared.Entry.{Entry}
use Rattle.walk.specs.Walk.{Step, Stop}
use Rattle.walk.specs.Room.{Listed}
use Rattle.walk.specs.Promised.{Tiles}
use Rattle.walk.specs.Course.{Stand, at_end, by_rule, Answered, said, full}
use Rattle.walk.proofs.Invariant.{course_keeps}
use Rattle.headers.specs.BlockHeader.{block_header_size}
use Rattle.headers.specs.FileHeader.{file_header_size}
use Rattle.attributes.specs.ImageAttributes.{image_rule}
use Rattle.attributes.specs.Fault.{Field}
use Rattle.attributes.proofs.Named.{starts, later}
use Rattle.attributes.specs.Depth.{is_depth}
use Rattle.attributes.proofs.Order.{image_names}
use Rattle.attributes.proofs.Rules.{four}
use Rattle.chunk.specs.AlphaInformation.{alpha_rule}
use Rattle.chunk.specs.ChannelInformation.{channel_size, channel_at, codes_fault, plane_fault}
use Rattle.chunk.specs.ColorPalette.{palette_at, palette_fault}
use Rattle.chunk.specs.LayerInformation.{layer_at, layer_fault, layer_rule}
use Rattle.chunk.specs.SelectionInformation.{selection_rule}
use Rattle.chunk.proofs.Order.{Limited, palette_names, layer_names, codes_names, plane_names, selection_names, alpha_names}
use Rattle.chunk.proofs.Rules.{layer_rules, codes_rules, mask_rules}
use Rattle.memory.specs.declared.parent.Open.{Open}
use Rattle.memory.specs.declared.parent.Open.TheVariants as opens
use Rattle.memory.specs.declared.parent.Parent.{Parent}
use Rattle.memory.specs.declared.parent.Parent.TheVariants.{Main, Bank, Layer, Selection, AlphaBank, Alpha}
use Rattle.memory.specs.declared.state.Current.{Current}
use Rattle.memory.specs.declared.state.Members.{Members}
use Rattle.memory.specs.declared.state.State.{State}
use Rattle.memory.specs.Parent.{main, outer, is_host}
use Rattle.memory.proofs.Parents.{held}
use Rattle.memory.specs.State.{start, shape_for}
use Rattle.kinds.specs.Headed.{Chunked}
use Rattle.layers.specs.Layers.{is_awaited}
use Rattle.block.specs.Step.{step_at}
use Rattle.block.proofs.Stepped.{FaultOf, an_image's, a_palette's, a_layer's, a_code's, a_plane's, a_selection's, an_alpha's, Stepped, stopped, named}
use Rattle.block.proofs.Owed.{moves}
use Rattle.listing.specs.Listing.{beyond, listed}
use Rattle.listing.specs.Right.{depth_of, layer_from, selection_from, alpha_from, fault_in, saved_in, shape_in}
use Rattle.listing.proofs.Holding.{InBank, InHost}
use Rattle.listing.proofs.StateMeaning.{layers_no_mask, alphas_no_mask, CameTo, fresh, begun, Underway, kept, looked, depth_is, depth_good, not_first, open_bank, Hosts, hosts, awaited, shape_is}
use Rattle.promises.specs.EveryInput.{Exact, header, blocks}
use Rattle.promises.specs.WhichField.{chunk_of, Inside, Named, of_image, of_palette, of_layer, of_selection, of_alpha, of_codes, of_plane, WhichField, Later, LaterNamed}
use Rattle.promises.proofs.EveryInput.{head_number, listed_exact}

-- the look that has a listing refuse
refusing :
    {S : Type 0} {room place : ℕ} {es : List Entry} {x : Stand S} {k : Step S} {a : Answer} (why : Refusal) → a ≡ Err (Rule why)
    → Answered room es x k a place → k ≡ Stop why place
refusing why z (said at_end all enough) = let x : ◌≡◌ {A = ℕ} 0 1 = cc in absurd (omega arith)
refusing why z (said (by_rule {r} {p}) all enough) = let same : r ≡ why = cc in ap (λ (q : Refusal). Stop q p) same
refusing why z (full e finds count) = let x : ◌≡◌ {A = ℕ} 0 1 = cc in absurd (omega arith)

-- the planes of what holds channels are within the limits
limited : (s : List ℕ) (p : Parent) (place : ℕ) → is_host p ≡ true → fault_in s p place ≡ None → is_depth (depth_of s) ≡ true → (bitmap : ℕ) → Limited (shape_in s p place bitmap)
limited s p place host permitted good bitmap =
    let sized = saved p host permitted in
    record {
      few =
          pick_ind (λ (n : ℕ). n ≤ 8) (eqb bitmap 0) _ _
          (λ _. four (λ (d : ℕ). cond (ltb d 24) d 8 ≤ 8) (omega arith) (omega arith) (omega arith) (omega arith) (depth_of s) good) (λ _. omega arith);
      wide = sized.width;
      high = sized.height;
    }
  where
    saved : (p : Parent) → is_host p ≡ true → fault_in s p place ≡ None → Sized (saved_in s p place bitmap)
    saved Layer really good =
        let rules = layer_rules (depth_of s) (layer_from s place) good in
        pick_ind Sized (eqb bitmap 2) _ _ (λ _. rules.saved_mask) (λ _. rules.saved_image)
    saved Selection really good = (mask_rules 0 (selection_from s place).mask good).saved
    saved Alpha really good = (mask_rules 256 (alpha_from s place).mask good).saved
    saved Main really good = never really
    saved Bank really good = never really
    saved AlphaBank really good = never really

module _ (s : List ℕ) where
  whole : {at id size : ℕ} → Chunked s at id size → size ≤ length (chunk_of s at size)
  whole {at} {size} j = omega (arith, part_length s (at + block_header_size) size j.present)

  in_bank : {o : Open} {es : List Entry} {m : Members} (i : InBank s o es m) → Inside (outer o) 0 es i.bank i.members
  in_bank i = record { held_by = i.last; is = i.is_bank_lem }

  in_host : {level : ℕ} {p : Parent} {es : List Entry} {l : Current} (i : InHost s level p es l) → Inside p level es i.host i.channels
  in_host i = record { held_by = i.last; is = i.is_host_lem }

  -- a plane length that is not permitted, by the shape that the parent's own chunk gives
  plane_named :
      {levels at offset : ℕ} {es : List Entry} {st : State} {p : Parent} → Underway s levels es st → Hosts s levels es st p → is_host p ≡ true
      → Chunked s at 5 channel_size
      → let c = channel_at s (at + block_header_size) in
      0 < st.current.left → codes_fault c ≡ None → is_awaited st p c ≡ true
      → plane_fault (shape_for st.current st.image.depth c.bitmap) c ≡ Some offset → Named s es at offset
  plane_named {at} {offset} {p} u h host j room codes waited bad =
      let c = channel_at s (at + block_header_size) in
      let i = h.host in
      of_plane j host (in_host i) (record { permitted = codes_rules c codes; awaited = awaited s u h host c room waited at })
      (plane_names _ (limited s p i.host.block.place host i.permitted (depth_good s u) c.bitmap) _ (whole j) _
      (subst (λ (f : Shape). plane_fault f c ≡ Some offset) (shape_is s u h host c room waited at) bad))

  -- a fault, by what the walk knows there
  fault_named :
      {levels at end offset : ℕ} {es : List Entry} {st : State} → levels ≤ main → CameTo s levels at es st → FaultOf s st at end levels offset
      → Named s es at offset
  fault_named low fresh (an_image's j none bad) = of_image j refl (image_names _ (whole j) _ bad)
  fault_named low fresh (a_palette's j b used bad) = absurd (b refl)
  fault_named low fresh (a_layer's j b deep is bad) = absurd (b refl)
  fault_named low fresh (a_code's j b host bad) = absurd (b refl)
  fault_named low fresh (a_plane's j b host room codes waited bad) = absurd (b refl)
  fault_named low fresh (a_selection's j b top bad) = absurd (b refl)
  fault_named low fresh (an_alpha's j b deep is bad) = absurd (b refl)
  fault_named low (begun u) (an_image's j none bad) = absurd (not_first s u none)
  fault_named {at} {offset} low (begun u) (a_palette's j b used bad) =
      of_palette j (λ z. used (depth_is s u ∙ z))
      (palette_names _ _ (whole j) _ (subst (λ (d : ℕ). palette_fault d (palette_at s (at + block_header_size)) ≡ Some offset) (depth_is s u) bad))
  fault_named {at} {offset} {es} {st} low (begun u) (a_layer's j b deep is bad) =
      of_layer j (in_bank (open_bank s (subst (λ (l : ℕ). Underway s l es st) deep u) opens.Layers is layers_no_mask))
      (layer_names _ _ (whole j) _ (subst (λ (d : ℕ). layer_fault d (layer_at s (at + block_header_size)) ≡ Some offset) (depth_is s u) bad))
  fault_named low (begun u) (a_selection's j b top bad) = of_selection j (selection_names _ (whole j) _ bad)
  fault_named {es} {st} low (begun u) (an_alpha's j b deep is bad) =
      of_alpha j (in_bank (open_bank s (subst (λ (l : ℕ). Underway s l es st) deep u) opens.Alphas is alphas_no_mask)) (alpha_names _ (whole j) _ bad)
  fault_named {levels} {st} low (begun u) (a_code's j b host bad) =
      of_codes j host (in_host (hosts s u (held st.opened levels low) host).host) (codes_names _ (whole j) _ bad)
  fault_named {levels} {st} low (begun u) (a_plane's j b host room codes waited bad) =
      plane_named u (hosts s u (held st.opened levels low) host) host j room codes waited bad

  stop_named :
      {levels at end p : ℕ} {es : List Entry} {st : State} → levels ≤ main → CameTo s levels at es st → Tiles file_header_size es at
      → Stepped s st at end levels (Stop WrongField p) → WhichField s es p
  stop_named small came tiles (stopped low other) = never (sym other)
  stop_named {at} small came tiles (named {offset} f) = record { at = at; behind = tiles; offset = offset; is = refl; named = fault_named small came f }

  -- an input that is refused with 8: the place is that of the field whose rule fails, and those that are judged before it satisfy theirs
  pub which_field : (room : ℕ) → answer_number (listed s room).answer ≡ 8 → WhichField s (listed s room).entries (listed s room).place
  which_field room eight = by (sym (answer_back (listed s room).answer) ∙ ap answer_of eight ∙ answer_back (Err (Rule WrongField))) (listed_exact s room)
    where
      by : {r : Listed} → r.answer ≡ Err (Rule WrongField) → Exact s room r → WhichField s r.entries r.place
      by z (header bad) = absurd (omega (arith, head_number s, ap answer_number z))
      by z (blocks good x) =
          let came = course_keeps main (length s) (step_at s) (moves s) (CameTo s) (kept s) start file_header_size beyond main (omega arith) (omega arith) fresh x.course in
          stop_named (omega arith) came x.tiles (looked s (omega arith) (refusing WrongField z x.answered))

-- of request (vi)'s pairs the later field is named
pub later_named : LaterNamed
later_named = record {
  image = both (at image_rule 16 (λ c. refl)) (both (at image_rule 23 (λ c. refl)) (both (at image_rule 27 (λ c. refl)) (both (at image_rule 36 (λ c. refl)) empty)));
  layer = λ depth.
      let rule = layer_rule depth in
      both (at rule 273 (λ c. refl)) (both (at rule 310 (λ c. refl)) (both (at rule 373 (λ c. refl)) empty));
  selection = at selection_rule 16 (λ c. refl);
  alpha = at alpha_rule 272 (λ c. refl);
}
  where
    at : (rule : List ℕ → List Field) (place : ℕ) → ((chunk : List ℕ) → starts place (rule chunk) ≡ true) → Later rule place
    at rule place begins chunk other offset n = later rule chunk other offset place n (begins chunk)
