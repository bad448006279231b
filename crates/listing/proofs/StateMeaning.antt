-- What the rules' state means wherever the walk has come to, by the entries that are listed: kept by each of its steps. From it each
-- listed entry is right by those before it, and an accepted file is complete.
use mathlib.Core.Path.{◌≡◌, refl, sym, ap, subst, subst⁻¹, subst₂, subst₃, ◌∙◌}
use mathlib.Core.Logic.{⊎_elim}
use mathlib.Core.Bool.{Bool, true, false, ◌||◌, not}
use mathlib.Core.List.{List, [], ◌∷◌, ◌++◌}
use Prim.Native.Nat.{ℕ, suc, ◌+◌, ◌-◌, ◌*◌, ◌≤◌, ◌<◌, ◌^◌}
use native.Mathlib.Omega.{arith}
use borrow.Author.Tests.{eqb-true, ltb-true, not-true}
use lib.Dec.{eqb, ltb}
use lib.ListN.{length, length-append}
use Rattle.std.specs.Prelude.{None}
use Rattle.laws.specs.Choice.{pick}
use Rattle.laws.specs.Lists.{filter}
use Rattle.laws.proofs.Choice.{pick_ind}
use Rattle.laws.proofs.Filter.{filter_same}
use Rattle.laws.proofs.Tests.{both, either, never, less_or_not}
use Rattle.rect.specs.declared.planes.Shape.{Shape}
use Rattle.rect.specs.Rect.{width_of, height_of}
use Rattle.rect.specs.Rows.{sides_of, shape_of, is_plane, row_for, Taken, size_of}
use Rattle.rect.proofs.Forms.{taken}
use Rattle.entry.specs.declared.Entry.{Entry}
use Rattle.entry.specs.Entry.{keep, block, code, content, plain, ranked, filled, is_kind}
use Rattle.walk.specs.Walk as walk
use Rattle.walk.specs.Walk.{End, Leaf, Nest}
use Rattle.walk.specs.Invariant.{Invariant, Each}
use Rattle.walk.specs.Parents.{next, holder, rank, Of}
use Rattle.walk.proofs.Parents.{closed_inside, closed_more}
use Rattle.headers.specs.BlockHeader.{block_header_size}
use Rattle.headers.specs.FileHeader.{file_header_size}
use Rattle.headers.specs.Places.{image_place}
use Rattle.attributes.specs.Depth.{is_depth, colour_short}
use Rattle.attributes.specs.ImageAttributes.{is_paletted}
use Rattle.attributes.proofs.Rules.{image_rules, four, colour_bits_lem}
use Rattle.chunk.specs.declared.channel_information.ChannelChunk.{ChannelChunk}
use Rattle.chunk.specs.Heads.{image_head, palette_head, layer_head, channel_head, selection_head, alpha_bank_head, alpha_head}
use Rattle.chunk.specs.ColorPalette.{palette_at}
use Rattle.chunk.specs.LayerInformation.{layer_fault}
use Rattle.chunk.specs.ChannelInformation.{channel_at}
use Rattle.chunk.proofs.Rules.{palette_rules, plane_rule_lem, mask_rules}
use Rattle.memory.specs.declared.parent.Open.{Open}
use Rattle.memory.specs.declared.parent.Open.TheVariants as opens
use Rattle.memory.specs.declared.parent.Parent.{Parent}
use Rattle.memory.specs.declared.parent.Parent.TheVariants.{Main, Bank, Layer, Selection, AlphaBank, Alpha}
use Rattle.memory.specs.declared.state.State.{State}
use Rattle.memory.specs.declared.state.Announced.{Announced}
use Rattle.memory.specs.declared.state.Current.{Current}
use Rattle.memory.specs.declared.state.Met as memory
use Rattle.memory.specs.Codes.{is_expected, has_colours}
use Rattle.memory.specs.Parent.{main, level_of, outer, inner, parent_at, is_host}
use Rattle.memory.specs.State.{start, announced_by, with_image, with_palette, with_bank, with_selection, with_alpha_bank, with_member, layer_by, mask_by, with_channel, shape_for, is_full}
use Rattle.memory.proofs.Parents as parents
use Rattle.memory.proofs.Parents.{Held, held}
use Rattle.kinds.specs.Blocks.{skipped_by}
use Rattle.layers.specs.Layers.{channel_entry, is_awaited}
use Rattle.block.specs.Step.{step_at}
use Rattle.block.proofs.Stepped.{IsPalette, IsSkip, an_image, a_palette, a_channel, a_skip, a_bank, a_layer, a_selection, an_alpha_bank, an_alpha, Stepped, accepted, ended, leafed, nested, stepped}
use Rattle.listing.specs.Right.{is_palette, is_bank, is_layer, is_channel, is_selection, is_alpha_bank, is_alpha, parent_of, is_member, members_in, layers_in, codes_in, image_in, depth_of, layer_from, selection_from, alpha_bank_from, alpha_from, fault_in, channels_in, saved_in, Awaited, Completed, Full, FullAs, ImageRight, OnlyRight, MemberRight, SkipRight, shape_in, RightAs, Right}
use Rattle.listing.proofs.CodesRemembered.{came_in_once, came_in_all, expected_ind}
use Rattle.listing.proofs.Holding.{one_more, as_many, Holdless, no_member, nothing_held, is_met, InBank, InHost, Inside, at_main, in_bank, in_selection, in_member, new_bank, bank_member, still_in_bank, new_host, still_in_host, host_channel, has_members}

-- ### Shapes

-- of what they remember the rules compute the shape of a bitmap's planes in what holds them
shape_right :
    (s : List ℕ) (p : Parent) (place : ℕ) (l : Current) → is_depth (depth_of s) ≡ true → l.image ≡ sides_of (saved_in s p place 0)
    → l.mask ≡ sides_of (saved_in s p place 2) → (b k : ℕ) → is_expected p (depth_of s) b k ≡ true → shape_for l (depth_of s) b ≡ shape_in s p place b
unfolding shape_for pick
shape_right s p place l good image mask b k =
    let P : Parent → ℕ → ℕ → Type 0 = λ q x y.
    l.image ≡ sides_of (saved_in s q place 0) → l.mask ≡ sides_of (saved_in s q place 2) → shape_for l (depth_of s) x ≡ shape_in s q place x in
    let colour : P Layer 0 0 = λ image mask i. shape_of (image i) (colour_bits_lem (depth_of s) good i) (colour_short (depth_of s)) in
    λ expected.
    expected_ind P colour colour colour colour (λ image mask i. shape_of (image i) 8 true) (λ image mask i. shape_of (mask i) 8 true)
    (λ image mask i. shape_of (image i) 8 true) (λ image mask i. shape_of (image i) 8 true) p (depth_of s) b k expected image mask

-- ### Lists

not_nil : (es : List Entry) (e : Entry) → es ++ e ∷ [] ≡ [] → ⊥
not_nil es e z = let long : length (es ++ e ∷ []) ≡ 0 = ap length z in omega (arith, length-append es (e ∷ []))

-- at most one of a kind was met: none, or one
pub record Met (kind : Entry → Bool) (met : Bool) (es : List Entry) : Type 0 where
  pub none : met ≡ false → filter kind es ≡ []
  pub one : met ≡ true → length (filter kind es) ≡ 1

met_same : (kind : Entry → Bool) {met : Bool} (es : List Entry) (e : Entry) → kind e ≡ false → Met kind met es → Met kind met (es ++ e ∷ [])
met_same kind es e h m = record { none = λ z. filter_same kind es e h ∙ m.none z; one = λ z. as_many kind es e h ∙ m.one z }

met_first : (kind : Entry → Bool) (es : List Entry) (e : Entry) → kind e ≡ true → filter kind es ≡ [] → Met kind true (es ++ e ∷ [])
met_first kind es e h none = record { none = λ z. never (sym z); one = λ _. one_more kind es e h ∙ ap (λ (l : List Entry). suc (length l)) none }

-- what was met stays so, whatever becomes of the palette
met_kept : (o : Open) (m : memory.Met) (palette : Bool) → is_met o m ≡ true
    → is_met o (record { palette = palette; bank = m.bank; selection = m.selection; alphas = m.alphas }) ≡ true
met_kept opens.Layers m palette z = z
met_kept opens.Mask m palette z = z
met_kept opens.Alphas m palette z = z

-- a bank is no selection
pub layers_no_mask : opens.Layers ≡ opens.Mask → ⊥
layers_no_mask e = let z : ◌≡◌ {A = ℕ} 0 1 = cc in absurd (omega arith)

pub alphas_no_mask : opens.Alphas ≡ opens.Mask → ⊥
alphas_no_mask e = let z : ◌≡◌ {A = ℕ} 0 1 = cc in absurd (omega arith)

-- ### Where the walk has come to

module _ (s : List ℕ) where
  -- behind the image block, wherever that is: what the state knows of the file
  pub record Known (es : List Entry) (st : State) : Type 0 where
    pub announced : st.image ≡ announced_by (image_in s)
    pub image : ImageRight s
    pub some : es ≡ [] → ⊥
    pub palette : (depth_of s ≡ 24 → ⊥) → Met is_palette st.met.palette es
    pub bank : Met is_bank st.met.bank es
    pub selection : Met is_selection st.met.selection es
    pub alpha_bank : Met is_alpha_bank st.met.alphas es
    pub no_layers : st.met.bank ≡ false → members_in Bank es ≡ 0
    pub no_alphas : st.met.alphas ≡ false → members_in AlphaBank es ≡ 0

  -- and with so many levels left: what holds the place, and that it was met; outside the bank all layers have come, once it was met; what
  -- lies deeper has ended
  pub record Underway (levels : ℕ) (es : List Entry) (st : State) : Type 0 where
    pub known : Known es st
    pub inside : Inside s levels es st
    pub met : (levels ≡ main → ⊥) → is_met st.opened st.met ≡ true
    pub outside : ((levels ≡ main → ⊥) → st.opened ≡ opens.Layers → ⊥) → st.met.bank ≡ true → layers_in es ≡ (image_in s).layers
    pub closed : (l : ℕ) → level_of levels ≤ l → Of (Full s) (holder l es)

  pub data CameTo : ℕ → ℕ → List Entry → State → Type 0 where
    fresh : CameTo main file_header_size [] start
    begun : {levels at : ℕ} {es : List Entry} {st : State} → Underway levels es st → CameTo levels at es st

  -- ### An entry is right, by what its own id asks

  as_own : (own : ℕ) (before : List Entry) (e : Entry) → RightAs own s before e → (id : ℕ) → eqb own id ≡ true → RightAs id s before e
  as_own own before e right id z = subst (λ (n : ℕ). RightAs n s before e) (eqb-true own id z) right

  right_of :
      {levels : ℕ} {es : List Entry} {st : State} → Underway levels es st → (e : Entry) → e.block.level ≡ level_of levels
      → ((id : ℕ) → is_kind id e ≡ true → RightAs id s es e) → (e.block.skipped ≡ 1 → SkipRight s e) → Right s es e
  right_of u e here kind skipped = record {
    image = u.known.image;
    first = λ z. absurd (u.known.some z);
    closed = λ l low. u.closed l (omega arith);
    kind = kind;
    skipped = skipped;
  }

  module _ {levels : ℕ} {es : List Entry} {st : State} (u : Underway levels es st) where
    pub depth_is : st.image.depth ≡ depth_of s
    depth_is = ap (λ (a : Announced). a.depth) u.known.announced

    pub depth_good : is_depth (depth_of s) ≡ true
    depth_good = (image_rules (image_in s) u.known.image.permitted).depth

    pub not_first : st.image.depth ≡ 0 → ⊥
    not_first e =
        four (λ (d : ℕ). d ≡ 0 → ⊥) (λ z. absurd (omega arith)) (λ z. absurd (omega arith)) (λ z. absurd (omega arith)) (λ z. absurd (omega arith))
        (depth_of s) depth_good (sym depth_is ∙ e)

  -- an entry that holds nothing, whatever becomes of the palette and of what is known of an open block
  known_more :
      (es : List Entry) (e : Entry) {st : State} → Holdless e → Known es st → (palette : Bool) (current : Current)
      → ((depth_of s ≡ 24 → ⊥) → Met is_palette palette (es ++ e ∷ [])) → Known (es ++ e ∷ []) (record {
        image = st.image;
        met = record { palette = palette; bank = st.met.bank; selection = st.met.selection; alphas = st.met.alphas };
        opened = st.opened;
        members = st.members;
        current = current;
      })
  known_more es e none k palette current met = record {
    announced = k.announced;
    image = k.image;
    some = not_nil es e;
    palette = met;
    bank = met_same is_bank es e none.bank k.bank;
    selection = met_same is_selection es e none.selection k.selection;
    alpha_bank = met_same is_alpha_bank es e none.alpha_bank k.alpha_bank;
    no_layers = λ z. as_many is_layer es e none.layer ∙ k.no_layers z;
    no_alphas = λ z. as_many is_alpha es e none.alpha ∙ k.no_alphas z;
  }

  -- ### An entry that holds nothing and is no channel

  module _ (es : List Entry) (e : Entry) (none : Holdless e) (not-channel : is_channel e ≡ false) {levels : ℕ} {st : State} (low : levels ≤ main)
      (here : e.block.level ≡ level_of levels) (u : Underway levels es st) where
    -- whatever becomes of the palette
    passes : (palette : Bool) → ((depth_of s ≡ 24 → ⊥) → Met is_palette palette (es ++ e ∷ [])) → Underway levels (es ++ e ∷ []) (record {
      image = st.image;
      met = record { palette = palette; bank = st.met.bank; selection = st.met.selection; alphas = st.met.alphas };
      opened = st.opened;
      members = st.members;
      current = st.current;
    })
    passes palette met = record {
      known = known_more es e none u.known palette st.current met;
      inside = by u.inside;
      met = λ inner. met_kept st.opened st.met palette (u.met inner);
      outside = λ out z. as_many is_layer es e none.layer ∙ u.outside out z;
      closed = closed_more (Full s) (level_of levels) es e here u.closed (nothing_held e none s);
    }
      where
        by : Inside s levels es st → Inside s levels (es ++ e ∷ []) (record {
          image = st.image;
          met = record { palette = palette; bank = st.met.bank; selection = st.met.selection; alphas = st.met.alphas };
          opened = st.opened;
          members = st.members;
          current = st.current;
        })
        by (at_main z) = at_main z
        by (in_bank {o} z is i) = in_bank z is (still_in_bank s es e (no_member e none (outer o)) (omega arith) i)
        by (in_selection z is i) = in_selection z is (still_in_host s es e (omega arith) not-channel i)
        by (in_member {o} z is i h) =
            in_member z is (still_in_bank s es e (no_member e none (outer o)) (omega arith) i) (still_in_host s es e (omega arith) not-channel h)

  -- ### The image block comes first

  module _ (image : ImageRight s) where
    abbrev image_entry : Entry
    image_entry = plain (block 0 0 0 image_place image_head)

    image_begins : Underway main (image_entry ∷ []) (with_image (image_in s) start)
    unfolding filter pick keep next
    image_begins = record {
      known = record {
        announced = refl;
        image = image;
        some = not_nil [] image_entry;
        palette = λ _. record { none = λ _. refl; one = λ z. never z };
        bank = record { none = λ _. refl; one = λ z. never z };
        selection = record { none = λ _. refl; one = λ z. never z };
        alpha_bank = record { none = λ _. refl; one = λ z. never z };
        no_layers = λ _. refl;
        no_alphas = λ _. refl;
      };
      inside = at_main refl;
      met = λ inner. absurd (inner refl);
      outside = λ out z. never z;
      closed = closed_more (Full s) 0 [] image_entry refl (λ l low. tt) (nothing_held image_entry holdless s);
    }
      where
        holdless : Holdless image_entry
        holdless = record { bank = refl; layer = refl; selection = refl; alpha_bank = refl; alpha = refl }

    image_right : Right s [] image_entry
    unfolding keep
    image_right = record {
      image = image;
      first = λ _. refl;
      closed = λ l low. tt;
      kind = as_own 0 [] image_entry tt;
      skipped = λ z. absurd (omega arith);
    }

  -- ### A palette, and a skipped block

  module _ {levels : ℕ} {es : List Entry} {st : State} (low : levels ≤ main) (u : Underway levels es st) where
    module _ {at end next : ℕ} {e : Entry} {q : State} (i : IsPalette s st at end levels e next q) where
      abbrev palette_entry : Entry
      palette_entry = filled (block 2 0 (level_of levels) at (palette_head + 4 * i.count)) (content (at + palette_head) (4 * i.count))

      used_here : depth_of s ≡ 24 → ⊥
      used_here z = i.used (depth_is u ∙ z)

      no_palette : filter is_palette es ≡ []
      no_palette = (u.known.palette used_here).none i.once

      palette_passes : Underway levels (es ++ palette_entry ∷ []) (with_palette st)
      palette_passes = passes es palette_entry (record { bank = refl; layer = refl; selection = refl; alpha_bank = refl; alpha = refl }) refl low refl u true (λ _. met_first is_palette es palette_entry refl no_palette)

      palette_right : Right s es palette_entry
      palette_right =
          let rules = palette_rules st.image.depth (palette_at s (at + block_header_size)) i.permitted_all in
          right_of u palette_entry refl
          (as_own 2 es palette_entry (record {
            count = i.count;
            counted = i.is;
            low = subst⁻¹ (λ (n : ℕ). 1 ≤ n) i.is rules.low;
            high = subst₂ (λ (n d : ℕ). n ≤ 2 ^ d) (sym i.is) (depth_is u) rules.high;
            is = ap (λ (l : ℕ). filled (block 2 0 (level_of l) at (palette_head + 4 * i.count)) (content (at + palette_head) (4 * i.count))) i.top;
            inside = i.present;
            used = used_here;
            once = no_palette;
          })) (λ z. absurd (omega arith))

    module _ {at end next : ℕ} {e : Entry} {q : State} (i : IsSkip s st at end levels e next q) where
      abbrev skip_entry_lem : Entry
      skip_entry_lem = filled (block i.id 1 (level_of levels) at (block_header_size + i.total)) (content (at + block_header_size) i.total)

      unused_here : i.id ≡ 2 → depth_of s ≡ 24
      unused_here z = sym (depth_is u) ∙ i.unused z

      skip_passes : Underway levels (es ++ skip_entry_lem ∷ []) (skipped_by i.id st)
      unfolding skipped_by
      skip_passes =
          let none : Holdless skip_entry_lem = record { bank = refl; layer = refl; selection = refl; alpha_bank = refl; alpha = refl } in
          pick_ind (Underway levels (es ++ skip_entry_lem ∷ [])) (eqb i.id 2) _ _
          (λ two. passes es skip_entry_lem none refl low refl u true (λ used. absurd (used (unused_here (eqb-true i.id 2 two)))))
          (λ _. passes es skip_entry_lem none refl low refl u st.met.palette (λ used. met_same is_palette es skip_entry_lem refl (u.known.palette used)))

      skip_right : Right s es skip_entry_lem
      skip_right =
          right_of u skip_entry_lem refl (λ id z. never z) (λ _. record { is = refl; inside = i.present; unused = unused_here })

  -- ### A main block that comes once is entered

  module _ {es : List Entry} {st : State} (u : Underway main es st) (id head at : ℕ) where
    abbrev only_entry : Entry
    only_entry = plain (block id 0 0 at head)

    only : filter (is_kind id) es ≡ [] → at + head ≤ length s → OnlyRight s id head es only_entry
    only none there = record { is = refl; once = none; inside = there }

    -- it is no layer, so these stay
    layers_stay : is_layer only_entry ≡ false → st.met.bank ≡ true → layers_in (es ++ only_entry ∷ []) ≡ (image_in s).layers
    layers_stay other z = as_many is_layer es only_entry other ∙ u.outside (λ inner. absurd (inner refl)) z

  module _ {es : List Entry} {st : State} (u : Underway main es st) (at : ℕ) (once : st.met.bank ≡ false) where
    abbrev bank_entry : Entry
    bank_entry = only_entry u 3 block_header_size at

    bank_entered : Underway 1 (es ++ bank_entry ∷ []) (with_bank st)
    unfolding parent_of pick
    bank_entered =
        let k = u.known in
        let none = as_many is_layer es bank_entry refl ∙ k.no_layers once in
        record {
          known = record {
            announced = k.announced;
            image = k.image;
            some = not_nil es bank_entry;
            palette = λ used. met_same is_palette es bank_entry refl (k.palette used);
            bank = met_first is_bank es bank_entry refl (k.bank.none once);
            selection = met_same is_selection es bank_entry refl k.selection;
            alpha_bank = met_same is_alpha_bank es bank_entry refl k.alpha_bank;
            no_layers = λ z. never (sym z);
            no_alphas = λ z. as_many is_alpha es bank_entry refl ∙ k.no_alphas z;
          };
          inside =
              in_bank refl refl
              (new_bank s es bank_entry opens.Layers _ refl refl refl none refl (ap (λ (a : Announced). a.layers) k.announced));
          met = λ _. refl;
          outside = λ out z. absurd (out (λ e. absurd (omega arith)) refl);
          closed = closed_inside (Full s) 0 es bank_entry refl u.closed;
        }

    bank_right : at + block_header_size ≤ length s → Right s es bank_entry
    bank_right there = right_of u bank_entry refl (as_own 3 es bank_entry (only u 3 block_header_size at (u.known.bank.none once) there)) (λ z. absurd (omega arith))

  module _ {es : List Entry} {st : State} (u : Underway main es st) (at : ℕ) (once : st.met.alphas ≡ false) where
    abbrev alpha_bank_entry : Entry
    alpha_bank_entry = only_entry u 7 alpha_bank_head at

    alpha_bank_entered : Underway 1 (es ++ alpha_bank_entry ∷ []) (with_alpha_bank (alpha_bank_from s at) st)
    unfolding parent_of pick
    alpha_bank_entered =
        let k = u.known in
        let none = as_many is_alpha es alpha_bank_entry refl ∙ k.no_alphas once in
        record {
          known = record {
            announced = k.announced;
            image = k.image;
            some = not_nil es alpha_bank_entry;
            palette = λ used. met_same is_palette es alpha_bank_entry refl (k.palette used);
            bank = met_same is_bank es alpha_bank_entry refl k.bank;
            selection = met_same is_selection es alpha_bank_entry refl k.selection;
            alpha_bank = met_first is_alpha_bank es alpha_bank_entry refl (k.alpha_bank.none once);
            no_layers = λ z. as_many is_layer es alpha_bank_entry refl ∙ k.no_layers z;
            no_alphas = λ z. never (sym z);
          };
          inside = in_bank refl refl (new_bank s es alpha_bank_entry opens.Alphas _ refl refl refl none refl refl);
          met = λ _. refl;
          outside = λ _ z. layers_stay u 7 alpha_bank_head at refl z;
          closed = closed_inside (Full s) 0 es alpha_bank_entry refl u.closed;
        }

    alpha_bank_right : at + alpha_bank_head ≤ length s → Right s es alpha_bank_entry
    alpha_bank_right there = right_of u alpha_bank_entry refl (as_own 7 es alpha_bank_entry (only u 7 alpha_bank_head at (u.known.alpha_bank.none once) there)) (λ z. absurd (omega arith))

  module _ {es : List Entry} {st : State} (u : Underway main es st) (at : ℕ) (once : st.met.selection ≡ false)
      (good : fault_in s Selection at ≡ None) where
    abbrev selection_entry : Entry
    selection_entry = only_entry u 6 selection_head at

    selection_entered : Underway 1 (es ++ selection_entry ∷ []) (with_selection (selection_from s at) st)
    unfolding parent_of pick
    selection_entered =
        let k = u.known in
        record {
          known = record {
            announced = k.announced;
            image = k.image;
            some = not_nil es selection_entry;
            palette = λ used. met_same is_palette es selection_entry refl (k.palette used);
            bank = met_same is_bank es selection_entry refl k.bank;
            selection = met_first is_selection es selection_entry refl (k.selection.none once);
            alpha_bank = met_same is_alpha_bank es selection_entry refl k.alpha_bank;
            no_layers = λ z. as_many is_layer es selection_entry refl ∙ k.no_layers z;
            no_alphas = λ z. as_many is_alpha es selection_entry refl ∙ k.no_alphas z;
          };
          inside = in_selection refl refl (new_host s es selection_entry 0 Selection _ refl refl refl good refl refl refl refl);
          met = λ _. refl;
          outside = λ _ z. layers_stay u 6 selection_head at refl z;
          closed = closed_inside (Full s) 0 es selection_entry refl u.closed;
        }

    selection_right : at + selection_head ≤ length s → Right s es selection_entry
    selection_right there = right_of u selection_entry refl (as_own 6 es selection_entry (record { only = only u 6 selection_head at (u.known.selection.none once) there; permitted = good })) (λ z. absurd (omega arith))

  -- ### A member of the open bank is entered

  -- the bank that holds the place
  pub open_bank : {es : List Entry} {st : State} → Underway 1 es st → (o : Open) → st.opened ≡ o → (o ≡ opens.Mask → ⊥) → InBank s o es st.members
  open_bank {es} {st} u o is other = by u.inside
    where
      by : Inside s 1 es st → InBank s o es st.members
      by (at_main z) = absurd (omega arith)
      by (in_bank z at i) = subst (λ (x : Open). InBank s x es st.members) (sym at ∙ is) i
      by (in_selection z at i) = absurd (other (sym is ∙ at))
      by (in_member z at i h) = absurd (omega arith)

  module _ {es : List Entry} {st : State} (u : Underway 1 es st) {o : Open} (is : st.opened ≡ o) (i : InBank s o es st.members) (e : Entry)
      (here : e.block.level ≡ 1) (member : is_member (outer o) e ≡ true) where
    -- in a state where one more was found
    member_entered :
        (current : Current) → InHost s 1 (inner o) (es ++ e ∷ []) current → is_palette e ≡ false → is_bank e ≡ false → is_selection e ≡ false
        → is_alpha_bank e ≡ false → (st.met.bank ≡ false → members_in Bank (es ++ e ∷ []) ≡ 0) → (st.met.alphas ≡ false → members_in AlphaBank (es ++ e ∷ []) ≡ 0)
        → ((st.opened ≡ opens.Layers → ⊥) → is_layer e ≡ false) → Underway 0 (es ++ e ∷ []) (with_member current st)
    member_entered current h not-palette not-bank not-selection not-alphas no_layers no_alphas not-layer =
        let k = u.known in
        record {
          known = record {
            announced = k.announced;
            image = k.image;
            some = not_nil es e;
            palette = λ used. met_same is_palette es e not-palette (k.palette used);
            bank = met_same is_bank es e not-bank k.bank;
            selection = met_same is_selection es e not-selection k.selection;
            alpha_bank = met_same is_alpha_bank es e not-alphas k.alpha_bank;
            no_layers = no_layers;
            no_alphas = no_alphas;
          };
          inside = in_member refl is (bank_member s es e here member i) h;
          met = λ _. u.met (λ z. absurd (omega arith));
          outside = λ out z.
              as_many is_layer es e (not-layer (out (λ y. absurd (omega arith)))) ∙ u.outside (λ _. out (λ y. absurd (omega arith))) z;
          closed = closed_inside (Full s) 1 es e here u.closed;
        }

    member_right :
        {id head at : ℕ} → e ≡ ranked (block id 0 1 at head) (members_in (outer o) es) → fault_in s (inner o) at ≡ None → at + head ≤ length s
        → MemberRight s (outer o) (inner o) id head es e
    member_right {id} {head} {at} entry good there =
        let place : at ≡ e.block.place = sym (ap (λ (x : Entry). x.block.place) entry) in
        record {
          parent = i.bank;
          others = i.members;
          held_by = i.last;
          is_bank_lem = i.is_bank_lem;
          rank_is = ap (λ (x : Entry). x.layer) entry ∙ i.count ∙ sym i.ranks ∙ ap (rank (is_member (outer o))) (sym i.last);
          is = subst (λ (p : ℕ). e ≡ ranked (block id 0 1 p head) (members_in (outer o) es)) place entry;
          permitted = subst (λ (p : ℕ). fault_in s (inner o) p ≡ None) place good;
          inside = subst (λ (p : ℕ). p + head ≤ length s) place there;
        }

  module _ {es : List Entry} {st : State} (u : Underway 1 es st) (is : st.opened ≡ opens.Layers) (at : ℕ) (good : fault_in s Layer at ≡ None) where
    abbrev its_bank : InBank s opens.Layers es st.members
    its_bank = open_bank u opens.Layers is layers_no_mask

    abbrev layer_entry_lem : Entry
    layer_entry_lem = ranked (block 4 0 1 at layer_head) (layers_in es)

    layer_entered : Underway 0 (es ++ layer_entry_lem ∷ []) (with_member (layer_by (layer_from s at) st.members.found) st)
    unfolding parent_of pick
    layer_entered =
        member_entered u is its_bank layer_entry_lem refl refl _ (new_host s es layer_entry_lem 1 Layer _ refl refl (sym its_bank.count) good refl refl refl refl)
        refl refl refl refl
        (λ z. never (sym z ∙ subst (λ (o : Open). is_met o st.met ≡ true) is (u.met (λ e. absurd (omega arith)))))
        (λ z. as_many is_alpha es layer_entry_lem refl ∙ u.known.no_alphas z)
        (λ other. absurd (other is))

    layer_right : at + layer_head ≤ length s → Right s es layer_entry_lem
    layer_right there = right_of u layer_entry_lem refl (as_own 4 es layer_entry_lem (member_right u is its_bank layer_entry_lem refl refl refl good there)) (λ z. absurd (omega arith))

  module _ {es : List Entry} {st : State} (u : Underway 1 es st) (is : st.opened ≡ opens.Alphas) (at : ℕ) (good : fault_in s Alpha at ≡ None) where
    abbrev its_alpha_bank : InBank s opens.Alphas es st.members
    its_alpha_bank = open_bank u opens.Alphas is alphas_no_mask

    abbrev alpha_entry : Entry
    alpha_entry = ranked (block 8 0 1 at alpha_head) (members_in AlphaBank es)

    alpha_entered : Underway 0 (es ++ alpha_entry ∷ []) (with_member (mask_by (alpha_from s at).mask st.members.found) st)
    unfolding parent_of pick
    alpha_entered =
        member_entered u is its_alpha_bank alpha_entry refl refl _
        (new_host s es alpha_entry 1 Alpha _ refl refl (sym its_alpha_bank.count) good refl refl refl refl) refl refl refl refl
        (λ z. as_many is_layer es alpha_entry refl ∙ u.known.no_layers z)
        (λ z. never (sym z ∙ subst (λ (o : Open). is_met o st.met ≡ true) is (u.met (λ e. absurd (omega arith)))))
        (λ _. refl)

    alpha_right : at + alpha_head ≤ length s → Right s es alpha_entry
    alpha_right there = right_of u alpha_entry refl (as_own 8 es alpha_entry (member_right u is its_alpha_bank alpha_entry refl refl refl good there)) (λ z. absurd (omega arith))

  -- ### A channel

  -- what holds the place, where it holds channels: and with another entry there it does so still
  pub record Hosts (levels : ℕ) (es : List Entry) (st : State) (p : Parent) : Type 0 where
    pub up : ℕ
    pub level : level_of levels ≡ suc up
    pub host : InHost s up p es st.current
    pub again :
        (e : Entry) (l : Current) → Holdless e → e.block.level ≡ level_of levels → InHost s up p (es ++ e ∷ []) l
        → Inside s levels (es ++ e ∷ []) (record { image = st.image; met = st.met; opened = st.opened; members = st.members; current = l })

  pub hosts : {levels : ℕ} {es : List Entry} {st : State} {p : Parent} → Underway levels es st → Held st.opened levels p → is_host p ≡ true → Hosts levels es st p
  hosts {levels} {es} {st} u h host = by h host u.inside
    where
      member : (o : Open) → levels ≡ 0 → st.opened ≡ o → Inside s levels es st → Hosts levels es st (inner o)
      member o z at (at_main y) = absurd (omega arith)
      member o z at (in_bank y e i) = absurd (omega arith)
      member o z at (in_selection y e i) = absurd (omega arith)
      member o z at (in_member y e i h) =
          let same = sym e ∙ at in
          record {
            up = 1;
            level = omega arith;
            host = subst (λ (x : Open). InHost s 1 (inner x) es st.current) same h;
            again = λ e l none here h'.
                in_member z at
                (still_in_bank s es e (no_member e none (outer o)) (omega arith) (subst (λ (x : Open). InBank s x es st.members) same i)) h';
          }

      by : {p : Parent} → Held st.opened levels p → is_host p ≡ true → Inside s levels es st → Hosts levels es st p
      by (parents.by_main z) really i = never really
      by (parents.by_bank z at) really i = never really
      by (parents.by_alpha_bank z at) really i = never really
      by (parents.by_layer z at) really i = member opens.Layers z at i
      by (parents.by_alpha z at) really i = member opens.Alphas z at i
      by (parents.by_nothing z at) really i = member opens.Mask z at i
      by (parents.by_selection z at) really (at_main y) = absurd (omega arith)
      by (parents.by_selection z at) really (in_bank y e i) = never (sym (ap has_members (sym e ∙ at)) ∙ i.banks)
      by (parents.by_selection z at) really (in_selection y e i) = record { up = 0; level = omega arith; host = i; again = λ e l none here h. in_selection z at h }
      by (parents.by_selection z at) really (in_member y e i h) = absurd (omega arith)

  -- a selection and an alpha channel announce one channel
  one_channel : (p : Parent) (place : ℕ) → is_host p ≡ true → (p ≡ Layer → ⊥) → fault_in s p place ≡ None → channels_in s p place ≡ 1
  one_channel Layer place host other good = absurd (other refl)
  one_channel Selection place host other good = (mask_rules 0 (selection_from s place).mask good).channels
  one_channel Alpha place host other good = (mask_rules 256 (alpha_from s place).mask good).channels
  one_channel Main place host other good = never host
  one_channel Bank place host other good = never host
  one_channel AlphaBank place host other good = never host

  module _ {levels : ℕ} {es : List Entry} {st : State} {p : Parent} (u : Underway levels es st) (h : Hosts levels es st p) (host : is_host p ≡ true)
      (c : ChannelChunk) (room : 0 < st.current.left) (waited : is_awaited st p c ≡ true) (at : ℕ) where
    abbrev its_host : InHost s h.up p es st.current
    its_host = h.host

    abbrev its_place : ℕ
    its_place = its_host.host.block.place

    abbrev shape : Shape
    shape = shape_for st.current st.image.depth c.bitmap

    abbrev channel_entry_lem : Entry
    channel_entry_lem = channel_entry (level_of levels) at st.current.number c (size_of shape c.plane)

    expected : is_expected p (depth_of s) c.bitmap c.channel ≡ true
    expected =
        subst (λ (d : ℕ). is_expected p d c.bitmap c.channel ≡ true) (depth_is u)
        (both (is_expected p st.image.depth c.bitmap c.channel) _ waited).0

    pub awaited : Awaited p (depth_of s) (codes_in its_host.channels) (code c.bitmap c.channel)
    awaited = record {
      expected = expected;
      once =
          came_in_once p st.current.codes (codes_in its_host.channels) c.bitmap c.channel host its_host.came
          (not-true _ (both (is_expected p st.image.depth c.bitmap c.channel) _ waited).1)
          (λ other. omega (arith, its_host.left, one_channel p its_place host other its_host.permitted));
    }

    channel_passes : Underway levels (es ++ channel_entry_lem ∷ []) (with_channel c st)
    channel_passes =
        let none : Holdless channel_entry_lem = record { bank = refl; layer = refl; selection = refl; alpha_bank = refl; alpha = refl } in
        record {
          known =
              known_more es channel_entry_lem none u.known st.met.palette (with_channel c st).current
              (λ used. met_same is_palette es channel_entry_lem refl (u.known.palette used));
          inside = h.again channel_entry_lem _ none refl (host_channel s es channel_entry_lem c h.level refl refl room its_host awaited);
          met = u.met;
          outside = λ out z. as_many is_layer es channel_entry_lem refl ∙ u.outside out z;
          closed = closed_more (Full s) (level_of levels) es channel_entry_lem refl u.closed (nothing_held channel_entry_lem none s);
        }

    pub shape_is : shape ≡ shape_in s p its_place c.bitmap
    shape_is =
        ap (λ (d : ℕ). shape_for st.current d c.bitmap) (depth_is u)
        ∙ shape_right s p its_place st.current (depth_good u) its_host.image its_host.mask c.bitmap c.channel expected

    channel_right :
        c ≡ channel_at s (at + block_header_size) → at + channel_head + c.stored ≤ length s → is_plane shape c.plane ≡ true → Right s es channel_entry_lem
    unfolding size_of
    channel_right is present plane =
        right_of u channel_entry_lem refl
        (as_own 5 es channel_entry_lem (
        let by : (F : Parent → Type 0) → F p → F (parent_of its_host.host) = λ F x. subst⁻¹ F its_host.is_host_lem x in
        record {
          parent = its_host.host;
          others = its_host.channels;
          up = h.up;
          level = h.level;
          held_by = its_host.last;
          permitted = by (λ q. fault_in s q its_place ≡ None) its_host.permitted;
          number = its_host.number;
          awaited = by (λ q. Awaited q (depth_of s) (codes_in its_host.channels) (code c.bitmap c.channel)) awaited;
          bitmap = ap (λ (x : ChannelChunk). x.bitmap) is;
          channel = ap (λ (x : ChannelChunk). x.channel) is;
          stored = ap (λ (x : ChannelChunk). x.stored) is;
          owned = refl;
          start = refl;
          inside = present;
          width = by (λ q. shape.sides.width ≡ width_of (saved_in s q its_place c.bitmap)) (ap (λ (f : Shape). f.sides.width) shape_is);
          height = by (λ q. shape.sides.height ≡ height_of (saved_in s q its_place c.bitmap)) (ap (λ (f : Shape). f.sides.height) shape_is);
          plane = ap (λ (x : ChannelChunk). x.plane) is;
          row =
              subst (λ (f : Shape). Taken (shape_of shape.sides f.bits f.short) c.plane (row_for shape c.plane)) shape_is
              (taken shape c.plane plane);
        })) (λ z. absurd (omega arith))

  -- ### An end

  -- what holds channels is complete where its end is
  module _ {level : ℕ} {p : Parent} {es : List Entry} (st : State) (i : InHost s level p es st.current) (same : st.image.depth ≡ depth_of s)
      (host : is_host p ≡ true) (full : is_full st p ≡ true) where
    none_left : (q : Parent) → is_host q ≡ true → is_full st q ≡ true → st.current.left ≡ 0
    none_left Layer really h = eqb-true st.current.left 0 (both (eqb st.current.left 0) _ h).0
    none_left Selection really h = eqb-true st.current.left 0 h
    none_left Alpha really h = eqb-true st.current.left 0 h
    none_left Main really h = never really
    none_left Bank really h = never really
    none_left AlphaBank really h = never really

    coloured : p ≡ Layer → has_colours st.current.codes (depth_of s) ≡ true
    coloured e =
        subst (λ (d : ℕ). has_colours st.current.codes d ≡ true) same
        (both (eqb st.current.left 0) _ (subst (λ (q : Parent). is_full st q ≡ true) e full)).1

    completed : Completed s p i.host.block.place (codes_in i.channels)
    completed =
        let none = none_left p host full in
        record {
          permitted = i.permitted;
          count = omega (arith, i.left);
          each = i.each;
          all =
              came_in_all p (depth_of s) st.current.codes (codes_in i.channels) host i.came coloured
              (λ other. omega (arith, i.left, one_channel p i.host.block.place host other i.permitted)) i.each;
        }

    full_as : (q : Parent) → is_host q ≡ true → Completed s q i.host.block.place (codes_in i.channels) → FullAs s q i.host.block.place i.channels
    full_as Layer really x = x
    full_as Selection really x = x
    full_as Alpha really x = x
    full_as Main really x = never really
    full_as Bank really x = never really
    full_as AlphaBank really x = never really

    host_full : Of (Full s) (holder level es)
    host_full =
        subst⁻¹ (Of (Full s)) i.last
        (subst⁻¹ (λ (q : Parent). FullAs s q i.host.block.place i.channels) i.is_host_lem (full_as p host completed))

  -- a bank has its members
  bank_full : (o : Open) {es : List Entry} (st : State) → InBank s o es st.members → is_full st (outer o) ≡ true → Of (Full s) (holder 0 es)
  bank_full o {es} st i full =
      subst⁻¹ (Of (Full s)) i.last (subst⁻¹ (λ (q : Parent). FullAs s q i.bank.block.place i.members) i.is_bank_lem (by o i full))
    where
      by : (o : Open) → (i : InBank s o es st.members) → is_full st (outer o) ≡ true → FullAs s (outer o) i.bank.block.place i.members
      by opens.Layers i full = i.ranks ∙ eqb-true st.members.found st.members.announced full ∙ i.announced
      by opens.Alphas i full = i.ranks ∙ eqb-true st.members.found st.members.announced full ∙ i.announced
      by opens.Mask i full = never i.banks

  -- what is entered in a main block holds channels
  member_hosts : (o : Open) → is_host (inner o) ≡ true
  member_hosts opens.Layers = refl
  member_hosts opens.Mask = refl
  member_hosts opens.Alphas = refl

  -- one level more is closed
  wider :
      (l : ℕ) (es : List Entry) → Of (Full s) (holder l es) → ((k : ℕ) → suc l ≤ k → Of (Full s) (holder k es))
      → (k : ℕ) → l ≤ k → Of (Full s) (holder k es)
  wider l es here deeper k low =
      ⊎_elim (λ more. deeper k more) (λ same. let e : l ≡ k = omega arith in subst (λ (n : ℕ). Of (Full s) (holder n es)) e here) (less_or_not l k)

  -- a bank is left: all layers have come, also where it is the other bank
  left_bank :
      (o : Open) {es : List Entry} {st : State} {l : ℕ} → (l ≡ main → ⊥) → Underway l es st → st.opened ≡ o → InBank s o es st.members → is_full st (outer o) ≡ true
      → st.met.bank ≡ true → layers_in es ≡ (image_in s).layers
  left_bank opens.Layers {es} {st} inner u is i full met =
      i.count ∙ eqb-true st.members.found st.members.announced full ∙ i.announced
  left_bank opens.Mask inner u is i full met = never i.banks
  left_bank opens.Alphas inner u is i full met = u.outside (λ _ z. let x : ◌≡◌ {A = ℕ} 0 1 = cc in absurd (omega arith)) met

  end_kept :
      {l at end : ℕ} {es : List Entry} {st : State} → suc l ≤ main → CameTo l at es st → Stepped s st at end l End → CameTo (suc l) at es st
  unfolding parent_at pick
  end_kept low c (accepted top there full) = absurd (omega arith)
  end_kept low fresh (ended inner there full) = absurd (omega arith)
  end_kept {l} {es} {st} low (begun u) (ended inner there full) = begun (by u.inside)
    where
      -- what holds the place, by the levels left and by what is open
      holds_place : (o : Open) (n : ℕ) → l ≡ n → st.opened ≡ o → is_full st (parent_at o n) ≡ true
      holds_place o n z is = subst₂ (λ (x : Open) (m : ℕ). is_full st (parent_at x m) ≡ true) is z full

      outermost : l ≡ 1 → (st.met.bank ≡ true → layers_in es ≡ (image_in s).layers) → Of (Full s) (holder 0 es) → Underway (suc l) es st
      outermost z layers here = record {
        known = u.known;
        inside = at_main (omega arith);
        met = λ y. absurd (y (omega arith));
        outside = λ _ met. layers met;
        closed = λ k far. wider 0 es here (λ k far. u.closed k (omega arith)) k (omega arith);
      }

      by : Inside s l es st → Underway (suc l) es st
      by (at_main z) = absurd (omega arith)
      by (in_bank {o} z is i) =
          let f = holds_place o 1 z is in
          outermost z (left_bank o (λ y. absurd (omega arith)) u is i f) (bank_full o st i f)
      by (in_selection z is i) =
          outermost z (u.outside (λ _ y. layers_no_mask (sym y ∙ is)))
          (host_full st i (depth_is u) refl (holds_place opens.Mask 1 z is))
      by (in_member {o} z is i h) = record {
        known = u.known;
        inside = in_bank (omega arith) is i;
        met = λ _. u.met (λ y. absurd (omega arith));
        outside = λ out. u.outside (λ _. out (λ y. absurd (omega arith)));
        closed = λ k far. wider 1 es (host_full st h (depth_is u) (member_hosts o) (holds_place o 0 z is)) (λ k far. u.closed k (omega arith)) k (omega arith);
      }

  -- ### Each step

  step :
      {levels l at : ℕ} (es : List Entry) {e e' : Entry} {q q' : State} → levels ≡ l → e ≡ e' → q ≡ q'
      → Underway l (es ++ e' ∷ []) q' → Right s es e' → CameTo levels at (es ++ e ∷ []) q × Right s es e
  step es z p r u right =
      (begun (subst₃ (λ (l : ℕ) (x : Entry) (y : State). Underway l (es ++ x ∷ []) y) (sym z) (sym p) (sym r) u), subst⁻¹ (Right s es) p right)

  leaf_step :
      {levels at end after : ℕ} {es : List Entry} {st q : State} {e : Entry} → levels ≤ main → CameTo levels at es st
      → Stepped s st at end levels (Leaf e after q) → CameTo levels after (es ++ e ∷ []) q × Right s es e
  leaf_step low fresh (leafed h (an_image i)) =
      let image : ImageRight s = record { permitted = i.permitted_all; readable = i.readable; inside = i.present } in
      step [] refl i.entry i.state (image_begins image) (image_right image)
  leaf_step low fresh (leafed h (a_palette i)) = absurd (i.begun refl)
  leaf_step low fresh (leafed h (a_channel i)) = absurd (i.begun refl)
  leaf_step low fresh (leafed h (a_skip i)) = absurd (i.begun refl)
  leaf_step low (begun u) (leafed h (an_image i)) = absurd (not_first u i.first)
  leaf_step {es} low (begun u) (leafed h (a_palette i)) = step es refl i.entry i.state (palette_passes low u i) (palette_right low u i)
  leaf_step {es} low (begun u) (leafed h (a_skip i)) = step es refl i.entry i.state (skip_passes low u i) (skip_right low u i)
  leaf_step {levels} {at} {es} {st} low (begun u) (leafed h (a_channel i)) =
      let c = i.chunk in
      let its = hosts u (held st.opened levels low) i.host in
      step es refl i.entry i.state (channel_passes u its i.host c i.room i.awaited at)
      (channel_right u its i.host c i.room i.awaited at i.is i.present (plane_rule_lem _ c i.plane))

  nest_step :
      {levels at end inside after : ℕ} {es : List Entry} {st q : State} {e : Entry} → CameTo levels at es st
      → Stepped s st at end levels (Nest e inside q after) → CameTo (levels - 1) inside (es ++ e ∷ []) q × Right s es e
  nest_step fresh (nested h (a_bank i)) = absurd (i.begun refl)
  nest_step fresh (nested h (a_layer i)) = absurd (i.begun refl)
  nest_step fresh (nested h (a_selection i)) = absurd (i.begun refl)
  nest_step fresh (nested h (an_alpha_bank i)) = absurd (i.begun refl)
  nest_step fresh (nested h (an_alpha i)) = absurd (i.begun refl)
  nest_step {at} {es} {st} (begun u) (nested h (a_bank i)) =
      let v = subst (λ (l : ℕ). Underway l es st) i.top u in
      step es (omega (arith, i.top)) (i.entry ∙ ap (λ (l : ℕ). plain (block 3 0 (level_of l) at block_header_size)) i.top) i.state
      (bank_entered v at i.once) (bank_right v at i.once i.opens.present)
  nest_step {at} {es} {st} (begun u) (nested h (a_selection i)) =
      let v = subst (λ (l : ℕ). Underway l es st) i.top u in
      step es (omega (arith, i.top)) (i.entry ∙ ap (λ (l : ℕ). plain (block 6 0 (level_of l) at selection_head)) i.top) i.state
      (selection_entered v at i.once i.permitted_all) (selection_right v at i.once i.permitted_all i.opens.present)
  nest_step {at} {es} {st} (begun u) (nested h (an_alpha_bank i)) =
      let v = subst (λ (l : ℕ). Underway l es st) i.top u in
      step es (omega (arith, i.top)) (i.entry ∙ ap (λ (l : ℕ). plain (block 7 0 (level_of l) at alpha_bank_head)) i.top) i.state
      (alpha_bank_entered v at i.once) (alpha_bank_right v at i.once i.opens.present)
  nest_step {at} {es} {st} (begun u) (nested h (a_layer i)) =
      let v = subst (λ (l : ℕ). Underway l es st) i.in_bank u in
      let good = subst (λ (d : ℕ). layer_fault d (layer_from s at) ≡ None) (depth_is u) i.permitted_all in
      let found = sym (its_bank v i.of_layers at good).count in
      step es (omega (arith, i.in_bank)) (i.entry ∙ (λ j. ranked (block 4 0 (level_of (i.in_bank j)) at layer_head) (found j))) i.state
      (layer_entered v i.of_layers at good) (layer_right v i.of_layers at good i.opens.present)
  nest_step {at} {es} {st} (begun u) (nested h (an_alpha i)) =
      let v = subst (λ (l : ℕ). Underway l es st) i.in_bank u in
      let found = sym (its_alpha_bank v i.of_alphas at i.permitted_all).count in
      step es (omega (arith, i.in_bank)) (i.entry ∙ (λ j. ranked (block 8 0 (level_of (i.in_bank j)) at alpha_head) (found j))) i.state
      (alpha_entered v i.of_alphas at i.permitted_all) (alpha_right v i.of_alphas at i.permitted_all i.opens.present)

  -- what a look finds, by its answer
  pub looked :
      {st : State} {at end levels : ℕ} {k : walk.Step State} → levels ≤ main → step_at s st at end levels ≡ k → Stepped s st at end levels k
  looked {st} {at} {end} {levels} low is = subst (Stepped s st at end levels) is (stepped s st at end levels low)

  pub kept : Invariant main (length s) (step_at s) CameTo
  kept = record {
    leaf = λ low o is h. (leaf_step low h (looked low is)).0;
    nest = λ low o is h. (nest_step h (looked low is)).0;
    out = λ {st} {end} {levels} {es} deep low is h.
        let up : suc (levels - 1) ≡ levels = omega arith in
        subst (λ (l : ℕ). CameTo l end es st) up (end_kept (omega arith) h (looked (omega arith) is));
  }

  pub rights : Each main (length s) (step_at s) CameTo (Right s)
  rights = record {
    leaf = λ low o is h. (leaf_step low h (looked low is)).1;
    nest = λ low o is h. (nest_step h (looked low is)).1;
  }

  -- ### At the end of an accepted file

  -- a paletted image has no depth of 24, and the rules met its palette
  paletted_depth : is_paletted (image_in s) ≡ true → depth_of s ≡ 24 → ⊥
  paletted_depth z e = let below = ltb-true (depth_of s) 24 (both (ltb (depth_of s) 24) _ z).0 in omega arith

  paletted_met :
      {levels : ℕ} {es : List Entry} {st : State} → Underway levels es st → is_paletted (image_in s) ≡ true
      → (not st.image.paletted || st.met.palette) ≡ true → st.met.palette ≡ true
  paletted_met {st} u z h =
      either (not st.image.paletted) st.met.palette h
      (λ no. never (sym (not-true _ no) ∙ ap (λ (a : Announced). a.paletted) u.known.announced ∙ z)) (λ yes. yes)

  pub record Whole (es : List Entry) : Type 0 where
    pub image : ImageRight s
    pub banks : length (filter is_bank es) ≡ 1
    pub layers : layers_in es ≡ (image_in s).layers
    pub palettes : is_paletted (image_in s) ≡ true → length (filter is_palette es) ≡ 1
    pub closed : (l : ℕ) → Of (Full s) (holder l es)

  pub whole : {l at end : ℕ} {es : List Entry} {st : State} → l ≡ main → CameTo l at es st → Stepped s st at end l End → Whole es
  unfolding parent_at pick
  whole {st} top c (ended inner there full) = absurd (inner top)
  whole top fresh (accepted t there full) = never full
  whole {l} {st} top (begun {es} u) (accepted t there full) =
      let met = both st.met.bank _ (subst (λ (n : ℕ). is_full st (parent_at st.opened n) ≡ true) top full) in
      record {
        image = u.known.image;
        banks = u.known.bank.one met.0;
        layers = u.outside (λ inner. absurd (inner top)) met.0;
        palettes = λ z. (u.known.palette (paletted_depth z)).one (paletted_met u z met.1);
        closed = λ k. u.closed k (omega arith);
      }
