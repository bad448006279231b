-- What holds the place that the walk has come to, by the entries that are listed: the bank that is open and its members, and the layer,
-- selection or alpha channel that is open and its channels; and what one entry more makes of them.
use mathlib.Core.Path.{◌≡◌, refl, sym, ap, subst, subst⁻¹, ◌∙◌}
use mathlib.Core.Logic.{⊎_elim}
use mathlib.Core.Bool.{Bool, true, false}
use mathlib.Core.List.{List, [], ◌∷◌, ◌++◌, map}
use Prim.Native.Nat.{ℕ, suc, ◌+◌, ◌≤◌, ◌<◌}
use native.Mathlib.Omega.{arith}
use borrow.Author.Tests.{eqb-true}
use lib.Dec.{eqb}
use lib.ListN.{length, length-append}
use Rattle.std.specs.Prelude.{None}
use Rattle.laws.specs.Lists.{filter}
use Rattle.laws.specs.Along.{Along, along_end}
use Rattle.laws.proofs.Choice.{pick_no}
use Rattle.laws.proofs.Filter.{filter_more, filter_same}
use Rattle.laws.proofs.Tests.{both, less_or_not}
use Rattle.laws.proofs.Along.{along_more}
use Rattle.rect.specs.Rows.{sides_of}
use Rattle.entry.specs.declared.Code.{Code}
use Rattle.entry.specs.declared.Entry.{Entry}
use Rattle.entry.specs.Entry.{block, plain, is_kind}
use Rattle.walk.specs.Parents.{Holder, holds, holding, holder}
use Rattle.walk.proofs.Parents.{holder_new, holder_held, holder_same}
use Rattle.chunk.specs.declared.channel_information.ChannelChunk.{ChannelChunk}
use Rattle.memory.specs.declared.parent.Open.{Open}
use Rattle.memory.specs.declared.parent.Open.TheVariants as opens
use Rattle.memory.specs.declared.parent.Parent.{Parent}
use Rattle.memory.specs.declared.parent.Parent.TheVariants.{Main, Bank, Layer, Selection, AlphaBank, Alpha}
use Rattle.memory.specs.declared.state.Current.{Current}
use Rattle.memory.specs.declared.state.Members.{Members}
use Rattle.memory.specs.declared.state.Met.{Met}
use Rattle.memory.specs.declared.state.State.{State}
use Rattle.memory.specs.Codes.{is_expected, no_codes}
use Rattle.memory.specs.Parent.{main, outer, inner}
use Rattle.memory.specs.State.{found_one, channel_by}
use Rattle.listing.specs.Right.{is_bank, is_layer, is_channel, is_selection, is_alpha_bank, is_alpha, parent_of, is_member, members_in, codes_in, depth_of, announced_in, fault_in, channels_in, saved_in, Awaited, Full, FullAs}
use Rattle.listing.proofs.CodesRemembered.{CameIn, came_in_none, came_in_more}

-- ### Lists

-- how many of a kind there are with one more, and with another
pub one_more : (kind : Entry → Bool) (es : List Entry) (e : Entry) → kind e ≡ true → length (filter kind (es ++ e ∷ [])) ≡ suc (length (filter kind es))
one_more kind es e h = ap length (filter_more kind es e h) ∙ omega (arith, length-append (filter kind es) (e ∷ []))

pub as_many : (kind : Entry → Bool) (es : List Entry) (e : Entry) → kind e ≡ false → length (filter kind (es ++ e ∷ [])) ≡ length (filter kind es)
as_many kind es e h = ap length (filter_same kind es e h)

codes_more : (es : List Entry) (e : Entry) → is_channel e ≡ true → codes_in (es ++ e ∷ []) ≡ codes_in es ++ e.code ∷ []
codes_more es e h = ap (map (λ x. x.code)) (filter_more is_channel es e h) ∙ map_snoc (filter is_channel es)
  where
    map_snoc : (l : List Entry) → map (λ x. x.code) (l ++ e ∷ []) ≡ map (λ x. x.code) l ++ e.code ∷ []
    map_snoc [] = refl
    map_snoc (x ∷ l) = ap (λ (m : List Code). x.code ∷ m) (map_snoc l)

-- ### An entry that holds nothing

pub record Holdless (e : Entry) : Type 0 where
  pub bank : is_bank e ≡ false
  pub layer : is_layer e ≡ false
  pub selection : is_selection e ≡ false
  pub alpha_bank : is_alpha_bank e ≡ false
  pub alpha : is_alpha e ≡ false

module _ (e : Entry) (none : Holdless e) where
  pub no_member : (b : Parent) → is_member b e ≡ false
  no_member Bank = none.layer
  no_member AlphaBank = none.alpha
  no_member Main = refl
  no_member Layer = refl
  no_member Selection = refl
  no_member Alpha = refl

  no_parent : parent_of e ≡ Main
  unfolding parent_of
  no_parent =
      pick_no _ _ _ none.bank ∙ pick_no _ _ _ none.layer ∙ pick_no _ _ _ none.selection ∙ pick_no _ _ _ none.alpha_bank
      ∙ pick_no _ _ _ none.alpha

  pub nothing_held : (s : List ℕ) → Full s e []
  nothing_held s = subst⁻¹ (λ (p : Parent). FullAs s p e.block.place []) no_parent tt

-- an entry that is of a kind, by what it is to the blocks that it holds
pub kind_parent : (id : ℕ) (e : Entry) → is_kind id e ≡ true → parent_of e ≡ parent_of (plain (block id 0 0 0 0))
unfolding parent_of
kind_parent id e h =
    let k = both (eqb e.block.skipped 0) _ h in
    λ i. parent_of (plain (block (eqb-true e.block.id id k.1 i) (eqb-true e.block.skipped 0 k.0 i) 0 0 0))

-- ### What is open

-- the main block that holds members
abbrev pub has_members : Open → Bool
has_members opens.Layers = true
has_members opens.Mask = false
has_members opens.Alphas = true

-- it was met
abbrev pub is_met : Open → Met → Bool
is_met opens.Layers met = met.bank
is_met opens.Mask met = met.selection
is_met opens.Alphas met = met.alphas

module _ (s : List ℕ) where
  -- inside a bank: it holds the members that were found, and these are all that were listed
  pub record InBank (o : Open) (es : List Entry) (m : Members) : Type 0 where
    pub bank : Entry
    pub members : List Entry
    pub last : holder 0 es ≡ holds bank members
    pub is_bank_lem : parent_of bank ≡ outer o
    pub ranks : members_in (outer o) members ≡ m.found
    pub count : members_in (outer o) es ≡ m.found
    pub announced : m.announced ≡ announced_in s (outer o) bank.block.place
    pub banks : has_members o ≡ true

  -- inside a layer, a selection or an alpha channel of a level: it holds the channels whose codes have come
  pub record InHost (level : ℕ) (p : Parent) (es : List Entry) (l : Current) : Type 0 where
    pub host : Entry
    pub channels : List Entry
    pub last : holder level es ≡ holds host channels
    pub is_host_lem : parent_of host ≡ p
    pub number : l.number ≡ host.layer
    pub permitted : fault_in s p host.block.place ≡ None
    pub left : l.left + length (codes_in channels) ≡ channels_in s p host.block.place
    pub image : l.image ≡ sides_of (saved_in s p host.block.place 0)
    pub mask : l.mask ≡ sides_of (saved_in s p host.block.place 2)
    pub each : Along (Awaited p (depth_of s)) [] (codes_in channels)
    pub came : CameIn p l.codes (codes_in channels)

  -- with so many levels left
  pub data Inside (levels : ℕ) (es : List Entry) (st : State) : Type 0 where
    at_main : levels ≡ main → Inside levels es st
    in_bank : {o : Open} → levels ≡ 1 → st.opened ≡ o → InBank o es st.members → Inside levels es st
    in_selection : levels ≡ 1 → st.opened ≡ opens.Mask → InHost 0 Selection es st.current → Inside levels es st
    in_member :
        {o : Open} → levels ≡ 0 → st.opened ≡ o → InBank o es st.members → InHost 1 (inner o) es st.current → Inside levels es st

  -- ### One entry more

  module _ (es : List Entry) (e : Entry) where
    -- a bank is entered, which has no member yet
    pub new_bank :
        (o : Open) (m : Members) → e.block.level ≡ 0 → parent_of e ≡ outer o → has_members o ≡ true → members_in (outer o) (es ++ e ∷ []) ≡ 0 → m.found ≡ 0
        → m.announced ≡ announced_in s (outer o) e.block.place → InBank o (es ++ e ∷ []) m
    unfolding filter
    new_bank o m top is banks none found announced = record {
      bank = e;
      members = [];
      last = holder_new 0 es e top;
      is_bank_lem = is;
      ranks = none_in (outer o) ∙ sym found;
      count = none ∙ sym found;
      announced = announced;
      banks = banks;
    }
      where
        none_in : (b : Parent) → members_in b [] ≡ 0
        none_in b = refl

    -- one member more
    pub bank_member :
        {o : Open} {m : Members} → e.block.level ≡ 1 → is_member (outer o) e ≡ true → InBank o es m → InBank o (es ++ e ∷ []) (found_one m)
    unfolding holding
    bank_member {o} {m} here member i = record {
      bank = i.bank;
      members = i.members ++ e ∷ [];
      last = holder_held 0 es e here ∙ ap (λ (h : Holder). holding h e) i.last;
      is_bank_lem = i.is_bank_lem;
      ranks = one_more (is_member (outer o)) i.members e member ∙ omega (arith, i.ranks);
      count = one_more (is_member (outer o)) es e member ∙ omega (arith, i.count);
      announced = i.announced;
      banks = i.banks;
    }

    -- an entry that is no member
    pub still_in_bank :
        {o : Open} {m : Members} → is_member (outer o) e ≡ false → 1 ≤ e.block.level → InBank o es m → InBank o (es ++ e ∷ []) m
    unfolding holding
    still_in_bank {o} {m} other below i = ⊎_elim deeper beside (less_or_not 1 e.block.level)
      where
        with_last : (ms : List Entry) → holder 0 (es ++ e ∷ []) ≡ holds i.bank ms → members_in (outer o) ms ≡ m.found → InBank o (es ++ e ∷ []) m
        with_last ms last ranks = record {
          bank = i.bank;
          members = ms;
          last = last;
          is_bank_lem = i.is_bank_lem;
          ranks = ranks;
          count = as_many (is_member (outer o)) es e other ∙ i.count;
          announced = i.announced;
          banks = i.banks;
        }

        deeper : 1 < e.block.level → InBank o (es ++ e ∷ []) m
        deeper far = with_last i.members (holder_same 0 es e (λ z. absurd (omega arith)) (λ z. absurd (omega arith)) ∙ i.last) i.ranks

        beside : e.block.level ≤ 1 → InBank o (es ++ e ∷ []) m
        beside near =
            with_last (i.members ++ e ∷ []) (holder_held 0 es e (omega arith) ∙ ap (λ (h : Holder). holding h e) i.last)
            (as_many (is_member (outer o)) i.members e other ∙ i.ranks)

    -- what holds channels is entered, and has none yet
    pub new_host :
        (level : ℕ) (p : Parent) (l : Current) → e.block.level ≡ level → parent_of e ≡ p → l.number ≡ e.layer → fault_in s p e.block.place ≡ None
        → l.left ≡ channels_in s p e.block.place → l.image ≡ sides_of (saved_in s p e.block.place 0)
        → l.mask ≡ sides_of (saved_in s p e.block.place 2) → l.codes ≡ no_codes → InHost level p (es ++ e ∷ []) l
    unfolding filter
    new_host level p l here is number good left image mask none = record {
      host = e;
      channels = [];
      last = holder_new level es e here;
      is_host_lem = is;
      number = number;
      permitted = good;
      left = omega (arith, left);
      image = image;
      mask = mask;
      each = along_end;
      came = subst⁻¹ (λ (k : _). CameIn p k []) none (came_in_none p);
    }

    -- an entry beside the channels that is none
    pub still_in_host :
        {level : ℕ} {p : Parent} {l : Current} → e.block.level ≡ suc level → is_channel e ≡ false → InHost level p es l → InHost level p (es ++ e ∷ []) l
    unfolding holding
    still_in_host {level} {p} {l} here other i =
        let same : codes_in (i.channels ++ e ∷ []) ≡ codes_in i.channels = ap (map (λ x. x.code)) (filter_same is_channel i.channels e other) in
        record {
          host = i.host;
          channels = i.channels ++ e ∷ [];
          last = holder_held level es e here ∙ ap (λ (h : Holder). holding h e) i.last;
          is_host_lem = i.is_host_lem;
          number = i.number;
          permitted = i.permitted;
          left = ap (λ (c : List Code). l.left + length c) same ∙ i.left;
          image = i.image;
          mask = i.mask;
          each = subst⁻¹ (Along (Awaited p (depth_of s)) []) same i.each;
          came = subst⁻¹ (CameIn p l.codes) same i.came;
        }

    -- one channel more
    pub host_channel :
        {level : ℕ} {p : Parent} {l : Current} (c : ChannelChunk) → e.block.level ≡ suc level → is_channel e ≡ true
        → e.code ≡ record { bitmap = c.bitmap; channel = c.channel } → 0 < l.left → (i : InHost level p es l)
        → Awaited p (depth_of s) (codes_in i.channels) e.code → InHost level p (es ++ e ∷ []) (channel_by c l)
    unfolding holding
    host_channel {level} {p} {l} c here is code room i awaited =
        let more = codes_more i.channels e is in
        record {
          host = i.host;
          channels = i.channels ++ e ∷ [];
          last = holder_held level es e here ∙ ap (λ (h : Holder). holding h e) i.last;
          is_host_lem = i.is_host_lem;
          number = i.number;
          permitted = i.permitted;
          left = omega (arith, i.left, ap length more, length-append (codes_in i.channels) (e.code ∷ []));
          image = i.image;
          mask = i.mask;
          each = subst⁻¹ (Along (Awaited p (depth_of s)) []) more (along_more i.each awaited);
          came =
              subst⁻¹ (CameIn p (channel_by c l).codes) (more ∙ ap (λ (x : Code). codes_in i.channels ++ x ∷ []) code)
              (came_in_more p (depth_of s) c.bitmap c.channel l.codes (codes_in i.channels) (subst (λ (x : Code). is_expected p (depth_of s) x.bitmap x.channel ≡ true) code awaited.expected) i.came);
        }
