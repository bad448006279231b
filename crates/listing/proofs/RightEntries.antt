-- Every listing: each entry is right by those before it, and an accepted file is complete. The views and the promises cite these.
use mathlib.Core.Path.{◌≡◌, refl, sym, ap, subst⁻¹, ◌∙◌}
use mathlib.Core.Bool.{true, false}
use mathlib.Core.List.{List}
use Prim.Native.Nat.{ℕ, ◌<◌}
use native.Mathlib.Omega.{arith}
use lib.ListN.{length, take, get_or}
use Rattle.laws.proofs.Choice.{pick_ind}
use Rattle.answer.specs.Answers.{Answer, Accepted, is_accepted}
use Rattle.answer.proofs.Names.{not_accepted}
use Rattle.entry.specs.declared.Entry.{Entry}
use Rattle.entry.specs.Entry.{block, plain}
use Rattle.walk.specs.Walk.{Leaf, Nest, Listing, ended, run}
use Rattle.walk.specs.Invariant.{Family}
use Rattle.walk.specs.Room.{Listed, cut}
use Rattle.walk.proofs.Invariant.{cut_each, cut_finished}
use Rattle.walk.proofs.Cut.{cut_ended}
use Rattle.walk.proofs.Parents.{each_holds}
use Rattle.headers.specs.BlockHeader.{block_header_at, is_marked}
use Rattle.headers.specs.FileHeader.{file_header_size}
use Rattle.headers.specs.Places.{image_place}
use Rattle.chunk.specs.Heads.{image_head}
use Rattle.memory.specs.declared.parent.Parent.TheVariants.{AlphaBank}
use Rattle.memory.specs.declared.state.State.{State}
use Rattle.memory.specs.Parent.{main}
use Rattle.memory.specs.State.{start}
use Rattle.block.specs.Step.{are_lengths, step_at}
use Rattle.block.proofs.Owed.{moves}
use Rattle.block.proofs.Stepped.{Stepped, leafed, nested, OfHeader}
use Rattle.listing.specs.Listing.{head_of, beyond, listing, listed}
use Rattle.listing.specs.Right as right
use Rattle.listing.specs.Right.{is_layer, is_alpha, is_channel, members_in, layers_in, depth_of, Full, RowTaken, Right, Headed}
use Rattle.listing.proofs.StateMeaning.{CameTo, fresh, Whole, whole, kept, rights, looked}

-- behind a good header the blocks are walked, and no other header is accepted
by_head :
    (P : Listing State → Type 0) (s : List ℕ) → P (run (step_at s) (length s) start file_header_size beyond main)
    → ((a : Answer) (p : ℕ) → is_accepted a ≡ false → P (ended a p start)) → P (listing s)
unfolding listing
by_head P s good bad = pick_ind P (is_accepted (head_of s).answer) _ _ (λ _. good) (λ no. bad _ _ no)

pub each_right :
    (s : List ℕ) (room : ℕ)
    → let es = (listed s room).entries in (k : ℕ) (d : Entry) → k < length es → Right s (take k es) (get_or es k d)
each_right s room =
    by_head
    (λ (w : Listing State). let es = (cut room w).entries in (k : ℕ) (d : Entry) → k < length es → Right s (take k es) (get_or es k d)) s
    (cut_each main (length s) (step_at s) (moves s) (CameTo s) (kept s) start file_header_size beyond main (omega arith) (omega arith) fresh (Right s) (rights s) room)
    (λ a p no k d h. let none = ap (λ (x : Listed). length x.entries) (cut_ended room a p start) in absurd (omega (arith, none)))

-- each entry is of the header at its place
abbrev Anything : Family State
Anything levels at es st = Unit

leaf_headed : {s : List ℕ} {st q : State} {at end levels next : ℕ} {e : Entry} → Stepped s st at end levels (Leaf e next q) → OfHeader s st at end levels e
leaf_headed (leafed h i) = h

nest_headed :
    {s : List ℕ} {st q : State} {at end levels inside after : ℕ} {e : Entry} → Stepped s st at end levels (Nest e inside q after) → OfHeader s st at end levels e
nest_headed (nested h i) = h

of_header : {s : List ℕ} {st : State} {at end levels : ℕ} {e : Entry} → e.block.place ≡ at → OfHeader s st at end levels e → Headed s e
of_header {s} {e} place h = record {
  marked = subst⁻¹ (λ (p : ℕ). is_marked (block_header_at s p) ≡ true) place h.marked;
  named = h.named ∙ ap (λ (p : ℕ). (block_header_at s p).id) (sym place);
  lengths = λ kept. subst⁻¹ (λ (p : ℕ). are_lengths (block_header_at s p) ≡ true) place (h.lengths kept);
  whole = λ skipped. h.whole skipped ∙ ap (λ (p : ℕ). (block_header_at s p).total) (sym place);
}

pub each_headed :
    (s : List ℕ) (room : ℕ) → let es = (listed s room).entries in (k : ℕ) (d : Entry) → k < length es → Headed s (get_or es k d)
each_headed s room =
    by_head (λ (w : Listing State). let es = (cut room w).entries in (k : ℕ) (d : Entry) → k < length es → Headed s (get_or es k d)) s
    (cut_each main (length s) (step_at s) (moves s) Anything
    (record { leaf = λ low o is h. tt; nest = λ low o is h. tt; out = λ deep low is h. tt }) start file_header_size beyond main (omega arith) (omega arith) tt
    (λ before e. Headed s e)
    (record {
      leaf = λ low o is h. of_header o.place (leaf_headed (looked s low is));
      nest = λ low o is h. of_header o.owns.place (nest_headed (looked s low is));
    }) room)
    (λ a p no k d h. let none = ap (λ (x : Listed). length x.entries) (cut_ended room a p start) in absurd (omega (arith, none)))

pub image_first :
    (s : List ℕ) (room : ℕ)
    → let es = (listed s room).entries in (d : Entry) → 0 < length es → get_or es 0 d ≡ plain (block 0 0 0 image_place image_head)
image_first s room d h = (each_right s room 0 d h).first refl

-- a layer's number is the count of layers before it
pub layers_numbered :
    (s : List ℕ) (room : ℕ)
    → let es = (listed s room).entries in (k : ℕ) (d : Entry) → k < length es → is_layer (get_or es k d) ≡ true → (get_or es k d).layer ≡ layers_in (take k es)
layers_numbered s room k d h z = ap (λ (e : Entry). e.layer) ((each_right s room k d h).kind 4 z).is

-- and an alpha channel's the count of alpha channels before it
pub alphas_numbered :
    (s : List ℕ) (room : ℕ)
    → let es = (listed s room).entries in
    (k : ℕ) (d : Entry) → k < length es → is_alpha (get_or es k d) ≡ true → (get_or es k d).layer ≡ members_in AlphaBank (take k es)
alphas_numbered s room k d h z = ap (λ (e : Entry). e.layer) ((each_right s room k d h).kind 8 z).is

-- a channel's row is one of its forms, the padded one wherever that makes the plane, and as many rows as it is high are its plane
pub rows_taken :
    (s : List ℕ) (room : ℕ)
    → let es = (listed s room).entries in (k : ℕ) (d : Entry) → k < length es → is_channel (get_or es k d) ≡ true → RowTaken (depth_of s) (get_or es k d)
rows_taken s room k d h z = ((each_right s room k d h).kind 5 z).row

accepted_whole : (s : List ℕ) (room : ℕ) → (listed s room).answer ≡ Accepted → Whole s (listed s room).entries
accepted_whole s room =
    by_head (λ (w : Listing State). (cut room w).answer ≡ Accepted → Whole s (cut room w).entries) s
    (λ good.
    let f = cut_finished main (length s) (step_at s) (moves s) (CameTo s) (kept s) start file_header_size beyond main (omega arith) (omega arith) fresh room good in
    whole s refl f.holds (looked s (omega arith) f.stops))
    (λ a p no h. let same = ap (λ (x : Listed). x.answer) (cut_ended room a p start) in absurd (not_accepted no (sym same ∙ h)))

-- an accepted file has its bank, its palette if it is paletted, as many layers as its image announces, and each entry is full
pub accepted_complete : (s : List ℕ) (room : ℕ) → (listed s room).answer ≡ Accepted → right.Accepted s (listed s room).entries
accepted_complete s room good =
    let w = accepted_whole s room good in
    record {
      image = w.image;
      banks = w.banks;
      layers = w.layers;
      palettes = w.palettes;
      full = each_holds (Full s) (listed s room).entries (λ j d h. (each_right s room j d h).closed) w.closed;
    }
