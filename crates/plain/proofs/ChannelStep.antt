-- What the rule says of a place where a plain channel of a layer stands: that it is listed, if its plane length is permitted.
use mathlib.Core.Path.{◌≡◌, sym, ap, ap₂, subst⁻¹, ◌∙◌}
use mathlib.Core.Bool.{Bool, true, ◌&&◌, ◌||◌, not}
use mathlib.Core.List.{List}
use Prim.Native.Nat.{ℕ, ◌+◌, ◌-◌, ◌≤◌}
use native.Mathlib.Omega.{arith}
use borrow.Author.Tests.{eqb-true, eq-eqb, ne_eqb, leb-true, le-leb}
use lib.Dec.{eqb, leb}
use lib.ListN.{length}
use Rattle.std.specs.Prelude.{Option, None}
use Rattle.laws.specs.Choice.{pick}
use Rattle.laws.proofs.Choice.{pick_yes, pick_no}
use Rattle.laws.proofs.Tests.{both, either}
use Rattle.rect.specs.declared.planes.Shape.{Shape}
use Rattle.rect.specs.Rows.{is_plane, size_of}
use Rattle.entry.specs.declared.Entry.{Entry}
use Rattle.answer.specs.declared.Refusal.TheVariants.{NotExpected}
use Rattle.walk.specs.Walk.{Stop, Leaf}
use Rattle.walk.proofs.Unit.{unit_there}
use Rattle.headers.specs.declared.block_header.BlockHeader.{BlockHeader}
use Rattle.headers.specs.BlockHeader.{block_header_size, block_header_at}
use Rattle.attributes.specs.Fault.{unless_of}
use Rattle.chunk.specs.declared.channel_information.ChannelChunk.{ChannelChunk}
use Rattle.chunk.specs.Heads.{channel_head}
use Rattle.chunk.specs.ChannelInformation.{channel_size, channel_at, codes_fault, plane_fault}
use Rattle.memory.specs.declared.parent.Open.{Open}
use Rattle.memory.specs.declared.parent.Open.TheVariants.{Layers}
use Rattle.memory.specs.declared.parent.Parent.TheVariants.{Layer}
use Rattle.memory.specs.declared.places.Placing.TheVariants.{Enter}
use Rattle.memory.specs.declared.state.State.{State}
use Rattle.memory.specs.declared.codes.Codes.{Codes}
use Rattle.memory.specs.Codes.{is_of_layer, with_codes}
use Rattle.memory.specs.Parent.{main, parent_at}
use Rattle.memory.specs.Place.{grid_of, place_of}
use Rattle.memory.specs.State.{with_channel, shape_for, is_surplus}
use Rattle.memory.proofs.Placed.{Begun}
use Rattle.kinds.specs.Blocks.{Judged, unless, permitted}
use Rattle.layers.specs.Layers.{is_awaited, channel_entry, channel_read, channel_sized, channel_coded, channel_block}
use Rattle.block.specs.Step.{are_lengths, kind_of, step_at}
use Rattle.block.proofs.Passed.{by_channel}
use Rattle.plain.specs.Channels.{channel_from, with_left, PlainChannel}
use Rattle.plain.proofs.EnteredStep.{Entered, entered_steps}

-- codes that are expected in a layer are in their ranges
expected_codes : (depth bitmap channel : ℕ) → is_of_layer depth bitmap channel ≡ true → (bitmap ≤ 5) × (channel ≤ 3)
expected_codes depth bitmap channel e =
    either (eqb bitmap 0 && ((eqb depth 24 && leb 1 channel && leb channel 3) || (not (eqb depth 24) && eqb channel 0))) _ e
    (λ colour.
    let k = both (eqb bitmap 0) _ colour in (
      omega (arith, eqb-true bitmap 0 k.0),
      either (eqb depth 24 && leb 1 channel && leb channel 3) _ k.1
          (λ deep. leb-true channel 3 (both (eqb depth 24 && leb 1 channel) _ deep).1)
          (λ flat. omega (arith, eqb-true channel 0 (both (not (eqb depth 24)) _ flat).1)),
    ))
    (λ mask.
    let k = both (eqb bitmap 1 || eqb bitmap 2) _ mask in (
      either (eqb bitmap 1) (eqb bitmap 2) k.0 (λ one. omega (arith, eqb-true bitmap 1 one)) (λ two. omega (arith, eqb-true bitmap 2 two)),
      omega (arith, eqb-true channel 0 k.1),
    ))

module _ (s : List ℕ) (st : State) (at stop end : ℕ) (begun : Begun st) (of_layers : st.opened ≡ Layers) (present : stop ≤ length s) (near : stop ≤ end)
    (p : PlainChannel s at stop st.image.depth st.current.left st.current.codes) where
  abbrev h : BlockHeader
  h = block_header_at s at

  abbrev c : ChannelChunk
  c = channel_at s (at + block_header_size)

  abbrev shape : Shape
  shape = shape_for st.current st.image.depth c.bitmap

  abbrev entry : Entry
  entry = channel_entry 2 at st.current.number c (size_of shape c.plane)

  abbrev passes : Judged
  passes = Leaf entry (at + channel_head + c.stored) (with_channel c st)

  -- ### Its header

  held : parent_at st.opened 0 ≡ Layer
  unfolding parent_at pick
  held = ap (λ (o : Open). parent_at o 0) of_layers

  enters : place_of st 5 Layer ≡ Enter
  unfolding place_of grid_of pick
  enters = pick_no _ _ _ (ne_eqb st.image.depth 0 begun)

  lengths : are_lengths h ≡ true
  unfolding are_lengths
  lengths =
      by_channel _ _ _ _ _ _ _ _ _ p.id
      ∙ ap₂ (λ (a b : Bool). a && b) (eq-eqb h.initial channel_size p.initial) (le-leb channel_size h.total (omega (arith, p.total)))

  entered : Entered s st at end Layer
  entered = record {
    marked = p.marked;
    enters = ap (λ (id : ℕ). place_of st id Layer) p.id ∙ enters;
    announced = ap (λ (id : ℕ). is_surplus st id) p.id ∙ ne_eqb st.current.left 0 p.more;
    lengths = lengths;
    there = omega (arith, p.whole, present);
    inside = omega (arith, p.whole, p.total, near);
  }

  -- ### Its chunk

  awaited : is_awaited st Layer c ≡ true
  awaited = ap₂ (λ (a b : Bool). a && not b) p.expected p.fresh

  coded : codes_fault c ≡ None
  unfolding codes_fault unless_of
  coded =
      let k = expected_codes st.image.depth c.bitmap c.channel p.expected in
      ap₂ (λ (a b : Bool). unless_of (unless_of None a 8) b 10) (le-leb c.bitmap 5 k.0) (le-leb c.channel 3 k.1)

  module _ (plane : is_plane shape c.plane ≡ true) where
    sized : channel_sized s st at 2 c shape ≡ passes
    unfolding channel_sized plane_fault unless_of permitted
    sized =
        ap (λ (a : Bool). permitted (unless_of None a 4) (at + block_header_size) (channel_read s st at 2 c (size_of shape c.plane))) plane
        ∙ unit_there s (at + channel_head) c.stored _ (omega (arith, p.whole, present))

    told : channel_coded s st Layer at 2 c ≡ passes
    unfolding channel_coded permitted
    told =
        ap (λ (f : Option ℕ). permitted f (at + block_header_size) (unless (is_awaited st Layer c) (Stop NotExpected at) (channel_sized s st at 2 c shape))) coded
        ∙ pick_yes _ _ _ awaited
        ∙ sized

    kind : kind_of s st Layer h at 2 ≡ passes
    unfolding kind_of channel_block
    kind =
        by_channel _ _ _ _ _ _ _ _ _ p.id
        ∙ unit_there s (at + block_header_size) channel_size _ (omega (arith, p.whole, present))
        ∙ pick_yes _ _ _ (eq-eqb h.total (channel_size + c.stored) p.total)
        ∙ told

    channel_steps : step_at s st at end 0 ≡ passes
    channel_steps = entered_steps s st at end 0 Layer entered (λ (e : 0 ≡ main). omega arith) held ∙ kind

-- ### As the code has it: by the chunk that was read, the shape of its plane, and what changes of the state

module _
    (s : List ℕ) (st : State) (at stop end left : ℕ) (codes : Codes) (present : stop ≤ length s) (near : stop ≤ end)
    (begun : Begun st) (of_layers : st.opened ≡ Layers) (p : PlainChannel s at stop st.image.depth left codes) where
  abbrev Next : ChannelChunk → Type 0
  Next k =
      (sh : Shape) → sh ≡ shape_for st.current st.image.depth k.bitmap → is_plane sh k.plane ≡ true
      → (e : Entry) → e ≡ channel_entry 2 at st.current.number k (size_of sh k.plane)
      → (codes' : Codes) → codes' ≡ with_codes codes k.bitmap k.channel
      → step_at s (with_left st left codes) at end 0 ≡ Leaf e (at + channel_head + k.stored) (with_left st (left - 1) codes')

  at_chunk : Next (channel_from s at)
  unfolding shape_for
  at_chunk sh shaped plane e made codes' come =
      let k = channel_from s at in
      channel_steps s (with_left st left codes) at stop end begun of_layers present near p (ap (λ (y : Shape). is_plane y k.plane) (sym shaped) ∙ plane)
      ∙ ap₂ (λ (y : Entry) (z : Codes). Leaf y (at + channel_head + k.stored) (with_left st (left - 1) z))
      (sym (made ∙ ap (λ (y : Shape). channel_entry 2 at st.current.number k (size_of y k.plane)) shaped)) (sym come)

  pub next_channel : (k : ChannelChunk) → k ≡ channel_from s at → Next k
  next_channel k read = subst⁻¹ Next read at_chunk
