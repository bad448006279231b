-- A caller may slice by the numbers that a view gives, since the part lies in its slice; and each view leaves one outcome.
use mathlib.Core.Path.{◌≡◌, refl, sym, ap, subst, subst⁻¹, ◌∙◌}
use mathlib.Core.Bool.{Bool, true, false}
use mathlib.Core.List.{List}
use Prim.Native.Nat.{ℕ, ◌+◌, ◌≤◌}
use native.Mathlib.Omega.{arith}
use borrow.Author.Tests.{eqb-true, eq-eqb, ne_eqb}
use lib.Dec.{eqb}
use lib.ListN.{length}
use Rattle.std.specs.Prelude.{Result, Ok, Err}
use Rattle.laws.specs.Choice.{pick}
use Rattle.laws.specs.Lists.{part}
use Rattle.laws.specs.Outcomes.{OneResult, OneFixed}
use Rattle.laws.proofs.Choice.{pick_yes, pick_no, pick_ind}
use Rattle.laws.proofs.OneOutcome.{one}
use Rattle.laws.proofs.Part.{part_length}
use Rattle.answer.specs.Answers.{stopped_number}
use Rattle.headers.specs.Places.{image_chunk_place}
use Rattle.attributes.specs.ImageAttributes.{image_at}
use Rattle.chunk.specs.LayerInformation.{layer_size}
use Rattle.view.specs.declared.not_shown.Lacking.TheVariants.{Layer}
use Rattle.view.specs.declared.not_shown.NotShown.{NotShown}
use Rattle.view.specs.declared.part.Part.{Part}
use Rattle.view.specs.declared.shown.Shown.{Shown}
use Rattle.view.specs.declared.shown.Shown.TheVariants.{Input, WholeRamp}
use Rattle.view.specs.declared.shown.Span.{Span}
use Rattle.view.specs.Asked.{palette_asked, is_there, Inside, Sought, layer_sought}
use Rattle.view.specs.At.{layer_here, name_view_at}
use Rattle.view.specs.Name.{name_in, name_at, name_seen, name_of, name_view}
use Rattle.view.specs.Palette.{palette_entries, palette_seen, palette_view}
use Rattle.view.specs.Shown.{of_input, of_ramp, refusal, part_told, name_told, Slice, PartOf, ShownIn}
use Rattle.view.proofs.Accepted.{palette_has, layer_inside}
use Rattle.view.proofs.Asked.{accepted_ind}
use Rattle.view.proofs.Here.{here_inside}
use Rattle.view.proofs.Place.{part_one}
use Rattle.view.proofs.Zero.{zero_most}
use Rattle.view.proofs.at.chunk_at.Reads as chunk-at
use Rattle.view.proofs.at.layer_at.Reads as layer-at
use Rattle.view.proofs.at.name_at.Reads as name-at
use Rattle.view.proofs.facts.image_facts.Reads as image-facts
use Rattle.view.proofs.facts.layer_facts.Reads as layer-facts
use Rattle.view.proofs.names.name.Reads as name
use Rattle.view.proofs.names.name_part.Reads as name-part
use Rattle.view.proofs.palette_view.palette.Reads as palette
use Rattle.view.proofs.palette_view.palette_part.Reads as palette-part
use Rattle.view.proofs.sought.seek_chunk.Reads as seek-chunk

-- ### A part lies in its slice

-- of an input and a ramp of these lengths
pub record Lies (input ramp : ℕ) (p : Part) : Type 0 where
  pub within : p.start + p.length ≤ pick (eqb p.which 1) ramp input

-- each kind of part, and a refusal
module _ (input ramp : ℕ) where
  input_lies : (start n : ℕ) → start + n ≤ input → Lies input ramp (of_input start n)
  unfolding pick
  input_lies start n h = record { within = h }

  ramp_lies : 1024 ≤ ramp → Lies input ramp of_ramp
  unfolding pick
  ramp_lies h = record { within = h }

  none_lies : (number : ℕ) → Lies input ramp (refusal number)
  unfolding pick
  none_lies number = record { within = omega arith }

seen_lies : (s : List ℕ) (room ramp : ℕ) → Lies (length s) ramp (part_told (palette_seen s room ramp))
unfolding palette_seen
seen_lies s room ramp =
    let P : Result Shown NotShown → Type 0 = λ x. Lies (length s) ramp (part_told x) in
    let entries = palette_entries s room in
    accepted_ind s room P _
    (λ _. pick_ind P (eqb (image_at s image_chunk_place).depth 24) _ _ (λ _. none_lies (length s) ramp 43)
    (λ _. pick_ind P (is_there palette_asked s room) _ _ (λ there. input_lies (length s) ramp entries.start entries.stored (palette_has s room there).inside)
    (λ _. pick_ind P (eqb ramp 1024) _ _ (λ long. ramp_lies (length s) ramp (omega (arith, eqb-true ramp 1024 long))) (λ _. none_lies (length s) ramp 44))))
    (λ e _. none_lies (length s) ramp (stopped_number e))

pub palette_lies : (s : List ℕ) (room ramp : ℕ) → Lies (length s) ramp (palette_view s room ramp)
unfolding palette_view
palette_lies s room ramp = seen_lies s room ramp

module _ (s : List ℕ) (room ramp : ℕ) where
  by_seen : {x : Result Shown NotShown} → palette_seen s room ramp ≡ x → Lies (length s) ramp (part_told x)
  by_seen is = subst (λ (x : Result Shown NotShown). Lies (length s) ramp (part_told x)) is (seen_lies s room ramp)

  pub palette_inside : (span : Span) → palette_seen s room ramp ≡ Ok (Input span) → span.start + span.length ≤ length s
  unfolding pick
  palette_inside span is = (by_seen is).within

  -- the ramp is shown by its own length alone
  pub ramp_long : palette_seen s room ramp ≡ Ok WholeRamp → ramp ≡ 1024
  unfolding palette_seen
  ramp_long =
      let P : Result Shown NotShown → Type 0 = λ x. x ≡ Ok WholeRamp → ramp ≡ 1024 in
      accepted_ind s room P _
      (λ _. pick_ind P (eqb (image_at s image_chunk_place).depth 24) _ _ (λ _ e. cc)
      (λ _. pick_ind P (is_there palette_asked s room) _ _ (λ _ e. cc)
      (λ _. pick_ind P (eqb ramp 1024) _ _ (λ long _. eqb-true ramp 1024 long) (λ _ e. cc))))
      (λ _ _ e. cc)

-- a name is always of the input, where the chunk that it begins lies inside
pub named_lies : (s : List ℕ) (at : ℕ) → at + 256 ≤ length s → (name_at s at).start + (name_at s at).length ≤ length s
unfolding name_in
named_lies s at inside = omega (arith, zero_most (part s at 256), part_length s at 256 inside)

-- however the chunk was sought
pub name_of_lies : (s : List ℕ) (sought : Sought) → Inside 256 s sought → (name_of s sought).start + (name_of s sought).length ≤ length s
name_of_lies s (Err e) inside = omega arith
name_of_lies s (Ok place) inside = named_lies s place (inside place refl)

pub name_inside : (s : List ℕ) (sought : Sought) (p : Span) → Inside 256 s sought → name_seen s sought ≡ Ok p → p.start + p.length ≤ length s
name_inside s sought p inside is =
    subst (λ (x : Result Span NotShown). (name_told x).start + (name_told x).length ≤ length s) is (name_of_lies s sought inside)

pub name_lies : (s : List ℕ) (room k : ℕ) → (name_view s room k).start + (name_view s room k).length ≤ length s
unfolding name_view
name_lies s room k = name_of_lies s (layer_sought s room k) (λ at e. omega (arith, layer_inside s room k e))

pub name_at_lies : (s : List ℕ) (place : ℕ) → (name_view_at s place).start + (name_view_at s place).length ≤ length s
unfolding name_view_at
name_at_lies s place = name_of_lies s (layer_here s place) (λ at e. omega (arith, here_inside s place 4 layer_size Layer at e))

-- ### What is fixed of a slice that is shown

-- the refusal, or its place and its bytes
abbrev pub seen : Result Slice NotShown → Result ((ℕ × ℕ) × List ℕ) NotShown
seen (Ok r) = Ok (r.ref_ptr, r.now)
seen (Err e) = Err e

module _ {A : Type 0} (lent : A → Slice) (span : A → Span) where
  pub shown_is : {x : Result A NotShown} {p : A} {r : Slice} → x ≡ Ok p → PartOf (lent p) (span p).start (span p).length r → ShownIn lent span x (Ok r)
  shown_is {r} is shows = subst⁻¹ (λ (x : Result A NotShown). ShownIn lent span x (Ok r)) is shows

  pub refused_alike : {x : Result A NotShown} {e : NotShown} → x ≡ Err e → ShownIn lent span x (Err e)
  refused_alike {e} is = subst⁻¹ (λ (x : Result A NotShown). ShownIn lent span x (Err e)) is refl

  -- and these leave one outcome
  pub shown_one : (x : Result A NotShown) (r r' : Result Slice NotShown) → ShownIn lent span x r → ShownIn lent span x r' → seen r ≡ seen r'
  shown_one (Ok p) (Ok r) (Ok r') a b = let same = part_one _ _ _ r r' a b in λ i. Ok (same.0 i, same.1 i)
  shown_one (Ok p) (Ok r) (Err e) a b = absurd b
  shown_one (Ok p) (Err e) r' a b = absurd a
  shown_one (Err e) (Ok r) r' a b = absurd a
  shown_one (Err e) (Err d) (Ok r) a b = absurd b
  shown_one (Err e) (Err d) (Err f) a b = ap Err (a ∙ sym b)

-- ### The palette

pub palette_one : OneFixed (λ l r e. seen r) palette.Learnt
palette_one l a y z e f = shown_one _ _ _ y z

pub palette_part_one : OneResult palette-part.Learnt
palette_part_one l a y z e f = one

-- ### A name

pub name_one : OneFixed (λ l r e. seen r) name.Learnt
name_one l a y z e f = shown_one _ _ _ y z

pub name_part_one : OneResult name-part.Learnt
name_part_one l a y z e f = one

-- ### Facts

pub image_facts_one : OneResult image-facts.Learnt
image_facts_one l a y z e f = one

pub layer_facts_one : OneResult layer-facts.Learnt
layer_facts_one l a y z e f = one

-- ### At a place

pub layer_at_one : OneResult layer-at.Learnt
layer_at_one l a y z e f = one

pub name_at_one : OneResult name-at.Learnt
name_at_one l a y z e f = one

-- ### A chunk

pub seek_chunk_one : OneResult seek-chunk.Learnt
seek_chunk_one l a y z e f = one

pub chunk_at_one : OneResult chunk-at.Learnt
chunk_at_one l a y z e f = one
