-- A part of a lent slice has two forms, and both are stated here: C gets it in numbers, Rattle as the slice that it is.
use Rattle.std.specs.Prelude.{◌≡◌, List, Result, Ok, Err, ℕ, ◌+◌}
use Rattle.std.specs.Borrow.{Bor}
use Rattle.laws.specs.Lists.{part}
use Rattle.view.specs.declared.not_shown.NotShown.{NotShown}
use Rattle.view.specs.declared.part.Part.{Part}
use Rattle.view.specs.declared.shown.Shown.{Shown}
use Rattle.view.specs.declared.shown.Shown.TheVariants.{Input, WholeRamp}
use Rattle.view.specs.declared.shown.Span.{Span}
use Rattle.view.specs.NotShown.{not_shown_number}
use Rattle.view.specs.Asked.{shown_of}

-- ### In numbers: the answer, which slice (0 input, 1 ramp), start and length

abbrev pub of_input : ℕ → ℕ → Part
of_input start n = record { number = 0; which = 0; start = start; length = n }

abbrev pub of_ramp : Part
of_ramp = record { number = 0; which = 1; start = 0; length = 1024 }

-- nothing, at the input's start
abbrev pub refusal : ℕ → Part
refusal number = record { number = number; which = 0; start = 0; length = 0 }

abbrev pub refused : NotShown → Part
refused e = refusal (not_shown_number e)

abbrev pub of_span : Span → Part
of_span span = of_input span.start span.length

abbrev pub of_shown : Shown → Part
of_shown (Input span) = of_span span
of_shown WholeRamp = of_ramp

-- what is shown of a palette, or a refusal by its number
abbrev pub part_told : Result Shown NotShown → Part
part_told = shown_of refusal of_shown

-- of a name, which is always of the input
abbrev pub name_told : Result Span NotShown → Part
name_told = shown_of refusal of_span

-- ### As a slice

abbrev pub Slice : Type 0
Slice = Bor (List ℕ)

-- r is n bytes of s from a place on
pub record PartOf (s : Slice) (start n : ℕ) (r : Slice) : Type 0 where
  pub block : r.ref_ptr.0 ≡ s.ref_ptr.0
  pub place : r.ref_ptr.1 ≡ s.ref_ptr.1 + start
  pub bytes : r.now ≡ part s.now start n

-- which bytes of its slice a palette is
abbrev pub span_of : Shown → Span
span_of (Input span) = span
span_of WholeRamp = record { start = 0; length = 1024 }

-- what is shown of lent slices: the bytes that this says of the slice that it says it of; or it is refused alike
abbrev pub ShownIn : {A : Type 0} → (A → Slice) → (A → Span) → Result A NotShown → Result Slice NotShown → Type 0
ShownIn lent span (Ok p) (Ok r) = PartOf (lent p) (span p).start (span p).length r
ShownIn lent span (Err e) (Err e') = e' ≡ e
ShownIn lent span (Ok p) (Err e) = ⊥
ShownIn lent span (Err e) (Ok r) = ⊥

-- a part of the input
abbrev pub ShownAs : Slice → Result Span NotShown → Result Slice NotShown → Type 0
ShownAs input = ShownIn (λ _. input) (λ span. span)
