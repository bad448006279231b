-- A plain layer is stored, and its channels are passed from behind its chunk, in the state inside it.
use mathlib.Core.Path.{◌≡◌, sym, ap, ap₂, subst, subst⁻¹, ◌∙◌}
use mathlib.Core.List.{[], ◌∷◌}
use Prim.Native.Nat.{ℕ, ◌+◌}
use native.Mathlib.Omega.{arith}
use Rattle.entry.specs.Entry.{stored}
use Rattle.walk.specs.Walk.{Nest}
use Rattle.walk.specs.Course.{stand, Course, start, nest}
use Rattle.walk.proofs.CourseInside.{course_inside}
use Rattle.headers.specs.BlockHeader.{block_header_size, block_header_at}
use Rattle.chunk.specs.declared.layer_information.LayerChunk.{LayerChunk}
use Rattle.chunk.specs.Heads.{layer_head}
use Rattle.chunk.specs.LayerInformation.{layer_at, layer_fault}
use Rattle.chunk.proofs.Rules.{layer_rules}
use Rattle.memory.specs.declared.state.State.{State}
use Rattle.memory.specs.State.{with_layer}
use Rattle.memory.proofs.Placed.{Begun}
use Rattle.block.specs.Step.{step_at}
use Rattle.plain.specs.declared.layer.Layered.{Layered}
use Rattle.plain.specs.Layer.{layer_entry, Banked, HoldsPlain}
use Rattle.plain.proofs.LayerStep.{layer_steps, layer_ends}
use Rattle.plain.proofs.Stored.{first_stored}
use Rattle.plain.proofs.layer.held.Goals as goal

pub with_layer-q-requires : goal.with_layer-q-requires
with_layer-q-requires c =
    let a = c.args in
    let chunk = ap (λ (q : ℕ × LayerChunk). q.1) c.in_ok-after.ensures.0 in
    let p = c.in_ok-after.ensures.1 in
    (layer_rules a.st.image.depth c.in_ok-after.c (ap (layer_fault a.st.image.depth) chunk ∙ p.good), p.more)

pub returns : goal.returns
returns c =
    let a = c.args in
    let s = a.stretch.input.now in
    let at = a.stretch.at in
    let end = a.stretch.end in
    let after = c.in_ok-after.after in
    let ends : after ≡ at + block_header_size + (block_header_at s at).total = ap (λ (q : ℕ × LayerChunk). q.0) c.in_ok-after.ensures.0 in
    let chunk = ap (λ (q : ℕ × LayerChunk). q.1) c.in_ok-after.ensures.0 in
    let p = c.in_ok-after.ensures.1 in
    let q = c.with_layer-q.result in
    let entered : q ≡ with_layer (layer_at s (at + block_header_size)) a.st = c.with_layer-q.ensures ∙ ap (λ (k : LayerChunk). with_layer k a.st) chunk in
    let e = layer_entry at a.st.members.found in
    let r : Layered = record { passed = c.channels-p.result.passed; after = after; state = c.behind.result } in
    let told = c.channels-p.ensures in
    let Plain : Layered → Type 0 = λ (y : Layered). (levels : ℕ) → Banked a.st levels → HoldsPlain s a.st at end levels a.stretch.room a.stretch.count a.table.now y c.channels-p.new.table in
    let plain : Plain r = λ levels banked.
    let steps : step_at s a.st at end 1 ≡ Nest e (at + layer_head) q after =
    layer_steps s a.st at c.reach.result end banked.begun banked.opened c.reach.ensures.0 c.reach.ensures.1 p
    ∙ ap₂ (λ (st : State) (n : ℕ). Nest e (at + layer_head) st n) (sym entered) (sym ends) in
    let of_layers = ap (λ (st : State). st.opened) entered ∙ banked.opened in
    let begun : Begun q = λ none. banked.begun (sym (ap (λ (st : State). st.image.depth) entered) ∙ none) in
    subst⁻¹ (λ (n : ℕ). HoldsPlain s a.st at end n a.stretch.room a.stretch.count a.table.now r c.channels-p.new.table) banked.level (record {
      entries = told.entries;
      goes =
          subst⁻¹ (λ (st : State). Course (step_at s) 1 (stand at end [] a.st) (e ∷ told.entries) (stand r.passed.at after (end ∷ []) st)) c.behind.ensures
          (course_inside (step_at s) 1 _ (end ∷ []) (at + layer_head) after q (e ∷ []) (nest start steps) (told.goes begun of_layers));
      channels = told.channels;
      stores = first_stored _ _ _ _ _ e told.stores (omega arith) (c.store.ensures ∙ ap (stored a.table.now a.stretch.count) c.layer_entry.ensures);
      onward = omega (arith, told.stores.onward);
      within = omega (arith, p.whole, ends, c.reach.ensures.1);
      present = omega (arith, p.whole, ends, c.reach.ensures.0);
      ends = layer_ends s r (ap (λ (st : State). st.opened) c.behind.ensures ∙ of_layers);
    }) in
    record { plain = λ y is. subst Plain (let same : r ≡ y = cc in same) plain; other = λ none. absurd (let z : ◌≡◌ {A = ℕ} 0 1 = cc in omega arith) }
