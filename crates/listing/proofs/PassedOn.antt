-- Where the walk has passed plain blocks: what is left to walk from there is what was left before them.
use mathlib.Core.Path.{◌≡◌, refl, sym, ap, ap₂, ◌∙◌}
use mathlib.Core.Bool.{Bool, true, false, ◌&&◌}
use mathlib.Core.List.{List, ◌∷◌}
use Prim.Native.Nat.{ℕ, ◌-◌, ◌≤◌, ◌<◌}
use native.Mathlib.Omega.{arith}
use borrow.Author.Tests.{ne_eqb}
use lib.Dec.{eqb}
use lib.ListN.{length}
use Rattle.laws.proofs.All.{all_map}
use Rattle.answer.specs.Answers.{Accepted}
use Rattle.answer.specs.declared.Outcome.{Outcome}
use Rattle.entry.specs.declared.Entry.{Entry}
use Rattle.entry.specs.Entry.{keep}
use Rattle.walk.specs.Walk.{Listing, run}
use Rattle.walk.specs.Room.{Walked}
use Rattle.walk.specs.Course.{leave}
use Rattle.walk.proofs.LoopTurn.{Continues}
use Rattle.walk.proofs.CourseTurn.{passed, halted, went_on}
use Rattle.memory.specs.declared.state.State.{State}
use Rattle.memory.specs.Parent.{main}
use Rattle.memory.proofs.Placed.{Begun}
use Rattle.block.specs.Step.{step_at}
use Rattle.block.proofs.Owed.{moves}
use Rattle.plain.specs.declared.stretch.Passed.{Passed}
use Rattle.plain.specs.declared.layer.Layered.{Layered}
use Rattle.plain.specs.Skips.{is_passable, Skips}
use Rattle.plain.specs.Layer.{layer_entry, is_complete, HoldsPlain}
use Rattle.plain.proofs.SkipStep.{passable_unasked}
use Rattle.listing.specs.declared.question.Question.{Question}
use Rattle.listing.specs.declared.question.Found.{Found}
use Rattle.listing.specs.Question.{is_asked, noted, Kept, kept, put}
use Rattle.listing.proofs.Noted.{unasked_kept, first_kept, one_few}

-- an entry of another id is not asked about
other_id : (q : Question) (e : Entry) → (e.block.id ≡ q.id → ⊥) → is_asked q e ≡ false
other_id q e other = ap (λ (b : Bool). b && eqb e.block.skipped q.skipped) (ne_eqb e.block.id q.id other)

module _ (s : List ℕ) (q : Question) (end levels room : ℕ) (low : levels ≤ main) where
  abbrev Going : State → ℕ → ℕ → Kept → State → ℕ → ℕ → Kept → Type 0
  Going st at from k st' at' from' k' =
      Continues (put q) (run (step_at s) (length s) st at end levels) room from k (run (step_at s) (length s) st' at' end levels) from' k'

  -- ### Skipped blocks

  pub skips_on :
      (first from : ℕ) (t : List ℕ) (r : Passed) (t' : List ℕ) → first ≤ end → Skips s first end levels q.id room from t r t' → q.id < 12
      → (st : State) → Begun st → (x : Found) → Going st first from (kept t x) st r.at r.count (kept t' x)
  skips_on first from t r t' order p known st begun x =
      let unasked = all_map (λ (e : Entry) (k : is_passable levels q.id e.block.id ≡ true). other_id q e (passable_unasked levels q.id e.block.id k known)) p.passable in
      passed (put q) main (length s) (step_at s) (moves s) st first end levels order low room from (kept t x) p.entries r.count p.stores.counted p.stores.fits
      (kept t' x) (ap (λ (y : List ℕ). kept y x) p.stores.table ∙ sym (unasked_kept q unasked t x from)) r.at st (p.goes st begun)

  -- ### A layer with its channels

  module _
      (st : State) (at from : ℕ) (t : List ℕ) (r : Layered) (t' : List ℕ) (order : at ≤ end) (p : HoldsPlain s st at end levels room from t r t')
      (unasked : q.id ≡ 5 → ⊥) (x y : Found) (notes : y ≡ noted q x (layer_entry at st.members.found)) where
    abbrev entries : List Entry
    entries = layer_entry at st.members.found ∷ p.entries

    abbrev inside : Listing State
    inside = run (step_at s) (length s) r.state r.passed.at r.after (levels - 1)

    keeps : kept t' y ≡ keep (put q) (kept t x) from entries
    keeps =
        ap₂ kept p.stores.table notes
        ∙ sym (first_kept q (all_map (λ (e : Entry) (k : e.block.id ≡ 5). other_id q e (λ same. unasked (sym same ∙ k))) p.channels) (layer_entry at st.members.found) t x from)

    pub layer_halts :
        (o : Outcome) (z : State) (mid : Kept) → Walked (put q) inside room r.passed.count (kept t' y) o z mid → (o.answer ≡ Accepted → ⊥)
        → Walked (put q) (run (step_at s) (length s) st at end levels) room from (kept t x) o z mid
    layer_halts =
        halted (put q) main (length s) (step_at s) (moves s) st at end levels order low room from (kept t x) entries r.passed.count p.stores.counted p.stores.fits
        (kept t' y) keeps r.passed.at r.after r.state p.goes

    pub layer_on :
        (o : Outcome) (z : State) (mid : Kept) → Walked (put q) inside room r.passed.count (kept t' y) o z mid → o.answer ≡ Accepted
        → (o.count ≤ room) × Going st at from (kept t x) z r.after o.count mid
    layer_on =
        went_on (put q) main (length s) (step_at s) (moves s) st at end levels order low room from (kept t x) entries r.passed.count p.stores.counted p.stores.fits
        (kept t' y) keeps r.passed.at r.after r.state p.goes

    pub layer_ended : is_complete r ≡ true → Going st at from (kept t x) r.state r.after r.passed.count (kept t' y)
    layer_ended complete =
        passed (put q) main (length s) (step_at s) (moves s) st at end levels order low room from (kept t x) entries r.passed.count p.stores.counted p.stores.fits
        (kept t' y) keeps r.after r.state (leave p.goes refl (p.ends complete))

    pub layer_few : x.count ≤ from → y.count ≤ r.passed.count
    layer_few few = omega (arith, p.stores.counted, one_few q x (layer_entry at st.members.found) from notes few)
