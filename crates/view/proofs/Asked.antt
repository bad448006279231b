-- Every view goes the same few ways. They are told apart once, here: by what the code found, and by what a view then is.
use mathlib.Core.Path.{◌≡◌, refl, sym, ap, subst, ◌∙◌}
use mathlib.Core.Bool.{true, false}
use mathlib.Core.List.{List}
use Prim.Native.Nat.{ℕ, ◌≤◌, ◌<◌}
use borrow.Author.Tests.{lt-ltb, le-ltb}
use Rattle.std.specs.Prelude.{Result, Ok, Err, IsErrAnd}
use Rattle.laws.proofs.Choice.{pick_yes, pick_no, pick_ind}
use Rattle.laws.proofs.OneOutcome.{answer_one}
use Rattle.answer.specs.declared.Stopped.{Stopped}
use Rattle.answer.specs.Answers.{Answer, Accepted, stopped_number, answer_number, is_accepted, paper}
use Rattle.answer.specs.declared.Told.{Told}
use Rattle.answer.specs.declared.Outcome.{Outcome}
use Rattle.answer.proofs.Names.{accepted_is}
use Rattle.answer.proofs.OneOutcome.{answer_of, answer_back}
use Rattle.listing.specs.declared.question.Question.{Question}
use Rattle.listing.specs.declared.question.Found.{Found}
use Rattle.listing.specs.Listing.{listed, told}
use Rattle.listing.specs.Question.{question}
use Rattle.view.specs.declared.not_shown.Lacking.{Lacking}
use Rattle.view.specs.declared.not_shown.NotShown.{NotShown}
use Rattle.view.specs.declared.not_shown.NotShown.TheVariants.{Listing, Lacks}
use Rattle.view.specs.Asked.{asked, is_there, if_accepted, of_accepted, chunk_place, Sought, chunk_sought}

-- ### What the code's listing leaves

-- an outcome that is told like a listing has its answer
pub same_answer : (o : Outcome) (s : List ℕ) (room : ℕ) → paper o ≡ told (listed s room) → o.answer ≡ (listed s room).answer
same_answer o s room e = answer_one answer_number answer_of answer_back o.answer (listed s room).answer (ap (λ (t : Told). t.number) e)

-- and is accepted where it is
pub same_test : (o : Outcome) (s : List ℕ) (room : ℕ) → paper o ≡ told (listed s room) → is_accepted o.answer ≡ is_accepted (listed s room).answer
same_test o s room e = ap is_accepted (same_answer o s room e)

-- what a `?` lets out
err_is : {A E : Type 0} (r : Result A E) (e : E) → IsErrAnd r (λ d. d ≡ e) → r ≡ Err e
err_is (Ok x) e h = absurd h
err_is (Err d) e h = ap Err h

-- by the code's `?`
module _ {o : Outcome} (s : List ℕ) (room : ℕ) (e : paper o ≡ told (listed s room)) where
  pub went_on : o.answer ≡ Accepted → is_accepted (listed s room).answer ≡ true
  went_on is = ap is_accepted (sym (same_answer o s room e) ∙ is)

  pub broke_off : {d : Stopped} → o.answer ≡ Err d → (listed s room).answer ≡ Err d
  broke_off is = sym (same_answer o s room e) ∙ is

  -- what goes out then is that refusal
  pub told_on :
      {A : Type 0} {d : Stopped} {r : Result A NotShown} → o.answer ≡ Err d → IsErrAnd r (λ x. x ≡ Listing d) → (shown : Result A NotShown)
      → r ≡ of_accepted s room shown
  unfolding of_accepted
  told_on {d} {r} is h shown = err_is r (Listing d) h ∙ sym (ap (if_accepted shown) (broke_off is))

-- by the count that was found
module _ (q : Question) (s : List ℕ) (room : ℕ) {f : Found} (e : f ≡ asked q s room) where
  pub is_there_lem : q.index < f.count → is_there q s room ≡ true
  is_there_lem h = lt-ltb q.index (asked q s room).count (subst (λ (x : Found). q.index < x.count) e h)

  pub not_there : f.count ≤ q.index → is_there q s room ≡ false
  not_there h = le-ltb q.index (asked q s room).count (subst (λ (x : Found). x.count ≤ q.index) e h)

-- ### By each way that a view goes

-- a refusal's number is no other's
pub refused_not_zero : (e : Stopped) → stopped_number e ≡ 0 → ⊥
refused_not_zero e z = let same : Err e ≡ Accepted = answer_one answer_number answer_of answer_back (Err e) Accepted z in cc

module _ {A : Type 0} (s : List ℕ) (room : ℕ) where
  pub accepted_shown : (shown : Result A NotShown) → is_accepted (listed s room).answer ≡ true → of_accepted s room shown ≡ shown
  unfolding of_accepted
  accepted_shown shown good = ap (if_accepted shown) (accepted_is (listed s room).answer good)

  pub accepted_refused : (shown : Result A NotShown) {e : Stopped} → (listed s room).answer ≡ Err e → of_accepted s room shown ≡ Err (Listing e)
  unfolding of_accepted
  accepted_refused shown = ap (if_accepted shown)

  -- what holds of a view of an accepted input, and of every refusal by the listing, holds of the view
  module _ (P : Result A NotShown → Type 0) (shown : Result A NotShown) where
    by_answer :
        (a : Answer) → (is_accepted a ≡ true → P shown) → ((e : Stopped) → a ≡ Err e → P (Err (Listing e))) → P (if_accepted shown a)
    by_answer (Ok _) good bad = good refl
    by_answer (Err e) good bad = bad e refl

    pub accepted_ind :
        (is_accepted (listed s room).answer ≡ true → P shown) → ((e : Stopped) → (listed s room).answer ≡ Err e → P (Err (Listing e)))
        → P (of_accepted s room shown)
    unfolding of_accepted
    accepted_ind = by_answer (listed s room).answer

-- ### A chunk that is sought

module _ (s : List ℕ) (room id : ℕ) (lacking : Lacking) (k : ℕ) where
  pub sought_there :
      is_accepted (listed s room).answer ≡ true → is_there (question id 0 k) s room ≡ true
      → chunk_sought s room id lacking k ≡ Ok (chunk_place (question id 0 k) s room)
  unfolding chunk_sought
  sought_there good there = accepted_shown s room _ good ∙ pick_yes _ _ _ there

  pub sought_missing :
      is_accepted (listed s room).answer ≡ true → is_there (question id 0 k) s room ≡ false → chunk_sought s room id lacking k ≡ Err (Lacks lacking)
  unfolding chunk_sought
  sought_missing good missing = accepted_shown s room _ good ∙ pick_no _ _ _ missing

  pub sought_refused : {e : Stopped} → (listed s room).answer ≡ Err e → chunk_sought s room id lacking k ≡ Err (Listing e)
  unfolding chunk_sought
  sought_refused = accepted_refused s room _

  pub sought_ind :
      (P : Sought → Type 0)
      → (is_accepted (listed s room).answer ≡ true → is_there (question id 0 k) s room ≡ true → P (Ok (chunk_place (question id 0 k) s room)))
      → (is_accepted (listed s room).answer ≡ true → P (Err (Lacks lacking)))
      → ((e : Stopped) → (listed s room).answer ≡ Err e → P (Err (Listing e))) → P (chunk_sought s room id lacking k)
  unfolding chunk_sought
  sought_ind P there missing other = accepted_ind s room P _ (λ good. pick_ind P _ _ _ (there good) (λ _. missing good)) other

  -- where a chunk was found, the block that was asked for is listed, and its chunk is there
  pub sought_at :
      {at : ℕ} → chunk_sought s room id lacking k ≡ Ok at → (is_there (question id 0 k) s room ≡ true) × (at ≡ chunk_place (question id 0 k) s room)
  sought_at {at} =
      sought_ind (λ (x : Sought). x ≡ Ok at → (is_there (question id 0 k) s room ≡ true) × (at ≡ chunk_place (question id 0 k) s room))
      (λ _ there e. (there, cc)) (λ _ e. cc) (λ _ _ e. cc)
