-- The file header comes before any block: what is listed behind one that passes, that nothing is listed behind any other, and that more
-- input changes it only where it was not all there. So no other law has to know its answers.
use mathlib.Core.Path.{◌≡◌, refl, sym, ap, ◌∙◌}
use mathlib.Core.Logic.{◌⊎◌, inl, inr}
use mathlib.Core.Bool.{true, false}
use mathlib.Core.List.{List, [], ◌++◌}
use Prim.Native.Nat.{ℕ, ◌≤◌, ◌<◌}
use native.Mathlib.Omega.{arith}
use borrow.Author.Tests.{le-ltb, lt-ltb, ltb-false}
use lib.ListN.{length, length-append}
use Rattle.std.specs.Prelude.{Err}
use Rattle.limits.specs.Limits.{input_limit}
use Rattle.laws.specs.Choice.{pick}
use Rattle.laws.specs.Lists.{part}
use Rattle.laws.proofs.Choice.{pick_yes, pick_no, pick_ind}
use Rattle.laws.proofs.Part.{part_longer}
use Rattle.laws.proofs.Tests.{never, yes_or_no, less_or_not}
use Rattle.answer.specs.declared.Refusal.TheVariants.{EndsTooSoon}
use Rattle.answer.specs.Answers.{Accepted, is_accepted}
use Rattle.answer.specs.declared.Stopped.TheVariants.{Rule, WrongSignature, WrongVersion}
use Rattle.answer.specs.declared.Outcome.{Outcome}
use Rattle.answer.proofs.Names.{accepted_yes}
use Rattle.walk.specs.Walk.{run}
use Rattle.walk.specs.Room.{Listed, cut}
use Rattle.walk.proofs.Cut.{plain, cut_ended}
use Rattle.headers.specs.declared.file_header.FileHeader.{FileHeader}
use Rattle.headers.specs.FileHeader.{file_header_size, version_place, file_header_of, file_header_at, is_signed, is_version}
use Rattle.memory.specs.Parent.{main}
use Rattle.memory.specs.State.{start}
use Rattle.block.specs.Step.{step_at}
use Rattle.listing.specs.Listing.{head_answer, head_of, beyond, listing, listed}

-- what the header's bytes say, once they are there
abbrev said : FileHeader → Outcome
said h =
    pick (is_signed h) (pick (is_version h) (head_answer Accepted file_header_size) (head_answer (Err WrongVersion) version_place)) (head_answer (Err WrongSignature) 0)

judged : (s : List ℕ) → length s ≤ input_limit → file_header_size ≤ length s → head_of s ≡ said (file_header_at s 0)
unfolding head_of
judged s small there = pick_no _ _ _ (le-ltb input_limit (length s) small) ∙ pick_no _ _ _ (le-ltb (length s) file_header_size there)

-- on more input the header is the same, unless it was not all there
pub head_longer :
    (s t : List ℕ) → length (s ++ t) ≤ input_limit
    → ((head_of s ≡ head_answer (Err (Rule EndsTooSoon)) 0) × (length s < file_header_size)) ⊎ (head_of s ≡ head_of (s ++ t))
unfolding head_of
head_longer s t small = by (less_or_not (length s) file_header_size)
  where
    within : length s ≤ input_limit
    within = omega (arith, length-append s t)

    by :
        (length s < file_header_size) ⊎ (file_header_size ≤ length s)
        → ((head_of s ≡ head_answer (Err (Rule EndsTooSoon)) 0) × (length s < file_header_size)) ⊎ (head_of s ≡ head_of (s ++ t))
    by (inl short) = inl (pick_no _ _ _ (le-ltb input_limit (length s) within) ∙ pick_yes _ _ _ (lt-ltb (length s) file_header_size short), short)
    by (inr there) =
        inr
        (judged s within there
        ∙ ap (λ (b : List ℕ). said (file_header_of b)) (sym (part_longer s t 0 file_header_size there))
        ∙ sym (judged (s ++ t) small (omega (arith, length-append s t))))

-- and of another input of that length it is the same, if its bytes are
pub head_alike : (s s' : List ℕ) → length s ≡ length s' → part s 0 file_header_size ≡ part s' 0 file_header_size → head_of s ≡ head_of s'
unfolding head_of
head_alike s s' same alike = rw (same, alike) refl

-- no entry is counted before any block
abbrev Uncounted : Outcome → Type 0
Uncounted h = h.count ≡ 0

pub head_count : (s : List ℕ) → (head_of s).count ≡ 0
unfolding head_of
head_count s =
    pick_ind Uncounted _ _ _ (λ _. refl)
    (λ _. pick_ind Uncounted _ _ _ (λ _. refl) (λ _. pick_ind Uncounted _ _ _ (λ _. pick_ind Uncounted _ _ _ (λ _. refl) (λ _. refl)) (λ _. refl)))

module _ (s : List ℕ) where
  -- ### A header that passes

  -- it is that of an input within the limit
  pub good_small : is_accepted (head_of s).answer ≡ true → length s ≤ input_limit
  unfolding head_of
  good_small =
      pick_ind (λ (h : Outcome). is_accepted h.answer ≡ true → length s ≤ input_limit) _ _ _ (λ _ e. never e) (λ small _. ltb-false input_limit (length s) small)

  -- the blocks are walked
  pub behind_head : is_accepted (head_of s).answer ≡ true → listing s ≡ run (step_at s) (length s) start file_header_size beyond main
  unfolding listing
  behind_head good = pick_yes _ _ _ good

  -- ### Any other

  -- nothing is listed, and the answer is the header's
  pub refused_head : (room : ℕ) → is_accepted (head_of s).answer ≡ false → listed s room ≡ plain (head_of s).answer (head_of s).place []
  unfolding listing
  refused_head room bad = ap (cut room) (pick_no _ _ _ bad) ∙ cut_ended room (head_of s).answer (head_of s).place start

  pub refused_empty : (room : ℕ) → is_accepted (head_of s).answer ≡ false → (listed s room).entries ≡ []
  refused_empty room bad = ap (λ (r : Listed). r.entries) (refused_head room bad)

  -- an accepted input has a header that passes
  pub accepted_good : (room : ℕ) → (listed s room).answer ≡ Accepted → is_accepted (head_of s).answer ≡ true
  accepted_good room ok =
      yes_or_no (is_accepted (head_of s).answer) (λ e. e) (λ e. accepted_yes (sym (ap (λ (r : Listed). r.answer) (refused_head room e)) ∙ ok))
