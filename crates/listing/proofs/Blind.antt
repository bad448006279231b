-- Two inputs of one length that differ only in bytes that no step reads, of entries that are listed, have the same listing.
use mathlib.Core.Path.{◌≡◌, sym, ap, subst, ◌∙◌}
use mathlib.Core.Bool.{true, false}
use mathlib.Core.List.{List, []}
use Prim.Native.Nat.{ℕ}
use native.Mathlib.Omega.{arith}
use Rattle.laws.specs.Differ.{DifferIn}
use Rattle.laws.proofs.Differ.{part_same, all_same}
use Rattle.laws.proofs.Tests.{yes_or_no}
use Rattle.answer.specs.declared.Outcome.{Outcome}
use Rattle.answer.specs.Answers.{is_accepted}
use Rattle.walk.specs.Promised.{none, Hides}
use Rattle.walk.proofs.Blind.{hides_within, blind_cut}
use Rattle.headers.specs.FileHeader.{file_header_size}
use Rattle.memory.specs.Parent.{main}
use Rattle.memory.specs.State.{start}
use Rattle.kinds.specs.Unread.{Unread}
use Rattle.block.specs.Step.{step_at}
use Rattle.block.proofs.Owed.{moves}
use Rattle.block.proofs.Read.{unread}
use Rattle.listing.specs.Listing.{head_of, beyond, listed}
use Rattle.listing.proofs.Heads.{head_alike, behind_head, refused_empty}
use Rattle.listing.proofs.Tiled.{found_before}

nothing_hidden : {i : ℕ} → Hides Unread i [] → ⊥
nothing_hidden h = omega (arith, (hides_within {a = 0} {b = 0} none h).1)

module _ (s s' : List ℕ) (room : ℕ) (differ : DifferIn (λ i. Hides Unread i (listed s room).entries) s s') where
  -- behind a header that is refused nothing is listed, so that nothing differs
  behind_bad : is_accepted (head_of s).answer ≡ false → listed s room ≡ listed s' room
  behind_bad bad =
      ap (λ (t : List ℕ). listed t room) (all_same differ (λ i h. nothing_hidden (subst (Hides Unread i) (refused_empty s room bad) h)))

  -- one that passes lies before all entries, and passes in both
  behind_good : is_accepted (head_of s).answer ≡ true → listed s room ≡ listed s' room
  behind_good good =
      let same : head_of s ≡ head_of s' =
      head_alike s s' differ.long (part_same differ 0 file_header_size (λ i low high h. omega (arith, (hides_within (found_before s room good).tiles h).0))) in
      let is = behind_head s good in
      let is' = behind_head s' (sym (ap (λ (h : Outcome). is_accepted h.answer) same) ∙ good) in
      rw (is, is')
      (blind_cut main step_at moves Unread unread s s' differ.long start file_header_size beyond main (omega arith) (omega arith) room (rw is at differ))

  pub same_listing : listed s room ≡ listed s' room
  same_listing = yes_or_no (is_accepted (head_of s).answer) behind_good behind_bad
