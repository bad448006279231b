-- The plane reader's answers, each by the tests that lead to it.
use mathlib.Core.Path.{◌≡◌, refl, sym, ap, ◌∙◌}
use mathlib.Core.List.{List, ◌++◌}
use Prim.Native.Nat.{ℕ, ◌+◌, ◌<◌, ◌≤◌}
use borrow.Author.Tests.{lt-ltb, le-ltb, eq-eqb, ne_eqb}
use lib.Dec.{eqb, ltb}
use native.Mathlib.Omega.{arith}
use lib.ListN.{length, length-append}
use Rattle.laws.specs.Choice.{pick}
use Rattle.laws.specs.Lists.{part}
use Rattle.laws.specs.Results.{Result}
use Rattle.packet.specs.declared.told.Plane.{Plane}
use Rattle.packet.specs.Reading.{untouched, filled, unpacked, plane_read}
use Rattle.limits.specs.Limits.{plane_limit}
use Rattle.laws.proofs.Choice.{pick_yes, pick_no}
use Rattle.laws.proofs.Part.{part_longer}

module _ (input : List ℕ) (start stored plane code : ℕ) (dest : List ℕ) where
  abbrev said : Result Plane
  said = plane_read input start stored plane code dest

  pub unknown_code : 1 < code → said ≡ untouched 24 dest
  unfolding plane_read
  unknown_code h = pick_yes _ _ _ (lt-ltb 1 code h)

  module _ (known : code ≤ 1) where
    pub over_limit : plane_limit < plane → said ≡ untouched 26 dest
    unfolding plane_read
    over_limit h = pick_no _ _ _ (le-ltb 1 code known) ∙ pick_yes _ _ _ (lt-ltb plane_limit plane h)

    module _ (small : plane ≤ plane_limit) where
      -- what is left of the definition behind the first two tests
      sized :
          said
          ≡ pick (ltb (length input) (start + stored)) (untouched 27 dest)
          (pick (ltb (length dest) plane) (untouched 20 dest)
          (pick (eqb code 1) (unpacked (part input start stored) plane dest)
          (pick (eqb stored plane) (filled stored plane (part input start stored) dest)
          (untouched 25 dest))))
      unfolding plane_read
      sized = pick_no _ _ _ (le-ltb 1 code known) ∙ pick_no _ _ _ (le-ltb plane_limit plane small)

      pub outside : length input < start + stored → said ≡ untouched 27 dest
      outside h = sized ∙ pick_yes _ _ _ (lt-ltb (length input) (start + stored) h)

      module _ (there : start + stored ≤ length input) where
        pub no_room : length dest < plane → said ≡ untouched 20 dest
        no_room h =
            sized ∙ pick_no _ _ _ (le-ltb (length input) (start + stored) there) ∙ pick_yes _ _ _ (lt-ltb (length dest) plane h)

        module _ (room : plane ≤ length dest) where
          placed :
              said
              ≡ pick (eqb code 1) (unpacked (part input start stored) plane dest)
              (pick (eqb stored plane) (filled stored plane (part input start stored) dest)
              (untouched 25 dest))
          placed =
              sized
              ∙ pick_no _ _ _ (le-ltb (length input) (start + stored) there)
              ∙ pick_no _ _ _ (le-ltb (length dest) plane room)

          pub packets : code ≡ 1 → said ≡ unpacked (part input start stored) plane dest
          packets h = placed ∙ pick_yes _ _ _ (eq-eqb code 1 h)

          pub raw : (code ≡ 1 → ⊥) → stored ≡ plane → said ≡ filled stored plane (part input start stored) dest
          raw h e = placed ∙ pick_no _ _ _ (ne_eqb code 1 h) ∙ pick_yes _ _ _ (eq-eqb stored plane e)

          pub raw_length : (code ≡ 1 → ⊥) → (stored ≡ plane → ⊥) → said ≡ untouched 25 dest
          raw_length h n = placed ∙ pick_no _ _ _ (ne_eqb code 1 h) ∙ pick_no _ _ _ (ne_eqb stored plane n)

-- on more input a stored part that is inside reads the same
pub plane_longer :
    (s t : List ℕ) (start stored plane code : ℕ) (dest : List ℕ) → start + stored ≤ length s
    → plane_read (s ++ t) start stored plane code dest ≡ plane_read s start stored plane code dest
unfolding plane_read
plane_longer s t start stored plane code dest there =
    let rest : List ℕ → Result Plane = λ stream.
    pick (ltb (length dest) plane) (untouched 20 dest)
    (pick (eqb code 1) (unpacked stream plane dest) (pick (eqb stored plane) (filled stored plane stream dest) (untouched 25 dest))) in
    let longer : start + stored ≤ length (s ++ t) = omega (arith, length-append s t) in
    let same : pick (ltb (length (s ++ t)) (start + stored)) (untouched 27 dest) (rest (part (s ++ t) start stored)) ≡ pick (ltb (length s) (start + stored)) (untouched 27 dest) (rest (part s start stored)) =
    pick_no _ _ _ (le-ltb (length (s ++ t)) (start + stored) longer)
    ∙ ap rest (part_longer s t start stored there)
    ∙ sym (pick_no _ _ _ (le-ltb (length s) (start + stored) there)) in
    ap (λ (r : Result Plane). pick (ltb 1 code) (untouched 24 dest) (pick (ltb plane_limit plane) (untouched 26 dest) r)) same

-- the stored part and the input's length are all that counts of an input
pub plane_alike :
    (s s' : List ℕ) (start stored plane code : ℕ) (dest : List ℕ) → length s ≡ length s' → part s start stored ≡ part s' start stored
    → plane_read s start stored plane code dest ≡ plane_read s' start stored plane code dest
unfolding plane_read
plane_alike s s' start stored plane code dest same alike = rw (same, alike) refl
