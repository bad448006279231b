-- What writing and reading leave, by the tests in their order.
use mathlib.Core.Path.{◌≡◌, refl, sym, ap, ap₂, ◌∙◌}
use mathlib.Core.Bool.{true, false, not, ◌||◌, true≢false}
use mathlib.Core.List.{List, ◌++◌}
use Prim.Native.Nat.{ℕ, ◌+◌, ◌-◌, ◌*◌, ◌≤◌, ◌<◌}
use native.Mathlib.Omega.{arith}
use borrow.Author.Tests.{lt-ltb, le-ltb, eq-eqb, ne_eqb}
use denote.Enum.Bare.{sameb}
use lib.Dec.{ltb}
use lib.ListN.{length, drop}
use Rattle.std.specs.Prelude.{Ok, Err}
use Rattle.laws.specs.Choice.{pick}
use Rattle.laws.specs.Lists.{over}
use Rattle.laws.proofs.Choice.{pick_yes, pick_no, pick_ind}
use Rattle.laws.proofs.Over.{over_front}
use Rattle.entry.specs.Entry.{size}
use Rattle.saved.specs.declared.writer.WriteError.TheVariants as write
use Rattle.saved.specs.declared.reader.ReadError.TheVariants as read
use Rattle.saved.specs.declared.sides.Version.{Version}
use Rattle.saved.specs.declared.sides.Version.TheVariants.{First, Second}
use Rattle.saved.specs.contracts.sides.Version.{the_type}
use Rattle.saved.specs.Version.{number_of}
use Rattle.saved.specs.Saved.{entries_in, following, saved_as, version_of, most_in_four, write_result, writes_as, length_said, version_said, count_said, found, is_other_version, read_result, restores, reads}
use Rattle.saved.specs.Kept.{largest}
use Rattle.saved.proofs.Form.{following_length, saved_length}

module _ (v : ℕ) (table dest : List ℕ) where
  pub write_over_long : largest < entries_in table → writes_as v table dest ≡ write_result (Err write.OverLong) dest
  unfolding writes_as pick
  write_over_long h = rw (lt-ltb most_in_four (length (following v table)) (omega (arith, following_length v table))) refl

  module _ (fits : entries_in table ≤ largest) where
    pub write_no_room : length dest < 9 + 56 * entries_in table → writes_as v table dest ≡ write_result (Err write.NoRoom) dest
    unfolding writes_as pick
    write_no_room h = rw (le-ltb most_in_four (length (following v table)) (omega (arith, following_length v table)), lt-ltb (length dest) (length (saved_as v table)) (omega (arith, saved_length v table))) refl

    pub write_whole : 9 + 56 * entries_in table ≤ length dest → writes_as v table dest ≡ write_result (Ok (9 + 56 * entries_in table)) (over dest 0 (saved_as v table))
    unfolding writes_as pick
    write_whole h =
        rw (le-ltb most_in_four (length (following v table)) (omega (arith, following_length v table)), le-ltb (length dest) (length (saved_as v table)) (omega (arith, saved_length v table)))
        (ap₂ (λ (n : ℕ) (l : List ℕ). write_result (Ok n) l) (saved_length v table) (sym (over_front dest (saved_as v table) (length (saved_as v table)) refl)))

module _ (file table : List ℕ) where
  pub read_short : length file < 9 → reads file table ≡ read_result (Err read.WrongLength) table
  unfolding reads pick
  read_short h = rw (lt-ltb (length file) 9 h) refl

  module _ (nine : 9 ≤ length file) where
    pub read_other_length : (length_said file ≡ length file - 4 → ⊥) → reads file table ≡ read_result (Err read.WrongLength) table
    unfolding reads pick
    read_other_length h = rw (le-ltb (length file) 9 nine, ne_eqb _ _ h) refl

    module _ (length_is : length_said file ≡ length file - 4) where
      pub read_other_version : is_other_version file ≡ true → reads file table ≡ read_result (Err read.WrongVersion) table
      unfolding reads pick
      read_other_version h = rw (le-ltb (length file) 9 nine, eq-eqb _ _ length_is, h) refl

      module _ (known : is_other_version file ≡ false) where
        pub read_other_count : (length_said file ≡ 5 + 56 * count_said file → ⊥) → reads file table ≡ read_result (Err read.WrongCount) table
        unfolding reads pick
        read_other_count h = rw (le-ltb (length file) 9 nine, eq-eqb _ _ length_is, known, ne_eqb _ _ h) refl

        module _ (count_is : length_said file ≡ 5 + 56 * count_said file) where
          pub read_other_sides : (version_said file ≡ version_of (found file) → ⊥) → reads file table ≡ read_result (Err read.WrongSides) table
          unfolding reads pick
          read_other_sides h = rw (le-ltb (length file) 9 nine, eq-eqb _ _ length_is, known, eq-eqb _ _ count_is, ne_eqb _ _ h) refl

-- a file that passes all tests but that of room
pub record SavedTable (file : List ℕ) : Type 0 where
  pub nine : 9 ≤ length file
  pub length_is : length_said file ≡ length file - 4
  pub count_is : length_said file ≡ 5 + 56 * count_said file
  pub version_is : version_said file ≡ version_of (found file)

-- a version is one of the two
pub known_version : (version : Version) (file : List ℕ) → number_of version ≡ version_said file → is_other_version file ≡ false
known_version First file e = rw (sym e) refl
known_version Second file e = rw (sym e) refl

-- and two are one if their numbers are
pub differ : (v w : Version) → not (sameb the_type v w) ≡ true → number_of v ≡ number_of w → ⊥
differ First First p e = true≢false (sym p)
differ Second Second p e = true≢false (sym p)
differ First Second p e = absurd (omega (arith, e))
differ Second First p e = absurd (omega (arith, e))

pub agree : (v w : Version) → not (sameb the_type v w) ≡ false → number_of v ≡ number_of w
agree First First p = refl
agree Second Second p = refl
agree First Second p = absurd (true≢false p)
agree Second First p = absurd (true≢false p)

-- a version that a table has is one of the two
known : (file table : List ℕ) → version_said file ≡ version_of table → is_other_version file ≡ false
known file table e =
    ap (λ (n : ℕ). ltb n 1 || ltb 2 n) e ∙ pick_ind (λ (n : ℕ). (ltb n 1 || ltb 2 n) ≡ false) _ 2 1 (λ _. refl) (λ _. refl)

module _ (file table : List ℕ) (s : SavedTable file) where
  read_tested : reads file table ≡ restores file table
  unfolding reads pick
  read_tested = rw (le-ltb _ _ s.nine, eq-eqb _ _ s.length_is, known file (found file) s.version_is, eq-eqb _ _ s.count_is, eq-eqb _ _ s.version_is) refl

  pub read_no_room : entries_in table < count_said file → reads file table ≡ read_result (Err read.NoRoom) table
  unfolding restores
  read_no_room h = read_tested ∙ pick_yes _ _ _ (lt-ltb _ _ h)

  pub read_whole : count_said file ≤ entries_in table → reads file table ≡ read_result (Ok (count_said file)) (found file ++ drop (size * count_said file) table)
  unfolding restores
  read_whole h = read_tested ∙ pick_no _ _ _ (le-ltb _ _ h)
