-- Saved tables beside those of request (iv): of any two functions that leave what `writes` and `reads` say, so of `write_table` and `read_table`,
-- by their contracts.
use mathlib.Core.Path.{◌≡◌, refl, sym, ap, ◌∙◌}
use mathlib.Core.List.{List}
use Prim.Native.Nat.{ℕ, ◌≤◌}
use native.Mathlib.Omega.{arith}
use borrow.Author.Tests.{not-false, le-ltb, eqb-true, eq-eqb}
use lib.ListN.{length}
use Rattle.std.specs.Prelude.{Err}
use Rattle.laws.specs.Choice.{pick}
use Rattle.laws.specs.Results.{Result}
use Rattle.laws.proofs.Choice.{pick_ind, pick_ind₂}
use Rattle.saved.specs.declared.writer.Saved.{Saved}
use Rattle.saved.specs.declared.reader.Restored.{Restored}
use Rattle.saved.specs.declared.reader.ReadError.TheVariants as read
use Rattle.saved.specs.Saved.{entries_in, saved_as, version_of, writes_as, writes, version_said, found, is_other_length, is_other_count, read_result, reads}
use Rattle.saved.specs.Kept.{largest, file_in}
use Rattle.saved.specs.Earlier.{earlier_reads, Succeeds}
use Rattle.saved.proofs.Form.{saved_length}
use Rattle.saved.proofs.Versions.{small_version, large_version}
use Rattle.saved.proofs.Back.{length_said_lem, version_said_lem}
use Rattle.saved.proofs.Keeps.{wrote_fits, wrote_file, Writing, Reading, writing_is, reading_is}

-- ### A file of version 1

module _ (file room : List ℕ) where
  abbrev number : Result Restored → ℕ
  number r = r.told.number

  small_read : version_said file ≡ 1 → version_of (found file) ≡ 1 → reads file room ≡ earlier_reads file room
  unfolding reads earlier_reads pick
  small_read one small = rw (one, small) refl

  -- it was one if it was accepted
  was_one : number (earlier_reads file room) ≡ 0 → version_said file ≡ 1
  unfolding earlier_reads
  was_one =
      let One : Result Restored → Type 0 = λ r. number r ≡ 0 → version_said file ≡ 1 in
      pick_ind One _ _ _ (λ _ zero. absurd (omega (arith, zero))) (λ _.
      pick_ind One _ _ _ (λ _ zero. absurd (omega (arith, zero))) (λ same _. eqb-true (version_said file) 1 (not-false _ same)))

  large_read : version_said file ≡ 1 → version_of (found file) ≡ 2 → number (earlier_reads file room) ≡ 0 → reads file room ≡ read_result (Err read.WrongSides) room
  unfolding earlier_reads reads pick
  large_read one large =
      let Told : Result Restored → Result Restored → Type 0 = λ was is. number was ≡ 0 → is ≡ read_result (Err read.WrongSides) room in
      rw (one, large)
      (pick_ind₂ Told (is_other_length file) _ _ _ _ (λ _ zero. absurd (omega (arith, zero))) (λ _.
      pick_ind₂ Told (is_other_count file) _ _ _ _ (λ _ zero. absurd (omega (arith, zero))) (λ _ _. refl)))

-- ### A file of version 2

two_unknown : (table room : List ℕ) → entries_in table ≤ largest → earlier_reads (saved_as 2 table) room ≡ read_result (Err read.WrongVersion) room
unfolding earlier_reads pick
two_unknown table room fits =
    rw (le-ltb (length (saved_as 2 table)) 9 (omega (arith, saved_length 2 table)), eq-eqb _ _ (length_said_lem 2 table fits), version_said_lem 2 table fits) refl

-- ### Of any two functions that leave what the definitions say

module _ {Writes : List ℕ → List ℕ → Result Saved → Type 0} {Reads : List ℕ → List ℕ → Result Restored → Type 0}
    (wrote : (t d : List ℕ) (w : Result Saved) → Writes t d w → w ≡ writes t d)
    (read-so : (f t : List ℕ) (r : Result Restored) → Reads f t r → r ≡ reads f t) where
  pub succeeds : Succeeds Writes Reads
  succeeds = record {
    written = λ table dest w p small. wrote table dest w p ∙ ap (λ (v : ℕ). writes_as v table dest) (small_version table small);
    restored = λ file room r p one small. read-so file room r p ∙ small_read file room one (small_version (found file) small);
    refused = λ file room r p good other. read-so file room r p ∙ large_read file room (was_one file room good) (large_version (found file) other) good;
    unknown = λ table dest room w p zero other.
        let good : (writes table dest).told.number ≡ 0 = sym (ap (λ (v : Result Saved). v.told.number) (wrote table dest w p)) ∙ zero in
        ap (λ (f : List ℕ). earlier_reads f room)
        (ap file_in (wrote table dest w p) ∙ wrote_file (version_of table) table dest good ∙ ap (λ (v : ℕ). saved_as v table) (large_version table other))
        ∙ two_unknown table room (wrote_fits (version_of table) table dest good);
  }

-- ### Of the two functions

pub table_succeeds : Succeeds Writing Reading
table_succeeds = succeeds writing_is reading_is
