-- One table has one file, and one file one table: of any two functions that leave what `writes` and `reads` say, so of `write_table` and
-- `read_table`, by their contracts.
use mathlib.Core.Path.{◌≡◌, refl, sym, ap, ap₂, ◌∙◌}
use mathlib.Core.Bool.{false}
use mathlib.Core.List.{List, ◌++◌}
use Prim.Native.Nat.{ℕ, ◌+◌, ◌-◌, ◌*◌, ◌≤◌, ◌<◌}
use native.Mathlib.Omega.{arith}
use lib.ListN.{length, take, drop}
use lib.Seq.{take_at}
use Rattle.std.specs.Prelude.{Ok}
use Rattle.laws.specs.Lists.{over}
use Rattle.laws.specs.Outcomes.{Call}
use Rattle.laws.specs.Results.{Result}
use Rattle.laws.proofs.OneOutcome.{call_is}
use Rattle.laws.proofs.Over.{over_front}
use Rattle.laws.proofs.Tests.{not_less, not_other, yes_or_no}
use Rattle.endian.proofs.Turned.{big_small}
use Rattle.entry.specs.Entry.{size}
use Rattle.saved.specs.declared.writer.Saved.{Saved}
use Rattle.saved.specs.declared.reader.Restored.{Restored}
use Rattle.saved.specs.Saved.{entries_in, numbers_in, saved_as, version_of, saved, write_result, writes_as, writes, length_said, version_said, count_said, found, is_other_version, read_result, reads}
use Rattle.saved.specs.Kept.{Bytes, Numbers, largest, file_in, found_in, Keeps}
use Rattle.saved.proofs.Form.{saved_length, numbers_at_length, entries_count}
use Rattle.saved.proofs.Tests.{write_over_long, write_no_room, write_whole, read_short, read_other_length, read_other_version, read_other_count, read_other_sides, SavedTable, read_no_room, read_whole}
use Rattle.saved.proofs.Back.{count_said_lem, entries_said, is_saved_table, saved_again}
use Rattle.saved.proofs.writer.write_table.Reads as write
use Rattle.saved.proofs.reader.read_table.Reads as read

-- ### What 0 tells

-- of writing: the length fits, and there was room
module _ (v : ℕ) (table dest : List ℕ) (good : (writes_as v table dest).told.number ≡ 0) where
  not_written : (w : Result Saved) → 0 < w.told.number → writes_as v table dest ≡ w → ⊥
  not_written w some e = omega (arith, some, ap (λ (r : Result Saved). r.told.number) e, good)

  pub wrote_fits : entries_in table ≤ largest
  wrote_fits = not_less largest (entries_in table) (λ over. not_written _ (omega arith) (write_over_long v table dest over))

  wrote_room : 9 + 56 * entries_in table ≤ length dest
  wrote_room = not_less (length dest) (9 + 56 * entries_in table) (λ short. not_written _ (omega arith) (write_no_room v table dest wrote_fits short))

  pub wrote_file : file_in (writes_as v table dest) ≡ saved_as v table
  wrote_file =
      ap file_in (write_whole v table dest wrote_fits wrote_room)
      ∙ ap (take (9 + 56 * entries_in table)) (over_front dest (saved_as v table) (9 + 56 * entries_in table) (saved_length v table))
      ∙ take_at (saved_as v table) (drop (9 + 56 * entries_in table) dest) (9 + 56 * entries_in table) (saved_length v table)

-- of reading: the file passes the tests, and there was room
module _ (file room : List ℕ) (good : (reads file room).told.number ≡ 0) where
  not_read : (r : Result Restored) → 0 < r.told.number → reads file room ≡ r → ⊥
  not_read r some e = omega (arith, some, ap (λ (q : Result Restored). q.told.number) e, good)

  read_saved : SavedTable file
  read_saved =
      let nine = not_less (length file) 9 (λ short. not_read _ (omega arith) (read_short file room short)) in
      let length_is = not_other (length_said file) (length file - 4) (λ other. not_read _ (omega arith) (read_other_length file room nine other)) in
      let known : is_other_version file ≡ false =
      yes_or_no (is_other_version file) (λ other. absurd (not_read _ (omega arith) (read_other_version file room nine length_is other))) (λ e. e) in
      let count_is =
      not_other (length_said file) (5 + 56 * count_said file)
      (λ other. not_read _ (omega arith) (read_other_count file room nine length_is known other)) in
      record {
        nine = nine;
        length_is = length_is;
        count_is = count_is;
        version_is =
            not_other (version_said file) (version_of (found file))
            (λ other. not_read _ (omega arith) (read_other_sides file room nine length_is known count_is other));
      }

  read_room : count_said file ≤ entries_in room
  read_room = not_less (entries_in room) (count_said file) (λ full. not_read _ (omega arith) (read_no_room file room read_saved full))

  read_found : found_in (reads file room) ≡ found file
  read_found =
      ap found_in (read_whole file room read_saved read_room)
      ∙ take_at (found file) (drop (size * count_said file) room) (size * count_said file) (numbers_at_length (size * count_said file) file 9)

-- ### Reading what was written, and writing what was read

reads_back :
    (table room : List ℕ) → Numbers table → entries_in table ≤ largest → entries_in table ≤ entries_in room
    → reads (saved table) room ≡ read_result (Ok (entries_in table)) (numbers_in table ++ drop (size * entries_in table) room)
reads_back table room numbers fits space =
    let count = count_said_lem (version_of table) table fits in
    read_whole (saved table) room (is_saved_table table numbers fits) (omega (arith, count))
    ∙ ap₂ (λ (n : ℕ) (l : List ℕ). read_result (Ok n) (l ++ drop (size * n) room)) count (entries_said (version_of table) table fits numbers)

writes_again :
    (file dest : List ℕ) → Bytes file → SavedTable file → length file ≤ length dest
    → writes (found file) dest ≡ write_result (Ok (length file)) (file ++ drop (length file) dest)
writes_again file dest bytes s space =
    let count = entries_count file (count_said file) in
    let fits : entries_in (found file) ≤ largest = omega (arith, count, s.count_is, big_small 4 file 0 bytes) in
    let long : 9 + 56 * entries_in (found file) ≡ length file = omega (arith, count, s.nine, s.length_is, s.count_is) in
    write_whole (version_of (found file)) (found file) dest fits (omega arith)
    ∙ ap₂ (λ (n : ℕ) (l : List ℕ). write_result (Ok n) (over dest 0 l)) long (saved_again file bytes s)
    ∙ ap (write_result (Ok (length file))) (over_front dest file (length file) refl)

-- ### Of any two functions that leave what the definitions say

module _ {Writes : List ℕ → List ℕ → Result Saved → Type 0} {Reads : List ℕ → List ℕ → Result Restored → Type 0}
    (wrote : (t d : List ℕ) (w : Result Saved) → Writes t d w → w ≡ writes t d)
    (restored : (f t : List ℕ) (r : Result Restored) → Reads f t r → r ≡ reads f t) where
  module _ (t d : List ℕ) (w : Result Saved) (p : Writes t d w) (zero : w.told.number ≡ 0) where
    good_write : (writes t d).told.number ≡ 0
    good_write = sym (ap (λ (v : Result Saved). v.told.number) (wrote t d w p)) ∙ zero

    file_is : file_in w ≡ saved t
    file_is = ap file_in (wrote t d w p) ∙ wrote_file (version_of t) t d good_write

    entries_are : Numbers t → found (file_in w) ≡ numbers_in t
    entries_are numbers = ap found file_is ∙ entries_said (version_of t) t (wrote_fits (version_of t) t d good_write) numbers

  module _ (f t : List ℕ) (r : Result Restored) (p : Reads f t r) (zero : r.told.number ≡ 0) where
    good_read : (reads f t).told.number ≡ 0
    good_read = sym (ap (λ (q : Result Restored). q.told.number) (restored f t r p)) ∙ zero

    found_is : found_in r ≡ found f
    found_is = ap found_in (restored f t r p) ∙ read_found f t good_read

    file_again : Bytes f → saved (found_in r) ≡ f
    file_again bytes = ap saved found_is ∙ saved_again f bytes (read_saved f t good_read)

  pub keeps : Keeps Writes Reads
  keeps = record {
    back = λ table dest room w r numbers p zero q space.
        restored (file_in w) room r q
        ∙ ap (λ (f : List ℕ). reads f room) (file_is table dest w p zero)
        ∙ reads_back table room numbers (wrote_fits (version_of table) table dest (good_write table dest w p zero)) space;
    again = λ file room dest r w bytes q zero p space.
        wrote (found_in r) dest w p
        ∙ ap (λ (l : List ℕ). writes l dest) (found_is file room r q zero)
        ∙ writes_again file dest bytes (read_saved file room (good_read file room r q zero)) space;
    one_file = λ f g room room' r s bytes bytes' p zero q zero' same.
        sym (file_again f room r p zero bytes) ∙ ap saved same ∙ file_again g room' s q zero' bytes';
    one_table = λ t u dest dest' v w numbers numbers' p zero q zero' same.
        sym (entries_are t dest v p zero numbers)
        ∙ ap found same
        ∙ entries_are u dest' w q zero' numbers';
    fits = λ table dest w p fits room.
        wrote table dest w p
        ∙ write_whole (version_of table) table dest fits room
        ∙ ap (write_result (Ok (9 + 56 * entries_in table))) (over_front dest (saved table) (9 + 56 * entries_in table) (saved_length (version_of table) table));
    short = λ table dest w p fits short. wrote table dest w p ∙ write_no_room (version_of table) table dest fits short;
    over_long = λ table dest w p over. wrote table dest w p ∙ write_over_long (version_of table) table dest over;
  }

-- ### Of the two functions

-- what their contracts admit
abbrev pub Writing : List ℕ → List ℕ → Result Saved → Type 0
Writing t d = Call {Given = List ℕ × List ℕ} (λ l a. (a.0.now, a.1.0.now)) (λ l y e. write_result y e.1.0.now) write.Learnt (t, d)

abbrev pub Reading : List ℕ → List ℕ → Result Restored → Type 0
Reading f t = Call {Given = List ℕ × List ℕ} (λ l a. (a.0.now, a.1.0.now)) (λ l y e. read_result y e.1.0.now) read.Learnt (f, t)

pub writing_is : (t d : List ℕ) (w : Result Saved) → Writing t d w → w ≡ writes t d
writing_is t d w = call_is (λ g. writes g.0 g.1) (λ l a y e h. h)

pub reading_is : (f t : List ℕ) (r : Result Restored) → Reading f t r → r ≡ reads f t
reading_is f t r = call_is (λ g. reads g.0 g.1) (λ l a y e h. h)

pub table_keeps : Keeps Writing Reading
table_keeps = keeps writing_is reading_is
