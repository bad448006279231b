-- `saved::reader::read_table` meets its contract: each refusal by its test, and the entries read.
use mathlib.Core.Path.{◌≡◌, refl, sym, ap, ◌∙◌}
use mathlib.Core.List.{List, ◌++◌}
use Prim.Native.Nat.{ℕ, ◌+◌, ◌-◌, ◌*◌, ◌/◌, ◌≤◌}
use native.Mathlib.Omega.{arith}
use lib.ListN.{length, take, drop}
use Rattle.std.specs.Prelude.{Ok}
use Rattle.entry.specs.Entry.{size}
use Rattle.saved.specs.Version.{number_of}
use Rattle.saved.specs.Saved.{version_of, version_said, length_said, count_said, numbers_at, entries_of, found, read_result}
use Rattle.saved.proofs.Form.{entries_behind, entries_got}
use Rattle.saved.proofs.Tests.{read_short, read_other_length, read_other_version, read_other_count, read_other_sides, known_version, differ, agree, SavedTable, read_no_room, read_whole}
use Rattle.saved.proofs.reader.read_table.Goals as goal

-- what the code has read of a file, once its length is the file's and its count the length's
count_is : (file : List ℕ) (said count : ℕ) → said ≡ length_said file → count ≡ count_said file → said ≡ 5 + 56 * count → length_said file ≡ 5 + 56 * count_said file
count_is file said count l n e = sym l ∙ e ∙ ap (λ (k : ℕ). 5 + 56 * k) n

-- the version of as many entries as were counted is that of those found
version_found : (file : List ℕ) (count right : ℕ) → count ≡ count_said file → right ≡ version_of (entries_of file count) → right ≡ version_of (found file)
version_found file count right n e = e ∙ ap (λ (k : ℕ). version_of (entries_of file k)) n

-- and the code has it of all that stands behind the head
right_is :
    (file : List ℕ) (count right : ℕ) → length file ≡ 9 + 56 * count
    → (let lent = take (length file - 9) (drop 9 file) in right ≡ version_of (numbers_at (length lent / 4) lent 0)) → right ≡ version_of (entries_of file count)
right_is file count right long e = e ∙ ap version_of (entries_behind file count long)

is_saved :
    (file : List ℕ) (said count right : ℕ) → 9 ≤ length file → said ≡ length_said file → said ≡ length file - 4 → count ≡ count_said file
    → said ≡ 5 + 56 * count → right ≡ version_of (entries_of file count) → version_said file ≡ right → SavedTable file
is_saved file said count right nine l length_is n e v same = record {
  nine = nine;
  length_is = sym l ∙ length_is;
  count_is = count_is file said count l n e;
  version_is = same ∙ version_found file count right n v;
}

pub returns-then-file-lt-HEAD : goal.returns-then-file-lt-HEAD
returns-then-file-lt-HEAD c = sym (read_short _ _ c.if-file-lt-HEAD.true)

pub returns-then-length-file : goal.returns-then-length-file
returns-then-length-file c =
    sym (read_other_length _ _ c.if-file-lt-HEAD.false (λ e. c.if-length-file.true (c.u32_at-length.ensures.value ∙ e)))

pub returns-in_default : goal.returns-in_default
returns-in_default c =
    sym (read_other_version _ _ c.if-file-lt-HEAD.false (sym c.u32_at-length.ensures.value ∙ c.if-length-file.false) c.in_default.ensures.1)

pub returns-then-length-count : goal.returns-then-length-count
returns-then-length-count c =
    let said = c.u32_at-length.ensures.value in
    sym (read_other_count _ _ c.if-file-lt-HEAD.false (sym said ∙ c.if-length-file.false) (known_version c.in-Ok.version c.args.file.now c.in-Ok.ensures)
    (λ e. c.if-length-count.true (said ∙ e ∙ ap (λ (n : ℕ). 5 + 56 * n) (sym c.u32_at-count.ensures.value))))

-- what the tests have found is found by tactics here, so that a test that stands elsewhere is refused for what it then leaves unknown
pub returns-then-ne : goal.returns-then-ne
returns-then-ne c =
    let f = c.args.file.now in
    let said = c.u32_at-length.ensures.value in
    let counted = c.u32_at-count.ensures.value in
    let measured : c.u32_at-length.result ≡ 5 + 56 * c.u32_at-count.result = omega arith in
    let right = number_of c.version_of-right.result in
    sym (read_other_sides f _ c.if-file-lt-HEAD.false (sym said ∙ c.if-length-file.false) (known_version c.in-Ok.version f c.in-Ok.ensures) (count_is f _ _ said counted measured)
    (λ e. differ c.in-Ok.version c.version_of-right.result (sym c.ne.ensures ∙ c.if-ne.true) (c.in-Ok.ensures ∙ e ∙ sym (version_found f _ _ counted (right_is f c.u32_at-count.result right (omega arith) c.version_of-right.ensures)))))

-- found by tactics too, for the same reason
pub returns-then-table-count : goal.returns-then-table-count
returns-then-table-count c =
    let f = c.args.file.now in
    let right = number_of c.version_of-right.result in
    let measured : c.u32_at-length.result ≡ 5 + 56 * c.u32_at-count.result = omega arith in
    let same = agree c.in-Ok.version c.version_of-right.result cc in
    let agreed = sym c.in-Ok.ensures ∙ same ∙ right_is f c.u32_at-count.result right (omega arith) c.version_of-right.ensures in
    let saved = is_saved f _ _ _ c.if-file-lt-HEAD.false c.u32_at-length.ensures.value c.if-length-file.false c.u32_at-count.ensures.value measured refl agreed in
    sym (read_no_room _ _ saved (omega (arith, c.u32_at-count.ensures.value, c.if-table-count.true)))

pub returns : goal.returns
returns c =
    let f = c.args.file.now in
    let t = c.args.table.now in
    let counted = c.u32_at-count.ensures.value in
    let same = sym c.in-Ok.ensures ∙ agree c.in-Ok.version c.version_of-right.result (sym c.ne.ensures ∙ c.if-ne.false) in
    let saved = is_saved f _ _ _ c.if-file-lt-HEAD.false c.u32_at-length.ensures.value c.if-length-file.false counted c.if-length-count.false (right_is f c.u32_at-count.result (number_of c.version_of-right.result) (omega arith) c.version_of-right.ensures) same in
    ap (λ (now : List ℕ). read_result (Ok c.u32_at-count.result) (now ++ drop (size * c.u32_at-count.result) t)) (entries_got f t _ c.u32_at-count.result (omega (arith, c.if-table-count.false)) c.get_numbers.ensures)
    ∙ ap (λ (n : ℕ). read_result (Ok n) (entries_of f n ++ drop (size * n) t)) counted
    ∙ sym (read_whole f t saved (omega (arith, counted, c.if-table-count.false)))
