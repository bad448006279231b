-- The way back: the file of a table says what the table holds, and a file that passes the tests is that of its entries.
use mathlib.Core.Path.{◌≡◌, refl, sym, ap, ap₂, ◌∙◌}
use mathlib.Core.List.{List, [], ◌∷◌, ◌++◌, append_assoc}
use Prim.Native.Nat.{ℕ, zero, suc, ◌+◌, ◌-◌, ◌*◌, ◌≤◌, ◌<◌}
use native.Mathlib.Omega.{arith}
use lib.ListN.{length, take, drop, length-append, take-append-drop, drop_of_length-le}
use lib.Seq.{take_at, take_all, drop_at, drop-cons, drop-drop, get_or_at}
use Rattle.laws.specs.All.{empty, both}
use Rattle.laws.specs.Lists.{part}
use Rattle.laws.proofs.All.{all_take}
use Rattle.endian.specs.Number.{big_at, big_bytes_of}
use Rattle.endian.proofs.Turned.{big_length, big_number, big_bytes}
use Rattle.entry.specs.Entry.{size}
use Rattle.saved.specs.Saved.{entries_in, numbers_in, in_bytes, following, saved_as, version_of, saved, length_said, version_said, count_said, numbers_at, found}
use Rattle.saved.specs.Kept.{Bytes, Numbers, largest}
use Rattle.saved.proofs.Form.{following_length, saved_length, numbers_length, numbers_at_length, entries_count}
use Rattle.saved.proofs.Versions.{version_kept}
use Rattle.saved.proofs.Tests.{SavedTable}

-- ### What the file of a table says

-- the number whose bytes stand at a place
said : (front : List ℕ) (n : ℕ) (behind : List ℕ) (at : ℕ) → length front ≡ at → n < 4294967296 → big_at 4 (front ++ (big_bytes_of 4 n ++ behind)) at ≡ n
unfolding part
said front n behind at e small =
    big_number 4 n (front ++ (big_bytes_of 4 n ++ behind)) at small
    (ap (take 4) (drop_at front (big_bytes_of 4 n ++ behind) at e) ∙ take_at (big_bytes_of 4 n) behind 4 (big_length 4 n))

numbers_said : (front ns : List ℕ) (at : ℕ) → length front ≡ at → Numbers ns → numbers_at (length ns) (front ++ in_bytes ns) at ≡ ns
unfolding numbers_at in_bytes
numbers_said front [] at e empty = refl
numbers_said front (n ∷ ns) at e (both small all) =
    let further : length (front ++ big_bytes_of 4 n) ≡ at + 4 = length-append front (big_bytes_of 4 n) ∙ omega (arith, big_length 4 n) in
    ap₂ ◌∷◌ (said front n (in_bytes ns) at e small)
    (ap (λ (l : List ℕ). numbers_at (length ns) l (at + 4)) (sym (append_assoc front (big_bytes_of 4 n) (in_bytes ns)))
    ∙ numbers_said (front ++ big_bytes_of 4 n) ns (at + 4) further all)

-- in any version
module _ (v : ℕ) (table : List ℕ) (fits : entries_in table ≤ largest) where
  abbrev count : List ℕ
  count = big_bytes_of 4 (entries_in table)

  abbrev long : List ℕ
  long = big_bytes_of 4 (length (following v table))

  pub length_said_lem : length_said (saved_as v table) ≡ length (saved_as v table) - 4
  unfolding saved_as
  length_said_lem =
      said [] (length (following v table)) (following v table) 0 refl (omega (arith, following_length v table))
      ∙ omega (arith, saved_length v table, following_length v table)

  pub version_said_lem : version_said (saved_as v table) ≡ v
  unfolding saved_as following
  version_said_lem = get_or_at long v (count ++ in_bytes (numbers_in table)) 0 4 (big_length 4 (length (following v table)))

  pub count_said_lem : count_said (saved_as v table) ≡ entries_in table
  unfolding saved_as following
  count_said_lem =
      ap (λ (l : List ℕ). big_at 4 l 5) (sym (append_assoc long (v ∷ []) (count ++ in_bytes (numbers_in table))))
      ∙ said (long ++ (v ∷ [])) (entries_in table) (in_bytes (numbers_in table)) 5
      (length-append long (v ∷ []) ∙ omega (arith, big_length 4 (length (following v table)))) (omega arith)

  pub entries_said : Numbers table → found (saved_as v table) ≡ numbers_in table
  unfolding saved_as following
  entries_said numbers =
      let ns = numbers_in table in
      let head : length (long ++ (v ∷ count)) ≡ 9 =
      length-append long (v ∷ count) ∙ omega (arith, big_length 4 (length (following v table)), big_length 4 (entries_in table)) in
      ap (λ (n : ℕ). numbers_at n (saved_as v table) 9) (ap (λ (n : ℕ). size * n) count_said_lem ∙ sym (numbers_length table))
      ∙ ap (λ (l : List ℕ). numbers_at (length ns) l 9) (sym (append_assoc long (v ∷ count) (in_bytes ns)))
      ∙ numbers_said (long ++ (v ∷ count)) ns 9 head (all_take (size * entries_in table) numbers)

pub is_saved_table : (table : List ℕ) → Numbers table → entries_in table ≤ largest → SavedTable (saved table)
is_saved_table table numbers fits =
    let v = version_of table in
    record {
      nine = omega (arith, saved_length v table);
      length_is = length_said_lem v table fits;
      count_is = omega (arith, length_said_lem v table fits, saved_length v table, count_said_lem v table fits);
      version_is = version_said_lem v table fits ∙ sym (version_kept table) ∙ ap version_of (sym (entries_said v table fits numbers));
    }

-- ### What a file is that passes the tests

bytes_said : (n : ℕ) (file : List ℕ) (at : ℕ) → Bytes file → at + 4 * n ≡ length file → in_bytes (numbers_at n file at) ≡ drop at file
unfolding numbers_at in_bytes part
bytes_said zero file at bytes e = sym (drop_of_length-le file {i = at} (omega arith))
bytes_said (suc n) file at bytes e =
    ap₂ ◌++◌ (big_bytes 4 file at (omega arith) bytes) (bytes_said n file (at + 4) bytes (omega arith))
    ∙ ap (λ (l : List ℕ). take 4 (drop at file) ++ l) (sym (drop-drop 4 at file))
    ∙ take-append-drop 4 (drop at file)

module _ (file : List ℕ) (bytes : Bytes file) (s : SavedTable file) where
  abbrev ns : List ℕ
  ns = found file

  found_count : entries_in ns ≡ count_said file
  found_count = entries_count file (count_said file)

  found_numbers : numbers_in ns ≡ ns
  found_numbers = take_all (size * entries_in ns) ns (omega (arith, numbers_at_length (size * count_said file) file 9))

  found_follows : following (version_of ns) ns ≡ drop 4 file
  unfolding following part
  found_follows =
      let there : 9 + 4 * (size * count_said file) ≡ length file = omega (arith, s.nine, s.length_is, s.count_is) in
      let counted : big_bytes_of 4 (entries_in ns) ≡ take 4 (drop 5 file) = ap (big_bytes_of 4) found_count ∙ big_bytes 4 file 5 s.nine bytes in
      let entries : in_bytes (numbers_in ns) ≡ drop 4 (drop 5 file) =
      ap in_bytes found_numbers ∙ bytes_said (size * count_said file) file 9 bytes there ∙ sym (drop-drop 4 5 file) in
      ap₂ ◌∷◌ (sym s.version_is) (ap₂ ◌++◌ counted entries ∙ take-append-drop 4 (drop 5 file))
      ∙ sym (drop-cons file 4 0 (omega (arith, s.nine)))

  -- it is the file of its entries
  pub saved_again : saved ns ≡ file
  unfolding saved_as part
  saved_again =
      let long : length (following (version_of ns) ns) ≡ length_said file = following_length (version_of ns) ns ∙ ap (λ (n : ℕ). 5 + 56 * n) found_count ∙ sym s.count_is in
      ap₂ ◌++◌ (ap (big_bytes_of 4) long ∙ big_bytes 4 file 0 (omega (arith, s.nine)) bytes) found_follows
      ∙ take-append-drop 4 file
