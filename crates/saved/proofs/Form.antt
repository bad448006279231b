-- The file of a table: its length, its numbers one by one, and the loops that write and read them.
use mathlib.Core.Path.{◌≡◌, refl, sym, ap, ap₂, subst, ◌∙◌}
use mathlib.Core.List.{List, [], ◌∷◌, ◌++◌, reverse, append-nil, append_assoc}
use Prim.Native.Nat.{ℕ, zero, suc, ◌+◌, ◌-◌, ◌*◌, ◌/◌, ◌≤◌, ◌<◌}
use native.Mathlib.Nat.{zero-add}
use native.Mathlib.Numerals.{add-one}
use native.Mathlib.Omega.{arith}
use lib.ListN.{length, take, drop, set, get_or, length-append, length-drop, drop_of_length-le}
use lib.Seq.{take-suc, take_all, length-take-le, drop-drop}
use Rattle.laws.specs.Lists.{part, over}
use Rattle.laws.proofs.Over.{over_length, over_none, over_one, over_over, over_front}
use Rattle.laws.proofs.Stored.{Stored, stored_next, stored_last}
use Rattle.endian.specs.Number.{le, big_at, big_bytes_of}
use Rattle.endian.proofs.Turned.{big_length}
use Rattle.entry.specs.Entry.{size}
use Rattle.saved.specs.Saved.{entries_in, numbers_in, in_bytes, following, saved_as, numbers_at, entries_of}

-- ### Lengths

pub in_bytes_length : (ns : List ℕ) → length (in_bytes ns) ≡ 4 * length ns
unfolding in_bytes
in_bytes_length [] = refl
in_bytes_length (n ∷ ns) = length-append (big_bytes_of 4 n) (in_bytes ns) ∙ omega (arith, big_length 4 n, in_bytes_length ns)

pub numbers_length : (table : List ℕ) → length (numbers_in table) ≡ size * entries_in table
numbers_length table = length-take-le (size * entries_in table) table (omega arith)

pub following_length : (v : ℕ) (table : List ℕ) → length (following v table) ≡ 5 + 56 * entries_in table
unfolding following
following_length v table =
    let counted = length-append (big_bytes_of 4 (entries_in table)) (in_bytes (numbers_in table)) in
    omega (arith, counted, big_length 4 (entries_in table), in_bytes_length (numbers_in table), numbers_length table)

pub saved_length : (v : ℕ) (table : List ℕ) → length (saved_as v table) ≡ 9 + 56 * entries_in table
unfolding saved_as
saved_length v table =
    let f = length (following v table) in
    length-append (big_bytes_of 4 f) (following v table) ∙ omega (arith, big_length 4 f, following_length v table)

-- ### Written one by one

pub in_bytes_append : (ms ns : List ℕ) → in_bytes (ms ++ ns) ≡ in_bytes ms ++ in_bytes ns
unfolding in_bytes
in_bytes_append [] ns = refl
in_bytes_append (m ∷ ms) ns = ap (λ (l : List ℕ). big_bytes_of 4 m ++ l) (in_bytes_append ms ns) ∙ sym (append_assoc (big_bytes_of 4 m) (in_bytes ms) (in_bytes ns))

-- dest with the first i numbers in front
module _ (numbers dest : List ℕ) where
  pub record Put (i : ℕ) (now : List ℕ) : Type 0 where
    pub room : 4 * length numbers ≤ length dest
    pub inside : i ≤ length numbers
    pub is : now ≡ over dest 0 (in_bytes (take i numbers))

  pub put_first : 4 * length numbers ≤ length dest → Put 0 dest
  unfolding in_bytes
  put_first room = record { room = room; inside = omega arith; is = sym (over_none dest 0) }

  module _ (i : ℕ) (now : List ℕ) (p : Put i now) where
    first_length : length (in_bytes (take i numbers)) ≡ 4 * i
    first_length = in_bytes_length (take i numbers) ∙ ap (λ (k : ℕ). 4 * k) (length-take-le i numbers (omega (arith, p.inside)))

    pub put_length : length now ≡ length dest
    put_length = ap length p.is ∙ over_length dest 0 (in_bytes (take i numbers)) (omega (arith, first_length, p.inside, p.room))

    -- one number more
    pub put_next : (after : List ℕ) → i < length numbers → after ≡ over now (4 * i) (big_bytes_of 4 (get_or numbers i 0)) → Put (i + 1) after
    unfolding in_bytes
    put_next after more e =
        let number = big_bytes_of 4 (get_or numbers i 0) in
        let before = in_bytes (take i numbers) in
        record {
          room = p.room;
          inside = omega arith;
          is =
              e
              ∙ ap (λ (l : List ℕ). over l (4 * i) number) p.is
              ∙ over_over dest 0 (4 * i) before number (omega (arith, first_length)) (omega (arith, p.room, big_length 4 (get_or numbers i 0)))
              ∙ ap (λ (l : List ℕ). over dest 0 (before ++ l)) (sym (append-nil number))
              ∙ ap (over dest 0) (sym (in_bytes_append (take i numbers) (get_or numbers i 0 ∷ [])))
              ∙ ap (λ (l : List ℕ). over dest 0 (in_bytes l)) (sym (take-suc numbers i 0 more))
              ∙ ap (λ (k : ℕ). over dest 0 (in_bytes (take k numbers))) (sym (add-one i));
        }

    pub put_last : length numbers ≤ i → now ≡ over dest 0 (in_bytes numbers)
    put_last h = p.is ∙ ap (λ (l : List ℕ). over dest 0 (in_bytes l)) (take_all i numbers h)

-- all behind a place, as it is lent
pub lent_behind : (l : List ℕ) (at : ℕ) → take (length l - at) (drop at l) ≡ drop at l
lent_behind l at = take_all (length l - at) (drop at l) (omega (arith, length-drop at l))

-- what is written into it is written from there on
pub over_behind :
    (dest xs now : List ℕ) (at : ℕ) → now ≡ over (take (length dest - at) (drop at dest)) 0 xs
    → take at dest ++ (now ++ drop (length dest - at) (drop at dest)) ≡ over dest at xs
unfolding over
over_behind dest xs now at e =
    let none : drop (length dest - at) (drop at dest) ≡ [] = drop_of_length-le (drop at dest) (omega (arith, length-drop at dest)) in
    simp (e, none, lent_behind dest at, append-nil, zero-add, append_assoc, drop-drop)

-- length, version, count and numbers, each at its place, are the file
pub file_put :
    (table dest one two three : List ℕ) (v count : ℕ) → count ≡ entries_in table → 9 + 56 * count ≤ length dest
    → one ≡ over dest 0 (big_bytes_of 4 (5 + 56 * count)) → two ≡ over (set one 4 v) 5 (big_bytes_of 4 count)
    → three ≡ over two 9 (in_bytes (take (size * count) table)) → three ≡ over dest 0 (saved_as v table)
unfolding saved_as following
file_put table dest one two three v count e room first second third =
    third
    ∙ ap (λ (l : List ℕ). over l 9 (in_bytes (take (size * count) table))) (second ∙ ap (λ (l : List ℕ). over (set l 4 v) 5 (big_bytes_of 4 count)) first)
    ∙ pieces dest (big_bytes_of 4 (5 + 56 * count)) (big_bytes_of 4 count) (in_bytes (take (size * count) table)) (big_length 4 (5 + 56 * count)) (big_length 4 count)
    (omega (arith, in_bytes_length (take (size * count) table), length-take-le (size * count) table (omega arith)))
    ∙ ap (λ (n : ℕ). over dest 0 (big_bytes_of 4 (5 + 56 * n) ++ (v ∷ big_bytes_of 4 n ++ in_bytes (take (size * n) table)))) e
    ∙ ap (λ (n : ℕ). over dest 0 (big_bytes_of 4 n ++ following v table)) (sym (following_length v table))
  where
    pieces :
        (d f n b : List ℕ) → length f ≡ 4 → length n ≡ 4 → 9 + length b ≤ length d
        → over (over (set (over d 0 f) 4 v) 5 n) 9 b ≡ over d 0 (f ++ (v ∷ n ++ b))
    pieces d f n b four four' fits =
        let one : List ℕ = v ∷ [] in
        let long : length (over d 0 f) ≡ length d = over_length d 0 f (omega arith) in
        let five : length (f ++ one) ≡ 5 = length-append f one ∙ omega arith in
        let nine : length ((f ++ one) ++ n) ≡ 9 = length-append (f ++ one) n ∙ omega arith in
        ap (λ (l : List ℕ). over (over l 5 n) 9 b) (over_one (over d 0 f) 4 v (omega arith) ∙ over_over d 0 4 f one (omega arith) (omega arith))
        ∙ ap (λ (l : List ℕ). over l 9 b) (over_over d 0 5 (f ++ one) n (omega arith) (omega arith))
        ∙ over_over d 0 9 ((f ++ one) ++ n) b (omega arith) (omega arith)
        ∙ ap (over d 0) (append_assoc (f ++ one) n b ∙ append_assoc f one (n ++ b))

-- ### Read one by one

pub numbers_at_length : (n : ℕ) (file : List ℕ) (at : ℕ) → length (numbers_at n file at) ≡ n
unfolding numbers_at
numbers_at_length zero file at = refl
numbers_at_length (suc n) file at = ap suc (numbers_at_length n file (at + 4))

pub number_at : (n : ℕ) (file : List ℕ) (at i : ℕ) → i < n → get_or (numbers_at n file at) i 0 ≡ big_at 4 file (at + 4 * i)
unfolding numbers_at
number_at zero file at i low = absurd (omega arith)
number_at (suc n) file at zero low = ap (big_at 4 file) (omega arith)
number_at (suc n) file at (suc i) low = number_at n file (at + 4) i (omega arith) ∙ ap (big_at 4 file) (omega arith)

-- from the front on
pub number_front : (n : ℕ) (bytes : List ℕ) (i : ℕ) → i < n → get_or (numbers_at n bytes 0) i 0 ≡ big_at 4 bytes (4 * i)
number_front n bytes i low = number_at n bytes 0 i low ∙ ap (big_at 4 bytes) (zero-add (4 * i))

-- behind a place
big_behind : (n k at : ℕ) (file : List ℕ) → big_at n (drop k file) at ≡ big_at n file (k + at)
unfolding big_at part
big_behind n k at file = ap (λ (l : List ℕ). le n (reverse (take n l))) (drop-drop at k file)

pub numbers_behind : (n k at : ℕ) (file : List ℕ) → numbers_at n (drop k file) at ≡ numbers_at n file (k + at)
unfolding numbers_at
numbers_behind zero k at file = refl
numbers_behind (suc n) k at file =
    ap₂ ◌∷◌ (big_behind 4 k at file) (numbers_behind n k (at + 4) file ∙ ap (numbers_at n file) (omega arith))

-- so many entries are as many
pub entries_count : (file : List ℕ) (count : ℕ) → entries_in (entries_of file count) ≡ count
entries_count file count = omega (arith, numbers_at_length (size * count) file 9)

-- and they are all that stands behind nine bytes
pub entries_behind :
    (file : List ℕ) (count : ℕ) → length file ≡ 9 + 56 * count → let lent = take (length file - 9) (drop 9 file) in numbers_at (length lent / 4) lent 0 ≡ entries_of file count
entries_behind file count e =
    let many : length (drop 9 file) / 4 ≡ size * count = omega (arith, length-drop 9 file) in
    ap (λ (l : List ℕ). numbers_at (length l / 4) l 0) (lent_behind file 9)
    ∙ ap (λ (n : ℕ). numbers_at n (drop 9 file) 0) many
    ∙ numbers_behind (size * count) 9 0 file

pub entries_got :
    (file table now : List ℕ) (count : ℕ) → size * count ≤ length table
    → now ≡ numbers_at (length (take (size * count) table)) (take (length file - 9) (drop 9 file)) 0 → now ≡ entries_of file count
entries_got file table now count room e =
    e
    ∙ ap₂ (λ (n : ℕ) (l : List ℕ). numbers_at n l 0) (length-take-le (size * count) table room) (lent_behind file 9)
    ∙ numbers_behind (size * count) 9 0 file

-- one number more
pub get_next :
    (before bytes : List ℕ) (i m : ℕ) (now : List ℕ) → i < length before → m ≡ big_at 4 bytes (4 * i)
    → Stored before 0 (numbers_at (length before) bytes 0) i now → Stored before 0 (numbers_at (length before) bytes 0) (i + 1) (set now i m)
get_next before bytes i m now low e s =
    let n = length before in
    let more = stored_next before 0 (numbers_at n bytes 0) i now s 0 (omega (arith, numbers_at_length n bytes 0)) in
    subst (Stored before 0 (numbers_at n bytes 0) (i + 1)) (ap₂ (set now) (zero-add i) (number_front n bytes i low ∙ sym e)) more

-- all of them
pub get_last :
    (before bytes : List ℕ) (i : ℕ) (now : List ℕ) → length before ≤ i → Stored before 0 (numbers_at (length before) bytes 0) i now
    → now ≡ numbers_at (length before) bytes 0
get_last before bytes i now all s =
    let n = length before in
    let xs = numbers_at n bytes 0 in
    let long = numbers_at_length n bytes 0 in
    stored_last before 0 xs i now s (omega arith)
    ∙ over_front before xs n long
    ∙ ap (λ (l : List ℕ). xs ++ l) (drop_of_length-le before (omega arith))
    ∙ append-nil xs
