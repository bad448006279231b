-- What records hold after entries of a table were stored in them.
use mathlib.Core.Path.{◌≡◌, refl, sym, ap, ap₂, ◌∙◌}
use mathlib.Core.List.{List, ◌∷◌, ◌++◌}
use Prim.Native.Nat.{ℕ, zero, suc, ◌+◌, ◌*◌, ◌/◌, ◌≤◌, ◌<◌}
use native.Mathlib.Nat.{zero-add, add-zero}
use native.Mathlib.Numerals.{add-one}
use native.Mathlib.Omega.{arith}
use borrow.Author.Tests.{ltb-true}
use lib.ListN.{length, take, drop, set, get_or, length-set, length-take}
use lib.Seq.{drop-drop, take-suc, take-length, take_at, drop_at, set_split, append_snoc, length-take-le}
use Rattle.std.specs.Prelude.{true, ltb}
use Rattle.std.specs.Simd.{first_chunks}
use Rattle.std.proofs.lemmas.List.{get_or-take, get_or-drop}
use Rattle.laws.proofs.Over.{drop_more}
use Rattle.entry.specs.declared.Entry.{Entry}
use Rattle.entry.specs.Entry.{size, entry_at, numbers, write}
use Rattle.entry.proofs.Table.{entry_is, write_all}
use Rattle.psp.specs.Recorded.{records_of}

pub records_length : (t : List ℕ) (k : ℕ) (old : List Entry) → length (records_of t k old) ≡ length old
unfolding records_of
records_length t zero old = refl
records_length t (suc k) old = length-set (records_of t k old) k _ ∙ records_length t k old

-- ### A table by its chunks

chunk_is : (t d : List ℕ) (n i : ℕ) → i < n → get_or (first_chunks size n t) i d ≡ take size (drop (i * size) t)
chunk_is t d zero i low = absurd (omega arith)
chunk_is t d (suc n) zero low = refl
chunk_is t d (suc n) (suc i) low =
    chunk_is (drop size t) d n i (omega arith)
    ∙ ap (take size) (drop-drop (i * size) size t ∙ ap (λ (k : ℕ). drop k t) (omega arith))

front_entry : (t : List ℕ) (at : ℕ) → entry_at (take size (drop at t)) 0 ≡ entry_at t at
front_entry t at =
    let one : (j : ℕ) → ltb j size ≡ true → get_or (take size (drop at t)) j 0 ≡ get_or t (at + j) 0 =
    λ j low. get_or-take size (drop at t) j 0 (omega (arith, ltb-true j size low)) ∙ get_or-drop at t j 0 in
    simp (one, zero-add, add-zero)

-- the i-th of the first chunks has the numbers of the i-th entry
pub chunk_entry :
    (t d : List ℕ) (chunks : List (List ℕ)) (count i : ℕ) → chunks ≡ first_chunks size (length t / size) t → length chunks ≡ length t / size
    → i < length (take count chunks) → entry_at (get_or (take count chunks) i d) 0 ≡ entry_at t (i * size)
chunk_entry t d chunks count i e long low =
    ap (λ (l : List ℕ). entry_at l 0)
    (get_or-take count chunks i d (omega (arith, low, length-take count chunks)) ∙ ap (λ (l : List (List ℕ)). get_or l i d) e ∙ chunk_is t d (length t / size) i (omega (arith, long, low, length-take count chunks)))
    ∙ front_entry t (i * size)

-- one record more
pub records_next :
    (t : List ℕ) (old now : List Entry) (i : ℕ) (e : Entry) → now ≡ records_of t i old → e ≡ entry_at t (i * size) → set now i e ≡ records_of t (i + 1) old
unfolding records_of
records_next t old now i e is entry =
    ap₂ (λ (l : List Entry) (x : Entry). set l i x) is entry ∙ ap (λ (k : ℕ). records_of t k old) (sym (add-one i))

-- ### The records are the entries of the table, in its order, and the rest is as it was

module _ (es : List Entry) (rest : List ℕ) (old : List Entry) (room : length es ≤ length old) where
  records_front : (k : ℕ) → k ≤ length es → records_of (numbers es ++ rest) k old ≡ take k es ++ drop k old
  unfolding records_of
  records_front zero h = refl
  records_front (suc k) h =
      let t = numbers es ++ rest in
      let l = records_of t k old in
      let e = entry_at t (k * size) in
      let front = records_front k (omega arith) in
      let some = length-take-le k es (omega arith) in
      let low : k < length l = omega (arith, records_length t k old) in
      let behind : drop (suc k) l ≡ drop (suc k) old =
      drop_more l old k (suc k) (omega arith) (ap (drop k) front ∙ drop_at (take k es) (drop k old) k some) in
      set_split l k e low
      ∙ ap₂ (λ (a b : List Entry). a ++ e ∷ b) (ap (take k) front ∙ take_at (take k es) (drop k old) k some) behind
      ∙ ap (λ (x : Entry). take k es ++ x ∷ drop (suc k) old) (entry_is es rest k e (omega arith))
      ∙ sym (append_snoc (take k es) (get_or es k e) (drop (suc k) old))
      ∙ ap (λ (a : List Entry). a ++ drop (suc k) old) (sym (take-suc es k e (omega arith)))

  pub records_are : records_of (numbers es ++ rest) (length es) old ≡ es ++ drop (length es) old
  records_are = records_front (length es) (omega arith) ∙ ap (λ (a : List Entry). a ++ drop (length es) old) (take-length es)

-- of a table in which entries were written: as many as it reaches
pub records_written :
    (es : List Entry) (t : List ℕ) (old : List Entry) → let kept = take (length t / size) es in
    length kept ≤ length old → records_of (write t 0 es) (length kept) old ≡ kept ++ drop (length kept) old
records_written es t old room =
    let kept = take (length t / size) es in
    ap (λ (x : List ℕ). records_of x (length kept) old) (write_all es t) ∙ records_are kept (drop (size * length kept) t) old room
