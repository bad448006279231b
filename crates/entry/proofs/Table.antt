-- What a table holds after entries were stored in it.
use mathlib.Core.Path.{◌≡◌, refl, sym, ap, ap₂, ◌∙◌}
use mathlib.Core.List.{List, [], ◌∷◌, ◌++◌, append_assoc}
use Prim.Native.Nat.{ℕ, zero, suc, ◌+◌, ◌*◌, ◌/◌, ◌≤◌, ◌<◌}
use native.Mathlib.Omega.{arith}
use borrow.Author.Tests.{lt-ltb, le-ltb}
use lib.ListN.{length, take, drop, get_or, length-append, length-take}
use lib.Seq.{get_or-append-add}
use Rattle.laws.specs.Lists.{over}
use Rattle.laws.proofs.Choice.{pick_yes, pick_no}
use Rattle.entry.specs.declared.Entry.{Entry}
use Rattle.entry.specs.Entry.{size, numbers_of, entry_at, numbers, stored, keep, write}
use Rattle.laws.proofs.Over.{over_length, over_none, over_front, over_over}

pub numbers_length : (es : List Entry) → length (numbers es) ≡ size * length es
unfolding numbers
numbers_length [] = refl
numbers_length (e ∷ es) = omega (arith, length-append (numbers_of e) (numbers es), numbers_length es)

-- ### One entry

stored_reaches : (t : List ℕ) (i : ℕ) (e : Entry) → i < length t / size → stored t i e ≡ over t (i * size) (numbers_of e)
unfolding stored
stored_reaches t i e h = pick_yes _ _ _ (lt-ltb i (length t / size) h)

stored_past : (t : List ℕ) (i : ℕ) (e : Entry) → length t / size ≤ i → stored t i e ≡ t
unfolding stored
stored_past t i e h = pick_no _ _ _ (le-ltb i (length t / size) h)

-- ### Entries from the i-th on, of which there is place for `left`

write_past : (es : List Entry) (t : List ℕ) (i : ℕ) → length t / size ≤ i → write t i es ≡ t
unfolding keep
write_past [] t i h = refl
write_past (e ∷ es) t i h = ap (λ (x : List ℕ). write x (i + 1) es) (stored_past t i e h) ∙ write_past es t (i + 1) (omega arith)

write_from : (es : List Entry) (t : List ℕ) (i left : ℕ) → i + left ≡ length t / size → write t i es ≡ over t (i * size) (numbers (take left es))
unfolding keep numbers
write_from es t i zero h = write_past es t i (omega arith) ∙ sym (over_none t (i * size))
write_from [] t i (suc left) h = sym (over_none t (i * size))
write_from (e ∷ es) t i (suc left) h =
    let here = stored_reaches t i e (omega arith) in
    let long : length (stored t i e) ≡ length t = ap length here ∙ over_length t (i * size) (numbers_of e) (omega arith) in
    let left_over : i + 1 + left ≡ length (stored t i e) / size = omega arith in
    write_from es (stored t i e) (i + 1) left left_over
    ∙ ap (λ (x : List ℕ). over x ((i + 1) * size) (numbers (take left es))) here
    ∙ over_over t (i * size) ((i + 1) * size) (numbers_of e) (numbers (take left es)) (omega arith) (omega (arith, numbers_length (take left es), length-take left es))

-- ### All entries: in front stand as many as the table reaches, the rest is as it was

pub write_all : (es : List Entry) (t : List ℕ) → let kept = take (length t / size) es in write t 0 es ≡ numbers kept ++ drop (size * length kept) t
write_all es t =
    let kept = take (length t / size) es in
    write_from es t 0 (length t / size) (omega arith) ∙ over_front t (numbers kept) (size * length kept) (numbers_length kept)

-- ### The k-th entry of a table, read back

entry_behind : (e : Entry) (t : List ℕ) (at : ℕ) → entry_at (numbers_of e ++ t) (size + at) ≡ entry_at t at
entry_behind e t at =
    let first : (j : ℕ) → get_or (numbers_of e ++ t) (size + at + j) 0 ≡ get_or t (at + j) 0 =
    λ j. let here : size + at + j ≡ size + (at + j) = omega arith in ap (λ (n : ℕ). get_or (numbers_of e ++ t) n 0) here ∙ get_or-append-add (numbers_of e) t (at + j) 0 in
    simp (get_or-append-add (numbers_of e) t at 0, first)

pub entry_is : (es : List Entry) (rest : List ℕ) (k : ℕ) (d : Entry) → k < length es → entry_at (numbers es ++ rest) (k * size) ≡ get_or es k d
unfolding numbers
entry_is [] rest k d h = absurd (omega arith)
entry_is (e ∷ es) rest zero d h = refl
entry_is (e ∷ es) rest (suc k) d h =
    let there : suc k * size ≡ size + k * size = omega arith in
    ap₂ entry_at (append_assoc (numbers_of e) (numbers es) rest) there
    ∙ entry_behind e (numbers es ++ rest) (k * size)
    ∙ entry_is es rest k d (omega arith)
