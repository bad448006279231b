-- The version of a table, by the sides of its entries.
use mathlib.Core.Bool.{Bool, false, ◌||◌}
use mathlib.Core.Logic.{◌⊎◌, inl, inr}
use mathlib.Core.Path.{◌≡◌, refl, sym, ap, ap₂, subst, ◌∙◌}
use mathlib.Core.List.{List}
use Prim.Native.Nat.{ℕ, zero, suc, ◌+◌, ◌*◌, ◌≤◌, ◌<◌}
use native.Mathlib.Numerals.{add-one}
use native.Mathlib.Omega.{arith}
use borrow.Author.Tests.{le-ltb, ltb-false}
use lib.Dec.{ltb}
use lib.ListN.{get_or}
use lib.Seq.{get_or-take}
use Rattle.laws.specs.Choice.{pick}
use Rattle.laws.proofs.Choice.{pick_yes, pick_no}
use Rattle.laws.proofs.Tests.{neither, less_or_not, yes_or_no}
use Rattle.rect.specs.declared.planes.Size.{Size}
use Rattle.entry.specs.Entry.{size, entry_at}
use Rattle.saved.specs.Saved.{entries_in, numbers_in, old_side, is_large, any_large, version_of}
use Rattle.saved.specs.Earlier.{Narrow, Small}
use Rattle.saved.proofs.Form.{numbers_length}

-- ### Entry by entry

pub any_none : (table : List ℕ) → false ≡ any_large 0 table
unfolding any_large
any_none table = refl

-- one entry more
pub any_next :
    (table : List ℕ) (n w h : ℕ) (large more : Bool) → large ≡ any_large n table → more ≡ (ltb old_side w || ltb old_side h)
    → w ≡ get_or table (n * size + 10) 0 → h ≡ get_or table (n * size + 11) 0 → (large || more) ≡ any_large (n + 1) table
unfolding any_large
any_next table n w h large more e f wide high =
    ap₂ ◌||◌ e (f ∙ ap₂ (λ (x y : ℕ). ltb old_side x || ltb old_side y) wide high) ∙ ap (λ (k : ℕ). any_large k table) (sym (add-one n))

-- all of them
pub any_all :
    (table : List ℕ) (n i : ℕ) (large : Bool) → n ≡ entries_in table → n ≤ i → i ≤ n → large ≡ any_large i table → pick large 2 1 ≡ version_of table
any_all table n i large e low high is = ap (λ (b : Bool). pick b 2 1) (is ∙ ap (λ (k : ℕ). any_large k table) (omega arith))

-- ### Small tables

narrow_not : (s : Size) → Narrow s → is_large s ≡ false
narrow_not s h = rw (le-ltb old_side s.width h.width, le-ltb old_side s.height h.height) refl

not_narrow : (s : Size) → is_large s ≡ false → Narrow s
not_narrow s h =
    let sides = neither (ltb old_side s.width) (ltb old_side s.height) h in
    record { width = ltb-false old_side s.width sides.0; height = ltb-false old_side s.height sides.1 }

-- of the first n entries
module _ (table : List ℕ) where
  abbrev AllNarrow : ℕ → Type 0
  AllNarrow n = (k : ℕ) → k < n → Narrow (entry_at table (k * size)).size

  none_large : (n : ℕ) → AllNarrow n → any_large n table ≡ false
  unfolding any_large
  none_large zero h = refl
  none_large (suc n) h = rw (none_large n (λ k low. h k (omega arith)), narrow_not (entry_at table (n * size)).size (h n (omega arith))) refl

  not_large : (n : ℕ) → any_large n table ≡ false → AllNarrow n
  unfolding any_large
  not_large zero h k low = absurd (omega arith)
  not_large (suc n) h k low = by (less_or_not k n) (not_large n sides.0 k)
    where
      sides : (any_large n table ≡ false) × (is_large (entry_at table (n * size)).size ≡ false)
      sides = neither (any_large n table) (is_large (entry_at table (n * size)).size) h

      by : (k < n) ⊎ (n ≤ k) → (k < n → Narrow (entry_at table (k * size)).size) → Narrow (entry_at table (k * size)).size
      by (inl before) first = first before
      by (inr last) first = subst (λ (j : ℕ). Narrow (entry_at table (j * size)).size) (omega arith) (not_narrow _ sides.1)

pub small_version : (table : List ℕ) → Small table → version_of table ≡ 1
small_version table h = pick_no _ 2 1 (none_large table (entries_in table) h)

pub large_version : (table : List ℕ) → (Small table → ⊥) → version_of table ≡ 2
large_version table h =
    pick_yes _ 2 1 (yes_or_no (any_large (entries_in table) table) (λ yes. yes) (λ no. absurd (h (not_large table (entries_in table) no))))

-- ### What is looked at

-- nothing but the first n entries
any_alike : (n : ℕ) (s t : List ℕ) → ((i : ℕ) → i < n * size → get_or s i 0 ≡ get_or t i 0) → any_large n s ≡ any_large n t
unfolding any_large
any_alike zero s t same = refl
any_alike (suc n) s t same =
    ap₂ ◌||◌ (any_alike n s t (λ i low. same i (omega arith)))
    (ap₂ (λ (x y : ℕ). ltb old_side x || ltb old_side y) (same (n * size + 10) (omega arith)) (same (n * size + 11) (omega arith)))

-- so the numbers behind the last whole entry are not
pub version_kept : (table : List ℕ) → version_of (numbers_in table) ≡ version_of table
version_kept table =
    let same : entries_in (numbers_in table) ≡ entries_in table = omega (arith, numbers_length table) in
    ap (λ (b : Bool). pick b 2 1)
    (ap (λ (n : ℕ). any_large n (numbers_in table)) same
    ∙ any_alike (entries_in table) (numbers_in table) table (λ i low. get_or-take (size * entries_in table) table i 0 (omega arith)))
