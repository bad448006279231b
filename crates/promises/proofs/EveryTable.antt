-- The table of any listing can be saved: each entry owns its block's header at least, and lies inside the input, so within the input's limit
-- there are fewer than a saved table can count.
use mathlib.Core.Logic.{◌⊎◌, inl, inr}
use mathlib.Core.Path.{◌≡◌, ap, subst⁻¹}
use mathlib.Core.Bool.{true}
use mathlib.Core.List.{List}
use Prim.Native.Nat.{ℕ, suc, ◌+◌, ◌*◌, ◌≤◌, ◌<◌}
use native.Mathlib.Omega.{arith}
use lib.ListN.{length, get_or}
use Rattle.laws.proofs.Tests.{yes_or_no, less_or_not}
use Rattle.laws.specs.Results.{Result}
use Rattle.answer.specs.Answers.{is_accepted}
use Rattle.entry.specs.declared.Entry.{Entry}
use Rattle.entry.specs.Entry.{numbers, nowhere}
use Rattle.entry.proofs.Table.{numbers_length}
use Rattle.saved.specs.declared.writer.Saved.{Saved}
use Rattle.saved.specs.Saved.{entries_in, version_of, writes}
use Rattle.saved.specs.Kept.{largest}
use Rattle.saved.proofs.Tests.{write_no_room, write_whole}
use Rattle.walk.specs.Walk.{Leaf, Nest, Listing}
use Rattle.walk.specs.Invariant.{Family}
use Rattle.walk.specs.Promised.{Tiles, none, next}
use Rattle.walk.specs.Room.{cut}
use Rattle.walk.proofs.Invariant.{cut_each}
use Rattle.headers.specs.BlockHeader.{block_header_size}
use Rattle.headers.specs.FileHeader.{file_header_size}
use Rattle.memory.specs.declared.state.State.{State}
use Rattle.memory.specs.Parent.{main}
use Rattle.memory.specs.State.{start}
use Rattle.block.specs.Step.{step_at}
use Rattle.block.proofs.Owed.{moves}
use Rattle.block.proofs.Stepped.{Stepped, leafed, nested, an_image, a_palette, a_channel, a_skip, a_bank, a_layer, a_selection, an_alpha_bank, an_alpha}
use Rattle.listing.specs.Listing.{head_of, beyond, listed}
use Rattle.listing.proofs.Heads.{behind_head, good_small, refused_empty}
use Rattle.listing.proofs.StateMeaning.{looked}
use Rattle.listing.proofs.Tiled.{found_before}

-- ### An entry owns a header and more, inside the input

pub record Wide (s : List ℕ) (e : Entry) : Type 0 where
  pub least : block_header_size ≤ e.block.owned
  pub inside : e.block.place + e.block.owned ≤ length s

leaf_least : {s : List ℕ} {st q : State} {at end levels next : ℕ} {e : Entry} → Stepped s st at end levels (Leaf e next q) → at + block_header_size ≤ next
leaf_least (leafed h (an_image i)) = omega (arith, i.goes_on)
leaf_least (leafed h (a_palette i)) = omega (arith, i.goes_on)
leaf_least (leafed h (a_channel i)) = omega (arith, i.goes_on)
leaf_least (leafed h (a_skip i)) = omega (arith, i.goes_on)

nest_least :
    {s : List ℕ} {st q : State} {at end levels inside after : ℕ} {e : Entry} → Stepped s st at end levels (Nest e inside q after) → at + block_header_size ≤ inside
nest_least (nested h (a_bank i)) = omega (arith, i.opens.enters)
nest_least (nested h (a_layer i)) = omega (arith, i.opens.enters)
nest_least (nested h (a_selection i)) = omega (arith, i.opens.enters)
nest_least (nested h (an_alpha_bank i)) = omega (arith, i.opens.enters)
nest_least (nested h (an_alpha i)) = omega (arith, i.opens.enters)

abbrev Anything : Family State
Anything levels at es st = Unit

module _ (s : List ℕ) (room : ℕ) where
  abbrev es : List Entry
  es = (listed s room).entries

  each_wide : is_accepted (head_of s).answer ≡ true → (k : ℕ) (d : Entry) → k < length es → Wide s (get_or es k d)
  each_wide good =
      subst⁻¹ (λ (w : Listing State). let found = (cut room w).entries in (k : ℕ) (d : Entry) → k < length found → Wide s (get_or found k d)) (behind_head s good)
      (cut_each main (length s) (step_at s) (moves s) Anything
      (record { leaf = λ low o is h. tt; nest = λ low o is h. tt; out = λ deep low is h. tt }) start file_header_size beyond main (omega arith) (omega arith) tt
      (λ before e. Wide s e)
      (record {
        leaf = λ low o is h. record {
          least = omega (arith, leaf_least (looked s low is), o.place, o.owned);
          inside = omega (arith, o.place, o.owned, o.present);
        };
        nest = λ low o is h. record {
          least = omega (arith, nest_least (looked s low is), o.owns.place, o.owns.owned);
          inside = omega (arith, o.owns.place, o.owns.owned, o.owns.present);
        };
      }) room)

-- ### So there are few

tiles_few :
    {s : List ℕ} {a b : ℕ} {es : List Entry} → Tiles a es b → ((k : ℕ) (d : Entry) → k < length es → Wide s (get_or es k d)) → a ≤ length s
    → a + block_header_size * length es ≤ length s
tiles_few none wide low = omega arith
tiles_few (next {e} h t) wide low =
    let this = wide 0 nowhere (omega arith) in
    let rest = tiles_few t (λ k d inside. wide (suc k) d (omega arith)) (omega (arith, this.inside)) in
    omega (arith, this.least)

few : {s : List ℕ} {a b : ℕ} {es : List Entry} → Tiles a es b → ((k : ℕ) (d : Entry) → k < length es → Wide s (get_or es k d)) → block_header_size * length es ≤ length s
few none wide = omega arith
few (next h t) wide =
    let this = wide 0 nowhere (omega arith) in
    omega (arith, tiles_few (next h t) wide (omega (arith, h, this.inside)))

pub table_fits : (s : List ℕ) (room : ℕ) → length (listed s room).entries ≤ largest
table_fits s room =
    yes_or_no (is_accepted (head_of s).answer)
    (λ good. omega (arith, few (found_before s room good).tiles (each_wide s room good), good_small s good))
    (λ bad. omega (arith, ap length (refused_empty s room bad)))

-- 70 is never said of it
pub table_saved : (s : List ℕ) (room : ℕ) (dest : List ℕ) → (writes (numbers (listed s room).entries) dest).told.number ≡ 70 → ⊥
table_saved s room dest seventy = by (less_or_not (length dest) (9 + 56 * entries_in table))
  where
    table : List ℕ
    table = numbers (listed s room).entries

    fits : entries_in table ≤ largest
    fits = omega (arith, numbers_length (listed s room).entries, table_fits s room)

    by : (length dest < 9 + 56 * entries_in table) ⊎ (9 + 56 * entries_in table ≤ length dest) → ⊥
    by (inl short) = omega (arith, seventy, ap (λ (w : Result Saved). w.told.number) (write_no_room (version_of table) table dest fits short))
    by (inr space) = omega (arith, seventy, ap (λ (w : Result Saved). w.told.number) (write_whole (version_of table) table dest fits space))
