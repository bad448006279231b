-- Later bytes have no say in earlier entries: of two inputs with a common beginning, what is listed of one, and lies in the beginning, is
-- listed of the other at the same position.
use mathlib.Core.Path.{◌≡◌, sym, ap, subst, ◌∙◌}
use mathlib.Core.Logic.{⊎_elim}
use mathlib.Core.List.{List, ◌++◌}
use Prim.Native.Nat.{ℕ, ◌+◌, ◌-◌, ◌≤◌, ◌<◌}
use native.Mathlib.Omega.{arith}
use lib.ListN.{length, take, get_or, length-take, length-drop}
use lib.Seq.{get_or-take, get_or-drop}
use Rattle.laws.specs.All.{All, empty, both}
use Rattle.laws.proofs.All.{all_at}
use Rattle.laws.proofs.Front.{front_length, front_at}
use Rattle.laws.proofs.Tests.{less_or_not}
use Rattle.entry.specs.declared.Entry.{Entry}
use Rattle.walk.specs.Walk.{Look, run}
use Rattle.walk.specs.Room.{cut}
use Rattle.walk.specs.Owed.{Rules, Prompt}
use Rattle.walk.specs.Promised.{Tiles, none, next}
use Rattle.walk.proofs.Cut.{cut_entries}
use Rattle.walk.proofs.Tiling.{tiles_drop, tiles_above, run_found}
use Rattle.walk.proofs.Prefix.{Late, nothing, past, run_later, prefix}

abbrev Past : ℕ → Entry → Type 0
Past len e = len < e.block.place + e.block.owned

-- entries side by side are late from a late one on
late_all : {len a b : ℕ} {es : List Entry} → Tiles a es b → Late len es → All (Past len) es
late_all none nothing = empty
late_all {len} (next {a} {e} h t) (past far) = both far (above (tiles_above (a + e.block.owned) (omega arith) t))
  where
    above : {es : List Entry} → All (λ (x : Entry). a + e.block.owned ≤ x.block.place) es → All (Past len) es
    above empty = empty
    above (both {x} k rest) = let on : Past len x = omega arith in both on (above rest)

module _ {S : Type 0} (main : ℕ) (look : List ℕ → Look S) (rules : Rules main look) (prompt : Prompt main look) (st : S) (at end : ℕ) (order : at ≤ end) where
  abbrev all : List ℕ → List Entry
  all s = (run (look s) (length s) st at end main).entries

  abbrev listed : ℕ → List ℕ → List Entry
  listed room s = (cut room (run (look s) (length s) st at end main)).entries

  -- what the whole lists after all that its beginning s lists lies beyond s
  beyond : (s t : List ℕ) (k : ℕ) (d : Entry) → length (all s) ≤ k → k < length (all (s ++ t)) → Past (length s) (get_or (all (s ++ t)) k d)
  beyond s t k d low high =
      let n = length (all s) in
      let tiles = (run_found main (length (s ++ t)) (look (s ++ t)) (rules.moves (s ++ t)) st at end main order (omega arith)).tiles in
      let late = (run_later main look rules s t st at end order).late prompt in
      let here : n + (k - n) ≡ k = omega arith in
      subst (Past (length s)) (get_or-drop n (all (s ++ t)) (k - n) d ∙ ap (λ (i : ℕ). get_or (all (s ++ t)) i d) here)
      (all_at (late_all (tiles_drop tiles n).1 late) (k - n) d (omega (arith, length-drop n (all (s ++ t)))))

  -- an entry of the whole that lies in its beginning s is listed of s
  early :
      (room : ℕ) (s t : List ℕ) (k : ℕ) (d : Entry) → k < length (listed room (s ++ t))
      → (get_or (listed room (s ++ t)) k d).block.place + (get_or (listed room (s ++ t)) k d).block.owned ≤ length s → k < length (listed room s)
  early room s t k d =
      rw (cut_entries room (run (look s) (length s) st at end main), cut_entries room (run (look (s ++ t)) (length (s ++ t)) st at end main))
      (λ high inside.
      ⊎_elim (λ h. h) (λ low.
      let fits : k < room = omega (arith, length-take room (all (s ++ t))) in
      let far = beyond s t k d (omega (arith, length-take room (all s))) (omega (arith, length-take room (all (s ++ t)))) in
      let is : get_or (take room (all (s ++ t))) k d ≡ get_or (all (s ++ t)) k d = get_or-take room (all (s ++ t)) k d fits in
      absurd (omega (arith, far, ap (λ (e : Entry). e.block.place + e.block.owned) is))) (less_or_not k (length (take room (all s)))))

  -- two inputs that begin with s
  pub agree :
      (room : ℕ) (s t t' : List ℕ) (k : ℕ) (d : Entry) → k < length (listed room (s ++ t))
      → (get_or (listed room (s ++ t)) k d).block.place + (get_or (listed room (s ++ t)) k d).block.owned ≤ length s
      → (k < length (listed room (s ++ t'))) × (get_or (listed room (s ++ t')) k d ≡ get_or (listed room (s ++ t)) k d)
  agree room s t t' k d high inside =
      let low = early room s t k d high inside in
      let front = (prefix main look rules s t st at end order room room (omega arith)).entries in
      let front' = (prefix main look rules s t' st at end order room room (omega arith)).entries in
      (omega (arith, front_length front'), front_at front' k d low ∙ sym (front_at front k d low))
