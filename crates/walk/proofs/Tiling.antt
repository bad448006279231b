-- Bytes owned, so that no byte is left out or told twice: the entries of any listing lie side by side, up to a place at or before its
-- answer's; those of an accepted one reach the input's end.
use mathlib.Core.Path.{◌≡◌, refl, sym, subst}
use mathlib.Core.List.{List, [], ◌∷◌, ◌++◌}
use Prim.Native.Nat.{ℕ, zero, suc, ◌+◌, ◌≤◌, ◌<◌}
use native.Mathlib.Omega.{arith}
use lib.ListN.{length, drop, get_or}
use Rattle.std.specs.Prelude.{Err}
use Rattle.laws.specs.All.{All, empty, both}
use Rattle.laws.proofs.All.{all_at}
use Rattle.answer.specs.Answers.{Answer, Accepted}
use Rattle.answer.specs.declared.Stopped.TheVariants.{TableFull}
use Rattle.answer.proofs.Names.{not_accepted}
use Rattle.entry.specs.declared.Entry.{Entry}
use Rattle.walk.specs.Walk.{Step, Look, run}
use Rattle.walk.specs.Room.{Listed, cut}
use Rattle.walk.specs.Owed.{Moves, stops, MovesOn}
use Rattle.walk.specs.Promised.{Tiles, none, next, total, Found, Full}
use Rattle.walk.specs.Course.{Stand, stand, Course, Says, at_end, by_rule}
use Rattle.walk.specs.Invariant.{Family, Invariant}
use Rattle.walk.proofs.Cut.{plain, cut_case, cut_table_full}
use Rattle.walk.proofs.Course.{Led, fits, moved, run_led}
use Rattle.walk.proofs.Invariant.{course_keeps, cut_finished}

-- ### Entries side by side

pub tiles_total : {a b : ℕ} {es : List Entry} → Tiles a es b → a + total es ≡ b
unfolding total
tiles_total none = omega arith
tiles_total (next h t) = omega (arith, tiles_total t)

tiles_more : {a b c : ℕ} {es : List Entry} (e : Entry) → Tiles a es b → e.block.place ≡ b → b + e.block.owned ≡ c → Tiles a (es ++ e ∷ []) c
tiles_more {b} e none h is = next h (subst (Tiles (b + e.block.owned) []) is none)
tiles_more e (next k t) h is = next k (tiles_more e t h is)

-- up to the header of any of them
tiles_before : {a c : ℕ} (es : List Entry) (e : Entry) (more : List Entry) → Tiles a (es ++ e ∷ more) c → Tiles a es e.block.place
tiles_before [] e more (next h t) = subst (λ (a : ℕ). Tiles a [] e.block.place) h none
tiles_before {a} (x ∷ es) e more (next h t) = next h (tiles_before {a = a + x.block.owned} es e more t)

pub tiles_drop : {a b : ℕ} {es : List Entry} → Tiles a es b → (n : ℕ) → (c : ℕ) × Tiles c (drop n es) b
tiles_drop {a} t zero = (a, t)
tiles_drop {a} none (suc n) = (a, none)
tiles_drop {a} (next {e} h t) (suc n) = tiles_drop {a = a + e.block.owned} t n

-- none of them lies before their beginning
pub tiles_above : {a b : ℕ} {es : List Entry} (m : ℕ) → m ≤ a → Tiles a es b → All (λ (e : Entry). m ≤ e.block.place) es
tiles_above m h none = empty
tiles_above m h (next {e} k t) = let low : m ≤ e.block.place = omega arith in both low (tiles_above m (omega arith) t)

-- entries side by side stand one behind another
pub tiles_order :
    {a b : ℕ} {es : List Entry} → Tiles a es b → (i j : ℕ) (d : Entry) → i < j → j < length es
    → (get_or es i d).block.place + (get_or es i d).block.owned ≤ (get_or es j d).block.place
tiles_order none i j d lt inside = absurd (omega arith)
tiles_order (next h t) i zero d lt inside = absurd (omega arith)
tiles_order (next {a} {e} h t) zero (suc j) d lt inside = let above = all_at (tiles_above (a + e.block.owned) (omega arith) t) j d (omega arith) in omega arith
tiles_order (next h t) (suc i) (suc j) d lt inside = tiles_order t i j d (omega arith) (omega arith)

-- where the table is full: up to the answer's place
full_tiles : {a c : ℕ} {all : List Entry} {room : ℕ} {r : Listed} → Tiles a all c → Full all room r → Tiles a r.entries r.place
full_tiles {a} {c} {r} t f =
    subst (Tiles a r.entries) (sym f.place) (tiles_before r.entries f.first f.more (subst (λ (l : List Entry). Tiles a l c) f.is t))

-- ### A walk's

-- a look never says that the table is full, and its place is not before the one looked at
says_place :
    {S : Type 0} {len main at end levels p : ℕ} {a : Answer} {k : Step S}
    → Says at a p k → Moves len main at end levels k → (at ≤ p) × (a ≡ Err TableFull → ⊥)
says_place at_end m = (omega arith, λ z. not_accepted refl (sym z))
says_place by_rule (stops m) = (m, λ z. let never : ◌≡◌ {A = ℕ} 0 1 = cc in omega arith)

module _ {S : Type 0} (main len : ℕ) (look : Look S) (moves : MovesOn main len look) where
  abbrev Tiled : ℕ → Family S
  Tiled a levels at es st = Tiles a es at

  tiled : (a : ℕ) → Invariant main len look (Tiled a)
  tiled a = record {
    leaf = λ {e} low o is t. tiles_more e t o.place o.owned;
    nest = λ {e} low o is t. tiles_more e t o.owns.place o.owns.owned;
    out = λ deep low is t. t;
  }

  module _ (st : S) (at end levels : ℕ) (order : at ≤ end) (low : levels ≤ main) where
    pub course_tiles : {es : List Entry} {x : Stand S} → Course look levels (stand at end [] st) es x → Tiles at es x.at
    course_tiles = course_keeps main len look moves (Tiled at) (tiled at) st at end levels order low none

    led : Led main len look moves levels low st at end order (run look len st at end levels)
    led = run_led main len look moves levels low st at end order

    -- the look that had the walk stop
    last_look : let w = run look len st at end levels in (led.last.at ≤ w.place) × (w.answer ≡ Err TableFull → ⊥)
    last_look = says_place led.says (moved main len look moves levels low st at end order (fits main len look moves levels low st at end order led.course))

    pub run_found : let w = run look len st at end levels in Found at (plain w.answer w.place w.entries)
    run_found = record { upto = led.last.at; tiles = course_tiles led.course; before = last_look.0 }

    pub cut_found : (room : ℕ) → Found at (cut room (run look len st at end levels))
    cut_found room =
        let w = run look len st at end levels in
        cut_case (Found at) room w (λ _. run_found) (λ r _ f. record { upto = r.place; tiles = full_tiles run_found.tiles f; before = omega arith })

    -- where the table is full, the entries reach the header of the first that has no room
    pub cut_full_tiles :
        (room : ℕ)
        → let w = run look len st at end levels in
        (cut room w).answer ≡ Err TableFull → Full w.entries room (cut room w) × Tiles at (cut room w).entries (cut room w).place
    cut_full_tiles room h =
        let f = cut_table_full room (run look len st at end levels) last_look.1 h in (f, full_tiles run_found.tiles f)

  -- a listing that is accepted at the main level reaches the input's end
  module _ (st : S) (at end : ℕ) (order : at ≤ end) where
    pub cut_accepted :
        (room : ℕ) → let r = cut room (run look len st at end main) in r.answer ≡ Accepted → Tiles at r.entries len × (r.place ≡ len)
    cut_accepted room accepted =
        let r = cut room (run look len st at end main) in
        let f = cut_finished main len look moves (Tiled at) (tiled at) st at end main order (omega arith) none room accepted in
        let e = f.ends.whole refl in
        (subst (Tiles at r.entries) e f.holds, e)
