-- More input: what is listed of a beginning of the input stands in the listing of the whole, and an answer that more input cannot change
-- stands.
use mathlib.Core.Path.{◌≡◌, refl, sym, ap, subst, ◌∙◌}
use mathlib.Core.List.{List, [], ◌∷◌, ◌++◌}
use Prim.Native.Nat.{ℕ, zero, suc, ◌+◌, ◌-◌, ◌≤◌, ◌<◌}
use native.Mathlib.Omega.{arith}
use lib.ListN.{length, drop, length-append}
use lib.Seq.{drop-length}
use Rattle.std.specs.Prelude.{Err}
use Rattle.laws.specs.Front.{Front, front, same}
use Rattle.laws.proofs.Front.{front_refl, front_take}
use Rattle.answer.specs.declared.Refusal.TheVariants.{EndsTooSoon}
use Rattle.answer.specs.Answers.{Answer, Accepted}
use Rattle.answer.specs.declared.Stopped.TheVariants.{Rule}
use Rattle.entry.specs.declared.Entry.{Entry}
use Rattle.walk.specs.Walk.{Step, End, Stop, Leaf, Nest, Look, Listing, Rest, Go, ended, done, ◌◂◌, follow, walk, run, enough}
use Rattle.walk.specs.Owed.{Moves, ends, stops, leaf, nest, MovesOn, Unsure, soon, last, Keeps, alike, unsure, KeepsOn, Rules}
use Rattle.walk.specs.Owed.{Beyond, last_end, refused, leaf_past, nest_past, Waits, stays, waits, WaitsOn, Prompt}
use Rattle.walk.specs.Promised.{Stands}
use Rattle.walk.specs.Room.{Listed, cut}
use Rattle.walk.proofs.Fuel.{run_fuel}
use Rattle.walk.proofs.Cut.{cut_ended, cut_entries, cut_fits, cut_had_room, cut_larger}

-- rules that wait keep
pub waits_keeps : {S : Type 0} {len main levels : ℕ} {k k' : Step S} → Waits len main levels k k' → Keeps main levels k k'
waits_keeps (stays k) = alike k
waits_keeps (waits u b) = unsure u

-- ### The listing without a room

-- no entry, or a first one that owns bytes beyond the first len
pub data Late (len : ℕ) : List Entry → Type 0 where
  nothing : Late len []
  past : {e : Entry} {es : List Entry} → len < e.block.place + e.block.owned → Late len (e ∷ es)

-- of a beginning of len bytes, and of the whole; the entries that only the whole has are late, if the rules are prompt
pub record Later {S : Type 0} (prompt : Type 0) (len : ℕ) (w w' : Listing S) : Type 0 where
  pub entries : Front w.entries w'.entries
  pub settled : (w.answer ≡ Accepted → ⊥) → (w.answer ≡ Err (Rule EndsTooSoon) → ⊥) → w ≡ w'
  pub late : prompt → Late len (drop (length w.entries) w'.entries)

module _ {S : Type 0} (prompt : Type 0) (main len len' : ℕ) (nested : 0 < main) where
  later_refl : (w : Listing S) → Later prompt len w w
  later_refl w = record {
    entries = front_refl w.entries;
    settled = λ _ _. refl;
    late = λ _. subst (Late len) (sym (drop-length w.entries)) nothing;
  }

  step_later : {w w' : Listing S} (e : Entry) → Later prompt len w w' → Later prompt len (e ◂ w) (e ◂ w')
  step_later e l = record { entries = same l.entries; settled = λ a b. ap (e ◂◌) (l.settled a b); late = l.late }

  -- what the main level's end is: accepted, with nothing after it
  abbrev Top : ℕ → Rest S → Type 0
  Top levels rest = levels ≡ main → (p : ℕ) (x : S) → rest p x ≡ done p x

  wait_past : {levels : ℕ} {j k : Step S} → Unsure main levels j → Waits len main levels j k → Beyond len main levels k
  wait_past soon (stays k) = refused
  wait_past (last e) (stays k) = last_end e
  wait_past u (waits v b) = b

  follow_late :
      (go : Go S) (st : S) (at end levels : ℕ) (rest : Rest S) → Top levels rest
      → {k : Step S} → Moves len' main at end levels k → Beyond len main levels k → Late len (follow go st at end levels rest k).entries
  unfolding follow
  follow_late go st at end levels rest top (ends m) (last_end e) = rw (top e at st) nothing
  follow_late go st at end levels rest top (stops m) refused = nothing
  follow_late go st at end levels rest top (leaf {e} m) (leaf_past h) = let far : len < e.block.place + e.block.owned = omega (arith, m.place, m.owned) in past far
  follow_late go st at end levels rest top (nest {e} m) (nest_past h) =
      let far : len < e.block.place + e.block.owned = omega (arith, m.owns.place, m.owns.owned) in past far

  follow_later :
      (go go' : Go S) (st : S) (at end levels : ℕ) (rest rest' : Rest S)
      → ((q : S) (a b l : ℕ) (r r' : Rest S) → a ≤ b → l ≤ main → Top l r → Top l r' → ((p : ℕ) (x : S) → Later prompt len (r p x) (r' p x))
      → Later prompt len (go q a b l r) (go' q a b l r'))
      → levels ≤ main → Top levels rest → Top levels rest' → ((p : ℕ) (x : S) → Later prompt len (rest p x) (rest' p x))
      → {k k' : Step S} → Keeps main levels k k' → Moves len main at end levels k → Moves len' main at end levels k' → (prompt → Waits len main levels k k')
      → Later prompt len (follow go st at end levels rest k) (follow go' st at end levels rest' k')
  unfolding follow
  follow_later go go' st at end levels rest rest' ih low top top' on (alike End) m m' waiting = on at st
  follow_later go go' st at end levels rest rest' ih low top top' on (alike (Stop r p)) m m' waiting = later_refl _
  follow_later go go' st at end levels rest rest' ih low top top' on (alike (Leaf e next q)) (leaf m) m' waiting =
      step_later e (ih q next end levels rest rest' m.within low top top' on)
  follow_later go go' st at end levels rest rest' ih low top top' on (alike (Nest e inside q after)) (nest m) m' waiting =
      step_later e (ih q inside after (levels - 1) _ _ m.order (omega arith) (λ z. absurd (omega arith)) (λ z. absurd (omega arith))
      (λ p left. ih left after end levels rest rest' m.within low top top' on))
  follow_later go go' st at end levels rest rest' ih low top top' on (unsure soon) m m' waiting =
      record { entries = front; settled = λ _ b. absurd (b refl); late = λ b. follow_late go' st at end levels rest' top' m' (wait_past soon (waiting b)) }
  follow_later go go' st at end levels rest rest' ih low top top' on (unsure (last e)) m m' waiting =
      rw (top e at st)
      (record { entries = front; settled = λ a _. absurd (a refl); late = λ b. follow_late go' st at end levels rest' top' m' (wait_past (last e) (waiting b)) })

  module _
      (look look' : Look S) (moves : MovesOn main len look) (moves' : MovesOn main len' look')
      (keeps : KeepsOn main look look') (waiting : prompt → WaitsOn main len look look') where
    walk_later :
        (f : ℕ) (st : S) (at end levels : ℕ) (rest rest' : Rest S) → at ≤ end → levels ≤ main
        → Top levels rest → Top levels rest' → ((p : ℕ) (x : S) → Later prompt len (rest p x) (rest' p x))
        → Later prompt len (walk look f st at end levels rest) (walk look' f st at end levels rest')
    unfolding walk
    walk_later zero st at end levels rest rest' order low top top' on = later_refl _
    walk_later (suc f) st at end levels rest rest' order low top top' on =
        follow_later (walk look f) (walk look' f) st at end levels rest rest'
        (λ q a b l r r' ord lo t t' h. walk_later f q a b l r r' ord lo t t' h) low top top' on
        (keeps st at end levels order low) (moves st at end levels order low) (moves' st at end levels order low) (λ b. waiting b st at end levels order low)

-- ### Cut to a room, and to one at least as large

cut_later :
    {S : Type 0} {prompt : Type 0} {len : ℕ} {w w' : Listing S} (room more : ℕ) → room ≤ more → Later prompt len w w' → Stands (cut room w) (cut more w')
cut_later {w} {w'} room more le l = record {
  entries = rw (cut_entries room w, cut_entries more w') (front_take l.entries room more le);
  settled = λ a b c.
      let fits = cut_had_room room w c in
      let is : (cut room w).answer ≡ w.answer = ap (λ x. x.answer) (cut_fits room w fits) in
      let e : w ≡ w' = l.settled (λ z. a (is ∙ z)) (λ z. b (is ∙ z)) in
      cut_larger room more w le c ∙ ap (cut more) e;
}

-- ### Before the walk: a listing that ended at once

pub ended_stands : {S : Type 0} (a : Answer) (p : ℕ) (st : S) (room more : ℕ) → Stands (cut room (ended a p st)) (cut more (ended a p st))
ended_stands a p st room more =
    rw (cut_ended room a p st, cut_ended more a p st) (record { entries = front; settled = λ _ _ _. refl })

pub soon_stands : {S : Type 0} (p : ℕ) (st : S) (room : ℕ) (b : Listed) → Stands (cut room (ended (Err (Rule EndsTooSoon)) p st)) b
soon_stands p st room b = rw (cut_ended room (Err (Rule EndsTooSoon)) p st) (record { entries = front; settled = λ _ z _. absurd (z refl) })

-- ### The listing

module _ {S : Type 0} (main : ℕ) (look : List ℕ → Look S) (rules : Rules main look) (s t : List ℕ) (st : S) (at end : ℕ) (order : at ≤ end) where
  pub run_later : Later (Prompt main look) (length s) (run (look s) (length s) st at end main) (run (look (s ++ t)) (length (s ++ t)) st at end main)
  unfolding run
  run_later =
      let long = enough (length (s ++ t)) at in
      subst (λ (w : Listing S). Later (Prompt main look) (length s) w (walk (look (s ++ t)) long st at end main done))
      (run_fuel main (length s) (look s) (rules.moves s) long st at end main (omega (arith, length-append s t)) order (omega arith))
      (walk_later (Prompt main look) main (length s) (length (s ++ t)) rules.nested (look s) (look (s ++ t)) (rules.moves s) (rules.moves (s ++ t))
      (rules.keeps s t) (λ b. b.waiting s t) long st at end main done done order (omega arith) (λ _ p x. refl) (λ _ p x. refl)
      (λ p x. later_refl (Prompt main look) main (length s) (length (s ++ t)) rules.nested _))

  pub prefix :
      (room more : ℕ) → room ≤ more
      → Stands (cut room (run (look s) (length s) st at end main)) (cut more (run (look (s ++ t)) (length (s ++ t)) st at end main))
  prefix room more le = cut_later room more le run_later
