-- What the definitions promise, in the document's words: a stream means as many bytes as its plane has, or is refused by 21, 22 or 23 at
-- a place of its own; a good answer writes exactly the plane and keeps the rest; any other writes nothing.
use mathlib.Core.Path.{◌≡◌, sym, ap, ◌∙◌, subst}
use mathlib.Core.List.{List}
use Prim.Native.Nat.{ℕ, zero, suc, ◌+◌, ◌-◌, ◌<◌, ◌≤◌}
use native.Mathlib.Omega.{arith}
use borrow.Author.Tests.{le-ltb, ltb-false, eqb-true}
use lib.ListN.{length, drop, length-append, length-drop}
use Rattle.packet.specs.declared.Packet.{Packet}
use Rattle.laws.specs.Lists.{part}
use Rattle.packet.specs.Stream.{Look, size_of, count_of, bytes_of, Outcome, bytes, refused, join, meant, meaning_with, meaning}
use Rattle.laws.specs.Results.{Result}
use Rattle.packet.specs.declared.told.Plane.{Plane}
use Rattle.packet.specs.Reading.{refusal, untouched, filled, verdict, laid, unpacked, plane_read}
use Rattle.laws.proofs.Choice.{pick_no, pick_ind}
use Rattle.laws.proofs.Part.{part_length}
use Rattle.packet.proofs.Stream.{Inside, inside_of, Shown, ended, count_128, missing, too_much, next, shown}

-- the outcome of a stream from a place to its end, where the plane has so many bytes left
pub data Right (at end left : ℕ) : Outcome → Type 0 where
  given : {xs : List ℕ} → length xs ≡ left → Right at end left (bytes xs)
  stopped : (number place : ℕ) → 21 ≤ number → number ≤ 23 → at ≤ place → place ≤ end → Right at end left (refused number place)

-- bytes in front of an outcome further on
right_join :
    (at after end left n : ℕ) (front : List ℕ) → at ≤ after → n ≤ left → length front ≡ n → {o : Outcome} → Right after end (left - n) o
    → Right at end left (join front o)
right_join at after end left n front on room len (given {xs} e) = given (length-append front xs ∙ omega arith)
right_join at after end left n front on room len (stopped number place low high from to) = stopped number place low high (omega arith) to

right_meant :
    (more : Packet → Outcome) (s : List ℕ) (at left : ℕ)
    → ((p : Packet) → Inside s left p → Right (at + size_of p) (at + length s) (left - count_of p) (more p))
    → {k : Look} → Shown s left k → Right at (at + length s) left (meant more s at k)
right_meant more s at left on (ended nil full) = given (sym full)
right_meant more s at left on count_128 = stopped 21 at (omega arith) (omega arith) (omega arith) (omega arith)
right_meant more s at left on missing = stopped 22 at (omega arith) (omega arith) (omega arith) (omega arith)
right_meant more s at left on too_much = stopped 23 at (omega arith) (omega arith) (omega arith) (omega arith)
right_meant more s at left on (next {q} st) =
    let i = inside_of st in
    right_join at (at + size_of q) (at + length s) left (count_of q) (bytes_of q s) (omega arith) i.room i.gives (on q i)

right_with : (f : ℕ) (s : List ℕ) (at left : ℕ) → length s < f → Right at (at + length s) left (meaning_with f s at left)
unfolding meaning_with
right_with zero s at left h = absurd (omega arith)
right_with (suc f) s at left h =
    right_meant _ s at left
    (λ p i.
    let len : length (drop (size_of p) s) ≡ length s - size_of p = length-drop (size_of p) s in
    let end : at + size_of p + length (drop (size_of p) s) ≡ at + length s = omega (arith, i.present) in
    subst (λ (n : ℕ). Right (at + size_of p) n (left - count_of p) (meaning_with f (drop (size_of p) s) (at + size_of p) (left - count_of p))) end
    (right_with f (drop (size_of p) s) (at + size_of p) (left - count_of p) (omega (arith, i.present))))
    (shown s left)

-- a stream means as many bytes as its plane has, or is refused by 21, 22 or 23 at a place of its own
pub meaning_right : (s : List ℕ) (plane : ℕ) → Right 0 (length s) plane (meaning s plane)
unfolding meaning
meaning_right s plane =
    subst (λ (n : ℕ). Right 0 n plane (meaning_with (suc (length s)) s 0 plane)) (end (length s)) (right_with (suc (length s)) s 0 plane (omega arith))
  where
    end : (n : ℕ) → 0 + n ≡ n
    end n = omega arith

-- good: all of the stream is read, the plane is written, the rest is kept; otherwise a number from 20 up to the highest is told with 0 bytes,
-- and nothing is written
pub data Honest (highest stored plane : ℕ) (before : List ℕ) : Result Plane → Type 0 where
  whole : (xs : List ℕ) → length xs ≡ plane → plane ≤ length before → Honest highest stored plane before (filled stored plane xs before)
  alone : (number place : ℕ) → 20 ≤ number → number ≤ highest → place ≤ stored → Honest highest stored plane before (record { told = refusal number place; dest = before })

honest_outcome :
    (stored plane : ℕ) (before : List ℕ) → plane ≤ length before → {o : Outcome} → Right 0 stored plane o
    → Honest 23 stored plane before (record { told = verdict stored plane o; dest = laid plane before o })
honest_outcome stored plane before room (given {xs} e) = whole xs e room
honest_outcome stored plane before room (stopped number place low high from to) = alone number place (omega arith) (omega arith) to

pub unpacked_honest : (s : List ℕ) (plane : ℕ) (before : List ℕ) → Honest 23 (length s) plane before (unpacked s plane before)
unfolding unpacked
unpacked_honest s plane before =
    pick_ind (Honest 23 (length s) plane before) _ _ _ (λ _. alone 20 0 (omega arith) (omega arith) (omega arith))
    (λ room. honest_outcome (length s) plane before (ltb-false _ _ room) (meaning_right s plane))

honest_more : {low high stored plane : ℕ} {before : List ℕ} {r : Result Plane} → low ≤ high → Honest low stored plane before r → Honest high stored plane before r
honest_more le (whole xs e room) = whole xs e room
honest_more le (alone number place from to at) = alone number place from (omega arith) at

pub plane_honest :
    (input : List ℕ) (start stored plane code : ℕ) (before : List ℕ) → Honest 27 stored plane before (plane_read input start stored plane code before)
unfolding plane_read
plane_honest input start stored plane code before =
    let H = Honest 27 stored plane before in
    let no : (number : ℕ) → 20 ≤ number → number ≤ 27 → H (untouched number before) = λ number low high. alone number 0 low high (omega arith) in
    pick_ind H _ _ _ (λ _. no 24 (omega arith) (omega arith)) (λ _.
    pick_ind H _ _ _ (λ _. no 26 (omega arith) (omega arith)) (λ _.
    pick_ind H _ _ _ (λ _. no 27 (omega arith) (omega arith)) (λ there.
    let len : length (part input start stored) ≡ stored = part_length input start stored (ltb-false _ _ there) in
    pick_ind H _ _ _ (λ _. no 20 (omega arith) (omega arith)) (λ room.
    pick_ind H _ _ _ (λ _. subst (λ (n : ℕ). Honest 27 n plane before (unpacked (part input start stored) plane before)) len (honest_more (omega arith) (unpacked_honest (part input start stored) plane before))) (λ _.
    pick_ind H _ _ _ (λ e. whole (part input start stored) (len ∙ eqb-true stored plane e) (ltb-false _ _ room)) (λ _.
    no 25 (omega arith) (omega arith)))))))

-- ### Bytes that are meant are left

pub unpacked_bytes :
    (s : List ℕ) (plane : ℕ) (xs before : List ℕ) → meaning s plane ≡ bytes xs → plane ≤ length before
    → unpacked s plane before ≡ filled (length s) plane xs before
unfolding unpacked
unpacked_bytes s plane xs before means room =
    pick_no _ _ _ (le-ltb (length before) plane room)
    ∙ ap (λ (o : Outcome). record { told = verdict (length s) plane o; dest = laid plane before o }) means
