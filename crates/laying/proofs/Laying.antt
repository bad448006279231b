-- The second pass over a stream, packet by packet.
use mathlib.Core.Path.{◌≡◌, refl, sym, ap, ◌∙◌, subst}
use mathlib.Core.List.{List, [], ◌++◌, append-nil}
use Prim.Native.Nat.{ℕ, suc, ◌+◌, ◌-◌, ◌<◌, ◌≤◌}
use native.Mathlib.Omega.{arith}
use lib.ListN.{length, take, drop, get_or, replicate, length-drop}
use lib.Seq.{drop-drop, take_all}
use Rattle.packet.specs.declared.Packet.{Packet}
use Rattle.packet.specs.declared.Packet.TheVariants.{Literals, Run}
use Rattle.packet.specs.Stream.{Look, End, Next, Count128, Missing, TooMuch, size_of, count_of, bytes_of, look_of, Outcome, bytes, refused, join, meaning_from, meaning}
use Rattle.packet.specs.Reading.{verdict}
use Rattle.packet.specs.Standing.{ahead}
use Rattle.packet.specs.declared.stand.Stand.{Stand}
use Rattle.packet.proofs.Stream.{Stood, Shown, ended, count_128, missing, too_much, next, shown, onward, meaning_stop, join_join, join_nothing, stood_literals, stood_run}
use Rattle.laying.proofs.Laid.{Ahead}

-- what is written stands in front of what the rest of the stream means; behind it stands whatever blocks have left there
pub record Laying (s : List ℕ) (plane at done : ℕ) (dest : List ℕ) : Type 0 where
  pub within : at ≤ length s
  pub room : done ≤ plane
  pub long : length dest ≡ plane
  pub means : meaning s plane ≡ join (take done dest) (meaning_from (drop at s) at (plane - done))

-- a pass that goes on from a stand, and one that begins
pub laying_at :
    (s : List ℕ) (x : Stand) (dest : List ℕ) → x.stream.now ≡ s → x.plane ≡ length dest → meaning s (length dest) ≡ join (take x.done dest) (ahead x)
    → Laying s (length dest) x.at x.done dest
laying_at s x dest stream full means =
    record {
      within = subst (λ (l : List ℕ). x.at ≤ length l) stream x.within.0;
      room = subst (λ (n : ℕ). x.done ≤ n) full x.within.1;
      long = refl;
      means = means ∙ (λ i. join (take x.done dest) (meaning_from (drop x.at (stream i)) x.at (full i - x.done)));
    }

pub laying_first :
    (s : List ℕ) (x : Stand) (dest : List ℕ) → x.stream.now ≡ s → x.plane ≡ length dest → x.done ≡ 0 → ahead x ≡ meaning s (length dest)
    → Laying s (length dest) x.at x.done dest
laying_first s x dest stream full none all =
    laying_at s x dest stream full (sym (ap (λ (n : ℕ). join (take n dest) (ahead x)) none ∙ join_nothing (ahead x) ∙ all))

-- a stream that is accepted: it is at its end, and its plane is full, or a packet stands there
module _ (s : List ℕ) (stored plane at left : ℕ) (xs : List ℕ) (good : (verdict stored plane (join xs (meaning_from s at left))).number ≡ 0) where
  accepted : (number : ℕ) {X : Type 0} → meaning_from s at left ≡ refused (suc number) at → X
  accepted number e =
      let bad : ◌≡◌ {A = ℕ} 0 (suc number) = sym good ∙ ap (λ (o : Outcome). (verdict stored plane (join xs o)).number) e in
      absurd (omega arith)

  finished : {k : Look} → Shown s left k → look_of s left ≡ k → length s ≡ 0 → (left ≡ 0) × (meaning_from s at left ≡ bytes [])
  finished (ended nil full) e none = (full, meaning_stop s at left End (bytes []) e (λ more. refl))
  finished count_128 e none = accepted 20 (meaning_stop s at left Count128 (refused 21 at) e (λ more. refl))
  finished missing e none = accepted 21 (meaning_stop s at left Missing (refused 22 at) e (λ more. refl))
  finished too_much e none = accepted 22 (meaning_stop s at left TooMuch (refused 23 at) e (λ more. refl))
  finished (next {q} st) e none = absurd (omega (arith, ap length st.is))

  goes_on : {k : Look} → Shown s left k → look_of s left ≡ k → 0 < length s → (q : Packet) × (look_of s left ≡ Next q) × Stood s left q
  goes_on (ended nil full) e some = absurd (omega (arith, ap length nil))
  goes_on count_128 e some = accepted 20 (meaning_stop s at left Count128 (refused 21 at) e (λ more. refl))
  goes_on missing e some = accepted 21 (meaning_stop s at left Missing (refused 22 at) e (λ more. refl))
  goes_on too_much e some = accepted 22 (meaning_stop s at left TooMuch (refused 23 at) e (λ more. refl))
  goes_on (next {q} st) e some = (q, e, st)

module _ {s : List ℕ} {plane at done : ℕ} {dest : List ℕ} (l : Laying s plane at done dest) (good : (verdict (length s) plane (meaning s plane)).number ≡ 0) where
  left_good : (verdict (length s) plane (join (take done dest) (meaning_from (drop at s) at (plane - done)))).number ≡ 0
  left_good = ap (λ (o : Outcome). (verdict (length s) plane o).number) (sym l.means) ∙ good

  -- then dest holds the plane
  pub laying_last : length s ≤ at → meaning s plane ≡ bytes dest
  laying_last end =
      let none : length (drop at s) ≡ 0 = length-drop at s ∙ omega arith in
      let over = finished (drop at s) (length s) plane at (plane - done) (take done dest) left_good (shown (drop at s) (plane - done)) refl none in
      let full : length dest ≤ done = omega (arith, over.0, l.room, l.long) in
      l.means ∙ ap (join (take done dest)) over.1 ∙ ap bytes (append-nil (take done dest) ∙ take_all done dest full)

  module _ (more : at < length s) where
    stands : (q : Packet) × (look_of (drop at s) (plane - done) ≡ Next q) × Stood (drop at s) (plane - done) q
    stands = goes_on (drop at s) (length s) plane at (plane - done) (take done dest) left_good (shown (drop at s) (plane - done)) refl (omega (arith, length-drop at s))

    laying_on :
        (p : Packet) (after : List ℕ) → look_of (drop at s) (plane - done) ≡ Next p → length after ≡ length dest
        → take (done + count_of p) after ≡ take done dest ++ bytes_of p (drop at s) → Laying s plane (at + size_of p) (done + count_of p) after
    laying_on p after e long f =
        let on = onward s at (plane - done) p l.within e in
        let left : plane - done - count_of p ≡ plane - (done + count_of p) = omega arith in
        let rest = meaning_from (drop (at + size_of p) s) (at + size_of p) in
        record {
          within = on.fits;
          room = omega (arith, on.room, l.room);
          long = long ∙ l.long;
          means =
              l.means
              ∙ ap (join (take done dest)) on.means
              ∙ join_join (take done dest) (bytes_of p (drop at s)) (rest (plane - done - count_of p))
              ∙ ap (λ (ys : List ℕ). join ys (rest (plane - done - count_of p))) (sym f)
              ∙ ap (λ (n : ℕ). join (take (done + count_of p) after) (rest n)) left;
        }

    -- the packet there, by its count: it lies inside the stream and the plane, and it is laid
    module _ (count : ℕ) (is : count ≡ get_or s at 0) where
      literals_there : count < 128 → look_of (drop at s) (plane - done) ≡ Next (Literals count)
      literals_there low = stands.1 ∙ ap Next (stood_literals s at (plane - done) count is stands.2 low)

      pub literals_fit : count < 128 → (at + (1 + count) ≤ length s) × (done + count ≤ plane)
      literals_fit low =
          let on = onward s at (plane - done) (Literals count) l.within (literals_there low) in
          (omega (arith, on.fits), omega (arith, on.room, l.room))

      pub laying_literals :
          (after : List ℕ) → count < 128 → Ahead dest done count (take count (drop (at + 1) s)) after → Laying s plane (at + (1 + count)) (done + count) after
      laying_literals after low a =
          let size : count + 1 ≡ 1 + count = omega arith in
          let literals : take count (drop (at + 1) s) ≡ take count (drop 1 (drop at s)) = ap (take count) (sym (drop-drop 1 at s)) in
          subst (λ (n : ℕ). Laying s plane (at + n) (done + count) after) size
          (laying_on (Literals count) after (literals_there low) a.0 (a.1 ∙ ap (λ (ys : List ℕ). take done dest ++ ys) literals))

      run_there : 128 ≤ count → look_of (drop at s) (plane - done) ≡ Next (Run (count - 128) (get_or s (at + 1) 0))
      run_there high = stands.1 ∙ ap Next (stood_run s at (plane - done) count is stands.2 high)

      pub run_fits : 128 ≤ count → (at + 2 ≤ length s) × (done + (count - 128) ≤ plane)
      run_fits high =
          let on = onward s at (plane - done) (Run (count - 128) (get_or s (at + 1) 0)) l.within (run_there high) in
          (on.fits, omega (arith, on.room, l.room))

      pub laying_run :
          (after : List ℕ) → 128 ≤ count → Ahead dest done (count - 128) (replicate (count - 128) (get_or s (at + 1) 0)) after
          → Laying s plane (at + 2) (done + (count - 128)) after
      laying_run after high a = laying_on (Run (count - 128) (get_or s (at + 1) 0)) after (run_there high) a.0 a.1
