-- The first pass over a stream, packet by packet.
use mathlib.Core.Path.{◌≡◌, refl, sym, ap, ◌∙◌, subst}
use mathlib.Core.List.{List, []}
use Prim.Native.Nat.{ℕ, ◌+◌, ◌-◌, ◌<◌, ◌≤◌}
use native.Mathlib.Nat.{pos_of_ne-zero}
use native.Mathlib.Omega.{arith}
use lib.ListN.{length, drop, get_or}
use Rattle.packet.specs.declared.Packet.{Packet}
use Rattle.packet.specs.declared.Packet.TheVariants.{Literals, Run}
use Rattle.packet.specs.Stream.{Look, End, Next, Count128, Missing, TooMuch, size_of, count_of, bytes_of, fitted, look_of, Outcome, bytes, refused, join, meant, meaning_from}
use Rattle.packet.specs.Reading.{good, refusal, verdict}
use Rattle.packet.specs.Standing.{Onward}
use Rattle.packet.specs.declared.stand.Stand.{Stand}
use Rattle.packet.specs.declared.told.Plane.{Plane}
use Rattle.packet.proofs.Stream.{onward, meaning_stop, fitted_missing, fitted_too_much, look_end, look_short, look_full, look_128, look_literals, look_run, look_byte_missing, next_literals, next_run}

verdict_join : (stored plane : ℕ) (xs : List ℕ) (o : Outcome) → verdict stored plane (join xs o) ≡ verdict stored plane o
verdict_join stored plane xs (bytes ys) = refl
verdict_join stored plane xs (refused number place) = refl

-- a stream, or what is left of it, is judged as what is left of it behind `at`, where the packets before give `done` bytes of the plane
pub record Judged (s : List ℕ) (plane : ℕ) (o : Outcome) (at done : ℕ) : Type 0 where
  pub within : at ≤ length s
  pub room : done ≤ plane
  pub same : verdict (length s) plane o ≡ verdict (length s) plane (meaning_from (drop at s) at (plane - done))

-- a pass that goes on from a stand
abbrev told : List ℕ → ℕ → ℕ → ℕ → Plane
told s plane at done = verdict (length s) plane (meaning_from (drop at s) at (plane - done))

pub judged_past :
    {s : List ℕ} {plane : ℕ} {o : Outcome} {at done : ℕ} (from to : Stand) → Judged s plane o at done
    → (from.stream.now ≡ s) × (from.plane ≡ plane) × (from.at ≡ at) × (from.done ≡ done) → Onward from to → Judged s plane o to.at to.done
judged_past {s} {plane} from to j m past =
    let stream : to.stream.now ≡ s = past.0 ∙ m.0 in
    let full : to.plane ≡ plane = past.1 ∙ m.1 in
    record {
      within = subst (λ (l : List ℕ). to.at ≤ length l) stream to.within.0;
      room = subst (λ (n : ℕ). to.done ≤ n) full to.within.1;
      same = j.same ∙ sym (λ i. told (m.0 i) (m.1 i) (m.2 i) (m.3 i)) ∙ sym past.3 ∙ (λ i. told (stream i) (full i) to.at to.done);
    }

module _ {s : List ℕ} {plane : ℕ} {o : Outcome} {at done : ℕ} (j : Judged s plane o at done) where
  judged_on : (p : Packet) → look_of (drop at s) (plane - done) ≡ Next p → Judged s plane o (at + size_of p) (done + count_of p)
  judged_on p e =
      let on = onward s at (plane - done) p j.within e in
      let left : plane - done - count_of p ≡ plane - (done + count_of p) = omega arith in
      let more = meaning_from (drop (at + size_of p) s) (at + size_of p) in
      record {
        within = on.fits;
        room = omega (arith, on.room, j.room);
        same =
            j.same
            ∙ ap (verdict (length s) plane) on.means
            ∙ verdict_join (length s) plane (bytes_of p (drop at s)) (more (plane - done - count_of p))
            ∙ ap (λ (n : ℕ). verdict (length s) plane (more n)) left;
      }

  -- a packet is passed over, by its count
  module _ (count : ℕ) (is : count ≡ get_or s at 0) where
    pub judged_literals : count < 128 → at + (1 + count) ≤ length s → 0 < plane - done → count ≤ plane - done → Judged s plane o (at + (1 + count)) (done + count)
    judged_literals low there some room =
        let size : count + 1 ≡ 1 + count = omega arith in
        subst (λ (n : ℕ). Judged s plane o (at + n) (done + count)) size
        (judged_on (Literals count) (next_literals s at (plane - done) count is low there some room))

    pub judged_run : 128 < count → at + 2 ≤ length s → 0 < plane - done → count - 128 ≤ plane - done → Judged s plane o (at + 2) (done + (count - 128))
    judged_run high there some room = judged_on (Run (count - 128) (get_or s (at + 1) 0)) (next_run s at (plane - done) count is high there some room)

  -- a look at no packet ends the pass
  judged_stop :
      (k : Look) (end : Outcome) → look_of (drop at s) (plane - done) ≡ k → ((more : Packet → Outcome) → meant more (drop at s) at k ≡ end)
      → verdict (length s) plane end ≡ verdict (length s) plane o
  judged_stop k end e stops = sym (j.same ∙ ap (verdict (length s) plane) (meaning_stop (drop at s) at (plane - done) k end e stops))

  -- at the stream's end
  module _ (over : length s ≤ at) where
    here : at ≡ length s
    here = omega (arith, j.within)

    pub stop_whole : done ≡ plane → good (length s) plane ≡ verdict (length s) plane o
    stop_whole full = judged_stop End (bytes []) (look_end s at (plane - done) here (omega arith)) (λ more. refl)

    pub stop_short : (done ≡ plane → ⊥) → refusal 22 at ≡ verdict (length s) plane o
    stop_short unfull = judged_stop Missing (refused 22 at) (look_short s at (plane - done) here (λ e. unfull (omega (arith, j.room)))) (λ more. refl)

  -- the tests of a packet, in their order
  module _ (inside : at < length s) where
    not_over : at ≡ length s → ⊥
    not_over e = omega arith

    pub stop_full : plane - done ≡ 0 → refusal 23 at ≡ verdict (length s) plane o
    stop_full full = judged_stop TooMuch (refused 23 at) (look_full s at (plane - done) j.within not_over full) (λ more. refl)

    module _ (unfull : plane - done ≡ 0 → ⊥) (count : ℕ) (is : count ≡ get_or s at 0) where
      pub stop_128 : count ≡ 128 → refusal 21 at ≡ verdict (length s) plane o
      stop_128 e = judged_stop Count128 (refused 21 at) (look_128 s at (plane - done) j.within not_over unfull (sym is ∙ e)) (λ more. refl)

      module _ (no_128 : count ≡ 128 → ⊥) where
        not_128 : get_or s at 0 ≡ 128 → ⊥
        not_128 e = no_128 (is ∙ e)

        literals : count < 128 → look_of (drop at s) (plane - done) ≡ fitted (length s - (at + 1)) (plane - done) (Literals (get_or s at 0))
        literals low = look_literals s at (plane - done) j.within not_over unfull not_128 (omega arith)

        pub stop_data : count < 128 → length s - (at + 1) < count → refusal 22 at ≡ verdict (length s) plane o
        stop_data low cut =
            judged_stop Missing (refused 22 at) (literals low ∙ fitted_missing (length s - (at + 1)) (plane - done) (Literals (get_or s at 0)) (omega arith)) (λ more. refl)

        pub stop_literals : count < 128 → count ≤ length s - (at + 1) → plane - done < count → refusal 23 at ≡ verdict (length s) plane o
        stop_literals low there much =
            judged_stop TooMuch (refused 23 at) (literals low ∙ fitted_too_much (length s - (at + 1)) (plane - done) (Literals (get_or s at 0)) (omega arith) (omega arith))
            (λ more. refl)

        pub stop_byte : 128 ≤ count → length s - (at + 1) ≡ 0 → refusal 22 at ≡ verdict (length s) plane o
        stop_byte high none =
            judged_stop Missing (refused 22 at) (look_byte_missing s at (plane - done) j.within not_over unfull not_128 (omega arith) none) (λ more. refl)

        pub stop_run : 128 ≤ count → (length s - (at + 1) ≡ 0 → ⊥) → plane - done < count - 128 → refusal 23 at ≡ verdict (length s) plane o
        stop_run high there much =
            judged_stop TooMuch (refused 23 at)
            (look_run s at (plane - done) j.within not_over unfull not_128 (omega arith)
            ∙ fitted_too_much (length s - (at + 1)) (plane - done) (Run (get_or s at 0 - 128) (get_or s (at + 1) 0)) (pos_of_ne-zero there) (omega arith))
            (λ more. refl)
