-- What is ahead at the front of a plane, and the packet that follows from it.
use mathlib.Core.Path.{◌≡◌, refl, sym, ap, subst, ◌∙◌}
use mathlib.Core.Logic.{inl, inr, ⊎_elim}
use mathlib.Core.Bool.{true, false}
use mathlib.Core.List.{List}
use Prim.Native.Nat.{ℕ, ◌+◌, ◌-◌, ◌<◌, ◌≤◌, min}
use native.Mathlib.Omega.{arith}
use lib.ListN.{length, drop, get_or}
use lib.Seq.{get_or-drop, drop-drop}
use Rattle.packet.specs.declared.Packet.TheVariants.{Literals, Run}
use Rattle.packer.specs.Packing.{three, other_than, until, next_of}
use Rattle.packer.proofs.Packing.{next_run, next_literals}
use Rattle.packer.proofs.Places.{other_no, other_differs, other_same, three_short, three_bytes, three_same, three_gap}
use Rattle.packer.proofs.Reach.{Clear, clear_none, clear_one, reach, reach_front, reached_front, reach_rest, Whole, whole, whole_ended, whole_before, whole_behind, whole_count, whole_moved, whole_lifted, most_count}

-- so many bytes stand before the next place where three equal ones start, or the end, and so many are equal there
abbrev pub Known : List ℕ → ℕ → ℕ → Type 0
Known p plain same =
    (plain ≡ until (length p) three p) × (same ≡ until (length p) (other_than (get_or p plain 0)) (drop plain p))

-- the same by places
record View (p : List ℕ) (plain same : ℕ) : Type 0 where
  start : Whole three p 0 plain
  equal : Whole (other_than (get_or p plain 0)) p plain (plain + same)

view : (p : List ℕ) (plain same : ℕ) → Known p plain same → View p plain same
view p plain same known =
    let start = subst (Whole three p 0) (sym known.0) (reach_front three p) in
    let other = other_than (get_or p plain 0) in
    record {
      start = start;
      equal = subst (λ (n : ℕ). Whole other p plain (plain + n)) (sym known.1) (reach other p (length p) plain start.within);
    }

known : (p : List ℕ) (plain same : ℕ) → View p plain same → Known p plain same
known p plain same v =
    let e = whole_count (other_than (get_or p plain 0)) p plain (plain + same) v.equal in
    (reached_front three p plain v.start, omega arith)

-- ---- looking ahead

module _ (p : List ℕ) (plain : ℕ) (counted : plain ≡ until (length p) three p) where
  start : Whole three p 0 plain
  start = subst (Whole three p 0) (sym counted) (reach_front three p)

  -- no three equal bytes are left
  pub known_none : plain ≡ length p → Known p plain 0
  known_none end =
      let other = other_than (get_or p plain 0) in
      known p plain 0
      (record { start = start; equal = whole other p plain (plain + 0) (omega arith) (omega arith) (λ k above below. absurd (omega arith)) (inl (omega arith)) })

  there : (plain ≡ length p → ⊥) → three (drop plain p) ≡ true
  there more = ⊎_elim (λ end. absurd (more end)) (λ t. t) (whole_ended three p 0 plain start)

  pub three_inside : (plain ≡ length p → ⊥) → plain + 3 ≤ length p
  three_inside more = (three_bytes p plain (there more)).0

  -- three are, and the count goes on behind them
  pub known_some :
      (m : ℕ) {l : List ℕ} → (plain ≡ length p → ⊥) → l ≡ drop (plain + 3) p → m ≡ until (length l) (other_than (get_or p plain 0)) l
      → Known p plain (3 + m)
  known_some m more e counted' =
      let b = get_or p plain 0 in
      let other = other_than b in
      let bytes = three_bytes p plain (there more) in
      let behind : Whole other p (plain + 3) (plain + 3 + m) =
      reach_rest other p (plain + 3) m bytes.0 (counted' ∙ ap (λ (l : List ℕ). until (length l) other l) e) in
      let first : Clear other p plain (plain + 1) = clear_one other p plain plain (plain + 1) (omega arith) (clear_none other p plain) (other_no b p plain refl) in
      let second : Clear other p plain (plain + 2) = clear_one other p plain (plain + 1) (plain + 2) (omega arith) first (other_no b p (plain + 1) bytes.1) in
      let third : Clear other p plain (plain + 3) = clear_one other p plain (plain + 2) (plain + 3) (omega arith) second (other_no b p (plain + 2) bytes.2) in
      let all : plain + 3 + m ≡ plain + (3 + m) = omega arith in
      known p plain (3 + m)
      (record { start = start; equal = subst (Whole other p plain) all (whole_before other p (plain + 3) (plain + 3 + m) behind plain (omega arith) third) })

-- what is known behind a few bytes, where three equal ones start nowhere, is known of all
pub known_behind :
    (p : List ℕ) (few plain same : ℕ) {l : List ℕ} → few ≤ length p → ((k : ℕ) → k < few → three (drop k p) ≡ false) → l ≡ drop few p
    → Known l plain same → Known p (few + plain) same
known_behind p few plain same inside clear e ahead =
    let v = view (drop few p) plain same (subst (λ (l : List ℕ). Known l plain same) e ahead) in
    let other = other_than (get_or p (few + plain) 0) in
    let from : Whole three p (few + 0) (few + plain) = whole_lifted three p few 0 plain v.start inside in
    let byte : get_or (drop few p) plain 0 ≡ get_or p (few + plain) 0 = get_or-drop few p plain 0 in
    let equal : Whole other p (few + plain) (few + (plain + same)) =
    whole_lifted other p few plain (plain + same) (subst (λ (b : ℕ). Whole (other_than b) (drop few p) plain (plain + same)) byte v.equal) inside in
    let ends : few + (plain + same) ≡ few + plain + same = omega arith in
    known p (few + plain) same
    (record {
      start = whole_before three p (few + 0) (few + plain) from 0 (omega arith) (λ k above below. clear k (omega arith));
      equal = subst (λ (i : ℕ). Whole other p (few + plain) i) ends equal;
    })

-- ---- the next packet

-- what is known of a place is known at the front of what is left from an earlier one
moved :
    (p : List ℕ) (n plain same at : ℕ) → n + plain ≡ at → Whole three p n at → Whole (other_than (get_or p at 0)) p at (at + same)
    → Known (drop n p) plain same
moved p n plain same at e start equal =
    let other = other_than (get_or p at 0) in
    let byte : get_or p at 0 ≡ get_or (drop n p) plain 0 = ap (λ (i : ℕ). get_or p i 0) (sym e) ∙ sym (get_or-drop n p plain 0) in
    let inside : n ≤ length p = omega (arith, start.above, start.within) in
    let from : Whole three p (n + 0) (n + plain) = subst (λ (i : ℕ). Whole three p (n + 0) i) (sym e) (whole_behind three p n at start (n + 0) (omega arith) (omega (arith, start.above))) in
    let on : Whole other p (n + plain) (n + (plain + same)) =
    let ends : at + same ≡ n + (plain + same) = omega arith in
    subst (λ (i : ℕ). Whole other p i (n + (plain + same))) (sym e) (subst (Whole other p at) ends equal) in
    known (drop n p) plain same
    (record {
      start = whole_moved three p n 0 plain from inside;
      equal = subst (λ (b : ℕ). Whole (other_than b) (drop n p) plain (plain + same)) byte (whole_moved other p n plain (plain + same) on inside);
    })

module _ (p : List ℕ) (plain same n : ℕ) (ahead : Known p plain same) where
  v : View p plain same
  v = view p plain same ahead

  module _ (before : 0 < plain) (e : n ≡ min plain 127) where
    pub literals_next : Literals n ≡ next_of p
    literals_next = next_literals p n (v.start.clear 0 (omega arith) before) (most_count three p plain n v.start e)

    pub literals_ahead : Known (drop n p) (plain - n) same
    literals_ahead = moved p n (plain - n) same plain (omega arith) (whole_behind three p 0 plain v.start n (omega arith) (omega arith)) v.equal

  module _ (some : 0 < length p) (here : plain ≡ 0) (e : n ≡ min same 127) where
    abbrev b : ℕ
    b = get_or p 0 0

    pub three_here : three p ≡ true
    three_here = ⊎_elim (λ end. absurd (omega arith)) (λ t. subst (λ (i : ℕ). three (drop i p) ≡ true) here t) (whole_ended three p 0 plain v.start)

    -- the equal bytes, from the front itself
    run : Whole (other_than b) p 0 same
    run = subst (Whole (other_than b) p 0) (let all : 0 + same ≡ same = omega arith in all) (subst (λ (i : ℕ). Whole (other_than (get_or p i 0)) p i (i + same)) here v.equal)

    pub run_inside : same ≤ length p
    run_inside = run.within

    pub run_next : Run n b ≡ next_of p
    run_next = next_run p n three_here (most_count (other_than b) p same n run e)

    byte_at : (k : ℕ) → k < same → get_or p k 0 ≡ b
    byte_at k below = other_same b p k (run.clear k (omega arith) below)

    -- one or two equal bytes are left: they stand before the next three
    pub run_few : (left : ℕ) → left ≡ same - n → left < 3 → (k : ℕ) → k < left → three (drop k (drop n p)) ≡ false
    run_few left l few k below =
        ap three (drop-drop k n p)
        ∙ ⊎_elim (λ end. three_short p (n + k) (omega arith))
        (λ t. three_gap p (n + k) same (omega arith) (omega arith) (λ same_byte. other_differs b p same t (same_byte ∙ byte_at (n + k) (omega arith))))
        (whole_ended (other_than b) p 0 same run)

    -- three or more are left: the next run starts at once
    pub run_again : (left : ℕ) → left ≡ same - n → 3 ≤ left → Known (drop n p) 0 left
    run_again left l many =
        let first : get_or p n 0 ≡ b = byte_at n (omega arith) in
        let t = three_same p n (omega (arith, run.within)) (byte_at (n + 1) (omega arith) ∙ sym first) (byte_at (n + 2) (omega arith) ∙ sym first) in
        let all : same ≡ n + left = omega arith in
        moved p n 0 left n (omega arith) (whole three p n n (omega arith) (omega (arith, run.within)) (clear_none three p n) (inr t))
        (subst (λ (c : ℕ). Whole (other_than c) p n (n + left)) (sym first) (subst (Whole (other_than b) p n) all (whole_behind (other_than b) p 0 same run n (omega arith) (omega arith))))
