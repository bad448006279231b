-- One turn of the code's loop: what the step at its place lets it conclude. A loop asks `turn` once at its head, and each arm takes its
-- part.
use mathlib.Core.Path.{◌≡◌}
use Prim.Native.Nat.{ℕ, ◌+◌, ◌-◌, ◌≤◌}
use native.Mathlib.Omega.{arith}
use Rattle.std.specs.Prelude.{Err}
use Rattle.answer.specs.declared.Refusal.{Refusal}
use Rattle.answer.specs.Answers.{Accepted}
use Rattle.answer.specs.declared.Stopped.TheVariants.{Rule, TableFull}
use Rattle.answer.specs.declared.Outcome.{Outcome}
use Rattle.entry.specs.declared.Entry.{Entry}
use Rattle.walk.specs.Walk.{End, Stop, Leaf, Nest, Look, Listing, run}
use Rattle.walk.specs.Room.{Walked}
use Rattle.walk.specs.Owed.{Owns, Opens, MovesOn}
use Rattle.walk.proofs.FirstStep.{owns, opens, run_end, run_stop, run_leaf, run_nest}
use Rattle.walk.proofs.LoopArms.{count_fits, stopped, full, leafed, halted, went_on}

-- from the walk next on, whatever it leaves is what w leaves
abbrev pub Continues : {S K : Type 0} → (K → ℕ → Entry → K) → Listing S → ℕ → ℕ → K → Listing S → ℕ → K → Type 0
Continues {S} {K} put w room from t next from' t' =
    (r : Outcome) (q : S) (after : K) → Walked put next room from' t' r q after → Walked put w room from t r q after

module _ {S K : Type 0} (put : K → ℕ → Entry → K) (len : ℕ) (look : Look S) (st : S) (at end levels room from : ℕ) (t : K) where
  abbrev Here : Outcome → S → K → Type 0
  Here r q after = Walked put (run look len st at end levels) room from t r q after

  pub record OnLeaf (e : Entry) (next : ℕ) (q : S) : Type 0 where
    pub owns : Owns len at end e next
    pub full : from ≡ room → Here (record { answer = Err TableFull; place = at; count = from }) st t
    pub on : (from ≡ room → ⊥) → (t' : K) → t' ≡ put t from e
        → Continues put (run look len st at end levels) room from t (run look len q next end levels) (from + 1) t'

  pub record OnNest (e : Entry) (inside : ℕ) (q : S) (after : ℕ) : Type 0 where
    pub opens : Opens len at end levels e inside after
    pub full : from ≡ room → Here (record { answer = Err TableFull; place = at; count = from }) st t
    pub halts :
        (from ≡ room → ⊥) → (t' : K) → t' ≡ put t from e
        → (o : Outcome) (x : S) (mid : K) → Walked put (run look len q inside after (levels - 1)) room (from + 1) t' o x mid
        → (o.answer ≡ Accepted → ⊥) → Here o x mid
    pub on :
        (from ≡ room → ⊥) → (t' : K) → t' ≡ put t from e
        → (o : Outcome) (x : S) (mid : K) → Walked put (run look len q inside after (levels - 1)) room (from + 1) t' o x mid → o.answer ≡ Accepted
        → (o.count ≤ room) × Continues put (run look len st at end levels) room from t (run look len x after end levels) o.count mid

  pub record Turn : Type 0 where
    pub ends : look st at end levels ≡ End → Here (record { answer = Accepted; place = at; count = from }) st t
    pub stop : {r : Refusal} {p : ℕ} → look st at end levels ≡ Stop r p → Here (record { answer = Err (Rule r); place = p; count = from }) st t
    pub leaf : {e : Entry} {next : ℕ} {q : S} → look st at end levels ≡ Leaf e next q → OnLeaf e next q
    pub nest : {e : Entry} {inside : ℕ} {q : S} {after : ℕ} → look st at end levels ≡ Nest e inside q after → OnNest e inside q after

  module _ (main : ℕ) (moves : MovesOn main len look) (order : at ≤ end) (low : levels ≤ main) (fits : from ≤ room) where
    on_leaf : (e : Entry) (next : ℕ) (q : S) → look st at end levels ≡ Leaf e next q → OnLeaf e next q
    on_leaf e next q h =
        let o = owns main len look moves st at end levels order low e next q h in
        let w = run_leaf main len look moves st at end levels order low e next q h in
        record {
          owns = o;
          full = full put room _ from t e _ at st w o.place;
          on = λ some t' is r x after m. leafed put room _ from t t' e _ r x after w (omega arith) is m;
        }

    on_nest : (e : Entry) (inside : ℕ) (q : S) (after : ℕ) → look st at end levels ≡ Nest e inside q after → OnNest e inside q after
    on_nest e inside q after h =
        let o = opens main len look moves st at end levels order low e inside q after h in
        let w = run_nest main len look moves st at end levels order low e inside q after h in
        record {
          opens = o;
          full = full put room _ from t e _ at st w o.owns.place;
          halts = λ some t' is r x mid m. halted put room _ from t t' e _ _ r x mid w (omega arith) is m;
          on = λ some t' is y x mid m whole. (
            count_fits put room _ (from + 1) t' y x mid (omega arith) m,
            λ r z last. went_on put room _ from t t' e _ _ y x mid r z last w (omega arith) is m whole,
          );
        }

    pub turn : Turn
    turn = record {
      ends = λ h. stopped put room _ from t Accepted at st (run_end main len look moves st at end levels order low h);
      stop = λ {r} {p} h. stopped put room _ from t (Err (Rule r)) p st (run_stop main len look moves st at end levels order low r p h);
      leaf = λ {e} {next} {q} h. on_leaf e next q h;
      nest = λ {e} {inside} {q} {after} h. on_nest e inside q after h;
    }
