-- The course of a walk, look by look: where it stands, what has been listed by then, and what the look there has it answer. There is no
-- fuel here and no rest to be walked later; what is listed is what its course comes to, and only that (`run_led`, `course-only`).
use Rattle.std.specs.Prelude.{◌≡◌, List, [], ◌∷◌, ◌++◌, ℕ, ◌-◌, ◌≤◌, length, Err}
use Rattle.answer.specs.declared.Refusal.{Refusal}
use Rattle.answer.specs.Answers.{Answer, Accepted}
use Rattle.answer.specs.declared.Stopped.TheVariants.{Rule, TableFull}
use Rattle.entry.specs.declared.Entry.{Entry}
use Rattle.walk.specs.Walk.{Step, End, Stop, Leaf, Nest, Look}
use Rattle.walk.specs.Room.{Listed}
use Rattle.walk.specs.Promised.{Tiles}

-- ### Step by step

-- where a walk stands: the place, the end of the block that it is inside of, the ends of the blocks around that, and the rules' state
pub record Stand (S : Type 0) : Type 0 where
  pub at : ℕ
  pub end : ℕ
  pub around : List ℕ
  pub state : S

abbrev pub stand : {S : Type 0} → ℕ → ℕ → List ℕ → S → Stand S
stand at end around state = record { at = at; end = end; around = around; state = state }

-- what the look there gives, where the walk began with so many levels left
abbrev pub seen : {S : Type 0} → Look S → ℕ → Stand S → Step S
seen look top x = look x.state x.at x.end (top - length x.around)

-- a walk comes to stand somewhere with these entries listed: each look that gives an entry lists it and leads on, into the block or behind it;
-- each end leads out of the block
pub data Course {S : Type 0} (look : Look S) (top : ℕ) (begin : Stand S) : List Entry → Stand S → Type 0 where
  start : Course look top begin [] begin
  leaf :
      {es : List Entry} {x : Stand S} {e : Entry} {next : ℕ} {q : S} → Course look top begin es x → seen look top x ≡ Leaf e next q
      → Course look top begin (es ++ e ∷ []) (stand next x.end x.around q)
  nest :
      {es : List Entry} {x : Stand S} {e : Entry} {inside : ℕ} {q : S} {after : ℕ} → Course look top begin es x → seen look top x ≡ Nest e inside q after
      → Course look top begin (es ++ e ∷ []) (stand inside after (x.end ∷ x.around) q)
  leave :
      {es : List Entry} {x : Stand S} {b : ℕ} {bs : List ℕ} → Course look top begin es x → x.around ≡ b ∷ bs → seen look top x ≡ End
      → Course look top begin es (stand x.end b bs x.state)

-- ### The answer

-- a look at a place has the walk answer so: the end there, or a refusal with its place
pub data Says {S : Type 0} (at : ℕ) : Answer → ℕ → Step S → Type 0 where
  at_end : Says at Accepted at End
  by_rule : {r : Refusal} {p : ℕ} → Says at (Err (Rule r)) p (Stop r p)

-- a look finds an entry
pub data Finds {S : Type 0} (e : Entry) : Step S → Type 0 where
  as_leaf : {next : ℕ} {q : S} → Finds e (Leaf e next q)
  as_nest : {inside : ℕ} {q : S} {after : ℕ} → Finds e (Nest e inside q after)

-- the answer of a listing in a room, by the look where its entries end: what the look says, and an accepted end is that of all blocks; or the
-- look finds one entry more than there is room for
pub data Answered {S : Type 0} (room : ℕ) (es : List Entry) (x : Stand S) (k : Step S) : Answer → ℕ → Type 0 where
  said : {a : Answer} {p : ℕ} → Says x.at a p k → (a ≡ Accepted → x.around ≡ []) → length es ≤ room → Answered room es x k a p
  full : (e : Entry) → Finds e k → length es ≡ room → Answered room es x k (Err TableFull) x.at

-- a listing is exactly what is found: its entries are those of a course, side by side up to where it stands, and the look there gives the answer
pub record Exactly {S : Type 0} (look : Look S) (top : ℕ) (begin : Stand S) (room : ℕ) (r : Listed) : Type 0 where
  pub last : Stand S
  pub course : Course look top begin r.entries last
  pub tiles : Tiles begin.at r.entries last.at
  pub answered : Answered room r.entries last (seen look top last) r.answer r.place
