-- What the rules owe the walk: facts of one step. What stands in Promised.antt follows for any rules that pay them.
use Rattle.std.specs.Prelude.{◌≡◌, List, ◌++◌, ℕ, ◌+◌, ◌≤◌, ◌<◌, length, get_or}
use Rattle.answer.specs.declared.Refusal.{Refusal}
use Rattle.answer.specs.declared.Refusal.TheVariants.{EndsTooSoon}
use Rattle.entry.specs.declared.Entry.{Entry}
use Rattle.walk.specs.Walk.{Step, End, Stop, Leaf, Nest, Look}

-- ### A step moves on, and its entry owns what it passes

-- a parent ends where the walk stands: inside at its end, at the main level at the input's end
pub record Ends (len main at end levels : ℕ) : Type 0 where
  pub inside : levels < main → at ≡ end
  pub whole : levels ≡ main → at ≡ len

-- an entry owns the bytes from its header up to `next`, all of them present and inside the parent
pub record Owns (len at end : ℕ) (e : Entry) (next : ℕ) : Type 0 where
  pub place : e.block.place ≡ at
  pub owned : at + e.block.owned ≡ next
  pub on : at < next
  pub present : next ≤ len
  pub within : next ≤ end

pub record Opens (len at end levels : ℕ) (e : Entry) (inside after : ℕ) : Type 0 where
  pub owns : Owns len at end e inside
  pub order : inside ≤ after
  pub within : after ≤ end
  pub deep : 0 < levels

-- a refusal's place is the one looked at, or a later one
pub data Moves {S : Type 0} (len main at end levels : ℕ) : Step S → Type 0 where
  ends : Ends len main at end levels → Moves len main at end levels End
  stops : {r : Refusal} {p : ℕ} → at ≤ p → Moves len main at end levels (Stop r p)
  leaf : {e : Entry} {next : ℕ} {q : S} → Owns len at end e next → Moves len main at end levels (Leaf e next q)
  nest : {e : Entry} {inside after : ℕ} {q : S} → Opens len at end levels e inside after → Moves len main at end levels (Nest e inside q after)

-- ### More input keeps a step

-- a step that more input may change: "ends too soon", and at the main level the end
pub data Unsure {S : Type 0} (main levels : ℕ) : Step S → Type 0 where
  soon : {p : ℕ} → Unsure main levels (Stop EndsTooSoon p)
  last : levels ≡ main → Unsure main levels End

-- the step on a beginning of the input, and on the whole of it
pub data Keeps {S : Type 0} (main levels : ℕ) : Step S → Step S → Type 0 where
  alike : (k : Step S) → Keeps main levels k k
  unsure : {j k : Step S} → Unsure main levels j → Keeps main levels j k

-- ### Both, for rules that look at an input, with `main` levels left at the main level

abbrev pub MovesOn : {S : Type 0} → ℕ → ℕ → Look S → Type 0
MovesOn {S} main len look = (st : S) (at end levels : ℕ) → at ≤ end → levels ≤ main → Moves len main at end levels (look st at end levels)

abbrev pub KeepsOn : {S : Type 0} → ℕ → Look S → Look S → Type 0
KeepsOn {S} main look look' =
    (st : S) (at end levels : ℕ) → at ≤ end → levels ≤ main → Keeps main levels (look st at end levels) (look' st at end levels)

pub record Rules {S : Type 0} (main : ℕ) (look : List ℕ → Look S) : Type 0 where
  pub nested : 0 < main
  pub moves : (s : List ℕ) → MovesOn main (length s) (look s)
  pub keeps : (s t : List ℕ) → KeepsOn main (look s) (look (s ++ t))

-- ### More than that: an entry is listed once its own bytes are there

-- Only what two inputs with a common beginning have in common asks for it. Rules that wait so also keep (`waits_keeps`).

-- no entry here, or one that owns bytes beyond the first len
pub data Beyond {S : Type 0} (len main levels : ℕ) : Step S → Type 0 where
  last_end : levels ≡ main → Beyond len main levels End
  refused : {r : Refusal} {p : ℕ} → Beyond len main levels (Stop r p)
  leaf_past : {e : Entry} {next : ℕ} {q : S} → len < next → Beyond len main levels (Leaf e next q)
  nest_past : {e : Entry} {inside after : ℕ} {q : S} → len < inside → Beyond len main levels (Nest e inside q after)

-- the step on a beginning of len bytes, and on the whole: where the first may change, the second needs more than these bytes
pub data Waits {S : Type 0} (len main levels : ℕ) : Step S → Step S → Type 0 where
  stays : (k : Step S) → Waits len main levels k k
  waits : {j k : Step S} → Unsure main levels j → Beyond len main levels k → Waits len main levels j k

abbrev pub WaitsOn : {S : Type 0} → ℕ → ℕ → Look S → Look S → Type 0
WaitsOn {S} main len look look' =
    (st : S) (at end levels : ℕ) → at ≤ end → levels ≤ main → Waits len main levels (look st at end levels) (look' st at end levels)

pub record Prompt {S : Type 0} (main : ℕ) (look : List ℕ → Look S) : Type 0 where
  pub waiting : (s t : List ℕ) → WaitsOn main (length s) (look s) (look (s ++ t))

-- ### And what a step reads

-- Only what two inputs of one length have in common asks for it. `hidden e i` says that no rule looks at byte i of entry e.

-- byte i may have a say in a step: where the step refuses, any; where it finds an entry, one that neither lies behind the entry nor is
-- hidden in it; at an end, none
abbrev pub Reads : {S : Type 0} → (Entry → ℕ → Type 0) → ℕ → Step S → Type 0
Reads hidden i End = ⊥
Reads hidden i (Stop r p) = Unit
Reads hidden i (Leaf e next q) = (i < next) × (hidden e i → ⊥)
Reads hidden i (Nest e inside q after) = (i < inside) × (hidden e i → ⊥)

-- two inputs have the same bytes wherever a step reads them, from its place on
abbrev pub Shares : {S : Type 0} → (Entry → ℕ → Type 0) → List ℕ → List ℕ → ℕ → Step S → Type 0
Shares hidden s s' at k = (i : ℕ) → at ≤ i → Reads hidden i k → get_or s i 0 ≡ get_or s' i 0

-- the step is the same on every other input of that length that shares these bytes
pub record Blind {S : Type 0} (hidden : Entry → ℕ → Type 0) (look : List ℕ → Look S) : Type 0 where
  pub reads :
      (s s' : List ℕ) → length s ≡ length s' → (st : S) (at end levels : ℕ) → Shares hidden s s' at (look s st at end levels)
      → look s st at end levels ≡ look s' st at end levels
