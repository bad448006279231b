-- The walk inside a block takes what comes behind that block as its rest. It is the walk by itself and then, where it came to its
-- end, the rest: so the code may walk an inside alone and go on.
use mathlib.Core.Path.{◌≡◌, refl, sym, ap, ◌∙◌, fun_ext}
use mathlib.Core.Bool.{Bool, true, false}
use mathlib.Core.List.{List, [], ◌∷◌, ◌++◌, append_assoc}
use Prim.Native.Nat.{ℕ, zero, suc, ◌-◌}
use Rattle.answer.specs.Answers.{is_accepted}
use Rattle.entry.specs.declared.Entry.{Entry}
use Rattle.walk.specs.Walk.{Step, End, Stop, Leaf, Nest, Look, Listing, Rest, Go, done, ◌◂◌, follow, walk}

module _ {S : Type 0} where
  infixr 67 ◌⧺◌
  abbrev pub ◌⧺◌ : List Entry → Listing S → Listing S
  es ⧺ w = record { answer = w.answer; place = w.place; state = w.state; entries = es ++ w.entries }

  abbrev pub then_by : Bool → Listing S → Rest S → Listing S
  then_by true w rest = w.entries ⧺ rest w.place w.state
  then_by false w rest = w

  abbrev pub and_then : Listing S → Rest S → Listing S
  and_then w rest = then_by (is_accepted w.answer) w rest

  -- ### Its laws

  then_many : (b : Bool) (es : List Entry) (w : Listing S) (rest : Rest S) → then_by b (es ⧺ w) rest ≡ es ⧺ then_by b w rest
  then_many true es w rest =
      let r = rest w.place w.state in
      ap (λ l. record { answer = r.answer; place = r.place; state = r.state; entries = l }) (append_assoc es w.entries r.entries)
  then_many false es w rest = refl

  then_first : (e : Entry) (w : Listing S) (rest : Rest S) → and_then (e ◂ w) rest ≡ e ◂ and_then w rest
  then_first e w rest = then_many (is_accepted w.answer) (e ∷ []) w rest

  then_assoc :
      (b : Bool) (w : Listing S) (rest last : Rest S) → is_accepted w.answer ≡ b
      → and_then (then_by b w rest) last ≡ then_by b w (λ p q. and_then (rest p q) last)
  then_assoc true w rest last e =
      then_many (is_accepted (rest w.place w.state).answer) w.entries (rest w.place w.state) last
  then_assoc false w rest last e = ap (λ c. then_by c w last) e

  -- ### Of a walk

  follow_then :
      (go : Go S) (st : S) (at end levels : ℕ) (rest : Rest S)
      → ((q : S) (a b l : ℕ) (r : Rest S) → go q a b l r ≡ and_then (go q a b l done) r)
      → (k : Step S) → follow go st at end levels rest k ≡ and_then (follow go st at end levels done k) rest
  unfolding follow
  follow_then go st at end levels rest ih End = refl
  follow_then go st at end levels rest ih (Stop r p) = refl
  follow_then go st at end levels rest ih (Leaf e next q) =
      ap (e ◂◌) (ih q next end levels rest) ∙ sym (then_first e (go q next end levels done) rest)
  follow_then go st at end levels rest ih (Nest e inside q after) =
      let w = go q inside after (levels - 1) done in
      let on : Rest S = λ p left. go left after end levels done in
      let both : go q inside after (levels - 1) (λ p left. go left after end levels rest) ≡ and_then (go q inside after (levels - 1) on) rest =
      ih q inside after (levels - 1) (λ p left. go left after end levels rest)
      ∙ ap (and_then w) (fun_ext (λ p. fun_ext (λ left. ih left after end levels rest)))
      ∙ sym (then_assoc (is_accepted w.answer) w on rest refl)
      ∙ ap (λ x. and_then x rest) (sym (ih q inside after (levels - 1) on)) in
      ap (e ◂◌) both ∙ sym (then_first e (go q inside after (levels - 1) on) rest)

  pub walk_then :
      (look : Look S) (f : ℕ) (st : S) (at end levels : ℕ) (rest : Rest S)
      → walk look f st at end levels rest ≡ and_then (walk look f st at end levels done) rest
  unfolding walk
  walk_then look zero st at end levels rest = refl
  walk_then look (suc f) st at end levels rest =
      follow_then (walk look f) st at end levels rest (λ q a b l r. walk_then look f q a b l r) (look st at end levels)
