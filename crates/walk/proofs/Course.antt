-- A walk leads where its course does: what is listed is the course's entries, the look at its last place has it stop so, and nothing else is
-- exact. So theorems of a whole walk are shown step by step, and fuel is met here only.
use mathlib.Core.Path.{◌≡◌, refl, sym, ap, subst, ◌∙◌}
use mathlib.Core.List.{List, [], ◌∷◌, ◌++◌, append-nil}
use Prim.Native.Nat.{ℕ, zero, suc, ◌-◌, ◌≤◌, ◌<◌}
use native.Mathlib.Omega.{arith}
use lib.ListN.{length}
use lib.Seq.{append_snoc}
use Rattle.std.specs.Prelude.{Err}
use Rattle.laws.specs.Along.{Along, along_end}
use Rattle.laws.proofs.Along.{along_more}
use Rattle.answer.specs.Answers.{Accepted}
use Rattle.answer.specs.declared.Stopped.TheVariants.{Rule}
use Rattle.answer.proofs.Names.{not_accepted}
use Rattle.entry.specs.declared.Entry.{Entry}
use Rattle.walk.specs.Walk.{Step, End, Leaf, Nest, Look, Listing, Rest, Go, ended, done, ◌◂◌, follow, walk, run, enough}
use Rattle.walk.specs.Owed.{Ends, Owns, Opens, Moves, ends, stops, leaf, nest, MovesOn}
use Rattle.walk.specs.Course as course
use Rattle.walk.specs.Course.{Stand, stand, seen, Course, Says, at_end, by_rule, Finds, as_leaf, as_nest}
use Rattle.walk.proofs.Continued.{◌⧺◌}
use Rattle.walk.proofs.Fuel.{steady}

-- ### What a step owes, by what it is

pub ends_of : {S : Type 0} {len main at end levels : ℕ} → Moves {S = S} len main at end levels End → Ends len main at end levels
ends_of (ends m) = m

pub owns_of : {S : Type 0} {len main at end levels : ℕ} {e : Entry} {next : ℕ} {q : S} → Moves len main at end levels (Leaf e next q) → Owns len at end e next
owns_of (leaf m) = m

pub opens_of :
    {S : Type 0} {len main at end levels : ℕ} {e : Entry} {inside : ℕ} {q : S} {after : ℕ}
    → Moves len main at end levels (Nest e inside q after) → Opens len at end levels e inside after
opens_of (nest m) = m

-- entries are listed one by one
pub one_by_one : {S : Type 0} (es : List Entry) (e : Entry) (w : Listing S) → (es ++ e ∷ []) ⧺ w ≡ es ⧺ (e ◂ w)
one_by_one es e w = ap (λ l. record { answer = w.answer; place = w.place; state = w.state; entries = l }) (append_snoc es e w.entries)

-- each end lies at or behind the one inside it
abbrev pub Around : ℕ → List ℕ → Type 0
Around a [] = Unit
Around a (b ∷ bs) = (a ≤ b) × Around b bs

-- the end of the block that is around all others
abbrev pub outermost : ℕ → List ℕ → ℕ
outermost a [] = a
outermost a (b ∷ bs) = outermost b bs

module _ {S : Type 0} (main len : ℕ) (look : Look S) (moves : MovesOn main len look) (top : ℕ) (low : top ≤ main) (st : S)
    (at end : ℕ) (order : at ≤ end) where
  abbrev On : List Entry → Stand S → Type 0
  On = Course look top (stand at end [] st)

  -- ### Where a course stands

  pub record Fits (x : Stand S) : Type 0 where
    pub here : x.at ≤ x.end
    pub around : Around x.end x.around
    pub deep : length x.around ≤ top
    pub outer : outermost x.end x.around ≡ end

  pub moved : {x : Stand S} → Fits x → Moves len main x.at x.end (top - length x.around) (seen look top x)
  moved {x} f = moves x.state x.at x.end (top - length x.around) f.here (omega arith)

  pub owed : {x : Stand S} {k : Step S} → Fits x → seen look top x ≡ k → Moves len main x.at x.end (top - length x.around) k
  owed {x} f is = subst (Moves len main x.at x.end (top - length x.around)) is (moved f)

  pub fits : {es : List Entry} {x : Stand S} → On es x → Fits x
  fits course.start = record { here = order; around = tt; deep = omega arith; outer = refl }
  fits (course.leaf c is) = let f = fits c in record { here = (owns_of (owed f is)).within; around = f.around; deep = f.deep; outer = f.outer }
  fits (course.nest c is) =
      let f = fits c in
      let o = opens_of (owed f is) in
      record { here = o.order; around = (o.within, f.around); deep = omega (arith, o.deep); outer = f.outer }
  fits (course.leave {x} {b} {bs} c inside is) =
      let f = fits c in
      let out = subst (Around x.end) inside f.around in
      record { here = out.0; around = out.1; deep = omega (arith, ap length inside, f.deep); outer = subst (λ (l : List ℕ). outermost x.end l ≡ end) inside f.outer }

  -- ### Where a walk leads

  -- the course of a listing, to the look that had it stop
  pub record Led (w : Listing S) : Type 0 where
    pub last : Stand S
    pub course : On w.entries last
    pub ends_in : last.state ≡ w.state
    pub says : Says last.at w.answer w.place (seen look top last)
    pub whole : w.answer ≡ Accepted → last.around ≡ []

  -- the last look: nothing more is listed
  last_look :
      (es : List Entry) (x : Stand S) (w : Listing S) → w.entries ≡ [] → x.state ≡ w.state → On es x
      → Says x.at w.answer w.place (seen look top x) → (w.answer ≡ Accepted → x.around ≡ []) → Led (es ⧺ w)
  last_look es x w none state c says whole = record {
    last = x;
    course = subst (λ (l : List Entry). On l x) (sym (ap (λ (l : List Entry). es ++ l) none ∙ append-nil es)) c;
    ends_in = state;
    says = says;
    whole = whole;
  }

  one_more : (es : List Entry) (e : Entry) (w : Listing S) → Led ((es ++ e ∷ []) ⧺ w) → Led (es ⧺ (e ◂ w))
  one_more es e w = subst Led (one_by_one es e w)

  -- what follows the end of a block leads on from there
  abbrev After : ℕ → List ℕ → Rest S → Type 0
  After b bs rest =
      (xs : List Entry) (p : ℕ) (q : S) → On xs (stand p b bs q) → seen look top (stand p b bs q) ≡ End → Led (xs ⧺ rest p q)

  abbrev Onward : ℕ → Go S → Type 0
  Onward at go =
      (ys : List Entry) (y : Stand S) (r : Rest S) → at < y.at → at < len → On ys y → After y.end y.around r
      → Led (ys ⧺ go y.state y.at y.end (top - length y.around) r)

  follow_led :
      (go : Go S) (es : List Entry) (x : Stand S) (rest : Rest S) → Onward x.at go → On es x → After x.end x.around rest
      → {k : Step S} → seen look top x ≡ k → Moves len main x.at x.end (top - length x.around) k
      → Led (es ⧺ follow go x.state x.at x.end (top - length x.around) rest k)
  unfolding follow
  follow_led go es x rest ih c after is (ends m) = after es x.at x.state c is
  follow_led go es x rest ih c after is (stops {r} {p} m) =
      last_look es x (ended (Err (Rule r)) p x.state) refl refl c (rw is by_rule) (λ z. absurd (not_accepted refl z))
  follow_led go es x rest ih c after is (leaf {e} {next} {q} m) =
      one_more es e _ (ih (es ++ e ∷ []) (stand next x.end x.around q) rest m.on (omega (arith, m.on, m.present)) (course.leaf c is) after)
  follow_led go es x rest ih c after is (nest {e} {inside} {after = b} {q} m) =
      let level : top - length (x.end ∷ x.around) ≡ top - length x.around - 1 = omega arith in
      let on : x.at < len = omega (arith, m.owns.on, m.owns.present) in
      one_more es e _ (subst (λ (l : ℕ). Led ((es ++ e ∷ []) ⧺ go q inside b l (λ _ left. go left b x.end (top - length x.around) rest))) level
      (ih (es ++ e ∷ []) (stand inside b (x.end ∷ x.around) q) _ m.owns.on on (course.nest c is)
      (λ xs p left c' stop.
      ih xs (stand b x.end x.around left) rest (omega (arith, m.owns.on, m.order)) on (course.leave c' refl stop) after)))

  walk_led :
      (f : ℕ) (es : List Entry) (x : Stand S) (rest : Rest S) → len - x.at < f → On es x → After x.end x.around rest
      → Led (es ⧺ walk look f x.state x.at x.end (top - length x.around) rest)
  unfolding walk
  walk_led zero es x rest few c after = absurd (omega arith)
  walk_led (suc f) es x rest few c after =
      follow_led (walk look f) es x rest (λ ys y r on there c' next. walk_led f ys y r (omega arith) c' next) c after refl (moved (fits c))

  all_levels : top - 0 ≡ top
  all_levels = omega arith

  pub run_led : Led (run look len st at end top)
  unfolding run
  run_led =
      subst (λ (l : ℕ). Led (walk look (enough len at) st at end l done)) all_levels
      (walk_led (enough len at) [] (stand at end [] st) done (omega arith) course.start
      (λ xs p q c stop. last_look xs (stand p end [] q) (ended Accepted p q) refl refl c (rw stop at_end) (λ _. refl)))

  -- ### Each entry

  -- where the walk stood when it found an entry
  pub record Next (es : List Entry) (e : Entry) : Type 0 where
    pub stands : Stand S
    pub before : On es stands
    pub finds : Finds e (seen look top stands)

  pub course_along : {es : List Entry} {x : Stand S} → On es x → Along Next [] es
  course_along course.start = along_end
  course_along (course.leaf {x} c is) = along_more (course_along c) (record { stands = x; before = c; finds = rw is as_leaf })
  course_along (course.nest {x} c is) = along_more (course_along c) (record { stands = x; before = c; finds = rw is as_nest })
  course_along (course.leave c inside is) = course_along c

  -- ### Nothing else

  -- the rest of the walk, once the block that ends there is left
  abbrev pub rest_from : ℕ → List ℕ → Rest S
  rest_from a [] = done
  rest_from a (b ∷ bs) = λ _ q. walk look (enough len a) q a b (top - length bs) (rest_from b bs)

  -- the walk from where a course stands
  abbrev pub from : Stand S → Listing S
  from x = walk look (enough len x.at) x.state x.at x.end (top - length x.around) (rest_from x.end x.around)

  -- by what the look there gives
  abbrev pub go : ℕ → Go S
  go a q b c l r = walk look (len - a) q b c l r

  pub by_look : (x : Stand S) {k : Step S} → seen look top x ≡ k → from x ≡ follow (go x.at) x.state x.at x.end (top - length x.around) (rest_from x.end x.around) k
  unfolding walk
  by_look x is = ap (follow (go x.at) x.state x.at x.end (top - length x.around) (rest_from x.end x.around)) is

  pub from_leaf :
      (x : Stand S) {e : Entry} {next : ℕ} {q : S} → Fits x → seen look top x ≡ Leaf e next q → from x ≡ e ◂ from (stand next x.end x.around q)
  unfolding follow
  from_leaf x {e} {next} {q} f is =
      let o = owns_of (owed f is) in
      by_look x is
      ∙ ap (e ◂◌) (steady main len look moves (len - x.at) (enough len next) q next x.end (top - length x.around) _ _
      (omega (arith, o.on, o.present)) (omega arith) o.within (omega arith) (λ p left. refl))

  pub from_nest :
      (x : Stand S) {e : Entry} {inside : ℕ} {q : S} {after : ℕ} → Fits x → seen look top x ≡ Nest e inside q after
      → from x ≡ e ◂ from (stand inside after (x.end ∷ x.around) q)
  unfolding follow
  from_nest x {e} {inside} {q} {after} f is =
      let o = opens_of (owed f is) in
      let level : top - length x.around - 1 ≡ top - length (x.end ∷ x.around) = omega arith in
      by_look x is
      ∙ ap (e ◂◌) (steady main len look moves (len - x.at) (enough len inside) q inside after (top - length x.around - 1) _ (rest_from after (x.end ∷ x.around))
      (omega (arith, o.owns.on, o.owns.present)) (omega arith) o.order (omega arith)
      (λ p left. steady main len look moves (len - x.at) (enough len after) left after x.end (top - length x.around) _ _
      (omega (arith, o.owns.on, o.owns.present, o.order)) (omega arith) o.within (omega arith) (λ p' left'. refl)))
      ∙ ap (λ (l : ℕ). e ◂ walk look (enough len inside) q inside after l (rest_from after (x.end ∷ x.around))) level

  pub from_end : (x : Stand S) {bs : List ℕ} → x.around ≡ bs → seen look top x ≡ End → from x ≡ rest_from x.end bs x.at x.state
  unfolding follow
  from_end x inside is = by_look x is ∙ ap (λ (l : List ℕ). rest_from x.end l x.at x.state) inside

  -- all that is listed: the entries of the course, and what is listed from there
  pub course_run : {es : List Entry} {x : Stand S} → On es x → run look len st at end top ≡ es ⧺ from x
  unfolding run
  course_run course.start = ap (λ (l : ℕ). walk look (enough len at) st at end l done) (sym all_levels)
  course_run (course.leaf {es} {x} {e} c is) =
      course_run c ∙ ap (λ w. es ⧺ w) (from_leaf x (fits c) is) ∙ sym (one_by_one es e _)
  course_run (course.nest {es} {x} {e} c is) =
      course_run c ∙ ap (λ w. es ⧺ w) (from_nest x (fits c) is) ∙ sym (one_by_one es e _)
  course_run (course.leave {es} {x} c inside is) = course_run c ∙ ap (λ w. es ⧺ w) (from_end x inside is)
