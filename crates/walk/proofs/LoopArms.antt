-- What the code's walk leaves, by the arms of its loop: each arm's answer, from what the code has before it. Nothing here knows a look:
-- a listing is known by its first entries.
use mathlib.Core.Path.{◌≡◌, refl, sym, ap, subst, ◌∙◌}
use mathlib.Core.Bool.{Bool, true, false}
use mathlib.Core.List.{List, [], ◌∷◌}
use Prim.Native.Nat.{ℕ, suc, ◌+◌, ◌-◌, ◌≤◌, ◌<◌}
use native.Mathlib.Omega.{arith}
use lib.ListN.{length}
use Rattle.std.specs.Prelude.{Err}
use Rattle.answer.specs.Answers.{Answer, Accepted, is_accepted}
use Rattle.answer.specs.declared.Stopped.TheVariants.{TableFull}
use Rattle.answer.specs.declared.Outcome.{Outcome}
use Rattle.answer.proofs.Names.{accepted_is, accepted_yes, not_accepted}
use Rattle.entry.specs.declared.Entry.{Entry}
use Rattle.entry.specs.Entry.{keep}
use Rattle.walk.specs.Walk.{Listing, Rest, ended, ◌◂◌}
use Rattle.walk.specs.Room.{Listed, cut, Walked}
use Rattle.walk.proofs.Continued.{◌⧺◌, then_by, and_then}
use Rattle.walk.proofs.Cut.{plain, first, cut_ended, cut_first, cut_full, cut_room, cut_whole, cut_over}

module _ {S K : Type 0} (put : K → ℕ → Entry → K) (room : ℕ) where
  pub count_fits :
      (w : Listing S) (from : ℕ) (t : K) (r : Outcome) (q : S) (after : K) → from ≤ room → Walked put w room from t r q after → r.count ≤ room
  count_fits w from t r q after low m = omega (arith, m.count, cut_room (room - from) w)

  -- known by the answer that is left
  by_answer :
      (w : Listing S) (from : ℕ) (t : K) (r : Outcome) (q : S) (after : K) (a : Listed) → cut (room - from) w ≡ a
      → r.answer ≡ a.answer → r.place ≡ a.place → r.count ≡ from + length a.entries → after ≡ keep put t from a.entries
      → (r.answer ≡ Accepted → q ≡ w.state) → Walked put w room from t r q after
  by_answer w from t r q after a e answer place count kept ends_in = record {
    answer = answer ∙ sym (ap (λ (x : Listed). x.answer) e);
    place = place ∙ sym (ap (λ (x : Listed). x.place) e);
    count = count ∙ sym (ap (λ (x : Listed). from + length x.entries) e);
    kept = kept ∙ sym (ap (λ (x : Listed). keep put t from x.entries) e);
    ends_in = ends_in;
  }

  -- ### Nothing more is listed

  -- no entry of the listing that was left had room, or there was none
  nothing :
      (w : Listing S) (from : ℕ) (t : K) (a : Answer) (p : ℕ) (q : S)
      → cut (room - from) w ≡ plain a p [] → (a ≡ Accepted → q ≡ w.state) → Walked put w room from t (record { answer = a; place = p; count = from }) q t
  unfolding keep
  nothing w from t a p q e st = let same : from ≡ from + 0 = omega arith in by_answer w from t _ q t (plain a p []) e refl refl same refl st

  pub stopped : (w : Listing S) (from : ℕ) (t : K) (a : Answer) (p : ℕ) (q : S) → w ≡ ended a p q
      → Walked put w room from t (record { answer = a; place = p; count = from }) q t
  stopped w from t a p q e =
      nothing w from t a p q (ap (cut (room - from)) e ∙ cut_ended (room - from) a p q) (λ _. sym (ap (λ (x : Listing S). x.state) e))

  pub full :
      (w : Listing S) (from : ℕ) (t : K) (e : Entry) (more : Listing S) (at : ℕ) (q : S)
      → w ≡ e ◂ more → e.block.place ≡ at → from ≡ room → Walked put w room from t (record { answer = Err TableFull; place = at; count = from }) q t
  full w from t e more at q h here no_room =
      let none : room - from ≡ 0 = omega arith in
      nothing w from t (Err TableFull) at q
      (ap (cut (room - from)) h ∙ ap (λ (n : ℕ). cut n (e ◂ more)) none ∙ cut_full e more ∙ ap (λ (p : ℕ). plain (Err TableFull) p []) here)
      (λ z. absurd (not_accepted refl z))

  -- ### Entries, and what follows them

  one_more :
      (w : Listing S) (from : ℕ) (t : K) (e : Entry) (r : Outcome) (q : S) (after : K) → from < room
      → Walked put w room (from + 1) (put t from e) r q after → Walked put (e ◂ w) room from t r q after
  unfolding keep
  one_more w from t e r q after h m =
      let left : room - from ≡ suc (room - (from + 1)) = omega arith in
      by_answer (e ◂ w) from t r q after (first e (cut (room - (from + 1)) w)) (ap (λ (n : ℕ). cut n (e ◂ w)) left ∙ cut_first _ e w)
      m.answer m.place (omega (arith, m.count)) m.kept m.ends_in

  pub many_more :
      (es : List Entry) (w : Listing S) (from mid : ℕ) (t : K) (r : Outcome) (q : S) (after : K) → mid ≡ from + length es → mid ≤ room
      → Walked put w room mid (keep put t from es) r q after → Walked put (es ⧺ w) room from t r q after
  unfolding keep
  many_more [] w from mid t r q after e h m = subst (λ (n : ℕ). Walked put w room n t r q after) (omega arith) m
  many_more (x ∷ es) w from mid t r q after e h m =
      one_more (es ⧺ w) from t x r q after (omega arith) (many_more es w (from + 1) mid (put t from x) r q after (omega arith) h m)

  -- ### The arms: t' is what is kept, with the entry put

  pub leafed :
      (w : Listing S) (from : ℕ) (t t' : K) (e : Entry) (next : Listing S) (r : Outcome) (q : S) (after : K)
      → w ≡ e ◂ next → from < room → t' ≡ put t from e → Walked put next room (from + 1) t' r q after → Walked put w room from t r q after
  leafed w from t t' e next r q after h fits is m =
      subst (λ (x : Listing S). Walked put x room from t r q after) (sym h)
      (one_more next from t e r q after fits (subst (λ (x : K). Walked put next room (from + 1) x r q after) is m))

  -- an inside that refuses is the answer
  pub halts :
      (b : Bool) (w : Listing S) (rest : Rest S) (from : ℕ) (t : K) (o : Outcome) (x : S) (mid : K)
      → is_accepted w.answer ≡ b → (o.answer ≡ Accepted → ⊥) → Walked put w room from t o x mid → Walked put (then_by b w rest) room from t o x mid
  halts false w rest from t o x mid e some m = m
  halts true w rest from t o x mid e some m =
      by_answer (w.entries ⧺ rest w.place w.state) from t o x mid (cut (room - from) w)
      (cut_over (room - from) w (rest w.place w.state) (λ z. some (m.answer ∙ z ∙ accepted_is w.answer e)))
      m.answer m.place m.count m.kept (λ z. absurd (some z))

  -- an inside that was listed whole is followed by the rest
  pub goes_on :
      (w : Listing S) (rest : Rest S) (from : ℕ) (t : K) (o : Outcome) (x : S) (mid : K) (r : Outcome) (q : S) (after : K)
      → from ≤ room → o.answer ≡ Accepted → Walked put w room from t o x mid
      → Walked put (rest w.place x) room o.count mid r q after → Walked put (and_then w rest) room from t r q after
  goes_on w rest from t o x mid r q after low whole m on =
      let all = cut_whole (room - from) w (sym m.answer ∙ whole) in
      let accepted : w.answer ≡ Accepted = sym (ap (λ (a : Listed). a.answer) all) ∙ sym m.answer ∙ whole in
      let counted : o.count ≡ from + length w.entries = m.count ∙ ap (λ (a : Listed). from + length a.entries) all in
      let kept : mid ≡ keep put t from w.entries = m.kept ∙ ap (λ (a : Listed). keep put t from a.entries) all in
      subst (λ (b : Bool). Walked put (then_by b w rest) room from t r q after) (sym (accepted_yes accepted))
      (many_more w.entries (rest w.place w.state) from o.count t r q after counted (count_fits w from t o x mid low m)
      (subst (λ (k : K). Walked put (rest w.place w.state) room o.count k r q after) kept
      (subst (λ (s : S). Walked put (rest w.place s) room o.count mid r q after) (m.ends_in whole) on)))

  pub halted :
      (w : Listing S) (from : ℕ) (t t' : K) (e : Entry) (inside : Listing S) (rest : Rest S) (o : Outcome) (x : S) (mid : K)
      → w ≡ e ◂ and_then inside rest → from < room → t' ≡ put t from e → Walked put inside room (from + 1) t' o x mid → (o.answer ≡ Accepted → ⊥)
      → Walked put w room from t o x mid
  halted w from t t' e inside rest o x mid h fits is m some =
      leafed w from t t' e (and_then inside rest) o x mid h fits is (halts (is_accepted inside.answer) inside rest (from + 1) t' o x mid refl some m)

  pub went_on :
      (w : Listing S) (from : ℕ) (t t' : K) (e : Entry) (inside : Listing S) (rest : Rest S)
      (o : Outcome) (x : S) (mid : K) (r : Outcome) (q : S) (after : K)
      → w ≡ e ◂ and_then inside rest → from < room → t' ≡ put t from e → Walked put inside room (from + 1) t' o x mid → o.answer ≡ Accepted
      → Walked put (rest inside.place x) room o.count mid r q after → Walked put w room from t r q after
  went_on w from t t' e inside rest o x mid r q after h fits is m whole on =
      leafed w from t t' e (and_then inside rest) r q after h fits is (goes_on inside rest (from + 1) t' o x mid r q after (omega arith) whole m on)
