-- One turn of the pencil, beside the walk of the listing: it says what the listing has, or it goes where the walk goes, and less is left.
use mathlib.Core.Path.{◌≡◌, refl, sym, ap, subst, subst⁻¹, ◌∙◌}
use mathlib.Core.Bool.{true}
use mathlib.Core.List.{List, [], ◌∷◌, ◌++◌}
use Prim.Native.Nat.{ℕ, ◌+◌, ◌-◌, ◌*◌, ◌≤◌, ◌<◌}
use native.Mathlib.Omega.{arith}
use borrow.Author.Tests.{eqb-true, eqb-false, lt-ltb, le-ltb}
use lib.ListN.{length, get_or, length-append}
use Rattle.std.specs.Prelude.{Ok, Err}
use Rattle.std.specs.declared.ops.ControlFlow.TheVariants.{Continue, Break}
use Rattle.laws.proofs.Choice.{pick_yes, pick_no, pick_ind}
use Rattle.answer.specs.Answers.{Answer, is_accepted}
use Rattle.answer.proofs.Names.{not_accepted}
use Rattle.entry.specs.declared.Entry.{Entry}
use Rattle.entry.specs.Entry.{nowhere}
use Rattle.walk.specs.Walk.{End, run}
use Rattle.walk.specs.Room.{Listed, cut}
use Rattle.walk.specs.Owed.{Ends, Moves, ends, stops, leaf, nest}
use Rattle.walk.specs.Course as course
use Rattle.walk.specs.Course.{Stand, stand, seen, Course, at_end, by_rule, Finds, as_leaf, as_nest, Answered, said, full}
use Rattle.walk.proofs.Cut.{plain}
use Rattle.walk.proofs.Course.{Fits, fits, owed}
use Rattle.walk.proofs.Exact.{only, next_listed}
use Rattle.headers.specs.FileHeader.{file_header_size}
use Rattle.memory.specs.declared.state.State.{State}
use Rattle.memory.specs.Parent.{main}
use Rattle.memory.specs.State.{start}
use Rattle.kinds.specs.Blocks.{Judged}
use Rattle.block.specs.Step.{step_at}
use Rattle.block.proofs.Owed.{moves}
use Rattle.listing.specs.Listing.{head_of, beyond, listed}
use Rattle.listing.proofs.Heads.{behind_head, good_small}
use Rattle.pencil.specs.declared.paper.Inside.{Inside}
use Rattle.pencil.specs.declared.paper.Paper.{Paper}
use Rattle.pencil.specs.Pencil.{Reply, Turn, paper, first, levels_of, out_of, passed, turn_by, turn_at}
use Rattle.pencil.specs.Standing.{Standing}
use Rattle.pencil.specs.Agrees.{answer_of, asked}
use Rattle.pencil.proofs.Stands.{inside_of, levels_are, entered_is, around_far, paper_of, end_is, rule_seen}

-- what is left to do: bytes to pass, and blocks to go out of
abbrev pub left : List ℕ → Paper → ℕ
left s p = 3 * (length s - p.place) + (main - levels_of p.inside)

module _ (s : List ℕ) (good : is_accepted (head_of s).answer ≡ true) (room k : ℕ) where
  -- the walk of the listing, behind the file header
  abbrev On : List Entry → Stand State → Type 0
  On = Course (step_at s) main (stand file_header_size beyond [] start)

  in_order : file_header_size ≤ beyond
  in_order = omega arith

  all_levels : main ≤ main
  all_levels = omega arith

  -- the paper says where the walk stands, and the entry asked for is not passed yet
  pub record Reached (p : Paper) : Type 0 where
    pub entries : List Entry
    pub stands : Stand State
    pub course : On entries stands
    pub is : p ≡ paper_of stands (length entries)
    pub fits : length entries ≤ room
    pub ahead : length entries ≤ k

  pub data Next (p : Paper) : Turn → Type 0 where
    last : {r : Reply} → r ≡ asked (listed s room) k → Next p (Break r)
    on : {q : Paper} → Reached q → left s q < left s p → Next p (Continue q)

  pub gone : {p q : Paper} → Next p (Continue q) → Reached q × (left s q < left s p)
  gone (on r less) = (r, less)

  -- both start at one place
  pub at_first : Reached first
  at_first = record {
    entries = [];
    stands = stand file_header_size beyond [] start;
    course = course.start;
    is = refl;
    fits = omega arith;
    ahead = omega arith;
  }

  -- the listing's answer, where it has no entry k
  final_is : (a : Listed) → a ≡ listed s room → length a.entries ≤ k → Err (answer_of a) ≡ asked (listed s room) k
  unfolding asked
  final_is a is h = sym (pick_no _ _ _ (le-ltb k (length a.entries) h)) ∙ ap (λ (b : Listed). asked b k) is

  walked : listed s room ≡ cut room (run (step_at s) (length s) start file_header_size beyond main)
  walked = ap (cut room) (behind_head s good)

  module _ {es : List Entry} {x : Stand State} (c : On es x) (enough : length es ≤ room) (ahead : length es ≤ k) where
    abbrev here : Paper
    here = paper_of x (length es)

    fit : Fits main (length s) (step_at s) (moves s) main all_levels start file_header_size beyond in_order x
    fit = fits main (length s) (step_at s) (moves s) main all_levels start file_header_size beyond in_order c

    -- ### It says what the listing has

    answered_is :
        {j : Judged} {a : Answer} {place : ℕ} → seen (step_at s) main x ≡ j → Answered room es x j a place
        → Err (record { answer = a; place = place; count = length es }) ≡ asked (listed s room) k
    answered_is {j} {a} {place} is h =
        final_is (plain a place es) (only main (length s) (step_at s) (moves s) start file_header_size beyond main in_order all_levels room c is h ∙ sym walked) ahead

    found_is : {j : Judged} {e : Entry} → seen (step_at s) main x ≡ j → Finds e j → length es < room → length es ≡ k → Ok e ≡ asked (listed s room) k
    unfolding asked
    found_is {j} {e} is finds some here =
        let n = next_listed main (length s) (step_at s) (moves s) start file_header_size beyond main in_order all_levels room c is finds some nowhere in
        subst (λ (i : ℕ). Ok e ≡ asked (listed s room) i) here
        (ap Ok (sym n.1 ∙ ap (λ (a : Listed). get_or a.entries (length es) nowhere) (sym walked))
        ∙ sym (pick_yes _ _ _ (lt-ltb (length es) (length (listed s room).entries) (omega (arith, n.0, ap (λ (a : Listed). length a.entries) walked)))))

    -- ### Or it goes on

    -- past an entry
    passes :
        {j : Judged} {e : Entry} (place : ℕ) (inside : Inside) (q : State) (y : Stand State) → seen (step_at s) main x ≡ j → Finds e j → On (es ++ e ∷ []) y
        → paper place inside q (length es + 1) ≡ paper_of y (length es + 1) → left s (paper place inside q (length es + 1)) < left s here
        → Next here (passed room k here e place inside q)
    unfolding passed
    passes {j} {e} place inside q y is finds c' stands less =
        let count : length es + 1 ≡ length (es ++ e ∷ []) = omega (arith, length-append es (e ∷ [])) in
        pick_ind (Next here) _ _ _ (λ no. last (answered_is is (full e finds (eqb-true (length es) room no))))
        (λ some. pick_ind (Next here) _ _ _ (λ it. last (found_is is finds (omega (arith, eqb-false (length es) room some)) (eqb-true (length es) k it)))
        (λ other. on (record {
          entries = es ++ e ∷ [];
          stands = y;
          course = c';
          is = stands ∙ ap (paper_of y) count;
          fits = omega (arith, eqb-false (length es) room some, count);
          ahead = omega (arith, eqb-false (length es) k other, count);
        }) less))

    -- out of the blocks that are open
    leaves :
        (bs : List ℕ) → x.around ≡ bs → seen (step_at s) main x ≡ End → Ends (length s) main x.at x.end (main - length x.around)
        → Next here (out_of here (inside_of x.end bs))
    unfolding out_of
    leaves [] whole is m = last (answered_is is (said at_end (λ _. whole) enough))
    leaves (b ∷ []) inside is m =
        on (record { entries = es; stands = stand x.end b [] x.state; course = course.leave c inside is; is = refl; fits = enough; ahead = ahead })
        (omega (arith, m.inside (omega (arith, ap length inside)), levels_are x.end x.around, ap length inside))
    leaves (b ∷ d ∷ []) inside is m =
        on (record { entries = es; stands = stand x.end b (d ∷ []) x.state; course = course.leave c inside is; is = refl; fits = enough; ahead = ahead })
        (omega (arith, m.inside (omega (arith, ap length inside)), levels_are x.end x.around, ap length inside))
    leaves (b ∷ d ∷ f ∷ fs) inside is m = absurd (omega (arith, fit.deep, ap length inside))

    -- by what the rule gives there
    turns : {j : Judged} → seen (step_at s) main x ≡ j → Moves (length s) main x.at x.end (main - length x.around) j → Next here (turn_by room k here j)
    unfolding turn_by
    turns is (ends m) = leaves x.around refl is m
    turns is (stops {r} {p} m) = last (answered_is is (said by_rule (λ z. absurd (not_accepted refl z)) enough))
    turns is (leaf {e} {next} {q} m) =
        passes next _ q (stand next x.end x.around q) is as_leaf (course.leaf c is) refl (omega (arith, m.on, m.present))
    turns is (nest {e} {inside} {after} {q} m) =
        let opens = entered_is after x.end x.around in
        passes inside _ q (stand inside after (x.end ∷ x.around) q) is as_nest (course.nest c is)
        (ap (λ (i : Inside). paper inside i q (length es + 1)) opens)
        (omega (arith, m.owns.on, m.owns.present, ap levels_of opens, levels_are after (x.end ∷ x.around), levels_are x.end x.around))

    turned : Next here (turn_at s room k here)
    unfolding turn_at
    turned =
        subst⁻¹ (λ (j : Judged). Next here (turn_by room k here j)) (rule_seen s x (length es) fit.outer)
        (turns refl (owed main (length s) (step_at s) (moves s) main all_levels start file_header_size beyond in_order fit refl))

    stood : Standing s room here
    stood = record {
      small = good_small s good;
      order = omega (arith, fit.here, end_is x fit.outer);
      near = omega (arith, end_is x fit.outer, around_far x.end x.around fit.around, fit.outer);
      few = enough;
    }

  -- so the code may look there
  pub standing : {p : Paper} → Reached p → Standing s room p
  standing r = subst⁻¹ (Standing s room) r.is (stood r.course r.fits r.ahead)

  pub next : {p : Paper} → Reached p → Next p (turn_at s room k p)
  next r = subst⁻¹ (λ (p : Paper). Next p (turn_at s room k p)) r.is (turned r.course r.fits r.ahead)
