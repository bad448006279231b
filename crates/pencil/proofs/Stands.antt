-- The paper beside the walk of the listing: where a course stands, such a paper says the same.
use mathlib.Core.Path.{◌≡◌, refl, sym, ap₂}
use mathlib.Core.List.{List, [], ◌∷◌}
use Prim.Native.Nat.{ℕ, ◌-◌, ◌≤◌}
use native.Mathlib.Omega.{arith}
use lib.ListN.{length}
use Rattle.walk.specs.Course.{Stand, seen}
use Rattle.walk.proofs.Course.{Around, outermost}
use Rattle.memory.specs.declared.state.State.{State}
use Rattle.memory.specs.Parent.{main}
use Rattle.block.specs.Step.{step_at}
use Rattle.listing.specs.Listing.{beyond}
use Rattle.pencil.specs.declared.paper.Inside.{Inside}
use Rattle.pencil.specs.declared.paper.Inside.TheVariants.{Nothing, One, Two}
use Rattle.pencil.specs.declared.paper.Paper.{Paper}
use Rattle.pencil.specs.Pencil.{paper, end_of, levels_of, entered, rule_at}

-- ### The open blocks

pub levels_low : (i : Inside) → levels_of i ≤ main
levels_low Nothing = omega arith
levels_low (One end) = omega arith
levels_low (Two end outer) = omega arith

-- by the end of the inner one, and the ends around it
abbrev pub inside_of : ℕ → List ℕ → Inside
inside_of a [] = Nothing
inside_of a (b ∷ []) = One a
inside_of a (b ∷ c ∷ cs) = Two a b

inner_end : (a : ℕ) (bs : List ℕ) → outermost a bs ≡ beyond → end_of (inside_of a bs) ≡ a
inner_end a [] h = sym h
inner_end a (b ∷ []) h = refl
inner_end a (b ∷ c ∷ cs) h = refl

pub levels_are : (a : ℕ) (bs : List ℕ) → levels_of (inside_of a bs) ≡ main - length bs
levels_are a [] = omega arith
levels_are a (b ∷ []) = omega arith
levels_are a (b ∷ c ∷ cs) = omega arith

pub entered_is : (end a : ℕ) (bs : List ℕ) → entered end (inside_of a bs) ≡ inside_of end (a ∷ bs)
entered_is end a [] = refl
entered_is end a (b ∷ []) = refl
entered_is end a (b ∷ c ∷ cs) = refl

-- the inner one ends before the others do
pub around_far : (a : ℕ) (bs : List ℕ) → Around a bs → a ≤ outermost a bs
around_far a [] h = omega arith
around_far a (b ∷ bs) h = omega (arith, h.0, around_far b bs h.1)

-- ### The paper

abbrev pub paper_of : Stand State → ℕ → Paper
paper_of x n = paper x.at (inside_of x.end x.around) x.state n

pub end_is : (x : Stand State) → outermost x.end x.around ≡ beyond → end_of (inside_of x.end x.around) ≡ x.end
end_is x h = inner_end x.end x.around h

-- both see the same there
pub rule_seen :
    (s : List ℕ) (x : Stand State) (n : ℕ) → outermost x.end x.around ≡ beyond → rule_at s (paper_of x n) ≡ seen (step_at s) main x
rule_seen s x n h =
    ap₂ (λ (end levels : ℕ). step_at s x.state x.at end levels) (end_is x h) (levels_are x.end x.around)
