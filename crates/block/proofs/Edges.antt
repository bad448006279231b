-- What is known of a place before a header is read makes its step.
use mathlib.Core.Path.{◌≡◌, refl, sym, ap, ◌∙◌}
use mathlib.Core.Bool.{Bool, true, false}
use mathlib.Core.List.{List}
use Prim.Native.Nat.{ℕ, ◌-◌}
use lib.Dec.{eqb, ltb}
use lib.ListN.{length}
use Rattle.std.specs.Prelude.{Result, Ok, Err}
use Rattle.laws.specs.Choice.{pick}
use Rattle.answer.specs.declared.Refusal.TheVariants.{EndsTooSoon, WrongLength, Missing}
use Rattle.walk.specs.Walk as walk
use Rattle.headers.specs.BlockHeader.{block_header_size}
use Rattle.memory.specs.declared.state.State.{State}
use Rattle.memory.specs.Parent.{main, parent_at}
use Rattle.memory.specs.State.{is_full}
use Rattle.kinds.specs.declared.answers.Stop.{Stop}
use Rattle.kinds.specs.Blocks.{unless}
use Rattle.block.specs.declared.looking.Edge.{Edge}
use Rattle.block.specs.declared.looking.Edge.TheVariants.{End, Block}
use Rattle.block.specs.Step.{block_at, step_at}
use Rattle.block.specs.Edge.{edge_of, edged}

module _ (s : List ℕ) (st : State) (at end levels : ℕ) where
  -- the tests of the main level and those of a parent, once for both
  by_tests :
      (top whole none few full : Bool)
      → edged s st at end levels
      (pick (pick top whole none) (pick full (Ok End) (Err (record { refusal = pick top EndsTooSoon Missing; place = at })))
      (pick (pick top false few) (Err (record { refusal = WrongLength; place = at })) (Ok Block)))
      ≡ pick top (pick whole (unless full (walk.Stop EndsTooSoon at) walk.End) (block_at s st at end levels))
      (pick none (unless full (walk.Stop Missing at) walk.End) (pick few (walk.Stop WrongLength at) (block_at s st at end levels)))
  unfolding pick
  by_tests true true none few true = refl
  by_tests true true none few false = refl
  by_tests true false none few full = refl
  by_tests false whole true few true = refl
  by_tests false whole true few false = refl
  by_tests false whole false true full = refl
  by_tests false whole false false full = refl

  pub edge_step : edged s st at end levels (edge_of s st at end levels) ≡ step_at s st at end levels
  unfolding edge_of step_at
  edge_step =
      by_tests (eqb levels main) (eqb at (length s)) (eqb at end) (ltb (end - at) block_header_size) (is_full st (parent_at st.opened levels))

  -- so where that is known, the step is
  pub edge_known : {e : Result Edge Stop} → edge_of s st at end levels ≡ e → edged s st at end levels e ≡ step_at s st at end levels
  edge_known is = ap (edged s st at end levels) (sym is) ∙ edge_step
