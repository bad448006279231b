-- What holds of a chunk's answer, whether a field is at fault or not. The crate `block` shows by it that its rules wait for input.
use mathlib.Core.Path.{◌≡◌, refl}
use Prim.Native.Nat.{ℕ, ◌+◌}
use Rattle.std.specs.Prelude.{Option, None, Some, Result}
use Rattle.std.specs.Result.{IsErrAnd}
use Rattle.std.proofs.lemmas.Result.{err_from_is_err_and}
use Rattle.entry.specs.declared.Entry.{Entry}
use Rattle.walk.specs.Walk.{Step, Stop, Nest}
use Rattle.headers.specs.BlockHeader.{block_header_size}
use Rattle.memory.specs.declared.state.State.{State}
use Rattle.kinds.specs.Blocks.{Judged, told, wrong_field, permitted}
use Rattle.kinds.specs.declared.answers.Stop as stop
use Rattle.kinds.specs.declared.answers.Step as code

-- what holds of every fault's answer, and of the rest where there is no fault, holds of the judgement
pub permitted_ind : (P : Step State → Type 0) (f : Option ℕ) (chunk : ℕ) (rest : Step State) → ((offset : ℕ) → f ≡ Some offset → P (wrong_field chunk offset)) → (f ≡ None → P rest) → P (permitted f chunk rest)
unfolding permitted
permitted_ind P None chunk rest bad good = good refl
permitted_ind P (Some offset) chunk rest bad good = bad offset refl

-- a relation between two answers
pub permitted_ind₂ :
    (P : Step State → Step State → Type 0) (f : Option ℕ) (chunk : ℕ) (rest rest' : Step State)
    → ((offset : ℕ) → P (wrong_field chunk offset) (wrong_field chunk offset)) → P rest rest' → P (permitted f chunk rest) (permitted f chunk rest')
unfolding permitted
permitted_ind₂ P None chunk rest rest' bad good = good
permitted_ind₂ P (Some offset) chunk rest rest' bad good = bad offset

-- what a `?` hands on is told as the answer of the test that stopped
pub handed_on : (r : Result code.Step stop.Stop) {e : stop.Stop} {k : Judged} → IsErrAnd r (λ x. x ≡ e) → Stop e.refusal e.place ≡ k → told r ≡ k
handed_on r left is = let p = err_from_is_err_and r left in rw (p.1, p.2) is

-- what a chunk's fields make of a block that is entered behind it
abbrev pub nest_judged : ℕ → ℕ → ℕ → Entry → Option ℕ → State → Judged
nest_judged total at size entry fault state =
    permitted fault (at + block_header_size) (Nest entry (at + (block_header_size + size)) state (at + block_header_size + total))
