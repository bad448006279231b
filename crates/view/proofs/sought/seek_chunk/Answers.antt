use mathlib.Core.Path.{sym, ap, ◌∙◌}
use Prim.Native.Nat.{ℕ, ◌+◌}
use Rattle.std.specs.Prelude.{Ok, Err}
use Rattle.headers.specs.BlockHeader.{block_header_size}
use Rattle.listing.specs.declared.question.Found.{Found}
use Rattle.listing.specs.Question.{question}
use Rattle.view.specs.declared.not_shown.NotShown.TheVariants.{Lacks}
use Rattle.view.specs.Asked.{asked, chunk_sought}
use Rattle.view.proofs.Asked.{went_on, told_on, is_there_lem, not_there, sought_there, sought_missing}
use Rattle.view.proofs.sought.seek_chunk.Goals as goal

pub returns-in_err-seen : goal.returns-in_err-seen
unfolding chunk_sought
returns-in_err-seen c = told_on _ _ c.seek-seen.ensures.0 c.in_err-seen.was c.from_residual.ensures.1 _

pub returns-then-question-found : goal.returns-then-question-found
returns-then-question-found c =
    let found = c.seek-seen.ensures.1 in
    ap (λ (x : Found). Ok (x.entry.block.place + block_header_size)) found
    ∙ sym (sought_there _ _ _ _ _ (went_on _ _ c.seek-seen.ensures.0 c.in_ok-seen.was) (is_there_lem (question _ 0 _) _ _ found c.if-question-found.true))

pub returns : goal.returns
returns c =
    let found = c.seek-seen.ensures.1 in
    ap Err c.into.ensures
    ∙ sym (sought_missing _ _ _ _ _ (went_on _ _ c.seek-seen.ensures.0 c.in_ok-seen.was) (not_there (question _ 0 _) _ _ found c.if-question-found.false))
