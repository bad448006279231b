use mathlib.Core.Path.{◌≡◌, sym, ap, ap₂, subst⁻¹, ◌∙◌}
use mathlib.Core.Bool.{not}
use mathlib.Core.List.{List}
use Prim.Native.Nat.{ℕ, ◌+◌, ◌≤◌}
use native.Mathlib.Omega.{arith}
use lib.ListN.{length}
use Rattle.std.specs.Prelude.{Ok}
use Rattle.answer.proofs.Names.{accepted_is, not_accepted}
use Rattle.walk.proofs.LoopTurn.{OnLeaf, Turn, turn}
use Rattle.entry.specs.declared.Entry.{Entry}
use Rattle.memory.specs.declared.state.State.{State}
use Rattle.memory.specs.Parent.{main}
use Rattle.kinds.specs.Blocks.{told}
use Rattle.block.specs.Step.{step_at}
use Rattle.block.proofs.Owed.{moves}
use Rattle.plain.proofs.SkipStep.{behind_skip}
use Rattle.listing.specs.declared.question.Question.{Question}
use Rattle.listing.specs.declared.question.Found.{Found}
use Rattle.listing.specs.Question.{noted, kept, put}
use Rattle.listing.proofs.Noted.{one_few, walked_few}
use Rattle.listing.proofs.PassedOn.{skips_on, layer_halts, layer_on, layer_ended, layer_few}
use Rattle.listing.proofs.walker.+enter_siblings.Goals as goal
use Rattle.listing.proofs.walker.+enter_siblings.Invariants.{Going}

-- where no plain layer stands, the table is as it was
joined :
    {q : Question} {s : List ℕ} {end levels room : ℕ} {t₀ : List ℕ} {st₀ : State} {at₀ from₀ : ℕ} {x₀ : Found}
    {t t' : List ℕ} {st : State} {at from : ℕ} {x : Found} → t' ≡ t
    → Going q s end levels room t₀ st₀ at₀ from₀ x₀ t st at from x → Going q s end levels room t₀ st₀ at₀ from₀ x₀ t' st at from x
joined {q} {s} {end} {levels} {room} {t₀} {st₀} {at₀} {from₀} {x₀} {st} {at} {from} {x} e =
    subst⁻¹ (λ (table : List ℕ). Going q s end levels room t₀ st₀ at₀ from₀ x₀ table st at from x) e

-- the turn at a place where the walk goes on
turn_at :
    {q : Question} {s : List ℕ} {end levels room : ℕ} {t₀ : List ℕ} {st₀ : State} {at₀ from₀ : ℕ} {x₀ : Found}
    {t : List ℕ} {st : State} {at from : ℕ} {x : Found} → levels ≤ main → Going q s end levels room t₀ st₀ at₀ from₀ x₀ t st at from x
    → Turn (put q) (length s) (step_at s) st at end levels room from (kept t x)
turn_at {q} {s} {end} {levels} {room} {t} {st} {at} {from} {x} low i =
    turn (put q) (length s) (step_at s) st at end levels room from (kept t x) main (moves s) i.order low i.fits

-- behind a leaf
behind_leaf :
    {q : Question} {s : List ℕ} {end levels room : ℕ} {t₀ : List ℕ} {st₀ : State} {at₀ from₀ : ℕ} {x₀ : Found}
    {t t' : List ℕ} {st st' : State} {at next count : ℕ} {x x' : Found} {e : Entry}
    → Going q s end levels room t₀ st₀ at₀ from₀ x₀ t st at count x
    → OnLeaf (put q) (length s) (step_at s) st at end levels room count (kept t x) e next st'
    → (count ≡ room → ⊥) → kept t' x' ≡ put q (kept t x) count e → length t' ≡ length t → x'.count ≤ count + 1
    → Going q s end levels room t₀ st₀ at₀ from₀ x₀ t' st' next (count + 1) x'
behind_leaf i f some is long few = record {
  order = f.owns.within;
  fits = omega (arith, i.fits);
  few = few;
  same = long ∙ i.same;
  on = λ r q after m. i.on r q after (f.on some _ is r q after m);
}

-- ### A layer with its channels: it is complete, or what else it holds is walked

pub siblings-loop-p-preserved-then-complete : goal.siblings-loop-p-preserved-then-complete
siblings-loop-p-preserved-then-complete t c =
    let a = c.args in
    let i = c.loop-p.invariant in
    let plain = c.in-Some.ensures.plain.0 in
    let unasked = c.in-Some.ensures.plain.2 in
    let found = c.note-found.ensures ∙ ap (noted a.question c.loop-p.found) c.layer_entry.ensures in
    let few = layer_few a.stretch.input.now a.question a.stretch.end a.levels a.stretch.room c.requires.0 c.loop-p.state c.loop-p.at c.loop-p.count c.loop-p.table _ _ i.order plain unasked c.loop-p.found c.note-found.result found i.few in
    let on = layer_ended a.stretch.input.now a.question a.stretch.end a.levels a.stretch.room c.requires.0 c.loop-p.state c.loop-p.at c.loop-p.count c.loop-p.table _ _ i.order plain unasked c.loop-p.found c.note-found.result found (sym c.complete.ensures ∙ c.if-complete.true) in
    record {
      order = plain.within;
      fits = plain.stores.fits;
      few = few;
      same = c.layer.auto.table ∙ i.same;
      on = λ r q after m. i.on r q after (on r q after m);
    }

pub siblings-enter-o-requires : goal.siblings-enter-o-requires
siblings-enter-o-requires t c =
    let a = c.args in
    let i = c.loop-p.invariant in
    let plain = c.in-Some.ensures.plain.0 in
    let unasked = c.in-Some.ensures.plain.2 in
    let found = c.note-found.ensures ∙ ap (noted a.question c.loop-p.found) c.layer_entry.ensures in
    let few = layer_few a.stretch.input.now a.question a.stretch.end a.levels a.stretch.room c.requires.0 c.loop-p.state c.loop-p.at c.loop-p.count c.loop-p.table _ _ i.order plain unasked c.loop-p.found c.note-found.result found i.few in
    omega (arith, plain.stores.within, plain.stores.fits, plain.within, few, c.in-Some.ensures.plain.1, c.requires)

pub siblings-returns-then-is_err : goal.siblings-returns-then-is_err
siblings-returns-then-is_err t c =
    let a = c.args in
    let i = c.loop-p.invariant in
    let plain = c.in-Some.ensures.plain.0 in
    let unasked = c.in-Some.ensures.plain.2 in
    let found = c.note-found.ensures ∙ ap (noted a.question c.loop-p.found) c.layer_entry.ensures in
    i.on _ _ _
    (layer_halts a.stretch.input.now a.question a.stretch.end a.levels a.stretch.room c.requires.0 c.loop-p.state c.loop-p.at c.loop-p.count c.loop-p.table _ _ i.order plain unasked c.loop-p.found c.note-found.result found _ _ _ c.enter-o.ensures
    (not_accepted (c.is_err.ensures.negation ∙ ap not c.if-is_err.true)))

pub siblings-loop-p-preserved-in-Some : goal.siblings-loop-p-preserved-in-Some
siblings-loop-p-preserved-in-Some t c =
    let a = c.args in
    let i = c.loop-p.invariant in
    let plain = c.in-Some.ensures.plain.0 in
    let unasked = c.in-Some.ensures.plain.2 in
    let found = c.note-found.ensures ∙ ap (noted a.question c.loop-p.found) c.layer_entry.ensures in
    let few = layer_few a.stretch.input.now a.question a.stretch.end a.levels a.stretch.room c.requires.0 c.loop-p.state c.loop-p.at c.loop-p.count c.loop-p.table _ _ i.order plain unasked c.loop-p.found c.note-found.result found i.few in
    let on = layer_on a.stretch.input.now a.question a.stretch.end a.levels a.stretch.room c.requires.0 c.loop-p.state c.loop-p.at c.loop-p.count c.loop-p.table _ _ i.order plain unasked c.loop-p.found c.note-found.result found _ _ _ c.enter-o.ensures
    (accepted_is _ (c.is_err.ensures.negation ∙ ap not c.if-is_err.false)) in
    record {
      order = plain.within;
      fits = on.0;
      few = walked_few _ _ _ _ _ _ _ _ _ _ few c.enter-o.ensures;
      same = c.enter-o.auto.table ∙ c.layer.auto.table ∙ i.same;
      on = λ r q after m. i.on r q after (on.1 r q after m);
    }

-- ### An end, and a refusal

pub siblings-returns-in-Ok-End : goal.siblings-returns-in-Ok-End
siblings-returns-in-Ok-End t c =
    let going = joined (c.layer.ensures.other c.in_default.is) c.loop-p.invariant in
    let here = turn_at c.requires.0 going in
    rw c.leave.ensures (going.on _ _ _ (here.ends (sym c.look.ensures ∙ ap told (c.in-Ok-End.is ∙ ap Ok c.in-Ok-End.field-0-is))))

pub siblings-returns-in-Err : goal.siblings-returns-in-Err
siblings-returns-in-Err t c =
    let going = joined (c.layer.ensures.other c.in_default.is) c.loop-p.invariant in
    let here = turn_at c.requires.0 going in
    rw c.leave-in-Err.ensures (going.on _ _ _ (here.stop (sym c.look.ensures ∙ ap told c.in-Err.is)))

-- ### A leaf

pub siblings-returns-then-count-room : goal.siblings-returns-then-count-room
siblings-returns-then-count-room t c =
    let going = joined (c.layer.ensures.other c.in_default.is) c.loop-p.invariant in
    let here = turn_at c.requires.0 going in
    let leaf = here.leaf (sym c.look.ensures ∙ ap told (c.in-Ok-Leaf.is ∙ ap Ok c.in-Ok-Leaf.field-0-is)) in
    rw c.leave-then-count-room.ensures (going.on _ _ _ (leaf.full c.if-count-room.true))

pub siblings-loop-p-smaller-else-entry-eq1 : goal.siblings-loop-p-smaller-else-entry-eq1
siblings-loop-p-smaller-else-entry-eq1 t c =
    let going = joined (c.layer.ensures.other c.in_default.is) c.loop-p.invariant in
    let here = turn_at c.requires.0 going in
    let leaf = here.leaf (sym c.look.ensures ∙ ap told (c.in-Ok-Leaf.is ∙ ap Ok c.in-Ok-Leaf.field-0-is)) in
    omega (arith, leaf.owns.on, leaf.owns.within)

pub siblings-loop-p-preserved-else-entry-eq1 : goal.siblings-loop-p-preserved-else-entry-eq1
siblings-loop-p-preserved-else-entry-eq1 t c =
    let going = joined (c.layer.ensures.other c.in_default.is) c.loop-p.invariant in
    let here = turn_at c.requires.0 going in
    let leaf = here.leaf (sym c.look.ensures ∙ ap told (c.in-Ok-Leaf.is ∙ ap Ok c.in-Ok-Leaf.field-0-is)) in
    behind_leaf going leaf c.if-count-room.false (ap₂ kept c.store.ensures c.note-found-in-Ok-Leaf.ensures) c.store.auto.table
    (one_few c.args.question c.loop-p.found c.in-Ok-Leaf.entry c.loop-p.count c.note-found-in-Ok-Leaf.ensures going.few)

-- skipped blocks behind it
pub siblings-invariant_of-behind : goal.siblings-invariant_of-behind
siblings-invariant_of-behind t c =
    let going = joined (c.layer.ensures.other c.in_default.is) c.loop-p.invariant in
    let here = turn_at c.requires.0 going in
    let leaf = here.leaf (sym c.look.ensures ∙ ap told (c.in-Ok-Leaf.is ∙ ap Ok c.in-Ok-Leaf.field-0-is)) in
    record { small = c.args.stretch.small; order = leaf.owns.within; near = c.args.stretch.near; fits = omega (arith, c.if-count-room.false, going.fits) }

pub siblings-loop-p-smaller-then-question : goal.siblings-loop-p-smaller-then-question
siblings-loop-p-smaller-then-question t c =
    let going = joined (c.layer.ensures.other c.in_default.is) c.loop-p.invariant in
    let here = turn_at c.requires.0 going in
    let leaf = here.leaf (sym c.look.ensures ∙ ap told (c.in-Ok-Leaf.is ∙ ap Ok c.in-Ok-Leaf.field-0-is)) in
    omega (arith, leaf.owns.on, leaf.owns.within, c.skips-p.ensures.stores.onward, c.skips-p.ensures.stores.within)

pub siblings-loop-p-preserved-then-question : goal.siblings-loop-p-preserved-then-question
siblings-loop-p-preserved-then-question t c =
    let going = joined (c.layer.ensures.other c.in_default.is) c.loop-p.invariant in
    let here = turn_at c.requires.0 going in
    let leaf = here.leaf (sym c.look.ensures ∙ ap told (c.in-Ok-Leaf.is ∙ ap Ok c.in-Ok-Leaf.field-0-is)) in
    let i = behind_leaf going leaf c.if-count-room.false (ap₂ kept c.store.ensures c.note-found-in-Ok-Leaf.ensures) c.store.auto.table
    (one_few c.args.question c.loop-p.found c.in-Ok-Leaf.entry c.loop-p.count c.note-found-in-Ok-Leaf.ensures going.few) in
    let p = c.skips-p.ensures in
    let begun = behind_skip c.args.stretch.input.now c.loop-p.state c.loop-p.at c.args.stretch.end c.args.levels c.requires.0 _ _ _
    (sym c.look.ensures ∙ ap told (c.in-Ok-Leaf.is ∙ ap Ok c.in-Ok-Leaf.field-0-is)) c.if-entry-eq1.true in
    let on = skips_on c.args.stretch.input.now c.args.question c.args.stretch.end c.args.levels c.args.stretch.room c.requires.0 _ (c.loop-p.count + 1) _ _ _ i.order p
    c.if-question.true c.in-Ok-Leaf.q begun c.note-found-in-Ok-Leaf.result in
    record {
      order = p.stores.within;
      fits = p.stores.fits;
      few = omega (arith, i.few, p.stores.counted);
      same = c.skips-p.auto.table ∙ i.same;
      on = λ r q after m. i.on r q after (on r q after m);
    }

-- ### A block that holds blocks

pub siblings-returns-then-count-room-2 : goal.siblings-returns-then-count-room-2
siblings-returns-then-count-room-2 t c =
    let going = joined (c.layer.ensures.other c.in_default.is) c.loop-p.invariant in
    let here = turn_at c.requires.0 going in
    let nest = here.nest (sym c.look.ensures ∙ ap told (c.in-Ok-Nest.is ∙ ap Ok c.in-Ok-Nest.field-0-is)) in
    rw c.leave-then-count-room-2.ensures (going.on _ _ _ (nest.full c.if-count-room-2.true))

pub siblings-invariant_of-inside-in-Ok-Nest : goal.siblings-invariant_of-inside-in-Ok-Nest
siblings-invariant_of-inside-in-Ok-Nest t c =
    let going = joined (c.layer.ensures.other c.in_default.is) c.loop-p.invariant in
    let here = turn_at c.requires.0 going in
    let nest = here.nest (sym c.look.ensures ∙ ap told (c.in-Ok-Nest.is ∙ ap Ok c.in-Ok-Nest.field-0-is)) in
    let o = nest.opens in
    record {
      small = c.args.stretch.small;
      order = o.order;
      near = omega (arith, o.within, c.args.stretch.near);
      fits = omega (arith, c.if-count-room-2.false, going.fits);
    }

pub siblings-enter-o-requires-in-Ok-Nest : goal.siblings-enter-o-requires-in-Ok-Nest
siblings-enter-o-requires-in-Ok-Nest t c =
    let going = joined (c.layer.ensures.other c.in_default.is) c.loop-p.invariant in
    let here = turn_at c.requires.0 going in
    let nest = here.nest (sym c.look.ensures ∙ ap told (c.in-Ok-Nest.is ∙ ap Ok c.in-Ok-Nest.field-0-is)) in
    let few = one_few c.args.question c.loop-p.found c.in-Ok-Nest.entry c.loop-p.count c.note-noted.ensures going.few in
    omega (arith, nest.opens.deep, few, c.requires)

pub siblings-returns-then-is_err-2 : goal.siblings-returns-then-is_err-2
siblings-returns-then-is_err-2 t c =
    let going = joined (c.layer.ensures.other c.in_default.is) c.loop-p.invariant in
    let here = turn_at c.requires.0 going in
    let nest = here.nest (sym c.look.ensures ∙ ap told (c.in-Ok-Nest.is ∙ ap Ok c.in-Ok-Nest.field-0-is)) in
    going.on _ _ _
    (nest.halts c.if-count-room-2.false _ (ap₂ kept c.store-in-Ok-Nest.ensures c.note-noted.ensures) _ _ _ c.enter-o-in-Ok-Nest.ensures
    (not_accepted (c.is_err-in-Ok-Nest.ensures.negation ∙ ap not c.if-is_err-2.true)))

pub siblings-loop-p-smaller : goal.siblings-loop-p-smaller
siblings-loop-p-smaller t c =
    let going = joined (c.layer.ensures.other c.in_default.is) c.loop-p.invariant in
    let here = turn_at c.requires.0 going in
    let nest = here.nest (sym c.look.ensures ∙ ap told (c.in-Ok-Nest.is ∙ ap Ok c.in-Ok-Nest.field-0-is)) in
    let o = nest.opens in
    omega (arith, o.owns.on, o.order, o.within)

pub siblings-loop-p-preserved : goal.siblings-loop-p-preserved
siblings-loop-p-preserved t c =
    let going = joined (c.layer.ensures.other c.in_default.is) c.loop-p.invariant in
    let here = turn_at c.requires.0 going in
    let nest = here.nest (sym c.look.ensures ∙ ap told (c.in-Ok-Nest.is ∙ ap Ok c.in-Ok-Nest.field-0-is)) in
    let few = one_few c.args.question c.loop-p.found c.in-Ok-Nest.entry c.loop-p.count c.note-noted.ensures going.few in
    let on = nest.on c.if-count-room-2.false _ (ap₂ kept c.store-in-Ok-Nest.ensures c.note-noted.ensures) _ _ _ c.enter-o-in-Ok-Nest.ensures
    (accepted_is _ (c.is_err-in-Ok-Nest.ensures.negation ∙ ap not c.if-is_err-2.false)) in
    record {
      order = nest.opens.within;
      fits = on.0;
      few = walked_few _ _ _ _ _ _ _ _ _ _ few c.enter-o-in-Ok-Nest.ensures;
      same = c.enter-o-in-Ok-Nest.auto.table ∙ c.store-in-Ok-Nest.auto.table ∙ going.same;
      on = λ r q after m. going.on r q after (on.1 r q after m);
    }
