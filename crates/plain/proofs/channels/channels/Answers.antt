-- Channels that are plain are passed one by one, each by a step of the rule.
use mathlib.Core.Path.{refl, sym, ap, ◌∙◌}
use mathlib.Core.List.{[], ◌∷◌, ◌++◌}
use native.Mathlib.Omega.{arith}
use Rattle.laws.specs.All.{empty}
use Rattle.laws.proofs.All.{all_more}
use Rattle.rect.specs.declared.planes.Size.{Size}
use Rattle.entry.specs.declared.Entry.{Entry}
use Rattle.walk.specs.Course.{start}
use Rattle.walk.proofs.CourseTurn.{leaf_more}
use Rattle.chunk.specs.declared.channel_information.ChannelChunk.{ChannelChunk}
use Rattle.layers.specs.Layers.{channel_entry}
use Rattle.plain.proofs.ChannelStep.{next_channel}
use Rattle.plain.proofs.Stored.{none_stored, one_stored}
use Rattle.plain.proofs.channels.channels.Goals as goal

pub loop-c-init : goal.loop-c-init
loop-c-init c = record {
  here = c.reach-stop.ensures.0;
  near = c.reach-stop.ensures.1;
  same = refl;
  passed = record { entries = []; goes = λ begun of_layers. start; channels = empty; stores = none_stored _ _ _ _ _ c.args.stretch.order c.args.stretch.fits };
}

pub loop-c-preserved : goal.loop-c-preserved
loop-c-preserved c =
    let i = c.loop-c.invariant in
    let a = c.args in
    let k = c.in-Some.c in
    let read = c.in-Some.ensures.0 in
    let p = c.in-Some.ensures.1 in
    let entry = c.channel_entry-e.ensures ∙ ap (λ (y : Size). channel_entry 2 c.loop-c.at a.st.current.number k y) c.size-size.ensures in
    record {
      here = i.here;
      near = i.near;
      same = c.store.auto.table ∙ i.same;
      passed = record {
        entries = i.passed.entries ++ c.channel_entry-e.result ∷ [];
        goes = λ begun of_layers.
            leaf_more (i.passed.goes begun of_layers)
            (next_channel a.stretch.input.now a.st c.loop-c.at c.reach-stop.result a.stretch.end c.loop-c.left c.loop-c.codes i.here i.near
            begun of_layers p k read
            c.shape_for-shape.result c.shape_for-shape.ensures.0 (sym c.permits.ensures ∙ c.if-not-permits.false)
            c.channel_entry-e.result entry _ c.with-codes.ensures);
        channels = all_more i.passed.channels (ap (λ (e : Entry). e.block.id) entry);
        stores = one_stored _ _ _ _ _ i.passed.stores c.if-count-stretch.false _ (omega arith)
            (omega (arith, p.whole, ap (λ (x : ChannelChunk). x.stored) read, i.near)) c.channel_entry-e.result c.store.ensures;
      };
    }
