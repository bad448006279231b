-- A run with fewer than three equal bytes behind it, or with more.
use mathlib.Core.Path.{◌≡◌, sym, refl, ap, subst, ◌∙◌}
use mathlib.Core.List.{List}
use Prim.Native.Nat.{ℕ, ◌-◌}
use native.Mathlib.Omega.{arith}
use lib.ListN.{drop}
use Rattle.packer.specs.Packing.{three}
use Rattle.packer.proofs.Ahead.{Known, run_inside, run_next, run_few, run_again}
use Rattle.packer.specs.declared.packets.Packets.{Packets}
use Rattle.packer.proofs.packets.Packets.run.Goals as goal
use Rattle.packer.proofs.packets.Packets.run.Goals.{then-left-lt3, else-left-lt3}

pub split_at-requires : goal.split_at-requires
split_at-requires c =
    let self = c.args.self.now in
    omega (arith, run_inside self.rest.now self.plain self.same c.min-n.result (self.plain_is, self.same_is) c.requires.some c.requires.at_once c.min-n.ensures, c.min-n.ensures)

pub behind-requires : goal.behind-requires
behind-requires c =
    let self = c.args.self.now in
    let known : Known self.rest.now self.plain self.same = (self.plain_is, self.same_is) in
    let n = c.min-n.result in
    record {
      few_in_bounds = omega (arith, run_inside self.rest.now self.plain self.same n known c.requires.some c.requires.at_once c.min-n.ensures, c.split_at.ensures.back_len, c.min-n.ensures);
      none_before = λ k below.
          ap (λ (l : List ℕ). three (drop k l)) c.split_at.ensures.back
          ∙ run_few self.rest.now self.plain self.same n known c.requires.some c.requires.at_once c.min-n.ensures _ refl c.if-left-lt3.true k below;
    }

pub invariant_of-self : goal.invariant_of-self
invariant_of-self c =
    let self = c.args.self.now in
    let n = c.min-n.result in
    let left = self.same - n in
    let known : Known self.rest.now self.plain self.same = (self.plain_is, self.same_is) in
    let again : Known (drop n self.rest.now) 0 left = run_again self.rest.now self.plain self.same n known c.requires.some c.requires.at_once c.min-n.ensures left refl c.if-left-lt3.false in
    let P : List ℕ → Type 0 = λ l. Known l 0 left in
    let Q : ℕ → Type 0 = λ plain. Known c.split_at.result.1.now plain left in
    let ahead = subst Q (sym c.requires.at_once) (subst P (sym c.split_at.ensures.back) again) in
    record { plain_is = ahead.0; same_is = ahead.1 }

pub returns : goal.returns
returns c =
    let self = c.args.self.now in
    let rest : c.if-left-lt3.self.rest.now ≡ c.split_at.result.1.now =
    elim c.if-left-lt3.branch [
      | then-left-lt3 w ↦ ap (λ (s : Packets). s.rest.now) w.self-is ∙ w.behind.ensures
      | else-left-lt3 w ↦ ap (λ (s : Packets). s.rest.now) w.self-is
    ] in
    record {
      some = c.requires.some;
      packet = run_next self.rest.now self.plain self.same c.min-n.result (self.plain_is, self.same_is) c.requires.some c.requires.at_once c.min-n.ensures;
      bytes = c.split_at.ensures.front;
      left = rest ∙ c.split_at.ensures.back;
    }
