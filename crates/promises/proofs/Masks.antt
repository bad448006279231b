-- Request (vii), shown: ranks from the entries themselves, and what a selection, an alpha bank and an alpha channel hold from what is full.
use mathlib.Core.Path.{◌≡◌, sym, ap, subst, ◌∙◌}
use mathlib.Core.Bool.{true}
use mathlib.Core.List.Memᴰ
use mathlib.Core.List.{List, [], ◌∷◌, Memᴰ}
use Prim.Native.Nat.{ℕ, ◌<◌}
use native.Mathlib.Omega.{arith}
use lib.ListN.{length, get_or}
use Rattle.laws.specs.All.{All, both}
use Rattle.laws.specs.Choice.{pick}
use Rattle.laws.proofs.Filter.{filter_at}
use Rattle.answer.specs.Answers as answers
use Rattle.entry.specs.declared.Code.{Code}
use Rattle.entry.specs.declared.Entry.{Entry}
use Rattle.entry.specs.Entry.{block, plain, is_kind}
use Rattle.chunk.proofs.Rules.{mask_rules}
use Rattle.memory.specs.declared.parent.Parent.{Parent}
use Rattle.listing.specs.Listing.{listed}
use Rattle.listing.specs.Right.{is_alpha, parent_of, FullAs}
use Rattle.listing.proofs.Holding.{kind_parent}
use Rattle.listing.proofs.RightEntries.{alphas_numbered, accepted_complete}
use Rattle.promises.specs.Masks.{AlphaRanks, held_by, MasksWhole}

-- a list of one, which has this
one_code : (x : Code) (codes : List Code) → length codes ≡ 1 → All (λ (y : Code). Memᴰ y codes) (x ∷ []) → codes ≡ x ∷ []
one_code x [] one all = absurd (omega arith)
one_code x (y ∷ []) one (both m rest) = ap (λ (z : Code). z ∷ []) (sym (Memᴰ.eq_of_singleton m))
one_code x (y ∷ (z ∷ codes)) one all = absurd (omega arith)

module _ (s : List ℕ) (room : ℕ) where
  pub alpha_ranks : AlphaRanks (listed s room).entries
  alpha_ranks k d some =
      let p = filter_at is_alpha (listed s room).entries k d some in
      ap (λ (e : Entry). e.layer) p.is ∙ alphas_numbered s room p.index d p.inside p.passes ∙ p.before

  -- an entry of a kind is full as this kind is
  held_as :
      (listed s room).answer ≡ answers.Accepted → (id k : ℕ) (d : Entry)
      → let es = (listed s room).entries in
      k < length es → is_kind id (get_or es k d) ≡ true → FullAs s (parent_of (plain (block id 0 0 0 0))) (get_or es k d).block.place (held_by es k d)
  held_as good id k d some is =
      let es = (listed s room).entries in
      subst (λ (p : Parent). FullAs s p (get_or es k d).block.place (held_by es k d)) (kind_parent id (get_or es k d) is)
      ((accepted_complete s room good).full k d some)

  pub masks_whole : (listed s room).answer ≡ answers.Accepted → MasksWhole s (listed s room).entries
  unfolding parent_of pick
  masks_whole good = record {
    selection = λ k d some is. let f = held_as good 6 k d some is in one_code _ _ (f.count ∙ (mask_rules 0 _ f.permitted).channels) f.all;
    alpha_bank = λ k d some is. held_as good 7 k d some is;
    alpha = λ k d some is. let f = held_as good 8 k d some is in one_code _ _ (f.count ∙ (mask_rules 256 _ f.permitted).channels) f.all;
  }
