-- Document 02, request (vii): alpha channels are ranked in file order, and an accepted file lacks no channel of a selection or an alpha channel.
use Rattle.std.specs.Prelude.{◌≡◌, true, List, [], ◌∷◌, ℕ, suc, ◌<◌, length, drop, get_or}
use Rattle.laws.specs.Lists.{filter}
use Rattle.entry.specs.declared.Entry.{Entry}
use Rattle.entry.specs.Entry.{code}
use Rattle.walk.specs.Parents.{held}
use Rattle.memory.specs.declared.parent.Parent.TheVariants.{AlphaBank}
use Rattle.listing.specs.Right.{is_selection, is_alpha_bank, is_alpha, members_in, codes_in, alpha_bank_from}

-- of any listing, accepted or not: alpha channels count 0, 1, 2 .., whatever layers stand before them
abbrev pub AlphaRanks : List Entry → Type 0
AlphaRanks es = (k : ℕ) (d : Entry) → k < members_in AlphaBank es → (get_or (filter is_alpha es) k d).layer ≡ k

-- the k-th entry holds these
abbrev pub held_by : List Entry → ℕ → Entry → List Entry
held_by es k d = held (get_or es k d).block.level (drop (suc k) es)

-- of an accepted file: a selection holds its one channel, an alpha bank as many alpha channels as it announces, and each of these its one
-- channel
pub record MasksWhole (s : List ℕ) (es : List Entry) : Type 0 where
  pub selection : (k : ℕ) (d : Entry) → k < length es → is_selection (get_or es k d) ≡ true → codes_in (held_by es k d) ≡ code 3 0 ∷ []
  pub alpha_bank :
      (k : ℕ) (d : Entry) → k < length es → is_alpha_bank (get_or es k d) ≡ true
      → members_in AlphaBank (held_by es k d) ≡ (alpha_bank_from s (get_or es k d).block.place).count
  pub alpha : (k : ℕ) (d : Entry) → k < length es → is_alpha (get_or es k d) ≡ true → codes_in (held_by es k d) ≡ code 4 0 ∷ []
