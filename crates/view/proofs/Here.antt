-- What is known of a place where a block of some id was looked for: its header and its chunk lie inside the input, or it is none.
use mathlib.Core.Path.{◌≡◌, ap}
use mathlib.Core.Bool.{Bool, true, false, ◌&&◌}
use mathlib.Core.List.{List}
use Prim.Native.Nat.{ℕ, ◌+◌, ◌≤◌, ◌<◌}
use native.Mathlib.Omega.{arith}
use borrow.Author.Tests.{le-leb, lt-leb, leb-true}
use lib.Dec.{leb}
use lib.ListN.{length}
use Rattle.std.specs.Prelude.{Ok, Err}
use Rattle.laws.proofs.Choice.{pick_yes, pick_no, pick_ind}
use Rattle.laws.proofs.Tests.{both}
use Rattle.headers.specs.BlockHeader.{block_header_size, block_header_at}
use Rattle.view.specs.declared.not_shown.Lacking.{Lacking}
use Rattle.view.specs.declared.not_shown.NotShown.TheVariants.{Lacks}
use Rattle.view.specs.Asked.{Inside}
use Rattle.view.specs.At.{is_header_of, is_block_at, chunk_at}

module _ (s : List ℕ) (place id size : ℕ) where
  pub cut_short : length s < place + (block_header_size + size) → is_block_at id size s place ≡ false
  unfolding is_block_at
  cut_short h = ap (λ (b : Bool). b && is_header_of id (block_header_at s place)) (lt-leb (place + (block_header_size + size)) (length s) h)

  pub by_header : place + (block_header_size + size) ≤ length s → is_block_at id size s place ≡ is_header_of id (block_header_at s place)
  unfolding is_block_at
  by_header h = ap (λ (b : Bool). b && is_header_of id (block_header_at s place)) (le-leb (place + (block_header_size + size)) (length s) h)

  pub block_whole : is_block_at id size s place ≡ true → place + (block_header_size + size) ≤ length s
  unfolding is_block_at
  block_whole h = leb-true _ _ (both (leb (place + (block_header_size + size)) (length s)) _ h).0

  module _ (lacking : Lacking) where
    pub stands : is_block_at id size s place ≡ true → chunk_at s place id size lacking ≡ Ok (place + block_header_size)
    unfolding chunk_at
    stands = pick_yes _ _ _

    pub stands_not : is_block_at id size s place ≡ false → chunk_at s place id size lacking ≡ Err (Lacks lacking)
    unfolding chunk_at
    stands_not = pick_no _ _ _

    -- a chunk that was found lies inside the input
    pub here_inside : Inside size s (chunk_at s place id size lacking)
    unfolding chunk_at
    here_inside =
        pick_ind (Inside size s) _ _ _ (λ there at e. let same : place + block_header_size ≡ at = cc in omega (arith, block_whole there))
        (λ _ at e. cc)
