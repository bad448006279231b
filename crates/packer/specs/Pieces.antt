-- The packets that stand for a plane, one after another.
use Rattle.std.specs.Prelude.{ℕ, ◌<◌, ◌≡◌, List, [], Option, MatchOption, length, take, drop}
use Rattle.packet.specs.Stream.{count_of}
use Rattle.packer.specs.Packing.{next_of}
use Rattle.packer.specs.declared.packets.Piece.{Piece}

-- from the front of what is left: the packet that stands for the next bytes, with these
pub record Takes (rest : List ℕ) (p : Piece) (behind : List ℕ) : Type 0 where
  pub some : 0 < length rest
  pub packet : p.packet ≡ next_of rest
  pub bytes : p.bytes.now ≡ take (count_of p.packet) rest
  pub left : behind ≡ drop (count_of p.packet) rest

-- or none, where nothing is left
abbrev pub NextPiece : List ℕ → Option Piece → List ℕ → Type 0
NextPiece rest got behind = MatchOption got ((rest ≡ []) × (behind ≡ [])) (λ p. Takes rest p behind)
