-- The file header (document 000, section 5.2; document 01, "File header").
use Rattle.std.specs.Prelude.{ℕ, Bool, true, false, ◌&&◌, List, [], ◌∷◌, eqb}
use Rattle.laws.specs.Lists.{part}
use Rattle.endian.specs.Number.{number_at}
use Rattle.headers.specs.declared.file_header.FileHeader.{FileHeader}

-- in bytes
abbrev pub file_header_size : ℕ
file_header_size = 36

-- where the two versions stand
abbrev pub version_place : ℕ
version_place = 32

-- the header of its own bytes
unfoldable pub file_header_of : List ℕ → FileHeader
file_header_of s = record {
  signature = part s 0 32;
  major = number_at 2 s 32;
  minor = number_at 2 s 34;
}

abbrev pub file_header_at : List ℕ → ℕ → FileHeader
file_header_at s at = file_header_of (part s at file_header_size)

-- "Paint Shop Pro Image File", 0A 1A and five zeros
abbrev pub signature : List ℕ
signature =
    80 ∷ 97 ∷ 105 ∷ 110 ∷ 116 ∷ 32 ∷ 83 ∷ 104 ∷ 111 ∷ 112 ∷ 32 ∷ 80 ∷ 114 ∷ 111 ∷ 32 ∷ 73 ∷ 109 ∷ 97 ∷ 103 ∷ 101 ∷ 32 ∷ 70 ∷ 105 ∷ 108 ∷ 101
    ∷ 10 ∷ 26 ∷ 0 ∷ 0 ∷ 0 ∷ 0 ∷ 0 ∷ []

-- byte for byte
unfoldable pub is_same : List ℕ → List ℕ → Bool
is_same [] [] = true
is_same [] (y ∷ b) = false
is_same (x ∷ a) [] = false
is_same (x ∷ a) (y ∷ b) = eqb x y && is_same a b

abbrev pub is_signed : FileHeader → Bool
is_signed h = is_same h.signature signature

-- versions 3 and 0
abbrev pub is_version : FileHeader → Bool
is_version h = eqb h.major 3 && eqb h.minor 0
