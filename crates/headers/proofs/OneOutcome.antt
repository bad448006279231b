-- Any two results that a contract admits are equal.
use Rattle.laws.specs.Outcomes.{OneResult}
use Rattle.laws.proofs.OneOutcome.{one}
use Rattle.headers.proofs.Ids.{kind_is_one}
use Rattle.headers.proofs.block_header.BlockHeaderFields.decode.Reads as block-header
use Rattle.headers.proofs.block_header.BlockHeader.marked.Reads as marked
use Rattle.headers.proofs.file_header.FileHeaderFields.decode.Reads as file-header
use Rattle.headers.proofs.kind.KindTryFromU16.try_from.Reads as kind
use Rattle.headers.proofs.file_header.FileHeader.signed.Reads as signed
use Rattle.headers.proofs.file_header.FileHeader.version_3_0.Reads as version

-- ### Decoding

pub file_header_one : OneResult file-header.Learnt
file_header_one l a y z e f = one

pub block_header_one : OneResult block-header.Learnt
block_header_one l a y z e f = one

-- ### The kind of an id

pub kind_one : OneResult kind.Learnt
kind_one l a y z e f p q = kind_is_one _ y z p q

-- ### Tests

pub signed_one : OneResult signed.Learnt
signed_one l a y z e f = one

pub version_one : OneResult version.Learnt
version_one l a y z e f = one

pub marked_one : OneResult marked.Learnt
marked_one l a y z e f = one
