-- Any two results that a contract admits are equal.
use Rattle.laws.specs.Outcomes.{OneResult}
use Rattle.laws.proofs.OneOutcome.{one}
use Rattle.chunk.proofs.alpha_bank_information.AlphaBankChunkFields.decode.Reads as alpha_bank
use Rattle.chunk.proofs.alpha_information.AlphaChunkFields.decode.Reads as alpha
use Rattle.chunk.proofs.alpha_information.AlphaChunk.judge.Reads as alpha-judge
use Rattle.chunk.proofs.area.Area.decode.Reads as area
use Rattle.chunk.proofs.channel_information.ChannelChunkFields.decode.Reads as channel
use Rattle.chunk.proofs.channel_information.ChannelChunk.judge_codes.Reads as codes-judge
use Rattle.chunk.proofs.channel_information.ChannelChunk.judge_plane.Reads as plane-judge
use Rattle.chunk.proofs.color_palette.PaletteChunkFields.decode.Reads as palette
use Rattle.chunk.proofs.color_palette.PaletteChunk.judge.Reads as palette-judge
use Rattle.chunk.proofs.layer_information.LayerChunkFields.decode.Reads as layer
use Rattle.chunk.proofs.layer_information.LayerChunk.judge.Reads as layer-judge
use Rattle.chunk.proofs.mask.Mask.decode.Reads as mask
use Rattle.chunk.proofs.mask.Mask.judge.Reads as mask-judge
use Rattle.chunk.proofs.selection_information.SelectionChunkFields.decode.Reads as selection
use Rattle.chunk.proofs.selection_information.SelectionChunk.judge.Reads as selection-judge

-- ### Decoding

pub palette_one : OneResult palette.Learnt
palette_one l a y z e f = one

pub layer_one : OneResult layer.Learnt
layer_one l a y z e f = one

pub channel_one : OneResult channel.Learnt
channel_one l a y z e f = one

pub area_one : OneResult area.Learnt
area_one l a y z e f = one

pub mask_one : OneResult mask.Learnt
mask_one l a y z e f = one

pub selection_one : OneResult selection.Learnt
selection_one l a y z e f = one

pub alpha_bank_one : OneResult alpha_bank.Learnt
alpha_bank_one l a y z e f = one

pub alpha_one : OneResult alpha.Learnt
alpha_one l a y z e f = one

-- ### Judges

pub palette_judge_one : OneResult palette-judge.Learnt
palette_judge_one l a y z e f = one

pub layer_judge_one : OneResult layer-judge.Learnt
layer_judge_one l a y z e f = one

pub codes_judge_one : OneResult codes-judge.Learnt
codes_judge_one l a y z e f = one

pub plane_judge_one : OneResult plane-judge.Learnt
plane_judge_one l a y z e f = one

pub mask_judge_one : OneResult mask-judge.Learnt
mask_judge_one l a y z e f = one

pub selection_judge_one : OneResult selection-judge.Learnt
selection_judge_one l a y z e f = one

pub alpha_judge_one : OneResult alpha-judge.Learnt
alpha_judge_one l a y z e f = one
