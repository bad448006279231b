-- What an image chunk without a fault satisfies: document 01's rules, by name.
use Rattle.std.specs.Prelude.{ℕ, ◌^◌, ◌≤◌, ◌≡◌, true, ℤ, pos}
use Rattle.limits.specs.Limits.{side_limit, layer_limit}
use Rattle.attributes.specs.declared.image_attributes.ImageChunk.{ImageChunk}
use Rattle.attributes.specs.Depth.{is_depth}
use Rattle.attributes.specs.ImageAttributes.{is_paletted}
use Rattle.attributes.specs.Resolution.{is_usable}

-- a side of an image
pub record Side (z : ℤ) : Type 0 where
  pub n : ℕ
  pub is : z ≡ pos n
  pub low : 1 ≤ n
  pub high : n ≤ side_limit

pub record ImageRules (c : ImageChunk) : Type 0 where
  pub width : Side c.width
  pub height : Side c.height
  pub metric : c.resolution.metric ≤ 2
  pub resolution : (c.resolution.metric ≡ 0 → ⊥) → is_usable c.resolution.value ≡ true
  pub compression : c.compression ≤ 2
  pub depth : is_depth c.depth ≡ true
  pub planes : c.planes ≡ 1
  pub colours : c.colours ≡ 2 ^ c.depth
  pub grey : c.grey ≤ 1
  pub grey_depth : c.grey ≡ 1 → c.depth ≡ 8
  pub layers_low : 1 ≤ c.layers
  pub layers_high : c.layers ≤ layer_limit
  pub paletted : is_paletted c ≡ true → c.layers ≡ 1
