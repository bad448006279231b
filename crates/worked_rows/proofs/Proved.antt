-- The P rows hold, all of them by one computation, and so do the readings and request (i)'s planes.
use mathlib.Core.Path.{◌≡◌, refl}
use mathlib.Core.List.{map}
use Rattle.laws.specs.Choice.{pick}
use Rattle.laws.specs.Lists.{filter, some, first}
use Rattle.packet.specs.Stream.{packet_of, fitted, look_of, meaning_with, meaning}
use Rattle.packer.specs.Packing.{three, other_than, until, next_of, packed_with, packed}
use Rattle.rect.specs.Rows.{row_of, is_plane, row_for}
use Rattle.worked_rows.specs.Table.{worked, rows, readings, planes}

pub as_worked : map worked rows ≡ rows
unfolding rows worked pick packet_of fitted look_of meaning_with meaning three other_than until next_of packed_with packed row_of
as_worked = refl

pub as_read : map worked readings ≡ readings
unfolding readings worked pick packet_of fitted look_of meaning_with meaning three other_than until next_of packed_with packed
as_read = refl

pub as_fitted : map worked planes ≡ planes
unfolding planes worked pick filter some first row_of is_plane row_for
as_fitted = refl
