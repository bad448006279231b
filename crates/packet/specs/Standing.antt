-- What a pass over a stream has still before it.
use Rattle.std.specs.Prelude.{◌≡◌, ◌-◌, ◌≤◌, length, drop}
use Rattle.packet.specs.declared.stand.Stand.{Stand}
use Rattle.packet.specs.declared.told.Plane.{Plane}
use Rattle.packet.specs.Stream.{Outcome, meaning_from}
use Rattle.packet.specs.Reading.{verdict}

-- what the stream means from the next packet on
abbrev pub ahead : Stand → Outcome
ahead x = meaning_from (drop x.at x.stream.now) x.at (x.plane - x.done)

-- and what that tells
abbrev pub ahead_told : Stand → Plane
ahead_told x = verdict (length x.stream.now) x.plane (ahead x)

-- further on in the same stream, where what is ahead tells the same
abbrev pub Onward : Stand → Stand → Type 0
Onward from to = (to.stream.now ≡ from.stream.now) × (to.plane ≡ from.plane) × (from.at ≤ to.at) × (ahead_told to ≡ ahead_told from)
