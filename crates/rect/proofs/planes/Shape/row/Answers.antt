use mathlib.Core.Path.{◌≡◌, sym, ap, ◌∙◌}
use mathlib.Core.Bool.{Bool, ◌&&◌}
use Rattle.rect.specs.Rows.{row_of, makes}
use Rattle.rect.proofs.Forms.{padded_row, short_row, no_row}
use Rattle.rect.proofs.planes.Shape.row.Goals as goal
use Rattle.rect.proofs.planes.Shape.row.Goals.{After-makes, After-makes-2}

-- what the first test says
padded : (c : After-makes) → let a = c.args in c.makes.result ≡ makes a.self a.plane (row_of a.self.sides.width a.self.bits)
padded c = let a = c.args in c.makes.ensures ∙ ap (makes a.self a.plane) c.row_bytes-padded.ensures.0

pub returns-then-makes : goal.returns-then-makes
returns-then-makes c =
    let tested = c.before in
    tested.row_bytes-padded.ensures.0 ∙ sym (padded_row _ _ (sym (padded tested) ∙ c.if-makes.true))

-- and the second
short : (c : After-makes-2) → let a = c.args in (a.self.short && c.makes-2.result) ≡ (a.self.short && makes a.self a.plane a.self.sides.width)
short c = let a = c.args in ap (λ (b : Bool). a.self.short && b) c.makes-2.ensures

pub returns-then-self-makes : goal.returns-then-self-makes
returns-then-self-makes c =
    let left = c.before.before.before in
    sym (short_row _ _ (sym (padded left.before) ∙ left.if-makes.false) (sym (short c.before.before) ∙ c.if-self-makes.true))

pub returns : goal.returns
returns c =
    let left = c.before.before.before in
    sym (no_row _ _ (sym (padded left.before) ∙ left.if-makes.false) (sym (short c.before.before) ∙ c.if-self-makes.false))
