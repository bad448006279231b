-- What holds an entry, and what an entry holds, by nesting levels alone: the last entry before it one level up, and its rank there
-- (document 01, "A block holds blocks").
use Rattle.std.specs.Prelude.{Bool, List, [], ◌∷◌, ◌++◌, ℕ, suc, eqb, leb, length}
use Rattle.laws.specs.Choice.{pick}
use Rattle.laws.specs.Lists.{filter}
use Rattle.entry.specs.declared.Entry.{Entry}
use Rattle.entry.specs.Entry.{keep}

-- ### Looking back

-- the last entry of a level, if there is one, and the entries one level below it that came since
pub data Holder : Type 0 where
  nothing : Holder
  holds : Entry → List Entry → Holder

unfoldable pub holding : Holder → Entry → Holder
holding nothing e = nothing
holding (holds p es) e = holds p (es ++ e ∷ [])

-- one entry more
unfoldable pub next : ℕ → Holder → Entry → Holder
next level h e = pick (eqb e.block.level level) (holds e []) (pick (eqb e.block.level (suc level)) (holding h e) h)

abbrev pub holder : ℕ → List Entry → Holder
holder level es = keep (λ h i e. next level h e) nothing 0 es

-- how many entries of a kind came since: the rank that the next of this kind has in its parent
abbrev pub rank : (Entry → Bool) → Holder → ℕ
rank kind nothing = 0
rank kind (holds p es) = length (filter kind es)

-- ### Looking on

-- of the entries behind one of a level, those that it holds: the ones one level below it, up to the next that is not deeper
unfoldable pub held : ℕ → List Entry → List Entry
held level [] = []
held level (e ∷ es) =
    pick (leb e.block.level level) [] (pick (eqb e.block.level (suc level)) (e ∷ held level es) (held level es))

-- what is said of a holder that is there
abbrev pub Of : (Entry → List Entry → Type 0) → Holder → Type 0
Of F nothing = Unit
Of F (holds p es) = F p es
