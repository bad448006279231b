-- Why nothing is shown, in document 01's numbers: the listing's own (1 to 12), or what an accepted input lacks (43 to 47, or a caller's own).
use Rattle.std.specs.Prelude.{ℕ}
use Rattle.answer.specs.Answers.{stopped_number}
use Rattle.view.specs.declared.not_shown.Lacking.{Lacking}
use Rattle.view.specs.declared.not_shown.Lacking.TheVariants.{Palette, Ramp, Layer, Selection, Alpha, Other}
use Rattle.view.specs.declared.not_shown.NotShown.{NotShown}
use Rattle.view.specs.declared.not_shown.NotShown.TheVariants.{Listing, Lacks}

abbrev pub lacking_number : Lacking → ℕ
lacking_number Palette = 43
lacking_number Ramp = 44
lacking_number Layer = 45
lacking_number Selection = 46
lacking_number Alpha = 47
lacking_number (Other number) = number

abbrev pub not_shown_number : NotShown → ℕ
not_shown_number (Listing stopped) = stopped_number stopped
not_shown_number (Lacks lacking) = lacking_number lacking
