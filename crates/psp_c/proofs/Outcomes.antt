-- One outcome of each exported function: what its contract admits is one answer, and one end content of each buffer.
use mathlib.Core.Path.{◌≡◌, refl}
use mathlib.Core.List.{List}
use Prim.Native.Nat.{ℕ}
use base.Logic.{emp}
use borrow.Fn.Claims.{AllOf}
use borrow.Fn.Read.{Read, r_last, no_know, all_models}
use borrow.Fn.World.{ArgsD, ResD}
use contract.Lifetimes.{Lfts}
use denote.Triple.Clauses.{AtExit}
use Rattle.laws.specs.Results.{Result}
use Rattle.laws.specs.Outcomes.{OneResult, OneOutcome}
use Rattle.laws.proofs.OneOutcome.{one, result_one}
use Rattle.entry.specs.declared.Entry.{Entry}
use Rattle.psp_c.proofs.asked.psp_entry_at.Reads as entry_at
use Rattle.psp_c.proofs.at.psp_alpha_at.Reads as alpha-at
use Rattle.psp_c.proofs.at.psp_alpha_name_at.Reads as alpha-name-at
use Rattle.psp_c.proofs.at.psp_layer_at.Reads as layer-at
use Rattle.psp_c.proofs.at.psp_name_at.Reads as name-at
use Rattle.psp_c.proofs.at.psp_selection_at.Reads as selection-at
use Rattle.psp_c.proofs.filed.psp_read_table.Reads as read_table
use Rattle.psp_c.proofs.filed.psp_write_table.Reads as write-table
use Rattle.psp_c.proofs.placing.psp_intersect.Reads as intersect
use Rattle.psp_c.proofs.placing.psp_place.Reads as place
use Rattle.psp_c.proofs.planes.psp_pack.Reads as pack
use Rattle.psp_c.proofs.planes.psp_read_plane.Reads as read-plane
use Rattle.psp_c.proofs.planes.psp_unpack.Reads as unpack
use Rattle.psp_c.specs.contracts.recorded.psp_list_records as list-records
use Rattle.psp_c.proofs.shown.psp_alpha_name.Reads as alpha-name
use Rattle.psp_c.proofs.shown.psp_dots_per_centimetre.Reads as dots
use Rattle.psp_c.proofs.shown.psp_name.Reads as name
use Rattle.psp_c.proofs.shown.psp_palette.Reads as palette
use Rattle.psp_c.proofs.shown.psp_read_alpha_facts.Reads as alpha-facts
use Rattle.psp_c.proofs.shown.psp_read_image_facts.Reads as image-facts
use Rattle.psp_c.proofs.shown.psp_read_layer_facts.Reads as layer-facts
use Rattle.psp_c.proofs.shown.psp_read_selection_facts.Reads as selection-facts
use Rattle.psp_c.proofs.tabled.psp_count.Reads as count
use Rattle.psp_c.proofs.tabled.psp_list.Reads as list
use Rattle.psp_c.proofs.version.psp_version.Reads as version

-- ### A buffer beside what is told: its answer is what the paper tells

told_one :
    {T : Type 0} (right : Result T) (t t' : T) (x y : List ℕ)
    → record { told = t; dest = x } ≡ right → record { told = t'; dest = y } ≡ right → (t ≡ t') × (x ≡ y)
told_one = result_one (λ t. t) (λ t. t) (λ t. refl)

pub psp_list_one : OneOutcome (λ l e. e.1.0.now) list.Learnt
psp_list_one l a y z e f = told_one _ y z _ _

pub psp_read_plane_one : OneOutcome (λ l e. e.1.1.1.1.1.0.now) read-plane.Learnt
psp_read_plane_one l a y z e f = told_one _ y z _ _

pub psp_unpack_one : OneOutcome (λ l e. e.1.0.now) unpack.Learnt
psp_unpack_one l a y z e f = told_one _ y z _ _

pub psp_pack_one : OneOutcome (λ l e. e.1.0.now) pack.Learnt
psp_pack_one l a y z e f = told_one _ y z _ _

pub psp_place_one : OneOutcome (λ l e. e.1.1.0.now) place.Learnt
psp_place_one l a y z e f = told_one _ y z _ _

pub psp_write_table_one : OneOutcome (λ l e. e.1.0.now) write-table.Learnt
psp_write_table_one l a y z e f = told_one _ y z _ _

pub psp_read_table_one : OneOutcome (λ l e. e.1.0.now) read_table.Learnt
psp_read_table_one l a y z e f = told_one _ y z _ _

-- ### Two buffers: the kit reads no contract over a slice of records, so its clause is read here, by the same means

abbrev list_records_read :
    (l : Lfts 3) (a : ArgsD list-records.signature l) (r : ResD list-records.signature l) (e : AtExit list-records.ended l)
    → Read (λ w. emp w.𝓤) no_know (λ w. (list-records.clauses w.𝓛 w.𝓜.mem w.𝓡.run l a).ensures tt r e)
list_records_read l a r e = all_models _ (λ w. r_last _) (λ w. refl) (λ w. refl) (λ w. refl)

abbrev list_records_learnt :
    (l : Lfts 3) → ArgsD list-records.signature l → ResD list-records.signature l → AtExit list-records.ended l → Type 0
list_records_learnt l a r e = AllOf (list_records_read l a r e).tells

pub psp_list_records_one : OneOutcome {Buffer = List ℕ × List Entry} (λ l e. (e.1.0.now, e.1.1.0.now)) list_records_learnt
psp_list_records_one l a y z e f p q =
    let lists-one = told_one _ y z _ _ p.lists q.lists in
    (lists-one.0, λ i. (lists-one.1 i, one p.stores q.stores i))

-- ### A result alone

pub psp_count_one : OneResult count.Learnt
psp_count_one l a y z e f = one

pub psp_entry_at_one : OneResult entry_at.Learnt
psp_entry_at_one l a y z e f = one

pub psp_intersect_one : OneResult intersect.Learnt
psp_intersect_one l a y z e f = one

pub psp_palette_one : OneResult palette.Learnt
psp_palette_one l a y z e f = one

pub psp_name_one : OneResult name.Learnt
psp_name_one l a y z e f = one

pub psp_read_image_facts_one : OneResult image-facts.Learnt
psp_read_image_facts_one l a y z e f = one

pub psp_read_layer_facts_one : OneResult layer-facts.Learnt
psp_read_layer_facts_one l a y z e f = one

pub psp_read_selection_facts_one : OneResult selection-facts.Learnt
psp_read_selection_facts_one l a y z e f = one

pub psp_read_alpha_facts_one : OneResult alpha-facts.Learnt
psp_read_alpha_facts_one l a y z e f = one

pub psp_alpha_name_one : OneResult alpha-name.Learnt
psp_alpha_name_one l a y z e f = one

pub psp_layer_at_one : OneResult layer-at.Learnt
psp_layer_at_one l a y z e f = one

pub psp_name_at_one : OneResult name-at.Learnt
psp_name_at_one l a y z e f = one

pub psp_selection_at_one : OneResult selection-at.Learnt
psp_selection_at_one l a y z e f = one

pub psp_alpha_at_one : OneResult alpha-at.Learnt
psp_alpha_at_one l a y z e f = one

pub psp_alpha_name_at_one : OneResult alpha-name-at.Learnt
psp_alpha_name_at_one l a y z e f = one

pub psp_dots_per_centimetre_one : OneResult dots.Learnt
psp_dots_per_centimetre_one l a y z e f = one

pub psp_version_one : OneResult version.Learnt
psp_version_one l a y z e f = one
