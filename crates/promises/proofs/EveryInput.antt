-- Demand 1, shown: every listing is exact, and every call that refuses leaves what was lent.
use mathlib.Core.Path.{◌≡◌, refl, sym, ap, subst, ◌∙◌}
use mathlib.Core.Logic.{inl, inr}
use mathlib.Core.List.{List, ◌++◌}
use Prim.Native.Nat.{ℕ, ◌/◌, ◌≤◌}
use native.Mathlib.Omega.{arith}
use borrow.Author.Tests.{ltb-true, ltb-false}
use lib.Dec.{ltb}
use lib.ListN.{length, take, drop, length-append, length-drop}
use lib.Seq.{take_at, drop_at}
use Rattle.std.specs.Prelude.{Ok, Err}
use Rattle.laws.proofs.Choice.{pick_ind}
use Rattle.laws.proofs.Tests.{yes_or_no}
use Rattle.laws.specs.Lists.{part}
use Rattle.laws.specs.Results.{Result}
use Rattle.answer.specs.declared.Refusal.{Refusal}
use Rattle.answer.specs.declared.Refusal.TheVariants.{EndsTooSoon, WrongMark, WrongLength, OutOfPlace, WrongField, NotExpected, Missing, NotReadable}
use Rattle.answer.specs.Answers.{Answer, answer_number, is_accepted}
use Rattle.answer.specs.declared.Stopped.TheVariants.{Rule, OverLimit, WrongSignature, WrongVersion, TableFull}
use Rattle.answer.specs.declared.Outcome as answer
use Rattle.answer.specs.declared.Told.{Told}
use Rattle.entry.specs.declared.Entry.{Entry}
use Rattle.entry.specs.Entry.{size, numbers}
use Rattle.entry.proofs.Table.{numbers_length}
use Rattle.walk.specs.Walk.{Listing}
use Rattle.walk.specs.Room.{Listed, cut}
use Rattle.walk.specs.Promised.{Full}
use Rattle.walk.proofs.Cut.{cut_larger, cut_room}
use Rattle.walk.proofs.Exact.{cut_exact, exact_only}
use Rattle.headers.specs.FileHeader.{file_header_size}
use Rattle.memory.specs.declared.state.State.{State}
use Rattle.memory.specs.Parent.{main}
use Rattle.memory.specs.State.{start}
use Rattle.block.specs.Step.{step_at}
use Rattle.block.proofs.Owed.{moves}
use Rattle.listing.specs.Listing.{head_of, beyond, listing, listed, room_up_to, tabled, lists, lists_up_to}
use Rattle.listing.proofs.Heads.{behind_head, refused_head}
use Rattle.listing.proofs.Tiled.{full_table}
use Rattle.packet.specs.declared.told.Plane.{Plane}
use Rattle.packet.specs.Stream.{Outcome, bytes, refused, meaning}
use Rattle.packet.specs.Reading.{untouched, verdict, unpacked, plane_read}
use Rattle.packet.proofs.FullPackets.{refused_at}
use Rattle.packet.proofs.Promises.{Honest, whole, alone, unpacked_honest, plane_honest}
use Rattle.packer.specs.declared.told.Packed.{Packed}
use Rattle.packer.specs.Packing.{packs}
use Rattle.rect.specs.declared.Rect.{Rect}
use Rattle.canvas.specs.Placing.{placed}
use Rattle.canvas.proofs.PlaceTests.{place_ind}
use Rattle.saved.specs.declared.writer.Saved.{Saved}
use Rattle.saved.specs.declared.reader.Restored.{Restored}
use Rattle.saved.specs.Saved.{writes_as, writes, restores, reads}
use Rattle.psp.specs.Recorded.{ListedRecords}
use Rattle.promises.specs.EveryInput.{Exact, header, blocks, ListsExactly, Holds, Refuses, RefusesAtPacket}

-- ### A listing

-- the file header's own answers are 0 to 4
pub head_number : (s : List ℕ) → answer_number (head_of s).answer ≤ 4
unfolding head_of
head_number s =
    let N : answer.Outcome → Type 0 = λ h. answer_number h.answer ≤ 4 in
    pick_ind N _ _ _ (λ _. omega arith) (λ _.
    pick_ind N _ _ _ (λ _. omega arith) (λ _.
    pick_ind N _ _ _ (λ _. pick_ind N _ _ _ (λ _. omega arith) (λ _. omega arith)) (λ _. omega arith)))

module _ (s : List ℕ) (room : ℕ) where
  pub listed_exact : Exact s room (listed s room)
  listed_exact =
      yes_or_no (is_accepted (head_of s).answer)
      (λ good. subst (λ (w : Listing State). Exact s room (cut room w)) (sym (behind_head s good))
      (blocks good (cut_exact main (length s) (step_at s) (moves s) start file_header_size beyond main (omega arith) (omega arith) room)))
      (λ bad. subst (Exact s room) (sym (refused_head s room bad)) (header bad))

  only_listed : (r : Listed) → Exact s room r → r ≡ listed s room
  only_listed r (header bad) = sym (refused_head s room bad)
  only_listed r (blocks good x) =
      exact_only main (length s) (step_at s) (moves s) start file_header_size beyond main (omega arith) (omega arith) room r x
      ∙ ap (cut room) (sym (behind_head s good))

  first_without_room : (listed s room).answer ≡ Err TableFull → Full (listing s).entries room (listed s room)
  first_without_room full =
      yes_or_no (is_accepted (head_of s).answer) (λ good. (full_table s room good full).0)
      (λ bad.
      let answers : (head_of s).answer ≡ Err TableFull = sym (ap (λ (r : Listed). r.answer) (refused_head s room bad)) ∙ full in
      absurd (omega (arith, head_number s, ap answer_number answers)))

  -- a listing holds exactly the entries found before its place
  pub lists_exactly : ListsExactly s room
  lists_exactly = record {
    exact = listed_exact;
    only = only_listed;
    larger = λ more le h. sym (cut_larger room more (listing s) le h);
    first_out = first_without_room;
  }

-- ### The table, and the records

-- what was put in front of what there was
held : {A : Type 0} (xs before after : List A) → after ≡ xs ++ drop (length xs) before → length xs ≤ length before → Holds xs before after
held {A} xs before after is room =
    let n = length xs in
    record {
      front = ap (take n) is ∙ take_at xs (drop n before) n refl;
      rest = ap (drop n) is ∙ drop_at xs (drop n before) n refl;
      long = omega (arith, ap length is, length-append xs (drop n before), length-drop n before);
    }

-- so many entries of a listing have their numbers in a table that has room for them
tabled_holds : (s : List ℕ) (room : ℕ) (table : List ℕ) → room ≤ length table / size → let a = listed s room in Holds (numbers a.entries) table (tabled a table)
tabled_holds s room table fits =
    let a = listed s room in
    let n = numbers_length a.entries in
    held (numbers a.entries) table (tabled a table) (ap (λ (k : ℕ). numbers a.entries ++ drop k table) (sym n))
    (omega (arith, cut_room room (listing s)))

pub list_holds : (s table : List ℕ) → Holds (numbers (listed s (length table / size)).entries) table (lists s table).dest
unfolding lists
list_holds s table = tabled_holds s (length table / size) table (omega arith)

smaller : (most : ℕ) (table : List ℕ) → (room_up_to most table ≤ most) × (room_up_to most table ≤ length table / size)
smaller most table =
    pick_ind (λ (n : ℕ). (n ≤ most) × (n ≤ length table / size)) (ltb most (length table / size)) _ _
    (λ yes. let less = ltb-true most (length table / size) yes in (omega arith, omega arith))
    (λ no. let least = ltb-false most (length table / size) no in (least, omega arith))

pub list_up_to_holds :
    (s : List ℕ) (most : ℕ) (table : List ℕ) → Holds (numbers (listed s (room_up_to most table)).entries) table (lists_up_to s most table).dest
unfolding lists_up_to
list_up_to_holds s most table = tabled_holds s (room_up_to most table) table (smaller most table).1

-- the records that are lent beside a table
pub records_hold :
    (s table : List ℕ) (records : List Entry) (r : Told) (table' : List ℕ) (records' : List Entry) → ListedRecords s table records r table' records'
    → Holds (listed s (room_up_to (length records) table)).entries records records'
records_hold s table records r table' records' x =
    held (listed s (room_up_to (length records) table)).entries records records' x.stores
    (omega (arith, cut_room (room_up_to (length records) table) (listing s), (smaller (length records) table).0))

-- ### Numbers, and buffers that a refusal leaves

refusal_number_lem : (r : Refusal) → answer_number (Err (Rule r)) ≤ 12
refusal_number_lem EndsTooSoon = omega arith
refusal_number_lem WrongMark = omega arith
refusal_number_lem WrongLength = omega arith
refusal_number_lem OutOfPlace = omega arith
refusal_number_lem WrongField = omega arith
refusal_number_lem NotExpected = omega arith
refusal_number_lem Missing = omega arith
refusal_number_lem NotReadable = omega arith

-- every answer of a listing is one of 0 to 12
pub listing_number : (a : Answer) → answer_number a ≤ 12
listing_number (Ok _) = omega arith
listing_number (Err OverLimit) = omega arith
listing_number (Err WrongSignature) = omega arith
listing_number (Err WrongVersion) = omega arith
listing_number (Err (Rule r)) = refusal_number_lem r
listing_number (Err TableFull) = omega arith

-- by what an honest answer leaves
honest_refuses :
    {highest stored plane : ℕ} {before : List ℕ} {r : Result Plane} → Honest highest stored plane before r
    → Refuses (λ (p : Plane). p.number) 20 highest before r
honest_refuses (whole xs e room) = record { numbered = inl refl; untouched = λ no. absurd (no refl) }
honest_refuses (alone number place low high at) = record { numbered = inr (low, high); untouched = λ no. refl }

pub unpack_refuses : (stream : List ℕ) (plane : ℕ) (dest : List ℕ) → Refuses (λ (p : Plane). p.number) 20 23 dest (unpacked stream plane dest)
unpack_refuses stream plane dest = honest_refuses (unpacked_honest stream plane dest)

pub plane_refuses :
    (input : List ℕ) (start stored plane code : ℕ) (dest : List ℕ)
    → Refuses (λ (p : Plane). p.number) 20 27 dest (plane_read input start stored plane code dest)
plane_refuses input start stored plane code dest = honest_refuses (plane_honest input start stored plane code dest)

-- ### The place of a plane's refusal

-- of what an answer tells, where it is no refusal of a packet
out_of_range : (stream : List ℕ) (plane number : ℕ) (dest : List ℕ) → (21 ≤ number → number ≤ 23 → ⊥) → RefusesAtPacket stream plane (untouched number dest).told
out_of_range stream plane number dest out low high = absurd (out low high)

pub unpack_refuses_at : (stream : List ℕ) (plane : ℕ) (dest : List ℕ) → RefusesAtPacket stream plane (unpacked stream plane dest).told
unfolding unpacked
unpack_refuses_at stream plane dest =
    pick_ind (λ (r : Result Plane). RefusesAtPacket stream plane r.told) _ _ _
    (λ _. out_of_range stream plane 20 dest (λ low high. omega arith)) (λ _. by (meaning stream plane) refl)
  where
    by : (o : Outcome) → meaning stream plane ≡ o → RefusesAtPacket stream plane (verdict (length stream) plane o)
    by (bytes xs) means low high = absurd (omega arith)
    by (refused number place) means low high = refused_at stream plane number place means

pub plane_refuses_at :
    (input : List ℕ) (start stored plane code : ℕ) (dest : List ℕ)
    → RefusesAtPacket (part input start stored) plane (plane_read input start stored plane code dest).told
unfolding plane_read
plane_refuses_at input start stored plane code dest =
    let stream = part input start stored in
    let R : Result Plane → Type 0 = λ r. RefusesAtPacket stream plane r.told in
    pick_ind R _ _ _ (λ _. out_of_range stream plane 24 dest (λ low high. omega arith)) (λ _.
    pick_ind R _ _ _ (λ _. out_of_range stream plane 26 dest (λ low high. omega arith)) (λ _.
    pick_ind R _ _ _ (λ _. out_of_range stream plane 27 dest (λ low high. omega arith)) (λ _.
    pick_ind R _ _ _ (λ _. out_of_range stream plane 20 dest (λ low high. omega arith)) (λ _.
    pick_ind R _ _ _ (λ _. unpack_refuses_at stream plane dest) (λ _.
    pick_ind R _ _ _ (λ _ low high. absurd (omega arith)) (λ _. out_of_range stream plane 25 dest (λ low high. omega arith)))))))

-- ### Packing, placing, and saved tables

-- a refusal told beside a buffer that was not touched, and an answer 0
refused_as : {P : Type 0} {number : P → ℕ} {low high : ℕ} {before : List ℕ} (p : P) → low ≤ number p → number p ≤ high → Refuses number low high before (record { told = p; dest = before })
refused_as p from to = record { numbered = inr (from, to); untouched = λ no. refl }

well_as : {P : Type 0} {number : P → ℕ} {low high : ℕ} {before after : List ℕ} (p : P) → number p ≡ 0 → Refuses number low high before (record { told = p; dest = after })
well_as p is = record { numbered = inl is; untouched = λ no. absurd (no is) }

pub pack_refuses : (plane dest : List ℕ) → Refuses (λ (p : Packed). p.number) 30 31 dest (packs plane dest)
unfolding packs
pack_refuses plane dest =
    let R = Refuses (λ (p : Packed). p.number) 30 31 dest in
    pick_ind R _ _ _ (λ _. refused_as _ (omega arith) (omega arith)) (λ _.
    pick_ind R _ _ _ (λ _. refused_as _ (omega arith) (omega arith)) (λ _. well_as _ refl))

pub place_refuses :
    (width height : ℕ) (canvas : List ℕ) (r : Rect) (plane : List ℕ) (row : ℕ)
    → Refuses (λ (n : ℕ). n) 40 42 canvas (placed width height canvas r plane row)
place_refuses width height canvas r plane row =
    place_ind width height canvas r plane row (Refuses (λ (n : ℕ). n) 40 42 canvas)
    (λ c. refused_as 40 (omega arith) (omega arith))
    (λ c w. refused_as 41 (omega arith) (omega arith))
    (λ c w p. refused_as 42 (omega arith) (omega arith))
    (λ c w p. well_as 0 refl)

pub write_refuses : (table dest : List ℕ) → Refuses (λ (p : Saved). p.number) 70 73 dest (writes table dest)
unfolding writes_as
write_refuses table dest =
    let R = Refuses (λ (p : Saved). p.number) 70 73 dest in
    pick_ind R _ _ _ (λ _. refused_as _ (omega arith) (omega arith)) (λ _.
    pick_ind R _ _ _ (λ _. refused_as _ (omega arith) (omega arith)) (λ _. well_as _ refl))

pub read_refuses : (file table : List ℕ) → Refuses (λ (p : Restored). p.number) 70 74 table (reads file table)
unfolding reads restores
read_refuses file table =
    let R = Refuses (λ (p : Restored). p.number) 70 74 table in
    pick_ind R _ _ _ (λ _. refused_as _ (omega arith) (omega arith)) (λ _.
    pick_ind R _ _ _ (λ _. refused_as _ (omega arith) (omega arith)) (λ _.
    pick_ind R _ _ _ (λ _. refused_as _ (omega arith) (omega arith)) (λ _.
    pick_ind R _ _ _ (λ _. refused_as _ (omega arith) (omega arith)) (λ _.
    pick_ind R _ _ _ (λ _. refused_as _ (omega arith) (omega arith)) (λ _. well_as _ refl)))))
