-- A listing in a table and in records: its count fits both, and the records hold its entries.
use mathlib.Core.Path.{◌≡◌, ap, ap₂, ◌∙◌}
use mathlib.Core.List.{List}
use Prim.Native.Nat.{ℕ, ◌*◌, ◌/◌, ◌≤◌}
use native.Mathlib.Omega.{arith}
use borrow.Author.Tests.{ltb-true, ltb-false}
use lib.ListN.{length, drop}
use Rattle.laws.specs.Results.{Result}
use Rattle.laws.proofs.Choice.{pick_ind}
use Rattle.answer.specs.declared.Outcome.{Outcome}
use Rattle.answer.specs.declared.Told.{Told}
use Rattle.answer.specs.Answers.{paper}
use Rattle.entry.specs.declared.Entry.{Entry}
use Rattle.entry.specs.Entry.{size}
use Rattle.walk.proofs.Cut.{cut_room}
use Rattle.listing.specs.Listing.{listing, listed, room_up_to, lists_up_to, left_by}
use Rattle.psp.specs.Recorded.{records_of, ListedRecords}
use Rattle.psp.proofs.Records.{records_are}

-- the smaller of the two rooms
room_table : (most : ℕ) (t : List ℕ) → room_up_to most t ≤ length t / size
room_table most t = pick_ind (λ (n : ℕ). n ≤ length t / size) _ _ _ (λ less. omega (arith, ltb-true most (length t / size) less)) (λ _. omega arith)

room_most : (most : ℕ) (t : List ℕ) → room_up_to most t ≤ most
room_most most t = pick_ind (λ (n : ℕ). n ≤ most) _ _ _ (λ _. omega arith) (λ no. ltb-false most (length t / size) no)

module _
    (s ts : List ℕ)
    (ys : List Entry)
    (o : Outcome)
    (r : Told)
    (zs : List ℕ)
    (t : r ≡ paper o)
    (e : left_by o zs ≡ lists_up_to s (length ys) ts) where
  abbrev es : List Entry
  es = (listed s (room_up_to (length ys) ts)).entries

  counted : r.count ≡ length es
  unfolding lists_up_to
  counted = ap (λ (n : Told). n.count) t ∙ ap (λ (x : Result Told). x.told.count) e

  few : length es ≤ room_up_to (length ys) ts
  few = cut_room (room_up_to (length ys) ts) (listing s)

  pub fits_table : length zs ≡ length ts → r.count * size ≤ length zs
  fits_table l = omega (arith, counted, few, room_table (length ys) ts)

  pub fits_records : r.count ≤ length ys
  fits_records = omega (arith, counted, few, room_most (length ys) ts)

  pub recorded : (ws : List Entry) → ws ≡ records_of zs r.count ys → ListedRecords s ts ys r zs ws
  unfolding lists_up_to
  recorded ws w = record {
    lists = ap (λ (n : Told). record { told = n; dest = zs }) t ∙ e;
    stores =
        w ∙ ap₂ (λ (table : List ℕ) (k : ℕ). records_of table k ys) (ap (λ (x : Result Told). x.dest) e) counted
        ∙ records_are es (drop (size * length es) ts) ys (omega (arith, few, room_most (length ys) ts));
  }
