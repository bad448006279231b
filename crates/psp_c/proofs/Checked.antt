-- Request (x) of the exported functions: what `psp_entry_at` gives, beside what `psp_list` leaves.
use mathlib.Core.Path.{◌≡◌, sym, ap, subst, ◌∙◌}
use mathlib.Core.List.{List}
use Prim.Native.Nat.{ℕ, ◌*◌, ◌/◌, ◌≤◌, ◌<◌}
use lib.ListN.{length}
use Rattle.std.specs.Prelude.{Ok}
use Rattle.laws.specs.Outcomes.{Call}
use Rattle.laws.specs.Results.{Result}
use Rattle.laws.proofs.OneOutcome.{call_is}
use Rattle.answer.specs.declared.Told.{Told}
use Rattle.entry.specs.Entry.{size, nowhere, entry_at}
use Rattle.listing.specs.Listing.{listed, lists}
use Rattle.pencil.specs.Agrees.{asked}
use Rattle.pencil.proofs.Agree.{agrees, agrees_with}
use Rattle.asking.specs.declared.numbers.Asked.{Asked}
use Rattle.asking.specs.Told.{told}
use Rattle.psp_c.specs.Checked.{Checks}
use Rattle.psp_c.proofs.asked.psp_entry_at.Reads as entry_at
use Rattle.psp_c.proofs.tabled.psp_list.Reads as list

-- what their contracts admit
abbrev Listing : List ℕ → List ℕ → Result Told → Type 0
Listing s t = Call {Given = List ℕ × List ℕ} (λ l a. (a.0.now, a.1.0.now)) (λ l n e. record { told = n; dest = e.1.0.now }) list.Learnt (s, t)

abbrev Asking : List ℕ → ℕ → ℕ → Asked → Type 0
Asking s room k = Call {Given = List ℕ × (ℕ × ℕ)} (λ l a. (a.0.now, (a.1.0, a.1.1.0))) (λ l y e. y) entry_at.Learnt (s, (room, k))

listing_is : {s t : List ℕ} {l : Result Told} → Listing s t l → l ≡ lists s t
listing_is = call_is (λ g. lists g.0 g.1) (λ l a y e h. h)

asking_is : {s : List ℕ} {room k : ℕ} {a : Asked} → Asking s room k a → a ≡ told (asked (listed s room) k)
asking_is = call_is (λ g. told (asked (listed g.0 g.1.0) g.1.1)) (λ l a y e h. h)

pub psp_entry_checks : Checks Listing Asking
psp_entry_checks = record {
  entry = λ s t k l a x y low.
      let is = listing_is x in
      asking_is y
      ∙ ap told ((agrees_with s t).entry k _ (subst (λ (r : Result Told). k < r.told.count) is low) ((agrees s (length t / size)).gives k))
      ∙ ap (λ (r : Result Told). told (Ok (entry_at r.dest (k * size)))) (sym is);
  answer = λ s t k l a x y past.
      let is = listing_is x in
      let f = (agrees_with s t).answer k _ (subst (λ (r : Result Told). r.told.count ≤ k) is past) ((agrees s (length t / size)).gives k) in
      asking_is y
      ∙ ap told f.1.0
      ∙ ap (λ (n : Told). record { found = 0; listed = n; entry = nowhere }) (f.1.1 ∙ ap (λ (r : Result Told). r.told) (sym is));
}
