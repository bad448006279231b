-- The field that is named, by any rule whose fields stand in file order, look at no byte behind themselves, and can be mended one by one: it is
-- the earliest, of two the later, and the one at fault.
use mathlib.Core.Path.{◌≡◌, refl, sym, ap, ap₂, subst₂, subst⁻¹, ◌∙◌}
use mathlib.Core.Logic.{⊎_elim}
use mathlib.Core.Bool.{Bool, true, false, ◌||◌, cond}
use mathlib.Core.List.{List, [], ◌∷◌}
use Prim.Native.Nat.{ℕ, ◌+◌, ◌^◌, ◌≤◌, ◌<◌}
use native.Mathlib.Omega.{arith}
use borrow.Author.Tests.{eq-eqb, ne_eqb, eqb-true, leb-true, ltb-true}
use lib.Dec.{eqb, leb, ltb}
use lib.ListN.{length, take}
use lib.Seq.{take-take}
use Rattle.std.specs.Prelude.{None, Some}
use Rattle.laws.specs.Lists.{over}
use Rattle.laws.proofs.Tests.{never, both, either, less_or_not}
use Rattle.endian.specs.Number.{number_at, bytes_of}
use Rattle.endian.proofs.Bytes.{bytes_length, each_byte, bytes_number, over_front, number_over}
use Rattle.attributes.specs.Fault.{Field, field, earliest, First, Passed, Bytes, here, behind, in_front, in_order, Names}
use Rattle.attributes.proofs.Earliest.{kept, first, named_none}

-- ### In file order

-- what a field in front of another has: it begins before that one, and ends before it
pub record Fronts (w : Field) (offset : ℕ) : Type 0 where
  pub begins : w.offset < offset
  pub ends : w.offset + w.size ≤ offset

fronts : (w x : Field) (offset : ℕ) → in_front w x ≡ true → x.offset ≤ offset → Fronts w offset
fronts w x offset h low =
    let k = both (ltb w.offset x.offset) _ h in
    let before = ltb-true w.offset x.offset k.0 in
    let apart = leb-true (w.offset + w.size) x.offset k.1 in
    record { begins = omega arith; ends = omega arith }

before : {offset size : ℕ} (w : Field) {xs : List Field} → in_order (w ∷ xs) ≡ true → First offset size xs → Fronts w offset
before {offset} w order (here {x} at long e) = fronts w x offset (both (in_front w x) _ order).0 (omega arith)
before {offset} w order (behind {x} e f) =
    let k = both (in_front w x) _ order in
    fronts w x offset k.0 (omega (arith, (before x k.1 f).begins))

-- ### No byte behind a field has a say in it

-- two lists of bytes, and the fields that a rule finds in them: each is permitted in both or in neither, if the bytes up to its end are the same
pub data Alike (s t : List ℕ) : List Field → List Field → Type 0 where
  none : Alike s t [] []
  next_field :
      {o n : ℕ} {p q : Bool} {xs ys : List Field} → (take (o + n) s ≡ take (o + n) t → p ≡ q) → Alike s t xs ys
      → Alike s t (field o n p ∷ xs) (field o n q ∷ ys)

fewer : (s t : List ℕ) (m n : ℕ) → m ≤ n → take n s ≡ take n t → take m s ≡ take m t
fewer s t m n h same = sym (take-take m n s h) ∙ ap (take m) same ∙ take-take m n t h

in_order_rest : (x : Field) (xs : List Field) → in_order (x ∷ xs) ≡ true → in_order xs ≡ true
in_order_rest x [] h = refl
in_order_rest x (y ∷ xs) h = (both (in_front x y) _ h).1

same_first :
    {offset size : ℕ} {s t : List ℕ} {xs ys : List Field} → in_order xs ≡ true → take (offset + size) s ≡ take (offset + size) t → Alike s t xs ys
    → First offset size xs → First offset size ys
same_first {offset = offset} {size = size} {s = s} {t = t} order same none x10 = elim x10 [ ]
same_first {offset} {size} {s} {t} order same (next_field {o} {n} alike rest) (here at long e) =
    let ends : o + n ≡ offset + size = ap₂ (λ (a b : ℕ). a + b) at long in
    here at long (sym (alike (subst⁻¹ (λ (m : ℕ). take m s ≡ take m t) ends same)) ∙ e)
same_first {offset} {size} {s} {t} order same (next_field {o} {n} {p} {xs} alike rest) (behind e f) =
    let low = (before (field o n p) order f).ends in
    behind (sym (alike (fewer s t (o + n) (offset + size) (omega arith) same)) ∙ e) (same_first (in_order_rest (field o n p) xs order) same rest f)

-- ### Other bytes in the field would pass

-- the test of the field at an offset
abbrev pub test_at : ℕ → List Field → Bool
test_at offset [] = false
test_at offset (x ∷ xs) = cond (eqb x.offset offset) x.permitted (test_at offset xs)

-- bytes for a field, by which its test comes out good
pub record Mends (rule : List ℕ → List Field) (chunk : List ℕ) (offset size : ℕ) : Type 0 where
  pub bytes : Bytes size
  pub inside : offset + size ≤ length chunk
  pub test : test_at offset (rule (over chunk offset bytes.list)) ≡ true

-- those of a number, which is then read there
pub by_number :
    (rule : List ℕ → List Field) (chunk : List ℕ) {most : ℕ} → most ≤ length chunk → (offset size n : ℕ) → leb (offset + size) most ≡ true
    → ltb n (256 ^ size) ≡ true
    → (let s = over chunk offset (bytes_of size n) in number_at size s offset ≡ n → test_at offset (rule s) ≡ true) → Mends rule chunk offset size
by_number rule chunk {most} long offset size n low small test =
    let bs = bytes_of size n in
    let as_long = bytes_length size n in
    let inside = leb-true (offset + size) most low in
    let there : offset ≡ offset + 0 = omega arith in
    let read =
    ap (number_at size (over chunk offset bs)) there
    ∙ number_over chunk offset bs (omega (arith, as_long)) size 0 (omega (arith, as_long))
    ∙ bytes_number size n (ltb-true n (256 ^ size) small) in
    record { bytes = record { list = bs; long = as_long; each = each_byte size n }; inside = omega arith; test = test read }

-- a way to mend each field, if those before it are permitted
pub data MendsEach (rule : List ℕ → List Field) (chunk : List ℕ) : List Field → Type 0 where
  no_field : MendsEach rule chunk []
  mend : {o n : ℕ} {p : Bool} {xs : List Field} → Mends rule chunk o n → (p ≡ true → MendsEach rule chunk xs) → MendsEach rule chunk (field o n p ∷ xs)

mends_first :
    {rule : List ℕ → List Field} {chunk : List ℕ} {offset size : ℕ} {xs : List Field} → MendsEach rule chunk xs → First offset size xs
    → Mends rule chunk offset size
mends_first {rule = rule} {chunk = chunk} {offset = offset} {size = size} no_field x3 = elim x3 [ ]
mends_first {rule} {chunk} (mend m rest) (here at long e) = subst₂ (Mends rule chunk) at long m
mends_first (mend m rest) (behind e f) = mends_first (rest e) f

passes :
    {offset size : ℕ} {s t : List ℕ} {xs ys : List Field} → in_order xs ≡ true → take offset s ≡ take offset t → Alike s t xs ys
    → test_at offset ys ≡ true → First offset size xs → Passed offset size ys
passes {offset = offset} {size = size} {s = s} {t = t} order same none test x13 = elim x13 [ ]
passes {offset} order same (next_field {o} {n} {q} {ys} alike rest) test (here at long e) =
    here at long (sym (ap (λ (b : Bool). cond b q (test_at offset ys)) (eq-eqb o offset at)) ∙ test)
passes {offset} {s} {t} order same (next_field {o} {n} {p} {q} {xs} {ys} alike rest) test (behind e f) =
    let low = before (field o n p) order f in
    let further = ne_eqb o offset (λ z. absurd (omega (arith, low.begins))) in
    behind (sym (alike (fewer s t (o + n) offset low.ends same)) ∙ e)
    (passes (in_order_rest (field o n p) xs order) same rest (sym (ap (λ (b : Bool). cond b q (test_at offset ys)) further) ∙ test) f)

-- ### The field that is named

-- by a rule whose fields stand in file order, look at no byte behind themselves, and can be mended
pub names :
    (rule : List ℕ → List Field) → ((s : List ℕ) → in_order (rule s) ≡ true) → ((s t : List ℕ) → Alike s t (rule s) (rule t))
    → (chunk : List ℕ) (offset : ℕ) → MendsEach rule chunk (rule chunk) → earliest (rule chunk) ≡ Some offset → Names rule chunk offset
names rule order alike chunk offset mends h =
    let f = first offset (rule chunk) h in
    let m = mends_first mends f.1 in
    let bs = m.bytes.list in
    let in-front = over_front chunk offset bs (omega (arith, m.bytes.long, m.inside)) in
    record {
      size = f.0;
      first = f.1;
      order = order chunk;
      whatever = λ other same. same_first (order chunk) (sym same) (alike chunk other) f.1;
      mended = record {
        bytes = m.bytes;
        passed = passes (order chunk) (sym in-front) (alike chunk (over chunk offset bs)) m.test f.1;
      };
    }

-- ### Of two fields the later

-- a field begins at a place
abbrev pub starts : ℕ → List Field → Bool
starts place [] = false
starts place (x ∷ xs) = eqb x.offset place || starts place xs

after : (place : ℕ) (w : Field) (xs : List Field) → in_order (w ∷ xs) ≡ true → starts place xs ≡ true → Fronts w place
after place w [] order h = never h
after place w (x ∷ xs) order h =
    let k = both (in_front w x) _ order in
    either (eqb x.offset place) (starts place xs) h
    (λ e. fronts w x place k.0 (omega (arith, eqb-true x.offset place e)))
    (λ e. fronts w x place k.0 (omega (arith, (after place x xs k.1 e).begins)))

reaches :
    {offset size : ℕ} (place : ℕ) (xs : List Field) → in_order xs ≡ true → starts place xs ≡ true → First offset size xs → place < offset + size → place ≤ offset
reaches {offset = offset} {size = size} place [] order h x4 near = elim x4 [ ]
reaches place (x ∷ xs) order h (here at long e) near =
    either (eqb x.offset place) (starts place xs) h (λ e. omega (arith, eqb-true x.offset place e)) (λ e. omega (arith, (after place x xs order e).ends))
reaches place (x ∷ xs) order h (behind e f) near =
    either (eqb x.offset place) (starts place xs) h
    (λ e. omega (arith, eqb-true x.offset place e, (before x order f).begins)) (λ e. reaches place xs (in_order_rest x xs order) e f near)

-- a field that begins where another chunk, the same in front of it, is permitted: the one that is named is this one, or one behind it
pub later :
    (rule : List ℕ → List Field) (chunk other : List ℕ) (offset place : ℕ) → Names rule chunk offset
    → starts place (rule chunk) ≡ true → take place other ≡ take place chunk → earliest (rule other) ≡ None → place ≤ offset
later rule chunk other offset place n h same permitted =
    ⊎_elim (reaches place (rule chunk) n.order h n.first)
    (λ far. absurd (named_none (n.whatever other (fewer other chunk (offset + n.size) place far same)) (kept (rule other) permitted)))
    (less_or_not place (offset + n.size))
