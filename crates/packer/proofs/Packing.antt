-- The packed form, packet by packet, what it measures, and the loop that stores it.
use mathlib.Core.Path.{◌≡◌, refl, sym, ap, ap₂, ◌∙◌, subst}
use mathlib.Core.Bool.{true, false, not}
use mathlib.Core.List.{List, [], ◌∷◌, ◌++◌, append-nil, append_assoc}
use Prim.Native.Nat.{ℕ, zero, suc, ◌+◌, ◌<◌, ◌≤◌}
use native.Mathlib.Nat.{zero-add}
use native.Mathlib.Omega.{arith}
use borrow.Author.Tests.{eq-eqb, eqb-true, not-false, lt-ltb, le-ltb}
use lib.Dec.{eqb, ltb}
use lib.ListN.{length, take, drop, get_or, replicate, length-append, length-drop}
use lib.Seq.{length-take-le, take-take}
use Rattle.packet.specs.declared.Packet.{Packet}
use Rattle.packet.specs.declared.Packet.TheVariants.{Literals, Run}
use Rattle.laws.specs.Choice.{pick}
use Rattle.laws.specs.Lists.{over}
use Rattle.packet.specs.Stream.{size_of, count_of}
use Rattle.packer.specs.Packing.{three, other_than, until, next_of, stored_as, packed_with, packed, left_by, packs}
use Rattle.packer.specs.Pieces.{Takes}
use Rattle.packer.specs.declared.packets.Piece.{Piece}
use Rattle.limits.specs.Limits.{plane_limit}
use Rattle.std.specs.Prelude.{Ok, Err, fold, sum_by}
use Rattle.packer.specs.declared.PackError.TheVariants.{NoRoom, OverLimit}
use Rattle.laws.proofs.Choice.{pick_yes, pick_no, pick_ind}
use Rattle.laws.proofs.Tests.{never}
use Rattle.laws.proofs.Written.{Written, written_first, written_more, written_front, written_length, written_all}
use Rattle.packer.proofs.Until.{until_go, Count, count}

-- ---- the packet that is chosen

-- the greedy rule in words: a run from three equal bytes on, else literals up to the next such run; at most 127 either way
pub data Chosen (p : List ℕ) : Packet → Type 0 where
  run :
      {n b : ℕ} → three p ≡ true → 3 ≤ n → take n p ≡ replicate n b → Count (other_than b) 127 p n → Chosen p (Run n b)
  literals :
      {n : ℕ} → three p ≡ false → 1 ≤ n → Count three 127 p n → Chosen p (Literals n)

same_byte : (b x : ℕ) (p : List ℕ) → other_than b (x ∷ p) ≡ false → x ≡ b
unfolding other_than
same_byte b x p h = eqb-true x b (not-false (eqb x b) h)

no_other : (b x : ℕ) (p : List ℕ) → x ≡ b → other_than b (x ∷ p) ≡ false
unfolding other_than
no_other b x p e = ap not (eq-eqb x b e)

-- the bytes that are counted are all the same
run_bytes : (most b : ℕ) (p : List ℕ) → take (until most (other_than b) p) p ≡ replicate (until most (other_than b) p) b
unfolding until
run_bytes zero b p = refl
run_bytes (suc most) b [] = refl
run_bytes (suc most) b (x ∷ p) =
    pick_ind (λ n. take n (x ∷ p) ≡ replicate n b) _ _ _ (λ _. refl)
    (λ h. λ i. same_byte b x p h i ∷ run_bytes most b p i)

-- three equal bytes are a run of three at least
run_three : (p : List ℕ) → three p ≡ true → 3 ≤ until 127 (other_than (get_or p 0 0)) p
unfolding three
run_three [] h = never h
run_three (a ∷ []) h = never h
run_three (a ∷ b ∷ []) h = never h
run_three (a ∷ b ∷ c ∷ p) h =
    pick_ind (λ t. t ≡ true → 3 ≤ until 127 (other_than a) (a ∷ b ∷ c ∷ p)) _ _ _
    (λ ab bc.
    let same : b ≡ a = sym (eqb-true a b ab) in
    let same' : c ≡ a = sym (eqb-true b c bc) ∙ same in
    let one = until_go (other_than a) 126 a (b ∷ c ∷ p) (no_other a a (b ∷ c ∷ p) refl) in
    let two = until_go (other_than a) 125 b (c ∷ p) (no_other a b (c ∷ p) same) in
    let three' = until_go (other_than a) 124 c p (no_other a c p same') in
    omega arith)
    (λ _ e. never e) h

-- bytes that are not three equal ones are a literal at least
literals_some : (p : List ℕ) → 0 < length p → three p ≡ false → 1 ≤ until 127 three p
literals_some [] h f = absurd (omega arith)
literals_some (b ∷ p) h f = let one = until_go three 126 b p f in omega arith

pub chosen : (p : List ℕ) → 0 < length p → Chosen p (next_of p)
unfolding next_of
chosen p h =
    let b = get_or p 0 0 in
    pick_ind (Chosen p) _ _ _
    (λ t. run t (run_three p t) (run_bytes 127 b p) (count (other_than b) 127 p))
    (λ f. literals f (literals_some p h f) (count three 127 p))

pub next_run :
    (p : List ℕ) (n : ℕ) → three p ≡ true → n ≡ until 127 (other_than (get_or p 0 0)) p → Run n (get_or p 0 0) ≡ next_of p
unfolding next_of
next_run p n t e = ap (λ (m : ℕ). Run m (get_or p 0 0)) e ∙ sym (pick_yes _ _ _ t)

pub next_literals : (p : List ℕ) (n : ℕ) → three p ≡ false → n ≡ until 127 three p → Literals n ≡ next_of p
unfolding next_of
next_literals p n t e = ap Literals e ∙ sym (pick_no _ _ _ t)

-- what the code asks of it
pub record Taken (p : List ℕ) (q : Packet) : Type 0 where
  pub some : 1 ≤ count_of q
  pub few : count_of q ≤ 127
  pub within : count_of q ≤ length p
  pub size : length (stored_as q p) ≡ size_of q

pub taken : {p : List ℕ} {q : Packet} → Chosen p q → Taken p q
taken (run three-equal some same c) = record { some = omega arith; few = c.few; within = c.within; size = refl }
taken {p} (literals {n} plain some c) =
    let len : length (take n p) ≡ n = length-take-le n p c.within in
    record { some = some; few = c.few; within = c.within; size = omega arith }

-- ---- the packed form

packed_nil : (f : ℕ) → packed_with f [] ≡ []
unfolding packed_with
packed_nil zero = refl
packed_nil (suc f) = refl

-- any fuel of the plane's length or more gives one packed form
packed_steady : (f g : ℕ) (p : List ℕ) → length p ≤ f → length p ≤ g → packed_with f p ≡ packed_with g p
unfolding packed_with
packed_steady zero g [] hf hg = sym (packed_nil g)
packed_steady zero g (b ∷ p) hf hg = absurd (omega arith)
packed_steady (suc f) zero [] hf hg = refl
packed_steady (suc f) zero (b ∷ p) hf hg = absurd (omega arith)
packed_steady (suc f) (suc g) [] hf hg = refl
packed_steady (suc f) (suc g) (b ∷ p) hf hg =
    let q = next_of (b ∷ p) in
    let t = taken (chosen (b ∷ p) (omega arith)) in
    ap (λ (r : List ℕ). stored_as q (b ∷ p) ++ r)
    (packed_steady f g (drop (count_of q) (b ∷ p)) (simp length-drop (omega (arith, t.some))) (simp length-drop (omega (arith, t.some))))

packed_on : (p : List ℕ) → 0 < length p → packed p ≡ stored_as (next_of p) p ++ packed (drop (count_of (next_of p)) p)
unfolding packed packed_with
packed_on [] h = absurd (omega arith)
packed_on (b ∷ p) h =
    let q = next_of (b ∷ p) in
    let t = taken (chosen (b ∷ p) h) in
    let rest = drop (count_of q) (b ∷ p) in
    ap (λ (r : List ℕ). stored_as q (b ∷ p) ++ r)
    (packed_steady (length p) (length rest) rest (simp length-drop (omega (arith, t.some))) (omega arith))

packed_end : (p : List ℕ) → p ≡ [] → packed p ≡ []
unfolding packed
packed_end p e = ap (λ (l : List ℕ). packed_with (length l) l) e ∙ packed_nil 0

-- ---- the loops

-- a packet at the front of what is left: it lies inside, and the packed form goes on behind it
pub record Onward (rest : List ℕ) (p : Piece) (behind : List ℕ) : Type 0 where
  pub some : 1 ≤ count_of p.packet
  pub few : count_of p.packet ≤ 127
  pub within : count_of p.packet ≤ length rest
  pub long : length p.bytes.now ≡ count_of p.packet
  pub size : length (stored_as p.packet p.bytes.now) ≡ size_of p.packet
  pub form : packed rest ≡ stored_as p.packet p.bytes.now ++ packed behind

-- a packet is stored alike from what is left and from its own bytes
stored_own : (q : Packet) (rest : List ℕ) → stored_as q (take (count_of q) rest) ≡ stored_as q rest
stored_own (Literals n) rest = ap (λ (l : List ℕ). n ∷ l) (take-take n n rest (omega arith))
stored_own (Run n b) rest = refl

pub onward : {rest behind : List ℕ} {p : Piece} → Takes rest p behind → Onward rest p behind
onward {rest} {behind} {p} takes =
    let q = p.packet in
    let t : Taken rest q = subst (Taken rest) (sym takes.packet) (taken (chosen rest takes.some)) in
    let own : stored_as q p.bytes.now ≡ stored_as q rest = ap (stored_as q) takes.bytes ∙ stored_own q rest in
    record {
      some = t.some;
      few = t.few;
      within = t.within;
      long = ap length takes.bytes ∙ length-take-le (count_of q) rest t.within;
      size = ap length own ∙ t.size;
      form =
          packed_on rest takes.some
          ∙ ap (λ (r : Packet). stored_as r rest ++ packed (drop (count_of r) rest)) (sym takes.packet)
          ∙ ap₂ ◌++◌ (sym own) (ap packed (sym takes.left));
    }

pub takes_shorter : {rest behind : List ℕ} {p : Piece} → Takes rest p behind → length behind < length rest
takes_shorter {rest} {behind} {p} takes =
    let on = onward takes in
    omega (arith, on.some, on.within, ap length takes.left, length-drop (count_of p.packet) rest)

onward_length :
    {rest behind : List ℕ} {p : Piece} → Onward rest p behind → length (packed rest) ≡ size_of p.packet + length (packed behind)
onward_length {behind = behind} {p = p} on =
    ap length on.form ∙ length-append (stored_as p.packet p.bytes.now) (packed behind) ∙ ap (λ (n : ℕ). n + length (packed behind)) on.size

-- the packets that stand for a plane
unfoldable pub given_with : ℕ → List ℕ → List Packet
given_with zero plane = []
given_with (suc fuel) [] = []
given_with (suc fuel) (b ∷ plane) = next_of (b ∷ plane) ∷ given_with fuel (drop (count_of (next_of (b ∷ plane))) (b ∷ plane))

unfoldable pub given : List ℕ → List Packet
given plane = given_with (length plane) plane

given_steady : (f g : ℕ) (p : List ℕ) → length p ≤ f → length p ≤ g → given_with f p ≡ given_with g p
unfolding given_with
given_steady zero zero p hf hg = refl
given_steady zero (suc g) [] hf hg = refl
given_steady zero (suc g) (b ∷ p) hf hg = absurd (omega arith)
given_steady (suc f) zero [] hf hg = refl
given_steady (suc f) zero (b ∷ p) hf hg = absurd (omega arith)
given_steady (suc f) (suc g) [] hf hg = refl
given_steady (suc f) (suc g) (b ∷ p) hf hg =
    let q = next_of (b ∷ p) in
    let t = taken (chosen (b ∷ p) (omega arith)) in
    ap (λ (r : List Packet). q ∷ r)
    (given_steady f g (drop (count_of q) (b ∷ p)) (simp length-drop (omega (arith, t.some))) (simp length-drop (omega (arith, t.some))))

given_on : (p : List ℕ) → 0 < length p → given p ≡ next_of p ∷ given (drop (count_of (next_of p)) p)
unfolding given given_with
given_on [] h = absurd (omega arith)
given_on (b ∷ p) h =
    let q = next_of (b ∷ p) in
    let t = taken (chosen (b ∷ p) h) in
    let rest = drop (count_of q) (b ∷ p) in
    ap (λ (r : List Packet). q ∷ r)
    (given_steady (length p) (length rest) rest (simp length-drop (omega (arith, t.some))) (omega arith))

pub given_end : (p : List ℕ) → p ≡ [] → length (given p) ≡ 0
unfolding given given_with
given_end p e = ap (λ (l : List ℕ). length (given l)) e

pub given_next : {rest behind : List ℕ} {p : Piece} → Takes rest p behind → given rest ≡ p.packet ∷ given behind
given_next {rest} {behind} {p} takes =
    given_on rest takes.some
    ∙ ap (λ (q : Packet). q ∷ given (drop (count_of q) rest)) (sym takes.packet)
    ∙ ap (λ (l : List ℕ). p.packet ∷ given l) (sym takes.left)

-- and their sizes: the length of the packed form
sizes_from : (n f : ℕ) (p : List ℕ) → fold (λ m q. m + size_of q) n (given_with f p) ≡ n + length (packed_with f p)
unfolding given_with packed_with
sizes_from n zero p = omega arith
sizes_from n (suc f) [] = omega arith
sizes_from n (suc f) (b ∷ p) =
    let q = next_of (b ∷ p) in
    let t = taken (chosen (b ∷ p) (omega arith)) in
    let rest = drop (count_of q) (b ∷ p) in
    let long : length (packed_with (suc f) (b ∷ p)) ≡ size_of q + length (packed_with f rest) =
    length-append (stored_as q (b ∷ p)) (packed_with f rest) ∙ ap (λ (m : ℕ). m + length (packed_with f rest)) t.size in
    sizes_from (n + size_of q) f rest ∙ omega (arith, long)

pub sizes : (p : List ℕ) → sum_by size_of (given p) ≡ length (packed p)
unfolding given packed
sizes p = sizes_from 0 (length p) p ∙ zero-add (length (packed p))

-- what is stored stands in front of the packed form of the rest
pub record Storing (plane before rest : List ℕ) (done : ℕ) (dest : List ℕ) : Type 0 where
  pub form : packed plane ≡ take done dest ++ packed rest
  pub written : Written before done dest

pub storing_first : (plane rest dest : List ℕ) → rest ≡ plane → Storing plane dest rest 0 dest
storing_first plane rest dest e = record { form = ap packed (sym e); written = written_first dest }

module _
    (plane before dest : List ℕ) {rest behind : List ℕ} {p : Piece} (done : ℕ) (room : length (packed plane) ≤ length before)
    (s : Storing plane before rest done dest) (takes : Takes rest p behind) where
  abbrev xs : List ℕ
  xs = stored_as p.packet p.bytes.now

  pub storing_room : done + size_of p.packet ≤ length dest
  storing_room =
      let front : length (take done dest) ≡ done = written_length before done dest s.written in
      let all : length (packed plane) ≡ length (take done dest) + length (packed rest) = ap length s.form ∙ length-append (take done dest) (packed rest) in
      omega (arith, onward_length (onward takes), s.written.long)

  pub storing_next : (size : ℕ) (after : List ℕ) → size ≡ size_of p.packet → after ≡ over dest done xs → Storing plane before behind (done + size) after
  storing_next size after es ea =
      let on = onward takes in
      let fits : done + length xs ≤ length before = omega (arith, storing_room, on.size, s.written.long) in
      let next : Storing plane before behind (done + length xs) (over dest done xs) = record {
        form =
            s.form
            ∙ ap (λ (r : List ℕ). take done dest ++ r) on.form
            ∙ sym (append_assoc (take done dest) xs (packed behind))
            ∙ ap (λ (r : List ℕ). r ++ packed behind) (sym (written_front before done dest s.written xs fits));
        written = written_more before done dest s.written xs fits;
      } in
      rw (es, ea, ← on.size) next

pub storing_last :
    (plane before rest : List ℕ) (done : ℕ) (dest : List ℕ) → Storing plane before rest done dest → rest ≡ []
    → (done ≡ length (packed plane)) × (dest ≡ packed plane ++ drop (length (packed plane)) before)
storing_last plane before rest done dest s e =
    let all : packed plane ≡ take done dest = s.form ∙ ap (λ (r : List ℕ). take done dest ++ r) (packed_end rest e) ∙ append-nil (take done dest) in
    let len : length (packed plane) ≡ done = ap length all ∙ written_length before done dest s.written in (
      sym len,
      written_all before done dest s.written
          ∙ sym (ap (λ (n : ℕ). packed plane ++ drop n before) len ∙ ap (λ (r : List ℕ). r ++ drop done before) all),
    )

-- ---- the answers

packed_is : (plane dest : List ℕ) → length plane ≤ plane_limit → packs plane dest ≡ pick (ltb (length dest) (length (packed plane))) (left_by (Err NoRoom) dest) (left_by (Ok (length (packed plane))) (packed plane ++ drop (length (packed plane)) dest))
unfolding packs
packed_is plane dest h = pick_no _ _ _ (le-ltb plane_limit (length plane) h)

pub pack_over_limit : (plane dest : List ℕ) → plane_limit < length plane → packs plane dest ≡ left_by (Err OverLimit) dest
unfolding packs
pack_over_limit plane dest h = pick_yes _ _ _ (lt-ltb plane_limit (length plane) h)

pub pack_short : (plane dest : List ℕ) → length plane ≤ plane_limit → length dest < length (packed plane) → packs plane dest ≡ left_by (Err NoRoom) dest
pack_short plane dest h short = packed_is plane dest h ∙ pick_yes _ _ _ (lt-ltb (length dest) (length (packed plane)) short)

pub pack_whole :
    (plane dest : List ℕ) (n : ℕ) (after : List ℕ) → length plane ≤ plane_limit → length (packed plane) ≤ length dest → n ≡ length (packed plane)
    → after ≡ packed plane ++ drop (length (packed plane)) dest → left_by (Ok n) after ≡ packs plane dest
pack_whole plane dest n after h room e f =
    ◌∙◌ {b = left_by (Ok (length (packed plane))) (packed plane ++ drop (length (packed plane)) dest)}
    (λ i. left_by (Ok (e i)) (f i))
    (sym (packed_is plane dest h ∙ pick_no _ _ _ (le-ltb (length dest) (length (packed plane)) room)))
