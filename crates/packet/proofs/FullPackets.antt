-- What packets mean: the stored form of any good list of them means their bytes, and a stream that means bytes is such a form.
use mathlib.Core.Path.{◌≡◌, refl, sym, ap, ap₂, subst, ◌∙◌}
use mathlib.Core.Logic.{⊎_elim}
use mathlib.Core.List.{List, [], ◌∷◌, ◌++◌, append_assoc}
use Prim.Native.Nat.{ℕ, zero, suc, ◌+◌, ◌-◌, ◌≤◌, ◌<◌}
use native.Mathlib.Nat.{pos_of_ne-zero}
use native.Mathlib.Numerals.{add-one, lt_of_le_of_ne}
use native.Mathlib.Omega.{arith}
use borrow.Author.Tests.{lt-ltb, le-ltb}
use lib.ListN.{length, take, drop, get_or, length-append, length-drop, length-replicate, take-append-drop}
use lib.Seq.{take_at, drop_at, length-take-le}
use Rattle.laws.specs.Choice.{pick}
use Rattle.laws.proofs.Choice.{pick_yes, pick_no}
use Rattle.laws.proofs.Tests.{less_or_not}
use Rattle.packet.specs.declared.Packet.{Packet}
use Rattle.packet.specs.declared.Packet.TheVariants.{Literals, Run}
use Rattle.packet.specs.Stream.{Look, Next, packet_of, data_of, size_of, count_of, bytes_of, look_of, Outcome, bytes, refused, join, meant, meaning_with, meaning_from, meaning}
use Rattle.packet.proofs.Stream.{Stood, Shown, ended, count_128, missing, too_much, next, shown, look_next, meaning_next}
use Rattle.packet.specs.FullPackets.{FullPacket, literals, run, stored, given, Counted, stored_all, given_all, Good, none, more, StreamOf, Ahead, nothing, then, look_number, RefusedAt}

-- ### A list of packets means its bytes

-- a packet as the reader finds it
abbrev found : FullPacket → Packet
found (literals xs) = Literals (length xs)
found (run n b) = Run n b

-- at the front of a stream
record Front (p : FullPacket) (rest : List ℕ) (left : ℕ) : Type 0 where
  looks : look_of (stored p ++ rest) left ≡ Next (found p)
  gives : bytes_of (found p) (stored p ++ rest) ≡ given p
  behind : drop (size_of (found p)) (stored p ++ rest) ≡ rest
  count : count_of (found p) ≡ length (given p)

front : (p : FullPacket) (rest : List ℕ) (left : ℕ) → Counted p → 0 < left → length (given p) ≤ left → Front p rest left
unfolding packet_of
front (literals xs) rest left few some room =
    let n = length xs in
    let all = length-append xs rest in
    record {
      looks =
          look_next n (xs ++ rest) left (Literals n) (λ e. omega arith) (λ e. omega arith) (pick_yes _ _ _ (lt-ltb n 128 (omega arith)))
          (omega arith) room;
      gives = take_at xs rest n refl;
      behind = ap (λ (k : ℕ). drop k (n ∷ (xs ++ rest))) (add-one n) ∙ drop_at xs rest n refl;
      count = refl;
    }
front (run n b) rest left low some room =
    let back : 128 + n - 128 ≡ n = omega arith in
    let long = length-replicate n b in
    record {
      looks =
          look_next (128 + n) (b ∷ rest) left (Run n b) (λ e. omega arith) (λ e. omega arith)
          (pick_no _ _ _ (le-ltb (128 + n) 128 (omega arith)) ∙ ap (λ (m : ℕ). Run m b) back) (omega arith) (omega arith);
      gives = refl;
      behind = refl;
      count = sym long;
    }

means : {ps : List FullPacket} → Good ps → (at : ℕ) → meaning_from (stored_all ps) at (length (given_all ps)) ≡ bytes (given_all ps)
unfolding meaning_with look_of pick
means none at = refl
means (more {p} {ps} counted some good) at =
    let left = length (given_all (p ∷ ps)) in
    let all : left ≡ length (given p) + length (given_all ps) = length-append (given p) (given_all ps) in
    let f = front p (stored_all ps) left counted some (omega arith) in
    let left_over : left - count_of (found p) ≡ length (given_all ps) = omega (arith, f.count) in
    meaning_next (stored p ++ stored_all ps) at left (found p) f.looks
    ∙ ap (λ (xs : List ℕ). join xs (meaning_from (drop (size_of (found p)) (stored p ++ stored_all ps)) (at + size_of (found p)) (left - count_of (found p)))) f.gives
    ∙ ap (λ (l : List ℕ). join (given p) (meaning_from l (at + size_of (found p)) (left - count_of (found p)))) f.behind
    ∙ ap (λ (n : ℕ). join (given p) (meaning_from (stored_all ps) (at + size_of (found p)) n)) left_over
    ∙ ap (join (given p)) (means good (at + size_of (found p)))

-- the stored form of any list of packets means their bytes, one after another
pub packets_mean : (ps : List FullPacket) → Good ps → meaning (stored_all ps) (length (given_all ps)) ≡ bytes (given_all ps)
unfolding meaning
packets_mean ps good = means good 0

pub stream_means : {stream xs : List ℕ} → StreamOf stream xs → meaning stream (length xs) ≡ bytes xs
stream_means {stream} {xs} o =
    ap₂ (λ (l ys : List ℕ). meaning l (length ys)) o.is o.gives ∙ packets_mean o.packets o.good ∙ ap bytes (sym o.gives)

-- ### And only a list of packets means bytes

-- the packet with its bytes
record Split (stream : List ℕ) (q : Packet) : Type 0 where
  full : FullPacket
  counted : Counted full
  front : stream ≡ stored full ++ drop (size_of q) stream
  gives : bytes_of q stream ≡ given full
  long : length (given full) ≡ count_of q
  size : length (stored full) ≡ size_of q

split_literals : (count : ℕ) (rest : List ℕ) → count < 128 → count ≤ length rest → Split (count ∷ rest) (Literals count)
split_literals count rest low there =
    let long = length-take-le count rest there in
    record {
      full = literals (take count rest);
      counted = omega arith;
      front =
          ap₂ ◌∷◌ (sym long) (sym (take-append-drop count rest))
          ∙ ap (λ (n : ℕ). length (take count rest) ∷ take count rest ++ drop n (count ∷ rest)) (sym (add-one count));
      gives = refl;
      long = long;
      size = omega arith;
    }

split_run : (count : ℕ) (rest : List ℕ) → 128 < count → 1 ≤ length rest → Split (count ∷ rest) (Run (count - 128) (get_or rest 0 0))
split_run count [] high there = absurd (omega arith)
split_run count (b ∷ rest) high there =
    let back : count ≡ 128 + (count - 128) = omega arith in
    record {
      full = run (count - 128) b;
      counted = omega arith;
      front = ap (λ (n : ℕ). n ∷ b ∷ rest) back;
      gives = refl;
      long = length-replicate (count - 128) b;
      size = omega arith;
    }

split : {stream : List ℕ} {left : ℕ} {q : Packet} → Stood stream left q → Split stream q
unfolding packet_of
split {stream} {q} st = subst (λ (l : List ℕ). Split l q) (sym st.is) (⊎_elim below above (less_or_not st.count 128))
  where
    below : st.count < 128 → Split (st.count ∷ st.rest) q
    below low =
        let is : Literals st.count ≡ q = sym (pick_yes _ _ _ (lt-ltb st.count 128 low)) ∙ st.packet in
        subst (Split (st.count ∷ st.rest)) is (split_literals st.count st.rest low (subst (λ (p : Packet). data_of p ≤ length st.rest) (sym is) st.there))

    above : 128 ≤ st.count → Split (st.count ∷ st.rest) q
    above high =
        let is : Run (st.count - 128) (get_or st.rest 0 0) ≡ q = sym (pick_no _ _ _ (le-ltb st.count 128 high)) ∙ st.packet in
        let over : 128 < st.count = lt_of_le_of_ne high (λ e. st.no_128 (sym e)) in
        subst (Split (st.count ∷ st.rest)) is (split_run st.count st.rest over (subst (λ (p : Packet). data_of p ≤ length st.rest) (sym is) st.there))

-- bytes come of bytes only
abbrev bytes_in : Outcome → List ℕ
bytes_in (bytes xs) = xs
bytes_in (refused number place) = []

no_bytes : {number place : ℕ} {xs : List ℕ} {X : Type 0} → refused number place ≡ bytes xs → X
no_bytes e = absurd (let never : ◌≡◌ {A = ℕ} 0 1 = cc in omega arith)

joined : (front : List ℕ) (o : Outcome) (xs : List ℕ) → join front o ≡ bytes xs → (o ≡ bytes (bytes_in o)) × (xs ≡ front ++ bytes_in o)
joined front (bytes ys) xs e = (refl, ap bytes_in (sym e))
joined front (refused number place) xs e = no_bytes e

abbrev Comes : List ℕ → ℕ → List ℕ → Type 0
Comes s left xs = StreamOf s xs × (length xs ≡ left)

-- a packet in front of what follows it
one_more :
    {s : List ℕ} {left : ℕ} {q : Packet} (ys : List ℕ) → Stood s left q → Comes (drop (size_of q) s) (left - count_of q) ys → Comes s left (bytes_of q s ++ ys)
one_more {s} {left} {q} ys st (o, rest) =
    let sp = split st in
    let all : length (given sp.full ++ given_all o.packets) ≡ length (given sp.full) + length (given_all o.packets) = length-append (given sp.full) (given_all o.packets) in
    let same : length ys ≡ length (given_all o.packets) = ap length o.gives in
    let is : bytes_of q s ++ ys ≡ given sp.full ++ given_all o.packets = ap₂ ◌++◌ sp.gives o.gives in
    let total : length (given sp.full ++ given_all o.packets) ≡ left = omega (arith, sp.long, st.room) in
    let some : 0 < length (given_all (sp.full ∷ o.packets)) = omega (arith, pos_of_ne-zero st.unfull) in (
      record {
        packets = sp.full ∷ o.packets;
        good = more sp.counted some o.good;
        is = sp.front ∙ ap (λ (l : List ℕ). stored sp.full ++ l) o.is;
        gives = is;
      },
      ap length is ∙ total,
    )

shown_comes :
    {s : List ℕ} (at : ℕ) {left : ℕ} {k : Look} (on : Packet → Outcome) (xs : List ℕ)
    → ((q : Packet) (ys : List ℕ) → on q ≡ bytes ys → Comes (drop (size_of q) s) (left - count_of q) ys)
    → Shown s left k → meant on s at k ≡ bytes xs → Comes s left xs
shown_comes {s} at {left} on xs ih (ended nil full) e =
    let is : xs ≡ [] = ap bytes_in (sym e) in
    (record { packets = []; good = none; is = nil; gives = is }, ap length is ∙ sym full)
shown_comes at on xs ih count_128 e = no_bytes e
shown_comes at on xs ih missing e = no_bytes e
shown_comes at on xs ih too_much e = no_bytes e
shown_comes {s} at {left} on xs ih (next {q} st) e =
    let j = joined (bytes_of q s) (on q) xs e in
    subst (Comes s left) (sym j.1) (one_more (bytes_in (on q)) st (ih q (bytes_in (on q)) j.0))

comes : (f : ℕ) (s : List ℕ) (at left : ℕ) (xs : List ℕ) → meaning_with f s at left ≡ bytes xs → Comes s left xs
unfolding meaning_with
comes zero s at left xs e = no_bytes e
comes (suc f) s at left xs e =
    shown_comes at _ xs (λ q ys h. comes f (drop (size_of q) s) (at + size_of q) (left - count_of q) ys h) (shown s left) e

-- a stream that means bytes is the stored form of a list of packets that give them, as many as the plane has
pub means_packets : (s : List ℕ) (plane : ℕ) (xs : List ℕ) → meaning s plane ≡ bytes xs → StreamOf s xs × (length xs ≡ plane)
unfolding meaning
means_packets s plane xs e = comes (suc (length s)) s 0 plane xs e

-- ### A stream that is refused

-- from a place of a stream on, with so many bytes of the plane left
abbrev Refusing : List ℕ → ℕ → ℕ → ℕ → ℕ → Type 0
Refusing s at left number place = (p : ℕ) × RefusedAt s left number p × (place ≡ at + p)

abbrev number_in : Outcome → ℕ
number_in (bytes xs) = 0
number_in (refused number place) = number

abbrev place_in : Outcome → ℕ
place_in (bytes xs) = 0
place_in (refused number place) = place

-- refused here
here : {s : List ℕ} (at : ℕ) {left : ℕ} {k : Look} (n number place : ℕ) → look_of s left ≡ k → look_number k ≡ n → refused n at ≡ refused number place → Refusing s at left number place
here {s} at {left} n number place is told e =
    let r : RefusedAt s left number 0 = record {
      packets = [];
      ahead = nothing;
      rest = s;
      is = refl;
      there = refl;
      refuses = ap (λ (m : ℕ). look_number (look_of s m)) (omega arith) ∙ ap look_number is ∙ told ∙ ap number_in e;
    } in
    (0, r, sym (ap place_in e) ∙ omega arith)

-- behind a packet
behind :
    {s : List ℕ} (at : ℕ) {left : ℕ} {q : Packet} {number place : ℕ} → Stood s left q → Refusing (drop (size_of q) s) (at + size_of q) (left - count_of q) number place
    → Refusing s at left number place
behind {s} at {left} {q} {number} st (p, r, from) =
    let sp = split st in
    let all = length-append (given sp.full) (given_all r.packets) in
    let both = length-append (stored sp.full) (stored_all r.packets) in
    let some : 0 < left = pos_of_ne-zero st.unfull in
    let fits : length (given sp.full) ≤ left = omega (arith, sp.long, st.room) in
    let on : left - count_of q ≡ left - length (given sp.full) = omega (arith, sp.long) in
    let after : left - count_of q - length (given_all r.packets) ≡ left - length (given sp.full ++ given_all r.packets) = omega (arith, sp.long) in
    let more : RefusedAt s left number (size_of q + p) = record {
      packets = sp.full ∷ r.packets;
      ahead = then sp.counted some fits (subst (Ahead r.packets) on r.ahead);
      rest = r.rest;
      is = sp.front ∙ ap (λ (l : List ℕ). stored sp.full ++ l) r.is ∙ sym (append_assoc (stored sp.full) (stored_all r.packets) r.rest);
      there = omega (arith, sp.size, r.there);
      refuses = ap (λ (m : ℕ). look_number (look_of r.rest m)) (sym after) ∙ r.refuses;
    } in
    (size_of q + p, more, omega arith)

joined_refused : (front : List ℕ) (o : Outcome) (number place : ℕ) → join front o ≡ refused number place → o ≡ refused number place
joined_refused front (bytes ys) number place e = absurd (let never : ◌≡◌ {A = ℕ} 0 1 = cc in omega arith)
joined_refused front (refused n p) number place e = e

shown_refuses :
    {s : List ℕ} (at : ℕ) {left : ℕ} {k : Look} (on : Packet → Outcome) (number place : ℕ)
    → ((q : Packet) → Stood s left q → on q ≡ refused number place → Refusing (drop (size_of q) s) (at + size_of q) (left - count_of q) number place)
    → look_of s left ≡ k → Shown s left k → meant on s at k ≡ refused number place → Refusing s at left number place
shown_refuses at on number place ih is (ended nil full) e = absurd (let never : ◌≡◌ {A = ℕ} 0 1 = cc in omega arith)
shown_refuses at on number place ih is count_128 e = here at 21 number place is refl e
shown_refuses at on number place ih is missing e = here at 22 number place is refl e
shown_refuses at on number place ih is too_much e = here at 23 number place is refl e
shown_refuses {s} at on number place ih is (next {q} st) e = behind at st (ih q st (joined_refused (bytes_of q s) (on q) number place e))

refuses : (f : ℕ) (s : List ℕ) (at left number place : ℕ) → length s < f → meaning_with f s at left ≡ refused number place → Refusing s at left number place
unfolding meaning_with
refuses zero s at left number place few e = absurd (omega arith)
refuses (suc f) s at left number place few e =
    shown_refuses at _ number place
    (λ q st h.
    let shorter : length (drop (size_of q) s) < f = omega (arith, length-drop (size_of q) s, ap length st.is, st.there) in
    refuses f (drop (size_of q) s) (at + size_of q) (left - count_of q) number place shorter h)
    refl (shown s left) e

-- a stream that is refused: all before the place are packets for the plane, and the look there has the number
pub refused_at : (s : List ℕ) (plane number place : ℕ) → meaning s plane ≡ refused number place → RefusedAt s plane number place
unfolding meaning
refused_at s plane number place e =
    let r = refuses (suc (length s)) s 0 plane number place (omega arith) e in
    let same : r.0 ≡ place = omega (arith, r.2) in
    subst (RefusedAt s plane number) same r.1
