-- What a stream means, packet by packet.
use mathlib.Core.Path.{◌≡◌, refl, sym, ap, ◌∙◌, subst, subst⁻¹}
use mathlib.Core.List.{List, [], ◌∷◌, ◌++◌, append_assoc}
use Prim.Native.Nat.{ℕ, zero, suc, ◌+◌, ◌-◌, ◌<◌, ◌≤◌}
use native.Mathlib.Nat.{add-zero}
use native.Mathlib.Numerals.{add-one}
use native.Mathlib.Omega.{arith}
use borrow.Author.Tests.{ltb-false, eqb-true, eqb-false, lt-ltb, le-ltb, eq-eqb, ne_eqb}
use lib.Dec.{eqb}
use lib.ListN.{length, drop, get_or, length-drop, length-replicate, drop_of_length-le}
use lib.Seq.{drop-cons, drop-drop, get_or-drop, length-take-le}
use Rattle.packet.specs.declared.Packet.{Packet}
use Rattle.packet.specs.declared.Packet.TheVariants.{Literals, Run}
use Rattle.laws.specs.Choice.{pick}
use Rattle.packet.specs.Stream.{Look, End, Next, Count128, Missing, TooMuch, packet_of, data_of, size_of, count_of, bytes_of, fitted, look_of, Outcome, bytes, refused, join, meant, meaning_with, meaning_from}
use Rattle.laws.proofs.Choice.{pick_yes, pick_no, pick_ind}

-- what stands at the front of a stream where a look finds a packet
pub record Stood (stream : List ℕ) (left : ℕ) (q : Packet) : Type 0 where
  pub count : ℕ
  pub rest : List ℕ
  pub is : stream ≡ count ∷ rest
  pub unfull : left ≡ 0 → ⊥
  pub no_128 : count ≡ 128 → ⊥
  pub packet : packet_of count rest ≡ q
  pub there : data_of q ≤ length rest
  pub room : count_of q ≤ left

-- what a look shows: an end, or a packet
pub data Shown (stream : List ℕ) (left : ℕ) : Look → Type 0 where
  ended : stream ≡ [] → left ≡ 0 → Shown stream left End
  count_128 : Shown stream left Count128
  missing : Shown stream left Missing
  too_much : Shown stream left TooMuch
  next : {q : Packet} → Stood stream left q → Shown stream left (Next q)

pub shown : (stream : List ℕ) (left : ℕ) → Shown stream left (look_of stream left)
unfolding look_of fitted
shown [] left = pick_ind (Shown [] left) _ _ _ (λ full. ended refl (eqb-true left 0 full)) (λ _. missing)
shown (count ∷ rest) left =
    let S = Shown (count ∷ rest) left in
    pick_ind S _ _ _ (λ _. too_much) (λ unfull.
    pick_ind S _ _ _ (λ _. count_128) (λ no_128.
    pick_ind S _ _ _ (λ _. missing) (λ there.
    pick_ind S _ _ _ (λ _. too_much) (λ fits. next (record {
      count = count;
      rest = rest;
      is = refl;
      unfull = eqb-false left 0 unfull;
      no_128 = eqb-false count 128 no_128;
      packet = refl;
      there = ltb-false _ _ there;
      room = ltb-false _ _ fits;
    })))))

-- a packet that is found lies inside its stream, gives what it says, and no more than the plane has left
pub record Inside (stream : List ℕ) (left : ℕ) (p : Packet) : Type 0 where
  pub present : size_of p ≤ length stream
  pub room : count_of p ≤ left
  pub gives : length (bytes_of p stream) ≡ count_of p

gives_count : (count : ℕ) (rest : List ℕ) (p : Packet) → data_of p ≤ length rest → length (bytes_of p (count ∷ rest)) ≡ count_of p
gives_count count rest (Literals n) h = length-take-le n rest h
gives_count count rest (Run n b) h = length-replicate n b

pub inside_of : {stream : List ℕ} {left : ℕ} {p : Packet} → Stood stream left p → Inside stream left p
inside_of {stream} {p} st = record {
  present = omega (arith, ap length st.is, st.there);
  room = st.room;
  gives = subst⁻¹ (λ (l : List ℕ). length (bytes_of p l) ≡ count_of p) st.is (gives_count st.count st.rest p st.there);
}

-- what a look at a packet shows
inside : {stream : List ℕ} {left : ℕ} {p : Packet} → Shown stream left (Next p) → Inside stream left p
inside (next st) = inside_of st

pub fitted_missing : (rest left : ℕ) (p : Packet) → rest < data_of p → fitted rest left p ≡ Missing
unfolding fitted
fitted_missing rest left p h = pick_yes _ _ _ (lt-ltb rest (data_of p) h)

pub fitted_too_much : (rest left : ℕ) (p : Packet) → data_of p ≤ rest → left < count_of p → fitted rest left p ≡ TooMuch
unfolding fitted
fitted_too_much rest left p h k = pick_no _ _ _ (le-ltb rest (data_of p) h) ∙ pick_yes _ _ _ (lt-ltb left (count_of p) k)

pub fitted_next : (rest left : ℕ) (p : Packet) → data_of p ≤ rest → count_of p ≤ left → fitted rest left p ≡ Next p
unfolding fitted
fitted_next rest left p h k = pick_no _ _ _ (le-ltb rest (data_of p) h) ∙ pick_no _ _ _ (le-ltb left (count_of p) k)

-- a packet with a count byte that is not 128, and whose data is there, is found at the front of a stream
pub look_next :
    (count : ℕ) (rest : List ℕ) (left : ℕ) (q : Packet) → (left ≡ 0 → ⊥) → (count ≡ 128 → ⊥) → packet_of count rest ≡ q
    → data_of q ≤ length rest → count_of q ≤ left → look_of (count ∷ rest) left ≡ Next q
unfolding look_of
look_next count rest left q unfull no_128 e there room =
    pick_no _ _ _ (ne_eqb left 0 unfull)
    ∙ pick_no _ _ _ (ne_eqb count 128 no_128)
    ∙ ap (fitted (length rest) left) e
    ∙ fitted_next (length rest) left q there room

-- the look at a place of a stream s: at its end, and inside
module _ (s : List ℕ) (at left : ℕ) where
  end : at ≡ length s → look_of (drop at s) left ≡ pick (eqb left 0) End Missing
  unfolding look_of
  end h = ap (λ (l : List ℕ). look_of l left) (drop_of_length-le s {i = at} (omega arith))

  pub look_end : at ≡ length s → left ≡ 0 → look_of (drop at s) left ≡ End
  look_end h full = end h ∙ pick_yes _ _ _ (eq-eqb left 0 full)

  pub look_short : at ≡ length s → (left ≡ 0 → ⊥) → look_of (drop at s) left ≡ Missing
  look_short h unfull = end h ∙ pick_no _ _ _ (ne_eqb left 0 unfull)

  module _ (within : at ≤ length s) (more : at ≡ length s → ⊥) where
    here :
        look_of (drop at s) left
        ≡ pick (eqb left 0) TooMuch (pick (eqb (get_or s at 0) 128) Count128 (fitted (length s - (at + 1)) left (packet_of (get_or s at 0) (drop (at + 1) s))))
    unfolding look_of
    here = ap (λ (l : List ℕ). look_of l left) (drop-cons s at 0 (omega arith)) ∙ simp (← add-one, length-drop)

    pub look_full : left ≡ 0 → look_of (drop at s) left ≡ TooMuch
    look_full full = here ∙ pick_yes _ _ _ (eq-eqb left 0 full)

    pub look_128 : (left ≡ 0 → ⊥) → get_or s at 0 ≡ 128 → look_of (drop at s) left ≡ Count128
    look_128 unfull e = here ∙ pick_no _ _ _ (ne_eqb left 0 unfull) ∙ pick_yes _ _ _ (eq-eqb (get_or s at 0) 128 e)

    module _ (unfull : left ≡ 0 → ⊥) (no_128 : get_or s at 0 ≡ 128 → ⊥) where
      counted : look_of (drop at s) left ≡ fitted (length s - (at + 1)) left (packet_of (get_or s at 0) (drop (at + 1) s))
      counted = here ∙ pick_no _ _ _ (ne_eqb left 0 unfull) ∙ pick_no _ _ _ (ne_eqb (get_or s at 0) 128 no_128)

      pub look_literals : get_or s at 0 < 128 → look_of (drop at s) left ≡ fitted (length s - (at + 1)) left (Literals (get_or s at 0))
      unfolding packet_of
      look_literals h = counted ∙ ap (fitted (length s - (at + 1)) left) (pick_yes _ _ _ (lt-ltb (get_or s at 0) 128 h))

      pub look_run : 128 ≤ get_or s at 0 → look_of (drop at s) left ≡ fitted (length s - (at + 1)) left (Run (get_or s at 0 - 128) (get_or s (at + 1) 0))
      unfolding packet_of
      look_run h =
          counted
          ∙ ap (fitted (length s - (at + 1)) left)
          (pick_no _ _ _ (le-ltb (get_or s at 0) 128 h)
          ∙ ap (Run (get_or s at 0 - 128)) (get_or-drop (at + 1) s 0 0 ∙ ap (λ (n : ℕ). get_or s n 0) (add-zero (at + 1))))

      pub look_byte_missing : 128 ≤ get_or s at 0 → length s - (at + 1) ≡ 0 → look_of (drop at s) left ≡ Missing
      look_byte_missing h none = look_run h ∙ fitted_missing (length s - (at + 1)) left (Run (get_or s at 0 - 128) (get_or s (at + 1) 0)) (omega arith)

-- two meanings of what follows that agree where a packet stands
meant_same :
    (F G : Packet → Outcome) (stream : List ℕ) (at left : ℕ) → ((p : Packet) → Inside stream left p → F p ≡ G p)
    → {k : Look} → Shown stream left k → meant F stream at k ≡ meant G stream at k
meant_same F G stream at left same (ended nil full) = refl
meant_same F G stream at left same count_128 = refl
meant_same F G stream at left same missing = refl
meant_same F G stream at left same too_much = refl
meant_same F G stream at left same (next {q} st) = ap (join (bytes_of q stream)) (same q (inside_of st))

-- any fuel above the stream's length gives one meaning
steady : (f g : ℕ) (stream : List ℕ) (at left : ℕ) → length stream < f → length stream < g → meaning_with f stream at left ≡ meaning_with g stream at left
unfolding meaning_with
steady zero g stream at left hf hg = absurd (omega arith)
steady (suc f) zero stream at left hf hg = absurd (omega arith)
steady (suc f) (suc g) stream at left hf hg =
    meant_same _ _ stream at left
    (λ p i. steady f g (drop (size_of p) stream) (at + size_of p) (left - count_of p)
    (simp length-drop (omega (arith, i.present))) (simp length-drop (omega (arith, i.present))))
    (shown stream left)

-- a packet, and what follows it
pub meaning_next :
    (stream : List ℕ) (at left : ℕ) (p : Packet) → look_of stream left ≡ Next p
    → meaning_from stream at left ≡ join (bytes_of p stream) (meaning_from (drop (size_of p) stream) (at + size_of p) (left - count_of p))
unfolding meaning_with
meaning_next stream at left p e =
    let i = inside (subst (Shown stream left) e (shown stream left)) in
    ap (meant (λ q. meaning_with (length stream) (drop (size_of q) stream) (at + size_of q) (left - count_of q)) stream at) e
    ∙ ap (join (bytes_of p stream)) (steady (length stream) (suc (length (drop (size_of p) stream))) (drop (size_of p) stream) (at + size_of p) (left - count_of p)
    (simp length-drop (omega (arith, i.present))) (omega arith))

-- no packet: the meaning is what the look says
pub meaning_stop : (stream : List ℕ) (at left : ℕ) (k : Look) (o : Outcome) → look_of stream left ≡ k → ((more : Packet → Outcome) → meant more stream at k ≡ o) → meaning_from stream at left ≡ o
unfolding meaning_with
meaning_stop stream at left k o e stops = ap (meant _ stream at) e ∙ stops _

pub join_join : (xs ys : List ℕ) (o : Outcome) → join xs (join ys o) ≡ join (xs ++ ys) o
join_join xs ys (bytes zs) = ap bytes (sym (append_assoc xs ys zs))
join_join xs ys (refused number place) = refl

pub join_nothing : (o : Outcome) → join [] o ≡ o
join_nothing (bytes zs) = refl
join_nothing (refused number place) = refl

-- the packet at a place of a stream: it lies inside, and the meaning goes on behind it
pub record Onward (s : List ℕ) (at left : ℕ) (p : Packet) : Type 0 where
  pub fits : at + size_of p ≤ length s
  pub room : count_of p ≤ left
  pub gives : length (bytes_of p (drop at s)) ≡ count_of p
  pub means : meaning_from (drop at s) at left ≡ join (bytes_of p (drop at s)) (meaning_from (drop (at + size_of p) s) (at + size_of p) (left - count_of p))

pub onward : (s : List ℕ) (at left : ℕ) (p : Packet) → at ≤ length s → look_of (drop at s) left ≡ Next p → Onward s at left p
onward s at left p h e =
    let i = inside (subst (Shown (drop at s) left) e (shown (drop at s) left)) in
    record {
      fits = omega (arith, length-drop at s, i.present);
      room = i.room;
      gives = i.gives;
      means =
          meaning_next (drop at s) at left p e
          ∙ ap (λ (l : List ℕ). join (bytes_of p (drop at s)) (meaning_from l (at + size_of p) (left - count_of p))) (drop-drop (size_of p) at s);
    }

-- ### The packet at a place of a stream, by its count

module _ (s : List ℕ) (at left count : ℕ) (is : count ≡ get_or s at 0) where
  -- its data is there, and its bytes have room
  pub next_literals : count < 128 → at + (1 + count) ≤ length s → 0 < left → count ≤ left → look_of (drop at s) left ≡ Next (Literals count)
  next_literals low there some room =
      look_literals s at left (omega arith) (λ e. omega arith) (λ e. omega arith) (λ e. omega arith) (omega arith)
      ∙ fitted_next (length s - (at + 1)) left (Literals (get_or s at 0)) (omega arith) (omega arith)
      ∙ ap (λ (n : ℕ). Next (Literals n)) (sym is)

  pub next_run : 128 < count → at + 2 ≤ length s → 0 < left → count - 128 ≤ left → look_of (drop at s) left ≡ Next (Run (count - 128) (get_or s (at + 1) 0))
  next_run high there some room =
      look_run s at left (omega arith) (λ e. omega arith) (λ e. omega arith) (λ e. omega arith) (omega arith)
      ∙ fitted_next (length s - (at + 1)) left (Run (get_or s at 0 - 128) (get_or s (at + 1) 0)) (omega arith) (omega arith)
      ∙ ap (λ (n : ℕ). Next (Run (n - 128) (get_or s (at + 1) 0))) (sym is)

  -- a packet is known to stand there
  module _ {q : Packet} (st : Stood (drop at s) left q) where
    count_is : st.count ≡ count
    count_is = ap (λ (l : List ℕ). get_or l 0 0) (sym st.is) ∙ get_or-drop at s 0 0 ∙ ap (λ (n : ℕ). get_or s n 0) (add-zero at) ∙ sym is

    pub stood_literals : count < 128 → q ≡ Literals count
    unfolding packet_of
    stood_literals low =
        sym st.packet ∙ pick_yes _ _ _ (lt-ltb st.count 128 (omega (arith, count_is))) ∙ ap Literals count_is

    pub stood_run : 128 ≤ count → q ≡ Run (count - 128) (get_or s (at + 1) 0)
    unfolding packet_of
    stood_run high =
        sym st.packet
        ∙ pick_no _ _ _ (le-ltb st.count 128 (omega (arith, count_is)))
        ∙ ap (λ (n : ℕ). Run (n - 128) (get_or st.rest 0 0)) count_is
        ∙ ap (Run (count - 128)) (ap (λ (l : List ℕ). get_or l 1 0) (sym st.is) ∙ get_or-drop at s 1 0)
