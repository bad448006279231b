-- A read puts its bytes behind those in front, which stay.
use Rattle.std.proofs.Common.{◌≡◌, ℕ, ◌+◌, ◌-◌, ◌≤◌, List, ◌++◌, rules, length, take, ap, ap₂, sym, ◌∙◌, subst, le_refl, drop_at, length-take-le}
use Rattle.std.proofs.KnownBytes.{Consumes-trans}
use Rattle.std.proofs.lemmas.List.{take-append-le}
use Rattle.std.proofs.lemmas.Slice.{take-put_mid_below}
use Rattle.std.specs.Io.KnownBytes.{Consumes}
use borrow.Rule.Slice.PartMut.{put_mid, post_of}
use lib.Seq.{take-add}
use Rattle.printing.proofs.input.read_full.Goals as goal

-- n bytes of those in the part from a on
front_longer : (a k n : ℕ) (xs ys : List ℕ) → a ≤ length xs → n ≤ length ys → take (a + n) (put_mid a k xs ys) ≡ take a xs ++ take n ys
front_longer a k n xs ys inside fits =
    take-add a n (put_mid a k xs ys)
    ∙ ap₂ (λ (f b : List ℕ). f ++ b) (take-put_mid_below a k xs ys a (le_refl a) inside)
    (ap (take n) (drop_at (take a xs) (ys ++ post_of a k xs) a (length-take-le a xs inside)) ∙ take-append-le n ys (post_of a k xs) fits)

pub loop-done-preserved : goal.loop-done-preserved
loop-done-preserved g c =
    let l = c.loop-done in
    let longer = front_longer l.done (length l.buffer - l.done) c.in-Ok.n l.buffer c.read.new.buf l.invariant.within c.in-Ok.ensures.bound.0 in
    record {
      within = search rules;
      bytes = subst (Consumes _ _) (sym longer) (Consumes-trans _ _ _ _ _ l.invariant.bytes c.in-Ok.ensures.bytes.0);
    }
