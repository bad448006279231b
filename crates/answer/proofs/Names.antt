-- An answer is accepted, or it is not: by the test, and by name.
use mathlib.Core.Path.{◌≡◌, refl, ap}
use mathlib.Core.Bool.{true, false, true≢false}
use Rattle.laws.proofs.Tests.{never}
use Rattle.std.specs.Prelude.{Ok, Err}
use Rattle.answer.specs.Answers.{Answer, Accepted, is_accepted}

pub accepted_is : (a : Answer) → is_accepted a ≡ true → a ≡ Accepted
accepted_is (Ok _) h = refl
accepted_is (Err s) h = never h

pub accepted_yes : {a : Answer} → a ≡ Accepted → is_accepted a ≡ true
accepted_yes e = ap is_accepted e

-- the tests of a name that is no other
pub not_accepted : {a : Answer} → is_accepted a ≡ false → a ≡ Accepted → ⊥
not_accepted h e = true≢false (rw e at h)
