-- A reply is told by its number, place and third number: the definitions that give them tell any two replies apart.
-- Assumes nothing.
use mathlib.Core.Path.{◌≡◌, refl, sym, ◌∙◌, ap}
use mathlib.Core.Logic.{◌↔◌, ◌≢◌}
use mathlib.Core.Bool.{cond}
use mathlib.Core.List.{List, [], ◌∷◌}
use Prim.Native.Nat.{ℕ, ◌<◌}
use native.Mathlib.Omega.{arith}
use lib.Dec.{eqb}
use borrow.Author.Tests.{ne_eqb}
use Rattle.std.specs.Prelude.{Ok, Err}
use Rattle.replies.specs.declared.Cause.{Cause}
use Rattle.replies.specs.declared.Cause.TheVariants.{BadSize, NoKind, LawBroken, BadBlock, BadLength, BadVersion, BadHeader, BadCount, BadPart}
use Rattle.replies.specs.declared.Cause.TheVariants.{NotReached, Clash, ShortOutput, NoTerm, OutOfRange, TooManyFacts, NoTree}
use Rattle.replies.specs.Replies.{cause_number, number, place, third, Reply, refusal}
use Rattle.promises.specs.HostReplies.{Reads}

-- a reply's number fits a byte
cause_few : (c : Cause) → (0 < cause_number c) × (cause_number c < 256)
cause_few BadSize = (omega arith, omega arith)
cause_few NoKind = (omega arith, omega arith)
cause_few LawBroken = (omega arith, omega arith)
cause_few BadBlock = (omega arith, omega arith)
cause_few BadLength = (omega arith, omega arith)
cause_few BadVersion = (omega arith, omega arith)
cause_few BadHeader = (omega arith, omega arith)
cause_few BadCount = (omega arith, omega arith)
cause_few BadPart = (omega arith, omega arith)
cause_few NotReached = (omega arith, omega arith)
cause_few Clash = (omega arith, omega arith)
cause_few ShortOutput = (omega arith, omega arith)
cause_few NoTerm = (omega arith, omega arith)
cause_few OutOfRange = (omega arith, omega arith)
cause_few TooManyFacts = (omega arith, omega arith)
cause_few NoTree = (omega arith, omega arith)

pub number_few : (r : Reply) → number r < 256
number_few (Ok t) = omega arith
number_few (Err r) = (cause_few r.0).1

-- the causes in the order of their numbers
causes : List Cause
causes =
    BadSize ∷ NoKind ∷ LawBroken ∷ BadBlock ∷ BadLength ∷ BadVersion ∷ BadHeader ∷ BadCount ∷ BadPart ∷ NotReached ∷ Clash ∷ ShortOutput
    ∷ NoTerm ∷ OutOfRange ∷ TooManyFacts ∷ NoTree ∷ []

-- the first of the list with this number
with_number : List Cause → ℕ → Cause
with_number [] n = BadSize
with_number (c ∷ cs) n = cond (eqb n (cause_number c)) c (with_number cs n)

cause_of : ℕ → Cause
cause_of n = with_number causes n

cause_told : (c : Cause) → cause_of (cause_number c) ≡ c
unfolding cause_of with_number causes
cause_told BadSize = refl
cause_told NoKind = refl
cause_told LawBroken = refl
cause_told BadBlock = refl
cause_told BadLength = refl
cause_told BadVersion = refl
cause_told BadHeader = refl
cause_told BadCount = refl
cause_told BadPart = refl
cause_told NotReached = refl
cause_told Clash = refl
cause_told ShortOutput = refl
cause_told NoTerm = refl
cause_told OutOfRange = refl
cause_told TooManyFacts = refl
cause_told NoTree = refl

-- the reply that is read so
reply_of : ℕ → ℕ → ℕ → Reply
reply_of n p t = cond (eqb n 0) (Ok t) (refusal (cause_of n) p)

reply_told : (r : Reply) → reply_of (number r) (place r) (third r) ≡ r
unfolding reply_of
reply_told (Ok t) = refl
reply_told (Err r) =
    let some : cause_number r.0 ≢ 0 = λ e. omega (arith, (cause_few r.0).0, e) in
    rw (ne_eqb (cause_number r.0) 0 some, cause_told r.0)

-- one reply only is read so
pub reads_one : {n p t : ℕ} {r s : Reply} → Reads r n p t → Reads s n p t → r ≡ s
reads_one {n} {p} {t} {r} {s} a b = sym (told a) ∙ told b
  where
    told : {x : Reply} → Reads x n p t → reply_of n p t ≡ x
    told {x} c = rw (sym c.number_is, sym c.place_is, sym c.third_is) (reply_told x)

-- a reply is s exactly when it is read as s is
pub reads_exactly : (r s : Reply) → (r ≡ s) ↔ Reads r (number s) (place s) (third s)
reads_exactly r s = (λ e. record { number_is = ap number e; place_is = ap place e; third_is = ap third e }, λ a. reads_one a own)
  where
    own : Reads s (number s) (place s) (third s)
    own = record { number_is = refl; place_is = refl; third_is = refl }

-- 11 is told for a clash alone
pub number_clash : (r : Reply) → number r ≡ 11 → r ≡ refusal Clash (place r)
number_clash (Ok t) e = absurd (omega (arith, e))
number_clash (Err r) e = ap (λ (x : Cause). refusal x r.1) (sym (cause_told r.0) ∙ ap cause_of e ∙ cause_told Clash)
