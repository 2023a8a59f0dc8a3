-- What is said of a part holds of its number, too: whether a letter is written, as it was told of numbers alone; and `is_text` has one result
-- for whatever is converted to one part.
-- Assumes nothing.
use Rattle.std.proofs.Common.{◌≡◌, sym, ◌∙◌, ap, Bool, ℕ}
use Rattle.std.specs.Prelude.{eqb, ◌&&◌, ◌||◌}
use mathlib.Core.Logic.{by_cases}
use native.Mathlib.Decide.{ℕ_discrete}
use borrow.Author.Tests.{ne_eqb}
use Rattle.scripts.specs.declared.Part.{Part}
use Rattle.scripts.specs.Scripts.{part_of, is_text, is_plain}

-- a letter is written where the number of the part is 0, the text, or 5, behind a call, and the letter begins nothing
pub number_text : (n c : ℕ) → is_text (part_of n) c ≡ ((eqb n 0 || eqb n 5) && is_plain c)
number_text n c =
    by_cases (ℕ_discrete n 0) (λ e. rw (e))
    (λ d₀. by_cases (ℕ_discrete n 1) (λ e. rw (e))
    (λ d₁. by_cases (ℕ_discrete n 2) (λ e. rw (e))
    (λ d₂. by_cases (ℕ_discrete n 3) (λ e. rw (e))
    (λ d₃. by_cases (ℕ_discrete n 4) (λ e. rw (e))
    (λ d₄. by_cases (ℕ_discrete n 5) (λ e. rw (e))
    (λ d₅. rw (ne_eqb n 0 d₀, ne_eqb n 1 d₁, ne_eqb n 2 d₂, ne_eqb n 3 d₃, ne_eqb n 4 d₄, ne_eqb n 5 d₅)))))))

-- what a conversion gives as one part has one answer
pub text_one :
    {A : Type 0} (converts : A → Part → Type 0) {x : A} → ((p q : Part) → converts x p → converts x q → p ≡ q) → (c : ℕ) {r s : Bool}
    → (p : Part) × (converts x p) × (r ≡ is_text p c) → (p : Part) × (converts x p) × (s ≡ is_text p c) → r ≡ s
text_one converts one c (p, e, told) (q, f, said) = told ∙ ap (λ (part : Part). is_text part c) (one p q e f) ∙ sym said
