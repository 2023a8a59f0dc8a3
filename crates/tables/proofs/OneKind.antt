-- The laws of one kind, in their order: which of them is broken first.
-- Assumes nothing.
use mathlib.Core.Path.{◌≡◌, ◌∙◌}
use mathlib.Core.List.{List, [], ◌∷◌}
use Prim.Native.Nat.{ℕ, ◌+◌, ◌*◌}
use Rattle.std.specs.Prelude.{Ok}
use Rattle.replies.specs.Replies.{refusal}
use Rattle.replies.specs.declared.Cause.TheVariants.{LawBroken}
use Rattle.kinds.specs.Kinds.{meet_at}
use Rattle.tables.specs.Check.{Law, law_reply, first_breach}
use Rattle.tables.proofs.Scan.{equal, unequal, first_kept, first_broken, no_more}

module _ (n : ℕ) (table : List ℕ) (i : ℕ) where
  abbrev pub of_one : List Law
  of_one = Law.self i ∷ Law.none i ∷ Law.any i ∷ []

  pub self_broken : (meet_at n table i i ≡ i → ⊥) → first_breach n table of_one ≡ refusal LawBroken (i * n + i)
  unfolding law_reply
  self_broken d = first_broken _ _ _ _ (unequal _ _ d)

  module _ (own : meet_at n table i i ≡ i) where
    pub none_broken : (meet_at n table 0 i ≡ 0 → ⊥) → first_breach n table of_one ≡ refusal LawBroken (0 * n + i)
    unfolding law_reply
    none_broken d = first_kept _ _ _ _ (equal _ _ own) ∙ first_broken _ _ _ _ (unequal _ _ d)

    module _ (low : meet_at n table 0 i ≡ 0) where
      pub any_broken : (meet_at n table 1 i ≡ i → ⊥) → first_breach n table of_one ≡ refusal LawBroken (1 * n + i)
      unfolding law_reply
      any_broken d = first_kept _ _ _ _ (equal _ _ own) ∙ first_kept _ _ _ _ (equal _ _ low) ∙ first_broken _ _ _ _ (unequal _ _ d)

      pub one_kept : meet_at n table 1 i ≡ i → first_breach n table of_one ≡ Ok 0
      unfolding law_reply
      one_kept e = first_kept _ _ _ _ (equal _ _ own) ∙ first_kept _ _ _ _ (equal _ _ low) ∙ first_kept _ _ _ _ (equal _ _ e) ∙ no_more _ _
