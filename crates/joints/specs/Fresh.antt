-- The session's own bytes as opening writes them: each of the v joints is a class of its own, with kind 1 and no known link;
-- from v on there are zeros.
-- Assumes nothing.
use Rattle.std.specs.Prelude.{cond, List, ◌∷◌, ◌++◌, ℕ, ◌-◌, ◌*◌, ltb, replicate}
use Rattle.runs.specs.Runs.{each}

abbrev pub own_classes : ℕ → List ℕ
own_classes v = each (λ j. cond (ltb j v) j 0) 0 64

abbrev pub any_kinds : ℕ → List ℕ
any_kinds v = each (λ j. cond (ltb j v) 1 0) 0 64

abbrev pub no_links : ℕ → List ℕ
no_links v = replicate (16 * v) 255 ++ replicate (1024 - 16 * v) 0

abbrev pub fresh_session : ℕ → ℕ → List ℕ
fresh_session n v = n ∷ v ∷ (own_classes v ++ (any_kinds v ++ no_links v))
