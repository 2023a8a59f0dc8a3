-- 'Kind tables' and replies 2 and 3: each law with the reply to its breach, the order in which they are looked at, and the first breach.
-- Assumes nothing.
use Rattle.std.specs.Prelude.{List, [], ◌∷◌, ◌++◌, map, ℕ, zero, suc, ◌+◌, ◌*◌, eqb, ltb, get_or, Ok}
use Rattle.replies.specs.declared.Cause.TheVariants.{NoKind, LawBroken}
use Rattle.replies.specs.Replies.{unless, first_refusal, Reply}
use Rattle.kinds.specs.Kinds.{meet_at}
use Rattle.kinds.specs.declared.Table.{Table}

pub data Law : Type 0 where
  -- the entry at p is a kind: no law of its own in 01, but looked at before them
  entry : ℕ → Law
  -- meet(i,i) = i
  self : ℕ → Law
  -- meet(0,i) = 0
  none : ℕ → Law
  -- meet(1,i) = i
  any : ℕ → Law
  -- meet(i,j) = meet(j,i)
  swap : ℕ → ℕ → Law
  -- meet(meet(i,j),k) = meet(i,meet(j,k))
  group : ℕ → ℕ → ℕ → Law

-- the reply to one law. 2, "a table entry is n or more", at its offset; 3, "a table law broken", at the "offset of the entry read; in a pair or
-- triple i × n + j"
unfoldable pub law_reply : ℕ → List ℕ → Law → Reply
law_reply n table (entry p) = unless (ltb (get_or table p 0) n) NoKind p
law_reply n table (self i) = unless (eqb (meet_at n table i i) i) LawBroken (i * n + i)
law_reply n table (none i) = unless (eqb (meet_at n table 0 i) 0) LawBroken (0 * n + i)
law_reply n table (any i) = unless (eqb (meet_at n table 1 i) i) LawBroken (1 * n + i)
law_reply n table (swap i j) = unless (eqb (meet_at n table i j) (meet_at n table j i)) LawBroken (i * n + j)
law_reply n table (group i j k) = unless (eqb (meet_at n table (meet_at n table i j) k) (meet_at n table i (meet_at n table j k))) LawBroken (i * n + j)

-- the laws of f for each i below count, in rising order
unfoldable pub for_each : ℕ → (ℕ → List Law) → List Law
for_each zero f = []
for_each (suc count) f = for_each count f ++ f count

unfoldable pub entries : ℕ → List Law
entries n = for_each (n * n) (λ p. entry p ∷ [])

-- "for each i in rising order meet(i,i) = i, meet(0,i) = 0, meet(1,i) = i"
unfoldable pub singles : ℕ → List Law
singles n = for_each n (λ i. self i ∷ none i ∷ any i ∷ [])

-- "pairs and triples go by i, then j, then k"
unfoldable pub pairs : ℕ → List Law
pairs n = for_each n (λ i. for_each n (λ j. swap i j ∷ []))

unfoldable pub triples : ℕ → List Law
triples n = for_each n (λ i. for_each n (λ j. for_each n (λ k. group i j k ∷ [])))

-- every law, in the order in which they are looked at
abbrev pub in_order : ℕ → List Law
in_order n = entries n ++ (singles n ++ (pairs n ++ triples n))

-- the reply to the first law of the list that the table breaks; done where it breaks none
unfoldable pub first_breach : ℕ → List ℕ → List Law → Reply
first_breach n table list = first_refusal (map (law_reply n table) list) (Ok 0)

abbrev pub table_reply : ℕ → List ℕ → Reply
table_reply n table = first_breach n table (in_order n)

-- the reply to the first of some laws that a table breaks, where the laws are those of its number of kinds
abbrev pub breach_of : Table → (ℕ → List Law) → Reply
breach_of t laws = first_breach t.n t.entries.now (laws t.n)
