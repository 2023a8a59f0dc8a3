-- The check passes exactly when the table is lawful, and else tells of the first law in the order of the check that is broken.
-- Assumes nothing.
use mathlib.Core.Path.{◌≡◌, refl, ap, ◌∙◌, sym}
use mathlib.Core.Logic.{◌↔◌, by_cases}
use mathlib.Core.Bool.{Bool, true, false, cond, false≢true}
use mathlib.Core.List.{List, [], ◌∷◌, ◌++◌}
use Prim.Native.Nat.{ℕ, zero, suc, ◌+◌, ◌*◌, ◌/◌, ◌%◌, ◌<◌}
use native.Mathlib.Omega.{arith}
use native.Mathlib.Decide.{ℕ_discrete}
use native.Mathlib.Nat.{div-add-mod', mod-lt, div-lt_iff_lt-mul}
use lib.ListN.{get_or}
use borrow.Author.Tests.{lt-ltb, ltb-true}
use Rattle.std.specs.Prelude.{Ok, Err}
use Rattle.kinds.specs.Kinds.{meet_at}
use Rattle.kinds.specs.Laws.{Commutes, Associates, Lawful}
use Rattle.kinds.proofs.Offset.{offset_lt}
use Rattle.masks.specs.Masks.{Single}
use Rattle.replies.specs.declared.Cause.{Cause}
use Rattle.replies.specs.Replies.{refuses, Reply, refusal}
use Rattle.replies.proofs.Laws.{first_passed, unless_passed, Each, each_append, each_left, each_right}
use Rattle.tables.specs.Check.{Law, law_reply, for_each, entries, singles, pairs, triples, in_order, first_breach, table_reply}
use Rattle.kinds.specs.Sizes.{AllKinds}
use Rattle.tables.proofs.Scan.{passed, equal, same, no_more, first_kept, first_broken}

module _ (n : ℕ) (table : List ℕ) where
  -- the table keeps every law of the list: none has a refusal for its reply
  abbrev Keeps : Law → Type 0
  Keeps law = refuses (law_reply n table law) ≡ false

  abbrev pub Kept : List Law → Type 0
  Kept laws = Each Keeps laws

  -- a law that a test may leave out
  pub kept_if : (law : Law) (t : Bool) → (t ≡ true → refuses (law_reply n table law) ≡ false) → Kept (cond t (law ∷ []) [])
  kept_if law true f = (f refl, tt)
  kept_if law false f = tt

  pub each_make : (f : ℕ → List Law) (m : ℕ) → ((k : ℕ) → k < m → Kept (f k)) → Kept (for_each m f)
  unfolding for_each
  each_make f zero h = tt
  each_make f (suc m) h = each_append Keeps (for_each m f) (f m) (each_make f m (λ k a. h k (omega arith))) (h m (omega arith))

  pub each_use : (f : ℕ → List Law) (m : ℕ) → Kept (for_each m f) → (k : ℕ) → k < m → Kept (f k)
  unfolding for_each
  each_use f zero a k h = absurd (omega arith)
  each_use f (suc m) a k h =
      by_cases (ℕ_discrete k m) (λ e. rw e (each_right Keeps (for_each m f) (f m) a))
      (λ d. each_use f m (each_left Keeps (for_each m f) (f m) a) k (omega arith))

  -- where nothing is refused every law is kept, and the other way round
  first_passes : (law : Law) (more : List Law) → refuses (first_breach n table (law ∷ more)) ≡ false →
      (refuses (law_reply n table law) ≡ false) × (refuses (first_breach n table more) ≡ false)
  unfolding first_breach
  first_passes law more = first_passed _ _ _

  pub passes_kept : (xs : List Law) → refuses (first_breach n table xs) ≡ false → Kept xs
  passes_kept [] e = tt
  passes_kept (x ∷ xs) e = let q = first_passes x xs e in (q.0, passes_kept xs q.1)

  pub kept_passes : (xs : List Law) → Kept xs → first_breach n table xs ≡ Ok 0
  kept_passes [] a = no_more n table
  kept_passes (x ∷ xs) a = first_kept n table x xs a.0 ∙ kept_passes xs a.1

  pub nothing : (xs : List Law) → Kept xs → refuses (first_breach n table xs) ≡ false
  nothing xs a = ap refuses (kept_passes xs a)

  -- a check that refuses nothing is done with third 0
  pub passes_done : (xs : List Law) → refuses (first_breach n table xs) ≡ false → first_breach n table xs ≡ Ok 0
  passes_done xs e = kept_passes xs (passes_kept xs e)

  pub kept_entries : Kept (entries n) ↔ AllKinds n table
  unfolding entries law_reply
  kept_entries = (
    λ a p h. ltb-true _ _ (unless_passed _ _ _ (each_use (λ q. Law.entry q ∷ []) (n * n) a p h).0),
    λ z. each_make (λ q. Law.entry q ∷ []) (n * n) (λ p h. (passed _ _ (lt-ltb (get_or table p 0) n (z p h)), tt)),
  )

  -- what the laws that are kept say
  pub singles_say : Kept (singles n) → (i : ℕ) → i < n → Single (meet_at n table) i
  unfolding singles law_reply
  singles_say a i hi =
      let one = each_use (λ i. Law.self i ∷ Law.none i ∷ Law.any i ∷ []) n a i hi in
      record { self = same _ _ one.0; none = same _ _ one.1.0; any = same _ _ one.1.1.0 }

  pub pairs_say : Kept (pairs n) → Commutes n (meet_at n table)
  unfolding pairs law_reply
  pairs_say a i j hi hj = same _ _ (each_use (λ j. Law.swap i j ∷ []) n (each_use (λ i. for_each n (λ j. Law.swap i j ∷ [])) n a i hi) j hj).0

  -- of the triples with one first kind
  pub triples_say :
      (i : ℕ) → Kept (for_each n (λ j. for_each n (λ k. Law.group i j k ∷ []))) → (j k : ℕ) → j < n → k < n →
      meet_at n table (meet_at n table i j) k ≡ meet_at n table i (meet_at n table j k)
  unfolding law_reply
  triples_say i a j k hj hk = same _ _ (each_use (λ k. Law.group i j k ∷ []) n (each_use (λ j. for_each n (λ k. Law.group i j k ∷ [])) n a j hj) k hk).0

  kept_lawful : Kept (in_order n) → Lawful n (meet_at n table)
  unfolding triples
  kept_lawful a =
      let b = each_right Keeps (entries n) (singles n ++ (pairs n ++ triples n)) a in
      let d = each_right Keeps (singles n) (pairs n ++ triples n) b in
      let one = singles_say (each_left Keeps (singles n) (pairs n ++ triples n) b) in
      let three = each_use (λ i. for_each n (λ j. for_each n (λ k. Law.group i j k ∷ []))) n (each_right Keeps (pairs n) (triples n) d) in
      record {
        closed = λ i j hi hj. kept_entries.0 (each_left Keeps (entries n) (singles n ++ (pairs n ++ triples n)) a) (i * n + j) (offset_lt hi hj);
        self = λ i hi. (one i hi).self;
        none = λ i hi. (one i hi).none;
        any = λ i hi. (one i hi).any;
        swap = pairs_say (each_left Keeps (pairs n) (triples n) d);
        group = λ i j k hi hj hk. triples_say i (three i hi) j k hj hk;
      }

  lawful_closed : 0 < n → Lawful n (meet_at n table) → AllKinds n table
  lawful_closed pos L p h =
      let e : p / n * n + p % n ≡ p = div-add-mod' p n in
      rw e at (L.closed (p / n) (p % n) ((div-lt_iff_lt-mul pos).1 h) (mod-lt p pos))

  pairs_kept : Commutes n (meet_at n table) → Kept (pairs n)
  unfolding pairs law_reply
  pairs_kept swap =
      each_make (λ i. for_each n (λ j. Law.swap i j ∷ [])) n
      (λ i hi. each_make (λ j. Law.swap i j ∷ []) n (λ j hj. (equal _ _ (swap i j hi hj), tt)))

  triples_kept : Associates n (meet_at n table) → Kept (triples n)
  unfolding triples law_reply
  triples_kept group =
      each_make (λ i. for_each n (λ j. for_each n (λ k. Law.group i j k ∷ []))) n
      (λ i hi. each_make (λ j. for_each n (λ k. Law.group i j k ∷ [])) n
      (λ j hj. each_make (λ k. Law.group i j k ∷ []) n (λ k hk. (equal _ _ (group i j k hi hj hk), tt))))

  several_kept : Commutes n (meet_at n table) → Associates n (meet_at n table) → Kept (pairs n ++ triples n)
  several_kept swap group = each_append Keeps (pairs n) (triples n) (pairs_kept swap) (triples_kept group)

  lawful_kept : 0 < n → Lawful n (meet_at n table) → Kept (in_order n)
  unfolding singles law_reply
  lawful_kept pos L =
      each_append Keeps (entries n) (singles n ++ (pairs n ++ triples n)) (kept_entries.1 (lawful_closed pos L))
      (each_append Keeps (singles n) (pairs n ++ triples n)
      (each_make (λ i. Law.self i ∷ Law.none i ∷ Law.any i ∷ []) n
      (λ i hi. (equal _ _ (L.self i hi), (equal _ _ (L.none i hi), (equal _ _ (L.any i hi), tt)))))
      (several_kept L.swap L.group))

-- the check passes exactly when the table is lawful
pub passes_lawful : (n : ℕ) (table : List ℕ) → table_reply n table ≡ Ok 0 → Lawful n (meet_at n table)
passes_lawful n table e = kept_lawful n table (passes_kept n table (in_order n) (ap refuses e))

pub lawful_passes : (n : ℕ) (table : List ℕ) → 0 < n → Lawful n (meet_at n table) → table_reply n table ≡ Ok 0
lawful_passes n table pos L = kept_passes n table (in_order n) (lawful_kept n table pos L)

-- the reply tells of the first law that is broken, with its cause and place: all before it are kept
pub record FirstBreach (n : ℕ) (table : List ℕ) (order : List Law) (r : Reply) : Type 0 where
  pub earlier : List Law
  pub law : Law
  pub later : List Law
  pub cause : Cause
  pub place : ℕ
  pub where_it_stands : order ≡ earlier ++ (law ∷ later)
  pub earlier_kept : Kept n table earlier
  pub law_broken : law_reply n table law ≡ refusal cause place
  pub tells : r ≡ refusal cause place

module _ (n : ℕ) (table : List ℕ) where
  by_law : (law : Law) (more : List Law) (answer : Reply) → law_reply n table law ≡ answer
      → (refuses (first_breach n table more) ≡ true → FirstBreach n table more (first_breach n table more))
      → refuses (first_breach n table (law ∷ more)) ≡ true → FirstBreach n table (law ∷ more) (first_breach n table (law ∷ more))
  by_law law more (Ok t) q f e =
      let k = first_kept n table law more (ap refuses q) in
      let b = f (ap refuses (sym k) ∙ e) in
      record {
        earlier = law ∷ b.earlier;
        law = b.law;
        later = b.later;
        cause = b.cause;
        place = b.place;
        where_it_stands = ap (λ (x : List Law). law ∷ x) b.where_it_stands;
        earlier_kept = (ap refuses q, b.earlier_kept);
        law_broken = b.law_broken;
        tells = k ∙ b.tells;
      }
  by_law law more (Err r) q f e =
      record {
        earlier = [];
        law = law;
        later = more;
        cause = r.0;
        place = r.1;
        where_it_stands = refl;
        earlier_kept = tt;
        law_broken = q;
        tells = first_broken n table law more q;
      }

  -- a refusal is that of the first law of the order that is broken
  pub first_breach_lem : (order : List Law) → refuses (first_breach n table order) ≡ true → FirstBreach n table order (first_breach n table order)
  first_breach_lem [] e = absurd (false≢true (ap refuses (sym (no_more n table)) ∙ e))
  first_breach_lem (x ∷ xs) e = by_law x xs (law_reply n table x) refl (first_breach_lem xs) e
