-- The numbers of the replies that need no solving: each test of a definition gives one of its own. So the replies that come before a
-- clash, 1 and 4 to 9, are none.
-- Assumes nothing.
use mathlib.Core.Path.{◌≡◌, refl, sym, ◌∙◌, ap}
use mathlib.Core.Logic.{◌≢◌}
use mathlib.Core.Bool.{Bool, true, false, ◌||◌, true≢false, false≢true}
use mathlib.Core.List.{List, [], ◌∷◌, ◌++◌, map}
use Prim.Native.Nat.{ℕ, zero, suc, ◌+◌, ◌*◌}
use lib.Dec.{eqb, ltb}
use lib.ListN.{length, get_or}
use Rattle.std.specs.Prelude.{Ok}
use Rattle.replies.specs.declared.Cause.{Cause}
use Rattle.replies.specs.declared.Cause.TheVariants.{BadSize, NoKind, LawBroken, BadBlock, BadLength, BadVersion, BadHeader, BadCount, BadPart}
use Rattle.replies.specs.Replies.{cause_number, number, unless, first_refusal, Reply}
use Rattle.replies.proofs.Laws.{Each, first_holds}
use Rattle.runs.specs.Runs.{each, within}
use Rattle.kinds.specs.Kinds.{meet_at}
use Rattle.tables.specs.Check.{Law, law_reply, first_breach, table_reply, in_order}
use Rattle.tables.specs.Check.Law.{entry, self, none, any, swap, group}
use Rattle.packets.specs.Packet.{byte, ties, joints, tie_at, fact_at, fact_count}
use Rattle.screening.specs.declared.Wanted.{Wanted}
use Rattle.screening.specs.Screening.{length_fits, count_fits, tie_fits, fact_fits}
use Rattle.screening.specs.Screening.{first_unfit, first_bad_fact, packet_reply, facts_wanted, rule_wanted}
use Rattle.joints.specs.Layout.{kinds_of, joints_of}
use Rattle.blocks.specs.Layout.{block_size}
use Rattle.blocks.specs.WellFormed.{well_formed, block_reply}
use Rattle.opening.specs.Open.{sizes_fit, open_reply}
use Rattle.taking.specs.Take.{take_refusal}
use Rattle.asking.specs.Ask.{ask_refusal}
use Rattle.promises.specs.HostReplies.{listed, gives, open_numbers}

or_more : (t : Bool) {a b : Bool} → (a ≡ true → b ≡ true) → t || a ≡ true → t || b ≡ true
or_more true f e = refl
or_more false f e = f e

-- more numbers behind
pub listed_more : (xs ys : List ℕ) (x : ℕ) → listed xs x ≡ true → listed (xs ++ ys) x ≡ true
unfolding listed
listed_more [] ys x e = absurd (false≢true e)
listed_more (y ∷ xs) ys x e = or_more (eqb x y) (listed_more xs ys x) e

-- the first refusal of a list has a listed number where each reply has, and the last
module _ (numbers : List ℕ) where
  abbrev Gives : Reply → Type 0
  Gives r = gives numbers r ≡ true

  pub unless_gives : (t : Bool) (c : Cause) (p : ℕ) → listed numbers 0 ≡ true → listed numbers (cause_number c) ≡ true → Gives (unless t c p)
  unless_gives true c p has_0 has_c = has_0
  unless_gives false c p has_0 has_c = has_c

  pub first_gives : (rs : List Reply) (last : Reply) → Each Gives rs → Gives last → Gives (first_refusal rs last)
  first_gives = first_holds Gives

-- the reply to a table
pub open_gives : (n v : ℕ) (table b : List ℕ) → gives open_numbers (open_reply n v table b) ≡ true
unfolding open_reply law_reply first_breach listed
open_gives n v table b =
    first_gives open_numbers _ (table_reply n table) (unless_gives open_numbers (sizes_fit n v table b) BadSize 0 refl refl, tt)
    (first_gives open_numbers _ (Ok 0) (laws_give (in_order n)) refl)
  where
    law_gives : (law : Law) → gives open_numbers (law_reply n table law) ≡ true
    law_gives (entry p) = unless_gives open_numbers (ltb (get_or table p 0) n) NoKind p refl refl
    law_gives (self i) = unless_gives open_numbers (eqb (meet_at n table i i) i) LawBroken (i * n + i) refl refl
    law_gives (none i) = unless_gives open_numbers (eqb (meet_at n table 0 i) 0) LawBroken (0 * n + i) refl refl
    law_gives (any i) = unless_gives open_numbers (eqb (meet_at n table 1 i) i) LawBroken (1 * n + i) refl refl
    law_gives (swap i j) = unless_gives open_numbers (eqb (meet_at n table i j) (meet_at n table j i)) LawBroken (i * n + j) refl refl
    law_gives (group i j k) =
        unless_gives open_numbers (eqb (meet_at n table (meet_at n table i j) k) (meet_at n table i (meet_at n table j k))) LawBroken (i * n + j) refl refl

    laws_give : (order : List Law) → Each (λ r. gives open_numbers r ≡ true) (map (law_reply n table) order)
    laws_give [] = tt
    laws_give (x ∷ xs) = (law_gives x, laws_give xs)

-- the reply to a block, which is 0, 1 or 4
pub block_gives :
    (numbers : List ℕ) → listed numbers 0 ≡ true → listed numbers 1 ≡ true → listed numbers 4 ≡ true → (b : List ℕ) →
    gives numbers (block_reply b) ≡ true
unfolding block_reply
block_gives numbers has_0 has_1 has_4 b =
    first_gives numbers _ (Ok 0)
    (unless_gives numbers (eqb (length b) block_size) BadSize 0 has_0 has_1, (unless_gives numbers (well_formed b) BadBlock 0 has_0 has_4, tt))
    has_0

-- the refusals that taking and asking share
abbrev pub early_numbers : List ℕ
early_numbers = 0 ∷ 1 ∷ 4 ∷ 5 ∷ 6 ∷ 7 ∷ 8 ∷ 9 ∷ []

abbrev Early : Reply → Type 0
Early r = gives early_numbers r ≡ true

unfit_gives : (fits : ℕ → Bool) (at : ℕ → ℕ) (i count : ℕ) → Early (first_unfit fits at i count)
unfolding first_unfit each listed
unfit_gives fits at i count = first_gives early_numbers _ (Ok 0) (each_gives i count) refl
  where
    each_gives : (i count : ℕ) → Each Early (each (λ k. unless (fits (at k)) BadPart (at k)) i count)
    each_gives i zero = tt
    each_gives i (suc count) = (unless_gives early_numbers (fits (at i)) BadPart (at i) refl refl, each_gives (suc i) count)

module _ (w : Wanted) (n v : ℕ) (p : List ℕ) where
  packet_gives : Early (packet_reply w n v p)
  unfolding packet_reply listed
  packet_gives =
      let test = unless_gives early_numbers in
      first_gives early_numbers _ (first_bad_fact n p) (
        test (length_fits p) BadLength 0 refl refl,
        (
          test (eqb (byte p 2) 1) BadVersion 2 refl refl,
          (
            test (eqb (byte p 3) w.purpose) BadHeader 3 refl refl,
            (
              test (within w.ties.from w.ties.to (ties p)) BadHeader 4 refl refl,
              (
                test (within w.joints.from w.joints.to (joints p)) BadHeader 5 refl refl,
                (
                  test (count_fits p) BadCount 0 refl refl,
                  (unfit_gives (tie_fits v p) tie_at 0 (ties p), tt),
                ),
              ),
            ),
          ),
        ),
      )
      (unfit_gives (fact_fits n p) (fact_at p) 0 (fact_count p))

  early_gives : (b : List ℕ) → Early (first_refusal (block_reply b ∷ []) (packet_reply w n v p))
  unfolding listed
  early_gives b = first_gives early_numbers _ (packet_reply w n v p) (block_gives early_numbers refl refl refl b, tt) packet_gives

module _ (b p : List ℕ) where
  pub take_refusal_gives : gives early_numbers (take_refusal b p) ≡ true
  unfolding take_refusal
  take_refusal_gives = early_gives (facts_wanted (joints_of b)) (kinds_of b) (joints_of b) p b

  pub ask_refusal_gives : gives early_numbers (ask_refusal b p) ≡ true
  unfolding ask_refusal
  ask_refusal_gives = early_gives rule_wanted (kinds_of b) (joints_of b) p b

  pub refusal_no_clash : number (take_refusal b p) ≢ 11
  unfolding listed
  refusal_no_clash e = true≢false (sym take_refusal_gives ∙ ap (listed early_numbers) e)
