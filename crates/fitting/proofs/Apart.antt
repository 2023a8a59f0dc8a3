-- The fast look: what its loops have seen of the bytes they passed, what that tells of each part of the session's own bytes, and that where
-- the three parts are as it wants, the form is well formed and each joint fits.
-- Assumes nothing.
use Rattle.std.proofs.Common.{◌≡◌, ℕ, ◌+◌, ◌-◌, ◌*◌, ◌%◌, ◌<◌, ◌≤◌, true, ◌⊎◌, List, length, get_or, take, drop, sym, ap, ◌∙◌, inl, inr, ⊎_elim, arith, get_or-take}
use mathlib.Core.Logic.{by_cases}
use native.Mathlib.Decide.{ℕ_discrete, dec_lt}
use Rattle.runs.specs.Runs.{all_zero, each}
use Rattle.runs.proofs.Each.{each_at}
use Rattle.runs.proofs.Zeros.{zero_at}
use Rattle.meaning.specs.Form.{Form, unknown}
use Rattle.meaning.specs.Solving.{Smallest, Well}
use Rattle.joints.specs.Layout.{classes_of, joint_kinds_of, rows_of, block_form}
use Rattle.joints.proofs.Parts.{byte_from}
use Rattle.fitting.specs.Fits.{all, joint_fits}
use Rattle.fitting.specs.Apart.{AtMost, ClassesApart, KindsApart, LinksApart}
use Rattle.fitting.proofs.Tests.{all_make}
use Rattle.fitting.proofs.Shape.{well_fits}

-- a loop at i: no byte below i is above `most` once `more` is added to it
pub record Seen (more most i : ℕ) (xs : List ℕ) : Type 0 where
  pub byte : (k : ℕ) → k < i → get_or xs k 0 < 256
  pub below : (k : ℕ) → k < i → (get_or xs k 0 + more) % 256 ≤ most

pub none_seen : (more most : ℕ) (xs : List ℕ) → Seen more most 0 xs
none_seen more most xs = record { byte = λ k h. absurd (omega arith); below = λ k h. absurd (omega arith) }

module _ {more most i : ℕ} {xs : List ℕ} (l : Seen more most i xs) where
  pub seen : {x r : ℕ} → get_or xs i 0 < 256 → x ≡ (get_or xs i 0 + more) % 256 → most ≤ r → x ≤ r → Seen more r (i + 1) xs
  seen {x} {r} b e keeps holds =
      record {
        byte = λ k h. by_cases (ℕ_discrete k i) (λ q. rw q b) (λ d. l.byte k (omega arith));
        below = λ k h.
            by_cases (ℕ_discrete k i)
            (λ q. rw (q, ← e) holds)
            (λ d. let g = l.below k (omega arith) in omega (arith, g));
      }

  pub all_seen : length xs ≤ i → AtMost more most xs
  all_seen h = record { byte = λ k g. l.byte k (omega arith); below = λ k g. l.below k (omega arith) }

-- p is the first m bytes of the run xs, and q what stands behind them
pub record Split (m : ℕ) (xs p q : List ℕ) : Type 0 where
  pub size : length p ≡ m
  pub front : p ≡ take m xs
  pub back : q ≡ drop m xs

pub split : (m : ℕ) {xs ys p q : List ℕ} → ys ≡ xs → length p ≡ m → p ≡ take m ys → q ≡ drop m ys → Split m xs p q
split m e l f b = record { size = l; front = f ∙ ap (take m) e; back = b ∙ ap (drop m) e }

module _ {m : ℕ} {xs p q : List ℕ} (s : Split m xs p q) where
  front : (i : ℕ) → i < m → get_or p i 0 ≡ get_or xs i 0
  front i h = ap (λ (ys : List ℕ). get_or ys i 0) s.front ∙ get_or-take m xs i 0 h

  behind : all_zero q ≡ true → (i : ℕ) → m ≤ i → get_or xs i 0 ≡ 0
  behind z i h = byte_from m xs i h ∙ sym (ap (λ (ys : List ℕ). get_or ys (i - m) 0) s.back) ∙ zero_at q z (i - m)

-- a byte that is at most r once 255 is added to it, for an r below 255, is from 1 to r + 1; one that is at most v once 1 is added to it is 255
-- or below v
less_one : {x r : ℕ} → x < 256 → (x + 255) % 256 ≤ r → r < 255 → (1 ≤ x) × (x ≤ r + 1)
less_one b h d = (omega arith, omega arith)

one_more : {x v : ℕ} → x < 256 → (x + 1) % 256 ≤ v → (x ≡ 255) ⊎ (x < v)
one_more {x} b h = by_cases (ℕ_discrete x 255) (λ e. inl e) (λ d. inr (omega arith))

module _ (b : List ℕ) {p q : List ℕ} (v : ℕ) where
  pub classes_apart : Split v (classes_of b) p q → p ≡ each (λ j. j) 0 (length p) → all_zero q ≡ true → ClassesApart v (block_form b)
  classes_apart s e z =
      record {
        own = λ j h.
            sym (front s j h) ∙ ap (λ (ys : List ℕ). get_or ys j 0) e ∙ each_at (λ j. j) (length p) j (omega (arith, s.size));
        rest = behind s z;
      }

  pub kinds_apart :
      {n r : ℕ} → Split v (joint_kinds_of b) p q → AtMost 255 r p → r < 255 → r + 1 < n → all_zero q ≡ true → KindsApart n v (block_form b)
  kinds_apart {n} {r} s a d h z =
      record {
        low = λ j i. (in_range j i).0;
        high = λ j i. omega (arith, (in_range j i).1);
        rest = behind s z;
      }
    where
      in_range : (j : ℕ) → j < v → (1 ≤ (block_form b).kind j) × ((block_form b).kind j ≤ r + 1)
      in_range j i =
          let g : j < length p = omega (arith, s.size) in
          rw (front s j i) at (less_one (a.byte j g) (a.below j g) d)

  pub links_apart :
      {r : ℕ} → Split (16 * v) (rows_of b) p q → AtMost 1 r p → r ≤ v → all_zero q ≡ true → LinksApart v (block_form b)
  links_apart {r} s a f z =
      record {
        end = λ j l h k. in_range (j * 16 + l) (omega arith);
        rest = λ j l h k. behind s z (j * 16 + l) (omega arith);
      }
    where
      in_range : (i : ℕ) → i < 16 * v → (get_or (rows_of b) i 0 ≡ unknown) ⊎ (get_or (rows_of b) i 0 < v)
      in_range i h =
          let g : i < length p = omega (arith, s.size) in
          rw (front s i h) at (one_more {v = v} (a.byte i g) (omega (arith, a.below i g)))

-- the three parts together
module _ {n v : ℕ} {S : Form} (c : ClassesApart v S) (k : KindsApart n v S) (r : LinksApart v S) (some : 1 ≤ v) where
  apart_well : Well n v S
  apart_well =
      record {
        class_le = λ j h. omega (arith, c.own j h);
        class_smallest = λ j h. let e : S.class j ≡ j = c.own j h in ap S.class e;
        kind_some = λ j s z. omega (arith, k.low j s.0);
        kind_in = λ j. by_cases (dec_lt j v) (λ h. k.high j h) (λ d. omega (arith, k.rest j (omega arith), k.high 0 some));
        link_smallest = λ j l s h. ⊎_elim (λ e. inl e) (λ g. inr (g, c.own (S.link j l) g)) (r.end j l s.0 h);
        kind_rest = λ j d. k.rest j (no_joint j d);
        link_rest = λ j l d h. r.rest j l (no_joint j d) h;
        class_rest = c.rest;
      }
    where
      no_joint : (j : ℕ) → (Smallest v S j → ⊥) → v ≤ j
      no_joint j d = by_cases (dec_lt j v) (λ h. absurd (d (h, c.own j h))) (λ f. omega arith)

  pub apart_fits : all (joint_fits n v S) 0 64 ≡ true
  apart_fits = all_make (joint_fits n v S) 0 64 (λ j _ _. well_fits n v S apart_well j)
