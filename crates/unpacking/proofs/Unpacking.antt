-- Unpacking: two runs put into a list, one behind the other, and the parts of a form.
-- Assumes nothing.
use mathlib.Core.Path.{◌≡◌, ◌∙◌, ap}
use mathlib.Core.List.{List, ◌++◌}
use Prim.Native.Nat.{ℕ, ◌+◌, ◌-◌, ◌*◌, ◌<◌, ◌≤◌}
use native.Mathlib.Omega.{arith}
use native.Mathlib.Nat.{not-suc-le-zero}
use lib.ListN.{get_or, length, take, drop, replicate, length-append, length-take, length-drop, length-replicate, get_or-replicate, get_or-append}
use lib.Seq.{get_or-append-add, get_or-take, get_or-drop, length-take-le}
use Rattle.runs.proofs.Zeros.{zeros_at}
use Rattle.solver.specs.Unpacked.{rows_size}
use Rattle.solver.proofs.Fill.{Filled}
use Rattle.meaning.specs.Form.{list_form}
use Rattle.meaning.specs.Asking.{Extends}
use Rattle.joints.specs.Layout.{classes_of, joint_kinds_of, rows_of, block_form}
use Rattle.unpacking.specs.Nodes.{Nodes}

-- xs with the count places from start replaced by ys
abbrev splice : ℕ → ℕ → List ℕ → List ℕ → List ℕ
splice start count ys xs = take start xs ++ (ys ++ drop count (drop start xs))

splice_size : (start count : ℕ) (ys xs : List ℕ) → start + count ≤ length xs → length ys ≡ count → length (splice start count ys xs) ≡ length xs
splice_size start count ys xs h e = simp (length-append, length-take, length-drop) (omega arith)

module _ (xs ys : List ℕ) where
  left_at : {n : ℕ} → length xs ≡ n → (i : ℕ) → i < n → get_or (xs ++ ys) i 0 ≡ get_or xs i 0
  left_at e i h = get_or-append xs ys 0 i (omega arith)

  right_at : {n : ℕ} → length xs ≡ n → (i : ℕ) → n ≤ i → get_or (xs ++ ys) i 0 ≡ get_or ys (i - n) 0
  right_at {n} e i h = let q : i ≡ length xs + (i - n) = omega arith in ap (λ (k : ℕ). get_or (xs ++ ys) k 0) q ∙ get_or-append-add xs ys (i - n) 0

module _ (start count : ℕ) (ys xs : List ℕ) (fits : start + count ≤ length xs) (e : length ys ≡ count) where
  front : length (take start xs) ≡ start
  front = length-take-le start xs (omega arith)

  before_at : (i : ℕ) → i < start → get_or (splice start count ys xs) i 0 ≡ get_or xs i 0
  before_at i h = left_at (take start xs) _ front i h ∙ get_or-take start xs i 0 h

  inside_at : (i : ℕ) → start ≤ i → i < start + count → get_or (splice start count ys xs) i 0 ≡ get_or ys (i - start) 0
  inside_at i a h = right_at (take start xs) _ front i a ∙ left_at ys _ e (i - start) (omega arith)

  behind_at : (i : ℕ) → start + count ≤ i → get_or (splice start count ys xs) i 0 ≡ get_or xs i 0
  behind_at i h =
      let q : start + (count + (i - start - count)) ≡ i = omega arith in
      right_at (take start xs) _ front i (omega arith)
      ∙ right_at ys _ e (i - start) (omega arith)
      ∙ get_or-drop count (drop start xs) (i - start - count) 0
      ∙ get_or-drop start xs (count + (i - start - count)) 0
      ∙ ap (λ (k : ℕ). get_or xs k 0) q

-- the first old places are another list's
pub copied : (part s x : List ℕ) (old : ℕ) → old ≤ length s → old ≤ length part → x ≡ take old part → Filled (λ j. get_or part j 0) 0 old s (x ++ drop old s)
copied part s x old b c e =
    let n : length x ≡ old = ap length e ∙ length-take-le old part c in
    record {
      size = simp (length-append, length-drop) (omega (arith, n));
      done = λ i _ h. left_at x (drop old s) n i h ∙ ap (λ (l : List ℕ). get_or l i 0) e ∙ get_or-take old part i 0 h;
      below = λ i h. absurd (not-suc-le-zero h);
      above = λ i h.
          let q : old + (i - old) ≡ i = omega arith in
          right_at x (drop old s) n i h ∙ get_or-drop old s (i - old) 0 ∙ ap (λ (k : ℕ). get_or s k 0) q;
    }

-- the first old places are another list's, and those from there on below all become one byte
module _ (part s t y : List ℕ) (old all free : ℕ) (h : Filled (λ j. get_or part j 0) 0 old s t) (a : old ≤ all) (b : all ≤ length s)
    (ey : y ≡ replicate (length (take (all - old) (drop old t))) free) where
  y_count : length (take (all - old) (drop old t)) ≡ all - old
  y_count = length-take-le (all - old) (drop old t) (simp length-drop (omega (arith, h.size)))

  y_size : length y ≡ all - old
  y_size = ap length ey ∙ length-replicate _ free ∙ y_count

  fits : old + (all - old) ≤ length t
  fits = omega (arith, h.size)

  pub then_free : Nodes part old all (λ _. free) s (splice old (all - old) y t)
  then_free =
      record {
        size = splice_size old (all - old) y t fits y_size ∙ h.size;
        old_at = λ i k. before_at old (all - old) y t fits y_size i k ∙ h.done i (omega arith) k;
        new_at = λ i j k.
            inside_at old (all - old) y t fits y_size i j (omega arith)
            ∙ ap (λ (l : List ℕ). get_or l (i - old) 0) ey
            ∙ get_or-replicate (length (take (all - old) (drop old t))) (i - old) free 0 (omega (arith, y_count));
        rest = λ i k. behind_at old (all - old) y t fits y_size i (omega arith) ∙ h.above i (omega arith);
      }

-- ... or each its own number
pub then_numbered :
    {part s t u : List ℕ} {old all : ℕ} → old ≤ all → Filled (λ j. get_or part j 0) 0 old s t → Filled (λ j. j) old all t u → Nodes part old all (λ j. j) s u
then_numbered a h k =
    record {
      size = k.size ∙ h.size;
      old_at = λ i b. k.below i b ∙ h.done i (omega arith) b;
      new_at = λ i b c. k.done i b c;
      rest = λ i b. k.above i b ∙ h.above i (omega arith);
    }

-- the three parts of the session's form, and behind them free nodes
pub unpacked :
    (b class kind link : List ℕ) (v k : ℕ)
    → Nodes (classes_of b) v (v + k) (λ j. j) (replicate 96 0) class → Nodes (joint_kinds_of b) v (v + k) (λ _. 1) (replicate 96 0) kind
    → Nodes (rows_of b) (16 * v) (16 * (v + k)) (λ _. 255) (replicate rows_size 0) link
    → Extends v k (block_form b) (list_form class kind link)
unpacked b class kind link v k c d l =
    record {
      class_old = c.old_at;
      kind_old = d.old_at;
      link_old = λ j x h i. l.old_at (j * 16 + x) (omega arith);
      class_new = c.new_at;
      kind_new = d.new_at;
      link_new = λ j x a h i. l.new_at (j * 16 + x) (omega arith) (omega arith);
      class_rest = λ j h. c.rest j h ∙ zeros_at 96 j;
      kind_rest = λ j h. d.rest j h ∙ zeros_at 96 j;
      link_rest = λ j x h i. l.rest (j * 16 + x) (omega arith) ∙ zeros_at rows_size (j * 16 + x);
    }
