-- Bytes written part by part: each part stands behind those that are written.
-- Assumes nothing.
use mathlib.Core.Path.{◌≡◌, refl, ap, ◌∙◌, sym}
use mathlib.Core.List.{List, [], ◌∷◌, ◌++◌, append_assoc, append-nil}
use Prim.Native.Nat.{ℕ, ◌+◌, ◌-◌, ◌≤◌}
use native.Mathlib.Omega.{arith}
use lib.ListN.{length, take, drop, set, replicate, length-append, length-drop, length-replicate, drop_of_length-le, take-append-drop}
use lib.Seq.{length-take-le, take_at, drop_at, drop-drop}

-- the two bytes in front
pub both_set : (xs : List ℕ) (n v : ℕ) → length xs ≡ 2 → set (set xs 0 n) 1 v ≡ n ∷ v ∷ []
both_set [] n v e = absurd (omega arith)
both_set (x ∷ []) n v e = absurd (omega arith)
both_set (x ∷ y ∷ []) n v e = refl
both_set (x ∷ y ∷ z ∷ xs) n v e = absurd (omega arith)

-- b is b₀ with the bytes of done, of which there are at, in front
pub record Begun (b₀ done : List ℕ) (at : ℕ) (b : List ℕ) : Type 0 where
  pub size : length done ≡ at
  pub is : b ≡ done ++ drop at b₀

pub none_written : (b : List ℕ) → Begun b [] 0 b
none_written b = record { size = refl; is = refl }

-- the first two bytes stay
pub two_kept : (b : List ℕ) → 2 ≤ length b → Begun b (take 2 b) 2 b
two_kept b h = record { size = length-take-le 2 b h; is = sym (take-append-drop 2 b) }

-- a part is written behind what is done
pub part_written :
    {b₀ done b : List ℕ} {at : ℕ} → Begun b₀ done at b → (k : ℕ) {part ys : List ℕ} → part ≡ ys → length ys ≡ k
    → Begun b₀ (done ++ ys) (at + k) (take at b ++ (part ++ drop k (drop at b)))
part_written {b₀} {done} {b} {at} w k {part} {ys} e h =
    let t : take at b ≡ done = ap (take at) w.is ∙ take_at done _ at w.size in
    let d : drop at b ≡ drop at b₀ = ap (drop at) w.is ∙ drop_at done _ at w.size in
    record {
      size = length-append done ys ∙ omega (arith, w.size, h);
      is = rw (t, d, e, drop-drop) (sym (append_assoc done ys (drop (at + k) b₀)));
    }

-- the front is written
pub front_written : (b₀ : List ℕ) {k : ℕ} {part ys : List ℕ} → part ≡ ys → length ys ≡ k → Begun b₀ ys k (part ++ drop k b₀)
front_written b₀ {k} e h = record { size = h; is = ap (λ (x : List ℕ). x ++ drop k b₀) e }

pub all_written : {b₀ done b : List ℕ} {at : ℕ} → Begun b₀ done at b → length b₀ ≤ at → b ≡ done
all_written {b₀} {done} w h = w.is ∙ ap (λ (x : List ℕ). done ++ x) (drop_of_length-le b₀ h) ∙ append-nil done

-- all that is behind what is done is written with zeros
pub zeros_written :
    {b₀ done b : List ℕ} {at m : ℕ} → Begun b₀ done at b → length b₀ ≡ m → at ≤ m → {rest : List ℕ}
    → rest ≡ replicate (length (take (length b - at) (drop at b))) 0
    → take at b ++ (rest ++ drop (length b - at) (drop at b)) ≡ done ++ replicate (m - at) 0
zeros_written {b₀} {done} {b} {at} {m} w size high e =
    let whole : length b ≡ m =
    ap length w.is ∙ length-append done (drop at b₀) ∙ omega (arith, w.size, length-drop at b₀) in
    let count : length (take (length b - at) (drop at b)) ≡ m - at =
    length-take-le (length b - at) (drop at b) (omega (arith, length-drop at b)) ∙ omega arith in
    all_written
    (part_written w (length b - at) (e ∙ ap (λ (k : ℕ). replicate k 0) count) (length-replicate (m - at) 0 ∙ omega arith))
    (omega arith)

-- what is written one behind the other, counted from the front
pub regroup : (a b c d : List ℕ) → ((a ++ b) ++ c) ++ d ≡ a ++ (b ++ (c ++ d))
regroup a b c d = simp append_assoc
