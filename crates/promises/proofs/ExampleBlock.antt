-- The block after the facts F of the examples: the fresh block with four joints' form in it. It is well formed, with its n, V and table,
-- and its taken facts are the four of P5. The form is tested at each of its joints and links.
-- Assumes nothing.
use mathlib.Core.Path.{◌≡◌, refl, ap, ◌∙◌}
use mathlib.Core.Logic.Dec
use mathlib.Core.Logic.{inl, inr, by_cases}
use mathlib.Core.Bool.{Bool, ◌&&◌, ◌||◌, true, false, cond}
use mathlib.Core.List.{List, [], ◌∷◌, ◌++◌}
use Prim.Native.Nat.{ℕ, zero, suc, ◌+◌, ◌*◌, ◌<◌, ◌≤◌}
use native.Mathlib.Omega.{arith}
use native.Mathlib.Decide.{ℕ_discrete, dec_lt}
use native.Mathlib.Nat.{not-suc-le-zero, le_of_suc-le-suc}
use lib.Dec.{T, eqb, leb, ltb, eqb→eq, leb→le, ltb→lt, lt→ltb, eqb_refl, lit≤}
use lib.ListN.{length, get_or, replicate}
use Rattle.kinds.specs.Sizes.{Sized}
use Rattle.house.specs.Meets.{house_table}
use Rattle.house.proofs.Rule.{house_passes}
use Rattle.house.proofs.Tests.{and_left, and_right, or_cases, all_below, below}
use Rattle.meaning.specs.declared.RigJoint.{RigJoint}
use Rattle.meaning.specs.Picture.{Fact}
use Rattle.meaning.specs.Picture.Fact.{has_kind, same, leads}
use Rattle.meaning.specs.Form.{Form, list_form, unknown, links_from, facts_at, facts_from, rig_joint, taken_facts, classes}
use Rattle.meaning.specs.Solving.{Smallest, Well}
use Rattle.meaning.specs.Rig.{Rig}
use Rattle.meaning.proofs.SameForm.{SameForm, form_facts, form_classes}
use Rattle.joints.specs.Layout.{block_form, taken, class_count}
use Rattle.joints.specs.Storing.{with_form}
use Rattle.blocks.specs.Layout.{rig_of}
use Rattle.blocks.proofs.Shape.{GoodBlock}
use Rattle.blocks.proofs.Bytes.{with_rig, stored_form, stored_good}
use Rattle.blocks.proofs.Fresh.{fresh_good, fresh_table, fresh_facts, fresh_classes}
use Rattle.promises.specs.Sessions.{opened_rig}
use Rattle.promises.specs.Examples.{opened}

-- house kinds, V = 4
abbrev pub house_rig : Rig
house_rig = opened_rig 33 4 house_table

-- joints 1 and 2 are one; 0 is a left arm, 1 a left forearm, and of 3 nothing is known
classes_f : List ℕ
classes_f = (0 ∷ 1 ∷ 1 ∷ 3 ∷ []) ++ replicate 60 0

kinds_f : List ℕ
kinds_f = (11 ∷ 23 ∷ 0 ∷ 1 ∷ []) ++ replicate 60 0

-- link 1 of joint 0 leads to 1; joint 2 is not its class's smallest
known_rows : List ℕ
known_rows = (unknown ∷ 1 ∷ replicate 14 unknown) ++ (replicate 16 unknown ++ (replicate 16 0 ++ replicate 16 unknown))

rows_f : List ℕ
rows_f = known_rows ++ replicate 960 0

form_f : Form
form_f = list_form classes_f kinds_f rows_f

-- behind the joints all is 0
zeros_behind : (xs : List ℕ) (m i : ℕ) → length xs ≤ i → get_or (xs ++ replicate m 0) i 0 ≡ 0
zeros_behind [] zero i h = refl
zeros_behind [] (suc m) zero h = refl
zeros_behind [] (suc m) (suc i) h = zeros_behind [] m i (omega arith)
zeros_behind (x ∷ xs) m zero h = absurd (not-suc-le-zero h)
zeros_behind (x ∷ xs) m (suc i) h = zeros_behind xs m i (le_of_suc-le-suc h)

class_behind : (j : ℕ) → 4 ≤ j → form_f.class j ≡ 0
unfolding form_f classes_f
class_behind j h = zeros_behind (0 ∷ 1 ∷ 1 ∷ 3 ∷ []) 60 j h

kind_behind : (j : ℕ) → 4 ≤ j → form_f.kind j ≡ 0
unfolding form_f kinds_f
kind_behind j h = zeros_behind (11 ∷ 23 ∷ 0 ∷ 1 ∷ []) 60 j h

rows_known : length known_rows ≡ 64
unfolding known_rows
rows_known = refl

link_behind : (j l : ℕ) → 4 ≤ j → form_f.link j l ≡ 0
unfolding form_f rows_f
link_behind j l h = zeros_behind known_rows 960 (j * 16 + l) (omega (arith, rows_known))

-- the tests at each of the four joints, and at each of their links
smallest? : ℕ → Bool
smallest? j = ltb j 4 && eqb (form_f.class j) j

class? : ℕ → Bool
class? j = leb (form_f.class j) j && smallest? (form_f.class j)

kind? : ℕ → Bool
kind? j = cond (smallest? j) (ltb 0 (form_f.kind j) && ltb (form_f.kind j) 33) (eqb (form_f.kind j) 0)

link? : ℕ → ℕ → Bool
link? j l =
    cond (smallest? j) (eqb (form_f.link j l) unknown || smallest? (form_f.link j l)) (eqb (form_f.link j l) 0)

classes_pass : (j : ℕ) → j < 4 → T (class? j)
unfolding class? smallest? form_f classes_f
classes_pass j h = below 4 class? tt j h

kinds_pass : (j : ℕ) → j < 4 → T (kind? j)
unfolding kind? smallest? form_f classes_f kinds_f
kinds_pass j h = below 4 kind? tt j h

links_pass : (j l : ℕ) → j < 4 → l < 16 → T (link? j l)
unfolding link? smallest? form_f classes_f rows_f known_rows
links_pass j l h g = below 16 (link? j) (below 4 (λ k. all_below 16 (link? k)) tt j h) l g

-- what the tests tell
both : (a b : Bool) → T a → T b → T (a && b)
both true b t u = u
both false b t u = t

then : (a b c : Bool) → T (cond a b c) → T a → T b
then true b c t u = t
then false b c t u = absurd u

else : (a b c : Bool) → T (cond a b c) → (T a → ⊥) → T c
else true b c t u = absurd (u tt)
else false b c t u = t

to_smallest : (j : ℕ) → T (smallest? j) → Smallest 4 form_f j
unfolding smallest?
to_smallest j t = (ltb→lt j 4 (and_left (ltb j 4) _ t), eqb→eq _ j (and_right (ltb j 4) _ t))

from_smallest : (j : ℕ) → Smallest 4 form_f j → T (smallest? j)
unfolding smallest?
from_smallest j s = both (ltb j 4) _ (lt→ltb j 4 s.0) (rw s.1 (eqb_refl j))

kind_fits : (j : ℕ) → Smallest 4 form_f j → (0 < form_f.kind j) × (form_f.kind j < 33)
unfolding kind?
kind_fits j s =
    let t = then (smallest? j) _ _ (kinds_pass j s.0) (from_smallest j s) in
    (ltb→lt 0 _ (and_left (ltb 0 (form_f.kind j)) _ t), ltb→lt _ 33 (and_right (ltb 0 (form_f.kind j)) _ t))

kind_rest : (j : ℕ) → (Smallest 4 form_f j → ⊥) → form_f.kind j ≡ 0
unfolding kind?
kind_rest j d =
    by_cases (dec_lt j 4)
    (λ h. eqb→eq _ 0 (else (smallest? j) _ _ (kinds_pass j h) (λ t. d (to_smallest j t))))
    (λ f. kind_behind j (omega arith))

link_rest : (j l : ℕ) → (Smallest 4 form_f j → ⊥) → l < 16 → form_f.link j l ≡ 0
unfolding link?
link_rest j l d b =
    by_cases (dec_lt j 4)
    (λ h. eqb→eq _ 0 (else (smallest? j) _ _ (links_pass j l h b) (λ t. d (to_smallest j t))))
    (λ f. link_behind j l (omega arith))

well_F : Well 33 4 form_f
unfolding class? link?
well_F =
    record {
      class_le = λ j h. leb→le _ j (and_left (leb (form_f.class j) j) _ (classes_pass j h));
      class_smallest = λ j h. (to_smallest _ (and_right (leb (form_f.class j) j) _ (classes_pass j h))).1;
      kind_some = λ j s z. omega (arith, (kind_fits j s).0);
      kind_in = λ j.
          by_cases (Dec.and (dec_lt j 4) (ℕ_discrete (form_f.class j) j))
          (λ s. (kind_fits j s).1)
          (λ d. omega (arith, kind_rest j d));
      link_smallest = λ j l s b.
          or_cases (eqb (form_f.link j l) unknown) _ (then (smallest? j) _ _ (links_pass j l s.0 b) (from_smallest j s))
          (λ e. inl (eqb→eq _ unknown e)) (λ t. inr (to_smallest _ t));
      kind_rest = kind_rest;
      link_rest = link_rest;
      class_rest = class_behind;
    }

-- the fresh block
house_size : length house_table ≡ 1089
unfolding house_table
house_size = refl

pub house_sized : Sized 33 house_table
house_sized = record { low = omega arith; high = omega arith; size = house_size }

pub opened_rig_lem : rig_of opened ≡ house_rig
opened_rig_lem = ap (λ (t : List ℕ). opened_rig 33 4 t) (fresh_table 33 4 house_table house_sized (omega arith))

pub opened_good : GoodBlock opened
opened_good = fresh_good 33 4 house_table house_sized (omega arith) (omega arith) house_passes

pub opened_taken : taken opened ≡ []
opened_taken = fresh_facts 33 4 house_table house_sized (omega arith)

pub opened_count : class_count opened ≡ 4
opened_count = fresh_classes 33 4 house_table house_sized (omega arith)

-- the block after F
pub after_f : List ℕ
after_f = with_form opened classes_f kinds_f rows_f

classes_long : 64 ≤ length classes_f
unfolding classes_f
classes_long = lit≤ tt

kinds_long : 64 ≤ length kinds_f
unfolding kinds_f
kinds_long = lit≤ tt

rows_long : 1024 ≤ length rows_f
unfolding rows_f known_rows
rows_long = lit≤ tt

-- what is known of it from here on: it is good, of the house rig, with these taken facts and three classes
pub after_rig : rig_of after_f ≡ house_rig
unfolding after_f
after_rig = with_rig opened classes_f kinds_f rows_f opened_good.size classes_long kinds_long rows_long ∙ opened_rig_lem

pub after_good : GoodBlock after_f
unfolding after_f form_f
after_good = stored_good opened_good classes_f kinds_f rows_f classes_long kinds_long rows_long well_F

after_form : SameForm (block_form after_f) form_f
unfolding after_f form_f
after_form = stored_form opened_good classes_f kinds_f rows_f classes_long kinds_long rows_long well_F

-- the facts of P5: 0 has kind 11; 0.1 is 1; 1 has kind 23; 2 is 1
abbrev pub facts_after : List (Fact RigJoint)
facts_after =
    has_kind (rig_joint 0) 11 ∷ leads (rig_joint 0) 1 (rig_joint 1) ∷ has_kind (rig_joint 1) 23 ∷ same (rig_joint 2) (rig_joint 1) ∷ []

form_taken : taken_facts 4 form_f ≡ facts_after
unfolding form_f classes_f kinds_f rows_f known_rows links_from facts_at facts_from
form_taken = refl

form_count : classes form_f 4 ≡ 3
unfolding form_f classes_f classes
form_count = refl

pub after_taken : taken after_f ≡ facts_after
after_taken = ap (λ (R : Rig). taken_facts R.joints (block_form after_f)) after_rig ∙ form_facts after_form 4 ∙ form_taken

pub after_count : class_count after_f ≡ 3
after_count = ap (λ (R : Rig). classes (block_form after_f) R.joints) after_rig ∙ form_classes after_form 4 ∙ form_count
