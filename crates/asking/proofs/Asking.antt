-- Asking: the ties and facts of a rule in range at their nodes and taken in turn, and the verdict that the form taken gives.
-- Assumes nothing.
use mathlib.Core.Path.{◌≡◌, refl, sym, ap, ap₂, ◌∙◌}
use mathlib.Core.Logic.{inl, inr, by_cases}
use mathlib.Core.Bool.{Bool, true, false, true≢false, false≢true}
use mathlib.Core.List.{List, [], map}
use Prim.Native.Nat.{ℕ, zero, suc, ◌+◌, ◌*◌, ◌/◌, ◌%◌, ◌<◌, ◌≤◌}
use native.Mathlib.Omega.{arith}
use native.Mathlib.Decide.{dec_lt}
use native.Mathlib.Nat.{not-suc-le-zero, div-add-mod', mod-lt}
use lib.ListN.{get_or, length, take, drop, take-append-drop}
use Rattle.std.specs.Prelude.{Result, Ok, Err, is_ok, OnOk}
use lib.Seq.{ext_get_or, get_or-take, length-take-le}
use Rattle.replies.specs.Replies.{refuses, Reply}
use Rattle.replies.proofs.Laws.{first_none, first_here, first_next, first_passed}
use Rattle.runs.specs.Runs.{each}
use Rattle.runs.proofs.Each.{each_map}
use Rattle.meaning.specs.declared.RuleJoint.{RuleJoint}
use Rattle.meaning.specs.declared.Tie.{Tie}
use Rattle.meaning.specs.declared.Verdict.TheVariants.{Applies, RuledOut, Waits}
use Rattle.meaning.specs.Picture.{Fact, rename}
use Rattle.meaning.specs.Picture.Fact.{has_kind, same, leads}
use Rattle.meaning.specs.Rig.{meet_of}
use Rattle.meaning.specs.Rule.{rule_joint, Judged}
use Rattle.meaning.specs.Form.{Form, list_form, unknown}
use Rattle.meaning.specs.Solving.{InRange, Well, Taken, Refuted}
use Rattle.meaning.specs.Asking.{TiesInRange, RuleInRange, rule_number, rule_node, tie_fact, rule_node_facts, Extends, Settled}
use Rattle.meaning.proofs.Extend.{extend_well}
use Rattle.meaning.proofs.Asked.{clash_ruled_out, taken_not_out, settled_applies, applies_settled}
use Rattle.packets.specs.Packet.{ties, joints, tie_at, fact_at, fact_count}
use Rattle.packets.specs.Facts.{fact_of, tie_of, rule_of}
use Rattle.packets.proofs.Facts.{fact_named, each_in_range}
use Rattle.screening.specs.Screening.{packet_reply, rule_wanted}
use Rattle.screening.proofs.WellFormed.{WellFormed, well_formed_lem, packet_done}
use Rattle.reach.specs.Reached.{ReachReply}
use Rattle.reach.specs.Marking.{nth_fact}
use Rattle.reach.proofs.Reached.{all_reached}
use Rattle.meaning.proofs.Takes.{refuted_more}
use Rattle.solver.specs.Unpacked.{Named, Ready, Took, Folded}
use Rattle.solver.proofs.OneFact.{well_named}
use Rattle.joints.specs.Layout.{kinds_of, joints_of, classes_of, joint_kinds_of, rows_of, block_form, taken}
use Rattle.blocks.specs.Layout.{table_of, rig_of}
use Rattle.blocks.specs.WellFormed.{block_reply}
use Rattle.blocks.proofs.Shape.{GoodBlock, call_goes_on, block_rig, block_sized}
use Rattle.asking.specs.Ask.{ask_refusal}

-- a fact on nodes is in range, where the fact on the rule's joints is in range
node_range : (n v k : ℕ) (f : Fact RuleJoint) → InRange n k (rename rule_number f) → InRange n (v + k) (rename (rule_node v) f)
node_range n v k (has_kind a s) r = (omega (arith, r.0), r.1)
node_range n v k (same a b) r = (omega (arith, r.0), omega (arith, r.1))
node_range n v k (leads a l c) r = (omega (arith, r.0), r.1, omega (arith, r.2))

-- in range of more joints
wider : (n k m : ℕ) → k ≤ m → (f : Fact ℕ) → InRange n k f → InRange n m f
wider n k m h (has_kind a s) r = (omega (arith, r.0), r.1)
wider n k m h (same a b) r = (omega (arith, r.0), omega (arith, r.1))
wider n k m h (leads a l c) r = (omega (arith, r.0), r.1, omega (arith, r.2))

named_back : (f : Fact ℕ) → rename rule_number (rename rule_joint f) ≡ f
named_back (has_kind a s) = refl
named_back (same a b) = refl
named_back (leads a l c) = refl

-- the i-th tie and the i-th fact of a rule, at nodes
abbrev pub node_tie : ℕ → List ℕ → ℕ → Fact ℕ
node_tie v p i = tie_fact v (tie_of p (tie_at i))

abbrev pub node_rule_fact : ℕ → List ℕ → ℕ → Fact ℕ
node_rule_fact v p i = rename (rule_node v) (nth_fact p i)

-- the numbers of a rule that no reply from 5 to 9 refuses, for n kinds and v rig joints
pub rule_fits : (n v : ℕ) (p : List ℕ) → packet_reply rule_wanted n v p ≡ Ok 0 → WellFormed rule_wanted n v p
rule_fits n v p e = well_formed_lem rule_wanted n v p (ap refuses e)

module _ {n v : ℕ} {p : List ℕ} (w : WellFormed rule_wanted n v p) where
  pub tie_range : (i : ℕ) → i < ties p → InRange n (v + joints p) (node_tie v p i)
  tie_range i h = (omega (arith, w.tie_rule i h), omega (arith, w.tie_rig i h))

  pub fact_range : (i : ℕ) → i < fact_count p → InRange n (joints p) (rename rule_number (nth_fact p i))
  fact_range i h =
      let q : rename rule_number (nth_fact p i) ≡ fact_of (λ j. j) p (fact_at p i) =
      ap (rename rule_number) (fact_named rule_joint p (fact_at p i)) ∙ named_back _ in
      rw q (w.fact i h)

  -- a rule has at most 32 joints
  pub fact_small : (i : ℕ) → i < fact_count p → InRange n 32 (rename rule_number (nth_fact p i))
  fact_small i h = wider n (joints p) 32 w.joints_to (rename rule_number (nth_fact p i)) (fact_range i h)

  pub node_fact_range : (i : ℕ) → i < fact_count p → InRange n (v + joints p) (node_rule_fact v p i)
  node_fact_range i h = node_range n v (joints p) (nth_fact p i) (fact_range i h)

-- Free nodes behind a well-formed form: no link leads to one of them.
pub extends_named : {n v k : ℕ} {S E : Form} → 0 < v → Well n v S → Extends v k S E → Named v E
extends_named {n} {v} {k} {S} {E} some w x =
    record {
      some = some;
      below = λ j l h.
          by_cases (dec_lt j v)
          (λ b. rw (x.link_old j l b h) ((well_named some w).below j l h))
          (λ a.
          by_cases (dec_lt j (v + k))
          (λ b. inl (x.link_new j l (omega arith) b h))
          (λ b. inr (omega (arith, x.link_rest j l (omega arith) h, some))));
    }

-- the ties and the facts of a rule, at nodes, in a list made of the numbers in turn
pub node_ties : (v : ℕ) (p : List ℕ) → map (tie_fact v) (rule_of p).ties ≡ each (node_tie v p) 0 (ties p)
node_ties v p = each_map (tie_fact v) (λ i. tie_of p (tie_at i)) 0 (ties p)

pub node_facts : (v : ℕ) (p : List ℕ) → map (rename (rule_node v)) (rule_of p).facts ≡ each (node_rule_fact v p) 0 (fact_count p)
node_facts v p = each_map (rename (rule_node v)) (nth_fact p) 0 (fact_count p)

-- the facts of a loop, taken or not, where no more is said of a clash than that
module _ {A B E : Type 0} where
  pub folded_took :
      (n : ℕ) (meet : ℕ → ℕ → ℕ) (v : ℕ) (S : Form) (fs : List (Fact ℕ)) (r : Result A ℕ) (s : Result B E) (T : Form) → is_ok s ≡ is_ok r
      → Folded n meet v S fs r T → Took n meet v S fs s (λ _. T)
  folded_took n meet v S fs (Ok x) (Ok y) T e f = f
  folded_took n meet v S fs (Ok x) (Err d) T e f = absurd (false≢true e)
  folded_took n meet v S fs (Err i) (Ok y) T e f = absurd (true≢false e)
  folded_took n meet v S fs (Err i) (Err d) T e f =
      rw (take-append-drop (i + 1) fs) at (refuted_more n meet v S (take (i + 1) fs) (drop (i + 1) fs) f.refuted)

  pub on_ok_too : (P : Type 0) (r : Result A ℕ) (s : Result B E) → is_ok s ≡ is_ok r → OnOk r P → OnOk s P
  on_ok_too P (Ok x) (Ok y) e p = p
  on_ok_too P (Ok x) (Err d) e p = tt
  on_ok_too P (Err i) (Ok y) e p = absurd (true≢false e)
  on_ok_too P (Err i) (Err d) e p = tt

-- b tells whether X
abbrev pub Tells : Bool → Type 0 → Type 0
Tells b X = (b ≡ true → X) × (b ≡ false → X → ⊥)

pub yes : {X : Type 0} → X → Tells true X
yes x = (λ _. x, λ e. absurd (true≢false e))

pub no : {X : Type 0} → (X → ⊥) → Tells false X
no f = (λ e. absurd (false≢true e), λ _. f)

-- the same answer to what comes to the same
pub answers_same : {X Y : Type 0} {b : Bool} → (X → Y) → (Y → X) → Tells b X → Tells b Y
answers_same f g a = (λ e. f (a.0 e), λ e y. a.1 e (g y))

-- the places below count are the same
abbrev pub SameFront : List ℕ → List ℕ → ℕ → Type 0
SameFront xs ys count = (i : ℕ) → i < count → get_or xs i 0 ≡ get_or ys i 0

-- which is to say that the first count places are one list
module _ (xs ys : List ℕ) (count : ℕ) (a : count ≤ length xs) (b : count ≤ length ys) where
  pub fronts_same : take count xs ≡ take count ys → SameFront xs ys count
  fronts_same e i h = sym (get_or-take count xs i 0 h) ∙ ap (λ (l : List ℕ). get_or l i 0) e ∙ get_or-take count ys i 0 h

  pub same_fronts : SameFront xs ys count → take count xs ≡ take count ys
  same_fronts f =
      let n : length (take count xs) ≡ count = length-take-le count xs a in
      ext_get_or 0 (take count xs) (take count ys) (n ∙ sym (length-take-le count ys b))
      (λ i h. let k : i < count = omega (arith, n) in get_or-take count xs i 0 k ∙ f i k ∙ sym (get_or-take count ys i 0 k))

  -- two runs compared
  pub front_told : {r : Bool} → Tells r (take count xs ≡ take count ys) → Tells r (SameFront xs ys count)
  front_told = answers_same fronts_same same_fronts

-- the rig's part of a form, list by list; a row of links is 16 places
module _ (v : ℕ) (b class kind rows : List ℕ) where
  pub rig_same :
      SameFront class (classes_of b) v → SameFront kind (joint_kinds_of b) v → SameFront rows (rows_of b) (16 * v)
      → Settled v 0 (block_form b) (list_form class kind rows)
  rig_same c k r =
      record {
        class = c;
        kind = k;
        link = λ j l h i. r (j * 16 + l) (omega arith);
        inside = λ i h. absurd (not-suc-le-zero h);
      }

  pub rig_rows : Settled v 0 (block_form b) (list_form class kind rows) → SameFront rows (rows_of b) (16 * v)
  rig_rows q i h =
      let e : (i / 16) * 16 + i % 16 ≡ i = div-add-mod' i 16 in
      let l : i % 16 < 16 = mod-lt i (omega arith) in
      rw e at (q.link (i / 16) (i % 16) (omega arith) l)

-- the rig's part with the rule's joints, and without them
pub with_inside : {v k : ℕ} {S T : Form} → Settled v 0 S T → ((i : ℕ) → i < k → T.class (v + i) < v) → Settled v k S T
with_inside q f = record { class = q.class; kind = q.kind; link = q.link; inside = f }

pub without_inside : {v k : ℕ} {S T : Form} → Settled v k S T → Settled v 0 S T
without_inside q =
    record { class = q.class; kind = q.kind; link = q.link; inside = λ i h. absurd (not-suc-le-zero h) }

-- neither the block nor the packet is refused by a reply from 1 to 9
pub record Asked (b p : List ℕ) : Type 0 where
  pub good : GoodBlock b
  pub rule : packet_reply rule_wanted (kinds_of b) (joints_of b) p ≡ Ok 0

-- the first refusal, and that there is none
module _ (b p : List ℕ) where
  abbrev packet : Reply
  packet = packet_reply rule_wanted (kinds_of b) (joints_of b) p

  pub asked : ask_refusal b p ≡ Ok 0 → Asked b p
  unfolding ask_refusal
  asked e = let both = call_goes_on b packet e in record { good = both.0; rule = both.1 }

  pub block_refuses : refuses (block_reply b) ≡ true → ask_refusal b p ≡ block_reply b
  unfolding ask_refusal
  block_refuses e = first_here (block_reply b) [] packet e

  pub packet_decides : refuses (block_reply b) ≡ false → ask_refusal b p ≡ packet
  unfolding ask_refusal
  packet_decides e = first_next (block_reply b) [] packet e ∙ first_none packet

  -- the reply to the packet, by the numbers read off the block
  pub packet_told :
      block_reply b ≡ Ok 0 → {n v : ℕ} → n ≡ kinds_of b → v ≡ joints_of b → {r : Reply} → r ≡ packet_reply rule_wanted n v p → r ≡ ask_refusal b p
  packet_told good n v e = e ∙ ap₂ (λ (n v : ℕ). packet_reply rule_wanted n v p) n v ∙ sym (packet_decides (ap refuses good))

  pub ask_goes_on : refuses (ask_refusal b p) ≡ false → ask_refusal b p ≡ Ok 0
  unfolding ask_refusal
  ask_goes_on e =
      let passed = first_passed (block_reply b) [] packet e in
      packet_decides passed.0
      ∙ packet_done rule_wanted (kinds_of b) (joints_of b) p (ap refuses (sym (first_none packet)) ∙ passed.1)

-- a list of ties is in range where each is
ties_in_range :
    (v k : ℕ) (f : ℕ → Tie) (i count : ℕ) → ((j : ℕ) → j < i + count → ((f j).rule.0 < k) × ((f j).rig.0 < v)) →
    TiesInRange v k (each f i count)
unfolding each
ties_in_range v k f i zero r = tt
ties_in_range v k f i (suc count) r = (r i (omega arith), ties_in_range v k f (suc i) count (λ j h. r j (omega arith)))

module _ {b p : List ℕ} (a : Asked b p) where
  pub asked_rule : WellFormed rule_wanted (kinds_of b) (joints_of b) p
  asked_rule = rule_fits (kinds_of b) (joints_of b) p a.rule

  pub asked_nodes : joints_of b + joints p ≤ 96
  asked_nodes = omega (arith, a.good.well.v_high, asked_rule.joints_to)

  small : joints_of b + joints p ≤ unknown
  small = omega (arith, asked_nodes)

  in_range : RuleInRange (kinds_of b) (joints_of b) (rule_of p)
  in_range =
      record {
        ties =
            ties_in_range (joints_of b) (joints p) (λ i. tie_of p (tie_at i)) 0 (ties p)
            (λ i h. (asked_rule.tie_rule i (omega arith), asked_rule.tie_rig i (omega arith)));
        facts =
            rw (each_map (rename rule_number) (nth_fact p) 0 (fact_count p))
            (each_in_range (kinds_of b) (joints p) (λ i. rename rule_number (nth_fact p i)) 0 (fact_count p)
            (λ i h. fact_range asked_rule i (omega arith)));
      }

  -- the form of the block with the rule's joints as free nodes behind it
  module _ {E : Form} (x : Extends (joints_of b) (joints p) (block_form b) E) where
    pub asked_ready : Ready (kinds_of b) (joints_of b + joints p) (table_of b) E
    asked_ready =
        let w = a.good.well in
        let rig = block_rig w in
        record {
          two = rig.two;
          kinds = w.n_high;
          size = (block_sized w a.good.size).size;
          lawful = rig.lawful;
          nodes = asked_nodes;
          well = extend_well rig.two w.well x;
        }

    pub asked_named : Named (joints_of b) E
    asked_named = extends_named a.good.well.v_low a.good.well.well x

    -- what the ties and facts, taken there, say of the rule
    pub ruled_out :
        Refuted (kinds_of b) (meet_of (rig_of b)) (joints_of b + joints p) E (rule_node_facts (joints_of b) (rule_of p))
        → Judged (rig_of b) (taken b) (rule_of p) RuledOut
    ruled_out no = clash_ruled_out (block_rig a.good.well) a.good.well.well in_range small x no

    module _ {T : Form} (t : Taken (kinds_of b) (meet_of (rig_of b)) (joints_of b + joints p) E (rule_node_facts (joints_of b) (rule_of p)) T) where
      pub applies : Settled (joints_of b) (joints p) (block_form b) T → Judged (rig_of b) (taken b) (rule_of p) Applies
      applies q = settled_applies (block_rig a.good.well) a.good.well.well in_range small x t q

      pub waits :
          ReachReply (rule_of p) (Ok 0) → (Settled (joints_of b) (joints p) (block_form b) T → ⊥)
          → Judged (rig_of b) (taken b) (rule_of p) Waits
      waits reach d =
          let g = block_rig a.good.well in
          let w = a.good.well.well in
          let settles = applies_settled g w in_range small x t (all_reached reach refl) in
          (λ y. d (settles y), taken_not_out g w in_range small x t)
