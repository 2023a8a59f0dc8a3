-- Taking a packet: what is left between the solver's answer and the contract of taking.
-- Assumes nothing.
use mathlib.Core.Path.{◌≡◌, refl, sym, ◌∙◌, ap, subst}
use mathlib.Core.Bool.{true, false}
use mathlib.Core.List.{List, [], map}
use Prim.Native.Nat.{ℕ, ◌+◌, ◌-◌, ◌*◌, ◌<◌, ◌≤◌}
use native.Mathlib.Omega.{arith}
use Rattle.std.specs.Prelude.{Result, Ok, Err}
use Rattle.replies.specs.declared.Cause.TheVariants.{Clash}
use Rattle.replies.specs.Replies.{refuses, Reply, refusal}
use Rattle.replies.proofs.Laws.{first_none, first_here, first_next, first_passed}
use Rattle.runs.specs.Runs.{each}
use Rattle.runs.proofs.Each.{each_map, each_length}
use Rattle.meaning.specs.Picture.{Fact, rename}
use Rattle.meaning.specs.Picture.Fact.{has_kind, same, leads}
use Rattle.meaning.specs.Form.{rig_joint}
use Rattle.meaning.specs.Rig.{FirstClash}
use Rattle.meaning.specs.Solving.{rig_number, InRange}
use Rattle.packets.specs.Packet.{joints, fact_at, fact_count}
use Rattle.packets.specs.Facts.{fact_of, rig_facts}
use Rattle.packets.proofs.Facts.{fact_named}
use Rattle.screening.specs.Screening.{packet_reply, facts_wanted}
use Rattle.screening.proofs.WellFormed.{WellFormed, well_formed_lem, packet_done}
use Rattle.joints.specs.Layout.{kinds_of, joints_of, taken, class_count}
use Rattle.blocks.specs.Layout.{rig_of}
use Rattle.blocks.specs.WellFormed.{block_reply}
use Rattle.blocks.proofs.Shape.{GoodBlock, call_goes_on}
use Rattle.taking.specs.Solve.{Solves}
use Rattle.taking.specs.Take.{After, Take, take_refusal}
use Rattle.taking.specs.Take.Take.{clashes, done}

-- a fact on rig joints at the nodes of their numbers
abbrev pub node_fact_at : List ℕ → ℕ → Fact ℕ
node_fact_at p i = rename rig_number (fact_of rig_joint p (fact_at p i))

renamed_back : (f : Fact ℕ) → rename rig_number (rename rig_joint f) ≡ f
renamed_back (has_kind a s) = refl
renamed_back (same a b) = refl
renamed_back (leads a l c) = refl

pub node_facts : (p : List ℕ) → map (rename rig_number) (rig_facts p) ≡ each (node_fact_at p) 0 (fact_count p)
node_facts p = each_map (rename rig_number) (λ i. fact_of rig_joint p (fact_at p i)) 0 (fact_count p)

pub packet_well : {n v : ℕ} {p : List ℕ} → packet_reply (facts_wanted v) n v p ≡ Ok 0 → WellFormed (facts_wanted v) n v p
packet_well {n} {v} {p} e = well_formed_lem (facts_wanted v) n v p (ap refuses e)

pub node_fact_in : {n v : ℕ} {p : List ℕ} → WellFormed (facts_wanted v) n v p → {f : Fact ℕ} (i : ℕ) → i < fact_count p → f ≡ node_fact_at p i → InRange n v f
node_fact_in {n} {v} {p} w i h same_fact =
    let e = same_fact ∙ ap (rename rig_number) (fact_named rig_joint p (fact_at p i)) ∙ renamed_back (fact_of (λ j. j) p (fact_at p i)) in
    let j : joints p ≡ v = omega (arith, w.joints_from, w.joints_to) in
    rw e (rw j at (w.fact i h))

-- a packet for taking has no ties
pub fact_place : {n v : ℕ} {p : List ℕ} → WellFormed (facts_wanted v) n v p → (i : ℕ) → fact_at p i ≡ 6 + 4 * i
fact_place w i = omega (arith, w.ties_to)

-- a packet that is not refused
module _ (b p : List ℕ) where
  abbrev packet : Reply
  packet = packet_reply (facts_wanted (joints_of b)) (kinds_of b) (joints_of b) p

  pub block_refuses : refuses (block_reply b) ≡ true → take_refusal b p ≡ block_reply b
  unfolding take_refusal
  block_refuses e = first_here (block_reply b) [] packet e

  pub packet_decides : refuses (block_reply b) ≡ false → take_refusal b p ≡ packet
  unfolding take_refusal
  packet_decides e = first_next (block_reply b) [] packet e ∙ first_none packet

  pub take_goes_on : refuses (take_refusal b p) ≡ false → take_refusal b p ≡ Ok 0
  unfolding take_refusal
  take_goes_on e =
      let passed = first_passed (block_reply b) [] packet e in
      packet_decides passed.0
      ∙ packet_done (facts_wanted (joints_of b)) (kinds_of b) (joints_of b) p (ap refuses (sym (first_none packet)) ∙ passed.1)

  pub taken_good : take_refusal b p ≡ Ok 0 → GoodBlock b × (packet ≡ Ok 0)
  unfolding take_refusal
  taken_good d = call_goes_on b packet d

-- the first fact that clashes is one of the packet's
pub clash_among : (b p : List ℕ) → take_refusal b p ≡ Ok 0 → {at : ℕ} → FirstClash (rig_of b) (taken b) (rig_facts p) at → at ≤ 1088
clash_among b p d first =
    omega (arith, first.among, each_length (λ i. fact_of rig_joint p (fact_at p i)) 0 (fact_count p), (packet_well (taken_good b p d).1).whole.few)

-- what the solver makes of a packet is told: a clash with nothing stored, or the joins with the form stored
module _ {b p : List ℕ} (d : take_refusal b p ≡ Ok 0) where
  pub clash_told : {at : ℕ} {after : List ℕ} → FirstClash (rig_of b) (taken b) (rig_facts p) at × (after ≡ b) → Take b p (refusal Clash (6 + 4 * at)) after
  clash_told {at} c = clashes d at c.0 (ap (refusal Clash) (sym (fact_place (packet_well (taken_good b p d).1) at))) c.1

  pub joins_told :
      {after : List ℕ} {joins : ℕ} → After b (rig_facts p) after → joins ≡ class_count b - class_count after → Take b p (Ok joins) after
  joins_told a e = done d a (ap Ok e)

-- what the solver makes of a packet, as a reply: a clash at its fact, or the joins
abbrev pub told : Result ℕ ℕ → Reply
told (Ok joins) = Ok joins
told (Err at) = refusal Clash (6 + 4 * at)

-- what the solver makes of a packet is stored and told
pub take_ends : (made : Result ℕ ℕ) {b p after : List ℕ} {r : Reply} → take_refusal b p ≡ Ok 0 → Solves b p made after → r ≡ told made → Take b p r after
take_ends (Ok joins) {b} {p} {after} d s e = subst (λ (x : Reply). Take b p x after) (sym e) (joins_told d s.0 s.1)
take_ends (Err at) {b} {p} {after} d s e = subst (λ (x : Reply). Take b p x after) (sym e) (clash_told d s)
