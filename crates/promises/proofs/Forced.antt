-- "The block after taking facts is the one whose picture (the classes themselves) follows from the facts alone: joints are one exactly when
-- the facts force it, likewise kinds and links." What the picture of a form shows goes along the maps to every model, and that picture is
-- itself a model: so a well-formed form shows exactly what its taken facts force. The other way round, a form's facts are all among those it
-- shows: so a block that shows exactly what the facts force means what they mean.
-- Assumes nothing.
use mathlib.Core.Path.{◌≡◌, sym, ◌∙◌, ap}
use mathlib.Core.Logic.{◌↔◌, ◌≢◌, ⊎_elim}
use mathlib.Core.List.{List, [], ◌∷◌, ◌++◌, Memᴰ}
use Prim.Native.Nat.{ℕ, ◌<◌}
use native.Mathlib.Omega.{arith}
use Rattle.std.specs.Prelude.{Ok}
use Rattle.replies.specs.Replies.{refuses}
use Rattle.kinds.specs.Kinds.{Under}
use Rattle.kinds.specs.Laws.{Lawful}
use Rattle.meaning.specs.declared.RigJoint.{RigJoint}
use Rattle.meaning.specs.Picture.{Picture, Element, Placing, Fact, Holds, All, rename}
use Rattle.meaning.specs.Picture.Fact.{has_kind, same, leads}
use Rattle.meaning.specs.Rig.{Rig, meet_of, Counts, SameMeaning}
use Rattle.meaning.specs.Form.{Form, unknown, rig_joint, taken_facts}
use Rattle.meaning.specs.Solving.{Smallest, Well, rig_number, InRange, Models}
use Rattle.meaning.proofs.Rigs.{LawfulRig, counts_every}
use Rattle.meaning.proofs.Facts.{by_number, all_append, all_left, all_right, all_member, models→taken, taken→models}
use Rattle.meaning.proofs.Later.{each_holds}
use Rattle.meaning.proofs.Canon.{canon, canon_rig_placing, canon_taken, class_smallest, element_smallest, initial, map_all, at_class}
use Rattle.runs.proofs.Each.{among}
use Rattle.packets.specs.Packet.{joints, fact_count, fact_at}
use Rattle.packets.specs.Facts.{fact_of, rig_facts}
use Rattle.packets.proofs.Facts.{fact_named}
use Rattle.screening.specs.Screening.{packet_reply, facts_wanted}
use Rattle.screening.proofs.WellFormed.{well_formed_lem}
use Rattle.joints.specs.Layout.{kinds_of, joints_of, block_form, taken}
use Rattle.blocks.specs.Layout.{rig_of}
use Rattle.blocks.specs.WellFormed.{Stands}
use Rattle.blocks.proofs.Shape.{GoodBlock, stands_good, block_rig}
use Rattle.blocks.proofs.Bytes.{at_rig_lem}
use Rattle.taking.specs.Take.{After, take_refusal}
use Rattle.taking.proofs.Taking.{taken_good}
use Rattle.taking.proofs.OneTake.{after_one}
use Rattle.promises.specs.Forced.{Forced, class_at, kind_at, link_at, Shown, Writable, PictureFollows}

writable_in_range : (n v : ℕ) (f : Fact RigJoint) → Writable n v f → InRange n v (rename rig_number f)
writable_in_range n v (has_kind a s) h = h
writable_in_range n v (same a b) h = h
writable_in_range n v (leads a l c) h = h

-- what is shown is what holds in the form's picture, with each joint at its class
pub shown_holds :
    {n : ℕ} (meet : ℕ → ℕ → ℕ) {v : ℕ} (pos : 0 < v) {S : Form} (w : Well n v S) (f : Fact RigJoint) →
    Shown meet S f ↔ Holds meet (canon pos w) (at_class S) f
shown_holds meet pos w (has_kind a s) = (λ h. h, λ h. h)
shown_holds meet pos w (same a b) = (λ h. h, λ h. h)
shown_holds meet pos w (leads a l c) = (λ h. h, λ h. h)

-- a model places a joint where it places the smallest of its class
at_joints :
    {n : ℕ} {meet : ℕ → ℕ → ℕ} {v : ℕ} {S : Form} {P : Picture n} (σ : RigJoint → ℕ) → Models meet v S P (by_number σ) → (f : Fact RigJoint) →
    Writable n v f → Holds meet P (λ j. by_number σ (at_class S j)) f → Holds meet P σ f
at_joints σ m (has_kind a s) ir h = rw (m.one a.0 ir.0) h
at_joints σ m (same a b) ir h = m.one a.0 ir.0 ∙ h ∙ sym (m.one b.0 ir.1)
at_joints σ m (leads a l c) ir h = rw (m.one a.0 ir.0) (h ∙ sym (m.one c.0 ir.2))

-- where all that a form shows holds, its facts do
shown_models :
    {n : ℕ} {meet : ℕ → ℕ → ℕ} (L : Lawful n meet) {v : ℕ} {S : Form} (w : Well n v S) (P : Picture n) (σ : RigJoint → ℕ)
    → ((f : Fact RigJoint) → Writable n v f → Shown meet S f → Holds meet P σ f) → Models meet v S P (by_number σ)
shown_models {meet = meet} L {v} {S} w P σ holds =
    record {
      one = λ j h. holds (same (rig_joint j) (rig_joint (S.class j))) (h, class_below j h) (sym (w.class_smallest j h));
      kind = λ j h. holds (has_kind (rig_joint j) (S.kind j)) (h.0, w.kind_in j) (own_kind j h);
      link = λ j l h b known.
          let e = ⊎_elim (λ u. absurd (known u)) (λ g. g) (w.link_smallest j l h b) in
          holds (leads (rig_joint j) l (rig_joint (S.link j l))) (h.0, b, e.0) (own_link j l h ∙ sym e.1);
    }
  where
    class_below : (j : ℕ) → j < v → S.class j < v
    class_below j h = omega (arith, w.class_le j h)

    own_kind : (j : ℕ) → Smallest v S j → Under meet (S.kind (S.class j)) (S.kind j)
    own_kind j h = rw h.1 (L.self _ (w.kind_in j))

    own_link : (j l : ℕ) → Smallest v S j → S.link (S.class j) l ≡ S.link j l
    own_link j l h = rw h.1

-- a well-formed form shows exactly what its taken facts force
module _ {R : Rig} (g : LawfulRig R) {S : Form} (w : Well R.kinds R.joints S) (f : Fact RigJoint) where
  pub shown_forced : Writable R.kinds R.joints f → Shown (meet_of R) S f → Forced R (taken_facts R.joints S) f
  shown_forced ir shown P σ _ placed a =
      let m : Models (meet_of R) R.joints S P (by_number σ) = taken→models g.lawful g.two R.joints S P σ a in
      at_joints σ m f ir
      (map_all g.lawful (canon g.some w) P (by_number σ)
      (initial g.lawful g.some w (omega (arith, g.few)) P (by_number σ) (λ j. placed (rig_joint j)) m)
      rig_number R.joints (at_class S) (canon_rig_placing g.some w) (f ∷ []) (writable_in_range R.kinds R.joints f ir, tt)
      ((shown_holds (meet_of R) g.some w f).0 shown, tt)).0

  pub forced_shown : Forced R (taken_facts R.joints S) f → Shown (meet_of R) S f
  forced_shown forced =
      let here = canon g.some w in
      (shown_holds (meet_of R) g.some w f).1
      (forced here (at_class S) (counts_every R.profile here) (canon_rig_placing g.some w) (canon_taken g.lawful g.two g.some w))

-- a block that stands for a rig: what it has taken, and that its form is one of the rig
module _ {R : Rig} {b : List ℕ} (s : Stands R b) where
  stands_rig : LawfulRig R
  stands_rig = at_rig_lem LawfulRig s.rig (block_rig (stands_good s).well)

  stands_form : Well R.kinds R.joints (block_form b)
  stands_form = at_rig_lem (λ Q. Well Q.kinds Q.joints (block_form b)) s.rig (stands_good s).well.well

  stands_taken : taken b ≡ taken_facts R.joints (block_form b)
  stands_taken = ap (λ (Q : Rig). taken_facts Q.joints (block_form b)) s.rig

-- the block after taking facts
module _ {b : List ℕ} {facts : List (Fact RigJoint)} {after : List ℕ} (a : After b facts after) where
  rig : LawfulRig (rig_of b)
  rig = stands_rig a.stands

  form : Well (rig_of b).kinds (rig_of b).joints (block_form after)
  form = stands_form a.stands

  means : SameMeaning (rig_of b) (taken_facts (rig_of b).joints (block_form after)) (taken b ++ facts)
  means = rw (stands_taken a.stands) at a.means

  -- its picture shows a fact exactly when the facts force it
  pub shown_exactly : (f : Fact RigJoint) → Writable (rig_of b).kinds (rig_of b).joints f →
      Shown (meet_of (rig_of b)) (block_form after) f ↔ Forced (rig_of b) (taken b ++ facts) f
  shown_exactly f ir = (
    λ h P σ c placed all. shown_forced rig form f ir h P σ c placed ((means P σ c placed).1 all),
    λ h. forced_shown rig form f (λ P σ c placed all. h P σ c placed ((means P σ c placed).0 all)),
  )

  -- "whose picture (the classes themselves) follows from the facts alone"
  pub picture_follows : PictureFollows b facts after
  picture_follows = record { stands = a.stands; exactly = shown_exactly }

  -- "joints are one exactly when the facts force it"
  pub one_exactly : (i j : RigJoint) → i.0 < (rig_of b).joints → j.0 < (rig_of b).joints →
      (class_at (block_form after) i ≡ class_at (block_form after) j) ↔ Forced (rig_of b) (taken b ++ facts) (same i j)
  one_exactly i j hi hj = shown_exactly (same i j) (hi, hj)

  -- "likewise kinds": a class's kind is under s exactly when the facts force it
  pub kind_exactly : (i : RigJoint) (s : ℕ) → i.0 < (rig_of b).joints → s < (rig_of b).kinds →
      Under (meet_of (rig_of b)) (kind_at (block_form after) i) s ↔ Forced (rig_of b) (taken b ++ facts) (has_kind i s)
  kind_exactly i s hi hs = shown_exactly (has_kind i s) (hi, hs)

  -- "and links": a class's link l leads to the class of c exactly when the facts force it
  pub link_exactly : (i : RigJoint) (l : ℕ) (c : RigJoint) → i.0 < (rig_of b).joints → l < 16 → c.0 < (rig_of b).joints →
      (link_at (block_form after) i l ≡ class_at (block_form after) c) ↔ Forced (rig_of b) (taken b ++ facts) (leads i l c)
  link_exactly i l c hi hl hc = shown_exactly (leads i l c) (hi, hl, hc)

  -- and it is known exactly when the facts force it to be defined
  pub known_exactly : (i : RigJoint) (l : ℕ) → i.0 < (rig_of b).joints → l < 16 →
      (link_at (block_form after) i l ≢ unknown)
      ↔ ((P : Picture (rig_of b).kinds) (σ : RigJoint → ℕ) → Counts (rig_of b).profile P → Placing P σ → All (meet_of (rig_of b)) P σ (taken b ++ facts)
      → Element P (P.link (σ i) l))
  known_exactly i l hi hl = (
    λ known P σ c placed all.
        let end : Smallest (rig_of b).joints (block_form after) (link_at (block_form after) i l) =
        ⊎_elim (λ u. absurd (known u)) (λ g. g) (form.link_smallest _ l (class_smallest rig.some form i.0) hl) in
        let e : P.link (σ i) l ≡ σ (rig_joint (link_at (block_form after) i l)) =
        (link_exactly i l (rig_joint (link_at (block_form after) i l)) hi hl end.0).0 (sym end.1) P σ c placed all in
        rw e (placed (rig_joint (link_at (block_form after) i l))),
    λ defined unknown_link.
        let here = canon rig.some form in
        let counts = counts_every (rig_of b).profile here in
        let placed = canon_rig_placing rig.some form in
        let holds = (means here (at_class (block_form after)) counts placed).0 (canon_taken rig.lawful rig.two rig.some form) in
        let end = element_smallest rig.some form _ (defined here (at_class (block_form after)) counts placed holds) in
        omega (arith, end.0, rig.few, unknown_link),
  )

-- a well-formed form that shows exactly what the facts gs force: what satisfies gs satisfies its taken facts, and what satisfies these
-- satisfies all that gs force
module _
    {R : Rig} (g : LawfulRig R) {S : Form} (w : Well R.kinds R.joints S) (gs : List (Fact RigJoint))
    (exactly : (f : Fact RigJoint) → Writable R.kinds R.joints f → Shown (meet_of R) S f ↔ Forced R gs f)
    (P : Picture R.kinds) (σ : RigJoint → ℕ) (counts : Counts R.profile P) (placed : Placing P σ) where
  facts_taken_lem : All (meet_of R) P σ gs → All (meet_of R) P σ (taken_facts R.joints S)
  facts_taken_lem all =
      models→taken g.lawful g.two R.joints S P σ
      (shown_models g.lawful w P σ (λ f ir shown. (exactly f ir).0 shown P σ counts placed all))

  taken_forced :
      All (meet_of R) P σ (taken_facts R.joints S) → (f : Fact RigJoint) → Writable R.kinds R.joints f → Forced R gs f →
      Holds (meet_of R) P σ f
  taken_forced all f ir forced = shown_forced g w f ir ((exactly f ir).1 forced) P σ counts placed all

-- a block whose picture follows from the facts alone is the block after taking them, where b is well formed and they may be written
module _
    {b : List ℕ} (g : GoodBlock b) {facts : List (Fact RigJoint)}
    (writable : (f : Fact RigJoint) → Memᴰ f facts → Writable (rig_of b).kinds (rig_of b).joints f)
    {after : List ℕ} (follows : PictureFollows b facts after) where
  own : LawfulRig (rig_of b)
  own = block_rig g.well

  -- the facts of b and the new ones are among those that are forced
  old_forced : (f : Fact RigJoint) → Writable (rig_of b).kinds (rig_of b).joints f → Shown (meet_of (rig_of b)) (block_form b) f →
      Forced (rig_of b) (taken b ++ facts) f
  old_forced f ir shown P σ c placed all =
      shown_forced own g.well.well f ir shown P σ c placed (all_left (meet_of (rig_of b)) P σ (taken b) facts all)

  new_forced : (f : Fact RigJoint) → Memᴰ f facts → Forced (rig_of b) (taken b ++ facts) f
  new_forced f m P σ c placed all = all_member (meet_of (rig_of b)) P σ m (all_right (meet_of (rig_of b)) P σ (taken b) facts all)

  follows_means : SameMeaning (rig_of b) (taken_facts (rig_of b).joints (block_form after)) (taken b ++ facts)
  follows_means P σ c placed =
      let meet = meet_of (rig_of b) in
      let w = stands_form follows.stands in (
        λ all.
            let holds = taken_forced own w (taken b ++ facts) follows.exactly P σ c placed all in
            all_append meet P σ (taken b) facts
            (models→taken own.lawful own.two (rig_of b).joints (block_form b) P σ
            (shown_models own.lawful g.well.well P σ (λ f ir shown. holds f ir (old_forced f ir shown))))
            (each_holds meet P σ facts (λ f m. holds f (writable f m) (new_forced f m))),
        facts_taken_lem own w (taken b ++ facts) follows.exactly P σ c placed,
      )

  pub follows_after : After b facts after
  follows_after = record { stands = follows.stands; means = rw (stands_taken follows.stands) follows_means }

-- the facts of a packet that no reply from 1 to 9 refuses may be written
named_writable : (n v : ℕ) (f : Fact ℕ) → InRange n v f → Writable n v (rename rig_joint f)
named_writable n v (has_kind a s) h = h
named_writable n v (same a b) h = h
named_writable n v (leads a l c) h = h

packet_writable :
    (n v : ℕ) (p : List ℕ) → packet_reply (facts_wanted v) n v p ≡ Ok 0 → (f : Fact RigJoint) → Memᴰ f (rig_facts p) → Writable n v f
packet_writable n v p e f m =
    let w = well_formed_lem (facts_wanted v) n v p (ap refuses e) in
    let k = among (λ i. fact_of rig_joint p (fact_at p i)) 0 (fact_count p) m in
    let same_joints : joints p ≡ v = omega (arith, w.joints_from, w.joints_to) in
    rw (k.is, fact_named rig_joint p (fact_at p k.at), ← same_joints)
    (named_writable n (joints p) (fact_of (λ j. j) p (fact_at p k.at)) (w.fact k.at (omega (arith, k.below))))

module _ (b p : List ℕ) (well : take_refusal b p ≡ Ok 0) where
  -- so what the contract of taking says of the block after is what the sentence says
  pub after_exactly : {after : List ℕ} → After b (rig_facts p) after ↔ PictureFollows b (rig_facts p) after
  after_exactly =
      let goes_on = taken_good b p well in
      (picture_follows, follows_after goes_on.0 (packet_writable (kinds_of b) (joints_of b) p goes_on.1))

  -- "the one": there is no other
  pub follows_one : {x y : List ℕ} → PictureFollows b (rig_facts p) x → PictureFollows b (rig_facts p) y → x ≡ y
  follows_one f g = after_one (after_exactly.1 f) (after_exactly.1 g)
