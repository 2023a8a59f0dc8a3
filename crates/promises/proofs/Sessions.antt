-- Sessions: all takings of a session, refused ones among them, come to one taking of all the facts taken. By induction along the calls: a
-- refusal leaves the block, and what is taken after a taking means what was taken before it and its facts.
-- Assumes nothing.
use mathlib.Core.Path.{◌≡◌, refl, sym, ◌∙◌, ap, subst}
use mathlib.Core.Logic.{by_cases, ⊎_elim}
use mathlib.Core.Bool.{Bool, true, false, cond}
use mathlib.Core.List.{List, [], ◌∷◌, ◌++◌, append_assoc, append-nil}
use mathlib.Core.List.Memᴰ
use mathlib.Core.List.{Memᴰ}
use Prim.Native.Nat.{ℕ, ◌*◌}
use native.Mathlib.Omega.{arith}
use native.Mathlib.Decide.{dec_lt}
use native.Mathlib.Nat.{mul-le-mul}
use Rattle.std.specs.Prelude.{Ok}
use Rattle.replies.specs.Replies.{refuses}
use Rattle.meaning.specs.declared.RigJoint.{RigJoint}
use Rattle.meaning.specs.Picture.{Picture, Fact, All}
use Rattle.meaning.specs.Rig.{meet_of, SameMeaning}
use Rattle.meaning.specs.Rig.Profile.{every}
use Rattle.meaning.proofs.Facts.{all_append, all_left, all_right}
use Rattle.packets.specs.Facts.{rig_facts}
use Rattle.screening.specs.Screening.{packet_reply, facts_wanted}
use Rattle.joints.specs.Layout.{taken}
use Rattle.blocks.specs.Layout.{rig_of, fresh_block}
use Rattle.blocks.proofs.Shape.{GoodBlock, block_done, stands_itself}
use Rattle.blocks.proofs.Bytes.{at_rig_lem}
use Rattle.blocks.proofs.Fresh.{fresh_good, fresh_table, fresh_facts}
use Rattle.opening.specs.Open.{open_reply, open_block}
use Rattle.opening.proofs.Opening.{Fitting, opens, is_fresh}
use Rattle.taking.specs.Take.{After, Take, take_refusal}
use Rattle.taking.specs.Take.Take.{refused, clashes, done}
use Rattle.taking.proofs.Taking.{packet_decides}
use Rattle.taking.proofs.OneTake.{after_good}
use Rattle.promises.specs.Sessions.{Sent, Calls, Session, opened_rig, facts_taken}
use Rattle.promises.specs.Sessions.Calls.{none, taking, asking, writing}

-- taking nothing leaves the block
pub after_none : {b : List ℕ} → GoodBlock b → After b [] b
after_none {b} g = record { stands = stands_itself g; means = λ P σ c placed. rw (append-nil (taken b)) (λ a. a, λ a. a) }

-- one taking and then another come to the taking of both
pub after_then :
    {b x y : List ℕ} (fs gs : List (Fact RigJoint)) → After b fs x → After x gs y → After b (fs ++ gs) y
after_then {b} {x} {y} fs gs p q =
    record {
      stands = record { size = q.stands.size; well = q.stands.well; rig = q.stands.rig ∙ p.stands.rig };
      means = λ P σ c placed.
          let first = p.means P σ c placed in
          let then = second P σ c placed in
          let meet = meet_of (rig_of b) in
          rw (← append_assoc (taken b) fs gs) (
            λ a.
                all_append meet P σ (taken b ++ fs) gs
                (first.0 (all_left meet P σ (taken x) gs (then.0 a)))
                (all_right meet P σ (taken x) gs (then.0 a)),
            λ a.
                then.1
                (all_append meet P σ (taken x) gs
                (first.1 (all_left meet P σ (taken b ++ fs) gs a))
                (all_right meet P σ (taken b ++ fs) gs a)),
          );
    }
  where
    second : SameMeaning (rig_of b) (taken y) (taken x ++ gs)
    second = at_rig_lem (λ R. SameMeaning R (taken y) (taken x ++ gs)) p.stands.rig q.means

-- a reply that refuses, and one that does not
module _ (s : Sent) (sent : List Sent) where
  facts_refused : refuses s.reply ≡ true → facts_taken (s ∷ sent) ≡ facts_taken sent
  unfolding facts_taken
  facts_refused e = rw e

  facts_done : refuses s.reply ≡ false → facts_taken (s ∷ sent) ≡ rig_facts s.packet ++ facts_taken sent
  unfolding facts_taken
  facts_done e = rw e

-- the first call is a taking
first_taken :
    {b next c : List ℕ} (s : Sent) (sent : List Sent) → GoodBlock b → Take b s.packet s.reply next →
    (GoodBlock next → After next (facts_taken sent) c) → After b (facts_taken (s ∷ sent)) c
first_taken s sent g (refused e q same) rest =
    rw (facts_refused s sent (ap refuses q ∙ e), ← same) (rest (rw same g))
first_taken s sent g (clashes d i f q same) rest =
    rw (facts_refused s sent (ap refuses q), ← same) (rest (rw same g))
first_taken s sent g (done d a q) rest =
    rw (facts_done s sent (ap refuses q)) (after_then (rig_facts s.packet) (facts_taken sent) a (rest (after_good a)))

-- calls on a good block come to one taking of all the facts taken
pub calls_after : {b c : List ℕ} {sent : List Sent} → GoodBlock b → Calls b sent c → After b (facts_taken sent) c
unfolding facts_taken
calls_after g none = after_none g
calls_after g (taking {sent = sent} s t cs) = first_taken s sent g t (λ h. calls_after h cs)
calls_after g (asking _ cs) = calls_after g cs
calls_after g (writing _ cs) = calls_after g cs

-- what opening writes, where it does not refuse: a good block of its n, V and table that has taken nothing
module _ (n v : ℕ) (table lent : List ℕ) (o : refuses (open_reply n v table lent) ≡ false) where
  pub opening_writes : open_block n v table lent ≡ fresh_block n v table
  opening_writes = sym (is_fresh n v table lent o)

  opening : Fitting n v table lent
  opening = (opens n v table lent o).0

  pub opened_good : GoodBlock (fresh_block n v table)
  opened_good = fresh_good n v table opening.sized opening.v_high opening.v_low (opens n v table lent o).1

  pub opened_rig_lem : rig_of (fresh_block n v table) ≡ opened_rig n v table
  opened_rig_lem =
      ap (λ (t : List ℕ). record { kinds = n; table = t; joints = v; profile = every }) (fresh_table n v table opening.sized opening.v_high)

  pub opened_taken : taken (fresh_block n v table) ≡ []
  opened_taken = fresh_facts n v table opening.sized opening.v_high

-- the block of a session
module _ {n v : ℕ} {table b : List ℕ} {sent : List Sent} (s : Session n v table sent b) where
  session_after : After (fresh_block n v table) (facts_taken sent) b
  session_after =
      calls_after (opened_good n v table s.lent s.opens)
      (subst (λ (x : List ℕ). Calls x sent b) (opening_writes n v table s.lent s.opens) s.calls)

  -- it is good, of the rig that the session was opened with
  pub session_good : GoodBlock b
  session_good = after_good session_after

  pub session_rig : rig_of b ≡ opened_rig n v table
  session_rig = session_after.stands.rig ∙ opened_rig_lem n v table s.lent s.opens

  -- and it means the facts taken since opening
  pub session_means : SameMeaning (opened_rig n v table) (taken b) (facts_taken sent)
  session_means =
      at_rig_lem (λ R. SameMeaning R (taken b) (facts_taken sent)) (opened_rig_lem n v table s.lent s.opens)
      (subst (λ (fs : List (Fact RigJoint)). SameMeaning (rig_of (fresh_block n v table)) (taken b) (fs ++ facts_taken sent))
      (opened_taken n v table s.lent s.opens) session_after.means)

-- numbers with equal squares are equal
root : (n m : ℕ) → n * n ≡ m * m → n ≡ m
root n m e =
    by_cases (dec_lt n m) (λ h. absurd (omega (arith, mul-le-mul h h, e)))
    (λ d. by_cases (dec_lt m n) (λ h. absurd (omega (arith, mul-le-mul h h, e))) (λ d'. omega arith))

-- sessions with equal tables have as many kinds
pub same_kinds :
    {n n' v v' : ℕ} {table b b' : List ℕ} {sent sent' : List Sent} → Session n v table sent b → Session n' v' table sent' b' → n ≡ n'
same_kinds {n} {n'} {v} {v'} {table} s s' =
    let size = (opens n v table s.lent s.opens).0.sized.size in
    let size' = (opens n' v' table s'.lent s'.opens).0.sized.size in
    root n n' (sym size ∙ size')

-- a well-formed packet sent to a session is refused at most for a clash
pub sent_goes_on :
    {n v : ℕ} {table b : List ℕ} {sent : List Sent} (p : List ℕ) → Session n v table sent b → packet_reply (facts_wanted v) n v p ≡ Ok 0 →
    take_refusal b p ≡ Ok 0
sent_goes_on {b = b} p s well =
    packet_decides b p (ap refuses (block_done (session_good s)))
    ∙ at_rig_lem (λ R. packet_reply (facts_wanted R.joints) R.kinds R.joints p ≡ Ok 0) (sym (session_rig s)) well

chosen_hold :
    {n : ℕ} (meet : ℕ → ℕ → ℕ) (P : Picture n) (σ : RigJoint → ℕ) (t : Bool) (fs gs : List (Fact RigJoint)) →
    All meet P σ fs → All meet P σ gs → All meet P σ (cond t fs gs)
chosen_hold meet P σ true fs gs a b = a
chosen_hold meet P σ false fs gs a b = b

-- a picture and placing that satisfy every packet satisfy the facts taken
pub facts_hold :
    {n : ℕ} (meet : ℕ → ℕ → ℕ) (P : Picture n) (σ : RigJoint → ℕ) (sent : List Sent) →
    ((s : Sent) → Memᴰ s sent → All meet P σ (rig_facts s.packet)) → All meet P σ (facts_taken sent)
unfolding facts_taken
facts_hold meet P σ [] holds = tt
facts_hold meet P σ (s ∷ sent) holds =
    let rest = facts_hold meet P σ sent (λ t d. holds t (Memᴰ.tail d)) in
    let all = all_append meet P σ (rig_facts s.packet) (facts_taken sent) (holds s (Memᴰ.head refl)) rest in
    chosen_hold meet P σ (refuses s.reply) (facts_taken sent) (rig_facts s.packet ++ facts_taken sent) rest all

without_first :
    {n : ℕ} (meet : ℕ → ℕ → ℕ) (P : Picture n) (σ : RigJoint → ℕ) (t : Bool) (fs gs : List (Fact RigJoint)) →
    All meet P σ (cond t gs (fs ++ gs)) → All meet P σ gs
without_first meet P σ true fs gs a = a
without_first meet P σ false fs gs a = all_right meet P σ fs gs a

-- and where the facts taken hold, so do those of every packet that was taken
pub packet_holds :
    {n : ℕ} (meet : ℕ → ℕ → ℕ) (P : Picture n) (σ : RigJoint → ℕ) {s : Sent} {sent : List Sent} → Memᴰ s sent →
    refuses s.reply ≡ false → All meet P σ (facts_taken sent) → All meet P σ (rig_facts s.packet)
unfolding facts_taken
packet_holds meet P σ {s = s} (Memᴰ.head {x} {xs} e) taken a =
    let first = rw (facts_done x xs (ap (λ (t : Sent). refuses t.reply) (sym e) ∙ taken)) at a in
    subst (λ (t : Sent). All meet P σ (rig_facts t.packet)) (sym e) (all_left meet P σ (rig_facts x.packet) (facts_taken xs) first)
packet_holds meet P σ (Memᴰ.tail {x} {xs} d) taken a =
    packet_holds meet P σ d taken (without_first meet P σ (refuses x.reply) (rig_facts x.packet) (facts_taken xs) a)

-- the moment at which a packet of a session was sent: what was sent before it, and the block then
pub record Moment (first : List ℕ) (sent : List Sent) (s : Sent) : Type 0 where
  pub before : List Sent
  pub block : List ℕ
  pub next : List ℕ
  pub calls : Calls first before block
  pub takes : Take block s.packet s.reply next
  pub among : (t : Sent) → Memᴰ t before → Memᴰ t sent

-- one more call in front
earlier :
    {b next : List ℕ} {sent : List Sent} {s : Sent} (t : Sent) → Take b t.packet t.reply next → Moment next sent s → Moment b (t ∷ sent) s
earlier t first m =
    record {
      before = t ∷ m.before;
      block = m.block;
      next = m.next;
      calls = taking t first m.calls;
      takes = m.takes;
      among = λ u in_before. ⊎_elim (λ e. Memᴰ.head e) (λ d. Memᴰ.tail (m.among u d)) (Memᴰ.cases_cons in_before);
    }

pub moment : {b c : List ℕ} {sent : List Sent} {s : Sent} → Calls b sent c → Memᴰ s sent → Moment b sent s
moment none in_sent = absurd (Memᴰ.not-nil in_sent)
moment {b} {s = s} (taking {next = next} t first cs) in_sent =
    ⊎_elim
    (λ e.
    record {
      before = [];
      block = b;
      next = next;
      calls = none;
      takes = subst (λ (u : Sent). Take b u.packet u.reply next) (sym e) first;
      among = λ u d. absurd (Memᴰ.not-nil d);
    })
    (λ d. earlier t first (moment cs d))
    (Memᴰ.cases_cons in_sent)
moment (asking a cs) in_sent = moment cs in_sent
moment (writing out cs) in_sent = moment cs in_sent
