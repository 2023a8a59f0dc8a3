-- Replies 5 to 9: what can be wrong with the bytes of a packet, and the reply to the first thing that is. (A packet is well formed when 10 does
-- not fit it either: crates/reach.)
-- Assumes nothing.
use Rattle.std.specs.Prelude.{Bool, false, ◌&&◌, cond, List, [], ◌∷◌, ℕ, ◌+◌, ◌*◌, eqb, leb, ltb, length, Ok}
use Rattle.replies.specs.declared.Cause.TheVariants.{BadLength, BadVersion, BadHeader, BadCount, BadPart}
use Rattle.replies.specs.Replies.{unless, first_refusal, Reply}
use Rattle.runs.specs.Runs.{each, within}
use Rattle.packets.specs.Packet.{byte, L, ties, joints, tie_at, fact_at, fact_count}
use Rattle.screening.specs.declared.Wanted.{Wanted}

-- six bytes at least, and as many as L says
abbrev pub length_fits : List ℕ → Bool
length_fits p = leb 6 (length p) && eqb (length p) (L p + 2)

-- some f from 0 to 1,088 fits L
abbrev pub count_fits : List ℕ → Bool
count_fits p = eqb (L p) (4 + 2 * ties p + 4 * fact_count p) && leb (fact_count p) 1088

-- take: facts, no ties, the session's V
abbrev pub facts_wanted : ℕ → Wanted
facts_wanted v = record { purpose = 1; ties = record { from = 0; to = 0 }; joints = record { from = v; to = v } }

-- ask: a rule, 1 to 8 ties, 1 to 32 joints
abbrev pub rule_wanted : Wanted
rule_wanted = record { purpose = 2; ties = record { from = 1; to = 8 }; joints = record { from = 1; to = 32 } }

-- a tie: a rule joint, of which there are as many as the packet says, and one of v rig joints
abbrev pub tie_fits : ℕ → List ℕ → ℕ → Bool
tie_fits v p at = ltb (byte p at) (joints p) && ltb (byte p (at + 1)) v

-- a fact of one of the three tags, with kinds below n, joints below the packet's count, links below 16, and 0 in an unused byte
unfoldable pub fact_fits : ℕ → List ℕ → ℕ → Bool
fact_fits n p at =
    cond (eqb (byte p at) 1) (ltb (byte p (at + 1)) (joints p) && ltb (byte p (at + 2)) n && eqb (byte p (at + 3)) 0)
    (cond (eqb (byte p at) 2) (ltb (byte p (at + 1)) (joints p) && ltb (byte p (at + 2)) (joints p) && eqb (byte p (at + 3)) 0)
    (cond (eqb (byte p at) 3) (ltb (byte p (at + 1)) (joints p) && ltb (byte p (at + 2)) 16 && ltb (byte p (at + 3)) (joints p))
    false))

-- the first of count parts, from the i-th on, that does not fit, by its first byte
unfoldable pub first_unfit : (ℕ → Bool) → (ℕ → ℕ) → ℕ → ℕ → Reply
first_unfit fits at i count = first_refusal (each (λ k. unless (fits (at k)) BadPart (at k)) i count) (Ok 0)

-- the first tie that does not fit, where there are v rig joints
abbrev pub first_bad_tie : ℕ → List ℕ → Reply
first_bad_tie v p = first_unfit (tie_fits v p) tie_at 0 (ties p)

-- the first fact that does not fit, where there are n kinds
abbrev pub first_bad_fact : ℕ → List ℕ → Reply
first_bad_fact n p = first_unfit (fact_fits n p) (fact_at p) 0 (fact_count p)

-- replies 5 to 9, the lowest number first; done where none fits. Byte 2 is the version, byte 3 the purpose
unfoldable pub packet_reply : Wanted → ℕ → ℕ → List ℕ → Reply
packet_reply w n v p =
    first_refusal
    (unless (length_fits p) BadLength 0
    ∷ unless (eqb (byte p 2) 1) BadVersion 2
    ∷ unless (eqb (byte p 3) w.purpose) BadHeader 3
    ∷ unless (within w.ties.from w.ties.to (ties p)) BadHeader 4
    ∷ unless (within w.joints.from w.joints.to (joints p)) BadHeader 5
    ∷ unless (count_fits p) BadCount 0
    ∷ first_bad_tie v p
    ∷ [])
    (first_bad_fact n p)
