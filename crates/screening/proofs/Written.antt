-- A packet written from facts is well formed where they are in range and at most 1,088: the bytes of each stand at its place, and so it fits.
-- Assumes nothing.
use mathlib.Core.Path.{◌≡◌, refl, ap, ◌∙◌}
use mathlib.Core.List.{List, [], ◌∷◌}
use Prim.Native.Nat.{ℕ, suc, ◌+◌, ◌*◌, ◌≤◌}
use native.Mathlib.Omega.{arith}
use lib.Dec.{leb}
use lib.ListN.{length}
use borrow.Author.Tests.{eq-eqb, le-leb}
use Rattle.std.specs.Prelude.{Ok}
use Rattle.replies.proofs.Laws.{first_none}
use Rattle.runs.specs.Runs.{each}
use Rattle.meaning.specs.Picture.{Fact}
use Rattle.meaning.specs.Solving.{AllInRange}
use Rattle.packets.specs.Packet.{L, ties, joints, fact_at, fact_count}
use Rattle.packets.proofs.FactsPacket.{AllStand, written, L_is, size_is, count_is, written_stand}
use Rattle.screening.specs.Screening.{facts_wanted, fact_fits, first_unfit, packet_reply}
use Rattle.screening.proofs.Converse.{both_true, packet_fits, fits_then, fact_fits_lem}

all_fit :
    (n : ℕ) (p : List ℕ) (i : ℕ) (fs : List (Fact ℕ)) → AllStand p i fs → AllInRange n (joints p) fs →
    first_unfit (fact_fits n p) (fact_at p) i (length fs) ≡ Ok 0
unfolding first_unfit each
all_fit n p i [] s r = first_none (Ok 0)
all_fit n p i (f ∷ fs) s r =
    fits_then (fact_fits n p) (fact_at p) i (length fs) (fact_fits_lem n p (fact_at p i) f s.0 r.0) (all_fit n p (suc i) fs s.1 r.1)

module _ (n v : ℕ) (fs : List (Fact ℕ)) (few : length fs ≤ 1088) (r : AllInRange n v fs) where
  abbrev packet : List ℕ
  packet = written v fs

  pub written_well : packet_reply (facts_wanted v) n v packet ≡ Ok 0
  unfolding first_unfit each
  written_well =
      let size = size_is v fs in
      let l = L_is v fs in
      let count = count_is v fs in
      packet_fits (facts_wanted v) n v packet
      (both_true _ _ (le-leb 6 (length packet) (omega (arith, size))) (eq-eqb (length packet) (L packet + 2) (omega (arith, size, l))))
      refl refl refl
      (both_true (leb v v) (leb v v) (le-leb v v (omega arith)) (le-leb v v (omega arith)))
      (both_true _ _
      (eq-eqb (L packet) (4 + 2 * ties packet + 4 * fact_count packet) (omega (arith, l, count)))
      (le-leb (fact_count packet) 1088 (omega (arith, count))))
      (first_none (Ok 0))
      (ap (first_unfit (fact_fits n packet) (fact_at packet) 0) count ∙ all_fit n packet 0 fs (written_stand v fs) r)
