-- The solved form is short: at most 17 facts a joint, and four bytes a fact. And what writing answers: the reply to the block where that
-- refuses, otherwise that of the output, in which nothing is written or the whole form.
-- Assumes nothing.
use mathlib.Core.Path.{◌≡◌, refl, sym, ap, ◌∙◌, subst}
use mathlib.Core.Bool.{Bool, true, false, cond}
use mathlib.Core.List.{List, [], ◌∷◌, ◌++◌}
use Prim.Native.Nat.{ℕ, zero, suc, ◌*◌, ◌^◌, ◌<◌, ◌≤◌}
use native.Mathlib.Omega.{arith}
use lib.Dec.{eqb}
use lib.ListN.{length, drop, length-append, length-map}
use Rattle.std.specs.Prelude.{Ok}
use Rattle.replies.specs.Replies.{refuses, third}
use Rattle.replies.proofs.Laws.{first_here, first_next, first_none, refusal_third}
use Rattle.meaning.specs.Picture.{Fact, rename}
use Rattle.meaning.specs.Picture.Fact.{has_kind, same}
use Rattle.meaning.specs.Form.{Form, unknown, links_from, facts_at, facts_from, rig_joint, taken_facts}
use Rattle.packets.specs.FactsPacket.{all_bytes, facts_packet}
use Rattle.packets.proofs.FactsPacket.{bytes_four, packet_size}
use Rattle.joints.specs.Layout.{joints_of, block_form, taken}
use Rattle.blocks.specs.WellFormed.{block_reply}
use Rattle.blocks.proofs.Shape.{GoodBlock, good_block, block_done}
use Rattle.outputs.specs.Output.{output_reply, output_after}
use Rattle.outputs.proofs.Output.{has_room, all_put, output_stays, output_third}
use Rattle.writing.specs.Write.{solved_form, write_reply, written_output}
use Rattle.writing.proofs.Putting.{whole}
use Rattle.writing.specs.Putting.{most_at_joint, most_bytes, Room, Put}

module _ (S : Form) where
  maybe_more : (b : Bool) (f : Fact ℕ) (fs : List (Fact ℕ)) (most : ℕ) → length fs ≤ most → length (cond b fs (f ∷ fs)) ≤ suc most
  maybe_more true f fs most h = omega arith
  maybe_more false f fs most h = omega arith

  links_few : (j l count : ℕ) → length (links_from S j l count) ≤ count
  unfolding links_from
  links_few j l zero = omega arith
  links_few j l (suc count) = maybe_more (eqb (S.link j l) unknown) _ _ count (links_few j (suc l) count)

  facts_at_few : (j : ℕ) → length (facts_at S j) ≤ most_at_joint
  unfolding facts_at
  facts_at_few j = by_class (eqb (S.class j) j)
    where
      by_class : (b : Bool) →
          length (cond b (cond (eqb (S.kind j) 1) (links_from S j 0 16) (has_kind j (S.kind j) ∷ links_from S j 0 16)) (same j (S.class j) ∷ [])) ≤ most_at_joint
      by_class true = maybe_more (eqb (S.kind j) 1) _ _ 16 (links_few j 0 16)
      by_class false = omega arith

  facts_few : (j count : ℕ) → length (facts_from S j count) ≤ most_at_joint * count
  unfolding facts_from
  facts_few j zero = omega arith
  facts_few j (suc count) = omega (arith, length-append (facts_at S j) (facts_from S (suc j) count), facts_at_few j, facts_few (suc j) count)

-- the facts of at most 64 joints are at most 1,088, so that the array in which a form is made has room for them
module _ (v : ℕ) (S : Form) (few : v ≤ 64) where
  pub taken_few : length (taken_facts v S) ≤ 1088
  taken_few = omega (arith, facts_few S 0 v, length-map (facts_from S 0 v) (rename rig_joint))

  pub facts_room_lem : (s : List ℕ) → most_bytes ≤ length s → Room (all_bytes (taken_facts v S)) 6 s
  facts_room_lem s e = omega (arith, bytes_four (taken_facts v S), taken_few)

  pub put_short : {s t : List ℕ} {end : ℕ} → Put (all_bytes (taken_facts v S)) 6 s t end → end ≤ most_bytes
  put_short p = omega (arith, p.ends, bytes_four (taken_facts v S), taken_few)

-- the solved form of at most 64 joints has at most 4,358 bytes
pub solved_form_short : (b : List ℕ) → joints_of b ≤ 64 → length (solved_form b) ≤ most_bytes
solved_form_short b few = omega (arith, packet_size (joints_of b) (taken b), taken_few (joints_of b) (block_form b) few)

-- the form of v joints, as many as the block says
pub form_done :
    {v : ℕ} (b : List ℕ) {s t : List ℕ} {size : ℕ} → v ≡ joints_of b → Put (facts_packet v (taken_facts v (block_form b))) 0 s t size →
    Put (solved_form b) 0 s t size
form_done b {s} {t} {size} e p = subst (λ (v : ℕ). Put (facts_packet v (taken_facts v (block_form b))) 0 s t size) e p

-- it stands in the front of its array
module _ (b : List ℕ) {s t : List ℕ} {size : ℕ} (short : size ≤ most_bytes) (p : Put (solved_form b) 0 s t size) where
  pub form_inside : length s ≡ most_bytes → size ≤ length t
  form_inside e = omega (arith, p.size)

  -- or in the front of an output that has room for any, where all of it has been put and nothing else
  pub straight : most_bytes ≤ length s → (Ok size ≡ output_reply (solved_form b) s) × (t ≡ output_after (solved_form b) s)
  straight room =
      let form = solved_form b in
      let e : size ≡ length form = omega (arith, p.ends) in
      let h : length form ≤ length s = omega (arith, p.ends) in (
        ap Ok e ∙ sym (has_room form s h),
        whole p ∙ ap (λ (k : ℕ). form ++ drop k s) e ∙ all_put form s h,
      )

-- the answers of the call: that of the block where it refuses, else that of the output
module _ (b out : List ℕ) where
  pub block_refuses : refuses (block_reply b) ≡ true → write_reply b out ≡ block_reply b
  unfolding write_reply
  block_refuses e = first_here (block_reply b) [] (output_reply (solved_form b) out) e

  pub output_decides : refuses (block_reply b) ≡ false → write_reply b out ≡ output_reply (solved_form b) out
  unfolding write_reply
  output_decides e = first_next (block_reply b) [] (output_reply (solved_form b) out) e ∙ first_none (output_reply (solved_form b) out)

  pub unwritten : refuses (block_reply b) ≡ true → out ≡ written_output b out
  unfolding written_output
  unwritten e = rw (block_refuses e, e)

  -- an output that is refused stays as it is, by either definition
  pub written : refuses (block_reply b) ≡ false → output_after (solved_form b) out ≡ written_output b out
  unfolding written_output
  written e = rw (output_decides e) (by_reply (refuses (output_reply (solved_form b) out)) refl)
    where
      by_reply : (t : Bool) → refuses (output_reply (solved_form b) out) ≡ t →
          output_after (solved_form b) out ≡ cond t out (output_after (solved_form b) out)
      by_reply true r = sym (output_stays (solved_form b) out r)
      by_reply false r = refl

  -- an output with room for the form gets all of it
  pub write_done :
      GoodBlock b → length (solved_form b) ≤ length out →
      (write_reply b out ≡ Ok (length (solved_form b))) × (written_output b out ≡ solved_form b ++ drop (length (solved_form b)) out)
  write_done g h =
      let passes = ap refuses (block_done g) in
      (output_decides passes ∙ has_room (solved_form b) out h, sym (all_put (solved_form b) out h ∙ written passes))

  pub write_third : third (write_reply b out) < 2 ^ 24
  write_third = by_block (refuses (block_reply b)) refl
    where
      by_block : (t : Bool) → refuses (block_reply b) ≡ t → third (write_reply b out) < 2 ^ 24
      by_block true e = rw (block_refuses e, refusal_third (block_reply b) e) (omega arith)
      by_block false e =
          rw (output_decides e) (output_third (solved_form b) out (omega (arith, solved_form_short b (good_block b e).well.v_high)))
