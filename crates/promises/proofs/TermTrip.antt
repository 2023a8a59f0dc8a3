-- "Read and taken by a fresh session, that text restores the block": the text that is written from a joint reads as the term of the tree and
-- as no other, its packet is well formed and says the term's facts, and they mean what the taken facts mean; a fresh session has taken
-- nothing, so the block is what taking these facts means, and taking allows no other result.
-- Assumes nothing.
use mathlib.Core.Path.{◌≡◌, refl, sym, ap, ◌∙◌, subst}
use mathlib.Core.Logic.{◌↔◌, by_cases}
use mathlib.Core.Bool.{false, true≢false}
use mathlib.Core.List.{List, ◌++◌, map}
use Prim.Native.Nat.{ℕ, ◌<◌, ◌≤◌}
use native.Mathlib.Omega.{arith}
use native.Mathlib.Decide.{dec_lt}
use lib.ListN.{length, take, drop}
use lib.Seq.{take-append_seam}
use Rattle.std.specs.Prelude.{Ok}
use Rattle.replies.specs.Replies.{refuses, third, Reply}
use Rattle.meaning.proofs.Classes.{classes_all}
use Rattle.meaning.specs.declared.RigJoint.{RigJoint}
use Rattle.meaning.specs.Picture.{Fact, rename}
use Rattle.meaning.specs.Form.{facts_of, rig_joint}
use Rattle.meaning.specs.Rig.{SameMeaning, meet_of}
use Rattle.meaning.proofs.Facts.{all_rename, by_number}
use Rattle.packets.specs.Facts.{rig_facts}
use Rattle.joints.specs.Layout.{kinds_of, joints_of, block_form, taken}
use Rattle.blocks.specs.Layout.{block_size, table_of, rig_of}
use Rattle.blocks.specs.WellFormed.{block_reply}
use Rattle.blocks.proofs.Shape.{GoodBlock, good_block, block_done}
use Rattle.blocks.proofs.Fresh.{fresh_facts, fresh_classes}
use Rattle.outputs.specs.Output.{output_reply}
use Rattle.outputs.proofs.Output.{too_short, has_room, all_put}
use Rattle.opening.specs.Open.{open_reply, open_block}
use Rattle.opening.proofs.Opening.{is_fresh}
use Rattle.taking.specs.Take.{Take, After, take_refusal}
use Rattle.taking.specs.Take.Take.{done}
use Rattle.taking.proofs.Taking.{packet_decides}
use Rattle.taking.proofs.OneTake.{take_one}
use Rattle.terms.specs.Term.{Term, term_tokens}
use Rattle.terms.specs.Language.{Fits, Reading, deepest}
use Rattle.terms.specs.Facts.{term_facts}
use Rattle.terms.proofs.OneReading.{one_reading}
use Rattle.term_reading.specs.Range.{range_reply}
use Rattle.term_reading.specs.ReadTerm.{ReadTerm, longest_text, read_term_refusal, term_packet}
use Rattle.term_reading.proofs.Answers.{block_decides}
use Rattle.term_reading.proofs.OneRead.{Readable, reads, reads_only}
use Rattle.term_writing.specs.Tree.{TreeFrom, term_from}
use Rattle.term_writing.specs.Rising.{Rising}
use Rattle.term_writing.specs.WriteTerm.{WriteTerm, write_term_refusal, written_text}
use Rattle.term_writing.specs.WriteTerm.WriteTerm.{refused, no_tree, tree as from_tree}
use Rattle.term_writing.proofs.TreeFacts.{tree_fits, tree_few, tree_ranged, tree_means, tree_rises}
use Rattle.term_writing.proofs.Writes.{not_refused as writes_unrefused}
use Rattle.term_writing.proofs.OneWrite.{write_term_one}
use Rattle.term_writing.proofs.WrittenText.{write_goes_on, written_short}
use Rattle.promises.proofs.RoundTrip.{sized, fresh, fresh_well, stands_fresh, can_open}
use Rattle.promises.proofs.TermPackets.{ranged_passes, term_packet_well, term_packet_says}

-- the term from the joint `root` of a block, and its packet
abbrev pub tree_term : List ℕ → ℕ → Term
tree_term b root = term_from (block_form b) deepest root

abbrev pub tree_packet : List ℕ → ℕ → List ℕ
tree_packet b root = term_packet (joints_of b) (tree_term b root)

-- a call allows one reply and one result, and these are they
abbrev pub Exactly : (Reply → List ℕ → Type 0) → Reply × List ℕ → Type 0
Exactly Allows result = (reply : Reply) (after : List ℕ) → Allows reply after ↔ ((reply ≡ result.0) × (after ≡ result.1))

-- bytes put into a lent output: their number as third, and the rest of the output as it was
abbrev pub puts : List ℕ → List ℕ → Reply × List ℕ
puts bytes out = (Ok (length bytes), bytes ++ drop (length bytes) out)

exactly : {Allows : Reply → List ℕ → Type 0} {r : Reply} {x : List ℕ} → Allows r x →
    ((reply : Reply) (after : List ℕ) → Allows reply after → (reply ≡ r) × (after ≡ x)) → Exactly Allows (r, x)
exactly {Allows} {r} {x} allowed only reply after = (only reply after, λ e. rw (e.0, e.1) allowed)

module _ {b : List ℕ} (g : GoodBlock b) {root : ℕ} (inside : root < joints_of b) (tree : TreeFrom (joints_of b) (block_form b) root) where
  fits : Fits (tree_term b root) deepest
  fits = tree_fits g.well.well tree inside g.well.n_high g.well.v_high

  few : length (term_facts (tree_term b root)) ≤ 1088
  few = tree_few g.well.well tree inside g.well.v_high

  in_range : range_reply (kinds_of b) (joints_of b) 0 (term_tokens (tree_term b root)) ≡ Ok 0
  in_range = ranged_passes (kinds_of b) (joints_of b) (tree_term b root) (tree_ranged g.well.well tree inside)

  -- the text reads as the term of the tree, and as no other; kinds but 1 are written in it, and links rise
  pub text_reads : Reading (written_text b root) (tree_term b root)
  text_reads = record { spelled = refl; fits = fits }

  pub reads_rising : (t : Term) → Reading (written_text b root) t → (t ≡ tree_term b root) × Rising t
  reads_rising t r =
      let same = one_reading (written_text b root) t (tree_term b root) r text_reads in
      (same, subst Rising (sym same) (tree_rises g.well.well tree inside))

  text_short : length (written_text b root) ≤ longest_text
  text_short = omega (arith, written_short b root g inside tree)

  -- a fresh block reads it
  fresh_reads : read_term_refusal (fresh g) (written_text b root) ≡ Ok 0
  fresh_reads = block_decides (fresh g) (written_text b root) text_short ∙ fresh_well g

  readable : (out : List ℕ) → length (tree_packet b root) ≤ length out → Readable (fresh g) (tree_term b root) out
  readable out room = record { in_range = in_range; few = few; room = room }

  -- and takes its packet, which means what the block's taken facts mean
  not_refused : take_refusal (fresh g) (tree_packet b root) ≡ Ok 0
  not_refused =
      packet_decides (fresh g) (tree_packet b root) (ap refuses (fresh_well g))
      ∙ term_packet_well (kinds_of b) (joints_of b) (tree_term b root) in_range few

  packet_facts_lem : taken (fresh g) ++ rig_facts (tree_packet b root) ≡ map (rename rig_joint) (term_facts (tree_term b root))
  packet_facts_lem =
      ap (λ (l : List (Fact RigJoint)). l ++ rig_facts (tree_packet b root))
      (fresh_facts (kinds_of b) (joints_of b) (table_of b) (sized g) g.well.v_high)
      ∙ term_packet_says (kinds_of b) (joints_of b) (tree_term b root)

  after_fresh : After (fresh g) (rig_facts (tree_packet b root)) b
  after_fresh = record { stands = stands_fresh g; means = means (sym packet_facts_lem) }
    where
      means : {fs : List (Fact RigJoint)} → map (rename rig_joint) (term_facts (tree_term b root)) ≡ fs → SameMeaning (rig_of (fresh g)) (taken b) fs
      means e =
          rw (← e)
          (λ P σ counts placed.
          let meet = meet_of (rig_of (fresh g)) in
          let form = all_rename meet P rig_joint σ (facts_of (joints_of b) (block_form b)) in
          let term = all_rename meet P rig_joint σ (term_facts (tree_term b root)) in
          let same = tree_means g.well.well tree inside meet P (by_number σ) in
          (λ a. term.1 (same.1 (form.0 a)), λ a. form.1 (same.0 (term.0 a))))

  fresh_takes : Take (fresh g) (tree_packet b root) (Ok 0) b
  fresh_takes =
      done not_refused after_fresh
      (ap Ok
      (omega (
        arith,
        fresh_classes (kinds_of b) (joints_of b) (table_of b) (sized g) g.well.v_high,
        classes_all (block_form b) (joints_of b) tree.apart,
      )))

  -- over lent bytes of the right size
  module _ (lent : List ℕ) (size : length lent ≡ block_size) where
    abbrev opened : List ℕ
    opened = open_block (kinds_of b) (joints_of b) (table_of b) lent

    opened_fresh : fresh g ≡ opened
    opened_fresh = is_fresh (kinds_of b) (joints_of b) (table_of b) lent (ap refuses (can_open g lent size))

    read_back : (out : List ℕ) → length (tree_packet b root) ≤ length out →
        Exactly (ReadTerm opened (written_text b root) out) (puts (tree_packet b root) out)
    read_back out room =
        subst (λ (x : List ℕ). Exactly (ReadTerm x (written_text b root) out) (puts (tree_packet b root) out)) opened_fresh
        (exactly
        (reads (fresh g) (written_text b root) out fresh_reads (tree_term b root) text_reads (readable out room))
        (λ r x a. reads_only (fresh g) (written_text b root) out fresh_reads (tree_term b root) text_reads (readable out room) a))

    taken_back : Exactly (Take opened (tree_packet b root)) (Ok 0, b)
    taken_back =
        subst (λ (x : List ℕ). Exactly (Take x (tree_packet b root)) (Ok 0, b)) opened_fresh (exactly fresh_takes (λ r x a. take_one a fresh_takes))

  -- writing from the joint gives the text, and nothing else
  write_passes : write_term_refusal b root ≡ Ok 0
  write_passes = writes_unrefused b root (ap refuses (block_done g)) inside

  module _ (out : List ℕ) (room : length (written_text b root) ≤ length out) where
    writes_text : Exactly (WriteTerm b root out) (puts (written_text b root) out)
    writes_text =
        let told = from_tree write_passes tree (sym (has_room (written_text b root) out room)) (all_put (written_text b root) out room) in
        exactly told (λ r x a. write_term_one b root out a told)

-- the trip of a block over lent bytes by the text from the joint `root`: a session is opened with its n, V and table, reads the text, takes the
-- packet with no join, and is the block again, byte for byte; and the same text is written from it. Nothing else comes of these calls
pub record TermTrip (b : List ℕ) (root : ℕ) (lent : List ℕ) : Type 0 where
  pub opens : open_reply (kinds_of b) (joints_of b) (table_of b) lent ≡ Ok 0
  pub reads : (out : List ℕ) → length (tree_packet b root) ≤ length out →
      Exactly (ReadTerm (open_block (kinds_of b) (joints_of b) (table_of b) lent) (written_text b root) out) (puts (tree_packet b root) out)
  pub takes : Exactly (Take (open_block (kinds_of b) (joints_of b) (table_of b) lent) (tree_packet b root)) (Ok 0, b)
  pub writes : (out : List ℕ) → length (written_text b root) ≤ length out → Exactly (WriteTerm b root out) (puts (written_text b root) out)

-- for every block that is refused neither with 1 nor with 4 and is a tree from that joint, and any lent bytes of the right size
pub term_trip : (b : List ℕ) (root : ℕ) (lent : List ℕ) → block_reply b ≡ Ok 0 → root < joints_of b → TreeFrom (joints_of b) (block_form b) root →
    length lent ≡ block_size → TermTrip b root lent
term_trip b root lent well inside tree size =
    let g = good_block b (ap refuses well) in
    record {
      opens = can_open g lent size;
      reads = read_back g inside tree lent size;
      takes = taken_back g inside tree lent size;
      writes = writes_text g inside tree;
    }

-- an output that does not refuse has room
room_for : (bytes out : List ℕ) → refuses (output_reply bytes out) ≡ false → length bytes ≤ length out
room_for bytes out e =
    by_cases (dec_lt (length out) (length bytes)) (λ h. absurd (true≢false (sym (ap refuses (too_short bytes out h)) ∙ e))) (λ d. omega arith)

-- where writing is done, the bytes written are the text, and its trip restores the block
pub written_trip : (b : List ℕ) (root : ℕ) (out lent : List ℕ) {reply : Reply} {after : List ℕ} → WriteTerm b root out reply after →
    refuses reply ≡ false → length lent ≡ block_size → (take (third reply) after ≡ written_text b root) × TermTrip b root lent
written_trip b root out lent (refused e q same) fine size = absurd (true≢false (sym e ∙ ap refuses (sym q) ∙ fine))
written_trip b root out lent (no_tree d none q same) fine size = absurd (true≢false (ap refuses (sym q) ∙ fine))
written_trip b root out lent {reply} {after} (from_tree d tree q put) fine size =
    let known = write_goes_on b root d in
    let trip = term_trip b root lent (block_done known.0) known.1 tree size in
    let room = room_for (written_text b root) out (ap refuses (sym q) ∙ fine) in
    let done_with = (trip.writes out room reply after).0 (from_tree d tree q put) in
    (rw (done_with.0, done_with.1) (take-append_seam (written_text b root) (drop (length (written_text b root)) out)), trip)
