-- `writing::none_of_four` meets its contract: the four bytes are the four links.
-- Assumes nothing.
use Rattle.std.proofs.Common.{◌≡◌, sym, ap, ◌∙◌, ℕ, List, ◌+◌, ◌-◌, ◌*◌, ◌<◌, take, drop, arith}
use Rattle.std.proofs.lemmas.List.{get_or-take, get_or-drop}
use lib.ListN.{get_or}
use Rattle.joints.specs.Layout.{rows_of, block_form}
use Rattle.writing.proofs.Putting.{none_known}
use Rattle.writing.proofs.none_of_four.Goals as goal

-- the i-th of n bytes of the rows is link l + i of joint j
link_in :
    (b : List ℕ) (j l n i : ℕ) {rows : List ℕ} → rows ≡ rows_of b → n ≡ 4 → i < 4 →
    (block_form b).link j (l + i) ≡ get_or (take n (drop (j * 16 + l) rows)) i 0
link_in b j l n i {rows} e four h =
    ap (λ (k : ℕ). get_or (rows_of b) k 0) (omega arith)
    ∙ ap (λ (r : List ℕ). get_or r (j * 16 + l + i) 0) (sym e)
    ∙ sym (get_or-drop (j * 16 + l) rows i 0)
    ∙ sym (get_or-take n (drop (j * 16 + l) rows) i 0 (omega arith))

pub returns : goal.returns
returns c e =
    let b = c.args.session.now in
    let j = c.args.j in
    let l = c.args.l in
    let first : l ≡ l + 0 = omega arith in
    let link = λ (i : ℕ). link_in b j l (j * 16 + l + 4 - (j * 16 + l)) i c.rows.ensures.bytes (omega arith) in
    let all = c.all_unknown.ensures e in
    none_known (block_form b) j l
    (ap ((block_form b).link j) first ∙ link 0 (omega arith) ∙ all.0)
    (link 1 (omega arith) ∙ all.1) (link 2 (omega arith) ∙ all.2) (link 3 (omega arith) ∙ all.3)
