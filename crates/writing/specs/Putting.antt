-- Bytes put one after the other: what the parts of writing do, and of the calls on terms. No call of a session cites these.
-- Assumes nothing.
use Rattle.std.specs.Prelude.{◌≡◌, cond, List, [], ◌++◌, map, ℕ, ◌+◌, ◌≤◌, eqb, length, take, drop}
use Rattle.meaning.specs.Picture.{Fact, rename}
use Rattle.meaning.specs.Picture.Fact.{has_kind, same, leads}
use Rattle.meaning.specs.Form.{unknown, rig_joint}
use Rattle.packets.specs.FactsPacket.{fact_bytes, all_bytes}

-- the most facts of one joint: its kind, and 16 links
abbrev pub most_at_joint : ℕ
most_at_joint = 17

-- the most bytes that a solved form has: six, and four for each of 64 × 17 facts; `solved_form_short` in proofs/Writing.antt
abbrev pub most_bytes : ℕ
most_bytes = 4358

-- the bytes have room in s from `at` on
abbrev pub Room : List ℕ → ℕ → List ℕ → Type 0
Room bytes at s = at + length bytes ≤ length s

-- t is as long as s; up to `end` it is s up to `at` and then the bytes, and behind that it is s
pub record Put (bytes : List ℕ) (at : ℕ) (s t : List ℕ) (end : ℕ) : Type 0 where
  pub size : length t ≡ length s
  pub ends : end ≡ at + length bytes
  pub front : take end t ≡ take at s ++ bytes
  pub behind : drop end t ≡ drop end s

-- the bytes of a form's facts, on the rig's joints
abbrev pub form_bytes : List (Fact ℕ) → List ℕ
form_bytes fs = all_bytes (map (rename rig_joint) fs)

-- of joint j: its kind unless 1, its link l if known, and that it is one with another
abbrev pub kind_bytes : ℕ → ℕ → List ℕ
kind_bytes j s = cond (eqb s 1) [] (fact_bytes (has_kind (rig_joint j) s))

abbrev pub link_bytes : ℕ → ℕ → ℕ → List ℕ
link_bytes j l c = cond (eqb c unknown) [] (fact_bytes (leads (rig_joint j) l (rig_joint c)))

abbrev pub same_bytes : ℕ → ℕ → List ℕ
same_bytes j smallest = fact_bytes (same (rig_joint j) (rig_joint smallest))
