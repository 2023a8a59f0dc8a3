-- 'Session block', the first 1,154 bytes, which are the session's own: where each part of them stands, the form that they hold, and the
-- facts that it tells. What stands behind them is no part of this.
-- Assumes nothing.
use Rattle.std.specs.Prelude.{List, ℕ, get_or, take, drop}
use Rattle.meaning.specs.declared.RigJoint.{RigJoint}
use Rattle.meaning.specs.Picture.{Fact}
use Rattle.meaning.specs.Form.{Form, list_form, taken_facts, classes}

abbrev pub session_size : ℕ
session_size = 1154

-- byte 0: n, the number of kinds
abbrev pub kinds_of : List ℕ → ℕ
kinds_of b = get_or b 0 0

-- byte 1: V, the number of joints
abbrev pub joints_of : List ℕ → ℕ
joints_of b = get_or b 1 0

-- from 2 the class number of each joint, from 66 its kind, from 130 one row of 16 links for each joint
abbrev pub classes_of : List ℕ → List ℕ
classes_of b = take 64 (drop 2 b)

abbrev pub joint_kinds_of : List ℕ → List ℕ
joint_kinds_of b = take 64 (drop 66 b)

abbrev pub rows_of : List ℕ → List ℕ
rows_of b = take 1024 (drop 130 b)

-- the form that a block holds
abbrev pub block_form : List ℕ → Form
block_form b = list_form (classes_of b) (joint_kinds_of b) (rows_of b)

-- the taken facts of a block: those of its solved form, whoever wrote it
abbrev pub taken : List ℕ → List (Fact RigJoint)
taken b = taken_facts (joints_of b) (block_form b)

-- how many classes a block's joints form
abbrev pub class_count : List ℕ → ℕ
class_count b = classes (block_form b) (joints_of b)
