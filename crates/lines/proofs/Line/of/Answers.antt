-- `lines::Line::of` meets its contract: the parts are put one behind the other, and at most 6 + 3 × 11 + 1 = 40 bytes are.
-- Assumes nothing.
use native.Mathlib.Omega.{arith}
use Rattle.lines.proofs.Puts.{word_fits, number_fits, all_parts, line_fits, held}
use Rattle.lines.proofs.Line.of.Goals as goal

pub with_number-requires-2 : goal.with_number-requires-2
with_number-requires-2 c =
    let s = c in
    let word_said = word_fits s.args.word.now s.requires c.empty.ensures c.with_word-said.ensures in
    omega (arith, word_said, number_fits c.with_word-said.result s.args.number c.with_number.ensures)

pub with_number-told-requires : goal.with_number-told-requires
with_number-told-requires c =
    let s = c in
    let word_said = word_fits s.args.word.now s.requires c.empty.ensures c.with_word-said.ensures in
    omega (arith, word_said, number_fits c.with_word-said.result s.args.number c.with_number.ensures, number_fits c.with_number.result s.args.place c.with_number-2.ensures)

pub with_byte-requires : goal.with_byte-requires
with_byte-requires c =
    let s = c in
    let word_said = word_fits s.args.word.now s.requires c.empty.ensures c.with_word-said.ensures in
    omega (
      arith,
      word_said,
      number_fits c.with_word-said.result s.args.number c.with_number.ensures,
      number_fits c.with_number.result s.args.place c.with_number-2.ensures,
      number_fits c.with_number-2.result s.args.third c.with_number-told.ensures,
    )

pub returns-clause-bytes : goal.returns-clause-bytes
returns-clause-bytes c =
    let s = c in
    all_parts s.args.word.now s.args.number s.args.place s.args.third s.requires
    c.empty.ensures
    c.with_word-said.ensures
    c.with_number.ensures
    c.with_number-2.ensures
    c.with_number-told.ensures
    c.with_byte.ensures

pub returns-clause-text : goal.returns-clause-text
returns-clause-text c = rw (returns-clause-bytes c) (held _ (line_fits c.args.word.now c.args.number c.args.place c.args.third c.requires))
