-- A run of bytes that differs from words in no bit has their bytes. A table of 1,089 bytes is
-- two such runs and a last byte.
-- Assumes nothing.
use mathlib.Core.Path.{◌≡◌, refl, sym, ap, ap₂, ◌∙◌}
use mathlib.Core.List.{List, [], ◌∷◌, ◌++◌, append_assoc, append-nil}
use Prim.Native.Nat.{ℕ, ◌+◌, ◌*◌, ◌≤◌, ◌<◌}
use native.Mathlib.Omega.{arith}
use native.Mathlib.Numerals.{add-one}
use lib.Bits.{bit_or, bit_xor}
use lib.ListN.{length, get_or, take, drop}
use lib.Seq.{take_all, take-add, take-suc, drop-cons, drop-drop}
use Rattle.runs.proofs.Loops.{or_none, xor_none}
use Rattle.std.specs.Int.{w64, to_le_bytes}
use Rattle.house.specs.Words.{bytes_of}

-- one word more
bytes_more : (words : List ℕ) (word : ℕ) → bytes_of (words ++ (word ∷ [])) ≡ bytes_of words ++ to_le_bytes w64 word
unfolding bytes_of
bytes_more [] word = append-nil (to_le_bytes w64 word)
bytes_more (w ∷ ws) word =
    ap (λ (l : List ℕ). to_le_bytes w64 w ++ l) (bytes_more ws word) ∙ sym (append_assoc (to_le_bytes w64 w) (bytes_of ws) (to_le_bytes w64 word))

-- a loop at i that has gathered in `any` the bits in which the bytes differ from those of the words before the i-th
pub record Differing (bytes words : List ℕ) (i any : ℕ) : Type 0 where
  pub size : length bytes ≡ 8 * length words
  pub same : any ≡ 0 → take (8 * i) bytes ≡ bytes_of (take i words)

pub none_read : {bytes words : List ℕ} → length bytes ≡ 8 * length words → Differing bytes words 0 0
unfolding bytes_of
none_read e = record { size = e; same = λ _. refl }

module _ {bytes words : List ℕ} {i any : ℕ} (l : Differing bytes words i any) where
  pub more_read :
      (word : ℕ) → i < length words → to_le_bytes w64 word ≡ take 8 (drop (8 * i) bytes) → Differing bytes words (i + 1) (bit_or any (bit_xor word (get_or words i 0)))
  more_read word h w =
      let x = get_or words i 0 in
      record {
        size = l.size;
        same = λ e.
            let z = or_none any (bit_xor word x) e in
            let here : take 8 (drop (8 * i) bytes) ≡ to_le_bytes w64 x =
            sym w ∙ ap (to_le_bytes w64) (xor_none word x z.1) in
            let next : 8 * (i + 1) ≡ 8 * i + 8 = omega arith in
            ap (λ (j : ℕ). take j bytes) next
            ∙ take-add (8 * i) 8 bytes
            ∙ ap₂ ◌++◌ (l.same z.0) here
            ∙ sym (ap bytes_of (ap (λ (j : ℕ). take j words) (add-one i) ∙ take-suc words i 0 h) ∙ bytes_more (take i words) x);
      }

  pub all_read : length words ≤ i → any ≡ 0 → bytes ≡ bytes_of words
  all_read h e = sym (take_all (8 * i) bytes (omega (arith, l.size))) ∙ l.same e ∙ ap bytes_of (take_all i words h)

-- a table of two runs and a last byte, once the numbers that tell of differences have no bit together
pub joined :
    {table one two : List ℕ} {a b x : ℕ} (last : ℕ) → length table ≡ 1089 → (a ≡ 0 → take 544 table ≡ one) →
    (b ≡ 0 → take 544 (drop 544 table) ≡ two) → x ≡ get_or table 1088 0 → bit_or (bit_or a b) (bit_xor x last) ≡ 0 →
    table ≡ one ++ (two ++ (last ∷ []))
joined {table} {a = a} {b = b} {x = x} last size e f g none =
    let z = or_none (bit_or a b) (bit_xor x last) none in
    let y = or_none a b z.0 in
    let end : take 1 (drop 544 (drop 544 table)) ≡ last ∷ [] =
    ap (take 1) (drop-drop 544 544 table ∙ drop-cons table 1088 0 (omega (arith, size)))
    ∙ ap (λ (k : ℕ). k ∷ []) (sym g ∙ xor_none x last z.1) in
    sym (take_all 1089 table (omega (arith, size)))
    ∙ take-add 544 545 table
    ∙ ap₂ ◌++◌ (e y.0) (take-add 544 1 (drop 544 table) ∙ ap₂ ◌++◌ (f y.1) end)
