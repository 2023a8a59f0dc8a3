-- How the turns of a run make up what it prints.
-- Assumes nothing.
use Rattle.std.proofs.Common.{◌≡◌, refl, sym, ap, ◌∙◌, subst, Bool, true, false, ℕ, ◌+◌, ◌-◌, ◌*◌, ◌≤◌, ◌<◌, List, [], ◌∷◌, ◌++◌, length, drop, arith, append_assoc, length-drop, None, Some, zero, suc, take, get_or}
use Rattle.std.specs.Prelude.{Option, IfSome, min, ◌^◌}
use borrow.Author.Tests.{true-leb}
use Rattle.std.specs.Io.KnownBytes.{Appends}
use Rattle.std.proofs.KnownBytes.{Appends-nil, Appends-trans}
use Rattle.rigcheck.specs.declared.Step.{Step}
use Rattle.rigcheck.specs.declared.Step.TheVariants.{End, Cut, Long, Packet}
use Rattle.blocks.specs.Layout.{block_size}
use Rattle.rigcheck.specs.Lines.{goes_on, Opening}
use Rattle.rigcheck.proofs.Fronts.{both_read}
use Rattle.rigcheck.specs.Input.{step_at, behind, ReadUpTo, TurnOn, Packets, Run}
use Rattle.rigcheck.specs.Input.Run.{refused, opened}
use Rattle.rigcheck.specs.Input.Packets.{last, next}

going : (step : Step) (rest : ℕ) → true ≡ goes_on step rest → (size : ℕ) × (step ≡ Packet size) × (size ≤ rest)
going End rest e = absurd (cc)
going Cut rest e = absurd (cc)
going Long rest e = absurd (cc)
going (Packet size) rest e = (size, refl, true-leb size rest e)

-- behind so many turns, xs was the input and ys is left of it
pub record Behind (b₀ xs : List ℕ) (h₀ : Option (List ℕ)) (turns : ℕ) (b ys : List ℕ) (h : Option (List ℕ)) : Type 0 where
  pub said : List ℕ
  pub wrote : Appends h₀ h said
  pub whole : (text after : List ℕ) → Packets after b ys text → Packets after b₀ xs (said ++ text)
  pub fewer : 2 * turns + length ys ≤ length xs

-- the same of a reader's known bytes
abbrev pub SoFar : List ℕ → Option (List ℕ) → Option (List ℕ) → ℕ → List ℕ → Option (List ℕ) → Option (List ℕ) → Type 0
SoFar b₀ r₀ h₀ turns b r h = IfSome r₀ (λ xs. (ys : List ℕ) × (r ≡ Some ys) × Behind b₀ xs h₀ turns b ys h)

-- the whole of the packets
abbrev pub Whole : List ℕ → Option (List ℕ) → Option (List ℕ) → List ℕ → Option (List ℕ) → Type 0
Whole b₀ r₀ h₀ b h = IfSome r₀ (λ xs. length xs < 2 ^ 64 → (text : List ℕ) × Packets b b₀ xs text × Appends h₀ h text)

pub at_first : (b : List ℕ) (r h : Option (List ℕ)) → SoFar b r h 0 b r h
at_first b None h = tt
at_first b (Some xs) h = (xs, refl, record { said = []; wrote = Appends-nil h; whole = λ text after p. p; fewer = omega arith })

one_more :
    {b₀ xs : List ℕ} {h₀ : Option (List ℕ)} {turns : ℕ} {b ys : List ℕ} {r h h' : Option (List ℕ)} {b' : List ℕ} → Behind b₀ xs h₀ turns b ys h
    → TurnOn b ys true r h h' b' → (ys' : List ℕ) × (r ≡ Some ys') × Behind b₀ xs h₀ (turns + 1) b' ys' h'
one_more {b₀} {xs} {h₀} {turns} {b} {ys} {r} {h} {h'} {b'} s t =
    let w = going (step_at ys) (behind ys) t.goes in
    let size = w.0 in
    let short : size ≤ length ys - 2 = w.2 in
    let both : 2 ≤ min 2 (length ys) = both_read (min 2 (length ys)) ys w.1 in
    let there : 2 ≤ length ys = omega (arith, both) in
    let rest : length (drop (2 + size) ys) ≡ length ys - (2 + size) = length-drop (2 + size) ys in (
      drop (2 + size) ys,
      t.left_is size w.1 w.2,
      record {
        said = s.said ++ t.text;
        wrote = Appends-trans h₀ h h' s.said t.text s.wrote t.wrote;
        whole = λ text after p. rw append_assoc (s.whole (t.text ++ text) after (next size t.text b' text w.1 w.2 t.turn p refl));
        fewer = omega (arith, s.fewer, rest, there);
      },
    )

pub again :
    (b₀ : List ℕ) (r₀ h₀ : Option (List ℕ)) (turns : ℕ) (b : List ℕ) (r h : Option (List ℕ)) (b' : List ℕ) (r' h' : Option (List ℕ)) {more : Bool}
    → more ≡ true → SoFar b₀ r₀ h₀ turns b r h → IfSome r (λ xs. TurnOn b xs more r' h h' b') → SoFar b₀ r₀ h₀ (turns + 1) b' r' h'
again b₀ None h₀ turns b r h b' r' h' m s t = tt
again b₀ (Some xs) h₀ turns b None h b' r' h' m s t = absurd (cc s.1)
again b₀ (Some xs) h₀ turns b (Some zs) h b' r' h' {more} m (ys, e, s) t =
    let q : zs ≡ ys = cc in one_more s (subst (λ l. TurnOn b l true r' h h' b') q (subst (λ v. TurnOn b zs v r' h h' b') m t))

pub at_last :
    (b₀ : List ℕ) (r₀ h₀ : Option (List ℕ)) (turns : ℕ) (b : List ℕ) (r h : Option (List ℕ)) (b' : List ℕ) (r' h' : Option (List ℕ)) {more : Bool}
    → more ≡ false → SoFar b₀ r₀ h₀ turns b r h → IfSome r (λ xs. TurnOn b xs more r' h h' b') → Whole b₀ r₀ h₀ b' h'
at_last b₀ None h₀ turns b r h b' r' h' m s t = tt
at_last b₀ (Some xs) h₀ turns b None h b' r' h' m s t = absurd (cc s.1)
at_last b₀ (Some xs) h₀ turns b (Some zs) h b' r' h' {more} m (ys, e, s) t = λ few.
    let q : ys ≡ zs = cc in
    let p : Packets b' b ys t.text = subst (λ l. Packets b' b l t.text) (sym q) (last t.turn (sym t.goes ∙ m)) in
    (s.said ++ t.text, s.whole t.text b' p, Appends-trans h₀ h h' s.said t.text s.wrote t.wrote)

pub no_such_input :
    (b₀ : List ℕ) (r₀ h₀ : Option (List ℕ)) (turns : ℕ) (b : List ℕ) (r h : Option (List ℕ)) → 2 ^ 64 - 1 ≤ turns → SoFar b₀ r₀ h₀ turns b r h
    → Whole b₀ r₀ h₀ b h
no_such_input b₀ None h₀ turns b r h n s = tt
no_such_input b₀ (Some xs) h₀ turns b r h n (ys, e, s) = λ few. absurd (omega (arith, s.fewer, few, n))

first_byte : (got : ℕ) (bytes xs ys : List ℕ) → length bytes ≡ 1 → got ≤ 1 → (got ≡ 0 → ⊥) → xs ≡ take got bytes ++ ys → xs ≡ get_or bytes 0 0 ∷ ys
first_byte zero bytes xs ys s w n e = absurd (n refl)
first_byte (suc zero) [] xs ys s w n e = absurd (omega arith)
first_byte (suc zero) (a ∷ bytes) xs ys s w n e = e
first_byte (suc (suc got)) bytes xs ys s w n e = absurd (omega arith)

-- what a run prints, where the reader and the writer tell
abbrev pub RunText : Option (List ℕ) → Option (List ℕ) → Option (List ℕ) → Type 0
RunText r₀ h₀ h = IfSome r₀ (λ xs. length xs < 2 ^ 64 → (text : List ℕ) × Run xs text × Appends h₀ h text)

pub run_refused :
    {got : ℕ} {bytes b b' text : List ℕ} {ends : Bool} {r₀ r₁ : Option (List ℕ)} (h₀ h₁ : Option (List ℕ)) → length bytes ≡ 1
    → (got ≡ 0 → ⊥) → ReadUpTo (length bytes) got r₀ r₁ bytes → length b ≡ block_size → Opening (get_or bytes 0 0) b text ends b' → ends ≡ true → Appends h₀ h₁ text
    → RunText r₀ h₀ h₁
run_refused {r₀ = None} h₀ h₁ s n t k o e w = tt
run_refused {r₀ = Some xs} {r₁ = None} h₀ h₁ s n t k o e w = absurd t.taken
run_refused {got} {bytes} {b} {b'} {text} {ends} {r₀ = Some xs} {r₁ = Some ys} h₀ h₁ s n t k o e w = λ few.
    (text, refused (get_or bytes 0 0) ys b b' (first_byte got bytes xs ys s (omega (arith, s, t.within)) n t.taken) k (subst (λ x. Opening (get_or bytes 0 0) b text x b') e o), w)

pub run_opened :
    {got : ℕ} {bytes b b' text : List ℕ} {ends : Bool} {r₀ r₁ : Option (List ℕ)} (b'' : List ℕ) (h₀ h₁ h₂ : Option (List ℕ)) → length bytes ≡ 1
    → (got ≡ 0 → ⊥) → ReadUpTo (length bytes) got r₀ r₁ bytes → length b ≡ block_size → Opening (get_or bytes 0 0) b text ends b' → ends ≡ false → Appends h₀ h₁ text
    → Whole b' r₁ h₁ b'' h₂ → RunText r₀ h₀ h₂
run_opened {r₀ = None} b'' h₀ h₁ h₂ s n t k o e w all = tt
run_opened {r₀ = Some xs} {r₁ = None} b'' h₀ h₁ h₂ s n t k o e w all = absurd t.taken
run_opened {got} {bytes} {b} {b'} {text} {ends} {r₀ = Some xs} {r₁ = Some ys} b'' h₀ h₁ h₂ s n t k o e w all = λ few.
    let front : xs ≡ get_or bytes 0 0 ∷ ys = first_byte got bytes xs ys s (omega (arith, s, t.within)) n t.taken in
    let longer : length xs ≡ suc (length ys) = ap length front in
    let more = all (omega (arith, longer, few)) in (
      text ++ more.0,
      opened (get_or bytes 0 0) ys b text b' more.0 b'' front k (subst (λ x. Opening (get_or bytes 0 0) b text x b') e o) more.1 refl,
      Appends-trans h₀ h₁ h₂ text more.0 w more.2,
    )
