-- What was read is the front of the input: how the run goes on, the turn and what is left, said of the input.
-- Assumes nothing.
use Rattle.std.proofs.Common.{◌≡◌, refl, sym, ap, ◌∙◌, Bool, true, false, cond, ℕ, zero, suc, ◌+◌, ◌-◌, ◌≤◌, ◌<◌, List, [], ◌∷◌, ◌++◌, length, take, drop, arith, take-add, take_at, drop_at, length-take-le, length-append, length-drop, append_assoc, None, Some}
use Rattle.std.specs.Prelude.{Option, IfSome, min, leb, ltb}
use borrow.Author.Tests.{leb-true, le-leb, lt-leb, ltb-false}
use Rattle.std.specs.Io.KnownBytes.{Appends}
use Rattle.rigcheck.specs.declared.Step.{Step}
use Rattle.rigcheck.specs.declared.Step.TheVariants.{End, Cut, Long, Packet}
use Rattle.rigcheck.specs.Lines.{step_of, goes_on, Turn}
use Rattle.rigcheck.specs.Lines.Turn.{no_packet, cut_in_length, too_long, cut_behind, whole}
use Rattle.rigcheck.specs.Input.{step_at, behind, ReadUpTo, TurnOn}

at_front : (got : ℕ) (p ys : List ℕ) → 2 ≤ length p → got ≤ 2 → (got < 2 → ys ≡ []) → step_of got p ≡ step_at (take got p ++ ys)
unfolding step_of
at_front zero p ys h g f = let e : ys ≡ [] = f (omega arith) in rw e
at_front (suc zero) [] ys h g f = absurd (omega arith)
at_front (suc zero) (a ∷ p) ys h g f = let e : ys ≡ [] = f (omega arith) in rw e
at_front (suc (suc n)) [] ys h g f = absurd (omega arith)
at_front (suc (suc n)) (a ∷ []) ys h g f = absurd (omega arith)
at_front (suc (suc zero)) (a ∷ b ∷ p) ys h g f = let e : min 2 (suc (suc (length ys))) ≡ 2 = omega arith in rw e
at_front (suc (suc (suc n))) (a ∷ b ∷ p) ys h g f = absurd (omega arith)

-- L is read from the input
pub same_step :
    (got : ℕ) (p xs ys : List ℕ) → 2 ≤ length p → got ≤ 2 → xs ≡ take got p ++ ys → (got < 2 → ys ≡ []) → step_of got p ≡ step_at xs
same_step got p xs ys h g e f = rw e (at_front got p ys h g f)

-- a packet of `size` bytes behind L, of which `rest` are read into p, as it lies in the input xs; r is what is left
pub record Lies (size rest : ℕ) (p xs : List ℕ) (r : Option (List ℕ)) : Type 0 where
  pub short : rest < size → behind xs < size
  pub full : size ≤ rest → size ≤ behind xs
  pub same : size ≤ rest → take (2 + size) xs ≡ take (2 + size) p
  pub left : size ≤ behind xs → r ≡ Some (drop (2 + size) xs)

all_read : (size rest n z : ℕ) → rest ≤ size → (rest < size → z ≡ 0) → n ≡ rest + z → size ≤ n → size ≡ rest
all_read size rest n z h f e s = grind arith

pub lies :
    (size rest : ℕ) (p xs ys : List ℕ) (r : Option (List ℕ)) → 2 + size ≤ length p → xs ≡ take 2 p ++ ys → ReadUpTo size rest (Some ys) r (drop 2 p)
    → Lies size rest p xs r
lies size rest p xs ys None h e t = absurd t.taken
lies size rest p xs ys (Some zs) h e t =
    let head : length (take 2 p) ≡ 2 = length-take-le 2 p (omega arith) in
    let tail : length (drop 2 p) ≡ length p - 2 = length-drop 2 p in
    let read : length (take rest (drop 2 p)) ≡ rest = length-take-le rest (drop 2 p) (omega (arith, t.within)) in
    let all : length xs ≡ 2 + length ys = ap length e ∙ length-append (take 2 p) ys ∙ ap (λ n. n + length ys) head in
    let behind_all : length ys ≡ rest + length zs = ap length t.taken ∙ length-append (take rest (drop 2 p)) zs ∙ ap (λ n. n + length zs) read in
    let none_left : rest < size → length zs ≡ 0 = λ s. ap length (t.short s) in
    let split : xs ≡ take (2 + rest) p ++ zs =
    e ∙ ap (λ l. take 2 p ++ l) t.taken ∙ sym (append_assoc (take 2 p) (take rest (drop 2 p)) zs) ∙ ap (λ l. l ++ zs) (sym (take-add 2 rest p)) in
    let front : length (take (2 + rest) p) ≡ 2 + rest = length-take-le (2 + rest) p (omega (arith, t.within)) in
    record {
      short = λ s. omega (arith, none_left s);
      full = λ s. omega arith;
      same = λ s. let q : size ≡ rest = omega (arith, t.within) in rw (q, split) (take_at (take (2 + rest) p) zs (2 + rest) front);
      left = λ s. let q : size ≡ rest = all_read size rest (length ys) (length zs) t.within none_left behind_all (omega (arith, s)) in rw (q, split) (ap Some (sym (drop_at (take (2 + rest) p) zs (2 + rest) front)));
    }

same_test : (size a b : ℕ) → (size ≤ a → size ≤ b) → (a < size → b < size) → leb size a ≡ leb size b
same_test size a b f g = grind (arith, leb-true, le-leb, lt-leb)

pub turn_at :
    {b p xs text : List ℕ} {step : Step} {rest : ℕ} {after : List ℕ} {r : Option (List ℕ)} → ((size : ℕ) → step ≡ Packet size → Lies size rest p xs r)
    → Turn b p step rest text after → Turn b xs step (behind xs) text after
turn_at f (no_packet s e a) = no_packet s e a
turn_at f (cut_in_length s e a) = cut_in_length s e a
turn_at f (too_long s e a) = too_long s e a
turn_at f (cut_behind size s g e a) = cut_behind size s ((f size s).short g) e a
turn_at f (whole size s g w) = whole size s ((f size s).full g) (rw ((f size s).same g) w)

pub goes_at :
    {p xs : List ℕ} {rest : ℕ} {r : Option (List ℕ)} (step : Step) → ((size : ℕ) → step ≡ Packet size → Lies size rest p xs r)
    → goes_on step rest ≡ goes_on step (behind xs)
goes_at End f = refl
goes_at Cut f = refl
goes_at Long f = refl
goes_at {xs = xs} {rest = rest} (Packet size) f = same_test size rest (behind xs) (f size refl).full (f size refl).short

not_cut : (a b c : Bool) (s size : ℕ) → cond a End (cond b Cut (cond c Long (Packet s))) ≡ Packet size → b ≡ false
not_cut true b c s size e = cc
not_cut false true c s size e = cc
not_cut false false c s size e = refl

-- both bytes of L are there where a packet is read on
pub both_read : (got : ℕ) (p : List ℕ) {size : ℕ} → step_of got p ≡ Packet size → 2 ≤ got
unfolding step_of
both_read got p {size} e = ltb-false got 2 (not_cut _ (ltb got 2) _ _ size e)

pub turn_on :
    {b after p₁ p₂ text : List ℕ} {got rest : ℕ} {step : Step} {more : Bool} {r₀ r₁ r₂ : Option (List ℕ)} (h₀ h₁ : Option (List ℕ)) → 2 ≤ length p₁
    → step ≡ step_of got p₁ → ((size : ℕ) → step ≡ Packet size → (got ≡ 2) × (2 + size ≤ length p₂)) → take 2 p₂ ≡ take 2 p₁
    → ReadUpTo 2 got r₀ r₁ p₁ → ((size : ℕ) → step ≡ Packet size → ReadUpTo size rest r₁ r₂ (drop 2 p₂)) → Turn b p₂ step rest text after
    → Appends h₀ h₁ text → more ≡ goes_on step rest → IfSome r₀ (λ xs. TurnOn b xs more r₂ h₀ h₁ after)
turn_on {r₀ = None} h₀ h₁ h s w k t u turn said m = tt
turn_on {r₀ = Some xs} {r₁ = None} h₀ h₁ h s w k t u turn said m = absurd t.taken
turn_on {p₁ = p₁} {p₂ = p₂} {text = text} {got = got} {rest = rest} {step = step} {r₀ = Some xs} {r₁ = Some ys} {r₂ = r₂} h₀ h₁ h s w k t u turn said m =
    let here : step ≡ step_at xs = s ∙ same_step got p₁ xs ys h t.within t.taken t.short in
    let at : (size : ℕ) → step ≡ Packet size → Lies size rest p₂ xs r₂ = λ size e.
    let q = w size e in
    lies size rest p₂ xs ys r₂ q.1 (t.taken ∙ ap (λ n. take n p₁ ++ ys) q.0 ∙ ap (λ ns. ns ++ ys) (sym k)) (u size e) in
    record {
      text = text;
      turn = rw (← here) (turn_at at turn);
      wrote = said;
      goes = m ∙ goes_at step at ∙ ap (λ x. goes_on x (behind xs)) here;
      left_is = λ size e f. (at size (here ∙ e)).left f;
    }
