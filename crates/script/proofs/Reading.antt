-- A number read digit by digit: what comes of the digits that follow those read so far.
use Rattle.std.proofs.Common.{◌≡◌, ℕ, ◌^◌, ◌<◌, ◌≤◌, true, false, cond, ◌&&◌, ltb, List, [], ◌∷◌, length, Some, None, MatchOption, Option}
use Rattle.std.proofs.Common.{Iter, Bor, refl, sym, ap, ◌∙◌, subst, ap₂, ⊎_elim, arith}
use denote.Param.Members.{Mut, Called}
use Rattle.std.specs.Iterator.{Yields, YieldsThen}
use Rattle.std.specs.List.{FoldsTo}
use Rattle.std.specs.Option.{SomeIff}
use Rattle.std.proofs.iter.Yields.{fronts}
use Rattle.std.specs.Str.Parse.{digits_value_after}
use Rattle.std.specs.Char.{is_ascii_digit, digit_value}
use Rattle.std.specs.Str.{all_ascii_digits}
use Rattle.std.proofs.lemmas.Bool.{lt-ltb, le-ltb, and_right, cond-true, cond-false, cases_lt}
use Rattle.std.proofs.lemmas.Bool.Decides.{nat_tests}
use Rattle.script.specs.Numbers.{number_of, appended}

-- the number that the digits of n and then ds spell
unfoldable pub read_on : ℕ → List ℕ → Option ℕ
read_on n ds = cond (all_ascii_digits ds && ltb (digits_value_after 10 n ds) (2 ^ 32)) (Some (digits_value_after 10 n ds)) None

digit_by_value : (c : ℕ) → digit_value c < 10 → is_ascii_digit c ≡ true
digit_by_value c h = grind (arith, nat_tests)

other_by_value : (c : ℕ) → 10 ≤ digit_value c → is_ascii_digit c ≡ false
other_by_value c h = grind (arith, nat_tests)

-- more digits spell no less
valueAfter_ge : (n : ℕ) (ds : List ℕ) → n ≤ digits_value_after 10 n ds
valueAfter_ge n [] = omega arith
valueAfter_ge n (c ∷ cs) = omega (arith, valueAfter_ge (appended n c) cs)

pub read_start : (bs : List ℕ) → 0 < length bs → number_of bs ≡ read_on 0 bs
unfolding read_on
read_start bs h = rw (lt-ltb 0 (length bs) h) refl

read_end : (n : ℕ) → n < 2 ^ 32 → read_on n [] ≡ Some n
unfolding read_on
read_end n h = cond-true (ltb n (2 ^ 32)) (Some n) None (lt-ltb n (2 ^ 32) h)

read_digit : (n c : ℕ) (ds : List ℕ) → digit_value c < 10 → read_on n (c ∷ ds) ≡ read_on (appended n c) ds
unfolding read_on
read_digit n c ds h = rw (digit_by_value c h) refl

-- a byte that is no digit
read_other : (n c : ℕ) (ds : List ℕ) → 10 ≤ digit_value c → read_on n (c ∷ ds) ≡ None
unfolding read_on
read_other n c ds h = rw (other_by_value c h) refl

-- a number too large already
read_past : (n : ℕ) (ds : List ℕ) → 2 ^ 32 ≤ n → read_on n ds ≡ None
unfolding read_on
read_past n ds h =
    let v = digits_value_after 10 n ds in
    let past : 2 ^ 32 ≤ v = omega (arith, valueAfter_ge n ds) in
    cond-false _ (Some v) None (and_right (all_ascii_digits ds) _ (le-ltb v (2 ^ 32) past))

-- no byte is left
read_done : (n : ℕ) (ds : List ℕ) → length ds ≡ 0 → n < 2 ^ 32 → read_on n ds ≡ Some n
read_done n [] e h = read_end n h
read_done n (c ∷ cs) e h = absurd (omega arith)

-- a byte that cannot follow
read_refused : (n c : ℕ) (ds : List ℕ) →
    ((digit_value c < 10) × (appended n c < 2 ^ 32) → ⊥) → read_on n (c ∷ ds) ≡ None
read_refused n c ds h =
    let v = appended n c in
    ⊎_elim
    (λ d. read_digit n c ds d ∙ ⊎_elim (λ fits. absurd (h (d, fits))) (read_past v ds) (cases_lt v (2 ^ 32)))
    (read_other n c ds)
    (cases_lt (digit_value c) 10)

-- `try_fold` over the bytes of a slice, by calls of g
module _ {F : Type 0} (g : Mut F (ℕ × (Bor ℕ × Unit {0})) (Option ℕ)) where
  -- a call that goes on
  abbrev Turn : F × ℕ → Bor ℕ → F × ℕ → Type 0
  Turn p x q = (v : Option ℕ) × Called g p.0 (p.1, (x, tt)) v q.0 × (v ≡ Some q.1)

  -- each call appends a digit
  abbrev Appends : Type 0
  Appends = (f h : F) (n : ℕ) (x : Bor ℕ) (v : Option ℕ) → Called g f (n, (x, tt)) v h
      → SomeIff v ((digit_value x.now < 10) × (appended n x.now < 2 ^ 32)) (appended n x.now)

  -- the digits that were read lead from n to m
  along : Appends → (xs : List (Bor ℕ)) (s t : Iter ℕ) (f h : F) (n m : ℕ) → n < 2 ^ 32 → Yields fronts s xs t
      → FoldsTo {P = F × ℕ} Turn (f, n) xs (h, m)
      → (read_on n s.rest.now ≡ read_on m t.rest.now) × (m < 2 ^ 32)
  along appends [] s t f h n m l y r =
      let e : n ≡ m = ap (λ (p : F × ℕ). p.1) r in
      (ap₂ (λ (k : ℕ) (z : Iter ℕ). read_on k z.rest.now) e y, omega arith)
  along appends (x ∷ xs) s t f h n m l y r =
      let j = r.0 in
      let P = (digit_value x.now < 10) × (appended n x.now < 2 ^ 32) in
      let d = subst (λ (v : Option ℕ). SomeIff v P (appended n x.now)) r.1.2 (appends f j.0 n x r.1.0 r.1.1) in
      let rest = along appends xs y.0 t j.0 h j.1 m (omega (arith, d.0.1, d.1)) y.2 r.2 in (
        ap (read_on n) y.1 ∙ read_digit n x.now y.0.rest.now d.0.0 ∙ ap (λ (i : ℕ). read_on i y.0.rest.now) (sym d.1) ∙ rest.0,
        rest.1,
      )

  -- no item comes then, or a call that breaks off
  abbrev Ends : Type 0 → F → ℕ → Option ℕ → Option (Bor ℕ) → Type 0
  Ends E f m r o =
      MatchOption o (r ≡ Some m)
      (λ x. (v : Option ℕ) × (h : F) × (e : E) × Called g f (m, (x, tt)) v h × (v ≡ None) × (r ≡ None))

  ended : (E : Type 0) → Appends → (s t u : Iter ℕ) (f : F) (n m : ℕ) (r : Option ℕ)
      → (read_on n s.rest.now ≡ read_on m t.rest.now) × (m < 2 ^ 32)
      → (o : Option (Bor ℕ)) → fronts t o u → Ends E f m r o → r ≡ read_on n s.rest.now
  ended E appends s t u f n m r read None k b = b ∙ sym (read.0 ∙ read_done m t.rest.now k.0 read.1)
  ended E appends s t u f n m r read (Some x) k b =
      let P = (digit_value x.now < 10) × (appended m x.now < 2 ^ 32) in
      let refused = subst (λ (v : Option ℕ). SomeIff v P (appended m x.now)) b.4 (appends f b.1 m x b.0 b.3) in
      b.5 ∙ sym (read.0 ∙ ap (read_on m) k ∙ read_refused m x.now u.rest.now refused)

  pub read_by_fold : (E : Type 0) (s u : Iter ℕ) (f : F) (n : ℕ) (r : Option ℕ) → n < 2 ^ 32
      → (xs : List (Bor ℕ)) × (o : Option (Bor ℕ)) × (h : F) × (m : ℕ) × YieldsThen fronts s xs o u
      × FoldsTo {P = F × ℕ} Turn (f, n) xs (h, m) × Ends E h m r o
      → Appends → r ≡ read_on n s.rest.now
  read_by_fold E s u f n r l d appends =
      ended E appends s d.4.0 u d.2 n d.3 r (along appends d.0 s d.4.0 f d.2 n d.3 l d.4.1 d.5) d.1 d.4.2 d.6
